-- What the lines of a log ask of it.
use Rattle.std.specs.Prelude.{ℕ, ◌+◌, ◌≤◌, ◌<◌, ◌^◌, true, List, ◌≡◌, length}
use Rattle.model.specs.Log.{zoned}
use Rattle.model.specs.LogCheck.{entries_ok, valid_as}
use Rattle.listing.specs.Listing.{lines_at, log_lines}

-- entries that end at a place before the log's end
pub record EntriesReady (l : List ℕ) (count end : ℕ) : Type 0 where
  pub well : entries_ok zoned count l 0 end ≡ true
  pub within : end ≤ length l
  pub small : length (lines_at count 0 l 0) < 2 ^ 64

-- a log whose listing stays below the greatest place, with some to spare
pub record LogReady (l : List ℕ) : Type 0 where
  pub well : valid_as zoned l ≡ true
  pub small : length (log_lines l) + 100 < 2 ^ 64
