-- The box for practice ("The foyer box"): it takes shorter sessions with fewer records, and runs them as an exam machine does.
use Rattle.std.specs.Prelude.{ℕ, Bool, cond, not, ◌&&◌, ◌||◌, List, ltb, length}
use Rattle.model.specs.Sizes.{box_session, box_records}
use Rattle.model.specs.Refusal.{box_limits}
use Rattle.model.specs.Session.{count_of, wrong_length, wrong_trailer, wrong_start, wrong_count, Ran, rejected, run}

-- longer than the box takes, or with more records
abbrev pub beyond_box : List ℕ → Bool
beyond_box s = ltb box_session (length s) || ltb box_records (count_of s)

-- judged directly after 4: where 1 to 4, by the exam machine's limits, do not apply
unfoldable pub box_refuses : List ℕ → Bool
box_refuses s = not (wrong_length s || (wrong_trailer s || (wrong_start s || wrong_count s))) && beyond_box s

-- 18, or what an exam machine gives back and leaves
unfoldable pub box_run : List ℕ → List ℕ → Ran
box_run s space = cond (box_refuses s) (rejected box_limits space) (run s space)
