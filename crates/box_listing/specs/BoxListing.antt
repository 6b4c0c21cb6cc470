-- The listing of a session that the box runs.
use Rattle.std.specs.Prelude.{ℕ, Bool, true, false, List, replicate}
use Rattle.model.specs.Box.{box_run}
use Rattle.listing.specs.Listing.{listed, printing_space, printed, PrintedText}

-- as on an exam machine: a line per record, and those of the final card; or the refusal alone
unfoldable pub box_listing : List ℕ → List ℕ → List ℕ
box_listing s log = listed s (box_run s log).refusal

-- what the program prints, with its log space
abbrev pub box_printed : List ℕ → List ℕ
box_printed s = box_listing s (replicate printing_space 0)

abbrev pub BoxPrinted : List ℕ → List ℕ → ℕ → List ℕ → Type 0
BoxPrinted s = PrintedText (box_printed s)

-- with --box or without
abbrev pub printed_for : Bool → List ℕ → List ℕ
printed_for true s = box_printed s
printed_for false s = printed s
