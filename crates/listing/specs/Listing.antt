-- The listing of a session, and of a log as it stands in memory.
use Rattle.std.specs.Prelude.{ℕ, zero, suc, ◌≤◌, min, List, [], ◌++◌, ◌≡◌, length, take, drop, replicate}
use Rattle.std.proofs.lemmas.List.Edits.{sets}
use Rattle.model.specs.Sizes.{card_size, fuse_at}
use Rattle.model.specs.Lists.{at}
use Rattle.model.specs.Instruction.{Instruction}
use Rattle.model.specs.Device.{tries_of}
use Rattle.model.specs.At88sc1608.{at88sc1608}
use Rattle.model.specs.Log.{zoned}
use Rattle.model.specs.LogCheck.{count_of, offset_of, length_at, response_at, next_entry}
use Rattle.model.specs.Session.{instructions_in, read_from, entries_of, end_of, initial, run}
use Rattle.model.specs.Session as session
use Rattle.text.specs.Text.{line, lines, tries_line, fuses_line, refused_line}

-- the instructions of a session
abbrev pub instructions_of : List ℕ → List Instruction
instructions_of s = instructions_in (read_from (session.count_of s) s (session.start_of s))

-- what is told of the final card: the tries left of its counters, and F
unfoldable pub card_lines : List ℕ → List ℕ
card_lines c = tries_line (tries_of at88sc1608 c) ++ fuses_line (at c fuse_at)

-- a line per record, and those of the final card; or the refusal alone
abbrev pub listed : List ℕ → ℕ → List ℕ
listed s zero = lines 0 (entries_of (instructions_of s) (initial s)) ++ card_lines (end_of (instructions_of s) (initial s)).card
listed s (suc n) = refused_line (suc n)

-- of a session that is run in a log space
unfoldable pub listing : List ℕ → List ℕ → List ℕ
listing s log = listed s (run s log).refusal

-- what the call gives back and leaves: how much of the text stands in the text space, the log space, the text space.
-- Of a text that is longer than its space there is what fits.
pub record Listed : Type 0 where
  pub size : ℕ
  pub log : List ℕ
  pub text : List ℕ

abbrev pub list_in : List ℕ → List ℕ → List ℕ → Listed
list_in s log text = record { size = min (length (listing s log)) (length text); log = (run s log).space; text = sets text 0 (listing s log) }

-- the log space of the printing program
abbrev pub printing_space : ℕ
printing_space = 65536

-- what it prints of a session: its listing, with that log space
abbrev pub printed : List ℕ → List ℕ
printed s = listing s (replicate printing_space 0)

-- a call that prints a text gives back its length; it stands whole at the front of the text space, whose other bytes are kept
pub record PrintedText (t text : List ℕ) (size : ℕ) (text' : List ℕ) : Type 0 where
  pub whole : size ≡ length t
  pub within : size ≤ length text'
  pub bytes : text' ≡ sets text 0 t

abbrev pub Printed : List ℕ → List ℕ → ℕ → List ℕ → Type 0
Printed s = PrintedText (printed s)

-- ---- by places in a log that was written

abbrev pub lines_at : ℕ → ℕ → List ℕ → ℕ → List ℕ
lines_at zero k l i = []
lines_at (suc n) k l i = line k (at l i) (take (length_at l i) (drop (response_at zoned l i) l)) ++ lines_at n (suc k) l (next_entry zoned l i)

abbrev pub log_lines : List ℕ → List ℕ
log_lines l = lines_at (count_of l) 0 l 0 ++ card_lines (take card_size (drop (offset_of l) l))
