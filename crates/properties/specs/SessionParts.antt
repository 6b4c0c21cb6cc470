-- The words about written sessions: where the session stands that was written, and the parts that a session has.
use Rattle.std.specs.Prelude.{ℕ, ◌-◌, List, take, drop}
use Rattle.model.specs.Sizes.{card_size}
use Rattle.model.specs.Reader.{part_at}
use Rattle.model.specs.Session.{card_of, start_of, count_of, Ran}
use Rattle.model.specs.Writer.{Parts, parts}

-- the front of the lent space, as long as was given back
abbrev pub session_in : Ran → List ℕ
session_in r = take r.size r.space

-- the card, the bytes between it and the records, the records up to the trailer, their count
abbrev pub title_of : List ℕ → List ℕ
title_of s = take (start_of s - card_size) (drop card_size s)

abbrev pub records_of : List ℕ → List ℕ
records_of s = part_at s (start_of s)

abbrev pub parts_of : List ℕ → Parts
parts_of s = parts (card_of s) (title_of s) (records_of s) (count_of s)
