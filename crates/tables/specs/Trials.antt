-- Trials: records sent one by one, as single commands, to a whole card that was just powered up. What the tables of cases, of
-- mistakes, of edges, of attempts and of closed bytes are computed with.
use Rattle.std.specs.Prelude.{ℕ, ◌+◌, ◌-◌, List, [], ◌∷◌, ◌++◌, map, replicate}
use Rattle.model.specs.Sizes.{card_size, fuse_at}
use Rattle.model.specs.Volatile.{Active, none, selector}
use Rattle.model.specs.State.{State, power_on}
use Rattle.model.specs.Call.{Call, Powered, Reply}
use Rattle.model.specs.Single.{replies, final}

-- a card of $FF bytes with the fuse byte f
abbrev pub blank : ℕ → List ℕ
blank f = replicate fuse_at 0xFF ++ (f ∷ replicate (card_size - fuse_at - 1) 0xFF)

-- records, each with a response space of four bytes that hold $99, sent to a card that was just powered up
abbrev pub call : List ℕ → Call
call bytes = record { sent = bytes; space = replicate 4 0x99 }

abbrev pub on : List ℕ → Powered State
on c = record { card = c; state = power_on }

-- 10 ms pass after each record, so that the next one meets a card that is ready
abbrev pub spaced : List (List ℕ) → List Call
spaced [] = []
spaced (r ∷ rs) = call r ∷ call (13 ∷ 10 ∷ []) ∷ spaced rs

-- the replies to the records alone
abbrev pub replied : List (Reply State) → List (Reply State)
replied [] = []
replied (r ∷ []) = r ∷ []
replied (r ∷ waited ∷ rs) = r ∷ replied rs

abbrev pub spaces : List ℕ → List (List ℕ) → List (List ℕ)
spaces c records = map (λ r. r.space) (replied (replies (spaced records) (on c)))

abbrev pub tries : List ℕ → List (List ℕ) → List ℕ
tries c records = map (λ r. r.tries) (replied (replies (spaced records) (on c)))

abbrev pub left : List ℕ → List (List ℕ) → Powered State
left c records = final (spaced records) (on c)

-- the active password as a number: 0 for none
abbrev pub active_number : Active → ℕ
active_number none = 0
active_number (selector k) = 1 + k

-- what a row shows: what the model gives, and what is right
abbrev pub Case : Type 0
Case = List (List ℕ) × List (List ℕ)
