-- The single command over any volatile state S, any command type K and any act: what a call gives back and leaves, and
-- lists of calls ("A single command is also public", "Demand 3 speaks of lists of such calls").
use Rattle.std.specs.Prelude.{ℕ, zero, suc, cond, List, [], ◌∷◌, ◌++◌, ltb, length, drop}
use Rattle.model.specs.Refusal.{bytes_left, no_space}

-- a card with its volatile state
pub record Powered (S : Type 0) : Type 0 where
  pub card : List ℕ
  pub state : S

abbrev pub powered : {S : Type 0} → List ℕ → S → Powered S
powered c s = record { card = c; state = s }

-- all that an act hands out beside the card: the state, the answer, and the tries left of the counter that it used, 0 if it used none
pub record Report (S : Type 0) : Type 0 where
  pub state : S
  pub answer : List ℕ
  pub tries : ℕ

abbrev pub reporting : {S : Type 0} → S → List ℕ → Report S
reporting s answer = record { state = s; answer = answer; tries = 0 }

-- what an act leaves
pub record Acted (S : Type 0) : Type 0 where
  pub card : List ℕ
  pub report : Report S

abbrev pub acted : {S : Type 0} → List ℕ → S → List ℕ → Acted S
acted c s answer = record { card = c; report = reporting s answer }

-- an act with no answer that used a counter, which then has so many tries left
abbrev pub tried : {S : Type 0} → List ℕ → S → ℕ → Acted S
tried c s tries = record { card = c; report = record { state = s; answer = []; tries = tries } }

-- what a decoder finds at the front of some bytes: a refusal's number, or a command and the length of its record
pub data Decoded (K : Type 0) : Type 0 where
  refused : ℕ → Decoded K
  whole : K → ℕ → Decoded K

-- what a call gives back: the refusal's number or 0, the kind answered, the response's length, the state, the tries left, the whole response space
pub record Reply (S : Type 0) : Type 0 where
  pub refusal : ℕ
  pub kind : ℕ
  pub size : ℕ
  pub state : S
  pub tries : ℕ
  pub space : List ℕ

-- what a call leaves
pub record Called (S : Type 0) : Type 0 where
  pub card : List ℕ
  pub reply : Reply S

-- a call: a record and a response space
pub record Call : Type 0 where
  pub sent : List ℕ
  pub space : List ℕ

abbrev pub calling : List ℕ → List ℕ → Call
calling sent space = record { sent = sent; space = space }

-- a refusal: its number, no kind, no response and no tries, the state and the space as they came
abbrev pub refusing : {S : Type 0} → ℕ → S → List ℕ → Reply S
refusing n s space = record { refusal = n; kind = 0; size = 0; state = s; tries = 0; space = space }

-- an accepted call writes its answer at the front of the space and keeps the rest
abbrev pub replying : {S : Type 0} → ℕ → List ℕ → Report S → Reply S
replying kind space r =
    record {
      refusal = 0;
      kind = kind;
      size = length r.answer;
      state = r.state;
      tries = r.tries;
      space = r.answer ++ drop (length r.answer) space;
    }

-- after the checks of the card and the state: 0 if they passed, or the number of the one that failed
abbrev pub checked : {K : Type 0} → ℕ → Decoded K → Decoded K
checked zero d = d
checked (suc n) d = refused (suc n)

-- 9: bytes left after the record
abbrev pub exact : {K : Type 0} → List ℕ → Decoded K → Decoded K
exact bytes (refused n) = refused n
exact bytes (whole k n) = cond (ltb n (length bytes)) (refused bytes_left) (whole k n)

module _ {S K : Type 0} (check : List ℕ → S → ℕ) (decode : List ℕ → Decoded K) (act : List ℕ → S → K → Acted S) where
  -- 10: the space is too short for the answer
  abbrev pub fitting : List ℕ → S → ℕ → Decoded K → Decoded K
  fitting c s room (refused n) = refused n
  fitting c s room (whole k n) = cond (ltb room (length (act c s k).report.answer)) (refused no_space) (whole k n)

  -- of a record and the room for a response: the number of a refusal, or the command that is carried out
  unfoldable pub admission : List ℕ → S → List ℕ → ℕ → Decoded K
  admission c s bytes room = checked (check c s) (fitting c s room (exact bytes (decode bytes)))

  abbrev pub admit : List ℕ → S → Call → Decoded K
  admit c s x = admission c s x.sent (length x.space)

  -- by the card, the state and the command: the kind that is answered
  module _ (kind : List ℕ → S → K → ℕ) where
    abbrev pub carried : List ℕ → S → List ℕ → Decoded K → Called S
    carried c s space (refused n) = record { card = c; reply = refusing n s space }
    carried c s space (whole k n) = record { card = (act c s k).card; reply = replying (kind c s k) space (act c s k).report }

    unfoldable pub command : List ℕ → S → Call → Called S
    command c s x = carried c s x.space (admit c s x)

    -- what a call leaves for the next one, be it refused or not
    abbrev pub step : Powered S → Call → Powered S
    step m x =
        record { card = (command m.card m.state x).card; state = (command m.card m.state x).reply.state }

    -- what a list of calls gives back, and what it leaves
    unfoldable pub replies : List Call → Powered S → List (Reply S)
    replies [] m = []
    replies (x ∷ xs) m = (command m.card m.state x).reply ∷ replies xs (step m x)

    unfoldable pub final : List Call → Powered S → Powered S
    final [] m = m
    final (x ∷ xs) m = final xs (step m x)
