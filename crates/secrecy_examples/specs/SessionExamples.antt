-- The claims of demand 3 about sessions, about answers that are fetched and about the box are not empty: for each, two different sessions that
-- meet its conditions, run and are not told apart; and two that break the condition and are told apart. All of it is computed.
use Rattle.std.specs.Prelude.{ℕ, zero, suc, ◌+◌, Bool, true, ◌&&◌, List, [], ◌∷◌, ◌++◌, ◌≡◌, refl, ltb, leb, length, set, replicate}
use Rattle.std.proofs.Common.{sym, ap, ◌∙◌, arith, ltb-true, leb-true}
use Rattle.model.specs.Sizes.{card_size, least_log}
use Rattle.model.specs.Lists.{at, Bytes}
use Rattle.model.specs.Numbers.{bytes_of}
use Rattle.model.specs.Instruction.{Command, Instruction}
use Rattle.model.specs.Log.{header_length, zone_fits, entry_fits}
use Rattle.model.specs.LogCheck.{entry_ok, trailer_ok, valid_as, find}
use Rattle.model.specs.Reader.{records_end}
use Rattle.model.specs.Record.{length_fits}
use Rattle.model.specs.At88sc1608.{password_byte}
use Rattle.model.specs.Session.{card_of, start_of, count_of, frame, Read, all, instructions_in, read_from, initial, full_entries, run}
use Rattle.model.specs.Box.{box_refuses, box_run}
use Rattle.tables.specs.Computed.{computed}
use Rattle.laws.specs.BoolLaws.{and_left, and_right}
use Rattle.secrecy.specs.Secret.{in_zone, in_zone_or_passwords, or_staged, AgreeOutside, PresentsNeither, AcceptsNot, OnCommand}
use Rattle.properties.specs.AcceptedSession.{Accepts, Every}
use Rattle.properties.specs.SessionSecret.{SessionsAlike, AnswersAlike, EveryRecord}
use Rattle.properties.specs.BoxConditions.{BoxAlike}
use Rattle.properties.specs.SessionSecrecy as sessions
use Rattle.properties.specs.AnswerSecrecy as answers
use Rattle.properties.proofs.BoxSecrecy as boxed
use Rattle.secrecy_examples.specs.Examples.{presents_neither, accepts_not, presents_neither_lem, accepts_not_lem, on_command}
use Rattle.secrecy_examples.specs.Examples.{agree_set, agree_self, read_card, auth_card}

-- ---- the conditions as tests

abbrev every_command : (Command → Bool) → List Instruction → Bool
every_command test [] = true
every_command test (i ∷ is) = on_command test i && every_command test is

every_command_lem : (test : Command → Bool) (Ok : Command → Type 0) → ((k : Command) → test k ≡ true → Ok k)
    → (is : List Instruction) → every_command test is ≡ true → Every (OnCommand Ok) is
every_command_lem test Ok h [] t = tt
every_command_lem test Ok h (i ∷ is) t =
    let p = on_command test i in ((λ k q. h k (rw q at (and_left p _ t))), every_command_lem test Ok h is (and_right p _ t))

-- the instructions that a session is accepted with are those that are read from it
abbrev read_in : List ℕ → List Instruction
read_in s = instructions_in (read_from (count_of s) s (start_of s))

every_record : (test : Command → Bool) (Ok : Command → Type 0) → ((k : Command) → test k ≡ true → Ok k)
    → (s space : List ℕ) → every_command test (read_in s) ≡ true → EveryRecord Ok s space
every_record test Ok h s space t is a =
    every_command_lem test Ok h is (ap (every_command test) (sym (ap (λ (r : Read). instructions_in r) a.reads)) ∙ t)

abbrev all_bytes : List ℕ → Bool
all_bytes [] = true
all_bytes (x ∷ xs) = ltb x 256 && all_bytes xs

all_bytes_lem : (l : List ℕ) → all_bytes l ≡ true → Bytes l
all_bytes_lem [] t i = omega arith
all_bytes_lem (x ∷ xs) t zero = ltb-true x 256 (and_left (ltb x 256) _ t)
all_bytes_lem (x ∷ xs) t (suc i) = all_bytes_lem xs (and_right (ltb x 256) _ t) i

-- ---- sessions

-- a card, records and their count
abbrev session : List ℕ → List ℕ → ℕ → List ℕ
session card records n = card ++ (records ++ (bytes_of 4 card_size ++ (bytes_of 2 n ++ (0x53 ∷ 0x45 ∷ []))))

abbrev space : List ℕ
space = replicate 2300 0

-- what the box gives back and leaves at a place of the log space
abbrev told : List ℕ → ℕ → List ℕ
told s i = (box_run s space).refusal ∷ (box_run s space).size ∷ at (box_run s space).space i ∷ []

-- ---- the read password

-- select zone 2, read it; a wrong write password of set 3, and a poll
abbrev read_session : List ℕ
read_session = session read_card (3 ∷ 2 ∷ 4 ∷ 0 ∷ 2 ∷ 10 ∷ 3 ∷ 1 ∷ 2 ∷ 3 ∷ 14 ∷ []) 4

-- the session with another byte in the zone, and another write password of set 3
abbrev other_read : List ℕ → List ℕ
other_read s = set (set s 512 0x22) (password_byte 3 0) 0x77

agree_read : (s : List ℕ) → AgreeOutside (in_zone_or_passwords 2 3) s (other_read s)
agree_read s = agree_set _ s _ (password_byte 3 0) 0x77 (agree_set _ s s 512 0x22 (agree_self _ s) refl) refl

read_clean : every_command (presents_neither 3 (card_of read_session) (card_of (other_read read_session))) (read_in read_session) ≡ true
unfolding computed
read_clean = refl

read_every : EveryRecord (PresentsNeither 3 (card_of read_session) (card_of (other_read read_session))) read_session space
read_every =
    every_record (presents_neither 3 (card_of read_session) (card_of (other_read read_session))) _
    (presents_neither_lem 3 (card_of read_session) (card_of (other_read read_session))) read_session space read_clean

pub read_sessions : SessionsAlike (or_staged (in_zone_or_passwords 2 3)) read_session (other_read read_session) space
read_sessions =
    sessions.read_password_lem 2 (omega arith) read_session (other_read read_session) (record { long = refl; blown = refl })
    (record { long = refl; blown = refl }) refl refl (agree_read read_session) space read_every

pub read_answers : AnswersAlike read_session (other_read read_session) space
read_answers =
    answers.read_password_lem 2 (omega arith) read_session (other_read read_session) (record { long = refl; blown = refl })
    (record { long = refl; blown = refl }) refl refl (agree_read read_session) (all_bytes_lem read_session refl) (all_bytes_lem (other_read read_session) refl)
    space read_every

pub read_boxed : BoxAlike (or_staged (in_zone_or_passwords 2 3)) read_session (other_read read_session) space
read_boxed =
    boxed.read_password_lem 2 (omega arith) read_session (other_read read_session) (record { long = refl; blown = refl })
    (record { long = refl; blown = refl }) refl refl (agree_read read_session) space (λ is a. read_every is a.0)

-- both are run; the entries have 16 bytes, and in the final card behind them the byte of the zone differs
pub read_differs : (told read_session (16 + 512) ≡ 0 ∷ 2213 ∷ 0x11 ∷ []) × (told (other_read read_session) (16 + 512) ≡ 0 ∷ 2213 ∷ 0x22 ∷ [])
unfolding computed header_length frame run box_refuses box_run
read_differs = (refl, refl)

-- with the right password in it, and a wait, the zone is read on one card: answer 3 is another one
abbrev read_opened : List ℕ
read_opened = session read_card (3 ∷ 2 ∷ 10 ∷ 3 ∷ 0xFF ∷ 0xFF ∷ 0xFF ∷ 13 ∷ 10 ∷ 4 ∷ 0 ∷ 1 ∷ []) 4

pub read_needed : BoxAlike (or_staged (in_zone_or_passwords 2 3)) read_opened (other_read read_opened) space → ⊥
unfolding computed header_length frame run box_refuses box_run
read_needed a = let e : ◌≡◌ {A = ℕ} 0x11 0 = a.runs.outside.same 13 refl in omega arith

read_accepts : (s : List ℕ) → frame s ≡ 0 → read_from (count_of s) s (start_of s) ≡ all (read_in s) (records_end (length s))
    → leb (full_entries (read_in s) (initial s) + least_log) (length space) ≡ true → Accepts s space (read_in s)
read_accepts s f r t = record { frames = f; reads = r; room = leb-true _ _ t }

pub answer_needed : AnswersAlike read_opened (other_read read_opened) space → ⊥
unfolding computed header_length frame zone_fits entry_fits entry_ok trailer_ok valid_as length_fits find
answer_needed a =
    let e : ◌≡◌ {A = ℕ} 0x11 0 =
    ap (λ (l : List ℕ). at l 0)
    (a (read_in read_opened) (read_in (other_read read_opened)) (read_accepts read_opened refl refl refl)
    (read_accepts (other_read read_opened) refl refl refl) 3).1 in
    omega arith

-- ---- authentication

-- select zone 1, read it; begin authentication, and a poll
abbrev auth_session : List ℕ
auth_session = session auth_card (3 ∷ 1 ∷ 4 ∷ 0 ∷ 2 ∷ 11 ∷ 14 ∷ []) 4

-- the session with another byte in the zone
abbrev other_auth : List ℕ → List ℕ
other_auth s = set s 256 0x22

agree_auth : (s : List ℕ) → AgreeOutside (in_zone 1) s (other_auth s)
agree_auth s = agree_set _ s s 256 0x22 (agree_self _ s) refl

auth_clean : every_command accepts_not (read_in auth_session) ≡ true
unfolding computed
auth_clean = refl

auth_every : EveryRecord AcceptsNot auth_session space
auth_every = every_record accepts_not AcceptsNot accepts_not_lem auth_session space auth_clean

pub auth_sessions : SessionsAlike (or_staged (in_zone 1)) auth_session (other_auth auth_session) space
auth_sessions =
    sessions.authentication_demanded 1 (omega arith) auth_session (other_auth auth_session) (record { long = refl; blown = refl })
    (record { long = refl; blown = refl }) refl refl (agree_auth auth_session) space auth_every

pub auth_answers : AnswersAlike auth_session (other_auth auth_session) space
auth_answers =
    answers.authentication_demanded 1 (omega arith) auth_session (other_auth auth_session) (record { long = refl; blown = refl })
    (record { long = refl; blown = refl }) refl refl (agree_auth auth_session) (all_bytes_lem auth_session refl) (all_bytes_lem (other_auth auth_session) refl)
    space auth_every

pub auth_boxed : BoxAlike (or_staged (in_zone 1)) auth_session (other_auth auth_session) space
auth_boxed =
    boxed.authentication_demanded 1 (omega arith) auth_session (other_auth auth_session) (record { long = refl; blown = refl })
    (record { long = refl; blown = refl }) refl refl (agree_auth auth_session) space (λ is a. auth_every is a.0)

pub auth_differs : (told auth_session (16 + 256) ≡ 0 ∷ 2213 ∷ 0x11 ∷ []) × (told (other_auth auth_session) (16 + 256) ≡ 0 ∷ 2213 ∷ 0x22 ∷ [])
unfolding computed header_length frame run box_refuses box_run
auth_differs = (refl, refl)

-- an acceptance opens the zone on both cards: answer 5 is another one
abbrev auth_opened : List ℕ
auth_opened = session auth_card (3 ∷ 1 ∷ 11 ∷ 13 ∷ 10 ∷ 12 ∷ 1 ∷ (replicate 8 7 ++ (13 ∷ 10 ∷ 4 ∷ 0 ∷ 1 ∷ []))) 6

pub auth_needed : BoxAlike (or_staged (in_zone 1)) auth_opened (other_auth auth_opened) space → ⊥
unfolding computed header_length frame run box_refuses box_run
auth_needed a = let e : ◌≡◌ {A = ℕ} 0x11 0x22 = a.runs.outside.same 19 refl in omega arith
