-- The claims of demand 3 are not empty: for each, two different sealed cards and a list of calls that meets its conditions and
-- is not told apart; and a list that breaks the condition and tells the cards apart. All of it is computed.
use Rattle.std.specs.Prelude.{ℕ, ◌+◌, ◌%◌, Bool, true, not, ◌&&◌, ◌||◌, List, [], ◌∷◌, map, ◌≡◌, refl, eqb, get_or, set, replicate}
use Rattle.std.proofs.Common.{true≢false, sym, ap, ◌∙◌, arith, eq-eqb, length-set}
use Rattle.std.proofs.lemmas.Bool.{not-true}
use Rattle.model.specs.Sizes.{flag_at}
use Rattle.model.specs.Lists.{at, same_list}
use Rattle.laws.specs.ListLaws.{same_list_refl, at_set_other}
use Rattle.laws.specs.BoolLaws.{and_left, and_right}
use Rattle.model.specs.Instruction.{Command, reset, select, read_zone, write_zone, read_configuration, write_configuration, read_fuses, write_fuses, verify_password}
use Rattle.model.specs.Instruction.{begin_authentication, verify_authentication, Instruction, power_cycle, issue, wait, poll, write_staged, arm}
use Rattle.model.specs.State.{Tear, untorn, tear_after, State, powered_up, power_on}
use Rattle.model.specs.Call.{Call, Decoded, refused, whole, Powered, powered, Reply}
use Rattle.model.specs.Call as calls
use Rattle.model.specs.At88sc1608.{register_at, password_byte}
use Rattle.model.specs.Record.{decode}
use Rattle.tables.specs.Computed.{computed}
use Rattle.tables.specs.Trials as trials
use Rattle.model.specs.Single.{check, answered_kind, act, admit, replies, final}
use Rattle.secrecy.specs.Along.{Along}
use Rattle.secrecy.specs.Secret.{password, in_zone, in_zone_or_passwords, or_staged, AgreeOutside, PresentsNeither, AcceptsNot, OnCommand}
use Rattle.secrecy.specs.Secret.{StagesElsewhere, Indistinguishable}
use Rattle.secrecy.specs.CardSecrecy.{read_password_lem, read_password_elsewhere, authentication_demanded, authentication_demanded_elsewhere}

-- ---- the conditions as tests

abbrev pub presents_neither : ℕ → List ℕ → List ℕ → Command → Bool
presents_neither p b₁ b₂ reset = true
presents_neither p b₁ b₂ (select z) = true
presents_neither p b₁ b₂ (read_zone a n) = true
presents_neither p b₁ b₂ (write_zone a xs) = true
presents_neither p b₁ b₂ (read_configuration a n) = true
presents_neither p b₁ b₂ (write_configuration a xs) = true
presents_neither p b₁ b₂ read_fuses = true
presents_neither p b₁ b₂ write_fuses = true
presents_neither p b₁ b₂ (verify_password j xs) = not (eqb (j % 8) p) || (not (same_list xs (password b₁ j)) && not (same_list xs (password b₂ j)))
presents_neither p b₁ b₂ begin_authentication = true
presents_neither p b₁ b₂ (verify_authentication v xs) = true

abbrev pub accepts_not : Command → Bool
accepts_not reset = true
accepts_not (select z) = true
accepts_not (read_zone a n) = true
accepts_not (write_zone a xs) = true
accepts_not (read_configuration a n) = true
accepts_not (write_configuration a xs) = true
accepts_not read_fuses = true
accepts_not write_fuses = true
accepts_not (verify_password j xs) = true
accepts_not begin_authentication = true
accepts_not (verify_authentication v xs) = not v

unequal : (xs ys : List ℕ) → not (same_list xs ys) ≡ true → xs ≡ ys → ⊥
unequal xs ys e q = true≢false (sym (same_list_refl xs) ∙ ap (same_list xs) q ∙ not-true (same_list xs ys) e)

pub presents_neither_lem : (p : ℕ) (b₁ b₂ : List ℕ) (k : Command) → presents_neither p b₁ b₂ k ≡ true → PresentsNeither p b₁ b₂ k
presents_neither_lem p b₁ b₂ k t j xs e q =
    let w : (not (same_list xs (password b₁ j)) && not (same_list xs (password b₂ j))) ≡ true =
    rw (eq-eqb (j % 8) p q) at (rw e at t) in
    (unequal xs (password b₁ j) (and_left _ _ w), unequal xs (password b₂ j) (and_right (not (same_list xs (password b₁ j))) _ w))

pub accepts_not_lem : (k : Command) → accepts_not k ≡ true → AcceptsNot k
accepts_not_lem k t xs e = true≢false (sym (rw e at t))

-- a test passes at every call of a list that is not refused
abbrev pub on_command : (Command → Bool) → Instruction → Bool
on_command test power_cycle = true
on_command test (issue k) = test k
on_command test (wait n) = true
on_command test poll = true
on_command test (write_staged a xs) = true
on_command test (arm k junk) = true

abbrev passes : (Command → Bool) → Decoded Instruction → Bool
passes test (refused n) = true
passes test (whole i n) = on_command test i

abbrev throughout : (Command → Bool) → List Call → Powered State → Bool
throughout test [] m = true
throughout test (x ∷ xs) m = passes test (admit m.card m.state x) && throughout test xs (calls.step check decode act answered_kind m x)

along : (test : Command → Bool) (Ok : Command → Type 0) → ((k : Command) → test k ≡ true → Ok k)
    → (xs : List Call) (m : Powered State) → throughout test xs m ≡ true → Along check decode act answered_kind (λ c s i. OnCommand Ok i) xs m
unfolding Along
along test Ok h [] m t = tt
along test Ok h (x ∷ xs) m t =
    let p = passes test (admit m.card m.state x) in (
      (λ i n e k q. h k (rw q at (rw e at (and_left p _ t)))),
      along test Ok h xs (calls.step check decode act answered_kind m x) (and_right p _ t),
    )

-- ---- cards and calls

-- a sealed card of $FF bytes
abbrev pub blank : List ℕ
blank = trials.blank 0

abbrev call : List ℕ → ℕ → Call
call bytes room = record { sent = bytes; space = replicate room 0x99 }

-- a card and the same card with another byte at a hidden place
pub agree_set : (hidden : ℕ → Bool) (b c : List ℕ) (i v : ℕ) → AgreeOutside hidden b c → hidden i ≡ true → AgreeOutside hidden b (set c i v)
agree_set hidden b c i v h t =
    record {
      long = h.long ∙ sym (length-set c i v);
      same = λ j o. h.same j o ∙ sym (at_set_other c i v j (λ q. true≢false (sym t ∙ ap hidden (sym q) ∙ o)));
    }

pub agree_self : (hidden : ℕ → Bool) (b : List ℕ) → AgreeOutside hidden b b
agree_self hidden b = record { long = refl; same = λ j o. refl }

-- what is computed of a run: the refusals, the tries, the kinds, the first byte of a response space, a byte of the final card
abbrev pub refusals : List Call → List ℕ → List ℕ
refusals xs b = map (λ r. r.refusal) (replies xs (powered b power_on))

abbrev handed : List Call → List ℕ → List ℕ
handed xs b = map (λ r. r.tries) (replies xs (powered b power_on))

abbrev answered_kinds : List Call → List ℕ → List ℕ
answered_kinds xs b = map (λ r. r.kind) (replies xs (powered b power_on))

abbrev answered : ℕ → List (Reply State) → ℕ
answered n rs = at (get_or (map (λ r. r.space) rs) n []) 0

abbrev pub final_byte : ℕ → List Call → List ℕ → ℕ
final_byte i xs b = at (final xs (powered b power_on)).card i

-- ---- the read password

-- zone 2 demands the read password of set 3 (RPE and PGO enabled, $AE); the other card has another byte in the zone, and
-- another write password of set 3
abbrev pub read_card : List ℕ
read_card = set (set blank (register_at 2) 0xAE) 512 0x11

abbrev pub read_card' : List ℕ
read_card' = set (set read_card 512 0x22) (password_byte 3 0) 0x77

-- Select zone 2, read it, write into it; read it and poll while the card is busy; wait, read it again; select 8 (refused with 7); the
-- right write password with a byte too much (refused with 9, so not presented); a wrong one; wait; the read password of another set;
-- a power cycle, so that the card is ready; read the passwords of set 3; a read with no space for it (refused with 10).
abbrev read_calls : List Call
read_calls =
    call (3 ∷ 2 ∷ []) 0
    ∷ call (4 ∷ 0 ∷ 2 ∷ []) 4
    ∷ call (5 ∷ 0 ∷ 1 ∷ 0x33 ∷ []) 0
    ∷ call (4 ∷ 0 ∷ 2 ∷ []) 0
    ∷ call (14 ∷ []) 1
    ∷ call (13 ∷ 10 ∷ []) 0
    ∷ call (4 ∷ 0 ∷ 2 ∷ []) 2
    ∷ call (3 ∷ 8 ∷ []) 1
    ∷ call (10 ∷ 3 ∷ 0xFF ∷ 0xFF ∷ 0xFF ∷ 0 ∷ []) 1
    ∷ call (10 ∷ 3 ∷ 1 ∷ 2 ∷ 3 ∷ []) 1
    ∷ call (13 ∷ 10 ∷ []) 0
    ∷ call (10 ∷ 12 ∷ 0xFF ∷ 0xFF ∷ 0xFF ∷ []) 1
    ∷ call (1 ∷ []) 0
    ∷ call (4 ∷ 0 ∷ 1 ∷ []) 1
    ∷ call (6 ∷ 0x58 ∷ 8 ∷ []) 8
    ∷ call (4 ∷ 0 ∷ 2 ∷ []) 1
    ∷ []

read_clean : throughout (presents_neither 3 read_card read_card') read_calls (powered read_card power_on) ≡ true
unfolding computed
read_clean = refl

-- the cards are not told apart, three of the calls are refused, and the secret byte differs to the end
pub read_example : Indistinguishable (or_staged (in_zone_or_passwords 2 3)) untorn read_calls read_card read_card'
read_example =
    read_password_lem 2 (omega arith) read_card read_card' (record { long = refl; blown = refl }) (record { long = refl; blown = refl }) refl refl
    (agree_set _ read_card _ (password_byte 3 0) 0x77 (agree_set _ read_card read_card 512 0x22 (agree_self _ read_card) refl) refl)
    untorn read_calls
    (along (presents_neither 3 read_card read_card') (PresentsNeither 3 read_card read_card') (presents_neither_lem 3 read_card read_card')
    read_calls (powered read_card power_on) read_clean)

pub read_refusals : refusals read_calls read_card ≡ 0 ∷ 0 ∷ 0 ∷ 0 ∷ 0 ∷ 0 ∷ 0 ∷ 7 ∷ 9 ∷ 0 ∷ 0 ∷ 0 ∷ 0 ∷ 0 ∷ 0 ∷ 10 ∷ []
unfolding computed
read_refusals = refl

pub read_tries : handed read_calls read_card ≡ 0 ∷ 0 ∷ 0 ∷ 0 ∷ 0 ∷ 0 ∷ 0 ∷ 0 ∷ 0 ∷ 7 ∷ 0 ∷ 8 ∷ 0 ∷ 0 ∷ 0 ∷ 0 ∷ []
unfolding computed
read_tries = refl

-- one of them is ignored, on both cards, at the same moment
pub read_kinds : answered_kinds read_calls read_card ≡ 3 ∷ 4 ∷ 5 ∷ 132 ∷ 14 ∷ 13 ∷ 4 ∷ 0 ∷ 0 ∷ 10 ∷ 13 ∷ 10 ∷ 1 ∷ 4 ∷ 6 ∷ 0 ∷ []
unfolding computed
read_kinds = refl

pub read_differs : (final_byte 512 read_calls read_card ≡ 0x11) × (final_byte 512 read_calls read_card' ≡ 0x22)
unfolding computed
read_differs = (refl, refl)

-- presenting the password tells them apart
abbrev read_opened : List Call
read_opened = call (3 ∷ 2 ∷ []) 0 ∷ call (10 ∷ 3 ∷ 0xFF ∷ 0xFF ∷ 0xFF ∷ []) 0 ∷ call (13 ∷ 10 ∷ []) 0 ∷ call (4 ∷ 0 ∷ 1 ∷ []) 1 ∷ []

pub read_needed : Indistinguishable (or_staged (in_zone_or_passwords 2 3)) untorn read_opened read_card read_card' → ⊥
unfolding computed
read_needed i = let e : ◌≡◌ {A = ℕ} 0x11 0 = ap (answered 3) i.observed in omega arith

-- and so do the tries alone: eight are left on the one card, seven on the other
abbrev read_tried : List Call
read_tried = call (10 ∷ 3 ∷ 0xFF ∷ 0xFF ∷ 0xFF ∷ []) 0 ∷ []

pub tries_needed : Indistinguishable (or_staged (in_zone_or_passwords 2 3)) untorn read_tried read_card read_card' → ⊥
unfolding computed
tries_needed i = let e : ◌≡◌ {A = ℕ} 8 7 = ap (λ (rs : List (Reply State)). at (map (λ r. r.tries) rs) 0) i.observed in omega arith

-- ---- authentication

-- zone 1 demands authentication ($DF); the other card has another byte in the zone
abbrev pub auth_card : List ℕ
auth_card = set (set blank (register_at 1) 0xDF) 256 0x11

abbrev pub auth_card' : List ℕ
auth_card' = set auth_card 256 0x22

-- Select zone 1, read it, write into it; wait, begin authentication and be denied while the card is busy, and again when it is ready;
-- wait, begin again; an acceptance that is cut short (refused with 8) and a verdict out of range (refused with 7); wait, read again.
abbrev auth_calls : List Call
auth_calls =
    call (3 ∷ 1 ∷ []) 0
    ∷ call (4 ∷ 0 ∷ 2 ∷ []) 4
    ∷ call (5 ∷ 0 ∷ 1 ∷ 0x33 ∷ []) 0
    ∷ call (13 ∷ 10 ∷ []) 0
    ∷ call (11 ∷ []) 0
    ∷ call (12 ∷ 0 ∷ replicate 8 7) 0
    ∷ call (13 ∷ 10 ∷ []) 0
    ∷ call (12 ∷ 0 ∷ replicate 8 7) 0
    ∷ call (13 ∷ 10 ∷ []) 0
    ∷ call (11 ∷ []) 0
    ∷ call (12 ∷ 1 ∷ replicate 7 7) 0
    ∷ call (12 ∷ 2 ∷ replicate 8 7) 0
    ∷ call (13 ∷ 10 ∷ []) 0
    ∷ call (4 ∷ 0 ∷ 2 ∷ []) 2
    ∷ []

auth_clean : throughout accepts_not auth_calls (powered auth_card power_on) ≡ true
unfolding computed
auth_clean = refl

pub auth_example : Indistinguishable (or_staged (in_zone 1)) untorn auth_calls auth_card auth_card'
auth_example =
    authentication_demanded 1 (omega arith) auth_card auth_card' (record { long = refl; blown = refl }) (record { long = refl; blown = refl }) refl refl
    (agree_set _ auth_card auth_card 256 0x22 (agree_self _ auth_card) refl)
    untorn auth_calls (along accepts_not AcceptsNot accepts_not_lem auth_calls (powered auth_card power_on) auth_clean)

pub auth_refusals : refusals auth_calls auth_card ≡ 0 ∷ 0 ∷ 0 ∷ 0 ∷ 0 ∷ 0 ∷ 0 ∷ 0 ∷ 0 ∷ 0 ∷ 8 ∷ 7 ∷ 0 ∷ 0 ∷ []
unfolding computed
auth_refusals = refl

pub auth_tries : handed auth_calls auth_card ≡ 0 ∷ 0 ∷ 0 ∷ 0 ∷ 7 ∷ 0 ∷ 0 ∷ 0 ∷ 0 ∷ 6 ∷ 0 ∷ 0 ∷ 0 ∷ 0 ∷ []
unfolding computed
auth_tries = refl

pub auth_kinds : answered_kinds auth_calls auth_card ≡ 3 ∷ 4 ∷ 5 ∷ 13 ∷ 11 ∷ 140 ∷ 13 ∷ 12 ∷ 13 ∷ 11 ∷ 0 ∷ 0 ∷ 13 ∷ 4 ∷ []
unfolding computed
auth_kinds = refl

pub auth_differs : (final_byte 256 auth_calls auth_card ≡ 0x11) × (final_byte 256 auth_calls auth_card' ≡ 0x22)
unfolding computed
auth_differs = (refl, refl)

-- an acceptance tells them apart
abbrev auth_opened : List Call
auth_opened =
    call (3 ∷ 1 ∷ []) 0 ∷ call (11 ∷ []) 0 ∷ call (13 ∷ 10 ∷ []) 0 ∷ call (12 ∷ 1 ∷ replicate 8 7) 0 ∷ call (13 ∷ 10 ∷ []) 0
    ∷ call (4 ∷ 0 ∷ 1 ∷ []) 1 ∷ []

pub auth_needed : Indistinguishable (or_staged (in_zone 1)) untorn auth_opened auth_card auth_card' → ⊥
unfolding computed
auth_needed i = let e : ◌≡◌ {A = ℕ} 0x11 0x22 = ap (answered 5) i.observed in omega arith

-- ---- staged writes

-- Select zone 2, arm a tear at the zone's byte, stage a byte for it: the power is lost there, a read is ignored, a power cycle finishes the
-- write, and a read of the zone is answered as ever.
abbrev staged_calls : List Call
staged_calls =
    call (3 ∷ 2 ∷ []) 0 ∷ call (16 ∷ 5 ∷ 0x55 ∷ []) 0 ∷ call (15 ∷ 0 ∷ 1 ∷ 0x33 ∷ []) 0 ∷ call (4 ∷ 0 ∷ 1 ∷ []) 0 ∷ call (1 ∷ []) 0
    ∷ call (3 ∷ 2 ∷ []) 0 ∷ call (4 ∷ 0 ∷ 1 ∷ []) 1 ∷ []

staged_clean : throughout (presents_neither 3 read_card read_card') staged_calls (powered read_card power_on) ≡ true
unfolding computed
staged_clean = refl

pub staged_example : Indistinguishable (or_staged (in_zone_or_passwords 2 3)) untorn staged_calls read_card read_card'
staged_example =
    read_password_lem 2 (omega arith) read_card read_card' (record { long = refl; blown = refl }) (record { long = refl; blown = refl }) refl refl
    (agree_set _ read_card _ (password_byte 3 0) 0x77 (agree_set _ read_card read_card 512 0x22 (agree_self _ read_card) refl) refl)
    untorn staged_calls
    (along (presents_neither 3 read_card read_card') (PresentsNeither 3 read_card read_card') (presents_neither_lem 3 read_card read_card')
    staged_calls (powered read_card power_on) staged_clean)

pub staged_kinds : answered_kinds staged_calls read_card ≡ 3 ∷ 16 ∷ 15 ∷ 132 ∷ 1 ∷ 3 ∷ 4 ∷ []
unfolding computed
staged_kinds = refl

-- the staged value differs, since the zone is program only: old AND new
pub staged_differs : (final_byte (flag_at + 4) staged_calls read_card ≡ 0x11) × (final_byte (flag_at + 4) staged_calls read_card' ≡ 0x22)
unfolding computed
staged_differs = (refl, refl)

-- a staged write to another zone: the test that every staged write goes elsewhere, and that what is staged does not differ
abbrev elsewhere : ℕ → State → Instruction → Bool
elsewhere z s power_cycle = true
elsewhere z s (issue k) = true
elsewhere z s (wait n) = true
elsewhere z s poll = true
elsewhere z s (write_staged a xs) = not (eqb s.volatile.zone z)
elsewhere z s (arm k junk) = true

abbrev both_pass : ℕ → (Command → Bool) → State → Decoded Instruction → Bool
both_pass z test s (refused n) = true
both_pass z test s (whole i n) = on_command test i && elsewhere z s i

abbrev throughout_elsewhere : ℕ → (Command → Bool) → List Call → Powered State → Bool
throughout_elsewhere z test [] m = true
throughout_elsewhere z test (x ∷ xs) m =
    both_pass z test m.state (admit m.card m.state x) && throughout_elsewhere z test xs (calls.step check decode act answered_kind m x)

goes_elsewhere : (z : ℕ) (c : List ℕ) (s : State) (i : Instruction) → elsewhere z s i ≡ true → StagesElsewhere z c s i
goes_elsewhere z c s i t a xs e h m q =
    true≢false (sym (rw e at t) ∙ ap not (eq-eqb s.volatile.zone z q))

along_elsewhere : (z : ℕ) (test : Command → Bool) (Ok : Command → Type 0) → ((k : Command) → test k ≡ true → Ok k)
    → (xs : List Call) (m : Powered State) → throughout_elsewhere z test xs m ≡ true
    → Along check decode act answered_kind (λ c s i. OnCommand Ok i × StagesElsewhere z c s i) xs m
unfolding Along
along_elsewhere z test Ok h [] m t = tt
along_elsewhere z test Ok h (x ∷ xs) m t =
    let p = both_pass z test m.state (admit m.card m.state x) in (
      (λ i n e. let w : (on_command test i && elsewhere z m.state i) ≡ true = rw e at (and_left p _ t) in (
        (λ k q. h k (rw q at (and_left (on_command test i) _ w))),
        goes_elsewhere z m.card m.state i (and_right (on_command test i) _ w),
      )),
      along_elsewhere z test Ok h xs (calls.step check decode act answered_kind m x) (and_right p _ t),
    )

abbrev elsewhere_calls : List Call
elsewhere_calls =
    call (3 ∷ 4 ∷ []) 0 ∷ call (15 ∷ 0 ∷ 1 ∷ 0x33 ∷ []) 0 ∷ call (1 ∷ []) 0 ∷ call (3 ∷ 2 ∷ []) 0 ∷ call (4 ∷ 0 ∷ 1 ∷ []) 1 ∷ []

elsewhere_clean : throughout_elsewhere 2 (presents_neither 3 read_card read_card') elsewhere_calls (powered read_card power_on) ≡ true
unfolding computed
elsewhere_clean = refl

pub elsewhere_example : Indistinguishable (in_zone_or_passwords 2 3) untorn elsewhere_calls read_card read_card'
elsewhere_example =
    read_password_elsewhere 2 (omega arith) read_card read_card' (record { long = refl; blown = refl }) (record { long = refl; blown = refl }) refl refl
    (agree_set _ read_card _ (password_byte 3 0) 0x77 (agree_set _ read_card read_card 512 0x22 (agree_self _ read_card) refl) refl)
    untorn elsewhere_calls
    (along_elsewhere 2 (presents_neither 3 read_card read_card') (PresentsNeither 3 read_card read_card') (presents_neither_lem 3 read_card read_card')
    elsewhere_calls (powered read_card power_on) elsewhere_clean)

-- the write to the zone itself does not meet that claim
pub elsewhere_needed : Indistinguishable (in_zone_or_passwords 2 3) untorn staged_calls read_card read_card' → ⊥
unfolding computed
elsewhere_needed i = let e : ◌≡◌ {A = ℕ} 0x11 0x22 = i.outside (flag_at + 4) refl in omega arith

-- authentication, with a tear armed at the start: a staged write to zone 4 loses the power, a read is ignored, a power cycle finishes the write,
-- and zone 1 is read
abbrev armed : Tear
armed = tear_after 5 0x55

abbrev armed_calls : List Call
armed_calls =
    call (3 ∷ 4 ∷ []) 0 ∷ call (15 ∷ 0 ∷ 1 ∷ 0x33 ∷ []) 0 ∷ call (4 ∷ 0 ∷ 1 ∷ []) 0 ∷ call (1 ∷ []) 0 ∷ call (3 ∷ 1 ∷ []) 0 ∷ call (4 ∷ 0 ∷ 1 ∷ []) 1 ∷ []

armed_clean : throughout_elsewhere 1 accepts_not armed_calls (powered auth_card (powered_up armed)) ≡ true
unfolding computed
armed_clean = refl

pub armed_example : Indistinguishable (in_zone 1) armed armed_calls auth_card auth_card'
armed_example =
    authentication_demanded_elsewhere 1 (omega arith) auth_card auth_card' (record { long = refl; blown = refl }) (record { long = refl; blown = refl }) refl
    refl
    (agree_set _ auth_card auth_card 256 0x22 (agree_self _ auth_card) refl)
    armed armed_calls
    (along_elsewhere 1 accepts_not AcceptsNot accepts_not_lem armed_calls (powered auth_card (powered_up armed)) armed_clean)

pub armed_kinds : map (λ r. r.kind) (replies armed_calls (powered auth_card (powered_up armed))) ≡ 3 ∷ 15 ∷ 132 ∷ 1 ∷ 3 ∷ 4 ∷ []
unfolding computed
armed_kinds = refl

pub armed_needed : Indistinguishable (in_zone 1) armed auth_opened auth_card auth_card' → ⊥
unfolding computed
armed_needed i = let e : ◌≡◌ {A = ℕ} 0x11 0x22 = ap (answered 5) i.observed in omega arith
