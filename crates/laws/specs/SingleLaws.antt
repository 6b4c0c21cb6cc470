-- The numbers that a single command is refused with: none is above 16.
use Rattle.std.specs.Prelude.{ℕ, zero, suc, ◌≤◌, Bool, true, false, cond, not, List, ltb, eqb, length}
use Rattle.std.proofs.Common.{arith}
use Rattle.model.specs.Sizes.{card_size, fuse_at}
use Rattle.model.specs.Lists.{at}
use Rattle.laws.specs.BoolLaws.{choice}
use Rattle.model.specs.Instruction.{Instruction}
use Rattle.model.specs.State.{State}
use Rattle.model.specs.At88sc1608.{at88sc1608}
use Rattle.model.specs.Call.{Decoded, refused, whole, Call, checked, exact}
use Rattle.model.specs.Call as calls
use Rattle.model.specs.Record.{known, in_range, data_at, record_length, decode}
use Rattle.model.specs.Single.{is_fuse_byte, state_in_range, check_of, check, staging_fits, answered_kind, act, admit, command}

-- a refusal up to 16, or no refusal
abbrev Small : Decoded Instruction → Type 0
Small (refused n) = n ≤ 16
Small (whole k n) = Unit {0}

either : (t : Bool) (d e : Decoded Instruction) → Small d → Small e → Small (cond t d e)
either true d e p q = p
either false d e p q = q

decode_small : (part : List ℕ) → Small (decode part)
unfolding decode
decode_small part =
    either (eqb (length part) 0) _ _ (omega arith)
    (either (not (known (at part 0))) _ _ (omega arith)
    (either (ltb (length part) (data_at part)) _ _ (omega arith)
    (either (not (in_range (at part 0) (at part 1) (at part 2))) _ _ (omega arith) (either (ltb (length part) (record_length part)) _ _ (omega arith) tt))))

exact_small : (bytes : List ℕ) (d : Decoded Instruction) → Small d → Small (exact bytes d)
exact_small bytes (refused n) p = p
exact_small bytes (whole k n) p = either (ltb n (length bytes)) (refused 9) (whole k n) (omega arith) tt

fitting_small : (c : List ℕ) (s : State) (room : ℕ) (d : Decoded Instruction) → Small d → Small (calls.fitting check decode act c s room d)
fitting_small c s room (refused n) p = p
fitting_small c s room (whole k n) p = either (ltb room (length (act c s k).report.answer)) (refused 10) (whole k n) (omega arith) tt

checked_small : (r : ℕ) (d : Decoded Instruction) → r ≤ 16 → Small d → Small (checked r d)
checked_small zero d l p = p
checked_small (suc r) d l p = l

check_small : (c : List ℕ) (s : State) → check c s ≤ 16
unfolding check_of
check_small c s =
    choice P (not (eqb (length c) card_size)) 11 _ (omega arith)
    (choice P (not (is_fuse_byte (at c fuse_at))) 5 _ (omega arith)
    (choice P (not (staging_fits c)) 16 _ (omega arith) (choice P (not (state_in_range at88sc1608 s)) 12 0 (omega arith) (omega arith))))
  where
    P : ℕ → Type 0
    P n = n ≤ 16

admit_small : (c : List ℕ) (s : State) (x : Call) → Small (admit c s x)
unfolding calls.admission
admit_small c s x =
    checked_small (check c s) _ (check_small c s)
    (fitting_small c s (length x.space) (exact x.sent (decode x.sent)) (exact_small x.sent (decode x.sent) (decode_small x.sent)))

pub refusal_small : (c : List ℕ) (s : State) (x : Call) → (command c s x).reply.refusal ≤ 16
unfolding calls.command
refusal_small c s x = go (admit c s x) (admit_small c s x)
  where
    go : (d : Decoded Instruction) → Small d → (calls.carried check decode act answered_kind c s x.space d).reply.refusal ≤ 16
    go (refused n) p = p
    go (whole k n) p = omega arith
