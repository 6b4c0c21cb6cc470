-- Laws of at88sc1608_command: bytes that stand for no state are refused with 12, and the bytes at exit stand for the state after
-- the call, so calls one after the other are those of the model. What the result is made of can be read off it.
use Rattle.std.specs.Prelude.{ℕ, zero, suc, ◌/◌, ◌%◌, ◌^◌, true, false, List, ◌≡◌, refl, length}
use Rattle.std.proofs.Common.{arith, eq-eqb, le-leb}
use Rattle.model.specs.Sizes.{card_size, fuse_at}
use Rattle.model.specs.Lists.{at, Bytes}
use Rattle.model.specs.Call.{Call, Decoded, refused, whole, calling, refusing}
use Rattle.model.specs.Call as calls
use Rattle.laws.specs.CallLaws.{admitted}
use Rattle.model.specs.Instruction.{Instruction}
use Rattle.model.specs.State.{State}
use Rattle.model.specs.At88sc1608.{at88sc1608}
use Rattle.model.specs.Record.{decode}
use Rattle.laws.specs.RecordLaws.{decode_ranged}
use Rattle.model.specs.Refusal.{state_out_of_range}
use Rattle.laws.specs.Sane.{Good, good_check, good_after}
use Rattle.laws.specs.SingleLaws.{refusal_small}
use Rattle.model.specs.Single.{is_fuse_byte, staging_fits, state_in_range, check_of, check, answered_kind, act, command}
use Rattle.exports.specs.Exports.{exported_command}
use Rattle.exports.specs.Lengths.{response_small, tries_small}
use Rattle.state_bytes.specs.StateBytes.{is_state, state_of, state_after}
use Rattle.state_bytes.specs.StateLaws.{state_read, state_range}

-- 12 at its place: where none of 11, 5 and 16 applies, and whatever the record and the response space are
pub unread_refused : (c b : List ℕ) (x : Call) → length c ≡ card_size → is_fuse_byte (at c fuse_at) ≡ true → staging_fits c ≡ true → is_state b ≡ false
    → command c (state_of b) x ≡ record { card = c; reply = refusing state_out_of_range (state_of b) x.space }
unfolding check_of calls.admission calls.command
unread_refused c b x l f g e = rw (eq-eqb (length c) card_size l, f, g, state_range b, e)

-- the refusal, the response's length, the tries left and the kind that is answered are the first 8 bits of the result, the next 16, the
-- next 8, and the rest
pub result_read : (c b sent space : List ℕ) → Bytes sent
    → (let r = (command c (state_of b) (calling sent space)).reply in let n = (exported_command c b sent space).result in
    (n % 2 ^ 8 ≡ r.refusal) × (n / 2 ^ 8 % 2 ^ 16 ≡ r.size) × (n / 2 ^ 24 % 2 ^ 8 ≡ r.tries) × (n / 2 ^ 32 ≡ r.kind))
result_read c b sent space bytes =
    let p = refusal_small c (state_of b) (calling sent space) in
    let q = response_small c (state_of b) (calling sent space) bytes in
    let t = tries_small c (state_of b) (calling sent space) in
    (omega arith, omega arith, omega arith, omega arith)

-- a good state is in range
good_range : (c : List ℕ) (s : State) → Good c s → state_in_range at88sc1608 s ≡ true
good_range c s g = rw (g.fit.range, le-leb _ _ g.time)

-- the bytes at exit stand for the state after the call
pub state_told : (c b sent space : List ℕ) → state_of (exported_command c b sent space).state ≡ (command c (state_of b) (calling sent space)).reply.state
unfolding calls.admission calls.command
state_told c b sent space = on_check (check c (state_of b)) refl
  where
    fitted : Decoded Instruction
    fitted = calls.fitting check decode act c (state_of b) (length space) (calls.exact sent (decode sent))

    on_fitted : (d : Decoded Instruction) → check c (state_of b) ≡ 0 → fitted ≡ d
        → (let r = (calls.carried check decode act answered_kind c (state_of b) space d).reply in state_of (state_after r.refusal r.state b) ≡ r.state)
    on_fitted (refused zero) e q = state_read (state_of b) (good_range c (state_of b) (good_check c (state_of b) e))
    on_fitted (refused (suc n)) e q = refl
    on_fitted (whole k n) e q =
        let a = admitted check decode act c (state_of b) (calling sent space) k n (rw e q) in
        state_read _ (good_range _ _ (good_after c (state_of b) k (decode_ranged sent k n a.decodes) (good_check c (state_of b) e)))

    on_check : (n : ℕ) → check c (state_of b) ≡ n
        → (let r = (calls.carried check decode act answered_kind c (state_of b) space (calls.checked n fitted)).reply in
        state_of (state_after r.refusal r.state b) ≡ r.state)
    on_check zero e = on_fitted fitted e refl
    on_check (suc n) e = refl
