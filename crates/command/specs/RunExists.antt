-- Every list of calls has a run of the code, on every card and in every state: so what `CodeSecrecy` claims of runs is never empty.
use Rattle.std.specs.Prelude.{ℕ, zero, suc, ◌≤◌, List, [], ◌∷◌, Result, Ok, Err, ◌≡◌, refl}
use Rattle.std.proofs.Common.{arith}
use Rattle.model.specs.Call.{Call}
use Rattle.model.specs.Call as calls
use Rattle.laws.specs.Tables.{agree_at}
use Rattle.model.specs.Volatile as model
use Rattle.model.specs.State as state
use Rattle.model.specs.Instruction.{Instruction}
use Rattle.model.specs.Record.{decode}
use Rattle.model.specs.Single.{check, answered_kind, act, command}
use Rattle.laws.specs.SingleLaws.{refusal_small}
use Rattle.access.specs.VolatileState.{active_of, authentication_of, volatile_of}
use Rattle.access.specs.declared.volatile.Volatile.{Volatile}
use Rattle.staging.specs.Fuel.{tear_of}
use Rattle.busy.specs.TimedState.{state_of}
use Rattle.busy.specs.declared.State.{State}
use Rattle.record.specs.RefusalNumber.{refusal_number}
use Rattle.record.specs.declared.refusal.Refusal.{Refusal}
use Rattle.command.specs.declared.Reply.{Reply}
use Rattle.command.specs.Reply.{called_of, state_after}
use Rattle.command.specs.Injective.{active_from, authentication_from, tear_from, refusal_from}
use Rattle.command.specs.CodeSecrecy.{Given, Run, none, one_more}

-- the code's state and reply for those of the model
abbrev volatile_from : model.Volatile → Volatile
volatile_from v = record { zone = record { 0 = v.zone }; active = active_from v.active; authentication = authentication_from v.authentication }

abbrev state_from : state.State → State
state_from s = record { volatile = volatile_from s.volatile; busy = s.busy; power = record { off = s.off; tear = tear_from s.tear } }

abbrev reply_from : ℕ → calls.Reply state.State → Result Reply Refusal
reply_from zero r = Ok (record { kind = r.kind; size = r.size; state = state_from r.state; tries = r.tries })
reply_from (suc n) r = Err (refusal_from (suc n))

abbrev given_from : calls.Reply state.State → Given
given_from r = record { reply = reply_from r.refusal r; space = r.space }

active_there : (a : model.Active) → active_of (active_from a) ≡ a
active_there model.none = refl
active_there (model.selector k) = refl

authentication_there : (a : model.Authentication) → authentication_of (authentication_from a) ≡ a
authentication_there model.idle = refl
authentication_there model.begun = refl
authentication_there model.granted = refl

tear_there : (t : state.Tear) → tear_of (tear_from t) ≡ t
tear_there state.untorn = refl
tear_there (state.tear_after k junk) = refl

volatile_there : (v : model.Volatile) → volatile_of (volatile_from v) ≡ v
volatile_there v = λ i. record { zone = v.zone; active = active_there v.active i; authentication = authentication_there v.authentication i }

state_there : (s : state.State) → state_of (state_from s) ≡ s
state_there s = λ i. record { volatile = volatile_there s.volatile i; busy = s.busy; off = s.off; tear = tear_there s.tear i }

refusal_there : (n : ℕ) → n ≤ 15 → refusal_number (refusal_from (suc n)) ≡ suc n
refusal_there n h = agree_at (λ m. refusal_number (refusal_from (suc m))) suc 16 refl n (omega arith)

-- what the model's call gives back, by what was admitted
carried_given : (c : List ℕ) (s : State) (space : List ℕ) (d : calls.Decoded Instruction)
    → (calls.carried check decode act answered_kind c (state_of s) space d).reply.refusal ≤ 16
    → (let u = calls.carried check decode act answered_kind c (state_of s) space d in
    called_of s (given_from u.reply).reply u.card (given_from u.reply).space ≡ u)
carried_given c s space (calls.refused zero) h =
    let v = state_there (state_of s) in
    λ i. record { card = c; reply = calls.refusing 0 (v i) space }
carried_given c s space (calls.refused (suc n)) h =
    let r = refusal_there n (omega arith) in
    λ i. record { card = c; reply = calls.refusing (r i) (state_of s) space }
carried_given c s space (calls.whole k n) h =
    let a = act c (state_of s) k in
    let v = state_there a.report.state in
    λ i. record {
      card = a.card;
      reply = calls.replying (answered_kind c (state_of s) k) space (record { state = v i; answer = a.report.answer; tries = a.report.tries });
    }

call_given : (c : List ℕ) (s : State) (x : Call)
    → (let u = command c (state_of s) x in called_of s (given_from u.reply).reply u.card (given_from u.reply).space ≡ u)
unfolding calls.command
call_given c s x =
    carried_given c s x.space (calls.admit check decode act c (state_of s) x) (let l = refusal_small c (state_of s) x in omega arith)

pub run_exists : (xs : List Call) (c : List ℕ) (s : State) → (gs : List Given) × (e : List ℕ) × Run xs c s gs e
run_exists [] c s = ([], c, none)
run_exists (x ∷ xs) c s =
    let u = command c (state_of s) x in
    let r = run_exists xs u.card (state_after s (given_from u.reply).reply) in
    (given_from u.reply ∷ r.0, r.1, one_more (call_given c s x) r.2)
