-- What the code gives back is told apart as finely as the model tells it: equal in the model, equal in the code.
use Rattle.std.specs.Prelude.{ℕ, suc, cond, List, [], Option, Some, None, Result, Ok, Err, ◌≡◌, refl, eqb}
use Rattle.std.proofs.Common.{arith, sym, ap, ◌∙◌}
use Rattle.model.specs.Volatile as model
use Rattle.model.specs.State as state
use Rattle.access.specs.VolatileState.{active_of, authentication_of, volatile_of}
use Rattle.access.specs.declared.volatile.Authentication.{Authentication}
use Rattle.access.specs.declared.volatile.Authentication.TheVariants as authentication
use Rattle.access.specs.declared.volatile.Volatile.{Volatile}
use Rattle.staging.specs.Fuel.{tear_of}
use Rattle.staging.specs.declared.tear.Tear.{Tear}
use Rattle.busy.specs.TimedState.{state_of}
use Rattle.busy.specs.declared.State.{State}
use Rattle.record.specs.RefusalNumber.{refusal_number, outcome_number, number_some}
use Rattle.record.specs.declared.refusal.Refusal.{Refusal}
use Rattle.record.specs.declared.refusal.Refusal.TheVariants as refusal
use Rattle.command.specs.declared.Reply.{Reply}
use Rattle.command.specs.Reply.{called_of}

-- the other way round
abbrev pub active_from : model.Active → Option ℕ
active_from model.none = None
active_from (model.selector k) = Some k

abbrev pub authentication_from : model.Authentication → Authentication
authentication_from model.idle = authentication.Idle
authentication_from model.begun = authentication.Begun
authentication_from model.granted = authentication.Granted

abbrev pub tear_from : state.Tear → Option Tear
tear_from state.untorn = None
tear_from (state.tear_after k junk) = Some (record { cells = k; junk = junk })

abbrev pub refusal_from : ℕ → Refusal
refusal_from n =
    (cond (eqb n 1) refusal.SessionLength
    (cond (eqb n 2) refusal.SessionTrailer
    (cond (eqb n 3) refusal.StartOutOfRange
    (cond (eqb n 4) refusal.TooManyRecords
    (cond (eqb n 5) refusal.FuseByte
    (cond (eqb n 6) refusal.UnknownKind
    (cond (eqb n 7) refusal.FieldOutOfRange
    (cond (eqb n 8) refusal.CutShort
    (cond (eqb n 9) refusal.BytesLeft
    (cond (eqb n 10) refusal.NoSpace
    (cond (eqb n 11) refusal.CardLength
    (cond (eqb n 12) refusal.StateOutOfRange
    (cond (eqb n 13) refusal.NotALog
    (cond (eqb n 14) refusal.NoSuchAnswer
    (cond (eqb n 15) refusal.TitleLength
    (cond (eqb n 16) refusal.StagingBytes (cond (eqb n 17) refusal.NoStart refusal.BoxLimits)))))))))))))))))

active_back : (a : Option ℕ) → active_from (active_of a) ≡ a
active_back None = refl
active_back (Some k) = refl

authentication_back : (a : Authentication) → authentication_from (authentication_of a) ≡ a
authentication_back authentication.Idle = refl
authentication_back authentication.Begun = refl
authentication_back authentication.Granted = refl

tear_back : (t : Option Tear) → tear_from (tear_of t) ≡ t
tear_back None = refl
tear_back (Some t) = refl

refusal_back : (r : Refusal) → refusal_from (refusal_number r) ≡ r
refusal_back refusal.SessionLength = refl
refusal_back refusal.SessionTrailer = refl
refusal_back refusal.StartOutOfRange = refl
refusal_back refusal.TooManyRecords = refl
refusal_back refusal.FuseByte = refl
refusal_back refusal.UnknownKind = refl
refusal_back refusal.FieldOutOfRange = refl
refusal_back refusal.CutShort = refl
refusal_back refusal.BytesLeft = refl
refusal_back refusal.NoSpace = refl
refusal_back refusal.CardLength = refl
refusal_back refusal.StateOutOfRange = refl
refusal_back refusal.NotALog = refl
refusal_back refusal.NoSuchAnswer = refl
refusal_back refusal.TitleLength = refl
refusal_back refusal.StagingBytes = refl
refusal_back refusal.NoStart = refl
refusal_back refusal.BoxLimits = refl

refusal_injective : (r u : Refusal) → refusal_number r ≡ refusal_number u → r ≡ u
refusal_injective r u e = sym (refusal_back r) ∙ ap refusal_from e ∙ refusal_back u

pub volatile_injective : (v w : Volatile) → volatile_of v ≡ volatile_of w → v ≡ w
volatile_injective v w e =
    let a : v.active ≡ w.active = sym (active_back v.active) ∙ ap (λ (s : model.Volatile). active_from s.active) e ∙ active_back w.active in
    let t : v.authentication ≡ w.authentication =
    sym (authentication_back v.authentication) ∙ ap (λ (s : model.Volatile). authentication_from s.authentication) e
    ∙ authentication_back w.authentication in
    λ i. record { zone = record { 0 = (e i).zone }; active = a i; authentication = t i }

pub state_injective : (s u : State) → state_of s ≡ state_of u → s ≡ u
state_injective s u e =
    let v = volatile_injective s.volatile u.volatile (λ i. (e i).volatile) in
    let t : s.power.tear ≡ u.power.tear =
    sym (tear_back s.power.tear) ∙ ap (λ (x : state.State). tear_from x.tear) e ∙ tear_back u.power.tear in
    λ i. record { volatile = v i; busy = (e i).busy; power = record { off = (e i).off; tear = t i } }

-- an accepted call and a refused one differ in the refusal's number
not_both : (r : Refusal) → 0 ≡ refusal_number r → ⊥
not_both r e = let n = number_some r in let z : 0 ≡ suc n.0 = e ∙ n.1 in omega arith

pub outcome_injective : (o p : Result Unit Refusal) → outcome_number o ≡ outcome_number p → o ≡ p
outcome_injective (Ok _) (Ok _) e = refl
outcome_injective (Ok _) (Err why) e = absurd (not_both why e)
outcome_injective (Err why) (Ok _) e = absurd (not_both why (sym e))
outcome_injective (Err why) (Err because) e = ap Err (refusal_injective why because e)

pub reply_injective : (s u : State) (r t : Result Reply Refusal) (p q : List ℕ) → (called_of s r [] p).reply ≡ (called_of u t [] q).reply → r ≡ t
reply_injective s u (Err why) (Err because) p q e = ap Err (refusal_injective why because (λ i. (e i).refusal))
reply_injective s u (Err why) (Ok t) p q e = absurd (not_both why (sym (λ i. (e i).refusal)))
reply_injective s u (Ok r) (Err why) p q e = absurd (not_both why (λ i. (e i).refusal))
reply_injective s u (Ok r) (Ok t) p q e =
    let v = state_injective r.state t.state (λ i. (e i).state) in
    λ i. Ok (record { kind = (e i).kind; size = (e i).size; state = v i; tries = (e i).tries })

pub space_same : (s u : State) (r t : Result Reply Refusal) (p q : List ℕ) → (called_of s r [] p).reply ≡ (called_of u t [] q).reply → p ≡ q
space_same s u (Err why) (Err because) p q e = λ i. (e i).space
space_same s u (Err why) (Ok t) p q e = λ i. (e i).space
space_same s u (Ok r) (Err why) p q e = λ i. (e i).space
space_same s u (Ok r) (Ok t) p q e = λ i. (e i).space
