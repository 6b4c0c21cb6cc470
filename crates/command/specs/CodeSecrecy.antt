-- Demand 3 said of the code. A run of the code is a list of calls, each of which meets the contract of `command` on the card and in
-- the state that came out of the call before. Two runs on cards that agree outside the secret places give back the same results
-- and the same response spaces, call by call.
use Rattle.std.specs.Prelude.{ℕ, ◌<◌, Bool, true, false, List, [], ◌∷◌, Result, Ok, Err, ◌≡◌, refl, length}
use Rattle.std.proofs.Common.{sym, ap, ◌∙◌, arith}
use Rattle.model.specs.Call.{Call, Powered, powered, step}
use Rattle.model.specs.Call as calls
use Rattle.model.specs.Lists.{at}
use Rattle.model.specs.State.{Tear, powered_up}
use Rattle.model.specs.State as model
use Rattle.model.specs.Access.{rpe, ate, password_set}
use Rattle.model.specs.At88sc1608.{at88sc1608}
use Rattle.model.specs.Device.{Counter, counter_place}
use Rattle.model.specs.Record.{decode}
use Rattle.model.specs.Single.{check, answered_kind, act, command, replies, final}
use Rattle.secrecy.specs.Secret.{Sealed, Idle, register, in_zone, in_zone_or_passwords, or_staged, AgreeOutside}
use Rattle.secrecy.specs.Secret.{PresentsNeither, AcceptsNot, Throughout, ThroughoutElsewhere, Indistinguishable}
use Rattle.secrecy.specs.CardSecrecy as model-claims
use Rattle.busy.specs.TimedState.{state_of}
use Rattle.busy.specs.declared.State.{State}
use Rattle.record.specs.declared.refusal.Refusal.{Refusal}
use Rattle.command.specs.declared.Reply.{Reply}
use Rattle.command.specs.Reply.{called_of, state_after}
use Rattle.command.specs.Injective.{reply_injective, space_same}

-- what one call gives back: its result, and its response space at exit
pub record Given : Type 0 where
  pub reply : Result Reply Refusal
  pub space : List ℕ

-- calls, the card and the state that they start with, what each gives back, and the card that they leave
pub data Run : List Call → List ℕ → State → List Given → List ℕ → Type 0 where
  none : {c : List ℕ} {s : State} → Run [] c s [] c
  one_more : {x : Call} {xs : List Call} {c d e : List ℕ} {s : State} {g : Given} {gs : List Given}
      → called_of s g.reply d g.space ≡ command c (state_of s) x → Run xs d (state_after s g.reply) gs e → Run (x ∷ xs) c s (g ∷ gs) e

-- ---- a run of the code is the model's

-- the reply of a call that is made in a state, and of calls of which the first is
abbrev reply_of : State → Given → calls.Reply model.State
reply_of s g = (called_of s g.reply [] g.space).reply

abbrev replies_of : State → List Given → List (calls.Reply model.State)
replies_of s [] = []
replies_of s (g ∷ gs) = reply_of s g ∷ replies_of (state_after s g.reply) gs

same_reply : (s : State) (r : Result Reply Refusal) (d space : List ℕ) → (called_of s r d space).reply ≡ (called_of s r [] space).reply
same_reply s (Ok r) d space = refl
same_reply s (Err why) d space = refl

pub next_state : (s : State) (r : Result Reply Refusal) (d space : List ℕ) → state_of (state_after s r) ≡ (called_of s r d space).reply.state
next_state s (Ok r) d space = refl
next_state s (Err why) d space = refl

same_card : (s : State) (r : Result Reply Refusal) (d space : List ℕ) → d ≡ (called_of s r d space).card
same_card s (Ok r) d space = refl
same_card s (Err why) d space = refl

-- what the next call finds
pub next_powered : (s : State) (r : Result Reply Refusal) (c d space : List ℕ) (x : Call) → called_of s r d space ≡ command c (state_of s) x
    → powered d (state_of (state_after s r)) ≡ step check decode act answered_kind (powered c (state_of s)) x
next_powered s r c d space x call =
    (λ i. powered (same_card s r d space i) (next_state s r d space i)) ∙ (λ i. powered (call i).card (call i).reply.state)

pub run_model : {xs : List Call} {c e : List ℕ} {s : State} {gs : List Given} → Run xs c s gs e
    → (replies_of s gs ≡ replies xs (powered c (state_of s))) × (e ≡ (final xs (powered c (state_of s))).card)
unfolding calls.replies calls.final
run_model none = (refl, refl)
run_model (one_more {x = x} {xs = xs} {c = c} {d = d} {s = s} {g = g} call rest) =
    let ih = run_model rest in
    let m = next_powered s g.reply c d g.space x call in
    let r : reply_of s g ≡ (command c (state_of s) x).reply = sym (same_reply s g.reply d g.space) ∙ ap (λ (y : calls.Called model.State). y.reply) call in (
      λ i. r i ∷ (ih.0 ∙ ap (replies xs) m) i,
      ih.1 ∙ ap (λ (n : Powered model.State). (final xs n).card) m,
    )

-- ---- equal in the model, equal in the code

given_injective : (s t : State) (g h : Given) → reply_of s g ≡ reply_of t h → g ≡ h
given_injective s t g h e =
    λ i. record { reply = reply_injective s t g.reply h.reply g.space h.space e i; space = space_same s t g.reply h.reply g.space h.space e i }

all_injective : (s t : State) (gs hs : List Given) → replies_of s gs ≡ replies_of t hs → gs ≡ hs
all_injective s t [] [] e = refl
all_injective s t [] (h ∷ hs) e = absurd (let z : ◌≡◌ {A = ℕ} 0 1 = cc in let w : ⊥ = omega arith in w)
all_injective s t (g ∷ gs) [] e = absurd (let z : ◌≡◌ {A = ℕ} 0 1 = cc in let w : ⊥ = omega arith in w)
all_injective s t (g ∷ gs) (h ∷ hs) e =
    let p : reply_of s g ≡ reply_of t h = cc in
    let q : replies_of (state_after s g.reply) gs ≡ replies_of (state_after t h.reply) hs = cc in
    λ i. given_injective s t g h p i ∷ all_injective (state_after s g.reply) (state_after t h.reply) gs hs q i

-- ---- the claims

-- two runs of the code that are not told apart: what every call gives back is equal, and the cards left are equally long and agree
pub record NotToldApart (hidden : ℕ → Bool) (gs₁ gs₂ : List Given) (d₁ d₂ : List ℕ) : Type 0 where
  pub observed : gs₁ ≡ gs₂
  pub long : length d₁ ≡ length d₂
  pub counters : (n : Counter) → at d₁ (counter_place at88sc1608 n) ≡ at d₂ (counter_place at88sc1608 n)
  pub outside : (i : ℕ) → hidden i ≡ false → at d₁ i ≡ at d₂ i

from_model : (hidden : ℕ → Bool) (tear : Tear) (xs : List Call) (b₁ b₂ : List ℕ) (s : State) (gs₁ gs₂ : List Given) (d₁ d₂ : List ℕ)
    → state_of s ≡ powered_up tear
    → Run xs b₁ s gs₁ d₁ → Run xs b₂ s gs₂ d₂ → Indistinguishable hidden tear xs b₁ b₂ → NotToldApart hidden gs₁ gs₂ d₁ d₂
from_model hidden tear xs b₁ b₂ s gs₁ gs₂ d₁ d₂ e r₁ r₂ w =
    let m₁ = run_model r₁ in
    let m₂ = run_model r₂ in
    let f₁ : d₁ ≡ (final xs (powered b₁ (powered_up tear))).card = m₁.1 ∙ ap (λ (t : model.State). (final xs (powered b₁ t)).card) e in
    let f₂ : d₂ ≡ (final xs (powered b₂ (powered_up tear))).card = m₂.1 ∙ ap (λ (t : model.State). (final xs (powered b₂ t)).card) e in
    record {
      observed =
          all_injective s s gs₁ gs₂
          (m₁.0 ∙ ap (λ (t : model.State). replies xs (powered b₁ t)) e ∙ w.observed ∙ ap (λ (t : model.State). replies xs (powered b₂ t)) (sym e)
          ∙ sym m₂.0);
      long = rw (f₁, f₂) w.long;
      counters = λ n. rw (f₁, f₂) (w.counters n);
      outside = λ i h. rw (f₁, f₂) (w.outside i h);
    }

-- The read password, as `CardSecrecy` of crate `secrecy` has it, for every two runs of the code from power-up with a tear armed or none; and where
-- no staged write writes to the zone.
module _ (z : ℕ) (zone : z < 8) (b₁ b₂ : List ℕ) (sealed₁ : Sealed b₁) (sealed₂ : Sealed b₂) (idle : Idle b₁) (demanded : rpe (register b₁ z) ≡ true)
    (agree : AgreeOutside (in_zone_or_passwords z (password_set (register b₁ z))) b₁ b₂) (tear : Tear) (xs : List Call) (s : State) (gs₁ gs₂ : List Given)
    (d₁ d₂ : List ℕ) (up : state_of s ≡ powered_up tear) (run₁ : Run xs b₁ s gs₁ d₁) (run₂ : Run xs b₂ s gs₂ d₂) where
  pub read_password_lem : Throughout (PresentsNeither (password_set (register b₁ z)) b₁ b₂) tear xs b₁
      → NotToldApart (or_staged (in_zone_or_passwords z (password_set (register b₁ z)))) gs₁ gs₂ d₁ d₂
  read_password_lem a =
      from_model (or_staged (in_zone_or_passwords z (password_set (register b₁ z)))) tear xs b₁ b₂ s gs₁ gs₂ d₁ d₂ up run₁ run₂
      (model-claims.read_password_lem z zone b₁ b₂ sealed₁ sealed₂ idle demanded agree tear xs a)

  pub read_password_elsewhere : ThroughoutElsewhere z (PresentsNeither (password_set (register b₁ z)) b₁ b₂) tear xs b₁
      → NotToldApart (in_zone_or_passwords z (password_set (register b₁ z))) gs₁ gs₂ d₁ d₂
  read_password_elsewhere a =
      from_model (in_zone_or_passwords z (password_set (register b₁ z))) tear xs b₁ b₂ s gs₁ gs₂ d₁ d₂ up run₁ run₂
      (model-claims.read_password_elsewhere z zone b₁ b₂ sealed₁ sealed₂ idle demanded agree tear xs a)

-- authentication, likewise
module _ (z : ℕ) (zone : z < 8) (b₁ b₂ : List ℕ) (sealed₁ : Sealed b₁) (sealed₂ : Sealed b₂) (idle : Idle b₁) (demanded : ate (register b₁ z) ≡ true)
    (agree : AgreeOutside (in_zone z) b₁ b₂) (tear : Tear) (xs : List Call) (s : State) (gs₁ gs₂ : List Given) (d₁ d₂ : List ℕ)
    (up : state_of s ≡ powered_up tear) (run₁ : Run xs b₁ s gs₁ d₁) (run₂ : Run xs b₂ s gs₂ d₂) where
  pub authentication_demanded : Throughout AcceptsNot tear xs b₁ → NotToldApart (or_staged (in_zone z)) gs₁ gs₂ d₁ d₂
  authentication_demanded a =
      from_model (or_staged (in_zone z)) tear xs b₁ b₂ s gs₁ gs₂ d₁ d₂ up run₁ run₂
      (model-claims.authentication_demanded z zone b₁ b₂ sealed₁ sealed₂ idle demanded agree tear xs a)

  pub authentication_demanded_elsewhere : ThroughoutElsewhere z AcceptsNot tear xs b₁ → NotToldApart (in_zone z) gs₁ gs₂ d₁ d₂
  authentication_demanded_elsewhere a =
      from_model (in_zone z) tear xs b₁ b₂ s gs₁ gs₂ d₁ d₂ up run₁ run₂
      (model-claims.authentication_demanded_elsewhere z zone b₁ b₂ sealed₁ sealed₂ idle demanded agree tear xs a)
