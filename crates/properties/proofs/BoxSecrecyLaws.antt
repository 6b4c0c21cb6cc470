-- Of two sessions that agree outside places of their cards: the box's limits refuse both or neither, so what holds of their runs holds of the box.
use Rattle.std.specs.Prelude.{ℕ, ◌≤◌, Bool, ◌&&◌, List, ◌≡◌}
use Rattle.std.proofs.Math.Bool.{true, false, not}
use Rattle.std.proofs.Math.Path.{refl, ap}
use Rattle.std.proofs.Common.{sym, ◌∙◌, arith}
use borrow.Author.Tests.{leb-true, not-false}
use Rattle.std.proofs.Math.Dec.{leb}
use Rattle.std.proofs.Math.ListN.{length}
use Rattle.model.specs.Sizes.{fuse_at, least_session, greatest_session}
use Rattle.laws.specs.BoolLaws.{and_left}
use Rattle.model.specs.Instruction.{Instruction}
use Rattle.model.specs.Refusal.{box_limits}
use Rattle.model.specs.Session.{wrong_length}
use Rattle.model.specs.Box.{box_refuses, box_run}
use Rattle.secrecy.specs.Secret.{AgreeOutside}
use Rattle.properties.specs.AcceptedSession.{Accepts}
use Rattle.properties.specs.Alike.{start_same, count_same, byte_same}
use Rattle.properties.specs.BoxConditions.{BoxAccepts, BoxAlike}
use Rattle.properties.proofs.BoxLaws.{limited, unlimited, unrefused_accepts, accepts_unrefused}
use Rattle.properties.specs.SessionSecret.{SessionsAlike, RunAlike}
use Rattle.properties.specs.SessionSecrecyLaws.{rejected_alike}

-- what an exam machine runs of a session that the limits let through, the box runs
pub box_runs : (s space : List ℕ) → box_refuses s ≡ false → (ks : List Instruction) → Accepts s space ks → BoxAccepts s space ks
box_runs = unrefused_accepts

module _ (hidden : ℕ → Bool) (in-card : (i : ℕ) → fuse_at ≤ i → hidden i ≡ false) (s₁ s₂ : List ℕ) (agree : AgreeOutside hidden s₁ s₂) where
  pub refuses_same : box_refuses s₁ ≡ box_refuses s₂
  unfolding box_refuses
  refuses_same = go (wrong_length s₁) refl
    where
      go : (t : Bool) → wrong_length s₁ ≡ t → box_refuses s₁ ≡ box_refuses s₂
      go true e = rw (e, ap (λ (n : ℕ). not (leb least_session n && leb n greatest_session)) (sym agree.long) ∙ e)
      go false e =
          let long : least_session ≤ length s₁ = leb-true _ _ (and_left (leb least_session (length s₁)) _ (not-false _ e)) in
          rw (
            byte_same hidden in-card s₁ s₂ agree long 2 (omega arith),
            byte_same hidden in-card s₁ s₂ agree long 1 (omega arith),
            start_same hidden in-card s₁ s₂ agree long,
            count_same hidden in-card s₁ s₂ agree long,
            agree.long,
          )

  module _ (final-hidden : ℕ → Bool) (space : List ℕ) (alike : box_refuses s₁ ≡ false → SessionsAlike final-hidden s₁ s₂ space) where
    runs_alike : (t : Bool) → box_refuses s₁ ≡ t → RunAlike final-hidden (box_run s₁ space) (box_run s₂ space)
    runs_alike true e = rw (limited s₁ space e, limited s₂ space (sym refuses_same ∙ e)) (rejected_alike final-hidden box_limits space)
    runs_alike false e = rw (unlimited s₁ space e, unlimited s₂ space (sym refuses_same ∙ e)) (alike e).runs

    pub box_alike : BoxAlike final-hidden s₁ s₂ space
    box_alike =
        record {
          runs = runs_alike (box_refuses s₁) refl;
          records = λ ks₁ ks₂ a₁ a₂. (alike (accepts_unrefused s₁ space ks₁ a₁)).records ks₁ ks₂ a₁.0 a₂.0;
        }
