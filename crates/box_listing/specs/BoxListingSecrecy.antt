-- Demand 3 of the box's listings: what is printed of two sessions as in `BoxSecrecy` is the same, byte for byte.
use Rattle.std.specs.Prelude.{ℕ, ◌<◌, Bool, true, false, List, ◌≡◌, refl}
use Rattle.std.proofs.Common.{sym, ◌∙◌}
use Rattle.model.specs.Access.{rpe, ate, password_set}
use Rattle.model.specs.Session.{card_of}
use Rattle.model.specs.Box.{box_refuses}
use Rattle.secrecy.specs.Secret.{Sealed, Idle, register, in_zone, in_zone_or_passwords, AgreeOutside, PresentsNeither, AcceptsNot}
use Rattle.properties.specs.BoxConditions.{EveryBoxRecord}
use Rattle.properties.proofs.BoxSecrecyLaws.{box_runs, refuses_same}
use Rattle.properties.specs.SessionSecrecyLaws.{hidden_before, zone_before}
use Rattle.listing.specs.Listing.{listing}
use Rattle.listing.specs.ListingSecrecy as exam
use Rattle.box_listing.specs.BoxListing.{box_listing}
use Rattle.box_listing.specs.BoxListingLaws.{limited_listing, exam_listing}

-- sessions that the limits refuse alike
same_listing : (s₁ s₂ log : List ℕ) → box_refuses s₁ ≡ box_refuses s₂ → (box_refuses s₁ ≡ false → listing s₁ log ≡ listing s₂ log)
    → box_listing s₁ log ≡ box_listing s₂ log
same_listing s₁ s₂ log same alike = go (box_refuses s₁) refl
  where
    go : (t : Bool) → box_refuses s₁ ≡ t → box_listing s₁ log ≡ box_listing s₂ log
    go true e = limited_listing s₁ log e ∙ sym (limited_listing s₂ log (sym same ∙ e))
    go false e = exam_listing s₁ log e ∙ alike e ∙ sym (exam_listing s₂ log (sym same ∙ e))

module _ (z : ℕ) (zone : z < 8) (s₁ s₂ : List ℕ) (sealed₁ : Sealed (card_of s₁)) (sealed₂ : Sealed (card_of s₂)) (idle : Idle (card_of s₁))
    (demanded : rpe (register (card_of s₁) z) ≡ true) (agree : AgreeOutside (in_zone_or_passwords z (password_set (register (card_of s₁) z))) s₁ s₂)
    (log : List ℕ) where
  pub read_password_lem : EveryBoxRecord (PresentsNeither (password_set (register (card_of s₁) z)) (card_of s₁) (card_of s₂)) s₁ log
      → box_listing s₁ log ≡ box_listing s₂ log
  read_password_lem every =
      same_listing s₁ s₂ log (refuses_same _ (hidden_before z zone s₁ s₂ sealed₁ sealed₂ idle demanded agree log) s₁ s₂ agree)
      (λ e. exam.read_password_lem z zone s₁ s₂ sealed₁ sealed₂ idle demanded agree log (λ ks a. every ks (box_runs s₁ log e ks a)))

module _ (z : ℕ) (zone : z < 8) (s₁ s₂ : List ℕ) (sealed₁ : Sealed (card_of s₁)) (sealed₂ : Sealed (card_of s₂)) (idle : Idle (card_of s₁))
    (demanded : ate (register (card_of s₁) z) ≡ true) (agree : AgreeOutside (in_zone z) s₁ s₂) (log : List ℕ) where
  pub authentication_demanded : EveryBoxRecord AcceptsNot s₁ log → box_listing s₁ log ≡ box_listing s₂ log
  authentication_demanded every =
      same_listing s₁ s₂ log (refuses_same _ (zone_before z zone s₁ s₂ sealed₁ sealed₂ idle demanded agree log) s₁ s₂ agree)
      (λ e. exam.authentication_demanded z zone s₁ s₂ sealed₁ sealed₂ idle demanded agree log (λ ks a. every ks (box_runs s₁ log e ks a)))
