-- Demand 3 of the box: two sessions that agree outside secret places of their cards, under the conditions of demand 3 on the records that it runs,
-- get the same refusal, 18 among them, or logs that agree outside those places of the final card; and their records are not told apart, as in
-- `SessionSecrecy`.
use Rattle.std.specs.Prelude.{ℕ, ◌<◌, true, List, ◌≡◌}
use Rattle.model.specs.Access.{rpe, ate, password_set}
use Rattle.model.specs.Session.{card_of}
use Rattle.secrecy.specs.Secret.{Sealed, Idle, register, in_zone, in_zone_or_passwords, or_staged, AgreeOutside, PresentsNeither, AcceptsNot}
use Rattle.properties.specs.BoxConditions.{BoxAlike, EveryBoxRecord, EveryBoxElsewhere}
use Rattle.properties.proofs.BoxSecrecyLaws.{box_alike, box_runs}
use Rattle.properties.specs.SessionSecrecy as sessions
use Rattle.properties.specs.SessionSecrecyLaws.{hidden_before, zone_before}

-- the read password
module _ (z : ℕ) (zone : z < 8) (s₁ s₂ : List ℕ) (sealed₁ : Sealed (card_of s₁)) (sealed₂ : Sealed (card_of s₂)) (idle : Idle (card_of s₁))
    (demanded : rpe (register (card_of s₁) z) ≡ true) (agree : AgreeOutside (in_zone_or_passwords z (password_set (register (card_of s₁) z))) s₁ s₂)
    (space : List ℕ) where
  pub read_password_lem : EveryBoxRecord (PresentsNeither (password_set (register (card_of s₁) z)) (card_of s₁) (card_of s₂)) s₁ space
      → BoxAlike (or_staged (in_zone_or_passwords z (password_set (register (card_of s₁) z)))) s₁ s₂ space
  read_password_lem every =
      box_alike _ (hidden_before z zone s₁ s₂ sealed₁ sealed₂ idle demanded agree space) s₁ s₂ agree _ space
      (λ e. sessions.read_password_lem z zone s₁ s₂ sealed₁ sealed₂ idle demanded agree space (λ ks a. every ks (box_runs s₁ space e ks a)))

  pub read_password_elsewhere : EveryBoxElsewhere z (PresentsNeither (password_set (register (card_of s₁) z)) (card_of s₁) (card_of s₂)) s₁ space
      → BoxAlike (in_zone_or_passwords z (password_set (register (card_of s₁) z))) s₁ s₂ space
  read_password_elsewhere every =
      box_alike _ (hidden_before z zone s₁ s₂ sealed₁ sealed₂ idle demanded agree space) s₁ s₂ agree _ space
      (λ e. sessions.read_password_elsewhere z zone s₁ s₂ sealed₁ sealed₂ idle demanded agree space (λ ks a. every ks (box_runs s₁ space e ks a)))

-- authentication
module _ (z : ℕ) (zone : z < 8) (s₁ s₂ : List ℕ) (sealed₁ : Sealed (card_of s₁)) (sealed₂ : Sealed (card_of s₂)) (idle : Idle (card_of s₁))
    (demanded : ate (register (card_of s₁) z) ≡ true) (agree : AgreeOutside (in_zone z) s₁ s₂) (space : List ℕ) where
  pub authentication_demanded : EveryBoxRecord AcceptsNot s₁ space → BoxAlike (or_staged (in_zone z)) s₁ s₂ space
  authentication_demanded every =
      box_alike _ (zone_before z zone s₁ s₂ sealed₁ sealed₂ idle demanded agree space) s₁ s₂ agree _ space
      (λ e. sessions.authentication_demanded z zone s₁ s₂ sealed₁ sealed₂ idle demanded agree space (λ ks a. every ks (box_runs s₁ space e ks a)))

  pub authentication_demanded_elsewhere : EveryBoxElsewhere z AcceptsNot s₁ space → BoxAlike (in_zone z) s₁ s₂ space
  authentication_demanded_elsewhere every =
      box_alike _ (zone_before z zone s₁ s₂ sealed₁ sealed₂ idle demanded agree space) s₁ s₂ agree _ space
      (λ e. sessions.authentication_demanded_elsewhere z zone s₁ s₂ sealed₁ sealed₂ idle demanded agree space (λ ks a. every ks (box_runs s₁ space e ks a)))
