-- Demand 3 of a session's records ("By demand 2 it holds of a session's records too"): two sessions that agree outside secret places
-- of their cards, under the conditions of demand 3 on the records that are run, give the same refusal, or logs that agree outside those
-- places of the final card and its eight staged values, zone bytes among the rest; and each record hands out the same tries and leaves the
-- same state, its busy time, its power and what is armed among it. Where no staged write writes to the zone, the staged values agree too.
use Rattle.std.specs.Prelude.{ℕ, ◌<◌, true, List, ◌≡◌}
use Rattle.model.specs.Access.{rpe, ate, password_set}
use Rattle.model.specs.Session.{card_of}
use Rattle.secrecy.specs.Secret.{Sealed, Idle, register, in_zone, in_zone_or_passwords, or_staged, AgreeOutside, PresentsNeither, AcceptsNot}
use Rattle.properties.specs.SessionSecret.{SessionsAlike, EveryRecord, EveryElsewhere}
use Rattle.properties.specs.SessionSecrecyLaws.{read_claim, read_claim_elsewhere, authentication_claim, authentication_claim_elsewhere}

-- The read password. The cards are sealed and have no write to finish, the zone demands its read password, the sessions agree outside the zone
-- and the two passwords of its set, and no record that is run presents one of those passwords.
module _ (z : ℕ) (zone : z < 8) (s₁ s₂ : List ℕ) (sealed₁ : Sealed (card_of s₁)) (sealed₂ : Sealed (card_of s₂)) (idle : Idle (card_of s₁))
    (demanded : rpe (register (card_of s₁) z) ≡ true) (agree : AgreeOutside (in_zone_or_passwords z (password_set (register (card_of s₁) z))) s₁ s₂)
    (space : List ℕ) where
  pub read_password_lem : EveryRecord (PresentsNeither (password_set (register (card_of s₁) z)) (card_of s₁) (card_of s₂)) s₁ space
      → SessionsAlike (or_staged (in_zone_or_passwords z (password_set (register (card_of s₁) z)))) s₁ s₂ space
  read_password_lem = read_claim z zone s₁ s₂ sealed₁ sealed₂ idle demanded agree space

  pub read_password_elsewhere : EveryElsewhere z (PresentsNeither (password_set (register (card_of s₁) z)) (card_of s₁) (card_of s₂)) s₁ space
      → SessionsAlike (in_zone_or_passwords z (password_set (register (card_of s₁) z))) s₁ s₂ space
  read_password_elsewhere = read_claim_elsewhere z zone s₁ s₂ sealed₁ sealed₂ idle demanded agree space

-- Authentication. The cards are sealed and have no write to finish, the zone demands authentication, the sessions agree outside the zone, and no
-- record that is run is an acceptance.
module _ (z : ℕ) (zone : z < 8) (s₁ s₂ : List ℕ) (sealed₁ : Sealed (card_of s₁)) (sealed₂ : Sealed (card_of s₂)) (idle : Idle (card_of s₁))
    (demanded : ate (register (card_of s₁) z) ≡ true) (agree : AgreeOutside (in_zone z) s₁ s₂) (space : List ℕ) where
  pub authentication_demanded : EveryRecord AcceptsNot s₁ space → SessionsAlike (or_staged (in_zone z)) s₁ s₂ space
  authentication_demanded = authentication_claim z zone s₁ s₂ sealed₁ sealed₂ idle demanded agree space

  pub authentication_demanded_elsewhere : EveryElsewhere z AcceptsNot s₁ space → SessionsAlike (in_zone z) s₁ s₂ space
  authentication_demanded_elsewhere = authentication_claim_elsewhere z zone s₁ s₂ sealed₁ sealed₂ idle demanded agree space
