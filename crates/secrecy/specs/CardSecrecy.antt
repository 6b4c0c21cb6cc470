-- Demand 3: the final statements. Each is one theorem about every list of calls, of any bytes and lengths, none included, from power-up on, with
-- a tear armed, the same on both cards, or none. A call that is refused presents nothing and accepts nothing; the condition is asked of the run
-- on the first card, and the theorem says that both runs refuse alike. Neither card has a write to finish at the start, and what is staged is
-- the same there; at the end the eight staged values may differ, and they do so only where a staged write wrote to the zone.
use Rattle.std.specs.Prelude.{ℕ, ◌<◌, true, List, ◌≡◌}
use Rattle.model.specs.Call.{Call}
use Rattle.model.specs.Access.{rpe, ate, password_set}
use Rattle.model.specs.State.{Tear}
use Rattle.secrecy.specs.Secret.{Sealed, Idle, register, in_zone, in_zone_or_passwords, or_staged, AgreeOutside}
use Rattle.secrecy.specs.Secret.{PresentsNeither, AcceptsNot, Throughout, ThroughoutElsewhere, Indistinguishable}
use Rattle.secrecy.specs.ReadPassword as read
use Rattle.secrecy.specs.Authentication as authentication

-- The read password. Two sealed cards that agree outside a zone and the two passwords of its set, where the zone demands its
-- read password: no list that never presents one of those passwords tells them apart.
module _ (z : ℕ) (zone : z < 8) (b₁ b₂ : List ℕ) (sealed₁ : Sealed b₁) (sealed₂ : Sealed b₂) (idle : Idle b₁) (demanded : rpe (register b₁ z) ≡ true)
    (agree : AgreeOutside (in_zone_or_passwords z (password_set (register b₁ z))) b₁ b₂) (tear : Tear) (xs : List Call) where
  pub read_password_lem : Throughout (PresentsNeither (password_set (register b₁ z)) b₁ b₂) tear xs b₁
      → Indistinguishable (or_staged (in_zone_or_passwords z (password_set (register b₁ z)))) tear xs b₁ b₂
  read_password_lem = read.claim z zone b₁ b₂ sealed₁ sealed₂ idle demanded agree tear xs

  -- and where no staged write writes to the zone, what is staged stays the same
  pub read_password_elsewhere : ThroughoutElsewhere z (PresentsNeither (password_set (register b₁ z)) b₁ b₂) tear xs b₁
      → Indistinguishable (in_zone_or_passwords z (password_set (register b₁ z))) tear xs b₁ b₂
  read_password_elsewhere = read.claim_elsewhere z zone b₁ b₂ sealed₁ sealed₂ idle demanded agree tear xs

-- Authentication. Two sealed cards that agree outside a zone that demands authentication: no list in which no verdict is an
-- acceptance tells them apart.
module _ (z : ℕ) (zone : z < 8) (b₁ b₂ : List ℕ) (sealed₁ : Sealed b₁) (sealed₂ : Sealed b₂) (idle : Idle b₁) (demanded : ate (register b₁ z) ≡ true)
    (agree : AgreeOutside (in_zone z) b₁ b₂) (tear : Tear) (xs : List Call) where
  pub authentication_demanded : Throughout AcceptsNot tear xs b₁ → Indistinguishable (or_staged (in_zone z)) tear xs b₁ b₂
  authentication_demanded = authentication.claim z zone b₁ b₂ sealed₁ sealed₂ idle demanded agree tear xs

  pub authentication_demanded_elsewhere : ThroughoutElsewhere z AcceptsNot tear xs b₁ → Indistinguishable (in_zone z) tear xs b₁ b₂
  authentication_demanded_elsewhere = authentication.claim_elsewhere z zone b₁ b₂ sealed₁ sealed₂ idle demanded agree tear xs
