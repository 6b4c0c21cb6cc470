-- Demand 3 of listings: what is printed of two sessions as in `SessionSecrecy`, the tries left among it, is the same, byte for byte.
use Rattle.std.specs.Prelude.{ℕ, ◌<◌, true, List, ◌≡◌}
use Rattle.std.proofs.Common.{arith}
use Rattle.model.specs.Sizes.{fuse_at}
use Rattle.model.specs.Access.{rpe, ate, password_set}
use Rattle.model.specs.Session.{card_of}
use Rattle.secrecy.specs.Secret.{Sealed, Idle, register, in_zone, in_zone_or_passwords, AgreeOutside, PresentsNeither, AcceptsNot}
use Rattle.secrecy.specs.ReadPassword as read
use Rattle.secrecy.specs.Authentication as authentication
use Rattle.properties.specs.SessionSecret.{EveryRecord}
use Rattle.properties.specs.SessionSecrecy as sessions
use Rattle.listing.specs.Listing.{listing}
use Rattle.listing.specs.ListingAlike.{same_listing}

module _ (z : ℕ) (zone : z < 8) (s₁ s₂ : List ℕ) (sealed₁ : Sealed (card_of s₁)) (sealed₂ : Sealed (card_of s₂)) (idle : Idle (card_of s₁))
    (demanded : rpe (register (card_of s₁) z) ≡ true) (agree : AgreeOutside (in_zone_or_passwords z (password_set (register (card_of s₁) z))) s₁ s₂)
    (log : List ℕ) where
  pub read_password_lem : EveryRecord (PresentsNeither (password_set (register (card_of s₁) z)) (card_of s₁) (card_of s₂)) s₁ log → listing s₁ log ≡ listing s₂ log
  read_password_lem every =
      same_listing _ s₁ s₂ log
      (rw (read.not_hidden z (password_set (register (card_of s₁) z)) zone (omega arith) fuse_at (omega arith) (λ k n q e. omega arith)))
      (sessions.read_password_lem z zone s₁ s₂ sealed₁ sealed₂ idle demanded agree log every)

module _ (z : ℕ) (zone : z < 8) (s₁ s₂ : List ℕ) (sealed₁ : Sealed (card_of s₁)) (sealed₂ : Sealed (card_of s₂)) (idle : Idle (card_of s₁))
    (demanded : ate (register (card_of s₁) z) ≡ true) (agree : AgreeOutside (in_zone z) s₁ s₂) (log : List ℕ) where
  pub authentication_demanded : EveryRecord AcceptsNot s₁ log → listing s₁ log ≡ listing s₂ log
  authentication_demanded every =
      same_listing _ s₁ s₂ log (rw (authentication.not_hidden z fuse_at zone (omega arith)))
      (sessions.authentication_demanded z zone s₁ s₂ sealed₁ sealed₂ idle demanded agree log every)
