-- Demand 3 of answers: what is fetched from the logs of two sessions as in `SessionSecrecy` is the same, answer by answer: where it lies or its
-- refusal, the headers that were read for it, and its bytes.
use Rattle.std.specs.Prelude.{ℕ, ◌<◌, true, List, ◌≡◌}
use Rattle.model.specs.Access.{rpe, ate, password_set}
use Rattle.model.specs.Lists.{Bytes}
use Rattle.model.specs.Session.{card_of}
use Rattle.secrecy.specs.Secret.{Sealed, Idle, register, in_zone, in_zone_or_passwords, AgreeOutside, PresentsNeither, AcceptsNot}
use Rattle.properties.specs.SessionSecret.{EveryRecord, AnswersAlike}
use Rattle.properties.specs.SessionSecrecy as sessions
use Rattle.properties.specs.AnswerSecrecyLaws.{answers_alike}

module _ (z : ℕ) (zone : z < 8) (s₁ s₂ : List ℕ) (sealed₁ : Sealed (card_of s₁)) (sealed₂ : Sealed (card_of s₂)) (idle : Idle (card_of s₁))
    (demanded : rpe (register (card_of s₁) z) ≡ true) (agree : AgreeOutside (in_zone_or_passwords z (password_set (register (card_of s₁) z))) s₁ s₂)
    (bytes₁ : Bytes s₁) (bytes₂ : Bytes s₂) (space : List ℕ) where
  pub read_password_lem : EveryRecord (PresentsNeither (password_set (register (card_of s₁) z)) (card_of s₁) (card_of s₂)) s₁ space → AnswersAlike s₁ s₂ space
  read_password_lem every = answers_alike _ s₁ s₂ space bytes₁ bytes₂ (sessions.read_password_lem z zone s₁ s₂ sealed₁ sealed₂ idle demanded agree space every)

module _ (z : ℕ) (zone : z < 8) (s₁ s₂ : List ℕ) (sealed₁ : Sealed (card_of s₁)) (sealed₂ : Sealed (card_of s₂)) (idle : Idle (card_of s₁))
    (demanded : ate (register (card_of s₁) z) ≡ true) (agree : AgreeOutside (in_zone z) s₁ s₂)
    (bytes₁ : Bytes s₁) (bytes₂ : Bytes s₂) (space : List ℕ) where
  pub authentication_demanded : EveryRecord AcceptsNot s₁ space → AnswersAlike s₁ s₂ space
  authentication_demanded every =
      answers_alike _ s₁ s₂ space bytes₁ bytes₂ (sessions.authentication_demanded z zone s₁ s₂ sealed₁ sealed₂ idle demanded agree space every)
