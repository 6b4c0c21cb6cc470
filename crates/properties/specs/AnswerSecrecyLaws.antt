-- Of the logs of two sessions that are not told apart: they have the same entries, so every answer is the same.
use Rattle.std.specs.Prelude.{ℕ, Bool, List}
use Rattle.std.proofs.Common.{subst}
use Rattle.model.specs.Lists.{Bytes}
use Rattle.model.specs.Log.{zoned, Entry, LaidOut}
use Rattle.model.specs.Session.{entries_of, end_of, initial, log_of}
use Rattle.properties.specs.SessionSecret.{SessionsAlike, AnswersAlike}
use Rattle.properties.specs.FetchLaws.{same_fetched, same_answer}
use Rattle.properties.specs.ReadBack.{laid_out}

pub answers_alike : (hidden : ℕ → Bool) (s₁ s₂ space : List ℕ) → Bytes s₁ → Bytes s₂ → SessionsAlike hidden s₁ s₂ space → AnswersAlike s₁ s₂ space
answers_alike hidden s₁ s₂ space bytes₁ bytes₂ alike ks₁ ks₂ a₁ a₂ k =
    let c₁ = (end_of ks₁ (initial s₁)).card in
    let c₂ = (end_of ks₂ (initial s₂)).card in
    let w₁ : LaidOut zoned (entries_of ks₂ (initial s₂)) c₁ (log_of s₁ ks₁) =
    subst (λ (es : List Entry). LaidOut zoned es c₁ (log_of s₁ ks₁)) (alike.records ks₁ ks₂ a₁ a₂).entries (laid_out s₁ space ks₁ bytes₁ a₁) in
    let w₂ = laid_out s₂ space ks₂ bytes₂ a₂ in
    (same_fetched _ c₁ c₂ _ _ w₁ w₂ k, same_answer _ c₁ c₂ _ _ w₁ w₂ k)
