-- Of two sessions that are not told apart: their listings are the same.
use Prim.Native.Nat.{ℕ, zero, suc}
use Rattle.std.specs.Prelude.{Bool, false, List, [], ◌∷◌, ◌++◌, ◌≡◌}
use Rattle.std.proofs.Math.Path.{refl, sym}
use Rattle.std.proofs.Common.{ap, ◌∙◌}
use Rattle.model.specs.Sizes.{fuse_at}
use Rattle.model.specs.Lists.{at}
use Rattle.laws.specs.ListLaws.{tab_cong}
use Rattle.model.specs.Bits.{tries_left}
use Rattle.model.specs.Device.{Counter, of_password, of_authentication, counter_place, tries_of}
use Rattle.model.specs.At88sc1608.{at88sc1608}
use Rattle.model.specs.Instruction.{Instruction}
use Rattle.model.specs.Session.{end_of, initial, run}
use Rattle.properties.specs.AcceptedSession.{Accepts}
use Rattle.properties.proofs.SessionAcceptance.{accepted_run}
use Rattle.properties.specs.SessionSecret.{SessionsAlike}
use Rattle.text.specs.Text.{lines, tries_line, fuses_line}
use Rattle.listing.specs.Listing.{listing, listed, card_lines}

-- cards with equal counters have equal tries
tries_same : (c₁ c₂ : List ℕ) → ((n : Counter) → at c₁ (counter_place at88sc1608 n) ≡ at c₂ (counter_place at88sc1608 n))
    → tries_of at88sc1608 c₁ ≡ tries_of at88sc1608 c₂
unfolding tries_of
tries_same c₁ c₂ e =
    let t = tab_cong _ _ 16 (λ k l. ap tries_left (e (of_password k))) in
    λ i. t i ++ (tries_left (e of_authentication i) ∷ [])

module _ (hidden : ℕ → Bool) (s₁ s₂ log : List ℕ) (shown : hidden fuse_at ≡ false) (alike : SessionsAlike hidden s₁ s₂ log) where
  accepted : (ks₁ ks₂ : List Instruction) → Accepts s₁ log ks₁ → Accepts s₂ log ks₂ → listed s₁ 0 ≡ listed s₂ 0
  unfolding card_lines
  accepted ks₁ ks₂ a₁ a₂ =
      let r = alike.records ks₁ ks₂ a₁ a₂ in
      let t = tries_same (end_of ks₁ (initial s₁)).card (end_of ks₂ (initial s₂)).card r.counters in
      let f = r.cards.same fuse_at shown in
      rw (a₁.reads, a₂.reads) (λ i. lines 0 (r.entries i) ++ (tries_line (t i) ++ fuses_line (f i)))

  pub same_listing : listing s₁ log ≡ listing s₂ log
  unfolding listing
  same_listing = go (run s₁ log).refusal refl
    where
      go : (n : ℕ) → (run s₁ log).refusal ≡ n → listed s₁ (run s₁ log).refusal ≡ listed s₂ (run s₂ log).refusal
      go zero e =
          let f = sym alike.runs.refusal ∙ e in
          let a₁ = accepted_run s₁ log e in
          let a₂ = accepted_run s₂ log f in
          rw (e, f) (accepted a₁.0 a₂.0 a₁.1 a₂.1)
      go (suc n) e = rw (e, sym alike.runs.refusal ∙ e)
