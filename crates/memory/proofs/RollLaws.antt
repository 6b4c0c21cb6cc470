-- A read that rolls over, run by run.
use Prim.Native.Nat.{ℕ, ◌+◌, ◌-◌, ◌%◌, ◌≤◌, ◌<◌, min}
use mathlib.Core.List.{List, ◌++◌}
use mathlib.Core.Path.{◌≡◌, refl, sym, ap, ◌∙◌}
use native.Mathlib.Omega.{arith}
use lib.ListN.{length, take, drop}
use lib.Seq.{sets, length-sets}
use Rattle.model.specs.Lists.{at, tab}
use Rattle.laws.specs.ListLaws.{length_tab, tab_cong, tab_add, tab_part}
use Rattle.laws.specs.NumberLaws.{sets_append, sets_front}

module _ (card : List ℕ) (base address : ℕ) where
  abbrev byte : ℕ → ℕ
  byte k = at card (base + (address + k) % 256)

  -- what is known when i bytes are answered: the next one is where the last run ended
  pub record Rolling (count i next : ℕ) (response₀ response : List ℕ) : Type 0 where
    pub few : i ≤ count
    pub low : next < 256
    pub follows : i < count → (address + i) % 256 ≡ next
    pub shown : response ≡ sets response₀ 0 (tab byte i)

  pub rolling_start : (count : ℕ) (response : List ℕ) → address < 256 → Rolling count 0 address response response
  unfolding tab
  rolling_start count response h = record { few = omega arith; low = h; follows = λ _. omega arith; shown = refl }

  module _ (count i next : ℕ) (response₀ response : List ℕ) (p : Rolling count i next response₀ response) where
    pub rolling_long : length response ≡ length response₀
    rolling_long = ap length p.shown ∙ length-sets response₀ 0 (tab byte i)

    pub rolling_next : (run : ℕ) (response' : List ℕ) → i < count → base + 256 ≤ length card → run ≡ min (count - i) (256 - next)
        → response' ≡ sets response i (take run (drop (base + next) card)) → Rolling count (i + run) 0 response₀ response'
    rolling_next run response' more long e q =
        let low = p.low in
        let f = p.follows more in
        let part : take run (drop (base + next) card) ≡ tab (λ k. byte (i + k)) run =
        sym (tab_part card (base + next) run (omega arith))
        ∙ tab_cong _ _ run (λ k h. let w : base + next + k ≡ base + (address + (i + k)) % 256 = omega arith in ap (at card) w) in
        let z : i ≡ 0 + length (tab byte i) = (let l = length_tab byte i in omega arith) in
        record {
          few = omega arith;
          low = omega arith;
          follows = λ h. omega arith;
          shown =
              q ∙ ap (sets response i) part ∙ ap (λ (l : List ℕ). sets l i (tab (λ k. byte (i + k)) run)) p.shown
              ∙ ap (λ (k : ℕ). sets (sets response₀ 0 (tab byte i)) k (tab (λ j. byte (i + j)) run)) z
              ∙ sets_append response₀ 0 (tab byte i) (tab (λ k. byte (i + k)) run)
              ∙ ap (sets response₀ 0) (sym (tab_add byte i run));
        }

    pub rolling_done : count ≤ i → count ≤ length response₀ → response ≡ tab byte count ++ drop count response₀
    rolling_done h l =
        let few = p.few in
        let z : i ≡ count = omega arith in
        let n = length_tab byte count in
        p.shown ∙ ap (λ (k : ℕ). sets response₀ 0 (tab byte k)) z ∙ sets_front response₀ (tab byte count) (omega arith)
        ∙ ap (λ (k : ℕ). tab byte count ++ drop k response₀) n
