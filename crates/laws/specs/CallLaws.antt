-- Laws of the single command over any state, command type and act: when a call is admitted, and that what every act keeps,
-- every call and every list of calls keeps.
use Rattle.std.specs.Prelude.{ℕ, zero, suc, ◌≤◌, Bool, true, false, cond, ◌≡◌, ltb, length}
use mathlib.Core.List.{List, [], ◌∷◌}
use Rattle.std.proofs.Math.Path.{refl}
use Rattle.std.proofs.Common.{arith}
use borrow.Author.Tests.{ltb-false, le-ltb}
use Rattle.model.specs.Refusal.{bytes_left, no_space}
use Rattle.model.specs.Call.{Acted, Powered, Decoded, refused, whole, Call, checked, exact, fitting, admission, admit, carried, command, step, final}

-- a refusal is no accepted record
pub refused_whole : {K : Type 0} (r : ℕ) (k : K) (n : ℕ) → refused r ≡ whole k n → ⊥
refused_whole r k n e = let z : ◌≡◌ {A = ℕ} 0 1 = cc in omega arith

-- what stands behind a refusal in a chain of tests: of numbers, and of decoded records
pub clear : (t : Bool) (r d : ℕ) → cond t (suc r) d ≡ 0 → (t ≡ false) × (d ≡ 0)
clear true r d e = absurd (let z : ⊥ = omega arith in z)
clear false r d e = (refl, e)

pub past : {K : Type 0} (t : Bool) (r : ℕ) (d : Decoded K) (k : K) (n : ℕ) → cond t (refused r) d ≡ whole k n → (t ≡ false) × (d ≡ whole k n)
past true r d k n e = absurd (refused_whole r k n e)
past false r d k n e = (refl, e)

past_check : {K : Type 0} (r : ℕ) (d : Decoded K) (k : K) (n : ℕ) → checked r d ≡ whole k n → (r ≡ 0) × (d ≡ whole k n)
past_check zero d k n e = (refl, e)
past_check (suc r) d k n e = absurd (refused_whole (suc r) k n e)

past_exact : {K : Type 0} (bytes : List ℕ) (d : Decoded K) (k : K) (n : ℕ) → exact bytes d ≡ whole k n → (d ≡ whole k n) × (length bytes ≤ n)
past_exact bytes (refused r) k n e = absurd (refused_whole r k n e)
past_exact bytes (whole k' n') k n e =
    let p = past (ltb n' (length bytes)) bytes_left (whole k' n') k n e in
    let q : n' ≡ n = (let r = p.1 in cc) in
    (p.1, rw q at (ltb-false n' (length bytes) p.0))

module _ {S K : Type 0} (check : List ℕ → S → ℕ) (decode : List ℕ → Decoded K) (act : List ℕ → S → K → Acted S) where
  -- a call that is carried out
  pub record Admitted (c : List ℕ) (s : S) (x : Call) (k : K) (n : ℕ) : Type 0 where
    pub checks : check c s ≡ 0
    pub decodes : decode x.sent ≡ whole k n
    pub exactly : length x.sent ≤ n
    pub fits : length (act c s k).report.answer ≤ length x.space

  past_fitting : (c : List ℕ) (s : S) (room : ℕ) (d : Decoded K) (k : K) (n : ℕ) → fitting check decode act c s room d ≡ whole k n
      → (d ≡ whole k n) × (length (act c s k).report.answer ≤ room)
  past_fitting c s room (refused r) k n e = absurd (refused_whole r k n e)
  past_fitting c s room (whole k' n') k n e =
      let p = past (ltb room (length (act c s k').report.answer)) no_space (whole k' n') k n e in
      let q : k' ≡ k = (let r = p.1 in cc) in
      (p.1, rw q at (ltb-false room (length (act c s k').report.answer) p.0))

  pub admitted : (c : List ℕ) (s : S) (x : Call) (k : K) (n : ℕ) → admit check decode act c s x ≡ whole k n → Admitted c s x k n
  unfolding admission
  admitted c s x k n e =
      let p = past_check (check c s) _ k n e in
      let q = past_fitting c s (length x.space) _ k n p.1 in
      let r = past_exact x.sent _ k n q.0 in
      record { checks = p.0; decodes = r.0; exactly = r.1; fits = q.1 }

  module _ (kind : List ℕ → S → K → ℕ) where
    -- and it is carried out
    pub carried_out : (c : List ℕ) (s : S) (x : Call) (k : K) (n : ℕ) → Admitted c s x k n
        → command check decode act kind c s x ≡ carried check decode act kind c s x.space (whole k n)
    unfolding admission command
    carried_out c s x k n a = rw (a.checks, a.decodes, le-ltb n (length x.sent) a.exactly, le-ltb (length x.space) _ a.fits)

    -- what holds of a card and a state, and after every act that is carried out on them, holds after a call
    pub call_leaves : (P : List ℕ → S → Type 0) (c : List ℕ) (s : S) (x : Call) → P c s
        → ((k : K) (n : ℕ) → admit check decode act c s x ≡ whole k n → P (act c s k).card (act c s k).report.state)
        → P (command check decode act kind c s x).card (command check decode act kind c s x).reply.state
    unfolding command
    call_leaves P c s x p h = go (admit check decode act c s x) refl
      where
        go : (d : Decoded K) → admit check decode act c s x ≡ d
            → P (carried check decode act kind c s x.space d).card (carried check decode act kind c s x.space d).reply.state
        go (refused n) e = p
        go (whole k n) e = h k n e

    module _ (P : List ℕ → S → Type 0)
        (keeps : (c : List ℕ) (s : S) (k : K) (part : List ℕ) (n : ℕ) → decode part ≡ whole k n → P c s → P (act c s k).card (act c s k).report.state) where
      pub call_keeps : (c : List ℕ) (s : S) (x : Call) → P c s
          → P (command check decode act kind c s x).card (command check decode act kind c s x).reply.state
      call_keeps c s x p = call_leaves P c s x p (λ k n e. keeps c s k x.sent n (admitted c s x k n e).decodes p)

      pub list_keeps : (xs : List Call) (m : Powered S) → P m.card m.state
          → P (final check decode act kind xs m).card (final check decode act kind xs m).state
      unfolding final
      list_keeps [] m p = p
      list_keeps (x ∷ xs) m p = list_keeps xs (step check decode act kind m x) (call_keeps m.card m.state x p)
