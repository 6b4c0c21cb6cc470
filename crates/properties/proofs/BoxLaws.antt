-- Of the box: 18 at its place among the conditions, what it accepts, and that it then does what an exam machine does.
use Rattle.std.specs.Prelude.{ℕ, ◌+◌, ◌≤◌, Bool, not, ◌&&◌, ◌||◌, List, ◌↔◌, ◌≡◌, ltb, length, take, drop}
use Rattle.std.proofs.Math.Bool.{true, false, cond}
use Rattle.std.proofs.Math.Path.{refl}
use Rattle.std.proofs.Common.{sym, ap, ◌∙◌, arith, ltb-false, le-ltb}
use Rattle.std.proofs.Math.Seq.{take-append_seam}
use Rattle.model.specs.Sizes.{box_session, box_records, least_log}
use Rattle.model.specs.Lists.{Bytes}
use Rattle.model.specs.Instruction.{Instruction}
use Rattle.model.specs.LogCheck.{fetch}
use Rattle.model.specs.Refusal.{box_limits}
use Rattle.model.specs.Session.{count_of, wrong_length, wrong_trailer, wrong_start, wrong_count, initial, full_entries, log_of}
use Rattle.model.specs.Session.{Ran, rejected, run}
use Rattle.model.specs.Box.{beyond_box, box_refuses, box_run}
use Rattle.properties.specs.AcceptedSession.{Accepts, accepting}
use Rattle.properties.specs.AcceptedSessionLaws.{accepted_commands}
use Rattle.properties.specs.AcceptedSessionLaws as exam
use Rattle.properties.specs.Conditions.{first}
use Rattle.properties.specs.ConditionsLaws.{Numbered, some, none_applies}
use Rattle.properties.specs.SessionConditions.{session_conditions}
use Rattle.properties.proofs.SessionRefusalLaws.{refusal_first, session_numbered, refusal_most}
use Rattle.properties.specs.BoxConditions.{WithinBox, BoxAccepts, box_conditions}
use Rattle.properties.specs.FetchLaws.{valid_headers}
use Rattle.properties.specs.ReadBack.{valid_back, count_back}

-- ---- tests

-- one number more, judged where none of four before it applies
inserted : (a b c d x : Bool) (n : ℕ)
    → cond (not (a || (b || (c || d))) && x) box_limits (cond a 1 (cond b 2 (cond c 3 (cond d 4 n))))
    ≡ cond a 1 (cond b 2 (cond c 3 (cond d 4 (cond x box_limits n))))
inserted true b c d x n = refl
inserted false true c d x n = refl
inserted false false true d x n = refl
inserted false false false true x n = refl
inserted false false false false x n = refl

none_before : (a b c d x : Bool) → a ≡ false → b ≡ false → c ≡ false → d ≡ false → (not (a || (b || (c || d))) && x) ≡ x
none_before a b c d x p q r t = rw (p, q, r, t)

pub neither : (a b : Bool) → (a || b) ≡ false → (a ≡ false) × (b ≡ false)
neither false b e = (refl, e)
neither true b e = absurd (let z : ◌≡◌ {A = ℕ} 0 1 = cc in let w : ⊥ = omega arith in w)

-- ---- a session

module _ (s space : List ℕ) where
  -- by whether the limits refuse it
  pub limited : box_refuses s ≡ true → box_run s space ≡ rejected box_limits space
  unfolding box_run
  limited e = rw e

  pub unlimited : box_refuses s ≡ false → box_run s space ≡ run s space
  unfolding box_run
  unlimited e = rw e

  -- ---- the order

  pub box_first : (box_run s space).refusal ≡ first (box_conditions s space) 0
  unfolding box_run box_refuses
  box_first =
      number (not (wrong_length s || (wrong_trailer s || (wrong_start s || wrong_count s))) && beyond_box s)
      ∙ inserted (wrong_length s) (wrong_trailer s) (wrong_start s) (wrong_count s) (beyond_box s) _
    where
      number : (t : Bool) → (cond t (rejected box_limits space) (run s space)).refusal ≡ cond t box_limits (first (session_conditions s space) 0)
      number true = refl
      number false = refusal_first s space

  pub box_numbered : Numbered (box_conditions s space)
  box_numbered = (some _, (some _, (some _, (some _, (some _, (session_numbered s space).1.1.1.1)))))

  -- ---- what is accepted

  unrefused : (box_run s space).refusal ≡ 0 → box_refuses s ≡ false
  unrefused e = go (box_refuses s) refl
    where
      go : (t : Bool) → box_refuses s ≡ t → t ≡ false
      go true q = absurd (let z : box_limits ≡ 0 = sym (ap (λ (r : Ran). r.refusal) (limited q)) ∙ e in let w : ⊥ = omega arith in w)
      go false q = refl

  pub accepted_same : (box_run s space).refusal ≡ 0 → run s space ≡ box_run s space
  accepted_same e = sym (unlimited (unrefused e))

  -- where an exam machine accepts, the limits alone decide
  limits_decide : (run s space).refusal ≡ 0 → box_refuses s ≡ beyond_box s
  unfolding box_refuses
  limits_decide e =
      let n = none_applies (session_conditions s space) (session_numbered s space) (sym (refusal_first s space) ∙ e) in
      none_before (wrong_length s) (wrong_trailer s) (wrong_start s) (wrong_count s) (beyond_box s) n.0 n.1.0 n.1.1.0 n.1.1.1.0

  outside : WithinBox s → beyond_box s ≡ false
  outside w = rw (le-ltb _ _ w.short, le-ltb _ _ w.few)

  within : (run s space).refusal ≡ 0 → box_refuses s ≡ false → WithinBox s
  within e q =
      let n = neither (ltb box_session (length s)) (ltb box_records (count_of s)) (sym (limits_decide e) ∙ q) in
      record { short = ltb-false _ _ n.0; few = ltb-false _ _ n.1 }

  exam_accepts : (box_run s space).refusal ≡ 0 → (run s space).refusal ≡ 0
  exam_accepts e = ap (λ (r : Ran). r.refusal) (accepted_same e) ∙ e

  box_accepts : (run s space).refusal ≡ 0 → WithinBox s → box_run s space ≡ run s space
  box_accepts e w = unlimited (limits_decide e ∙ outside w)

  pub accepted_iff : ((box_run s space).refusal ≡ 0) ↔ (((run s space).refusal ≡ 0) × WithinBox s)
  accepted_iff =
      ((λ e. (exam_accepts e, within (exam_accepts e) (unrefused e))), (λ p. ap (λ (r : Ran). r.refusal) (box_accepts p.0 p.1) ∙ p.0))

  -- no other number is 18
  pub limits_iff : ((box_run s space).refusal ≡ box_limits) ↔ (box_refuses s ≡ true)
  limits_iff = ((λ e. go (box_refuses s) refl e), (λ q. ap (λ (r : Ran). r.refusal) (limited q)))
    where
      go : (t : Bool) → box_refuses s ≡ t → (box_run s space).refusal ≡ box_limits → t ≡ true
      go true q e = refl
      go false q e =
          let z : (run s space).refusal ≡ box_limits = ap (λ (r : Ran). r.refusal) (sym (unlimited q)) ∙ e in
          absurd (let m = refusal_most s space in let w : ⊥ = omega arith in w)

  -- ---- its log

  pub accepted_instructions : (box_run s space).refusal ≡ 0 → (ks : List Instruction) × BoxAccepts s space ks
  accepted_instructions e =
      let a = accepted_commands s space (exam_accepts e) in
      (a.0, (a.1, within (exam_accepts e) (unrefused e)))

  pub unrefused_accepts : box_refuses s ≡ false → (ks : List Instruction) → Accepts s space ks → BoxAccepts s space ks
  unrefused_accepts e ks a = (a, within (ap (λ (r : Ran). r.refusal) (exam.accepted_log s space ks a)) e)

  module _ (ks : List Instruction) (a : BoxAccepts s space ks) where
    pub accepted_log : box_run s space ≡ accepting (log_of s ks) space
    accepted_log =
        let e = exam.accepted_log s space ks a.0 in
        box_accepts (ap (λ (r : Ran). r.refusal) e) a.1 ∙ e

    pub accepts_unrefused : box_refuses s ≡ false
    accepts_unrefused = unrefused (ap (λ (r : Ran). r.refusal) accepted_log)

    log_front : take (box_run s space).size (box_run s space).space ≡ log_of s ks
    log_front = ap (λ (r : Ran). take r.size r.space) accepted_log ∙ take-append_seam (log_of s ks) (drop (length (log_of s ks)) space)

pub same_log : (s space₁ space₂ : List ℕ) → (box_run s space₁).refusal ≡ 0 → length space₁ ≡ length space₂
    → ((run s space₂).refusal ≡ 0) × ((run s space₂).size ≡ (box_run s space₁).size)
    × (take (run s space₂).size (run s space₂).space ≡ take (box_run s space₁).size (box_run s space₁).space)
same_log s space₁ space₂ e l =
    let a = accepted_instructions s space₁ e in
    let ks = a.0 in
    let room : full_entries ks (initial s) + least_log ≤ length space₂ = let r = a.1.0.room in omega arith in
    let b : Accepts s space₂ ks = record { frames = a.1.0.frames; reads = a.1.0.reads; room = room } in
    let x = exam.accepted_log s space₂ ks b in
    let y = accepted_log s space₁ ks a.1 in (
      ap (λ (r : Ran). r.refusal) x,
      ap (λ (r : Ran). r.size) x ∙ sym (ap (λ (r : Ran). r.size) y),
      ap (λ (r : Ran). take r.size r.space) x ∙ take-append_seam (log_of s ks) (drop (length (log_of s ks)) space₂)
          ∙ sym (log_front s space₁ ks a.1),
    )

-- ---- the headers that are read in it

pub few_headers : (s space : List ℕ) → Bytes s → (box_run s space).refusal ≡ 0 → (k : ℕ)
    → (let headers = (fetch (take (box_run s space).size (box_run s space).space) k).headers in (headers ≡ count_of s) × (headers ≤ box_records))
few_headers s space bytes e k =
    let a = accepted_instructions s space e in
    let l = log_of s a.0 in
    let h : (fetch l k).headers ≡ count_of s =
    valid_headers l k (valid_back s space a.0 bytes a.1.0) ∙ count_back s space a.0 bytes a.1.0 in
    rw (log_front s space a.0 a.1) (h, let f = a.1.1.few in omega arith)
