-- Information flow, for any device: laws under which hidden places stay hidden, and from them that no list of calls tells two
-- cards apart that agree outside those places.
use Rattle.std.specs.Prelude.{ℕ, zero, suc, ◌+◌, ◌≤◌, ◌<◌, Bool, true, false, not, ◌&&◌, ◌||◌, ◌≡◌, ltb, length}
use Rattle.std.proofs.Math.Bool.{cond}
use Rattle.std.proofs.Common.{true≢false, ap, ◌∙◌, arith, eqb-true, eq-eqb}
use mathlib.Core.List.{List, [], ◌∷◌}
use Rattle.std.proofs.Math.Path.{refl, sym, subst}
use Rattle.std.proofs.Math.Dec.{leb, eqb}
use Rattle.model.specs.Lists.{at, same_list}
use Rattle.laws.specs.ListLaws.{length_tab, tab_cong, at_tab, same_list_false}
use Rattle.model.specs.Volatile.{Volatile, power_up}
use Rattle.model.specs.Instruction.{Command, verify_password, Instruction, power_cycle, issue, wait, poll, write_staged, arm, kind_of}
use Rattle.model.specs.Cells.{Cell, write_cells}
use Rattle.model.specs.Device.{Device}
use Rattle.model.specs.Refusal.{card_length, fuse_byte, staging_bytes, state_out_of_range}
use Rattle.model.specs.Call.{powered, Acted, Decoded, Call, replies, final}
use Rattle.model.specs.Apply.{rules, password, apply}
use Rattle.model.specs.Staging.{idle_flag, ready_flag, is_ready, staged_at, staged_zone, staged_address, staged_length, staged_values, may_stage, final_values}
use Rattle.model.specs.Staging.{finish_cells, stage_cells, cells_under, tears_in}
use Rattle.model.specs.State.{untorn, State, timed, power_on, power_lost, write_time, is_busy, make_state}
use Rattle.model.specs.Busy.{acts_always, acts_busy, ignores, answered_kind}
use Rattle.model.specs.Act.{laid, cycled, staged, perform, act}
use Rattle.model.specs.Single.{is_fuse_byte, state_in_range, check_of}
use Rattle.laws.specs.StagingLaws.{Stages, names_kept, Fate, none, all, still, Torn, finished}
use Rattle.laws.specs.StagingLaws as staging
use Rattle.laws.specs.BusyLaws.{full_answer, act_ignored, act_performed, given_answer_lem, staged_meets, after_tear}
use Rattle.laws.specs.Effects.{Move, moves}
use Rattle.laws.specs.Sane.{Untouched, keeps, card_length_lem}
use Rattle.secrecy.specs.Along.{Along}
use Rattle.secrecy.specs.Secret.{AgreeOutside, OnCommand, StagesIn}
use Rattle.secrecy.specs.Unwinding.{Open, rules_same, busy_same, unwind}
use Rattle.secrecy.specs.TwoRows.{Like, like_cells, like_length, like_append, like_one, like_row, like_under, one_more}
use Rattle.secrecy.specs.TwoRuns.{list_same}

-- Laws of a device: rule bytes and passwords lie before the staging bytes and in no zone, and no command writes a staging byte.
pub record Apart (D : Device) : Type 0 where
  pub stages : Stages D
  pub rule_below : (k : ℕ) → D.rule_at k < D.flag_at
  pub rule_outside : (k z a n : ℕ) → D.rule_at k ≡ D.zone_cell z a n → ⊥
  pub password_below : (j i : ℕ) → D.password_byte j i < D.flag_at
  pub password_outside : (j i z a n : ℕ) → D.password_byte j i ≡ D.zone_cell z a n → ⊥
  pub staging_kept : (ρ : List ℕ) (s : Volatile) (j : ℕ) → D.flag_at ≤ j → Untouched D ρ s j
  pub staging_apart : (j : ℕ) → D.flag_at ≤ j → j ≡ D.fuse_at → ⊥

-- Laws of a device with rule bytes ρ, while the state is locked.
pub record Confines (D : Device) (ρ : List ℕ) (hidden secret : ℕ → Bool) (Locked : Volatile → Type 0) : Type 0 where
  -- what a card decides by is not hidden; nor are the passwords that are not secret
  pub decides : Open D hidden
  pub password_open : (j i : ℕ) → secret j ≡ false → hidden (D.password_byte j i) ≡ false
  -- no hidden place can be read, and no secret password be written
  pub unreadable : (s : Volatile) → Locked s → (i : ℕ) → hidden i ≡ true → D.may_read ρ s i ≡ false
  pub password_kept : (s : Volatile) → Locked s → (j i : ℕ) → secret j ≡ true → Untouched D ρ s (D.password_byte j i)
  pub password_apart : (j i : ℕ) → D.password_byte j i ≡ D.fuse_at → ⊥
  -- the rule bytes stand for good: none can be written, and no fuse is left to blow
  pub rule_kept : (s : Volatile) (k : ℕ) → Untouched D ρ s (D.rule_at k)
  pub last_stage : (k : ℕ) → k < D.rule_count → D.rule_at k ≡ D.fuse_at → D.blow (at ρ k) ≡ at ρ k
  pub apart : Apart D

-- Conditions on a command: no secret password of either card, as it stands at the start, is presented; and the state stays locked.
pub record Allows (D : Device) (b₁ b₂ : List ℕ) (secret : ℕ → Bool) (Locked : Volatile → Type 0) (Ok : Command → Type 0) : Type 0 where
  pub unpresented : (j : ℕ) (xs : List ℕ) → Ok (verify_password j xs) → secret j ≡ true
      → (xs ≡ password D b₁ j → ⊥) × (xs ≡ password D b₂ j → ⊥)
  pub powers_locked : Locked power_up
  pub stays_locked : (c : List ℕ) (s t : Volatile) (k : Command) → Locked s → Ok k
      → ((j : ℕ) (xs : List ℕ) → k ≡ verify_password j xs → same_list xs (password D c j) ≡ true → secret j ≡ false)
      → Move D c s k t → Locked t

-- the secret passwords of a card c stand as on a card b
abbrev pub Held : Device → (ℕ → Bool) → List ℕ → List ℕ → Type 0
Held D secret b c = (j i : ℕ) → secret j ≡ true → at c (D.password_byte j i) ≡ at b (D.password_byte j i)

-- A staged write that is not finished is of a length that exists, and both cards stage the same value for every byte of it that is not hidden.
pub record Pending (D : Device) (hidden : ℕ → Bool) (c₁ c₂ : List ℕ) : Type 0 where
  pub few : staged_length D c₁ ≤ D.most_staged
  pub same : (k : ℕ) → k < staged_length D c₁ → hidden (D.zone_cell (staged_zone D c₁) (staged_address D c₁) k) ≡ false
      → at (staged_values D c₁) k ≡ at (staged_values D c₂) k

-- the invariant of two runs that started on b₁ and b₂, at their common state
pub record Related (D : Device) (ρ : List ℕ) (hidden secret : ℕ → Bool) (Locked : Volatile → Type 0) (b₁ b₂ c₁ c₂ : List ℕ) (s : Volatile) : Type 0 where
  pub agree : AgreeOutside hidden c₁ c₂
  pub ruled₁ : rules D c₁ ≡ ρ
  pub ruled₂ : rules D c₂ ≡ ρ
  pub held₁ : Held D secret b₁ c₁
  pub held₂ : Held D secret b₂ c₂
  pub locked : Locked s
  pub sized : length c₁ ≡ D.size
  pub idle : is_ready D c₁ ≡ false → at c₁ D.flag_at ≡ idle_flag
  pub pending : is_ready D c₁ ≡ true → Pending D hidden c₁ c₂

-- an instruction whose staged bytes have their place
abbrev pub Short : Device → Instruction → Type 0
Short D i = (a : ℕ) (xs : List ℕ) → i ≡ write_staged a xs → length xs ≤ D.most_staged

module _ (D : Device) (ρ : List ℕ) (hidden secret : ℕ → Bool) (Locked : Volatile → Type 0) (Ok : Command → Type 0) (b₁ b₂ : List ℕ)
    (confines : Confines D ρ hidden secret Locked) (allows : Allows D b₁ b₂ secret Locked Ok)
    (Zone : ℕ → Type 0) (discloses : (z a j k : ℕ) → Zone z → j < D.most_staged → hidden (staged_at D (3 + j)) ≡ false → hidden (D.zone_cell z a k) ≡ false)
  where
    abbrev R : List ℕ → List ℕ → Volatile → Type 0
    R = Related D ρ hidden secret Locked b₁ b₂

    -- ---- one card

    rule_is : (c : List ℕ) → rules D c ≡ ρ → (k : ℕ) → k < D.rule_count → at c (D.rule_at k) ≡ at ρ k
    rule_is c e k l = sym (at_tab _ D.rule_count k l) ∙ ap (λ (r : List ℕ). at r k) e

    rules_stay : (c : List ℕ) (s : Volatile) (k : Command) → rules D c ≡ ρ → rules D (apply D c s k).card ≡ ρ
    rules_stay c s k e =
        tab_cong _ _ D.rule_count
        (λ n l. keeps D c s k (D.rule_at n) (rw e (confines.rule_kept s n))
        (λ q. let w = rule_is c e n l in ap D.blow w ∙ confines.last_stage n l q ∙ sym w))
        ∙ e

    held_stays : (b c : List ℕ) (s : Volatile) (k : Command) → rules D c ≡ ρ → Locked s → Held D secret b c → Held D secret b (apply D c s k).card
    held_stays b c s k e l h j i t =
        keeps D c s k (D.password_byte j i) (rw e (confines.password_kept s l j i t)) (λ q. absurd (confines.password_apart j i q)) ∙ h j i t

    password_held : (b c : List ℕ) → Held D secret b c → (j : ℕ) → secret j ≡ true → password D c j ≡ password D b j
    password_held b c h j t = tab_cong _ _ D.password_count (λ i l. h j i t)

    -- a write that is torn or not leaves rules and secret passwords
    torn_rules : (c : List ℕ) (z a : ℕ) (vs d : List ℕ) → Torn D c z a vs d → rules D c ≡ ρ → rules D d ≡ ρ
    torn_rules c z a vs d t e =
        tab_cong _ _ D.rule_count (λ n l. t.others (D.rule_at n) (confines.apart.rule_below n) (λ k h q. confines.apart.rule_outside n z a k q)) ∙ e

    torn_held : (b c : List ℕ) (z a : ℕ) (vs d : List ℕ) → Torn D c z a vs d → Held D secret b c → Held D secret b d
    torn_held b c z a vs d t h j i s =
        t.others (D.password_byte j i) (confines.apart.password_below j i) (λ k l q. confines.apart.password_outside j i z a k q) ∙ h j i s

    -- ---- two cards

    -- what no command changes: a pending write stays so
    pending_kept : (c₁ c₂ d₁ d₂ : List ℕ) → ((j : ℕ) → D.flag_at ≤ j → at d₁ j ≡ at c₁ j) → ((j : ℕ) → D.flag_at ≤ j → at d₂ j ≡ at c₂ j)
        → Pending D hidden c₁ c₂ → Pending D hidden d₁ d₂
    pending_kept c₁ c₂ d₁ d₂ same₁ same₂ p =
        let n₁ = names_kept D _ _ _ c₁ d₁ (λ j l. same₁ j (omega arith)) (record { zone = refl; address = refl; final = refl }) in
        let n₂ = names_kept D _ _ _ c₂ d₂ (λ j l. same₂ j (omega arith)) (record { zone = refl; address = refl; final = refl }) in
        let long : staged_length D d₁ ≡ staged_length D c₁ = same₁ (staged_at D 2) (omega arith) in
        record {
          few = rw long p.few;
          same = λ k l o. ap (λ (x : List ℕ). at x k) n₁.final ∙ p.same k (rw long at l) (rw (n₁.zone, n₁.address) at o)
              ∙ sym (ap (λ (x : List ℕ). at x k) n₂.final);
        }

    -- a password that is presented is right on both cards or on neither; a secret one on neither
    wrong : (b c : List ℕ) → Held D secret b c → (j : ℕ) (xs : List ℕ) → secret j ≡ true → (xs ≡ password D b j → ⊥) → same_list xs (password D c j) ≡ false
    wrong b c h j xs t ne = same_list_false xs (password D c j) (λ e. ne (e ∙ password_held b c h j t))

    judged_alike : (c₁ c₂ : List ℕ) (s : Volatile) → R c₁ c₂ s → (k : Command) → Ok k → (j : ℕ) (xs : List ℕ) → k ≡ verify_password j xs
        → same_list xs (password D c₁ j) ≡ same_list xs (password D c₂ j)
    judged_alike c₁ c₂ s r k ok j xs e = go (secret j) refl
      where
        go : (t : Bool) → secret j ≡ t → same_list xs (password D c₁ j) ≡ same_list xs (password D c₂ j)
        go true t =
            let n = allows.unpresented j xs (subst Ok e ok) t in
            wrong b₁ c₁ r.held₁ j xs t n.0 ∙ sym (wrong b₂ c₂ r.held₂ j xs t n.1)
        go false t =
            ap (same_list xs) (tab_cong _ _ D.password_count (λ i l. r.agree.same _ (confines.password_open j i t)))

    opened_open : (c₁ c₂ : List ℕ) (s : Volatile) → R c₁ c₂ s → (k : Command) → Ok k → (j : ℕ) (xs : List ℕ) → k ≡ verify_password j xs
        → same_list xs (password D c₁ j) ≡ true → secret j ≡ false
    opened_open c₁ c₂ s r k ok j xs e right = go (secret j) refl
      where
        go : (t : Bool) → secret j ≡ t → t ≡ false
        go true t = absurd (true≢false (sym right ∙ wrong b₁ c₁ r.held₁ j xs t (allows.unpresented j xs (subst Ok e ok) t).0))
        go false t = refl

    pub unwinds : (c₁ c₂ : List ℕ) (s : Volatile) (k : Command) → R c₁ c₂ s → Ok k
        → ((apply D c₁ s k).report ≡ (apply D c₂ s k).report) × R (apply D c₁ s k).card (apply D c₂ s k).card (apply D c₁ s k).report.state
    unwinds c₁ c₂ s k r ok =
        let u =
        unwind D hidden confines.decides c₁ c₂ s r.agree
        (λ i t. rw r.ruled₁ (confines.unreadable s r.locked i t)) k (judged_alike c₁ c₂ s r k ok) in (
          u.0,
          record {
            agree = u.1;
            ruled₁ = rules_stay c₁ s k r.ruled₁;
            ruled₂ = rules_stay c₂ s k r.ruled₂;
            held₁ = held_stays b₁ c₁ s k r.ruled₁ r.locked r.held₁;
            held₂ = held_stays b₂ c₂ s k r.ruled₂ r.locked r.held₂;
            locked = allows.stays_locked c₁ s (apply D c₁ s k).report.state k r.locked ok (opened_open c₁ c₂ s r k ok) (moves D c₁ s k);
            sized = card_length_lem D c₁ s k ∙ r.sized;
            idle = λ e. stays c₁ r.ruled₁ D.flag_at (omega arith) ∙ r.idle (rw (stays c₁ r.ruled₁ D.flag_at (omega arith)) at e);
            pending = λ e. pending_kept c₁ c₂ _ _ (stays c₁ r.ruled₁) (stays c₂ r.ruled₂)
                (r.pending (rw (stays c₁ r.ruled₁ D.flag_at (omega arith)) at e));
          },
        )
      where
        stays : (c : List ℕ) → rules D c ≡ ρ → (j : ℕ) → D.flag_at ≤ j → at (apply D c s k).card j ≡ at c j
        stays c e j l = keeps D c s k j (confines.apart.staging_kept (rules D c) s j l) (λ q. absurd (confines.apart.staging_apart j l q))

    -- ---- cell writes

    -- both cards have the same flag, and the same zone, address and length staged
    flag_same : (c₁ c₂ : List ℕ) (s : Volatile) → R c₁ c₂ s → at c₁ D.flag_at ≡ at c₂ D.flag_at
    flag_same c₁ c₂ s r = r.agree.same D.flag_at confines.decides.flag

    named_same : (c₁ c₂ : List ℕ) (s : Volatile) → R c₁ c₂ s → (k : ℕ) → k < 3 → at c₁ (staged_at D k) ≡ at c₂ (staged_at D k)
    named_same c₁ c₂ s r k l = r.agree.same (staged_at D k) (confines.decides.named k l)

    -- Two cards on which the same bytes were written, torn alike or not, with equal values where they are not hidden, are related again.
    record Both (c₁ c₂ : List ℕ) (z a : ℕ) (vs₁ vs₂ d₁ d₂ : List ℕ) : Type 0 where
      torn₁ : Torn D c₁ z a vs₁ d₁
      torn₂ : Torn D c₂ z a vs₂ d₂
      few : length vs₁ ≤ D.most_staged
      values : (k : ℕ) → k < length vs₁ → hidden (D.zone_cell z a k) ≡ false → at vs₁ k ≡ at vs₂ k
      alike : AgreeOutside hidden d₁ d₂

    both_related : (c₁ c₂ : List ℕ) (s t : Volatile) (z a : ℕ) (vs₁ vs₂ d₁ d₂ : List ℕ) → R c₁ c₂ s → Both c₁ c₂ z a vs₁ vs₂ d₁ d₂ → Locked t → R d₁ d₂ t
    both_related c₁ c₂ s t z a vs₁ vs₂ d₁ d₂ r w l =
        record {
          agree = w.alike;
          ruled₁ = torn_rules c₁ z a vs₁ d₁ w.torn₁ r.ruled₁;
          ruled₂ = torn_rules c₂ z a vs₂ d₂ w.torn₂ r.ruled₂;
          held₁ = torn_held b₁ c₁ z a vs₁ d₁ w.torn₁ r.held₁;
          held₂ = torn_held b₂ c₂ z a vs₂ d₂ w.torn₂ r.held₂;
          locked = l;
          sized = w.torn₁.long ∙ r.sized;
          idle = λ e. idle_after w.torn₁.fate e;
          pending = λ e. pending_after w.torn₁.fate w.torn₂.fate (eqb-true _ _ e);
        }
      where
        idle_after : Fate D c₁ z a vs₁ d₁ → is_ready D d₁ ≡ false → at d₁ D.flag_at ≡ idle_flag
        idle_after (none f same) e = f
        idle_after (all f written) e = f
        idle_after (still f n) e = absurd (true≢false (sym (eq-eqb _ _ f) ∙ e))

        differ : {A : Type 0} → (x : ℕ) → x ≡ idle_flag → x ≡ ready_flag → A
        differ x p q = absurd (let z : ⊥ = omega arith in z)

        pending_after : Fate D c₁ z a vs₁ d₁ → Fate D c₂ z a vs₂ d₂ → at d₁ D.flag_at ≡ ready_flag → Pending D hidden d₁ d₂
        pending_after (none f same) g e = differ _ f e
        pending_after (all f written) g e = differ _ f e
        pending_after (still f n) (none g same) e = differ _ g (sym (w.alike.same D.flag_at confines.decides.flag) ∙ e)
        pending_after (still f n) (all g written) e = differ _ g (sym (w.alike.same D.flag_at confines.decides.flag) ∙ e)
        pending_after (still f n) (still g m) e =
            let long : staged_length D d₁ ≡ length vs₁ = sym (length_tab _ (staged_length D d₁)) ∙ ap length n.final in
            record {
              few = rw long w.few;
              same = λ k l o. ap (λ (x : List ℕ). at x k) n.final
                  ∙ w.values k (rw long at l) (rw (n.zone, n.address) at o) ∙ sym (ap (λ (x : List ℕ). at x k) m.final);
            }

    -- rows of cells that are alike, written under one tear
    laid_both : (c₁ c₂ : List ℕ) (v : Volatile) (t s : State) (z a : ℕ) (vs₁ vs₂ : List ℕ) (ws us : List Cell) → R c₁ c₂ v
        → Both c₁ c₂ z a vs₁ vs₂ (write_cells (cells_under D t.tear ws) c₁) (write_cells (cells_under D t.tear us) c₂) → length ws ≡ length us
        → Locked s.volatile
        → ((laid D c₁ t.tear s ws).report ≡ (laid D c₂ t.tear s us).report)
        × R (laid D c₁ t.tear s ws).card (laid D c₂ t.tear s us).card (laid D c₁ t.tear s ws).report.state.volatile
    laid_both c₁ c₂ v t s z a vs₁ vs₂ ws us r w e l = (
      (λ i. record { state = cond (tears_in t.tear (e i)) power_lost s; answer = []; tries = 0 }),
      both_related c₁ c₂ v _ z a vs₁ vs₂ _ _ r w
          (after_tear (λ u. Locked u.volatile) (tears_in t.tear (length ws)) s allows.powers_locked l),
    )

    finish_like : (z a : ℕ) (vs₁ vs₂ : List ℕ) → length vs₁ ≡ length vs₂
        → ((k : ℕ) → k < length vs₁ → hidden (D.zone_cell z a k) ≡ false → at vs₁ k ≡ at vs₂ k) → Like hidden (finish_cells D z a vs₁) (finish_cells D z a vs₂)
    finish_like z a vs₁ vs₂ l e = like_append hidden _ _ _ _ (like_row hidden (D.zone_cell z a) vs₁ vs₂ l e) (like_one hidden _ _)

    stage_like : (z a : ℕ) (vs₁ vs₂ : List ℕ) → length vs₁ ≡ length vs₂ → length vs₁ ≤ D.most_staged → Zone z
        → ((k : ℕ) → k < length vs₁ → hidden (D.zone_cell z a k) ≡ false → at vs₁ k ≡ at vs₂ k) → Like hidden (stage_cells D z a vs₁) (stage_cells D z a vs₂)
    stage_like z a vs₁ vs₂ l few y e =
        like_append hidden _ _ _ _ (like_row hidden (staged_at D) (z ∷ a ∷ length vs₁ ∷ vs₁) (z ∷ a ∷ length vs₂ ∷ vs₂) (ap (λ (n : ℕ). suc (suc (suc n))) l) go)
        (one_more D.flag_at ready_flag ready_flag (λ o. refl) (finish_like z a vs₁ vs₂ l e))
      where
        go : (k : ℕ) → k < suc (suc (suc (length vs₁))) → hidden (staged_at D k) ≡ false → at (z ∷ a ∷ length vs₁ ∷ vs₁) k ≡ at (z ∷ a ∷ length vs₂ ∷ vs₂) k
        go zero h o = refl
        go (suc zero) h o = refl
        go (suc (suc zero)) h o = l
        go (suc (suc (suc k))) h o =
            let p : staged_at D (suc (suc (suc k))) ≡ staged_at D (3 + k) = omega arith in
            e k (omega arith) (discloses z a k k y (omega arith) (rw p at o))

    -- ---- every instruction

    abbrev Does : List ℕ → List ℕ → Acted State → Acted State → Type 0
    Does c₁ c₂ u v = (u.report ≡ v.report) × R u.card v.card u.report.state.volatile

    cycles : (c₁ c₂ : List ℕ) (s : State) → R c₁ c₂ s.volatile → (t : Bool) → is_ready D c₁ ≡ t → Does c₁ c₂ (cycled D t c₁ s) (cycled D t c₂ s)
    cycles c₁ c₂ s r true e =
        subst (λ (z : ℕ). Does c₁ c₂ (cycled D true c₁ s) (laid D c₂ s.tear power_on (finish_cells D z (staged_address D c₂) (staged_values D c₂))))
        (named_same c₁ c₂ s.volatile r 0 (omega arith))
        (subst (λ (a : ℕ). Does c₁ c₂ (cycled D true c₁ s) (laid D c₂ s.tear power_on (finish_cells D (staged_zone D c₁) a (staged_values D c₂))))
        (named_same c₁ c₂ s.volatile r 1 (omega arith))
        (laid_both c₁ c₂ s.volatile s power_on (staged_zone D c₁) (staged_address D c₁) (staged_values D c₁) (staged_values D c₂) _ _ r both
        (like_length hidden _ _ like) allows.powers_locked))
      where
        p : Pending D hidden c₁ c₂
        p = r.pending e

        long : staged_length D c₁ ≡ staged_length D c₂
        long = named_same c₁ c₂ s.volatile r 2 (omega arith)

        longs : length (staged_values D c₁) ≡ length (staged_values D c₂)
        longs = length_tab _ (staged_length D c₁) ∙ long ∙ sym (length_tab _ (staged_length D c₂))

        values : (k : ℕ) → k < length (staged_values D c₁) → hidden (D.zone_cell (staged_zone D c₁) (staged_address D c₁) k) ≡ false
            → at (staged_values D c₁) k ≡ at (staged_values D c₂) k
        values k l o = p.same k (rw (length_tab _ (staged_length D c₁)) at l) o

        like : Like hidden (finish_cells D (staged_zone D c₁) (staged_address D c₁) (staged_values D c₁))
            (finish_cells D (staged_zone D c₁) (staged_address D c₁) (staged_values D c₂))
        like = finish_like (staged_zone D c₁) (staged_address D c₁) (staged_values D c₁) (staged_values D c₂) longs values

        few₁ : length (staged_values D c₁) ≤ D.most_staged
        few₁ = rw (length_tab _ (staged_length D c₁)) p.few

        few₂ : length (staged_values D c₂) ≤ D.most_staged
        few₂ = rw (← longs) few₁

        flag : at c₁ D.flag_at ≡ ready_flag
        flag = eqb-true _ _ e

        both : Both c₁ c₂ (staged_zone D c₁) (staged_address D c₁) (staged_values D c₁) (staged_values D c₂)
            (write_cells (cells_under D s.tear (finish_cells D (staged_zone D c₁) (staged_address D c₁) (staged_values D c₁))) c₁)
            (write_cells (cells_under D s.tear (finish_cells D (staged_zone D c₁) (staged_address D c₁) (staged_values D c₂))) c₂)
        both =
            record {
              torn₁ =
                  finished D confines.apart.stages _ _ _ few₁ c₁ c₁
                  (record {
                    long = refl;
                    size = r.sized;
                    before = λ i l u. refl;
                    ready = flag;
                    names = record { zone = refl; address = refl; final = refl };
                  })
                  s.tear;
              torn₂ =
                  finished D confines.apart.stages _ _ _ few₂ c₂ c₂
                  (record {
                    long = refl;
                    size = sym r.agree.long ∙ r.sized;
                    before = λ i l u. refl;
                    ready = sym (flag_same c₁ c₂ s.volatile r) ∙ flag;
                    names =
                        record {
                          zone = sym (named_same c₁ c₂ s.volatile r 0 (omega arith));
                          address = sym (named_same c₁ c₂ s.volatile r 1 (omega arith));
                          final = refl;
                        };
                  })
                  s.tear;
              few = few₁;
              values = values;
              alike = like_cells hidden _ _ c₁ c₂ (like_under hidden D s.tear _ _ like) r.agree;
            }
    cycles c₁ c₂ s r false e = (
      refl,
      record {
        agree = r.agree;
        ruled₁ = r.ruled₁;
        ruled₂ = r.ruled₂;
        held₁ = r.held₁;
        held₂ = r.held₂;
        locked = allows.powers_locked;
        sized = r.sized;
        idle = r.idle;
        pending = r.pending;
      },
    )

    stagings : (c₁ c₂ : List ℕ) (s : State) (a : ℕ) (xs : List ℕ) → R c₁ c₂ s.volatile → is_ready D c₁ ≡ false → length xs ≤ D.most_staged
        → (t : Bool) → (t ≡ true → Zone s.volatile.zone) → Does c₁ c₂ (staged D t c₁ s a xs) (staged D t c₂ s a xs)
    stagings c₁ c₂ s a xs r e few true y =
        laid_both c₁ c₂ s.volatile s (make_state s.volatile write_time s.off untorn) z a vs₁ vs₂ _ _ r both (like_length hidden _ _ like) r.locked
      where
        z : ℕ
        z = s.volatile.zone

        vs₁ : List ℕ
        vs₁ = final_values D c₁ z a xs

        vs₂ : List ℕ
        vs₂ = final_values D c₂ z a xs

        long₁ : length vs₁ ≡ length xs
        long₁ = length_tab _ (length xs)

        long₂ : length vs₂ ≡ length xs
        long₂ = length_tab _ (length xs)

        values : (k : ℕ) → k < length vs₁ → hidden (D.zone_cell z a k) ≡ false → at vs₁ k ≡ at vs₂ k
        values k l o =
            let h : k < length xs = rw long₁ at l in
            at_tab _ (length xs) k h
            ∙ (λ i. D.merge ((r.ruled₁ ∙ sym r.ruled₂) i) (D.zone_cell z a k) (r.agree.same (D.zone_cell z a k) o i) (at xs k))
            ∙ sym (at_tab _ (length xs) k h)

        like : Like hidden (stage_cells D z a vs₁) (stage_cells D z a vs₂)
        like = stage_like z a vs₁ vs₂ (long₁ ∙ sym long₂) (rw long₁ few) (y refl) values

        flag : at c₁ D.flag_at ≡ idle_flag
        flag = r.idle e

        both : Both c₁ c₂ z a vs₁ vs₂ (write_cells (cells_under D s.tear (stage_cells D z a vs₁)) c₁)
            (write_cells (cells_under D s.tear (stage_cells D z a vs₂)) c₂)
        both =
            record {
              torn₁ = staging.staged D confines.apart.stages z a vs₁ (rw long₁ few) c₁ r.sized flag s.tear;
              torn₂ =
                  staging.staged D confines.apart.stages z a vs₂ (rw long₂ few) c₂ (sym r.agree.long ∙ r.sized)
                  (sym (flag_same c₁ c₂ s.volatile r) ∙ flag) s.tear;
              few = rw long₁ few;
              values = values;
              alike = like_cells hidden _ _ c₁ c₂ (like_under hidden D s.tear _ _ like) r.agree;
            }
    stagings c₁ c₂ s a xs r e few false y = (refl, r)

    performs : (c₁ c₂ : List ℕ) (s : State) (i : Instruction) → R c₁ c₂ s.volatile → ignores D c₁ s i ≡ false → OnCommand Ok i → Short D i
        → StagesIn D Zone c₁ s i → Does c₁ c₂ (perform D c₁ s i) (perform D c₂ s i)
    unfolding perform
    performs c₁ c₂ s power_cycle r e ok short into =
        subst (λ (t : Bool). Does c₁ c₂ (cycled D (is_ready D c₁) c₁ s) (cycled D t c₂ s)) (ap (λ (f : ℕ). eqb f ready_flag) (flag_same c₁ c₂ s.volatile r))
        (cycles c₁ c₂ s r (is_ready D c₁) refl)
    performs c₁ c₂ s (issue k) r e ok short into =
        let u = unwinds c₁ c₂ s.volatile k r (ok k refl) in
        let b = busy_same D hidden confines.decides c₁ c₂ s.volatile k r.agree in
        (λ t. record { state = timed s (u.0 t).state (cond (b t) write_time 0); answer = (u.0 t).answer; tries = (u.0 t).tries }, u.1)
    performs c₁ c₂ s (wait n) r e ok short into = (refl, r)
    performs c₁ c₂ s poll r e ok short into = (refl, r)
    performs c₁ c₂ s (write_staged a xs) r e ok short into =
        subst (λ (ρ' : List ℕ). Does c₁ c₂ (staged D (may_stage D c₁ s.volatile a) c₁ s a xs)
        (staged D (D.may_write ρ' s.volatile (D.zone_cell s.volatile.zone a 0)) c₂ s a xs)) (r.ruled₁ ∙ sym r.ruled₂)
        (stagings c₁ c₂ s a xs r (staged_meets D c₁ s a xs e).1 (short a xs refl) (may_stage D c₁ s.volatile a) (λ m. into a xs refl e m))
    performs c₁ c₂ s (arm k junk) r e ok short into = (refl, r)

    ignores_same : (c₁ c₂ : List ℕ) (s : State) (i : Instruction) → R c₁ c₂ s.volatile → ignores D c₁ s i ≡ ignores D c₂ s i
    ignores_same c₁ c₂ s i r =
        ap (λ (f : ℕ). cond (s.off || eqb f ready_flag) (not (acts_always (kind_of i))) (is_busy s && not (acts_busy (kind_of i)))) (flag_same c₁ c₂ s.volatile r)

    -- the conditions on an instruction where it is carried out
    abbrev Right : List ℕ → State → Instruction → Type 0
    Right c s i = OnCommand Ok i × Short D i × StagesIn D Zone c s i

    acts : (c₁ c₂ : List ℕ) (s : State) (i : Instruction) → R c₁ c₂ s.volatile → Right c₁ s i → Does c₁ c₂ (act D c₁ s i) (act D c₂ s i)
    acts c₁ c₂ s i r ok = go (ignores D c₁ s i) refl
      where
        go : (t : Bool) → ignores D c₁ s i ≡ t → Does c₁ c₂ (act D c₁ s i) (act D c₂ s i)
        go true e = rw (act_ignored D c₁ s i e, act_ignored D c₂ s i (sym (ignores_same c₁ c₂ s i r) ∙ e)) (refl, r)
        go false e =
            rw (act_performed D c₁ s i e, act_performed D c₂ s i (sym (ignores_same c₁ c₂ s i r) ∙ e)) (performs c₁ c₂ s i r e ok.0 ok.1 ok.2)

    -- ---- every list, under every decoder

    checks : (c₁ c₂ : List ℕ) (s : State) → R c₁ c₂ s.volatile → check_of D c₁ s ≡ check_of D c₂ s
    unfolding check_of
    checks c₁ c₂ s r =
        let f = flag_same c₁ c₂ s.volatile r in
        let z = named_same c₁ c₂ s.volatile r 0 (omega arith) in
        let n = named_same c₁ c₂ s.volatile r 2 (omega arith) in
        λ i. cond (not (eqb (r.agree.long i) D.size)) card_length
        (cond (not (is_fuse_byte (r.agree.same D.fuse_at confines.decides.fuse i))) fuse_byte
        (cond (not (eqb (f i) idle_flag || (eqb (f i) ready_flag && (ltb (z i) D.zones && leb (n i) D.most_staged)))) staging_bytes
        (cond (not (state_in_range D s)) state_out_of_range 0)))

    pub indistinguishable : (decode : List ℕ → Decoded Instruction) (s : State) → rules D b₁ ≡ ρ → AgreeOutside hidden b₁ b₂ → Locked s.volatile
        → length b₁ ≡ D.size → at b₁ D.flag_at ≡ idle_flag
        → (xs : List Call) → Along (check_of D) decode (act D) (answered_kind D) Right xs (powered b₁ s)
        → (replies (check_of D) decode (act D) (answered_kind D) xs (powered b₁ s) ≡ replies (check_of D) decode (act D) (answered_kind D) xs (powered b₂ s))
        × AgreeOutside hidden (final (check_of D) decode (act D) (answered_kind D) xs (powered b₁ s)).card
        (final (check_of D) decode (act D) (answered_kind D) xs (powered b₂ s)).card
    indistinguishable decode s e h l long flag xs a =
        let begin : R b₁ b₂ s.volatile =
        record {
          agree = h;
          ruled₁ = e;
          ruled₂ = sym (rules_same D hidden confines.decides b₁ b₂ h) ∙ e;
          held₁ = λ j i t. refl;
          held₂ = λ j i t. refl;
          locked = l;
          sized = long;
          idle = λ q. flag;
          pending = λ q. absurd (true≢false (sym q ∙ ap (λ (f : ℕ). eqb f ready_flag) flag));
        } in
        let v =
        list_same (check_of D) decode (act D) (answered_kind D) (λ c₁ c₂ t. R c₁ c₂ t.volatile) Right checks
        (λ c₁ c₂ t i r. given_answer_lem D c₁ t i ∙ (λ j. cond (ignores_same c₁ c₂ t i r j) 0 (full_answer D i)) ∙ sym (given_answer_lem D c₂ t i))
        (λ c₁ c₂ t i r j. cond (ignores_same c₁ c₂ t i r j) (kind_of i + 128) (kind_of i))
        acts xs (powered b₁ s) (powered b₂ s) (refl, begin) a in
        (v.0, v.1.1.agree)
