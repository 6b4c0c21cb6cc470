-- Laws of what every instruction does, for any device: by whether it is ignored, how long its answer is, what it hands out, which cells it
-- writes, and what it keeps.
use Rattle.std.specs.Prelude.{ℕ, ◌+◌, ◌≤◌, ◌<◌, Bool, cond, not, ◌&&◌, ◌||◌, ◌≡◌}
use Rattle.std.proofs.Math.Bool.{true, false}
use Rattle.std.proofs.Common.{true≢false, sym, subst, ◌∙◌, le_refl}
use mathlib.Core.List.{List, [], ◌∷◌}
use Rattle.std.proofs.Math.Path.{refl}
use native.Mathlib.Omega.{arith}
use Rattle.std.proofs.Math.ListN.{length}
use Rattle.model.specs.Volatile.{Volatile, power_up}
use Rattle.model.specs.Instruction.{Command, reset, select, read_zone, write_zone, read_configuration, write_configuration, read_fuses, write_fuses, verify_password}
use Rattle.model.specs.Instruction.{begin_authentication, verify_authentication, Instruction, power_cycle, issue, wait, poll, write_staged, arm, kind_of}
use Rattle.model.specs.Device.{Device, Counter, counter_place}
use Rattle.model.specs.Call.{Acted, acted}
use Rattle.model.specs.Apply.{apply}
use Rattle.model.specs.Cells.{Cell, write_cells}
use Rattle.model.specs.State.{untorn, State, make_state, power_on, power_lost, write_time, is_busy}
use Rattle.model.specs.Staging.{is_ready, may_stage, final_values, stage_cells, pending_cells, cells_under, tears_in}
use Rattle.model.specs.Busy.{acts_always, acts_busy, is_halted, ignores, makes_busy}
use Rattle.model.specs.Act.{laid, cycled, staged, perform, act}
use Rattle.laws.specs.BoolLaws.{choice, and_false}
use Rattle.laws.specs.Effects.{answer_length, answer_length_lem, tries_after, hands_out}

-- how long the answer to an instruction is that is not ignored
abbrev pub full_answer : Device → Instruction → ℕ
full_answer D power_cycle = 0
full_answer D (issue k) = answer_length D k
full_answer D (wait n) = 0
full_answer D poll = 1
full_answer D (write_staged a xs) = 0
full_answer D (arm k junk) = 0

-- how long the answer is that is given
abbrev pub given_answer : Device → List ℕ → State → Instruction → ℕ
given_answer D c s i = cond (ignores D c s i) 0 (full_answer D i)

-- the tries left, on a card, of the counter that an instruction uses; an ignored one uses none
abbrev pub tries_used : Device → Instruction → List ℕ → ℕ
tries_used D power_cycle c = 0
tries_used D (issue k) c = tries_after D k c
tries_used D (wait n) c = 0
tries_used D poll c = 0
tries_used D (write_staged a xs) c = 0
tries_used D (arm k junk) c = 0

-- by the card that the instruction meets, and the card that it leaves
abbrev pub tries_given : Device → List ℕ → State → Instruction → List ℕ → ℕ
tries_given D c s i c' = cond (ignores D c s i) 0 (tries_used D i c')

-- the milliseconds of several waits in all
abbrev pub total : List ℕ → ℕ
total [] = 0
total (n ∷ ns) = n + total ns

pub given_most : (D : Device) (c : List ℕ) (s : State) (i : Instruction) → given_answer D c s i ≤ full_answer D i
given_most D c s i = choice (λ n. n ≤ full_answer D i) (ignores D c s i) 0 (full_answer D i) (omega arith) (le_refl _)

-- what holds of the state where no tear came, and of the one where it came, holds of the state after it
pub after_tear : (P : State → Type 0) (t : Bool) (s : State) → P power_lost → P s → P (cond t power_lost s)
after_tear P true s p q = p
after_tear P false s p q = q

module _ (D : Device) where
  -- a kind that acts at any time is never ignored; one that acts on a busy card is not, where the card is on and has nothing to finish; and
  -- where it is not busy either, none is
  pub never_ignored : (c : List ℕ) (s : State) (i : Instruction) → acts_always (kind_of i) ≡ true → ignores D c s i ≡ false
  never_ignored c s i e = rw e (go (is_halted D c s))
    where
      go : (t : Bool) → cond t false (is_busy s && false) ≡ false
      go true = refl
      go false = and_false (is_busy s)

  pub heeded_busy : (c : List ℕ) (s : State) (i : Instruction) → is_halted D c s ≡ false → acts_busy (kind_of i) ≡ true → ignores D c s i ≡ false
  heeded_busy c s i h e = rw (h, e) (and_false (is_busy s))

  pub heeded : (c : List ℕ) (s : State) (i : Instruction) → is_halted D c s ≡ false → is_busy s ≡ false → ignores D c s i ≡ false
  heeded c s i h e = rw (h, e)

  -- off, all but a power cycle and an arming are ignored
  pub command_waits : (k : Command) → acts_always (kind_of (issue k)) ≡ false
  command_waits reset = refl
  command_waits (select z) = refl
  command_waits (read_zone a n) = refl
  command_waits (write_zone a xs) = refl
  command_waits (read_configuration a n) = refl
  command_waits (write_configuration a xs) = refl
  command_waits read_fuses = refl
  command_waits write_fuses = refl
  command_waits (verify_password k xs) = refl
  command_waits begin_authentication = refl
  command_waits (verify_authentication v xs) = refl

  pub halted_ignores : (c : List ℕ) (s : State) (i : Instruction) → is_halted D c s ≡ true → acts_always (kind_of i) ≡ false → ignores D c s i ≡ true
  halted_ignores c s i h e = rw (h, e)

  -- what is ignored does not act at any time
  pub ignored_acts : (c : List ℕ) (s : State) (i : Instruction) → ignores D c s i ≡ true → not (acts_always (kind_of i)) ≡ true
  ignored_acts c s i e = go (acts_always (kind_of i)) refl
    where
      go : (t : Bool) → acts_always (kind_of i) ≡ t → not t ≡ true
      go true q = sym (never_ignored c s i q) ∙ e
      go false q = refl

  -- a staged write that is not ignored meets a card with nothing to finish
  pub staged_meets : (c : List ℕ) (s : State) (a : ℕ) (xs : List ℕ) → ignores D c s (write_staged a xs) ≡ false
      → (s.off ≡ false) × (is_ready D c ≡ false)
  staged_meets c s a xs e = go s.off (is_ready D c) e
    where
      go : (t r : Bool) → cond (t || r) true (is_busy s && true) ≡ false → (t ≡ false) × (r ≡ false)
      go true r e = absurd (true≢false e)
      go false true e = absurd (true≢false e)
      go false false e = (refl, refl)

  pub act_ignored : (c : List ℕ) (s : State) (i : Instruction) → ignores D c s i ≡ true → act D c s i ≡ acted c s []
  unfolding act
  act_ignored c s i e = rw e

  pub act_performed : (c : List ℕ) (s : State) (i : Instruction) → ignores D c s i ≡ false → act D c s i ≡ perform D c s i
  unfolding act
  act_performed c s i e = rw e

  -- what holds of a card that stays as it was, and of one on which the instruction is performed, holds after it
  pub either_way : (P : Acted State → Type 0) (c : List ℕ) (s : State) (i : Instruction) → (ignores D c s i ≡ true → P (acted c s []))
      → (ignores D c s i ≡ false → P (perform D c s i)) → P (act D c s i)
  either_way P c s i p q = go (ignores D c s i) refl
    where
      go : (t : Bool) → ignores D c s i ≡ t → P (act D c s i)
      go true e = subst P (sym (act_ignored c s i e)) (p e)
      go false e = subst P (sym (act_performed c s i e)) (q e)

  -- ---- answers

  pub full_answer_lem : (c : List ℕ) (s : State) (i : Instruction) → length (perform D c s i).report.answer ≡ full_answer D i
  unfolding perform
  full_answer_lem c s power_cycle = go (is_ready D c)
    where
      go : (t : Bool) → length (cycled D t c s).report.answer ≡ 0
      go true = refl
      go false = refl
  full_answer_lem c s (issue k) = answer_length_lem D c s.volatile k
  full_answer_lem c s (wait n) = refl
  full_answer_lem c s poll = refl
  full_answer_lem c s (write_staged a xs) = go (may_stage D c s.volatile a)
    where
      go : (t : Bool) → length (staged D t c s a xs).report.answer ≡ 0
      go true = refl
      go false = refl
  full_answer_lem c s (arm k junk) = refl

  pub given_answer_lem : (c : List ℕ) (s : State) (i : Instruction) → length (act D c s i).report.answer ≡ given_answer D c s i
  given_answer_lem c s i =
      either_way (λ m. length m.report.answer ≡ given_answer D c s i) c s i (λ e. rw e) (λ e. rw e (full_answer_lem c s i))

  -- ---- tries

  performed_tries : D.tries 0 ≡ 0 → (c : List ℕ) (s : State) (i : Instruction) → ((n : Counter) → counter_place D n < length c)
      → (perform D c s i).report.tries ≡ tries_used D i (perform D c s i).card
  unfolding perform
  performed_tries z c s power_cycle h = go (is_ready D c)
    where
      go : (t : Bool) → (cycled D t c s).report.tries ≡ 0
      go true = refl
      go false = refl
  performed_tries z c s (issue k) h = hands_out D z c s.volatile k h
  performed_tries z c s (wait n) h = refl
  performed_tries z c s poll h = refl
  performed_tries z c s (write_staged a xs) h = go (may_stage D c s.volatile a)
    where
      go : (t : Bool) → (staged D t c s a xs).report.tries ≡ 0
      go true = refl
      go false = refl
  performed_tries z c s (arm k junk) h = refl

  pub given_tries : D.tries 0 ≡ 0 → (c : List ℕ) (s : State) (i : Instruction) → ((n : Counter) → counter_place D n < length c)
      → (act D c s i).report.tries ≡ tries_given D c s i (act D c s i).card
  given_tries z c s i h =
      either_way (λ m. m.report.tries ≡ tries_given D c s i m.card) c s i (λ e. rw e) (λ e. rw e (performed_tries z c s i h))

  -- ---- what is kept

  -- the cells that an instruction writes, but for a tear
  pub data Lays (c : List ℕ) (s : State) : Instruction → List Cell → Type 0 where
    finishes : is_ready D c ≡ true → Lays c s power_cycle (pending_cells D c)
    stages : {a : ℕ} {xs : List ℕ} → may_stage D c s.volatile a ≡ true
        → Lays c s (write_staged a xs) (stage_cells D s.volatile.zone a (final_values D c s.volatile.zone a xs))

  -- of the card and the volatile state: what every command keeps, every row of cells, and power-up
  module _ (P : List ℕ → Volatile → Type 0) (c : List ℕ) (s : State) (up : (d : List ℕ) → P d s.volatile → P d power_up) where
    laid_keeps : (ws : List Cell) (t : State) → P (write_cells (cells_under D s.tear ws) c) power_up
        → P (write_cells (cells_under D s.tear ws) c) t.volatile → P (laid D c s.tear t ws).card (laid D c s.tear t ws).report.state.volatile
    laid_keeps ws t p q = after_tear (λ u. P (write_cells (cells_under D s.tear ws) c) u.volatile) (tears_in s.tear (length ws)) t p q

    performed_keeps : (i : Instruction) → ((k : Command) → i ≡ issue k → P (apply D c s.volatile k).card (apply D c s.volatile k).report.state)
        → ((ws : List Cell) → Lays c s i ws → P (write_cells (cells_under D s.tear ws) c) s.volatile)
        → P c s.volatile → P (perform D c s i).card (perform D c s i).report.state.volatile
    unfolding perform
    performed_keeps power_cycle h w p = go (is_ready D c) refl
      where
        go : (t : Bool) → is_ready D c ≡ t → P (cycled D t c s).card (cycled D t c s).report.state.volatile
        go true e = let q = up _ (w (pending_cells D c) (finishes e)) in laid_keeps (pending_cells D c) power_on q q
        go false e = up c p
    performed_keeps (issue k) h w p = h k refl
    performed_keeps (wait n) h w p = p
    performed_keeps poll h w p = p
    performed_keeps (write_staged a xs) h w p = go (may_stage D c s.volatile a) refl
      where
        go : (t : Bool) → may_stage D c s.volatile a ≡ t → P (staged D t c s a xs).card (staged D t c s a xs).report.state.volatile
        go true e =
            let ws : List Cell = stage_cells D s.volatile.zone a (final_values D c s.volatile.zone a xs) in
            let q = w ws (stages e) in
            laid_keeps ws (make_state s.volatile write_time s.off untorn) (up _ q) q
        go false e = p
    performed_keeps (arm k junk) h w p = p

    pub act_keeps : (i : Instruction) → ((k : Command) → i ≡ issue k → P (apply D c s.volatile k).card (apply D c s.volatile k).report.state)
        → ((ws : List Cell) → ignores D c s i ≡ false → Lays c s i ws → P (write_cells (cells_under D s.tear ws) c) s.volatile)
        → P c s.volatile → P (act D c s i).card (act D c s i).report.state.volatile
    act_keeps i h w p =
        either_way (λ m. P m.card m.report.state.volatile) c s i (λ e. p) (λ e. performed_keeps i h (λ ws l. w ws e l) p)

  -- ---- the busy time

  performed_time : (c : List ℕ) (s : State) (i : Instruction) → s.busy ≤ write_time → (perform D c s i).report.state.busy ≤ write_time
  unfolding perform
  performed_time c s power_cycle h = go (is_ready D c)
    where
      go : (t : Bool) → (cycled D t c s).report.state.busy ≤ write_time
      go true = after_tear (λ u. u.busy ≤ write_time) (tears_in s.tear _) _ (omega arith) (omega arith)
      go false = omega arith
  performed_time c s (issue k) h = choice (λ n. n ≤ write_time) (makes_busy D c s.volatile k) write_time 0 (omega arith) (omega arith)
  performed_time c s (wait n) h = omega arith
  performed_time c s poll h = h
  performed_time c s (write_staged a xs) h = go (may_stage D c s.volatile a)
    where
      go : (t : Bool) → (staged D t c s a xs).report.state.busy ≤ write_time
      go true = after_tear (λ u. u.busy ≤ write_time) (tears_in s.tear _) _ (omega arith) (omega arith)
      go false = omega arith
  performed_time c s (arm k junk) h = h

  pub act_time : (c : List ℕ) (s : State) (i : Instruction) → s.busy ≤ write_time → (act D c s i).report.state.busy ≤ write_time
  act_time c s i h = either_way (λ m. m.report.state.busy ≤ write_time) c s i (λ e. h) (λ e. performed_time c s i h)
