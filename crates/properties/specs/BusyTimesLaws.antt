-- Of the busy time of a card.
use Rattle.std.specs.Prelude.{ℕ, ◌+◌, ◌-◌, ◌≤◌, Bool, true, false, cond, not, ◌&&◌, ◌||◌, List, [], ◌∷◌, map, ◌↔◌, ◌≡◌, refl, eqb, length}
use Rattle.std.proofs.Common.{true≢false, sym, ap, ◌∙◌, le_refl, arith, ne_eqb}
use Rattle.model.specs.Instruction.{Command, Instruction, power_cycle, issue, wait, poll, kind_of}
use Rattle.model.specs.At88sc1608.{at88sc1608}
use Rattle.model.specs.Call.{Acted, Powered, powered, acted, replying, whole, calling}
use Rattle.model.specs.Staging.{is_ready, pending_cells, tears_in}
use Rattle.model.specs.State.{State, timed, powered_up, power_on, write_time, is_busy}
use Rattle.model.specs.Busy.{acts_always, acts_busy, is_halted, ignores, makes_busy}
use Rattle.model.specs.Act.{cycled}
use Rattle.model.specs.Act as any-act
use Rattle.model.specs.Record.{decode}
use Rattle.model.specs.Session.{after, end_of}
use Rattle.model.specs.Single.{check, answered_kind, act, command}
use Rattle.laws.specs.BusyLaws.{total, act_ignored, act_performed, never_ignored, heeded_busy, after_tear}
use Rattle.laws.specs.CallLaws.{carried_out}

pub busy_ignores : (c : List ℕ) (s : State) (i : Instruction) → is_busy s ≡ true → acts_busy (kind_of i) ≡ false → ignores at88sc1608 c s i ≡ true
busy_ignores c s i b a = go (acts_always (kind_of i)) (is_halted at88sc1608 c s) refl a
  where
    go : (t h : Bool) → acts_always (kind_of i) ≡ t → (t || (eqb (kind_of i) 13 || eqb (kind_of i) 14)) ≡ false
        → cond h (not (acts_always (kind_of i))) (is_busy s && not (acts_busy (kind_of i))) ≡ true
    go true h p q = absurd (true≢false q)
    go false true p q = rw p
    go false false p q = rw (b, a)

-- exactly what is ignored
pub ignored_halted : (c : List ℕ) (s : State) (i : Instruction) → is_halted at88sc1608 c s ≡ true
    → (ignores at88sc1608 c s i ≡ true) ↔ ((kind_of i ≡ 1 → ⊥) × (kind_of i ≡ 16 → ⊥))
ignored_halted c s i h = (λ e. (other e 1 refl, other e 16 refl), λ n. rw (h, ne_eqb (kind_of i) 1 n.0, ne_eqb (kind_of i) 16 n.1))
  where
    other : ignores at88sc1608 c s i ≡ true → (k : ℕ) → acts_always k ≡ true → kind_of i ≡ k → ⊥
    other e k a q = true≢false (sym e ∙ never_ignored at88sc1608 c s i (ap acts_always q ∙ a))

pub ignored_busy : (c : List ℕ) (s : State) (i : Instruction) → is_halted at88sc1608 c s ≡ false → is_busy s ≡ true
    → (ignores at88sc1608 c s i ≡ true) ↔ ((kind_of i ≡ 1 → ⊥) × (kind_of i ≡ 13 → ⊥) × (kind_of i ≡ 14 → ⊥) × (kind_of i ≡ 16 → ⊥))
ignored_busy c s i h b = (
  λ e. (other e 1 refl, other e 13 refl, other e 14 refl, other e 16 refl),
  λ n. rw (h, b, ne_eqb (kind_of i) 1 n.0, ne_eqb (kind_of i) 13 n.1, ne_eqb (kind_of i) 14 n.2, ne_eqb (kind_of i) 16 n.3),
)
  where
    other : ignores at88sc1608 c s i ≡ true → (k : ℕ) → acts_busy k ≡ true → kind_of i ≡ k → ⊥
    other e k a q = true≢false (sym e ∙ heeded_busy at88sc1608 c s i h (ap acts_busy q ∙ a))

pub ignored_call : (c : List ℕ) (s : State) (i : Instruction) (bytes space : List ℕ) → check c s ≡ 0 → decode bytes ≡ whole i (length bytes)
    → ignores at88sc1608 c s i ≡ true
    → command c s (calling bytes space)
    ≡ record { card = c; reply = record { refusal = 0; kind = kind_of i + 128; size = 0; state = s; tries = 0; space = space } }
ignored_call c s i bytes space checked decoded e =
    let a = act_ignored at88sc1608 c s i e in
    carried_out check decode act answered_kind c s (calling bytes space) i (length bytes)
    (record { checks = checked; decodes = decoded; exactly = le_refl _; fits = rw a (omega arith) })
    ∙ ap (λ (m : Acted State). record { card = m.card; reply = replying (answered_kind c s i) space m.report }) a
    ∙ ap
    (λ (t : Bool).
    record { card = c; reply = record { refusal = 0; kind = cond t (kind_of i + 128) (kind_of i); size = 0; state = s; tries = 0; space = space } })
    e

pub busy_after : (c : List ℕ) (s : State) (k : Command) → ignores at88sc1608 c s (issue k) ≡ false
    → (act c s (issue k)).report.state.busy ≡ cond (makes_busy at88sc1608 c s.volatile k) write_time 0
unfolding any-act.perform
busy_after c s k e = ap (λ (m : Acted State). m.report.state.busy) (act_performed at88sc1608 c s (issue k) e)

-- a power cycle
cycle_is : (c : List ℕ) (s : State) → act c s power_cycle ≡ cycled at88sc1608 (is_ready at88sc1608 c) c s
unfolding any-act.perform
cycle_is c s = act_performed at88sc1608 c s power_cycle (never_ignored at88sc1608 c s power_cycle refl)

pub power_ends : (c : List ℕ) (s : State) → (act c s power_cycle).report.state.busy ≡ 0
power_ends c s = ap (λ (m : Acted State). m.report.state.busy) (cycle_is c s) ∙ go (is_ready at88sc1608 c)
  where
    go : (t : Bool) → (cycled at88sc1608 t c s).report.state.busy ≡ 0
    go true = after_tear (λ u. u.busy ≡ 0) (tears_in s.tear (length (pending_cells at88sc1608 c))) power_on refl refl
    go false = refl

pub powers_up : (c : List ℕ) (s : State) → is_ready at88sc1608 c ≡ false → act c s power_cycle ≡ acted c (powered_up s.tear) []
powers_up c s e = cycle_is c s ∙ ap (λ (t : Bool). cycled at88sc1608 t c s) e

pub told : (c : List ℕ) (s : State) → is_halted at88sc1608 c s ≡ false → act c s poll ≡ acted c s (cond (is_busy s) 1 0 ∷ [])
unfolding any-act.perform
told c s h = act_performed at88sc1608 c s poll (heeded_busy at88sc1608 c s poll h refl)

-- ---- waits

abbrev waiting : Powered State → ℕ → Powered State
waiting m busy = powered m.card (timed m.state m.state.volatile busy)

one_wait : (m : Powered State) (n : ℕ) → is_halted at88sc1608 m.card m.state ≡ false → after m (wait n) ≡ waiting m (m.state.busy - n)
unfolding any-act.perform
one_wait m n h =
    ap (λ (r : Acted State). powered r.card r.report.state)
    (act_performed at88sc1608 m.card m.state (wait n) (heeded_busy at88sc1608 m.card m.state (wait n) h refl))

pub all_passed : (m : Powered State) (ns : List ℕ) → is_halted at88sc1608 m.card m.state ≡ false
    → end_of (map wait ns) m ≡ powered m.card (timed m.state m.state.volatile (m.state.busy - total ns))
all_passed m [] h = ap (waiting m) (let e : m.state.busy ≡ m.state.busy - 0 = omega arith in e)
all_passed m (n ∷ ns) h =
    ap (end_of (map wait ns)) (one_wait m n h)
    ∙ all_passed (waiting m (m.state.busy - n)) ns h
    ∙ ap (waiting m) (let e : m.state.busy - n - total ns ≡ m.state.busy - (n + total ns) = omega arith in e)

pub all_waited : (m : Powered State) → is_halted at88sc1608 m.card m.state ≡ false → m.state.busy ≤ write_time → (ns : List ℕ) → write_time ≤ total ns
    → end_of (map wait ns) m ≡ powered m.card (timed m.state m.state.volatile 0)
all_waited m h b ns l = all_passed m ns h ∙ ap (waiting m) (let e : m.state.busy - total ns ≡ 0 = omega arith in e)
