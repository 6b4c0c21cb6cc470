-- Of what is armed: what a staged write and a power cycle that finishes one leave, by whether a tear comes among their cells.
use Rattle.std.specs.Prelude.{ℕ, ◌+◌, ◌*◌, ◌/◌, ◌%◌, ◌≤◌, ◌<◌, Bool, true, false, List, [], ◌≡◌, refl, length}
use Rattle.std.proofs.Math.Path.{ap}
use Rattle.std.proofs.Common.{◌∙◌, ne_eqb, lt-ltb, le-ltb}
use Rattle.model.specs.Sizes.{flag_at}
use Rattle.model.specs.Cells.{Cell, cell, write_cells}
use Rattle.model.specs.Instruction.{Instruction, power_cycle, issue, wait, poll, write_staged, arm}
use Rattle.model.specs.At88sc1608.{at88sc1608}
use Rattle.model.specs.State.{Tear, untorn, tear_after, State, make_state, timed, arming, power_on, power_lost, write_time}
use Rattle.model.specs.Staging.{is_ready, staged_zone, staged_address, staged_length, staged_values, may_stage, stage_cells, pending_cells, spoilt, tears_in}
use Rattle.model.specs.Busy.{ignores}
use Rattle.model.specs.Act.{laid, cycled, staged}
use Rattle.model.specs.Act as any-act
use Rattle.model.specs.Call.{Powered, acted}
use Rattle.model.specs.Single.{perform, act}
use Rattle.laws.specs.CellLaws.{torn_take}
use Rattle.laws.specs.ListLaws.{length_tab}
use Rattle.laws.specs.StagingLaws.{finish_count, stage_count, under_whole}
use Rattle.laws.specs.BusyLaws.{never_ignored, heeded, act_performed, either_way}
use Rattle.properties.specs.Survival.{Stageable, values_of, torn_cells}

-- ---- cells under what is armed

pub never_tears : (n : ℕ) → tears_in untorn n ≡ false
never_tears n = refl

pub tears_past : (k junk n : ℕ) → n ≤ k → tears_in (tear_after k junk) n ≡ false
tears_past k junk n h = le-ltb k n h

pub cell_spoilt : (junk i v : ℕ) → (i ≡ flag_at → ⊥) → spoilt at88sc1608 junk (cell i v) ≡ cell i junk
cell_spoilt junk i v n = rw (ne_eqb i flag_at n)

pub flag_spoilt : (junk v : ℕ) → spoilt at88sc1608 junk (cell flag_at v) ≡ cell flag_at (v / 2 * 2 + junk % 2)
flag_spoilt junk v = refl

pub laid_torn : (c : List ℕ) (s : State) (ws : List Cell) (k junk : ℕ) → k < length ws
    → laid at88sc1608 c (tear_after k junk) s ws ≡ acted (write_cells (torn_cells k junk ws) c) power_lost []
laid_torn c s ws k junk h = rw (lt-ltb _ _ h, torn_take (spoilt at88sc1608 junk) k ws (cell 0 0) h)

pub laid_whole : (c : List ℕ) (tear : Tear) (s : State) (ws : List Cell) → tears_in tear (length ws) ≡ false
    → laid at88sc1608 c tear s ws ≡ acted (write_cells ws c) s []
laid_whole c tear s ws e = rw (e, under_whole at88sc1608 tear ws e)

-- ---- an arming

pub arm_acts : (c : List ℕ) (s : State) (k junk : ℕ) → act c s (arm k junk) ≡ acted c (arming s (tear_after k junk)) []
unfolding any-act.perform
arm_acts c s k junk = act_performed at88sc1608 c s (arm k junk) (never_ignored at88sc1608 c s (arm k junk) refl)

-- what is armed stays so, but for another arming, a staged write that writes and a power cycle that finishes
pub tear_stays : (c : List ℕ) (s : State) (i : Instruction) → ((k junk : ℕ) → i ≡ arm k junk → ⊥)
    → ((a : ℕ) (xs : List ℕ) → i ≡ write_staged a xs → ignores at88sc1608 c s i ≡ false → may_stage at88sc1608 c s.volatile a ≡ false)
    → (i ≡ power_cycle → is_ready at88sc1608 c ≡ false) → (act c s i).report.state.tear ≡ s.tear
unfolding any-act.perform
tear_stays c s i arms stages cycles =
    either_way at88sc1608 (λ m. m.report.state.tear ≡ s.tear) c s i (λ e. refl) (λ e. go i arms (λ a xs q. stages a xs q e) cycles)
  where
    go : (i : Instruction) → ((k junk : ℕ) → i ≡ arm k junk → ⊥)
        → ((a : ℕ) (xs : List ℕ) → i ≡ write_staged a xs → may_stage at88sc1608 c s.volatile a ≡ false)
        → (i ≡ power_cycle → is_ready at88sc1608 c ≡ false) → (perform c s i).report.state.tear ≡ s.tear
    go power_cycle arms stages cycles = rw (cycles refl)
    go (issue x) arms stages cycles = refl
    go (wait n) arms stages cycles = refl
    go poll arms stages cycles = refl
    go (write_staged a xs) arms stages cycles = rw (stages a xs refl)
    go (arm k junk) arms stages cycles = absurd (arms k junk refl)

-- ---- a staged write

-- one that is not ignored, by whether the zone may be written
staged_by : (c : List ℕ) (s : State) (a : ℕ) (xs : List ℕ) (t : Bool) → ignores at88sc1608 c s (write_staged a xs) ≡ false
    → may_stage at88sc1608 c s.volatile a ≡ t → act c s (write_staged a xs) ≡ staged at88sc1608 t c s a xs
unfolding any-act.perform
staged_by c s a xs t e may =
    act_performed at88sc1608 c s (write_staged a xs) e ∙ ap (λ (u : Bool). staged at88sc1608 u c s a xs) may

pub staged_forbidden : (c : List ℕ) (s : State) (a : ℕ) (xs : List ℕ) → ignores at88sc1608 c s (write_staged a xs) ≡ false
    → may_stage at88sc1608 c s.volatile a ≡ false → act c s (write_staged a xs) ≡ acted c (timed s s.volatile write_time) []
staged_forbidden c s a xs = staged_by c s a xs false

module _ (m : Powered State) (a : ℕ) (xs : List ℕ) (writes : Stageable m a) where
  abbrev cells : List Cell
  cells = stage_cells at88sc1608 m.state.volatile.zone a (values_of m a xs)

  count : length cells ≡ 2 * length xs + 5
  count = stage_count at88sc1608 m.state.volatile.zone a (values_of m a xs) ∙ ap (λ (n : ℕ). 2 * n + 5) (length_tab _ (length xs))

  does : act m.card m.state (write_staged a xs) ≡ staged at88sc1608 true m.card m.state a xs
  does =
      staged_by m.card m.state a xs true
      (heeded at88sc1608 m.card m.state (write_staged a xs) (rw (writes.on, writes.idle)) (rw writes.ready)) writes.may

  pub write_torn : (k junk : ℕ) → m.state.tear ≡ tear_after k junk → k < 2 * length xs + 5
      → act m.card m.state (write_staged a xs) ≡ acted (write_cells (torn_cells k junk cells) m.card) power_lost []
  write_torn k junk e h =
      does ∙ ap (λ (tear : Tear). laid at88sc1608 m.card tear (make_state m.state.volatile write_time m.state.off untorn) cells) e
      ∙ laid_torn m.card _ cells k junk (rw count h)

  pub write_whole : tears_in m.state.tear (2 * length xs + 5) ≡ false
      → act m.card m.state (write_staged a xs)
      ≡ acted (write_cells cells m.card) (make_state m.state.volatile write_time false untorn) []
  write_whole e =
      does ∙ laid_whole m.card m.state.tear _ cells (rw count e)
      ∙ ap (λ (off : Bool). acted (write_cells cells m.card) (make_state m.state.volatile write_time off untorn) []) writes.on

-- ---- a power cycle that finishes a write

module _ (c : List ℕ) (s : State) (ready : is_ready at88sc1608 c ≡ true) where
  pending_count : length (pending_cells at88sc1608 c) ≡ staged_length at88sc1608 c + 1
  pending_count =
      finish_count at88sc1608 (staged_zone at88sc1608 c) (staged_address at88sc1608 c) (staged_values at88sc1608 c)
      ∙ ap (λ (n : ℕ). n + 1) (length_tab _ (staged_length at88sc1608 c))

  cycle_does : act c s power_cycle ≡ laid at88sc1608 c s.tear power_on (pending_cells at88sc1608 c)
  unfolding any-act.perform
  cycle_does =
      act_performed at88sc1608 c s power_cycle (never_ignored at88sc1608 c s power_cycle refl)
      ∙ ap (λ (t : Bool). cycled at88sc1608 t c s) ready

  pub cycle_torn : (k junk : ℕ) → s.tear ≡ tear_after k junk → k < staged_length at88sc1608 c + 1
      → act c s power_cycle ≡ acted (write_cells (torn_cells k junk (pending_cells at88sc1608 c)) c) power_lost []
  cycle_torn k junk e h =
      cycle_does ∙ ap (λ (tear : Tear). laid at88sc1608 c tear power_on (pending_cells at88sc1608 c)) e
      ∙ laid_torn c power_on (pending_cells at88sc1608 c) k junk (rw pending_count h)

  pub cycle_whole : tears_in s.tear (staged_length at88sc1608 c + 1) ≡ false
      → act c s power_cycle ≡ acted (write_cells (pending_cells at88sc1608 c) c) power_on []
  cycle_whole e = cycle_does ∙ laid_whole c s.tear power_on (pending_cells at88sc1608 c) (rw pending_count e)
