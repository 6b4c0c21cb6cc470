-- Writes that survive a loss of power ("Writes that survive a pulled card"): the final statements.
use Rattle.std.specs.Prelude.{ℕ, ◌+◌, ◌*◌, ◌/◌, ◌%◌, ◌≤◌, ◌<◌, true, false, List, [], ◌∷◌, ◌++◌, ◌≡◌, length}
use Rattle.model.specs.Sizes.{card_size, flag_at}
use Rattle.model.specs.Lists.{at}
use Rattle.model.specs.Cells.{cell, write_cells}
use Rattle.model.specs.Instruction.{write_zone, Instruction, power_cycle, issue, write_staged, arm, kind_of}
use Rattle.model.specs.At88sc1608.{at88sc1608}
use Rattle.model.specs.State.{untorn, tear_after, State, make_state, timed, arming, power_on, power_lost, write_time}
use Rattle.model.specs.Staging.{is_ready, staged_length, may_stage, final_values, finish_cells, stage_cells, pending_cells, spoilt, tears_in}
use Rattle.model.specs.Busy.{acts_always, is_halted, ignores}
use Rattle.model.specs.Call.{Call, Powered, acted, whole, step}
use Rattle.model.specs.Record.{decode}
use Rattle.model.specs.Session.{frame, card_of, after, end_of, initial}
use Rattle.model.specs.Single.{check, answered_kind, act, final}
use Rattle.laws.specs.StagingLaws.{Torn, finish_count, stage_count}
use Rattle.laws.specs.BusyLaws.{halted_ignores}
use Rattle.laws.specs.Sane.{Good, good_check}
use Rattle.properties.specs.AcceptedSession.{Accepts}
use Rattle.properties.specs.Survival.{Stageable, values_of, torn_cells, Survived, Finished, HaltedBefore, CalledHalted, OffThenOn, CalledUntilOn}
use Rattle.properties.specs.SurvivalLaws.{write_leaves, run_survives, calls_survive, session_survives, zones_alike, times_alike}
use Rattle.properties.specs.SurvivalLaws.{power_returns, checks_stay}
use Rattle.properties.specs.TearLaws.{never_tears, tears_past, cell_spoilt, flag_spoilt, arm_acts, tear_stays, write_torn, write_whole}
use Rattle.properties.specs.TearLaws.{staged_forbidden, cycle_torn, cycle_whole}
use Rattle.properties.specs.FinishingLaws.{torn_run, torn_calls, torn_run_survives, torn_calls_survive, run_finishes, calls_finish, session_finishes}
use Rattle.properties.specs.FinishingLaws.{cycle_settles}

-- ---- what is armed

-- kind 16 acts at any time, and what it arms replaces what was armed
pub armed : (c : List ℕ) (s : State) (k junk : ℕ) → act c s (arm k junk) ≡ acted c (arming s (tear_after k junk)) []
armed = arm_acts

-- what is armed stays so, also over a power cycle with nothing to finish, but for another arming, a staged write that writes and a finishing
pub arming_stays : (c : List ℕ) (s : State) (i : Instruction) → ((k junk : ℕ) → i ≡ arm k junk → ⊥)
    → ((a : ℕ) (xs : List ℕ) → i ≡ write_staged a xs → ignores at88sc1608 c s i ≡ false → may_stage at88sc1608 c s.volatile a ≡ false)
    → (i ≡ power_cycle → is_ready at88sc1608 c ≡ false) → (act c s i).report.state.tear ≡ s.tear
arming_stays = tear_stays

-- no tear comes in n cells where none is armed, or where it is armed for a later cell
pub none_armed : (n : ℕ) → tears_in untorn n ≡ false
none_armed = never_tears

pub armed_past : (k junk n : ℕ) → n ≤ k → tears_in (tear_after k junk) n ≡ false
armed_past = tears_past

-- A card on which a staged write writes, and the 2n + 5 cells of the write.
module _ (m : Powered State) (a : ℕ) (xs : List ℕ) (writes : Stageable m a) where
  -- a tear that is armed for one of them comes: those before it are written, it is spoilt, and the card is off with nothing armed
  pub torn_write : (k junk : ℕ) → m.state.tear ≡ tear_after k junk → k < 2 * length xs + 5
      → act m.card m.state (write_staged a xs)
      ≡ acted (write_cells (torn_cells k junk (stage_cells at88sc1608 m.state.volatile.zone a (values_of m a xs))) m.card) power_lost []
  torn_write = write_torn m a xs writes

  -- without one all are written, and the card is on and busy, with nothing armed and its volatile state as it was
  pub whole_write : tears_in m.state.tear (2 * length xs + 5) ≡ false
      → act m.card m.state (write_staged a xs)
      ≡ acted (write_cells (stage_cells at88sc1608 m.state.volatile.zone a (values_of m a xs)) m.card)
      (make_state m.state.volatile write_time false untorn) []
  whole_write = write_whole m a xs writes

-- the spoilt cell holds the junk, but of the flag bit 0 alone is the junk's
pub spoilt_cell : (junk i v : ℕ) → (i ≡ flag_at → ⊥) → spoilt at88sc1608 junk (cell i v) ≡ cell i junk
spoilt_cell = cell_spoilt

pub spoilt_flag : (junk v : ℕ) → spoilt at88sc1608 junk (cell flag_at v) ≡ cell flag_at (v / 2 * 2 + junk % 2)
spoilt_flag = flag_spoilt

-- where the zone may not be written, a staged write that is not ignored only makes the card busy, and what is armed stays so
pub forbidden_staged : (c : List ℕ) (s : State) (a : ℕ) (xs : List ℕ) → ignores at88sc1608 c s (write_staged a xs) ≡ false
    → may_stage at88sc1608 c s.volatile a ≡ false → act c s (write_staged a xs) ≡ acted c (timed s s.volatile write_time) []
forbidden_staged = staged_forbidden

-- A card with a write to finish, in any state, and the n + 1 cells of the finishing.
module _ (c : List ℕ) (s : State) (ready : is_ready at88sc1608 c ≡ true) where
  -- a tear that is armed for one of them comes in a power cycle
  pub torn_finishing : (k junk : ℕ) → s.tear ≡ tear_after k junk → k < staged_length at88sc1608 c + 1
      → act c s power_cycle ≡ acted (write_cells (torn_cells k junk (pending_cells at88sc1608 c)) c) power_lost []
  torn_finishing = cycle_torn c s ready

  -- without one it writes all of them, and leaves the state of power-up with nothing armed
  pub power_cycle_finishes : tears_in s.tear (staged_length at88sc1608 c + 1) ≡ false
      → act c s power_cycle ≡ acted (write_cells (pending_cells at88sc1608 c) c) power_on []
  power_cycle_finishes = cycle_whole c s ready

-- ---- survival

-- A good card on which a staged write of at most eight bytes writes, whatever is armed.
module _ (m : Powered State) (a : ℕ) (xs : List ℕ) (good : Good m.card m.state) (writes : Stageable m a) (few : length xs ≤ 8) where
  -- after the write alone: nothing of it is done, or all of it, or it is still to finish; every other byte before the staging bytes is as it was
  pub write_fate : Torn at88sc1608 m.card m.state.volatile.zone a (values_of m a xs) (after m (write_staged a xs)).card
  write_fate = write_leaves m a xs good writes few

  -- after the write and any instructions while the card is off, however often it is torn again: once it is on, the named bytes all hold what they
  -- held or all have their values, and the rest of the zones, the configuration and the fuse byte are as they were
  pub survives : (ks : List Instruction) → OffThenOn ks (after m (write_staged a xs))
      → Survived m.card m.state.volatile.zone a (values_of m a xs) (end_of ks (after m (write_staged a xs))).card
  survives = run_survives m a xs good writes few

  -- and so after a call with such a record and any calls, refused ones among them
  pub calls_survived : (x : Call) → decode x.sent ≡ whole (write_staged a xs) (length x.sent) → (ys : List Call)
      → CalledUntilOn ys (step check decode act answered_kind m x)
      → Survived m.card m.state.volatile.zone a (values_of m a xs) (final (x ∷ ys) m).card
  calls_survived x e = calls_survive m a xs good writes few x e

-- and so of the records of an accepted session: some records, the write, some while the card is off, and others
pub records_survived : (s space : List ℕ) (ks₁ ks₂ ks₃ : List Instruction) (a : ℕ) (xs : List ℕ)
    → Accepts s space (ks₁ ++ (write_staged a xs ∷ (ks₂ ++ ks₃))) → Stageable (end_of ks₁ (initial s)) a
    → OffThenOn ks₂ (after (end_of ks₁ (initial s)) (write_staged a xs))
    → Survived (end_of ks₁ (initial s)).card (end_of ks₁ (initial s)).state.volatile.zone a (values_of (end_of ks₁ (initial s)) a xs)
    (end_of ks₂ (after (end_of ks₁ (initial s)) (write_staged a xs))).card
records_survived = session_survives

-- ---- survival where the card is handed on or handed in

-- A card that a write of at most eight bytes to the card c left, torn or not, in any state: in a later list of calls, or in a later session.
module _ (c : List ℕ) (long : length c ≡ card_size) (z a : ℕ) (vs : List ℕ) (few : length vs ≤ 8) (m : Powered State)
    (torn : Torn at88sc1608 c z a vs m.card) where
  -- while it is off or has a write to finish it stays one, however often it is torn again
  pub stays_torn : (ks : List Instruction) → HaltedBefore ks m → Torn at88sc1608 c z a vs (end_of ks m).card
  stays_torn ks h = torn_run c long z a vs few ks m h torn

  pub calls_stay_torn : (xs : List Call) → CalledHalted xs m → Torn at88sc1608 c z a vs (final xs m).card
  calls_stay_torn xs h = torn_calls c long z a vs few xs m h torn

  -- once it is neither, the named bytes are all old or all new
  pub torn_survives : (ks : List Instruction) → HaltedBefore ks m → is_halted at88sc1608 (end_of ks m).card (end_of ks m).state ≡ false
      → Survived c z a vs (end_of ks m).card
  torn_survives ks h = torn_run_survives c long z a vs few ks m h torn

  pub calls_torn_survive : (xs : List Call) → CalledHalted xs m → is_halted at88sc1608 (final xs m).card (final xs m).state ≡ false
      → Survived c z a vs (final xs m).card
  calls_torn_survive xs h = torn_calls_survive c long z a vs few xs m h torn

-- A card that passes the checks and has a write to finish, in any state: after any instructions, or calls, while it is off or has that write
-- to finish, once it is neither, the named bytes have the staged values and the others are as they were.
module _ (m : Powered State) (checks : check m.card m.state ≡ 0) (ready : is_ready at88sc1608 m.card ≡ true) where
  pub ready_finished : (ks : List Instruction) → HaltedBefore ks m → is_halted at88sc1608 (end_of ks m).card (end_of ks m).state ≡ false
      → Finished m.card (end_of ks m).card
  ready_finished = run_finishes m (good_check m.card m.state checks) ready

  pub calls_finished : (xs : List Call) → CalledHalted xs m → is_halted at88sc1608 (final xs m).card (final xs m).state ≡ false
      → Finished m.card (final xs m).card
  calls_finished = calls_finish m (good_check m.card m.state checks) ready

-- and so of a session whose card has a write to finish
pub session_finished : (s : List ℕ) → frame s ≡ 0 → is_ready at88sc1608 (card_of s) ≡ true → (ks : List Instruction) → HaltedBefore ks (initial s)
    → is_halted at88sc1608 (end_of ks (initial s)).card (end_of ks (initial s)).state ≡ false → Finished (card_of s) (end_of ks (initial s)).card
session_finished = session_finishes

-- a power cycle in which no tear comes leaves the card on and with nothing to finish
pub power_cycle_settles : (c : List ℕ) (s : State) → length c ≡ card_size
    → (is_ready at88sc1608 c ≡ true → tears_in s.tear (staged_length at88sc1608 c + 1) ≡ false)
    → is_halted at88sc1608 (act c s power_cycle).card (act c s power_cycle).report.state ≡ false
power_cycle_settles = cycle_settles

-- a power cycle with no tear armed brings the power back
pub power_comes_back : (c : List ℕ) (s : State) → s.tear ≡ untorn → (act c s power_cycle).report.state.off ≡ false
power_comes_back = power_returns

-- ---- what a card ignores that is off or has a write to finish: all but kinds 1 and 16

pub halted_ignores_all_but : (c : List ℕ) (s : State) (i : Instruction) → is_halted at88sc1608 c s ≡ true → acts_always (kind_of i) ≡ false
    → ignores at88sc1608 c s i ≡ true
halted_ignores_all_but = halted_ignores at88sc1608

-- ---- a staged write that is not torn, on a card that is on, not busy and has nothing to finish

module _ (c : List ℕ) (s : State) (a : ℕ) (xs : List ℕ) (good : Good c s) (few : length xs ≤ 8) (on : s.off ≡ false)
    (idle : is_ready at88sc1608 c ≡ false) (ready : s.busy ≡ 0)
    (whole : tears_in s.tear (length (stage_cells at88sc1608 s.volatile.zone a (final_values at88sc1608 c s.volatile.zone a xs))) ≡ false) where
  -- it leaves every byte before the staging bytes as kind 5 does, also where the zone may not be written
  pub as_write_zone : (i : ℕ) → i < flag_at → at (act c s (write_staged a xs)).card i ≡ at (act c s (issue (write_zone a xs))).card i
  as_write_zone = zones_alike c s a xs good few on idle ready whole

  -- and the card busy for 10 ms
  pub busy_as_write_zone : (act c s (write_staged a xs)).report.state.busy ≡ write_time
  busy_as_write_zone = times_alike c s a xs good few on idle ready whole

-- ---- how many cells are written: of a staged write of n bytes 2n + 5, of its finishing n + 1

pub cells_staged : (z a : ℕ) (vs : List ℕ) → length (stage_cells at88sc1608 z a vs) ≡ 2 * length vs + 5
cells_staged = stage_count at88sc1608

pub cells_finished : (z a : ℕ) (vs : List ℕ) → length (finish_cells at88sc1608 z a vs) ≡ length vs + 1
cells_finished = finish_count at88sc1608

-- ---- a card and a state that pass the checks pass them after every list of calls: so 11, 5, 16 and 12 can only meet the first

pub checked_for_good : (xs : List Call) (m : Powered State) → check m.card m.state ≡ 0 → check (final xs m).card (final xs m).state ≡ 0
checked_for_good = checks_stay
