-- Of cards that are off or have a write to finish: what every instruction and every call leaves of the write until it is settled.
use Rattle.std.specs.Prelude.{ℕ, ◌+◌, ◌≤◌, ◌<◌, Bool, true, ◌||◌, ◌≡◌, refl, eqb, length}
use Rattle.std.proofs.Math.Bool.{false}
use Rattle.std.proofs.Common.{true≢false, sym, ap, subst, ◌∙◌, arith, eqb-true, eq-eqb}
use mathlib.Core.List.{List, [], ◌∷◌}
use Rattle.model.specs.Sizes.{card_size, flag_at}
use Rattle.model.specs.Lists.{at}
use Rattle.model.specs.Cells.{Cell, write_cells}
use Rattle.model.specs.Instruction.{Instruction, power_cycle, issue, wait, poll, write_staged, arm, kind_of}
use Rattle.model.specs.At88sc1608.{at88sc1608, zone_cell}
use Rattle.model.specs.Staging.{idle_flag, ready_flag, is_ready, staged_zone, staged_address, staged_length, staged_values, finish_cells, pending_cells}
use Rattle.model.specs.Staging.{cells_under, tears_in}
use Rattle.model.specs.State.{Tear, untorn, State}
use Rattle.model.specs.Busy.{acts_always, is_halted, ignores}
use Rattle.model.specs.Act.{cycled}
use Rattle.model.specs.Act as any-act
use Rattle.model.specs.Call.{Call, Powered, step}
use Rattle.model.specs.Call as calls
use Rattle.model.specs.Record.{decode}
use Rattle.model.specs.Session.{frame, card_of, after, end_of, initial}
use Rattle.model.specs.Single.{check, answered_kind, act, perform, final}
use Rattle.laws.specs.CallLaws.{call_leaves}
use Rattle.laws.specs.ListLaws.{length_tab}
use Rattle.laws.specs.StagingLaws.{Fate, none, all, still, Torn, Begun, fits_ready, finished, finished_new, finished_idle}
use Rattle.laws.specs.BusyLaws.{either_way, command_waits, halted_ignores}
use Rattle.laws.specs.Sane.{Good, stageable}
use Rattle.properties.specs.AcceptedSessionLaws.{framed_well, card_good}
use Rattle.properties.specs.BusyTimesLaws.{powers_up}
use Rattle.properties.specs.TearLaws.{cycle_whole}
use Rattle.properties.specs.Survival.{OldOrNew, old, new, Survived, Finished, HaltedBefore, CalledHalted}

-- ---- what every finishing keeps, torn or not, a card that is halted keeps

module _ (P : List ℕ → Type 0)
    (finishing : (d : List ℕ) (tear : Tear) → is_ready at88sc1608 d ≡ true → P d
    → P (write_cells (cells_under at88sc1608 tear (pending_cells at88sc1608 d)) d)) where
  halted_keeps : (d : List ℕ) (s : State) (i : Instruction) → is_halted at88sc1608 d s ≡ true → P d → P (act d s i).card
  unfolding any-act.perform
  halted_keeps d s i h p = either_way at88sc1608 (λ m. P m.card) d s i (λ e. p) (λ e. go i e)
    where
      ignored : (i : Instruction) → ignores at88sc1608 d s i ≡ false → acts_always (kind_of i) ≡ false → P (perform d s i).card
      ignored i e w = absurd (true≢false (sym (halted_ignores at88sc1608 d s i h w) ∙ e))

      cycle : (t : Bool) → is_ready at88sc1608 d ≡ t → P (cycled at88sc1608 t d s).card
      cycle true e = finishing d s.tear e p
      cycle false e = p

      go : (i : Instruction) → ignores at88sc1608 d s i ≡ false → P (perform d s i).card
      go power_cycle e = cycle (is_ready at88sc1608 d) refl
      go (issue x) e = ignored (issue x) e (command_waits at88sc1608 x)
      go (wait n) e = ignored (wait n) e refl
      go poll e = ignored poll e refl
      go (write_staged b xs) e = ignored (write_staged b xs) e refl
      go (arm n junk) e = p

  run_keeps : (ks : List Instruction) (m : Powered State) → HaltedBefore ks m → P m.card → P (end_of ks m).card
  run_keeps [] m h p = p
  run_keeps (k ∷ ks) m h p = run_keeps ks (after m k) h.1 (halted_keeps m.card m.state k h.0 p)

  calls_keep : (xs : List Call) (m : Powered State) → CalledHalted xs m → P m.card → P (final xs m).card
  unfolding CalledHalted calls.final
  calls_keep [] m h p = p
  calls_keep (x ∷ xs) m h p =
      calls_keep xs (step check decode act answered_kind m x) h.1
      (call_leaves check decode act answered_kind (λ d s. P d) m.card m.state x p (λ i n e. halted_keeps m.card m.state i h.0 p))

-- a card that is not halted has no write to finish
settled : (d : List ℕ) (s : State) → is_halted at88sc1608 d s ≡ false → is_ready at88sc1608 d ≡ false
settled d s h = go s.off h
  where
    go : (t : Bool) → (t || is_ready at88sc1608 d) ≡ false → is_ready at88sc1608 d ≡ false
    go true e = absurd (true≢false e)
    go false e = e

-- ---- a write to the card c that is torn

module _ (c : List ℕ) (size : length c ≡ card_size) (z a : ℕ) (vs : List ℕ) (few : length vs ≤ 8) where
  -- where a torn write is still staged, it is begun, and the cells that are pending are its own
  begun : (d : List ℕ) → is_ready at88sc1608 d ≡ true → Torn at88sc1608 c z a vs d → Begun at88sc1608 stageable z a vs few c d
  begun d r t = go t.fate
    where
      ready : at d flag_at ≡ ready_flag
      ready = eqb-true _ _ r

      differ : at d flag_at ≡ idle_flag → Begun at88sc1608 stageable z a vs few c d
      differ f = absurd (let q : ⊥ = omega (arith, ready) in q)

      go : Fate at88sc1608 c z a vs d → Begun at88sc1608 stageable z a vs few c d
      go (none f same) = differ f
      go (all f written) = differ f
      go (still f n) = record { long = t.long; size = size; before = t.others; ready = f; names = n }

  pending : (d : List ℕ) → Begun at88sc1608 stageable z a vs few c d → finish_cells at88sc1608 z a vs ≡ pending_cells at88sc1608 d
  pending d g = let n = g.names in λ i. finish_cells at88sc1608 (sym n.zone i) (sym n.address i) (sym n.final i)

  torn_finishing : (d : List ℕ) (tear : Tear) → is_ready at88sc1608 d ≡ true → Torn at88sc1608 c z a vs d
      → Torn at88sc1608 c z a vs (write_cells (cells_under at88sc1608 tear (pending_cells at88sc1608 d)) d)
  torn_finishing d tear r t =
      let g = begun d r t in
      subst (λ (ws : List Cell). Torn at88sc1608 c z a vs (write_cells (cells_under at88sc1608 tear ws) d)) (pending d g)
      (finished at88sc1608 stageable z a vs few c d g tear)

  torn_settled : (d : List ℕ) (s : State) → is_halted at88sc1608 d s ≡ false → Torn at88sc1608 c z a vs d → Survived c z a vs d
  torn_settled d s h t = record { named = go t.fate; others = t.others }
    where
      go : Fate at88sc1608 c z a vs d → OldOrNew c z a vs d
      go (none f same) = old (λ k l. same (zone_cell z a k) (omega arith))
      go (all f written) = new written
      go (still f n) = absurd (true≢false (sym (eq-eqb _ _ f) ∙ settled d s h))

  pub torn_run : (ks : List Instruction) (m : Powered State) → HaltedBefore ks m → Torn at88sc1608 c z a vs m.card
      → Torn at88sc1608 c z a vs (end_of ks m).card
  torn_run = run_keeps (Torn at88sc1608 c z a vs) torn_finishing

  pub torn_calls : (xs : List Call) (m : Powered State) → CalledHalted xs m → Torn at88sc1608 c z a vs m.card
      → Torn at88sc1608 c z a vs (final xs m).card
  torn_calls = calls_keep (Torn at88sc1608 c z a vs) torn_finishing

  pub torn_run_survives : (ks : List Instruction) (m : Powered State) → HaltedBefore ks m → Torn at88sc1608 c z a vs m.card
      → is_halted at88sc1608 (end_of ks m).card (end_of ks m).state ≡ false → Survived c z a vs (end_of ks m).card
  torn_run_survives ks m h t e = torn_settled (end_of ks m).card (end_of ks m).state e (torn_run ks m h t)

  pub torn_calls_survive : (xs : List Call) (m : Powered State) → CalledHalted xs m → Torn at88sc1608 c z a vs m.card
      → is_halted at88sc1608 (final xs m).card (final xs m).state ≡ false → Survived c z a vs (final xs m).card
  torn_calls_survive xs m h t e = torn_settled (final xs m).card (final xs m).state e (torn_calls xs m h t)

  -- ---- one that was staged from the start is never given up

  record Owed (d : List ℕ) : Type 0 where
    torn : Torn at88sc1608 c z a vs d
    written : at d flag_at ≡ idle_flag → (k : ℕ) → k < length vs → at d (zone_cell z a k) ≡ at vs k

  owed_finishing : (d : List ℕ) (tear : Tear) → is_ready at88sc1608 d ≡ true → Owed d
      → Owed (write_cells (cells_under at88sc1608 tear (pending_cells at88sc1608 d)) d)
  owed_finishing d tear r o =
      let g = begun d r o.torn in
      subst (λ (ws : List Cell). Owed (write_cells (cells_under at88sc1608 tear ws) d)) (pending d g)
      (record { torn = finished at88sc1608 stageable z a vs few c d g tear; written = finished_new at88sc1608 stageable z a vs few c d g tear })

-- ---- a card that is handed in with a write to finish

module _ (m : Powered State) (good : Good m.card m.state) (ready : is_ready at88sc1608 m.card ≡ true) where
  abbrev c : List ℕ
  c = m.card

  abbrev vs : List ℕ
  vs = staged_values at88sc1608 c

  few : length vs ≤ 8
  few = rw (length_tab _ _) (fits_ready at88sc1608 c good.fit.staging ready).1

  abbrev Due : List ℕ → Type 0
  Due = Owed c good.fit.long (staged_zone at88sc1608 c) (staged_address at88sc1608 c) vs few

  due_finishing : (d : List ℕ) (tear : Tear) → is_ready at88sc1608 d ≡ true → Due d
      → Due (write_cells (cells_under at88sc1608 tear (pending_cells at88sc1608 d)) d)
  due_finishing = owed_finishing c good.fit.long (staged_zone at88sc1608 c) (staged_address at88sc1608 c) vs few

  start : Due c
  start =
      let flag : at c flag_at ≡ ready_flag = eqb-true _ _ ready in
      record {
        torn =
            record {
              long = refl;
              others = λ i l u. refl;
              fate = still flag (record { zone = refl; address = refl; final = refl });
            };
        written = λ e k l. absurd (let q : ⊥ = omega (arith, flag) in q);
      }

  due_settled : (d : List ℕ) (s : State) → is_halted at88sc1608 d s ≡ false → Due d → Finished c d
  due_settled d s h o = record { named = go o.torn.fate; others = o.torn.others }
    where
      go : Fate at88sc1608 c (staged_zone at88sc1608 c) (staged_address at88sc1608 c) vs d
          → (k : ℕ) → k < length vs → at d (zone_cell (staged_zone at88sc1608 c) (staged_address at88sc1608 c) k) ≡ at vs k
      go (none f same) = o.written f
      go (all f written) = written
      go (still f n) = absurd (true≢false (sym (eq-eqb _ _ f) ∙ settled d s h))

  pub run_finishes : (ks : List Instruction) → HaltedBefore ks m → is_halted at88sc1608 (end_of ks m).card (end_of ks m).state ≡ false
      → Finished c (end_of ks m).card
  run_finishes ks h e = due_settled (end_of ks m).card (end_of ks m).state e (run_keeps Due due_finishing ks m h start)

  pub calls_finish : (xs : List Call) → CalledHalted xs m → is_halted at88sc1608 (final xs m).card (final xs m).state ≡ false → Finished c (final xs m).card
  calls_finish xs h e = due_settled (final xs m).card (final xs m).state e (calls_keep Due due_finishing xs m h start)

-- a session's card, at the start of the session
pub session_finishes : (s : List ℕ) → frame s ≡ 0 → is_ready at88sc1608 (card_of s) ≡ true → (ks : List Instruction) → HaltedBefore ks (initial s)
    → is_halted at88sc1608 (end_of ks (initial s)).card (end_of ks (initial s)).state ≡ false → Finished (card_of s) (end_of ks (initial s)).card
session_finishes s f r = run_finishes (initial s) (card_good s (framed_well s f)) r

-- ---- a power cycle in which no tear comes

pub cycle_settles : (c : List ℕ) (s : State) → length c ≡ card_size
    → (is_ready at88sc1608 c ≡ true → tears_in s.tear (staged_length at88sc1608 c + 1) ≡ false)
    → is_halted at88sc1608 (act c s power_cycle).card (act c s power_cycle).report.state ≡ false
cycle_settles c s size whole = go (is_ready at88sc1608 c) refl
  where
    go : (t : Bool) → is_ready at88sc1608 c ≡ t → is_halted at88sc1608 (act c s power_cycle).card (act c s power_cycle).report.state ≡ false
    go true r =
        rw (cycle_whole c s r (whole r))
        (ap (λ (f : ℕ). eqb f ready_flag)
        (finished_idle at88sc1608 untorn c (omega arith) (staged_zone at88sc1608 c) (staged_address at88sc1608 c) (staged_values at88sc1608 c) refl))
    go false r = rw (powers_up c s r) r
