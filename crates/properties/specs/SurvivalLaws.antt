-- Of staged writes: what a torn write and every call until the power is back leave; and a write that is not torn beside one of kind 5.
use Rattle.std.specs.Prelude.{ℕ, zero, suc, ◌+◌, ◌/◌, ◌≤◌, ◌<◌, Bool, true, cond, ◌≡◌, refl, eqb, length}
use Rattle.std.proofs.Math.Bool.{false}
use Rattle.std.proofs.Common.{true≢false, sym, subst, ◌∙◌, le_refl, arith, eqb-true, eq-eqb}
use mathlib.Core.List.{List, [], ◌∷◌, ◌++◌}
use Rattle.std.proofs.Math.Path.{ap}
use Rattle.std.proofs.lemmas.Bool.{eqb-false}
use Rattle.model.specs.Sizes.{card_size, flag_at}
use Rattle.model.specs.Lists.{at, stores}
use Rattle.model.specs.Cells.{Cell, write_cells}
use Rattle.model.specs.Volatile.{Volatile}
use Rattle.model.specs.Instruction.{write_zone, Instruction, power_cycle, issue, wait, poll, write_staged, arm, kind_of}
use Rattle.model.specs.Access.{zone_writable}
use Rattle.model.specs.At88sc1608.{at88sc1608, zone_cell, may_write, fuses, register_of}
use Rattle.laws.specs.AccessLaws.{zone_written}
use Rattle.laws.specs.Loops.{stores_kept}
use Rattle.model.specs.Apply.{rules, kept}
use Rattle.model.specs.Apply as any
use Rattle.model.specs.Staging.{idle_flag, ready_flag, is_ready, may_stage, final_values, finish_cells, stage_cells, pending_cells, tears_in, cells_under}
use Rattle.model.specs.State.{Tear, untorn, State, power_on, power_lost, write_time, is_busy}
use Rattle.model.specs.Busy.{acts_always, is_halted, ignores}
use Rattle.model.specs.Act.{laid, cycled, staged}
use Rattle.model.specs.Act as any-act
use Rattle.model.specs.Call.{Call, Powered, Acted, whole, step, final}
use Rattle.model.specs.Call as calls
use Rattle.model.specs.Record.{decode}
use Rattle.model.specs.Reader.{records_end, part_at}
use Rattle.model.specs.Session.{start_of, count_of, after, end_of, initial}
use Rattle.model.specs.Single.{check, answered_kind, act, perform}
use Rattle.laws.specs.CallLaws.{call_leaves, carried_out}
use Rattle.laws.specs.CellLaws.{stores_other, stores_at}
use Rattle.laws.specs.ListLaws.{length_tab, at_tab}
use Rattle.laws.specs.StagingLaws.{Fate, none, all, still, Torn, fits_idle, under_whole, finished, finished_idle, staged_idle, whole_values}
use Rattle.laws.specs.StagingLaws as staging
use Rattle.laws.specs.BusyLaws.{never_ignored, act_performed, either_way, heeded, command_waits, halted_ignores}
use Rattle.laws.specs.RecordLaws.{Ranged, decode_ranged}
use Rattle.laws.specs.Sane.{Good, check_good, good_check, stays_good, stageable}
use Rattle.properties.specs.AcceptedSession.{Accepts, Every}
use Rattle.properties.specs.AcceptedSessionLaws.{Framed, framed_well, card_good}
use Rattle.properties.specs.SessionLaws.{readings, end_good}
use Rattle.properties.specs.Survival.{Stageable, values_of, OldOrNew, old, new, Survived, OffThenOn, CalledUntilOn}

-- ---- what is known of a card d in a state s while a write to the card c is torn

module _ (c : List ℕ) (size : length c ≡ card_size) (z a : ℕ) (vs : List ℕ) (few : length vs ≤ 8) where
  record Kept (d : List ℕ) (s : State) : Type 0 where
    torn : Torn at88sc1608 c z a vs d
    settled : s.off ≡ false → is_ready at88sc1608 d ≡ false

  not_ready : (d : List ℕ) → at d flag_at ≡ idle_flag → is_ready at88sc1608 d ≡ false
  not_ready d e = ap (λ (f : ℕ). eqb f ready_flag) e

  -- cells written under what is armed, of which all leave an idle flag
  laid_kept : (d : List ℕ) (tear : Tear) (t : State) (ws : List Cell) → Torn at88sc1608 c z a vs (write_cells (cells_under at88sc1608 tear ws) d)
      → (tears_in tear (length ws) ≡ false → at (write_cells (cells_under at88sc1608 tear ws) d) flag_at ≡ idle_flag)
      → Kept (laid at88sc1608 d tear t ws).card (laid at88sc1608 d tear t ws).report.state
  laid_kept d tear t ws w e = record { torn = w; settled = go (tears_in tear (length ws)) refl }
    where
      go : (b : Bool) → tears_in tear (length ws) ≡ b → (cond b power_lost t).off ≡ false
          → is_ready at88sc1608 (write_cells (cells_under at88sc1608 tear ws) d) ≡ false
      go true q h = absurd (true≢false h)
      go false q h = not_ready (write_cells (cells_under at88sc1608 tear ws) d) (e q)

  -- a power cycle finishes it, or has nothing to finish
  cycled_kept : (d : List ℕ) (s : State) → Kept d s → (t : Bool) → is_ready at88sc1608 d ≡ t
      → Kept (cycled at88sc1608 t d s).card (cycled at88sc1608 t d s).report.state
  cycled_kept d s k true e = go k.torn.fate
    where
      ready : at d flag_at ≡ ready_flag
      ready = eqb-true _ _ e

      differ : at d flag_at ≡ idle_flag → Kept (cycled at88sc1608 true d s).card (cycled at88sc1608 true d s).report.state
      differ f = absurd (let q : ⊥ = omega (arith, ready) in q)

      go : Fate at88sc1608 c z a vs d → Kept (cycled at88sc1608 true d s).card (cycled at88sc1608 true d s).report.state
      go (none f same) = differ f
      go (all f written) = differ f
      go (still f n) =
          let cells : pending_cells at88sc1608 d ≡ finish_cells at88sc1608 z a vs = λ i. finish_cells at88sc1608 (n.zone i) (n.address i) (n.final i) in
          subst (λ (ws : List Cell). Kept (laid at88sc1608 d s.tear power_on ws).card (laid at88sc1608 d s.tear power_on ws).report.state) (sym cells)
          (laid_kept d s.tear power_on (finish_cells at88sc1608 z a vs)
          (finished at88sc1608 stageable z a vs few c d
          (record { long = k.torn.long; size = size; before = k.torn.others; ready = f; names = n }) s.tear)
          (finished_idle at88sc1608 s.tear d (let l = k.torn.long in omega arith) z a vs))
  cycled_kept d s k false e = record { torn = k.torn; settled = λ h. e }

  -- off, every instruction keeps what is known
  off_keeps : (d : List ℕ) (s : State) (i : Instruction) → s.off ≡ true → Kept d s → Kept (act d s i).card (act d s i).report.state
  unfolding any-act.perform
  off_keeps d s i off k = either_way at88sc1608 (λ m. Kept m.card m.report.state) d s i (λ e. k) (λ e. go i e)
    where
      ignored : (i : Instruction) → ignores at88sc1608 d s i ≡ false → acts_always (kind_of i) ≡ false
          → Kept (perform d s i).card (perform d s i).report.state
      ignored i e w = absurd (true≢false (sym (halted_ignores at88sc1608 d s i (rw off) w) ∙ e))

      go : (i : Instruction) → ignores at88sc1608 d s i ≡ false → Kept (perform d s i).card (perform d s i).report.state
      go power_cycle e = cycled_kept d s k (is_ready at88sc1608 d) refl
      go (issue x) e = ignored (issue x) e (command_waits at88sc1608 x)
      go (wait n) e = ignored (wait n) e refl
      go poll e = ignored poll e refl
      go (write_staged b xs) e = ignored (write_staged b xs) e refl
      go (arm n junk) e = record { torn = k.torn; settled = λ h. absurd (true≢false (sym off ∙ h)) }

  -- on again, the bytes are old or new
  kept_survived : (d : List ℕ) (s : State) → s.off ≡ false → Kept d s → Survived c z a vs d
  kept_survived d s on k = record { named = go k.torn.fate; others = k.torn.others }
    where
      go : Fate at88sc1608 c z a vs d → OldOrNew c z a vs d
      go (none f same) = old (λ n l. same (zone_cell z a n) (omega arith))
      go (all f written) = new written
      go (still f n) = absurd (true≢false (sym (eq-eqb _ _ f) ∙ k.settled on))

  -- lists of instructions and of calls
  run_kept : (ks : List Instruction) (m : Powered State) → Kept m.card m.state → OffThenOn ks m → Survived c z a vs (end_of ks m).card
  run_kept [] m k o = kept_survived m.card m.state o k
  run_kept (i ∷ ks) m k o = run_kept ks (after m i) (off_keeps m.card m.state i o.0 k) o.1

  calls_kept : (xs : List Call) (m : Powered State) → Kept m.card m.state → CalledUntilOn xs m
      → Survived c z a vs (final check decode act answered_kind xs m).card
  unfolding CalledUntilOn calls.final
  calls_kept [] m k o = kept_survived m.card m.state o k
  calls_kept (x ∷ xs) m k o =
      calls_kept xs (step check decode act answered_kind m x)
      (call_leaves check decode act answered_kind Kept m.card m.state x k (λ i n e. off_keeps m.card m.state i o.0 k)) o.1

-- ---- the write

module _ (m : Powered State) (a : ℕ) (xs : List ℕ) (good : Good m.card m.state) (writes : Stageable m a) (few : length xs ≤ 8) where
  abbrev z : ℕ
  z = m.state.volatile.zone

  abbrev vs : List ℕ
  vs = values_of m a xs

  values_few : length vs ≤ 8
  values_few = rw (length_tab _ (length xs)) few

  halted : is_halted at88sc1608 m.card m.state ≡ false
  halted = rw (writes.on, writes.idle)

  quiet : is_busy m.state ≡ false
  quiet = rw writes.ready

  -- what it does
  staged_is : act m.card m.state (write_staged a xs) ≡ staged at88sc1608 true m.card m.state a xs
  unfolding any-act.perform
  staged_is =
      act_performed at88sc1608 m.card m.state (write_staged a xs) (heeded at88sc1608 m.card m.state (write_staged a xs) halted quiet)
      ∙ ap (λ (t : Bool). staged at88sc1608 t m.card m.state a xs) writes.may

  start_kept : Kept m.card good.fit.long z a vs values_few (after m (write_staged a xs)).card (after m (write_staged a xs)).state
  start_kept =
      subst (λ (r : Acted State). Kept m.card good.fit.long z a vs values_few r.card r.report.state) (sym staged_is)
      (laid_kept m.card good.fit.long z a vs values_few m.card m.state.tear _ (stage_cells at88sc1608 z a vs)
      (staging.staged at88sc1608 stageable z a vs values_few m.card good.fit.long
      (fits_idle at88sc1608 m.card good.fit.staging writes.idle) m.state.tear)
      (staged_idle at88sc1608 m.state.tear m.card (let l = good.fit.long in omega arith) z a vs))

  pub write_leaves : Torn at88sc1608 m.card z a vs (after m (write_staged a xs)).card
  write_leaves = start_kept.torn

  pub run_survives : (ks : List Instruction) → OffThenOn ks (after m (write_staged a xs))
      → Survived m.card z a vs (end_of ks (after m (write_staged a xs))).card
  run_survives ks o = run_kept m.card good.fit.long z a vs values_few ks (after m (write_staged a xs)) start_kept o

  -- a call with such a record is that write
  module _ (x : Call) (decodes : decode x.sent ≡ whole (write_staged a xs) (length x.sent)) where
    call_is : step check decode act answered_kind m x ≡ after m (write_staged a xs)
    call_is =
        rw (carried_out check decode act answered_kind m.card m.state x (write_staged a xs) (length x.sent)
        (record {
          checks = check_good m.card m.state good;
          decodes = decodes;
          exactly = le_refl _;
          fits = rw staged_is (omega arith);
        }))

    pub calls_survive : (ys : List Call) → CalledUntilOn ys (step check decode act answered_kind m x)
        → Survived m.card z a vs (final check decode act answered_kind (x ∷ ys) m).card
    unfolding calls.final
    calls_survive ys o =
        calls_kept m.card good.fit.long z a vs values_few ys (step check decode act answered_kind m x)
        (subst (λ (n : Powered State). Kept m.card good.fit.long z a vs values_few n.card n.state) (sym call_is) start_kept) o

-- ---- one that is not torn, beside a write of kind 5

-- one of the first n places of a map, or none of them
data Among (place : ℕ → ℕ) (i n : ℕ) : Type 0 where
  found : (k : ℕ) → k < n → i ≡ place k → Among place i n
  absent : ((k : ℕ) → k < n → i ≡ place k → ⊥) → Among place i n

among : (place : ℕ → ℕ) (i n : ℕ) → Among place i n
among place i zero = absent (λ k l e. omega arith)
among place i (suc n) = go (among place i n) (eqb i (place n)) refl
  where
    go : Among place i n → (t : Bool) → eqb i (place n) ≡ t → Among place i (suc n)
    go w true e = found n (omega arith) (eqb-true _ _ e)
    go (found k l e) false q = found k (omega arith) e
    go (absent h) false q = absent (λ k l e. on_last k (eqb k n) refl l e)
      where
        on_last : (k : ℕ) (t : Bool) → eqb k n ≡ t → k < suc n → i ≡ place k → ⊥
        on_last k true p l e = eqb-false i (place n) q (e ∙ ap place (eqb-true _ _ p))
        on_last k false p l e = h k (let w = eqb-false k n p in omega arith) e

-- the bytes of one write have one right
one_right : (ρ : List ℕ) (v : Volatile) (z a k : ℕ) → may_write ρ v (zone_cell z a k) ≡ may_write ρ v (zone_cell z a 0)
one_right ρ v z a k =
    let e : zone_cell z a k / 256 ≡ zone_cell z a 0 / 256 = omega arith in
    zone_written ρ v (zone_cell z a k) (omega arith) ∙ ap (λ (n : ℕ). zone_writable (fuses ρ) (register_of ρ n) v) e
    ∙ sym (zone_written ρ v (zone_cell z a 0) (omega arith))

module _ (c : List ℕ) (s : State) (a : ℕ) (xs : List ℕ) (good : Good c s) (few : length xs ≤ 8) where
  abbrev zone : ℕ
  zone = s.volatile.zone

  abbrev ρ : List ℕ
  ρ = rules at88sc1608 c

  abbrev fifth : List ℕ
  fifth = stores (kept at88sc1608 ρ s.volatile) (zone_cell zone a) xs 0 c

  abbrev finals : List ℕ
  finals = final_values at88sc1608 c zone a xs

  finals_few : length finals ≤ 8
  finals_few = rw (length_tab _ (length xs)) few

  module _ (may : may_stage at88sc1608 c s.volatile a ≡ true) (idle : is_ready at88sc1608 c ≡ false)
      (whole : tears_in s.tear (length (stage_cells at88sc1608 zone a finals)) ≡ false) where
    abbrev cells : List Cell
    cells = stage_cells at88sc1608 zone a finals

    idle_flag_lem : at c flag_at ≡ idle_flag
    idle_flag_lem = fits_idle at88sc1608 c good.fit.staging idle

    all_written : write_cells (cells_under at88sc1608 s.tear cells) c ≡ write_cells cells c
    all_written = ap (λ (ws : List Cell). write_cells ws c) (under_whole at88sc1608 s.tear cells whole)

    other_kept : (i : ℕ) → i < flag_at → ((k : ℕ) → k < length xs → i ≡ zone_cell zone a k → ⊥) → at (write_cells cells c) i ≡ at c i
    other_kept i l u =
        (staging.staged at88sc1608 stageable zone a finals finals_few c good.fit.long idle_flag_lem untorn).others i l
        (λ k h e. u k (rw (length_tab _ (length xs)) at h) e)

    final_is : (k : ℕ) → k < length xs → at finals k ≡ at fifth (zone_cell zone a k)
    final_is k l =
        let p : 0 + k ≡ k = omega arith in
        let q : at fifth (zone_cell zone a k) ≡ kept at88sc1608 ρ s.volatile (zone_cell zone a k) (at c (zone_cell zone a k)) (at xs k) =
        rw p at (stores_at (kept at88sc1608 ρ s.volatile) (zone_cell zone a) xs 0 c (λ j m. let w = good.fit.long in omega arith)
        (λ i j m n e. omega arith) k l) in
        at_tab _ (length xs) k l ∙ sym (q ∙ rw (one_right ρ s.volatile zone a k, may))

    pub as_fifth : (i : ℕ) → i < flag_at → at (write_cells (cells_under at88sc1608 s.tear cells) c) i ≡ at fifth i
    as_fifth i l = ap (λ (d : List ℕ). at d i) all_written ∙ go (among (zone_cell zone a) i (length xs))
      where
        go : Among (zone_cell zone a) i (length xs) → at (write_cells cells c) i ≡ at fifth i
        go (found k m e) =
            rw e
            (whole_values at88sc1608 stageable zone a finals finals_few c good.fit.long idle_flag_lem k (rw (length_tab _ (length xs)) m) ∙ final_is k m)
        go (absent h) = other_kept i l h ∙ sym (stores_other (kept at88sc1608 ρ s.volatile) (zone_cell zone a) xs 0 i c
            (λ k m e. h k m (let p : 0 + k ≡ k = omega arith in rw p at e)))

  -- where it may not write, neither of them does
  module _ (may : may_stage at88sc1608 c s.volatile a ≡ false) where
    pub not_fifth : fifth ≡ c
    not_fifth = stores_kept (kept at88sc1608 ρ s.volatile) (zone_cell zone a) (λ k old new. rw (one_right ρ s.volatile zone a k, may)) xs 0 c

  -- both on a card that is on, not busy and has nothing to finish
  module _ (on : s.off ≡ false) (idle : is_ready at88sc1608 c ≡ false) (ready : s.busy ≡ 0)
      (whole : tears_in s.tear (length (stage_cells at88sc1608 zone a finals)) ≡ false) where
    halted_not : is_halted at88sc1608 c s ≡ false
    halted_not = rw (on, idle)

    staged_does : act c s (write_staged a xs) ≡ staged at88sc1608 (may_stage at88sc1608 c s.volatile a) c s a xs
    unfolding any-act.perform
    staged_does = act_performed at88sc1608 c s (write_staged a xs) (heeded at88sc1608 c s (write_staged a xs) halted_not (rw ready))

    fifth_does : (act c s (issue (write_zone a xs))).card ≡ fifth
    unfolding any-act.perform any.apply
    fifth_does = ap (λ (m : Acted State). m.card) (act_performed at88sc1608 c s (issue (write_zone a xs)) (heeded at88sc1608 c s (issue (write_zone a xs))
        halted_not (rw ready)))

    pub zones_alike : (i : ℕ) → i < flag_at → at (act c s (write_staged a xs)).card i ≡ at (act c s (issue (write_zone a xs))).card i
    zones_alike i l =
        ap (λ (m : Acted State). at m.card i) staged_does ∙ go (may_stage at88sc1608 c s.volatile a) refl ∙ sym (ap (λ (d : List ℕ). at d i) fifth_does)
      where
        go : (t : Bool) → may_stage at88sc1608 c s.volatile a ≡ t → at (staged at88sc1608 t c s a xs).card i ≡ at fifth i
        go true e = as_fifth e idle whole i l
        go false e = sym (ap (λ (d : List ℕ). at d i) (not_fifth e))

    pub times_alike : (act c s (write_staged a xs)).report.state.busy ≡ write_time
    times_alike = ap (λ (m : Acted State). m.report.state.busy) staged_does ∙ go (may_stage at88sc1608 c s.volatile a)
      where
        go : (t : Bool) → (staged at88sc1608 t c s a xs).report.state.busy ≡ write_time
        go true = rw whole
        go false = refl

-- ---- the power comes back

pub power_returns : (c : List ℕ) (s : State) → s.tear ≡ untorn → (act c s power_cycle).report.state.off ≡ false
unfolding any-act.perform
power_returns c s e =
    ap (λ (m : Acted State). m.report.state.off) (act_performed at88sc1608 c s power_cycle (never_ignored at88sc1608 c s power_cycle refl))
    ∙ go (is_ready at88sc1608 c)
  where
    go : (t : Bool) → (cycled at88sc1608 t c s).report.state.off ≡ false
    go true = rw e
    go false = refl

-- ---- of a session's records, and of the checks

pub session_survives : (s space : List ℕ) (ks₁ ks₂ ks₃ : List Instruction) (a : ℕ) (xs : List ℕ)
    → Accepts s space (ks₁ ++ (write_staged a xs ∷ (ks₂ ++ ks₃))) → Stageable (end_of ks₁ (initial s)) a
    → OffThenOn ks₂ (after (end_of ks₁ (initial s)) (write_staged a xs))
    → Survived (end_of ks₁ (initial s)).card (end_of ks₁ (initial s)).state.volatile.zone a (values_of (end_of ks₁ (initial s)) a xs)
    (end_of ks₂ (after (end_of ks₁ (initial s)) (write_staged a xs))).card
session_survives s space ks₁ ks₂ ks₃ a xs accepts writes o =
    run_survives (end_of ks₁ (initial s)) a xs (end_good ks₁ (initial s) both.0 (card_good s well)) writes both.1.0.1 ks₂ o
  where
    well : Framed s
    well = framed_well s accepts.frames

    every : Every Ranged (ks₁ ++ (write_staged a xs ∷ (ks₂ ++ ks₃)))
    every =
        (readings Ranged s (λ i k m e. decode_ranged (part_at s i) k m e) (count_of s) (start_of s) _ (records_end (length s)) well.high accepts.reads).every

    split : (xs ys : List Instruction) → Every Ranged (xs ++ ys) → Every Ranged xs × Every Ranged ys
    split [] ys e = (tt, e)
    split (x ∷ xs) ys e = let r = split xs ys e.1 in ((e.0, r.0), r.1)

    both : Every Ranged ks₁ × Every Ranged (write_staged a xs ∷ (ks₂ ++ ks₃))
    both = split ks₁ (write_staged a xs ∷ (ks₂ ++ ks₃)) every

pub checks_stay : (xs : List Call) (m : Powered State) → check m.card m.state ≡ 0
    → check (final check decode act answered_kind xs m).card (final check decode act answered_kind xs m).state ≡ 0
checks_stay xs m e =
    check_good (final check decode act answered_kind xs m).card (final check decode act answered_kind xs m).state
    (stays_good xs m (good_check m.card m.state e))
