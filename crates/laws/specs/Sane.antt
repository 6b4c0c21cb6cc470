-- What every command keeps of a card and its volatile state, for any device that meets a few laws, and for the AT88SC1608:
-- lengths, bytes, a valid fuse byte, valid staging bytes, a state in range. So if the first call gets none of 11, 5, 16 and 12, no later one does.
use Rattle.std.specs.Prelude.{ℕ, ◌≤◌, ◌<◌, ◌/◌, true, false, not, ◌&&◌, List, ◌≡◌, refl, ltb, eqb, length, set}
use Rattle.std.proofs.Common.{sym, ap, subst, ◌∙◌, arith, ltb-true, leb-true, eqb-true, lt-ltb, le-ltb, le-leb, eq-eqb, length-set}
use Rattle.std.proofs.lemmas.Bool.{not-false}
use Rattle.std.specs.Int.Bits.{bit_and}
use Rattle.std.proofs.lemmas.Nat.{and_le_l}
use Rattle.model.specs.Sizes.{card_size, fuse_at, flag_at}
use Rattle.model.specs.Lists.{at, Bytes}
use Rattle.laws.specs.BoolLaws.{choice, and_left, and_right}
use Rattle.laws.specs.ListLaws.{length_tab, at_set_other, at_set_kept, at_set_either}
use Rattle.laws.specs.Tables.{passes_at}
use Rattle.model.specs.Bits.{spent_counter}
use Rattle.model.specs.Volatile.{Volatile}
use Rattle.model.specs.Instruction.{Command, select, verify_password, Instruction}
use Rattle.model.specs.Device.{Device, Counter, of_password, of_authentication, counter_place}
use Rattle.model.specs.Call.{Powered, Call}
use Rattle.laws.specs.CallLaws.{clear, list_keeps}
use Rattle.model.specs.Access.{pgo}
use Rattle.model.specs.At88sc1608.{at88sc1608, fuses, register_of, may_write, merge, blow, configuration_at}
use Rattle.model.specs.Apply.{rules, kept}
use Rattle.model.specs.Apply as any
use Rattle.model.specs.Record.{decode}
use Rattle.laws.specs.RecordLaws.{Fields, Ranged, decode_ranged}
use Rattle.model.specs.Cells.{Cell, write_cells}
use Rattle.model.specs.Staging.{is_ready, staged_zone, staged_address, staged_values, final_values, cells_under}
use Rattle.model.specs.State.{State, write_time}
use Rattle.model.specs.Busy.{ignores}
use Rattle.laws.specs.CellLaws.{length_cells}
use Rattle.laws.specs.StagingLaws.{Stages, Torn, Begun, staging_same, fits_idle, fits_ready, torn_fits, finished, staged}
use Rattle.laws.specs.BusyLaws.{Lays, finishes, stages, staged_meets, act_keeps, act_time}
use Rattle.model.specs.Single.{is_fuse_byte, staging_fits, volatile_in_range, state_in_range, check_of, check, answered_kind, act, final}
use Rattle.laws.specs.Effects.{carried, Change, writes, fills, spends, renews, blows, changes, Move, stays, resets, selects, opens, closes}
use Rattle.laws.specs.Effects.{begins, grants, denies, moves}

-- Laws of a device: what it computes of bytes are bytes, and its fuse byte is moved by write fuses alone, from stage to stage.
pub record Sound (D : Device) : Type 0 where
  pub merge_byte : (ρ : List ℕ) (i old new : ℕ) → old < 256 → new < 256 → D.merge ρ i old new < 256
  pub spend_byte : (x : ℕ) → x < 256 → D.spend x < 256
  pub blow_byte : (x : ℕ) → x < 256 → D.blow x < 256
  pub blow_stage : (x : ℕ) → is_fuse_byte x ≡ true → is_fuse_byte (D.blow x) ≡ true
  pub fuse_shut : (ρ : List ℕ) (s : Volatile) → D.may_write ρ s D.fuse_at ≡ false
  pub fuse_counter : (n : Counter) → D.fuse_at ≡ counter_place D n → ⊥
  pub fuse_cryptogram : (k : ℕ) → D.fuse_at ≡ D.cryptogram_cell k → ⊥

module _ (D : Device) where
  -- a card keeps its length
  pub card_length_lem : (c : List ℕ) (s : Volatile) (k : Command) → length (any.apply D c s k).card ≡ length c
  card_length_lem c s k = changes D (λ d. length d ≡ length c) c s k (λ d i v p w. length-set d i v ∙ p) refl

  -- the places that a command may write: those that access lets through, counters, cryptogram, fuses
  pub record Untouched (ρ : List ℕ) (s : Volatile) (j : ℕ) : Type 0 where
    pub shut : D.may_write ρ s j ≡ false
    pub counters : (n : Counter) → j ≡ counter_place D n → ⊥
    pub cryptogram : (k : ℕ) → j ≡ D.cryptogram_cell k → ⊥

  -- every other place keeps its byte; the fuse byte too, where a step would not move it
  pub keeps : (c : List ℕ) (s : Volatile) (k : Command) (j : ℕ) → Untouched (rules D c) s j
      → (j ≡ D.fuse_at → D.blow (at c j) ≡ at c j) → at (any.apply D c s k).card j ≡ at c j
  keeps c s k j u f = changes D (λ d. at d j ≡ at c j) c s k (λ d i v p w. go d i v p w) refl
    where
      go : (d : List ℕ) (i v : ℕ) → at d j ≡ at c j → Change D (rules D c) s (carried k) d i v → at (set d i v) j ≡ at c j
      go d i v p (writes i' m) =
          at_set_kept d i _ j (λ q. ap (λ (n : ℕ). kept D (rules D c) s n (at d n) (at (carried k) m)) (sym q) ∙ rw u.shut) ∙ p
      go d i v p (fills n) = at_set_other d _ _ j (u.counters n) ∙ p
      go d i v p (spends n) = at_set_other d _ _ j (u.counters n) ∙ p
      go d i v p (renews n m) = at_set_other d _ _ j (u.cryptogram n) ∙ p
      go d i v p blows = at_set_kept d _ _ j (λ q. ap (λ (n : ℕ). D.blow (at d n)) (sym q) ∙ ap D.blow p ∙ f q ∙ sym p) ∙ p

  module _ (sound : Sound D) where
    -- its bytes stay bytes
    pub card_bytes : (c : List ℕ) (s : Volatile) (k : Command) → Bytes c → Bytes (carried k) → Bytes (any.apply D c s k).card
    card_bytes c s k hc hk = changes D Bytes c s k (λ d i v p w j. at_set_either (λ x. x < 256) d i v j (go d i v p w) (p j)) hc
      where
        go : (d : List ℕ) (i v : ℕ) → Bytes d → Change D (rules D c) s (carried k) d i v → v < 256
        go d i v p (writes i' m) =
            choice (λ x. x < 256) (D.may_write (rules D c) s i) _ _ (sound.merge_byte (rules D c) i (at d i) (at (carried k) m) (p i) (hk m)) (p i)
        go d i v p (fills n) = omega arith
        go d i v p (spends n) = sound.spend_byte _ (p _)
        go d i v p (renews n m) = hk m
        go d i v p blows = sound.blow_byte _ (p _)

    -- its fuse byte stays 7, 6, 4 or 0
    pub card_fuses : (c : List ℕ) (s : Volatile) (k : Command) → is_fuse_byte (at c D.fuse_at) ≡ true
        → is_fuse_byte (at (any.apply D c s k).card D.fuse_at) ≡ true
    card_fuses c s k h = changes D (λ d. is_fuse_byte (at d D.fuse_at) ≡ true) c s k go h
      where
        stays_fuse : (d : List ℕ) (i v : ℕ) → is_fuse_byte (at d D.fuse_at) ≡ true → at (set d i v) D.fuse_at ≡ at d D.fuse_at
            → is_fuse_byte (at (set d i v) D.fuse_at) ≡ true
        stays_fuse d i v p e = ap is_fuse_byte e ∙ p

        go : (d : List ℕ) (i v : ℕ) → is_fuse_byte (at d D.fuse_at) ≡ true → Change D (rules D c) s (carried k) d i v
            → is_fuse_byte (at (set d i v) D.fuse_at) ≡ true
        go d i v p (writes i' m) =
            stays_fuse d i _ p
            (at_set_kept d i _ D.fuse_at
            (λ q. ap (λ (n : ℕ). kept D (rules D c) s n (at d n) (at (carried k) m)) (sym q) ∙ rw (sound.fuse_shut (rules D c) s)))
        go d i v p (fills n) = stays_fuse d _ _ p (at_set_other d _ _ _ (sound.fuse_counter n))
        go d i v p (spends n) = stays_fuse d _ _ p (at_set_other d _ _ _ (sound.fuse_counter n))
        go d i v p (renews n m) = stays_fuse d _ _ p (at_set_other d _ _ _ (sound.fuse_cryptogram n))
        go d i v p blows = at_set_either (λ x. is_fuse_byte x ≡ true) d _ _ _ (sound.blow_stage _ p) p

    -- the state stays in range, where the zones and selectors of commands are
    pub state_range : (Q : Command → Type 0) → ((z : ℕ) → Q (select z) → z < D.zones) → ((j : ℕ) (xs : List ℕ) → Q (verify_password j xs) → j < D.selectors)
        → (c : List ℕ) (s : Volatile) (k : Command) → Q k → volatile_in_range D s ≡ true → volatile_in_range D (any.apply D c s k).report.state ≡ true
    state_range Q zone_fits_lem selector-fits c s k q h = go k (any.apply D c s k).report.state q (moves D c s k)
      where
        zone_in_lem : ltb s.zone D.zones ≡ true
        zone_in_lem = and_left _ _ h

        go : (k : Command) (t : Volatile) → Q k → Move D c s k t → volatile_in_range D t ≡ true
        go k t f stays = h
        go k t f resets = rw zone_in_lem
        go k t f selects = rw (lt-ltb _ _ (zone_fits_lem _ f)) (and_right (ltb s.zone D.zones) _ h)
        go k t f (opens e) = rw (zone_in_lem, lt-ltb _ _ (selector-fits _ _ f))
        go k t f closes = rw zone_in_lem
        go k t f begins = h
        go k t f (grants e) = h
        go k t f denies = h

-- ---- the AT88SC1608

merge_byte : (ρ : List ℕ) (i old new : ℕ) → old < 256 → new < 256 → merge ρ i old new < 256
unfolding merge
merge_byte ρ i old new o n =
    choice (λ x. x < 256) (ltb i configuration_at) _ new
    (choice (λ x. x < 256) (not (eqb (fuses ρ) 7) && pgo (register_of ρ (i / 256))) (bit_and old new) new
    (let h : bit_and old new ≤ old = and_le_l old new in omega arith) n) n

spend_byte : (x : ℕ) → x < 256 → spent_counter x < 256
unfolding spent_counter
spend_byte x h = ltb-true (spent_counter x) 256 (passes_at (λ v. ltb (spent_counter v) 256) 256 refl x h)

blow_byte : (x : ℕ) → x < 256 → blow x < 256
unfolding blow
blow_byte x h = ltb-true (blow x) 256 (passes_at (λ v. ltb (blow v) 256) 256 refl x h)

blow_stage : (x : ℕ) → is_fuse_byte x ≡ true → is_fuse_byte (blow x) ≡ true
unfolding blow
blow_stage x h = choice (λ f. is_fuse_byte f ≡ true) (eqb x 7) 6 _ refl (choice (λ f. is_fuse_byte f ≡ true) (eqb x 6) 4 0 refl refl)

-- from the fuse byte on nothing may be written
pub behind_shut : (ρ : List ℕ) (s : Volatile) (i : ℕ) → fuse_at ≤ i → may_write ρ s i ≡ false
unfolding may_write
behind_shut ρ s i l = rw (le-ltb i configuration_at (omega arith), le-ltb i fuse_at l)

pub fuse_shut : (ρ : List ℕ) (s : Volatile) → may_write ρ s fuse_at ≡ false
fuse_shut ρ s = behind_shut ρ s fuse_at (omega arith)

pub fuse_counter : (n : Counter) → fuse_at ≡ counter_place at88sc1608 n → ⊥
fuse_counter (of_password k) = λ e. omega arith
fuse_counter of_authentication = λ e. omega arith

pub sound : Sound at88sc1608
sound =
    record {
      merge_byte = merge_byte;
      spend_byte = spend_byte;
      blow_byte = blow_byte;
      blow_stage = blow_stage;
      fuse_shut = fuse_shut;
      fuse_counter = fuse_counter;
      fuse_cryptogram = λ k e. omega arith;
    }

pub stageable : Stages at88sc1608
stageable =
    record { cell_below = λ z a k. omega arith; cells_apart = λ z a j k l m e. omega arith; staging_within = omega arith }

-- a card and a volatile state that pass the checks
pub record Fit (c : List ℕ) (v : Volatile) : Type 0 where
  pub long : length c ≡ card_size
  pub stage : is_fuse_byte (at c fuse_at) ≡ true
  pub staging : staging_fits c ≡ true
  pub range : volatile_in_range at88sc1608 v ≡ true

-- and with a busy time that does
pub record Good (c : List ℕ) (s : State) : Type 0 where
  pub fit : Fit c s.volatile
  pub time : s.busy ≤ write_time

pub check_good : (c : List ℕ) (s : State) → Good c s → check c s ≡ 0
unfolding check_of
check_good c s g = rw (eq-eqb _ _ g.fit.long, g.fit.stage, g.fit.staging, g.fit.range, le-leb _ _ g.time)

pub good_check : (c : List ℕ) (s : State) → check c s ≡ 0 → Good c s
unfolding check_of
good_check c s e =
    let p₁ = clear (not (eqb (length c) card_size)) 10 _ e in
    let p₂ = clear (not (is_fuse_byte (at c fuse_at))) 4 _ p₁.1 in
    let p₃ = clear (not (staging_fits c)) 15 _ p₂.1 in
    let p₄ = clear (not (state_in_range at88sc1608 s)) 11 0 p₃.1 in
    let r = not-false _ p₄.0 in
    record {
      fit =
          record {
            long = eqb-true _ _ (not-false _ p₁.0);
            stage = not-false _ p₂.0;
            staging = not-false _ p₃.0;
            range = and_left (volatile_in_range at88sc1608 s.volatile) _ r;
          };
      time = leb-true _ _ (and_right (volatile_in_range at88sc1608 s.volatile) _ r);
    }

-- the zone that is selected is one of the eight
pub zone_below : (c : List ℕ) (s : State) → Good c s → s.volatile.zone < 8
zone_below c s g = ltb-true _ _ (and_left (ltb s.volatile.zone 8) _ g.fit.range)

-- no command writes a staging byte
staging_kept : (c : List ℕ) (v : Volatile) (k : Command) (j : ℕ) → flag_at ≤ j → at (any.apply at88sc1608 c v k).card j ≡ at c j
staging_kept c v k j l =
    keeps at88sc1608 c v k j
    (record { shut = behind_shut (rules at88sc1608 c) v j (omega arith); counters = counters; cryptogram = λ n e. omega arith })
    (λ e. absurd (let z : ⊥ = omega arith in z))
  where
    counters : (n : Counter) → j ≡ counter_place at88sc1608 n → ⊥
    counters (of_password k) e = omega arith
    counters of_authentication e = omega arith

-- a command with its fields in range leaves a fit card and state fit
fit_after : (c : List ℕ) (v : Volatile) (k : Command) → Fields k → Fit c v
    → Fit (any.apply at88sc1608 c v k).card (any.apply at88sc1608 c v k).report.state
fit_after c v k f g =
    record {
      long = card_length_lem at88sc1608 c v k ∙ g.long;
      stage = card_fuses at88sc1608 sound c v k g.stage;
      staging = staging_same at88sc1608 c (any.apply at88sc1608 c v k).card (λ j l h. staging_kept c v k j l) ∙ g.staging;
      range = state_range at88sc1608 sound Fields (λ z f. f) (λ j xs f. f.0) c v k f g.range;
    }

-- what a write that is finished or staged leaves of a fit card is fit, torn or not
torn_fit : (c : List ℕ) (v : Volatile) (z a : ℕ) (vs d : List ℕ) → Fit c v → z < 8 → length vs ≤ 8 → Torn at88sc1608 c z a vs d → Fit d v
torn_fit c v z a vs d g zl few t =
    record {
      long = t.long ∙ g.long;
      stage = ap is_fuse_byte (t.others fuse_at (omega arith) (λ k l e. omega arith)) ∙ g.stage;
      staging = torn_fits at88sc1608 c z a vs d t zl few;
      range = g.range;
    }

-- a card that is ready has begun the write that it names
pub ready_begun : (c : List ℕ) (few : length (staged_values at88sc1608 c) ≤ 8) → length c ≡ card_size → is_ready at88sc1608 c ≡ true
    → Begun at88sc1608 stageable (staged_zone at88sc1608 c) (staged_address at88sc1608 c) (staged_values at88sc1608 c) few c c
ready_begun c few long r =
    record {
      long = refl;
      size = long;
      before = λ i l u. refl;
      ready = eqb-true _ _ r;
      names = record { zone = refl; address = refl; final = refl };
    }

laid_fit : (c : List ℕ) (s : State) (i : Instruction) → Ranged i → Fit c s.volatile → (ws : List Cell) → ignores at88sc1608 c s i ≡ false
    → Lays at88sc1608 c s i ws → Fit (write_cells (cells_under at88sc1608 s.tear ws) c) s.volatile
laid_fit c s i f g ws e (finishes r) =
    let w = fits_ready at88sc1608 c g.staging r in
    let few : length (staged_values at88sc1608 c) ≤ 8 = rw (length_tab _ _) w.1 in
    torn_fit c s.volatile _ _ _ _ g w.0 few
    (finished at88sc1608 stageable _ _ _ few c c (ready_begun c few g.long r) s.tear)
laid_fit c s i f g ws e (stages {a = a} {xs = xs} m) =
    let z : ℕ = s.volatile.zone in
    let vs : List ℕ = final_values at88sc1608 c z a xs in
    let few : length vs ≤ 8 = rw (length_tab _ _) f.1 in
    torn_fit c s.volatile z a vs _ g (ltb-true _ _ (and_left (ltb z 8) _ g.range)) few
    (staged at88sc1608 stageable z a vs few c g.long (fits_idle at88sc1608 c g.staging (staged_meets at88sc1608 c s a xs e).1) s.tear)

-- an instruction with its fields in range leaves a good card and state good
pub good_after : (c : List ℕ) (s : State) (i : Instruction) → Ranged i → Good c s → Good (act c s i).card (act c s i).report.state
good_after c s i f g =
    record {
      fit =
          act_keeps at88sc1608 Fit c s (λ d h. record { long = h.long; stage = h.stage; staging = h.staging; range = refl }) i
          (λ k e. fit_after c s.volatile k (subst Ranged e f) g.fit) (laid_fit c s i f g.fit) g.fit;
      time = act_time at88sc1608 c s i g.time;
    }

-- and so does every list of calls, of any bytes and lengths
pub stays_good : (xs : List Call) (m : Powered State) → Good m.card m.state → Good (final xs m).card (final xs m).state
stays_good = list_keeps check decode act answered_kind Good (λ c s k part n e g. good_after c s k (decode_ranged part k n e) g)

-- a card keeps its length
pub act_length : (c : List ℕ) (s : State) (i : Instruction) → length (act c s i).card ≡ length c
act_length c s i =
    act_keeps at88sc1608 (λ d v. length d ≡ length c) c s (λ d h. h) i (λ k e. card_length_lem at88sc1608 c s.volatile k)
    (λ ws e l. length_cells (cells_under at88sc1608 s.tear ws) c) refl
