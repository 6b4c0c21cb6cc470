-- Laws of staged writes, for any device that meets a few laws: what a staged write and its finishing leave, whole or torn at any cell. Every
-- byte of the zones is as it was, or the named bytes are written and the others as they were, or the write is still staged.
use Prim.Native.Nat.{ℕ, zero, suc, ◌+◌, ◌*◌, ◌/◌, ◌%◌, ◌≤◌, ◌<◌}
use Rattle.std.specs.Prelude.{Bool, true, false, cond, ◌&&◌, ◌||◌, ◌≡◌, refl, ltb, leb, eqb, length, set}
use mathlib.Core.List.{List, [], ◌∷◌, ◌++◌, append_assoc}
use Rattle.std.proofs.Common.{sym, ap, subst, ◌∙◌, arith, ltb-true, ltb-false, leb-true, eqb-true, lt-ltb, le-leb, eq-eqb, length-set, length-append, get_or-set_same}
use Rattle.std.proofs.lemmas.Bool.{eqb-false}
use Rattle.model.specs.Lists.{at, tab}
use Rattle.model.specs.Cells.{Cell, cell, write_cells, row, torn}
use Rattle.model.specs.Device.{Device}
use Rattle.model.specs.Staging.{idle_flag, ready_flag, is_ready, staged_at, staged_zone, staged_address, staged_length, staged_values, staging_fits, finish_cells}
use Rattle.model.specs.Staging.{stage_cells, spoilt, cells_under, tears_in}
use Rattle.model.specs.State.{Tear, untorn, tear_after}
use Rattle.laws.specs.BoolLaws.{and_left, and_right, or_left}
use Rattle.laws.specs.ListLaws.{length_tab, tab_cong, tab_list, at_set_other}
use Rattle.laws.specs.CellLaws.{length_cells, length_row, cells_append, cells_one, Places, places_row, places_torn, cells_keep, row_at}
use Rattle.laws.specs.CellLaws.{Falls, within, past, falls, torn_none}

-- Laws of a device: the bytes of a zone lie before the flag, those of one write are apart, and the staging bytes are within the card.
pub record Stages (D : Device) : Type 0 where
  pub cell_below : (z a k : ℕ) → D.zone_cell z a k < D.flag_at
  pub cells_apart : (z a j k : ℕ) → j < D.most_staged → k < D.most_staged → D.zone_cell z a j ≡ D.zone_cell z a k → j ≡ k
  pub staging_within : D.flag_at + 4 + D.most_staged ≤ D.size

-- a flag that a tear met: its bit 0 is the junk's
flag_left : (v junk : ℕ) → v / 2 ≡ 127 → v / 2 * 2 + junk % 2 ≡ cond (eqb (junk % 2) 0) ready_flag idle_flag
flag_left v junk h = go (eqb (junk % 2) 0) refl
  where
    go : (t : Bool) → eqb (junk % 2) 0 ≡ t → v / 2 * 2 + junk % 2 ≡ cond t ready_flag idle_flag
    go true e = let q : junk % 2 ≡ 0 = eqb-true (junk % 2) 0 e in omega arith
    go false e = let q = eqb-false (junk % 2) 0 e in omega arith

module _ (D : Device) where
  -- the staging bytes of a card name a write
  pub record Names (z a : ℕ) (vs d : List ℕ) : Type 0 where
    pub zone : staged_zone D d ≡ z
    pub address : staged_address D d ≡ a
    pub final : staged_values D d ≡ vs

  pub names_kept : (z a : ℕ) (vs d e : List ℕ) → ((j : ℕ) → D.flag_at < j → at e j ≡ at d j) → Names z a vs d → Names z a vs e
  names_kept z a vs d e same n =
      record {
        zone = same _ (omega arith) ∙ n.zone;
        address = same _ (omega arith) ∙ n.address;
        final =
            (λ i. tab (λ k. at e (staged_at D (3 + k))) (same (staged_at D 2) (omega arith) i))
            ∙ tab_cong _ _ _ (λ k l. same _ (omega arith)) ∙ n.final;
      }

  -- whether the staging bytes are well depends on them alone
  pub staging_same : (c d : List ℕ) → ((j : ℕ) → D.flag_at ≤ j → j < D.flag_at + 4 → at d j ≡ at c j) → staging_fits D d ≡ staging_fits D c
  staging_same c d same =
      let f = same D.flag_at (omega arith) (omega arith) in
      let z = same (staged_at D 0) (omega arith) (omega arith) in
      let n = same (staged_at D 2) (omega arith) (omega arith) in
      λ i. eqb (f i) idle_flag || (eqb (f i) ready_flag && (ltb (z i) D.zones && leb (n i) D.most_staged))

  -- where they are well, the flag is idle, or it is ready and names a write of a zone and a length that exist
  pub fits_idle : (c : List ℕ) → staging_fits D c ≡ true → is_ready D c ≡ false → at c D.flag_at ≡ idle_flag
  fits_idle c e r = eqb-true _ _ (or_left (eqb (at c D.flag_at) idle_flag) (rw r at e))

  pub fits_ready : (c : List ℕ) → staging_fits D c ≡ true → is_ready D c ≡ true → (staged_zone D c < D.zones) × (staged_length D c ≤ D.most_staged)
  fits_ready c e r =
      let f : at c D.flag_at ≡ ready_flag = eqb-true _ _ r in
      let w : (ltb (staged_zone D c) D.zones && leb (staged_length D c) D.most_staged) ≡ true = rw f at e in
      (ltb-true _ _ (and_left (ltb (staged_zone D c) D.zones) _ w), leb-true _ _ (and_right (ltb (staged_zone D c) D.zones) _ w))

  -- a place is none of the bytes that a write of n bytes names
  abbrev pub Unnamed : ℕ → ℕ → ℕ → ℕ → Type 0
  Unnamed z a n i = (k : ℕ) → k < n → i ≡ D.zone_cell z a k → ⊥

  -- what became of a write to a card c, on the card d: none of it, all of it, or it is still staged
  pub data Fate (c : List ℕ) (z a : ℕ) (vs d : List ℕ) : Type 0 where
    none : at d D.flag_at ≡ idle_flag → ((i : ℕ) → i < D.flag_at → at d i ≡ at c i) → Fate c z a vs d
    all : at d D.flag_at ≡ idle_flag → ((k : ℕ) → k < length vs → at d (D.zone_cell z a k) ≡ at vs k) → Fate c z a vs d
    still : at d D.flag_at ≡ ready_flag → Names z a vs d → Fate c z a vs d

  -- the whole: the card is as long as it was, and every other byte before the flag is as it was
  pub record Torn (c : List ℕ) (z a : ℕ) (vs d : List ℕ) : Type 0 where
    pub long : length d ≡ length c
    pub others : (i : ℕ) → i < D.flag_at → Unnamed z a (length vs) i → at d i ≡ at c i
    pub fate : Fate c z a vs d

  -- either way the staging bytes are well
  pub torn_fits : (c : List ℕ) (z a : ℕ) (vs d : List ℕ) → Torn c z a vs d → z < D.zones → length vs ≤ D.most_staged → staging_fits D d ≡ true
  torn_fits c z a vs d t zl few = go t.fate
    where
      go : Fate c z a vs d → staging_fits D d ≡ true
      go (none e same) = rw e
      go (all e written) = rw e
      go (still e n) =
          let l : staged_length D d ≡ length vs = sym (length_tab _ (staged_length D d)) ∙ ap length n.final in
          rw (e, n.zone, l, lt-ltb z D.zones zl, le-leb (length vs) D.most_staged few)

  -- how many cells are written
  pub finish_count : (z a : ℕ) (vs : List ℕ) → length (finish_cells D z a vs) ≡ length vs + 1
  finish_count z a vs = length-append (row (D.zone_cell z a) vs) _ ∙ ap (λ (n : ℕ). n + 1) (length_row (D.zone_cell z a) vs)

  pub stage_count : (z a : ℕ) (vs : List ℕ) → length (stage_cells D z a vs) ≡ 2 * length vs + 5
  stage_count z a vs =
      let p = length-append (row (staged_at D) (z ∷ a ∷ length vs ∷ vs)) (cell D.flag_at ready_flag ∷ finish_cells D z a vs) in
      let q = length_row (staged_at D) (z ∷ a ∷ length vs ∷ vs) in
      let r = finish_count z a vs in
      omega arith

  -- where no tear comes, all cells are written, and the flag comes last
  pub under_whole : (tear : Tear) (ws : List Cell) → tears_in tear (length ws) ≡ false → cells_under D tear ws ≡ ws
  under_whole untorn ws e = refl
  under_whole (tear_after k junk) ws e = torn_none (spoilt D junk) k ws (ltb-false _ _ e)

  module _ (tear : Tear) (c : List ℕ) (here : D.flag_at < length c) where
    last_flag : (ws : List Cell) → at (write_cells (ws ++ (cell D.flag_at idle_flag ∷ [])) c) D.flag_at ≡ idle_flag
    last_flag ws =
        rw (cells_append ws (cell D.flag_at idle_flag ∷ []) c, cells_one D.flag_at idle_flag (write_cells ws c))
        (get_or-set_same (write_cells ws c) D.flag_at idle_flag 0 (let l = length_cells ws c in omega arith))

    pub finished_idle : (z a : ℕ) (vs : List ℕ) → tears_in tear (length (finish_cells D z a vs)) ≡ false
        → at (write_cells (cells_under D tear (finish_cells D z a vs)) c) D.flag_at ≡ idle_flag
    finished_idle z a vs e = rw (under_whole tear (finish_cells D z a vs) e) (last_flag (row (D.zone_cell z a) vs))

    pub staged_idle : (z a : ℕ) (vs : List ℕ) → tears_in tear (length (stage_cells D z a vs)) ≡ false
        → at (write_cells (cells_under D tear (stage_cells D z a vs)) c) D.flag_at ≡ idle_flag
    staged_idle z a vs e =
        let front : List Cell = row (staged_at D) (z ∷ a ∷ length vs ∷ vs) in
        let back : List Cell = cell D.flag_at ready_flag ∷ row (D.zone_cell z a) vs in
        rw (under_whole tear (stage_cells D z a vs) e)
        (subst (λ (ws : List Cell). at (write_cells ws c) D.flag_at ≡ idle_flag) (append_assoc front back (cell D.flag_at idle_flag ∷ []))
        (last_flag (front ++ back)))

  -- a tear moves no cell, and at the flag it is as said above
  spoilt_flag : (v junk : ℕ) → v / 2 ≡ 127 → spoilt D junk (cell D.flag_at v) ≡ cell D.flag_at (cond (eqb (junk % 2) 0) ready_flag idle_flag)
  spoilt_flag v junk h = rw (eq-eqb D.flag_at D.flag_at refl) (ap (cell D.flag_at) (flag_left v junk h))

  module _ (S : Stages D) (z a : ℕ) (vs : List ℕ) (few : length vs ≤ D.most_staged) where
    -- ---- the finishing of a write that a card d names; d agrees with a card c but for that write

    pub record Begun (c d : List ℕ) : Type 0 where
      pub long : length d ≡ length c
      pub size : length c ≡ D.size
      pub before : (i : ℕ) → i < D.flag_at → Unnamed z a (length vs) i → at d i ≡ at c i
      pub ready : at d D.flag_at ≡ ready_flag
      pub names : Names z a vs d

    module _ (c d : List ℕ) (g : Begun c d) where
      -- cells of the zone leave every place that is not named
      abbrev InZone : ℕ → Type 0
      InZone i = (k : ℕ) × (k < length vs) × (i ≡ D.zone_cell z a k)

      avoids : (j : ℕ) → Unnamed z a (length vs) j → (ws : List Cell) → Places InZone ws → Places (λ i. j ≡ i → ⊥) ws
      avoids j u [] p = tt
      avoids j u (w ∷ ws) p = ((λ e. u p.0.0 p.0.1 (e ∙ p.0.2)), avoids j u ws p.1)

      behind : (j : ℕ) → D.flag_at ≤ j → Unnamed z a (length vs) j
      behind j l k h e = let w = S.cell_below z a k in omega arith

      zone_row : Places InZone (row (D.zone_cell z a) vs)
      zone_row = places_row _ _ vs (λ k l. (k, l, refl))

      -- torn among them, they leave the rest; whole, they have their values
      row_keeps : (junk k j : ℕ) → Unnamed z a (length vs) j → at (write_cells (torn (spoilt D junk) k (row (D.zone_cell z a) vs)) d) j ≡ at d j
      row_keeps junk k j u =
          cells_keep j (torn (spoilt D junk) k (row (D.zone_cell z a) vs)) d
          (avoids j u (torn (spoilt D junk) k (row (D.zone_cell z a) vs))
          (places_torn InZone (spoilt D junk) (λ w. refl) k (row (D.zone_cell z a) vs) zone_row))

      row_written : (k : ℕ) → k < length vs → at (write_cells (row (D.zone_cell z a) vs) d) (D.zone_cell z a k) ≡ at vs k
      row_written =
          row_at (D.zone_cell z a) vs d
          (λ k l. let w = S.cell_below z a k in let s = S.staging_within in let p = g.long in let q = g.size in omega arith)
          (λ j k l m q. S.cells_apart z a j k (omega arith) (omega arith) q)

      -- torn among them
      among : (junk k : ℕ) → Torn c z a vs (write_cells (torn (spoilt D junk) k (row (D.zone_cell z a) vs)) d)
      among junk k =
          record {
            long = length_cells ws d ∙ g.long;
            others = λ i l u. keep i u ∙ g.before i l u;
            fate = still (keep D.flag_at (behind _ (omega arith)) ∙ g.ready)
                (names_kept z a vs d (write_cells ws d) (λ j l. keep j (behind j (omega arith))) g.names);
          }
        where
          ws : List Cell
          ws = torn (spoilt D junk) k (row (D.zone_cell z a) vs)

          keep : (j : ℕ) → Unnamed z a (length vs) j → at (write_cells ws d) j ≡ at d j
          keep = row_keeps junk k

      -- all of them written, and then the flag, idle or not
      behind_them : (t : Bool) → Torn c z a vs (write_cells (row (D.zone_cell z a) vs ++ (cell D.flag_at (cond t ready_flag idle_flag) ∷ [])) d)
      behind_them t =
          rw (
            cells_append (row (D.zone_cell z a) vs) (cell D.flag_at (cond t ready_flag idle_flag) ∷ []) d,
            cells_one D.flag_at
                (cond t ready_flag idle_flag) e,
          )
          (record {
            long = length-set e _ _ ∙ e_long;
            others = λ i l u. at_set_other e _ _ i (λ q. omega arith) ∙ keep i u ∙ g.before i l u;
            fate = go t;
          })
        where
          e : List ℕ
          e = write_cells (row (D.zone_cell z a) vs) d

          e_long : length e ≡ length c
          e_long = length_cells (row (D.zone_cell z a) vs) d ∙ g.long

          keep : (j : ℕ) → Unnamed z a (length vs) j → at e j ≡ at d j
          keep j u = cells_keep j (row (D.zone_cell z a) vs) d (avoids j u (row (D.zone_cell z a) vs) zone_row)

          flag_is : (v : ℕ) → at (set e D.flag_at v) D.flag_at ≡ v
          flag_is v = get_or-set_same e D.flag_at v 0 (let l = e_long in let s = S.staging_within in let q = g.size in omega arith)

          go : (t : Bool) → Fate c z a vs (set e D.flag_at (cond t ready_flag idle_flag))
          go true =
              still (flag_is ready_flag)
              (names_kept z a vs d (set e D.flag_at ready_flag)
              (λ j l. at_set_other e _ _ j (λ q. omega arith) ∙ keep j (behind j (omega arith))) g.names)
          go false =
              all (flag_is idle_flag)
              (λ k l. at_set_other e _ _ (D.zone_cell z a k) (λ q. let w = S.cell_below z a k in omega arith) ∙ row_written k l)

      pub finished : (tear : Tear) → Torn c z a vs (write_cells (cells_under D tear (finish_cells D z a vs)) d)
      finished untorn = behind_them false
      finished (tear_after k junk) = go (falls (spoilt D junk) k (row (D.zone_cell z a) vs) (cell D.flag_at idle_flag ∷ []))
        where
          last : (m : ℕ) → (t : Bool) × (torn (spoilt D junk) m (cell D.flag_at idle_flag ∷ []) ≡ cell D.flag_at (cond t ready_flag idle_flag) ∷ [])
          last zero = (eqb (junk % 2) 0, ap (λ (w : Cell). w ∷ []) (spoilt_flag idle_flag junk refl))
          last (suc m) = (false, refl)

          go : Falls (spoilt D junk) k (row (D.zone_cell z a) vs) (cell D.flag_at idle_flag ∷ [])
              → Torn c z a vs (write_cells (torn (spoilt D junk) k (finish_cells D z a vs)) d)
          go (within e) = rw e (among junk k)
          go (past m e) = rw (e, (last m).1) (behind_them (last m).0)

      -- where it leaves an idle flag, the bytes of the zone have their values
      pub finished_new : (tear : Tear) → at (write_cells (cells_under D tear (finish_cells D z a vs)) d) D.flag_at ≡ idle_flag
          → (j : ℕ) → j < length vs → at (write_cells (cells_under D tear (finish_cells D z a vs)) d) (D.zone_cell z a j) ≡ at vs j
      finished_new tear idle j l = go tear idle
        where
          whole : (v : ℕ) → at (write_cells (row (D.zone_cell z a) vs ++ (cell D.flag_at v ∷ [])) d) (D.zone_cell z a j) ≡ at vs j
          whole v =
              rw (cells_append (row (D.zone_cell z a) vs) (cell D.flag_at v ∷ []) d, cells_one D.flag_at v (write_cells (row (D.zone_cell z a) vs) d))
              (at_set_other (write_cells (row (D.zone_cell z a) vs) d) _ _ (D.zone_cell z a j) (λ q. let w = S.cell_below z a j in omega arith)
              ∙ row_written j l)

          last : (junk m : ℕ) → (v : ℕ) × (torn (spoilt D junk) m (cell D.flag_at idle_flag ∷ []) ≡ cell D.flag_at v ∷ [])
          last junk zero = (_, ap (λ (w : Cell). w ∷ []) (spoilt_flag idle_flag junk refl))
          last junk (suc m) = (idle_flag, refl)

          go : (tear : Tear) → at (write_cells (cells_under D tear (finish_cells D z a vs)) d) D.flag_at ≡ idle_flag
              → at (write_cells (cells_under D tear (finish_cells D z a vs)) d) (D.zone_cell z a j) ≡ at vs j
          go untorn e = whole idle_flag
          go (tear_after k junk) e = by (falls (spoilt D junk) k (row (D.zone_cell z a) vs) (cell D.flag_at idle_flag ∷ []))
            where
              by : Falls (spoilt D junk) k (row (D.zone_cell z a) vs) (cell D.flag_at idle_flag ∷ [])
                  → at (write_cells (torn (spoilt D junk) k (finish_cells D z a vs)) d) (D.zone_cell z a j) ≡ at vs j
              by (within q) =
                  let f : at (write_cells (torn (spoilt D junk) k (row (D.zone_cell z a) vs)) d) D.flag_at ≡ idle_flag = rw q at e in
                  let r : ready_flag ≡ idle_flag = sym (row_keeps junk k D.flag_at (behind _ (omega arith)) ∙ g.ready) ∙ f in
                  absurd (let n : ⊥ = omega (arith, r) in n)
              by (past m q) = rw (q, (last junk m).1) (whole (last junk m).0)

    -- ---- the write: c has no write to finish

    module _ (c : List ℕ) (size : length c ≡ D.size) (idle : at c D.flag_at ≡ idle_flag) where
      abbrev head : List ℕ
      head = z ∷ a ∷ length vs ∷ vs

      -- cells behind the flag leave it and every place before it
      stage_row : Places (λ i. D.flag_at < i) (row (staged_at D) head)
      stage_row = places_row (λ i. D.flag_at < i) (staged_at D) head (λ k l. omega arith)

      apart : (j : ℕ) → j ≤ D.flag_at → (ws : List Cell) → Places (λ i. D.flag_at < i) ws → Places (λ i. j ≡ i → ⊥) ws
      apart j l [] p = tt
      apart j l (w ∷ ws) p = ((λ e. let q = p.0 in omega arith), apart j l ws p.1)

      -- torn among them: none of it
      in_head : (junk k : ℕ) → Torn c z a vs (write_cells (torn (spoilt D junk) k (row (staged_at D) head)) c)
      in_head junk k =
          record {
            long = length_cells ws c;
            others = λ i l u. keep i (omega arith);
            fate = none (keep D.flag_at (omega arith) ∙ idle) (λ i l. keep i (omega arith));
          }
        where
          ws : List Cell
          ws = torn (spoilt D junk) k (row (staged_at D) head)

          keep : (j : ℕ) → j ≤ D.flag_at → at (write_cells ws c) j ≡ at c j
          keep j l = cells_keep j ws c (apart j l ws (places_torn _ (spoilt D junk) (λ w. refl) k (row (staged_at D) head) stage_row))

      -- all of them written: they name the write
      abbrev e : List ℕ
      e = write_cells (row (staged_at D) head) c

      e_keep : (j : ℕ) → j ≤ D.flag_at → at e j ≡ at c j
      e_keep j l = cells_keep j (row (staged_at D) head) c (apart j l (row (staged_at D) head) stage_row)

      e_at : (k : ℕ) → k < 3 + length vs → at e (staged_at D k) ≡ at head k
      e_at k l =
          row_at (staged_at D) head c (λ j m. let s = S.staging_within in omega arith) (λ i j m n q. omega arith) k (omega arith)

      e_names : Names z a vs e
      e_names =
          record {
            zone = e_at 0 (omega arith);
            address = e_at 1 (omega arith);
            final =
                (λ i. tab (λ k. at e (staged_at D (3 + k))) (e_at 2 (omega arith) i))
                ∙ tab_cong _ _ _ (λ k l. ap (at e) (next k) ∙ e_at (suc (suc (suc k))) (omega arith)) ∙ tab_list vs;
          }
        where
          next : (k : ℕ) → staged_at D (3 + k) ≡ staged_at D (suc (suc (suc k)))
          next k = omega arith

      -- and then the flag, ready or not
      abbrev flagged : ℕ → List ℕ
      flagged v = set e D.flag_at v

      flagged_is : (v : ℕ) → at (flagged v) D.flag_at ≡ v
      flagged_is v =
          get_or-set_same e D.flag_at v 0 (let l = length_cells (row (staged_at D) head) c in let s = S.staging_within in omega arith)

      flagged_names : (v : ℕ) → Names z a vs (flagged v)
      flagged_names v = names_kept z a vs e (flagged v) (λ j l. at_set_other e _ _ j (λ q. omega arith)) e_names

      flagged_before : (v i : ℕ) → i < D.flag_at → at (flagged v) i ≡ at c i
      flagged_before v i l = at_set_other e _ _ i (λ q. omega arith) ∙ e_keep i (omega arith)

      flagged_long : (v : ℕ) → length (flagged v) ≡ length c
      flagged_long v = length-set e _ _ ∙ length_cells (row (staged_at D) head) c

      begun : Begun c (flagged ready_flag)
      begun =
          record {
            long = flagged_long ready_flag;
            size = size;
            before = λ i l u. flagged_before ready_flag i l;
            ready = flagged_is ready_flag;
            names = flagged_names ready_flag;
          }

      -- torn at the flag
      at_flag : (t : Bool) → Torn c z a vs (flagged (cond t ready_flag idle_flag))
      at_flag t = record { long = flagged_long _; others = λ i l u. flagged_before _ i l; fate = go t }
        where
          go : (t : Bool) → Fate c z a vs (flagged (cond t ready_flag idle_flag))
          go true = still (flagged_is ready_flag) (flagged_names ready_flag)
          go false = none (flagged_is idle_flag) (λ i l. flagged_before idle_flag i l)

      pub staged : (tear : Tear) → Torn c z a vs (write_cells (cells_under D tear (stage_cells D z a vs)) c)
      unfolding write_cells
      staged untorn =
          rw (cells_append (row (staged_at D) head) (cell D.flag_at ready_flag ∷ finish_cells D z a vs) c)
          (finished c (flagged ready_flag) begun untorn)
      staged (tear_after k junk) = go (falls (spoilt D junk) k (row (staged_at D) head) (cell D.flag_at ready_flag ∷ finish_cells D z a vs))
        where
          go : Falls (spoilt D junk) k (row (staged_at D) head) (cell D.flag_at ready_flag ∷ finish_cells D z a vs)
              → Torn c z a vs (write_cells (torn (spoilt D junk) k (stage_cells D z a vs)) c)
          go (within q) = rw q (in_head junk k)
          go (past zero q) =
              rw (q, cells_append (row (staged_at D) head) (spoilt D junk (cell D.flag_at ready_flag) ∷ []) c)
              (subst (λ (w : Cell). Torn c z a vs (set e w.place w.value)) (sym (spoilt_flag ready_flag junk refl)) (at_flag (eqb (junk % 2) 0)))
          go (past (suc m) q) =
              rw (q, cells_append (row (staged_at D) head) (cell D.flag_at ready_flag ∷ torn (spoilt D junk) m (finish_cells D z a vs)) c)
              (finished c (flagged ready_flag) begun (tear_after m junk))

      -- and where no tear comes, the bytes of the zone have their values
      pub whole_values : (k : ℕ) → k < length vs → at (write_cells (stage_cells D z a vs) c) (D.zone_cell z a k) ≡ at vs k
      unfolding write_cells
      whole_values k l =
          let d : List ℕ = flagged ready_flag in
          let w : List ℕ = write_cells (row (D.zone_cell z a) vs) d in
          rw (
            cells_append (row (staged_at D) head) (cell D.flag_at ready_flag ∷ finish_cells D z a vs) c,
            cells_append (row (D.zone_cell z a) vs) (cell D.flag_at idle_flag ∷ []) d,
          )
          (at_set_other w D.flag_at idle_flag (D.zone_cell z a k) (λ q. let b = S.cell_below z a k in omega arith)
          ∙ row_at (D.zone_cell z a) vs d
          (λ j m. let b = S.cell_below z a j in let s = S.staging_within in let p = flagged_long ready_flag in omega arith)
          (λ i j m n q. S.cells_apart z a i j (omega arith) (omega arith) q) k l)
