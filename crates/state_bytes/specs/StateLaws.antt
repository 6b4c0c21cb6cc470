-- Laws of the nine bytes: states in range and the bytes that stand for a state are each other's.
use Rattle.std.specs.Prelude.{ℕ, ◌<◌, Bool, true, false, cond, ◌&&◌, List, [], ◌∷◌, ◌≡◌, refl, ltb, leb, eqb, length}
use Rattle.std.proofs.Common.{sym, ap, ◌∙◌, arith, eqb-true, ltb-true}
use Rattle.std.proofs.lemmas.Bool.{eqb-false}
use Rattle.model.specs.Lists.{at, tab}
use Rattle.laws.specs.ListLaws.{tab_list}
use Rattle.laws.specs.BoolLaws.{and_left, and_right}
use Rattle.model.specs.At88sc1608.{at88sc1608}
use Rattle.model.specs.State.{Tear, untorn, tear_after, State, make_state, write_time}
use Rattle.model.specs.Single.{active_below, volatile_in_range, state_in_range}
use Rattle.model.specs.Volatile.{Active, none, selector, Authentication, idle, begun, granted}
use Rattle.state_bytes.specs.StateBytes.{active_flag, active_selector, authentication_byte, state_bytes, active_in_range, is_state, active_read}
use Rattle.state_bytes.specs.StateBytes.{authentication_read, off_byte, tear_flag, tear_cells, tear_junk, tear_in_range, tear_read, state_of}

abbrev state : ℕ → Active → Authentication → ℕ → Bool → Tear → State
state z a u t off tear = make_state (record { zone = z; active = a; authentication = u }) t off tear

-- bytes that stand for a state are nine
pub state_long : (b : List ℕ) → is_state b ≡ true → length b ≡ 9
unfolding is_state
state_long b e = eqb-true _ _ (and_left (eqb (length b) 9) _ e)

-- a state in range is read back from its bytes
pub state_read : (s : State) → state_in_range at88sc1608 s ≡ true → state_of (state_bytes s) ≡ s
unfolding state_of is_state
state_read s e =
    let v = and_left (volatile_in_range at88sc1608 s.volatile) _ e in
    go s.volatile.active s.volatile.authentication s.off s.tear (and_left (ltb s.volatile.zone 8) _ v)
    (and_right (ltb s.volatile.zone 8) _ v)
    (and_right (volatile_in_range at88sc1608 s.volatile) _ e)
  where
    armed : (z : ℕ) (a : Active) (u : Authentication) (t : ℕ) (off : Bool) (tear : Tear) → ltb z 8 ≡ true
        → active_in_range (active_flag a) (active_selector a) ≡ true
        → active_read (active_flag a) (active_selector a) ≡ a → ltb (authentication_byte u) 3 ≡ true → authentication_read (authentication_byte u) ≡ u
        → leb t write_time ≡ true → state_of (state_bytes (state z a u t off tear)) ≡ state z a u t off tear
    armed z a u t true untorn p q r x y w = rw (p, x, w, q, r, y)
    armed z a u t true (tear_after n junk) p q r x y w = rw (p, x, w, q, r, y)
    armed z a u t false untorn p q r x y w = rw (p, x, w, q, r, y)
    armed z a u t false (tear_after n junk) p q r x y w = rw (p, x, w, q, r, y)

    go : (a : Active) (u : Authentication) (off : Bool) (tear : Tear) → ltb s.volatile.zone 8 ≡ true → active_below 16 a ≡ true
        → leb s.busy write_time ≡ true
        → state_of (state_bytes (state s.volatile.zone a u s.busy off tear)) ≡ state s.volatile.zone a u s.busy off tear
    go none idle off tear z k t = armed _ none idle _ off tear z refl refl refl refl t
    go none begun off tear z k t = armed _ none begun _ off tear z refl refl refl refl t
    go none granted off tear z k t = armed _ none granted _ off tear z refl refl refl refl t
    go (selector j) idle off tear z k t = armed _ (selector j) idle _ off tear z k refl refl refl t
    go (selector j) begun off tear z k t = armed _ (selector j) begun _ off tear z k refl refl refl t
    go (selector j) granted off tear z k t = armed _ (selector j) granted _ off tear z k refl refl refl t

active_range : (f k : ℕ) → active_in_range f k ≡ true → active_below 16 (active_read f k) ≡ true
active_range f k e = flag (eqb f 0) e
  where
    flag : (t : Bool) → cond t (eqb k 0) (eqb f 1 && ltb k 16) ≡ true → active_below 16 (cond t none (selector k)) ≡ true
    flag true e = refl
    flag false e = and_right (eqb f 1) _ e

abbrev read_state : List ℕ → State
read_state b =
    state (at b 0) (active_read (at b 1) (at b 2)) (authentication_read (at b 3)) (at b 4) (eqb (at b 5) 1) (tear_read (at b 6) (at b 7) (at b 8))

read_range : (b : List ℕ) → is_state b ≡ true → state_in_range at88sc1608 (read_state b) ≡ true
unfolding is_state
read_range b e =
    let p = and_right (eqb (length b) 9) _ e in
    let q = and_right (ltb (at b 3) 3) _ (and_right (ltb (at b 0) 8) _ p) in
    let r =
    and_right (tear_in_range (at b 6) (at b 7) (at b 8)) _ (and_right (ltb (at b 5) 2) _ (and_right (leb (at b 4) write_time) _ q)) in
    rw (and_left (ltb (at b 0) 8) _ p, active_range (at b 1) (at b 2) r) (and_left (leb (at b 4) write_time) _ q)

-- bytes that stand for a state are read as one in range, all others as one out of range
pub state_range : (b : List ℕ) → state_in_range at88sc1608 (state_of b) ≡ is_state b
unfolding state_of
state_range b = go (is_state b) refl
  where
    go : (t : Bool) → is_state b ≡ t → state_in_range at88sc1608 (cond t (read_state b) (state 255 none idle 0 false untorn)) ≡ t
    go true e = read_range b e
    go false e = refl

-- and bytes that stand for a state are written back
active_written : (f k : ℕ) → active_in_range f k ≡ true → (active_flag (active_read f k) ≡ f) × (active_selector (active_read f k) ≡ k)
active_written f k e = flag (eqb f 0) refl e
  where
    flag : (t : Bool) → eqb f 0 ≡ t → cond t (eqb k 0) (eqb f 1 && ltb k 16) ≡ true
        → (active_flag (cond t none (selector k)) ≡ f) × (active_selector (cond t none (selector k)) ≡ k)
    flag true p e = (sym (eqb-true f 0 p), sym (eqb-true k 0 e))
    flag false p e = (sym (eqb-true f 1 (and_left (eqb f 1) _ e)), refl)

authentication_written : (u : ℕ) → u < 3 → authentication_byte (authentication_read u) ≡ u
authentication_written u h = zeroth (eqb u 0) refl
  where
    first : (t : Bool) → eqb u 1 ≡ t → (u ≡ 0 → ⊥) → authentication_byte (cond t begun granted) ≡ u
    first true p n = sym (eqb-true u 1 p)
    first false p n = let m = eqb-false u 1 p in let w : 2 ≡ u = omega arith in w

    zeroth : (t : Bool) → eqb u 0 ≡ t → authentication_byte (cond t idle (cond (eqb u 1) begun granted)) ≡ u
    zeroth true p = sym (eqb-true u 0 p)
    zeroth false p = first (eqb u 1) refl (eqb-false u 0 p)

off_written : (o : ℕ) → o < 2 → off_byte (eqb o 1) ≡ o
off_written o h = go (eqb o 1) refl
  where
    go : (t : Bool) → eqb o 1 ≡ t → off_byte t ≡ o
    go true p = sym (eqb-true o 1 p)
    go false p = let n = eqb-false o 1 p in let w : 0 ≡ o = omega arith in w

tear_written : (f k j : ℕ) → tear_in_range f k j ≡ true → (tear_flag (tear_read f k j) ≡ f) × (tear_cells (tear_read f k j) ≡ k) × (tear_junk (tear_read f k j) ≡ j)
tear_written f k j e = flag (eqb f 0) refl e
  where
    flag : (t : Bool) → eqb f 0 ≡ t → cond t (eqb k 0 && eqb j 0) (eqb f 1) ≡ true
        → (tear_flag (cond t untorn (tear_after k j)) ≡ f) × (tear_cells (cond t untorn (tear_after k j)) ≡ k) × (tear_junk (cond t untorn (tear_after k j)) ≡ j)
    flag true p e = (sym (eqb-true f 0 p), sym (eqb-true k 0 (and_left (eqb k 0) _ e)), sym (eqb-true j 0 (and_right (eqb k 0) _ e)))
    flag false p e = (sym (eqb-true f 1 e), refl, refl)

-- a list of nine elements is these
pub nine : (b : List ℕ) → length b ≡ 9
    → b ≡ at b 0 ∷ at b 1 ∷ at b 2 ∷ at b 3 ∷ at b 4 ∷ at b 5 ∷ at b 6 ∷ at b 7 ∷ at b 8 ∷ []
unfolding tab
nine b e = sym (tab_list b) ∙ ap (tab (at b)) e

pub state_written : (b : List ℕ) → is_state b ≡ true → state_bytes (state_of b) ≡ b
unfolding state_of is_state
state_written b e =
    rw e
    (λ i. at b 0 ∷ active.0 i ∷ active.1 i ∷ authentication_written (at b 3) (ltb-true (at b 3) 3 (and_left (ltb (at b 3) 3) _ p)) i ∷ at b 4
    ∷ off_written (at b 5) (ltb-true (at b 5) 2 (and_left (ltb (at b 5) 2) _ q)) i ∷ tear.0 i ∷ tear.1 i ∷ tear.2 i ∷ [])
    ∙ sym (nine b (state_long b e))
  where
    p : (ltb (at b 3) 3
        && (leb (at b 4) write_time && (ltb (at b 5) 2 && (tear_in_range (at b 6) (at b 7) (at b 8) && active_in_range (at b 1) (at b 2))))) ≡ true
    p = and_right (ltb (at b 0) 8) _ (and_right (eqb (length b) 9) _ e)

    q : (ltb (at b 5) 2 && (tear_in_range (at b 6) (at b 7) (at b 8) && active_in_range (at b 1) (at b 2))) ≡ true
    q = and_right (leb (at b 4) write_time) _ (and_right (ltb (at b 3) 3) _ p)

    r : (tear_in_range (at b 6) (at b 7) (at b 8) && active_in_range (at b 1) (at b 2)) ≡ true
    r = and_right (ltb (at b 5) 2) _ q

    active : (active_flag (active_read (at b 1) (at b 2)) ≡ at b 1) × (active_selector (active_read (at b 1) (at b 2)) ≡ at b 2)
    active = active_written (at b 1) (at b 2) (and_right (tear_in_range (at b 6) (at b 7) (at b 8)) _ r)

    tear : (tear_flag (tear_read (at b 6) (at b 7) (at b 8)) ≡ at b 6) × (tear_cells (tear_read (at b 6) (at b 7) (at b 8)) ≡ at b 7)
        × (tear_junk (tear_read (at b 6) (at b 7) (at b 8)) ≡ at b 8)
    tear = tear_written (at b 6) (at b 7) (at b 8) (and_left (tear_in_range (at b 6) (at b 7) (at b 8)) _ r)
