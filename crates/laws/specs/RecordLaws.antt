-- Laws of the record decoder: what it tells of a record that it accepts.
use Rattle.std.specs.Prelude.{ℕ, ◌+◌, ◌≤◌, ◌<◌, Bool, false, cond, not, List, ◌≡◌, ltb, leb, eqb, take, drop}
use Rattle.std.proofs.Math.Bool.{true}
use Rattle.std.proofs.Math.Path.{refl}
use Rattle.std.proofs.Common.{sym, ap, ◌∙◌, le_refl, length-take, length-drop, length-take-le, get_or-take, take-add, drop_at, take_all}
use native.Mathlib.Omega.{arith}
use borrow.Author.Tests.{ltb-false, leb-true, eqb-false, not-false, ne_eqb, le-ltb}
use Rattle.std.proofs.Math.ListN.{length}
use Rattle.model.specs.Lists.{at}
use Rattle.laws.specs.BoolLaws.{and_left, and_right}
use Rattle.laws.specs.KindLaws.{each_kind, each_row}
use Rattle.model.specs.Call.{whole}
use Rattle.laws.specs.CallLaws.{past}
use Rattle.model.specs.Instruction.{Command, reset, select, read_zone, write_zone, read_configuration, write_configuration, read_fuses, write_fuses, verify_password}
use Rattle.model.specs.Instruction.{begin_authentication, verify_authentication, Instruction, power_cycle, issue, wait, poll, write_staged, arm, kind_of}
use Rattle.model.specs.Record.{Kind, kinds, known, fixed_fields, in_range, data_length, made, data_at, record_length, decode}

-- the data of a record
abbrev pub data_of : List ℕ → List ℕ
data_of part = take (data_length (at part 0) (at part 2)) (drop (data_at part) part)

-- a record that is accepted
pub record Accepted (part : List ℕ) (k : Instruction) (n : ℕ) : Type 0 where
  pub kind : known (at part 0) ≡ true
  pub fields : in_range (at part 0) (at part 1) (at part 2) ≡ true
  pub within : record_length part ≤ length part
  pub command : made (at part 0) (at part 1) (at part 2) (data_of part) ≡ k
  pub size : record_length part ≡ n

pub accepted : (part : List ℕ) (k : Instruction) (n : ℕ) → decode part ≡ whole k n → Accepted part k n
unfolding decode
accepted part k n e =
    let p₁ = past (eqb (length part) 0) _ _ k n e in
    let p₂ = past (not (known (at part 0))) _ _ k n p₁.1 in
    let p₃ = past (ltb (length part) (data_at part)) _ _ k n p₂.1 in
    let p₄ = past (not (in_range (at part 0) (at part 1) (at part 2))) _ _ k n p₃.1 in
    let p₅ = past (ltb (length part) (record_length part)) _ _ k n p₄.1 in
    let q = p₅.1 in
    record {
      kind = not-false _ p₂.0;
      fields = not-false _ p₄.0;
      within = ltb-false (length part) (record_length part) p₅.0;
      command = cc;
      size = cc;
    }

-- the length of an accepted record lies within the part, and is not 0
pub decode_within : (part : List ℕ) (k : Instruction) (n : ℕ) → decode part ≡ whole k n → (1 ≤ n) × (n ≤ length part)
decode_within part k n e = let a = accepted part k n e in omega arith

-- no record is longer: the longest have a kind, two fields and sixteen bytes
abbrev pub longest_record : ℕ
longest_record = 19

record_short : (a n kind : ℕ) → known kind ≡ true → in_range kind a n ≡ true → 1 + fixed_fields kind + data_length kind n ≤ longest_record
unfolding kinds fixed_fields in_range data_length
record_short a n =
    each_kind (λ kind. in_range kind a n ≡ true → 1 + fixed_fields kind + data_length kind n ≤ longest_record)
    (λ r. omega arith)
    (λ r. omega arith)
    (λ r. omega arith)
    (λ r. omega arith)
    (λ r. omega (arith, leb-true n 16 (and_right (leb 1 n) _ r)))
    (λ r. omega arith)
    (λ r. omega (arith, leb-true n 16 (and_right (leb 1 n) _ (and_right (leb a 127) _ r))))
    (λ r. omega arith)
    (λ r. omega arith)
    (λ r. omega arith)
    (λ r. omega arith)
    (λ r. omega arith)
    (λ r. omega arith)
    (λ r. omega arith)
    (λ r. omega (arith, leb-true n 8 (and_right (leb 1 n) _ r)))
    (λ r. omega arith)

pub decode_short : (part : List ℕ) (k : Instruction) (n : ℕ) → decode part ≡ whole k n → n ≤ longest_record
decode_short part k n e =
    let a = accepted part k n e in
    let h = record_short (at part 1) (at part 2) (at part 0) a.kind a.fields in
    let q = a.size in
    omega arith

pub length_data : (part : List ℕ) (k : Instruction) (n : ℕ) → Accepted part k n → length (data_of part) ≡ data_length (at part 0) (at part 2)
length_data part k n a =
    length-take-le _ (drop (data_at part) part) (let w = a.within in simp length-drop (omega arith))

-- the fields of a command in the ranges that the decoder tests
abbrev pub Fields : Command → Type 0
Fields reset = Unit {0}
Fields (select z) = z < 8
Fields (read_zone a n) = 1 ≤ n
Fields (write_zone a xs) = (1 ≤ length xs) × (length xs ≤ 16)
Fields (read_configuration a n) = (1 ≤ n) × (a + n ≤ 128)
Fields (write_configuration a xs) = (a < 128) × (1 ≤ length xs) × (length xs ≤ 16)
Fields read_fuses = Unit {0}
Fields write_fuses = Unit {0}
Fields (verify_password k xs) = (k < 16) × (length xs ≡ 3)
Fields begin_authentication = Unit {0}
Fields (verify_authentication v xs) = length xs ≡ 8

-- and those of an instruction
abbrev pub Ranged : Instruction → Type 0
Ranged power_cycle = Unit {0}
Ranged (issue k) = Fields k
Ranged (wait n) = (1 ≤ n) × (n ≤ 255)
Ranged poll = Unit {0}
Ranged (write_staged a xs) = (1 ≤ length xs) × (length xs ≤ 8)
Ranged (arm k junk) = Unit {0}

module _ (a n : ℕ) (xs : List ℕ) where
  read_count : (t : Bool) → eqb n 0 ≡ t → 1 ≤ cond t 256 n
  read_count true e = omega arith
  read_count false e = let h : n ≡ 0 → ⊥ = eqb-false n 0 e in omega arith

  made_ranged : (kind : ℕ) → known kind ≡ true → in_range kind a n ≡ true → length xs ≡ data_length kind n → Ranged (made kind a n xs)
  unfolding kinds in_range data_length made
  made_ranged =
      each_kind (λ kind. in_range kind a n ≡ true → length xs ≡ data_length kind n → Ranged (made kind a n xs))
      (λ r l. tt)
      (λ r l. tt)
      (λ r l. omega (arith, leb-true a 7 r))
      (λ r l. read_count (eqb n 0) refl)
      (λ r l. omega (arith, leb-true 1 n (and_left (leb 1 n) _ r), leb-true n 16 (and_right (leb 1 n) _ r)))
      (λ r l. omega (
        arith,
        leb-true 1 n (and_left (leb 1 n) _ (and_right (leb a 127) _ r)),
        leb-true (a + n) 128 (and_right (leb 1 n) _ (and_right (leb a 127) _ r)),
      ))
      (λ r l. omega (
        arith,
        leb-true a 127 (and_left (leb a 127) _ r),
        leb-true 1 n (and_left (leb 1 n) _ (and_right (leb a 127) _ r)),
        leb-true n 16 (and_right (leb 1 n) _ (and_right (leb a 127) _ r)),
      ))
      (λ r l. tt)
      (λ r l. tt)
      (λ r l. (omega (arith, leb-true a 15 r), l))
      (λ r l. tt)
      (λ r l. l)
      (λ r l. omega (arith, leb-true 1 a (and_left (leb 1 a) _ r), leb-true a 255 (and_right (leb 1 a) _ r)))
      (λ r l. tt)
      (λ r l. omega (arith, leb-true 1 n (and_left (leb 1 n) _ r), leb-true n 8 (and_right (leb 1 n) _ r)))
      (λ r l. tt)

pub decode_ranged : (part : List ℕ) (k : Instruction) (n : ℕ) → decode part ≡ whole k n → Ranged k
decode_ranged part k n e =
    let a = accepted part k n e in
    rw a.command at (made_ranged (at part 1) (at part 2) (data_of part) (at part 0) a.kind a.fields (length_data part k n a))

-- its first byte is the kind of its instruction
made_kind : (a n : ℕ) (xs : List ℕ) (kind : ℕ) → known kind ≡ true → kind_of (made kind a n xs) ≡ kind
unfolding kinds made
made_kind a n xs =
    each_kind (λ kind. kind_of (made kind a n xs) ≡ kind)
    refl refl refl refl refl refl refl refl refl refl refl refl refl refl refl refl

pub decode_kind : (part : List ℕ) (k : Instruction) (n : ℕ) → decode part ≡ whole k n → kind_of k ≡ at part 0
decode_kind part k n e =
    let a = accepted part k n e in
    ap kind_of (sym a.command) ∙ made_kind (at part 1) (at part 2) (data_of part) (at part 0) a.kind

-- ---- a record's own bytes

pub decode_whole : (part : List ℕ) (k : Instruction) (n : ℕ) → Accepted part k n → decode part ≡ whole k n
unfolding decode
decode_whole part k n a =
    let w = a.within in
    rw (
      ne_eqb (length part) 0 (λ e. omega arith),
      a.kind,
      le-ltb (length part) (data_at part) (omega arith),
      a.fields,
      le-ltb (length part) (record_length part) w,
      a.command,
      a.size,
    )

-- fixed fields that a kind does not have play no part
record Alike (kind a n a' n' : ℕ) : Type 0 where
  range : in_range kind a' n' ≡ in_range kind a n
  size : data_length kind n' ≡ data_length kind n
  command : (xs : List ℕ) → made kind a' n' xs ≡ made kind a n xs

module _ (a n a' n' : ℕ) where
  alike : (kind : ℕ) → known kind ≡ true → (1 ≤ fixed_fields kind → a' ≡ a) → (2 ≤ fixed_fields kind → n' ≡ n) → Alike kind a n a' n'
  unfolding kinds fixed_fields in_range data_length made
  alike =
      each_kind (λ kind. (1 ≤ fixed_fields kind → a' ≡ a) → (2 ≤ fixed_fields kind → n' ≡ n) → Alike kind a n a' n')
      (λ p q. record { range = refl; size = refl; command = λ xs. refl })
      (λ p q. record { range = refl; size = refl; command = λ xs. refl })
      (λ p q. rw (p (omega arith)) (record { range = refl; size = refl; command = λ xs. refl }))
      (λ p q. rw (p (omega arith), q (omega arith)) (record { range = refl; size = refl; command = λ xs. refl }))
      (λ p q. rw (p (omega arith), q (omega arith)) (record { range = refl; size = refl; command = λ xs. refl }))
      (λ p q. rw (p (omega arith), q (omega arith)) (record { range = refl; size = refl; command = λ xs. refl }))
      (λ p q. rw (p (omega arith), q (omega arith)) (record { range = refl; size = refl; command = λ xs. refl }))
      (λ p q. record { range = refl; size = refl; command = λ xs. refl })
      (λ p q. record { range = refl; size = refl; command = λ xs. refl })
      (λ p q. rw (p (omega arith)) (record { range = refl; size = refl; command = λ xs. refl }))
      (λ p q. record { range = refl; size = refl; command = λ xs. refl })
      (λ p q. rw (p (omega arith)) (record { range = refl; size = refl; command = λ xs. refl }))
      (λ p q. rw (p (omega arith)) (record { range = refl; size = refl; command = λ xs. refl }))
      (λ p q. record { range = refl; size = refl; command = λ xs. refl })
      (λ p q. rw (p (omega arith), q (omega arith)) (record { range = refl; size = refl; command = λ xs. refl }))
      (λ p q. rw (p (omega arith), q (omega arith)) (record { range = refl; size = refl; command = λ xs. refl }))

front_part : (i n : ℕ) (l : List ℕ) → i + n ≤ length l → take n (drop i (take (i + n) l)) ≡ take n (drop i l)
front_part i n l h =
    ap (λ (x : List ℕ). take n (drop i x)) (take-add i n l)
    ∙ ap (take n) (drop_at (take i l) (take n (drop i l)) i (length-take-le i l (omega arith)))
    ∙ take_all n (take n (drop i l)) (let e = length-take n (drop i l) in omega arith)

-- the bytes of an accepted record alone give the same record
pub decode_front : (part : List ℕ) (k : Instruction) (n : ℕ) → decode part ≡ whole k n → decode (take n part) ≡ whole k n
decode_front part k n e =
    decode_whole own k n
    (record {
      kind = rw at_kind a.kind;
      fields = rw at_kind (same.range ∙ a.fields);
      within = rw (own_length, long) (le_refl n);
      command =
          ap (λ (x : ℕ). made x (at own 1) (at own 2) (data_of own)) at_kind ∙ same.command (data_of own)
          ∙ ap (made (at part 0) (at part 1) (at part 2)) same_data ∙ a.command;
      size = long;
    })
  where
    own : List ℕ
    own = take n part

    a : Accepted part k n
    a = accepted part k n e

    own_length : length own ≡ n
    own_length = length-take-le n part (let w = a.within in let l = a.size in omega arith)

    at_own : (i : ℕ) → i < n → at own i ≡ at part i
    at_own i h = get_or-take n part i 0 h

    at_kind : at own 0 ≡ at part 0
    at_kind = at_own 0 (let l = a.size in omega arith)

    same : Alike (at part 0) (at part 1) (at part 2) (at own 1) (at own 2)
    same =
        let l = a.size in
        alike (at part 1) (at part 2) (at own 1) (at own 2) (at part 0) a.kind (λ h. at_own 1 (omega arith)) (λ h. at_own 2 (omega arith))

    long : record_length own ≡ n
    long = rw (at_kind, same.size) a.size

    same_data : data_of own ≡ data_of part
    same_data =
        rw (at_kind, same.size)
        (ap (λ (m : ℕ). take (data_length (at part 0) (at part 2)) (drop (data_at part) (take m part))) (sym a.size)
        ∙ front_part (data_at part) (data_length (at part 0) (at part 2)) part a.within)

-- ---- how many fixed fields a record can have

pub fixed_small : (kind : ℕ) → fixed_fields kind ≤ 2
unfolding kinds fixed_fields
fixed_small =
    each_row (λ (r : Kind). r.fixed ≤ 2)
    (omega arith) (omega arith) (omega arith) (omega arith) (omega arith) (omega arith) (omega arith) (omega arith)
    (omega arith) (omega arith) (omega arith) (omega arith) (omega arith) (omega arith) (omega arith) (omega arith)
