-- Laws of lists of conditions, and of the conditions within one record.
use Rattle.std.specs.Prelude.{ℕ, suc, ◌≤◌, Bool, true, false, cond, not, List, [], ◌∷◌, ◌++◌, ◌↔◌, ◌≡◌, refl, ltb, eqb, length}
use Rattle.std.proofs.Common.{sym, ap, ◌∙◌, arith}
use Rattle.model.specs.Lists.{at}
use Rattle.model.specs.Instruction.{Instruction}
use Rattle.model.specs.At88sc1608.{at88sc1608}
use Rattle.model.specs.Call.{Decoded, refused, whole}
use Rattle.laws.specs.BoolLaws.{choice}
use Rattle.laws.specs.BusyLaws.{full_answer}
use Rattle.model.specs.Record.{kinds, known, in_range, made, data_at, record_length, decode}
use Rattle.laws.specs.KindLaws.{each_kind}
use Rattle.laws.specs.RecordLaws.{accepted}
use Rattle.model.specs.Session.{on_decoded}
use Rattle.properties.specs.Conditions.{Condition, record_conditions, response_length, first, NoneApplies}

-- ---- lists of conditions

pub first_append : (xs ys : List Condition) (n : ℕ) → first (xs ++ ys) n ≡ first xs (first ys n)
first_append [] ys n = refl
first_append (x ∷ xs) ys n = ap (cond x.applies x.number) (first_append xs ys n)

-- numbers of refusals are not 0
abbrev pub Numbered : List Condition → Type 0
Numbered [] = Unit {0}
Numbered (x ∷ xs) = (1 ≤ x.number) × Numbered xs

pub numbered_append : (xs ys : List Condition) → Numbered xs → Numbered ys → Numbered (xs ++ ys)
numbered_append [] ys p q = q
numbered_append (x ∷ xs) ys p q = (p.0, numbered_append xs ys p.1 q)

-- numbers that are at most some number
abbrev pub UpTo : ℕ → List Condition → Type 0
UpTo n [] = Unit {0}
UpTo n (x ∷ xs) = (x.number ≤ n) × UpTo n xs

pub up_to_append : (n : ℕ) (xs ys : List Condition) → UpTo n xs → UpTo n ys → UpTo n (xs ++ ys)
up_to_append n [] ys p q = q
up_to_append n (x ∷ xs) ys p q = (p.0, up_to_append n xs ys p.1 q)

pub first_up_to : (n : ℕ) (xs : List Condition) → UpTo n xs → first xs 0 ≤ n
first_up_to n [] p = omega arith
first_up_to n (x ∷ xs) p = choice (λ m. m ≤ n) x.applies x.number (first xs 0) p.0 (first_up_to n xs p.1)

pub some : (n : ℕ) → 1 ≤ suc n
some n = omega arith

pub none_applies : (xs : List Condition) → Numbered xs → first xs 0 ≡ 0 → NoneApplies xs
none_applies [] p e = tt
none_applies (x ∷ xs) p e = go (none_applies xs p.1) x.applies refl e
  where
    go : (first xs 0 ≡ 0 → NoneApplies xs) → (t : Bool) → x.applies ≡ t → cond t x.number (first xs 0) ≡ 0 → NoneApplies (x ∷ xs)
    go others true q e = absurd (let n = p.0 in let z : ⊥ = omega arith in z)
    go others false q e = (q, others e)

pub none_first : (xs : List Condition) → NoneApplies xs → first xs 0 ≡ 0
none_first [] n = refl
none_first (x ∷ xs) n = rw n.0 (none_first xs n.1)

-- a number that is the first of a list is 0 exactly when none applies
pub zero_iff : (xs : List Condition) → Numbered xs → (n : ℕ) → n ≡ first xs 0 → (n ≡ 0) ↔ NoneApplies xs
zero_iff xs p n e = ((λ z. none_applies xs p (sym e ∙ z)), (λ c. e ∙ none_first xs c))

pub none_append : (xs ys : List Condition) → NoneApplies (xs ++ ys) → NoneApplies xs × NoneApplies ys
none_append [] ys n = (tt, n)
none_append (x ∷ xs) ys n = let r = none_append xs ys n.1 in ((n.0, r.0), r.1)

-- ---- one record

pub record_numbered : (part : List ℕ) → Numbered (record_conditions part)
record_numbered part = (some _, (some _, (some _, (some _, (some _, tt)))))

pub first_record : (part : List ℕ) (n : ℕ) (d : Decoded Instruction) → decode part ≡ d
    → first (record_conditions part) n ≡ on_decoded d (λ r. r) (λ k m. n)
unfolding decode
first_record part n d e =
    go (eqb (length part) 0) (not (known (at part 0))) (ltb (length part) (data_at part))
    (not (in_range (at part 0) (at part 1) (at part 2))) (ltb (length part) (record_length part)) _ _
    ∙ ap (λ (x : Decoded Instruction). on_decoded x (λ r. r) (λ k m. n)) e
  where
    go : (a b c d f : Bool) (k : Instruction) (m : ℕ) → cond a 8 (cond b 6 (cond c 8 (cond d 7 (cond f 8 n))))
        ≡ on_decoded (cond a (refused 8) (cond b (refused 6) (cond c (refused 8) (cond d (refused 7) (cond f (refused 8) (whole k m))))))
        (λ r. r) (λ k m. n)
    go true b c d f k m = refl
    go false true c d f k m = refl
    go false false true d f k m = refl
    go false false false true f k m = refl
    go false false false false true k m = refl
    go false false false false false k m = refl

-- how long the answer of a kind with a field n is, in full
abbrev answer_of : ℕ → ℕ → ℕ
answer_of kind n = cond (eqb kind 2) 4 (cond (eqb kind 4) (cond (eqb n 0) 256 n) (cond (eqb kind 6) n (cond (eqb kind 8) 1 (cond (eqb kind 14) 1 0))))

made_answer : (a n : ℕ) (xs : List ℕ) (kind : ℕ) → known kind ≡ true → full_answer at88sc1608 (made kind a n xs) ≡ answer_of kind n
unfolding kinds made
made_answer a n xs =
    each_kind (λ kind. full_answer at88sc1608 (made kind a n xs) ≡ answer_of kind n)
    refl refl refl refl refl refl refl refl refl refl refl refl refl refl refl refl

pub decode_answer : (part : List ℕ) (k : Instruction) (m : ℕ) → decode part ≡ whole k m → full_answer at88sc1608 k ≡ response_length part
decode_answer part k m e =
    let a = accepted part k m e in
    ap (full_answer at88sc1608) (sym a.command) ∙ made_answer (at part 1) (at part 2) _ (at part 0) a.kind
