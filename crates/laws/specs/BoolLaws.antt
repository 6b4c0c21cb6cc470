-- Laws of tests: what both halves of a conjunction say, and what holds of either choice.
use Rattle.std.specs.Prelude.{ℕ, Bool, true, false, cond, ◌&&◌, ◌||◌, ◌≡◌, refl}
use Rattle.std.proofs.Common.{true≢false, sym}

pub and_left : (a b : Bool) → a && b ≡ true → a ≡ true
and_left true b e = refl
and_left false b e = e

pub and_right : (a b : Bool) → a && b ≡ true → b ≡ true
and_right true b e = e
and_right false b e = absurd (true≢false (sym e))

pub or_left : (a : Bool) → a || false ≡ true → a ≡ true
or_left true e = refl
or_left false e = e

pub and_false : (a : Bool) → a && false ≡ false
and_false true = refl
and_false false = refl

-- what holds of both holds of the one that is chosen
pub choice : (P : ℕ → Type 0) (t : Bool) (x y : ℕ) → P x → P y → P (cond t x y)
choice P true x y p q = p
choice P false x y p q = q

-- which of two is chosen, where the test is known by another name
pub chosen : (t b : Bool) (x y : ℕ) → t ≡ b → t ≡ true → x ≡ cond b x y
chosen t b x y e f = rw (← e, f)

pub unchosen : (t b : Bool) (x y : ℕ) → t ≡ b → t ≡ false → y ≡ cond b x y
unchosen t b x y e f = rw (← e, f)
