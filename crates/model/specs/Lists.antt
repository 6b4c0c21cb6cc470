-- Lists of numbers: cards, records, answers, spaces. The words that all definitions use, by example:
--   at [5, 6] 1 = 6, at [5, 6] 2 = 0                       the element at a place; past the end it is 0
--   tab f 3 = [f 0, f 1, f 2]                              a list by a rule
--   cond true x y = x, cond false x y = y                  a choice (of the kit)
--   sets [1, 2, 3, 4] 1 [8, 9] = [1, 8, 9, 4]              a run of elements put into a list from a place on (of the kit)
--   stores rule cell [8, 9] 0 c                            8 goes into place cell 0 of c, then 9 into place cell 1, each as the rule says
use Rattle.std.specs.Prelude.{ℕ, zero, suc, ◌<◌, Bool, true, false, ◌&&◌, List, [], ◌∷◌, ◌++◌, eqb, get_or, set}

-- the element at a place
abbrev pub at : List ℕ → ℕ → ℕ
at l i = get_or l i 0

-- f 0, f 1, .., f (n - 1)
unfoldable pub tab : (ℕ → ℕ) → ℕ → List ℕ
tab f zero = []
tab f (suc n) = tab f n ++ (f n ∷ [])

-- whether two lists are equal
unfoldable pub same_list : List ℕ → List ℕ → Bool
same_list [] [] = true
same_list [] (y ∷ ys) = false
same_list (x ∷ xs) [] = false
same_list (x ∷ xs) (y ∷ ys) = eqb x y && same_list xs ys

-- The elements of a list go one after the other into the cells of their numbers, counted from k.
-- What a cell then holds is for the rule to say, from the cell's place, what it held and what comes.
unfoldable pub stores : (rule : ℕ → ℕ → ℕ → ℕ) (cell : ℕ → ℕ) → List ℕ → ℕ → List ℕ → List ℕ
stores rule cell [] k c = c
stores rule cell (x ∷ xs) k c = stores rule cell xs (suc k) (set c (cell k) (rule (cell k) (at c (cell k)) x))

-- a list of bytes
abbrev pub Bytes : List ℕ → Type 0
Bytes l = (i : ℕ) → at l i < 256
