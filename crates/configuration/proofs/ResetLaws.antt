-- The answer to reset of the model in the terms of the code.
use Rattle.std.specs.Prelude.{ℕ, ◌+◌, ◌%◌, List, ◌++◌, ◌≡◌, length, take, drop}
use Rattle.std.proofs.Common.{ap, ◌∙◌, arith, length-drop}
use Rattle.std.proofs.lemmas.List.{length-take-le}
use Rattle.std.proofs.Math.Seq.{get_or-take, get_or-drop}
use Rattle.model.specs.Sizes.{card_size}
use Rattle.model.specs.At88sc1608.{configuration_at}
use Rattle.model.specs.Lists.{at, tab}
use Rattle.laws.specs.ListLaws.{tab_cong}
use Rattle.model.specs.Volatile.{Volatile, none, idle, activating, authenticating}
use Rattle.model.specs.Bits.{reversed}
use Rattle.model.specs.Instruction.{reset}
use Rattle.model.specs.Apply as any
use Rattle.model.specs.Single.{apply}

-- the four bytes taken from the card, and what stays of the space d
pub reset_answer : (c d part : List ℕ) (s : Volatile) → length c ≡ card_size → part ≡ take 4 (drop configuration_at c)
    → tab (λ k. reversed (at part k)) (length part) ++ drop (length part) d ≡ (apply c s reset).report.answer ++ drop 4 d
unfolding any.apply
reset_answer c d part s h p =
    let l = length-drop configuration_at c in
    let n : length part ≡ 4 = ap length p ∙ length-take-le 4 (drop configuration_at c) (omega (arith, l, h)) in
    rw n (ap (λ (xs : List ℕ). xs ++ drop 4 d) (tab_cong _ _ 4 (λ k j.
    let e : configuration_at + k % 4 ≡ configuration_at + k = omega arith in
    rw (p, get_or-take 4 (drop configuration_at c) k 0 j, get_or-drop configuration_at c k 0, e))))

pub reset_state : (c : List ℕ) (s t u : Volatile) → t ≡ activating s none → u ≡ authenticating t idle → u ≡ (apply c s reset).report.state
unfolding any.apply
reset_state c s t u e q = q ∙ ap (λ (v : Volatile). authenticating v idle) e
