-- The same byte so many times, as a table.
use Rattle.std.proofs.Common.{ℕ, suc, zero, ◌≡◌, [], ◌∷◌, ◌++◌, drop, refl, ap, sym, ◌∙◌, add-one, rules, replicate}
use Rattle.std.proofs.Math.Seq.{length-take-le}
use Rattle.std.proofs.lemmas.List.{replicate-append-replicate}
use Rattle.model.specs.Lists.{tab}
use Rattle.slices.proofs.fill.Goals as goal

replicate-tab : (n v : ℕ) → replicate n v ≡ tab (λ k. v) n
unfolding tab
replicate-tab zero v = refl
replicate-tab (suc n) v = ap (λ (k : ℕ). replicate k v) (sym (add-one n)) ∙ sym (replicate-append-replicate n 1 v) ∙ ap (λ l. l ++ (v ∷ [])) (replicate-tab n v)

pub returns : goal.returns
returns c =
    let part = c.fill.ensures.after (search rules) in
    ap (λ l. l ++ drop c.args.count c.args.to.now)
    (part ∙ rw (length-take-le c.args.count c.args.to.now c.requires) (replicate-tab c.args.count c.args.byte))
