-- After every digit the count is that of the digits so far.
use borrow.Author.Rules.{rules}
use mathlib.Core.Path.{◌≡◌, refl, subst}
use Rattle.std.proofs.lemmas.Fn.{fold_over, slice_gives, fronts}
use Rattle.write_session.specs.Decimal.{decimal}
use Rattle.write_session.proofs.DecimalLaws.{decimal_last}
use Rattle.write_session.proofs.count.count_of.Goals as goal

pub returns : goal.returns
returns c =
    subst (λ l. c.fold.result ≡ decimal 0 l) c.iter.ensures.rest
    (fold_over fronts (λ y. y.now) _ (λ ys n. n ≡ decimal 0 ys) _ (λ ys a x b f' j k. let more = decimal_last 0 ys x.now in search rules)
    _ _ _ _ (slice_gives c.iter.result) refl c.fold.ensures.ran)
