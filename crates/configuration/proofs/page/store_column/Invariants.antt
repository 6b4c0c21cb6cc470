-- What is still to be stored gives what all of it gives.
use Rattle.std.proofs.Common.{◌≡◌, ◌+◌, ◌%◌, length, drop}
use Rattle.model.specs.Lists.{stores}
use Rattle.configuration.specs.ConfigurationPage.{allowed_in}
use Rattle.configuration.proofs.page.store_column.Given as goal

abbrev pub invariant-loop-i : goal.invariant-loop-i
invariant-loop-i l = record {
  in_page : length l.page ≡ 16;
  stored : stores (allowed_in l.column l.first) (λ k. (l.low + k) % 16) (drop l.i l.bytes) l.i l.page
      ≡ stores (allowed_in l.column l.first) (λ k. (l.low + k) % 16) l.bytes 0 l.initial.page;
}
