-- Configuration reads and writes of the model in the terms of the code.
use Rattle.std.specs.Prelude.{ℕ, ◌+◌, ◌-◌, ◌*◌, ◌/◌, ◌%◌, ◌≤◌, ◌<◌, cond, List, ◌++◌, ◌≡◌, length, take, drop}
use Rattle.std.proofs.Common.{sym, ap, ◌∙◌, arith, drop_of_length-le}
use Rattle.std.proofs.lemmas.List.{append-nil}
use Rattle.model.specs.Sizes.{card_size, fuse_at}
use Rattle.model.specs.Lists.{at, tab, stores}
use Rattle.laws.specs.ListLaws.{tab_cong}
use Rattle.model.specs.Volatile.{Volatile}
use Rattle.model.specs.Instruction.{read_configuration, write_configuration}
use Rattle.laws.specs.AccessLaws.{fuse_rule, configuration_written, configuration_merged}
use Rattle.laws.specs.ReadLaws.{configuration_answer}
use Rattle.model.specs.At88sc1608.{at88sc1608, configuration_cell, configuration_at}
use Rattle.model.specs.Apply.{rules, kept}
use Rattle.model.specs.Apply as any
use Rattle.laws.specs.Loops.{tab_done, stores_cong, stores_part}
use Rattle.model.specs.Single.{apply}
use Rattle.access.specs.declared.rights.Column.{Column}
use Rattle.access.specs.Column.{column_of, allows_of, column_allows_lem}
use Rattle.access.specs.Permissions.{codes_of}
use Rattle.access.specs.VolatileState.{active_of}
use Rattle.configuration.specs.ConfigurationPage.{allowed_in}

-- what fills its space
pub tab_full : (f : ℕ → ℕ) (i n : ℕ) (d l : List ℕ) → l ≡ tab f i ++ drop i d → length d ≡ n → i ≤ n → n ≤ i → l ≡ tab f n
tab_full f i n d l e w h k = tab_done f i n d l e h k ∙ ap (λ (x : List ℕ). tab f n ++ x) (drop_of_length-le d (omega (arith, w))) ∙ append-nil (tab f n)

-- by the column of the code that was made for the fuse byte and the active password
module _ (c : List ℕ) (s : Volatile) (a : ℕ) (column : Column) (active : active_of column.active ≡ s.active) where
  pub read_configuration_lem : (n : ℕ) → codes_of column.permissions ≡ column_of 0 (at c fuse_at) → a + n ≤ 128
      → (apply c s (read_configuration a n)).report.answer ≡ tab (λ k. cond (allows_of column (a + k)) (at c (configuration_at + (a + k))) 0) n
  read_configuration_lem n e h =
      configuration_answer c s a n h ∙ tab_cong _ _ n (λ k l. rw (e, active, column_allows_lem 0 (at c fuse_at) (a + k) s.active))

  pub write_configuration_lem : (xs ys : List ℕ) (first base : ℕ) → codes_of column.permissions ≡ column_of 1 (at c fuse_at) → first ≡ a / 16 * 16
      → base ≡ configuration_at + first
      → a < 128
      → length c ≡ card_size
      → ys ≡ stores (allowed_in column first) (λ k. (a % 16 + k) % 16) xs 0 (take (base + 16 - base) (drop base c))
      → take base c ++ (ys ++ drop (base + 16 - base) (drop base c)) ≡ (apply c s (write_configuration a xs)).card
  unfolding any.apply
  write_configuration_lem xs ys first base q f b l n y =
      let w : ℕ = base + 16 - base in
      ap (λ (zs : List ℕ). take base c ++ (zs ++ drop w (drop base c))) y
      ∙ stores_part (allowed_in column first) (λ i. allowed_in column first (i - base)) (λ k. (a % 16 + k) % 16) base w (λ k. omega arith)
      (λ k old new. let e : base + (a % 16 + k) % 16 - base ≡ (a % 16 + k) % 16 = omega arith in rw e) xs 0 c (omega arith)
      ∙ sym (stores_cong _ _ _ _ (λ k. omega arith) (λ k old new. cell_kept k old new) xs 0 c)
    where
      cell_kept : (k old new : ℕ) → kept at88sc1608 (rules at88sc1608 c) s (configuration_cell a k) old new
          ≡ allowed_in column first (configuration_cell a k - base) old new
      cell_kept k old new =
          let i : ℕ = configuration_cell a k in
          let p : i ≡ base + (a + k) % 16 = omega arith in
          let e : first + (i - base) ≡ i - configuration_at = omega arith in
          rw (
            configuration_written (rules at88sc1608 c) s i (omega arith) (omega arith),
            configuration_merged (rules at88sc1608 c) i old new (omega arith),
            fuse_rule c,
            e,
            q,
            active,
            column_allows_lem 1 (at c fuse_at) (i - configuration_at) s.active,
          )
