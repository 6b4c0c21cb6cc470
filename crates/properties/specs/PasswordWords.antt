-- The password presented and the password stored, each as one number of 24 bits ("Passwords compared by the word").
use Rattle.std.specs.Prelude.{ℕ, ◌<◌, ◌^◌, false, not, List, ◌↔◌, ◌≡◌, eqb, length}
use Rattle.std.proofs.Common.{ap, ◌∙◌}
use Rattle.model.specs.Lists.{at, Bytes}
use Rattle.model.specs.Numbers.{number_at}
use Rattle.model.specs.Volatile.{Volatile}
use Rattle.model.specs.Instruction.{verify_password, issue}
use Rattle.model.specs.State.{State}
use Rattle.model.specs.Apply.{password, presented, attempt_of}
use Rattle.model.specs.At88sc1608.{at88sc1608, counter_at}
use Rattle.model.specs.Busy.{ignores}
use Rattle.model.specs.Act.{busied}
use Rattle.model.specs.Single.{apply, act}
use Rattle.laws.specs.HeededLaws.{issued}
use Rattle.laws.specs.NumberLaws.{number_small}
use Rattle.laws.specs.WordLaws.{password_bytes, equal_passwords, passwords_decide}

module _ (c xs : List ℕ) (k : ℕ) (card : Bytes c) (bytes : Bytes xs) (three : length xs ≡ 3) where
  -- both are below 2^24
  pub presented_word : number_at xs 0 3 < 2 ^ 24
  presented_word = number_small 3 xs 0 bytes

  pub stored_word : number_at (password at88sc1608 c k) 0 3 < 2 ^ 24
  stored_word = number_small 3 (password at88sc1608 c k) 0 (password_bytes at88sc1608 c k card)

  -- they are equal exactly when all three bytes are
  pub equal_words : (number_at xs 0 3 ≡ number_at (password at88sc1608 c k) 0 3) ↔ (xs ≡ password at88sc1608 c k)
  equal_words = equal_passwords at88sc1608 c xs k card bytes three

  -- kind 10 is the same whether the bytes are compared or the words
  pub words_decide : (s : Volatile) → apply c s (verify_password k xs)
      ≡ presented at88sc1608 (attempt_of (eqb (at c (counter_at k)) 0) (eqb (number_at xs 0 3) (number_at (password at88sc1608 c k) 0 3))) c s k
  words_decide = passwords_decide at88sc1608 c xs k card bytes three

  -- and so on a card that heeds the record
  pub words_decide_act : (s : State) → ignores at88sc1608 c s (issue (verify_password k xs)) ≡ false
      → act c s (issue (verify_password k xs))
      ≡ busied at88sc1608 (not (eqb (at c (counter_at k)) 0)) s
      (presented at88sc1608 (attempt_of (eqb (at c (counter_at k)) 0) (eqb (number_at xs 0 3) (number_at (password at88sc1608 c k) 0 3))) c s.volatile k)
  words_decide_act s heeds =
      issued at88sc1608 c s (verify_password k xs) heeds
      ∙ ap (busied at88sc1608 (not (eqb (at c (counter_at k)) 0)) s) (words_decide s.volatile)
