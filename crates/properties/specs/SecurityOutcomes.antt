-- What kinds 9 to 12 leave on a card that heeds the record ("What each command does", "Tries left, shown to the candidate", "A card that is busy
-- writing"), by what decides: the whole card, the state, and the tries that are handed out.
use Rattle.std.specs.Prelude.{ℕ, Bool, true, false, List, [], ◌≡◌, set}
use Rattle.std.proofs.Common.{◌∙◌}
use borrow.Author.Tests.{eq-eqb, ne_eqb}
use Rattle.model.specs.Sizes.{fuse_at}
use Rattle.model.specs.Lists.{at, stores}
use Rattle.model.specs.Bits.{spent_counter, tries_left}
use Rattle.model.specs.Volatile.{is_active, is_begun, none, selector, idle, begun, granted, activating, authenticating}
use Rattle.model.specs.State.{State, timed, write_time}
use Rattle.model.specs.Instruction.{write_fuses, verify_password, begin_authentication, verify_authentication, issue}
use Rattle.model.specs.At88sc1608.{at88sc1608, blow, counter_at, attempts_at}
use Rattle.model.specs.Busy.{ignores}
use Rattle.model.specs.Call.{acted, tried}
use Rattle.model.specs.Apply.{full_counter, password}
use Rattle.model.specs.Apply as any
use Rattle.model.specs.Single.{act}
use Rattle.laws.specs.ListLaws.{same_list_refl, same_list_false}
use Rattle.laws.specs.HeededLaws.{issued}

module _ (c : List ℕ) (s : State) where
  -- kind 9
  module _ (heeds : ignores at88sc1608 c s (issue write_fuses) ≡ false) where
    -- one more fuse, where write password 7 is active and one is left
    pub fuse_blown : is_active s.volatile.active 7 ≡ true → (at c fuse_at ≡ 0 → ⊥)
        → act c s (issue write_fuses) ≡ acted (set c fuse_at (blow (at c fuse_at))) (timed s s.volatile write_time) []
    unfolding any.apply
    fuse_blown e n = issued at88sc1608 c s write_fuses heeds ∙ rw (e, ne_eqb _ _ n)

    -- the last stage stays, and takes no time
    pub last_stage : is_active s.volatile.active 7 ≡ true → at c fuse_at ≡ 0
        → act c s (issue write_fuses) ≡ acted (set c fuse_at 0) (timed s s.volatile 0) []
    unfolding any.apply blow
    last_stage e f = issued at88sc1608 c s write_fuses heeds ∙ rw (e, f)

    -- nothing without that password
    pub fuse_kept : is_active s.volatile.active 7 ≡ false → act c s (issue write_fuses) ≡ acted c (timed s s.volatile 0) []
    unfolding any.apply
    fuse_kept e = issued at88sc1608 c s write_fuses heeds ∙ rw e

  -- kind 10
  module _ (k : ℕ) (xs : List ℕ) (heeds : ignores at88sc1608 c s (issue (verify_password k xs)) ≡ false) where
    -- a counter of $00: nothing changes, the active password included
    pub locked_keeps : at c (counter_at k) ≡ 0 → act c s (issue (verify_password k xs)) ≡ acted c (timed s s.volatile 0) []
    unfolding any.apply
    locked_keeps e = issued at88sc1608 c s (verify_password k xs) heeds ∙ rw (eq-eqb _ _ e)

    -- the right bytes: the counter is $FF, and this selector is active
    pub right_opens : (at c (counter_at k) ≡ 0 → ⊥) → xs ≡ password at88sc1608 c k
        → act c s (issue (verify_password k xs))
        ≡ tried (set c (counter_at k) full_counter) (timed s (activating s.volatile (selector k)) write_time) (tries_left full_counter)
    unfolding any.apply
    right_opens n e = issued at88sc1608 c s (verify_password k xs) heeds ∙ rw (ne_eqb _ _ n, e, same_list_refl (password at88sc1608 c k))

    -- wrong bytes: the counter loses its lowest 1 bit, and no password is active
    pub wrong_closes : (at c (counter_at k) ≡ 0 → ⊥) → (xs ≡ password at88sc1608 c k → ⊥)
        → act c s (issue (verify_password k xs))
        ≡ tried (set c (counter_at k) (spent_counter (at c (counter_at k)))) (timed s (activating s.volatile none) write_time)
        (tries_left (spent_counter (at c (counter_at k))))
    unfolding any.apply
    wrong_closes n e = issued at88sc1608 c s (verify_password k xs) heeds ∙ rw (ne_eqb _ _ n, same_list_false xs (password at88sc1608 c k) e)

  -- kind 11
  module _ (heeds : ignores at88sc1608 c s (issue begin_authentication) ≡ false) where
    -- a counter of $00: nothing changes
    pub used_up_keeps : at c attempts_at ≡ 0 → act c s (issue begin_authentication) ≡ acted c (timed s s.volatile 0) []
    unfolding any.apply
    used_up_keeps e = issued at88sc1608 c s begin_authentication heeds ∙ rw (eq-eqb _ _ e)

    -- else it loses its lowest 1 bit, and authentication is begun
    pub begins : (at c attempts_at ≡ 0 → ⊥)
        → act c s (issue begin_authentication)
        ≡ tried (set c attempts_at (spent_counter (at c attempts_at))) (timed s (authenticating s.volatile begun) write_time)
        (tries_left (spent_counter (at c attempts_at)))
    unfolding any.apply
    begins n = issued at88sc1608 c s begin_authentication heeds ∙ rw (ne_eqb _ _ n)

  -- kind 12
  module _ (v : Bool) (xs : List ℕ) (heeds : ignores at88sc1608 c s (issue (verify_authentication v xs)) ≡ false) where
    -- not begun: nothing changes
    pub not_begun_keeps : is_begun s.volatile.authentication ≡ false → act c s (issue (verify_authentication v xs)) ≡ acted c (timed s s.volatile 0) []
    unfolding any.apply
    not_begun_keeps e = issued at88sc1608 c s (verify_authentication v xs) heeds ∙ rw e

    -- the verdict 0: authentication is idle
    pub denies : is_begun s.volatile.authentication ≡ true → v ≡ false
        → act c s (issue (verify_authentication v xs)) ≡ acted c (timed s (authenticating s.volatile idle) write_time) []
    unfolding any.apply
    denies e f = issued at88sc1608 c s (verify_authentication v xs) heeds ∙ rw (e, f)

    -- the verdict 1: the bytes are the cryptogram, the counter is $FF, and authentication is granted
    pub grants : is_begun s.volatile.authentication ≡ true → v ≡ true
        → act c s (issue (verify_authentication v xs))
        ≡ acted (set (stores (λ i old new. new) at88sc1608.cryptogram_cell xs 0 c) attempts_at full_counter)
        (timed s (authenticating s.volatile granted) write_time) []
    unfolding any.apply
    grants e f = issued at88sc1608 c s (verify_authentication v xs) heeds ∙ rw (e, f)
