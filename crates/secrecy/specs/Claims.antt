-- From the laws of Flow for places that are hidden, both claims of demand 3 on the AT88SC1608: with the staged values hidden too; and without
-- them, where no staged write writes to the zone of those places.
use Rattle.std.specs.Prelude.{ℕ, ◌+◌, ◌/◌, ◌%◌, ◌≤◌, ◌<◌, Bool, true, false, ◌&&◌, ◌||◌, List, ◌≡◌, refl, ltb, leb, length}
use Rattle.std.proofs.Common.{true≢false, sym, subst, ◌∙◌, arith, leb-true, le-leb, lt-ltb, le-ltb}
use Rattle.std.proofs.lemmas.Bool.{lt-leb}
use Rattle.model.specs.Sizes.{card_size, fuse_at, flag_at}
use Rattle.model.specs.Volatile.{Volatile}
use Rattle.model.specs.Instruction.{Command, Instruction}
use Rattle.model.specs.State.{Tear, powered_up}
use Rattle.model.specs.Call.{Call, powered}
use Rattle.model.specs.At88sc1608.{at88sc1608, may_read, configuration_at, zone_cell}
use Rattle.model.specs.Apply.{rules}
use Rattle.model.specs.Record.{decode}
use Rattle.model.specs.Single.{check, answered_kind, act}
use Rattle.model.specs.Device.{Counter, of_password, of_authentication, counter_place}
use Rattle.laws.specs.BoolLaws.{and_left}
use Rattle.laws.specs.RecordLaws.{Ranged, decode_ranged}
use Rattle.laws.specs.Sane.{good_check, zone_below}
use Rattle.secrecy.specs.Along.{along_admitted}
use Rattle.secrecy.specs.Unwinding.{Open}
use Rattle.secrecy.specs.Flow.{Confines, Allows, Short, indistinguishable}
use Rattle.secrecy.specs.Secret.{Idle, or_staged, AgreeOutside, OnCommand, StagesIn, StagesElsewhere, Throughout, ThroughoutElsewhere, Indistinguishable}

-- the staged values may not be read
behind_unread : (ρ : List ℕ) (s : Volatile) (i : ℕ) → fuse_at ≤ i → may_read ρ s i ≡ false
unfolding may_read
behind_unread ρ s i l = rw (le-ltb i configuration_at (omega arith), le-ltb i fuse_at l)

-- a decoded staged write has at most eight bytes
short : (part : List ℕ) (i : Instruction) (n : ℕ) → Ranged i → Short at88sc1608 i
short part i n r a xs e = (subst Ranged e r).1

module _ (ρ : List ℕ) (hidden secret : ℕ → Bool) (Locked : Volatile → Type 0) (Ok : Command → Type 0) (b₁ b₂ : List ℕ)
    (confines : Confines at88sc1608 ρ hidden secret Locked) (allows : Allows at88sc1608 b₁ b₂ secret Locked Ok) where
  -- ---- the staged values hidden too

  -- a place before them is hidden where it was
  before : (i : ℕ) → i < flag_at + 4 → hidden i ≡ false → or_staged hidden i ≡ false
  before i l h = rw (h, lt-leb (flag_at + 4) i l)

  staged_decides : Open at88sc1608 (or_staged hidden)
  staged_decides =
      record {
        rule = λ k. before _ (let l = confines.apart.rule_below k in omega arith) (confines.decides.rule k);
        counter = λ n. before _ (counter_before n) (confines.decides.counter n);
        reset_byte = λ k. before _ (omega arith) (confines.decides.reset_byte k);
        fuse = before _ (omega arith) confines.decides.fuse;
        flag = before _ (omega arith) confines.decides.flag;
        named = λ k l. before _ (omega arith) (confines.decides.named k l);
      }
    where
      counter_before : (n : Counter) → counter_place at88sc1608 n < flag_at + 4
      counter_before (of_password k) = omega arith
      counter_before of_authentication = omega arith

  staged_unreadable : (s : Volatile) → Locked s → (i : ℕ) → or_staged hidden i ≡ true → may_read ρ s i ≡ false
  staged_unreadable s l i e = go (hidden i) refl e
    where
      go : (t : Bool) → hidden i ≡ t → (t || (leb (flag_at + 4) i && ltb i card_size)) ≡ true → may_read ρ s i ≡ false
      go true h e = confines.unreadable s l i h
      go false h e = behind_unread ρ s i (let w : flag_at + 4 ≤ i = leb-true _ _ (and_left (leb (flag_at + 4) i) _ e) in omega arith)

  staged_confines : Confines at88sc1608 ρ (or_staged hidden) secret Locked
  staged_confines =
      record {
        decides = staged_decides;
        password_open = λ j i t. before _ (let l = confines.apart.password_below j i in omega arith) (confines.password_open j i t);
        unreadable = staged_unreadable;
        password_kept = confines.password_kept;
        password_apart = confines.password_apart;
        rule_kept = confines.rule_kept;
        last_stage = confines.last_stage;
        apart = confines.apart;
      }

  weakened : AgreeOutside hidden b₁ b₂ → AgreeOutside (or_staged hidden) b₁ b₂
  weakened h = record { long = h.long; same = λ i o. h.same i (shown i o) }
    where
      shown : (i : ℕ) → or_staged hidden i ≡ false → hidden i ≡ false
      shown i o = go (hidden i) o
        where
          go : (t : Bool) → (t || (leb (flag_at + 4) i && ltb i card_size)) ≡ false → t ≡ false
          go true e = e
          go false e = refl

  module _ (ruled : rules at88sc1608 b₁ ≡ ρ) (long : length b₁ ≡ card_size) (idle : Idle b₁) (agree : AgreeOutside hidden b₁ b₂) (tear : Tear)
      (xs : List Call) where
    pub general : Throughout Ok tear xs b₁ → Indistinguishable (or_staged hidden) tear xs b₁ b₂
    general a =
        let v =
        indistinguishable at88sc1608 ρ (or_staged hidden) secret Locked Ok b₁ b₂ staged_confines allows (λ z. Unit {0})
        (λ z a j k y l o. absurd (true≢false (sym (value_hidden j l) ∙ o)))
        decode (powered_up tear) ruled (weakened agree) allows.powers_locked long idle xs
        (along_admitted check decode act answered_kind (λ c s i. OnCommand Ok i)
        (λ c s i. OnCommand Ok i × Short at88sc1608 i × StagesIn at88sc1608 (λ z. Unit {0}) c s i)
        (λ c s x i n m ok. (ok, short x.sent i n (decode_ranged x.sent i n m.decodes), (λ a ys e h w. tt))) xs (powered b₁ (powered_up tear)) a) in
        record { observed = v.0; long = v.1.long; counters = λ n. v.1.same _ (staged_decides.counter n); outside = v.1.same }
      where
        value_hidden : (j : ℕ) → j < 8 → or_staged hidden (flag_at + 1 + (3 + j)) ≡ true
        value_hidden j l = go (hidden (flag_at + 1 + (3 + j)))
          where
            go : (t : Bool) → (t || (leb (flag_at + 4) (flag_at + 1 + (3 + j)) && ltb (flag_at + 1 + (3 + j)) card_size)) ≡ true
            go true = refl
            go false = rw (le-leb (flag_at + 4) (flag_at + 1 + (3 + j)) (omega arith), lt-ltb (flag_at + 1 + (3 + j)) card_size (omega arith))

    -- ---- no staged write to a zone z, outside which every byte of the zones is shown

    pub elsewhere : (z : ℕ) → ((i : ℕ) → i < configuration_at → (i / 256 ≡ z → ⊥) → hidden i ≡ false)
        → ThroughoutElsewhere z Ok tear xs b₁ → Indistinguishable hidden tear xs b₁ b₂
    elsewhere z outside a =
        let v =
        indistinguishable at88sc1608 ρ hidden secret Locked Ok b₁ b₂ confines allows (λ y. y % 8 ≡ z → ⊥)
        (λ y a j k ne l o. outside (zone_cell y a k) (omega arith) (λ e. ne (omega arith)))
        decode (powered_up tear) ruled agree allows.powers_locked long idle xs
        (along_admitted check decode act answered_kind (λ c s i. OnCommand Ok i × StagesElsewhere z c s i)
        (λ c s i. OnCommand Ok i × Short at88sc1608 i × StagesIn at88sc1608 (λ y. y % 8 ≡ z → ⊥) c s i)
        (λ c s x i n m ok. (
          ok.0,
          short x.sent i n (decode_ranged x.sent i n m.decodes),
          (λ a ys e h w q. ok.1 a ys e h w (let l = zone_below c s (good_check c s m.checks) in omega arith)),
        )) xs (powered b₁ (powered_up tear)) a) in
        record { observed = v.0; long = v.1.long; counters = λ n. v.1.same _ (confines.decides.counter n); outside = v.1.same }
