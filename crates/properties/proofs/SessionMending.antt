-- The trailer mender: it refuses exactly where a number applies, with the first that does, and 17 exactly where no start parses; else it gives
-- the smallest start that parses, with its count, and a session that passes every check but that of the log space. The old trailer plays no
-- part, and a lost one is restored where no earlier start parses. Sessions that agree outside secret places of their cards are mended alike.
use Rattle.std.specs.Prelude.{ℕ, ◌≤◌, ◌<◌, List, ◌++◌, ◌↔◌, ◌≡◌, length, take}
use Rattle.std.proofs.Common.{sym, ap, ◌∙◌}
use Rattle.model.specs.Sizes.{card_size}
use Rattle.model.specs.Lists.{Bytes}
use Rattle.model.specs.Reader.{records_end}
use Rattle.model.specs.Refusal.{no_start}
use Rattle.model.specs.Session.{start_of, count_of}
use Rattle.model.specs.Writer.{Parts, trailer_bytes, session_bytes, write_session}
use Rattle.laws.specs.WriterLaws.{writable}
use Rattle.model.specs.Mender.{found, mended_by, untrailed_refusal, mend}
use Rattle.secrecy.specs.Secret.{in_zone, in_zone_or_passwords, AgreeOutside}
use Rattle.properties.specs.Conditions.{first, NoneApplies}
use Rattle.properties.specs.ConditionsLaws.{zero_iff}
use Rattle.properties.specs.MenderConditions.{NoneBelow, Smallest, NoStart, mend_conditions, Passes, MendedAlike}
use Rattle.properties.specs.SessionPartsLaws.{accepted_parts}
use Rattle.properties.specs.MenderSearchLaws as search
use Rattle.properties.proofs.SessionMendingLaws as laws

module _ (s : List ℕ) where
  -- the refusal is the first that applies; 0 where none does
  pub mend_refusal_is : (mend s).refusal ≡ first (mend_conditions s) 0
  mend_refusal_is = laws.mend_first s

  -- a session is mended exactly when none applies
  pub mend_accepted_iff : ((mend s).refusal ≡ 0) ↔ NoneApplies (mend_conditions s)
  mend_accepted_iff = zero_iff (mend_conditions s) (laws.mend_numbered s) _ mend_refusal_is

  -- where 1, 5 and 16 do not apply, 17 is given exactly when no start parses
  pub no_start_iff : untrailed_refusal s ≡ 0 → ((mend s).refusal ≡ no_start) ↔ NoStart s
  no_start_iff = laws.nowhere_iff s

  -- whatever comes of it, the bytes before the trailer stay, and so does the length
  pub front_kept : take (records_end (length s)) (mend s).session ≡ take (records_end (length s)) s
  front_kept = (laws.kept s).0

  pub length_kept : length (mend s).session ≡ length s
  length_kept = (laws.kept s).1

  -- the smallest start that parses is the one that is given, and there is one at most
  pub smallest_given : (i k : ℕ) → untrailed_refusal s ≡ 0 → Smallest s i k → mend s ≡ mended_by s (found i k)
  smallest_given = laws.smallest_is s

  pub one_smallest : (i k j l : ℕ) → Smallest s i k → Smallest s j l → (i ≡ j) × (k ≡ l)
  one_smallest = search.one_smallest s

  module _ (accepted : (mend s).refusal ≡ 0) where
    -- the start given is the smallest that parses, with the count given
    pub start_smallest : Smallest s (mend s).start (mend s).count
    start_smallest = laws.smallest s accepted

    -- the trailer says both
    pub trailer_written : (mend s).session ≡ take (records_end (length s)) s ++ trailer_bytes (mend s).start (mend s).count
    trailer_written = laws.mended_is s accepted

    -- no number but 10 refuses the mended session
    pub mended_passes : Passes (mend s).session
    mended_passes = laws.passing s accepted

    -- mending it again changes nothing
    pub mended_again : mend (mend s).session ≡ mend s
    mended_again = sym (laws.unheeded s (mend s).session (sym length_kept) (sym front_kept) accepted)

-- sessions that differ in the trailer alone get the same refusal, or are mended to the same session
module _ (s₁ s₂ : List ℕ) (long : length s₁ ≡ length s₂) (same : take (records_end (length s₁)) s₁ ≡ take (records_end (length s₁)) s₂) where
  pub trailer_unheeded_refusal : (mend s₁).refusal ≡ (mend s₂).refusal
  trailer_unheeded_refusal = laws.unheeded_refusal s₁ s₂ long same

  pub trailer_unheeded : (mend s₁).refusal ≡ 0 → mend s₁ ≡ mend s₂
  trailer_unheeded = laws.unheeded s₁ s₂ long same

-- a session of bytes that passes, has records, and cannot be read from an earlier start
module _ (s : List ℕ) (passes : Passes s) (records : 1 ≤ count_of s) (bytes : Bytes s) (alone : NoneBelow s (start_of s)) where
  -- mended, it gets its own trailer
  pub own_trailer : mend s ≡ record { refusal = 0; start = start_of s; count = count_of s; session = s }
  own_trailer = laws.restored s passes records bytes alone

  -- and so does a copy with any eight bytes in the trailer's place
  pub lost_trailer : (copy : List ℕ) → length s ≡ length copy → take (records_end (length s)) s ≡ take (records_end (length s)) copy
      → mend copy ≡ record { refusal = 0; start = start_of s; count = count_of s; session = s }
  lost_trailer copy long same = sym (laws.unheeded s copy long same (ap (λ r. r.refusal) own_trailer)) ∙ own_trailer

-- so of a session that the session writer made without a title: whatever became of its trailer, it comes back
pub untitled_restored : (p : Parts) (space : List ℕ) → (write_session p space).refusal ≡ 0 → length p.title ≡ 0 → 1 ≤ p.count → Bytes (session_bytes p)
    → (copy : List ℕ) → length (session_bytes p) ≡ length copy
    → take (records_end (length (session_bytes p))) (session_bytes p) ≡ take (records_end (length (session_bytes p))) copy
    → mend copy ≡ record { refusal = 0; start = card_size; count = p.count; session = session_bytes p }
untitled_restored p space accepted untitled records bytes copy long same =
    let whole = laws.untitled_mended p (writable p (accepted_parts p space accepted).0) untitled records bytes in
    sym (laws.unheeded (session_bytes p) copy long same (ap (λ r. r.refusal) whole)) ∙ whole

-- Demand 3: two sessions that agree outside a zone of their cards, or outside it and both passwords of a set, get the same refusal, start and
-- count, and are mended to sessions that agree so again.
pub zone_mended_alike : (z : ℕ) → z < 8 → (s₁ s₂ : List ℕ) → AgreeOutside (in_zone z) s₁ s₂ → MendedAlike (in_zone z) (mend s₁) (mend s₂)
zone_mended_alike = laws.zone_alike

pub passwords_mended_alike : (z p : ℕ) → z < 8 → p < 8 → (s₁ s₂ : List ℕ) → AgreeOutside (in_zone_or_passwords z p) s₁ s₂
    → MendedAlike (in_zone_or_passwords z p) (mend s₁) (mend s₂)
passwords_mended_alike = laws.passwords_alike
