-- The two loops, from what their turns find: the records read from one start, and the starts tried.
use Prim.Native.Nat.{ℕ, suc, ◌+◌, ◌-◌, ◌≤◌, ◌<◌}
use Rattle.std.specs.Prelude.{List, ◌≡◌, length, take, drop}
use Rattle.std.proofs.Common.{refl, sym, ap, ◌∙◌, arith}
use Rattle.model.specs.Sizes.{card_size, most_records}
use Rattle.model.specs.Call.{refused, whole}
use Rattle.model.specs.Reader.{records_end}
use Rattle.model.specs.Record.{decode}
use Rattle.model.specs.Mender.{count_from, nowhere, found, start_from, smallest_start}
use Rattle.laws.specs.MenderLaws.{before, before_none, before_another, count_refused, count_last, count_next, start_here, start_later}
use Rattle.record.specs.DecodedRecord.{measure_of}
use Rattle.mender.proofs.PartLaws.{Next, next_refused, next_whole}

-- what is known while records are read from a start: how many were, and the place behind them
pub record Reading (s : List ℕ) (start count place : ℕ) : Type 0 where
  pub few : count ≤ most_records
  pub within : place ≤ records_end (length s)
  pub rest : before count (count_from (most_records - count) s place) ≡ count_from most_records s start

pub reading_start : (s : List ℕ) (start : ℕ) → start < records_end (length s) → Reading s start 0 start
reading_start s start h = record { few = omega arith; within = omega arith; rest = before_none (count_from most_records s start) }

module _ (s : List ℕ) (start count place : ℕ) (p : Reading s start count place) where
  pub reading_full : most_records ≤ count → 0 ≡ count_from most_records s start
  unfolding count_from
  reading_full h =
      let z : 0 ≡ most_records - count = omega arith in
      ap (λ (n : ℕ). before count (count_from n s place)) z ∙ p.rest

  module _ (more : count < most_records) where
    left : suc (most_records - (count + 1)) ≡ most_records - count
    left = omega arith

    opened : before count (count_from (suc (most_records - (count + 1))) s place) ≡ count_from most_records s start
    opened = ap (λ (n : ℕ). before count (count_from n s place)) left ∙ p.rest

    -- the record at the place, measured up to the end of the records
    module _ (end : ℕ) (ends : end ≡ records_end (length s)) where
      pub reading_refused : (r : ℕ) → refused r ≡ measure_of (decode (take (end - place) (drop place s))) → 0 ≡ count_from most_records s start
      reading_refused r e =
          ap (before count) (sym (count_refused s (suc (most_records - (count + 1))) place r (next_refused s place end ends r e))) ∙ opened

      module _ (l m : ℕ) (measured : whole l m ≡ measure_of (decode (take (end - place) (drop place s)))) where
        abbrev k : Next s place end ends m
        k = next_whole s place end ends l m measured

        pub reading_last : place + m ≡ end → count + 1 ≡ count_from most_records s start
        reading_last e =
            ap (before count) (sym (count_last s place k.instruction m k.next (most_records - (count + 1)) (e ∙ ends))) ∙ opened

        pub reading_next : (after : ℕ) → after ≡ count + 1 → (place + m ≡ end → ⊥) → Reading s start after (place + m)
        reading_next after q e =
            record {
              few = omega arith;
              within = k.within;
              rest = ap (λ (n : ℕ). before n (count_from (most_records - n) s (place + m))) q
                  ∙ sym (before_another count (count_from (most_records - (count + 1)) s (place + m)))
                  ∙ ap (before count) (sym (count_next s place k.instruction m k.next (most_records - (count + 1)) (λ t. e (t ∙ sym ends)))) ∙ opened;
            }

-- what is known while starts are tried: the one that is sought lies among those that are left
pub record Trying (s : List ℕ) (start : ℕ) : Type 0 where
  pub rest : start_from (records_end (length s) - start) s start ≡ smallest_start s

pub trying_start : (s : List ℕ) → Trying s card_size
trying_start s = record { rest = refl }

module _ (s : List ℕ) (start : ℕ) (p : Trying s start) where
  pub trying_none : records_end (length s) ≤ start → nowhere ≡ smallest_start s
  unfolding start_from
  trying_none h =
      let z : 0 ≡ records_end (length s) - start = omega arith in
      ap (λ (n : ℕ). start_from n s start) z ∙ p.rest

  module _ (more : start < records_end (length s)) where
    pub trying_next : 0 ≡ count_from most_records s start → Trying s (start + 1)
    trying_next e = record { rest = start_later s start more e ∙ p.rest }

    pub trying_found : (k n : ℕ) → n ≡ k + 1 → k + 1 ≡ count_from most_records s start → found start n ≡ smallest_start s
    trying_found k n q e =
        let z : n ≡ suc k = q ∙ (omega arith) in
        ap (found start) z ∙ start_here s start more k (sym z ∙ q ∙ e) ∙ p.rest
