-- Every listing fits: a text space of three times the log space has room for it, whole.
use Rattle.std.specs.Prelude.{ℕ, zero, suc, ◌*◌, ◌≤◌, ◌<◌, List, [], ◌∷◌, ◌≡◌, refl, length, replicate}
use Rattle.std.proofs.Common.{sym, ap, ◌∙◌, arith, length-append}
use Rattle.std.proofs.lemmas.List.{length-replicate}
use Rattle.std.proofs.Math.Seq.{length-sets}
use Rattle.model.specs.Lists.{Bytes}
use Rattle.model.specs.Session.{log_of, run}
use Rattle.properties.proofs.SessionAcceptance.{accepted_run}
use Rattle.properties.proofs.SessionRefusalLaws.{refusal_most}
use Rattle.properties.specs.AcceptedSessionLaws.{log_within}
use Rattle.properties.specs.ReadBack.{laid_out}
use Rattle.text.specs.Text.{decimal}
use Rattle.text.specs.TextLaws.{decimal_few}
use Rattle.listing.specs.Listing.{printing_space, listing, Listed, list_in, printed, Printed, log_lines}
use Rattle.listing.specs.ListingLaws.{log_listed, listing_length}

-- ---- the listing

pub listing_fits : (s log : List ℕ) → Bytes s → 5 ≤ length log → length (listing s log) ≤ 3 * length log
unfolding listing
listing_fits s log bytes room = go (run s log).refusal refl
  where
    go : (n : ℕ) → (run s log).refusal ≡ n → length (listing s log) ≤ 3 * length log
    go zero e =
        let a = accepted_run s log e in
        let w = laid_out s log a.0 bytes a.1 in
        let l = listing_length _ _ _ w in
        let r = log_within s log a.0 a.1 in
        let t : listing s log ≡ log_lines (log_of s a.0) = rw (e, a.1.reads) (sym (log_listed _ _ _ w)) in
        rw t (omega arith)
    go (suc n) e =
        let m = refusal_most s log in
        let s : suc n < 10000 = omega arith in
        let d = decimal_few (suc n) s in
        let a = length-append (decimal (suc n)) (0x0A ∷ []) in
        rw e (omega arith)

-- so what the program prints is whole in a text space of three times its log space
pub printed_whole : (s text log' text' : List ℕ) (r : ℕ) → Bytes s → length text ≡ 3 * printing_space
    → record { size = r; log = log'; text = text' } ≡ list_in s (replicate printing_space 0) text
    → Printed s text r text'
printed_whole s text log' text' r bytes l e =
    let f = listing_fits s (replicate printing_space 0) bytes (rw (length-replicate {A = ℕ} printing_space 0) (omega arith)) in
    let g = length-replicate {A = ℕ} printing_space 0 in
    let a = ap (λ (x : Listed). x.size) e in
    let b = ap (λ (x : Listed). length x.text) e ∙ length-sets text 0 (printed s) in
    record { whole = omega arith; within = omega arith; bytes = ap (λ (x : Listed). x.text) e }
