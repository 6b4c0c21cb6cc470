-- The listing of a session, from what its run gave back.
use Prim.Native.Nat.{ℕ, suc, ◌≤◌, min}
use mathlib.Core.List.{List}
use mathlib.Core.Path.{◌≡◌, sym, ap, ◌∙◌}
use native.Mathlib.Omega.{arith}
use lib.ListN.{length, take, drop, length-append}
use lib.Seq.{take-append_seam}
use Rattle.model.specs.Lists.{Bytes}
use Rattle.model.specs.Instruction.{Instruction}
use Rattle.model.specs.Log.{zoned, LaidOut}
use Rattle.model.specs.Session.{entries_of, end_of, initial, log_of, Ran, run}
use Rattle.record.specs.RefusalNumber.{refusal_number, number_some}
use Rattle.record.specs.declared.refusal.Refusal.{Refusal}
use Rattle.properties.specs.Written.{log_length_lem, entries_small, written_well}
use Rattle.properties.specs.AcceptedSession.{Accepts, accepting}
use Rattle.properties.proofs.SessionAcceptance.{accepted_run, run_accepted}
use Rattle.properties.specs.ReadBack.{laid_out}
use Rattle.text.specs.Put.{Put}
use Rattle.listing.specs.Ready.{LogReady}
use Rattle.text.specs.Text.{refused_line}
use Rattle.listing.specs.Listing.{listing, list_in, Listed, log_lines}
use Rattle.listing.specs.ListingLaws.{log_listed, listing_length}

module _ (s log : List ℕ) (r : Ran) (ran : r ≡ run s log) where
  -- the text that was put is the listing
  pub list_put : (text t text' : List ℕ) (n m : ℕ) → t ≡ listing s log → Put text 0 t text' n → m ≡ min n (length text)
      → ◌≡◌ {A = Listed} (record { size = m; log = r.space; text = text' }) (list_in s log text)
  list_put text t text' n m e p q =
      let a : n ≡ length t = p.past ∙ (omega arith) in
      let b : m ≡ min (length (listing s log)) (length text) = q ∙ ap (λ (x : ℕ). min x (length text)) (a ∙ ap length e) in
      let c : text' ≡ (list_in s log text).text = rw e at p.bytes in
      λ i. record { size = b i; log = (ran i).space; text = c i }

  pub refused_listing : (why : Refusal) → r.refusal ≡ refusal_number why → refused_line (refusal_number why) ≡ listing s log
  unfolding listing
  refused_listing why e =
      let n = number_some why in
      let f : (run s log).refusal ≡ suc n.0 = sym (ap (λ (x : Ran). x.refusal) ran) ∙ e ∙ n.1 in
      rw (f, n.1)

  module _ (bytes : Bytes s) (zero : r.refusal ≡ 0) where
    accepts : (ks : List Instruction) × Accepts s log ks
    accepts = accepted_run s log (sym (ap (λ (x : Ran). x.refusal) ran) ∙ zero)

    abbrev ks : List Instruction
    ks = accepts.0

    whole : r ≡ accepting (log_of s ks) log
    whole = ran ∙ run_accepted s log ks accepts.1

    laid : LaidOut zoned (entries_of ks (initial s)) (end_of ks (initial s)).card (log_of s ks)
    laid = laid_out s log ks bytes accepts.1

    pub within : r.size ≤ length r.space
    within =
        let a = length-append (log_of s ks) (drop (length (log_of s ks)) log) in
        let b = ap (λ (x : Ran). x.size) whole in
        let c = ap (λ (x : Ran). length x.space) whole in
        omega arith

    front : take r.size r.space ≡ log_of s ks
    front = ap (λ (x : Ran). take x.size x.space) whole ∙ (take-append_seam (log_of s ks) (drop (length (log_of s ks)) log))

    pub log_ready : LogReady (take r.size r.space)
    log_ready =
        rw front
        (record {
          well = written_well zoned _ _ _ laid;
          small =
              let a = listing_length _ _ _ laid in
              let b = log_length_lem zoned _ _ _ laid in
              let c = entries_small zoned (entries_of ks (initial s)) laid.fit in
              let d = laid.few in
              omega arith;
        })

    pub accepted_listing : log_lines (take r.size r.space) ≡ listing s log
    unfolding listing
    accepted_listing =
        let f : (run s log).refusal ≡ 0 = sym (ap (λ (x : Ran). x.refusal) ran) ∙ zero in
        rw (front, f, accepts.1.reads) (log_listed _ _ _ laid)
