-- Fetching an answer, from what the tests of the code found, in their order.
use Rattle.std.specs.Prelude.{ℕ, Bool, true, false, cond, not, List, Option, Some, None, Result, Ok, Err, ◌≡◌, refl, ltb}
use Rattle.std.proofs.Common.{sym, ap, ◌∙◌}
use Rattle.std.specs.Option.{ok_or}
use Rattle.model.specs.LogCheck.{Found, missing, located, Fetched, length_at, response_at, entries_ok, count_of, offset_of, trailer_ok, valid_as}
use Rattle.model.specs.LogCheck.{valid, place_of, find, fetch}
use Rattle.model.specs.Log.{zoned}
use Rattle.model.specs.Refusal.{not_a_log, no_such_answer}
use Rattle.properties.specs.LogLaws.{Trailed, trailed, answer_within}
use Rattle.record.specs.declared.refusal.Refusal.{Refusal}
use Rattle.record.specs.declared.refusal.Refusal.TheVariants as refusal
use Rattle.session_log.specs.Found.{found_of, Within}
use Rattle.session_log.specs.Scan.{response_of, Scanned}
use Rattle.session_log.specs.declared.check.Place.{Place}
use Rattle.session_log.specs.declared.check.Entries.{Entries}
use Rattle.session_log.specs.declared.check.Unfit.{Unfit}

no_log : (l : List ℕ) (k : ℕ) → valid l ≡ false → ◌≡◌ {A = Fetched} (record { found = missing not_a_log; headers = 0 }) (fetch l k)
unfolding fetch find
no_log l k e = rw e

-- ---- the trailer

module _ (l : List ℕ) (ok : Bool) (trailer : ok ≡ trailer_ok zoned l) where
  pub no_trailer : (k : ℕ) → ok ≡ false → ◌≡◌ {A = Fetched} (record { found = missing not_a_log; headers = 0 }) (fetch l k)
  unfolding valid_as
  no_trailer k t = no_log l k (rw (← trailer, t))

  pub trailer_is : ok ≡ true → Trailed zoned l
  trailer_is t = trailed zoned l (sym trailer ∙ t)

-- ---- the walk over the entries

module _ (l : List ℕ) (k : ℕ) (ok : Bool) (trailer : ok ≡ trailer_ok zoned l) (well : ok ≡ true) (count end : ℕ) (counts : count ≡ count_of l)
    (points : end ≡ offset_of l) where
  entries_decide : (fine : Bool) → fine ≡ entries_ok zoned count l 0 end → valid l ≡ fine
  unfolding valid_as
  entries_decide fine e = rw (← trailer, well, ← counts, ← points, ← e)

  pub bad_entries : (u : Unfit) → Scanned l count end k (Err u) → ◌≡◌ {A = Fetched} (record { found = missing not_a_log; headers = 0 }) (fetch l k)
  bad_entries u s = no_log l k (entries_decide false s.all)

  pub entries_found : (e : Entries) → Scanned l count end k (Ok e) → (f : Result Place Refusal) → f ≡ ok_or e.place refusal.NoSuchAnswer
      → ◌≡◌ {A = Fetched} (record { found = found_of f; headers = e.headers }) (fetch l k)
  unfolding fetch find
  entries_found e s f found =
      rw (entries_decide true s.all, ← counts, ← points) (λ i. record { found = (of_place ∙ go (ltb k count)) i; headers = s.counted i })
    where
      kept : Bool → Option Place
      kept t = cond t (Some (response_of l (place_of l k))) None

      of_place : found_of f ≡ found_of (ok_or (kept (ltb k count)) refusal.NoSuchAnswer)
      of_place = ap found_of (found ∙ ap (λ (p : Option Place). ok_or p refusal.NoSuchAnswer) s.place)

      go : (t : Bool) → found_of (ok_or (kept t) refusal.NoSuchAnswer)
          ≡ cond (not t) (missing no_such_answer) (located (response_at zoned l (place_of l k)) (length_at l (place_of l k)))
      go true = refl
      go false = refl

-- what is found lies within the log
found_within : (l : List ℕ) (k : ℕ) (f : Found) → f ≡ find l k → Within l f
found_within l k (missing n) e = tt
found_within l k (located from n) e = answer_within l k from n (sym e)

pub fetched_within : (l : List ℕ) (k : ℕ) (r : Fetched) → r ≡ fetch l k → Within l r.found
unfolding fetch
fetched_within l k r e = found_within l k r.found (ap (λ (x : Fetched). x.found) e)
