-- What a walk over the entries tells.
use Rattle.std.specs.Prelude.{ℕ, cond, List, Option, Some, None, is_some, IfSome, Result, Ok, Err, is_ok, IfOk, ◌≡◌, ltb}
use Rattle.model.specs.Log.{zoned}
use Rattle.model.specs.LogCheck.{length_at, response_at, entry_ok, entries_ok, headers_read, entry_place}
use Rattle.session_log.specs.declared.check.Place.{Place}
use Rattle.session_log.specs.declared.check.Entries.{Entries}
use Rattle.session_log.specs.declared.check.Unfit.{Unfit}

-- where the response of the entry at a place lies
abbrev pub response_of : List ℕ → ℕ → Place
response_of l i = record { from = response_at zoned l i; length = length_at l i }

-- Of a header: whether an entry stands there that is well, and where its response lies.
pub record HeaderRead (l : List ℕ) (i last : ℕ) (result : Option Place) : Type 0 where
  pub well : is_some result ≡ entry_ok zoned l i last
  pub place : IfSome result (λ place. place ≡ response_of l i)

-- how many headers were read, also where the entries are not all well
abbrev pub headers_of : Result Entries Unfit → ℕ
headers_of (Ok entries) = entries.headers
headers_of (Err unfit) = unfit.headers

-- Of count entries: whether they are all well and end at a place, how many headers were read, and where the response of the entry with a number
-- lies. There is none where the number is count or more.
pub record Scanned (l : List ℕ) (count end number : ℕ) (result : Result Entries Unfit) : Type 0 where
  pub all : is_ok result ≡ entries_ok zoned count l 0 end
  pub counted : headers_of result ≡ headers_read zoned count l 0 end
  pub place : IfOk result (λ entries. entries.place ≡ cond (ltb number count) (Some (response_of l (entry_place zoned number l 0))) None)
