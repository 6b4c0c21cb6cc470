-- A secure memory card as numbers and functions, with no law among them: where its bytes lie, who may reach them, how its
-- counters and fuses move. A place is an index into the card's bytes. The functions are total: they answer for every number.
use Rattle.std.specs.Prelude.{ℕ, Bool, List, [], ◌∷◌, ◌++◌}
use Rattle.model.specs.Lists.{at, tab}
use Rattle.model.specs.Volatile.{Volatile}

pub record Device : Type 0 where
  -- how many bytes a card has, how many zones, how many password selectors
  pub size : ℕ
  pub zones : ℕ
  pub selectors : ℕ
  -- where the fuse byte lies, where the staging bytes begin, and how many bytes a staged write has at most
  pub fuse_at : ℕ
  pub flag_at : ℕ
  pub most_staged : ℕ
  -- the rule bytes, by which access is judged: where each lies, and how many there are
  pub rule_at : ℕ → ℕ
  pub rule_count : ℕ
  -- by the rule bytes and the volatile state: whether a place may be read, or written
  pub may_read : List ℕ → Volatile → ℕ → Bool
  pub may_write : List ℕ → Volatile → ℕ → Bool
  -- by the rule bytes: what a place that may be written then holds, from what it held and what is written
  pub merge : List ℕ → ℕ → ℕ → ℕ → ℕ
  -- by the rule bytes: what a place that may not be read answers
  pub concealed : List ℕ → ℕ → ℕ
  -- the place of byte k of a read or a write at an address, in a zone and in the configuration
  pub zone_byte : ℕ → ℕ → ℕ → ℕ
  pub zone_cell : ℕ → ℕ → ℕ → ℕ
  pub configuration_byte : ℕ → ℕ → ℕ
  pub configuration_cell : ℕ → ℕ → ℕ
  -- the answer to reset: the place of byte k, how many there are, how a byte is sent
  pub reset_byte : ℕ → ℕ
  pub reset_count : ℕ
  pub sent : ℕ → ℕ
  -- of a selector: the place of its attempts counter and of byte k of its password; how long a password is
  pub counter_at : ℕ → ℕ
  pub password_byte : ℕ → ℕ → ℕ
  pub password_count : ℕ
  -- the place of the authentication attempts counter and of byte k of the cryptogram
  pub attempts_at : ℕ
  pub cryptogram_cell : ℕ → ℕ
  -- an attempts counter after a failed attempt, and how many tries a counter leaves
  pub spend : ℕ → ℕ
  pub tries : ℕ → ℕ
  -- who may blow a fuse, and the fuse byte after that
  pub may_blow : Volatile → Bool
  pub blow : ℕ → ℕ

-- the attempts counters: that of a selector's password, and that of authentication
pub data Counter : Type 0 where
  of_password : ℕ → Counter
  of_authentication : Counter

abbrev pub counter_place : Device → Counter → ℕ
counter_place D (of_password k) = D.counter_at k
counter_place D of_authentication = D.attempts_at

-- the rule for a failed attempt: the counter's new value, and the tries that are then left ("Tries left, shown to the candidate")
pub record Spent : Type 0 where
  pub value : ℕ
  pub tries : ℕ

abbrev pub spent : Device → ℕ → Spent
spent D x = record { value = D.spend x; tries = D.tries (D.spend x) }

-- the tries left of every counter of a card: by selector, then that of authentication
unfoldable pub tries_of : Device → List ℕ → List ℕ
tries_of D c = tab (λ k. D.tries (at c (D.counter_at k))) D.selectors ++ (D.tries (at c D.attempts_at) ∷ [])
