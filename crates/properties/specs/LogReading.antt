-- The log reader accepts exactly the paper's layout, and the log of an accepted session reads back: every
-- answer that was written, its kind and its zone, and the final card ("Session and log", "The zone named in the log").
use Rattle.std.specs.Prelude.{ℕ, ◌+◌, ◌-◌, ◌≤◌, ◌<◌, true, List, ◌↔◌, ◌≡◌, length, take, drop}
use Rattle.model.specs.Sizes.{card_size}
use Rattle.model.specs.Lists.{at, Bytes}
use Rattle.model.specs.At88sc1608.{at88sc1608}
use Rattle.model.specs.State.{State}
use Rattle.model.specs.Call.{Powered}
use Rattle.model.specs.Instruction.{Instruction, kind_of}
use Rattle.laws.specs.EntryLaws.{answered_names, named_keeps}
use Rattle.model.specs.Log.{Ending, zoned, names_zone, Entry, header_length, entry_bytes, entries_bytes, Fits, LaidOut}
use Rattle.model.specs.LogCheck.{valid_as, valid, find, missing, located, answer_in}
use Rattle.model.specs.LogCheck as log
use Rattle.model.specs.Refusal.{not_a_log, no_such_answer}
use Rattle.model.specs.Single.{answered_kind}
use Rattle.model.specs.Session.{count_of, logged, after, entries_of, end_of, initial, log_of}
use Rattle.properties.specs.AcceptedSession.{Accepts, instruction_at, reached, kind_in, zone_in, entry_of}
use Rattle.properties.specs.Written.{entry_most, count_is, written_found, written_answer, written_kind, written_zone, written_none, written_card}
use Rattle.properties.specs.Layout.{exactly_as, exactly, not_laid, ending_other}
use Rattle.properties.specs.ReadBack.{ending_back, valid_back, count_back, kind_back, zone_back, found_back, answer_back, none_back, card_back}

-- a log of bytes is accepted exactly when it is the writing of some entries within the limits, a card and the trailer
pub accepted_iff : (l : List ℕ) → Bytes l → (valid l ≡ true) ↔ ((es : List Entry) × (card : List ℕ) × LaidOut zoned es card l)
accepted_iff = exactly

-- and so under any ending
pub accepted_as_iff : (E : Ending) (l : List ℕ) → Bytes l → (valid_as E l ≡ true) ↔ ((es : List Entry) × (card : List ℕ) × LaidOut E es card l)
accepted_as_iff = exactly_as

-- bytes that are laid out in no way get 13, whatever answer is asked for
pub unlaid : (l : List ℕ) → Bytes l → ((es : List Entry) (card : List ℕ) → LaidOut zoned es card l → ⊥) → (k : ℕ) → find l k ≡ missing not_a_log
unlaid = not_laid

-- whatever ends in another byte than $50 gets 13
pub other_ending : (l : List ℕ) (k : ℕ) → (at l (length l - 1) ≡ 0x50 → ⊥) → find l k ≡ missing not_a_log
other_ending = ending_other

-- an entry within the limits has at most 260 bytes
pub entry_at_most : (E : Ending) (e : Entry) → Fits E e → length (entry_bytes E e) ≤ 260
entry_at_most = entry_most

-- of a log that is laid out so
module _ (es : List Entry) (card l : List ℕ) (w : LaidOut zoned es card l) where
  -- it counts its entries
  pub laid_count : log.count_of l ≡ length es
  laid_count = count_is zoned es card l w

  -- past the last entry every answer gets 14
  pub laid_none : (k : ℕ) → length es ≤ k → find l k ≡ missing no_such_answer
  laid_none = written_none es card l w

  -- its card is the one that was laid out
  pub laid_card : take card_size (drop (log.offset_of l) l) ≡ card
  laid_card = written_card zoned es card l w

-- and of its answer k: it is the response of entry k, and its kind and its zone, where it is named, are those of entry k
module _ (es : List Entry) (card l : List ℕ) (w : LaidOut zoned es card l) (k : ℕ) (h : k < length es) where
  -- it is found, behind the entries before it and its own header, with the length of that response: no answer that there is gets 13 or 14
  pub laid_found : find l k ≡ located (length (entries_bytes zoned (take k es)) + header_length zoned (entry_of es k).kind) (length (entry_of es k).response)
  laid_found = written_found es card l w k h

  pub laid_answer : answer_in l (find l k) ≡ (entry_of es k).response
  laid_answer = written_answer es card l w k h

  pub laid_kind : kind_in l k ≡ (entry_of es k).kind
  laid_kind = written_kind es card l w k h

  pub laid_zone : zoned.names (entry_of es k).kind ≡ true → zone_in l k ≡ (entry_of es k).zone
  laid_zone = written_zone es card l w k h

-- a record names the zone by its own kind, ignored or not, and leaves it selected, so the zone before it is the zone after it
pub names_either_way : (c : List ℕ) (s : State) (k : Instruction) → names_zone (answered_kind c s k) ≡ names_zone (kind_of k)
names_either_way = answered_names

pub zone_stays : (m : Powered State) (k : Instruction) → names_zone (kind_of k) ≡ true → (after m k).state.volatile.zone ≡ m.state.volatile.zone
zone_stays m k = named_keeps at88sc1608 m.card m.state k

-- a session of bytes that is accepted with the instructions ks
module _ (s space : List ℕ) (ks : List Instruction) (bytes : Bytes s) (a : Accepts s space ks) where
  -- its log ends in $50
  pub log_ending : at (log_of s ks) (length (log_of s ks) - 1) ≡ 0x50
  log_ending = ending_back s space ks bytes a

  -- it is accepted
  pub log_valid : valid (log_of s ks) ≡ true
  log_valid = valid_back s space ks bytes a

  -- the log has as many answers as the session has records
  pub log_count : log.count_of (log_of s ks) ≡ count_of s
  log_count = count_back s space ks bytes a

  -- answer k is found, behind the entries before it and its own header
  pub log_found : (k : ℕ) → k < count_of s
      → find (log_of s ks) k
      ≡ located
      (length (entries_bytes zoned (take k (entries_of ks (initial s)))) + header_length zoned (logged (reached ks (initial s) k) (instruction_at ks k)).kind)
      (length (logged (reached ks (initial s) k) (instruction_at ks k)).response)
  log_found = found_back s space ks bytes a

  -- answer k is the response of record k
  pub log_answer : (k : ℕ) → k < count_of s
      → answer_in (log_of s ks) (find (log_of s ks) k) ≡ (logged (reached ks (initial s) k) (instruction_at ks k)).response
  log_answer = answer_back s space ks bytes a

  -- its kind is that of record k, or that plus 128 where it was ignored
  pub log_kind : (k : ℕ) → k < count_of s → kind_in (log_of s ks) k ≡ (logged (reached ks (initial s) k) (instruction_at ks k)).kind
  log_kind = kind_back s space ks bytes a

  -- where the kind names the zone, it is the zone that was selected before record k
  pub log_zone : (k : ℕ) → k < count_of s → names_zone (kind_in (log_of s ks) k) ≡ true
      → zone_in (log_of s ks) k ≡ (reached ks (initial s) k).state.volatile.zone
  log_zone = zone_back s space ks bytes a

  -- and there is no other
  pub log_none : (k : ℕ) → count_of s ≤ k → find (log_of s ks) k ≡ missing no_such_answer
  log_none = none_back s space ks bytes a

  -- the log's card is the final card
  pub log_card : take card_size (drop (log.offset_of (log_of s ks)) (log_of s ks)) ≡ (end_of ks (initial s)).card
  log_card = card_back s space ks bytes a
