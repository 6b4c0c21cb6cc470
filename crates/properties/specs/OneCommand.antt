-- One command does what a session does at that record ("A single command is also public").
use Rattle.std.specs.Prelude.{ℕ, suc, ◌≤◌, ◌<◌, List, ◌≡◌, length}
use Rattle.model.specs.Lists.{Bytes}
use Rattle.model.specs.Instruction.{Instruction}
use Rattle.model.specs.At88sc1608.{at88sc1608}
use Rattle.model.specs.Call.{calling}
use Rattle.model.specs.LogCheck.{find, answer_in}
use Rattle.model.specs.Session.{start_of, count_of, initial, log_of}
use Rattle.model.specs.Single.{command}
use Rattle.laws.specs.BusyLaws.{tries_given}
use Rattle.properties.specs.SessionConditions.{place_past}
use Rattle.properties.specs.AcceptedSession.{Accepts, instruction_at, reached, record_at, kind_in, leaving}
use Rattle.properties.specs.EachRecord.{one_record}

-- a session of bytes that is accepted with the instructions ks
module _ (s log : List ℕ) (ks : List Instruction) (bytes : Bytes s) (a : Accepts s log ks) where
  -- On the card, and in the state, to which the records before record k have led, given the bytes of record k and enough space, a
  -- single command answers as the kind and gives the response that the log holds for k, and leaves the card and the state before record
  -- k + 1. What it hands out are the tries left on that card, of the counter that record k used, and 0 where the card ignored it,
  -- being busy or off or having a write to finish.
  pub single : (k : ℕ) → k < count_of s → (space : List ℕ) → length (answer_in (log_of s ks) (find (log_of s ks) k)) ≤ length space
      → command (reached ks (initial s) k).card (reached ks (initial s) k).state (calling (record_at s (place_past k s (start_of s))) space)
      ≡ leaving (kind_in (log_of s ks) k) (tries_given at88sc1608 (reached ks (initial s) k).card (reached ks (initial s) k).state (instruction_at ks k)
      (reached ks (initial s) (suc k)).card)
      (reached ks (initial s) (suc k)) (answer_in (log_of s ks) (find (log_of s ks) k)) space
  single = one_record s log ks bytes a
