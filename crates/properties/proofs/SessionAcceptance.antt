-- A session is accepted exactly when no refusal number applies, and a refused one gets the first that applies; an accepted one gives
-- back and leaves the log of its records. Then the edges: 2,197 bytes without records log 2,197 bytes; fewer give 1.
use Rattle.std.specs.Prelude.{ℕ, ◌≤◌, ◌<◌, true, List, ◌++◌, ◌↔◌, ◌≡◌, length}
use Rattle.model.specs.Sizes.{card_size, fuse_at, least_session}
use Rattle.model.specs.Lists.{at}
use Rattle.model.specs.Instruction.{Instruction}
use Rattle.model.specs.Log.{zoned, log_trailer}
use Rattle.model.specs.Refusal.{session_length}
use Rattle.model.specs.Session.{log_of, rejected, run}
use Rattle.model.specs.Single.{is_fuse_byte, staging_fits}
use Rattle.properties.specs.Conditions.{first, NoneApplies}
use Rattle.properties.specs.SessionConditions.{session_conditions}
use Rattle.properties.specs.AcceptedSession.{Accepts, accepting, empty}
use Rattle.properties.specs.ConditionsLaws.{zero_iff}
use Rattle.properties.proofs.SessionRefusalLaws.{refusal_first, session_numbered}
use Rattle.properties.specs.AcceptedSessionLaws.{accepted_commands, accepted_log}
use Rattle.properties.specs.Edges.{short_rejected, empty_log}

module _ (s space : List ℕ) where
  -- the refusal of a session is the first that applies, in the paper's order; 0 where none does
  pub refusal_is : (run s space).refusal ≡ first (session_conditions s space) 0
  refusal_is = refusal_first s space

  -- it is accepted exactly when none applies
  pub accepted_iff : ((run s space).refusal ≡ 0) ↔ NoneApplies (session_conditions s space)
  accepted_iff = zero_iff (session_conditions s space) (session_numbered s space) _ refusal_is

  -- an accepted session has instructions, and room for their log with every record answered in full
  pub accepted_run : (run s space).refusal ≡ 0 → (ks : List Instruction) × Accepts s space ks
  accepted_run = accepted_commands s space

  -- it gives back the length of that log and leaves it at the front of the log space, whose other bytes are kept
  pub run_accepted : (ks : List Instruction) → Accepts s space ks → run s space ≡ accepting (log_of s ks) space
  run_accepted = accepted_log s space

  -- fewer bytes than a card and a trailer give 1, and the log space is kept
  pub short : length s < least_session → run s space ≡ rejected session_length space
  short = short_rejected s space

-- a card that is well and a trailer that counts no records log the card and a trailer that counts no answers
pub nothing_run : (card space : List ℕ) → length card ≡ card_size → is_fuse_byte (at card fuse_at) ≡ true → staging_fits card ≡ true
    → least_session ≤ length space
    → run (empty card) space ≡ accepting (card ++ log_trailer zoned 0 0) space
nothing_run = empty_log
