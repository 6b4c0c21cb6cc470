-- A single command is accepted exactly when no refusal number applies, and a refused one gets the first that applies; an accepted one
-- does what a session does with that record.
use Rattle.std.specs.Prelude.{ℕ, List, ◌↔◌, ◌≡◌, length}
use Rattle.model.specs.State.{State}
use Rattle.model.specs.Instruction.{Instruction}
use Rattle.model.specs.At88sc1608.{at88sc1608}
use Rattle.model.specs.Call.{powered, calling, whole}
use Rattle.model.specs.Record.{decode}
use Rattle.model.specs.Session.{logged, after}
use Rattle.model.specs.Single.{command}
use Rattle.laws.specs.BusyLaws.{tries_given}
use Rattle.properties.specs.Conditions.{first, NoneApplies}
use Rattle.properties.specs.CallConditions.{call_conditions}
use Rattle.properties.specs.AcceptedSession.{leaving}
use Rattle.properties.specs.ConditionsLaws.{zero_iff}
use Rattle.properties.proofs.CallConditionsLaws.{refusal_first, call_numbered, carries}

module _ (c : List ℕ) (s : State) (bytes space : List ℕ) where
  -- the refusal of a single command is the first that applies, in the paper's order; 0 where none does
  pub call_refusal_is : (command c s (calling bytes space)).reply.refusal ≡ first (call_conditions c s bytes space) 0
  call_refusal_is = refusal_first c s bytes space

  -- it is accepted exactly when none applies
  pub call_accepted_iff : ((command c s (calling bytes space)).reply.refusal ≡ 0) ↔ NoneApplies (call_conditions c s bytes space)
  call_accepted_iff = zero_iff (call_conditions c s bytes space) (call_numbered c s bytes space) _ call_refusal_is

  -- Where none applies, the bytes are the record of an instruction k, whole. The call leaves the card and the state that k leaves in a
  -- session's run at this card and this state, reached or not; its kind and its response are those that are logged there, the response
  -- at the front of the space, whose other bytes are kept. What it hands out are the tries left on the card that it leaves, of the
  -- counter that k used, and 0 where the card ignored it, being busy or off or having a write to finish.
  pub call_does : NoneApplies (call_conditions c s bytes space)
      → (k : Instruction) × (decode bytes ≡ whole k (length bytes))
      × (command c s (calling bytes space)
      ≡ leaving (logged (powered c s) k).kind (tries_given at88sc1608 c s k (after (powered c s) k).card) (after (powered c s) k)
      (logged (powered c s) k).response space)
  call_does = carries c s bytes space
