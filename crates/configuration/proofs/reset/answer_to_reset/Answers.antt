-- The four bytes, and the state of the model.
use Rattle.std.proofs.Common.{refl, ◌∙◌}
use Rattle.configuration.proofs.ResetLaws.{reset_answer, reset_state}
use Rattle.configuration.proofs.reset.answer_to_reset.Goals as goal

pub returns : goal.returns
returns c = record {
  state = search reset_state;
  answer = c.reverse.ensures ∙ reset_answer _ _ _ _ c.requires.0 refl;
}
