-- Each return by the tests that led to it.
use Rattle.command.proofs.AdmitLaws.{bad_length, bad_fuses, bad_staging, bad_state, all_well}
use Rattle.command.proofs.admit.check.Goals as goal

pub returns-then-card-ne-CARD : goal.returns-then-card-ne-CARD
returns-then-card-ne-CARD c = search bad_length

pub returns-then-not-fuses : goal.returns-then-not-fuses
returns-then-not-fuses c = search bad_fuses

pub returns-then-not-staging : goal.returns-then-not-staging
returns-then-not-staging c = search bad_staging

pub returns-then-not-range : goal.returns-then-not-range
returns-then-not-range c = search bad_state

pub returns : goal.returns
returns c = search all_well
