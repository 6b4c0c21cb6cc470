-- The session writer: it refuses exactly where a number applies, with the first that does; what it writes gives back what it was given, so
-- two inputs that differ never give one session; and a written session passes every check of sessions but that of the log space.
use Rattle.std.specs.Prelude.{ℕ, List, [], ◌∷◌, ◌↔◌, ◌≡◌, ltb, length}
use Rattle.std.proofs.Common.{sym, ap, ◌∙◌}
use Rattle.model.specs.Refusal.{no_space}
use Rattle.model.specs.Session.{run}
use Rattle.model.specs.Writer.{Parts, session_bytes, write_session}
use Rattle.laws.specs.WriterLaws.{writable}
use Rattle.properties.specs.Conditions.{when, first, NoneApplies}
use Rattle.properties.specs.SessionConditions.{log_length}
use Rattle.properties.specs.WriterConditions.{writer_conditions}
use Rattle.properties.specs.AcceptedSession.{accepting}
use Rattle.properties.specs.SessionParts.{session_in, parts_of}
use Rattle.properties.specs.ConditionsLaws.{zero_iff}
use Rattle.properties.proofs.WriterConditionsLaws.{writer_first, writer_numbered}
use Rattle.properties.specs.SessionPartsLaws.{accepted_parts, session_in_lem, parts_back, only_room}

module _ (p : Parts) (space : List ℕ) where
  -- the refusal is the first that applies; 0 where none does
  pub writer_refusal_is : (write_session p space).refusal ≡ first (writer_conditions p space) 0
  writer_refusal_is = writer_first p space

  -- parts are accepted exactly when none applies
  pub writer_accepted_iff : ((write_session p space).refusal ≡ 0) ↔ NoneApplies (writer_conditions p space)
  writer_accepted_iff = zero_iff (writer_conditions p space) (writer_numbered p space) _ writer_refusal_is

  module _ (accepted : (write_session p space).refusal ≡ 0) where
    -- then the session stands at the front of the space, whose other bytes are kept, and its length is given back
    pub session_written : write_session p space ≡ accepting (session_bytes p) space
    session_written = (accepted_parts p space accepted).1

    -- its card, the text before its records, its records and their count are those that were given
    pub read_back : parts_of (session_in (write_session p space)) ≡ p
    read_back = ap parts_of (session_in_lem p space accepted) ∙ parts_back p (writable p (accepted_parts p space accepted).0)

    -- whatever the log space, no number but 10 refuses it, and 10 only where a log with every record answered in full has no room
    pub written_passes : (log : List ℕ) → (run (session_in (write_session p space)) log).refusal
        ≡ first (when no_space (ltb (length log) (log_length (session_bytes p))) ∷ []) 0
    written_passes log =
        ap (λ (s : List ℕ). (run s log).refusal) (session_in_lem p space accepted)
        ∙ only_room p (writable p (accepted_parts p space accepted).0) log

-- inputs that are accepted and give one session are the same
pub one_input : (p q : Parts) (space other : List ℕ) → (write_session p space).refusal ≡ 0 → (write_session q other).refusal ≡ 0
    → session_in (write_session p space) ≡ session_in (write_session q other) → p ≡ q
one_input p q space other a b e = sym (read_back p space a) ∙ ap parts_of e ∙ read_back q other b
