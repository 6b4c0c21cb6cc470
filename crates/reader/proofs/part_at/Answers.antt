-- At or past the end there is no kind byte.
use Rattle.laws.specs.ReaderLaws.{part_none}
use Rattle.record.proofs.DecoderLaws.{no_kind, no_first, decode_refused}
use Rattle.reader.proofs.part_at.Goals as goal

pub returns-then-end-at-clause-past : goal.returns-then-end-at-clause-past
returns-then-end-at-clause-past c =
    decode_refused _ _ (no_kind _ (no_first _ (part_none c.args.session.now c.args.at (rw c.records_end-end.ensures at c.if-end-at.true))))
