-- The record of the head, where the measure refuses nothing.
use Rattle.record.proofs.DecoderLaws.{decode_made}
use Rattle.record.proofs.decoder.decode.Goals as goal

pub returns : goal.returns
returns c = decode_made _ _ _ _ _ c.in_ok-lengths.ensures c.head_of-head.ensures c.made.ensures
