-- What was fetched lies within the log.
use Rattle.session_log.specs.Found.{fetched_of}
use Rattle.session_log.proofs.FindLaws.{fetched_within}
use Rattle.session_log.proofs.find.read_answer.Goals as goal

pub part_found-requires : goal.part_found-requires
part_found-requires c = fetched_within _ c.args.number (fetched_of c.fetch-fetched.result) c.fetch-fetched.ensures
