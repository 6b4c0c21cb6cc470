-- The number of what was fetched.
use mathlib.Core.Path.{refl, ap}
use Rattle.session_log.specs.Found.{found_of}
use Rattle.exports.proofs.ExportLaws.{headers_fit, answer_fits}
use Rattle.exports.proofs.at88sc1608_answer.Goals as goal

pub place_number-requires-clause-place : goal.place_number-requires-clause-place
place_number-requires-clause-place c =
    let h = answer_fits _ _ _ c.fetch-fetched.ensures _ (ap found_of c.in-Ok.is) _ _ refl in (h.2, h.0)

pub place_number-requires-clause-headers : goal.place_number-requires-clause-headers
place_number-requires-clause-headers c = headers_fit _ _ _ c.fetch-fetched.ensures _ refl

pub place_number-requires-in-Err-clause-headers : goal.place_number-requires-in-Err-clause-headers
place_number-requires-in-Err-clause-headers c = headers_fit _ _ _ c.fetch-fetched.ensures _ refl
