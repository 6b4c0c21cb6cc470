-- One line behind the other.
use borrow.Author.Rules.{rules}
use Rattle.listing.proofs.LineLaws.{fuses_room, card_put}
use Rattle.listing.proofs.lines.put_card.Goals as goal

pub put_fuses-requires : goal.put_fuses-requires
put_fuses-requires c = search (rules, fuses_room)

pub returns : goal.returns
returns c = search card_put
