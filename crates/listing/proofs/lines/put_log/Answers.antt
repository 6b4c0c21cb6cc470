-- The entries' lines, and those of the card.
use borrow.Author.Rules.{rules}
use Rattle.text.proofs.PutLaws.{page_put}
use Rattle.listing.proofs.LineLaws.{entries_ready, card_within, log_put}
use Rattle.listing.proofs.lines.put_log.Goals as goal

pub put_entries-requires : goal.put_entries-requires
put_entries-requires c = (entries_ready _ c.requires _ _ c.get.ensures.number c.get-start.ensures.number, c.new-page.ensures.at)

pub slice_bounds-put_card-end : goal.slice_bounds-put_card-end
slice_bounds-put_card-end c = card_within _ c.requires _ _ c.get.ensures.number c.get-start.ensures.number

pub returns : goal.returns
returns c =
    page_put c.new-page.ensures.bytes c.new-page.ensures.at
    (log_put _ c.requires _ _ c.get.ensures.number c.get-start.ensures.number c.put_entries.ensures c.put_card.ensures) (search rules)
