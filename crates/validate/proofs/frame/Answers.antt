-- Each return by the tests that led to it.
use borrow.Author.Rules.{rules}
use Rattle.validate.proofs.SessionCheckLaws.{bad_length, bad_trailer, bad_start, many, bad_fuses, bad_staging, well}
use Rattle.validate.proofs.frame.Goals as goal

pub returns-then-not-contains : goal.returns-then-not-contains
returns-then-not-contains c = search (rules, bad_length)

pub returns-then-not-ends_with : goal.returns-then-not-ends_with
returns-then-not-ends_with c = search (rules, bad_trailer)

pub returns-then-not-contains-2 : goal.returns-then-not-contains-2
returns-then-not-contains-2 c = search (rules, bad_start)

pub returns-then-get-gt-MOST_RECORDS : goal.returns-then-get-gt-MOST_RECORDS
returns-then-get-gt-MOST_RECORDS c = search (rules, many)

pub returns-then-not-is_fuse_byte : goal.returns-then-not-is_fuse_byte
returns-then-not-is_fuse_byte c = search (rules, bad_fuses)

pub returns-then-not-staging_fits : goal.returns-then-not-staging_fits
returns-then-not-staging_fits c = search (rules, bad_staging)

pub returns : goal.returns
returns c = search (rules, well)
