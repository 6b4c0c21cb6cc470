-- The model of the card, bottom up: definitions alone.

-- numbers, lists of bytes, the refusals
pub mod Sizes
pub mod Lists
pub mod Numbers
pub mod Bits
pub mod Refusal
-- what a card keeps beside its bytes, and what a record asks
pub mod Volatile
pub mod State
pub mod Instruction
-- what each of these does, for any device
pub mod Device
pub mod Call
pub mod Apply
pub mod Cells
pub mod Staging
pub mod Busy
pub mod Act
-- the AT88SC1608
pub mod Access
pub mod At88sc1608
-- records, the single command, the log, sessions, how one is run in the box, written and mended
pub mod Record
pub mod Single
pub mod Reader
pub mod Log
pub mod LogCheck
pub mod Session
pub mod Box
pub mod Writer
pub mod Mender
