-- The theorems about logs, sessions and single commands over the model.

-- the words of their statements
pub mod Conditions
pub mod SessionConditions
pub mod CallConditions
pub mod AcceptedSession
pub mod SessionSecret
pub mod WriterConditions
pub mod Survival
pub mod SessionParts
pub mod MenderConditions
pub mod BoxConditions
-- the final statements
pub mod Refused
pub mod OneCommand
pub mod HeededCommands
pub mod LogReading
pub mod HeadersRead
pub mod TriesLeft
pub mod ClosedReads
pub mod StoredBytes
pub mod SecurityOutcomes
pub mod PasswordWords
pub mod BusyTimes
pub mod SessionSecrecy
pub mod AnswerSecrecy
pub mod StagedWrites
-- what proves them: of sessions and of refusals
pub mod SessionLaws
pub mod AcceptedSessionLaws
pub mod Edges
pub mod RefusedLaws
pub mod TriesLaws
pub mod ClosedReadsLaws
pub mod StoredBytesLaws
pub mod BusyTimesLaws
pub mod ConditionsLaws
pub mod SessionConditionsLaws
-- of the log, and of a record of a session by itself
pub mod LogLaws
pub mod Written
pub mod Layout
pub mod ReadBack
pub mod FetchLaws
pub mod EachRecord
-- of demand 3 for sessions
pub mod AsCalls
pub mod SameRecords
pub mod Alike
pub mod SessionSecrecyLaws
pub mod AnswerSecrecyLaws
-- of the box
-- of the session writer
pub mod SessionPartsLaws
pub mod MenderSearchLaws
-- of staged writes
pub mod SurvivalLaws
pub mod TearLaws
pub mod FinishingLaws
