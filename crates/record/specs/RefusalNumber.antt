-- The paper's number of each refusal.
use Rattle.std.specs.Prelude.{ℕ, suc, ◌≡◌, refl, Result, Ok, Err}
use Rattle.model.specs.Refusal as model
use Rattle.record.specs.declared.refusal.Refusal.{Refusal}
use Rattle.record.specs.declared.refusal.Refusal.TheVariants as refusal

abbrev pub refusal_number : Refusal → ℕ
refusal_number refusal.SessionLength = model.session_length
refusal_number refusal.SessionTrailer = model.session_trailer
refusal_number refusal.StartOutOfRange = model.start_out_of_range
refusal_number refusal.TooManyRecords = model.too_many_records
refusal_number refusal.FuseByte = model.fuse_byte
refusal_number refusal.UnknownKind = model.unknown_kind
refusal_number refusal.FieldOutOfRange = model.field_out_of_range
refusal_number refusal.CutShort = model.cut_short
refusal_number refusal.BytesLeft = model.bytes_left
refusal_number refusal.NoSpace = model.no_space
refusal_number refusal.CardLength = model.card_length
refusal_number refusal.StateOutOfRange = model.state_out_of_range
refusal_number refusal.NotALog = model.not_a_log
refusal_number refusal.NoSuchAnswer = model.no_such_answer
refusal_number refusal.TitleLength = model.title_length
refusal_number refusal.StagingBytes = model.staging_bytes
refusal_number refusal.NoStart = model.no_start
refusal_number refusal.BoxLimits = model.box_limits

-- none of them is 0
pub number_some : (why : Refusal) → (n : ℕ) × (refusal_number why ≡ suc n)
number_some refusal.SessionLength = (0, refl)
number_some refusal.SessionTrailer = (1, refl)
number_some refusal.StartOutOfRange = (2, refl)
number_some refusal.TooManyRecords = (3, refl)
number_some refusal.FuseByte = (4, refl)
number_some refusal.UnknownKind = (5, refl)
number_some refusal.FieldOutOfRange = (6, refl)
number_some refusal.CutShort = (7, refl)
number_some refusal.BytesLeft = (8, refl)
number_some refusal.NoSpace = (9, refl)
number_some refusal.CardLength = (10, refl)
number_some refusal.StateOutOfRange = (11, refl)
number_some refusal.NotALog = (12, refl)
number_some refusal.NoSuchAnswer = (13, refl)
number_some refusal.TitleLength = (14, refl)
number_some refusal.StagingBytes = (15, refl)
number_some refusal.NoStart = (16, refl)
number_some refusal.BoxLimits = (17, refl)

-- the number of the refusal that a call ends with, or 0
abbrev pub outcome_number : Result Unit Refusal → ℕ
outcome_number (Ok _) = 0
outcome_number (Err why) = refusal_number why
