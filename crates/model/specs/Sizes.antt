-- The sizes of the card, of sessions and of logs, each under one name ("The card", "Session and log").
use Rattle.std.specs.Prelude.{ℕ, ◌+◌}

-- zones and configuration, then the fuse byte, then the staging bytes: the flag, three that name a write, the values of at most eight bytes
abbrev pub fuse_at : ℕ
fuse_at = 2176

abbrev pub flag_at : ℕ
flag_at = 2177

abbrev pub most_staged : ℕ
most_staged = 8

abbrev pub card_size : ℕ
card_size = 2189

-- what stands behind the records of a session, and behind the card of a log
abbrev pub trailer_size : ℕ
trailer_size = 8

-- a session without text and records, and the longest one
abbrev pub least_session : ℕ
least_session = card_size + trailer_size

abbrev pub greatest_session : ℕ
greatest_session = 65536

-- a log without entries
abbrev pub least_log : ℕ
least_log = card_size + trailer_size

abbrev pub most_records : ℕ
most_records = 4096

-- the longest session that the box takes, and the most records
abbrev pub box_session : ℕ
box_session = 4096

abbrev pub box_records : ℕ
box_records = 64

-- the longest title that the session writer takes
abbrev pub most_title : ℕ
most_title = 255
