-- The refusals' numbers ("Sent back with a number"); 0 stands for none.
use Rattle.std.specs.Prelude.{ℕ}

abbrev pub session_length : ℕ
session_length = 1

abbrev pub session_trailer : ℕ
session_trailer = 2

abbrev pub start_out_of_range : ℕ
start_out_of_range = 3

abbrev pub too_many_records : ℕ
too_many_records = 4

abbrev pub fuse_byte : ℕ
fuse_byte = 5

abbrev pub unknown_kind : ℕ
unknown_kind = 6

abbrev pub field_out_of_range : ℕ
field_out_of_range = 7

abbrev pub cut_short : ℕ
cut_short = 8

abbrev pub bytes_left : ℕ
bytes_left = 9

abbrev pub no_space : ℕ
no_space = 10

abbrev pub card_length : ℕ
card_length = 11

abbrev pub state_out_of_range : ℕ
state_out_of_range = 12

abbrev pub not_a_log : ℕ
not_a_log = 13

abbrev pub no_such_answer : ℕ
no_such_answer = 14

abbrev pub title_length : ℕ
title_length = 15

abbrev pub staging_bytes : ℕ
staging_bytes = 16

abbrev pub no_start : ℕ
no_start = 17

abbrev pub box_limits : ℕ
box_limits = 18
