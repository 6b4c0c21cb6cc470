-- The numbers that the exported functions give back.
use Rattle.std.specs.Prelude.{ℕ, ◌+◌, ◌*◌, ◌^◌, Result, Ok, Err}
use Rattle.record.specs.declared.refusal.Refusal.{Refusal}
use Rattle.record.specs.RefusalNumber.{refusal_number}

-- the refusal's number, or 0, and 2^8 times a length
abbrev pub run_result : ℕ → ℕ → ℕ
run_result refusal n = refusal + 2 ^ 8 * n

-- the refusal's number, or 0, 2^8 times the response's length, 2^24 times the tries left and 2^32 times the kind that is answered
abbrev pub command_result : ℕ → ℕ → ℕ → ℕ → ℕ
command_result refusal n tries kind = refusal + 2 ^ 8 * n + 2 ^ 24 * tries + 2 ^ 32 * kind

-- the refusal's number, or 0, 2^8 times the answer's length, 2^24 times the entry headers that were read and 2^40 times where it begins in the log
abbrev pub answer_result : ℕ → ℕ → ℕ → ℕ → ℕ
answer_result refusal n headers from = refusal + 2 ^ 8 * n + 2 ^ 24 * headers + 2 ^ 40 * from

-- the refusal's number, or 0, 2^8 times the count of the records and 2^32 times where they start
abbrev pub mend_result : ℕ → ℕ → ℕ → ℕ
mend_result refusal count start = refusal + 2 ^ 8 * count + 2 ^ 32 * start

-- ---- of what the code hands out

abbrev pub run_number : Result ℕ Refusal → ℕ
run_number (Ok length) = run_result 0 length
run_number (Err why) = run_result (refusal_number why) 0

abbrev pub reply_number : Result ℕ Refusal → ℕ → ℕ → ℕ
reply_number (Ok length) tries kind = command_result 0 length tries kind
reply_number (Err why) tries kind = command_result (refusal_number why) 0 tries kind

abbrev pub place_number : Result (ℕ × ℕ) Refusal → ℕ → ℕ
place_number (Ok (from, length)) headers = answer_result 0 length headers from
place_number (Err why) headers = answer_result (refusal_number why) 0 headers 0

abbrev pub mended_number : Result (ℕ × ℕ) Refusal → ℕ
mended_number (Ok (count, start)) = mend_result 0 count start
mended_number (Err why) = mend_result (refusal_number why) 0 0
