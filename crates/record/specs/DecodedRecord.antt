-- Decoded records of the code as those of the model.
use Rattle.std.specs.Prelude.{ℕ, ◌-◌, cond, List, Result, Ok, Err, eqb, take, drop}
use Rattle.model.specs.Lists.{at}
use Rattle.model.specs.At88sc1608.{at88sc1608}
use Rattle.model.specs.Call as call
use Rattle.model.specs.Instruction as command
use Rattle.model.specs.Instruction.{Instruction, power_cycle, issue, wait, poll, write_staged, arm}
use Rattle.laws.specs.BusyLaws.{full_answer}
use Rattle.record.specs.declared.decoder.Record.{Record}
use Rattle.record.specs.declared.decoder.Record.TheVariants as kind
use Rattle.record.specs.declared.decoder.Decoded.{Decoded}
use Rattle.record.specs.declared.decoder.Lengths.{Lengths}
use Rattle.record.specs.declared.refusal.Refusal.{Refusal}
use Rattle.record.specs.declared.decoder.Head.{Head}
use Rattle.record.specs.RefusalNumber.{refusal_number}

-- the bytes of a part from a place up to the record's end
abbrev pub between : ℕ → ℕ → List ℕ → List ℕ
between from to part = take (to - from) (drop from part)

-- the instruction of a record that takes the first n bytes of a part: its data lie between its fixed fields and its end
abbrev pub instruction_of : List ℕ → ℕ → Record → Instruction
instruction_of part n kind.PowerCycle = power_cycle
instruction_of part n kind.Reset = issue command.reset
instruction_of part n (kind.Select z) = issue (command.select z.0)
instruction_of part n (kind.ReadZone a m) = issue (command.read_zone a m)
instruction_of part n (kind.WriteZone a) = issue (command.write_zone a (between 3 n part))
instruction_of part n (kind.ReadConfiguration a m) = issue (command.read_configuration a m)
instruction_of part n (kind.WriteConfiguration a) = issue (command.write_configuration a (between 3 n part))
instruction_of part n kind.ReadFuses = issue command.read_fuses
instruction_of part n kind.WriteFuses = issue command.write_fuses
instruction_of part n (kind.VerifyPassword k) = issue (command.verify_password k (between 2 n part))
instruction_of part n kind.BeginAuthentication = issue command.begin_authentication
instruction_of part n (kind.VerifyAuthentication v) = issue (command.verify_authentication v (between 2 n part))
instruction_of part n (kind.Wait m) = wait m
instruction_of part n kind.Poll = poll
instruction_of part n (kind.WriteStaged a) = write_staged a (between 3 n part)
instruction_of part n (kind.Arm m junk) = arm m junk

abbrev pub decoded_of : List ℕ → Result Decoded Refusal → call.Decoded Instruction
decoded_of part (Err why) = call.refused (refusal_number why)
decoded_of part (Ok d) = call.whole (instruction_of part d.length d.record) d.length

-- the record of a known kind with its fixed fields
unfoldable pub record_of : ℕ → ℕ → ℕ → Record
record_of k a n =
    cond (eqb k 1) kind.PowerCycle
    (cond (eqb k 2) kind.Reset
    (cond (eqb k 3) (kind.Select (record { 0 = a }))
    (cond (eqb k 4) (kind.ReadZone a (cond (eqb n 0) 256 n))
    (cond (eqb k 5) (kind.WriteZone a)
    (cond (eqb k 6) (kind.ReadConfiguration a n)
    (cond (eqb k 7) (kind.WriteConfiguration a)
    (cond (eqb k 8) kind.ReadFuses
    (cond (eqb k 9) kind.WriteFuses
    (cond (eqb k 10) (kind.VerifyPassword a)
    (cond (eqb k 11) kind.BeginAuthentication
    (cond (eqb k 12) (kind.VerifyAuthentication (eqb a 1))
    (cond (eqb k 13) (kind.Wait a) (cond (eqb k 14) kind.Poll (cond (eqb k 15) (kind.WriteStaged a) (kind.Arm a n)))))))))))))))

-- the first three bytes of a part, 0 past its end
abbrev pub head_of : List ℕ → Head
head_of part = record { kind = at part 0; a = at part 1; n = at part 2 }

-- the instruction of a record with these first bytes that takes the first n bytes of a part
abbrev pub asked_by : List ℕ → ℕ → Head → Instruction
asked_by part n h = instruction_of part n (record_of h.kind h.a h.n)

-- the lengths alone of what a decoder finds: that of the answer in full in place of the instruction, and the record's
abbrev pub measure_of : call.Decoded Instruction → call.Decoded ℕ
measure_of (call.refused why) = call.refused why
measure_of (call.whole k n) = call.whole (full_answer at88sc1608 k) n

abbrev pub measured_of : Result Lengths Refusal → call.Decoded ℕ
measured_of (Err why) = call.refused (refusal_number why)
measured_of (Ok l) = call.whole l.answer l.record
