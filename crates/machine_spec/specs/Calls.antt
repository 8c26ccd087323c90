-- The system calls: their numbers, which are those of Linux on RISC-V, and their answers to a bad
-- descriptor and to an unknown number. A call's number is in a7 (x17), its arguments are in a0, a1 and
-- a2 (x10 to x12), and its answer goes to a0.
use Rattle.std.specs.Prelude.{ℕ, ◌-◌, ◌^◌, ◌==◌, ◌||◌, if◌then◌else◌}

pub data Call : Type 0 where
  Read : Call
  Write : Call
  Exits : Call
  Brk : Call
  Unknown : Call

abbrev pub call_of : ℕ → Call
call_of n =
    if n == 63 then Read
    else (if n == 64 then Write
    else (if (n == 93) || (n == 94) then Exits
    else (if n == 214 then Brk else Unknown)))

-- -9 (EBADF) and -38 (ENOSYS) as words
abbrev pub bad_descriptor : ℕ
bad_descriptor = 2 ^ 32 - 9

abbrev pub no_such_call : ℕ
no_such_call = 2 ^ 32 - 38
