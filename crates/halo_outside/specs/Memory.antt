-- What contracts see of the files, the source and the sink in memory: which of their calls fail.
use Rattle.std.specs.Prelude.{ℕ, ◌≤◌, List, length, Contains}
use Rattle.halo_outside.specs.Seen.{Contents, count_after}

-- the numbers of the calls that fail, and the number of the next call, from 0
pub record Calls : Type 0 where
  pub failing : List ℕ
  pub next : ℕ

-- no call was made yet
abbrev pub first_call : List ℕ → Calls
first_call failing = record { failing = failing; next = 0 }

-- the call that begins is one of those that fail
abbrev pub FailsNow : Calls → Type 0
FailsNow calls = Contains calls.failing calls.next

-- the next call has the next number
abbrev pub after_call : Calls → Calls
after_call calls = record { failing = calls.failing; next = count_after calls.next 1 }

-- the files in memory
pub record FilesInMemory : Type 0 where
  pub files : Contents
  pub calls : Calls
  pub faults : ℕ
  pub taken : ℕ

-- the source in memory: the bytes left, and the most bytes per call
pub record SourceInMemory : Type 0 where
  pub left : List ℕ
  pub most : ℕ
  pub calls : Calls
  pub faults : ℕ
  pub taken : ℕ

-- the sink in memory: the bytes written, how many it has room for, and the most bytes per call
pub record SinkInMemory : Type 0 where
  pub written : List ℕ
  pub room : ℕ
  pub most : ℕ
  pub calls : Calls
  pub faults : ℕ

-- the sink has no room left
abbrev pub IsFull : SinkInMemory → Type 0
IsFull sink = sink.room ≤ length sink.written
