-- The instructions of memory, and the words of code that are kept decoded: those that no store changes.
use Rattle.std.specs.Prelude.{◌≡◌, ℕ, ◌%◌, List, Bool, true, All, length, not, Option, IfSome, option_and_then}
use Rattle.rv_isa.specs.declared.Instr.{Instr}
use Rattle.rv_isa.specs.Encoded.{NamesRegisters}
use Rattle.rv_isa.specs.Table.{decoded}
use Rattle.machine_spec.specs.Memory.{Range, range_at, all_from}
use Rattle.flat_spec.specs.Stores.{allows_store, fetched}
use Rattle.flat_mem.specs.declared.decoding.Known.{Known}

-- the instruction that the word of code at an address is
abbrev pub instr_at : List Range → ℕ → Option Instr
instr_at memory a = option_and_then decoded (fetched memory a)

-- no byte of the word at an address can be stored to
abbrev pub is_fixed : List Range → ℕ → Bool
is_fixed memory a = all_from (λ k. not (allows_store (range_at memory k))) a 4

-- what is kept is what the word at its address is, and stays so
pub record IsKnown (memory : List Range) (known : Known) : Type 0 where
  pub is : instr_at memory known.addr ≡ known.instr
  pub fixed : known.addr % 4 ≡ 0 → is_fixed memory known.addr ≡ true
  pub registers : IfSome known.instr NamesRegisters

pub record IsTable (memory : List Range) (table : List Known) : Type 0 where
  pub long : length table ≡ 16384
  pub known : All (IsKnown memory) table
