-- The way back from a heap function.
use Rattle.std.specs.Prelude.{ℕ, List, Bool, true, false, is_some}
use Rattle.elf_spec.specs.Code.{code_word}
use Rattle.sym_value.specs.declared.Value.{Value}
use Rattle.sym_value.specs.declared.Value.TheVariants.{Num, Ret}

-- control can go where the value says: to a return address, or to the code word that it holds as a number
abbrev pub is_way_back : List ℕ → Value → Bool
is_way_back file (Ret back) = true
is_way_back file (Num a) = is_some (code_word file a)
is_way_back file v = false
