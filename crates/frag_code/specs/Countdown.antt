-- A fragment that counts down from 5, and a machine that is about to run its code.
use Rattle.std.specs.Prelude.{ℕ, List, [], ◌∷◌, true, false, flat_map}
use Rattle.rv_isa.specs.declared.Op.TheVariants.{Add}
use Rattle.rv_isa.specs.declared.Cond.TheVariants.{Ne}
use Rattle.machine_spec.specs.declared.Ending.TheVariants.{Running}
use Rattle.machine_spec.specs.Widths.{low_bytes}
use Rattle.machine_spec.specs.Start.{start_registers}
use Rattle.flat_spec.specs.Runs.{State}
use Rattle.frag_code.specs.Fragments.{Fragment, Set, Compute, Seq, While}

-- a0 becomes 5, a1 becomes -1, and as long as a0 isn't 0 it becomes a0 + a1
abbrev pub countdown : Fragment
countdown = Seq (Set 10 5) (Seq (Set 11 0xffffffff) (While Ne 10 0 (Compute Add 10 10 11)))

-- lui a0, 0; addi a0, a0, 5; lui a1, 0; addi a1, a1, -1; bne a0, x0, +8; jal x0, +12; add a0, a0, a1;
-- jal x0, -12
abbrev pub countdown_words : List ℕ
countdown_words =
    0x00000537 ∷ 0x00550513 ∷ 0x000005b7 ∷ 0xfff58593 ∷ 0x00051463 ∷ 0x00c0006f ∷ 0x00b50533 ∷ 0xff5ff06f ∷ []

abbrev pub countdown_start : State
countdown_start = record {
  machine = record {
    memory = record {
      start = 0x10000;
      writable = false;
      executable = true;
      bytes =
          flat_map (low_bytes 4) countdown_words;
    } ∷ [];
    registers = start_registers;
    pc = 0x10000;
    ending = Running;
  };
  input = [];
  output = [];
}
