use Rattle.std.proofs.Common.{sym, ◌∙◌}
use Rattle.machine_spec.proofs.AllFrom.{and_second}
use Rattle.flat_mem.proofs.memory.FlatMem.decode_anew.Goals as goal

pub keep-requires : goal.keep-requires
keep-requires c = record {
  is = sym c.decode_at-instr.ensures.is;
  fixed = λ aligned. rw (← c.self.view_is) (and_second _ _ (sym c.is_fixed.ensures ∙ c.if-is_fixed.true));
  registers = c.decode_at-instr.ensures.registers;
}
