use Rattle.std.proofs.Common.{◌≡◌, take, map}
use Rattle.rv_isa.specs.Encoded.{encoded}
use Rattle.rv_build.specs.Parts.{with_code}
use Rattle.rv_build.proofs.generator.push_code.Given as goal

-- the words of the instructions so far have been added
abbrev pub invariant-loop-instr : goal.invariant-loop-instr
invariant-loop-instr l = l.builder ≡ with_code l.fn.builder (map encoded (take l.instr-index l.code))
