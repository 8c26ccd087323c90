-- Four functions are added one after the other.
use Rattle.rv_build.proofs.ProgramParts.{four_symbols}
use Rattle.rv_build.proofs.generator.push_functions.Goals as goal

pub returns : goal.returns
returns c =
    rw (c.in_ok-symbol-4.ensures.ok, c.in_ok-symbol-3.ensures.ok, c.in_ok-symbol-2.ensures.ok)
    (rw c.in_ok-symbol.ensures.ok (four_symbols c.args.builder.now _ _ _ _))
