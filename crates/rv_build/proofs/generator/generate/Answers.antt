-- The program is small.
use Rattle.std.proofs.Common.{sym, subst}
use Rattle.rv_build.specs.Parts.{AreSmall}
use Rattle.rv_build.proofs.ProgramParts.{program_is_small}
use Rattle.rv_build.proofs.generator.generate.Goals as goal

pub finish-requires : goal.finish-requires
finish-requires c = subst AreSmall (sym c.in_ok-builder.ensures) (program_is_small c.args.n)
