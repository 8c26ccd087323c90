-- The word found is the first below the image's end.
use Rattle.std.proofs.Common.{ap, option_map}
use Rattle.elf_spec.specs.Memory.{image_end}
use Rattle.elf_spec.specs.Records.{segments_of}
use Rattle.exec_image.specs.declared.refusals.FileRefusal.TheVariants.{TpUsed}
use Rattle.exec_image.specs.Checks.{uses_tp_at}
use Rattle.exec_image.specs.Refusals.{tp_used}
use Rattle.exec_image.proofs.ImageEnd.{use_below}
use Rattle.exec_image.proofs.tp.check_tp.Goals as goal

pub returns-in-Some : goal.returns-in-Some
unfolding tp_used
returns-in-Some c =
    ap (option_map TpUsed) ((c.the_first_number_that_passes_is_found.ensures.first (uses_tp_at c.args.file.now)
    (image_end (segments_of c.args.file.now)) c.in-Some.a).1 (
      use_below c.args.file.now c.args.segments.now c.args.code.now c.in-Some.a c.requires c.in-Some.ensures.found,
      c.in-Some.ensures.found,
      c.in-Some.ensures.first,
    ))

pub returns-in-None : goal.returns-in-None
unfolding tp_used
returns-in-None c =
    ap (option_map TpUsed) ((c.the_first_number_that_passes_is_found.ensures.none (uses_tp_at c.args.file.now)
    (image_end (segments_of c.args.file.now))).1 (λ b l. c.in-None.ensures.none b))
