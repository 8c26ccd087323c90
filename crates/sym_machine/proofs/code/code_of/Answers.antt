use Rattle.std.proofs.Common.{false, map, rules, refl, ap, ◌∙◌}
use Rattle.std.proofs.lemmas.List.{length-replicate}
use Rattle.sym_machine.specs.declared.found.Found.TheVariants as found
use Rattle.sym_machine.specs.declared.found.Kept.{Kept}
use Rattle.sym_machine.specs.Found.{return_of}
use Rattle.sym_machine.proofs.Finding.{nothing_kept, all_kept}
use Rattle.sym_machine.proofs.code.code_of.Goals as goal

pub invariant_of-result : goal.invariant_of-result
invariant_of-result c =
    let nothing : Kept = record { addr = 1; is_code = false; found = found.Nothing } in
    let kept = c.in_ok-kept.ensures.items_if_clones_equal (search rules) in
    record {
      size = rw kept (length-replicate 16384 nothing);
      each = rw kept (all_kept c.args.image.now c.args.plan.now nothing 16384
          (nothing_kept c.args.image.now c.args.plan.now nothing refl refl refl));
      returns_are = c.in_ok-returns.ensures ∙ ap (map (return_of c.args.image.now)) c.as_slice.ensures;
      bits = c.requires.bits;
    }
