-- The bit found is the lowest.
use Rattle.std.proofs.Common.{◌≡◌, true, ◌∙◌, ap, sym, option_map, arith}
use Rattle.exec_image.specs.declared.plan_fault.PlanFault.TheVariants.{PlanBit}
use Rattle.exec_image.specs.PlanFaults.{is_strange_bit, strange_mask}
use Rattle.exec_image.proofs.PlanFits.{all_bits}
use Rattle.exec_image.proofs.plan_check.check_mask.Goals as goal

pub returns-then-is_strange_bit : goal.returns-then-is_strange_bit
unfolding strange_mask
returns-then-is_strange_bit c =
    let law = c.the_first_number_that_passes_is_found.ensures in
    let hit : is_strange_bit c.args.lines.now c.args.mask c.loop-bit.bit ≡ true =
    sym c.is_strange_bit.ensures ∙ c.if-is_strange_bit.true in
    ap (option_map PlanBit) ((law.first (is_strange_bit c.args.lines.now c.args.mask) 32 c.loop-bit.bit).1
    (omega arith, hit, (law.none (is_strange_bit c.args.lines.now c.args.mask) c.loop-bit.bit).0 c.loop-bit.invariant))

pub returns : goal.returns
unfolding strange_mask
returns c =
    ap (option_map PlanBit) (all_bits c.the_first_number_that_passes_is_found.ensures.none
    (is_strange_bit c.args.lines.now c.args.mask) c.loop-bit.bit c.loop-bit.invariant (omega arith))
