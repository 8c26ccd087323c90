use Rattle.std.proofs.Common.{arith}
use Rattle.selectors.proofs.Masks.{mask_fits}
use Rattle.selectors.proofs.making.mask.Goals as goal

pub overflow_mul-mask : goal.overflow_mul-mask
overflow_mul-mask c =
    omega (
      arith,
      mask_fits c.args.sites.now c.args.set.now c.loop-i.i c.loop-i.mask c.requires c.loop-i-test.true
          c.loop-i.invariant,
    )

pub overflow_add-mask : goal.overflow_add-mask
overflow_add-mask c =
    let fits = mask_fits c.args.sites.now c.args.set.now c.loop-i.i c.loop-i.mask c.requires c.loop-i-test.true
    c.loop-i.invariant in
    grind (arith, fits)
