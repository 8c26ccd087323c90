use Rattle.std.proofs.Common.{◌≡◌, ◌≤◌, ◌+◌, ◌-◌, ◌∙◌, sym, arith, false, true}
use Rattle.machine_spec.specs.Memory.{all_from, range_at}
use Rattle.machine_spec.specs.Widths.{size_of}
use Rattle.flat_mem.specs.Areas.{allows}
use Rattle.flat_mem.proofs.Readings.{none_behind, some_left}
use Rattle.flat_mem.proofs.storage.Storage.allows_all.Goals as goal

pub returns-in_default : goal.returns-in_default
returns-in_default c =
    let none : all_from (λ k. allows c.args.access (range_at c.args.self.now k)) (c.args.addr + c.loop-done.done)
    (c.args.len - c.loop-done.done) ≡ false =
    rw (← c.self.view_is) (none_behind c.self.inside.areas.items c.self.inside.directory.items
    c.self.inside.bytes.items c.self.inside.rights.items c.args.access (c.args.addr + c.loop-done.done)
    (c.args.len - c.loop-done.done) c.self.invariant (omega (arith, c.in_default.ensures)) (omega arith)) in
    sym (c.loop-done.invariant.rest ∙ none)

pub returns-then-not-allows : goal.returns-then-not-allows
returns-then-not-allows c =
    let fits : c.loop-done.done + size_of c.width_at-width.result ≤ c.args.len =
    omega (arith, c.width_at-width.ensures.fits, c.loop-done-test.true) in
    sym (c.loop-done.invariant.rest
    ∙ some_left (λ k. allows c.args.access (range_at c.args.self.now k)) c.args.addr c.in-Some.at c.loop-done.done
    (size_of c.width_at-width.result) c.args.len false fits c.in-Some.ensures.1 (sym c.if-not-allows.ensures))

pub loop-done-preserved : goal.loop-done-preserved
loop-done-preserved c =
    let fits : c.loop-done.done + size_of c.width_at-width.result ≤ c.args.len =
    omega (arith, c.width_at-width.ensures.fits, c.loop-done-test.true) in
    rw c.size_of-done.ensures (record {
      inside = fits;
      rest = c.loop-done.invariant.rest
          ∙ some_left (λ k. allows c.args.access (range_at c.args.self.now k)) c.args.addr c.in-Some.at
          c.loop-done.done (size_of c.width_at-width.result) c.args.len true fits c.in-Some.ensures.1
          (sym c.if-not-allows.ensures);
    })
