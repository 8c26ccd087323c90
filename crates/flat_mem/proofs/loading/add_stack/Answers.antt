use Rattle.std.proofs.Common.{◌≡◌, ◌++◌, ◌∷◌, [], refl, subst}
use Rattle.std.specs.Prelude.{OnOk}
use Rattle.machine_spec.specs.Memory.{Range}
use Rattle.flat_mem.specs.Building.{memory_in}
use Rattle.flat_mem.proofs.Stack.{stack_is}
use Rattle.flat_mem.proofs.loading.add_stack.Goals as goal

pub returns-clause-ranges : goal.returns-clause-ranges
returns-clause-ranges c =
    subst (λ (r : Range). OnOk c.add.result (memory_in c.add.new.memory ≡ memory_in c.args.memory.now ++ r ∷ []))
    (stack_is c.stack_size.result [] c.stack_size.ensures.is refl) c.add.ensures.ranges
