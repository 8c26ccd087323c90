use Rattle.std.proofs.Common.{◌≡◌, ◌+◌, ap}
use Rattle.sym_value.specs.declared.Value.TheVariants.{Num, Ptr}
use Rattle.sym_spec.specs.Plain.{is_plain}
use Rattle.sym_machine.proofs.Reaching.{number_low, pointer_low, block_there}
use Rattle.sym_machine.proofs.reached.ImageMemory.place.Goals as goal

pub capacity-capacity-requires : goal.capacity-capacity-requires
capacity-capacity-requires c =
    let m : c.self.inside.held.memory ≡ c.args.self.now.memory = ap (λ s. s.memory) c.self.view_is in
    rw (c.live.ensures, m) (block_there (is_plain c.args.self.now.file) c.args.self.now.memory c.self.inside.held.end
    c.in-Ptr.block c.in-Ptr.offset (c.args.i + 1) (rw (← c.in-Ptr.is) c.requires))

pub returns-in-Num-clause-place : goal.returns-in-Num-clause-place
returns-in-Num-clause-place c =
    let f : c.self.inside.image.now ≡ c.args.self.now.file = ap (λ s. s.file) c.self.view_is in
    rw c.in-Num.is (ap Num (number_low c.args.self.now.file c.args.self.now.memory c.in-Num.addr c.args.i
    (rw (← f) c.elf-elf.ensures.facts) (rw (← c.in-Num.is) c.requires)))

pub returns-in-Ptr-clause-place : goal.returns-in-Ptr-clause-place
returns-in-Ptr-clause-place c =
    let small = rw (c.capacity-capacity.ensures, c.live.ensures) at c.capacity-capacity.type_inv in
    let m : c.self.inside.held.memory ≡ c.args.self.now.memory = ap (λ s. s.memory) c.self.view_is in
    rw c.in-Ptr.is (ap (Ptr c.in-Ptr.block) (pointer_low (is_plain c.args.self.now.file) c.args.self.now.memory
    c.self.inside.held.end c.in-Ptr.block c.in-Ptr.offset c.args.i (rw (← c.in-Ptr.is) c.requires) (rw m at small)))
