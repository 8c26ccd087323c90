use Rattle.std.proofs.Common.{◌≡◌, ◌+◌, true, drop, length}
use Rattle.sym_cells.specs.Buffers.{is_within, stored_each}
use Rattle.sym_spec.specs.Plain.{is_plain_store}
use Rattle.sym_machine.specs.Reached.{behind_by}
use Rattle.sym_machine.proofs.reached.ImageMemory.fill.Given as goal

abbrev pub invariant-loop-i : goal.invariant-loop-i
invariant-loop-i l =
    (l.self.file ≡ l.fn.self.file) × (l.self.plan ≡ l.fn.self.plan) × (l.self.layout ≡ l.fn.self.layout)
    × (l.self.at ≡ l.fn.self.at)
    × (is_within (is_plain_store l.fn.self.file) l.self.memory (l.from + length l.bytes) l.at ≡ true)
    × (stored_each (is_plain_store l.fn.self.file) (drop l.i l.bytes) (behind_by (l.from + l.i) l.at) l.self.memory
    ≡ stored_each (is_plain_store l.fn.self.file) l.bytes (behind_by l.from l.at) l.fn.self.memory)
