-- Memory so far.
use Rattle.std.proofs.Common.{◌≡◌, ◌+◌, ◌≤◌, ◌*◌, filter, length, map, sum_by, take}
use Rattle.machine_spec.specs.Memory.{range_of}
use Rattle.elf_spec.specs.Memory.{is_loaded}
use Rattle.elf_read.specs.Checks.{load_size}
use Rattle.flat_mem.specs.Building.{area_for, memory_in, IsWhole}
use Rattle.flat_mem.proofs.loading.load.Given as goal

abbrev pub invariant-loop-segment : goal.invariant-loop-segment
invariant-loop-segment l = record {
  whole : IsWhole l.memory;
  areas : l.memory.areas.items ≡ map area_for (filter is_loaded (take l.segment-index l.segments));
  long : length l.memory.bytes.items
      ≤ 4096 + sum_by load_size (take l.segment-index l.segments) + 8192 * l.segment-index;
  ranges : memory_in l.memory ≡ map (range_of l.file) (filter is_loaded (take l.segment-index l.segments));
}
