-- Memory that is being built, one area after another.
use Rattle.std.specs.Prelude.{◌≡◌, ◌*◌, ◌/◌, List, length}
use Rattle.elf_spec.specs.declared.Segment.{Segment}
use Rattle.elf_spec.specs.Fields.{is_set}
use Rattle.machine_spec.specs.Memory.{Range}
use Rattle.flat_mem.specs.declared.area.Area.{Area}
use Rattle.flat_mem.specs.declared.loading.Building.{Building}
use Rattle.flat_mem.specs.Areas.{byte_in, ranges, IsBuilt}

-- its pages are whole, and its areas stand in them
pub record IsWhole (b : Building) : Type 0 where
  pub built : IsBuilt b.areas.items b.directory.items b.bytes.items b.rights.items
  pub pages : length b.bytes.items / 4096 * 4096 ≡ length b.bytes.items

abbrev pub memory_in : Building → List Range
memory_in b = ranges (byte_in b.directory.items b.bytes.items) b.areas.items

-- the area of a segment: its flags are X 1, W 2 and R 4
abbrev pub area_for : Segment → Area
area_for s = record {
  start = s.vaddr;
  size = s.mem_size;
  writable = is_set 2 s.flags;
  executable = is_set 1 s.flags;
}
