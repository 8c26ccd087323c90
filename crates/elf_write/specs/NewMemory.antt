-- The memory with which a new file starts: that of the old program headers over the old bytes with the
-- patches and the new fields of the file header, the ranges of the added segments, and the stack.
use Rattle.std.specs.Prelude.{◌≡◌, ℕ, ◌+◌, ◌-◌, ◌<◌, List, [], ◌∷◌, ◌++◌, Bool, length, map, filter, replicate, All}
use Rattle.std.specs.Prelude.{Some, None, nat_lt, slice_index}
use Rattle.elf_spec.specs.declared.Patch.{Patch}
use Rattle.elf_spec.specs.declared.NewSegment.{NewSegment}
use Rattle.elf_spec.specs.Fields.{is_set, word_bytes}
use Rattle.elf_spec.specs.Memory.{is_loaded}
use Rattle.elf_spec.specs.NewFile.{front, up16}
use Rattle.elf_spec.specs.Records.{e_phnum, segments_of}
use Rattle.machine_spec.specs.Memory.{Range, range_of, shape_of, stack, memory_of, byte_of}
use Rattle.elf_write.specs.Layout.{IsKept}
use Rattle.elf_write.specs.Places.{InFile, Source, Zero, byte_in, place_at}

-- the segment takes memory
abbrev pub has_memory : NewSegment → Bool
has_memory s = nat_lt 0 s.mem_size

-- its range: its bytes, then zeros
abbrev pub range_added : NewSegment → Range
range_added s = record {
  start = s.vaddr;
  writable = is_set 2 s.flags;
  executable = is_set 1 s.flags;
  bytes = s.bytes ++ replicate (s.mem_size - length s.bytes) 0;
}

-- the added ranges and the stack
abbrev pub ranges_behind : List NewSegment → List Range
ranges_behind segments = map range_added (filter has_memory segments) ++ stack ∷ []

pub record NewMemory (file : List ℕ) (patches : List Patch) (segments : List NewSegment) (new : List ℕ) : Type 0 where
  -- the old bytes with the patches and the new fields are as many as before
  pub front_length : length (front file patches (length segments)) ≡ length file
  -- the ranges
  pub ranges : memory_of new ≡ map (range_of (front file patches (length segments)))
      (filter is_loaded (segments_of file)) ++ ranges_behind segments
  -- those of the old program headers have their places, sizes and flags as before
  pub shapes : map shape_of (memory_of new) ≡ map shape_of (map (range_of file) (filter is_loaded (segments_of file)))
      ++ map shape_of (ranges_behind segments)
  -- what the old program headers put at an address was there before, and is there now where the old
  -- byte is kept or is zero fill
  pub before : (a : ℕ) (p : Source) → place_at (segments_of file) a ≡ Some p
      → byte_of (memory_of file) a ≡ Some (byte_in file p)
  pub kept : (a i : ℕ) → place_at (segments_of file) a ≡ Some (InFile i) → IsKept (length file) patches i
      → byte_of (memory_of new) a ≡ byte_of (memory_of file) a
  pub zeros : (a : ℕ) → place_at (segments_of file) a ≡ Some Zero
      → byte_of (memory_of new) a ≡ byte_of (memory_of file) a
  -- the patched words
  pub patched : All (λ p. (a k : ℕ) → k < 4 → place_at (segments_of file) a ≡ Some (InFile (p.offset + k))
      → byte_of (memory_of new) a ≡ Some (slice_index (word_bytes p.word) k)) patches
  -- e_phoff and e_phnum, where the file header is mapped
  pub phoff : (a k : ℕ) → k < 4 → place_at (segments_of file) a ≡ Some (InFile (28 + k))
      → byte_of (memory_of new) a ≡ Some (slice_index (word_bytes (up16 (length file))) k)
  pub phnum : (a k : ℕ) → k < 2 → place_at (segments_of file) a ≡ Some (InFile (44 + k))
      → byte_of (memory_of new) a ≡ Some (slice_index (word_bytes (e_phnum file + length segments)) k)
  -- where they put nothing: the old file has the stack alone there, the new one the added ranges too
  pub beside_before : (a : ℕ) → place_at (segments_of file) a ≡ None
      → byte_of (memory_of file) a ≡ byte_of (stack ∷ []) a
  pub beside : (a : ℕ) → place_at (segments_of file) a ≡ None
      → byte_of (memory_of new) a ≡ byte_of (ranges_behind segments) a
