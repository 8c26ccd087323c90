-- What the old file, a patch and an added segment must be for the new file to be made.
use Rattle.std.specs.Prelude.{ℕ, ◌+◌, ◌*◌, ◌<◌, ◌≤◌, List, length}
use Rattle.elf_spec.specs.declared.Patch.{Patch}
use Rattle.elf_spec.specs.declared.NewSegment.{NewSegment}
use Rattle.elf_spec.specs.Records.{e_phnum, e_phoff}

-- the patched word lies in a file of n bytes
abbrev pub IsInside : ℕ → Patch → Type 0
IsInside n p = p.offset + 4 ≤ n

-- the segment has at most 64 KiB in the file
abbrev pub IsSmall : NewSegment → Type 0
IsSmall s = length s.bytes ≤ 65536

-- the program header table, where it has entries, lies in the file
abbrev pub HasTable : List ℕ → Type 0
HasTable file = 0 < e_phnum file → e_phoff file + 32 * e_phnum file ≤ length file
