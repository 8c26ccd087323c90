-- Where the new text of a rewritten file and the heap's tables stand, and what a jump reaches.
use Rattle.std.specs.Prelude.{ℕ, ◌+◌, ◌-◌, ◌*◌, ◌%◌, ◌^◌, List, Bool, ◌&&◌, max, nat_le}
use Rattle.elf_spec.specs.Records.{segments_of}
use Rattle.elf_spec.specs.Memory.{image_end}
use Rattle.elf_spec.specs.NewFile.{up4096}

-- the new text stands at the first multiple of 4096 that is past the image and at least 65536
abbrev pub text_at : List ℕ → ℕ
text_at file = up4096 (max 65536 (image_end (segments_of file)))

-- the room of the new text, up to where the heap's tables stand
abbrev pub text_room : ℕ
text_room = 0x5000

abbrev pub data_at : List ℕ → ℕ
data_at file = text_at file + text_room

-- the place of stub k in a new text: behind the mark of 16 bytes, 44 bytes each
abbrev pub stub_at : ℕ → ℕ → ℕ
stub_at text k = text + 16 + 44 * k

-- a JAL at an address reaches a target: the distance is from -1048576 to 1048574 (RISC-V
-- unprivileged manual, "Unconditional Jumps")
abbrev pub reaches : ℕ → ℕ → Bool
reaches from target = nat_le from (target + 1048576) && nat_le target (from + 1048574)
