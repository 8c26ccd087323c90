-- The code of an executable: the aligned words of its executable sections, which are those of kind
-- PROGBITS (1) and nonzero size with the flags ALLOC (2) and EXECINSTR (4) (gABI, "Section Header").
use Rattle.std.specs.Prelude.{ℕ, ◌+◌, ◌-◌, ◌%◌, ◌==◌, List, Bool, not, ◌&&◌, find, Option, None, option_map}
use Rattle.std.specs.Prelude.{if◌then◌else◌, nat_le, nat_lt}
use Rattle.elf_spec.specs.declared.Section.{Section}
use Rattle.elf_spec.specs.Fields.{is_set, word_at}
use Rattle.elf_spec.specs.Records.{sections_of}

abbrev pub is_executable : Section → Bool
is_executable s = (s.kind == 1) && (not (s.size == 0) && (is_set 2 s.flags && is_set 4 s.flags))

-- an address is in a section's memory, and so is the whole word at it
abbrev pub holds_address : ℕ → Section → Bool
holds_address a s = nat_le s.addr a && nat_lt a (s.addr + s.size)

abbrev pub holds_word : ℕ → Section → Bool
holds_word a s = nat_le s.addr a && nat_le (a + 4) (s.addr + s.size)

-- the file offset of the code word at an address; none where the address is no code word
unfoldable pub code_place : List ℕ → ℕ → Option ℕ
code_place file a =
    if a % 4 == 0
    then option_map (λ s. s.offset + (a - s.addr)) (find (λ s. is_executable s && holds_word a s) (sections_of file))
    else None

-- the word at an address, where that is a code word
abbrev pub code_word : List ℕ → ℕ → Option ℕ
code_word file a = option_map (word_at file) (code_place file a)
