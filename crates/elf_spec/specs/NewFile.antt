-- A file with patched words and added segments: the old bytes with the patches, then the program
-- header table in its new place at a multiple of 16, then the file part of each added segment at the
-- next multiple of 4096. Gaps are zero.
use Rattle.std.specs.Prelude.{ℕ, ◌+◌, ◌-◌, ◌*◌, ◌/◌, ◌%◌, List, [], ◌∷◌, ◌++◌, drop, take, length, replicate, slice_set}
use Rattle.elf_spec.specs.declared.Patch.{Patch}
use Rattle.elf_spec.specs.declared.NewSegment.{NewSegment}
use Rattle.elf_spec.specs.Fields.{word_bytes}
use Rattle.elf_spec.specs.Records.{e_phnum, e_phoff}

-- the file with the two bytes, or the four, of a number at an offset
unfoldable pub put_half : ℕ → ℕ → List ℕ → List ℕ
put_half at n file = slice_set (slice_set file at (n % 256)) (at + 1) (n / 256)

unfoldable pub put_word : ℕ → ℕ → List ℕ → List ℕ
put_word at n file =
    slice_set (slice_set (slice_set (slice_set file at (n % 256)) (at + 1) (n / 256 % 256)) (at + 2) (n / 65536 % 256))
    (at + 3) (n / 16777216)

abbrev pub patched : List Patch → List ℕ → List ℕ
patched [] file = file
patched (p ∷ ps) file = patched ps (put_word p.offset p.word file)

-- the next multiple of 16, and of 4096
abbrev pub up16 : ℕ → ℕ
up16 n = (n + 15) / 16 * 16

abbrev pub up4096 : ℕ → ℕ
up4096 n = (n + 4095) / 4096 * 4096

-- the old bytes with the patches and with the table's new place and count in the file header
unfoldable pub front : List ℕ → List Patch → ℕ → List ℕ
front old ps more = put_half 44 (e_phnum old + more) (put_word 28 (up16 (length old)) (patched ps old))

-- the program header of an added segment whose file part begins at an offset (gABI, "Program
-- Header": kind PT_LOAD, both addresses equal, alignment 4096)
unfoldable pub header_bytes : ℕ → NewSegment → List ℕ
header_bytes offset s =
    word_bytes 1 ++ word_bytes offset ++ word_bytes s.vaddr ++ word_bytes s.vaddr ++ word_bytes (length s.bytes)
    ++ word_bytes s.mem_size ++ word_bytes s.flags ++ word_bytes 4096

-- the headers of segments that are laid out from an end on, and their file parts
abbrev pub new_headers : ℕ → List NewSegment → List ℕ
new_headers end [] = []
new_headers end (s ∷ ss) = header_bytes (up4096 end) s ++ new_headers (up4096 end + length s.bytes) ss

abbrev pub contents : ℕ → List NewSegment → List ℕ
contents end [] = []
contents end (s ∷ ss) = (replicate (up4096 end - end) 0 ++ s.bytes) ++ contents (up4096 end + length s.bytes) ss

-- where the new program header table ends
abbrev pub table_end : List ℕ → List NewSegment → ℕ
table_end old ss = up16 (length old) + 32 * (e_phnum old + length ss)

unfoldable pub new_file : List ℕ → List Patch → List NewSegment → List ℕ
new_file old ps ss =
    (((front old ps (length ss) ++ replicate (up16 (length old) - length old) 0)
    ++ take (32 * e_phnum old) (drop (e_phoff old) old))
    ++ new_headers (table_end old ss) ss) ++ contents (table_end old ss) ss
