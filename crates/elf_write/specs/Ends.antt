-- Where the file parts of added segments end.
use Rattle.std.specs.Prelude.{ℕ, ◌+◌, List, [], ◌∷◌, length}
use Rattle.elf_spec.specs.declared.NewSegment.{NewSegment}
use Rattle.elf_spec.specs.NewFile.{up4096, table_end}

-- where the last of these segments ends, laid out from an end on; that end where there are none
abbrev pub contents_end : ℕ → List NewSegment → ℕ
contents_end end [] = end
contents_end end (s ∷ ss) = contents_end (up4096 end + length s.bytes) ss

-- the length of the new file
abbrev pub new_length : List ℕ → List NewSegment → ℕ
new_length old ss = contents_end (table_end old ss) ss
