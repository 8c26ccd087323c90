-- The summary of an accepted executable: its entry, its executable sections in order of index, its heap
-- functions, and the sites of its calls by address.
use Rattle.std.specs.Prelude.{◌≡◌, ℕ, List, [], ◌++◌, codes, decimal, flat_map, if◌then◌else◌, Option, Some, None}
use Rattle.text_fields.specs.Writing.{hex8}
use Rattle.elf_spec.specs.declared.HeapName.{HeapName}
use Rattle.elf_spec.specs.Heap.{heap_entry, heap_name, heap_names}
use Rattle.elf_spec.specs.Records.{e_entry}
use Rattle.site_spec.specs.declared.Site.{Site}
use Rattle.exec_image.specs.declared.execs.Exec.{Exec}
use Rattle.exec_image.specs.Images.{AreSites, execs_of}

unfoldable pub entry_line : ℕ → List ℕ
entry_line addr = codes "entry " ++ hex8 addr ++ codes "\n"

unfoldable pub exec_line : Exec → List ℕ
exec_line e = codes "exec " ++ decimal e.index ++ codes " " ++ hex8 e.addr ++ codes " " ++ hex8 e.size ++ codes "\n"

-- a heap function, where the executable has it
unfoldable pub heap_line : HeapName → Option ℕ → List ℕ
heap_line name (Some addr) = codes "heap " ++ heap_name name ++ codes " " ++ hex8 addr ++ codes "\n"
heap_line name None = []

abbrev pub heap_lines : List ℕ → List ℕ
heap_lines file = flat_map (λ name. heap_line name (heap_entry file name)) heap_names

unfoldable pub site_line : Site → List ℕ
site_line s =
    codes "site " ++ (if s.pair then codes "pair" else codes "jal") ++ codes " " ++ hex8 s.addr ++ codes " "
    ++ hex8 s.target
    ++ (if s.near then codes " near\n" else codes " far\n")

-- the summary, for the sites of the file in ascending order
abbrev pub summary_of : List ℕ → List Site → List ℕ
summary_of file sites =
    entry_line (e_entry file) ++ flat_map exec_line (execs_of file) ++ heap_lines file ++ flat_map site_line sites
    ++ codes "end\n"

abbrev pub IsSummary : List ℕ → List ℕ → Type 0
IsSummary file text = (sites : List Site) × AreSites file sites × (text ≡ summary_of file sites)
