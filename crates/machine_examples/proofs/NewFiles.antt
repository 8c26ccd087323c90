-- The new files of the two programs.
use Rattle.std.proofs.Common.{◌≡◌, refl}
use Rattle.std.specs.Prelude.{⊤, []}
use Rattle.rv_isa.specs.Table.{table, read_by, decoded}
use Rattle.rv_isa.specs.Encoded.{encoded}
use Rattle.elf_spec.specs.Fields.{half_at, word_at, word_bytes}
use Rattle.elf_spec.specs.Records.{segment_at, section_at, reloc_at}
use Rattle.elf_spec.specs.Tables.{symbol_at}
use Rattle.elf_spec.specs.Code.{code_place}
use Rattle.elf_spec.specs.Heap.{heap_entries}
use Rattle.elf_spec.specs.NewFile.{new_file, front, put_half, put_word, header_bytes}
use Rattle.site_spec.specs.Sites.{call_at, site_at}
use Rattle.heap_spec.specs.Service.{Entries}
use Rattle.new_file_spec.specs.Rewritten.{rewritten}
use Rattle.machine_examples.proofs.Files.{p2, new_p2, p3, new_p3}
use Rattle.machine_examples.proofs.Setup.{empty_plan, plan_p3}

-- what a proof unfolds to compute the sites of a file that is written out
unfoldable pub sites_opened : ⊤
unfolding table read_by decoded half_at word_at segment_at section_at reloc_at symbol_at code_place heap_entries call_at
    site_at
sites_opened = tt

-- and its new file
unfoldable pub new_file_opened : ⊤
unfolding sites_opened rewritten new_file front put_half put_word header_bytes word_bytes encoded
new_file_opened = tt

-- the entries of the heap's words, which neither program has
abbrev no_entries : Entries
no_entries = record {
  malloc = 0;
  calloc = 0;
  realloc = 0;
  free = 0;
  malloc_r = 0;
  calloc_r = 0;
  realloc_r = 0;
  free_r = 0;
}

-- the plan without sites adds the table and the mark
pub new_file_of_p2 : rewritten p2 empty_plan [] no_entries ≡ new_p2
unfolding new_file_opened
new_file_of_p2 = refl

-- the site's call becomes a jump to its stub
pub new_file_of_p3 : rewritten p3 plan_p3 [] no_entries ≡ new_p3
unfolding new_file_opened
new_file_of_p3 = refl
