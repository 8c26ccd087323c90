-- The new file of the program with heap functions: what stands at their entries, where the heap's words stand,
-- the segment of the tables, and the whole.
use Rattle.std.proofs.Common.{◌≡◌, refl}
use Rattle.std.specs.Prelude.{ℕ, ⊤, List, [], ◌∷◌, ◌++◌, drop, replicate}
use Rattle.heap_spec.specs.Service.{Entries}
use Rattle.heap_spec.specs.Tables.{first_words}
use Rattle.new_file_spec.specs.Rewritten.{heap_jump, heap_patches, heap_text, data_segment, rewritten}
use Rattle.machine_examples.proofs.Files.{new_p2_text}
use Rattle.machine_examples.proofs.Setup.{empty_area}
use Rattle.machine_examples.proofs.NewFiles.{new_file_opened}
use Rattle.machine_examples.proofs.HeapFiles.{heap_file, new_heap_stub, new_heap_words, new_heap_tables, new_heap_file}
use Rattle.machine_examples.proofs.HeapSetup.{heap_plan, no_site_plan}

unfoldable heap_file_opened : ⊤
unfolding new_file_opened first_words
heap_file_opened = tt

-- four words of the heap, and an entry at each
abbrev words : List ℕ
words = 0x13 ∷ 0x8067 ∷ 0x13 ∷ 0x8067 ∷ []

abbrev entries : Entries
entries = record {
  malloc = 0x11604;
  calloc = 0x11600;
  realloc = 0x1160C;
  free = 0x11608;
  malloc_r = 0;
  calloc_r = 0;
  realloc_r = 0;
  free_r = 0;
}

-- auipc t0, 0x1 and jalr x0, 0x4ec(t0); the lower part may be below 0: auipc t0, 0x2 and jalr x0, -16(t0)
pub jump_forth : heap_jump 0x11604 0x10118 ≡ 0x00001297 ∷ 0x4EC28067 ∷ []
unfolding heap_file_opened
jump_forth = refl

pub jump_rounded_up : heap_jump 0x12108 0x10118 ≡ 0x00002297 ∷ 0xFF028067 ∷ []
unfolding heap_file_opened
jump_rounded_up = refl

-- both words of each function are patched, where they stand in the file
pub functions_are_patched : heap_patches heap_file entries
    ≡ record { offset = 0x118; word = 0x00001297 } ∷ record { offset = 0x11C; word = 0x4EC28067 }
    ∷ record { offset = 0x120; word = 0x00001297 } ∷ record { offset = 0x124; word = 0x4E028067 }
    ∷ record { offset = 0x128; word = 0x00001297 } ∷ record { offset = 0x12C; word = 0x4E428067 }
    ∷ record { offset = 0x130; word = 0x00001297 } ∷ record { offset = 0x134; word = 0x4D828067 } ∷ []
unfolding heap_file_opened
functions_are_patched = refl

-- the words stand at 0x600 of the text, behind zeros, with a stub and without
pub words_at_0x600 : drop 0x600 (heap_text heap_file heap_plan words) ≡ new_heap_words
unfolding heap_file_opened
words_at_0x600 = refl

pub text_with_a_stub : heap_text heap_file heap_plan words ≡ new_heap_stub ++ (replicate 1476 0 ++ new_heap_words)
unfolding heap_file_opened
text_with_a_stub = refl

pub text_without_stubs : heap_text heap_file no_site_plan words
    ≡ new_p2_text ++ (replicate 1520 0 ++ new_heap_words)
unfolding heap_file_opened
text_without_stubs = refl

-- the segment of the tables has flags R and W, and memory up to the end of the area: with chunks and a fallback,
-- without a fallback, with a fallback alone, and without both
pub chunk_and_fallback : data_segment (record { chunks = 1; log_chunk = 2; fallback = 4 }) 0x16000
    ≡ record { vaddr = 0x16000; flags = 6; mem_size = 0x150; bytes = new_heap_tables }
unfolding heap_file_opened
chunk_and_fallback = refl

pub chunk_alone : data_segment (record { chunks = 1; log_chunk = 0; fallback = 0 }) 0x16000
    ≡ record {
      vaddr = 0x16000;
      flags = 6;
      mem_size = 0xB0;
      bytes = replicate 4 255 ++ (replicate 60 0 ++ (replicate 64 255 ++ (replicate 4 255 ++ replicate 12 0)));
    }
unfolding heap_file_opened
chunk_alone = refl

pub fallback_alone : data_segment (record { chunks = 0; log_chunk = 0; fallback = 1 }) 0x16000
    ≡ record {
      vaddr = 0x16000;
      flags = 6;
      mem_size = 0xA0;
      bytes = replicate 64 0 ++ (replicate 64 255 ++ (1 ∷ 0 ∷ 0 ∷ 0 ∷ replicate 4 255));
    }
unfolding heap_file_opened
fallback_alone = refl

pub no_granule : data_segment empty_area 0x16000
    ≡ record {
      vaddr = 0x16000;
      flags = 6;
      mem_size = 0x80;
      bytes = replicate 4 255 ++ (replicate 60 0 ++ replicate 64 255);
    }
unfolding heap_file_opened
no_granule = refl

-- the whole file, byte for byte
pub new_file_with_heap : rewritten heap_file heap_plan words entries ≡ new_heap_file
unfolding heap_file_opened
new_file_with_heap = refl
