-- Where there is no site, no heap function and no code word.
use Rattle.std.proofs.Common.{◌≡◌, ◌↔◌, ◌+◌, ◌%◌, ◌-◌, ◌==◌, ◌&&◌, ℕ, Bool, true, false, cond, List, find, Option, Some}
use Rattle.std.proofs.Common.{None, option_map, refl, arith}
use Rattle.std.specs.List.{All}
use Rattle.std.proofs.lemmas.Bool.Decides.{nat_tests}
use Rattle.elf_spec.specs.declared.HeapName.{HeapName}
use Rattle.elf_spec.specs.Code.{code_place, code_word, holds_word, is_executable}
use Rattle.elf_spec.specs.Fields.{word_at}
use Rattle.elf_spec.specs.Heap.{heap_entry, is_heap_symbol}
use Rattle.elf_spec.specs.Records.{sections_of}
use Rattle.elf_spec.specs.Tables.{symbols_of}
use Rattle.site_spec.specs.declared.Site.{Site}
use Rattle.site_spec.specs.Sites.{call_at, code_at, is_call_of_code, kept_site, site_at}
use Rattle.exec_image.proofs.Finding.{mapped_none, nothing_found, nothing_passes}

kept_none : (file : List ℕ) (o : Option Site)
    → (kept_site file o ≡ None) ↔ ((s : Site) → o ≡ Some s → is_call_of_code file s ≡ false)
kept_none file None = (λ h s e. absurd (cc), λ h. refl)
kept_none file (Some s) = decide (is_call_of_code file s) refl
  where
    decide : (b : Bool) → is_call_of_code file s ≡ b
        → (cond b (Some s) None ≡ None) ↔ ((t : Site) → Some s ≡ Some t → is_call_of_code file t ≡ false)
    decide true e = (λ h. absurd (cc), λ h. absurd (let q : is_call_of_code file s ≡ false = h s refl in cc))
    decide false e = (λ h t q. (let r : s ≡ t = cc in rw (← r) e), λ h. refl)

pub site_none : (file : List ℕ) (a : ℕ) → (site_at file a ≡ None)
    ↔ ((s : Site) → call_at file a (code_at file a) (code_at file (a + 4)) ≡ Some s → is_call_of_code file s ≡ false)
unfolding site_at
site_none file a = kept_none file (call_at file a (code_at file a) (code_at file (a + 4)))

pub heap_none : (file : List ℕ) (name : HeapName)
    → (heap_entry file name ≡ None) ↔ All (λ s. is_heap_symbol file name s ≡ false) (symbols_of file)
heap_none file name = (
  λ h. nothing_passes (is_heap_symbol file name) (symbols_of file)
      (mapped_none (λ s. s.value) (find (is_heap_symbol file name) (symbols_of file)) h),
  λ h. rw (nothing_found (is_heap_symbol file name) (symbols_of file) h) refl,
)

pub code_none : (file : List ℕ) (a : ℕ) → (code_word file a ≡ None)
    ↔ (a % 4 ≡ 0 → All (λ s. (is_executable s && holds_word a s) ≡ false) (sections_of file))
unfolding code_place
code_none file a = decide (a % 4 == 0) refl
  where
    decide : (b : Bool) → (a % 4 == 0) ≡ b
        → (option_map (word_at file) (cond b
        (option_map (λ s. s.offset + (a - s.addr))
        (find (λ s. is_executable s && holds_word a s) (sections_of file))) None) ≡ None)
        ↔ (a % 4 ≡ 0 → All (λ s. (is_executable s && holds_word a s) ≡ false) (sections_of file))
    decide true e = (
      λ h z. nothing_passes (λ s. is_executable s && holds_word a s) (sections_of file)
          (mapped_none (λ s. s.offset + (a - s.addr)) _ (mapped_none (word_at file) _ h)),
      λ h. rw (nothing_found (λ s. is_executable s && holds_word a s) (sections_of file) (h (grind (arith, nat_tests))))
          refl,
    )
    decide false e = (λ h z. absurd (grind (arith, nat_tests)), λ h. refl)
