-- What an accepted file has passed.
use Rattle.std.proofs.Common.{◌≡◌, ℕ, ◌+◌, ◌≤◌, ◌||◌, Bool, true, false, List, [], ◌∷◌, max, nat_lt, refl, arith}
use Rattle.std.proofs.Common.{Option, Some, None, option_map}
use Rattle.std.specs.List.{filter, fold, list_any}
use Rattle.std.proofs.lemmas.Bool.Decides.{nat_tests}
use Rattle.elf_spec.specs.declared.Segment.{Segment}
use Rattle.elf_spec.specs.Memory.{image_end, is_loaded}
use Rattle.elf_spec.specs.Records.{e_phnum, sections_of, segments_of}
use Rattle.elf_read.specs.Refusals.{memory_size, refusal}
use Rattle.first_check.specs.First.{◌or_else◌, when}
use Rattle.reloc_table.specs.Refusals.{reloc_refusal}
use Rattle.exec_image.specs.declared.refusals.FileRefusal.{FileRefusal}
use Rattle.exec_image.specs.declared.refusals.FileRefusal.TheVariants.{Elf, Relocs, ImageTooLarge}
use Rattle.exec_image.specs.declared.refusals.ImagePart.TheVariants.{Headers, Bytes, End}
use Rattle.exec_image.specs.Checks.{ends_above}
use Rattle.exec_image.specs.Images.{IsAccepted}
use Rattle.exec_image.specs.Refusals.{already_rewritten, entry_out, exec_not_words, exec_outside, heap_entry_small}
use Rattle.exec_image.specs.Refusals.{heap_entry_twice, image_refusal, image_too_large, rest_refusal, tp_used}

-- neither of two checks refuses
pub none_both : {A : Type 0} (p q : Option A) → (p or_else q) ≡ None → (p ≡ None) × (q ≡ None)
none_both None q h = (refl, h)
none_both (Some why) q h = absurd (cc)

pub not_when : {A : Type 0} (b : Bool) (why : A) → when b why ≡ None → b ≡ false
not_when true why h = absurd (cc)
not_when false why h = refl

pub no_inner : {A : Type 0} (f : A → FileRefusal) (o : Option A) → option_map f o ≡ None → o ≡ None
no_inner f None h = refl
no_inner f (Some why) h = absurd (cc)

pub record Passed (file : List ℕ) : Type 0 where
  pub headers : refusal file ≡ None
  pub relocs : reloc_refusal file ≡ None
  pub words : exec_not_words (sections_of file) ≡ None
  pub inside : exec_outside file ≡ None
  pub entry : entry_out file ≡ None
  pub once : heap_entry_twice file ≡ None
  pub large : heap_entry_small file ≡ None
  pub unmarked : already_rewritten file ≡ None
  pub room : image_too_large file ≡ None
  pub no_tp : tp_used file ≡ None

pub passed : (file : List ℕ) → IsAccepted file → Passed file
passed file h =
    let (a, h1) = none_both (option_map Elf (refusal file))
    (option_map Relocs (reloc_refusal file) or_else image_refusal file) h in
    let (b, h2) = none_both (option_map Relocs (reloc_refusal file)) (image_refusal file) h1 in
    let (c, h3) = none_both (exec_not_words (sections_of file)) (exec_outside file or_else rest_refusal file) h2 in
    let (d, h4) = none_both (exec_outside file) (rest_refusal file) h3 in
    let (e, h5) = none_both (entry_out file) _ h4 in
    let (f, h6) = none_both (heap_entry_twice file) _ h5 in
    let (g, h7) = none_both (heap_entry_small file) _ h6 in
    let (i, h8) = none_both (already_rewritten file) _ h7 in
    let (j, k) = none_both (image_too_large file) (tp_used file) h8 in
    record {
      headers = no_inner Elf (refusal file) a;
      relocs = no_inner Relocs (reloc_refusal file) b;
      words = c;
      inside = d;
      entry = e;
      once = f;
      large = g;
      unmarked = i;
      room = j;
      no_tp = k;
    }

pub both_false : (b c : Bool) → (b || c) ≡ false → (b ≡ false) × (c ≡ false)
both_false false false h = (refl, refl)
both_false false true h = absurd (cc)
both_false true c h = absurd (cc)

-- where no segment ends above a limit, the image ends at or below it
end_within : (limit e : ℕ) (xs : List Segment) → e ≤ limit → list_any (ends_above limit) xs ≡ false
    → fold (λ end s. max end (s.vaddr + s.mem_size)) e (filter is_loaded xs) ≤ limit
end_within limit e [] h n = h
end_within limit e (x ∷ xs) h n =
    let (p, q) = both_false (ends_above limit x) (list_any (ends_above limit) xs) n in
    decide (is_loaded x) refl p (end_within limit e xs h q)
    (λ l. end_within limit (max e (x.vaddr + x.mem_size)) xs l q)
  where
    decide : (b : Bool) → is_loaded x ≡ b → ends_above limit x ≡ false
        → fold (λ end s. max end (s.vaddr + s.mem_size)) e (filter is_loaded xs) ≤ limit
        → (max e (x.vaddr + x.mem_size) ≤ limit
        → fold (λ end s. max end (s.vaddr + s.mem_size)) (max e (x.vaddr + x.mem_size)) (filter is_loaded xs)
        ≤ limit)
        → fold (λ end s. max end (s.vaddr + s.mem_size)) e (filter is_loaded (x ∷ xs)) ≤ limit
    decide true f p i j =
        let g : nat_lt limit (x.vaddr + x.mem_size) ≡ false = rw f at p in
        let l : x.vaddr + x.mem_size ≤ limit = grind (arith, nat_tests) in
        rw f (j (omega (arith, l, h)))
    decide false f p i j = rw f i

pub accepted_end : (file : List ℕ) → IsAccepted file → image_end (segments_of file) ≤ 0x70000000
unfolding image_too_large
accepted_end file h =
    let (a, h1) = none_both (when (nat_lt 64 (e_phnum file)) (ImageTooLarge Headers)) _ (passed file h).room in
    let (b, c) = none_both (when (nat_lt 67108864 (memory_size (segments_of file))) (ImageTooLarge Bytes)) _ h1 in
    end_within 0x70000000 0 (segments_of file) (omega arith)
    (not_when (list_any (ends_above 0x70000000) (segments_of file)) (ImageTooLarge End) c)
