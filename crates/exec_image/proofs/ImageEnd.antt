-- A code word is below the image's end.
use Rattle.std.proofs.Common.{◌≡◌, ℕ, ◌+◌, ◌-◌, ◌<◌, ◌≤◌, ◌&&◌, Bool, true, false, List, [], ◌∷◌, length, max, nat_le}
use Rattle.std.proofs.Common.{nat_lt, refl, sym, ◌∙◌, arith, Option, Some, None, is_some, option_map}
use Rattle.std.specs.List.{All, filter, find, fold}
use Rattle.std.proofs.lemmas.Bool.Decides.{nat_tests}
use Rattle.std.proofs.lemmas.List.Elements.{All-cons, All-nil}
use Rattle.elf_spec.specs.declared.Segment.{Segment}
use Rattle.elf_spec.specs.Code.{code_place}
use Rattle.elf_spec.specs.Memory.{image_end, is_loaded}
use Rattle.elf_spec.specs.Records.{segments_of}
use Rattle.elf_read.specs.Readable.{IsLoadedInside}
use Rattle.exec_image.specs.declared.parts.Part.{Part}
use Rattle.exec_image.specs.Checks.{uses_tp_at}
use Rattle.exec_image.specs.CodeParts.{IsCode, holds_in_file}
use Rattle.exec_image.proofs.CodePlaces.{known}
use Rattle.exec_image.proofs.Finding.{found_in, found_passes}

rises : (e : ℕ) (xs : List Segment) → e ≤ fold (λ end s. max end (s.vaddr + s.mem_size)) e xs
rises e [] = omega arith
rises e (x ∷ xs) = let h = rises (max e (x.vaddr + x.mem_size)) xs in omega (arith, h)

all_below : (e : ℕ) (xs : List Segment)
    → All (λ s. is_loaded s ≡ true → s.vaddr + s.mem_size
    ≤ fold (λ end s. max end (s.vaddr + s.mem_size)) e (filter is_loaded xs)) xs
all_below e [] = All-nil (λ s. is_loaded s ≡ true → s.vaddr + s.mem_size ≤ e)
all_below e (x ∷ xs) = decide (is_loaded x) refl (all_below e xs) (all_below (max e (x.vaddr + x.mem_size)) xs)
  where
    decide : (b : Bool) → is_loaded x ≡ b
        → All (λ s. is_loaded s ≡ true → s.vaddr + s.mem_size
        ≤ fold (λ end s. max end (s.vaddr + s.mem_size)) e (filter is_loaded xs)) xs
        → All (λ s. is_loaded s ≡ true → s.vaddr + s.mem_size
        ≤ fold (λ end s. max end (s.vaddr + s.mem_size)) (max e (x.vaddr + x.mem_size)) (filter is_loaded xs)) xs
        → All (λ s. is_loaded s ≡ true → s.vaddr + s.mem_size
        ≤ fold (λ end s. max end (s.vaddr + s.mem_size)) e (filter is_loaded (x ∷ xs))) (x ∷ xs)
    decide true h i j =
        rw h (All-cons (λ s. is_loaded s ≡ true
        → s.vaddr + s.mem_size ≤ fold (λ end s. max end (s.vaddr + s.mem_size)) (max e (x.vaddr + x.mem_size))
        (filter is_loaded xs)) x xs
        (λ l. let r = rises (max e (x.vaddr + x.mem_size)) (filter is_loaded xs) in omega (arith, r)) j)
    decide false h i j =
        rw h (All-cons (λ s. is_loaded s ≡ true
        → s.vaddr + s.mem_size ≤ fold (λ end s. max end (s.vaddr + s.mem_size)) e (filter is_loaded xs)) x xs
        (λ l. let g : true ≡ false = sym l ∙ h in absurd (cc)) i)

pub ends_below : (segments : List Segment)
    → All (λ s. is_loaded s ≡ true → s.vaddr + s.mem_size ≤ image_end segments) segments
ends_below segments = all_below 0 segments

holds : (l : Bool) (v f m a e : ℕ) → (l && (nat_le v a && nat_lt a (v + f))) ≡ true → (l ≡ true → v + m ≤ e)
    → (l ≡ true → f ≤ m) → a < e
holds true v f m a e h i j =
    let p : v + m ≤ e = i refl in let q : f ≤ m = j refl in let r : a < v + f =
    grind (arith, nat_tests) in omega (arith, p, q, r)
holds false v f m a e h i j = absurd (cc)

pub place_below : (file : List ℕ) (segments : List Segment) (code : List Part) (a : ℕ) → IsCode file segments code
    → is_some (code_place file a) ≡ true
    → a < image_end (segments_of file)
place_below file segments code a h e =
    let (at, k) = known file segments code a h e in
    let (g, f) = found (λ g. g.offset + (a - g.vaddr)) at (find (holds_in_file a) segments) k.looked_up in
    let f' : find (holds_in_file a) (segments_of file) ≡ Some g = rw (sym h.table) f in
    holds (is_loaded g) g.vaddr g.file_size g.mem_size a (image_end (segments_of file))
    (found_passes (holds_in_file a) (segments_of file) g f')
    (found_in (holds_in_file a) (λ s. is_loaded s ≡ true → s.vaddr + s.mem_size ≤ image_end (segments_of file))
    (segments_of file) g f' (ends_below (segments_of file)))
    (λ l. (found_in (holds_in_file a) (IsLoadedInside (length file)) (segments_of file) g f' h.facts.segments l).fits)
  where
    found : (f : Segment → ℕ) (n : ℕ) (o : Option Segment) → option_map f o ≡ Some n → (g : Segment) × (o ≡ Some g)
    found f n (Some g) e = (g, refl)
    found f n None e = absurd (cc)

pub use_some : (file : List ℕ) (a : ℕ) → uses_tp_at file a ≡ true → is_some (code_place file a) ≡ true
unfolding uses_tp_at
use_some file a h = decide (code_place file a) refl
  where
    decide : (o : Option ℕ) → code_place file a ≡ o → is_some (code_place file a) ≡ true
    decide (Some p) e = rw e refl
    decide None e = absurd (let q : false ≡ true = rw e at h in cc)

pub use_below : (file : List ℕ) (segments : List Segment) (code : List Part) (a : ℕ) → IsCode file segments code
    → uses_tp_at file a ≡ true
    → a < image_end (segments_of file)
use_below file segments code a h e = place_below file segments code a h (use_some file a e)
