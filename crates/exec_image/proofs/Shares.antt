-- What meets the parts of given offsets and sizes shares a byte with one of them.
use Rattle.std.proofs.Common.{◌≡◌, ℕ, ◌+◌, ◌*◌, ◌<◌, ◌&&◌, ◌||◌, not, Bool, true, false, List, [], ◌∷◌, ◌++◌, map}
use Rattle.std.proofs.Common.{Option, nat_eq, nat_lt, refl, sym, ap, ◌∙◌, arith}
use Rattle.std.specs.List.{filter, find, list_any}
use Rattle.std.proofs.lemmas.Bool.Decides.{nat_tests}
use Rattle.std.proofs.lemmas.List.{append_assoc, map-append}
use Rattle.elf_spec.specs.declared.Section.{Section}
use Rattle.elf_spec.specs.Code.{is_executable}
use Rattle.elf_spec.specs.Fields.{is_set}
use Rattle.elf_spec.specs.Records.{e_phnum, e_phoff, e_shnum, e_shoff, sections_of}
use Rattle.elf_spec.specs.Relocations.{is_kept_rela}
use Rattle.elf_spec.specs.Tables.{is_symtab, strings_of}
use Rattle.elf_read.specs.Checks.{is_shared}
use Rattle.exec_image.specs.declared.parts.Part.{Part}
use Rattle.exec_image.specs.Checks.{descriptions, is_in_descriptions, sections_in}
use Rattle.exec_image.specs.Parts.{StandsFor, is_meeting, parts_of}
use Rattle.exec_image.proofs.Meeting.{meets_same}

one_shared : (o n b m : ℕ) → 0 < n → nat_lt 0 m ≡ true → (nat_lt b (o + n) && nat_lt o (b + m)) ≡ is_shared o n b m
one_shared o n b m h e = decide (nat_lt b (o + n)) (nat_lt o (b + m)) refl refl
  where
    positive : nat_lt 0 n ≡ true
    positive = grind (arith, nat_tests)

    decide : (x y : Bool) → nat_lt b (o + n) ≡ x → nat_lt o (b + m) ≡ y
        → (nat_lt b (o + n) && nat_lt o (b + m)) ≡ is_shared o n b m
    decide true true f g = rw (positive, e, f, g) refl
    decide true false f g = rw (positive, e, f, g) refl
    decide false true f g = rw (positive, e, f, g) refl
    decide false false f g = rw (positive, e, f, g) refl

none_shared : (o n b m : ℕ) → nat_lt 0 m ≡ false → is_shared o n b m ≡ false
none_shared o n b m e = decide (nat_lt 0 n) refl
  where
    decide : (x : Bool) → nat_lt 0 n ≡ x → is_shared o n b m ≡ false
    decide true f = rw (f, e) refl
    decide false f = rw f refl

parts_shared : (o n : ℕ) → 0 < n → (ds : List (ℕ × ℕ))
    → list_any (is_meeting o (o + n)) (parts_of ds) ≡ list_any (λ d. is_shared o n d.0 d.1) ds
unfolding parts_of
parts_shared o n h [] = refl
parts_shared o n h (d ∷ ds) = decide (nat_lt 0 d.1) refl (parts_shared o n h ds)
  where
    decide : (b : Bool) → nat_lt 0 d.1 ≡ b
        → list_any (is_meeting o (o + n)) (parts_of ds) ≡ list_any (λ d. is_shared o n d.0 d.1) ds
        → list_any (is_meeting o (o + n)) (parts_of (d ∷ ds)) ≡ list_any (λ d. is_shared o n d.0 d.1) (d ∷ ds)
    decide true e ih =
        let x : Part = record { start = d.0; end = d.0 + d.1 } in
        let p : parts_of (d ∷ ds) ≡ x ∷ parts_of ds = rw e refl in
        ap (list_any (is_meeting o (o + n))) p
        ∙ ap (λ b. b || list_any (is_meeting o (o + n)) (parts_of ds)) (one_shared o n d.0 d.1 h e)
        ∙ ap (λ b. is_shared o n d.0 d.1 || b) ih
    decide false e ih =
        let f : is_shared o n d.0 d.1 ≡ false = none_shared o n d.0 d.1 e in
        let g : list_any (λ d. is_shared o n d.0 d.1) (d ∷ ds) ≡ list_any (λ d. is_shared o n d.0 d.1) ds =
        ap (λ b. b || list_any (λ d. is_shared o n d.0 d.1) ds) f in
        let p : parts_of (d ∷ ds) ≡ parts_of ds = rw e refl in
        ap (list_any (is_meeting o (o + n))) p ∙ ih ∙ sym g

pub described : (file : List ℕ) (ps : List Part) (s : Section) → StandsFor (parts_of (descriptions file)) ps
    → 0 < s.size
    → list_any (is_meeting s.offset (s.offset + s.size)) ps ≡ is_in_descriptions file s
described file ps s h l =
    meets_same s.offset (s.offset + s.size) (parts_of (descriptions file)) ps h
    ∙ parts_shared s.offset s.size l (descriptions file)

pub not_empty : (s : Section) → is_executable s ≡ true → 0 < s.size
not_empty s h = positive (nat_eq s.kind 1) (is_set 2 s.flags && is_set 4 s.flags) s.size h
  where
    positive : (b c : Bool) (n : ℕ) → (b && (not (nat_eq n 0) && c)) ≡ true → 0 < n
    positive true c n h = grind (arith, nat_tests)
    positive false c n h = absurd (cc)

parts_of-append : (xs ys : List (ℕ × ℕ)) → parts_of (xs ++ ys) ≡ parts_of xs ++ parts_of ys
unfolding parts_of
parts_of-append [] ys = refl
parts_of-append (d ∷ ds) ys = decide (nat_lt 0 d.1) refl (parts_of-append ds ys)
  where
    decide : (b : Bool) → nat_lt 0 d.1 ≡ b → parts_of (ds ++ ys) ≡ parts_of ds ++ parts_of ys
        → parts_of ((d ∷ ds) ++ ys) ≡ parts_of (d ∷ ds) ++ parts_of ys
    decide true e ih = rw (e, ih) refl
    decide false e ih = rw e ih

-- the parts of the descriptions, added one after the other
added : (a b c : ℕ × ℕ) (xs ys : List (ℕ × ℕ))
    → ((([] ++ parts_of (a ∷ [])) ++ parts_of (b ∷ [])) ++ parts_of (c ∷ [])) ++ parts_of xs ++ parts_of ys
    ≡ parts_of (a ∷ b ∷ c ∷ (xs ++ ys))
added a b c xs ys =
    let p : List Part = parts_of (a ∷ []) in
    let q : List Part = parts_of (b ∷ []) in
    let r : List Part = parts_of (c ∷ []) in
    append_assoc (p ++ q ++ r) (parts_of xs) (parts_of ys)
    ∙ append_assoc (p ++ q) r (parts_of xs ++ parts_of ys)
    ∙ append_assoc p q (r ++ (parts_of xs ++ parts_of ys))
    ∙ sym (
    parts_of-append (a ∷ []) (b ∷ c ∷ (xs ++ ys))
    ∙ ap (λ l. p ++ l) (parts_of-append (b ∷ []) (c ∷ (xs ++ ys)))
    ∙ ap (λ l. p ++ (q ++ l)) (parts_of-append (c ∷ []) (xs ++ ys))
    ∙ ap (λ l. p ++ (q ++ (r ++ l))) (parts_of-append xs ys)
    )

pub all_described : (file : List ℕ) (table strings : Option Section) → table ≡ find is_symtab (sections_of file)
    → strings ≡ strings_of (sections_of file) table
    → (((([] ++ parts_of ((0, 52) ∷ [])) ++ parts_of ((e_phoff file, 32 * e_phnum file) ∷ []))
    ++ parts_of ((e_shoff file, 40 * e_shnum file) ∷ []))
    ++ parts_of (map (λ s. (s.offset, s.size)) (sections_in table))
    ++ parts_of (map (λ s. (s.offset, s.size)) (sections_in strings)))
    ++ parts_of (map (λ s. (s.offset, s.size)) (filter (is_kept_rela (sections_of file)) (sections_of file)))
    ≡ parts_of (descriptions file)
unfolding descriptions
all_described file table strings t u =
    let f : Section → ℕ × ℕ = λ s. (s.offset, s.size) in
    let xs : List (ℕ × ℕ) = map f (sections_in table) in
    let ys : List (ℕ × ℕ) = map f (sections_in strings) in
    let zs : List (ℕ × ℕ) = map f (filter (is_kept_rela (sections_of file)) (sections_of file)) in
    let front : List Part = ([] ++ parts_of ((0, 52) ∷ [])) ++ parts_of ((e_phoff file, 32 * e_phnum file) ∷ [])
    ++ parts_of ((e_shoff file, 40 * e_shnum file) ∷ []) in
    let e : (front ++ parts_of xs) ++ parts_of ys ≡ front ++ parts_of (xs ++ ys) =
    append_assoc front (parts_of xs) (parts_of ys) ∙ ap (λ l. front ++ l) (sym (parts_of-append xs ys)) in
    let m : (xs ++ ys) ++ zs ≡ map f (sections_in table ++ sections_in strings
    ++ filter (is_kept_rela (sections_of file)) (sections_of file)) =
    ap (λ l. l ++ zs) (sym (map-append f (sections_in table) (sections_in strings)))
    ∙ sym (map-append f (sections_in table ++ sections_in strings)
    (filter (is_kept_rela (sections_of file)) (sections_of file))) in
    let g : (front ++ parts_of xs ++ parts_of ys) ++ parts_of zs
    ≡ parts_of ((0, 52) ∷ (e_phoff file, 32 * e_phnum file) ∷ (e_shoff file, 40 * e_shnum file)
    ∷ ((xs ++ ys) ++ zs)) =
    ap (λ l. l ++ parts_of zs) e ∙ added (0, 52) (e_phoff file, 32 * e_phnum file) (e_shoff file, 40 * e_shnum file)
    (xs ++ ys) zs in
    let n : sections_in strings ≡ sections_in (strings_of (sections_of file) (find is_symtab (sections_of file))) =
    rw (u, t) refl in
    g ∙ ap (λ l. parts_of ((0, 52) ∷ (e_phoff file, 32 * e_phnum file) ∷ (e_shoff file, 40 * e_shnum file) ∷ l))
    (m ∙ rw (n, t) refl)
