-- Segments that are added above the image pass the checks on program headers.
use Rattle.std.proofs.Common.{◌≡◌, ℕ, ◌+◌, ◌≤◌, Bool, true, false, ◌&&◌, ◌||◌, if◌then◌else◌, List, [], ◌∷◌, ◌++◌}
use Rattle.std.proofs.Common.{None, length, get_or, max, nat_eq, nat_lt, refl, sym, ap, ◌∙◌, subst}
use Rattle.std.proofs.Common.{append_assoc, arith, sum_by, take}
use Rattle.std.specs.Prelude.{fold, filter, option_map}
use Rattle.std.specs.List.{All, list_any, position, position_or_len}
use Rattle.std.proofs.lemmas.Bool.Decides.{nat_tests}
use Rattle.std.proofs.Math.Seq.{take-append_seam}
use Rattle.std.proofs.lemmas.List.{length-append, take-append-le}
use Rattle.std.proofs.lemmas.List.Elements.{All-append, All-cons, All-nil, All-weaker}
use Rattle.std.proofs.lemmas.List.Sums.{sum_by-append}
use Rattle.elf_spec.specs.declared.NewSegment.{NewSegment}
use Rattle.elf_spec.specs.declared.Segment.{Segment}
use Rattle.elf_spec.specs.Memory.{image_end, is_loaded}
use Rattle.elf_spec.specs.NewFile.{contents, table_end, up4096}
use Rattle.elf_spec.specs.Records.{segments_of}
use Rattle.elf_read.specs.declared.refusals.ElfRefusal.TheVariants.{SegmentOut, SegmentOverlap, TooLarge}
use Rattle.elf_read.specs.Checks.{is_segment_out, load_size, meets}
use Rattle.elf_read.specs.Readable.{IsInside as IsSegmentInside, IsLoadedInside}
use Rattle.first_check.specs.First.{first_from, first_item, when}
use Rattle.first_check.proofs.Checks.{both_none, when_not}
use Rattle.first_check.proofs.Items.{from_join, item_none, item_passes}
use Rattle.elf_read.specs.Refusals.{memory_size, overlap_refusal, segment_out, segment_overlap, too_large}
use Rattle.elf_write.specs.Ends.{contents_end, new_length}
use Rattle.elf_write.specs.Kept.{AreAbove, AreAddedAbove, DoHeadersPass, all_headers}
use Rattle.elf_write.specs.Layout.{added_header, added_headers, headers_added}
use Rattle.elf_write.proofs.Headers.{length-contents}
use Rattle.elf_write.proofs.Written.{all_head, all_tail}

-- a loaded header ends below an address, and its file part below an offset
abbrev IsBelow : ℕ → ℕ → Segment → Type 0
IsBelow low end h = is_loaded h ≡ true → (h.vaddr + h.mem_size ≤ low) × (h.offset + h.file_size ≤ end)

-- the image's end is at or above each loaded header's
end_grows : (hs : List Segment) (from : ℕ) → from ≤ fold (λ end s. max end (s.vaddr + s.mem_size)) from
    (filter is_loaded hs)
end_grows [] from = omega arith
end_grows (h ∷ hs) from = at (is_loaded h) (end_grows hs from) (end_grows hs (max from (h.vaddr + h.mem_size)))
  where
    at : (b : Bool) → from ≤ fold (λ end s. max end (s.vaddr + s.mem_size)) from (filter is_loaded hs)
        → max from (h.vaddr + h.mem_size) ≤ fold (λ end s. max end (s.vaddr + s.mem_size))
        (max from (h.vaddr + h.mem_size)) (filter is_loaded hs)
        → from ≤ fold (λ end s. max end (s.vaddr + s.mem_size)) from
        (if b then h ∷ filter is_loaded hs else filter is_loaded hs)
    at true rest more = omega arith
    at false rest more = rest

below_end : (hs : List Segment) (from : ℕ) → All (λ h. is_loaded h ≡ true
    → h.vaddr + h.mem_size ≤ fold (λ end s. max end (s.vaddr + s.mem_size)) from (filter is_loaded hs)) hs
below_end [] from = All-nil (λ h. is_loaded h ≡ true → h.vaddr + h.mem_size ≤ from)
below_end (h ∷ hs) from = at (is_loaded h) refl (below_end hs from) (below_end hs (max from (h.vaddr + h.mem_size)))
    (end_grows hs (max from (h.vaddr + h.mem_size)))
  where
    at : (b : Bool) → is_loaded h ≡ b
        → All (λ g. is_loaded g ≡ true → g.vaddr + g.mem_size ≤ fold (λ end s. max end (s.vaddr + s.mem_size)) from
        (filter is_loaded hs)) hs
        → All (λ g. is_loaded g ≡ true → g.vaddr + g.mem_size ≤ fold (λ end s. max end (s.vaddr + s.mem_size))
        (max from (h.vaddr + h.mem_size)) (filter is_loaded hs)) hs
        → max from (h.vaddr + h.mem_size) ≤ fold (λ end s. max end (s.vaddr + s.mem_size))
        (max from (h.vaddr + h.mem_size)) (filter is_loaded hs)
        → All (λ g. is_loaded g ≡ true → g.vaddr + g.mem_size ≤ fold (λ end s. max end (s.vaddr + s.mem_size)) from
        (if b then h ∷ filter is_loaded hs else filter is_loaded hs)) (h ∷ hs)
    at true e rest more grows =
        All-cons (λ g. is_loaded g ≡ true → g.vaddr + g.mem_size ≤ fold (λ end s. max end (s.vaddr + s.mem_size))
        (max from (h.vaddr + h.mem_size)) (filter is_loaded hs)) h hs (λ f. omega arith) more
    at false e rest more grows =
        All-cons (λ g. is_loaded g ≡ true → g.vaddr + g.mem_size ≤ fold (λ end s. max end (s.vaddr + s.mem_size)) from
        (filter is_loaded hs)) h hs (λ f. absurd (let q : true ≡ false = sym f ∙ e in cc)) rest

-- headers with others behind them meet none before them where they met none without those
old_apart : (old added : List Segment) → first_item (overlap_refusal old) old ≡ None
    → first_item (overlap_refusal (old ++ added)) old ≡ None
old_apart old added h = item_none (overlap_refusal (old ++ added)) old (λ k d low.
    let few : k ≤ length old = omega (arith, low) in
    subst (λ before. when (list_any (λ t. meets t (get_or old k d)) before) (SegmentOverlap k) ≡ None)
    (sym (take-append-le k old added few)) (item_passes (overlap_refusal old) old h k d low))

none_any : {A : Type 0} (p : A → Bool) (xs : List A) → All (λ x. p x ≡ false) xs → list_any p xs ≡ false
none_any p [] h = refl
none_any p (x ∷ xs) h = let e : p x ≡ false = all_head (λ y. p y ≡ false) x xs h in
    rw e (none_any p xs (all_tail (λ y. p y ≡ false) x xs h))

none_at : {A : Type 0} (p : A → Bool) (xs : List A) → All (λ x. p x ≡ false) xs → position_or_len p xs ≡ length xs
none_at p [] h = refl
none_at p (x ∷ xs) h =
    let e : p x ≡ false = all_head (λ y. p y ≡ false) x xs h in
    let rest : position_or_len p xs ≡ length xs = none_at p xs (all_tail (λ y. p y ≡ false) x xs h) in
    rw e (omega arith)

none_found : {A : Type 0} (p : A → Bool) (xs : List A) → All (λ x. p x ≡ false) xs → position p xs ≡ None
none_found p xs h =
    let e : position_or_len p xs ≡ length xs = none_at p xs h in
    let t : nat_lt (position_or_len p xs) (length xs) ≡ false = grind (arith, nat_tests) in
    rw t refl

-- a header above another one, whose file part is behind the other's, does not meet it
apart : (k m v n o f w q : ℕ) (b : Bool) → ((nat_eq k 1 && nat_lt 0 m) ≡ true → (v + m ≤ w) × (o + f ≤ q)) → (l g : ℕ)
    → (((nat_eq k 1 && nat_lt 0 m) && b) && (((nat_lt 0 m && nat_lt 0 n) && (nat_lt v (w + n) && nat_lt w (v + m))) ||
    ((nat_lt 0 f && nat_lt 0 g) && (nat_lt o (q + g) && nat_lt q (o + f))))) ≡ false
apart k m v n o f w q b h l g = at (nat_eq k 1 && nat_lt 0 m) refl
  where
    at : (x : Bool) → (nat_eq k 1 && nat_lt 0 m) ≡ x
        → ((x && b) && (((nat_lt 0 m && nat_lt 0 n) && (nat_lt v (w + n) && nat_lt w (v + m))) ||
        ((nat_lt 0 f && nat_lt 0 g) && (nat_lt o (q + g) && nat_lt q (o + f))))) ≡ false
    at true e = let (c, d) = h e in grind (arith, nat_tests)
    at false e = refl

added_apart : (ss : List NewSegment) (low end : ℕ) (front all : List Segment) → All (IsBelow low end) front
    → AreAbove low ss → front ++ added_headers end ss ≡ all
    → first_from (overlap_refusal all) (length front) (added_headers end ss) ≡ None
added_apart [] low end front all h w same = refl
added_apart (s ∷ ss) low end front all h (above, fits, below, rest) same =
    let new : Segment = added_header (up4096 end) s in
    let more : List Segment = added_headers (up4096 end + length s.bytes) ss in
    let none : list_any (λ t. meets t new) front ≡ false =
    none_any (λ t. meets t new) front (All-weaker (IsBelow low end) (λ t. meets t new ≡ false)
    (λ t b. apart t.kind t.mem_size t.vaddr s.mem_size t.offset t.file_size s.vaddr (up4096 end) _
    (λ e. let (c, d) = b e in (omega arith, omega arith)) 0 (length s.bytes)) front h) in
    let before : take (length front) all ≡ front =
    subst (λ (x : List Segment). take (length front) x ≡ front) same (take-append_seam front (new ∷ more)) in
    let next : All (IsBelow (s.vaddr + s.mem_size) (up4096 end + length s.bytes)) (front ++ new ∷ []) =
    All-append (IsBelow (s.vaddr + s.mem_size) (up4096 end + length s.bytes)) front (new ∷ [])
    (All-weaker (IsBelow low end) (IsBelow (s.vaddr + s.mem_size) (up4096 end + length s.bytes))
    (λ t b e. let (c, d) = b e in (omega arith, omega arith)) front h)
    (All-cons (IsBelow (s.vaddr + s.mem_size) (up4096 end + length s.bytes)) new [] (λ e. (omega arith, omega arith))
    (All-nil (IsBelow (s.vaddr + s.mem_size) (up4096 end + length s.bytes)))) in
    let place : length (front ++ new ∷ []) ≡ length front + 1 = length-append front (new ∷ []) in
    both_none (overlap_refusal all (length front) new) (first_from (overlap_refusal all) (length front + 1) more)
    (when_not (list_any (λ t. meets t new) (take (length front) all)) (SegmentOverlap (length front))
    (ap (list_any (λ t. meets t new)) before ∙ none))
    (subst (λ i. first_from (overlap_refusal all) i more ≡ None) place
    (added_apart ss (s.vaddr + s.mem_size) (up4096 end + length s.bytes) (front ++ new ∷ []) all next rest
    (append_assoc front (new ∷ []) more ∙ same)))

-- a header that lies inside passes
passes_inside : (k m f o v bytes b : ℕ) → ((nat_eq k 1 && nat_lt 0 m) ≡ true → (f ≤ m) × (o + f ≤ bytes) × (v + m ≤ b))
    → ((nat_eq k 1 && nat_lt 0 m) && (nat_lt m f || (nat_lt bytes (o + f) || nat_lt b (v + m)))) ≡ false
passes_inside k m f o v bytes b h = at (nat_eq k 1 && nat_lt 0 m) refl
  where
    at : (x : Bool) → (nat_eq k 1 && nat_lt 0 m) ≡ x → (x && (nat_lt m f || (nat_lt bytes (o + f) || nat_lt b (v + m))))
        ≡ false
    at true e = let (c, d, g) = h e in grind (arith, nat_tests)
    at false e = refl

old_passes : (m n : ℕ) (s : Segment) → m ≤ n → IsLoadedInside m s → is_segment_out n s ≡ false
old_passes m n s l h = passes_inside s.kind s.mem_size s.file_size s.offset s.vaddr n 0x7ff00000 (λ e.
    let p : IsSegmentInside m s = h e in
    let f : s.offset + s.file_size ≤ m = p.file in
    (p.fits, omega arith, p.memory))

added_pass : (ss : List NewSegment) (low end : ℕ) → AreAbove low ss
    → All (λ s. is_segment_out (contents_end end ss) s ≡ false) (added_headers end ss)
added_pass [] low end w = All-nil (λ s. is_segment_out end s ≡ false)
added_pass (s ∷ ss) low end (above, fits, below, rest) =
    let all : ℕ = contents_end (up4096 end + length s.bytes) ss in
    let e : up4096 end + length s.bytes + length (contents (up4096 end + length s.bytes) ss) ≡ all =
    length-contents ss (up4096 end + length s.bytes) in
    let room : up4096 end + length s.bytes ≤ all = omega arith in
    All-cons (λ t. is_segment_out all t ≡ false) (added_header (up4096 end) s)
    (added_headers (up4096 end + length s.bytes) ss)
    (passes_inside 1 s.mem_size (length s.bytes) (up4096 end) s.vaddr all 0x7ff00000 (λ t. (fits, room, below)))
    (added_pass ss (s.vaddr + s.mem_size) (up4096 end + length s.bytes) rest)

added_size : (ss : List NewSegment) (end : ℕ) → memory_size (added_headers end ss) ≡ sum_by (λ s. s.mem_size) ss
added_size [] end = refl
added_size (s ∷ ss) end =
    sum_by-append load_size (added_header (up4096 end) s ∷ []) (added_headers (up4096 end + length s.bytes) ss)
    ∙ (ap (λ n. (0 + s.mem_size) + n) (added_size ss (up4096 end + length s.bytes))
    ∙ sym (sum_by-append (λ (t : NewSegment). t.mem_size) (s ∷ []) ss))

pub above_pass : (old : List ℕ) (ss : List NewSegment) → All (IsLoadedInside (length old)) (segments_of old)
    → segment_overlap (segments_of old) ≡ None → AreAddedAbove old ss → DoHeadersPass old ss
unfolding segment_out segment_overlap too_large
above_pass old ss inside overlap w = record {
  some = w.some;
  inside = ap (option_map SegmentOut) (none_found (is_segment_out (new_length old ss)) (all_headers old ss)
      (All-append (λ s. is_segment_out (new_length old ss) s ≡ false) (segments_of old) (headers_added old ss)
      (All-weaker (IsLoadedInside (length old)) (λ s. is_segment_out (new_length old ss) s ≡ false)
      (λ s. old_passes (length old) (new_length old ss) s longer) (segments_of old) inside)
      (added_pass ss (image_end (segments_of old)) (table_end old ss) w.above)));
  apart = from_join (overlap_refusal (all_headers old ss)) 0 (segments_of old) (headers_added old ss)
      (old_apart (segments_of old) (headers_added old ss) overlap)
      (let place : 0 + length (segments_of old) ≡ length (segments_of old) = omega arith in
      subst (λ i. first_from (overlap_refusal (all_headers old ss)) i (headers_added old ss) ≡ None) (sym place)
      (added_apart ss (image_end (segments_of old)) (table_end old ss) (segments_of old) (all_headers old ss) below
      w.above refl));
  small = passed (memory_size (all_headers old ss)) (sum_by-append load_size (segments_of old) (headers_added old ss)
      ∙ ap (λ n. memory_size (segments_of old) + n) (added_size ss (table_end old ss)));
}
  where
    longer : length old ≤ new_length old ss
    longer = let e : table_end old ss + length (contents (table_end old ss) ss) ≡ new_length old ss =
        length-contents ss (table_end old ss) in omega arith

    below : All (IsBelow (image_end (segments_of old)) (table_end old ss)) (segments_of old)
    below = λ k d l e.
        let p : IsSegmentInside (length old) (get_or (segments_of old) k d) = inside k d l e in
        let f : (get_or (segments_of old) k d).offset + (get_or (segments_of old) k d).file_size ≤ length old =
        p.file in
        (below_end (segments_of old) 0 k d l e, omega arith)

    passed : (n : ℕ) → n ≡ memory_size (segments_of old) + sum_by (λ s. s.mem_size) ss
        → when (nat_lt 134217728 n) (TooLarge n) ≡ None
    passed n e =
        let l : memory_size (segments_of old) + sum_by (λ s. s.mem_size) ss ≤ 134217728 = w.small in
        let t : nat_lt 134217728 n ≡ false = grind (arith, nat_tests) in
        rw t refl
