-- The memory with which a new file starts, as ranges and byte for byte.
use Rattle.std.proofs.Common.{◌≡◌, ℕ, zero, suc, ◌+◌, ◌-◌, ◌%◌, ◌/◌, ◌<◌, ◌≤◌, Bool, true, false, ◌&&◌, if◌then◌else◌}
use Rattle.std.proofs.Common.{inl, List, [], ◌∷◌, ◌++◌, Option, Some, None, length, get_or, take, drop, map, replicate}
use Rattle.std.proofs.Common.{nat_le, nat_lt, refl, sym, ap, ◌∙◌, subst, append_assoc, arith}
use Rattle.std.specs.Prelude.{slice_index, option_map, filter}
use Rattle.std.specs.List.{All, find}
use Rattle.std.proofs.lemmas.Bool.Decides.{nat_tests}
use Rattle.std.proofs.lemmas.Grind.{common_steps}
use Rattle.std.proofs.lemmas.List.{drop-append-le, take-append-le, get_or_append_left, get_or-append_right, get_or-drop}
use Rattle.std.proofs.lemmas.List.{get_or-replicate, get_or-take, get_or_past, length-append, length-drop}
use Rattle.std.proofs.lemmas.List.{length-replicate, length-take-le, map-append}
use Rattle.std.proofs.lemmas.List.Elements.{filter-append}
use Rattle.elf_spec.specs.declared.Patch.{Patch}
use Rattle.elf_spec.specs.declared.NewSegment.{NewSegment}
use Rattle.elf_spec.specs.declared.Segment.{Segment}
use Rattle.elf_spec.specs.Fields.{is_set, word_bytes}
use Rattle.elf_spec.specs.Memory.{is_loaded}
use Rattle.elf_spec.specs.NewFile.{contents, front, new_file, new_headers, patched, put_half, put_word, table_end, up16}
use Rattle.elf_spec.specs.NewFile.{up4096}
use Rattle.elf_spec.specs.Records.{e_phnum, segments_of}
use Rattle.elf_read.specs.Readable.{IsInside as IsSegmentInside, IsLoadedInside}
use Rattle.machine_spec.specs.Memory.{Range, Shape, covers, range_of, shape_of, stack, memory_of, byte_of}
use Rattle.elf_write.specs.Layout.{AreDisjointPatches, NewLayout, added_header, added_headers, file_part, headers_added}
use Rattle.elf_write.specs.NewMemory.{NewMemory, has_memory, range_added, ranges_behind}
use Rattle.elf_write.specs.Places.{InFile, Source, Zero, byte_in, is_between, place_at, place_in}
use Rattle.elf_write.proofs.LayoutLaw.{IsReady, front_first, gap, new_layout, old_table}
use Rattle.elf_write.proofs.Written.{all_head, all_tail, byte-front, byte-patched, byte-put_half, byte_written}
use Rattle.elf_write.proofs.Written.{front_patched, length-front, length-patched, length-put_word}

-- a part of a file's front is a part of the file
part_front : (f rest : List ℕ) (i n : ℕ) → i + n ≤ length f → take n (drop i (f ++ rest)) ≡ take n (drop i f)
part_front f rest i n h =
    let cut : drop i (f ++ rest) ≡ drop i f ++ rest = drop-append-le i f rest (omega arith) in
    let long : length (drop i f) ≡ length f - i = length-drop i f in
    let fits : n ≤ length (drop i f) = omega arith in
    ap (take n) cut ∙ take-append-le n (drop i f) rest fits

ranges_front : (f rest : List ℕ) (hs : List Segment) → All (IsLoadedInside (length f)) hs
    → map (range_of (f ++ rest)) (filter is_loaded hs) ≡ map (range_of f) (filter is_loaded hs)
ranges_front f rest [] w = refl
ranges_front f rest (h ∷ hs) w = at (is_loaded h) refl (ranges_front f rest hs
    (all_tail (IsLoadedInside (length f)) h hs w))
  where
    at : (b : Bool) → is_loaded h ≡ b → map (range_of (f ++ rest)) (filter is_loaded hs)
        ≡ map (range_of f) (filter is_loaded hs)
        → map (range_of (f ++ rest)) (if b then h ∷ filter is_loaded hs else filter is_loaded hs)
        ≡ map (range_of f) (if b then h ∷ filter is_loaded hs else filter is_loaded hs)
    at true e more =
        let inside : IsSegmentInside (length f) h = all_head (IsLoadedInside (length f)) h hs w e in
        let same : range_of (f ++ rest) h ≡ range_of f h =
        ap (λ (part : List ℕ). record {
          start = h.vaddr;
          writable = is_set 2 h.flags;
          executable =
              is_set 1 h.flags;
          bytes = part ++ replicate (h.mem_size - h.file_size) 0;
        })
        (part_front f rest h.offset h.file_size inside.file) in
        rw (same, more) refl
    at false e more = more

-- the added headers give the ranges of their segments
ranges_added : (new : List ℕ) (ss : List NewSegment) (end : ℕ)
    → map (file_part new) (added_headers end ss) ≡ map (λ s. s.bytes) ss
    → map (range_of new) (filter is_loaded (added_headers end ss)) ≡ map range_added (filter has_memory ss)
ranges_added new [] end e = refl
ranges_added new (s ∷ ss) end e =
    let here : file_part new (added_header (up4096 end) s) ≡ s.bytes = cc in
    let rest : map (file_part new) (added_headers (up4096 end + length s.bytes) ss) ≡ map (λ t. t.bytes) ss = cc in
    at (nat_lt 0 s.mem_size) here (ranges_added new ss (up4096 end + length s.bytes) rest)
  where
    at : (b : Bool) → file_part new (added_header (up4096 end) s) ≡ s.bytes
        → map (range_of new) (filter is_loaded (added_headers (up4096 end + length s.bytes) ss))
        ≡ map range_added (filter has_memory ss)
        → map (range_of new) (if b then added_header (up4096 end) s
        ∷ filter is_loaded (added_headers (up4096 end + length s.bytes) ss) else
        filter is_loaded (added_headers (up4096 end + length s.bytes) ss))
        ≡ map range_added (if b then s ∷ filter has_memory ss else filter has_memory ss)
    at true here rest =
        let same : range_of new (added_header (up4096 end) s) ≡ range_added s =
        ap (λ (part : List ℕ). record {
          start = s.vaddr;
          writable = is_set 2 s.flags;
          executable =
              is_set 1 s.flags;
          bytes = part ++ replicate (s.mem_size - length s.bytes) 0;
        }) here in
        rw (same, rest) refl
    at false here rest = rest

-- zeros read as zero
zero_read : (n i : ℕ) → slice_index (replicate n 0) i ≡ 0
zero_read n i = at (nat_lt i n) refl
  where
    at : (b : Bool) → nat_lt i n ≡ b → slice_index (replicate n 0) i ≡ 0
    at true e = let l : i < n = grind (arith, nat_tests) in get_or-replicate n i 0 0 l
    at false e =
        let high : n ≤ i = grind (arith, nat_tests) in
        let long : length (replicate {A = ℕ} n 0) ≡ n = length-replicate {A = ℕ} n 0 in
        let l : length (replicate {A = ℕ} n 0) ≤ i = omega arith in
        get_or_past (replicate n 0) i 0 l

-- a byte of a segment's range stands in the file, or is zero fill
pub length-range : (f : List ℕ) (h : Segment) → IsSegmentInside (length f) h → length (range_of f h).bytes ≡ h.mem_size
length-range f h inside =
    let fits : h.file_size ≤ h.mem_size = inside.fits in
    let file : h.offset + h.file_size ≤ length f = inside.file in
    let cut : length (drop h.offset f) ≡ length f - h.offset = length-drop h.offset f in
    let part : length (take h.file_size (drop h.offset f)) ≡ h.file_size =
    length-take-le h.file_size (drop h.offset f) (omega arith) in
    let fill : length (replicate {A = ℕ} (h.mem_size - h.file_size) 0) ≡ h.mem_size - h.file_size =
    length-replicate {A = ℕ} (h.mem_size - h.file_size) 0 in
    length-append (take h.file_size (drop h.offset f)) (replicate (h.mem_size - h.file_size) 0) ∙ omega arith

abbrev part_of : List ℕ → Segment → List ℕ
part_of f h = take h.file_size (drop h.offset f)

range_byte : (f : List ℕ) (h : Segment) (a : ℕ) → IsSegmentInside (length f) h
    → slice_index (range_of f h).bytes (a - h.vaddr) ≡ byte_in f (place_in h a)
range_byte f h a inside = at (nat_lt (a - h.vaddr) h.file_size) refl
  where
    long : length (part_of f h) ≡ h.file_size
    long =
        let file : h.offset + h.file_size ≤ length f = inside.file in
        let cut : length (drop h.offset f) ≡ length f - h.offset = length-drop h.offset f in
        length-take-le h.file_size (drop h.offset f) (omega arith)

    at : (b : Bool) → nat_lt (a - h.vaddr) h.file_size ≡ b → slice_index
        (part_of f h ++ replicate (h.mem_size - h.file_size) 0) (a - h.vaddr)
        ≡ byte_in f (if b then InFile (h.offset + (a - h.vaddr)) else Zero)
    at true e =
        let low : a - h.vaddr < h.file_size = grind (arith, nat_tests) in
        let low' : a - h.vaddr < length (part_of f h) = omega (arith, long) in
        get_or_append_left (part_of f h) (replicate (h.mem_size - h.file_size) 0) 0 (a - h.vaddr) low'
        ∙ (get_or-take h.file_size (drop h.offset f) (a - h.vaddr) 0 low ∙ get_or-drop h.offset f (a - h.vaddr) 0)
    at false e =
        let high : h.file_size ≤ a - h.vaddr = grind (arith, nat_tests) in
        get_or-append_right (part_of f h) (replicate (h.mem_size - h.file_size) 0) h.file_size (a - h.vaddr) 0 long high
        ∙ zero_read (h.mem_size - h.file_size) (a - h.vaddr - h.file_size)

-- a byte of memory, by its place
abbrev seen : List ℕ → Option Source → Option ℕ → Option ℕ
seen f (Some p) o = Some (byte_in f p)
seen f None o = o

abbrev others : List ℕ → List Segment → List Range → List Range
others f hs rest = map (range_of f) (filter is_loaded hs) ++ rest

abbrev byte_here : ℕ → Range → ℕ
byte_here a r = slice_index r.bytes (a - r.start)

byte_seen : (f : List ℕ) (hs : List Segment) (rest : List Range) (a : ℕ) → All (IsLoadedInside (length f)) hs
    → byte_of (map (range_of f) (filter is_loaded hs) ++ rest) a ≡ seen f (place_at hs a) (byte_of rest a)
unfolding byte_of
byte_seen f [] rest a w = refl
byte_seen f (h ∷ hs) rest a w = at (is_loaded h) refl (byte_seen f hs rest a
    (all_tail (IsLoadedInside (length f)) h hs w))
  where
    within : (b : Bool) → IsSegmentInside (length f) h → option_map (byte_here a) (find (covers a) (others f hs rest))
        ≡ seen f (place_at hs a) (option_map (byte_here a) (find (covers a) rest))
        → option_map (byte_here a) (if b then Some (range_of f h) else find (covers a) (others f hs rest))
        ≡ seen f (if b then Some (place_in h a) else place_at hs a) (option_map (byte_here a) (find (covers a) rest))
    within true inside more = ap Some (range_byte f h a inside)
    within false inside more = more

    at : (b : Bool) → is_loaded h ≡ b → option_map (byte_here a) (find (covers a) (others f hs rest))
        ≡ seen f (place_at hs a) (option_map (byte_here a) (find (covers a) rest))
        → option_map (byte_here a) (find (covers a) (map (range_of f)
        (if b then h ∷ filter is_loaded hs else filter is_loaded hs) ++ rest))
        ≡ seen f (if b && is_between h.vaddr h.mem_size a then Some (place_in h a) else place_at hs a)
        (option_map (byte_here a) (find (covers a) rest))
    at true e more =
        let inside : IsSegmentInside (length f) h = all_head (IsLoadedInside (length f)) h hs w e in
        let long : length (range_of f h).bytes ≡ h.mem_size = length-range f h inside in
        let same : covers a (range_of f h) ≡ is_between h.vaddr h.mem_size a =
        ap (λ n. nat_le h.vaddr a && nat_lt a (h.vaddr + n)) long in
        subst (λ b. option_map (byte_here a) (if b then Some (range_of f h) else find (covers a) (others f hs rest))
        ≡ seen f (if is_between h.vaddr h.mem_size a then Some (place_in h a) else place_at hs a)
        (option_map (byte_here a) (find (covers a) rest))) (sym same)
        (within (is_between h.vaddr h.mem_size a) inside more)
    at false e more = more

-- the new fields stand in the front
front_phoff_bytes : (old : List ℕ) (ps : List Patch) (more k : ℕ) → 52 ≤ length old → k < 4
    → slice_index (front old ps more) (28 + k) ≡ slice_index (word_bytes (up16 (length old))) k
unfolding front
front_phoff_bytes old ps more k h l =
    let long : length (patched ps old) ≡ length old = length-patched ps old in
    byte-put_half 44 (e_phnum old + more) (put_word 28 (up16 (length old)) (patched ps old)) (28 + k)
    (inl (omega arith))
    ∙ byte_written 28 (up16 (length old)) (patched ps old) k l (omega arith)

half_there : (at w : ℕ) (bs : List ℕ) (k : ℕ) → k < 2 → w < 65536 → at + 2 ≤ length bs
    → slice_index (put_half at w bs) (at + k) ≡ slice_index (word_bytes w) k
unfolding put_half word_bytes
half_there at w bs zero l s h = let e : at + 0 ≡ at = omega arith in rw e (grind (arith, common_steps))
half_there at w bs (suc zero) l s h =
    let e : w / 256 ≡ w / 256 % 256 = omega arith in
    let f : slice_index (put_half at w bs) (at + 1) ≡ w / 256 = grind (arith, common_steps) in
    f ∙ e
half_there at w bs (suc (suc k)) l s h = absurd (omega arith)

front_phnum_bytes : (old : List ℕ) (ps : List Patch) (more k : ℕ) → 52 ≤ length old → k < 2 → e_phnum old + more < 65536
    → slice_index (front old ps more) (44 + k) ≡ slice_index (word_bytes (e_phnum old + more)) k
unfolding front
front_phnum_bytes old ps more k h l s =
    let long : length (put_word 28 (up16 (length old)) (patched ps old)) ≡ length old =
    length-put_word 28 (up16 (length old)) (patched ps old) ∙ length-patched ps old in
    half_there 44 (e_phnum old + more) (put_word 28 (up16 (length old)) (patched ps old)) k l s (omega arith)

new_ranges : (old : List ℕ) (ps : List Patch) (ss : List NewSegment) → IsReady old ps
    → All (IsLoadedInside (length old)) (segments_of old)
    → memory_of (new_file old ps ss) ≡ map (range_of (front old ps (length ss))) (filter is_loaded (segments_of old))
    ++ ranges_behind ss
unfolding memory_of
new_ranges old ps ss r w =
    let new : List ℕ = new_file old ps ss in
    let f : List ℕ = front old ps (length ss) in
    let layout : NewLayout old ps ss new = new_layout old ps ss r in
    let behind : List ℕ = gap old ++ (old_table old ++ (new_headers (table_end old ss) ss
    ++ contents (table_end old ss) ss)) in
    let inside : All (IsLoadedInside (length f)) (segments_of old) =
    subst (λ n. All (IsLoadedInside n) (segments_of old)) (sym (length-front old ps (length ss))) w in
    let olds : map (range_of new) (filter is_loaded (segments_of old))
    ≡ map (range_of f) (filter is_loaded (segments_of old)) =
    subst (λ x. map (range_of x) (filter is_loaded (segments_of old))
    ≡ map (range_of f) (filter is_loaded (segments_of old))) (sym (front_first old ps ss))
    (ranges_front f behind (segments_of old) inside) in
    let adds : map (range_of new) (filter is_loaded (headers_added old ss)) ≡ map range_added (filter has_memory ss) =
    ranges_added new ss (table_end old ss) layout.added in
    ap (λ hs. map (range_of new) (filter is_loaded hs) ++ stack ∷ []) layout.headers
    ∙ (ap (λ hs. map (range_of new) hs ++ stack ∷ []) (filter-append is_loaded (segments_of old) (headers_added old ss))
    ∙ (ap (λ rs. rs ++ stack ∷ []) (map-append (range_of new) (filter is_loaded (segments_of old))
    (filter is_loaded (headers_added old ss)))
    ∙ (rw (olds, adds) (append_assoc (map (range_of f) (filter is_loaded (segments_of old)))
    (map range_added (filter has_memory ss)) (stack ∷ [])))))

old_byte : (old : List ℕ) (a : ℕ) → All (IsLoadedInside (length old)) (segments_of old)
    → byte_of (memory_of old) a ≡ seen old (place_at (segments_of old) a) (byte_of (stack ∷ []) a)
unfolding memory_of
old_byte old a w = byte_seen old (segments_of old) (stack ∷ []) a w

abbrev shape_with : Segment → ℕ → Shape
shape_with h n = record { start = h.vaddr; size = n; writable = is_set 2 h.flags; executable = is_set 1 h.flags }

-- ranges of two files of one length have the same shapes
shapes_same : (f g : List ℕ) (hs : List Segment) → length f ≡ length g → All (IsLoadedInside (length g)) hs
    → map shape_of (map (range_of f) (filter is_loaded hs)) ≡ map shape_of (map (range_of g) (filter is_loaded hs))
shapes_same f g [] e w = refl
shapes_same f g (h ∷ hs) e w = at (is_loaded h) refl (shapes_same f g hs e
    (all_tail (IsLoadedInside (length g)) h hs w))
  where
    at : (b : Bool) → is_loaded h ≡ b → map shape_of (map (range_of f) (filter is_loaded hs))
        ≡ map shape_of (map (range_of g) (filter is_loaded hs))
        → map shape_of (map (range_of f) (if b then h ∷ filter is_loaded hs else filter is_loaded hs))
        ≡ map shape_of (map (range_of g) (if b then h ∷ filter is_loaded hs else filter is_loaded hs))
    at true t more =
        let there : IsSegmentInside (length g) h = all_head (IsLoadedInside (length g)) h hs w t in
        let here : IsSegmentInside (length f) h = subst (λ n. IsSegmentInside n h) (sym e) there in
        let same : length (range_of f h).bytes ≡ length (range_of g h).bytes = length-range f h here
        ∙ sym (length-range g h there) in
        ap (λ n. shape_with h n ∷ map shape_of (map (range_of f) (filter is_loaded hs))) same
        ∙ ap (λ rest. shape_with h (length (range_of g h).bytes) ∷ rest) more
    at false t more = more

pub new_memory : (old : List ℕ) (ps : List Patch) (ss : List NewSegment) → IsReady old ps → AreDisjointPatches ps
    → All (IsLoadedInside (length old)) (segments_of old) → e_phnum old + length ss < 65536
    → NewMemory old ps ss (new_file old ps ss)
new_memory old ps ss r apart w few = record {
  front_length = length-front old ps (length ss);
  ranges = new_ranges old ps ss r w;
  shapes = ap (map shape_of) (new_ranges old ps ss r w)
      ∙ (map-append shape_of (map (range_of (front old ps (length ss))) (filter is_loaded (segments_of old)))
      (ranges_behind ss)
      ∙ ap (λ x. x ++ map shape_of (ranges_behind ss)) (shapes_same (front old ps (length ss)) old (segments_of old)
      (length-front old ps (length ss)) w));
  before = λ a p e. old_byte old a w ∙ ap (λ o. seen old o (byte_of (stack ∷ []) a)) e;
  kept = λ a i e k. new_byte a (InFile i) e ∙ (ap Some (byte-front old ps (length ss) i k.no_phoff k.no_phnum
      ∙ byte-patched ps old i k.no_patch) ∙ sym (old_byte old a w ∙ ap (λ o. seen old o (byte_of (stack ∷ []) a)) e));
  zeros = λ a e. new_byte a Zero e ∙ sym (old_byte old a w ∙ ap (λ o. seen old o (byte_of (stack ∷ []) a)) e);
  patched = λ j d m a k n e. new_byte a (InFile ((get_or ps j d).offset + k)) e
      ∙ ap Some (front_patched old ps (length ss) apart r.inside j d m k n);
  phoff = λ a k n e. new_byte a (InFile (28 + k)) e ∙ ap Some (front_phoff_bytes old ps (length ss) k r.long n);
  phnum = λ a k n e. new_byte a (InFile (44 + k)) e ∙ ap Some (front_phnum_bytes old ps (length ss) k r.long n few);
  beside_before = λ a e. old_byte old a w ∙ ap (λ o. seen old o (byte_of (stack ∷ []) a)) e;
  beside = λ a e. new_seen a ∙ ap (λ o. seen (front old ps (length ss)) o (byte_of (ranges_behind ss) a)) e;
}
  where
    new_seen : (a : ℕ) → byte_of (memory_of (new_file old ps ss)) a
        ≡ seen (front old ps (length ss)) (place_at (segments_of old) a) (byte_of (ranges_behind ss) a)
    new_seen a =
        let inside : All (IsLoadedInside (length (front old ps (length ss)))) (segments_of old) =
        subst (λ n. All (IsLoadedInside n) (segments_of old)) (sym (length-front old ps (length ss))) w in
        ap (λ m. byte_of m a) (new_ranges old ps ss r w) ∙ byte_seen (front old ps (length ss)) (segments_of old)
        (ranges_behind ss) a inside

    new_byte : (a : ℕ) (p : Source) → place_at (segments_of old) a ≡ Some p
        → byte_of (memory_of (new_file old ps ss)) a ≡ Some (byte_in (front old ps (length ss)) p)
    new_byte a p e = new_seen a ∙ ap (λ o. seen (front old ps (length ss)) o (byte_of (ranges_behind ss) a)) e
