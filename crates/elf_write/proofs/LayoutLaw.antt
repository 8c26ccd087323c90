-- The new file is laid out as `NewLayout` says.
use Rattle.std.proofs.Common.{◌≡◌, ℕ, zero, suc, ◌+◌, ◌-◌, ◌*◌, ◌<◌, ◌≤◌, inl, inr, List, ◌++◌, length, get_or}
use Rattle.std.proofs.Common.{slice_index, take, drop, map, replicate, refl, sym, ap, ◌∙◌, subst, append_assoc, arith}
use Rattle.std.proofs.lemmas.List.{ext_get_or, length-append, length-replicate, length-drop, length-take-le}
use Rattle.std.proofs.lemmas.List.{get_or_append_left, get_or-append-add, get_or-take, get_or-drop}
use Rattle.std.proofs.lemmas.List.Elements.{All-weaker}
use Rattle.std.specs.List.{All}
use Rattle.elf_spec.specs.declared.Patch.{Patch}
use Rattle.elf_spec.specs.declared.NewSegment.{NewSegment}
use Rattle.elf_spec.specs.Fields.{half_at, word_at, word_bytes}
use Rattle.elf_spec.specs.NewFile.{contents, front, new_file, new_headers, table_end, up16}
use Rattle.elf_spec.specs.Records.{e_phnum, e_phoff, e_shnum, e_shoff, entries, section_at, sections_of, segment_at}
use Rattle.elf_spec.specs.Records.{segments_of}
use Rattle.elf_write.specs.Ends.{new_length}
use Rattle.elf_write.specs.Inputs.{HasTable, IsInside}
use Rattle.elf_write.specs.Layout.{AreDisjointPatches, IsBeside, IsKept, IsWithin, NewLayout, file_part, headers_added}
use Rattle.elf_write.proofs.Written.{byte-front, byte-patched, front_patched, front_phnum, front_phoff, length-front}
use Rattle.elf_write.proofs.Written.{half_same, word-bytes, word_same}
use Rattle.elf_write.proofs.Headers.{entries-add, entries_same, headers_back, length-contents, length-new_headers}
use Rattle.elf_write.proofs.Headers.{parts_back, section_same, segment_same, within_end}

-- what the law asks of the old file and the patches
pub record IsReady (old : List ℕ) (ps : List Patch) : Type 0 where
  pub long : 52 ≤ length old
  pub table : HasTable old
  pub inside : All (IsInside (length old)) ps

-- the parts behind the old bytes
abbrev pub gap : List ℕ → List ℕ
gap old = replicate (up16 (length old) - length old) 0

abbrev pub old_table : List ℕ → List ℕ
old_table old = take (32 * e_phnum old) (drop (e_phoff old) old)

-- the new file is its front and something behind it
pub front_first : (old : List ℕ) (ps : List Patch) (ss : List NewSegment)
    → new_file old ps ss ≡ front old ps (length ss) ++ (gap old
    ++ (old_table old ++ (new_headers (table_end old ss) ss ++ contents (table_end old ss) ss)))
unfolding new_file
front_first old ps ss = simp append_assoc

-- up to the old length the new file reads as its front
pub byte-new_file : (old : List ℕ) (ps : List Patch) (ss : List NewSegment) (i : ℕ) → i < length old
    → slice_index (new_file old ps ss) i ≡ slice_index (front old ps (length ss)) i
byte-new_file old ps ss i l =
    let long : i < length (front old ps (length ss)) = subst (λ n. i < n) (sym (length-front old ps (length ss))) l in
    ap (λ x. slice_index x i) (front_first old ps ss) ∙ get_or_append_left (front old ps (length ss))
    (gap old ++ (old_table old ++ (new_headers (table_end old ss) ss ++ contents (table_end old ss) ss))) 0 i long

new_phoff : (old : List ℕ) (ps : List Patch) (ss : List NewSegment) → 52 ≤ length old
    → word_at (new_file old ps ss) 28 ≡ up16 (length old)
new_phoff old ps ss h =
    word_same (new_file old ps ss) (front old ps (length ss)) 28 28
    (λ k l. byte-new_file old ps ss (28 + k) (omega arith))
    ∙ front_phoff old ps (length ss) h

new_phnum : (old : List ℕ) (ps : List Patch) (ss : List NewSegment) → 52 ≤ length old
    → half_at (new_file old ps ss) 44 ≡ e_phnum old + length ss
new_phnum old ps ss h =
    half_same (new_file old ps ss) (front old ps (length ss)) 44 (byte-new_file old ps ss 44 (omega arith))
    (byte-new_file old ps ss 45 (omega arith))
    ∙ front_phnum old ps (length ss) h

-- the lengths of the parts
length-gap : (old : List ℕ) → length (gap old) ≡ up16 (length old) - length old
length-gap old = length-replicate {A = ℕ} (up16 (length old) - length old) 0

-- a table without entries needs no place
table_fits : (at n long : ℕ) → (0 < n → at + 32 * n ≤ long) → 32 * n ≤ long - at
table_fits at zero long h = omega arith
table_fits at (suc n) long h = let l : at + 32 * suc n ≤ long = h (omega arith) in omega (arith, l)

length-old_table : (old : List ℕ) → HasTable old → length (old_table old) ≡ 32 * e_phnum old
length-old_table old h =
    let e : length (drop (e_phoff old) old) ≡ length old - e_phoff old = length-drop (e_phoff old) old in
    let fits : 32 * e_phnum old ≤ length old - e_phoff old = table_fits (e_phoff old) (e_phnum old) (length old) h in
    length-take-le (32 * e_phnum old) (drop (e_phoff old) old) (omega (arith, e, fits))

length_before : (old : List ℕ) (ps : List Patch) (more : ℕ) → length (front old ps more ++ gap old) ≡ up16 (length old)
length_before old ps more =
    let a : length (front old ps more) ≡ length old = length-front old ps more in
    let b : length (gap old) ≡ up16 (length old) - length old = length-gap old in
    length-append (front old ps more) (gap old) ∙ omega arith

length_through : (old : List ℕ) (ps : List Patch) (more : ℕ) → HasTable old
    → length ((front old ps more ++ gap old) ++ old_table old) ≡ up16 (length old) + 32 * e_phnum old
length_through old ps more h =
    let a : length (front old ps more ++ gap old) ≡ up16 (length old) = length_before old ps more in
    let b : length (old_table old) ≡ 32 * e_phnum old = length-old_table old h in
    length-append (front old ps more ++ gap old) (old_table old) ∙ omega arith

length_headers : (old : List ℕ) (ps : List Patch) (ss : List NewSegment) → HasTable old
    → length (((front old ps (length ss) ++ gap old) ++ old_table old) ++ new_headers (table_end old ss) ss)
    ≡ table_end old ss
length_headers old ps ss h =
    let a : length ((front old ps (length ss) ++ gap old) ++ old_table old) ≡ up16 (length old) + 32 * e_phnum old =
    length_through old ps (length ss) h in
    let b : length (new_headers (table_end old ss) ss) ≡ 32 * length ss = length-new_headers ss (table_end old ss) in
    length-append ((front old ps (length ss) ++ gap old) ++ old_table old) (new_headers (table_end old ss) ss)
    ∙ omega arith

pub length-new_file : (old : List ℕ) (ps : List Patch) (ss : List NewSegment) → HasTable old
    → length (new_file old ps ss) ≡ new_length old ss
unfolding new_file
length-new_file old ps ss h =
    length-append (((front old ps (length ss) ++ gap old) ++ old_table old) ++ new_headers (table_end old ss) ss)
    (contents (table_end old ss) ss)
    ∙ (ap (λ n. n + length (contents (table_end old ss) ss)) (length_headers old ps ss h)
    ∙ length-contents ss (table_end old ss))

-- the old headers stand in the new table
old_headers : (old : List ℕ) (ps : List Patch) (ss : List NewSegment) → IsReady old ps
    → entries (segment_at (new_file old ps ss)) 32 (up16 (length old)) (e_phnum old) ≡ segments_of old
unfolding new_file
old_headers old ps ss r =
    let before : List ℕ = front old ps (length ss) ++ gap old in
    let rest : List ℕ = new_headers (table_end old ss) ss ++ contents (table_end old ss) ss in
    let same : new_file old ps ss ≡ before ++ (old_table old ++ rest) = simp append_assoc in
    let start : length before ≡ up16 (length old) = length_before old ps (length ss) in
    let long : length (old_table old) ≡ 32 * e_phnum old = length-old_table old r.table in
    entries_same (segment_at (new_file old ps ss)) (segment_at old) 32 (up16 (length old)) (e_phoff old) (e_phnum old)
    (λ k l.
    segment_same (new_file old ps ss) old (up16 (length old) + 32 * k) (e_phoff old + 32 * k) (λ j m.
    let i : 32 * k + j < 32 * e_phnum old = omega arith in
    let i' : 32 * k + j < length (old_table old) = omega arith in
    let a : up16 (length old) + 32 * k + j ≡ length before + (32 * k + j) = omega arith in
    let b : e_phoff old + (32 * k + j) ≡ e_phoff old + 32 * k + j = omega arith in
    ap (slice_index (new_file old ps ss)) a
    ∙ (ap (λ x. slice_index x (length before + (32 * k + j))) same
    ∙ (get_or-append-add before (old_table old ++ rest) (32 * k + j) 0
    ∙ (get_or_append_left (old_table old) rest 0 (32 * k + j) i'
    ∙ (get_or-take (32 * e_phnum old) (drop (e_phoff old) old) (32 * k + j) 0 i
    ∙ (get_or-drop (e_phoff old) old (32 * k + j) 0 ∙ ap (slice_index old) b)))))))

-- and the added ones behind them
more_headers : (old : List ℕ) (ps : List Patch) (ss : List NewSegment) → IsReady old ps
    → entries (segment_at (new_file old ps ss)) 32 (up16 (length old) + 32 * e_phnum old) (length ss)
    ≡ headers_added old ss
unfolding new_file
more_headers old ps ss r =
    let before : List ℕ = (front old ps (length ss) ++ gap old) ++ old_table old in
    let rest : List ℕ = contents (table_end old ss) ss in
    let same : new_file old ps ss ≡ before ++ (new_headers (table_end old ss) ss ++ rest) =
    append_assoc before (new_headers (table_end old ss) ss) rest in
    subst (λ x. entries (segment_at x) 32 (up16 (length old) + 32 * e_phnum old) (length ss) ≡ headers_added old ss)
    (sym same)
    (headers_back ss (table_end old ss) (up16 (length old) + 32 * e_phnum old) before rest
    (length_through old ps (length ss) r.table))

pub segments-new_file : (old : List ℕ) (ps : List Patch) (ss : List NewSegment) → IsReady old ps
    → segments_of (new_file old ps ss) ≡ segments_of old ++ headers_added old ss
segments-new_file old ps ss r =
    let new : List ℕ = new_file old ps ss in
    ap (λ at. entries (segment_at new) 32 at (half_at new 44)) (new_phoff old ps ss r.long)
    ∙ (ap (entries (segment_at new) 32 (up16 (length old))) (new_phnum old ps ss r.long)
    ∙ (entries-add (segment_at new) 32 (up16 (length old)) (e_phnum old) (length ss)
    ∙ (ap (λ x. x ++ entries (segment_at new) 32 (up16 (length old) + 32 * e_phnum old) (length ss))
    (old_headers old ps ss r)
    ∙ ap (λ x. segments_of old ++ x) (more_headers old ps ss r))))

added_parts : (old : List ℕ) (ps : List Patch) (ss : List NewSegment) → IsReady old ps
    → map (file_part (new_file old ps ss)) (headers_added old ss) ≡ map (λ s. s.bytes) ss
unfolding new_file
added_parts old ps ss r = parts_back ss (table_end old ss) (((front old ps (length ss) ++ gap old) ++ old_table old)
    ++ new_headers (table_end old ss) ss) (length_headers old ps ss r.table)

-- the old bytes that are kept
new_kept : (old : List ℕ) (ps : List Patch) (ss : List NewSegment) (i : ℕ) → IsKept (length old) ps i
    → slice_index (new_file old ps ss) i ≡ slice_index old i
new_kept old ps ss i k = byte-new_file old ps ss i k.inside ∙
    (byte-front old ps (length ss) i k.no_phoff k.no_phnum ∙ byte-patched ps old i k.no_patch)

new_longer : (old : List ℕ) (ps : List Patch) (ss : List NewSegment) → HasTable old
    → length old ≤ length (new_file old ps ss)
new_longer old ps ss h =
    let e : length (new_file old ps ss) ≡ new_length old ss = length-new_file old ps ss h in
    let c : table_end old ss + length (contents (table_end old ss) ss) ≡ new_length old ss =
    length-contents ss (table_end old ss) in
    omega arith

new_kept_part : (old : List ℕ) (ps : List Patch) (ss : List NewSegment) → HasTable old → (i n : ℕ)
    → ((k : ℕ) → k < n → IsKept (length old) ps (i + k)) → take n (drop i (new_file old ps ss)) ≡ take n (drop i old)
new_kept_part old ps ss h i zero w = refl
new_kept_part old ps ss h i (suc n) w =
    let new : List ℕ = new_file old ps ss in
    let longer : length old ≤ length new = new_longer old ps ss h in
    let inside : i + n < length old = (w n (omega arith)).inside in
    let left : length (take (suc n) (drop i new)) ≡ suc n = length-take-le (suc n) (drop i new)
    (let e : length (drop i new) ≡ length new - i = length-drop i new in omega arith) in
    let right : length (take (suc n) (drop i old)) ≡ suc n =
    length-take-le (suc n) (drop i old) (let e : length (drop i old) ≡ length old - i = length-drop i old in
    omega arith) in
    ext_get_or 0 (take (suc n) (drop i new)) (take (suc n) (drop i old)) (left ∙ sym right) (λ k l.
    let m : k < suc n = omega arith in
    get_or-take (suc n) (drop i new) k 0 m
    ∙ (get_or-drop i new k 0
    ∙ (new_kept old ps ss (i + k) (w k m)
    ∙ (sym (get_or-drop i old k 0) ∙ sym (get_or-take (suc n) (drop i old) k 0 m)))))

new_kept_half : (old : List ℕ) (ps : List Patch) (ss : List NewSegment) (i : ℕ) → IsKept (length old) ps i
    → IsKept (length old) ps (i + 1) → half_at (new_file old ps ss) i ≡ half_at old i
new_kept_half old ps ss i k l = half_same (new_file old ps ss) old i (new_kept old ps ss i k)
    (new_kept old ps ss (i + 1) l)

-- a byte of the file header beside the two fields is kept where no patch is in the header
pub header_kept : (old : List ℕ) (ps : List Patch) → 52 ≤ length old → All (λ p. 52 ≤ p.offset) ps → (i : ℕ) → i < 52
    → IsBeside 28 4 i → IsBeside 44 2 i → IsKept (length old) ps i
header_kept old ps h w i l a b = record {
  inside = omega arith;
  no_phoff = a;
  no_phnum = b;
  no_patch = All-weaker (λ p. 52 ≤ p.offset) (λ p. IsBeside p.offset 4 i) (λ p m. inl (omega arith)) ps w;
}

new_sections : (old : List ℕ) (ps : List Patch) (ss : List NewSegment) → 52 ≤ length old → All (λ p. 52 ≤ p.offset) ps
    → ((k : ℕ) → k < 40 * e_shnum old → IsKept (length old) ps (e_shoff old + k))
    → sections_of (new_file old ps ss) ≡ sections_of old
new_sections old ps ss h w t =
    let new : List ℕ = new_file old ps ss in
    let start : word_at new 32 ≡ word_at old 32 = word_same new old 32 32
    (λ k l. new_kept old ps ss (32 + k) (header_kept old ps h w (32 + k) (omega arith) (inr (omega arith))
    (inl (omega arith)))) in
    let count : half_at new 48 ≡ half_at old 48 =
    new_kept_half old ps ss 48 (header_kept old ps h w 48 (omega arith) (inr (omega arith)) (inr (omega arith)))
    (header_kept old ps h w 49 (omega arith) (inr (omega arith)) (inr (omega arith))) in
    ap (λ at. entries (section_at new) 40 at (half_at new 48)) start
    ∙ (ap (entries (section_at new) 40 (word_at old 32)) count
    ∙ entries_same (section_at new) (section_at old) 40 (word_at old 32) (word_at old 32) (half_at old 48) (λ k l.
    section_same new old (word_at old 32 + 40 * k) (word_at old 32 + 40 * k) (λ j m.
    let place : word_at old 32 + (40 * k + j) ≡ word_at old 32 + 40 * k + j = omega arith in
    subst (λ i. slice_index new i ≡ slice_index old i) place
    (new_kept old ps ss (word_at old 32 + (40 * k + j)) (t (40 * k + j) (omega arith))))))

-- the patched words
new_patched : (old : List ℕ) (ps : List Patch) (ss : List NewSegment) → IsReady old ps → AreDisjointPatches ps
    → All (λ p. (k : ℕ) → k < 4 → slice_index (new_file old ps ss) (p.offset + k) ≡ slice_index (word_bytes p.word) k)
    ps
new_patched old ps ss r a = λ j d l k m.
    let inside : (get_or ps j d).offset + 4 ≤ length old = r.inside j d l in
    byte-new_file old ps ss _ (omega arith) ∙ front_patched old ps (length ss) a r.inside j d l k m

new_patched_words : (old : List ℕ) (ps : List Patch) (ss : List NewSegment) → IsReady old ps → AreDisjointPatches ps
    → All (λ p. word_at (new_file old ps ss) p.offset ≡ p.word) ps
new_patched_words old ps ss r a = λ j d l.
    word_same (new_file old ps ss) (word_bytes (get_or ps j d).word) (get_or ps j d).offset 0 (λ k m.
    let e : k ≡ 0 + k = omega arith in
    new_patched old ps ss r a j d l k m ∙ ap (slice_index (word_bytes (get_or ps j d).word)) e)
    ∙ word-bytes (get_or ps j d).word

pub new_layout : (old : List ℕ) (ps : List Patch) (ss : List NewSegment) → IsReady old ps
    → NewLayout old ps ss (new_file old ps ss)
new_layout old ps ss r = record {
  length_is = length-new_file old ps ss r.table;
  phoff = new_phoff old ps ss r.long;
  phnum = new_phnum old ps ss r.long;
  headers = segments-new_file old ps ss r;
  added = added_parts old ps ss r;
  within = subst (λ n. All (IsWithin n) (headers_added old ss)) (sym (length-new_file old ps ss r.table))
      (within_end ss (table_end old ss));
  longer = new_longer old ps ss r.table;
  kept = new_kept old ps ss;
  kept_parts = new_kept_part old ps ss r.table;
  kept_words = λ i h. word_same (new_file old ps ss) old i i (λ k l. new_kept old ps ss (i + k) (h k l));
  kept_halves = new_kept_half old ps ss;
  sections = new_sections old ps ss r.long;
  patched_bytes = new_patched old ps ss r;
  patched_words = new_patched_words old ps ss r;
}
