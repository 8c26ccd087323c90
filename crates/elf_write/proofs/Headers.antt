-- The program headers of the new file, and the bytes that the added ones name.
use Rattle.std.proofs.Common.{◌≡◌, ℕ, zero, suc, ◌+◌, ◌-◌, ◌*◌, ◌/◌, ◌%◌, ◌^◌, ◌<◌, ◌≤◌, List, [], ◌∷◌, ◌++◌, length}
use Rattle.std.proofs.Common.{slice_index, take, drop, map, replicate, refl, sym, ap, ◌∙◌, subst, append_assoc, arith}
use Rattle.std.proofs.lemmas.List.{append-nil, length-append, length-replicate, get_or-append-add, drop_at, take_at}
use Rattle.std.proofs.lemmas.List.Elements.{All-cons}
use Rattle.std.specs.List.{All}
use Rattle.elf_spec.specs.declared.NewSegment.{NewSegment}
use Rattle.elf_spec.specs.Fields.{word_at, word_bytes}
use Rattle.elf_spec.specs.NewFile.{header_bytes, new_headers, contents, up4096}
use Rattle.elf_spec.specs.Records.{entries, section_at, segment_at}
use Rattle.elf_spec.proofs.Entries.{entries_first}
use Rattle.elf_write.specs.Ends.{contents_end}
use Rattle.elf_write.specs.Layout.{added_header, added_headers, file_part, IsWithin}
use Rattle.elf_write.proofs.Written.{word_same}

-- tables of equal records are equal
pub entries_same : {A : Type 0} (f g : ℕ → A) (size i j n : ℕ) → ((k : ℕ) → k < n → f (i + size * k) ≡ g (j + size * k))
    → entries f size i n ≡ entries g size j n
entries_same f g size i j zero h = refl
entries_same f g size i j (suc n) h =
    let first : entries f size i n ≡ entries g size j n = entries_same f g size i j n (λ k l. h k (omega arith)) in
    let last : f (i + size * n) ≡ g (j + size * n) = h n (omega arith) in
    rw (first, last)

-- a table in two parts
pub entries-add : {A : Type 0} (f : ℕ → A) (size at m n : ℕ)
    → entries f size at (m + n) ≡ entries f size at m ++ entries f size (at + size * m) n
entries-add f size at m zero = let e : m + 0 ≡ m = omega arith in rw e (sym (append-nil _))
entries-add f size at m (suc n) =
    let e : m + suc n ≡ suc (m + n) = omega arith in
    let place : at + size * (m + n) ≡ at + size * m + size * n = omega arith in
    let first : entries f size at (m + n) ≡ entries f size at m ++ entries f size (at + size * m) n =
    entries-add f size at m n in
    rw e (rw (first, place) (append_assoc (entries f size at m) (entries f size (at + size * m) n)
    (f (at + size * m + size * n) ∷ [])))

-- headers of equal bytes are equal
pub segment_same : (a b : List ℕ) (i j : ℕ) → ((k : ℕ) → k < 32 → slice_index a (i + k) ≡ slice_index b (j + k))
    → segment_at a i ≡ segment_at b j
unfolding segment_at
segment_same a b i j h =
    let field : (o : ℕ) → o + 4 ≤ 32 → word_at a (i + o) ≡ word_at b (j + o) =
    λ (o : ℕ) (l : o + 4 ≤ 32). word_same a b (i + o) (j + o) (λ k m.
    subst (λ x. slice_index a x ≡ slice_index b (j + o + k)) (omega arith)
    (subst (λ x. slice_index a (i + (o + k)) ≡ slice_index b x) (omega arith) (h (o + k) (omega arith)))) in
    let e0 : word_at a i ≡ word_at b j = word_same a b i j (λ k m. h k (omega arith)) in
    let e4 : word_at a (i + 4) ≡ word_at b (j + 4) = field 4 (omega arith) in
    let e8 : word_at a (i + 8) ≡ word_at b (j + 8) = field 8 (omega arith) in
    let e12 : word_at a (i + 12) ≡ word_at b (j + 12) = field 12 (omega arith) in
    let e16 : word_at a (i + 16) ≡ word_at b (j + 16) = field 16 (omega arith) in
    let e20 : word_at a (i + 20) ≡ word_at b (j + 20) = field 20 (omega arith) in
    let e24 : word_at a (i + 24) ≡ word_at b (j + 24) = field 24 (omega arith) in
    let e28 : word_at a (i + 28) ≡ word_at b (j + 28) = field 28 (omega arith) in
    rw (e0, e4, e8, e12, e16, e20, e24, e28)

-- the same of section headers
pub section_same : (a b : List ℕ) (i j : ℕ) → ((k : ℕ) → k < 40 → slice_index a (i + k) ≡ slice_index b (j + k))
    → section_at a i ≡ section_at b j
unfolding section_at
section_same a b i j h =
    let field : (o : ℕ) → o + 4 ≤ 40 → word_at a (i + o) ≡ word_at b (j + o) =
    λ (o : ℕ) (l : o + 4 ≤ 40). word_same a b (i + o) (j + o) (λ k m.
    subst (λ x. slice_index a x ≡ slice_index b (j + o + k)) (omega arith)
    (subst (λ x. slice_index a (i + (o + k)) ≡ slice_index b x) (omega arith) (h (o + k) (omega arith)))) in
    let e0 : word_at a i ≡ word_at b j = word_same a b i j (λ k m. h k (omega arith)) in
    let e4 : word_at a (i + 4) ≡ word_at b (j + 4) = field 4 (omega arith) in
    let e8 : word_at a (i + 8) ≡ word_at b (j + 8) = field 8 (omega arith) in
    let e12 : word_at a (i + 12) ≡ word_at b (j + 12) = field 12 (omega arith) in
    let e16 : word_at a (i + 16) ≡ word_at b (j + 16) = field 16 (omega arith) in
    let e20 : word_at a (i + 20) ≡ word_at b (j + 20) = field 20 (omega arith) in
    let e24 : word_at a (i + 24) ≡ word_at b (j + 24) = field 24 (omega arith) in
    let e28 : word_at a (i + 28) ≡ word_at b (j + 28) = field 28 (omega arith) in
    let e32 : word_at a (i + 32) ≡ word_at b (j + 32) = field 32 (omega arith) in
    let e36 : word_at a (i + 36) ≡ word_at b (j + 36) = field 36 (omega arith) in
    rw (e0, e4, e8, e12, e16, e20, e24, e28, e32, e36)

-- a number is what its four bytes add up to
word_back : (n : ℕ) → n % 256 + n / 256 % 256 * 2 ^ 8 + n / 65536 % 256 * 2 ^ 16 + n / 16777216 * 2 ^ 24 ≡ n
word_back n = omega arith

-- the header that is written reads back
pub header_back : (offset : ℕ) (s : NewSegment) (post : List ℕ)
    → segment_at (header_bytes offset s ++ post) 0 ≡ added_header offset s
unfolding segment_at header_bytes word_at word_bytes
header_back offset s post = rw (
  word_back offset,
  word_back s.vaddr,
  word_back (length s.bytes),
  word_back s.mem_size,
  word_back s.flags,
)

pub length-header_bytes : (offset : ℕ) (s : NewSegment) → length (header_bytes offset s) ≡ 32
unfolding header_bytes word_bytes
length-header_bytes offset s = refl

pub length-new_headers : (ss : List NewSegment) (end : ℕ) → length (new_headers end ss) ≡ 32 * length ss
length-new_headers [] end = refl
length-new_headers (s ∷ ss) end =
    let first : length (header_bytes (up4096 end) s) ≡ 32 = length-header_bytes _ s in
    let rest : length (new_headers (up4096 end + length s.bytes) ss) ≡ 32 * length ss = length-new_headers ss _ in
    simp length-append (omega arith)

-- the headers that are written read back, wherever they stand
pub headers_back : (ss : List NewSegment) (end at : ℕ) (pre post : List ℕ) → length pre ≡ at
    → entries (segment_at (pre ++ (new_headers end ss ++ post))) 32 at (length ss) ≡ added_headers end ss
headers_back [] end at pre post l = refl
headers_back (s ∷ ss) end at pre post l =
    let first : List ℕ = header_bytes (up4096 end) s in
    let rest : List ℕ = new_headers (up4096 end + length s.bytes) ss in
    let all : List ℕ = pre ++ ((first ++ rest) ++ post) in
    let same : all ≡ (pre ++ first) ++ (rest ++ post) = simp append_assoc in
    let long : length (pre ++ first) ≡ at + 32 = length-append pre first
    ∙ (let e : length first ≡ 32 = length-header_bytes _ s in omega arith) in
    let behind : entries (segment_at all) 32 (at + 32) (length ss) ≡ added_headers (up4096 end + length s.bytes) ss =
    subst (λ x. entries (segment_at x) 32 (at + 32) (length ss) ≡ added_headers (up4096 end + length s.bytes) ss)
    (sym same) (headers_back ss (up4096 end + length s.bytes) (at + 32) (pre ++ first) post long) in
    let here : segment_at all at ≡ added_header (up4096 end) s =
    segment_same all ((first ++ rest) ++ post) at 0 (λ k m.
    let z : 0 + k ≡ k = omega arith in
    rw z (subst (λ x. slice_index all (x + k) ≡ slice_index ((first ++ rest) ++ post) k) l
    (get_or-append-add pre ((first ++ rest) ++ post) k 0)))
    ∙ subst (λ x. segment_at x 0 ≡ added_header (up4096 end) s) (sym (append_assoc first rest post))
    (header_back (up4096 end) s (rest ++ post)) in
    entries_first (segment_at all) 32 at (length ss) ∙ rw (here, behind)

-- where the segments are laid out
pub length-contents : (ss : List NewSegment) (end : ℕ) → end + length (contents end ss) ≡ contents_end end ss
length-contents [] end = omega arith
length-contents (s ∷ ss) end =
    let rest : up4096 end + length s.bytes + length (contents (up4096 end + length s.bytes) ss)
    ≡ contents_end (up4096 end + length s.bytes) ss = length-contents ss _ in
    let pad : length (replicate {A = ℕ} (up4096 end - end) 0) ≡ up4096 end - end =
    length-replicate {A = ℕ} (up4096 end - end) 0 in
    simp length-append (omega arith)

pub within_end : (ss : List NewSegment) (end : ℕ) → All (IsWithin (contents_end end ss)) (added_headers end ss)
within_end [] end = λ k d l. absurd (omega arith)
within_end (s ∷ ss) end =
    let rest : up4096 end + length s.bytes + length (contents (up4096 end + length s.bytes) ss)
    ≡ contents_end (up4096 end + length s.bytes) ss = length-contents ss _ in
    All-cons (IsWithin (contents_end end (s ∷ ss))) (added_header (up4096 end) s)
    (added_headers (up4096 end + length s.bytes) ss) (omega arith) (within_end ss (up4096 end + length s.bytes))

-- each added header names its segment's bytes
pub parts_back : (ss : List NewSegment) (end : ℕ) (pre : List ℕ) → length pre ≡ end
    → map (file_part (pre ++ contents end ss)) (added_headers end ss) ≡ map (λ s. s.bytes) ss
parts_back [] end pre l = refl
parts_back (s ∷ ss) end pre l =
    let next : ℕ = up4096 end + length s.bytes in
    let pad : List ℕ = replicate (up4096 end - end) 0 in
    let rest : List ℕ = contents next ss in
    let all : List ℕ = pre ++ ((pad ++ s.bytes) ++ rest) in
    let long_pad : length pad ≡ up4096 end - end = length-replicate {A = ℕ} (up4096 end - end) 0 in
    let long : length (pre ++ pad) ≡ up4096 end = length-append pre pad ∙ omega arith in
    let longer : length ((pre ++ pad) ++ s.bytes) ≡ next = length-append (pre ++ pad) s.bytes ∙ omega arith in
    let cut : all ≡ (pre ++ pad) ++ (s.bytes ++ rest) = simp append_assoc in
    let joined : all ≡ ((pre ++ pad) ++ s.bytes) ++ rest = simp append_assoc in
    let here : take (length s.bytes) (drop (up4096 end) all) ≡ s.bytes =
    subst (λ x. take (length s.bytes) (drop (up4096 end) x) ≡ s.bytes) (sym cut)
    (ap (take (length s.bytes)) (drop_at (pre ++ pad) (s.bytes ++ rest) (up4096 end) long)
    ∙ take_at s.bytes rest (length s.bytes) refl) in
    let behind : map (file_part all) (added_headers next ss) ≡ map (λ t. t.bytes) ss =
    subst (λ x. map (file_part x) (added_headers next ss) ≡ map (λ (t : NewSegment). t.bytes) ss) (sym joined)
    (parts_back ss next ((pre ++ pad) ++ s.bytes) longer) in
    rw (here, behind)
