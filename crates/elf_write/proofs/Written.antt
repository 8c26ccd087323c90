-- Bytes and words of a list after words were put into it.
use Rattle.std.proofs.Common.{◌≡◌, ℕ, zero, suc, ◌+◌, ◌/◌, ◌%◌, ◌<◌, ◌≤◌, inl, inr, List, [], ◌∷◌, length, get_or}
use Rattle.std.proofs.Common.{slice_index, refl, sym, ◌∙◌, subst, arith}
use Rattle.std.proofs.lemmas.Grind.{common_steps}
use Rattle.std.proofs.lemmas.List.{length-set}
use Rattle.std.proofs.lemmas.List.Elements.{All-cons, All-weaker}
use Rattle.std.specs.List.{All}
use Rattle.elf_spec.specs.declared.Patch.{Patch}
use Rattle.elf_spec.specs.Fields.{half_at, word_at, word_bytes}
use Rattle.elf_spec.specs.NewFile.{put_half, put_word, patched, front, up16}
use Rattle.elf_spec.specs.Records.{e_phnum}
use Rattle.elf_write.specs.Inputs.{IsInside}
use Rattle.elf_write.specs.Layout.{AreDisjointPatches, IsApart, IsBeside}

-- `All` over a list that begins with an element
pub all_head : {A : Type 0} (P : A → Type 0) (x : A) (xs : List A) → All P (x ∷ xs) → P x
all_head P x xs w = w 0 x (omega arith)

pub all_tail : {A : Type 0} (P : A → Type 0) (x : A) (xs : List A) → All P (x ∷ xs) → All P xs
all_tail P x xs w = λ k d m. w (suc k) d (omega arith)

pub length-put_word : (at w : ℕ) (bs : List ℕ) → length (put_word at w bs) ≡ length bs
unfolding put_word
length-put_word at w bs = simp length-set

pub length-put_half : (at w : ℕ) (bs : List ℕ) → length (put_half at w bs) ≡ length bs
unfolding put_half
length-put_half at w bs = simp length-set

pub length-patched : (ps : List Patch) (bs : List ℕ) → length (patched ps bs) ≡ length bs
length-patched [] bs = refl
length-patched (p ∷ ps) bs = length-patched ps (put_word p.offset p.word bs) ∙ length-put_word p.offset p.word bs

-- a write leaves the bytes beside it
pub byte-put_word : (at w : ℕ) (bs : List ℕ) (i : ℕ) → IsBeside at 4 i
    → slice_index (put_word at w bs) i ≡ slice_index bs i
unfolding put_word
byte-put_word at w bs i b = grind (arith, common_steps)

pub byte-put_half : (at w : ℕ) (bs : List ℕ) (i : ℕ) → IsBeside at 2 i
    → slice_index (put_half at w bs) i ≡ slice_index bs i
unfolding put_half
byte-put_half at w bs i b = grind (arith, common_steps)

pub byte-patched : (ps : List Patch) (bs : List ℕ) (i : ℕ) → All (λ p. IsBeside p.offset 4 i) ps
    → slice_index (patched ps bs) i ≡ slice_index bs i
byte-patched [] bs i w = refl
byte-patched (p ∷ ps) bs i w =
    byte-patched ps (put_word p.offset p.word bs) i (all_tail (λ q. IsBeside q.offset 4 i) p ps w)
    ∙ byte-put_word p.offset p.word bs i (all_head (λ q. IsBeside q.offset 4 i) p ps w)

-- the bytes of a word where it was written
pub byte_written : (at w : ℕ) (bs : List ℕ) (k : ℕ) → k < 4 → at + 4 ≤ length bs
    → slice_index (put_word at w bs) (at + k) ≡ slice_index (word_bytes w) k
unfolding put_word word_bytes
byte_written at w bs zero l h = let e : at + 0 ≡ at = omega arith in rw e (grind (arith, common_steps))
byte_written at w bs (suc zero) l h = grind (arith, common_steps)
byte_written at w bs (suc (suc zero)) l h = grind (arith, common_steps)
byte_written at w bs (suc (suc (suc zero))) l h = grind (arith, common_steps)
byte_written at w bs (suc (suc (suc (suc k)))) l h = absurd (omega arith)

-- words of equal bytes are equal
pub word_same : (a b : List ℕ) (i j : ℕ) → ((k : ℕ) → k < 4 → slice_index a (i + k) ≡ slice_index b (j + k))
    → word_at a i ≡ word_at b j
unfolding word_at
word_same a b i j h =
    let e : slice_index a i ≡ slice_index b j = subst (λ x. slice_index a x ≡ slice_index b j) (omega arith)
    (subst (λ x. slice_index a (i + 0) ≡ slice_index b x) (omega arith) (h 0 (omega arith))) in
    let e1 : slice_index a (i + 1) ≡ slice_index b (j + 1) = h 1 (omega arith) in
    let e2 : slice_index a (i + 2) ≡ slice_index b (j + 2) = h 2 (omega arith) in
    let e3 : slice_index a (i + 3) ≡ slice_index b (j + 3) = h 3 (omega arith) in
    rw (e, e1, e2, e3)

pub half_same : (a b : List ℕ) (i : ℕ) → slice_index a i ≡ slice_index b i
    → slice_index a (i + 1) ≡ slice_index b (i + 1) → half_at a i ≡ half_at b i
unfolding half_at
half_same a b i e f = rw (e, f)

-- a number is what its four bytes read as
pub word-bytes : (w : ℕ) → word_at (word_bytes w) 0 ≡ w
unfolding word_at word_bytes
word-bytes w = omega arith

pub word_written : (at w : ℕ) (bs : List ℕ) → at + 4 ≤ length bs → word_at (put_word at w bs) at ≡ w
word_written at w bs h =
    word_same (put_word at w bs) (word_bytes w) at 0 (λ k l. let e : 0 + k ≡ k = omega arith in
    subst (λ x. slice_index (put_word at w bs) (at + k) ≡ slice_index (word_bytes w) x) (sym e)
    (byte_written at w bs k l h))
    ∙ word-bytes w

pub half_written : (at w : ℕ) (bs : List ℕ) → at + 2 ≤ length bs → half_at (put_half at w bs) at ≡ w
unfolding put_half half_at
half_written at w bs h =
    let e : slice_index (put_half at w bs) at ≡ w % 256 = grind (arith, common_steps) in
    let e1 : slice_index (put_half at w bs) (at + 1) ≡ w / 256 = grind (arith, common_steps) in
    rw (e, e1) (omega arith)

-- a byte of one patch is beside every patch that is apart from it
beside_from_apart : (p q : Patch) (k : ℕ) → k < 4 → IsApart p q → IsBeside q.offset 4 (p.offset + k)
beside_from_apart p q k l (inl a) = inl (omega arith)
beside_from_apart p q k l (inr a) = inr (omega arith)

-- each of the patches that are apart stands in the patched bytes
pub patched_written : (ps : List Patch) (bs : List ℕ) → AreDisjointPatches ps → All (IsInside (length bs)) ps
    → All (λ p. (k : ℕ) → k < 4 → slice_index (patched ps bs) (p.offset + k) ≡ slice_index (word_bytes p.word) k) ps
patched_written [] bs a w = λ k d l. absurd (omega arith)
patched_written (p ∷ ps) bs a w =
    let more : List ℕ = put_word p.offset p.word bs in
    let long : length more ≡ length bs = length-put_word p.offset p.word bs in
    let inside : All (IsInside (length more)) ps = subst (λ n. All (IsInside n) ps) (sym long)
    (all_tail (IsInside (length bs)) p ps w) in
    All-cons (λ q. (k : ℕ) → k < 4 → slice_index (patched ps more) (q.offset + k) ≡ slice_index (word_bytes q.word) k) p
    ps
    (λ k l. byte-patched ps more (p.offset + k) (All-weaker (IsApart p) (λ q. IsBeside q.offset 4 (p.offset + k))
    (λ q. beside_from_apart p q k l) ps a.1.0) ∙ byte_written p.offset p.word bs k l
    (all_head (IsInside (length bs)) p ps w))
    (patched_written ps more a.1.1 inside)

-- patches that are apart are behind the file header
pub behind_header : (ps : List Patch) → AreDisjointPatches ps → All (λ p. 52 ≤ p.offset) ps
behind_header [] a = λ k d l. absurd (omega arith)
behind_header (p ∷ ps) a = All-cons (λ q. 52 ≤ q.offset) p ps a.0 (behind_header ps a.1.1)

-- the front of the new file has the old length
pub length-front : (old : List ℕ) (ps : List Patch) (more : ℕ) → length (front old ps more) ≡ length old
unfolding front
length-front old ps more = length-put_half 44 _ _ ∙ (length-put_word 28 _ _ ∙ length-patched ps old)

-- a byte of the front beside the two fields
pub byte-front : (old : List ℕ) (ps : List Patch) (more i : ℕ) → IsBeside 28 4 i → IsBeside 44 2 i
    → slice_index (front old ps more) i ≡ slice_index (patched ps old) i
unfolding front
byte-front old ps more i a b = byte-put_half 44 _ _ i b ∙ byte-put_word 28 _ (patched ps old) i a

pub front_phoff : (old : List ℕ) (ps : List Patch) (more : ℕ) → 52 ≤ length old
    → word_at (front old ps more) 28 ≡ up16 (length old)
unfolding front
front_phoff old ps more h =
    let long : length (patched ps old) ≡ length old = length-patched ps old in
    word_same (front old ps more) (put_word 28 (up16 (length old)) (patched ps old)) 28 28
    (λ k l. byte-put_half 44 _ _ (28 + k) (inl (omega arith)))
    ∙ word_written 28 _ (patched ps old) (omega arith)

pub front_phnum : (old : List ℕ) (ps : List Patch) (more : ℕ) → 52 ≤ length old
    → half_at (front old ps more) 44 ≡ e_phnum old + more
unfolding front
front_phnum old ps more h =
    let long : length (put_word 28 (up16 (length old)) (patched ps old)) ≡ length old =
    length-put_word 28 _ (patched ps old) ∙ length-patched ps old in
    half_written 44 _ _ (omega arith)

pub front_patched : (old : List ℕ) (ps : List Patch) (more : ℕ) → AreDisjointPatches ps → All (IsInside (length old)) ps
    → All (λ p. (k : ℕ) → k < 4 → slice_index (front old ps more) (p.offset + k) ≡ slice_index (word_bytes p.word) k) ps
front_patched old ps more a w = λ j d l k m.
    let far : 52 ≤ (get_or ps j d).offset = behind_header ps a j d l in
    byte-front old ps more _ (inr (omega arith)) (inr (omega arith)) ∙ patched_written ps old a w j d l k m
