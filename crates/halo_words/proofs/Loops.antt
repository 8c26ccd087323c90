-- One more word of a line is read.
use Rattle.std.proofs.Common.{◌≡◌, ◌∙◌, ◌+◌, ◌<◌, ◌≤◌, ℕ, zero, suc, List, [], ◌∷◌, ◌++◌, length, map, take, get_or}
use Rattle.std.proofs.Common.{slice_get, Option, Some, None, refl, sym, ap, add-one, arith, append_assoc, append-nil}
use Rattle.std.proofs.lemmas.List.{take_all, take-map, length-map}
use Rattle.std.specs.Prelude.{String, string_bytes}
use Rattle.std.specs.declared.alloc.Global.{Global}
use Rattle.text_fields.specs.Reading.{◌>>=◌}
use Rattle.halo_words.specs.Table.{CommandForm}
use Rattle.halo_words.specs.Grammar.{texts}
use Rattle.halo_words.specs.Reading.{Reading, named, names_in, step, read_on}

-- the bytes of the word at a place
pub text_at : (words : List (String Global)) (at : ℕ) (word : String Global) → at < length words
    → word ≡ get_or words at word
    → slice_get (texts words) at ≡ Some (string_bytes word)
text_at [] at word within is = absurd (omega arith)
text_at (first ∷ rest) zero word within is = ap (λ w. Some (string_bytes w)) (sym is)
text_at (first ∷ rest) (suc at) word within is = text_at rest at word (omega arith) is

pub take-get : {X : Type 0} (xs : List X) (i : ℕ) (x : X) → slice_get xs i ≡ Some x
    → take (suc i) xs ≡ take i xs ++ x ∷ []
take-get [] i x is = absurd (cc)
take-get (y ∷ ys) zero x is = let same : y ≡ x = cc in ap (λ z. z ∷ []) same
take-get (y ∷ ys) (suc i) x is = ap (λ zs. y ∷ zs) (take-get ys i x is)

pub names-append : (xs ys : List (List ℕ)) → names_in (xs ++ ys) ≡ names_in xs ++ names_in ys
names-append [] ys = refl
names-append (x ∷ xs) ys =
    ap (λ n. named x ++ n) (names-append xs ys) ∙ sym (append_assoc (named x) (names_in xs) (names_in ys))

-- words are read one part after the other
parts_by : (shape : CommandForm) (o : Option Reading) (xs ys : List (List ℕ))
    → ((next : Reading) → read_on shape next (xs ++ ys) ≡ (read_on shape next xs >>= λ r. read_on shape r ys))
    → (o >>= λ next. read_on shape next (xs ++ ys)) ≡ ((o >>= λ next. read_on shape next xs) >>= λ r. read_on shape r
    ys)
parts_by shape None xs ys later = refl
parts_by shape (Some next) xs ys later = later next

pub read-append : (shape : CommandForm) (r : Reading) (xs ys : List (List ℕ))
    → read_on shape r (xs ++ ys) ≡ (read_on shape r xs >>= λ next. read_on shape next ys)
read-append shape r [] ys = refl
read-append shape r (x ∷ xs) ys = parts_by shape (step shape r x) xs ys (λ next. read-append shape next xs ys)

module _ (words : List (List ℕ)) (at : ℕ) (word : List ℕ) (here : slice_get words at ≡ Some word) where
  pub one_more : (shape : CommandForm) (start r next : Reading) → read_on shape start (take at words) ≡ Some r
      → step shape r word ≡ Some next
      → read_on shape start (take (at + 1) words) ≡ Some next
  one_more shape start r next before met = rw (add-one, take-get words at word here, read-append, before, met) refl

  pub names_more : names_in (take (at + 1) words) ≡ names_in (take at words) ++ named word
  names_more = rw (add-one, take-get words at word here, names-append, append-nil) refl

-- at the end all words are read
pub all_read : (shape : CommandForm) (start r : Reading) (words : List (String Global)) (at : ℕ) → length words ≤ at
    → read_on shape start (take at (texts words)) ≡ Some r → read_on shape start (texts words) ≡ Some r
all_read shape start r words at end read =
    let whole : take at (texts words) ≡ texts words = take_all at (texts words) (simp length-map end) in
    rw whole at read

pub taken_texts : (words : List (String Global)) (at : ℕ) → take at (texts words) ≡ texts (take at words)
taken_texts words at = take-map string_bytes at words

-- one more element, seen through two views
mapped-suc : {X Y Z : Type 0} (f : Y → Z) (g : X → Y) (xs : List X) (i : ℕ) (x : X) → slice_get xs i ≡ Some x
    → map f (map g (take (suc i) xs)) ≡ map f (map g (take i xs)) ++ f (g x) ∷ []
mapped-suc f g [] i x is = absurd (cc)
mapped-suc f g (y ∷ ys) zero x is = let same : y ≡ x = cc in ap (λ z. f (g z) ∷ []) same
mapped-suc f g (y ∷ ys) (suc i) x is = ap (λ zs. f (g y) ∷ zs) (mapped-suc f g ys i x is)

pub mapped_more : {X Y Z : Type 0} (f : Y → Z) (g : X → Y) (xs : List X) (i : ℕ) (x : X) → slice_get xs i ≡ Some x
    → map f (map g (take (i + 1) xs)) ≡ map f (map g (take i xs)) ++ f (g x) ∷ []
mapped_more f g xs i x is = ap (λ n. map f (map g (take n xs))) (add-one i) ∙ mapped-suc f g xs i x is
