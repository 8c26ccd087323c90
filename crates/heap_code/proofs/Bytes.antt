-- Bytes and the words that they are.
use Rattle.std.proofs.Common.{◌≡◌, ℕ, zero, suc, ◌+◌, ◌-◌, ◌%◌, ◌^◌, ◌<◌, ◌≤◌, ◌==◌, List, [], ◌∷◌, Bool, true, false}
use Rattle.std.proofs.Common.{cond, get_or, refl, ap, sym, ◌∙◌, subst, arith}
use Rattle.std.specs.Prelude.{Option, Some, None, option_map, option_and_then, unwrap_or}
use Rattle.std.proofs.Math.Nat.{pow-suc}
use Rattle.rv_isa.specs.declared.Width.TheVariants.{Word}
use Rattle.machine_spec.specs.Memory.{Range, byte_of}
use Rattle.machine_spec.specs.Widths.{number_of, loaded_as}
use Rattle.flat_spec.specs.Stores.{loaded, bytes_from}
use Rattle.heap_spec.specs.Service.{words_of}
use Rattle.heap_code.proofs.Returning.{byte_from}

abbrev pub Small : List Range → Type 0
Small memory = (a b : ℕ) → byte_of memory a ≡ Some b → b < 256

-- the first of some bytes, and the others
pub record Split (memory : List Range) (a n : ℕ) (bs : List ℕ) : Type 0 where
  pub first : ℕ
  pub rest : List ℕ
  pub is : bs ≡ first ∷ rest
  pub here : byte_of memory a ≡ Some first
  pub behind : bytes_from memory (a + 1) n ≡ Some rest

split : (memory : List Range) (a n : ℕ) (bs : List ℕ) → bytes_from memory a (suc n) ≡ Some bs → Split memory a n bs
split memory a n bs e = by (byte_of memory a) refl (bytes_from memory (a + 1) n) refl e
  where
    by : (o : Option ℕ) → byte_of memory a ≡ o → (r : Option (List ℕ)) → bytes_from memory (a + 1) n ≡ r
        → option_and_then (λ b. option_map (λ bs. b ∷ bs) r) o ≡ Some bs → Split memory a n bs
    by None u r v e = absurd (cc)
    by (Some b) u None v e = absurd (cc)
    by (Some b) u (Some cs) v e = record {
      first = b;
      rest = cs;
      is = (let q : bs ≡ b ∷ cs = cc in q);
      here = u;
      behind = v;
    }

none_left : (memory : List Range) (a : ℕ) (bs : List ℕ) → bytes_from memory a 0 ≡ Some bs → bs ≡ []
none_left memory a bs e = cc

-- the number of n bytes is below 256 ^ n
number_small : (memory : List Range) → Small memory → (a n : ℕ) (bs : List ℕ)
    → bytes_from memory a n ≡ Some bs → number_of bs < 256 ^ n
number_small memory small a zero bs e = subst (λ xs. number_of xs < 1) (sym (none_left memory a bs e)) (omega arith)
number_small memory small a (suc n) bs e =
    let s = split memory a n bs e in
    let first = small a s.first s.here in
    let rest = number_small memory small (a + 1) n s.rest s.behind in
    let power = pow-suc 256 n in
    subst (λ xs. number_of xs < 256 ^ suc n) (sym s.is) (omega (arith, first, rest, power))

-- the word of an address that gives none is 0
pub word_small : (memory : List Range) → Small memory → (a : ℕ) → words_of memory a < 2 ^ 32
unfolding loaded
word_small memory small a = by (a % 4 == 0) (bytes_from memory a 4) refl
  where
    by : (t : Bool) (o : Option (List ℕ)) → bytes_from memory a 4 ≡ o
        → unwrap_or (cond t (option_map (λ bs. loaded_as Word (number_of bs)) o) None) 0 < 2 ^ 32
    by true (Some bs) e = number_small memory small a 4 bs e
    by true None e = omega arith
    by false o e = omega arith

-- the bytes of a loaded word
pub record Loaded (memory : List Range) (a v : ℕ) : Type 0 where
  pub bytes : List ℕ
  pub are : bytes_from memory a 4 ≡ Some bytes
  pub number : number_of bytes ≡ v

pub loaded_bytes : (memory : List Range) (a v : ℕ) → loaded memory Word a ≡ Some v → Loaded memory a v
unfolding loaded
loaded_bytes memory a v e = by (a % 4 == 0) (bytes_from memory a 4) refl e
  where
    by : (t : Bool) (o : Option (List ℕ)) → bytes_from memory a 4 ≡ o
        → cond t (option_map (λ bs. loaded_as Word (number_of bs)) o) None ≡ Some v
        → Loaded memory a v
    by true (Some bs) u e = record { bytes = bs; are = u; number = (let q : number_of bs ≡ v = cc in q) }
    by true None u e = absurd (cc)
    by false o u e = absurd (cc)

zeros : (bs : List ℕ) (i : ℕ) → number_of bs ≡ 0 → get_or bs i 0 ≡ 0
zeros [] i e = refl
zeros (b ∷ bs) zero e = omega (arith, e)
zeros (b ∷ bs) (suc i) e = zeros bs i (omega (arith, e))

-- a byte of a word that is 0
pub zero_byte : (memory : List Range) (k a : ℕ) → loaded memory Word k ≡ Some 0
    → k ≤ a → a < k + 4 → byte_of memory a ≡ Some 0
zero_byte memory k a e lo hi =
    let l = loaded_bytes memory k 0 e in
    let i : ℕ = a - k in
    let b : byte_of memory (k + i) ≡ Some (get_or l.bytes i 0) =
    byte_from memory k 4 l.bytes l.are i (omega (arith, lo, hi)) in
    subst (λ x. byte_of memory x ≡ Some 0) (let q : k + i ≡ a = omega (arith, lo) in q) (b
    ∙ ap (λ x. Some x) (zeros l.bytes i l.number))

same_bytes : (m n : List Range) → Small m → Small n → (a b k : ℕ) (xs ys : List ℕ)
    → bytes_from m a k ≡ Some xs → bytes_from n b k ≡ Some ys
    → number_of xs ≡ number_of ys → xs ≡ ys
same_bytes m n sm sn a b zero xs ys e f q = none_left m a xs e ∙ sym (none_left n b ys f)
same_bytes m n sm sn a b (suc k) xs ys e f q =
    let s = split m a k xs e in
    let t = split n b k ys f in
    let p : number_of (s.first ∷ s.rest) ≡ number_of (t.first ∷ t.rest) = ap number_of (sym s.is)
    ∙ (q ∙ ap number_of t.is) in
    let x = sm a s.first s.here in
    let y = sn b t.first t.here in
    let head : s.first ≡ t.first = omega (arith, p, x, y) in
    let tail : s.rest ≡ t.rest = same_bytes m n sm sn (a + 1) (b + 1) k s.rest
    t.rest s.behind t.behind (omega (arith, p, x, y)) in
    s.is ∙ ((ap (λ h. h ∷ s.rest) head ∙ ap (λ r. t.first ∷ r) tail) ∙ sym t.is)

-- a byte of a word that is the same in another memory
pub same_byte : (m n : List Range) → Small m → Small n → (k l i v : ℕ) → loaded m Word k ≡ Some v
    → loaded n Word l ≡ Some v → i < 4
    → byte_of m (k + i) ≡ byte_of n (l + i)
same_byte m n sm sn k l i v e f small =
    let x = loaded_bytes m k v e in
    let y = loaded_bytes n l v f in
    let q : x.bytes ≡ y.bytes = same_bytes m n sm sn k l 4 x.bytes y.bytes x.are y.are (x.number ∙ sym y.number) in
    byte_from m k 4 x.bytes x.are i small ∙ (ap (λ bs. Some (get_or bs i 0)) q
    ∙ sym (byte_from n l 4 y.bytes y.are i small))
