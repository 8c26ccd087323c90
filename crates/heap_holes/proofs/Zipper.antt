-- A list of holes seen from a place in it: the holes that were passed, the last first, and the rest.
use Rattle.std.proofs.Common.{◌≡◌, ◌≢◌, ℕ, suc, ◌+◌, ◌*◌, ◌%◌, ◌^◌, ◌<◌, ◌≤◌, ◌⊎◌, Bool, true, false, List, [], ◌∷◌}
use Rattle.std.proofs.Common.{length, get_or, sym, ◌∙◌, subst, refl, ap, arith, inl, inr}
use Rattle.std.specs.Prelude.{nat_lt, min}
use Rattle.std.specs.List.{position_or_len}
use Rattle.std.proofs.lemmas.Bool.Decides.{nat_tests}
use Rattle.place_spec.specs.declared.parts.Hole.{Hole}
use Rattle.place_spec.specs.Release.{with_hole}
use Rattle.place_spec.proofs.HoleLists.{Ascends, cut}
use Rattle.place_spec.proofs.Lists.{Each}
use Rattle.heap_spec.specs.Tables.{SpellsHoles}

abbrev pub hole : (start length : ℕ) → Hole
hole start length = record { start = start; length = length }

-- the whole list
abbrev pub rev_onto : List Hole → List Hole → List Hole
rev_onto [] rest = rest
rev_onto (x ∷ seen) rest = rev_onto seen (x ∷ rest)

-- where the word stands that links the rest
abbrev pub link_of : (rows head : ℕ) → List Hole → ℕ
link_of rows head [] = head
link_of rows head (x ∷ seen) = rows + 8 * x.start + 4

-- the words of the passed holes
abbrev pub HasSeen : (rows head : ℕ) → (ℕ → ℕ) → List Hole → Type 0
HasSeen rows head m [] = Unit {0}
HasSeen rows head m (x ∷ seen) =
    (m (link_of rows head seen) ≡ x.start) × (m (rows + 8 * x.start) ≡ x.length) × HasSeen rows head m seen

-- a granule behind the passed holes with another between
abbrev pub Gap : List Hole → ℕ → Type 0
Gap [] start = Unit {0}
Gap (x ∷ seen) start = x.start + x.length < start

abbrev pub Descends : List Hole → Type 0
Descends [] = Unit {0}
Descends (x ∷ seen) = (0 < x.length) × Gap seen x.start × Descends seen

-- the first granule at which a hole may begin behind the passed ones
abbrev pub after : List Hole → ℕ
after [] = 0
after (x ∷ seen) = x.start + x.length + 1

pub gap_from : (seen : List Hole) (start : ℕ) → after seen ≤ start → Gap seen start
gap_from [] start h = tt
gap_from (x ∷ seen) start h = omega (arith, h)

-- their words and those of the rest spell the whole list
pub zip : (rows head : ℕ) (m : ℕ → ℕ) (seen rest : List Hole) → HasSeen rows head m seen
    → SpellsHoles rows m (m (link_of rows head seen)) rest → SpellsHoles rows m (m head) (rev_onto seen rest)
zip rows head m [] rest s h = h
zip rows head m (x ∷ seen) rest s h = zip rows head m seen (x ∷ rest) s.2 (s.0, s.1, h)

-- words below the link alone are those of the passed holes
pub seen_stay : (rows head : ℕ) (m m' : ℕ → ℕ) (seen : List Hole) → head < rows → Descends seen
    → ((k : ℕ) → k < link_of rows head seen → m' k ≡ m k) → HasSeen rows head m seen → HasSeen rows head m' seen
seen_stay rows head m m' [] l d s h = tt
seen_stay rows head m m' (x ∷ seen) l d s h =
    let below : link_of rows head seen < link_of rows head (x ∷ seen) = lower seen d.1 in (
      s (link_of rows head seen) below ∙ h.0,
      s (rows + 8 * x.start) (omega arith) ∙ h.1,
      seen_stay rows head m m' seen l d.2 (λ k q. s k (omega (arith, below, q))) h.2,
    )
  where
    lower : (seen : List Hole) → Gap seen x.start → link_of rows head seen < rows + 8 * x.start + 4
    lower [] g = omega (arith, l)
    lower (y ∷ ys) g = omega (arith, g)

-- words from a granule's row on alone are those of the holes there
pub holes_stay : (rows lo : ℕ) (m m' : ℕ → ℕ) (word : ℕ) (hs : List Hole) → ((k : ℕ) → rows + 8 * lo ≤ k → m' k ≡ m k)
    → Ascends lo hs → SpellsHoles rows m word hs → SpellsHoles rows m' word hs
holes_stay rows lo m m' word [] s a h = h
holes_stay rows lo m m' word (x ∷ xs) s a h =
    let next : m' (rows + 8 * x.start + 4) ≡ m (rows + 8 * x.start + 4) = s (rows + 8 * x.start + 4)
    (omega (arith, a.0)) in (
      h.0,
      s (rows + 8 * x.start) (omega (arith, a.0)) ∙ h.1,
      subst (λ w. SpellsHoles rows m' w xs) (sym next)
          (holes_stay rows (x.start + x.length + 1) m m' (m (rows + 8 * x.start + 4)) xs
          (λ k l. s k (omega (arith, l, a.0))) a.1.1 h.2),
    )

-- the rest's first place
pub cut_behind : (need k : ℕ) (seen rest : List Hole)
    → cut need (length seen + k) (rev_onto seen rest) ≡ rev_onto seen (cut need k rest)
cut_behind need k [] rest = let e : 0 + k ≡ k = omega arith in ap (λ i. cut need i rest) e
cut_behind need k (x ∷ seen) rest =
    let e : suc (length seen) + k ≡ length seen + suc k = omega arith in
    ap (λ i. cut need i (rev_onto seen (x ∷ rest))) e ∙ cut_behind need (suc k) seen (x ∷ rest)

pub get_behind : (d : Hole) (k : ℕ) (seen rest : List Hole)
    → get_or (rev_onto seen rest) (length seen + k) d ≡ get_or rest k d
get_behind d k [] rest = let e : 0 + k ≡ k = omega arith in ap (λ i. get_or rest i d) e
get_behind d k (x ∷ seen) rest =
    let e : suc (length seen) + k ≡ length seen + suc k = omega arith in
    ap (λ i. get_or (rev_onto seen (x ∷ rest)) i d) e ∙ get_behind d (suc k) seen (x ∷ rest)

pub long_behind : (seen rest : List Hole) → length (rev_onto seen rest) ≡ length seen + length rest
long_behind [] rest = omega arith
long_behind (x ∷ seen) rest = let l = long_behind seen (x ∷ rest) in omega (arith, l)

-- the first that passes a test stands behind those that don't
pub place_behind : (p : Hole → Bool) (seen rest : List Hole) → Each (λ x. p x ≡ false) seen
    → position_or_len p (rev_onto seen rest) ≡ length seen + position_or_len p rest
place_behind p [] rest e = omega arith
place_behind p (x ∷ seen) rest e =
    let l = place_behind p seen (x ∷ rest) e.1 in
    let one : position_or_len p (x ∷ rest) ≡ 1 + position_or_len p rest = rw e.0 refl in
    omega (arith, l, one)

-- a block behind the passed holes, and its granules as a hole
pub with_seen : (seen rest : List Hole) (s l : ℕ) → Descends seen → Gap seen s
    → with_hole (hole s l) (rev_onto seen rest) ≡ rev_onto seen (with_hole (hole s l) rest)
with_seen [] rest s l d g = refl
with_seen (x ∷ seen) rest s l d g =
    let t : nat_lt (x.start + x.length) s ≡ true = grind (arith, nat_tests) in
    let here : with_hole (hole s l) (x ∷ rest) ≡ x ∷ with_hole (hole s l) rest = rw t refl in
    with_seen seen (x ∷ rest) s l d.2 (further seen d.1) ∙ ap (rev_onto seen) here
  where
    further : (seen : List Hole) → Gap seen x.start → Gap seen s
    further [] h = tt
    further (y ∷ ys) h = omega (arith, g, h)

-- one that touches the last of them
pub with_last : (x : Hole) (seen rest : List Hole) (s l : ℕ) → Descends (x ∷ seen) → x.start + x.length ≡ s
    → with_hole (hole s l) (rev_onto (x ∷ seen) rest) ≡ rev_onto seen (with_hole (hole x.start (l + x.length)) rest)
with_last x seen rest s l d e =
    let t : nat_lt (x.start + x.length) s ≡ false = grind (arith, nat_tests) in
    let u : nat_lt (s + l) x.start ≡ false = grind (arith, nat_tests) in
    let least : min s x.start ≡ x.start = omega (arith, e) in
    let here : with_hole (hole s l) (x ∷ rest) ≡ with_hole (hole x.start (l + x.length)) rest =
    rw (t, u) (ap (λ n. with_hole (hole n (l + x.length)) rest) least) in
    with_seen seen (x ∷ rest) s l d.2 (further seen d.1) ∙ ap (rev_onto seen) here
  where
    further : (seen : List Hole) → Gap seen x.start → Gap seen s
    further [] h = tt
    further (y ∷ ys) h = omega (arith, e, h)

-- with the rest, ascending holes
pub zip_ascends : (seen rest : List Hole) → Descends seen → Ascends (after seen) rest → Ascends 0 (rev_onto seen rest)
zip_ascends [] rest d a = a
zip_ascends (x ∷ seen) rest d a = zip_ascends seen (x ∷ rest) d.2 (from seen d.1, (d.0, a))
  where
    from : (seen : List Hole) → Gap seen x.start → after seen ≤ x.start
    from [] g = omega arith
    from (y ∷ ys) g = omega (arith, g)

-- where the link of what comes from a granule on stands
pub record LinkStands (rows head limit link : ℕ) : Type 0 where
  pub low : head ≤ link
  pub high : link < rows + 8 * limit
  pub aligned : link % 4 ≡ 0
  pub apart : (i : ℕ) → link ≢ rows + 8 * i
  pub first : (link ≡ head) ⊎ (rows ≤ link)

pub link_stands : (rows head limit : ℕ) (seen : List Hole) → head % 4 ≡ 0 → rows % 4 ≡ 0 → head + 4 ≤ rows
    → after seen ≤ limit
    → LinkStands rows head limit (link_of rows head seen)
link_stands rows head limit [] a b o l = record {
  low = omega arith;
  high = omega (arith, o);
  aligned = a;
  apart = λ i e. omega (arith, e, o);
  first = inl refl;
}
link_stands rows head limit (x ∷ seen) a b o l = record {
  low = omega (arith, o);
  high = omega (arith, l);
  aligned = omega (arith, b);
  apart = λ i e. omega (arith, e);
  first = inr (omega arith);
}

-- a word that spells holes is none or a granule
pub word_small : (rows n : ℕ) (m : ℕ → ℕ) (word : ℕ) (hs : List Hole) → rows + 8 * n ≤ 2 ^ 32
    → SpellsHoles rows m word hs
    → Each (λ h. h.start + h.length ≤ n) hs → word < 2 ^ 32
word_small rows n m word [] top s i = omega (arith, s)
word_small rows n m word (h ∷ hs) top s i = let e = s.0 in let l = i.0 in omega (arith, e, l, top)
