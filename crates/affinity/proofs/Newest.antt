-- The newest entries of blocks among those that are kept, by the numbers of their last entries.
use Rattle.std.proofs.Common.{◌≡◌, ◌==◌, ◌<◌, ◌≤◌, ◌+◌, ◌-◌, ℕ, Bool, true, false, not, List, [], ◌∷◌, ◌++◌, length}
use Rattle.std.proofs.Common.{drop, get_or, Option, Some, None, inl, inr, refl, ap, sym, ◌∙◌, arith, length-append}
use Rattle.std.proofs.Common.{length-drop, length-set, get_or-drop, get_or-set_same, get_or-set_other}
use Rattle.std.specs.List.{list_all}
use Rattle.std.proofs.lemmas.List.{get_or-append-add, get_or_append_left, get_or_push, length_push}
use Rattle.std.proofs.lemmas.List.Elements.{All-push, All-weaker}
use Rattle.std.proofs.lemmas.List.Recursion.{and_at, and_from_places}
use Rattle.std.proofs.lemmas.Bool.{cases_eq, cases_lt}
use Rattle.affinity.specs.declared.entries.Entry.{Entry}
use Rattle.affinity.specs.Weights.{block_at}
use Rattle.affinity.specs.Near.{has_none}
use Rattle.affinity.specs.State.{Held, with_block, entered}
use Rattle.affinity.specs.Follows.{LacksFrom, IsLastOf, Follows}
use Rattle.affinity.proofs.Comparisons.{is_same, is_other, same_from, other_from, same_test}
use Rattle.affinity.proofs.Reaches.{reach_back, reach_push}

abbrev blank : Entry
blank = record { block = 0; width = 0 }

-- entries that lack a block, place by place
pub none_from : (es : List Entry) (b i : ℕ) → ((k : ℕ) → i ≤ k → k < length es → block_at es k ≡ b → ⊥)
    → has_none (drop i es) b ≡ true
none_from es b i clear =
    and_from_places (λ xs. list_all (λ (e : Entry). not (e.block == b)) xs) (λ (e : Entry). not (e.block == b)) refl
    (λ _ _. refl) (drop i es) blank
    (λ k h.
    let deep : i + k < length es = omega (arith, length-drop i es) in
    let here : get_or (drop i es) k blank ≡ get_or es (i + k) blank = get_or-drop i es k blank in
    rw (here, is_other (block_at es (i + k)) b (clear (i + k) (omega arith) deep)) refl)

not_true : (t : Bool) → not t ≡ true → t ≡ false
not_true true e = absurd cc
not_true false e = refl

pub none_at : (es : List Entry) (b i k : ℕ) → has_none (drop i es) b ≡ true → i ≤ k → k < length es → block_at es k ≡ b
    → ⊥
none_at es b i k none from inside same =
    let place : i + (k - i) ≡ k = omega arith in
    let passes : not ((get_or (drop i es) (k - i) blank).block == b) ≡ true =
    and_at (λ xs. list_all (λ (e : Entry). not (e.block == b)) xs) (λ (e : Entry). not (e.block == b)) refl
    (λ _ _. refl) (drop i es) (k - i) blank (omega (arith, length-drop i es)) none in
    let here : get_or (drop i es) (k - i) blank ≡ get_or es (i + (k - i)) blank = get_or-drop i es (k - i) blank in
    let there : (get_or (drop i es) (k - i) blank).block ≡ b = rw (here, place) same in
    other_from _ b (not_true _ passes) there

-- the entries before those that are in reach
abbrev front_of : ℕ → List Entry → List Entry
front_of distance es = (reach_back distance es).0

module _ (distance : ℕ) (a : Held) (es : List Entry) (follows : Follows distance a es) where
  whole : es ≡ front_of distance es ++ a.entries
  whole = (reach_back distance es).1 ∙ ap (λ xs. front_of distance es ++ xs) (sym follows.entries)

  whole_length : length es ≡ length (front_of distance es) + length a.entries
  whole_length = ap length whole ∙ length-append (front_of distance es) a.entries

  block_there : (k : ℕ) → block_at es (length (front_of distance es) + k) ≡ block_at a.entries k
  block_there k = ap (λ xs. block_at xs (length (front_of distance es) + k)) whole
      ∙ ap (λ (e : Entry). e.block) (get_or-append-add (front_of distance es) a.entries k blank)

  -- the block of an entry that is kept is known
  pub block_known : (at : ℕ) → at < length a.entries → block_at a.entries at < length a.lasts
  block_known at inside =
      rw (← block_there at) (follows.blocks (length (front_of distance es) + at) blank (omega (arith, whole_length)))

  pub last_of : (at : ℕ) (d : Option ℕ) → at < length a.entries
      → IsLastOf es (block_at a.entries at) (get_or a.lasts (block_at a.entries at) d)
  last_of at d inside = follows.lasts (block_at a.entries at) d (block_known at inside)

  -- a block that has an entry has a last one
  pub has_last : (at : ℕ) → at < length a.entries → IsLastOf es (block_at a.entries at) None → ⊥
  has_last at inside none = none (length (front_of distance es) + at) (omega arith) (omega (arith, whole_length))
      (block_there at)

  -- an entry is the newest of its block exactly where its number is that of the block's last entry
  pub newest : (at n : ℕ) → at < length a.entries → IsLastOf es (block_at a.entries at) (Some n)
      → (n + (length a.entries - at) == a.count) ≡ has_none (drop (at + 1) a.entries) (block_at a.entries at)
  newest at n inside last =
      let b : ℕ = block_at a.entries at in
      let long : length es ≡ length (front_of distance es) + length a.entries = whole_length in
      let count : a.count ≡ length es = follows.count in
      let not_later : n < length (front_of distance es) + at
      → ⊥ = λ early. last.2 (length (front_of distance es) + at) (omega arith) (omega arith) (block_there at) in
      same_test (n + (length a.entries - at) == a.count) (has_none (drop (at + 1) a.entries) (block_at a.entries at))
      (λ test.
      let even : n + (length a.entries - at) ≡ a.count = same_from _ _ test in
      let here : n ≡ length (front_of distance es) + at = omega arith in
      none_from a.entries (block_at a.entries at) (at + 1)
      (λ k from to same. last.2 (length (front_of distance es) + k) (omega arith) (omega arith) (block_there k ∙ same)))
      (λ none.
      let here : n ≡ length (front_of distance es) + at =
      elim (cases_lt (length (front_of distance es) + at) n) as (λ _. n ≡ length (front_of distance es) + at) [
        | inl later ↦
            (let place : length (front_of distance es) + (n - length (front_of distance es)) ≡ n = omega arith in
            absurd (none_at a.entries (block_at a.entries at) (at + 1) (n - length (front_of distance es)) none
            (omega arith) (omega (arith, last.0))
            (sym (block_there (n - length (front_of distance es))) ∙ (ap (λ k. block_at es k) place ∙ last.1))))
        | inr early ↦ omega arith
      ] in
      is_same (n + (length a.entries - at)) a.count (omega arith))

block_of_push : (es : List Entry) (e : Entry) → block_at (es ++ (e ∷ [])) (length es) ≡ e.block
block_of_push es e = ap (λ (x : Entry). x.block) (get_or_push es e blank (length es) refl)

block_before_push : (es : List Entry) (e : Entry) (k : ℕ) → k < length es → block_at (es ++ (e ∷ [])) k ≡ block_at es k
block_before_push es e k h = ap (λ (x : Entry). x.block) (get_or_append_left es (e ∷ []) blank k h)

lacks_push : (es : List Entry) (e : Entry) (b i : ℕ) → (b ≡ e.block → ⊥) → LacksFrom es b i
    → LacksFrom (es ++ (e ∷ [])) b i
lacks_push es e b i other clear = λ k from inside same.
    elim (cases_lt k (length es)) [
      | inl low ↦ clear k from low (sym (block_before_push es e k low) ∙ same)
      | inr high ↦
          (let at : k ≡ length es = omega (arith, length_push es e) in
          other (sym same ∙ (ap (λ i. block_at (es ++ (e ∷ [])) i) at ∙ block_of_push es e)))
    ]

last_push : (es : List Entry) (e : Entry) (b : ℕ) (o : Option ℕ) → (b ≡ e.block → ⊥) → IsLastOf es b o
    → IsLastOf (es ++ (e ∷ [])) b o
last_push es e b None other is = lacks_push es e b 0 other is
last_push es e b (Some n) other is =
    (omega (arith, length_push es e, is.0), block_before_push es e n is.0 ∙ is.1, lacks_push es e b (n + 1) other is.2)

last_is_new : (es : List Entry) (e : Entry) → IsLastOf (es ++ (e ∷ [])) e.block (Some (length es))
last_is_new es e = (
  omega (arith, length_push es e),
  block_of_push es e,
  λ k from inside same. absurd (omega (arith, length_push es e, from, inside)),
)

-- one entry more
pub follows_push : (distance : ℕ) (a : Held) (es : List Entry) (e : Entry) → Follows distance a es
    → e.block < length a.lasts → Follows distance (entered distance a e) (es ++ (e ∷ []))
follows_push distance a es e is known = record {
  entries = rw is.entries (reach_push distance es e);
  count = rw is.count (sym (length_push es e));
  lasts = λ b d inside. elim (cases_eq b e.block) [
    | inl at ↦ rw (at, get_or-set_same a.lasts e.block (Some a.count) d known, is.count) (last_is_new es e)
    | inr other ↦ rw (get_or-set_other a.lasts e.block b (Some a.count) d other)
        (last_push es e b (get_or a.lasts b d) other
        (is.lasts b d (omega (arith, inside, length-set a.lasts e.block (Some a.count)))))
  ];
  blocks = rw (length-set a.lasts e.block (Some a.count))
      (All-push (λ x. x.block < length a.lasts) es e is.blocks known);
}

-- one block more, which has no entry
pub follows_block : (distance : ℕ) (a : Held) (es : List Entry) → Follows distance a es
    → Follows distance (with_block a) es
follows_block distance a es is = record {
  entries = is.entries;
  count = is.count;
  lasts = λ b d inside. elim (cases_lt b (length a.lasts)) [
    | inl low ↦ rw (get_or_append_left a.lasts (None ∷ []) d b low) (is.lasts b d low)
    | inr high ↦
        (let at : length a.lasts ≡ b = omega (arith, length_push a.lasts None) in
        rw (get_or_push a.lasts None d b at)
        (λ k from there same. omega (arith, is.blocks k blank there, same)))
  ];
  blocks = All-weaker (λ x. x.block < length a.lasts) (λ x. x.block < length (a.lasts ++ (None ∷ [])))
      (λ x h. omega (arith, length_push a.lasts None)) es is.blocks;
}
