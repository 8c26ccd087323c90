-- The notes of grants, after one more.
use Rattle.std.proofs.Common.{◌≡◌, ◌<◌, ◌≤◌, ◌+◌, ℕ, List, [], ◌∷◌, ◌++◌, length, map, get_or, set, Option, Some, None}
use Rattle.std.proofs.Common.{inl, inr, refl, ap, sym, ◌∙◌, arith, length-set, get_or-set_same, get_or-set_other}
use Rattle.std.specs.Prelude.{All, slice_get, if◌then◌else◌, ◌==◌}
use Rattle.std.proofs.lemmas.Option.{slice_get_past, slice_get-get_or}
use Rattle.std.proofs.lemmas.List.{get_or_append_left, get_or_push, length_push, map_push, length-map, map-set}
use Rattle.std.proofs.lemmas.List.{set-get_or, get_or-map}
use Rattle.std.proofs.lemmas.List.Elements.{All-push, All-weaker}
use Rattle.std.proofs.lemmas.Bool.{cases_eq, cases_lt}
use Rattle.affinity.specs.declared.grants.GrantNote.{GrantNote}
use Rattle.affinity.specs.Linked.{contexts_in, LacksWithin, IsNeighbour, IsBefore, IsNext, IsLast, IsLinked}
use Rattle.affinity.specs.Links.{no_note, with_next, with_last, linked}
use Rattle.affinity.proofs.Comparisons.{is_same, is_other}

module _ (cs : List ℕ) (c : ℕ) where
  abbrev pub more : List ℕ
  more = cs ++ (c ∷ [])

  pub long : length more ≡ length cs + 1
  long = length_push cs c

  pub old : (k : ℕ) → k < length cs → get_or more k 0 ≡ get_or cs k 0
  old k h = get_or_append_left cs (c ∷ []) 0 k h

  pub new : get_or more (length cs) 0 ≡ c
  new = get_or_push cs c 0 (length cs) refl

  pub within_push : (x i j : ℕ) → j ≤ length cs → LacksWithin cs x i j → LacksWithin more x i j
  within_push x i j inside clear = λ k from to same. clear k from to (sym (old k (omega arith)) ∙ same)

  pub within_more : (x i : ℕ) → (c ≡ x → ⊥) → LacksWithin cs x i (length cs) → LacksWithin more x i (length more)
  within_more x i other clear = λ k from to same.
      elim (cases_lt k (length cs)) [
        | inl low ↦ clear k from low (sym (old k low) ∙ same)
        | inr high ↦ (let at : k ≡ length cs = omega (arith, long) in other (sym new
            ∙ (sym (ap (λ i. get_or more i 0) at) ∙ same)))
      ]

  pub neighbour_push : (i j : ℕ) → IsNeighbour cs i j → IsNeighbour more i j
  neighbour_push i j is =
      let low : i < length cs = omega (arith, is.0, is.1) in
      let clear : LacksWithin more (get_or more j 0) (i + 1) j =
      rw (old j is.1) (within_push (get_or cs j 0) (i + 1) j (omega (arith, is.1)) is.3) in
      (is.0, omega (arith, is.1, long), old i low ∙ (is.2 ∙ sym (old j is.1)), clear)

  pub before_push : (k : ℕ) (o : Option ℕ) → k < length cs → IsBefore cs k o → IsBefore more k o
  before_push k None inside is = rw (old k inside) (within_push (get_or cs k 0) 0 k (omega arith) is)
  before_push k (Some p) inside is = neighbour_push p k is

  pub next_push : (k : ℕ) (o : Option ℕ) → k < length cs
      → (LacksWithin cs (get_or cs k 0) (k + 1) (length cs) → c ≡ get_or cs k 0 → ⊥) → IsNext cs k o → IsNext more k o
  next_push k None inside other is = rw (old k inside) (within_more (get_or cs k 0) (k + 1) (other is) is)
  next_push k (Some n) inside other is = neighbour_push k n is

  pub next_new : IsNext more (length cs) None
  next_new = λ k from to same. absurd (omega (arith, long, from, to))

  pub last_push : (x last : ℕ) → (c ≡ x → ⊥) → IsLast cs x last → IsLast more x last
  last_push x last other is = (omega (arith, is.0, long), old last is.0 ∙ is.1, within_more x (last + 1) other is.2)

  pub last_new : IsLast more c (length cs)
  last_new = (omega (arith, long), new, λ k from to same. absurd (omega (arith, long, from, to)))

  -- the last grant of the context before is the neighbour of the new one
  pub neighbour_new : (p : ℕ) → IsLast cs c p → IsNeighbour more p (length cs)
  neighbour_new p is =
      let clear : LacksWithin more (get_or more (length cs) 0) (p + 1) (length cs) =
      rw new (within_push c (p + 1) (length cs) (omega arith) is.2) in
      (is.0, omega (arith, long), old p is.0 ∙ (is.1 ∙ sym new), clear)

  -- only the last grant of a context has no later one of it
  pub only_last : (p k : ℕ) → IsLast cs c p → k < length cs → (k ≡ p → ⊥)
      → LacksWithin cs (get_or cs k 0) (k + 1) (length cs) → c ≡ get_or cs k 0 → ⊥
  only_last p k is inside other clear same =
      elim (cases_lt k p) [
        | inl low ↦ clear p (omega arith) is.0 (is.1 ∙ same)
        | inr high ↦ is.2 k (omega arith) inside (sym same)
      ]

linked_by : (cs : List ℕ) (notes : List GrantNote) (lasts : List ℕ) → contexts_in notes ≡ cs
    → ((k : ℕ) (d : GrantNote) → k < length notes → IsBefore cs k (get_or notes k d).before)
    → ((k : ℕ) (d : GrantNote) → k < length notes → IsNext cs k (get_or notes k d).next)
    → ((x : ℕ) → x < length lasts → IsLast cs x (get_or lasts x 0))
    → All (λ x. x < length lasts) cs → IsLinked notes lasts
linked_by cs notes lasts is before next last named = record {
  before = rw is before;
  next = rw is next;
  last = rw is last;
  named = rw is named;
}

-- the first grant of a context
pub add_first : (notes : List GrantNote) (lasts : List ℕ) (x : GrantNote) → IsLinked notes lasts
    → x.context ≡ length lasts → x.before ≡ None → x.next ≡ None
    → IsLinked (notes ++ (x ∷ [])) (lasts ++ (length notes ∷ []))
add_first notes lasts x is at before next =
    let cs = contexts_in notes in
    let n : length (contexts_in notes) ≡ length notes = length-map notes (λ m. m.context) in
    let longer : length (notes ++ (x ∷ [])) ≡ length notes + 1 = length_push notes x in
    let longer_lasts : length (lasts ++ (length notes ∷ [])) ≡ length lasts + 1 = length_push lasts (length notes) in
    let fresh : (k : ℕ) → k < length (contexts_in notes) → x.context ≡ get_or (contexts_in notes) k 0
    → ⊥ = λ k h e. omega (arith, is.named k 0 h, e, at) in
    linked_by (contexts_in notes ++ (x.context ∷ [])) (notes ++ (x ∷ [])) (lasts ++ (length notes ∷ []))
    (map_push (λ m. m.context) notes x)
    (λ k d h. elim (cases_lt k (length notes)) [
      | inl low ↦ (let inside : k < length (contexts_in notes) = omega arith in
          rw (get_or_append_left notes (x ∷ []) d k low)
          (before_push (contexts_in notes) x.context k (get_or notes k d).before inside (is.before k d low)))
      | inr high ↦ (let here : k ≡ length (contexts_in notes) = omega arith in
          let here' : length notes ≡ k = omega arith in
          rw (get_or_push notes x d k here', before, here, new (contexts_in notes) x.context)
          (within_push (contexts_in notes) x.context x.context 0 (length (contexts_in notes)) (omega arith)
          (λ j from to same. fresh j to (sym same))))
    ])
    (λ k d h. elim (cases_lt k (length notes)) [
      | inl low ↦ (let inside : k < length (contexts_in notes) = omega arith in
          rw (get_or_append_left notes (x ∷ []) d k low) (next_push (contexts_in notes) x.context k
          (get_or notes k d).next inside (λ _. fresh k inside) (is.next k d low)))
      | inr high ↦ (let here : k ≡ length (contexts_in notes) = omega arith in
          let here' : length notes ≡ k = omega arith in
          rw (get_or_push notes x d k here', next, here) (next_new (contexts_in notes) x.context))
    ])
    (λ y h. elim (cases_lt y (length lasts)) [
      | inl low ↦ (let other : x.context ≡ y → ⊥ = λ e. omega (arith, e, at) in
          rw (get_or_append_left lasts (length notes ∷ []) 0 y low)
          (last_push (contexts_in notes) x.context y (get_or lasts y 0) other (is.last y low)))
      | inr high ↦ (let here : y ≡ x.context = omega arith in
          let here' : length lasts ≡ y = omega arith in
          rw (get_or_push lasts (length notes) 0 y here', here, ← n) (last_new (contexts_in notes) x.context))
    ])
    (All-push (λ y. y < length (lasts ++ (length notes ∷ []))) (contexts_in notes) x.context
    (All-weaker (λ y. y < length lasts) (λ y. y < length (lasts ++ (length notes ∷ []))) (λ y h. omega arith)
    (contexts_in notes) is.named)
    (omega arith))

-- the notes keep their contexts
pub contexts_kept : (notes : List GrantNote) (p : ℕ) (m : GrantNote) → p < length notes
    → m.context ≡ (get_or notes p no_note).context → contexts_in (set notes p m) ≡ contexts_in notes
contexts_kept notes p m inside same =
    let at : get_or (map (λ (x : GrantNote). x.context) notes) p 0 ≡ (get_or notes p no_note).context =
    get_or-map (λ (x : GrantNote). x.context) notes p no_note 0 inside in
    map-set (λ (x : GrantNote). x.context) notes p m
    ∙ (ap (λ y. set (contexts_in notes) p y) (same ∙ sym at) ∙ set-get_or (contexts_in notes) p 0)

-- one more grant of a context
pub add_next : (notes : List GrantNote) (lasts : List ℕ) (x : GrantNote) (p : ℕ) → IsLinked notes lasts
    → x.context < length lasts → p ≡ get_or lasts x.context 0
    → x.before ≡ Some p → x.next ≡ None
    → IsLinked (set notes p (with_next (length notes) (get_or notes p no_note)) ++ (x ∷ []))
    (set lasts x.context (length notes))
add_next notes lasts x p is known last_is before next =
    let here : IsLast (contexts_in notes) x.context p = rw last_is (is.last x.context known) in
    let n : length (contexts_in notes) ≡ length notes = length-map notes (λ (m : GrantNote). m.context) in
    let marked : List GrantNote = set notes p (with_next (length notes) (get_or notes p no_note)) in
    let inside : p < length notes = omega (arith, here.0) in
    let same : contexts_in (set notes p (with_next (length notes) (get_or notes p no_note))) ≡ contexts_in notes =
    contexts_kept notes p (with_next (length notes) (get_or notes p no_note)) inside refl in
    let as_long : length (set notes p (with_next (length notes) (get_or notes p no_note))) ≡ length notes =
    length-set notes p _ in
    let longer : length (set notes p (with_next (length notes) (get_or notes p no_note)) ++ (x ∷ []))
    ≡ length notes + 1 =
    length_push (set notes p (with_next (length notes) (get_or notes p no_note))) x ∙ ap (λ k. k + 1) as_long in
    let lasts_long : length (set lasts x.context (length notes)) ≡ length lasts =
    length-set lasts x.context (length notes) in
    linked_by (contexts_in notes ++ (x.context ∷ []))
    (set notes p (with_next (length notes) (get_or notes p no_note)) ++ (x ∷ []))
    (set lasts x.context (length notes))
    (map_push (λ (m : GrantNote). m.context) (set notes p (with_next (length notes) (get_or notes p no_note))) x
    ∙ ap (λ ys. ys ++ (x.context ∷ [])) same)
    (λ k d h. elim (cases_lt k (length notes)) [
      | inl low ↦ (let deep : k < length (contexts_in notes) = omega arith in
          rw (get_or_append_left (set notes p (with_next (length notes) (get_or notes p no_note))) (x ∷ []) d k
          (omega arith))
          (elim (cases_eq k p) [
            | inl at ↦ rw (at, get_or-set_same notes p (with_next (length notes) (get_or notes p no_note)) d inside)
                (before_push (contexts_in notes) x.context p (get_or notes p no_note).before here.0
                (is.before p no_note inside))
            | inr other ↦ rw (get_or-set_other notes p k (with_next (length notes) (get_or notes p no_note)) d other)
                (before_push (contexts_in notes) x.context k (get_or notes k d).before deep (is.before k d low))
          ]))
      | inr high ↦ (let at : k ≡ length (contexts_in notes) = omega arith in
          rw (
            get_or_push (set notes p (with_next (length notes) (get_or notes p no_note))) x d k (omega arith),
            before,
            at,
          )
          (neighbour_new (contexts_in notes) x.context p here))
    ])
    (λ k d h. elim (cases_lt k (length notes)) [
      | inl low ↦ (let deep : k < length (contexts_in notes) = omega arith in
          rw (get_or_append_left (set notes p (with_next (length notes) (get_or notes p no_note))) (x ∷ []) d k
          (omega arith))
          (elim (cases_eq k p) [
            | inl at ↦ rw (
              at,
              get_or-set_same notes p (with_next (length notes) (get_or notes p no_note)) d inside,
              ← n,
            )
                (neighbour_new (contexts_in notes) x.context p here)
            | inr other ↦ rw (get_or-set_other notes p k (with_next (length notes) (get_or notes p no_note)) d other)
                (next_push (contexts_in notes) x.context k (get_or notes k d).next deep
                (only_last (contexts_in notes) x.context p k here deep other) (is.next k d low))
          ]))
      | inr high ↦ (let at : k ≡ length (contexts_in notes) = omega arith in
          rw (
            get_or_push (set notes p (with_next (length notes) (get_or notes p no_note))) x d k (omega arith),
            next,
            at,
          )
          (next_new (contexts_in notes) x.context))
    ])
    (λ y h. elim (cases_eq y x.context) [
      | inl at ↦ rw (at, get_or-set_same lasts x.context (length notes) 0 known, ← n)
          (last_new (contexts_in notes) x.context)
      | inr other ↦ rw (get_or-set_other lasts x.context y (length notes) 0 other)
          (last_push (contexts_in notes) x.context y (get_or lasts y 0) (λ e. other (sym e)) (is.last y (omega arith)))
    ])
    (All-push (λ y. y < length (set lasts x.context (length notes))) (contexts_in notes) x.context
    (All-weaker (λ y. y < length lasts) (λ y. y < length (set lasts x.context (length notes))) (λ y h. omega arith)
    (contexts_in notes) is.named)
    (omega arith))

-- the notes with one grant more
abbrev pub noted : ℕ → List GrantNote → List ℕ → List GrantNote
noted c notes lasts = linked (slice_get lasts c)
    (length notes) notes ++ (record { context = c; before = slice_get lasts c; next = None } ∷ [])

-- they name the neighbours of each grant
pub linked_more : (c : ℕ) (notes : List GrantNote) (lasts : List ℕ) → IsLinked notes lasts → c ≤ length lasts
    → IsLinked (noted c notes lasts) (with_last c (length notes) lasts)
linked_more c notes lasts is dense =
    elim (cases_eq c (length lasts)) [
      | inl at ↦ rw (slice_get_past lasts c (omega arith), is_same c (length lasts) at)
          (add_first notes lasts (record { context = c; before = None; next = None }) is at refl refl)
      | inr other ↦ (let low : c < length lasts = omega arith in
          rw (slice_get-get_or lasts c 0 low, is_other c (length lasts) other)
          (add_next notes lasts (record { context = c; before = Some (get_or lasts c 0); next = None })
          (get_or lasts c 0) is low refl refl refl))
    ]

-- the contexts with one grant more
pub contexts_more : (c : ℕ) (notes : List GrantNote) (lasts : List ℕ) → IsLinked notes lasts → c ≤ length lasts
    → contexts_in (noted c notes lasts) ≡ contexts_in notes ++ (c ∷ [])
contexts_more c notes lasts is dense =
    elim (cases_eq c (length lasts)) [
      | inl at ↦ rw (slice_get_past lasts c (omega arith))
          (map_push (λ (m : GrantNote). m.context) notes (record { context = c; before = None; next = None }))
      | inr other ↦ (let low : c < length lasts = omega arith in
          let p : ℕ = get_or lasts c 0 in
          let n : length (contexts_in notes) ≡ length notes = length-map notes (λ (m : GrantNote). m.context) in
          let last = is.last c low in
          let inside : get_or lasts c 0 < length notes = omega (arith, last.0) in
          let m : GrantNote = with_next (length notes) (get_or notes (get_or lasts c 0) no_note) in
          rw (slice_get-get_or lasts c 0 low)
          (map_push (λ (m : GrantNote). m.context) (set notes (get_or lasts c 0)
          (with_next (length notes) (get_or notes (get_or lasts c 0) no_note))) (record {
            context = c;
            before =
                Some (get_or lasts c 0);
            next = None;
          })
          ∙ ap (λ ys. ys ++ (c ∷ [])) (contexts_kept notes (get_or lasts c 0)
          (with_next (length notes) (get_or notes (get_or lasts c 0) no_note)) inside refl)))
    ]

-- how many different contexts there are then
pub count_more : (c n : ℕ) (lasts : List ℕ) → length (with_last c n lasts)
    ≡ (if c == length lasts then length lasts + 1 else length lasts)
count_more c n lasts =
    elim (cases_eq c (length lasts)) [
      | inl at ↦ rw (is_same c (length lasts) at) (length_push lasts n)
      | inr other ↦ rw (is_other c (length lasts) other) (length-set lasts c n)
    ]
