-- The sites up to an address, from one place to the next.
use Rattle.std.proofs.Common.{◌≡◌, ℕ, ◌+◌, ◌<◌, ◌≤◌, ◌==◌, true, false, List, [], ◌∷◌, ◌++◌, get_or, length, ltb, refl}
use Rattle.std.proofs.Common.{sym, ap, ◌∙◌, subst, inl, inr, arith, Option, Some, None, length-append}
use Rattle.std.proofs.Math.ListN.{get_or-append}
use Rattle.std.specs.List.{All, AllPairs, Any, list_any}
use Rattle.std.specs.List.Sorted.{IsNonDecreasing}
use Rattle.std.proofs.lemmas.Bool.{cases_lt}
use Rattle.std.proofs.lemmas.Bool.Decides.{nat_tests}
use Rattle.std.proofs.lemmas.List.{get_or_default}
use Rattle.std.proofs.lemmas.List.Elements.{All-nil, All-push}
use Rattle.std.proofs.lemmas.List.Folds.{Any-from_list_any}
use Rattle.std.proofs.lemmas.List.Quantifiers.{Any-push, all_pairs_push}
use Rattle.site_spec.specs.declared.Site.{Site}
use Rattle.site_spec.specs.Sites.{site_at}
use Rattle.exec_image.specs.Images.{AreSites}
use Rattle.exec_image.proofs.SiteShape.{shape}

-- the sites below an address, and the first places, which are below it
pub record AreBelow (file : List ℕ) (places : List ℕ) (list : List Site) (next i : ℕ) : Type 0 where
  pub each : All (λ s. site_at file s.addr ≡ Some s) list
  pub low : All (λ s. s.addr < next) list
  pub ascending : AllPairs (λ s t. s.addr < t.addr) list
  pub every : (a : ℕ) (s : Site) → site_at file a ≡ Some s → a < next → Any (λ t. t ≡ s) list
  pub done : (k : ℕ) → k < i → get_or places k 0 < next

abbrev pub HaveAll : List ℕ → List ℕ → Type 0
HaveAll file places = (a : ℕ) (s : Site) → site_at file a ≡ Some s → list_any (λ p. p == a) places ≡ true

pub start : (file : List ℕ) (places : List ℕ) → AreBelow file places [] 0 0
start file places =
    record {
      each = All-nil (λ s. site_at file s.addr ≡ Some s);
      low = All-nil (λ s. s.addr < 0);
      ascending = λ i j d h l. absurd (omega arith);
      every = λ a s h l. absurd (omega arith);
      done = λ k l. absurd (omega arith);
    }

next_done : (places : List ℕ) (next next' i : ℕ) → ((k : ℕ) → k < i → get_or places k 0 < next) → next ≤ next'
    → get_or places i 0 < next'
    → (k : ℕ) → k < i + 1 → get_or places k 0 < next'
next_done places next next' i done up here k l = elim (cases_lt k i) [
  | inl j ↦ let h : get_or places k 0 < next = done k j in omega (arith, h, up)
  | inr j ↦ let e : i ≡ k = omega arith in subst (λ x. get_or places x 0 < next') e here
]

pub skip : (file : List ℕ) (places : List ℕ) (list : List Site) (next i : ℕ) → AreBelow file places list next i
    → get_or places i 0 < next
    → AreBelow file places list next (i + 1)
skip file places list next i h l =
    record {
      each = h.each;
      low = h.low;
      ascending = h.ascending;
      every = h.every;
      done = next_done places next next i h.done (omega arith) l;
    }

-- a site behind those below is at the next place or above
from_place : (file : List ℕ) (places : List ℕ) (list : List Site) (next i a : ℕ) (s : Site)
    → AreBelow file places list next i → IsNonDecreasing places → HaveAll file places
    → i < length places → site_at file a ≡ Some s → next ≤ a → get_or places i 0 ≤ a
from_place file places list next i a s h rise all m e l =
    let (k, p, n, g, t) = Any-from_list_any (λ p. p == a) places (all a s e) in
    let q : p ≡ a = grind (arith, nat_tests) in
    let r : get_or places k 0 ≡ a = get_or_default places k 0 p n ∙ g ∙ q in
    elim (cases_lt k i) [
      | inl j ↦ absurd (let d : get_or places k 0 < next = h.done k j in omega (arith, d, r, l))
      | inr j ↦ let u : get_or places i 0 ≤ get_or places k 0 = rise i k 0 (omega (arith, j)) n in omega (arith, u, r)
    ]

pub none : (file : List ℕ) (places : List ℕ) (list : List Site) (next i p : ℕ) → AreBelow file places list next i
    → IsNonDecreasing places → HaveAll file places
    → i < length places → get_or places i 0 ≡ p → next ≤ p → site_at file p ≡ None
    → AreBelow file places list (p + 1) (i + 1)
none file places list next i p h rise all m e l o =
    record {
      each = h.each;
      low = λ k d n. let b : (get_or list k d).addr < next = h.low k d n in omega (arith, b, l);
      ascending = h.ascending;
      every = λ a s f n. elim (cases_lt a next) [
        | inl j ↦ h.every a s f j
        | inr j ↦
            let u : get_or places i 0 ≤ a = from_place file places list next i a s h rise all m f j in
            let q : a ≡ p = omega (arith, u, e, n) in
            absurd (let r : Some s ≡ None = sym f ∙ ap (site_at file) q ∙ o in cc)
      ];
      done = next_done places next (p + 1) i h.done (omega (arith, l)) (omega (arith, e));
    }

pub some : (file : List ℕ) (places : List ℕ) (list : List Site) (next i p : ℕ) (s : Site)
    → AreBelow file places list next i → IsNonDecreasing places → HaveAll file places
    → i < length places → get_or places i 0 ≡ p → next ≤ p → site_at file p ≡ Some s
    → AreBelow file places (list ++ s ∷ []) (p + 1) (i + 1)
some file places list next i p s h rise all m e l o =
    let at : s.addr ≡ p = (shape file p s o).addr in
    record {
      each = All-push (λ s. site_at file s.addr ≡ Some s) list s h.each (ap (site_at file) at ∙ o);
      low = All-push (λ s. s.addr < p + 1) list s
          (λ k d n. let b : (get_or list k d).addr < next = h.low k d n in omega (arith, b, l)) (omega (arith, at));
      ascending = all_pairs_push (λ s t. s.addr < t.addr) list s h.ascending
          (λ k d n. let b : (get_or list k d).addr < next = h.low k d n in omega (arith, b, l, at));
      every = λ a t f n. elim (cases_lt a next) [
        | inl j ↦ more list s t (h.every a t f j)
        | inr j ↦
            let u : get_or places i 0 ≤ a = from_place file places list next i a t h rise all m f j in
            let q : a ≡ p = omega (arith, u, e, n) in
            let r : Some s ≡ Some t = sym o ∙ ap (site_at file) (sym q) ∙ f in
            Any-push (λ x. x ≡ t) list s (cc)
      ];
      done = next_done places next (p + 1) i h.done (omega (arith, l)) (omega (arith, e));
    }
  where
    more : (xs : List Site) (y t : Site) → Any (λ x. x ≡ t) xs → Any (λ x. x ≡ t) (xs ++ y ∷ [])
    more xs y t (k, x, n, g, u) =
        (k, x, omega (arith, n, length-append xs (y ∷ [])), get_or-append xs (y ∷ []) x k n ∙ g, u)

pub finish : (file : List ℕ) (places : List ℕ) (list : List Site) (next i : ℕ) → AreBelow file places list next i
    → HaveAll file places → length places ≤ i
    → AreSites file list
finish file places list next i h all m =
    record {
      each = h.each;
      every = λ a s f.
          let (k, p, n, g, t) = Any-from_list_any (λ p. p == a) places (all a s f) in
          let q : p ≡ a = grind (arith, nat_tests) in
          let r : get_or places k 0 ≡ a = get_or_default places k 0 p n ∙ g ∙ q in
          let d : get_or places k 0 < next = h.done k (omega (arith, n, m)) in
          h.every a s f (omega (arith, d, r));
      ascending = h.ascending;
    }

-- among the sites by address, none is at an address that the first not below it hasn't
pub absent : (file : List ℕ) (sites : List Site) (a i : ℕ) → AreSites file sites
    → ((k : ℕ) (d : Site) → k < i → (get_or sites k d).addr < a)
    → ((d : Site) → i < length sites → a < (get_or sites i d).addr) → None ≡ site_at file a
absent file sites a i h below above = decide (site_at file a) refl
  where
    decide : (o : Option Site) → site_at file a ≡ o → None ≡ site_at file a
    decide None e = sym e
    decide (Some s) e =
        let (k, t, n, g, q) = h.every a s e in
        let at : t.addr ≡ a = ap (λ s. s.addr) q ∙ (shape file a s e).addr in
        let at' : (get_or sites k t).addr ≡ a = ap (λ s. s.addr) g ∙ at in
        absurd (elim (cases_lt k i) [
          | inl j ↦ let b : (get_or sites k t).addr < a = below k t j in omega (arith, b, at')
          | inr j ↦
              let b : a < (get_or sites i t).addr = above t (omega (arith, j, n)) in
              elim (cases_lt i k) [
                | inl u ↦ let c : (get_or sites i t).addr < (get_or sites k t).addr = h.ascending i k t u n in
                    omega (arith, b, c, at')
                | inr u ↦ let v : i ≡ k = omega arith in let b' : a < (get_or sites k t).addr =
                    subst (λ x. a < (get_or sites x t).addr) v b in omega (arith, b', at')
              ]
        ])

pub rising : (file : List ℕ) (sites : List Site) → AreSites file sites → (i j : ℕ) (d : Site) → i ≤ j → j < length sites
    → (get_or sites i d).addr ≤ (get_or sites j d).addr
rising file sites h i j d l m = elim (cases_lt i j) [
  | inl k ↦ let u : (get_or sites i d).addr < (get_or sites j d).addr = h.ascending i j d k m in omega (arith, u)
  | inr k ↦ let e : j ≡ i = omega arith in rw e (omega arith)
]

pub below_of : (x a : ℕ) → ltb x a ≡ true → x < a
below_of x a h = grind (arith, nat_tests)

pub above_of : (x a : ℕ) → ltb x a ≡ false → (x ≡ a → ⊥) → a < x
above_of x a h n = grind (arith, nat_tests)
