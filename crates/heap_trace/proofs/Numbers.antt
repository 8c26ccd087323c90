-- The number of a context among others.
use Rattle.std.proofs.Common.{◌≡◌, ◌≢◌, ◌⊎◌, inl, inr, ◌||◌, ◌+◌, ℕ, zero, suc, Bool, true, false, cond, not, List, []}
use Rattle.std.proofs.Common.{◌∷◌, ◌++◌, length, map, take, Some, refl, ap, sym, ◌∙◌, arith}
use Rattle.std.specs.Prelude.{if◌then◌else◌}
use Rattle.std.specs.List.{list_any, position_or_len}
use Rattle.std.proofs.lemmas.List.Elements.{All-cons, All-nil}
use Rattle.indexmap.specs.IndexSet.{insert_key}
use Rattle.heap_trace.specs.Events.{IsNumbered}

-- keys that stand for lists, whose equality is that of the lists
module _ {K : Type 0} (items : K → List ℕ) (eq : K → K → Bool)
    (same : (x y : K) → eq x y ≡ true → items x ≡ items y)
    (other : (x y : K) → eq x y ≡ false → items x ≡ items y → ⊥) where
  abbrev lists : List K → List (List ℕ)
  lists ks = map items ks

  later : (k x : K) (ks after : List K) (n m : ℕ) → eq k x ≡ false → m ≡ suc n
      → IsNumbered (items k) (lists ks) (lists after) n
      → IsNumbered (items k) (lists (x ∷ ks)) (lists (x ∷ after)) m
  later k x ks after n m apart is h = rw is (record {
    stands = h.stands;
    first = All-cons (λ c. c ≢ items k) (items x) (take n (lists ks)) (λ e. other k x apart (sym e)) h.first;
    grows = by_growth h.grows;
  })
    where
      by_growth : (lists after ≡ lists ks) ⊎ ((lists after ≡ lists ks ++ items k ∷ []) × (n ≡ length (lists ks)))
          → (lists (x ∷ after) ≡ lists (x ∷ ks)) ⊎ ((lists (x ∷ after) ≡ lists (x ∷ ks) ++ items k ∷ [])
          × (suc n ≡ length (lists (x ∷ ks))))
      by_growth (inl e) = inl (ap (λ t. items x ∷ t) e)
      by_growth (inr (e, m)) = inr (ap (λ t. items x ∷ t) e, omega (arith, m))

  pub numbered : (k : K) (ks : List K)
      → IsNumbered (items k) (lists ks) (lists (insert_key eq ks k)) (position_or_len (eq k) ks)
  numbered k [] = record { stands = refl; first = All-nil (λ c. c ≢ items k); grows = inr (refl, refl) }
  numbered k (x ∷ ks) = by_test (eq k x) refl (list_any (eq k) ks) refl (numbered k ks)
    where
      by_test : (t : Bool) → eq k x ≡ t → (u : Bool) → list_any (eq k) ks ≡ u
          → IsNumbered (items k) (lists ks) (lists (if u then ks else ks ++ k ∷ [])) (position_or_len (eq k) ks)
          → IsNumbered (items k) (lists (x ∷ ks)) (lists (if t || u then x ∷ ks else x ∷ ks ++ k ∷ []))
          (cond (not t) (1 + position_or_len (eq k) ks) 0)
      by_test true here u there h = record {
        stands = ap (λ l. Some l) (sym (same k x here));
        first = All-nil (λ c. c ≢ items k);
        grows = inl refl;
      }
      by_test false apart true there h = later k x ks ks (position_or_len (eq k) ks) _ apart (omega arith) h
      by_test false apart false there h =
          later k x ks (ks ++ k ∷ []) (position_or_len (eq k) ks) _ apart (omega arith) h

  -- so it is after an insertion
  pub numbered_by : (k : K) (old new : List K) (n : ℕ) → new ≡ insert_key eq old k → n ≡ position_or_len (eq k) old
      → IsNumbered (items k) (lists old) (lists new) n
  numbered_by k old new n keys number = rw (keys, number) (numbered k old)

-- the first of some keys
pub kept_first : {K : Type 0} (items : K → List ℕ) (n : ℕ) (old new : List K) → new ≡ take n old
    → map items new ≡ take n (map items old)
kept_first {K = K} items n old new is = ap (map items) is ∙ first n old
  where
    first : (n : ℕ) (ks : List K) → map items (take n ks) ≡ take n (map items ks)
    first zero ks = refl
    first (suc n) [] = refl
    first (suc n) (k ∷ ks) = ap (λ t. items k ∷ t) (first n ks)
