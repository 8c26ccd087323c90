-- The slots that tables cover are those of their entries, each once.
use Rattle.std.proofs.Common.{◌≡◌, ℕ, zero, suc, ◌+◌, ◌-◌, ◌≤◌, ◌==◌, ◌&&◌, ◌||◌, Bool, true, false, List, [], ◌∷◌}
use Rattle.std.proofs.Common.{get_or, max, nat_le, nat_lt, refl, ap, ◌∙◌, arith}
use Rattle.std.specs.List.{list_any}
use Rattle.std.specs.List.Sorted.{IsNonDecreasingBy}
use Rattle.std.proofs.lemmas.Bool.Decides.{nat_tests}
use Rattle.std.proofs.lemmas.List.Folds.{Any-from_list_any, list_any-append}
use Rattle.reloc_table.specs.declared.slots.EntryTable.{EntryTable}
use Rattle.reloc_table.specs.Slots.{covered, end_slot, is_slot_of, numbers, slot_at}

any_numbers : (a from n : ℕ) → list_any (λ b. b == a) (numbers from n) ≡ (nat_le from a && nat_lt a (from + n))
any_numbers a from zero = grind (arith, nat_tests)
any_numbers a from (suc n) =
    list_any-append (λ b. b == a) (numbers from n) ((from + n) ∷ [])
    ∙ ap (λ x. x || ((from + n == a) || false)) (any_numbers a from n)
    ∙ last a from n
  where
    last : (a from n : ℕ) → ((nat_le from a && nat_lt a (from + n)) || ((from + n == a) || false))
        ≡ (nat_le from a && nat_lt a (from + suc n))
    last a from n = grind (arith, nat_tests)

-- where tables that are left begin no earlier, what the one before leaves out is not theirs
joined : (a at s e : ℕ) (x : Bool) → (x ≡ true → s ≤ a)
    → ((nat_le (max at s) a && nat_lt a (max at s + (e - max at s))) || (nat_le (max at e) a && x))
    ≡ (nat_le at a && ((nat_le s a && nat_lt a e) || x))
joined a at s e true h = let l : s ≤ a = h refl in grind (arith, nat_tests)
joined a at s e false h = grind (arith, nat_tests)

abbrev Rise : List EntryTable → Type 0
Rise ts = IsNonDecreasingBy (λ t. slot_at t.offset) ts

head_low : (a : ℕ) (t : EntryTable) (ts : List EntryTable) → Rise (t ∷ ts) → list_any (is_slot_of a) ts ≡ true
    → slot_at t.offset ≤ a
head_low a t ts h e =
    let (k, u, l, g, m) = Any-from_list_any (is_slot_of a) ts e in
    let n : slot_at t.offset ≤ slot_at (get_or ts k u).offset = h 0 (suc k) u (omega arith) (omega (arith, l)) in
    let n' : slot_at t.offset ≤ slot_at u.offset = rw g at n in
    low (slot_at t.offset) (slot_at u.offset) a (end_slot u) n' m
  where
    low : (s u a e : ℕ) → s ≤ u → (nat_le u a && nat_lt a e) ≡ true → s ≤ a
    low s u a e n m = let l : u ≤ a = grind (arith, nat_tests) in omega (arith, l, n)

any_covered : (a at : ℕ) (ts : List EntryTable) → Rise ts → list_any (λ b. b == a) (covered at ts)
    ≡ (nat_le at a && list_any (is_slot_of a) ts)
any_covered a at [] h = none (nat_le at a)
  where
    none : (b : Bool) → false ≡ (b && false)
    none true = refl
    none false = refl
any_covered a at (t ∷ ts) h =
    let s : ℕ = slot_at t.offset in
    let e : ℕ = end_slot t in
    list_any-append (λ b. b == a) (numbers (max at s) (e - max at s)) (covered (max at e) ts)
    ∙ ap (λ x. x || list_any (λ b. b == a) (covered (max at e) ts)) (any_numbers a (max at s) (e - max at s))
    ∙ ap (λ x. (nat_le (max at s) a && nat_lt a (max at s + (e - max at s))) || x)
    (any_covered a (max at e) ts (λ i j d l m. h (suc i) (suc j) d (omega (arith, l)) (omega (arith, m))))
    ∙ joined a at s e (list_any (is_slot_of a) ts) (head_low a t ts h)

pub covered_slots : (a : ℕ) (ts : List EntryTable) → Rise ts
    → list_any (λ b. b == a) (covered 0 ts) ≡ list_any (is_slot_of a) ts
covered_slots a ts h = any_covered a 0 ts h ∙ first a (list_any (is_slot_of a) ts)
  where
    first : (a : ℕ) (b : Bool) → (nat_le 0 a && b) ≡ b
    first a true = grind (arith, nat_tests)
    first a false = grind (arith, nat_tests)
