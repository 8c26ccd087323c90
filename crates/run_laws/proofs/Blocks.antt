-- The live blocks of a layout: one more, one fewer, and how many stand in a chunk.
use Rattle.std.proofs.Common.{◌≡◌, ◌≢◌, ◌⊎◌, ◌∙◌, ℕ, zero, suc, ◌+◌, ◌<◌, Bool, true, false, cond, List, [], ◌∷◌}
use Rattle.std.proofs.Common.{length, get_or, refl, sym, ap, subst, inl, inr, arith}
use Rattle.std.specs.Prelude.{All, Any, Option, Some, None, count_by, nat_lt, option_map}
use Rattle.std.proofs.lemmas.List.Elements.{All-cons, All-head, All-nil, All-tail}
use Rattle.std.proofs.lemmas.List.Sums.{sum_by-cons}
use Rattle.plan_core.specs.declared.types.Area.{Area}
use Rattle.plan_core.specs.declared.types.Row.{Row}
use Rattle.plan_core.specs.Plan.{group_of_bits}
use Rattle.place_spec.specs.declared.parts.Spot.{Spot}
use Rattle.place_spec.specs.declared.parts.Spot.TheVariants.{Current, Fresh, Front}
use Rattle.place_spec.specs.Layout.{Block, Layout}
use Rattle.place_spec.specs.Place.{Placed, placed, placed_at, spot_of, taken, with_block}
use Rattle.block_laws.specs.Blocks.{IsOneOf, StandsWithout}

-- a block is in a list
abbrev pub IsIn : Block → List Block → Type 0
IsIn x [] = ⊥
IsIn x (y ∷ ys) = (y ≡ x) ⊎ IsIn x ys

in_at : (xs : List Block) (k : ℕ) (x : Block) → k < length xs → get_or xs k x ≡ x → IsIn x xs
in_at [] k x low there = absurd (omega arith)
in_at (y ∷ ys) zero x low there = inl there
in_at (y ∷ ys) (suc k) x low there = inr (in_at ys k x (omega arith) there)

pub of_one : (xs : List Block) (x : Block) → IsOneOf xs x → IsIn x xs
of_one xs x (k, y, low, there, same) = subst (λ z. IsIn z xs) same (in_at xs k y low there)

pub of_any : (P : Block → Type 0) (xs : List Block) → Any P xs → (x : Block) × IsIn x xs × P x
of_any P xs (k, x, low, there, p) = (x, in_at xs k x low there, p)

pub any_in : (P : Block → Type 0) (xs : List Block) (x : Block) → IsIn x xs → P x → Any P xs
any_in P [] x one p = absurd one
any_in P (y ∷ ys) x (inl same) p = (0, x, omega arith, same, p)
any_in P (y ∷ ys) x (inr one) p =
    let rest : Any P ys = any_in P ys x one p in (suc rest.0, rest.1, omega arith, rest.3, rest.4)

pub all_in : (P : Block → Type 0) (xs : List Block) (x : Block) → All P xs → IsIn x xs → P x
all_in P [] x all one = absurd one
all_in P (y ∷ ys) x all (inl same) = subst P same (All-head P y ys all)
all_in P (y ∷ ys) x all (inr one) = all_in P ys x (All-tail P y ys all) one

pub in_all : (P : Block → Type 0) (xs : List Block) → ((x : Block) → IsIn x xs → P x) → All P xs
in_all P [] each = All-nil P
in_all P (y ∷ ys) each = All-cons P y ys (each y (inl refl)) (in_all P ys (λ x one. each x (inr one)))

-- one more
in_new : (b : Block) (xs : List Block) → IsIn b (with_block b xs)
in_new b [] = inl refl
in_new b (x ∷ xs) = by (in_new b xs) (nat_lt x.first b.first)
  where
    by : IsIn b (with_block b xs) → (t : Bool) → IsIn b (cond t (x ∷ with_block b xs) (b ∷ x ∷ xs))
    by rest true = inr rest
    by rest false = inl refl

in_old : (b x : Block) (xs : List Block) → IsIn x xs → IsIn x (with_block b xs)
in_old b x [] one = absurd one
in_old b x (y ∷ ys) one = by (λ h. in_old b x ys h) (nat_lt y.first b.first) one
  where
    by : (IsIn x ys → IsIn x (with_block b ys)) → (t : Bool) → (y ≡ x) ⊎ IsIn x ys
        → IsIn x (cond t (y ∷ with_block b ys) (b ∷ y ∷ ys))
    by rest true (inl same) = inl same
    by rest true (inr h) = inr (rest h)
    by rest false h = inr h

in_with : (b x : Block) (xs : List Block) → IsIn x (with_block b xs) → (x ≡ b) ⊎ IsIn x xs
in_with b x [] (inl same) = inl (sym same)
in_with b x [] (inr one) = absurd one
in_with b x (y ∷ ys) one = by (λ h. in_with b x ys h) (nat_lt y.first b.first) one
  where
    later : (x ≡ b) ⊎ IsIn x ys → (x ≡ b) ⊎ ((y ≡ x) ⊎ IsIn x ys)
    later (inl new) = inl new
    later (inr old) = inr (inr old)

    by : (IsIn x (with_block b ys) → (x ≡ b) ⊎ IsIn x ys) → (t : Bool)
        → IsIn x (cond t (y ∷ with_block b ys) (b ∷ y ∷ ys)) → (x ≡ b) ⊎ ((y ≡ x) ⊎ IsIn x ys)
    by rest true (inl same) = inr (inl same)
    by rest true (inr h) = later (rest h)
    by rest false (inl same) = inl (sym same)
    by rest false (inr h) = inr h

-- the block that is placed for a group
pub record Adds (block : Block) (before after : List Block) : Type 0 where
  pub new : IsIn block after
  pub old : (x : Block) → IsIn x before → IsIn x after
  pub each : (x : Block) → IsIn x after → (x ≡ block) ⊎ IsIn x before

abbrev pub placed_block : List Row → (need bits : ℕ) → Placed → Block
placed_block rows need bits p = record { first = p.granule; granules = need; group = group_of_bits rows bits }

taken_blocks : (need : ℕ) (spot : Spot) (layout : Layout) → (taken need spot layout).blocks ≡ layout.blocks
unfolding taken
taken_blocks need (Current k) layout = refl
taken_blocks need (Fresh group k) layout = refl
taken_blocks need (Front i) layout = refl

placed_blocks : (rows : List Row) (area : Area) (layout : Layout) (need bits : ℕ) (p : Placed)
    → placed rows area layout need bits ≡ Some p
    → p.after.blocks ≡ with_block (placed_block rows need bits p) layout.blocks
placed_blocks rows area layout need bits p e = by (spot_of area layout need group) e
  where
    group : Option ℕ
    group = group_of_bits rows bits

    by : (o : Option Spot) → option_map (placed_at area layout need group) o ≡ Some p
        → p.after.blocks ≡ with_block (placed_block rows need bits p) layout.blocks
    by None e = absurd (cc)
    by (Some spot) e =
        let same : placed_at area layout need group spot ≡ p = cc in
        subst (λ (q : Placed). q.after.blocks ≡ with_block (placed_block rows need bits q) layout.blocks) same
        (ap (with_block (placed_block rows need bits (placed_at area layout need group spot)))
        (taken_blocks need spot layout))

pub adds : (rows : List Row) (area : Area) (layout : Layout) (need bits : ℕ) (p : Placed)
    → placed rows area layout need bits ≡ Some p
    → Adds (placed_block rows need bits p) layout.blocks p.after.blocks
adds rows area layout need bits p e =
    subst (Adds (placed_block rows need bits p) layout.blocks) (sym (placed_blocks rows area layout need bits p e))
    (record {
      new = in_new (placed_block rows need bits p) layout.blocks;
      old = λ x one. in_old (placed_block rows need bits p) x layout.blocks one;
      each = λ x one. in_with (placed_block rows need bits p) x layout.blocks one;
    })

abbrev one_if : Bool → ℕ
one_if t = cond t 1 0

-- how many pass a test, and one of them
record Passing (test : Block → Bool) (xs : List Block) : Type 0 where
  block : Block
  one : IsIn block xs
  passes : test block ≡ true

one_passes : (test : Block → Bool) (xs : List Block) → 0 < count_by test xs → Passing test xs
one_passes test [] some = absurd (omega (arith, some))
one_passes test (x ∷ xs) some =
    by (λ h. one_passes test xs h) (test x) refl
    (subst (λ n. 0 < n) (sum_by-cons (λ y. cond (test y) 1 0) x xs) some)
  where
    later : Passing test xs → Passing test (x ∷ xs)
    later p = record { block = p.block; one = inr p.one; passes = p.passes }

    by : (0 < count_by test xs → Passing test xs) → (t : Bool) → test x ≡ t → 0 < cond t 1 0 + count_by test xs
        → Passing test (x ∷ xs)
    by rest true is some = record { block = x; one = inl refl; passes = is }
    by rest false is some = later (rest (omega (arith, some)))

pub some_pass : (test : Block → Bool) (xs : List Block) (x : Block) → IsIn x xs → test x ≡ true
    → 0 < count_by test xs
some_pass test [] x one is = absurd one
some_pass test (y ∷ ys) x (inl same) is =
    let here : test y ≡ true = ap test same ∙ is in
    let count : count_by test (y ∷ ys) ≡ cond (test y) 1 0 + count_by test ys =
    sum_by-cons (λ z. cond (test z) 1 0) y ys in
    let one : one_if (test y) ≡ 1 = ap one_if here in
    omega (arith, count, one)
some_pass test (y ∷ ys) x (inr one) is =
    let rest : 0 < count_by test ys = some_pass test ys x one is in
    let count : count_by test (y ∷ ys) ≡ cond (test y) 1 0 + count_by test ys =
    sum_by-cons (λ z. cond (test z) 1 0) y ys in
    omega (arith, count, rest)

-- of blocks that pass a test none is new after a release
pub passed_before : (test : Block → Bool) (granule : ℕ) (before after : List Block) → StandsWithout granule before after
    → 0 < count_by test after → 0 < count_by test before
passed_before test granule before after without some =
    let p : Passing test after = one_passes test after some in
    some_pass test before p.block
    (of_one before p.block (all_in (λ b. (b.first ≢ granule) × IsOneOf before b) after p.block without.each p.one).1)
    p.passes
