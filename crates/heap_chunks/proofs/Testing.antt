-- The tests of the rows find the group of the bits.
use Rattle.std.proofs.Common.{◌≡◌, ℕ, ◌+◌, ◌-◌, ◌*◌, ◌%◌, ◌^◌, ◌<◌, ◌≤◌, ◌⊎◌, ◌==◌, Bool, true, false, cond, List, []}
use Rattle.std.proofs.Common.{◌∷◌, length, refl, ap, sym, ◌∙◌, subst, inl, inr, arith}
use Rattle.std.specs.Prelude.{Option, Some, None, nat_eq, nat_lt, bit_and, find, ◌||◌, All}
use Rattle.std.specs.List.{list_any}
use Rattle.std.specs.Option.{option_map}
use Rattle.std.proofs.lemmas.Nat.{and-not, and_comm}
use Rattle.std.specs.Int.Bits.{and_zero_r}
use Rattle.std.proofs.lemmas.Bool.{eq-eqb, ne_eqb, cases_eq}
use Rattle.rv_isa.specs.declared.Op.TheVariants.{Add, And}
use Rattle.rv_isa.specs.declared.Cond.TheVariants.{Eq}
use Rattle.rv_isa.specs.Compute.{computed}
use Rattle.plan_core.specs.declared.types.Row.{Row}
use Rattle.plan_core.specs.Plan.{group_of_bits}
use Rattle.place_spec.proofs.Lists.{Each, each}
use Rattle.heap_spec.specs.Places.{current_row}
use Rattle.heap_spec.specs.Tables.{none_word}
use Rattle.frag_code.specs.Fragments.{Set, Compute, Imm, If, Seq}
use Rattle.frag_code.specs.Meaning.{View, Rights, put, frag_run}
use Rattle.frag_code.specs.Ends.{Ends}
use Rattle.frag_code.proofs.Rules.{view, ends_so, seq_ends, set_then, compute_ends, imm_ends, if_ends, if_taken}
use Rattle.frag_code.proofs.Rules.{if_other}
use Rattle.frag_rules.proofs.Values.{add_is, eq_yes, eq_no, eq_true}
use Rattle.heap_chunks.specs.Groups.{mask_test, row_tests}
use Rattle.heap_chunks.specs.Results.{group_word, FindsGroup}
use Rattle.heap_chunks.proofs.Sums.{there}

-- a mask is in the bits exactly where it has no bit in common with their complement
in_bits : (mask bits rest_bits : ℕ) → rest_bits + bits ≡ 2 ^ 32 - 1 → mask < 2 ^ 32
    → bit_and rest_bits mask + bit_and mask bits ≡ mask
in_bits mask bits rest_bits e l =
    let n : 2 ^ 32 - 1 - bits ≡ rest_bits = omega (arith, e) in
    let h : bit_and (2 ^ 32 - 1 - bits) mask + bit_and bits mask ≡ mask = and-not 32 bits mask (omega (arith, e)) l in
    let c = and_comm mask bits in
    let q : bit_and rest_bits mask + bit_and bits mask ≡ mask = subst
    (λ x. bit_and x mask + bit_and bits mask ≡ mask) n h in omega (arith, q, c)

-- x30 is what the mask has outside the bits
pub record Tested (mask rest_bits : ℕ) (r m : ℕ → ℕ) (s : View) : Type 0 where
  pub is : s.registers 30 ≡ bit_and rest_bits mask
  pub others : (k : ℕ) → nat_eq k 30 ≡ false → s.registers k ≡ r k
  pub memory : s.memory ≡ m

and_is : (a b : ℕ) → computed And a b ≡ bit_and a b
unfolding computed
and_is a b = refl

module _ (g : Rights) (w : ℕ) where
  mask_ends : (mask rest_bits : ℕ) (r m : ℕ → ℕ) (c : ℕ) → r 13 ≡ rest_bits → mask < 2 ^ 32
      → Ends (frag_run g (mask_test mask) w (view r m c)) (λ t. Tested mask rest_bits r m t × (t.spent ≤ c + 6))
  mask_ends mask rest_bits r m c r13 l = by (nat_lt mask 2048)
    where
      word : mask % 2 ^ 32 ≡ mask
      word = omega (arith, l)

      by : (t : Bool) → Ends
          (frag_run g (cond t (Imm And 30 13 mask) (Seq (Set 30 mask) (Compute And 30 30 13))) w (view r m c))
          (λ t. Tested mask rest_bits r m t × (t.spent ≤ c + 6))
      by true = imm_ends _ _ _ _ _ _ _ _ _ _ (bit_and rest_bits mask)
          (and_is (r 13) (mask % 2 ^ 32) ∙ (ap (λ x. bit_and x (mask % 2 ^ 32)) r13 ∙ ap (bit_and rest_bits) word))
          (record { is = refl; others = λ k e. there r 30 (bit_and rest_bits mask) k e; memory = refl }, omega arith)
      by false = set_then _ _ _ _ _ _ _ _ _ mask word
          (compute_ends _ _ _ _ _ _ _ _ _ _ (bit_and rest_bits mask)
          (and_is mask (r 13) ∙ (ap (bit_and mask) r13 ∙ and_comm mask rest_bits)) (
            record {
              is = refl;
              others = λ k e. there (put r 30 mask) 30 (bit_and rest_bits mask) k e ∙ there r 30 mask k e;
              memory = refl;
            },
            omega arith,
          ))

  -- the group that the rows find
  abbrev pub Finds : (data_at : ℕ) → Option ℕ → (ℕ → ℕ) → (most : ℕ) → View → Type 0
  Finds data_at group m most t = (t.registers 14 ≡ group_word data_at group) × ((t.memory ≡ m) × (t.spent ≤ most))

  row_ends : (rows : List Row) (data_at bits rest_bits : ℕ) (r m : ℕ → ℕ) (c : ℕ)
      → Each (λ row. row.mask < 2 ^ 32) rows → Each (λ row. row.group < 16) rows
      → data_at + 128 ≤ 2 ^ 32 → rest_bits + bits ≡ 2 ^ 32 - 1 → r 13 ≡ rest_bits → r 31 ≡ none_word → r 12 ≡ data_at
      → Ends (frag_run g (row_tests rows) w (view r m c))
      (Finds data_at (group_of_bits rows bits) m (c + 12 * length rows + 3))
  row_ends [] data_at bits rest_bits r m c masks groups end e r13 r31 r12 =
      compute_ends _ _ _ _ _ _ _ _ _ _ none_word (add_is _ _ none_word (omega (arith, r31)) (omega arith))
      (refl, (refl, omega arith))
  row_ends (row ∷ rows) data_at bits rest_bits r m c (mask, masks) (group, groups) end e r13 r31 r12 =
      seq_ends _ _ _ _ _ _ _ _ (λ t. Tested row.mask rest_bits r m t × (t.spent ≤ c + 6))
      (mask_ends row.mask rest_bits r m c r13 mask)
      (λ r' m' c' t. by (row_ends rows data_at bits rest_bits) r' m' c' t.0 t.1
      (cases_eq (bit_and row.mask bits) row.mask))
    where
      Rest : Type 0
      Rest = (r m : ℕ → ℕ) (c : ℕ) → Each (λ row. row.mask < 2 ^ 32) rows → Each (λ row. row.group < 16) rows
          → data_at + 128 ≤ 2 ^ 32 → rest_bits + bits ≡ 2 ^ 32 - 1 → r 13 ≡ rest_bits → r 31 ≡ none_word
          → r 12 ≡ data_at
          → Ends (frag_run g (row_tests rows) w (view r m c))
          (Finds data_at (group_of_bits rows bits) m (c + 12 * length rows + 3))

      both : bit_and rest_bits row.mask + bit_and row.mask bits ≡ row.mask
      both = in_bits row.mask bits rest_bits e mask

      by : Rest → (r' m' : ℕ → ℕ) (c' : ℕ) → Tested row.mask rest_bits r m (view r' m' c') → c' ≤ c + 6
          → (bit_and row.mask bits ≡ row.mask) ⊎ (bit_and row.mask bits ≡ row.mask → ⊥)
          → Ends (frag_run g (If Eq 30 0 (Imm Add 14 12 (64 + 4 * row.group)) (row_tests rows)) w (view r' m' c'))
          (Finds data_at (group_of_bits (row ∷ rows) bits) m (c + 12 * length (row ∷ rows) + 3))
      by rest r' m' c' t sp (inl q) =
          let i = t.is in
          let e12 : r' 12 ≡ data_at = t.others 12 refl ∙ r12 in
          if_taken _ _ _ _ _ _ _ _ _ _ _ (eq_yes _ _ (omega (arith, i, both, q)))
          (imm_ends _ _ _ _ _ _ _ _ _ _ (current_row data_at row.group)
          (add_is _ _ _ (omega (arith, e12, group)) (omega (arith, group, end)))
          (subst (λ b. Finds data_at
          (option_map (λ r. r.group) (cond b (Some row) (find (λ r. bit_and r.mask bits == r.mask) rows))) m
          (c + 12 * length (row ∷ rows) + 3)
          (view (put r' 14 (current_row data_at row.group)) m' (c' + 3 + 3)))
          (sym (eq-eqb (bit_and row.mask bits) row.mask q))
          (refl, (t.memory, omega (arith, sp)))))
      by rest r' m' c' t sp (inr n) =
          let i = t.is in
          if_other _ _ _ _ _ _ _ _ _ _ _ (eq_no _ _ (λ q. n (omega (arith, i, both, q))))
          (ends_so _ (Finds data_at (group_of_bits rows bits) m' (c' + 3 + 12 * length rows + 3)) _
          (λ u z. subst (λ b. Finds data_at
          (option_map (λ r. r.group) (cond b (Some row) (find (λ r. bit_and r.mask bits == r.mask) rows))) m
          (c + 12 * length (row ∷ rows) + 3) u)
          (sym (ne_eqb (bit_and row.mask bits) row.mask n))
          (z.0, (z.1.0 ∙ t.memory, let zs = z.1.1 in omega (arith, zs, sp))))
          (rest r' m' (c' + 3) masks groups end e (t.others 13 refl ∙ r13) (t.others 31 refl ∙ r31)
          (t.others 12 refl ∙ r12)))

  -- without bits, no row whose mask isn't 0
  none_without : (rows : List Row) → list_any (λ row. row.mask == 0) rows ≡ false → group_of_bits rows 0 ≡ None
  none_without [] e = refl
  none_without (row ∷ rows) e = by (none_without rows) (cases_eq row.mask 0)
    where
      by : (list_any (λ row. row.mask == 0) rows ≡ false → group_of_bits rows 0 ≡ None)
          → (row.mask ≡ 0) ⊎ (row.mask ≡ 0 → ⊥)
          → group_of_bits (row ∷ rows) 0 ≡ None
      by rest (inl z) =
          absurd (let t : ((row.mask == 0) || list_any (λ row. row.mask == 0) rows) ≡ true =
          rw (eq-eqb row.mask 0 z) refl in cc)
      by rest (inr n) =
          let f : list_any (λ row. row.mask == 0) rows ≡ false =
          subst (λ b. (b || list_any (λ row. row.mask == 0) rows) ≡ false) (ne_eqb row.mask 0 n) e in
          let a = and_zero_r row.mask in
          let t : (bit_and row.mask 0 == row.mask) ≡ false = ne_eqb (bit_and row.mask 0) row.mask
          (λ q. n (sym q ∙ a)) in
          rw t (rest f)

pub group_ends : (rows : List Row) (data_at : ℕ) → All (λ row. row.mask < 2 ^ 32) rows
    → All (λ row. row.group < 16) rows
    → data_at + 128 ≤ 2 ^ 32 → FindsGroup rows data_at
group_ends rows data_at masks groups end g w bits s r5 r13 r31 r12 = by
    (list_any (λ row. row.mask == 0) rows) refl
  where
    tests : (c : ℕ) → Ends (frag_run g (row_tests rows) w (view s.registers s.memory c))
        (Finds g w data_at (group_of_bits rows bits) s.memory (c + 12 * length rows + 3))
    tests c = row_ends g w rows data_at bits (s.registers 13) s.registers s.memory c (each _ rows masks)
        (each _ rows groups) end r13 refl r31 r12

    by : (t : Bool) → list_any (λ row. row.mask == 0) rows ≡ t
        → Ends (frag_run g (cond t (row_tests rows) (If Eq 5 0 (Compute Add 14 31 0) (row_tests rows))) w
        (view s.registers s.memory s.spent))
        (Finds g w data_at (group_of_bits rows bits) s.memory (s.spent + 12 * length rows + 6))
    by true u = ends_so _ (Finds g w data_at (group_of_bits rows bits) s.memory (s.spent + 12 * length rows + 3)) _
        (λ t z. (z.0, (z.1.0, let q = z.1.1 in omega (arith, q)))) (tests s.spent)
    by false u = if_ends _ _ _ _ _ _ _ _ _ _ _
        (λ h. let z : bits ≡ 0 = sym r5 ∙ eq_true _ _ h in
        compute_ends _ _ _ _ _ _ _ _ _ _ none_word (add_is _ _ none_word (omega (arith, r31)) (omega arith))
        (subst (λ o. Finds g w data_at o s.memory (s.spent + 12 * length rows + 6)
        (view (put s.registers 14 none_word) s.memory (s.spent + 3 + 3)))
        (sym (ap (group_of_bits rows) z ∙ none_without g w rows u)) (refl, (refl, omega arith))))
        (λ h. ends_so _ (Finds g w data_at (group_of_bits rows bits) s.memory (s.spent + 3 + 12 * length rows + 3)) _
        (λ t z. (z.0, (z.1.0, let q = z.1.1 in omega (arith, q)))) (tests (s.spent + 3)))
