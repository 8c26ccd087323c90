-- Which entries are for calls.
use Rattle.std.proofs.Common.{◌≡◌, ℕ, ◌==◌, ◌&&◌, ◌||◌, Bool, true, false, List, [], ◌∷◌, get_or, nat_eq, nat_le, refl}
use Rattle.std.proofs.Common.{ap, ◌∙◌, arith}
use Rattle.std.specs.List.{list_any}
use Rattle.std.proofs.lemmas.Bool.Decides.{nat_tests}
use Rattle.elf_spec.specs.declared.Reloc.{Reloc}
use Rattle.elf_spec.specs.Relocations.{has_reloc}
use Rattle.exec_image.specs.declared.calls.Calls.{Calls}
use Rattle.exec_image.specs.Calls.{AreCalls, is_kind}
use Rattle.exec_image.proofs.Finding.{any_same}

any_or : {X : Type 0} (p q : X → Bool) (xs : List X) → list_any (λ x. p x || q x) xs ≡ (list_any p xs || list_any q xs)
any_or p q [] = refl
any_or p q (x ∷ xs) = decide (p x) (q x) (list_any p xs) (list_any q xs) (list_any (λ x. p x || q x) xs) (any_or p q xs)
  where
    decide : (a b c d e : Bool) → e ≡ (c || d) → ((a || b) || e) ≡ ((a || c) || (b || d))
    decide true b c d e h = refl
    decide false true true d e h = refl
    decide false true false d e h = refl
    decide false false c d e h = h

one_kind : (n k : ℕ) (b : Bool) → ((nat_le n k && nat_le k n) && b) ≡ (nat_eq k n && b)
one_kind n k b = ap (λ x. x && b) (decide (nat_eq k n) refl)
  where
    decide : (x : Bool) → nat_eq k n ≡ x → (nat_le n k && nat_le k n) ≡ nat_eq k n
    decide true e = grind (arith, nat_tests)
    decide false e = grind (arith, nat_tests)

pub one : (relocs : List Reloc) (a : ℕ)
    → list_any (λ r. is_kind 17 17 r && (r.place == a)) relocs ≡ has_reloc relocs 17 a
one relocs a =
    any_same (λ r. is_kind 17 17 r && (r.place == a)) (λ r. (r.kind == 17) && (r.place == a)) relocs
    (λ k d l. let r : Reloc = get_or relocs k d in one_kind 17 r.kind (r.place == a))

two_kinds : (k : ℕ) (b : Bool) → ((nat_le 18 k && nat_le k 19) && b) ≡ ((nat_eq k 18 && b) || (nat_eq k 19 && b))
two_kinds k true = grind (arith, nat_tests)
two_kinds k false = grind (arith, nat_tests)

pub two : (relocs : List Reloc) (a : ℕ)
    → list_any (λ r. is_kind 18 19 r && (r.place == a)) relocs ≡ (has_reloc relocs 18 a || has_reloc relocs 19 a)
two relocs a =
    any_same (λ r. is_kind 18 19 r && (r.place == a))
    (λ r. ((r.kind == 18) && (r.place == a)) || ((r.kind == 19) && (r.place == a))) relocs
    (λ k d l. let r : Reloc = get_or relocs k d in two_kinds r.kind (r.place == a))
    ∙ any_or (λ r. (r.kind == 18) && (r.place == a)) (λ r. (r.kind == 19) && (r.place == a)) relocs

three_kinds : (k : ℕ) (b : Bool) → ((nat_le 17 k && nat_le k 19) && b)
    ≡ ((nat_eq k 17 && b) || ((nat_eq k 18 && b) || (nat_eq k 19 && b)))
three_kinds k true = grind (arith, nat_tests)
three_kinds k false = grind (arith, nat_tests)

pub three : (relocs : List Reloc) (a : ℕ)
    → list_any (λ r. is_kind 17 19 r && (r.place == a)) relocs
    ≡ (has_reloc relocs 17 a || (has_reloc relocs 18 a || has_reloc relocs 19 a))
three relocs a =
    any_same (λ r. is_kind 17 19 r && (r.place == a))
    (λ r. ((r.kind == 17) && (r.place == a))
    || (((r.kind == 18) && (r.place == a)) || ((r.kind == 19) && (r.place == a)))) relocs
    (λ k d l. let r : Reloc = get_or relocs k d in three_kinds r.kind (r.place == a))
    ∙ any_or (λ r. (r.kind == 17) && (r.place == a))
    (λ r. ((r.kind == 18) && (r.place == a)) || ((r.kind == 19) && (r.place == a))) relocs
    ∙ ap (λ b. has_reloc relocs 17 a || b)
    (any_or (λ r. (r.kind == 18) && (r.place == a)) (λ r. (r.kind == 19) && (r.place == a)) relocs)

-- lists on which each test says the same have the same calls
pub calls_same : (xs ys : List Reloc) (calls : Calls) → ((p : Reloc → Bool) → list_any p xs ≡ list_any p ys)
    → AreCalls xs calls → AreCalls ys calls
calls_same xs ys calls h c =
    record {
      jals_rise = c.jals_rise;
      jals = λ a. c.jals a ∙ kind 17 a;
      pairs_rise = c.pairs_rise;
      pairs = λ a. c.pairs a ∙ ap (λ b. b || has_reloc xs 19 a) (kind 18 a)
          ∙ ap (λ b. has_reloc ys 18 a || b) (kind 19 a);
      all_rise = c.all_rise;
      all = λ a.
          c.all a ∙ ap (λ b. b || (has_reloc xs 18 a || has_reloc xs 19 a)) (kind 17 a)
          ∙ ap (λ b. has_reloc ys 17 a || (b || has_reloc xs 19 a)) (kind 18 a)
          ∙ ap (λ b. has_reloc ys 17 a || (has_reloc ys 18 a || b)) (kind 19 a);
    }
  where
    kind : (k a : ℕ) → has_reloc xs k a ≡ has_reloc ys k a
    kind k a = h (λ r. (r.kind == k) && (r.place == a))
