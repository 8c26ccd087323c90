-- The places of entries for calls, as they are looked up.
use Rattle.std.specs.Prelude.{◌≡◌, ℕ, ◌+◌, ◌==◌, ◌&&◌, ◌||◌, Bool, false, List, Option, Some, None, nat_le}
use Rattle.std.specs.List.{list_any}
use Rattle.std.specs.List.Sorted.{IsNonDecreasing}
use Rattle.elf_spec.specs.declared.Reloc.{Reloc}
use Rattle.elf_spec.specs.Relocations.{has_reloc}
use Rattle.exec_image.specs.declared.calls.Calls.{Calls}

-- the entry's kind is in a range
abbrev pub is_kind : (low high : ℕ) → Reloc → Bool
is_kind low high r = nat_le low r.kind && nat_le r.kind high

-- the places of the entries for JAL (17), of those for CALL and CALL_PLT (18, 19), and all of them, in
-- order
pub record AreCalls (relocs : List Reloc) (calls : Calls) : Type 0 where
  pub jals_rise : IsNonDecreasing calls.jals.items
  pub jals : (a : ℕ) → list_any (λ p. p == a) calls.jals.items ≡ has_reloc relocs 17 a
  pub pairs_rise : IsNonDecreasing calls.pairs.items
  pub pairs : (a : ℕ) → list_any (λ p. p == a) calls.pairs.items ≡ (has_reloc relocs 18 a || has_reloc relocs 19 a)
  pub all_rise : IsNonDecreasing calls.all.items
  pub all : (a : ℕ) → list_any (λ p. p == a) calls.all.items
      ≡ (has_reloc relocs 17 a || (has_reloc relocs 18 a || has_reloc relocs 19 a))

-- an address is one of the two words of this heap function
abbrev pub is_word_of : ℕ → Option ℕ → Bool
is_word_of a (Some e) = (e == a) || (e + 4 == a)
is_word_of a None = false
