-- The generated program is what is added part by part, and it is small.
use Rattle.std.proofs.Common.{rules, ◌≡◌, ℕ, List, [], ◌∷◌, ◌++◌, map, refl, ap, append_assoc, arith}
use Rattle.rv_isa.specs.Encoded.{encoded}
use Rattle.rv_isa.specs.declared.Instr.{Instr}
use Rattle.rv_build.specs.declared.labels.Label.{Label}
use Rattle.rv_build.specs.Parts.{Parts, AreSmall, no_parts, with_code, with_symbol, with_symbols, with_relocs}
use Rattle.rv_build.specs.Assembly.{placed, s0, s1}
use Rattle.rv_build.specs.Generated.{building, adding, prepending, allocating, calls, functions, instructions, left}
use Rattle.rv_build.specs.Generated.{right, node, program}

-- parts with the words of these lines, which stand at an address
abbrev pub and_lines : Parts → ℕ → List (ℕ → Instr) → Parts
and_lines p at lines = with_code p (map encoded (placed at lines))

abbrev pub all_lines : ℕ → Parts
all_lines n =
    let built : Parts = and_lines (and_lines no_parts 0x10100 (building n)) 0x10120 adding in
    and_lines (and_lines (and_lines built left (prepending s0)) right (prepending s1)) node allocating

pub program_by_parts : (n : ℕ) → with_relocs (with_symbols (all_lines n) functions) calls ≡ program n
unfolding program instructions
program_by_parts n = refl

four_more : {A : Type 0} (xs : List A) (a b c d : A)
    → (((xs ++ a ∷ []) ++ b ∷ []) ++ c ∷ []) ++ d ∷ [] ≡ xs ++ a ∷ b ∷ c ∷ d ∷ []
four_more xs a b c d = simp append_assoc

-- four symbols, one after the other
pub four_symbols : (p : Parts) (a b c d : Label)
    → with_symbol (with_symbol (with_symbol (with_symbol p a) b) c) d ≡ with_symbols p (a ∷ b ∷ c ∷ d ∷ [])
four_symbols p a b c d =
    ap (λ ss. record { words = p.words; symbols = ss; relocs = p.relocs }) (four_more p.symbols a b c d)

pub program_is_small : (n : ℕ) → AreSmall (program n)
unfolding program instructions
program_is_small n = record {
  words = omega arith;
  symbols = omega arith;
  names = search rules;
  relocs = omega arith;
  indices = search rules;
}
