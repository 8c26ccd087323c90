-- What the flat machine loads is a word, and stands for what the symbol machine loads.
use Rattle.std.proofs.Common.{◌≡◌, ℕ, zero, suc, ◌+◌, ◌*◌, ◌%◌, ◌^◌, ◌<◌, List, [], ◌∷◌, Bool, true, false, cond, refl}
use Rattle.std.proofs.Common.{subst, arith}
use Rattle.std.specs.Prelude.{Option, Some, None, option_map, option_and_then, ◌==◌}
use Rattle.std.proofs.lemmas.Bool.Decides.{nat_tests}
use Rattle.rv_isa.specs.Words.{extended}
use Rattle.rv_isa.specs.declared.Width.{Width}
use Rattle.rv_isa.specs.declared.Width.TheVariants.{Byte, Half, Word, ByteU, HalfU}
use Rattle.elf_spec.specs.Memory.{image_end}
use Rattle.elf_spec.specs.Records.{segments_of}
use Rattle.machine_spec.specs.Memory.{Range, byte_of}
use Rattle.machine_spec.specs.Widths.{number_of, size_of, loaded_as}
use Rattle.flat_spec.specs.Stores as flat
use Rattle.flat_spec.specs.Stores.{bytes_from}
use Rattle.sym_value.specs.declared.Value.{Value}
use Rattle.sym_cells.specs.Memory.{Memory, loaded}
use Rattle.sym_cells.specs.Region as cells
use Rattle.sym_cells.specs.Region.{AreWords}
use Rattle.sym_spec.specs.Plain.{is_plain, is_plain_store}
use Rattle.match_spec.specs.Stands.{Places, Holds}
use Rattle.match_spec.specs.Parts.{InMemory}
use Rattle.simulation.specs.Laws.{Laws}

-- the bytes that are read are bytes
read_small : (memory : List Range) (a n : ℕ) (bs : List ℕ) → ((x b : ℕ) → byte_of memory x ≡ Some b → b < 256)
    → bytes_from memory a n ≡ Some bs → number_of bs < 256 ^ n
read_small memory a zero bs small e = let none : [] ≡ bs = cc in subst (λ xs. number_of xs < 256 ^ 0) none (omega arith)
read_small memory a (suc n) bs small e =
    first (λ more q. read_small memory (a + 1) n more small q) (byte_of memory a) refl e
  where
    first : ((more : List ℕ) → bytes_from memory (a + 1) n ≡ Some more → number_of more < 256 ^ n) → (o : Option ℕ)
        → byte_of memory a ≡ o
        → option_and_then (λ b. option_map (λ bs. b ∷ bs) (bytes_from memory (a + 1) n)) o ≡ Some bs
        → number_of bs < 256 ^ suc n
    first ih None q e = absurd (cc)
    first ih (Some b) q e = rest (bytes_from memory (a + 1) n) refl e
      where
        rest : (o : Option (List ℕ)) → bytes_from memory (a + 1) n ≡ o → option_map (λ bs. b ∷ bs) o ≡ Some bs
            → number_of bs < 256 ^ suc n
        rest None r e = absurd (cc)
        rest (Some more) r e =
            let is : b ∷ more ≡ bs = cc in
            let low : b < 256 = small a b q in
            let high : number_of more < 256 ^ n = ih more r in
            let next : 256 ^ suc n ≡ 256 * 256 ^ n = omega arith in
            let all : b + 256 * number_of more < 256 * 256 ^ n = omega (arith, low, high) in
            subst (λ xs. number_of xs < 256 ^ suc n) is (rw next all)

-- and what a load makes of them is a word
extended_8 : (v : ℕ) → v < 2 ^ 8 → extended 8 v < 2 ^ 32
extended_8 v small = grind (arith, nat_tests)

extended_16 : (v : ℕ) → v < 2 ^ 16 → extended 16 v < 2 ^ 32
extended_16 v small = grind (arith, nat_tests)

loaded_small : (width : Width) (v : ℕ) → v < 256 ^ size_of width → loaded_as width v < 2 ^ 32
loaded_small Byte v small = extended_8 v (omega (arith, small))
loaded_small Half v small = extended_16 v (omega (arith, small))
loaded_small Word v small = omega (arith, small)
loaded_small ByteU v small = omega (arith, small)
loaded_small HalfU v small = omega (arith, small)

word_loaded : (memory : List Range) (width : Width) (a w : ℕ) → ((x b : ℕ) → byte_of memory x ≡ Some b → b < 256)
    → flat.loaded memory width a ≡ Some w → w < 2 ^ 32
unfolding flat.loaded
word_loaded memory width a w small e =
    aligned (a % size_of width == 0) (bytes_from memory a (size_of width)) refl e
  where
    aligned : (t : Bool) (o : Option (List ℕ)) → bytes_from memory a (size_of width) ≡ o
        → cond t (option_map (λ bs. loaded_as width (number_of bs)) o) None ≡ Some w → w < 2 ^ 32
    aligned false o q e = absurd (cc)
    aligned true None q e = absurd (cc)
    aligned true (Some bs) q e =
        let is : loaded_as width (number_of bs) ≡ w = cc in
        subst (λ x. x < 2 ^ 32) is
        (loaded_small width (number_of bs) (read_small memory a (size_of width) bs small q))

-- a load on the flat machine whose word stands for the value
pub record LoadsAlike (places : Places) (memory : List Range) (width : Width) (a : ℕ) (v : Value) : Type 0 where
  pub word : ℕ
  pub there : flat.loaded memory width a ≡ Some word
  pub holds : Holds places v word

-- the load of an instruction
pub loads_alike : (file new : List ℕ) (places : Places) (m : Memory) (memory : List Range) (width : Width)
    (at v : Value)
    (w : ℕ)
    → Laws → AreWords places.back → InMemory file new places m memory → Holds places at w
    → loaded (is_plain file) m width at ≡ Some v → LoadsAlike places memory width w v
loads_alike file new places m memory width at v w laws words h holds e =
    let alike : cells.LoadsAlike places.back places.blocks memory width w v =
    laws.loads places.back places.blocks (image_end (segments_of file)) (is_plain file) (is_plain_store file) memory m
    width at v w words h.laid h.stands holds.is e in
    record {
      word = alike.word;
      there = alike.there;
      holds = record { is = alike.holds; small = word_loaded memory width w alike.word h.small alike.there };
    }
