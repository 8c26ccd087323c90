-- The four heap functions. x5 is the bits, and the arguments are in x10 and x11; the answer goes to x10.
use Rattle.std.specs.Prelude.{ℕ, List, [], ◌∷◌}
use Rattle.rv_isa.specs.declared.Op.TheVariants.{Add, Mul, Mulhu}
use Rattle.rv_isa.specs.declared.Cond.TheVariants.{Eq}
use Rattle.plan_core.specs.declared.types.Area.{Area}
use Rattle.plan_core.specs.declared.types.Row.{Row}
use Rattle.frag_code.specs.Fragments.{Fragment, Skip, Set, Compute, Imm, If, chained}
use Rattle.heap_code.specs.Pieces.{settle, size_need, place_block, clean_block, granule_of_block, free_block}

-- a block for a size in x10, which reads as zero, or 0
abbrev pub grant : List Row → Area → (data_at : ℕ) → Fragment
grant rows area data_at =
    chained (
    settle area data_at
    ∷ size_need
    ∷ place_block rows area
    ∷ If Eq 15 31 (Imm Add 10 0 0) (clean_block area data_at)
    ∷ []
    )

abbrev pub malloc_code : List Row → Area → (data_at : ℕ) → Fragment
malloc_code rows area data_at = grant rows area data_at

-- the product is refused where its upper word isn't 0
abbrev pub calloc_code : List Row → Area → (data_at : ℕ) → Fragment
calloc_code rows area data_at =
    chained (
    Compute Mulhu 6 10 11
    ∷ Compute Mul 10 10 11
    ∷ If Eq 6 0 (grant rows area data_at) (Imm Add 10 0 0)
    ∷ []
    )

abbrev pub free_code : Area → (data_at : ℕ) → Fragment
free_code area data_at =
    If Eq 10 0 Skip (chained (Set 12 data_at ∷ granule_of_block area data_at ∷ free_block area ∷ []))
