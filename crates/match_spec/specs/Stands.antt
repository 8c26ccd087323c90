-- Which words of the flat machine stand for which values of the symbol machine.
use Rattle.std.specs.Prelude.{ℕ, ◌+◌, ◌^◌, ◌<◌, List, Option, Some, None}
use Rattle.plan_core.specs.declared.types.Plan.{Plan}
use Rattle.site_spec.specs.Places.{text_at, stub_at}
use Rattle.sym_value.specs.declared.Value.{Value}
use Rattle.sym_value.specs.Standing as values
use Rattle.sym_spec.specs.SymMachine.{back_index}

-- where a call comes back to in the new file: behind the call in its stub, for a chosen site
abbrev pub back_in : ℕ → Option ℕ → ℕ → ℕ
back_in text (Some k) a = stub_at text k + 20
back_in text None a = a

unfoldable pub back_of : List ℕ → Plan → ℕ → ℕ
back_of file plan a =
    back_in (text_at file) (back_index file plan.sites a) a

-- where in a run of the new file that stands of which the symbol machine has names: where calls come
-- back to, by their return address in the source, and the start of each block
pub record Places : Type 0 where
  pub back : ℕ → ℕ
  pub blocks : List ℕ

-- the places of a file under a plan, with blocks at these addresses
abbrev pub places_of : List ℕ → Plan → List ℕ → Places
places_of file plan at = record { back = back_of file plan; blocks = at }

-- a word that stands for a value of this run
pub record Holds (places : Places) (v : Value) (w : ℕ) : Type 0 where
  pub is : values.Holds places.back places.blocks v w
  pub small : w < 2 ^ 32
