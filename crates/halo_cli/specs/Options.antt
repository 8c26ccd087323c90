-- The options of a line by their meaning: numbers, the heap's area, how groups are made, and the policy.
use Rattle.std.specs.Prelude.{ℕ, ℤ, ◌==◌, ◌||◌, Bool, List, map, length, position, slice_get, Option, IfSome, is_some}
use Rattle.std.specs.Prelude.{unwrap_or, codes, bytes_eq, if◌then◌else◌}
use Rattle.text_fields.specs.Reading.{number_of}
use Rattle.plan_core.specs.declared.types.Area.{Area}
use Rattle.group_policy.specs.declared.cut.Cut.{Cut}
use Rattle.grouping.specs.declared.making.Options.{Options}
use Rattle.halo_words.specs.Grammar.{Given, Asked, option_in}

-- the number in the value of an option, up to a greatest one; 0 where there is none
abbrev pub number_in : ℕ → Given → List ℕ → ℕ
number_in most given name = unwrap_or (number_of most (option_in given name)) 0

-- the heap's area; 0 granules where a command has no such options
abbrev pub area_in : Given → Area
area_in given = record {
  chunks = number_in 256 given (codes "chunks");
  log_chunk = number_in 20 given (codes "log");
  fallback = number_in 1048576 given (codes "fallback");
}

abbrev pub options_in : Given → Options
options_in given = record {
  tolerance = number_in 150 given (codes "tolerance");
  least_edge = number_in 17592186044416 given (codes "edge");
}

-- the name of the policy; empty where a command uses none
abbrev pub policy_in : Given → List ℕ
policy_in given = option_in given (codes "policy")

-- the policy of a line that gives none
abbrev pub default_policy : List ℕ
default_policy = codes "density"

-- the name of the policy that a line uses: the default of `self`, which has no option for it; empty where a command
-- uses none
abbrev pub policy_of : Asked → List ℕ
policy_of asked = if bytes_eq asked.word (codes "self") then default_policy else policy_in asked.given

-- the names of the policies that are handed in, and what the one at a place may answer of a cut
pub record Policies : Type 1 where
  pub names : List (List ℕ)
  pub answers : ℕ → Cut → ℤ → Type 0

-- those of a list, by the name of each and what it may answer
abbrev pub policies_of : {P : Type 0} → (P → List ℕ) → (P → Cut → ℤ → Type 0) → List P → Policies
policies_of name answers listed = record {
  names = map name listed;
  answers = λ k cut answer. IfSome (slice_get listed k) (λ policy. answers policy cut answer);
}

-- the place of the first policy of a name
abbrev pub place_named : List (List ℕ) → List ℕ → Option ℕ
place_named names name = position (λ other. bytes_eq other name) names

-- a command uses no policy, or there is one of this name
abbrev pub has_policy : List (List ℕ) → List ℕ → Bool
has_policy names name = (length name == 0) || is_some (place_named names name)
