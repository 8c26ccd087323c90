-- What is said of a fragment's run: it is defined, and a fact holds of the view after it.
use Rattle.std.specs.Prelude.{◌≡◌, Option, Some}
use Rattle.frag_code.specs.Meaning.{View}

pub record Ends (run : Option View) (P : View → Type 0) : Type 0 where
  pub state : View
  pub is : run ≡ Some state
  pub has : P state
