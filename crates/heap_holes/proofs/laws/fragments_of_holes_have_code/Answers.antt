use Rattle.std.proofs.Common.{refl, arith}
use Rattle.heap_holes.specs.Placing.{first_fit}
use Rattle.heap_holes.specs.Releasing.{release_low}
use Rattle.heap_holes.proofs.laws.fragments_of_holes_have_code.Goals as goal

pub returns : goal.returns
returns c =
    let law = c.fields_are_tested_and_words_counted_by_parts.ensures in
    record {
      placing = record { fields = law.fields first_fit refl; size = let e = law.words first_fit in omega (arith, e) };
      placing_words = law.words first_fit;
      releasing = record {
        fields = law.fields release_low refl;
        size = let e = law.words release_low in omega
            (arith, e);
      };
      releasing_words = law.words release_low;
    }
