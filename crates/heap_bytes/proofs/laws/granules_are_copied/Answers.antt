use Rattle.std.proofs.Common.{refl, arith}
use Rattle.heap_bytes.specs.Copying.{copy_block}
use Rattle.heap_bytes.proofs.Copies.{copies_blocks}
use Rattle.heap_bytes.proofs.laws.granules_are_copied.Goals as goal

pub returns : goal.returns
returns c =
    let law = c.fields_are_tested_and_words_counted_by_parts.ensures in
    record {
      copies = copies_blocks;
      formed = record { fields = law.fields copy_block refl; size = let e = law.words copy_block in omega (arith, e) };
      words = law.words copy_block;
    }
