-- The words so far have their four bytes each.
use Rattle.std.proofs.Common.{◌≡◌, ◌+◌, ◌*◌, ◌++◌, drop, length}
use Rattle.std.specs.Prelude.{flat_map}
use Rattle.elf_spec.specs.Fields.{word_bytes}
use Rattle.rewriter.proofs.text.push_words.Given as goal

abbrev pub invariant-loop-word : goal.invariant-loop-word
invariant-loop-word l = record {
  done : l.text.items ++ flat_map word_bytes (drop l.word-index l.words)
      ≡ l.fn.text.items ++ flat_map word_bytes l.words;
  long : length l.text.items ≡ length l.fn.text.items + 4 * l.word-index;
}
