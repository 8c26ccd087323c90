use Rattle.std.proofs.Common.{◌≡◌, ◌++◌, take, flat_map}
use Rattle.elf_spec.specs.Fields.{word_bytes}
use Rattle.rv_build.proofs.tables.push_code.Given as goal

-- the words so far have been added
abbrev pub invariant-loop-word : goal.invariant-loop-word
invariant-loop-word l = l.out.items ≡ l.fn.out.items ++ flat_map word_bytes (take l.word-index l.words)
