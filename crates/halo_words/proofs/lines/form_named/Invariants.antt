use Rattle.std.proofs.Common.{◌≡◌, map, drop}
use Rattle.halo_words.specs.Table.{shape_of, shape_named}
use Rattle.halo_words.proofs.lines.form_named.Given as goal

abbrev pub invariant-loop-at : goal.invariant-loop-at
invariant-loop-at l = shape_named (map shape_of (drop l.at l.forms)) l.word ≡ shape_named (map shape_of l.forms) l.word
