use Rattle.std.proofs.Common.{◌≡◌, map, drop}
use Rattle.halo_words.specs.Table.{choice_of, choice_named}
use Rattle.halo_words.proofs.reading.find_setting.Given as goal

abbrev pub invariant-loop-at : goal.invariant-loop-at
invariant-loop-at l =
    choice_named (map choice_of (drop l.at l.settings)) l.name ≡ choice_named (map choice_of l.settings) l.name
