use Rattle.std.proofs.Common.{map}
use Rattle.halo_words.specs.Table.{choice_of}
use Rattle.halo_words.proofs.LookUps.{choice_short}
use Rattle.halo_words.proofs.reading.setting_named.Goals as goal

pub returns-clause-short : goal.returns-clause-short
returns-clause-short c =
    rw c.find_setting.ensures (choice_short (map choice_of c.args.settings.now) c.args.name.now c.requires)
