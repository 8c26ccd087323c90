use Rattle.std.proofs.Common.{rules, refl}
use Rattle.std.specs.Prelude.{None}
use Rattle.std.proofs.lemmas.List.{length-replicate}
use Rattle.flat_mem.specs.declared.decoding.Known.{Known}
use Rattle.flat_mem.proofs.Keeping.{nothing_known, all_known}
use Rattle.flat_mem.proofs.decoding.empty_table.Goals as goal

pub returns : goal.returns
returns c = λ memory.
    let nothing : Known = record { addr = 1; instr = None } in
    let is = c.in_ok-table.ensures.items_if_clones_equal (search rules) in
    record {
      long = rw is (length-replicate 16384 nothing);
      known = rw is (all_known memory nothing 16384 (nothing_known memory nothing refl refl));
    }
