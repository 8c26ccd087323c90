use Rattle.std.proofs.Common.{◌≡◌, ◌++◌, take, flat_map}
use Rattle.rv_build.specs.RecordBytes.{reloc_bytes}
use Rattle.rv_build.proofs.tables.push_relocs.Given as goal

-- the entries so far have been added
abbrev pub invariant-loop-reloc : goal.invariant-loop-reloc
invariant-loop-reloc l = l.out.items ≡ l.fn.out.items ++ flat_map reloc_bytes (take l.reloc-index l.relocs)
