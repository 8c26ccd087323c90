-- The entries of the names that are left are missing.
use Rattle.std.proofs.Common.{◌≡◌, ◌++◌, drop, map}
use Rattle.exec_image.specs.CodeParts.{entry_of}
use Rattle.exec_image.proofs.heap.find_entries.Given as goal

abbrev pub invariant-loop-name : goal.invariant-loop-name
invariant-loop-name l = l.list.items ++ map (entry_of l.file) (drop l.name-index l.names) ≡ map (entry_of l.file) l.names
