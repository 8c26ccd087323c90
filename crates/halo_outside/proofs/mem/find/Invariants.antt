use Rattle.std.proofs.Common.{◌≡◌, drop}
use Rattle.halo_outside.specs.Seen.{contents_of}
use Rattle.halo_outside.proofs.mem.find.Given as goal

-- none of the files so far has the name
abbrev pub invariant-loop-file : goal.invariant-loop-file
invariant-loop-file l = contents_of (drop l.file-index l.files) l.name ≡ contents_of l.files l.name
