use Rattle.std.proofs.Common.{◌≡◌, length, drop}
use Rattle.elf_spec.specs.NewFile.{patched}
use Rattle.elf_write.proofs.front.patch_all.Given as goal

-- the patches that are left make of the bytes what all make of the old ones
abbrev pub invariant-loop-patch : goal.invariant-loop-patch
invariant-loop-patch l = record {
  done : patched (drop l.patch-index l.patches) l.bytes ≡ patched l.patches l.fn.bytes;
  long : length l.bytes ≡ length l.fn.bytes;
}
