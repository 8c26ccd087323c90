-- What the sites of an executable are found by.
use Rattle.std.specs.Prelude.{◌≡◌, ◌≤◌}
use Rattle.elf_spec.specs.Relocations.{relocs_of}
use Rattle.site_spec.specs.Places.{text_at}
use Rattle.exec_image.specs.declared.sites.SiteSources.{SiteSources}
use Rattle.exec_image.specs.Calls.{AreCalls}
use Rattle.exec_image.specs.CodeParts.{IsCode, IsHeap}

-- they are of one file, and a new text would have room
pub record AreSources (from : SiteSources) : Type 0 where
  pub code : IsCode from.file.now from.segments.now from.code.now
  pub calls : AreCalls (relocs_of from.file.now) from.calls.now
  pub heap : IsHeap from.file.now from.heap.now
  pub room : from.text ≤ 0x70001000
  pub text : from.text ≡ text_at from.file.now
