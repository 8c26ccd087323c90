-- What an image holds of its file.
use Rattle.std.specs.Prelude.{◌≡◌}
use Rattle.elf_read.specs.Elf.{IsReadFrom}
use Rattle.exec_image.specs.declared.image.Image.TheInside.{Inside}
use Rattle.exec_image.specs.CodeParts.{IsCode, IsHeap}
use Rattle.exec_image.specs.Images.{AreSites, IsAccepted, execs_of}

pub record IsImage (a : Inside) : Type 0 where
  pub accepted : IsAccepted a.file.items
  pub read : IsReadFrom a.elf a.file.items
  pub execs : a.execs ≡ execs_of a.file.items
  pub code : IsCode a.file.items a.elf.segments a.code.items
  pub heap : IsHeap a.file.items a.heap.items
  pub sites : AreSites a.file.items a.sites
