-- What patches and new segments must be for the new file of an accepted executable to be made of them.
use Rattle.std.specs.Prelude.{◌≡◌, ℕ, ◌+◌, ◌≤◌, List, true, length, All, Any}
use Rattle.elf_spec.specs.declared.NewSegment.{NewSegment}
use Rattle.elf_spec.specs.declared.Patch.{Patch}
use Rattle.elf_spec.specs.Code.{is_executable}
use Rattle.elf_spec.specs.Records.{sections_of}
use Rattle.elf_write.specs.Inputs.{IsInside, IsSmall}
use Rattle.elf_write.specs.Kept.{AreAddedAbove, AreTablesUnpatched}
use Rattle.elf_write.specs.Layout.{AreDisjointPatches}

-- the patch lies in an executable section
abbrev pub IsInCode : List ℕ → Patch → Type 0
IsInCode file p =
    Any (λ s. (is_executable s ≡ true) × (s.offset ≤ p.offset) × (p.offset + 4 ≤ s.offset + s.size)) (sections_of file)

-- the patches and the new segments are such that the new file can be made of them, has room in memory and is
-- read again, where no table lies over e_phoff and e_phnum
pub record AreParts (file : List ℕ) (patches : List Patch) (segments : List NewSegment) : Type 0 where
  pub inside : All (IsInside (length file)) patches
  pub apart : AreDisjointPatches patches
  pub unpatched : AreTablesUnpatched file patches
  pub above : AreAddedAbove file segments
  pub small : All IsSmall segments
