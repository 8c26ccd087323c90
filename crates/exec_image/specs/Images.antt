-- What an accepted file is seen as: its executable sections, the sites of its calls and the file parts
-- of its segments.
use Rattle.std.specs.Prelude.{◌≡◌, ℕ, ◌+◌, ◌<◌, Bool, false, List, [], ◌∷◌, take, drop, All, AllPairs, Any, Option}
use Rattle.std.specs.Prelude.{Some, None, Result, if◌then◌else◌}
use Rattle.elf_spec.specs.declared.Section.{Section}
use Rattle.elf_spec.specs.declared.Segment.{Segment}
use Rattle.elf_spec.specs.Code.{is_executable}
use Rattle.elf_spec.specs.Memory.{is_loaded}
use Rattle.elf_spec.specs.Records.{sections_of}
use Rattle.site_spec.specs.declared.Site.{Site}
use Rattle.site_spec.specs.Sites.{site_at}
use Rattle.exec_image.specs.declared.execs.Exec.{Exec}
use Rattle.exec_image.specs.declared.refusals.FileRefusal.{FileRefusal}
use Rattle.exec_image.specs.declared.refusals.FileRefusal.TheVariants.{Memory}
use Rattle.first_check.specs.Answers.{GivesOrRefuses}
use Rattle.exec_image.specs.Refusals.{file_refusal}

-- no check refuses the file
abbrev pub IsAccepted : List ℕ → Type 0
IsAccepted file = file_refusal file ≡ None

-- the executable ones of sections, the first of which has this index
abbrev pub execs_from : ℕ → List Section → List Exec
execs_from i [] = []
execs_from i (s ∷ ss) =
    if is_executable s
    then record { index = i; addr = s.addr; size = s.size } ∷ execs_from (i + 1) ss
    else execs_from (i + 1) ss

unfoldable pub execs_of : List ℕ → List Exec
execs_of file = execs_from 0 (sections_of file)

-- all sites of a file, by address
pub record AreSites (file : List ℕ) (sites : List Site) : Type 0 where
  pub each : All (λ s. site_at file s.addr ≡ Some s) sites
  pub every : (a : ℕ) (s : Site) → site_at file a ≡ Some s → Any (λ t. t ≡ s) sites
  pub ascending : AllPairs (λ s t. s.addr < t.addr) sites

abbrev pub is_loaded_one : Option Segment → Bool
is_loaded_one (Some g) = is_loaded g
is_loaded_one None = false

-- the bytes of the file that a segment is loaded with
abbrev pub file_part : List ℕ → Option Segment → List ℕ
file_part file (Some g) = take g.file_size (drop g.offset file)
file_part file None = []

-- the image of an accepted file is seen as the file; another file is refused for the first check that
-- it fails; memory may lack
abbrev pub GivesImage : Result (List ℕ) FileRefusal → List ℕ → Type 0
GivesImage result file = GivesOrRefuses Memory result (file_refusal file) file
