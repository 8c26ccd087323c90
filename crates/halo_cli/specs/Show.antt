-- `show FILE`: to which ending the file brings it, and what it writes.
use Rattle.std.specs.Prelude.{◌≡◌, ℕ, ◌⊎◌, List, [], ◌∷◌, Option, None, Some, codes}
use Rattle.halo_outside.specs.Seen.{Contents, contents_of, FilesSeen}
use Rattle.exec_image.specs.declared.refusals.FileRefusal.{FileRefusal}
use Rattle.exec_image.specs.Refusals.{file_refusal}
use Rattle.exec_image.specs.Images.{IsAccepted}
use Rattle.image_summary.specs.Summary.{IsSummary}
use Rattle.endings.specs.declared.endings.Ending.{Ending}
use Rattle.endings.specs.declared.endings.Ending.TheVariants.{Done, File}
use Rattle.endings.specs.declared.endings.BadFile.TheVariants.{Refused, TooLong}
use Rattle.halo_words.specs.Grammar.{operand_in}
use Rattle.halo_cli.specs.Reads.{file_limit, FileComes, FileRead, IsRead, IsNoFile}
use Rattle.halo_cli.specs.Entry.{Entry, text_entry}

-- the ending of a file, by the first check that it fails
abbrev pub show_ending : Option FileRefusal → Ending
show_ending None = Done
show_ending (Some why) = File (Refused why)

-- to which ending a file within its limit brings the command
abbrev pub ChecksCome : List ℕ → Ending → Type 0
ChecksCome file ending = ending ≡ show_ending (file_refusal file)

-- to which ending told contents bring the command
abbrev pub ShowComes : List ℕ → Contents → Ending → Type 0
ShowComes name contents ending = FileComes file_limit (contents_of contents name) ChecksCome ending

-- to which ending what was read brings the command
abbrev pub ShowBrings : List ℕ → FilesSeen → FilesSeen → Ending → Type 0
ShowBrings name before now ending = IsNoFile name file_limit before now ending
    ⊎ ((file : List ℕ) × IsRead name file_limit before now file × ChecksCome file ending)

-- what the command writes: the summary of the accepted file that was read
abbrev pub ShowWrites : List ℕ → FilesSeen → FilesSeen → List ℕ → Type 0
ShowWrites name before now text =
    (file : List ℕ) × IsRead name file_limit before now file × IsAccepted file × IsSummary file text

abbrev pub show_reads : List ℕ → List FileRead
show_reads name = record { name = name; limit = file_limit; long = File TooLong } ∷ []

-- the command, with the file as its operand
abbrev pub show_entry : Entry
show_entry = text_entry (codes "show")
    (λ given. show_reads (operand_in given 0))
    (λ given. ShowComes (operand_in given 0))
    (λ given. ShowBrings (operand_in given 0))
    (λ given. ShowWrites (operand_in given 0))
