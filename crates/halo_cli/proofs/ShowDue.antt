-- What is told brings `show` to one ending, and what was read brings it there.
use Rattle.std.proofs.Common.{◌≡◌, ◌∙◌, ℕ, inl, inr, codes, List, Option, None, Some, sym, ap, subst}
use Rattle.halo_outside.specs.Seen.{Contents, FilesSeen, IsToldAt}
use Rattle.exec_image.specs.declared.refusals.FileRefusal.{FileRefusal}
use Rattle.exec_image.specs.Refusals.{file_refusal}
use Rattle.exec_image.specs.Images.{IsAccepted}
use Rattle.endings.specs.declared.endings.Ending.{Ending}
use Rattle.endings.specs.declared.endings.Ending.TheVariants.{Done, ReadFault, Exited, Usage}
use Rattle.halo_cli.specs.Reads.{file_limit}
use Rattle.halo_cli.specs.Show.{show_ending, ChecksCome, ShowComes, ShowBrings}
use Rattle.halo_words.specs.Grammar.{operand_in}
use Rattle.halo_outside.specs.Seen.{contents_of}
use Rattle.halo_cli.specs.Show.{ShowWrites, show_reads, show_entry}
use Rattle.halo_cli.proofs.CommandLaws.{Laws, text_laws}
use Rattle.halo_cli.proofs.ReadsDue.{file_once, told_comes, no_file_comes, lacks_told, IsDecided, decided_as}

decided_show : (why : Option FileRefusal) → IsDecided (show_ending why)
decided_show None = tt
decided_show (Some why) = tt

decided_checks : (file : List ℕ) (ending : Ending) → ChecksCome file ending → IsDecided ending
decided_checks file ending is =
    decided_as ending (show_ending (file_refusal file)) is (decided_show (file_refusal file))

pub checks_once : (file : List ℕ) (a b : Ending) → ChecksCome file a → ChecksCome file b → a ≡ b
checks_once file a b at_a at_b = at_a ∙ sym at_b

-- where there is a summary, nothing refuses
pub shown_comes : (file : List ℕ) → IsAccepted file → ChecksCome file Done
shown_comes file none = sym (ap show_ending none)

pub show_told : (name : List ℕ) (contents : Contents) (before now : FilesSeen) (brought : Ending)
    → before.told ≡ Some contents → ShowBrings name before now brought → ShowComes name contents brought
show_told name contents before now brought told (inl none) =
    no_file_comes file_limit ChecksCome contents name before now brought told none
show_told name contents before now brought told (inr (file, read, comes)) =
    told_comes file_limit ChecksCome contents name file brought
    (subst (λ seen. IsToldAt seen name file) told read.told) read.within comes

-- no program runs
pub show_never_exits : (name : List ℕ) (before now : FilesSeen) (exit steps : ℕ)
    → ShowBrings name before now (Exited exit steps) → ⊥
show_never_exits name before now exit steps (inl (inl (is, lacks))) = cc
show_never_exits name before now exit steps (inl (inr (is, long))) = cc
show_never_exits name before now exit steps (inr (file, read, comes)) = decided_checks file (Exited exit steps) comes

-- and the words are a line
pub show_never_usage : (name : List ℕ) (before now : FilesSeen) (place : ℕ) → ShowBrings name before now (Usage place)
    → ⊥
show_never_usage name before now place (inl (inl (is, lacks))) = cc
show_never_usage name before now place (inl (inr (is, long))) = cc
show_never_usage name before now place (inr (file, read, comes)) = decided_checks file (Usage place) comes

-- only told contents lack the file
pub show_lacks : (name : List ℕ) (before now : FilesSeen) → ShowBrings name before now ReadFault
    → (contents : Contents) × (before.told ≡ Some contents) × ShowComes name contents ReadFault
show_lacks name before now (inl (inl (is, lacks))) = lacks_told file_limit ChecksCome before.told name lacks
show_lacks name before now (inl (inr (is, long))) = absurd (cc)
show_lacks name before now (inr (file, read, comes)) = absurd (decided_checks file ReadFault comes)

pub show_laws : Laws show_entry
show_laws = text_laws (codes "show")
    (λ given. show_reads (operand_in given 0))
    (λ given. ShowComes (operand_in given 0))
    (λ given. ShowBrings (operand_in given 0))
    (λ given. ShowWrites (operand_in given 0))
    (λ given contents a b. file_once file_limit ChecksCome checks_once (contents_of contents (operand_in given 0)) a b)
    (λ given contents before now ending told brings. show_told
    (operand_in given 0) contents before now ending told brings)
    (λ given before now brings. show_lacks (operand_in given 0) before now brings)
    (λ given before now exit steps brings. show_never_exits (operand_in given 0) before now exit steps brings)
