-- `rewrite PLAN FILE`: to which ending the files bring it, and what it writes.
use Rattle.std.specs.Prelude.{◌≡◌, ℕ, List, codes}
use Rattle.halo_outside.specs.Seen.{Contents, FilesSeen}
use Rattle.plan_core.specs.declared.types.Plan as types
use Rattle.rewriter.specs.Rewrites.{IsRewritten}
use Rattle.endings.specs.declared.endings.Ending.{Ending}
use Rattle.endings.specs.declared.endings.Ending.TheVariants.{Done}
use Rattle.halo_words.specs.Grammar.{operand_in}
use Rattle.halo_cli.specs.PlanAndFile.{IsTextOf, TextComes, ContentsCome, AreRead, BothBring, both_reads}
use Rattle.halo_cli.specs.Entry.{Entry, text_entry}

-- a plan that fits its file rewrites it
abbrev pub TextRewrites : List ℕ → List ℕ → Ending → Type 0
TextRewrites = TextComes (λ plan ending. ending ≡ Done)

-- to which ending told contents bring the command
abbrev pub RewriteComes : List ℕ → List ℕ → Contents → Ending → Type 0
RewriteComes = ContentsCome TextRewrites

-- to which ending what was read brings the command
abbrev pub RewriteBrings : List ℕ → List ℕ → FilesSeen → FilesSeen → Ending → Type 0
RewriteBrings = BothBring TextRewrites

-- the new file is the file, rewritten by the plan of the text
abbrev pub Makes : List ℕ → List ℕ → List ℕ → Type 0
Makes text file new = (plan : types.Plan) × IsTextOf text plan × IsRewritten file plan new

-- what the command writes: the new file of what was read
abbrev pub RewriteWrites : List ℕ → List ℕ → FilesSeen → FilesSeen → List ℕ → Type 0
RewriteWrites plan_name file_name before now new = (text : List ℕ) × (file : List ℕ)
    × AreRead plan_name file_name before now text file × Makes text file new

-- the command, with the plan as its first operand and the file as its second
abbrev pub rewrite_entry : Entry
rewrite_entry = text_entry (codes "rewrite")
    (λ given. both_reads (operand_in given 0) (operand_in given 1))
    (λ given. RewriteComes (operand_in given 0) (operand_in given 1))
    (λ given. RewriteBrings (operand_in given 0) (operand_in given 1))
    (λ given. RewriteWrites (operand_in given 0) (operand_in given 1))
