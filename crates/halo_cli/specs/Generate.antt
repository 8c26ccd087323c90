-- `gen N`: it reads nothing, and writes the file of the generated program.
use Rattle.std.specs.Prelude.{◌≡◌, ℕ, [], unwrap_or, codes}
use Rattle.text_fields.specs.Reading.{number_of}
use Rattle.rv_build.specs.Generated.{generated}
use Rattle.endings.specs.declared.endings.Ending.TheVariants.{Done}
use Rattle.halo_words.specs.Grammar.{Given, operand_in}
use Rattle.halo_cli.specs.Entry.{Entry, text_entry}

-- the number in the operand
abbrev pub nodes_in : Given → ℕ
nodes_in given = unwrap_or (number_of 30000 (operand_in given 0)) 0

-- the command, with the number of nodes of each list as its operand; nothing brings it to a refusal
abbrev pub gen_entry : Entry
gen_entry = text_entry (codes "gen")
    (λ given. [])
    (λ given contents ending. ending ≡ Done)
    (λ given before now ending. ending ≡ Done)
    (λ given before now text. text ≡ generated (nodes_in given))
