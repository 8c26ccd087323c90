-- All commands, by the words of their lines.
use Rattle.std.specs.Prelude.{ℕ, Bool, true, false, List, [], ◌∷◌, bytes_eq}
use Rattle.endings.specs.declared.endings.Ending.{Ending}
use Rattle.halo_words.specs.Grammar.{Asked}
use Rattle.halo_cli.specs.World.{Outside}
use Rattle.halo_cli.specs.Entry.{Entry}
use Rattle.halo_cli.specs.Options.{Policies}
use Rattle.halo_cli.specs.RewriteCommand.{rewrite_entry}
use Rattle.halo_cli.specs.Run.{run_entry}
use Rattle.halo_cli.specs.Symbols.{symbols_entry}
use Rattle.halo_cli.specs.Show.{show_entry}
use Rattle.halo_cli.specs.Generate.{gen_entry}
use Rattle.halo_cli.specs.Plan.{plan_entry}
use Rattle.halo_cli.specs.Profile.{profile_entry}
use Rattle.halo_cli.specs.Optimise.{optimise_entry}
use Rattle.halo_cli.specs.SelfRun.{self_entry}

-- the commands that use no policy
abbrev pub entries : List Entry
entries = rewrite_entry ∷ run_entry ∷ symbols_entry ∷ profile_entry ∷ show_entry ∷ gen_entry ∷ []

-- all commands
abbrev pub all_entries : Policies → List Entry
all_entries policies = plan_entry policies ∷ optimise_entry policies ∷ self_entry policies ∷ entries

-- a word that is no command's: nothing comes of it
abbrev pub no_entry : Entry
no_entry = record {
  word = [];
  reads = λ given. [];
  comes = λ given contents input ending. ⊥;
  brings = λ given before now ending. ⊥;
  leaves = λ given before now ending. ⊥;
  started = λ given before now. ⊥;
  fails = λ given before now. ⊥;
  lacks = λ given before now. ⊥;
  done = λ given before now. ⊥;
}

abbrev pub entry_if : Bool → Entry → Entry → Entry
entry_if true entry other = entry
entry_if false entry other = other

-- the first command of a word
abbrev pub entry_named : List Entry → List ℕ → Entry
entry_named [] word = no_entry
entry_named (entry ∷ more) word = entry_if (bytes_eq entry.word word) entry (entry_named more word)

-- the command of a line
abbrev pub entry_in : Policies → Asked → Entry
entry_in policies asked = entry_named (all_entries policies) asked.word

-- of those that use no policy
abbrev pub entry_of : Asked → Entry
entry_of asked = entry_named entries asked.word

-- to which ending what it read brings a command that uses no policy
abbrev pub Brings : Asked → Outside → Outside → Ending → Type 0
Brings asked = (entry_of asked).brings asked.given

-- a read of a command that uses no policy failed: of a file, or of the input of a program that runs
abbrev pub ReadFails : Asked → Outside → Outside → Type 0
ReadFails asked = (entry_of asked).fails asked.given
