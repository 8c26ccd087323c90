-- `profile [OPTION].. FILE`: what it writes.
use Rattle.std.specs.Prelude.{ℕ, List, codes}
use Rattle.plan_core.specs.declared.profiles.Profile.{Profile}
use Rattle.halo_words.specs.Grammar.{Given}
use Rattle.halo_cli.specs.Plan.{IsTextOf}
use Rattle.halo_cli.specs.Profiling.{profiling_entry}
use Rattle.halo_cli.specs.Entry.{Entry}

-- the text of the profile
abbrev pub ProfileWrites : Given → List ℕ → Profile → List ℕ → Type 0
ProfileWrites given file profile text = IsTextOf text profile

-- the command, which profiles the run of its file
abbrev pub profile_entry : Entry
profile_entry = profiling_entry (codes "profile") ProfileWrites
