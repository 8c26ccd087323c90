-- The laws hold of every command.
use Rattle.std.proofs.Common.{◌≡◌, ℕ, Bool, true, false, inl, inr, ◌⊎◌, List, [], ◌∷◌, Some, codes, refl, sym, subst}
use Rattle.std.proofs.Common.{arith}
use Rattle.std.specs.Str.{bytes_eq}
use Rattle.std.proofs.lemmas.Slice.Eq.{bytes_eq-Decides}
use Rattle.endings.specs.declared.endings.Ending.{Ending}
use Rattle.halo_words.specs.Table.{CommandForm, shape_named, the_table}
use Rattle.halo_words.specs.Grammar.{Asked, AsksFor}
use Rattle.halo_cli.specs.World.{Outside, OnlyMoves}
use Rattle.halo_cli.specs.Entry.{Entry}
use Rattle.halo_cli.specs.RewriteCommand.{rewrite_entry}
use Rattle.halo_cli.specs.Run.{run_entry}
use Rattle.halo_cli.specs.Symbols.{symbols_entry}
use Rattle.halo_cli.specs.Show.{show_entry}
use Rattle.halo_cli.specs.Generate.{gen_entry}
use Rattle.halo_cli.specs.Options.{Policies}
use Rattle.halo_cli.specs.Plan.{plan_entry}
use Rattle.halo_cli.specs.Profile.{ProfileWrites, profile_entry}
use Rattle.halo_cli.specs.Optimise.{OptimiseWrites, optimise_entry}
use Rattle.halo_cli.specs.SelfRun.{self_entry}
use Rattle.halo_cli.specs.Commands.{entries, all_entries, no_entry, entry_if, entry_named, entry_in}
use Rattle.halo_words.specs.declared.values.Stop.{Stop}
use Rattle.halo_words.specs.declared.values.Stop.TheVariants as stop
use Rattle.halo_words.specs.Stops.{StopsFor}
use Rattle.halo_cli.specs.Stops.{stop_ending}
use Rattle.halo_cli.specs.Ends.{EndsOf, LineEnds}
use Rattle.halo_cli.proofs.CommandLaws.{Laws}
use Rattle.halo_cli.proofs.PlanAndFileDue.{TextsOnce}
use Rattle.halo_cli.proofs.RewriteDue.{rewrite_laws}
use Rattle.halo_cli.proofs.RunDue.{run_laws}
use Rattle.halo_cli.proofs.SymbolsDue.{symbols_laws}
use Rattle.halo_cli.proofs.ShowDue.{show_laws}
use Rattle.halo_cli.proofs.GenDue.{gen_laws}
use Rattle.halo_cli.proofs.PlanDue.{ProfilesOnce, plan_laws}
use Rattle.halo_cli.proofs.ProfilingDue.{profiling_laws}
use Rattle.halo_cli.proofs.SelfDue.{self_laws}

no_laws : Laws no_entry
no_laws = record {
  due = λ given contents before now due brought told comes brings. absurd comes;
  started = λ given contents before now due told comes started. absurd comes;
  lacking = λ given before now brings. absurd brings;
  done = λ given before now ending success line quiet brings leaves. absurd brings;
  silent = λ given before now ending one leaves. absurd leaves;
  lacks = λ given before now ending is leaves. absurd leaves;
}

laws_if : (test : Bool) (entry other : Entry) → Laws entry → Laws other → Laws (entry_if test entry other)
laws_if true entry other laws others = laws
laws_if false entry other laws others = others

pub laws_named : TextsOnce → (word : List ℕ) → Laws (entry_named entries word)
laws_named once word =
    laws_if (bytes_eq rewrite_entry.word word) rewrite_entry
    (entry_named (run_entry ∷ symbols_entry ∷ profile_entry ∷ show_entry ∷ gen_entry ∷ []) word)
    (rewrite_laws once)
    (laws_if (bytes_eq run_entry.word word) run_entry
    (entry_named (symbols_entry ∷ profile_entry ∷ show_entry ∷ gen_entry ∷ []) word)
    run_laws
    (laws_if (bytes_eq symbols_entry.word word) symbols_entry
    (entry_named (profile_entry ∷ show_entry ∷ gen_entry ∷ []) word)
    (symbols_laws once)
    (laws_if (bytes_eq profile_entry.word word) profile_entry (entry_named (show_entry ∷ gen_entry ∷ []) word)
    (profiling_laws (codes "profile") ProfileWrites)
    (laws_if (bytes_eq show_entry.word word) show_entry (entry_named (gen_entry ∷ []) word) show_laws
    (laws_if (bytes_eq gen_entry.word word) gen_entry no_entry gen_laws no_laws)))))

pub laws_of : TextsOnce → ProfilesOnce → (policies : Policies) (asked : Asked) → Laws (entry_in policies asked)
laws_of texts profiles policies asked =
    laws_if (bytes_eq (plan_entry policies).word asked.word) (plan_entry policies)
    (entry_named (optimise_entry policies ∷ self_entry policies ∷ entries) asked.word)
    (plan_laws profiles policies)
    (laws_if (bytes_eq (optimise_entry policies).word asked.word) (optimise_entry policies)
    (entry_named (self_entry policies ∷ entries) asked.word)
    (profiling_laws (codes "optimise") (OptimiseWrites policies))
    (laws_if (bytes_eq (self_entry policies).word asked.word) (self_entry policies) (entry_named entries asked.word)
    (self_laws policies) (laws_named texts asked.word)))

pub unmoved_by : (before : Outside) → OnlyMoves before before
unmoved_by before = record {
  files = record { told = refl; faults = omega arith; taken = omega arith };
  input = record { tells = refl; faults = omega arith; taken = omega arith };
  out = record { tells = refl; later = omega arith };
}

-- a line that stopped before its command
pub stop_ends : (policies : Policies) (words : List (List ℕ)) (why : Stop) (before : Outside) → StopsFor words why
    → LineEnds policies words before before (stop_ending why)
stop_ends policies words (stop.Usage place) before wrong = inl (place, refl, inl wrong, refl)
stop_ends policies words stop.Memory before line = inr (inl (refl, line, refl))

-- the word is that of one of the commands
abbrev IsWordOf : List CommandForm → List ℕ → Type 0
IsWordOf [] word = ⊥
IsWordOf (shape ∷ shapes) word = (word ≡ shape.word) ⊎ IsWordOf shapes word

among : (shapes : List CommandForm) (word : List ℕ) (shape : CommandForm) → shape_named shapes word ≡ Some shape
    → IsWordOf shapes word
among [] word shape found = absurd (cc)
among (first ∷ rest) word shape found = by (bytes_eq first.word word) refl (among rest word shape)
  where
    by : (test : Bool) → bytes_eq first.word word ≡ test
        → (shape_named rest word ≡ Some shape → IsWordOf rest word)
        → IsWordOf (first ∷ rest) word
    by true test later = inl (sym ((bytes_eq-Decides first.word word).0 test))
    by false test later = inr (later (rw test at found))

pub is_command : (words : List (List ℕ)) (asked : Asked) → AsksFor the_table words asked
    → (asked.word ≡ codes "rewrite") ⊎ (asked.word ≡ codes "optimise") ⊎ (asked.word ≡ codes "run")
    ⊎ (asked.word ≡ codes "symbols") ⊎ (asked.word ≡ codes "profile") ⊎ (asked.word ≡ codes "plan")
    ⊎ (asked.word ≡ codes "show") ⊎ (asked.word ≡ codes "gen") ⊎ (asked.word ≡ codes "self") ⊎ ⊥
unfolding the_table
is_command words asked asks = among the_table asked.word asks.shape asks.command

-- the command of a line whose word is this
pub at_word : (policies : Policies) (asked : Asked) (word : List ℕ) (before now : Outside) (ending : Ending)
    → asked.word ≡ word → EndsOf (entry_named (all_entries policies) word) asked.given before now ending
    → EndsOf (entry_in policies asked) asked.given before now ending
at_word policies asked word before now ending is ends =
    subst (λ w. EndsOf (entry_named (all_entries policies) w) asked.given before now ending) (sym is) ends
