-- The word of the line is that of the arm, and there are no other words.
use Rattle.std.proofs.Common.{◌∙◌, ⊎_elim, sym, codes}
use Rattle.halo_cli.proofs.Due.{at_word, is_command}
use Rattle.halo_cli.proofs.line.run_command.Goals as goal

pub returns-in-rewrite : goal.returns-in-rewrite
returns-in-rewrite g c =
    at_word _ c.args.values.now (codes "rewrite") _ _ _ (sym c.word.ensures ∙ c.in-rewrite.is)
    (c.rewrite_file.ensures (g.I.Source.seen c.args.input.now))

pub optimise_file-requires-clause-word : goal.optimise_file-requires-clause-word
optimise_file-requires-clause-word g c = sym c.word.ensures ∙ c.in-optimise.is

pub returns-in-optimise : goal.returns-in-optimise
returns-in-optimise g c =
    at_word _ c.args.values.now (codes "optimise") _ _ _ (sym c.word.ensures ∙ c.in-optimise.is)
    c.optimise_file.ensures

pub returns-in-run : goal.returns-in-run
returns-in-run g c =
    at_word _ c.args.values.now (codes "run") _ _ _ (sym c.word.ensures ∙ c.in-run.is) c.run_file.ensures

pub returns-in-symbols : goal.returns-in-symbols
returns-in-symbols g c =
    at_word _ c.args.values.now (codes "symbols") _ _ _ (sym c.word.ensures ∙ c.in-symbols.is) c.symbols_file.ensures

pub returns-in-profile : goal.returns-in-profile
returns-in-profile g c =
    at_word _ c.args.values.now (codes "profile") _ _ _ (sym c.word.ensures ∙ c.in-profile.is) c.profile_file.ensures

pub plan_file-requires-clause-word : goal.plan_file-requires-clause-word
plan_file-requires-clause-word g c = sym c.word.ensures ∙ c.in-plan.is

pub returns-in-plan : goal.returns-in-plan
returns-in-plan g c =
    at_word _ c.args.values.now (codes "plan") _ _ _ (sym c.word.ensures ∙ c.in-plan.is)
    (c.plan_file.ensures (g.I.Source.seen c.args.input.now))

pub returns-in-show : goal.returns-in-show
returns-in-show g c =
    at_word _ c.args.values.now (codes "show") _ _ _ (sym c.word.ensures ∙ c.in-show.is)
    (c.show_file.ensures (g.I.Source.seen c.args.input.now))

pub generate_file-requires-clause-word : goal.generate_file-requires-clause-word
generate_file-requires-clause-word g c = sym c.word.ensures ∙ c.in-gen.is

pub returns-in-gen : goal.returns-in-gen
returns-in-gen g c =
    at_word _ c.args.values.now (codes "gen") _ _ _ (sym c.word.ensures ∙ c.in-gen.is)
    (c.generate_file.ensures (g.F.Files.seen c.args.files.now) (g.I.Source.seen c.args.input.now))

pub self_run-requires-clause-word : goal.self_run-requires-clause-word
self_run-requires-clause-word g c = sym c.word.ensures ∙ c.in-self.is

pub returns-in-self : goal.returns-in-self
returns-in-self g c =
    at_word _ c.args.values.now (codes "self") _ _ _ (sym c.word.ensures ∙ c.in-self.is)
    (c.self_run.ensures (g.F.Files.seen c.args.files.now) (g.I.Source.seen c.args.input.now))

pub unreachable-requires : goal.unreachable-requires
unreachable-requires g c =
    ⊎_elim (λ is. c.in_default.not-rewrite (c.word.ensures ∙ is))
    (λ rest. ⊎_elim (λ is. c.in_default.not-optimise (c.word.ensures ∙ is))
    (λ rest. ⊎_elim (λ is. c.in_default.not-run (c.word.ensures ∙ is))
    (λ rest. ⊎_elim (λ is. c.in_default.not-symbols (c.word.ensures ∙ is))
    (λ rest. ⊎_elim (λ is. c.in_default.not-profile (c.word.ensures ∙ is))
    (λ rest. ⊎_elim (λ is. c.in_default.not-plan (c.word.ensures ∙ is))
    (λ rest. ⊎_elim (λ is. c.in_default.not-show (c.word.ensures ∙ is))
    (λ rest. ⊎_elim (λ is. c.in_default.not-gen (c.word.ensures ∙ is))
    (λ rest. ⊎_elim (λ is. c.in_default.not-self (c.word.ensures ∙ is)) (λ none. none) rest) rest) rest) rest) rest)
    rest) rest) rest)
    (is_command c.requires.asks.0 c.args.values.now c.requires.asks.1)
