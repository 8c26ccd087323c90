use Rattle.std.proofs.Common.{◌≡◌, arith}
use Rattle.std.proofs.lemmas.Grind.{common_steps}
use Rattle.std.proofs.lemmas.List.Elements.{All-map, All-same}
use Rattle.profile_text.specs.Profile.{IsContext}
use Rattle.heap_trace.proofs.contexts.Contexts.into_list.Goals as goal

pub returns-clause-contexts : goal.returns-clause-contexts
returns-clause-contexts c =
    let same : c.from-list.result ≡ c.args.self = grind (arith, common_steps) in
    All-same IsContext c.from-list.result c.args.self same
    (rw (← c.self.view_is) (All-map IsContext (λ v. v.items) c.self.inside.table.keys c.self.invariant))
