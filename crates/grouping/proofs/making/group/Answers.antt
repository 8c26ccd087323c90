use Rattle.std.proofs.Common.{◌≡◌, ◌<◌, ◌∙◌, All, ap, length, sym, subst, rules}
use Rattle.std.specs.List.{Contains}
use Rattle.std.proofs.lemmas.List.{places}
use Rattle.std.proofs.lemmas.Result.{IfOk-weaker}
use Rattle.plan_core.specs.declared.profiles.Edge.{Edge}
use Rattle.grouping.specs.Weights.{kept_edges}
use Rattle.grouping.specs.Connected.{IsConnected}
use Rattle.grouping.specs.Growing.{AreEdges}
use Rattle.grouping.proofs.Connecting.{begun_connected, kept_weigh}
use Rattle.grouping.proofs.making.group.Goals as goal

pub returns-clause-greedy : goal.returns-clause-greedy
returns-clause-greedy g c =
    let n = length c.as_mut_slice.result.now in
    let same : n ≡ length c.args.graph.now.nodes = search (rules, places) in
    let items_are = c.in_ok-kept.ensures.edges ∙ ap (kept_edges c.args.options.now.least_edge) c.as_slice.ensures in
    rw (same, items_are) at c.make.ensures

pub returns-clause-connected : goal.returns-clause-connected
returns-clause-connected g c =
    let items = c.in_ok-kept.kept.edges.items in
    let n = length c.as_mut_slice.result.now in
    let same : n ≡ length c.as_slice-contexts.result.now = search (rules, places) in
    let are : AreEdges n items = subst (λ k. AreEdges k items) (sym same) c.in_ok-kept.ensures.kept.edges in
    let items_are = c.in_ok-kept.ensures.edges ∙ ap (kept_edges c.args.options.now.least_edge) c.as_slice.ensures in
    let weigh : (e : Edge) → Contains items e → 0 < e.weight = rw items_are
    (kept_weigh c.args.options.now.least_edge c.args.graph.now.edges c.requires.least_edge.0) in
    IfOk-weaker c.make.result _
    (λ groups. All (IsConnected (kept_edges c.args.options.now.least_edge c.args.graph.now.edges)) groups)
    (λ groups greedy. rw (← items_are)
    (begun_connected _ c.args.options.now.tolerance n items are c.requires.tolerance weigh
    (λ cut range. (c.args.policy.now.kept cut range).1) groups greedy.0))
    c.make.ensures
