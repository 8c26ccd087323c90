use Rattle.affinity.specs.Views.{seen_of}
use Rattle.affinity.proofs.GraphLaws.{graph_told, nodes_told}
use Rattle.affinity.proofs.pushes.Affinity.graph.Goals as goal

pub returns-clause-exact : goal.returns-clause-exact
returns-clause-exact c =
    let nodes = rw (c.deref.ensures.value) at c.graph_of.ensures.nodes in
    rw (← c.self.view_is)
    (graph_told c.graph_of.result
    (seen_of c.self.inside) nodes c.graph_of.ensures.edges c.graph_of.ensures.sorted c.graph_of.ensures.unique)

pub returns-clause-counts : goal.returns-clause-counts
returns-clause-counts c =
    let nodes = rw (c.deref.ensures.value) at c.graph_of.ensures.nodes in
    nodes_told c.graph_of.result (seen_of c.self.inside) c.self.invariant.0 c.self.invariant.1 nodes
