use Rattle.std.proofs.Common.{◌≡◌, ◌<◌, true, false, hash_map_len, sym, arith}
use Rattle.affinity.proofs.GraphLaws.{edges_more}
use Rattle.affinity.proofs.edges.edges_of.Goals as goal
use Rattle.affinity.proofs.edges.edges_of.Goals.{in-Some+in_ok-push-in-Some, in-None}

pub loop-at-preserved : goal.loop-at-preserved
loop-at-preserved c =
    elim c.match-get_index.branch [
      | in-Some+in_ok-push-in-Some w ↦
          rw (w.edges-is, w.in_ok-push-in-Some.ensures.items, c.loop-at.invariant)
          (sym (edges_more c.args.weights.now.entries c.loop-at.at (w.in-Some.pair.now, w.in-Some.weight.now)
          (sym w.in-Some.ensures.entry)))
      | in-None w ↦
          (let inside : c.loop-at.at < hash_map_len c.args.weights.now =
          omega (arith, c.loop-at-test.true, c.len-at-end.ensures.len) in
          let wrong : false ≡ true = w.in-None.ensures.found.1 inside in
          absurd cc)
    ]
