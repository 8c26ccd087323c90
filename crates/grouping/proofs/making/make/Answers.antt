use Rattle.std.proofs.Common.{◌≡◌, ◌<◌, [], ◌∷◌, ap, length, length-append, arith, inl, inr}
use Rattle.grouping.specs.Greedy.Begun.{none, more}
use Rattle.grouping.specs.Greedy.Grown.{started}
use Rattle.grouping.specs.Growing.{AreEdges}
use Rattle.grouping.proofs.Marking.{edge_starts, none_starts}
use Rattle.grouping.proofs.making.make.Goals as goal

pub loop-init : goal.loop-init
loop-init g c = record {
  count = ap length c.new-groups.ensures;
  marks = rw c.new-groups.ensures c.requires.marks;
  begun = rw c.new-groups.ensures none;
}

pub returns-in_default : goal.returns-in_default
returns-in_default g c =
    let are : AreEdges (length c.loop.busy) c.args.kept.now.edges.items = rw c.loop.auto.busy c.requires.kept.edges in
    let found = rw (c.as_slice.ensures.value) at c.in_default.ensures in (
      c.loop.invariant.begun,
      inr (none_starts c.loop.busy c.loop.groups c.args.kept.now.edges.items are
          c.loop.invariant.marks found),
    )

pub loop-preserved : goal.loop-preserved
loop-preserved g c =
    let edges = c.args.kept.now.edges.items in
    let groups = c.loop.groups in
    let are : AreEdges (length c.loop.busy) c.args.kept.now.edges.items = rw c.loop.auto.busy c.requires.kept.edges in
    let found = rw (c.as_slice.ensures.value) at c.in-Some.ensures in
    let starts = edge_starts c.loop.busy groups edges are c.loop.invariant.marks c.in-Some.edge found in
    let marks = c.in_ok-growth.ensures.marks groups c.loop.invariant.marks in
    let members = c.in_ok-growth.ensures.members in
    let formed = c.in_ok-members.ensures groups (rw members marks) (rw members (started c.in-Some.edge starts)) in
    let few : length groups < 16 = omega (arith, c.loop.invariant.count, c.loop-test.true) in
    record {
      count = rw (c.in_ok-push.ensures.ok) (omega (
        arith,
        length-append groups (c.from.result ∷ []),
        c.loop.invariant.count,
      ));
      marks = rw (c.in_ok-push.ensures.ok, c.from.ensures) formed.1;
      begun = rw (c.in_ok-push.ensures.ok, c.from.ensures)
          (more groups c.in_ok-members.members.items c.loop.invariant.begun few
          (rw (c.start.auto.busy, c.loop.auto.busy) at formed.0));
    }

pub returns : goal.returns
returns g c = let all : length c.loop.groups ≡ 16 =
    omega (arith, c.loop.invariant.count, c.loop-test.false, c.loop.auto.counter-end) in
    (c.loop.invariant.begun, inl all)
