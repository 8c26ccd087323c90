use Rattle.std.proofs.Common.{◌≡◌, ◌+◌, ◌≤◌, length, ap, ◌∙◌, arith}
use Rattle.std.specs.Prelude.{unwrap_or}
use Rattle.sym_spec.specs.SymNotes.{empty_note}
use Rattle.machine_run.specs.declared.pause.Pause.TheVariants as pause
use Rattle.sym_machine.specs.Seen.{IsPaused, seen_by_run, seen_of}
use Rattle.sym_machine.proofs.Feeding.{room_left, piece_fits, feeds_paused, adds_up}
use Rattle.sym_machine.proofs.machine.SymMachine.feed.Goals as goal

pub fills-requires-clause-buffer : goal.fills-requires-clause-buffer
fills-requires-clause-buffer c =
    let paused : IsPaused (pause.Input c.in-Input.len c.in-Input.fed) c.self.inside.hart =
    rw c.in-Input.is at c.self.invariant in
    let seen = rw c.in-Input.is at c.self.view_is in
    let room : c.in-Input.fed + length c.args.piece.now ≤ c.in-Input.len =
    room_left c.self.inside.hart (unwrap_or c.self.inside.last empty_note) c.args.self.now c.in-Input.len c.in-Input.fed
    (length c.args.piece.now) seen c.requires in
    piece_fits c.self.inside.hart c.in-Input.len c.in-Input.fed (length c.args.piece.now) paused room

pub invariant_of-self : goal.invariant_of-self
invariant_of-self c =
    let paused : IsPaused (pause.Input c.in-Input.len c.in-Input.fed) c.self.inside.hart =
    rw c.in-Input.is at c.self.invariant in
    let seen = rw c.in-Input.is at c.self.view_is in
    let room : c.in-Input.fed + length c.args.piece.now ≤ c.in-Input.len =
    room_left c.self.inside.hart (unwrap_or c.self.inside.last empty_note) c.args.self.now c.in-Input.len c.in-Input.fed
    (length c.args.piece.now) seen c.requires in
    rw c.fills.ensures (feeds_paused c.self.inside.hart c.in-Input.len c.in-Input.fed c.args.piece.now paused room)

pub returns-in-Input-clause-adds_up : goal.returns-in-Input-clause-adds_up
returns-in-Input-clause-adds_up c = λ p len bytes is.
    let paused : IsPaused (pause.Input c.in-Input.len c.in-Input.fed) c.self.inside.hart =
    rw c.in-Input.is at c.self.invariant in
    let seen : seen_of (pause.Input c.in-Input.len c.in-Input.fed) (unwrap_or c.self.inside.last empty_note)
    c.self.inside.hart ≡ c.args.self.now = rw c.in-Input.is at c.self.view_is in
    let room : c.in-Input.fed + length c.args.piece.now ≤ c.in-Input.len =
    room_left c.self.inside.hart (unwrap_or c.self.inside.last empty_note) c.args.self.now c.in-Input.len c.in-Input.fed
    (length c.args.piece.now) seen c.requires in
    rw c.fills.ensures
    (adds_up c.self.inside.hart p (unwrap_or c.self.inside.last empty_note) c.in-Input.len c.in-Input.fed len bytes
    c.args.piece.now
    paused room (ap seen_by_run seen ∙ is))

pub fills-requires-clause-small : goal.fills-requires-clause-small
fills-requires-clause-small c =
    let seen = rw c.in-Input.is at c.self.view_is in
    let room : c.in-Input.fed + length c.args.piece.now ≤ c.in-Input.len =
    room_left c.self.inside.hart (unwrap_or c.self.inside.last empty_note) c.args.self.now c.in-Input.len c.in-Input.fed
    (length c.args.piece.now) seen c.requires in
    omega (arith, room)

pub overflow_cast-self : goal.overflow_cast-self
overflow_cast-self c =
    let seen = rw c.in-Input.is at c.self.view_is in
    let room : c.in-Input.fed + length c.args.piece.now ≤ c.in-Input.len =
    room_left c.self.inside.hart (unwrap_or c.self.inside.last empty_note) c.args.self.now c.in-Input.len c.in-Input.fed
    (length c.args.piece.now) seen c.requires in
    omega (arith, room)

pub overflow_add-self : goal.overflow_add-self
overflow_add-self c =
    let seen = rw c.in-Input.is at c.self.view_is in
    let room : c.in-Input.fed + length c.args.piece.now ≤ c.in-Input.len =
    room_left c.self.inside.hart (unwrap_or c.self.inside.last empty_note) c.args.self.now c.in-Input.len c.in-Input.fed
    (length c.args.piece.now) seen c.requires in
    omega (arith, room)
