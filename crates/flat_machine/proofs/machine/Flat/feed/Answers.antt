use Rattle.std.proofs.Common.{◌∙◌}
use Rattle.flat_machine.proofs.Waiting.{room_left, piece_fits, feeds_paused, adds_up}
use Rattle.flat_machine.proofs.machine.Flat.feed.Goals as goal

pub puts-requires : goal.puts-requires
puts-requires c =
    let room = room_left _ _ _ _ _ _ c.self.view_is c.in-Input.is c.requires in
    piece_fits c.all_addresses_pass_where_each_does.ensures.together _ _ _ _ _ c.in-Input.is c.self.invariant room

pub invariant_of-self : goal.invariant_of-self
invariant_of-self c =
    let room = room_left _ _ _ _ _ _ c.self.view_is c.in-Input.is c.requires in
    feeds_paused c.stores_change_their_bytes_alone.ensures.ranges c.ranges_say_what_may_be_accessed.ensures.pieces _ _ _
    _ _ _ c.in-Input.is c.self.invariant room c.puts.ensures

pub returns-in-Input-clause-adds_up : goal.returns-in-Input-clause-adds_up
returns-in-Input-clause-adds_up c = λ m bytes seen.
    adds_up _ _ m _ _ _ bytes _ c.in-Input.is (c.self.view_is ∙ seen) c.puts.ensures
