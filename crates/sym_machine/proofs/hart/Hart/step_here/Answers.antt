use Rattle.std.proofs.Common.{◌≡◌, ap, ◌∙◌}
use Rattle.sym_machine.specs.Found.{found_at}
use Rattle.sym_machine.proofs.Finding.{has_mask, asks_running}
use Rattle.sym_machine.proofs.Stepping.{lack_noted, noted_ok, turn_ok}
use Rattle.sym_machine.proofs.hart.Hart.step_here.Goals as goal

pub runs_noted-requires-clause-mask : goal.runs_noted-requires-clause-mask
runs_noted-requires-clause-mask c =
    let found : c.look_at-found.result.found
    ≡ found_at c.args.self.now.file c.args.self.now.plan c.args.self.now.machine.pc =
    c.look_at-found.ensures.kept.found
    ∙ ap (found_at c.args.self.now.file c.args.self.now.plan) (c.look_at-found.ensures.addr ∙ c.pc.ensures) in
    rw (found, c.look_at-found.ensures.same)
    (has_mask c.args.self.now.file c.args.self.now.plan c.args.self.now.machine.pc)

pub returns-clause-answer : goal.returns-clause-answer
returns-clause-answer c =
    let found : c.look_at-found.result.found
    ≡ found_at c.args.self.now.file c.args.self.now.plan c.args.self.now.machine.pc =
    c.look_at-found.ensures.kept.found
    ∙ ap (found_at c.args.self.now.file c.args.self.now.plan) (c.look_at-found.ensures.addr ∙ c.pc.ensures) in
    let did = rw c.look_at-found.ensures.same at c.runs_noted.ensures.answer in
    rw (asks_running c.args.self.now c.look_at-found.result.found c.requires.running found) did

pub returns-clause-turn : goal.returns-clause-turn
returns-clause-turn c =
    let found : c.look_at-found.result.found
    ≡ found_at c.args.self.now.file c.args.self.now.plan c.args.self.now.machine.pc =
    c.look_at-found.ensures.kept.found
    ∙ ap (found_at c.args.self.now.file c.args.self.now.plan) (c.look_at-found.ensures.addr ∙ c.pc.ensures) in
    let did = rw c.look_at-found.ensures.same at c.runs_noted.ensures.turn in
    turn_ok c.runs_noted.result c.args.self.now c.runs_noted.new.self c.look_at-found.result.found c.requires.running
    found did

pub returns-clause-note : goal.returns-clause-note
returns-clause-note c =
    let found : c.look_at-found.result.found
    ≡ found_at c.args.self.now.file c.args.self.now.plan c.args.self.now.machine.pc =
    c.look_at-found.ensures.kept.found
    ∙ ap (found_at c.args.self.now.file c.args.self.now.plan) (c.look_at-found.ensures.addr ∙ c.pc.ensures) in
    let said = rw c.look_at-found.ensures.same at c.runs_noted.ensures.answer in
    let did = rw c.look_at-found.ensures.same at c.runs_noted.ensures.turn in
    let made = rw c.look_at-found.ensures.same at c.runs_noted.ensures.note in
    noted_ok c.runs_noted.result c.args.self.now c.runs_noted.new.self c.requires.running
    (rw (asks_running c.args.self.now c.look_at-found.result.found c.requires.running found) said)
    (turn_ok c.runs_noted.result c.args.self.now c.runs_noted.new.self c.look_at-found.result.found c.requires.running
    found did)
    (rw found at made)

pub returns-clause-lacks : goal.returns-clause-lacks
returns-clause-lacks c =
    let found : c.look_at-found.result.found
    ≡ found_at c.args.self.now.file c.args.self.now.plan c.args.self.now.machine.pc =
    c.look_at-found.ensures.kept.found
    ∙ ap (found_at c.args.self.now.file c.args.self.now.plan) (c.look_at-found.ensures.addr ∙ c.pc.ensures) in
    let goes = rw c.look_at-found.ensures.same at c.runs_noted.ensures.goes in
    let grants = rw c.look_at-found.ensures.same at c.runs_noted.ensures.lacks in
    lack_noted c.runs_noted.result c.args.self.now c.look_at-found.result.found c.requires.running found goes grants
