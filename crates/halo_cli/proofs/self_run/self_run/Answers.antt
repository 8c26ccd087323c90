-- The default policy is there, and what it makes is what the command writes.
use Rattle.std.proofs.Common.{◌≡◌, ◌∙◌, ◌≤◌, ℕ, List, map, slice_get, Some, refl, sym, subst}
use Rattle.std.specs.Prelude.{string_bytes}
use Rattle.std.proofs.lemmas.Option.{slice_get_read}
use Rattle.halo_cli.specs.Options.{default_policy}
use Rattle.halo_cli.proofs.GenDue.{self_nodes_least}
use Rattle.halo_cli.proofs.Valid.{named_some, has_by_default, policy_by_default}
use Rattle.halo_cli.proofs.SelfStops.{cause_at, written_at, self_stops, self_done, self_cut}
use Rattle.halo_cli.proofs.self_run.self_run.Goals as goal

pub unreachable-requires : goal.unreachable-requires
unreachable-requires g c =
    let names : List (List ℕ) = map (λ policy. string_bytes policy.name) c.args.policies.now in
    named_some names default_policy refl
    (has_by_default names c.args.values.now c.requires.word c.requires.passes.policy)
    (sym (rw (c.policy_name.ensures, policy_by_default c.args.values.now c.requires.word)
    at c.find_policy.ensures.place) ∙ c.in_default.is)

pub report-requires-clause-least : goal.report-requires-clause-least
report-requires-clause-least g c =
    subst (λ n. 1 ≤ n) (sym c.nodes_of.ensures.value)
    (self_nodes_least c.what_a_line_gives_fits.ensures.operands c.requires.asks.0 c.args.values.now
    c.requires.asks.1 c.requires.word)

pub returns-in-Err : goal.returns-in-Err
returns-in-Err g c = λ files input.
    let names : List (List ℕ) = map (λ policy. string_bytes policy.name) c.args.policies.now in
    let at : slice_get c.args.policies.now c.in-Some.place ≡ Some c.index-policies-place.result =
    slice_get_read c.args.policies.now _ c.in-Some.place c.index-policies-place.result refl c.in-Some.ensures.within
    c.index-policies-place.is in
    let place = sym (rw (c.policy_name.ensures, policy_by_default c.args.values.now c.requires.word)
    at c.in-Some.ensures.place) in
    let cause = rw c.nodes_of.ensures.value at c.in-Err.ensures.cause in
    self_stops (record { names = names; answers = _ }) c.args.values.now.given c.in-Some.place place files input
    (g.O.Sink.seen c.args.out.now) c.in-Err.ending c.in-Err.ensures.stops
    (cause_at _ _ c.index-policies-place.result at _ c.in-Err.ending cause)

pub returns-in-Ok-write_all : goal.returns-in-Ok-write_all
returns-in-Ok-write_all g c = λ files input.
    let names : List (List ℕ) = map (λ policy. string_bytes policy.name) c.args.policies.now in
    let at : slice_get c.args.policies.now c.in-Some.place ≡ Some c.index-policies-place.result =
    slice_get_read c.args.policies.now _ c.in-Some.place c.index-policies-place.result refl c.in-Some.ensures.within
    c.index-policies-place.is in
    let place = sym (rw (c.policy_name.ensures, policy_by_default c.args.values.now c.requires.word)
    at c.in-Some.ensures.place) in
    let written = rw c.nodes_of.ensures.value at c.in-Ok.ensures.written in
    self_done (record { names = names; answers = _ }) c.args.values.now.given c.in-Some.place place files input
    c.in-Ok.text.items (written_at _ _ c.index-policies-place.result at _ c.in-Ok.text.items written)
    (g.O.Sink.seen c.args.out.now) (g.O.Sink.seen c.write_all.new.sink)
    (record { tells = c.write_all.ensures.tells; later = c.write_all.ensures.later })
    (rw c.deref.ensures.value at c.in-Ok-write_all.ensures.whole)

pub returns : goal.returns
returns g c = λ files input.
    let names : List (List ℕ) = map (λ policy. string_bytes policy.name) c.args.policies.now in
    let at : slice_get c.args.policies.now c.in-Some.place ≡ Some c.index-policies-place.result =
    slice_get_read c.args.policies.now _ c.in-Some.place c.index-policies-place.result refl c.in-Some.ensures.within
    c.index-policies-place.is in
    let place = sym (rw (c.policy_name.ensures, policy_by_default c.args.values.now c.requires.word)
    at c.in-Some.ensures.place) in
    let written = rw c.nodes_of.ensures.value at c.in-Ok.ensures.written in
    self_cut (record { names = names; answers = _ }) c.args.values.now.given c.in-Some.place place files input
    c.in-Ok.text.items (written_at _ _ c.index-policies-place.result at _ c.in-Ok.text.items written)
    (g.O.Sink.seen c.args.out.now) (g.O.Sink.seen c.write_all.new.sink)
    (record { tells = c.write_all.ensures.tells; later = c.write_all.ensures.later })
    c.in-Err-write_all.ensures.failed (rw c.deref.ensures.value at c.in-Err-write_all.ensures.part)
