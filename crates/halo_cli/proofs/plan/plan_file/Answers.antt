-- The policy of the line is there, and what it makes of the profile is what the command writes.
use Rattle.std.proofs.Common.{◌≡◌, ◌∙◌, ◌≤◌, slice_get, Some, codes, refl, sym, subst}
use Rattle.std.proofs.lemmas.Option.{slice_get_read}
use Rattle.grouping.specs.declared.making.Options.{Options}
use Rattle.halo_cli.specs.Options.{policy_in}
use Rattle.halo_cli.proofs.Valid.{named_some, has_by_option, policy_plain, least_edge}
use Rattle.halo_cli.proofs.PlanEnds.{plan_stops, written_at}
use Rattle.halo_cli.proofs.Stopping.{moves_of}
use Rattle.halo_cli.proofs.plan.plan_file.Goals as goal

pub unreachable-requires : goal.unreachable-requires
unreachable-requires g c = named_some _ (policy_in c.args.values.now.given)
    (policy_plain c.what_a_line_gives_fits.ensures.options c.requires.asks.0 c.args.values.now c.requires.asks.1
    c.requires.word)
    (has_by_option _ c.args.values.now (codes "plan") c.requires.word refl c.requires.passes.policy)
    (sym (rw c.option.ensures at c.find_policy.ensures.place) ∙ c.in_default.is)

pub read_and_plan-requires-clause-least_edge : goal.read_and_plan-requires-clause-least_edge
read_and_plan-requires-clause-least_edge g c = (
  subst (λ (o : Options). 1 ≤ o.least_edge) (sym c.options_of-options.ensures.value)
      (least_edge c.what_a_line_gives_fits.ensures.options c.requires.asks.0 c.args.values.now c.requires.asks.1
      c.requires.word),
  c.options_of-options.ensures.least_edge,
)

pub returns-in-Err : goal.returns-in-Err
returns-in-Err g c = λ input.
    plan_stops _ c.args.values.now.given _ _ input c.in-Err.ensures.reads _ c.in-Err.ending c.in-Err.ensures.stops
    (rw c.operand.ensures at c.in-Err.ensures.first) (rw c.operand.ensures at c.in-Err.ensures.cause)

pub returns-in-Ok-write_all : goal.returns-in-Ok-write_all
returns-in-Ok-write_all g c = λ input.
    let at : slice_get c.args.policies.now c.in-Some.place ≡ Some c.index-policies-place.result =
    slice_get_read c.args.policies.now _ c.in-Some.place c.index-policies-place.result refl c.in-Some.ensures.within
    c.index-policies-place.is in
    let made = rw (c.area_of.ensures.value, c.options_of-options.ensures.value, c.operand.ensures)
    at c.in-Ok.ensures.made in
    record {
      cause = rw c.operand.ensures at c.in-Ok.ensures.fits;
      leaves = record {
        input = refl;
        done = λ is. (
          c.in-Ok.text.items,
          (
            c.in-Some.place,
            sym (rw c.option.ensures at c.in-Some.ensures.place),
            written_at _ _ c.index-policies-place.result at _ _ _ _ _ _ made,
          ),
          rw c.deref.ensures.value at c.in-Ok-write_all.ensures.whole,
        );
        write_fault = λ is. absurd (cc);
        silent = λ stop. absurd (stop.0 refl);
      };
      moves = moves_of _ _ input _ _ c.in-Ok.ensures.reads
          (record { tells = c.write_all.ensures.tells; later = c.write_all.ensures.later });
      reads = rw c.operand.ensures at c.in-Ok.ensures.whole _;
    }

pub returns : goal.returns
returns g c = λ input.
    let at : slice_get c.args.policies.now c.in-Some.place ≡ Some c.index-policies-place.result =
    slice_get_read c.args.policies.now _ c.in-Some.place c.index-policies-place.result refl c.in-Some.ensures.within
    c.index-policies-place.is in
    let made = rw (c.area_of.ensures.value, c.options_of-options.ensures.value, c.operand.ensures)
    at c.in-Ok.ensures.made in
    record {
      cause = (c.in-Err-write_all.ensures.failed, rw c.operand.ensures at c.in-Ok.ensures.fits);
      leaves = record {
        input = refl;
        done = λ is. absurd (cc);
        write_fault = λ is. (
          c.in-Ok.text.items,
          (
            c.in-Some.place,
            sym (rw c.option.ensures at c.in-Some.ensures.place),
            written_at _ _ c.index-policies-place.result at _ _ _ _ _ _ made,
          ),
          rw c.deref.ensures.value at c.in-Err-write_all.ensures.part,
        );
        silent = λ stop. absurd (stop.1 refl);
      };
      moves = moves_of _ _ input _ _ c.in-Ok.ensures.reads
          (record { tells = c.write_all.ensures.tells; later = c.write_all.ensures.later });
      reads = rw c.operand.ensures at c.in-Ok.ensures.whole _;
    }
