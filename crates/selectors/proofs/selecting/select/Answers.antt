use Rattle.std.proofs.Common.{◌∙◌, length}
use Rattle.selectors.specs.Sets.{holds_in}
use Rattle.selectors.proofs.Selections.{all_fits, from_sets}
use Rattle.selectors.proofs.Fittings.{fits_fitting}
use Rattle.selectors.proofs.selecting.select.Goals as goal

pub into_parts-requires : goal.into_parts-requires
into_parts-requires c =
    (all_fits (holds_in c.as_slice-2.result.now) (length c.as_slice-2.result.now) c.as_slice-3.result.now
    (rw c.as_slice-3.ensures c.requires.few_groups)
    (length c.as_slice-3.result.now) 0 c.in_ok-making.making c.in_ok-making.ensures).few

pub returns-clause-rows : goal.returns-clause-rows
returns-clause-rows c =
    let contexts = c.args.profile.now.contexts in
    let groups = c.args.groups.now in
    let making = c.in_ok-making.making in
    let made = from_sets contexts c.in_ok-sets.sets.items groups (length groups) 0 making
    (rw c.as_slice.ensures at c.in_ok-sets.ensures)
    (rw (c.as_slice-2.ensures.value, c.as_slice-3.ensures) at c.in_ok-making.ensures) in
    let rows = c.from.ensures ∙ c.in_ok-rows.ensures.rows in
    let sites = c.from-2.ensures ∙ c.in_ok-rows.ensures.sites in
    (making, made, rows, sites, c.in_ok-rows.ensures.dropped)

pub returns-clause-fitting : goal.returns-clause-fitting
returns-clause-fitting c =
    let contexts = c.args.profile.now.contexts in
    let groups = c.args.groups.now in
    let making = c.in_ok-making.making in
    let made = from_sets contexts c.in_ok-sets.sets.items groups (length groups) 0 making
    (rw c.as_slice.ensures at c.in_ok-sets.ensures)
    (rw (c.as_slice-2.ensures.value, c.as_slice-3.ensures) at c.in_ok-making.ensures) in
    let rows = c.from.ensures ∙ c.in_ok-rows.ensures.rows in
    let sites = c.from-2.ensures ∙ c.in_ok-rows.ensures.sites in
    fits_fitting contexts making record
    { rows = c.from.result; sites = c.from-2.result; dropped = c.in_ok-rows.dropped }
    (all_fits (holds_in contexts) (length contexts) groups c.requires.few_groups
    (length groups) 0 making made) rows sites
