use Rattle.std.proofs.Common.{◌≡◌, ℕ, ◌∙◌, [], sym, ap, length, arith}
use Rattle.std.proofs.lemmas.List.{get_or_read}
use Rattle.selectors.specs.Sets.{is_in, holds_in}
use Rattle.selectors.specs.Sets.Chosen.{none, more}
use Rattle.selectors.proofs.Conflicts.{conflicts_start, conflicts_more, conflicts_few}
use Rattle.selectors.proofs.Choices.{next_lent, spare_less}
use Rattle.selectors.proofs.next_site.set_of.Goals as goal

pub loop-chosen-init : goal.loop-chosen-init
loop-chosen-init c = record {
  rivals = rw c.new-chosen.ensures.items
      (c.in_ok-rivals.ensures.items ∙ sym (conflicts_start
      (holds_in c.args.sets.now) c.args.outside.now c.args.member));
  chosen = rw c.new-chosen.ensures.items none;
}

pub next-requires-clause-few : goal.next-requires-clause-few
next-requires-clause-few c =
    omega (
      arith,
      ap length c.as_slice.ensures.value,
      ap length c.loop-chosen.invariant.rivals,
      c.requires.few,
      conflicts_few (holds_in c.args.sets.now) c.args.outside.now c.args.member c.loop-chosen.chosen.items,
    )

pub loop-chosen-smaller : goal.loop-chosen-smaller
loop-chosen-smaller c =
    let holds = holds_in c.args.sets.now in
    let own = c.as_slice-own.result.now in
    let sites = c.loop-chosen.chosen.items in
    let same : (s : ℕ) → is_in own s ≡ holds c.args.member s = λ s. ap (λ xs. is_in xs s) (c.as_slice-own.ensures
    ∙ get_or_read c.args.sets.now c.args.member c.index-sets-member.result c.requires.member c.index-sets-member.is
    []) in
    let next = next_lent holds c.args.outside.now c.args.member own c.as_slice-in-loop-chosen.result.now
    c.as_slice.result.now
    sites c.loop-chosen.rivals.items c.in_ok-site.field-0 c.in_ok-site.ensures c.as_slice-in-loop-chosen.ensures.value
    c.as_slice.ensures.value c.loop-chosen.invariant.rivals same in
    let adds = rw c.in-Some.is at next in
    rw c.in_ok-insert_site.ensures
    (spare_less c.in-Some.site sites own (same c.in-Some.site ∙ adds.1.0.own) adds.1.0.new)

pub loop-chosen-preserved : goal.loop-chosen-preserved
loop-chosen-preserved c =
    let holds = holds_in c.args.sets.now in
    let own = c.as_slice-own.result.now in
    let sites = c.loop-chosen.chosen.items in
    let same : (s : ℕ) → is_in own s ≡ holds c.args.member s = λ s. ap (λ xs. is_in xs s) (c.as_slice-own.ensures
    ∙ get_or_read c.args.sets.now c.args.member c.index-sets-member.result c.requires.member c.index-sets-member.is
    []) in
    let next = next_lent holds c.args.outside.now c.args.member own c.as_slice-in-loop-chosen.result.now
    c.as_slice.result.now
    sites c.loop-chosen.rivals.items c.in_ok-site.field-0 c.in_ok-site.ensures c.as_slice-in-loop-chosen.ensures.value
    c.as_slice.ensures.value c.loop-chosen.invariant.rivals same in
    let adds = rw c.in-Some.is at next in
    record {
      rivals = rw (c.keep_holders.ensures, c.in_ok-insert_site.ensures, c.loop-chosen.invariant.rivals)
          (sym (conflicts_more holds c.args.outside.now c.args.member sites c.in-Some.site));
      chosen = rw c.in_ok-insert_site.ensures (more sites c.in-Some.site c.loop-chosen.invariant.chosen adds.0 adds.1);
    }

pub returns : goal.returns
returns c =
    let holds = holds_in c.args.sets.now in
    let own = c.as_slice-own.result.now in
    let sites = c.loop-chosen.chosen.items in
    let same : (s : ℕ) → is_in own s ≡ holds c.args.member s = λ s. ap (λ xs. is_in xs s) (c.as_slice-own.ensures
    ∙ get_or_read c.args.sets.now c.args.member c.index-sets-member.result c.requires.member c.index-sets-member.is
    []) in
    let next = next_lent holds c.args.outside.now c.args.member own c.as_slice-in-loop-chosen.result.now
    c.as_slice.result.now
    sites c.loop-chosen.rivals.items c.in_ok-site.field-0 c.in_ok-site.ensures c.as_slice-in-loop-chosen.ensures.value
    c.as_slice.ensures.value c.loop-chosen.invariant.rivals same in
    (c.loop-chosen.invariant.chosen, rw c.in_default.is at next)
