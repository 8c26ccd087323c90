use Rattle.std.proofs.Common.{◌≡◌, ◌<◌, ◌∙◌, [], sym, ap, subst, length, take, get_or, ◌+◌, arith}
use Rattle.std.proofs.lemmas.List.{get_or_read}
use Rattle.selectors.specs.Sets.{holds_in, members_of, others, IsSetOf}
use Rattle.selectors.specs.Rows.{members, Selects}
use Rattle.selectors.specs.Rows.Selects.{member, next}
use Rattle.selectors.proofs.Selections.{member_below, room, all_fits, outside_few}
use Rattle.selectors.proofs.selecting.add_group.Goals as goal

pub set_of-requires-clause-few : goal.set_of-requires-clause-few
set_of-requires-clause-few c =
    omega (
      arith,
      ap length (c.as_slice.ensures.value ∙ c.in_ok-outside.ensures),
      outside_few (length c.args.sets.now)
          (take (c.args.k + 1) c.args.groups.now),
      c.requires.few_contexts,
    )

pub set_of-requires-clause-member : goal.set_of-requires-clause-member
set_of-requires-clause-member c =
    let groups = c.args.groups.now in
    let n = length c.args.sets.now in
    let k = c.args.k in
    let are : c.deref-member-items.result.now ≡ members groups n k = c.deref-member-items.ensures.value
    ∙ c.in_ok-members.ensures ∙ ap (members_of n)
    (get_or_read groups k c.index-groups-k.result c.requires.group c.index-groups-k.is []) in
    let j = c.loop-member.member-index in
    let below = subst (λ xs. j < length xs) are c.loop-member-test.true in
    subst (λ xs. get_or xs j 0 < n) (sym are) (member_below n groups k j below)

pub add-requires-clause-room : goal.add-requires-clause-room
add-requires-clause-room c =
    let groups = c.args.groups.now in
    let n = length c.args.sets.now in
    let k = c.args.k in
    let are : c.deref-member-items.result.now ≡ members groups n k = c.deref-member-items.ensures.value
    ∙ c.in_ok-members.ensures ∙ ap (members_of n)
    (get_or_read groups k c.index-groups-k.result c.requires.group c.index-groups-k.is []) in
    let j = c.loop-member.member-index in
    let below = subst (λ xs. j < length xs) are c.loop-member-test.true in
    omega (
      arith,
      room (holds_in c.args.sets.now) n groups c.requires.apart k j c.loop-member.making c.loop-member.invariant below,
      c.requires.few_contexts,
    )

pub add-requires-clause-few : goal.add-requires-clause-few
add-requires-clause-few c =
    (all_fits (holds_in c.args.sets.now) (length c.args.sets.now) c.args.groups.now c.requires.few_groups c.args.k
    c.loop-member.member-index c.loop-member.making c.loop-member.invariant).few

pub loop-member-preserved : goal.loop-member-preserved
loop-member-preserved c =
    let groups = c.args.groups.now in
    let n = length c.args.sets.now in
    let k = c.args.k in
    let are : c.deref-member-items.result.now ≡ members groups n k = c.deref-member-items.ensures.value
    ∙ c.in_ok-members.ensures ∙ ap (members_of n)
    (get_or_read groups k c.index-groups-k.result c.requires.group c.index-groups-k.is []) in
    let j = c.loop-member.member-index in
    let below = subst (λ xs. j < length xs) are c.loop-member-test.true in
    let holds = holds_in c.args.sets.now in
    let set = c.in_ok-set.set.items in
    let outside : c.as_slice.result.now ≡ others groups n k = c.as_slice.ensures.value ∙ c.in_ok-outside.ensures in
    let is_set = subst (λ xs. IsSetOf holds (others groups n k) (get_or xs j 0) set) are
    (subst (λ ys. IsSetOf holds ys (get_or c.deref-member-items.result.now j 0) set) outside c.in_ok-set.ensures) in
    rw (c.in_ok-add.ensures.ok, c.as_slice-in-loop-member.ensures.value)
    (member k j c.loop-member.making set c.loop-member.invariant below is_set)

pub returns : goal.returns
returns c =
    let groups = c.args.groups.now in
    let n = length c.args.sets.now in
    let k = c.args.k in
    let are : c.deref-member-items.result.now ≡ members groups n k = c.deref-member-items.ensures.value
    ∙ c.in_ok-members.ensures ∙ ap (members_of n)
    (get_or_read groups k c.index-groups-k.result c.requires.group c.index-groups-k.is []) in
    let end : c.loop-member.member-index ≡ length (members groups n k) =
    omega (arith, ap length are, c.loop-member-test.false, c.loop-member.auto.member-index-end) in
    next k c.loop-member.making
    (subst (λ j. Selects (holds_in c.args.sets.now) n groups k j c.loop-member.making) end c.loop-member.invariant)
    c.requires.group
