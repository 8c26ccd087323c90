use Rattle.std.proofs.Common.{◌≡◌, ℕ, ◌+◌, ◌<◌, ◌∙◌, sym, ap, subst, inl, inr, arith, cond, get_or, length, set as put}
use Rattle.std.proofs.Common.{get_or-set_same, get_or-set_other}
use Rattle.std.proofs.lemmas.Bool.{cases_lt, cases_eq}
use Rattle.selectors.specs.Sets.{is_in}
use Rattle.selectors.proofs.Searching.{merged, byte_is}
use Rattle.selectors.proofs.site_sets.add_holder.Goals as goal

pub loop-i-preserved : goal.loop-i-preserved
loop-i-preserved c =
    let set = c.args.set.now in
    let sites = c.args.sites.now in
    let old = c.args.counts.now in
    let i = c.loop-i.i in
    let place = c.skip_below-place.result in
    let x = get_or sites i 0 in
    let below : (k : ℕ) → k < place → get_or set k 0 < x = λ k h. elim (cases_lt k c.loop-i.place) [
      | inl before ↦ c.loop-i.invariant.below k i before (omega arith) c.loop-i-test.true
      | inr after ↦ c.skip_below-place.ensures.below k after h
    ] in
    let held : c.stands_at.result ≡ is_in set x = c.stands_at.ensures
    ∙ merged set place x c.requires.set c.skip_below-place.ensures.bounds.1 below c.skip_below-place.ensures.reached in
    let one : c.from.result ≡ cond (is_in set x) 1 0 =
    c.from.ensures ∙ byte_is c.stands_at.result ∙ ap {B = ℕ} (λ b. cond b 1 0) held in
    let inside : i < length c.loop-i.counts = omega (
      arith,
      c.loop-i.auto.counts,
      c.requires.counts,
      c.loop-i-test.true,
    ) in
    let new = get_or c.loop-i.counts i 0 + c.from.result in
    let here : get_or (put c.loop-i.counts i new) i 0 ≡ get_or old i 0 + cond (is_in set x) 1 0 =
    omega (arith, get_or-set_same c.loop-i.counts i new 0 inside, c.loop-i.invariant.rest i (omega arith), one) in
    record {
      bound = c.skip_below-place.ensures.bounds.1;
      below = λ k j h le l. let rise = c.requires.sites i j (omega (arith, le)) l in omega (arith, below k h, rise);
      done = λ j h. elim (cases_eq j i) [
        | inl same ↦ subst (λ k. get_or (put c.loop-i.counts i new) k 0 ≡ get_or old k 0 + cond (is_in set
            (get_or sites k 0)) 1 0)
            (sym same) here
        | inr other ↦ get_or-set_other c.loop-i.counts i j new 0 other ∙ c.loop-i.invariant.done j (omega (
          arith,
          h,
          other,
        ))
      ];
      rest = λ j h. get_or-set_other c.loop-i.counts i j new 0 (λ e. omega (arith, h, e))
          ∙ c.loop-i.invariant.rest j (omega (arith, h));
    }
