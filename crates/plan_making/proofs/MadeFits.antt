-- A plan that is made of contexts whose addresses are near sites of a file fits the file.
use Rattle.std.proofs.Common.{◌≡◌, ◌≢◌, ◌∙◌, ℕ, ◌/◌, ◌^◌, ◌<◌, ◌≤◌, inl, inr, true, List, length, get_or, bit_and, refl}
use Rattle.std.proofs.Common.{sym, subst, arith, Option, Some, None, IsBitSet, slice_get}
use Rattle.std.specs.Prelude.{All, AllPairs, Any, IsSome}
use Rattle.std.proofs.Math.Nat.{div-eq_of_lt}
use Rattle.std.proofs.Math.Pow.{pow_mono}
use Rattle.std.proofs.lemmas.Bool.{cases_lt}
use Rattle.std.proofs.lemmas.Option.{slice_get_past, slice_get-get_or, get_or_from_slice_get}
use Rattle.std.proofs.lemmas.Nat.{bit_set_by_shift}
use Rattle.std.proofs.lemmas.List.Elements.{All-get_or, All-from_get_or, All-weaker}
use Rattle.plan_core.specs.declared.types.Plan.{Plan}
use Rattle.plan_core.specs.declared.types.PlanLine.{PlanLine}
use Rattle.plan_core.specs.Plan.{granules}
use Rattle.selectors.specs.Fitting.{IsRowBelow, IsSiteOf}
use Rattle.site_spec.specs.declared.Site.{Site}
use Rattle.site_spec.specs.Sites.{site_at}
use Rattle.site_spec.specs.Plans.{Fits, IsInReach}
use Rattle.plan_making.specs.Plans.{IsMade, AreNearSites}
use Rattle.plan_making.proofs.Near.{near_reaches}

high_bit : (mask k n : ℕ) → mask < 2 ^ k → k ≤ n → IsBitSet mask n → ⊥
high_bit mask k n small high set =
    let more : 2 ^ k ≤ 2 ^ n = pow_mono {i = k} {j = n} high in
    let none : mask / 2 ^ n ≡ 0 = div-eq_of_lt (omega (arith, small, more)) in
    let bit : bit_and (mask / 2 ^ n) 1 ≡ 1 = (bit_set_by_shift mask n).1 set in
    let wrong : bit_and 0 1 ≡ 1 = rw none at bit in
    absurd (cc)

module _ (file : List ℕ) (contexts : List (List ℕ)) (plan : Plan) (made : IsMade contexts plan)
    (near : AreNearSites file contexts) where
  blank : PlanLine
  blank = record { bit = 0; addr = 0 }

  -- the near site of a line
  abbrev HasNearSite : PlanLine → Type 0
  HasNearSite line = (site : Site) × (site_at file line.addr ≡ Some site) × (site.near ≡ true)

  near_sites : All HasNearSite plan.sites
  near_sites = All-weaker (λ line. IsSiteOf contexts line.addr) HasNearSite
      (λ line on. near on.0 line.addr on.2) plan.sites made.sites

  is_site : All (λ line. IsSome (site_at file line.addr)) plan.sites
  is_site = All-weaker HasNearSite (λ line. IsSome (site_at file line.addr))
      (λ line has. subst (λ (o : Option Site). IsSome o) (sym has.1) refl) plan.sites near_sites

  bits : All (λ line. line.bit < 32) plan.sites
  bits = All-from_get_or (λ line. line.bit < 32) plan.sites blank
      (λ i within. (let is : (get_or plan.sites i blank).bit ≡ i = made.bits i blank within in
      let few = made.few_sites in omega (arith, is, within, few)))

  own_bits : AllPairs (λ l m. l.bit ≢ m.bit) plan.sites
  own_bits i j d before within same =
      let first : (get_or plan.sites i d).bit ≡ i = made.bits i d (omega (arith, before, within)) in
      let second : (get_or plan.sites j d).bit ≡ j = made.bits j d within in
      omega (arith, first, second, same, before)

  bit_line : (n : ℕ) → n < length plan.sites → Any (λ line. line.bit ≡ n) plan.sites
  bit_line n within =
      let line : PlanLine = get_or plan.sites n blank in (
        n,
        line,
        within,
        get_or_from_slice_get plan.sites n line line (slice_get-get_or plan.sites n blank within),
        made.bits n blank within,
      )

  masks : All (λ row. (n : ℕ) → IsBitSet row.mask n → Any (λ line. line.bit ≡ n) plan.sites) plan.rows
  masks = All-weaker (IsRowBelow (length plan.sites))
      (λ row. (n : ℕ) → IsBitSet row.mask n → Any (λ line. line.bit ≡ n) plan.sites)
      (λ row below n set. elim (cases_lt n (length plan.sites)) [
        | inl within ↦ bit_line n within
        | inr past ↦ absurd (high_bit row.mask (length plan.sites) n below.1 past set)
      ]) plan.rows made.rows

  in_reach : (o : Option PlanLine) (k : ℕ) → k < 32 → ((line : PlanLine) → o ≡ Some line → HasNearSite line)
      → IsInReach file o k
  in_reach None k few has = tt
  in_reach (Some line) k few has = λ s is single.
      (let own = has line refl in
      let both : Some own.0 ≡ Some s = sym own.1 ∙ is in
      let same : own.0 ≡ s = cc in
      near_reaches file line.addr s k is (subst (λ (t : Site). t.near ≡ true) same own.2) single few)

  pub fits : plan.area.log_chunk ≤ 20 → plan.area.chunks ≤ 256 → granules plan.area ≤ 1048576 → Fits file plan
  fits log chunks small = record {
    sites = is_site;
    once = made.once;
    bits = bits;
    own_bits = own_bits;
    masks = masks;
    groups = All-weaker (IsRowBelow (length plan.sites)) (λ row. row.group < 16) (λ row below. below.0) plan.rows
        made.rows;
    few_rows = made.few_rows;
    log_chunk = log;
    chunks = chunks;
    area = small;
    reach = λ k. reach_at k;
  }
    where
      reach_at : (k : ℕ) → IsInReach file (slice_get plan.sites k) k
      reach_at k = elim (cases_lt k (length plan.sites)) [
        | inl within ↦ in_reach (slice_get plan.sites k) k (let few = made.few_sites in omega arith)
            (λ line at. subst HasNearSite (get_or_from_slice_get plan.sites k line blank at)
            (All-get_or HasNearSite plan.sites k blank within near_sites))
        | inr past ↦ subst (λ (o : Option PlanLine). IsInReach file o k) (sym (slice_get_past plan.sites k past)) tt
      ]
