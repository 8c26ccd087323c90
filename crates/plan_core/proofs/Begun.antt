-- The reader's loop: what holds after each line, at a refusal and at the end.
use Rattle.std.proofs.Common.{◌≡◌, ◌<◌, ◌≤◌, ◌+◌, ℕ, Bool, true, false, List, [], ◌∷◌, ◌++◌, length, Option, Some, None}
use Rattle.std.proofs.Common.{refl, subst, sym, arith, append_assoc, nat_le}
use Rattle.std.specs.Prelude.{count_by}
use Rattle.std.proofs.lemmas.Grind.{flat_map-append}
use Rattle.std.proofs.lemmas.List.{append-nil, length_push}
use Rattle.std.proofs.lemmas.List.Elements.{All-nil, All-push}
use Rattle.std.proofs.lemmas.Bool.Decides.{nat_tests}
use Rattle.std.proofs.lemmas.Option.{MatchOption-at_some, some_pair_parts}
use Rattle.plan_core.specs.declared.types.Plan.{Plan}
use Rattle.plan_core.specs.declared.lines.TextLine.{TextLine}
use Rattle.plan_core.specs.declared.lines.TextLine.TheVariants.{Head, Size, Site, Mask, End}
use Rattle.plan_core.specs.declared.steps.Stage.{Stage}
use Rattle.plan_core.specs.declared.steps.Stage.TheVariants.{Start, Ended}
use Rattle.plan_core.specs.declared.refusals.PlanRefusal.{PlanRefusal}
use Rattle.plan_core.specs.Plan.{line_text, text_of, plan_text, SiteFits, RowFits, FieldsFit, IsPlan, LineFits}
use Rattle.plan_core.specs.Grammar.{is_site, is_row, Begins, Within, FirstBad, FirstOver, Refuses}
use Rattle.plan_core.specs.Reading.{line_at}
use Rattle.plan_core.specs.Steps.{blank_plan, moves, is_full, added, WentOn, StoppedAt, Stopped}
use Rattle.plan_core.proofs.LineLaws.{ReadsLines}
use Rattle.plan_core.proofs.Counts.{count-append}
use Rattle.plan_core.proofs.Stages.{so_far, Tidy, Adds, adds_at, run, run-append, no_plan_goes_on, whole_ends}
use Rattle.plan_core.proofs.Stages.{ended_is_last, begins, begun_fits, back_fits, counts, few_lines}

-- the lines so far are taken into the plan, and `rest` is still to be read, from line `number` on
pub record Begun (text : List ℕ) (p : Plan) (stage : Stage) (rest : List ℕ) (number : ℕ) : Type 0 where
  pub front : text ≡ text_of (so_far stage p) ++ rest
  pub count : number ≡ length (so_far stage p) + 1
  pub tidy : Tidy stage p
  pub fits : FieldsFit p
  pub ran : run Start (so_far stage p) ≡ Some stage
  pub few_sites : length p.sites ≤ 32
  pub few_rows : length p.rows ≤ 64
  pub bounded : number ≤ 100

pub start_begun : (text : List ℕ) → Begun text blank_plan Start text 1
start_begun text = record {
  front = refl;
  count = refl;
  tidy = (refl, refl);
  fits = record { sites = All-nil SiteFits; rows = All-nil RowFits; area = (omega arith, omega arith, omega arith) };
  ran = refl;
  few_sites = omega arith;
  few_rows = omega arith;
  bounded = omega arith;
}

text_push : (ls : List TextLine) (l : TextLine) → text_of (ls ++ (l ∷ [])) ≡ text_of ls ++ line_text l
text_push ls l = rw (flat_map-append line_text ls (l ∷ []), append-nil (line_text l)) refl

added_fits : (l : TextLine) (p : Plan) → LineFits l → FieldsFit p → FieldsFit (added l p)
added_fits Head p l_fits fits = fits
added_fits (Size a) p l_fits fits = record { sites = fits.sites; rows = fits.rows; area = l_fits }
added_fits (Site s) p l_fits fits = record {
  sites = All-push SiteFits p.sites s fits.sites l_fits;
  rows = fits.rows;
  area = fits.area;
}
added_fits (Mask r) p l_fits fits = record {
  sites = fits.sites;
  rows = All-push RowFits p.rows r fits.rows l_fits;
  area = fits.area;
}
added_fits End p l_fits fits = fits

not_under : (a b : ℕ) → nat_le a b ≡ false → b < a
not_under a b e = grind (arith, nat_tests)

under : (a b : ℕ) → nat_le a b ≡ true → a ≤ b
under a b e = grind (arith, nat_tests)

-- a line that has room keeps the counts within their limits
few_more : (l : TextLine) (p : Plan) → is_full l p ≡ false → length p.sites ≤ 32 → length p.rows ≤ 64
    → (length (added l p).sites ≤ 32) × (length (added l p).rows ≤ 64)
few_more Head p room sites rows = (sites, rows)
few_more (Size a) p room sites rows = (sites, rows)
few_more (Site s) p room sites rows = (omega (arith, length_push p.sites s, not_under 32 (length p.sites) room), rows)
few_more (Mask r) p room sites rows = (sites, omega (arith, length_push p.rows r, not_under 64 (length p.rows) room))
few_more End p room sites rows = (sites, rows)

-- a line that has no room is one too many
too_many_of : (l : TextLine) (p : Plan) (ls : List TextLine) → is_full l p ≡ true → count_by is_site ls ≡ length p.sites
    → count_by is_row ls ≡ length p.rows → Within (ls ++ (l ∷ [])) → ⊥
too_many_of Head p ls full sites rows w = cc
too_many_of (Size a) p ls full sites rows w = cc
too_many_of (Site s) p ls full sites rows w =
    omega (arith, count-append is_site ls (Site s ∷ []), under 32 (length p.sites) full, w.0)
too_many_of (Mask r) p ls full sites rows w =
    omega (arith, count-append is_row ls (Mask r ∷ []), under 64 (length p.rows) full, w.1)
too_many_of End p ls full sites rows w = cc

-- one more line
took : ReadsLines → (text : List ℕ) (p : Plan) (stage : Stage) (rest : List ℕ) (number : ℕ) (next : Stage)
    (l : TextLine) (after : List ℕ) → Begun text p stage rest number → line_at rest ≡ Some (l, after)
    → moves stage l ≡ Some next → is_full l p ≡ false → Begun text (added l p) next after (number + 1)
took reads text p stage rest number next l after begun found goes room =
    let takes = (reads rest l after).0 found in
    let adds = MatchOption-at_some (Unit {0}) (Adds l stage p) next goes (adds_at stage l p begun.tidy) in
    let few = few_more l p room begun.few_sites begun.few_rows in
    let at : number + 1 ≡ length (so_far next (added l p)) + 1 =
    rw (adds.lines, length_push (so_far stage p) l, begun.count) refl in
    record {
      front = rw (adds.lines, text_push (so_far stage p) l, append_assoc, ← takes.1) begun.front;
      count = at;
      tidy = adds.tidy;
      fits = added_fits l p takes.0 begun.fits;
      ran = rw (adds.lines, run-append Start (so_far stage p) (l ∷ []), begun.ran, goes) refl;
      few_sites = few.0;
      few_rows = few.1;
      bounded = omega (arith, at, few_lines next (added l p), few.0, few.1);
    }

went_on_at : ReadsLines → (o : Option (TextLine × List ℕ)) (text : List ℕ) (p : Plan) (stage : Stage) (rest : List ℕ)
    (number : ℕ) (next : Stage) (after : List ℕ) (new : Plan) → line_at rest ≡ o → Begun text p stage rest number
    → WentOn o stage p next after new → Begun text new next after (number + 1)
went_on_at reads None text p stage rest number next after new e begun went = absurd went
went_on_at reads (Some found) text p stage rest number next after new e begun went =
    rw (went.2, went.3) (took reads text p stage rest number next found.0 found.1 begun e went.0 went.1)

pub went_on : ReadsLines → (text : List ℕ) (p : Plan) (stage : Stage) (rest : List ℕ) (number : ℕ) (next : Stage)
    (after : List ℕ) (new : Plan) → Begun text p stage rest number → WentOn (line_at rest) stage p next after new
    → Begun text new next after (number + 1)
went_on reads text p stage rest number next after new begun went =
    went_on_at reads (line_at rest) text p stage rest number next after new refl begun went

within_so_far : (text : List ℕ) (p : Plan) (stage : Stage) (rest : List ℕ) (number : ℕ) → Begun text p stage rest number
    → Within (so_far stage p)
within_so_far text p stage rest number begun =
    let counted = counts stage p begun.tidy in
    (omega (arith, counted.0, begun.few_sites), omega (arith, counted.1, begun.few_rows))

-- the rest goes on with no line that may come, and isn't a missing rest after a whole plan
bad_here : ReadsLines → (text : List ℕ) (p : Plan) (stage : Stage) (rest : List ℕ) (number : ℕ)
    → Begun text p stage rest number → ((l : TextLine) (more : List ℕ) → line_at rest ≡ Some (l, more)
    → moves stage l ≡ None) → (rest ≡ [] → stage ≡ Ended → ⊥) → FirstBad text number
bad_here reads text p stage rest number begun blocked missing = record {
  lines = so_far stage p;
  rest = rest;
  front = begun.front;
  admitted = begins stage p begun.fits;
  within = within_so_far text p stage rest number begun;
  number = begun.count;
  no_next = λ l more is goes.
      let fit = back_fits (so_far stage p) (l ∷ []) (begun_fits (so_far stage p ++ (l ∷ [])) goes) in
      let found : line_at rest ≡ Some (l, more) = (reads rest l more).1 (fit.0, is) in
      no_plan_goes_on (so_far stage p) l stage begun.ran (blocked l more found) goes;
  unfinished = λ empty whole. missing empty (whole_ends (so_far stage p) stage begun.ran whole);
}

over_here : ReadsLines → (text : List ℕ) (p : Plan) (stage : Stage) (rest : List ℕ) (number : ℕ) (next : Stage)
    (l : TextLine) (after : List ℕ) → Begun text p stage rest number → line_at rest ≡ Some (l, after)
    → moves stage l ≡ Some next → is_full l p ≡ true → FirstOver text number
over_here reads text p stage rest number next l after begun found goes full =
    let takes = (reads rest l after).0 found in
    let adds = MatchOption-at_some (Unit {0}) (Adds l stage p) next goes (adds_at stage l p begun.tidy) in
    let counted = counts stage p begun.tidy in
    let P : List TextLine → Type 0 = Begins in
    record {
      lines = so_far stage p;
      over = l;
      rest = after;
      front = rw (← takes.1) begun.front;
      admitted = subst P adds.lines (begins next (added l p) (added_fits l p takes.0 begun.fits));
      within = within_so_far text p stage rest number begun;
      number = begun.count;
      too_many = too_many_of l p (so_far stage p) full counted.0 counted.1;
    }

-- the line that was found is the only one
same_line : (stage : Stage) (k l : TextLine) (more after : List ℕ) (o : Option (TextLine × List ℕ)) → o ≡ Some (k, more)
    → o ≡ Some (l, after) → moves stage l ≡ None → moves stage k ≡ None
same_line stage k l more after o one other blocked =
    let joined : ◌≡◌ {A = Option (TextLine × List ℕ)} (Some (k, more)) (Some (l, after)) = cc in
    rw ((some_pair_parts k l more after joined).0) blocked

refused_in : ReadsLines → (o : Option Stage) (b : Bool) (text : List ℕ) (p : Plan) (stage : Stage) (rest : List ℕ)
    (number : ℕ) (l : TextLine) (after : List ℕ) (e : PlanRefusal) → moves stage l ≡ o → is_full l p ≡ b
    → Begun text p stage rest number → (stage ≡ Ended → ⊥) → line_at rest ≡ Some (l, after) → StoppedAt o b number e
    → Refuses text e
refused_in reads None b text p stage rest number l after e goes full begun going found stopped =
    let P : PlanRefusal → Type 0 = Refuses text in
    let only : (k : TextLine) (more : List ℕ) → line_at rest ≡ Some (k, more) → moves stage k ≡ None =
    λ k more is. same_line stage k l more after (line_at rest) is found goes in
    subst P (sym stopped) (bad_here reads text p stage rest number begun only (λ _ ended. going ended))
refused_in reads (Some next) true text p stage rest number l after e goes full begun going found stopped =
    let P : PlanRefusal → Type 0 = Refuses text in
    subst P (sym stopped) (over_here reads text p stage rest number next l after begun found goes full)
refused_in reads (Some next) false text p stage rest number l after e goes full begun going found stopped =
    let P : PlanRefusal → Type 0 = Refuses text in
    subst P (sym stopped) tt

refused_at : ReadsLines → (o : Option (TextLine × List ℕ)) (text : List ℕ) (p : Plan) (stage : Stage) (rest : List ℕ)
    (number : ℕ) (e : PlanRefusal) → line_at rest ≡ o → Begun text p stage rest number → (stage ≡ Ended → ⊥)
    → Stopped o stage p number e → Refuses text e
refused_at reads None text p stage rest number e found begun going stopped =
    let P : PlanRefusal → Type 0 = Refuses text in
    let only : (k : TextLine) (more : List ℕ) → line_at rest ≡ Some (k, more) → moves stage k ≡ None =
    λ k more is. absurd cc in
    subst P (sym stopped) (bad_here reads text p stage rest number begun only (λ _ ended. going ended))
refused_at reads (Some found) text p stage rest number e is begun going stopped =
    refused_in reads (moves stage found.0) (is_full found.0 p) text p stage rest number found.0 found.1 e refl refl
    begun going is stopped

pub refused : ReadsLines → (text : List ℕ) (p : Plan) (stage : Stage) (rest : List ℕ) (number : ℕ) (e : PlanRefusal)
    → Begun text p stage rest number → (stage ≡ Ended → ⊥) → Stopped (line_at rest) stage p number e → Refuses text e
refused reads text p stage rest number e begun going stopped =
    refused_at reads (line_at rest) text p stage rest number e refl begun going stopped

-- something stands behind the last line
pub trailing : ReadsLines → (text : List ℕ) (p : Plan) (stage : Stage) (rest : List ℕ) (number : ℕ)
    → Begun text p stage rest number → stage ≡ Ended → (rest ≡ [] → ⊥) → FirstBad text number
trailing reads text p stage rest number begun ended some =
    bad_here reads text p stage rest number begun (λ l more is. rw ended (ended_is_last l)) (λ empty _. some empty)

-- the whole text was read
pub read_whole : (text : List ℕ) (p : Plan) (stage : Stage) (rest : List ℕ) (number : ℕ)
    → Begun text p stage rest number → stage ≡ Ended → rest ≡ [] → IsPlan p × (text ≡ plan_text p)
read_whole text p stage rest number begun ended empty =
    let P : Stage → Type 0 = λ at. text ≡ text_of (so_far at p) ++ rest in
    let Q : List ℕ → Type 0 = λ left. text ≡ plan_text p ++ left in
    let all : text ≡ plan_text p ++ [] = subst Q empty (subst P ended begun.front) in (
      record { fits = begun.fits; few_sites = begun.few_sites; few_rows = begun.few_rows },
      rw (append-nil (plan_text p)) at all,
    )
