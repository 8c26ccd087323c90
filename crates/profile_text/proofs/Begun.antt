-- The reader's loop: what holds after each line, at a refusal and at the end.
use Rattle.std.proofs.Common.{◌≡◌, ◌<◌, ◌≤◌, ◌+◌, ℕ, List, [], ◌∷◌, ◌++◌, length, Option, Some, None, refl, ap, subst}
use Rattle.std.proofs.Common.{sym, ◌∙◌, arith, append_assoc, length-append}
use Rattle.std.proofs.lemmas.List.{append-nil, length_push}
use Rattle.std.proofs.lemmas.List.Elements.{All-nil}
use Rattle.std.proofs.lemmas.Option.{MatchOption-at_some, some_pair_parts}
use Rattle.plan_core.specs.declared.profiles.Profile.{Profile}
use Rattle.plan_core.specs.Graphs.{Joins}
use Rattle.profile_text.specs.declared.lines.TextLine.{TextLine}
use Rattle.profile_text.specs.declared.steps.Stage.{Stage}
use Rattle.profile_text.specs.declared.steps.Stage.TheVariants.{Start, Ended}
use Rattle.profile_text.specs.declared.refusals.ProfileRefusal.{ProfileRefusal}
use Rattle.profile_text.specs.declared.refusals.ProfileRefusal.TheVariants.{Line, Memory}
use Rattle.profile_text.specs.Profile.{line_text, text_of, profile_text, IsContext, NodeFits, IsProfile}
use Rattle.profile_text.specs.Grammar.{FirstBad, Refuses}
use Rattle.profile_text.specs.Reading.{line_at}
use Rattle.profile_text.specs.Steps.{blank_profile, admits, added, WentOn, Blocked, Stopped}
use Rattle.profile_text.proofs.Laws.{TextLaws}
use Rattle.profile_text.proofs.LineLaws.{line_takes, line_again, line_some}
use Rattle.profile_text.proofs.Stages.{so_far, Tidy, Adds, adds_at, run, run-append, no_profile_goes_on, whole_ends}
use Rattle.profile_text.proofs.Stages.{ended_is_last, begins, begun_fits, back_fits, added_fits, text_push}

-- the lines so far are taken into the profile, and `rest` is still to be read, from line `number` on
pub record Begun (text : List ℕ) (p : Profile) (stage : Stage) (rest : List ℕ) (number : ℕ) : Type 0 where
  pub front : text ≡ text_of (so_far stage p) ++ rest
  pub count : number ≡ length (so_far stage p) + 1
  pub tidy : Tidy stage p
  pub is_profile : IsProfile p
  pub ran : run Start blank_profile (so_far stage p) ≡ Some (stage, p)
  pub bounded : number + length rest ≤ length text + 1

blank_is : IsProfile blank_profile
blank_is = record {
  near = omega arith;
  few = omega arith;
  sizes = refl;
  contexts = All-nil IsContext;
  nodes = All-nil NodeFits;
  ordered = record { joins = All-nil (Joins 0); ascending = λ i j d first inside. absurd (omega arith) };
  counted = All-nil (λ e. 0 < e.weight);
}

pub start_begun : (text : List ℕ) → Begun text blank_profile Start text 1
start_begun text = record {
  front = refl;
  count = refl;
  tidy = refl;
  is_profile = blank_is;
  ran = refl;
  bounded = omega arith;
}

-- a line takes some of the text
shorter : (rest : List ℕ) (l : TextLine) (after : List ℕ) → rest ≡ line_text l ++ after → length after < length rest
shorter rest l after is =
    let (c, cs, some) = line_some l in
    omega (arith, ap length is, length-append (line_text l) after, ap length some)

module _ (laws : TextLaws) where
  -- one more line
  took : (text : List ℕ) (p : Profile) (stage : Stage) (rest : List ℕ) (number : ℕ) (next : Stage) (l : TextLine)
      (after : List ℕ)
      → Begun text p stage rest number → line_at rest ≡ Some (l, after) → admits stage p l ≡ Some next
      → Begun text (added l p) next after (number + 1)
  took text p stage rest number next l after begun found goes =
      let takes = line_takes laws rest l after found in
      let adds = MatchOption-at_some (Unit {0}) (Adds l stage p) next goes
      (adds_at stage l p begun.tidy begun.is_profile.sizes) in
      let at : number + 1 ≡ length (so_far next (added l p)) + 1 =
      rw (adds.lines, length_push (so_far stage p) l, begun.count) refl in
      record {
        front = rw (adds.lines, text_push (so_far stage p) l, append_assoc, ← takes.1) begun.front;
        count = at;
        tidy = adds.tidy;
        is_profile = added_fits stage l p next takes.0 begun.is_profile goes;
        ran = rw (adds.lines, run-append Start blank_profile (so_far stage p) (l ∷ []), begun.ran, goes) refl;
        bounded = omega (arith, begun.bounded, shorter rest l after takes.1);
      }

  went_on_at : (o : Option (TextLine × List ℕ)) (text : List ℕ) (p : Profile) (stage : Stage) (rest : List ℕ)
      (number : ℕ) (next : Stage) (after : List ℕ) (new : Profile)
      → line_at rest ≡ o → Begun text p stage rest number → WentOn o stage p next after new
      → Begun text new next after (number + 1)
  went_on_at None text p stage rest number next after new e begun went = absurd went
  went_on_at (Some found) text p stage rest number next after new e begun went =
      rw (went.1, went.2) (took text p stage rest number next found.0 found.1 begun e went.0)

  pub went_on : (text : List ℕ) (p : Profile) (stage : Stage) (rest : List ℕ) (number : ℕ) (next : Stage)
      (after : List ℕ) (new : Profile)
      → Begun text p stage rest number → WentOn (line_at rest) stage p next after new
      → Begun text new next after (number + 1)
  went_on text p stage rest number next after new begun went =
      went_on_at (line_at rest) text p stage rest number next after new refl begun went

  shorter_at : (o : Option (TextLine × List ℕ)) (p : Profile) (stage : Stage) (rest : List ℕ) (next : Stage)
      (after : List ℕ) (new : Profile)
      → line_at rest ≡ o → WentOn o stage p next after new → length after < length rest
  shorter_at None p stage rest next after new e went = absurd went
  shorter_at (Some found) p stage rest next after new e went =
      let less = shorter rest found.0 found.1 (line_takes laws rest found.0 found.1 e).1 in
      omega (arith, less, ap length went.1)

  -- the rest gets shorter
  pub goes_down : (p : Profile) (stage : Stage) (rest : List ℕ) (next : Stage) (after : List ℕ) (new : Profile)
      → WentOn (line_at rest) stage p next after new → length after < length rest
  goes_down p stage rest next after new went = shorter_at (line_at rest) p stage rest next after new refl went

  -- the rest goes on with no line that may come, and isn't a missing rest after a whole profile
  bad_here : (text : List ℕ) (p : Profile) (stage : Stage) (rest : List ℕ) (number : ℕ) → Begun text p stage rest number
      → ((l : TextLine) (more : List ℕ) → line_at rest ≡ Some (l, more) → admits stage p l ≡ None)
      → (rest ≡ [] → stage ≡ Ended → ⊥) → FirstBad text number
  bad_here text p stage rest number begun blocked missing = record {
    lines = so_far stage p;
    rest = rest;
    front = begun.front;
    admitted = begins stage p begun.is_profile;
    number = begun.count;
    no_next = λ l more is goes.
        let fit = back_fits (so_far stage p) (l ∷ []) (begun_fits (so_far stage p ++ (l ∷ [])) goes) in
        let found : line_at rest ≡ Some (l, more) = rw is (line_again laws l more fit.0) in
        no_profile_goes_on (so_far stage p) l stage p begun.ran (blocked l more found) goes;
    unfinished = λ empty whole. missing empty (whole_ends (so_far stage p) stage p begun.ran whole);
  }

  -- the line that was found is the only one
  same_line : (stage : Stage) (p : Profile) (k l : TextLine) (more after : List ℕ) (o : Option (TextLine × List ℕ))
      → o ≡ Some (k, more) → o ≡ Some (l, after) → admits stage p l ≡ None → admits stage p k ≡ None
  same_line stage p k l more after o one other blocked =
      let joined : ◌≡◌ {A = Option (TextLine × List ℕ)} (Some (k, more)) (Some (l, after)) = cc in
      rw ((some_pair_parts k l more after joined).0) blocked

  blocked_at : (o : Option (TextLine × List ℕ)) (text : List ℕ) (p : Profile) (stage : Stage) (rest : List ℕ)
      (number : ℕ) → line_at rest ≡ o
      → Begun text p stage rest number → (stage ≡ Ended → ⊥) → Blocked o stage p → FirstBad text number
  blocked_at None text p stage rest number found begun going blocked =
      bad_here text p stage rest number begun (λ k more is. absurd
      (let e : ◌≡◌ {A = Option (TextLine × List ℕ)} None (Some (k, more)) =
      sym found ∙ is in cc)) (λ _ ended. going ended)
  blocked_at (Some found) text p stage rest number is begun going blocked =
      bad_here text p stage rest number begun (λ k more there. same_line stage p k found.0 more found.1
      (line_at rest) there is blocked) (λ _ ended. going ended)

  pub refused : (text : List ℕ) (p : Profile) (stage : Stage) (rest : List ℕ) (number : ℕ) (e : ProfileRefusal)
      → Begun text p stage rest number
      → (stage ≡ Ended → ⊥) → Stopped (line_at rest) stage p number e → Refuses text e
  refused text p stage rest number (Line n) begun going stopped =
      rw (stopped.0) (blocked_at (line_at rest) text p stage rest number refl begun going stopped.1)
  refused text p stage rest number Memory begun going stopped = tt

  -- something stands behind the last line
  pub trailing : (text : List ℕ) (p : Profile) (stage : Stage) (rest : List ℕ) (number : ℕ)
      → Begun text p stage rest number → stage ≡ Ended → (rest ≡ [] → ⊥) → FirstBad text number
  trailing text p stage rest number begun ended some =
      bad_here text p stage rest number begun (λ l more is. rw ended (ended_is_last p l)) (λ empty _. some empty)

-- the whole text was read
pub read_whole : (text : List ℕ) (p : Profile) (stage : Stage) (rest : List ℕ) (number : ℕ)
    → Begun text p stage rest number → stage ≡ Ended → rest ≡ [] → IsProfile p × (text ≡ profile_text p)
read_whole text p stage rest number begun ended empty =
    let P : Stage → Type 0 = λ at. text ≡ text_of (so_far at p) ++ rest in
    let Q : List ℕ → Type 0 = λ left. text ≡ profile_text p ++ left in
    let all : text ≡ profile_text p ++ [] = subst Q empty (subst P ended begun.front) in
    (begun.is_profile, rw (append-nil (profile_text p)) at all)
