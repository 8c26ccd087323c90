-- Which line of a text is the first that no plan's text has there, or is one too many.
use Rattle.std.specs.Prelude.{◌≡◌, ℕ, ◌+◌, ◌≤◌, List, [], ◌∷◌, ◌++◌, length, count_by, Bool, true, false}
use Rattle.plan_core.specs.declared.types.Plan.{Plan}
use Rattle.plan_core.specs.declared.lines.TextLine.{TextLine}
use Rattle.plan_core.specs.declared.lines.TextLine.TheVariants.{Site, Mask}
use Rattle.plan_core.specs.declared.refusals.PlanRefusal.{PlanRefusal}
use Rattle.plan_core.specs.declared.refusals.PlanRefusal.TheVariants.{Line, TooMany, Memory}
use Rattle.plan_core.specs.Plan.{line_text, text_of, lines_of, FieldsFit}

-- the lines are the first ones of some plan, whatever its number of sites and rows
abbrev pub Begins : List TextLine → Type 0
Begins lines = (p : Plan) × (more : List TextLine) × FieldsFit p × (lines_of p ≡ lines ++ more)

-- the lines are all those of some plan
abbrev pub Whole : List TextLine → Type 0
Whole lines = (p : Plan) × (lines_of p ≡ lines)

-- whether a line is a site
abbrev pub is_site : TextLine → Bool
is_site (Site _) = true
is_site _ = false

-- whether a line is a row
abbrev pub is_row : TextLine → Bool
is_row (Mask _) = true
is_row _ = false

-- the lines have at most 32 sites and 64 rows
abbrev pub Within : List TextLine → Type 0
Within lines = (count_by is_site lines ≤ 32) × (count_by is_row lines ≤ 64)

-- line n is the first that the grammar doesn't admit: the lines before it begin a plan, no line that
-- goes on so stands at the front of the rest, and where the rest is empty they are no whole plan
pub record FirstBad (text : List ℕ) (n : ℕ) : Type 0 where
  pub lines : List TextLine
  pub rest : List ℕ
  pub front : text ≡ text_of lines ++ rest
  pub admitted : Begins lines
  pub within : Within lines
  pub number : n ≡ length lines + 1
  pub no_next : (l : TextLine) (more : List ℕ) → rest ≡ line_text l ++ more → Begins (lines ++ (l ∷ [])) → ⊥
  pub unfinished : rest ≡ [] → Whole lines → ⊥

-- line n is admitted after the lines before it, and is the first that is one site or one row too many
pub record FirstOver (text : List ℕ) (n : ℕ) : Type 0 where
  pub lines : List TextLine
  pub over : TextLine
  pub rest : List ℕ
  pub front : text ≡ text_of lines ++ (line_text over ++ rest)
  pub admitted : Begins (lines ++ (over ∷ []))
  pub within : Within lines
  pub number : n ≡ length lines + 1
  pub too_many : Within (lines ++ (over ∷ [])) → ⊥

-- what a refusal says of the text; want of memory says nothing
abbrev pub Refuses : List ℕ → PlanRefusal → Type 0
Refuses text (Line n) = FirstBad text n
Refuses text (TooMany n) = FirstOver text n
Refuses text Memory = Unit {0}
