-- Which line of a text is the first that no profile's text has there.
use Rattle.std.specs.Prelude.{◌≡◌, ℕ, ◌+◌, List, [], ◌∷◌, ◌++◌, length}
use Rattle.plan_core.specs.declared.profiles.Profile.{Profile}
use Rattle.profile_text.specs.declared.lines.TextLine.{TextLine}
use Rattle.profile_text.specs.declared.refusals.ProfileRefusal.{ProfileRefusal}
use Rattle.profile_text.specs.declared.refusals.ProfileRefusal.TheVariants.{Line, Memory}
use Rattle.profile_text.specs.Profile.{line_text, text_of, lines_of, IsProfile}

-- the lines are the first ones of some profile
abbrev pub Begins : List TextLine → Type 0
Begins lines = (p : Profile) × (more : List TextLine) × IsProfile p × (lines_of p ≡ lines ++ more)

-- the lines are all those of some profile
abbrev pub Whole : List TextLine → Type 0
Whole lines = (p : Profile) × IsProfile p × (lines_of p ≡ lines)

-- line n is the first that the grammar doesn't admit: the lines before it begin a profile, no line that
-- goes on so stands at the front of the rest, and where the rest is empty they are no whole profile
pub record FirstBad (text : List ℕ) (n : ℕ) : Type 0 where
  pub lines : List TextLine
  pub rest : List ℕ
  pub front : text ≡ text_of lines ++ rest
  pub admitted : Begins lines
  pub number : n ≡ length lines + 1
  pub no_next : (l : TextLine) (more : List ℕ) → rest ≡ line_text l ++ more → Begins (lines ++ (l ∷ [])) → ⊥
  pub unfinished : rest ≡ [] → Whole lines → ⊥

-- what a refusal says of the text; want of memory says nothing
abbrev pub Refuses : List ℕ → ProfileRefusal → Type 0
Refuses text (Line n) = FirstBad text n
Refuses text Memory = Unit {0}
