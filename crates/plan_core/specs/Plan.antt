-- A plan's one text, the granules of its area and the group that its rows give to bits.
use Rattle.std.specs.Prelude.{ℕ, ◌+◌, ◌*◌, ◌^◌, ◌<◌, ◌≤◌, ◌==◌, List, [], ◌∷◌, ◌++◌, length, map, find, All, Option}
use Rattle.std.specs.Prelude.{codes, bit_and}
use Rattle.std.specs.Option.{option_map}
use Rattle.std.specs.List.{flat_map}
use Rattle.std.specs.Fmt.{decimal}
use Rattle.text_fields.specs.Writing.{hex8}
use Rattle.plan_core.specs.declared.types.Plan.{Plan}
use Rattle.plan_core.specs.declared.types.PlanLine.{PlanLine}
use Rattle.plan_core.specs.declared.types.Row.{Row}
use Rattle.plan_core.specs.declared.types.Area.{Area}
use Rattle.plan_core.specs.declared.lines.TextLine.{TextLine}
use Rattle.plan_core.specs.declared.lines.TextLine.TheVariants.{Head, Size, Site, Mask, End}

-- a number in decimal, and the byte that ends it: 32 is a space, 10 a newline
abbrev pub field_text : ℕ → ℕ → List ℕ
field_text n end = decimal n ++ (end ∷ [])

-- a line of a plan's text, with its newline
unfoldable pub line_text : TextLine → List ℕ
line_text Head = codes "halo-plan 1" ++ (10 ∷ [])
line_text (Size a) = codes "area " ++ field_text a.chunks 32 ++ field_text a.log_chunk 32 ++ field_text a.fallback 10
line_text (Site s) = codes "site " ++ field_text s.bit 32 ++ hex8 s.addr ++ (10 ∷ [])
line_text (Mask r) = codes "row " ++ field_text r.group 32 ++ hex8 r.mask ++ (10 ∷ [])
line_text End = codes "end" ++ (10 ∷ [])

-- the text of some lines
abbrev pub text_of : List TextLine → List ℕ
text_of lines = flat_map line_text lines

-- the lines of a plan, in their order
abbrev pub lines_of : Plan → List TextLine
lines_of p = (Head ∷ Size p.area ∷ []) ++ map Site p.sites ++ map Mask p.rows ++ (End ∷ [])

-- the one text of a plan
abbrev pub plan_text : Plan → List ℕ
plan_text p = text_of (lines_of p)

-- the fields of a site are in the ranges of their types
abbrev pub SiteFits : PlanLine → Type 0
SiteFits s = (s.bit ≤ 255) × (s.addr < 2 ^ 32)

-- the fields of a row are in the ranges of their types
abbrev pub RowFits : Row → Type 0
RowFits r = (r.group ≤ 255) × (r.mask < 2 ^ 32)

-- the fields of an area are in the ranges of their types
abbrev pub AreaFits : Area → Type 0
AreaFits a = (a.chunks < 2 ^ 32) × (a.log_chunk ≤ 255) × (a.fallback < 2 ^ 32)

-- the fields of a line are in the ranges of their types
abbrev pub LineFits : TextLine → Type 0
LineFits Head = Unit {0}
LineFits (Size a) = AreaFits a
LineFits (Site s) = SiteFits s
LineFits (Mask r) = RowFits r
LineFits End = Unit {0}

-- all fields of a plan are in the ranges of their types
pub record FieldsFit (p : Plan) : Type 0 where
  pub sites : All SiteFits p.sites
  pub rows : All RowFits p.rows
  pub area : AreaFits p.area

-- a plan that has a text which is read: at most 32 sites and 64 rows
pub record IsPlan (p : Plan) : Type 0 where
  pub fits : FieldsFit p
  pub few_sites : length p.sites ≤ 32
  pub few_rows : length p.rows ≤ 64

-- how many granules an area has: the fallback and then the chunks
abbrev pub granules : Area → ℕ
granules a = a.fallback + a.chunks * 2 ^ a.log_chunk

-- the group of the first row whose mask is in the bits
abbrev pub group_of_bits : List Row → ℕ → Option ℕ
group_of_bits rows bits = option_map (λ r. r.group) (find (λ r. bit_and r.mask bits == r.mask) rows)
