-- The line that is found at the front of a text, with the rest.
use Rattle.std.specs.Prelude.{ℕ, List, [], ◌∷◌, ◌++◌, Option, Some, None, codes}
use Rattle.text_fields.specs.Reading.{◌>>=◌, after_front, number_at, hex_at}
use Rattle.plan_core.specs.declared.lines.TextLine.{TextLine}
use Rattle.plan_core.specs.declared.lines.TextLine.TheVariants.{Head, Size, Site, Mask, End}

-- the fields of an area line
unfoldable pub area_at : List ℕ → Option (TextLine × List ℕ)
area_at text = do
  chunks ← number_at 32 4294967295 text
  log ← number_at 32 255 chunks.1
  fallback ← number_at 10 4294967295 log.1
  Some (Size (record { chunks = chunks.0; log_chunk = log.0; fallback = fallback.0 }), fallback.1)

-- the fields of a site line
unfoldable pub site_at : List ℕ → Option (TextLine × List ℕ)
site_at text = do
  bit ← number_at 32 255 text
  addr ← hex_at bit.1
  rest ← after_front (10 ∷ []) addr.1
  Some (Site (record { bit = bit.0; addr = addr.0 }), rest)

-- the fields of a row line
unfoldable pub row_at : List ℕ → Option (TextLine × List ℕ)
row_at text = do
  group ← number_at 32 255 text
  mask ← hex_at group.1
  rest ← after_front (10 ∷ []) mask.1
  Some (Mask (record { group = group.0; mask = mask.0 }), rest)

-- what the fields say where the first word is found, and else another choice
abbrev pub or_else : {A : Type 0} → Option (List ℕ) → (List ℕ → Option A) → Option A → Option A
or_else None fields other = other
or_else (Some rest) fields other = fields rest

-- a line without fields
unfoldable pub word_line_at : List ℕ → Option (TextLine × List ℕ)
word_line_at text =
    or_else (after_front (codes "halo-plan 1" ++ (10 ∷ [])) text) (λ rest. Some (Head, rest))
    (or_else (after_front (codes "end" ++ (10 ∷ [])) text) (λ rest. Some (End, rest))
    None)

-- a line, chosen by its first word
unfoldable pub line_at : List ℕ → Option (TextLine × List ℕ)
line_at text =
    or_else (after_front (codes "site ") text) site_at
    (or_else (after_front (codes "row ") text) row_at
    (or_else (after_front (codes "area ") text) area_at
    (word_line_at text)))
