-- Why a plan doesn't fit an executable: the first check that it fails, with its item; the first line
-- or row, and of a row's mask the lowest bit.
use Rattle.std.specs.Prelude.{ℕ, ◌^◌, ◌==◌, Bool, false, not, ◌&&◌, ◌||◌, List, Option, Some, None, take}
use Rattle.std.specs.Prelude.{is_some, option_map, nat_le, nat_lt, bit_and}
use Rattle.std.specs.List.{list_any}
use Rattle.plan_core.specs.declared.types.Area.{Area}
use Rattle.plan_core.specs.declared.types.Plan.{Plan}
use Rattle.plan_core.specs.declared.types.PlanLine.{PlanLine}
use Rattle.plan_core.specs.declared.types.Row.{Row}
use Rattle.plan_core.specs.Plan.{granules}
use Rattle.site_spec.specs.declared.Site.{Site}
use Rattle.site_spec.specs.Places.{reaches, stub_at, text_at}
use Rattle.site_spec.specs.Sites.{site_at}
use Rattle.first_check.specs.First.{◌or_else◌, first_below, first_item, when}
use Rattle.exec_image.specs.declared.plan_fault.PlanFault.{PlanFault}
use Rattle.exec_image.specs.declared.plan_fault.PlanFault.TheVariants.{PlanSite, PlanBit, PlanRow, AreaTooLarge}
use Rattle.exec_image.specs.declared.plan_fault.PlanFault.TheVariants.{SiteOutOfReach}

-- a line that names no site, or the site of an earlier line
abbrev pub site_fault : List ℕ → List PlanLine → ℕ → PlanLine → Option PlanFault
site_fault file lines i l =
    when (not (is_some (site_at file l.addr)) || list_any (λ m. m.addr == l.addr) (take i lines)) (PlanSite l.addr)

unfoldable pub no_site : List ℕ → List PlanLine → Option PlanFault
no_site file lines = first_item (site_fault file lines) lines

-- a line whose bit is none of 32, or that of an earlier line
abbrev pub bit_fault : List PlanLine → ℕ → PlanLine → Option PlanFault
bit_fault lines i l = when (nat_le 32 l.bit || list_any (λ m. m.bit == l.bit) (take i lines)) (PlanBit l.bit)

unfoldable pub no_bit : List PlanLine → Option PlanFault
no_bit lines = first_item (bit_fault lines) lines

-- the mask has this bit, and no line has it
abbrev pub is_strange_bit : List PlanLine → (mask bit : ℕ) → Bool
is_strange_bit lines mask n = not (bit_and mask (2 ^ n) == 0) && not (list_any (λ l. l.bit == n) lines)

-- the lowest such bit
unfoldable pub strange_mask : List PlanLine → ℕ → Option PlanFault
strange_mask lines mask = option_map PlanBit (first_below (is_strange_bit lines mask) 32)

-- a row whose mask has such a bit
abbrev pub mask_fault : List PlanLine → ℕ → Row → Option PlanFault
mask_fault lines i r = strange_mask lines r.mask

unfoldable pub strange_masks : List PlanLine → List Row → Option PlanFault
strange_masks lines rows = first_item (mask_fault lines) rows

-- a row whose group is none of 16, or that has 64 rows before it
abbrev pub row_fault : ℕ → Row → Option PlanFault
row_fault i r = when (nat_le 16 r.group || (i == 64)) (PlanRow i)

unfoldable pub bad_row : List Row → Option PlanFault
bad_row rows = first_item row_fault rows

unfoldable pub area_too_large : Area → Option PlanFault
area_too_large a = when (nat_lt 20 a.log_chunk || (nat_lt 256 a.chunks || nat_lt 1048576 (granules a))) AreaTooLarge

-- a JAL at the site of line k doesn't reach its stub
abbrev pub is_far : List ℕ → ℕ → Option Site → Bool
is_far file k (Some s) = not s.pair && not (reaches s.addr (stub_at (text_at file) k))
is_far file k None = false

-- a line whose site is too far from its stub
abbrev pub reach_fault : List ℕ → ℕ → PlanLine → Option PlanFault
reach_fault file i l = when (is_far file i (site_at file l.addr)) (SiteOutOfReach l.addr)

unfoldable pub out_of_reach : List ℕ → List PlanLine → Option PlanFault
out_of_reach file lines = first_item (reach_fault file) lines

-- all checks, in their order
abbrev pub plan_fault : List ℕ → Plan → Option PlanFault
plan_fault file plan =
    no_site file plan.sites or_else no_bit plan.sites or_else strange_masks plan.sites plan.rows or_else bad_row
    plan.rows
    or_else area_too_large plan.area or_else out_of_reach file plan.sites
