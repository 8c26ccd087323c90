-- A plan of an area alone fits every file.
use Rattle.std.proofs.Common.{rules, ◌≤◌, ℕ, List, arith}
use Rattle.plan_core.specs.declared.types.Area.{Area}
use Rattle.plan_core.specs.Plan.{granules}
use Rattle.site_spec.specs.Plans.{Fits}
use Rattle.heap_trace.specs.Profiles.{plan_of_area}

pub area_fits : (file : List ℕ) (area : Area) → area.log_chunk ≤ 20 → area.chunks ≤ 256 → granules area ≤ 1048576
    → Fits file (plan_of_area area)
area_fits file area log chunks all = record {
  sites = search rules;
  once = search rules;
  bits = search rules;
  own_bits = search rules;
  masks = search rules;
  groups = search rules;
  few_rows = omega arith;
  log_chunk = log;
  chunks = chunks;
  area = all;
  reach = λ k. tt;
}
