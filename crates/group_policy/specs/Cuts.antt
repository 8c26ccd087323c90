-- Which cuts are in range, and what every kept rule owes.
use Rattle.std.specs.Prelude.{◌≡◌, ℤ, pos, ◌*◌, ◌^◌, ◌≤◌, ◌-ℤ◌, ◌≤ℤ◌}
use Rattle.group_policy.specs.declared.cut.Cut.{Cut}

-- a group of 1 to 7 members and its edges inside and to a candidate, each edge up to 2 ^ 44
pub record InRange (cut : Cut) : Type 0 where
  pub some : 1 ≤ cut.nodes
  pub few : cut.nodes ≤ 7
  pub loops : cut.loops ≤ cut.nodes
  pub weight : cut.weight ≤ 36 * 2 ^ 44
  pub node_loop : cut.node_loop ≤ 2 ^ 44
  pub cross : cut.cross ≤ 7 * 2 ^ 44
  pub tolerance : cut.tolerance ≤ 150
  pub alone : cut.nodes ≡ 1 → cut.loops ≡ 0 → cut.weight ≡ 0

-- an answer from -2 ^ 110 to 2 ^ 110, which is at most 0 where no edge leads from the candidate to the group
pub record IsFair (cut : Cut) (answer : ℤ) : Type 0 where
  pub low : (pos 0 -ℤ pos (2 ^ 110)) ≤ℤ answer
  pub high : answer ≤ℤ pos (2 ^ 110)
  pub apart : cut.cross ≡ 0 → answer ≤ℤ pos 0

-- what is kept of a rule: it may be asked for every cut in range, and each answer that it may give is fair
abbrev pub IsKept : (Cut → Type 0) → (Cut → ℤ → Type 0) → Type 0
IsKept asked answers =
    (cut : Cut) → InRange cut → asked cut × ((answer : ℤ) → answers cut answer → IsFair cut answer)
