-- The density rule.
use Rattle.std.specs.Prelude.{◌≡◌, ℕ, zero, suc, ℤ, pos, ◌+◌, ◌-◌, ◌*◌, ◌/◌, ◌-ℤ◌, max}
use Rattle.group_policy.specs.declared.cut.Cut.{Cut}

-- the least common multiple of 1 to 36
abbrev pub scale : ℕ
scale = 144403552893600

-- how many loops and pairs of members a group has
abbrev pub places : ℕ → ℕ → ℕ
places nodes loops = loops + nodes * (nodes - 1) / 2

-- the weight inside by the number of places, scaled; 0 where there is no place
abbrev pub score_of : ℕ → ℕ → ℕ
score_of weight zero = 0
score_of weight (suc n) = weight * scale / suc n

-- how many loops a candidate has whose loop has this weight
abbrev pub own_loop : ℕ → ℕ
own_loop zero = 0
own_loop (suc _) = 1

-- the places of the group, of the candidate alone, and of the group with the candidate
abbrev pub group_places : Cut → ℕ
group_places cut = places cut.nodes cut.loops

abbrev pub node_places : Cut → ℕ
node_places cut = places 1 (own_loop cut.node_loop)

abbrev pub joined_places : Cut → ℕ
joined_places cut = places (cut.nodes + 1) (cut.loops + own_loop cut.node_loop)

-- the weight inside the group with the candidate
abbrev pub joined_weight : Cut → ℕ
joined_weight cut = cut.weight + cut.node_loop + cut.cross

-- 1000 * score(g+x) - (1000 - T) * max(score(g), score(x))
unfoldable pub density_of : Cut → ℤ
density_of cut =
    pos (1000 * score_of (joined_weight cut) (joined_places cut))
    -ℤ pos ((1000 - cut.tolerance) * max (score_of cut.weight (group_places cut))
    (score_of cut.node_loop (node_places cut)))

-- a quotient is whole: times its divisor it is what was divided
abbrev pub IsWhole : ℕ → ℕ → Type 0
IsWhole weight n = score_of weight n * n ≡ weight * scale

-- all three quotients of the density are whole
pub record QuotientsAreWhole (cut : Cut) : Type 0 where
  pub group : IsWhole cut.weight (group_places cut)
  pub node : IsWhole cut.node_loop (node_places cut)
  pub joined : IsWhole (joined_weight cut) (joined_places cut)
