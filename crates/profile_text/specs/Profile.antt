-- A profile's one text.
use Rattle.std.specs.Prelude.{◌≡◌, ℕ, ◌+◌, ◌^◌, ◌<◌, ◌≤◌, List, [], ◌∷◌, ◌++◌, length, map, All, codes, true}
use Rattle.std.specs.List.{flat_map}
use Rattle.std.specs.Fmt.{decimal}
use Rattle.text_fields.specs.Writing.{hex8}
use Rattle.plan_core.specs.declared.profiles.Node.{Node}
use Rattle.plan_core.specs.declared.profiles.Profile.{Profile}
use Rattle.plan_core.specs.Graphs.{IsOrdered}
use Rattle.profile_text.specs.declared.lines.TextLine.{TextLine}
use Rattle.profile_text.specs.declared.lines.TextLine.TheVariants.{Head, Distance, Granted, Joined, End}
use Rattle.profile_text.specs.Distinct.{are_distinct}

-- a number in decimal, and the byte that ends it: 32 is a space, 10 a newline
abbrev pub field_text : ℕ → ℕ → List ℕ
field_text n end = decimal n ++ (end ∷ [])

-- an address, behind a space
abbrev pub addr_text : ℕ → List ℕ
addr_text a = 32 ∷ hex8 a

-- a line of a profile's text, with its newline
unfoldable pub line_text : TextLine → List ℕ
line_text Head = codes "halo-profile 1" ++ (10 ∷ [])
line_text (Distance d) = codes "distance " ++ field_text d 10
line_text (Granted c) =
    codes "context " ++ field_text c.number 32 ++ field_text c.grants 32 ++ decimal c.accesses
    ++ flat_map addr_text c.addrs ++ (10 ∷ [])
line_text (Joined e) = codes "edge " ++ field_text e.low 32 ++ field_text e.high 32 ++ field_text e.weight 10
line_text End = codes "end" ++ (10 ∷ [])

-- the text of some lines
abbrev pub text_of : List TextLine → List ℕ
text_of lines = flat_map line_text lines

-- the line of a context
abbrev pub context_line : ℕ → List ℕ → Node → TextLine
context_line number addrs node =
    Granted (record { number = number; grants = node.grants; accesses = node.accesses; addrs = addrs })

-- the lines of contexts, whose numbers count on
abbrev pub context_lines : ℕ → List (List ℕ) → List Node → List TextLine
context_lines number [] nodes = []
context_lines number (addrs ∷ contexts) [] = []
context_lines number (addrs ∷ contexts) (node ∷ nodes) =
    context_line number addrs node ∷ context_lines (number + 1) contexts nodes

-- the lines of a profile, in their order
abbrev pub lines_of : Profile → List TextLine
lines_of p =
    (Head ∷ Distance p.distance ∷ []) ++ context_lines 0 p.contexts p.graph.nodes ++ map Joined p.graph.edges
    ++ (End ∷ [])

-- the one text of a profile
abbrev pub profile_text : Profile → List ℕ
profile_text p = text_of (lines_of p)

-- a context: distinct addresses of 32 bits
abbrev pub IsContext : List ℕ → Type 0
IsContext addrs = All (λ a. a < 2 ^ 32) addrs × (are_distinct addrs ≡ true)

-- counts of one context that a run can reach
abbrev pub NodeFits : Node → Type 0
NodeFits n = (n.grants ≤ 2 ^ 44) × (n.accesses ≤ 2 ^ 44)

-- a profile that has a text: its distance is at most 4096, each node has its context, contexts are numbered in 32 bits,
-- and the graph's edges are in order and have weights above 0
pub record IsProfile (p : Profile) : Type 0 where
  pub near : p.distance ≤ 4096
  pub few : length p.contexts < 2 ^ 32
  pub sizes : length p.graph.nodes ≡ length p.contexts
  pub contexts : All IsContext p.contexts
  pub nodes : All NodeFits p.graph.nodes
  pub ordered : IsOrdered p.graph
  pub counted : All (λ e. 0 < e.weight) p.graph.edges
