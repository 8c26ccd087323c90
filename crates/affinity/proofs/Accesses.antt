-- What is known of an affinity when a living block is accessed.
use Rattle.std.proofs.Common.{◌≡◌, ◌==◌, ◌<◌, ◌≤◌, ◌+◌, ◌*◌, ◌^◌, ℕ, List, [], ◌∷◌, ◌++◌, length, get_or, refl, ap, sym}
use Rattle.std.proofs.Common.{◌∙◌, subst, arith, append_assoc}
use Rattle.std.specs.Prelude.{All, filter_map}
use Rattle.std.proofs.lemmas.Nat.{mul-le}
use Rattle.std.proofs.lemmas.List.{length_push}
use Rattle.std.proofs.lemmas.List.Elements.{All-push, All-weaker, All-nil, All-cons}
use Rattle.std.proofs.lemmas.List.Filters.{All-dedup}
use Rattle.std.proofs.lemmas.List.Sums.{count_by-le-length}
use Rattle.plan_core.specs.declared.profiles.Event.{Event}
use Rattle.plan_core.specs.declared.profiles.Event.TheVariants.{Grant, Access, Release}
use Rattle.plan_core.specs.declared.profiles.Node.{Node}
use Rattle.affinity.specs.declared.entries.Entry.{Entry}
use Rattle.affinity.specs.Histories.{entry_of, contexts_of, released_in, accesses_of, same_block, access_list, Legal}
use Rattle.affinity.specs.Weights.{weight}
use Rattle.affinity.specs.Near.{in_reach, kept_of, near_count}
use Rattle.affinity.specs.State.{Seen, entered, weight_at}
use Rattle.affinity.specs.Follows.{Follows}
use Rattle.affinity.specs.Pushed.{Takes, Pushed}
use Rattle.affinity.proofs.Newest.{follows_push}
use Rattle.affinity.proofs.Reaches.{reach_last}
use Rattle.affinity.proofs.EntryWeights.{weight_push, weight_small, kept_is, kept_small, reach_short, All-in_reach}
use Rattle.affinity.proofs.HistoryLaws.{entries_few}
use Rattle.affinity.proofs.Standing.{stands, live, blocks_known, contexts_known, nodes_long}

wide_rest : (front rest : List Event) → Legal (front ++ rest) → All (λ e. 1 ≤ e.width) (filter_map entry_of rest)
wide_rest front [] legal = All-nil (λ e. 1 ≤ e.width)
wide_rest front (Grant b c ∷ rest) legal = wide_rest (front ++ (Grant b c ∷ [])) rest (rw append_assoc legal)
wide_rest front (Access b w ∷ rest) legal =
    All-cons (λ e. 1 ≤ e.width) (record { block = b; width = w }) (filter_map entry_of rest)
    ((legal front (Access b w) rest refl).1)
    (wide_rest (front ++ (Access b w ∷ [])) rest (rw append_assoc legal))
wide_rest front (Release b ∷ rest) legal = wide_rest (front ++ (Release b ∷ [])) rest (rw append_assoc legal)

-- the entries of a legal list have widths
pub wide : (h : List Event) → Legal h → All (λ e. 1 ≤ e.width) (access_list h)
wide h legal = All-dedup same_block (λ e. 1 ≤ e.width) (accesses_of h) (wide_rest [] h legal)

-- a weight of a legal list is at most 2 ^ 44
pub weight_fits : (a : Seen) (h : List Event) → Pushed a h → (low high : ℕ) → weight a.distance h low high ≤ 2 ^ 44
weight_fits a h p low high =
    let small = weight_small a.distance (contexts_of h) low high (access_list h) (wide h p.legal) in
    let bound : length (access_list h) * a.distance ≤ 2 ^ 32 * 4096 =
    mul-le (length (access_list h)) a.distance (2 ^ 32) 4096
    (omega (arith, entries_few h, p.accesses, p.few.1)) p.near in
    omega (arith, small, bound)

-- how many entries are kept
pub kept_pushed : (a : Seen) (h : List Event) → Pushed a h
    → length a.memory.ring.entries ≡ kept_of a.distance (access_list h)
kept_pushed a h p = ap length p.ring.entries ∙ kept_is a.distance (access_list h)

pub kept_few : (a : Seen) (h : List Event) → Pushed a h → length a.memory.ring.entries ≤ a.distance + 1
kept_few a h p = omega (arith, ap length p.ring.entries, kept_small a.distance (access_list h) (wide h p.legal))

module _ (a : Seen) (h : List Event) (e : Entry) (p : Pushed a h) (t : Takes a (Access e.block e.width)) where
  lives : e.block < length (contexts_of h)
  lives = (live a (contexts_of h) (released_in h) (length (accesses_of h)) (access_list h) (stands a h p) e.block t.1).0

  pub known : e.block < length a.memory.granted.contexts
  known = omega (arith, lives, ap length p.context_list)

  pub ring_known : e.block < length a.memory.ring.lasts
  ring_known = omega (arith, lives, p.ring_blocks, p.grants)

  pub count_small : a.memory.ring.count < 4294967295
  count_small = omega (arith, p.ring.count, entries_few h, p.accesses, t.2)

  pub followed : Follows a.distance (entered a.distance a.memory.ring e) (access_list h ++ (e ∷ []))
  followed = follows_push a.distance a.memory.ring (access_list h) e p.ring ring_known

  pub some : 0 < length (entered a.distance a.memory.ring e).entries
  some =
      let (middle, is) = reach_last a.distance (access_list h) e in
      omega (arith, ap length followed.entries, ap length is, length_push middle e)

  pub all_known : All (λ x. x.block < length a.memory.granted.contexts) (entered a.distance a.memory.ring e).entries
  all_known =
      let before = All-weaker (λ x. x.block < length (contexts_of h)) (λ x. x.block < length a.memory.granted.contexts)
      (λ x k. omega (arith, k, ap length p.context_list)) (access_list h)
      (blocks_known a (contexts_of h) (released_in h) (length (accesses_of h)) (access_list h) (stands a h p)) in
      let all = All-push (λ x. x.block < length a.memory.granted.contexts) (access_list h) e before known in
      subst (λ xs. All (λ (x : Entry). x.block < length a.memory.granted.contexts) xs) (sym followed.entries)
      (All-in_reach (λ x. x.block < length a.memory.granted.contexts) a.distance (access_list h ++ (e ∷ [])) all)

  pub short : length (entered a.distance a.memory.ring e).entries ≤ length a.memory.ring.entries + 1
  short = omega (arith, reach_short a.distance (a.memory.ring.entries ++ (e ∷ [])), length_push a.memory.ring.entries e)

  pub small : (low high : ℕ) → weight_at a.memory.weights low high
      + near_count a.memory.granted.contexts e.block low high (entered a.distance a.memory.ring e).entries < 2 ^ 60
  small low high =
      let wide_all = All-push (λ x. 1 ≤ x.width) (access_list h) e (wide h p.legal) t.0 in
      let bounded = weight_small a.distance (contexts_of h) low high (access_list h ++ (e ∷ [])) wide_all in
      let long : length (access_list h ++ (e ∷ [])) ≤ 2 ^ 32 =
      omega (arith, length_push (access_list h) e, entries_few h, p.accesses, t.2) in
      let bound : length (access_list h ++ (e ∷ [])) * a.distance ≤ 2 ^ 32 * 4096 =
      mul-le (length (access_list h ++ (e ∷ []))) a.distance (2 ^ 32) 4096 long p.near in
      let more : near_count a.memory.granted.contexts e.block low high (entered a.distance a.memory.ring e).entries
      ≡ near_count (contexts_of h) e.block low high (in_reach a.distance (access_list h ++ (e ∷ []))) =
      ap (λ xs. near_count xs e.block low high (entered a.distance a.memory.ring e).entries) p.context_list
      ∙ ap (near_count (contexts_of h) e.block low high) followed.entries in
      omega (
        arith,
        p.weights low high,
        weight_push (access_list h) e a.distance (contexts_of h) low high,
        bounded,
        bound,
        more,
      )

  pub node_small : (d : Node) → (get_or a.memory.nodes (get_or a.memory.granted.contexts e.block 0) d).accesses < 2 ^ 32
  node_small d =
      let list : get_or a.memory.granted.contexts e.block 0 ≡ get_or (contexts_of h) e.block 0 =
      ap (λ xs. get_or xs e.block 0) p.context_list in
      let inside : get_or a.memory.granted.contexts e.block 0 < length a.memory.nodes =
      omega (
        arith,
        list,
        nodes_long a (contexts_of h) (released_in h) (length (accesses_of h)) (access_list h) (stands a h p),
        contexts_known a (contexts_of h) (released_in h) (length (accesses_of h)) (access_list h)
            (stands a h p) e.block lives,
      ) in
      let counted = (p.nodes.1 (get_or a.memory.granted.contexts e.block 0) d inside).1 in
      omega (
        arith,
        counted,
        count_by-le-length (λ (x : Entry). get_or (contexts_of h) x.block 0
            == get_or a.memory.granted.contexts e.block 0) (access_list h),
        entries_few h,
        p.accesses,
        t.2,
      )
