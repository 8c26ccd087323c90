-- The site lines of a fitting plan, the patches that they make, and the stubs that they put into the
-- new text.
use Rattle.std.proofs.Common.{◌≡◌, ℕ, zero, suc, ◌+◌, ◌-◌, ◌*◌, ◌<◌, ◌≤◌, List, [], ◌∷◌, ◌++◌, length, refl, ap, sym}
use Rattle.std.proofs.Common.{◌∙◌, subst, arith, length-append, Option, Some, None}
use Rattle.std.specs.Prelude.{IsSome, All, Any, slice_get, slice_index, flat_map}
use Rattle.std.proofs.lemmas.List.{get_or_append_left, get_or-append_right}
use Rattle.std.proofs.lemmas.List.Elements.{All-append, All-cons, All-head, All-nil, All-tail, All-weaker}
use Rattle.elf_spec.specs.declared.Patch.{Patch}
use Rattle.elf_spec.specs.Code.{code_place}
use Rattle.elf_spec.specs.Fields.{word_bytes}
use Rattle.plan_core.specs.declared.types.Plan.{Plan}
use Rattle.plan_core.specs.declared.types.PlanLine.{PlanLine}
use Rattle.site_spec.specs.declared.Site.{Site}
use Rattle.site_spec.specs.Places.{text_at, stub_at}
use Rattle.site_spec.specs.Plans.{Fits}
use Rattle.new_file_spec.specs.Rewritten.{jump_words, mark, patch_to, patches_at, patches_from, site_patches, site_stub}
use Rattle.new_file_spec.specs.Rewritten.{stubs_from}
use Rattle.site_spec.specs.Sites.{site_at}
use Rattle.new_file_spec.specs.Stubs.{stub_words}
use Rattle.new_file_spec.specs.Rewritten.{patches_for, text_for}
use Rattle.new_file_laws.proofs.SiteKinds.{site_addr}
use Rattle.new_file_laws.proofs.FewSites.{few}

-- a line names a site
pub record IsSiteLine (file : List ℕ) (line : PlanLine) : Type 0 where
  pub site : Site
  pub at : site_at file line.addr ≡ Some site

site_line : (file : List ℕ) (line : PlanLine) → IsSome (site_at file line.addr) → IsSiteLine file line
site_line file line h = at (site_at file line.addr) refl h
  where
    at : (o : Option Site) → site_at file line.addr ≡ o → IsSome o → IsSiteLine file line
    at (Some s) e h = record { site = s; at = e }
    at None e h = absurd (cc)

pub site_lines : (file : List ℕ) (plan : Plan) → Fits file plan → All (IsSiteLine file) plan.sites
site_lines file plan fits = All-weaker (λ line. IsSome (site_at file line.addr)) (IsSiteLine file)
    (site_line file) plan.sites fits.sites

-- the patch is that of one of some words, which are to stand from an address on
abbrev pub IsWordAt : List ℕ → ℕ → List ℕ → Patch → Type 0
IsWordAt file a ws p = (j : ℕ) × (code_place file (a + 4 * j) ≡ Some p.offset) × (slice_get ws j ≡ Some p.word)

later_place : (file : List ℕ) (a j : ℕ) (o : Option ℕ) → code_place file (a + 4 + 4 * j) ≡ o
    → code_place file (a + 4 * suc j) ≡ o
later_place file a j o e = let same : a + 4 + 4 * j ≡ a + 4 * suc j =
    omega arith in subst (λ x. code_place file x ≡ o) same e

pub each_at : (file : List ℕ) (a : ℕ) (ws : List ℕ) → All (IsWordAt file a ws) (patches_at file a ws)
each_at file a [] = All-nil (IsWordAt file a [])
each_at file a (w ∷ ws) =
    All-append (IsWordAt file a (w ∷ ws)) (patch_to w (code_place file a)) (patches_at file (a + 4) ws)
    (first (code_place file a) refl)
    (All-weaker (IsWordAt file (a + 4) ws) (IsWordAt file a (w ∷ ws)) later (patches_at file (a + 4) ws)
    (each_at file (a + 4) ws))
  where
    first : (o : Option ℕ) → code_place file a ≡ o → All (IsWordAt file a (w ∷ ws)) (patch_to w o)
    first None e = All-nil (IsWordAt file a (w ∷ ws))
    first (Some place) e =
        let here : a ≡ a + 4 * 0 = omega arith in
        All-cons (IsWordAt file a (w ∷ ws)) (record { offset = place; word = w }) []
        (zero, subst (λ x. code_place file x ≡ Some place) here e, refl) (All-nil (IsWordAt file a (w ∷ ws)))

    later : (p : Patch) → IsWordAt file (a + 4) ws p → IsWordAt file a (w ∷ ws) p
    later p (j, there, word) = (suc j, later_place file a j (Some p.offset) there, word)

-- the patches of a line with stub n, and of the lines behind it
pub patches_step : (file : List ℕ) (n : ℕ) (line : PlanLine) (lines : List PlanLine) (s : Site)
    → site_at file line.addr ≡ Some s
    → patches_from file n (line ∷ lines) ≡ patches_at file line.addr
    (jump_words (stub_at (text_at file) n) s) ++ patches_from file (n + 1) lines
patches_step file n line lines s e = ap (λ ps. ps ++ patches_from file (n + 1) lines) one
  where
    one : site_patches file (stub_at (text_at file) n) (site_at file line.addr)
        ≡ patches_at file line.addr (jump_words (stub_at (text_at file) n) s)
    one =
        ap (site_patches file (stub_at (text_at file) n)) e
        ∙ ap (λ a. patches_at file a (jump_words (stub_at (text_at file) n) s)) (site_addr file line.addr s e)

-- the patch is a word of the jump of one of the lines, of which the first has stub n
abbrev pub IsJump : List ℕ → ℕ → List PlanLine → Patch → Type 0
IsJump file n lines p =
    (k : ℕ) × (line : PlanLine) × (s : Site) × (slice_get lines k ≡ Some line) × (site_at file line.addr ≡ Some s)
    × IsWordAt file line.addr (jump_words (stub_at (text_at file) (n + k)) s) p

same_words : (file : List ℕ) (m n : ℕ) (line : PlanLine) (s : Site) (p : Patch) → m ≡ n
    → IsWordAt file line.addr (jump_words (stub_at (text_at file) m) s) p
    → IsWordAt file line.addr (jump_words (stub_at (text_at file) n) s) p
same_words file m n line s p e h = subst (λ k. IsWordAt file line.addr (jump_words (stub_at (text_at file) k) s) p) e h

pub jumps : (file : List ℕ) (n : ℕ) (lines : List PlanLine) → All (IsSiteLine file) lines
    → All (IsJump file n lines) (patches_from file n lines)
jumps file n [] h = All-nil (IsJump file n [])
jumps file n (line ∷ lines) h =
    subst (All (IsJump file n (line ∷ lines))) (sym (patches_step file n line lines l.site l.at))
    (All-append (IsJump file n (line ∷ lines)) (patches_at file line.addr words) (patches_from file (n + 1) lines)
    (All-weaker (IsWordAt file line.addr words) (IsJump file n (line ∷ lines)) first (patches_at file line.addr words)
    (each_at file line.addr words))
    (All-weaker (IsJump file (n + 1) lines) (IsJump file n (line ∷ lines)) later (patches_from file (n + 1) lines)
    (jumps file (n + 1) lines (All-tail (IsSiteLine file) line lines h))))
  where
    l : IsSiteLine file line
    l = All-head (IsSiteLine file) line lines h

    words : List ℕ
    words = jump_words (stub_at (text_at file) n) l.site

    first : (p : Patch) → IsWordAt file line.addr words p → IsJump file n (line ∷ lines) p
    first p word = let number : n ≡ n + 0 = omega arith in (
      zero,
      line,
      l.site,
      refl,
      l.at,
      same_words file n (n + 0) line l.site p number word,
    )

    later : (p : Patch) → IsJump file (n + 1) lines p → IsJump file n (line ∷ lines) p
    later p (k, other, s, e, at, word) =
        let number : n + 1 + k ≡ n + suc k = omega arith in
        (suc k, other, s, e, at, same_words file (n + 1 + k) (n + suc k) other s p number word)

-- the patch is among the patches
abbrev pub IsAmong : Patch → List Patch → Type 0
IsAmong q ps = Any (λ p. p ≡ q) ps

among_later : (q p : Patch) (ps : List Patch) → IsAmong q ps → IsAmong q (p ∷ ps)
among_later q p ps (i, x, low, is, e) = (suc i, x, omega (arith, low), is, e)

pub among_front : (q : Patch) (ps rs : List Patch) → IsAmong q ps → IsAmong q (ps ++ rs)
among_front q [] rs (i, x, low, is, e) = absurd (omega (arith, low))
among_front q (p ∷ ps) rs (zero, x, low, is, e) = (zero, x, omega arith, is, e)
among_front q (p ∷ ps) rs (suc i, x, low, is, e) =
    among_later q p (ps ++ rs) (among_front q ps rs (i, x, omega (arith, low), is, e))

pub among_behind : (q : Patch) (ps rs : List Patch) → IsAmong q rs → IsAmong q (ps ++ rs)
among_behind q [] rs h = h
among_behind q (p ∷ ps) rs h = among_later q p (ps ++ rs) (among_behind q ps rs h)

patch_among : (v w place : ℕ) (o : Option ℕ) → o ≡ Some place → v ≡ w
    → IsAmong (record { offset = place; word = w }) (patch_to v o)
patch_among v w place None e same = absurd (cc)
patch_among v w place (Some at) e same =
    let here : at ≡ place = cc in
    let first : Patch = record { offset = at; word = v } in
    let moved : Patch = record { offset = place; word = v } in
    let last : Patch = record { offset = place; word = w } in
    let there : first ≡ moved = ap (λ x. record { offset = x; word = v }) here in
    let word : moved ≡ last = ap (λ x. record { offset = place; word = x }) same in
    (zero, first, omega arith, refl, there ∙ word)

pub among_at : (file : List ℕ) (a : ℕ) (ws : List ℕ) (j w place : ℕ) → slice_get ws j ≡ Some w
    → code_place file (a + 4 * j) ≡ Some place
    → IsAmong (record { offset = place; word = w }) (patches_at file a ws)
among_at file a [] j w place e there = absurd (cc)
among_at file a (v ∷ ws) zero w place e there =
    let same : v ≡ w = cc in
    let none : a + 4 * 0 ≡ a = omega arith in
    let here : code_place file a ≡ Some place = subst (λ x. code_place file x ≡ Some place) none there in
    among_front (record { offset = place; word = w }) (patch_to v (code_place file a)) (patches_at file (a + 4) ws)
    (patch_among v w place (code_place file a) here same)
among_at file a (v ∷ ws) (suc j) w place e there =
    let same : a + 4 * suc j ≡ a + 4 + 4 * j = omega arith in
    among_behind (record { offset = place; word = w }) (patch_to v (code_place file a)) (patches_at file (a + 4) ws)
    (among_at file (a + 4) ws j w place e (subst (λ x. code_place file x ≡ Some place) same there))

jump_among : (file : List ℕ) (n k i w place : ℕ) (lines : List PlanLine) (line : PlanLine) (s : Site)
    → slice_get lines k ≡ Some line → site_at file line.addr ≡ Some s
    → slice_get (jump_words (stub_at (text_at file) (n + k)) s) i ≡ Some w
    → code_place file (line.addr + 4 * i) ≡ Some place
    → IsAmong (record { offset = place; word = w }) (patches_from file n lines)
jump_among file n k i w place [] line s e at f there = absurd (cc)
jump_among file n zero i w place (first ∷ lines) line s e at f there =
    let same : first ≡ line = cc in
    let number : n + 0 ≡ n = omega arith in
    let word : slice_get (jump_words (stub_at (text_at file) n) s) i ≡ Some w =
    subst (λ m. slice_get (jump_words (stub_at (text_at file) m) s) i ≡ Some w) number f in
    subst (λ x. IsAmong (record { offset = place; word = w }) (patches_from file n (x ∷ lines))) (sym same)
    (subst (IsAmong (record { offset = place; word = w })) (sym (patches_step file n line lines s at))
    (among_front (record { offset = place; word = w })
    (patches_at file line.addr (jump_words (stub_at (text_at file) n) s)) (patches_from file (n + 1) lines)
    (among_at file line.addr (jump_words (stub_at (text_at file) n) s) i w place word there)))
jump_among file n (suc k) i w place (first ∷ lines) line s e at f there =
    let number : n + suc k ≡ n + 1 + k = omega arith in
    let word : slice_get (jump_words (stub_at (text_at file) (n + 1 + k)) s) i ≡ Some w =
    subst (λ m. slice_get (jump_words (stub_at (text_at file) m) s) i ≡ Some w) number f in
    among_behind (record { offset = place; word = w })
    (site_patches file (stub_at (text_at file) n) (site_at file first.addr)) (patches_from file (n + 1) lines)
    (jump_among file (n + 1) k i w place lines line s e at word there)

-- each word of a line's jump has its patch
pub has_patch : (file : List ℕ) (plan : Plan) (k i w place : ℕ) (line : PlanLine) (s : Site)
    → slice_get plan.sites k ≡ Some line → site_at file line.addr ≡ Some s
    → slice_get (jump_words (stub_at (text_at file) k) s) i ≡ Some w → code_place file (line.addr + 4 * i) ≡ Some place
    → IsAmong (record { offset = place; word = w }) (patches_for file plan)
has_patch file plan k i w place line s e at f there =
    let number : k ≡ 0 + k = omega arith in
    jump_among file 0 k i w place plan.sites line s e at (subst (λ m. slice_get
    (jump_words (stub_at (text_at file) m) s) i ≡ Some w) number f) there

-- the bytes of words
pub length-word_bytes : (w : ℕ) → length (word_bytes w) ≡ 4
unfolding word_bytes
length-word_bytes w = refl

pub length-words : (ws : List ℕ) → length (flat_map word_bytes ws) ≡ 4 * length ws
length-words [] = refl
length-words (w ∷ ws) = omega (
  arith,
  length-append (word_bytes w) (flat_map word_bytes ws),
  length-word_bytes w,
  length-words ws,
)

-- byte j of word i
pub words_at : (ws : List ℕ) (i j w : ℕ) → slice_get ws i ≡ Some w → j < 4
    → slice_index (flat_map word_bytes ws) (4 * i + j) ≡ slice_index (word_bytes w) j
words_at [] i j w e small = absurd (cc)
words_at (v ∷ ws) zero j w e small =
    let same : v ≡ w = cc in
    let place : 4 * 0 + j ≡ j = omega arith in
    let inside : j < length (word_bytes v) = omega (arith, length-word_bytes v, small) in
    rw place (get_or_append_left (word_bytes v) (flat_map word_bytes ws) 0 j inside
    ∙ ap (λ x. slice_index (word_bytes x) j) same)
words_at (v ∷ ws) (suc i) j w e small =
    let place : 4 * suc i + j - 4 ≡ 4 * i + j = omega arith in
    let past : 4 ≤ 4 * suc i + j = omega arith in
    get_or-append_right (word_bytes v) (flat_map word_bytes ws) 4 (4 * suc i + j) 0 (length-word_bytes v) past
    ∙ (ap (slice_index (flat_map word_bytes ws)) place ∙ words_at ws i j w e small)

-- the bytes of a line's stub
stub_bytes : (file : List ℕ) (at : ℕ) (line : PlanLine) (s : Site) → site_at file line.addr ≡ Some s
    → site_stub at line.bit (site_at file line.addr) ≡ flat_map word_bytes (stub_words at line.bit s.target s.back)
stub_bytes file at line s e = rw e refl

length-stub : (file : List ℕ) (at : ℕ) (line : PlanLine) → IsSiteLine file line
    → length (site_stub at line.bit (site_at file line.addr)) ≡ 44
length-stub file at line l =
    ap length (stub_bytes file at line l.site l.at) ∙ length-words (stub_words at line.bit l.site.target l.site.back)

length-stubs : (file : List ℕ) (n : ℕ) (lines : List PlanLine) → All (IsSiteLine file) lines
    → length (stubs_from file n lines) ≡ 44 * length lines
length-stubs file n [] h = refl
length-stubs file n (line ∷ lines) h =
    omega (
      arith,
      length-append (site_stub (stub_at (text_at file) n) line.bit (site_at file line.addr))
          (stubs_from file (n + 1) lines),
      length-stub file (stub_at (text_at file) n) line (All-head (IsSiteLine file) line lines h),
      length-stubs file (n + 1) lines (All-tail (IsSiteLine file) line lines h),
    )

-- byte j of word i of the stub of line k, where the first line has stub n
stubs_at : (file : List ℕ) (n k i j w : ℕ) (lines : List PlanLine) (line : PlanLine) (s : Site)
    → All (IsSiteLine file) lines
    → slice_get lines k ≡ Some line → site_at file line.addr ≡ Some s
    → slice_get (stub_words (stub_at (text_at file) (n + k)) line.bit s.target s.back) i ≡ Some w
    → i < 11 → j < 4 → slice_index (stubs_from file n lines) (44 * k + 4 * i + j) ≡ slice_index (word_bytes w) j
stubs_at file n k i j w [] line s h e at f few small = absurd (cc)
stubs_at file n zero i j w (first ∷ lines) line s h e at f few small =
    let same : first ≡ line = cc in
    let number : n + 0 ≡ n = omega arith in
    let place : 44 * 0 + 4 * i + j ≡ 4 * i + j = omega arith in
    let stub : List ℕ = site_stub (stub_at (text_at file) n) line.bit (site_at file line.addr) in
    let long : length stub ≡ 44 = length-stub file (stub_at (text_at file) n) line
    (subst (IsSiteLine file) same (All-head (IsSiteLine file) first lines h)) in
    let inside : 4 * i + j < length stub = omega (arith, long, few, small) in
    let there : slice_get (stub_words (stub_at (text_at file) n) line.bit s.target s.back) i ≡ Some w =
    subst (λ m. slice_get (stub_words (stub_at (text_at file) m) line.bit s.target s.back) i ≡ Some w) number f in
    rw (place, same) (get_or_append_left stub (stubs_from file (n + 1) lines) 0 (4 * i + j) inside
    ∙ (ap (λ bs. slice_index bs (4 * i + j)) (stub_bytes file (stub_at (text_at file) n) line s at)
    ∙ words_at (stub_words (stub_at (text_at file) n) line.bit s.target s.back) i j w there small))
stubs_at file n (suc k) i j w (first ∷ lines) line s h e at f few small =
    let number : n + suc k ≡ n + 1 + k = omega arith in
    let place : 44 * suc k + 4 * i + j - 44 ≡ 44 * k + 4 * i + j = omega arith in
    let past : 44 ≤ 44 * suc k + 4 * i + j = omega arith in
    let there : slice_get (stub_words (stub_at (text_at file) (n + 1 + k)) line.bit s.target s.back) i ≡ Some w =
    subst (λ m. slice_get (stub_words (stub_at (text_at file) m) line.bit s.target s.back) i ≡ Some w) number f in
    get_or-append_right (site_stub (stub_at (text_at file) n) first.bit (site_at file first.addr))
    (stubs_from file (n + 1) lines) 44 (44 * suc k + 4 * i + j) 0
    (length-stub file (stub_at (text_at file) n) first (All-head (IsSiteLine file) first lines h)) past
    ∙ (ap (slice_index (stubs_from file (n + 1) lines)) place
    ∙ stubs_at file (n + 1) k i j w lines line s (All-tail (IsSiteLine file) first lines h) e at there few small)

-- the bytes of the text: byte j of word i of stub k
pub text_byte : (file : List ℕ) (plan : Plan) (k i j w : ℕ) (line : PlanLine) (s : Site) → Fits file plan
    → slice_get plan.sites k ≡ Some line → site_at file line.addr ≡ Some s
    → slice_get (stub_words (stub_at (text_at file) k) line.bit s.target s.back) i ≡ Some w → i < 11 → j < 4
    → slice_index (text_for file plan) (16 + 44 * k + 4 * i + j) ≡ slice_index (word_bytes w) j
text_byte file plan k i j w line s fits e at f few small =
    let number : 0 + k ≡ k = omega arith in
    let place : 16 + 44 * k + 4 * i + j - 16 ≡ 44 * k + 4 * i + j = omega arith in
    let past : 16 ≤ 16 + 44 * k + 4 * i + j = omega arith in
    let there : slice_get (stub_words (stub_at (text_at file) (0 + k)) line.bit s.target s.back) i ≡ Some w =
    subst (λ m. slice_get (stub_words (stub_at (text_at file) m) line.bit s.target s.back) i ≡ Some w) (sym number) f in
    get_or-append_right mark (stubs_from file 0 plan.sites) 16 (16 + 44 * k + 4 * i + j) 0 refl past
    ∙ (ap (slice_index (stubs_from file 0 plan.sites)) place
    ∙ stubs_at file 0 k i j w plan.sites line s (site_lines file plan fits) e at there few small)

pub length_text : (file : List ℕ) (plan : Plan) → Fits file plan
    → length (text_for file plan) ≡ 16 + 44 * length plan.sites
length_text file plan fits =
    omega (
      arith,
      length-append mark (stubs_from file 0 plan.sites),
      length-stubs file 0 plan.sites (site_lines file plan fits),
    )

pub few_sites : (file : List ℕ) (plan : Plan) → Fits file plan → length plan.sites ≤ 32
few_sites file plan fits = few 32 plan.sites fits.bits fits.own_bits
