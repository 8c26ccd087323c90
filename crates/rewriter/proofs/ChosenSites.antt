-- What a site of an accepted file gives for its jump and its stub.
use Rattle.std.proofs.Common.{◌≡◌, ◌⊎◌, inl, inr, ℕ, ◌+◌, ◌%◌, ◌^◌, ◌<◌, ◌≤◌, true, false, List, Option, Some, is_some}
use Rattle.std.proofs.Common.{refl, sym, ap, ◌∙◌, arith, subst, append-nil, append_assoc}
use Rattle.std.specs.Prelude.{flat_map, ◌++◌}
use Rattle.rv_isa.specs.declared.Instr.TheVariants.{Auipc, Jal, Jalr}
use Rattle.rv_isa.specs.Encoded.{encoded, IsFormed}
use Rattle.rv_isa.specs.Split.{split_of}
use Rattle.elf_spec.specs.declared.Patch.{Patch}
use Rattle.elf_spec.specs.Code.{code_place, code_word}
use Rattle.elf_spec.specs.Memory.{image_end}
use Rattle.elf_spec.specs.Records.{segments_of}
use Rattle.elf_spec.proofs.CodePlaces.{place_of}
use Rattle.site_spec.specs.declared.Site.{Site}
use Rattle.rv_isa.specs.Addresses.{minus}
use Rattle.site_spec.specs.Places.{reaches, text_at, stub_at}
use Rattle.site_spec.specs.Plans.{IsInReach}
use Rattle.plan_core.specs.declared.types.PlanLine.{PlanLine}
use Rattle.new_file_spec.proofs.Jumps.{jump_formed}
use Rattle.new_file_spec.specs.Rewritten.{patch_to, site_patches, site_stub}
use Rattle.new_file_spec.specs.Stubs.{stub_words}
use Rattle.elf_spec.specs.Fields.{word_bytes}
use Rattle.site_spec.specs.Sites.{site_at}
use Rattle.exec_image.specs.Accepted.{AcceptedFacts}

word_aligned : (file : List ℕ) (a : ℕ) → AcceptedFacts file → is_some (code_word file a) ≡ true → a % 4 ≡ 0
word_aligned file a facts h = let (place, e) = place_of file a h in (facts.code a place e).aligned

pub site_addr : (file : List ℕ) (a : ℕ) (s : Site) → AcceptedFacts file → site_at file a ≡ Some s → s.addr ≡ a
site_addr file a s facts h = (facts.sites a s h).addr

pub site_aligned : (file : List ℕ) (a : ℕ) (s : Site) → AcceptedFacts file → site_at file a ≡ Some s → a % 4 ≡ 0
site_aligned file a s facts h = word_aligned file a facts (facts.sites a s h).code

pub site_low : (file : List ℕ) (a : ℕ) (s : Site) → AcceptedFacts file → site_at file a ≡ Some s → s.addr < 2 ^ 31
site_low file a s facts h =
    let (place, e) = place_of file a (facts.sites a s h).code in
    let below : a + 4 ≤ image_end (segments_of file) = facts.code_end a place e in
    let here : s.addr ≡ a = (facts.sites a s h).addr in
    omega (arith, below, facts.end, here)

pub target_aligned : (file : List ℕ) (a : ℕ) (s : Site) → AcceptedFacts file → site_at file a ≡ Some s
    → s.target % 4 ≡ 0
target_aligned file a s facts h = word_aligned file s.target facts (facts.sites a s h).target

pub back_aligned : (file : List ℕ) (a : ℕ) (s : Site) → AcceptedFacts file → site_at file a ≡ Some s → s.back % 4 ≡ 0
back_aligned file a s facts h = behind (facts.sites a s h).back
  where
    even : a % 4 ≡ 0
    even = site_aligned file a s facts h

    behind : (s.back ≡ a + 4) ⊎ (s.back ≡ a + 8) → s.back % 4 ≡ 0
    behind (inl e) = omega (arith, even, e)
    behind (inr e) = omega (arith, even, e)

-- the jump to the stub of a chosen site that is no pair is an instruction
pub formed_jump : (file : List ℕ) (line : PlanLine) (k to : ℕ) (s : Site) → AcceptedFacts file
    → IsInReach file (Some line) k → Some s ≡ site_at file line.addr
    → to ≡ stub_at (text_at file) k → to % 4 ≡ 0 → to < 2 ^ 31 → s.pair ≡ false → IsFormed (Jal 0 (minus to s.addr))
formed_jump file line k to s facts reach e place even low single =
    let h : site_at file line.addr ≡ Some s = sym e in
    let near : reaches line.addr to ≡ true = subst (λ z. reaches line.addr z ≡ true) (sym place) (reach s h single) in
    subst (λ x. IsFormed (Jal 0 (minus to x))) (sym (facts.sites line.addr s h).addr)
    (jump_formed to line.addr low (site_aligned file line.addr s facts h) even near)

-- the one patch of a site that is no pair, and the two of a pair
pub one_patch : (file : List ℕ) (to : ℕ) (s : Site) → s.pair ≡ false
    → site_patches file to (Some s) ≡ patch_to (encoded (Jal 0 (minus to s.addr))) (code_place file s.addr)
one_patch file to s single =
    rw single (append-nil (patch_to (encoded (Jal 0 (minus to s.addr))) (code_place file s.addr)))

pub two_patches : (file : List ℕ) (to : ℕ) (s : Site) (old : List Patch) → s.pair ≡ true
    → (old ++ patch_to (encoded (Auipc 1 (split_of (minus to s.addr)).0)) (code_place file s.addr))
    ++ patch_to (encoded (Jalr 0 1 (split_of (minus to s.addr)).1)) (code_place file (s.addr + 4))
    ≡ old ++ site_patches file to (Some s)
two_patches file to s old double =
    let first : List Patch = patch_to (encoded (Auipc 1 (split_of (minus to s.addr)).0)) (code_place file s.addr) in
    let second : List Patch = patch_to (encoded (Jalr 0 1 (split_of (minus to s.addr)).1))
    (code_place file (s.addr + 4)) in
    append_assoc old first second
    ∙ ap (λ ps. old ++ ps) (ap (λ ps. first ++ ps) (sym (append-nil second)) ∙ rw double refl)

-- the bytes of a site's stub
pub stub_bytes : (old new : List ℕ) (words : List ℕ) (place at bit : ℕ) (o : Option Site) (s : Site)
    → new ≡ old ++ flat_map word_bytes words
    → words ≡ stub_words place bit s.target s.back → place ≡ at → Some s ≡ o → new ≡ old ++ site_stub at bit o
stub_bytes old new words place at bit o s e w p q =
    subst (λ o. new ≡ old ++ site_stub at bit o) q
    (subst (λ a. new ≡ old ++ site_stub a bit (Some s)) p (e ∙ ap (λ ws. old ++ flat_map word_bytes ws) w))

pub ruleset sites = (site_addr, site_low, target_aligned, back_aligned)

pub ruleset jumps = (one_patch, two_patches)
