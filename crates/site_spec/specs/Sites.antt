-- The call sites of an executable. A site is a JAL with rd = ra whose word has a JAL relocation (17),
-- or an AUIPC with rd = ra and behind it a JALR with rd = rs1 = ra, the first of which has a CALL or
-- CALL_PLT relocation (18, 19) (psABI, "Relocations"; x1 is ra). It calls a code word, and none of its
-- words is one of the two words of a heap function.
use Rattle.std.specs.Prelude.{ℕ, ◌+◌, ◌*◌, ◌/◌, ◌==◌, List, [], ◌∷◌, Bool, true, false, not, ◌&&◌, ◌||◌, Option, Some}
use Rattle.std.specs.Prelude.{None, is_some, option_and_then, if◌then◌else◌}
use Rattle.std.specs.List.{list_any, list_all}
use Rattle.rv_isa.specs.declared.Instr.{Instr}
use Rattle.rv_isa.specs.declared.Instr.TheVariants.{Auipc, Jal, Jalr}
use Rattle.rv_isa.specs.Table.{decoded}
use Rattle.elf_spec.specs.Code.{code_word}
use Rattle.elf_spec.specs.Heap.{heap_entries}
use Rattle.elf_spec.specs.Relocations.{relocs_of, has_reloc}
use Rattle.site_spec.specs.declared.Site.{Site}
use Rattle.rv_isa.specs.Addresses.{plus}
use Rattle.site_spec.specs.Places.{text_at, stub_at, reaches}

-- the places of all 32 stubs
abbrev pub stub_numbers : List ℕ
stub_numbers =
    0 ∷ 1 ∷ 2 ∷ 3 ∷ 4 ∷ 5 ∷ 6 ∷ 7 ∷ 8 ∷ 9 ∷ 10 ∷ 11 ∷ 12 ∷ 13 ∷ 14 ∷ 15 ∷ 16 ∷ 17 ∷ 18 ∷ 19 ∷ 20 ∷ 21 ∷ 22 ∷ 23 ∷ 24
    ∷ 25 ∷ 26 ∷ 27 ∷ 28 ∷ 29 ∷ 30 ∷ 31 ∷ []

abbrev pub reaches_all_stubs : List ℕ → ℕ → Bool
reaches_all_stubs file a = list_all (λ k. reaches a (stub_at (text_at file) k)) stub_numbers

-- the call that the instructions at an address and behind it make, where they have their relocation
unfoldable pub call_at : List ℕ → ℕ → Option Instr → Option Instr → Option Site
call_at file a (Some (Jal rd imm)) next =
    if (rd == 1) && has_reloc (relocs_of file) 17 a
    then Some (record { addr = a; target = plus a imm; back = a + 4; pair = false; near = reaches_all_stubs file a })
    else None
call_at file a (Some (Auipc rd imm)) (Some (Jalr rd' rs1 low)) =
    if ((rd == 1) && ((rd' == 1) && (rs1 == 1))) && (has_reloc (relocs_of file) 18 a || has_reloc (relocs_of file) 19 a)
    then Some (record { addr = a; target = plus a (imm + low) / 2 * 2; back = a + 8; pair = true; near = true })
    else None
call_at file a _ _ = None

-- the instruction of a code word
abbrev pub code_at : List ℕ → ℕ → Option Instr
code_at file a = option_and_then decoded (code_word file a)

-- an address is one of the two words of a heap function
abbrev pub is_heap_word : List ℕ → ℕ → Bool
is_heap_word file a = list_any (λ e. (e == a) || (e + 4 == a)) (heap_entries file)

-- the call goes to a code word, and from words that are no heap function's
abbrev pub is_call_of_code : List ℕ → Site → Bool
is_call_of_code file s =
    is_some (code_word file s.target) && (not (is_heap_word file s.addr) &&
    (not s.pair || not (is_heap_word file (s.addr + 4))))

abbrev pub kept_site : List ℕ → Option Site → Option Site
kept_site file (Some s) = if is_call_of_code file s then Some s else None
kept_site file None = None

-- the site at an address
unfoldable pub site_at : List ℕ → ℕ → Option Site
site_at file a = kept_site file (call_at file a (code_at file a) (code_at file (a + 4)))
