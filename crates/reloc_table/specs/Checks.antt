-- What the relocations of a file are refused for, one test a check (gABI, "Relocation"; psABI,
-- "Relocations").
use Rattle.std.specs.Prelude.{ℕ, ◌%◌, ◌==◌, Bool, false, not, ◌&&◌, ◌||◌, List, [], ◌∷◌, Option, Some, None, nat_lt}
use Rattle.std.specs.Prelude.{slice_get}
use Rattle.std.specs.List.{list_any}
use Rattle.elf_spec.specs.declared.Section.{Section}
use Rattle.elf_spec.specs.declared.Reloc.{Reloc}
use Rattle.elf_spec.specs.Code.{is_executable}
use Rattle.elf_spec.specs.Relocations.{is_kept_rela}

abbrev pub is_code : Option Section → Bool
is_code (Some s) = is_executable s
is_code None = false

-- the section has kept entries for an executable section
abbrev pub is_for_code : List Section → Section → Bool
is_for_code sections s = is_kept_rela sections s && is_code (slice_get sections s.info)

-- the section has kept entries, but not whole ones of 12 bytes
abbrev pub has_bad_entries : List Section → Section → Bool
has_bad_entries sections s = is_kept_rela sections s && (not (s.entry_size == 12) || not (s.size % 12 == 0))

-- the symbol is none of so many
abbrev pub is_symbol_out : (symbols : ℕ) → Reloc → Bool
is_symbol_out symbols r = not (nat_lt r.symbol symbols)

-- the relocations of thread-local storage: R_RISCV_TLS_DTPMOD32 and DTPMOD64, DTPREL32 and DTPREL64,
-- TPREL32 and TPREL64; TLS_GOT_HI20, TLS_GD_HI20; TPREL_HI20, TPREL_LO12_I, TPREL_LO12_S, TPREL_ADD
abbrev pub tls_kinds : List ℕ
tls_kinds = 6 ∷ 7 ∷ 8 ∷ 9 ∷ 10 ∷ 11 ∷ 21 ∷ 22 ∷ 29 ∷ 30 ∷ 31 ∷ 32 ∷ []

-- those of compressed code: R_RISCV_RVC_BRANCH, RVC_JUMP and RVC_LUI
abbrev pub compressed_kinds : List ℕ
compressed_kinds = 44 ∷ 45 ∷ 46 ∷ []

abbrev pub is_tls : Reloc → Bool
is_tls r = list_any (λ kind. kind == r.kind) tls_kinds

abbrev pub is_compressed : Reloc → Bool
is_compressed r = list_any (λ kind. kind == r.kind) compressed_kinds

-- an entry of a file with so many symbols is refused
abbrev pub is_bad : (symbols : ℕ) → Reloc → Bool
is_bad symbols r = is_symbol_out symbols r || (is_tls r || is_compressed r)
