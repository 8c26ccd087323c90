-- What stands at an address, as a turn needs it: the word is decoded, and of the site line of a call its
-- bit is a mask.
use Rattle.std.specs.Prelude.{◌≡◌, ℕ, ◌^◌, ◌<◌, ◌==◌, List, Bool, false, All, Option, Some, None, IfSome, is_some}
use Rattle.std.specs.Prelude.{option_map, option_and_then, map, length, slice_get, bit_and, bit_or, ◌-◌}
use Rattle.rv_isa.specs.declared.Instr.{Instr}
use Rattle.rv_isa.specs.Encoded.{NamesRegisters}
use Rattle.rv_isa.specs.Table.{decoded}
use Rattle.elf_spec.specs.Code.{code_word}
use Rattle.plan_core.specs.declared.types.Plan.{Plan}
use Rattle.plan_core.specs.declared.types.PlanLine.{PlanLine}
use Rattle.site_spec.specs.Sites.{site_at}
use Rattle.sym_spec.specs.SymMachine.{line_at, back_index}
use Rattle.sym_spec.specs.SymTurns.{Here, Nothing, Heap, Pair, Code, here}
use Rattle.sym_machine.specs.declared.found.Found.{Found}
use Rattle.sym_machine.specs.declared.found.Found.TheVariants as found
use Rattle.sym_machine.specs.declared.found.Kept.{Kept}
use Rattle.sym_machine.specs.declared.returns.Return.{Return}

-- what contracts see of the code: the file and the plan
pub record HeldCode : Type 0 where
  pub file : List ℕ
  pub plan : Plan

-- the bit of a site line as a mask
abbrev pub mask_of : Option PlanLine → Option ℕ
mask_of line = option_map (λ line. 2 ^ line.bit) line

abbrev pub mask_at : Plan → ℕ → Option ℕ
mask_at plan a = mask_of (line_at plan.sites a)

-- the mask of the line whose call comes back to an address
abbrev pub mask_back : List ℕ → Plan → ℕ → Option ℕ
mask_back file plan a = mask_of (option_and_then (slice_get plan.sites) (back_index file plan.sites a))

-- bits with those of a mask set, and cleared
abbrev pub bits_set : Option ℕ → ℕ → ℕ
bits_set (Some mask) bits = bit_or bits mask
bits_set None bits = bits

abbrev pub bits_cleared : Option ℕ → ℕ → ℕ
bits_cleared (Some mask) bits = bit_and bits (2 ^ 32 - 1 - mask)
bits_cleared None bits = bits

abbrev pub found_of : List ℕ → Plan → ℕ → Here → Found
found_of file plan a Nothing = found.Nothing
found_of file plan a (Heap name) = found.Heap name
found_of file plan a (Pair s) = found.Pair s.target s.back (mask_at plan a)
found_of file plan a (Code w) = found.Word (decoded w) (is_some (site_at file a)) (mask_at plan a)

unfoldable pub found_at : List ℕ → Plan → ℕ → Found
found_at file plan a = found_of file plan a (here file a)

-- the instruction names registers alone that there are
abbrev pub NamesThere : Found → Type 0
NamesThere found.Nothing = Unit {0}
NamesThere (found.Heap name) = Unit {0}
NamesThere (found.Pair target back mask) = Unit {0}
NamesThere (found.Word instr is_site mask) = IfSome instr NamesRegisters

-- the mask with a call, or with a word, which may be one
abbrev pub HasMask : Found → Option ℕ → Type 0
HasMask found.Nothing at = Unit {0}
HasMask (found.Heap name) at = Unit {0}
HasMask (found.Pair target back mask) at = mask ≡ at
HasMask (found.Word instr is_site mask) at = mask ≡ at

-- no heap function
abbrev pub IsNoHeap : Found → Type 0
IsNoHeap found.Nothing = Unit {0}
IsNoHeap (found.Heap name) = ⊥
IsNoHeap (found.Pair target back mask) = Unit {0}
IsNoHeap (found.Word instr is_site mask) = Unit {0}

-- what is kept of an address is what stands there
pub record IsKept (file : List ℕ) (plan : Plan) (k : Kept) : Type 0 where
  pub code : k.is_code ≡ is_some (code_word file k.addr)
  pub found : k.found ≡ found_at file plan k.addr
  pub names : NamesThere k.found

-- it is the code word of an instruction and no site
abbrev pub HasInstr : Found → Instr → Type 0
HasInstr f i = (mask : Option ℕ) × (found.Word (Some i) false mask ≡ f) × NamesRegisters i

abbrev pub IsInstrAt : List ℕ → Plan → ℕ → Instr → Type 0
IsInstrAt file plan a i = HasInstr (found_at file plan a) i

-- where the calls of site lines come back to
abbrev pub return_of : List ℕ → PlanLine → Return
return_of file line = record { back = option_map (λ s. s.back) (site_at file line.addr); mask = 2 ^ line.bit }

abbrev pub is_address : ℕ → Option ℕ → Bool
is_address a (Some back) = back == a
is_address a None = false

abbrev pub comes_to : ℕ → Return → Bool
comes_to a r = is_address a r.back

-- the words that are kept, and the returns of a plan whose bits are below 32
pub record IsCode (file : List ℕ) (plan : Plan) (kept : List Kept) (returns : List Return) : Type 0 where
  pub size : length kept ≡ 16384
  pub each : All (IsKept file plan) kept
  pub returns_are : returns ≡ map (return_of file) plan.sites
  pub bits : All (λ line. line.bit < 32) plan.sites
