-- What a turn does to the blocks of symbol memory: a heap function grants and releases what its note says,
-- and any other turn keeps all addresses and lives.
use Rattle.std.proofs.Common.{◌≡◌, ℕ, ◌+◌, ◌*◌, ◌/◌, List, [], ◌∷◌, Bool, true, false, cond, map, take, refl, ap, sym}
use Rattle.std.proofs.Common.{◌∙◌}
use Rattle.std.specs.Prelude.{Option, Some, None, is_some, option_map, option_and_then, slice_get, slice_set, ◌==◌}
use Rattle.std.specs.Prelude.{◌&&◌, ◌||◌}
use Rattle.std.specs.List.{sum_by}
use Rattle.std.proofs.lemmas.List.Sums.{sum_by-cons}
use Rattle.std.proofs.lemmas.Option.{get_or_from_slice_get}
use Rattle.std.proofs.Math.Seq.{map-set_same}
use Rattle.rv_isa.specs.declared.Instr.{Instr}
use Rattle.rv_isa.specs.declared.Instr.TheVariants.{Lui, Auipc, Jal, Jalr, Branch, Load, Store, OpImm, Reg, Fence}
use Rattle.rv_isa.specs.declared.Instr.TheVariants.{Ecall, Ebreak}
use Rattle.rv_isa.specs.declared.Width.{Width}
use Rattle.rv_isa.specs.declared.Width.TheVariants.{ByteU}
use Rattle.rv_isa.specs.Addresses.{plus}
use Rattle.elf_spec.specs.Code.{code_word}
use Rattle.plan_core.specs.declared.types.Plan.{Plan}
use Rattle.machine_spec.specs.Calls.{Call, Read, Write, Exits, Brk, Unknown, call_of}
use Rattle.sym_value.specs.declared.Value.{Value}
use Rattle.sym_value.specs.declared.Value.TheVariants.{Num, Ptr, Ret, Mix, Part, Unset}
use Rattle.sym_value.specs.Decisions.{decide}
use Rattle.sym_value.specs.declared.live.Life.{Life}
use Rattle.sym_cells.specs.Moves.{store}
use Rattle.sym_cells.specs.Memory.{Block, Memory, life_of, loaded, store_plain, stored, stored_in}
use Rattle.sym_cells.specs.Buffers.{filled, is_within, stored_each, next_byte, taken}
use Rattle.sym_cells.proofs.Lists.{length-store}
use Rattle.sym_spec.specs.Plain.{is_plain, is_plain_store}
use Rattle.sym_spec.specs.SymMachine.{SymMachine, lives_of, value_of, jumps, links, loads, stores}
use Rattle.sym_spec.specs.SymCalls.{SymTurn, buffer_in, calls, calls_by, calls_with, reads, reads_into, reads_to}
use Rattle.sym_spec.specs.SymCalls.{number_of_value, writes, writes_from, writes_known}
use Rattle.sym_spec.specs.SymTurns.{acts, address_of, branches, executes, jumps_to}
use Rattle.match_spec.specs.Steps.{living}

-- as many addresses, and the blocks live as before
pub record KeepsBlocks (s t : SymMachine) : Type 0 where
  pub at : t.at ≡ s.at
  pub lives : map life_of t.memory.blocks ≡ map life_of s.memory.blocks

-- one of two machines
one_kept : (t : Bool) (s x y : SymMachine) → KeepsBlocks s x → KeepsBlocks s y → KeepsBlocks s (cond t x y)
one_kept true s x y h k = h
one_kept false s x y h k = k

-- a store keeps the blocks
stored_lives : (storable : ℕ → Bool) (m n : Memory) (width : Width) (p v : Value) → stored storable m width p v ≡ Some n
    → map life_of n.blocks ≡ map life_of m.blocks
unfolding stored
stored_lives storable m n width (Num a) v e = at _ e
  where
    at : (t : Bool) → cond t (Some (record m { plain = store_plain width a v m.plain })) None ≡ Some n
        → map life_of n.blocks ≡ map life_of m.blocks
    at true e =
        let same : record m { plain = store_plain width a v m.plain } ≡ n = cc in
        ap (λ (x : Memory). map life_of x.blocks) (sym same)
    at false e = absurd (cc)
stored_lives storable m n width (Ptr b o) v e = at (slice_get m.blocks b) refl e
  where
    in_block : (k : Block) → slice_get m.blocks b ≡ Some k → (t : Bool)
        → option_map (λ l. record m { blocks = slice_set m.blocks b l })
        (cond t (Some (record k { cells = store width o v k.cells })) None) ≡ Some n
        → map life_of n.blocks ≡ map life_of m.blocks
    in_block k q true e =
        let same : record m { blocks = slice_set m.blocks b (record k { cells = store width o v k.cells }) } ≡ n = cc in
        let life : life_of (record k { cells = store width o v k.cells }) ≡ life_of k =
        ap (λ c. record { capacity = 4 * c; lives = k.lives }) (length-store width o v k.cells) in
        ap (λ (x : Memory). map life_of x.blocks) (sym same)
        ∙ map-set_same life_of m.blocks b (record k { cells = store width o v k.cells }) k
        (life ∙ ap life_of (sym (get_or_from_slice_get m.blocks b k k q)))
    in_block k q false e = absurd (cc)

    at : (r : Option Block) → slice_get m.blocks b ≡ r
        → option_map (λ l. record m { blocks = slice_set m.blocks b l }) (stored_in width o v r) ≡ Some n
        → map life_of n.blocks ≡ map life_of m.blocks
    at (Some k) q e = in_block k q _ e
    at None q e = absurd (cc)
stored_lives storable m n width (Ret a) v e = absurd (cc)
stored_lives storable m n width (Mix l) v e = absurd (cc)
stored_lives storable m n width (Part s i) v e = absurd (cc)
stored_lives storable m n width Unset v e = absurd (cc)

-- and so does a read into a buffer
each_lives : (storable : ℕ → Bool) (bs : List ℕ) (p : Value) (m n : Memory) → stored_each storable bs p m ≡ Some n
    → map life_of n.blocks ≡ map life_of m.blocks
each_lives storable [] p m n e =
    let same : m ≡ n = cc in ap (λ (x : Memory). map life_of x.blocks) (sym same)
each_lives storable (b ∷ bs) p m n e =
    at (λ k. each_lives storable bs (next_byte p) k n) (stored storable m ByteU p (Num b)) refl e
  where
    at : ((k : Memory) → stored_each storable bs (next_byte p) k ≡ Some n
        → map life_of n.blocks ≡ map life_of k.blocks)
        → (o : Option Memory) → stored storable m ByteU p (Num b) ≡ o
        → option_and_then (stored_each storable bs (next_byte p)) o ≡ Some n
        → map life_of n.blocks ≡ map life_of m.blocks
    at ih (Some k) q e = ih k e ∙ stored_lives storable m k ByteU p (Num b) q
    at ih None q e = absurd (cc)

filled_lives : (storable : ℕ → Bool) (m n : Memory) (size : ℕ) (bs : List ℕ) (p : Value)
    → filled storable m size bs p ≡ Some n → map life_of n.blocks ≡ map life_of m.blocks
unfolding filled
filled_lives storable m n size bs p e = at (is_within storable m size p) e
  where
    at : (t : Bool) → cond t (stored_each storable bs p m) None ≡ Some n
        → map life_of n.blocks ≡ map life_of m.blocks
    at true e = each_lives storable bs p m n e
    at false e = absurd (cc)

-- system calls
into_keeps : (input : List ℕ) (n : ℕ) (o : Option Memory) (s : SymMachine)
    → ((m : Memory) → o ≡ Some m → map life_of m.blocks ≡ map life_of s.memory.blocks)
    → KeepsBlocks s (reads_into input n o s).next
into_keeps input n (Some m) s h = record { at = refl; lives = h m refl }
into_keeps input n None s h = record { at = refl; lives = refl }

read_keeps : (file input : List ℕ) (n : ℕ) (o : Option Value) (s : SymMachine)
    → KeepsBlocks s (reads_to file input n o s).next
read_keeps file input n (Some p) s =
    into_keeps input n (filled (is_plain_store file) s.memory n (take n input) p) s
    (λ m e. filled_lives (is_plain_store file) s.memory m n (take n input) p e)
read_keeps file input n None s = record { at = refl; lives = refl }

known_keeps : (input : List ℕ) (n : ℕ) (o : Option (List ℕ)) (s : SymMachine)
    → KeepsBlocks s (writes_known input n o s).next
known_keeps input n (Some bytes) s = record { at = refl; lives = refl }
known_keeps input n None s = record { at = refl; lives = refl }

-- one of two turns
one_turn : (t : Bool) (s : SymMachine) (x y : SymTurn) → KeepsBlocks s x.next → KeepsBlocks s y.next
    → KeepsBlocks s (cond t x y).next
one_turn true s x y h k = h
one_turn false s x y h k = k

write_keeps : (file input : List ℕ) (n : ℕ) (o : Option Value) (s : SymMachine)
    → KeepsBlocks s (writes_from file input n o s).next
write_keeps file input n (Some p) s = one_turn (is_within (is_plain file) s.memory n p) s _ _
    (known_keeps input n (taken s.memory n p) s) (record { at = refl; lives = refl })
write_keeps file input n None s = record { at = refl; lives = refl }

reads_keep : (file input : List ℕ) (o : Option ℕ) (s : SymMachine) → KeepsBlocks s (reads file input o s).next
reads_keep file input (Some n) s = read_keeps file input n (buffer_in n (value_of s 11)) s
reads_keep file input None s = record { at = refl; lives = refl }

writes_keep : (file input : List ℕ) (o : Option ℕ) (s : SymMachine) → KeepsBlocks s (writes file input o s).next
writes_keep file input (Some n) s = write_keeps file input n (buffer_in n (value_of s 11)) s
writes_keep file input None s = record { at = refl; lives = refl }

with_keeps : (file input : List ℕ) (call : Call) (o : Option ℕ) (s : SymMachine)
    → KeepsBlocks s (calls_with file input call o s).next
with_keeps file input Read (Some fd) s = one_turn (fd == 0) s _ _
    (reads_keep file input (number_of_value (value_of s 12)) s) (record { at = refl; lives = refl })
with_keeps file input Write (Some fd) s = one_turn ((fd == 1) || (fd == 2)) s _ _
    (writes_keep file input (number_of_value (value_of s 12)) s) (record { at = refl; lives = refl })
with_keeps file input Exits (Some status) s = record { at = refl; lives = refl }
with_keeps file input Brk first s = record { at = refl; lives = refl }
with_keeps file input Unknown first s = record { at = refl; lives = refl }
with_keeps file input Read None s = record { at = refl; lives = refl }
with_keeps file input Write None s = record { at = refl; lives = refl }
with_keeps file input Exits None s = record { at = refl; lives = refl }

call_keeps : (file input : List ℕ) (o : Option ℕ) (s : SymMachine) → KeepsBlocks s (calls_by file input o s).next
call_keeps file input (Some number) s = with_keeps file input (call_of number) (number_of_value (value_of s 10)) s
call_keeps file input None s = record { at = refl; lives = refl }

-- instructions
links_keep : (plan : Plan) (r : ℕ) (s : SymMachine) → KeepsBlocks s (links plan r s)
links_keep plan r s = one_kept (r == 1) s _ _ (record { at = refl; lives = refl }) (record { at = refl; lives = refl })

jumps_keep : (file : List ℕ) (plan : Plan) (r target : ℕ) (s : SymMachine) → KeepsBlocks s (jumps file plan r target s)
jumps_keep file plan r target s = one_kept (is_some (code_word file target)) s _ _
    (record { at = (links_keep plan r s).at; lives = (links_keep plan r s).lives })
    (record { at = refl; lives = refl })

to_keeps : (file : List ℕ) (plan : Plan) (rd imm : ℕ) (v : Value) (s : SymMachine)
    → KeepsBlocks s (jumps_to file plan rd imm v s)
to_keeps file plan rd imm (Num v) s = jumps_keep file plan rd (plus v imm / 2 * 2) s
to_keeps file plan rd imm (Ret back) s = one_kept ((rd == 0) && (imm == 0)) s _ _
    (record { at = refl; lives = refl }) (record { at = refl; lives = refl })
to_keeps file plan rd imm (Ptr b o) s = record { at = refl; lives = refl }
to_keeps file plan rd imm (Mix l) s = record { at = refl; lives = refl }
to_keeps file plan rd imm (Part p i) s = record { at = refl; lives = refl }
to_keeps file plan rd imm Unset s = record { at = refl; lives = refl }

branches_keep : (file : List ℕ) (o : Option Bool) (target : ℕ) (s : SymMachine)
    → KeepsBlocks s (branches file o target s)
branches_keep file (Some true) target s = one_kept (is_some (code_word file target)) s _ _
    (record { at = refl; lives = refl }) (record { at = refl; lives = refl })
branches_keep file (Some false) target s = record { at = refl; lives = refl }
branches_keep file None target s = record { at = refl; lives = refl }

loads_keep : (r : ℕ) (o : Option Value) (s : SymMachine) → KeepsBlocks s (loads r o s)
loads_keep r (Some v) s = record { at = refl; lives = refl }
loads_keep r None s = record { at = refl; lives = refl }

stores_keep : (o : Option Memory) (s : SymMachine)
    → ((m : Memory) → o ≡ Some m → map life_of m.blocks ≡ map life_of s.memory.blocks) → KeepsBlocks s (stores o s)
stores_keep (Some m) s h = record { at = refl; lives = h m refl }
stores_keep None s h = record { at = refl; lives = refl }

acts_keep : (file : List ℕ) (plan : Plan) (i : Instr) (s : SymMachine) → KeepsBlocks s (acts file plan i s)
unfolding acts
acts_keep file plan (Lui rd imm) s = record { at = refl; lives = refl }
acts_keep file plan (Auipc rd imm) s = record { at = refl; lives = refl }
acts_keep file plan (Jal rd imm) s = jumps_keep file plan rd (plus s.pc imm) s
acts_keep file plan (Jalr rd rs1 imm) s = to_keeps file plan rd imm (value_of s rs1) s
acts_keep file plan (Branch c rs1 rs2 imm) s =
    branches_keep file (decide (lives_of file s) c (value_of s rs1) (value_of s rs2)) (plus s.pc imm) s
acts_keep file plan (Load width rd rs1 imm) s =
    loads_keep rd (loaded (is_plain file) s.memory width (address_of file s rs1 imm)) s
acts_keep file plan (Store width rs1 rs2 imm) s =
    stores_keep (stored (is_plain_store file) s.memory width (address_of file s rs1 imm) (value_of s rs2)) s
    (λ m e. stored_lives (is_plain_store file) s.memory m width (address_of file s rs1 imm) (value_of s rs2) e)
acts_keep file plan (OpImm op rd rs1 imm) s = record { at = refl; lives = refl }
acts_keep file plan (Reg op rd rs1 rs2) s = record { at = refl; lives = refl }
acts_keep file plan (Fence rest) s = record { at = refl; lives = refl }
acts_keep file plan Ecall s = record { at = refl; lives = refl }
acts_keep file plan Ebreak s = record { at = refl; lives = refl }

pub executes_keep : (file : List ℕ) (plan : Plan) (input : List ℕ) (o : Option Instr) (s : SymMachine)
    → KeepsBlocks s (executes file plan input o s).next
unfolding calls
executes_keep file plan input (Some Ecall) s = call_keeps file input (number_of_value (value_of s 17)) s
executes_keep file plan input None s = record { at = refl; lives = refl }
executes_keep file plan input (Some i) s = acts_keep file plan i s

-- how many blocks live, told from their lives
by_lives : (blocks : List Block) → sum_by (λ (k : Block). cond k.lives 1 0) blocks
    ≡ sum_by (λ (l : Life). cond l.lives 1 0) (map life_of blocks)
by_lives [] = refl
by_lives (k ∷ blocks) =
    sum_by-cons (λ (k : Block). cond k.lives 1 0) k blocks
    ∙ (ap (λ n. cond k.lives 1 0 + n) (by_lives blocks)
    ∙ sym (sum_by-cons (λ (l : Life). cond l.lives 1 0) (life_of k) (map life_of blocks)))

pub as_many_live : (s t : SymMachine) → map life_of t.memory.blocks ≡ map life_of s.memory.blocks
    → living t ≡ living s
as_many_live s t h =
    by_lives t.memory.blocks ∙ (ap (sum_by (λ (l : Life). cond l.lives 1 0)) h ∙ sym (by_lives s.memory.blocks))
