-- What stands at an address, found.
use Rattle.std.proofs.Common.{◌≡◌, ℕ, zero, suc, List, true, false, replicate, refl, ap, sym, ◌∙◌}
use Rattle.std.specs.List.{All}
use Rattle.std.proofs.lemmas.List.Elements.{All-cons, All-nil}
use Rattle.std.specs.Prelude.{Bool, Option, Some, None, is_some, if◌then◌else◌}
use Rattle.machine_spec.specs.declared.Ending.{Ending}
use Rattle.machine_spec.specs.declared.Ending.TheVariants.{Running}
use Rattle.elf_spec.specs.declared.HeapName.{HeapName}
use Rattle.elf_spec.specs.Code.{code_word, code_place}
use Rattle.site_spec.specs.declared.Site.{Site}
use Rattle.site_spec.specs.Sites.{site_at}
use Rattle.plan_core.specs.declared.types.Plan.{Plan}
use Rattle.sym_spec.specs.SymMachine.{SymMachine}
use Rattle.sym_spec.specs.SymTurns.{Here, Nothing, Heap, Pair, Code, here, is_second, runs_here, turn_of}
use Rattle.sym_spec.specs.SymTurns.{turn as machine_turn}
use Rattle.sym_spec.specs.SymNotes.{here_note}
use Rattle.sym_spec.specs.HeapActions.{function_at}
use Rattle.rv_isa.specs.declared.Instr.{Instr}
use Rattle.rv_isa.specs.Table.{decoded}
use Rattle.sym_machine.specs.Asks.{asks, asks_here, asks_of as asks_of_ending}
use Rattle.sym_machine.specs.Found.{found_of, found_at, mask_at, HasMask, IsKept}
use Rattle.sym_machine.specs.declared.found.Found.{Found}
use Rattle.sym_machine.specs.declared.found.Found.TheVariants as found
use Rattle.sym_machine.specs.declared.found.Kept.{Kept}
use Rattle.sym_machine.specs.Programs.{Program, turn, turned}
use Rattle.sym_machine.specs.Turning.{runs_found, asks_found, instr_noted, note_found}
use Rattle.sym_spec.specs.SymNotes.{instr_note}

runs_of : (file : List ℕ) (plan : Plan) (a : ℕ) (input : List ℕ) (m : SymMachine) (h : Here)
    → runs_here file plan input h m ≡ runs_found file plan input (found_of file plan a h) m
runs_of file plan a input m Nothing = refl
runs_of file plan a input m (Heap name) = refl
runs_of file plan a input m (Pair s) = refl
runs_of file plan a input m (Code w) = refl

pub runs_at : (file : List ℕ) (plan : Plan) (a : ℕ) (input : List ℕ) (m : SymMachine)
    → runs_here file plan input (here file a) m ≡ runs_found file plan input (found_at file plan a) m
unfolding found_at
runs_at file plan a input m = runs_of file plan a input m (here file a)

asks_of : (file : List ℕ) (plan : Plan) (a : ℕ) (m : SymMachine) (h : Here)
    → asks_here file m h ≡ asks_found file m (found_of file plan a h)
asks_of file plan a m Nothing = refl
asks_of file plan a m (Heap name) = refl
asks_of file plan a m (Pair s) = refl
asks_of file plan a m (Code w) = refl

pub asks_at : (file : List ℕ) (plan : Plan) (a : ℕ) (m : SymMachine)
    → asks_here file m (here file a) ≡ asks_found file m (found_at file plan a)
unfolding found_at
asks_at file plan a m = asks_of file plan a m (here file a)

has_of : (file : List ℕ) (plan : Plan) (a : ℕ) (h : Here) → HasMask (found_of file plan a h) (mask_at plan a)
has_of file plan a Nothing = tt
has_of file plan a (Heap name) = tt
has_of file plan a (Pair s) = refl
has_of file plan a (Code w) = refl

pub has_mask : (file : List ℕ) (plan : Plan) (a : ℕ) → HasMask (found_at file plan a) (mask_at plan a)
unfolding found_at
has_mask file plan a = has_of file plan a (here file a)

-- the note of a word whose place may be a site
note_of_instr : (file : List ℕ) (m : SymMachine) (i : Option Instr) (s : Option Site) → site_at file m.pc ≡ s
    → instr_note file i m ≡ instr_noted file i (is_some s) m
note_of_instr file m (Some i) (Some s) e = rw e refl
note_of_instr file m (Some i) None e = rw e refl
note_of_instr file m None s e = refl

note_of : (file : List ℕ) (plan : Plan) (m : SymMachine) (h : Here)
    → here_note file plan h m ≡ note_found file plan (found_of file plan m.pc h) m
note_of file plan m Nothing = refl
note_of file plan m (Heap name) = refl
note_of file plan m (Pair s) = refl
note_of file plan m (Code w) = note_of_instr file m (decoded w) (site_at file m.pc) refl

pub note_at : (file : List ℕ) (plan : Plan) (m : SymMachine)
    → here_note file plan (here file m.pc) m ≡ note_found file plan (found_at file plan m.pc) m
unfolding found_at
note_at file plan m = note_of file plan m (here file m.pc)

-- what is found, by what stands there
pub found_second : (file : List ℕ) (plan : Plan) (a : ℕ) → is_second file a ≡ true
    → found_at file plan a ≡ found.Nothing
unfolding found_at here
found_second file plan a h = rw h refl

pub found_none : (file : List ℕ) (plan : Plan) (a : ℕ) → is_second file a ≡ false → code_word file a ≡ None
    → found_at file plan a ≡ found.Nothing
unfolding found_at here
found_none file plan a h e = rw (h, e) refl

pub found_heap : (file : List ℕ) (plan : Plan) (a w : ℕ) (name : HeapName) → is_second file a ≡ false
    → code_word file a ≡ Some w → function_at file a ≡ Some name → found_at file plan a ≡ found.Heap name
unfolding found_at here
found_heap file plan a w name h e n = rw (h, e, n) refl

pub found_call : (file : List ℕ) (plan : Plan) (a w : ℕ) (s : Site) → is_second file a ≡ false
    → code_word file a ≡ Some w
    → function_at file a ≡ None → site_at file a ≡ Some s → found_at file plan a
    ≡ (if s.pair then found.Pair s.target s.back (mask_at plan a) else found.Word (decoded w) true (mask_at plan a))
unfolding found_at here
found_call file plan a w s h e n f = rw (h, e, n, f) (by_pair s.pair)
  where
    by_pair : (b : Bool) → found_of file plan a (if b then Pair s else Code w)
        ≡ (if b then found.Pair s.target s.back (mask_at plan a) else found.Word (decoded w) true (mask_at plan a))
    by_pair true = refl
    by_pair false = rw f refl

pub found_word : (file : List ℕ) (plan : Plan) (a w : ℕ) → is_second file a ≡ false → code_word file a ≡ Some w
    → function_at file a ≡ None → site_at file a ≡ None
    → found_at file plan a ≡ found.Word (decoded w) false (mask_at plan a)
unfolding found_at here
found_word file plan a w h e n f = rw (h, e, n, f) (rw f refl)

-- a machine that runs does, asks and notes what was found
pub turn_running : (p : Program) (input : List ℕ) (f : Found) → p.machine.ending ≡ Running
    → f ≡ found_at p.file p.plan p.machine.pc → turn input p ≡ turned p (runs_found p.file p.plan input f p.machine)
unfolding turn machine_turn
turn_running p input f r e =
    ap (turned p) (ap (λ (x : Ending). turn_of p.file p.plan x input p.machine) r
    ∙ runs_at p.file p.plan p.machine.pc input p.machine
    ∙ ap (λ (f : Found). runs_found p.file p.plan input f p.machine) (sym e))

pub asks_running : (p : Program) (f : Found) → p.machine.ending ≡ Running → f ≡ found_at p.file p.plan p.machine.pc
    → asks p ≡ asks_found p.file p.machine f
unfolding asks
asks_running p f r e =
    ap (λ (x : Ending). asks_of_ending p.file p.machine x) r ∙ asks_at p.file p.plan p.machine.pc p.machine
    ∙ ap (λ (f : Found). asks_found p.file p.machine f) (sym e)

-- nothing stands at address 1
pub nothing_kept : (file : List ℕ) (plan : Plan) (k : Kept) → k.addr ≡ 1 → k.is_code ≡ false → k.found ≡ found.Nothing
    → IsKept file plan k
unfolding code_place
nothing_kept file plan k a c f = record {
  code = rw (a, c) refl;
  found = rw (a, f) (by_second (is_second file 1) refl);
  names = rw f tt;
}
  where
    by_second : (b : Bool) → is_second file 1 ≡ b → found.Nothing ≡ found_at file plan 1
    by_second true h = sym (found_second file plan 1 h)
    by_second false h = sym (found_none file plan 1 h refl)

-- and the same at each place of a table
pub all_kept : (file : List ℕ) (plan : Plan) (k : Kept) (n : ℕ) → IsKept file plan k
    → All (IsKept file plan) (replicate n k)
all_kept file plan k zero h = All-nil (IsKept file plan)
all_kept file plan k (suc n) h = All-cons (IsKept file plan) k (replicate n k) h (all_kept file plan k n h)
