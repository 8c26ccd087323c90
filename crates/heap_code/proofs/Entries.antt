-- From an entry of the words to ra: where the function looks at the bits they go to t0, its fragment is
-- run, and the machine returns.
use Rattle.std.proofs.Common.{◌≡◌, ℕ, ◌+◌, ◌*◌, ◌/◌, ◌%◌, ◌^◌, ◌<◌, ◌≤◌, List, [], ◌∷◌, true, length, refl, ap, ◌∙◌}
use Rattle.std.proofs.Common.{subst, arith}
use Rattle.std.specs.Prelude.{Some, ◌==◌, slice_set}
use Rattle.std.proofs.lemmas.List.{length-map}
use Rattle.std.proofs.lemmas.Bool.Decides.{nat_tests}
use Rattle.rv_isa.specs.declared.Op.TheVariants.{Add}
use Rattle.rv_isa.specs.declared.Instr.{Instr}
use Rattle.rv_isa.specs.declared.Instr.TheVariants as rv
use Rattle.rv_isa.specs.Addresses.{plus}
use Rattle.rv_isa.specs.Compute.{computed}
use Rattle.rv_isa.specs.Encoded.{encoded, IsFormed}
use Rattle.rv_isa.specs.Table.{decoded}
use Rattle.machine_spec.specs.Start.{behind}
use Rattle.flat_spec.specs.Machine.{Machine, register}
use Rattle.flat_spec.specs.Machine as flat
use Rattle.flat_spec.specs.Calls.{quiet}
use Rattle.flat_spec.specs.Turns.{executes, acts}
use Rattle.flat_spec.specs.Runs.{steps}
use Rattle.frag_code.specs.Fragments.{Fragment}
use Rattle.frag_code.specs.Forms as forms
use Rattle.frag_code.specs.Forms.{is_target}
use Rattle.frag_code.specs.Code.{instructions_of, code_of}
use Rattle.frag_code.specs.Meaning.{View, Rights, with_register, frag_run}
use Rattle.frag_code.specs.Machines.{StandsAt, IsWordAt, HasRights}
use Rattle.flat_spec.proofs.Runs.{more_steps, one_step}
use Rattle.frag_code.proofs.Steps.{state, step_quiet}
use Rattle.frag_code.proofs.OnWay.{OnWay, turn_at, way_gives, way_jumps}
use Rattle.frag_code.proofs.Moves.{Moves}
use Rattle.frag_code.proofs.Acts as code
use Rattle.frag_code.proofs.Acts.{Gets, stands_front, stands_back}
use Rattle.frag_rules.proofs.Values.{add_is}
use Rattle.heap_code.specs.Words.{entry_words, returning_words}

-- what the two instructions round a function do
moves_is : (input : List ℕ) (m : Machine) (rd rs imm : ℕ)
    → executes input (Some (rv.OpImm Add rd rs imm)) m
    ≡ quiet input (flat.gives rd (computed Add (register m rs) imm) m)
unfolding acts
moves_is input m rd rs imm = refl

returns_is : (input : List ℕ) (m : Machine) (ra : ℕ) → register m 1 ≡ ra → ra < 2 ^ 32 → ra % 4 ≡ 0
    → executes input (Some (rv.Jalr 0 1 0)) m
    ≡ quiet input (record m { registers = slice_set m.registers 0 (behind m.pc); pc = ra % 2 ^ 32 })
unfolding acts
returns_is input m ra e small aligned =
    let target : plus (register m 1) 0 / 2 * 2 ≡ ra % 2 ^ 32 = omega (arith, e, small, aligned) in
    let test : (ra % 2 ^ 32 % 4 == 0) ≡ true = (let z : ra % 2 ^ 32 % 4
    ≡ 0 = omega (arith, small, aligned) in grind (arith, nat_tests)) in
    rw (target, test) refl

-- so many steps lead to ra
pub record Comes (g : Rights) (start : Machine) (input output : List ℕ) (ra : ℕ)
    (s : View) (spent : ℕ) (m : Machine) : Type 0 where
  pub after : Machine
  pub count : ℕ
  pub some : 0 < count
  pub bound : count + spent ≤ s.spent
  pub run : steps count (state m input output) ≡ state after input output
  pub way : OnWay g start ra s after

module _ (decodes : (i : Instr) → IsFormed i → decoded (encoded i) ≡ Some i)
    (g : Rights) (start : Machine) (input output : List ℕ)
    (given : HasRights start.memory g) where
  -- a register becomes another
  pub move_to : (at rd rs v : ℕ) (s : View) (m : Machine) → OnWay g start at s m
      → IsWordAt start.memory (at % 2 ^ 32) (encoded (rv.OpImm Add rd rs 0)) → is_target rd ≡ true → rd < 32 → rs < 32
      → register m rs ≡ v → v < 2 ^ 32 → Moves g start (at + 4) (with_register rd v s) m input output
  move_to at rd rs v s m way stands target low source e small =
      let value : computed Add (register m rs) 0 ≡ v = add_is (register m rs) 0 v (omega (arith, e)) small in
      record {
        next = flat.gives rd v m;
        is = step_quiet input output m (flat.gives rd v m)
            (turn_at decodes g start at (rv.OpImm Add rd rs 0) s m input given way stands
            (low, source, record { word = omega arith; sign = omega arith })
            ∙ (moves_is input m rd rs 0 ∙ ap (λ x. quiet input (flat.gives rd x m)) value));
        way = way_gives g start at rd v s m way target;
      }

  -- the jump to ra
  pub jump_back : (at ra : ℕ) (s : View) (m : Machine) → OnWay g start at s m
      → IsWordAt start.memory (at % 2 ^ 32) (encoded (rv.Jalr 0 1 0)) → register start 1 ≡ ra → ra < 2 ^ 32 → ra % 4 ≡ 0
      → Moves g start ra s m input output
  jump_back at ra s m way stands e small aligned = record {
    next = record m { registers = slice_set m.registers 0 (behind m.pc); pc = ra % 2 ^ 32 };
    is = step_quiet input output m (record m { registers = slice_set m.registers 0 (behind m.pc); pc = ra % 2 ^ 32 })
        (turn_at decodes g start at (rv.Jalr 0 1 0) s m input given way stands
        (omega arith, omega arith, record { word = omega arith; sign = omega arith })
        ∙ returns_is input m ra (way.others 1 refl ∙ e) small aligned);
    way = way_jumps g start at ra (behind m.pc) s m way;
  }

  -- one step before
  pub comes_then : (ra : ℕ) (s : View) (spent at next : ℕ) (before : View) (m : Machine)
      → (first : Moves g start at before m input output)
      → spent < next → Comes g start input output ra s next first.next
      → Comes g start input output ra s spent m
  comes_then ra s spent at next before m first less rest = record {
    after = rest.after;
    count = rest.count + 1;
    some = omega arith;
    bound = let b = rest.bound in omega (arith, b, less);
    run = more_steps rest.count 1 (state m input output)
        ∙ (ap (steps rest.count) (one_step (state m input output) ∙ first.is) ∙ rest.run);
    way = rest.way;
  }

  pub function_comes : (f : Fragment) → forms.IsFormed f → (w at ra spent : ℕ) (s s' : View) (m : Machine)
      → spent < s.spent → OnWay g start at s m
      → StandsAt start.memory at (returning_words f) → register start 1 ≡ ra → ra < 2 ^ 32 → ra % 4 ≡ 0
      → frag_run g f w s ≡ Some s' → Comes g start input output ra s' spent m
  function_comes f formed w at ra spent s s' m less way stands e small aligned run =
      let long : length (code_of f) ≡ length (instructions_of f) = length-map (instructions_of f) encoded in
      let body : Gets g start (at + 4 * length (instructions_of f)) s' s.spent m input output =
      code.acts decodes g start given input output f w at (at + 4 * length (instructions_of f)) s
      s' m formed.fields formed.size refl
      (stands_front start.memory at (code_of f) (encoded (rv.Jalr 0 1 0) ∷ []) stands) run way in
      let last : IsWordAt start.memory ((at + 4 * length (instructions_of f)) % 2 ^ 32) (encoded (rv.Jalr 0 1 0)) =
      subst (λ n. IsWordAt start.memory ((at + 4 * n) % 2 ^ 32) (encoded (rv.Jalr 0 1 0))) long
      (stands_back start.memory at (code_of f) (encoded (rv.Jalr 0 1 0) ∷ []) stands).0 in
      let out : Moves g start ra s' body.after input output =
      jump_back (at + 4 * length (instructions_of f)) ra s' body.after body.way last e small aligned in
      record {
        after = out.next;
        count = 1 + body.count;
        some = omega arith;
        bound = let b = body.bound in omega (arith, b, less);
        run = more_steps 1 body.count (state m input output)
            ∙ (ap (steps 1) body.run ∙ (one_step (state body.after input output) ∙ out.is));
        way = out.way;
      }

  pub entry_comes : (f : Fragment) → forms.IsFormed f → (w at ra : ℕ) (s s' : View) (m : Machine) → OnWay g start at s m
      → StandsAt start.memory at (entry_words f) → register start 4 < 2 ^ 32
      → register start 1 ≡ ra → ra < 2 ^ 32 → ra % 4 ≡ 0
      → frag_run g f w (with_register 5 (register start 4) s) ≡ Some s' → Comes g start input output ra s' s.spent m
  entry_comes f formed w at ra s s' m way stands bits e small aligned run =
      let first : Moves g start (at + 4) (with_register 5 (register start 4) s) m input output =
      move_to at 5 4 (register start 4) s m way stands.0 refl (omega arith) (omega arith) (way.others 4 refl) bits in
      comes_then ra s' s.spent (at + 4) (s.spent + 1) (with_register 5 (register start 4) s) m first (omega arith)
      (function_comes f formed w (at + 4) ra (s.spent + 1) (with_register 5 (register start 4) s) s' first.next
      (omega arith) first.way stands.1 e small aligned run)
