-- The machines in step: a turn of the symbol machine and one turn of the flat machine.
use Rattle.std.proofs.Common.{◌≡◌, ◌≢◌, ℕ, zero, suc, ◌+◌, ◌/◌, ◌%◌, ◌<◌, ◌≤◌, List, length, refl, ap, subst, arith}
use Rattle.std.specs.Prelude.{Option, Some, None}
use Rattle.std.specs.List.{All}
use Rattle.std.proofs.lemmas.List.Elements.{All-cons, All-nil}
use Rattle.rv_isa.specs.declared.Width.{Width}
use Rattle.elf_spec.specs.Memory.{image_end}
use Rattle.elf_spec.specs.Records.{segments_of}
use Rattle.plan_core.specs.declared.types.Plan.{Plan}
use Rattle.machine_spec.specs.Widths.{low_bytes, size_of}
use Rattle.machine_spec.specs.Start.{behind}
use Rattle.flat_spec.specs.Stores as flat_memory
use Rattle.flat_spec.specs.Machine as flat
use Rattle.flat_spec.specs.Machine.{Machine}
use Rattle.sym_value.specs.declared.Value.{Value}
use Rattle.sym_cells.specs.Memory.{Memory, stored}
use Rattle.sym_cells.specs.Region.{StoresAlike}
use Rattle.sym_spec.specs.Plain.{is_plain, is_plain_store}
use Rattle.sym_spec.specs.SymMachine.{SymMachine, gives, passes, stores}
use Rattle.match_spec.specs.Stands.{places_of, back_of, Holds}
use Rattle.match_spec.specs.Matches.{InStep}
use Rattle.match_spec.specs.Keeps.{IsNoFault}
use Rattle.simulation.specs.Ground.{Ground}
use Rattle.simulation.proofs.InMemory.{IsReached, puts_memory}
use Rattle.simulation.proofs.InHeap.{puts_heap}
use Rattle.simulation.proofs.Registers.{put_register}

pub gives_alike : (file : List ℕ) (plan : Plan) (new : List ℕ) (s : SymMachine) (m : Machine) (r : ℕ) (v : Value)
    (w : ℕ)
    → InStep file plan new s m → r < 32 → r ≢ 4 → Holds (places_of file plan s.at) v w
    → InStep file plan new (gives r v s) (flat.gives r w m)
gives_alike file plan new s m r v w h small other holds = record {
  pc = ap behind h.pc;
  ending = h.ending;
  registers =
      put_register (places_of file plan s.at) s.registers m.registers s.bits r v w h.registers small other holds;
  memory = h.memory;
  heap = h.heap;
}

pub passes_alike : (file : List ℕ) (plan : Plan) (new : List ℕ) (s : SymMachine) (m : Machine)
    → InStep file plan new s m → InStep file plan new (passes s) (flat.passes m)
passes_alike file plan new s m h = record {
  pc = ap behind h.pc;
  ending = h.ending;
  registers = h.registers;
  memory = h.memory;
  heap = h.heap;
}

length-low_bytes : (n w : ℕ) → length (low_bytes n w) ≡ n
length-low_bytes zero w = refl
length-low_bytes (suc n) w = ap suc (length-low_bytes n (w / 256))

-- the bytes of a number are bytes
low_are_bytes : (n w : ℕ) → All (λ b. b < 256) (low_bytes n w)
low_are_bytes zero w = All-nil (λ b. b < 256)
low_are_bytes (suc n) w =
    All-cons (λ b. b < 256) (w % 256) (low_bytes n (w / 256)) (omega arith) (low_are_bytes n (w / 256))

-- the store of an instruction
pub stores_alike : (file : List ℕ) (plan : Plan) (new : List ℕ) (s : SymMachine) (m : Machine) (width : Width)
    (at v : Value) (w x : ℕ)
    → Ground file plan new → InStep file plan new s m → Holds (places_of file plan s.at) at w
    → Holds (places_of file plan s.at) v x
    → IsNoFault (stores (stored (is_plain_store file) s.memory width at v) s).ending
    → InStep file plan new (stores (stored (is_plain_store file) s.memory width at v) s)
    (flat.stores (flat_memory.stored m.memory width w x) m)
stores_alike file plan new s m width at v w x g h to holds safe =
    by_memory (stored (is_plain_store file) s.memory width at v) refl safe
  where
    by_memory : (o : Option Memory) → stored (is_plain_store file) s.memory width at v ≡ o
        → IsNoFault (stores o s).ending
        → InStep file plan new (stores o s) (flat.stores (flat_memory.stored m.memory width w x) m)
    by_memory None e safe = absurd safe
    by_memory (Some n) e safe =
        let alike : StoresAlike (back_of file plan) s.at (image_end (segments_of file)) (is_plain file)
        (is_plain_store file)
        m.memory s.memory n width w x =
        g.laws.stores (back_of file plan) s.at (image_end (segments_of file)) (is_plain file)
        (is_plain_store file) m.memory
        s.memory n width at v w x h.memory.laid h.memory.stands to.is holds.is holds.small e in
        let went : (y : ℕ) → w ≤ y → y < w + length (low_bytes (size_of width) x)
        → IsReached file (places_of file plan s.at) s.memory y =
        λ y low high. alike.went y low (subst (λ k. y < w + k) (length-low_bytes (size_of width) x) high) in
        rw alike.there (record {
          pc = ap behind h.pc;
          ending = h.ending;
          registers = h.registers;
          memory = puts_memory file new (places_of file plan s.at) s.memory n m.memory w
              (low_bytes (size_of width) x) g.memory
              h.memory (low_are_bytes (size_of width) x) alike.stands alike.laid alike.lives
              went;
          heap = puts_heap file plan new s.layout s.at s.memory n m.memory w (low_bytes (size_of width) x) g h.memory
              h.heap alike.lives went;
        })
