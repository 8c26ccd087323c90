-- Stubs in memory, and the way back through one.
use Rattle.std.proofs.Common.{◌≡◌, ℕ, ◌+◌, ◌-◌, ◌*◌, ◌%◌, ◌^◌, ◌<◌, ◌≤◌, List, length, length-set, refl, ◌∙◌, subst}
use Rattle.std.proofs.Common.{arith, get_or}
use Rattle.std.specs.Prelude.{Option, Some, None, slice_set, slice_get, slice_index, option_and_then, bit_and}
use Rattle.std.specs.Int.Bits.{and_lt}
use Rattle.std.proofs.lemmas.Option.{slice_get-get_or, slice_get_within, get_or_from_slice_get}
use Rattle.plan_core.specs.declared.types.Plan.{Plan}
use Rattle.plan_core.specs.declared.types.PlanLine.{PlanLine}
use Rattle.site_spec.specs.declared.Site.{Site}
use Rattle.rv_isa.specs.Addresses.{plus}
use Rattle.site_spec.specs.Places.{text_at, stub_at, text_room}
use Rattle.site_spec.specs.Sites.{site_at}
use Rattle.new_file_spec.specs.Stubs.{stub_words}
use Rattle.machine_spec.specs.declared.Ending.TheVariants.{Running}
use Rattle.machine_spec.specs.Memory.{Range}
use Rattle.machine_spec.specs.Start.{behind}
use Rattle.flat_spec.specs.Stores.{fetched}
use Rattle.flat_spec.specs.Machine.{Machine, register}
use Rattle.sym_value.specs.Standing.{IsReturn}
use Rattle.sym_cells.specs.Memory.{Memory}
use Rattle.sym_spec.specs.SymMachine.{SymMachine, clear_bit, back_index}
use Rattle.match_spec.specs.Stands.{back_of, Places, places_of}
use Rattle.match_spec.specs.Parts.{InMemory}
use Rattle.match_spec.specs.Matches.{InStep}
use Rattle.simulation.specs.Ground.{Ground}
use Rattle.simulation.proofs.Backs.{BackLine, back_line}
use Rattle.simulation.proofs.Registers.{zero_unread}
use Rattle.simulation.proofs.Following.{fetch_text}
use Rattle.site_stubs.specs.StubRuns.{GoesBack, GoesTo, RunsAt, StandAt}

pub stub_room : (file : List ℕ) (plan : Plan) (new : List ℕ) (k : ℕ) → Ground file plan new → k < length plan.sites
    → (text_at file ≤ stub_at (text_at file) k) × (stub_at (text_at file) k + 44 ≤ text_at file + text_room) ×
    (stub_at (text_at file) k + 44 < 2 ^ 31) × (stub_at (text_at file) k % 4 ≡ 0)
stub_room file plan new k g below =
    let low : text_at file + text_room ≤ 0x7FF00000 = g.memory.low_text in
    let few : length plan.sites ≤ 32 = g.few in
    let aligned : text_at file % 4 ≡ 0 = g.aligned_text in
    (omega arith, omega (arith, few, below), omega (arith, low, few, below), omega (arith, aligned))

-- a word of a stub is fetched
pub stub_word : (file : List ℕ) (plan : Plan) (new : List ℕ) (places : Places) (held : Memory) (memory : List Range)
    (k i w : ℕ) (line : PlanLine) (s : Site) → Ground file plan new
    → InMemory file new places held memory → slice_get plan.sites k ≡ Some line → site_at file line.addr ≡ Some s
    → i < 11
    → slice_get (stub_words (stub_at (text_at file) k) line.bit s.target s.back) i ≡ Some w
    → fetched memory (stub_at (text_at file) k + 4 * i) ≡ Some w
stub_word file plan new places held memory k i w line s g h there site small e =
    let room : (text_at file ≤ stub_at (text_at file) k) ×
    (stub_at (text_at file) k + 44 ≤ text_at file + text_room) × (stub_at (text_at file) k + 44 < 2 ^ 31) ×
    (stub_at (text_at file) k % 4 ≡ 0)
    = stub_room file plan new k g (slice_get_within plan.sites k line there) in
    fetch_text file new places held memory (stub_at (text_at file) k + 4 * i) h (omega (arith, room.0))
    (omega (arith, room.1, small)) ∙ g.stub k i w line s there site e

-- a word below 2^32 is itself as an address
pub place_is : (at n : ℕ) → at + n < 2 ^ 32 → at + n ≡ plus at n
place_is at n small = omega (arith, small)

-- the stub of a site line stands in memory
pub stub_stands : (file : List ℕ) (plan : Plan) (new : List ℕ) (places : Places) (held : Memory) (memory : List Range)
    (k : ℕ) (line : PlanLine) (s : Site) → Ground file plan new
    → InMemory file new places held memory → slice_get plan.sites k ≡ Some line → site_at file line.addr ≡ Some s
    → StandAt memory (stub_at (text_at file) k) (stub_words (stub_at (text_at file) k) line.bit s.target s.back)
stub_stands file plan new places held memory k line s g h there site i below =
    let at : ℕ = stub_at (text_at file) k in
    let room : (text_at file ≤ at) × (at + 44 ≤ text_at file + text_room) × (at + 44 < 2 ^ 31) × (at % 4 ≡ 0) =
    stub_room file plan new k g (slice_get_within plan.sites k line there) in
    let small : i < 11 = below in
    subst (λ a. fetched memory a ≡ Some (slice_index (stub_words at line.bit s.target s.back) i))
    (place_is at (4 * i) (omega (arith, room.2, small)))
    (stub_word file plan new places held memory k i
    (slice_index (stub_words at line.bit s.target s.back) i) line s g h there site small
    (slice_get-get_or (stub_words at line.bit s.target s.back) i 0 below))

-- the line of a plan has a bit below 32
pub line_bit : (file : List ℕ) (plan : Plan) (new : List ℕ) (k : ℕ) (line : PlanLine) → Ground file plan new
    → slice_get plan.sites k ≡ Some line → line.bit < 32
line_bit file plan new k line g there =
    let value : get_or plan.sites k line ≡ line = get_or_from_slice_get plan.sites k line line there in
    subst (λ l. l.bit < 32) value (g.fits.bits k line (slice_get_within plan.sites k line there))

pub chosen_stub : (file : List ℕ) (plan : Plan) (a k : ℕ) → back_index file plan.sites a ≡ Some k
    → back_of file plan a ≡ stub_at (text_at file) k + 20
unfolding back_of
chosen_stub file plan a k e = rw e refl

-- where a call comes back to that isn't chosen
pub unchosen_back : (file : List ℕ) (plan : Plan) (a : ℕ) → back_index file plan.sites a ≡ None
    → back_of file plan a ≡ a
unfolding back_of
unchosen_back file plan a e = rw e refl

-- a machine that came back to the stub of a chosen site goes on to the return address
pub stub_back : (file : List ℕ) (plan : Plan) (new : List ℕ) (places : Places) (held : Memory) (from : Machine)
    (bits back k : ℕ) (input output : List ℕ) → Ground file plan new → InMemory file new places held from.memory
    → from.ending ≡ Running → from.pc ≡ back_of file plan back → length from.registers ≡ 32
    → register from 4 ≡ bits → IsReturn back → back_index file plan.sites back ≡ Some k
    → GoesTo 6 from input output back
    (clear_bit (option_and_then (slice_get plan.sites) (back_index file plan.sites back)) bits)
stub_back file plan new places held from bits back k input output g h run pc long four is e =
    let line : BackLine file plan.sites back k = back_line file plan.sites back k e in
    let at : ℕ = stub_at (text_at file) k in
    let room : (text_at file ≤ at) × (at + 44 ≤ text_at file + text_room) × (at + 44 < 2 ^ 31) × (at % 4 ≡ 0) =
    stub_room file plan new k g line.below in
    let here : RunsAt from (plus at 20) at (stub_words at line.line.bit line.site.target line.site.back) = record {
      ending = run;
      pc = pc ∙ (chosen_stub file plan back k e ∙ place_is at 20 (omega (arith, room.2)));
      registers = long;
      words = stub_stands file plan new places held from.memory k line.line line.site g h line.there line.at;
    } in
    let to : line.site.back ≡ back = line.back in
    let goes : GoesBack line.line.bit line.site.back from input output =
    g.laws.stub_returns at line.line.bit line.site.target line.site.back
    (line_bit file plan new k line.line g line.there)
    (rw to is.0) (rw to is.1) from input output here in
    rw (e, line.there)
    (subst (λ b. GoesTo 6 from input output b (bit_and bits (2 ^ 32 - 1 - 2 ^ line.line.bit))) to
    (subst (λ w. GoesTo 6 from input output line.site.back
    (bit_and w (2 ^ 32 - 1 - 2 ^ line.line.bit))) four goes.reaches))

-- a jump back to the return address of a chosen site
pub chosen_back : (file : List ℕ) (plan : Plan) (new : List ℕ) (s : SymMachine) (m : Machine) (back k : ℕ)
    (input output : List ℕ) → Ground file plan new
    → InStep file plan new s m → s.ending ≡ Running → IsReturn back → back_index file plan.sites back ≡ Some k
    → GoesTo 6 (record m { registers = slice_set m.registers 0 (behind m.pc); pc = back_of file plan back }) input
    output back
    (clear_bit (option_and_then (slice_get plan.sites) (back_index file plan.sites back)) s.bits)
chosen_back file plan new s m back k input output g h run is e =
    stub_back file plan new (places_of file plan s.at) s.memory
    (record m { registers = slice_set m.registers 0 (behind m.pc); pc = back_of file plan back }) s.bits back k input
    output g h.memory (h.ending ∙ run) refl (length-set m.registers 0 (behind m.pc) ∙ h.registers.long)
    (zero_unread m.registers (behind m.pc) 4 ∙ h.registers.bits_there) is e

-- the bits stay a word where one is cleared
pub cleared_small : (lines : List PlanLine) (o : Option ℕ) (bits : ℕ) → bits < 2 ^ 32
    → clear_bit (option_and_then (slice_get lines) o) bits < 2 ^ 32
cleared_small lines o bits small = at (option_and_then (slice_get lines) o)
  where
    at : (p : Option PlanLine) → clear_bit p bits < 2 ^ 32
    at (Some line) = and_lt 32 bits (2 ^ 32 - 1 - 2 ^ line.bit) small (omega arith)
    at None = small
