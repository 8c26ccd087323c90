-- Steps, by what the machine alone did.
use Rattle.std.proofs.Common.{◌≡◌, ℕ, List, [], refl, ap, ◌∙◌, arith}
use Rattle.std.specs.Prelude.{Some}
use Rattle.machine_spec.specs.declared.Ending.{Ending}
use Rattle.machine_spec.specs.declared.Ending.TheVariants as ending
use Rattle.flat_spec.specs.Machine.{Machine}
use Rattle.flat_spec.specs.Calls.{Turn}
use Rattle.flat_spec.specs.Turns.{turn}
use Rattle.machine_run.specs.declared.Stepped.{Stepped}
use Rattle.machine_run.specs.declared.Stepped.TheVariants.{Went, Wrote, WantsInput, Exited, Illegal, Fault}
use Rattle.machine_run.specs.Machines.{Asks, Nothing, Input, Output}
use Rattle.machine_run.specs.Steps.{answer_to, paused_by}
use Rattle.flat_machine.specs.Asks.{asks}
use Rattle.flat_machine.specs.Seen.{FlatSeen, between}
use Rattle.flat_machine.specs.Steps.{Called, StepsTo, Pauses}
use Rattle.flat_machine.proofs.Waiting.{wait_of}
use Rattle.flat_machine.proofs.Buffers.{buffer_long}
use Rattle.flat_machine.specs.Paused.{seen_of, IsPaused}

-- where the machine stands after a step
pub step_paused : (s : Stepped) (m new : Machine) (t : Turn) → Called s [] m new t → IsPaused (paused_by s) new
step_paused Went m new t h = tt
step_paused (Wrote len) m new t h = h.1
step_paused (WantsInput len) m new t h = rw h.1 (h.2, omega arith, h.0, h.3)
step_paused (Exited status) m new t h = tt
step_paused (Illegal at) m new t h = tt
step_paused (Fault kind at) m new t h = tt

wants : (a : Asks) (e : Ending) (len : ℕ) → WantsInput len ≡ answer_to a e → a ≡ Input len
wants (Input most) e len h = cc
wants (Output most) e len h = absurd (cc)
wants Nothing ending.Running len h = absurd (cc)
wants Nothing (ending.Exit status) len h = absurd (cc)
wants Nothing (ending.Illegal at) len h = absurd (cc)
wants Nothing (ending.Fault kind at) len h = absurd (cc)

-- a step is a turn, or waits
pub step_turns : (s : Stepped) (input : List ℕ) (m new : Machine) → s ≡ answer_to (asks m) new.ending
    → Called s input m new (turn input m) → StepsTo s input m (seen_of (paused_by s) new)
step_turns Went input m new is h = (refl, (refl, h))
step_turns (Wrote len) input m new is h = (buffer_long new len h.1, (refl, h.0))
step_turns (WantsInput len) input m new is h =
    (wants (asks m) new.ending len is, h.0, rw (h.1, h.0) refl)
step_turns (Exited status) input m new is h = (refl, (refl, h))
step_turns (Illegal at) input m new is h = (refl, (refl, h))
step_turns (Fault kind at) input m new is h = (refl, (refl, h))

-- an answer of an ended machine leaves nothing waiting or written
between_steps : (e : Ending) (m : Machine) → seen_of (paused_by (answer_to Nothing e)) m ≡ between m []
between_steps ending.Running m = refl
between_steps (ending.Exit status) m = refl
between_steps (ending.Illegal at) m = refl
between_steps (ending.Fault kind at) m = refl

pub again_between : (s : Stepped) (m new now : Machine) → m ≡ now → (new ≡ m) × (s ≡ answer_to Nothing m.ending)
    → (seen_of (paused_by s) new ≡ between now []) × (s ≡ answer_to Nothing now.ending)
again_between s m new now e (same, is) =
    let new_is : new ≡ now = same ∙ e in
    let answer_is : s ≡ answer_to Nothing now.ending = is ∙ ap (λ m. answer_to Nothing m.ending) e in
    (rw (answer_is, new_is) (between_steps now.ending now), answer_is)

writes : (a : Asks) (e : Ending) (len : ℕ) → Wrote len ≡ answer_to a e → a ≡ Output len
writes (Input most) e len h = absurd (cc)
writes (Output most) e len h = cc
writes Nothing ending.Running len h = absurd (cc)
writes Nothing (ending.Exit status) len h = absurd (cc)
writes Nothing (ending.Illegal at) len h = absurd (cc)
writes Nothing (ending.Fault kind at) len h = absurd (cc)

-- a step that wrote stood at a write
pub step_wrote : (m new : Machine) (len : ℕ) → Wrote len ≡ answer_to (asks m) new.ending → asks m ≡ Output len
step_wrote m new len h = writes (asks m) new.ending len h

-- what a step leaves beside the machine
pub step_pauses : (s : Stepped) (m : Machine) (new : FlatSeen) → StepsTo s [] m new → Pauses s new
step_pauses Went m new h = (h.1.0, h.0)
step_pauses (Wrote len) m new h = (h.1.0, h.0)
step_pauses (WantsInput len) m new h = ap (λ s. s.waits) h.2 ∙ ap (λ k. Some (wait_of k 0)) h.1
step_pauses (Exited status) m new h = (h.1.0, h.0)
step_pauses (Illegal at) m new h = (h.1.0, h.0)
step_pauses (Fault kind at) m new h = (h.1.0, h.0)
