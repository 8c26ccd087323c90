-- How a command ends after a run.
use Rattle.std.specs.Prelude.{ℕ, Result, Ok, Err}
use Rattle.machine_run.specs.declared.RunEnd.{RunEnd}
use Rattle.machine_run.specs.declared.RunEnd.TheVariants as end
use Rattle.sym_machine.specs.declared.SymEnd.{SymEnd}
use Rattle.sym_machine.specs.Ends.{run_end}
use Rattle.endings.specs.declared.endings.Ending.{Ending}
use Rattle.endings.specs.declared.endings.Ending.TheVariants.{ReadFault, WriteFault, Memory, Exited, StillRunning}
use Rattle.endings.specs.declared.endings.Ending.TheVariants.{Fault, Illegal}

-- by the answer of a run of at most so many steps
abbrev pub ending_of_run : RunEnd → ℕ → Ending
ending_of_run (end.Exited status steps) bound = Exited status steps
ending_of_run (end.Illegal at steps) bound = Illegal at steps
ending_of_run (end.Fault kind at steps) bound = Fault kind at steps
ending_of_run end.Steps bound = StillRunning bound
ending_of_run end.ReadFault bound = ReadFault
ending_of_run end.WriteFault bound = WriteFault

-- a step of which may lack memory
abbrev pub ending_or_memory : {E : Type 0} → Result RunEnd E → ℕ → Ending
ending_or_memory (Ok end) bound = ending_of_run end bound
ending_or_memory (Err lack) bound = Memory

-- by the answer of a run of the symbol machine
abbrev pub ending_of_symbols : SymEnd → ℕ → Ending
ending_of_symbols end bound = ending_or_memory (run_end end) bound
