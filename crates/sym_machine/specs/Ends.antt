-- How a run of the symbol machine ends.
use Rattle.std.specs.Prelude.{Result, Ok, Err, alloc_error}
use Rattle.std.specs.declared.alloc.AllocError.{AllocError}
use Rattle.machine_run.specs.declared.RunEnd.{RunEnd}
use Rattle.machine_run.specs.declared.RunEnd.TheVariants as run
use Rattle.sym_machine.specs.declared.SymEnd.{SymEnd}
use Rattle.sym_machine.specs.declared.SymEnd.TheVariants.{Exited, Illegal, Fault, Steps, ReadFault, WriteFault, Memory}

-- the end as that of a run of any machine, which lacks memory or has an end
abbrev pub run_end : SymEnd → Result RunEnd AllocError
run_end (Exited status steps) = Ok (run.Exited status steps)
run_end (Illegal at steps) = Ok (run.Illegal at steps)
run_end (Fault kind at steps) = Ok (run.Fault kind at steps)
run_end Steps = Ok run.Steps
run_end ReadFault = Ok run.ReadFault
run_end WriteFault = Ok run.WriteFault
run_end Memory = Err alloc_error
