-- The status of an ending, and its line on note.
use Rattle.std.specs.Prelude.{ℕ, List, [], ◌++◌, codes, decimal}
use Rattle.endings.specs.declared.endings.Ending.{Ending}
use Rattle.endings.specs.declared.endings.Ending.TheVariants.{Done, Usage, File, Plan, Profile, ReadFault, WriteFault}
use Rattle.endings.specs.declared.endings.Ending.TheVariants.{Memory, Exited, StillRunning, Fault, Illegal}
use Rattle.machine_spec.specs.declared.FaultKind.{FaultKind}
use Rattle.machine_spec.specs.declared.FaultKind.TheVariants.{F1, F2, F3, F4, F5, F6}
use Rattle.text_fields.specs.Writing.{hex8}
use Rattle.endings.specs.Texts.{file_text, plan_text, profile_fault_text}

-- the status with which the program ends
abbrev pub status_of : Ending → ℕ
status_of Done = 0
status_of (Exited status steps) = 0
status_of (Usage place) = 64
status_of (File why) = 65
status_of (Plan why) = 66
status_of (Profile why) = 66
status_of ReadFault = 67
status_of WriteFault = 68
status_of Memory = 69
status_of (StillRunning steps) = 70
status_of (Fault kind at steps) = 71
status_of (Illegal at steps) = 72

abbrev pub kind_text : FaultKind → List ℕ
kind_text F1 = codes "F1"
kind_text F2 = codes "F2"
kind_text F3 = codes "F3"
kind_text F4 = codes "F4"
kind_text F5 = codes "F5"
kind_text F6 = codes "F6"

-- the line that says on note how the command ended; nothing where a command that runs no program is done
abbrev pub line_of : Ending → List ℕ
line_of Done = []
line_of (Exited status steps) = codes "exit " ++ decimal status ++ codes " after " ++ decimal steps ++ codes " steps\n"
line_of (Usage place) = codes "halo: usage: word " ++ decimal place ++ codes "\n"
line_of (File why) = codes "halo: file: " ++ file_text why ++ codes "\n"
line_of (Plan why) = codes "halo: plan: " ++ plan_text why ++ codes "\n"
line_of (Profile why) = codes "halo: profile: " ++ profile_fault_text why ++ codes "\n"
line_of ReadFault = codes "halo: read failed\n"
line_of WriteFault = codes "halo: write failed\n"
line_of Memory = codes "halo: out of memory\n"
line_of (StillRunning steps) = codes "halo: still running after " ++ decimal steps ++ codes " steps\n"
line_of (Fault kind at steps) = codes "halo: fault " ++ kind_text kind
    ++ codes " at " ++ hex8 at ++ codes " after " ++ decimal steps ++ codes " steps\n"
line_of (Illegal at steps) = codes "halo: illegal"
    ++ codes " at " ++ hex8 at ++ codes " after " ++ decimal steps ++ codes " steps\n"
