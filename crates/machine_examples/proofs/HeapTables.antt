-- Of each heap function the symbol machine's table says what its request by name says: the same argument register,
-- and the action of the same call.
use Rattle.std.proofs.Common.{◌≡◌, refl}
use Rattle.elf_spec.specs.declared.HeapName.{HeapName}
use Rattle.elf_spec.specs.declared.HeapName.TheVariants.{Malloc, Calloc, Realloc, Free, MallocR, CallocR, ReallocR}
use Rattle.elf_spec.specs.declared.HeapName.TheVariants.{FreeR}
use Rattle.heap_spec.specs.Functions.{call_of, form_of}
use Rattle.heap_spec.specs.Requests as requests
use Rattle.heap_spec.specs.Requests.{Call, argument_of}
use Rattle.sym_spec.specs.HeapActions.{Action, function, mallocs, callocs, reallocs, frees}

-- the action of a call
abbrev pub action_of : Call → Action
action_of requests.Malloc = mallocs
action_of requests.Calloc = callocs
action_of requests.Realloc = reallocs
action_of requests.Free = frees

pub same_argument : (name : HeapName) → (function name).argument ≡ argument_of (form_of name)
same_argument Malloc = refl
same_argument Calloc = refl
same_argument Realloc = refl
same_argument Free = refl
same_argument MallocR = refl
same_argument CallocR = refl
same_argument ReallocR = refl
same_argument FreeR = refl

pub same_action : (name : HeapName) → (function name).action ≡ action_of (call_of name)
same_action Malloc = refl
same_action Calloc = refl
same_action Realloc = refl
same_action Free = refl
same_action MallocR = refl
same_action CallocR = refl
same_action ReallocR = refl
same_action FreeR = refl
