use Rattle.heap_trace.proofs.Joining.{stack_is, joined, profiled}
use Rattle.heap_trace.proofs.laws.contexts_are_those_of_the_grants_of_a_run.Goals as goal

pub returns-clause-stack : goal.returns-clause-stack
returns-clause-stack c = λ run n t events traces. stack_is run n t events traces

pub returns-clause-contexts : goal.returns-clause-contexts
returns-clause-contexts c = λ run n t events traces. (joined run n t events traces).contexts_are

pub returns-clause-named : goal.returns-clause-named
returns-clause-named c = λ run n t events traces. (joined run n t events traces).names

pub returns-clause-profiled : goal.returns-clause-profiled
returns-clause-profiled c = λ file area input n distance p h. profiled file area input n distance p h
