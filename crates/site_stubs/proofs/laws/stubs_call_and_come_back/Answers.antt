use Rattle.site_stubs.proofs.StubLaw as law
use Rattle.site_stubs.proofs.laws.stubs_call_and_come_back.Goals as goal

pub returns : goal.returns
returns c = record { calls = law.calls; returns = law.returns }
