use Rattle.std.proofs.Common.{◌≡◌, map}
use Rattle.std.specs.Prelude.{string_bytes}
use Rattle.halo_cli.specs.Options.{place_named}
use Rattle.halo_cli.proofs.Policies.{place_from}
use Rattle.halo_cli.proofs.options.find_policy.Given as goal

abbrev pub invariant-loop-k : goal.invariant-loop-k
invariant-loop-k g l = place_from (λ policy. string_bytes policy.name) l.policies l.name l.k
    ≡ place_named (map (λ policy. string_bytes policy.name) l.policies) l.name
