use Rattle.std.proofs.Common.{sym, map}
use Rattle.std.specs.Prelude.{string_bytes}
use Rattle.std.specs.Str.{bytes_eq}
use Rattle.std.proofs.lemmas.Iterator.Adapters.{position_from-zero}
use Rattle.halo_cli.proofs.options.find_policy.Goals as goal

pub loop-k-init : goal.loop-k-init
loop-k-init g c = sym (position_from-zero (λ other. bytes_eq other c.args.name.now)
    (map (λ policy. string_bytes policy.name) c.args.policies.now))
