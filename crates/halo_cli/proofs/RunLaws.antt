-- What holds of every command that runs a program over input and out.
use Rattle.std.proofs.Common.{◌≡◌, ◌≢◌, ◌⊎◌, inl, inr, ℕ, refl, subst, arith}
use Rattle.endings.specs.declared.endings.Ending.{Ending}
use Rattle.endings.specs.declared.endings.Ending.TheVariants.{Done, Exited, File, Plan, Profile, Memory}
use Rattle.endings.specs.Endings.{status_of}
use Rattle.halo_cli.specs.World.{Outside, World}
use Rattle.halo_cli.specs.Writing.{IsUnmoved, NotesLine}
use Rattle.halo_cli.specs.Runs.{Run, IsCutAtMemory, RunLeaves, RunDone}
use Rattle.halo_cli.proofs.CommandLaws.{IsSilent}

module _ {P : Type 0} (run_of : P → Run) (Loads : P → Type 0) (bound : ℕ) where
  -- at status 0 its program has exited
  pub run_leaves_done : (before now : World) (ending : Ending) → status_of ending ≡ 0 → NotesLine before now ending
      → ending ≢ Done → RunLeaves run_of Loads bound before.outside now.outside ending
      → RunDone run_of Loads bound before now
  run_leaves_done before now Done success line other leaves = absurd (other refl)
  run_leaves_done before now (Exited s n) success line other (inl (load, unmoved)) = absurd load
  run_leaves_done before now (Exited s n) success line other (inr (p, loads, ran)) = (s, n, p, loads, ran, line)
  run_leaves_done before now ending success line other leaves = absurd (omega arith)

  -- a refusal leaves input and out
  pub run_leaves_silent : (before now : Outside) (ending : Ending) → IsSilent ending
      → RunLeaves run_of Loads bound before now ending → IsUnmoved before now
  run_leaves_silent before now ending one (inl (load, unmoved)) = unmoved
  run_leaves_silent before now (File why) one (inr (p, loads, ran)) = absurd ran
  run_leaves_silent before now (Plan why) one (inr (p, loads, ran)) = absurd ran
  run_leaves_silent before now (Profile why) one (inr (p, loads, ran)) = absurd ran
  run_leaves_silent before now ending (inl is) leaves = absurd (omega arith)
  run_leaves_silent before now ending (inr is) leaves = absurd (omega arith)

  -- memory was wanting before the program ran, or while it ran
  pub run_leaves_lacks : (before now : Outside) (ending : Ending) → ending ≡ Memory
      → RunLeaves run_of Loads bound before now ending
      → IsUnmoved before now ⊎ ((p : P) × Loads p × (run_of p).lacks × IsCutAtMemory (run_of p) bound before now)
  run_leaves_lacks before now ending is leaves =
      at (subst (λ e. RunLeaves run_of Loads bound before now e) is leaves)
    where
      at : RunLeaves run_of Loads bound before now Memory
          → IsUnmoved before now ⊎ ((p : P) × Loads p × (run_of p).lacks × IsCutAtMemory (run_of p) bound before now)
      at (inl (load, unmoved)) = inl unmoved
      at (inr (p, loads, (lacked, cut))) = inr (p, loads, lacked, cut)
