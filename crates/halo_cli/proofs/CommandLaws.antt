-- What holds of every command: it comes to one ending, and does what the table of statuses says.
use Rattle.std.proofs.Common.{◌≡◌, ◌≤◌, ◌⊎◌, inl, inr, ℕ, List, refl, sym, ap, subst, arith}
use Rattle.halo_outside.specs.Seen.{Contents, FilesSeen}
use Rattle.endings.specs.declared.endings.Ending.{Ending}
use Rattle.endings.specs.declared.endings.Ending.TheVariants.{Done, File, Plan, Profile, ReadFault, Memory, Exited}
use Rattle.endings.specs.Endings.{status_of}
use Rattle.halo_words.specs.Grammar.{Given}
use Rattle.halo_cli.specs.World.{Outside, World}
use Rattle.halo_cli.specs.Reads.{FileRead, AreTold}
use Rattle.halo_cli.specs.Writing.{IsStop, IsUnmoved, NotesLine, WritesOnce, IsWritten}
use Rattle.halo_cli.specs.Entry.{Entry, text_entry}

-- an ending at which something may have been written
abbrev pub MayWrite : Ending → Type 0
MayWrite ending = (status_of ending ≡ 0) ⊎ (70 ≤ status_of ending)

-- the statuses at which input and out are as before
abbrev pub IsSilent : Ending → Type 0
IsSilent ending = (status_of ending ≡ 65) ⊎ (status_of ending ≡ 66)

pub record Laws (entry : Entry) : Type 0 where
  -- what was read of what is told brings it to the ending to which that brings it
  pub due : (given : Given) (contents : Contents) (before now : Outside) (due brought : Ending)
      → AreTold (entry.reads given) before.files contents
      → entry.comes given contents before.input.told due → entry.brings given before now brought → brought ≡ due
  -- where it is started, what is told brings it to no refusal
  pub started : (given : Given) (contents : Contents) (before now : Outside) (due : Ending)
      → AreTold (entry.reads given) before.files contents
      → entry.comes given contents before.input.told due → entry.started given before now → MayWrite due
  -- only told files lack one that is due to be read
  pub lacking : (given : Given) (before now : Outside) → entry.brings given before now ReadFault
      → (contents : Contents) × AreTold (entry.reads given) before.files contents
      × entry.comes given contents before.input.told ReadFault
  -- at status 0 it is done
  pub done : (given : Given) (before now : World) (ending : Ending) → status_of ending ≡ 0 → NotesLine before now ending
      → (ending ≡ Done → now.note ≡ before.note) → entry.brings given before.outside now.outside ending
      → entry.leaves given before.outside now.outside ending → entry.done given before now
  -- a refusal leaves input and out
  pub silent : (given : Given) (before now : Outside) (ending : Ending) → IsSilent ending
      → entry.leaves given before now ending → IsUnmoved before now
  -- and so does want of memory, unless the command says more of it
  pub lacks : (given : Given) (before now : Outside) (ending : Ending) → ending ≡ Memory
      → entry.leaves given before now ending → IsUnmoved before now ⊎ entry.lacks given before now

not_written : (ending : Ending) → IsSilent ending → IsStop ending
not_written (File why) one = (λ e. cc, λ e. cc)
not_written (Plan why) one = (λ e. cc, λ e. cc)
not_written (Profile why) one = (λ e. cc, λ e. cc)
not_written ending (inl is) = absurd (omega arith)
not_written ending (inr is) = absurd (omega arith)

lacking_is_no_write : (ending : Ending) → ending ≡ Memory → IsStop ending
lacking_is_no_write ending is = subst IsStop (sym is) (λ e. cc, λ e. cc)

-- a command that writes one text
module _ (word : List ℕ) (reads : Given → List FileRead) (Comes : Given → Contents → Ending → Type 0)
    (Brings : Given → FilesSeen → FilesSeen → Ending → Type 0)
    (Writes : Given → FilesSeen → FilesSeen → List ℕ → Type 0)
    (due : (given : Given) (contents : Contents) (before now : FilesSeen) (due brought : Ending)
    → AreTold (reads given) before contents → Comes given contents due → Brings given before now brought
    → brought ≡ due)
    (lacks : (given : Given) (before now : FilesSeen) → Brings given before now ReadFault
    → (contents : Contents) × AreTold (reads given) before contents × Comes given contents ReadFault)
    (exits : (given : Given) (before now : FilesSeen) (exit steps : ℕ) → Brings given before now (Exited exit steps)
    → ⊥) where
  text_done : (given : Given) (before now : World) (ending : Ending) → status_of ending ≡ 0
      → (ending ≡ Done → now.note ≡ before.note)
      → Brings given before.outside.files now.outside.files ending
      → WritesOnce (Writes given before.outside.files now.outside.files) before.outside now.outside ending
      → IsWritten (Writes given before.outside.files now.outside.files) before now
  text_done given before now Done success quiet brings leaves = (quiet refl, leaves.input, leaves.done refl)
  text_done given before now (Exited s n) success quiet brings leaves =
      absurd (exits given before.outside.files now.outside.files s n brings)
  text_done given before now ending success quiet brings leaves = absurd (omega arith)

  pub text_laws_by : Laws (text_entry word reads Comes Brings Writes)
  text_laws_by = record {
    due = λ given contents before now expected brought told comes brings.
        due given contents before.files now.files expected brought told comes brings;
    started = λ given contents before now expected told comes started.
        inl (ap status_of (sym (due given contents before.files now.files expected Done told comes started)));
    lacking = λ given before now brings. lacks given before.files now.files brings;
    done = λ given before now ending success line quiet brings leaves.
        text_done given before now ending success quiet brings leaves;
    silent = λ given before now ending one leaves. (leaves.input, leaves.silent (not_written ending one));
    lacks = λ given before now ending is leaves.
        inl (leaves.input, leaves.silent (lacking_is_no_write ending is));
  }

-- one that comes to one ending, to which what was read of what is told brings it
module _ (word : List ℕ) (reads : Given → List FileRead) (Comes : Given → Contents → Ending → Type 0)
    (Brings : Given → FilesSeen → FilesSeen → Ending → Type 0)
    (Writes : Given → FilesSeen → FilesSeen → List ℕ → Type 0)
    (once : (given : Given) (contents : Contents) (a b : Ending) → Comes given contents a → Comes given contents b
    → a ≡ b)
    (told : (given : Given) (contents : Contents) (before now : FilesSeen) (ending : Ending)
    → AreTold (reads given) before contents → Brings given before now ending → Comes given contents ending)
    (lacks : (given : Given) (before now : FilesSeen) → Brings given before now ReadFault
    → (contents : Contents) × AreTold (reads given) before contents × Comes given contents ReadFault)
    (exits : (given : Given) (before now : FilesSeen) (exit steps : ℕ) → Brings given before now (Exited exit steps)
    → ⊥) where
  pub text_laws : Laws (text_entry word reads Comes Brings Writes)
  text_laws = text_laws_by word reads Comes Brings Writes
      (λ given contents before now due brought is comes brings.
      once given contents brought due (told given contents before now brought is brings) comes)
      lacks exits
