-- Reads that are fed from a source.
use Rattle.std.proofs.Common.{◌≡◌, ℕ, zero, suc, ◌+◌, ◌<◌, ◌≤◌, List, [], ◌∷◌, ◌++◌, length, take, drop, refl, ap, sym}
use Rattle.std.proofs.Common.{◌∙◌, append_assoc, arith, inl, inr}
use Rattle.std.specs.Prelude.{Option, Some, None, Result, Ok, Err, OnErr}
use Rattle.std.proofs.Math.Seq.{take-append_seam}
use Rattle.std.proofs.lemmas.List.{take-append-drop, length-append, length-take-le}
use Rattle.halo_outside.specs.Seen.{Moves, IsMoved}
use Rattle.machine_run.specs.Machines.{Input, Rules, Wait, Seen, WaitsOn, quiet, fed_with}
use Rattle.machine_run.specs.Steps.{EndsRead}
use Rattle.machine_run.specs.Runs.{IsCutOff}
use Rattle.machine_run.specs.Serving.{IsFedFrom, IsFedPart, IsFedWhole, IsDone}

abbrev pub wait_of : ℕ → ℕ → Wait
wait_of len fed = record { len = len; fed = fed }

-- so many bytes were fed
pub record FedSoFar {S : Type 0} (of : Rules S) (most : ℕ) (m : S) (input : List ℕ) (n : ℕ) (now : Seen S)
    (told : Option (List ℕ)) : Type 0 where
  pub part : IsFedFrom of most m input now told
  pub size : length part.bytes ≡ n

-- before the first piece
pub fed_none : {S : Type 0} (of : Rules S) (most : ℕ) (m : S) (input : List ℕ) (now : Seen S) (told : Option (List ℕ))
    → now ≡ fed_with of most m []
    → told ≡ Some input → FedSoFar of most m input 0 now told
fed_none of most m input now told e t =
    record { part = record { bytes = []; rest = input; whole = refl; machine = e; left = t }; size = refl }

-- the source is as before
pub fed_kept : {S : Type 0} (of : Rules S) (most : ℕ) (m : S) (input : List ℕ) (n : ℕ) (now : Seen S)
    (told told' : Option (List ℕ))
    → FedSoFar of most m input n now told → told' ≡ told → IsFedFrom of most m input now told'
fed_kept of most m input n now told told' f e =
    record {
      bytes = f.part.bytes;
      rest = f.part.rest;
      whole = f.part.whole;
      machine = f.part.machine;
      left = e ∙ f.part.left;
    }

-- what a read has moved from a source that tells
pub record HasMoved (left : List ℕ) (count : ℕ) (told' : Option (List ℕ)) (before now : List ℕ) : Type 0 where
  pub rest : List ℕ
  pub left_is : told' ≡ Some rest
  pub moved : IsMoved left rest count before now

pub has_moved : (left : List ℕ) (count : ℕ) (told told' : Option (List ℕ)) (before now : List ℕ) → told ≡ Some left
    → Moves told told' count before now → HasMoved left count told' before now
has_moved left count None told' before now e h = absurd (cc)
has_moved left count (Some bytes) None before now e h = absurd h
has_moved left count (Some bytes) (Some rest) before now e h =
    let same : bytes ≡ left = cc in
    record { rest = rest; left_is = refl; moved = rw same at h }

no_bytes : (xs : List ℕ) → length xs ≡ 0 → xs ≡ []
no_bytes [] h = refl
no_bytes (x ∷ xs) h = absurd (omega arith)

-- the source has nothing left
pub fed_end : {S : Type 0} (of : Rules S) (most : ℕ) (m : S) (input : List ℕ) (n count : ℕ) (now : Seen S)
    (told told' : Option (List ℕ)) (before after : List ℕ)
    → FedSoFar of most m input n now told → Moves told told' count before after → count ≡ 0 → 0 < length before
    → IsFedWhole of most m input now told'
fed_end of most m input n count now told told' before after f moves none room =
    let h = has_moved f.part.rest count told told' before after f.part.left moves in
    let empty : f.part.rest ≡ [] = no_bytes f.part.rest
    (nothing_left (length f.part.rest) count none (h.moved.some room)) in
    let same : h.rest ≡ f.part.rest = h.moved.rest_is ∙ ap (λ k. drop k f.part.rest) none in
    record {
      part = record {
        bytes = f.part.bytes;
        rest = f.part.rest;
        whole = f.part.whole;
        machine = f.part.machine;
        left = h.left_is ∙ ap (λ x. Some x) same;
      };
      all = inr empty;
    }
  where
    nothing_left : (n count : ℕ) → count ≡ 0 → (0 < n → 0 < count) → n ≡ 0
    nothing_left zero count e h = refl
    nothing_left (suc n) count e h = absurd (let l : 0 < count = h (omega arith) in omega arith)

-- the read has all that it takes
pub fed_all : {S : Type 0} (of : Rules S) (most : ℕ) (m : S) (input : List ℕ) (n : ℕ) (now : Seen S)
    (told : Option (List ℕ))
    → FedSoFar of most m input n now told → n ≡ most → IsFedWhole of most m input now told
fed_all of most m input n now told f e = record { part = f.part; all = inl (f.size ∙ e) }

-- the bytes that were moved are at the front
moved_piece : (left rest before now more : List ℕ) (count : ℕ) → IsMoved left rest count before now
    → take count (now ++ more) ≡ take count left
moved_piece left rest before now more count h =
    let front : List ℕ = take count left in
    let size : length front ≡ count = length-take-le count left h.within in
    let whole : now ++ more ≡ front ++ (drop count before ++ more) =
    ap (λ x. x ++ more) h.buffer_is ∙ append_assoc front (drop count before) more in
    ap (λ x. take count x) whole ∙ ap (λ k. take k (front ++ (drop count before ++ more))) (sym size)
    ∙ take-append_seam front (drop count before ++ more)

-- a further piece
pub fed_more : {S : Type 0} (of : Rules S) (most : ℕ) (m : S) (input : List ℕ) (n count : ℕ) (now now' : Seen S)
    (told told' : Option (List ℕ)) (before after more piece : List ℕ)
    → FedSoFar of most m input n now told → Moves told told' count before after → piece ≡ take count (after ++ more)
    → ((m : S) (len : ℕ) (bytes : List ℕ) → now ≡ fed_with of len m bytes → now' ≡ fed_with of len m (bytes ++ piece))
    → FedSoFar of most m input (n + count) now' told'
fed_more of most m input n count now now' told told' before after more piece f moves is feeds =
    let h = has_moved f.part.rest count told told' before after f.part.left moves in
    let same : piece ≡ take count f.part.rest = is ∙ moved_piece f.part.rest h.rest before after more count h.moved in
    let size : length piece ≡ count = ap length same ∙ length-take-le count f.part.rest h.moved.within in
    record {
      part = record {
        bytes = f.part.bytes ++ piece;
        rest = h.rest;
        whole = f.part.whole ∙ ap (λ x. f.part.bytes ++ x) (sym (take-append-drop count f.part.rest))
            ∙ sym (append_assoc f.part.bytes (take count f.part.rest) (drop count f.part.rest))
            ∙ ap (λ x. (f.part.bytes ++ x) ++ drop count f.part.rest) (sym same)
            ∙ ap (λ x. (f.part.bytes ++ piece) ++ x) (sym h.moved.rest_is);
        machine = feeds m most f.part.bytes f.part.machine;
        left = h.left_is;
      };
      size = length-append f.part.bytes piece ∙ ap (λ k. k + length piece) f.size ∙ ap (λ k. n + k) size;
    }

-- a failed read leaves what was fed
pub err_kept : {S T E : Type 0} (of : Rules S) (most : ℕ) (r : Result T E) (start now : Seen S)
    (told told' told'' : Option (List ℕ)) (n : ℕ)
    → ((m : S) (left : List ℕ) → start ≡ fed_with of most m [] → told ≡ Some left → FedSoFar of most m left n now told')
    → told'' ≡ told'
    → n < most
    → OnErr r ((m : S) (left : List ℕ) → start ≡ fed_with of most m [] → told ≡ Some left
    → IsFedPart of most m left now told'')
unfolding fed_kept
err_kept of most (Ok x) start now told told' told'' n f e l = tt
err_kept of most (Err x) start now told told' told'' n f e l = λ m left is was.
    let so_far = f m left is was in
    let size : length so_far.part.bytes < most = omega (arith, so_far.size, l) in
    record { part = fed_kept of most m left n now told' told'' so_far e; fewer = size }

-- a piece from the front of a buffer
pub piece_long : (a b : List ℕ) (count : ℕ) → count ≤ length a → length (take count (a ++ b)) ≡ count
piece_long a b count le = length-take-le count (a ++ b) (omega (arith, length-append a b))

-- a machine that was fed more still waits
pub still_waits : (old new : Option Wait) (len fed more count : ℕ) → WaitsOn old more new → old ≡ Some (wait_of len fed)
    → more ≡ count → new ≡ Some (wait_of len (fed + count))
still_waits old new len fed more count on waits size =
    let e = rw waits at on in
    e ∙ ap (λ k. Some (wait_of len (fed + k))) size

-- a failed read leaves a machine that waits
pub err_cut : {S T E : Type 0} (of : Rules S) (most : ℕ) (r : Result T E) (start now : Seen S)
    (told told' : Option (List ℕ))
    → ((m : S) (left : List ℕ) → start ≡ fed_with of most m [] → told ≡ Some left → IsFedPart of most m left now told')
    → OnErr r ((m : S) (left : List ℕ) → of.asks m ≡ Input most → start ≡ fed_with of most m [] → told ≡ Some left
    → IsCutOff of m left now told')
err_cut of most (Ok x) start now told told' f = tt
err_cut of most (Err x) start now told told' f = λ m left at is was.
    let fed = f m left is was in
    record {
      most = most;
      at_read = at;
      bytes = fed.part.bytes;
      rest = fed.part.rest;
      fewer = fed.fewer;
      whole = fed.part.whole;
      machine = fed.part.machine;
      left = fed.part.left;
    }

-- a read that has all of its input is a turn
pub whole_done : {S : Type 0} (of : Rules S) (most : ℕ) (m : S) (input : List ℕ) (old new : Seen S)
    (told : Option (List ℕ)) → of.asks m ≡ Input most
    → IsFedWhole of most m input old told → new.waits ≡ None → EndsRead of old new
    → IsDone (of.turn input m) new told × ((of.turn input m).written ≡ [])
whole_done of most m input old new told at h waits ends =
    let t = ends m most h.part.bytes h.part.rest at h.part.machine h.all in
    let e : of.turn input m ≡ quiet h.part.rest new.machine = ap (λ x. of.turn x m) h.part.whole ∙ t in (
      record {
        machine = sym (ap (λ t. t.next) e);
        waits = waits;
        left = h.part.left ∙ ap (λ x. Some x) (sym (ap (λ t. t.left) e));
      },
      ap (λ t. t.written) e,
    )
