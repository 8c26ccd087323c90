-- The bytes of a new text with the heap's words.
use Rattle.std.proofs.Common.{◌≡◌, ℕ, ◌-◌, ◌≤◌, List, ◌++◌, length, take, ap, ◌∙◌, arith, append_assoc}
use Rattle.std.specs.Prelude.{flat_map, replicate}
use Rattle.std.proofs.lemmas.List.{take_all}
use Rattle.elf_spec.specs.Fields.{word_bytes}
use Rattle.plan_core.specs.declared.types.Plan.{Plan}
use Rattle.new_file_spec.specs.Rewritten.{heap_text, text_for}

-- a text that was filled up with zeros, and has the bytes of the words behind them
pub heap_text_is : (file : List ℕ) (plan : Plan) (words text padded all : List ℕ) (n : ℕ) → n ≡ length text
    → text ≡ text_for file plan → length text ≤ 1424 → padded ≡ take 1536 text ++ replicate (1536 - n) 0
    → all ≡ padded ++ flat_map word_bytes words → all ≡ heap_text file plan words
heap_text_is file plan words text padded all n long e short h g =
    let gap : List ℕ = replicate (1536 - length text) 0 in
    let f : padded ≡ take 1536 text ++ gap = h ∙ ap (λ k. take 1536 text ++ replicate (1536 - k) 0) long in
    let whole : take 1536 text ≡ text = take_all 1536 text (omega (arith, short)) in
    g ∙ (ap (λ xs. xs ++ flat_map word_bytes words) (f ∙ ap (λ xs. xs ++ gap) whole)
    ∙ (append_assoc text gap (flat_map word_bytes words)
    ∙ ap (λ xs. xs ++ (replicate (1536 - length xs) 0 ++ flat_map word_bytes words)) e))
