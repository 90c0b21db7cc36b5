-- Texts that are read line by line: what their lines make of the script above them.
use Rattle.std.proofs.Common.{◌≡◌, ◌+◌, ◌<◌, ℕ, zero, suc, true, List, [], ◌∷◌, ◌++◌, Option, Some, None, Result, Ok, Err, refl, sym, ap, ◌∙◌, append_assoc, append-nil, arith}
use Rattle.std.specs.List.{list_all}
use Rattle.script_text.specs.declared.reading.ScriptFault.{ScriptFault}
use Rattle.script_text.specs.declared.reading.ScriptFault.TheVariants.{BadLine}
use Rattle.script_text.specs.Lines.{lines_of}
use Rattle.script_text.specs.Script.{ScriptValue}
use Rattle.script_text.specs.Grammar.{line_of, script_from}
use Rattle.seed_words.specs.Joined.{joined}
use Rattle.seed_words.proofs.PrintedWords.{is_printed, lines_of-line}

-- The text in front of any other makes the new script of the old one, and the lines of the other are read below it.
pub record Reads (text : List ℕ) (old new : ScriptValue) : Type 0 where
  pub reads : (n : ℕ) (rest : List ℕ) → (m : ℕ) × (script_from old n (lines_of (text ++ rest)) ≡ script_from new m (lines_of rest))

pub reads-nothing : (script : ScriptValue) → Reads [] script script
reads-nothing script = record { reads = λ n rest. (n, refl) }

-- one text behind the other
pub reads-append : (front back : List ℕ) (old between new : ScriptValue) → Reads front old between → Reads back between new → Reads (front ++ back) old new
reads-append front back old between new first second = record {
  reads = λ n rest.
      let one = first.reads n (back ++ rest) in
      let two = second.reads one.0 rest in
      (two.0, ap (λ t. script_from old n (lines_of t)) (append_assoc front back rest) ∙ one.1 ∙ two.1);
}

-- texts that each lead from one script to the next
pub reads-joined : (f : ℕ → List ℕ) (g : ℕ → ScriptValue) (count : ℕ) → ((k : ℕ) → k < count → Reads (f k) (g k) (g (k + 1))) → Reads (joined f count) (g 0) (g count)
unfolding joined
reads-joined f g zero each = reads-nothing (g 0)
reads-joined f g (suc k) each =
    let next : k + 1 ≡ suc k = omega arith in
    reads-append (joined f k) (f k) (g 0) (g k) (g (suc k))
    (reads-joined f g k (λ j lt. each j (omega arith)))
    (rw next at (each k (omega arith)))

-- what the lines behind a line are read as, where the line means this
after : ℕ → List (List ℕ) → Option ScriptValue → Result ScriptValue ScriptFault
after n lines meant = elim meant [ Some script ↦ script_from script (n + 1) lines | None ↦ Err (BadLine n) ]

script_from-line : (old new : ScriptValue) (n : ℕ) (line : List ℕ) (lines : List (List ℕ)) → line_of old line ≡ Some new → script_from old n (line ∷ lines) ≡ script_from new (n + 1) lines
unfolding script_from after
script_from-line old new n line lines good = ap (after n lines) good

-- a printed line that means something
pub reads-line : (line : List ℕ) (old new : ScriptValue) → list_all is_printed line ≡ true → line_of old line ≡ Some new → Reads (line ++ 10 ∷ []) old new
reads-line line old new printed good = record {
  reads = λ n rest. (
    n + 1,
    ap (λ t. script_from old n (lines_of t)) (append_assoc line (10 ∷ []) rest)
        ∙ ap (script_from old n) (lines_of-line line rest printed)
        ∙ script_from-line old new n line (lines_of rest) good,
  );
}

-- a text that is read to its end
pub script_from-text : (text : List ℕ) (old new : ScriptValue) (n : ℕ) → Reads text old new → script_from old n (lines_of text) ≡ Ok new
unfolding script_from
script_from-text text old new n reads =
    let whole = reads.reads n [] in
    ap (λ t. script_from old n (lines_of t)) (sym (append-nil text)) ∙ whole.1
