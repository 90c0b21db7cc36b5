-- The grammar of scripts: the lines that a text is read as.
use Rattle.std.specs.Prelude.{◌≡◌, ℕ, ◌+◌, Bool, true, false, nat_eq, List, [], ◌∷◌, ◌++◌, if◌then◌else◌, codes, Option, Some, None, Result, Ok, Err}
use Rattle.std.specs.List.{starts_with}
use Rattle.script_text.specs.Lines.{lines_of, words_of, is_ascii}
use Rattle.script_text.specs.Calls.{◌>>=◌}
use Rattle.card_script.specs.declared.card_line.CardLine.{CardLine}
use Rattle.card_script.specs.declared.reading.CardScriptFault.{CardScriptFault}
use Rattle.card_script.specs.declared.reading.CardScriptFault.TheVariants.{BadLine, NoMemory}
use Rattle.card_script.specs.CardLines.{line_words}

-- the script with one more line, of these words; a line without words and a comment add nothing
unfoldable pub words_line : List CardLine → List (List ℕ) → Option (List CardLine)
words_line above [] = Some above
words_line above (word ∷ words) =
    if starts_with nat_eq word (codes "#") then Some above
    else (do
      line ← line_words word words
      Some (above ++ line ∷ []))

-- the script with one more line
unfoldable pub line_of : List CardLine → List ℕ → Option (List CardLine)
line_of above line = if is_ascii line then words_line above (words_of line) else None

-- the script with these lines, numbered from n on; or the number of the first that is outside the grammar
unfoldable pub script_from : List CardLine → ℕ → List (List ℕ) → Result (List CardLine) CardScriptFault
script_from above n [] = Ok above
script_from above n (line ∷ lines) = elim (line_of above line) [
  | Some script ↦ script_from script (n + 1) lines
  | None ↦ Err (BadLine n)
]

-- the script that a text is, or its first line outside the grammar
abbrev pub script_of : List ℕ → Result (List CardLine) CardScriptFault
script_of text = script_from [] 1 (lines_of text)

-- the script that the text is, or why it is none; or there is no memory
abbrev pub IsParsed : Result (List CardLine) CardScriptFault → Result (List CardLine) CardScriptFault → Type 0
IsParsed (Ok script) meant = meant ≡ Ok script
IsParsed (Err (BadLine line)) meant = meant ≡ Err (BadLine line)
IsParsed (Err NoMemory) meant = Unit {0}

-- The line is in the grammar and the new script has its meaning too; or it is not, and nothing changed.
abbrev pub IsRead : Bool → List CardLine → List CardLine → Option (List CardLine) → Type 0
IsRead true old new meant = meant ≡ Some new
IsRead false old new meant = (meant ≡ None) × (new ≡ old)
