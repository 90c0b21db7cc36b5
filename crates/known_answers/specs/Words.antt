-- The words of a question.
use Rattle.std.specs.Prelude.{ℕ, ◌≡◌, ◌≢◌, ◌==◌, List, [], Ok, codes, decimal}
use Rattle.std.specs.List.{slice_split}
use Rattle.hex.specs.Hex.{decode_of}

-- the words of a line: what stands before, between and behind its spaces
abbrev pub words_of : List ℕ → List (List ℕ)
words_of line = slice_split (λ byte. byte == 32) line

-- the word is bytes in hex, in either case, or `-` for none
abbrev pub IsArgument : List ℕ → List ℕ → Type 0
IsArgument word bytes =
    (word ≢ []) × (word ≡ codes "-" → bytes ≡ []) × (word ≢ codes "-" → decode_of word ≡ Ok bytes)

-- the word is these bytes in hex, in either case
abbrev pub IsArray : List ℕ → List ℕ → Type 0
IsArray word bytes = decode_of word ≡ Ok bytes

-- the word is the number in decimal, without a sign or a leading zero
abbrev pub IsNumber : List ℕ → ℕ → Type 0
IsNumber word number = word ≡ decimal number
