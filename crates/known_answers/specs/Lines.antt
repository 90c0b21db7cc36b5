-- Words of bytes in a line.
use Rattle.std.specs.Prelude.{ℕ, List, [], ◌∷◌, ◌++◌, codes}
use Rattle.hex.specs.Hex.{encode_lower}

-- bytes in hex, or `-` for none
abbrev pub hex_word : List ℕ → List ℕ
hex_word [] = codes "-"
hex_word (byte ∷ rest) = encode_lower (byte ∷ rest)

-- two of them, a space apart
abbrev pub two_words : List ℕ → List ℕ → List ℕ
two_words first second = hex_word first ++ codes " " ++ hex_word second

-- more of them, each behind a space, and all a space apart
abbrev pub behind_spaces : List (List ℕ) → List ℕ
behind_spaces [] = []
behind_spaces (bytes ∷ rest) = codes " " ++ hex_word bytes ++ behind_spaces rest

abbrev pub spaced : List (List ℕ) → List ℕ
spaced [] = []
spaced (bytes ∷ rest) = hex_word bytes ++ behind_spaces rest
