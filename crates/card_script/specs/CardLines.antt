-- The words of a line.
use Rattle.std.specs.Prelude.{ℕ, List, [], ◌∷◌, codes, Option, Some, None}
use Rattle.std.specs.Option.{option_map}
use Rattle.std.specs.Map.{lookup}
use Rattle.script_text.specs.Words.{same_word, bytes_of, id_of, number_of, uuid_of}
use Rattle.script_text.specs.Calls.{◌>>=◌}
use Rattle.card_script.specs.declared.card_line.CardLine.{CardLine}
use Rattle.card_script.specs.declared.card_line.CardLine.TheVariants.{Put, Get, Remove, List as ListLine, Stop, Remount}
use Rattle.card_script.specs.declared.reading.CardVerb.{CardVerb}
use Rattle.card_script.specs.declared.reading.CardVerb.TheVariants.{Put as PutVerb, Get as GetVerb, Remove as RemoveVerb, List as ListVerb, Stop as StopVerb, Remount as RemountVerb}

-- `UUID ID`: the application and the identifier of an object
unfoldable pub name_words : List (List ℕ) → Option (List ℕ × List ℕ)
name_words (uuid ∷ id ∷ []) = do
  a ← uuid_of uuid
  i ← id_of id
  Some (a, i)
name_words _ = None

-- `UUID ID BYTES`
unfoldable pub put_words : List (List ℕ) → Option CardLine
put_words (uuid ∷ id ∷ bytes ∷ []) = do
  a ← uuid_of uuid
  i ← id_of id
  b ← bytes_of bytes
  Some (Put a i b)
put_words _ = None

-- `N`
unfoldable pub stop_words : List (List ℕ) → Option CardLine
stop_words (exchanges ∷ []) = do
  n ← number_of exchanges
  Some (Stop n)
stop_words _ = None

-- nothing
abbrev pub alone : CardLine → List (List ℕ) → Option CardLine
alone line [] = Some line
alone line _ = None

-- the first word of each line
abbrev pub verbs : List (List ℕ × CardVerb)
verbs =
    (codes "put", PutVerb) ∷ (codes "get", GetVerb) ∷ (codes "remove", RemoveVerb) ∷ (codes "list", ListVerb)
    ∷ (codes "stop", StopVerb) ∷ (codes "remount", RemountVerb) ∷ []

unfoldable pub verb_of : List ℕ → Option CardVerb
verb_of word = lookup (same_word word) verbs

-- the line of these words behind the first
abbrev pub verb_words : CardVerb → List (List ℕ) → Option CardLine
verb_words PutVerb words = put_words words
verb_words GetVerb words = option_map (λ n. Get n.0 n.1) (name_words words)
verb_words RemoveVerb words = option_map (λ n. Remove n.0 n.1) (name_words words)
verb_words ListVerb words = alone ListLine words
verb_words StopVerb words = stop_words words
verb_words RemountVerb words = alone Remount words

-- the line of these words: the first, and those behind it
unfoldable pub line_words : List ℕ → List (List ℕ) → Option CardLine
line_words word words = do
  verb ← verb_of word
  verb_words verb words
