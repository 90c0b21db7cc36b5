-- The words of a call, behind the name of its application.
use Rattle.std.specs.Prelude.{ℕ, List, [], ◌∷◌, codes, Option, Some, None, option_and_then}
use Rattle.std.specs.Option.{option_map}
use Rattle.std.specs.Map.{lookup}
use Rattle.tee_types.specs.declared.call.Call.{Call}
use Rattle.tee_types.specs.declared.call.Call.TheVariants.{Create, Open, Close, Read, Write, Truncate, Seek, Rename, Delete, Info, EnumNew, EnumStart, EnumNext, EnumReset, EnumFree}
use Rattle.script_text.specs.declared.calls.Verb.{Verb}
use Rattle.script_text.specs.declared.calls.Verb.TheVariants.{Create as CreateVerb, Open as OpenVerb, Close as CloseVerb, Read as ReadVerb, Write as WriteVerb, Truncate as TruncateVerb, Seek as SeekVerb, Rename as RenameVerb, Delete as DeleteVerb, Info as InfoVerb, Enumerate as EnumerateVerb, Start as StartVerb, Next as NextVerb, Reset as ResetVerb, Free as FreeVerb}
use Rattle.script_text.specs.Words.{same_word, id_of, bytes_of, flags_of, number_of, offset_of, whence_of}

infixl 10 ◌>>=◌
abbrev pub ◌>>=◌ : {A B : Type 0} → Option A → (A → Option B) → Option B
o >>= f = option_and_then f o

-- `ID FLAGS BYTES BYTES`: attributes, then data
unfoldable pub create_words : List (List ℕ) → Option Call
create_words (id ∷ flags ∷ attributes ∷ bytes ∷ []) = do
  i ← id_of id
  f ← flags_of flags
  a ← bytes_of attributes
  b ← bytes_of bytes
  Some (Create i f a b)
create_words _ = None

-- `ID FLAGS`
unfoldable pub open_words : List (List ℕ) → Option Call
open_words (id ∷ flags ∷ []) = do
  i ← id_of id
  f ← flags_of flags
  Some (Open i f)
open_words _ = None

-- `N BYTES`
unfoldable pub write_words : List (List ℕ) → Option Call
write_words (handle ∷ bytes ∷ []) = do
  h ← number_of handle
  b ← bytes_of bytes
  Some (Write h b)
write_words _ = None

-- `N OFFSET set`, `cur` or `end`
unfoldable pub seek_words : List (List ℕ) → Option Call
seek_words (handle ∷ offset ∷ whence ∷ []) = do
  h ← number_of handle
  o ← offset_of offset
  w ← whence_of whence
  Some (Seek h o w)
seek_words _ = None

-- `N ID`
unfoldable pub rename_words : List (List ℕ) → Option Call
rename_words (handle ∷ id ∷ []) = do
  h ← number_of handle
  i ← id_of id
  Some (Rename h i)
rename_words _ = None

-- `N`
unfoldable pub one_number : List (List ℕ) → Option ℕ
one_number (number ∷ []) = number_of number
one_number _ = None

-- `N N`
unfoldable pub two_numbers : List (List ℕ) → Option (ℕ × ℕ)
two_numbers (first ∷ second ∷ []) = do
  f ← number_of first
  s ← number_of second
  Some (f, s)
two_numbers _ = None

-- nothing
abbrev pub no_words : Call → List (List ℕ) → Option Call
no_words call [] = Some call
no_words call _ = None

-- the word of each call
abbrev pub verbs : List (List ℕ × Verb)
verbs =
    (codes "create", CreateVerb) ∷ (codes "open", OpenVerb) ∷ (codes "close", CloseVerb) ∷ (codes "read", ReadVerb)
    ∷ (codes "write", WriteVerb) ∷ (codes "truncate", TruncateVerb) ∷ (codes "seek", SeekVerb) ∷ (codes "rename", RenameVerb)
    ∷ (codes "delete", DeleteVerb) ∷ (codes "info", InfoVerb) ∷ (codes "enum", EnumerateVerb) ∷ (codes "start", StartVerb)
    ∷ (codes "next", NextVerb) ∷ (codes "reset", ResetVerb) ∷ (codes "free", FreeVerb) ∷ []

unfoldable pub verb_of : List ℕ → Option Verb
verb_of word = lookup (same_word word) verbs

-- the call of these words behind the verb
abbrev pub call_of : Verb → List (List ℕ) → Option Call
call_of CreateVerb words = create_words words
call_of OpenVerb words = open_words words
call_of CloseVerb words = option_map Close (one_number words)
call_of ReadVerb words = option_map (λ n. Read n.0 n.1) (two_numbers words)
call_of WriteVerb words = write_words words
call_of TruncateVerb words = option_map (λ n. Truncate n.0 n.1) (two_numbers words)
call_of SeekVerb words = seek_words words
call_of RenameVerb words = rename_words words
call_of DeleteVerb words = option_map Delete (one_number words)
call_of InfoVerb words = option_map Info (one_number words)
call_of EnumerateVerb words = no_words EnumNew words
call_of StartVerb words = option_map EnumStart (one_number words)
call_of NextVerb words = option_map EnumNext (one_number words)
call_of ResetVerb words = option_map EnumReset (one_number words)
call_of FreeVerb words = option_map EnumFree (one_number words)

-- the call of these words
unfoldable pub call_words : List (List ℕ) → Option Call
call_words [] = None
call_words (verb ∷ words) = do
  v ← verb_of verb
  call_of v words
