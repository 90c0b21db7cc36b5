-- Words with a space between each two, as they are printed, and a line of them: they are read as these words.
use Rattle.std.proofs.Common.{◌≡◌, ◌==◌, ◌&&◌, ◌-◌, ◌<◌, ℕ, Bool, true, false, cond, List, [], ◌∷◌, ◌++◌, filter, length, take, get_or, refl, ap, ◌∙◌, arith, suc}
use Rattle.std.specs.Prelude.{nat_lt}
use Rattle.std.specs.List.{All, list_all, slice_split, join_with_byte}
use Rattle.std.specs.Str.Lines.{strip_carriage_return, lines_of_parts}
use Rattle.std.proofs.lemmas.Bool.Decides.{nat_tests}
use Rattle.std.proofs.lemmas.List.Sums.{AllPass-from_list_all, list_all-from_AllPass}
use Rattle.std.proofs.lemmas.List.Folds.{list_all-append}
use Rattle.std.proofs.lemmas.List.Splits.{slice_split_at, slice_split_none, length-slice_split}
use Rattle.script_text.specs.Lines.{lines_of, words_of, is_ascii, is_blank, has_bytes}
use Rattle.seed_words.proofs.Numerals.{both}

-- a byte that is printed in a word
abbrev pub is_ink : ℕ → Bool
is_ink byte = nat_lt 32 byte && nat_lt byte 128

-- a byte that is printed in a line
abbrev pub is_printed : ℕ → Bool
is_printed byte = nat_lt 31 byte && nat_lt byte 128

-- Some bytes, each of them ink.
pub record IsWord (word : List ℕ) : Type 0 where
  pub some : nat_lt 0 (length word) ≡ true
  pub ink : list_all is_ink word ≡ true

abbrev pub AreWords : List (List ℕ) → Type 0
AreWords [] = Unit {0}
AreWords (word ∷ words) = IsWord word × AreWords words

not_blank : (byte : ℕ) → is_ink byte ≡ true → is_blank byte ≡ false
not_blank byte h = grind (arith, nat_tests)

printed_ink : (byte : ℕ) → is_ink byte ≡ true → is_printed byte ≡ true
printed_ink byte h = grind (arith, nat_tests)

no_line_end : (byte : ℕ) → is_printed byte ≡ true → (byte == 10) ≡ false
no_line_end byte h = grind (arith, nat_tests)

no_return : (byte : ℕ) → is_printed byte ≡ true → (byte == 13) ≡ false
no_return byte h = grind (arith, nat_tests)

ascii_printed : (byte : ℕ) → is_printed byte ≡ true → nat_lt byte 128 ≡ true
ascii_printed byte h = grind (arith, nat_tests)

-- what passes one test passes another
pub list_all-weaker : (p q : ℕ → Bool) → ((byte : ℕ) → p byte ≡ true → q byte ≡ true) → (bytes : List ℕ) → list_all p bytes ≡ true → list_all q bytes ≡ true
list_all-weaker p q weaker bytes h = list_all-from_AllPass q bytes (λ k d lt. weaker (get_or bytes k d) (AllPass-from_list_all p bytes h k d lt))

-- and what passes fails one that it shuts out
All-shut_out : (p q : ℕ → Bool) → ((byte : ℕ) → p byte ≡ true → q byte ≡ false) → (bytes : List ℕ) → list_all p bytes ≡ true → All (λ byte. q byte ≡ false) bytes
All-shut_out p q shut bytes h = λ k d lt. shut (get_or bytes k d) (AllPass-from_list_all p bytes h k d lt)

-- the words of a line of words
pub words_of-join : (word : List ℕ) (words : List (List ℕ)) → IsWord word → AreWords words → words_of (join_with_byte 32 (word ∷ words)) ≡ word ∷ words
unfolding words_of
words_of-join word [] is are =
    ap (filter has_bytes) (slice_split_none is_blank word (All-shut_out is_ink is_blank not_blank word is.ink))
    ∙ ap (λ t. cond t (word ∷ []) []) is.some
words_of-join word (next ∷ words) is are =
    let rest = filter has_bytes (slice_split is_blank (join_with_byte 32 (next ∷ words))) in
    ap (filter has_bytes) (slice_split_at is_blank word 32 (join_with_byte 32 (next ∷ words)) (All-shut_out is_ink is_blank not_blank word is.ink) refl)
    ∙ ap (λ t. cond t (word ∷ rest) rest) is.some
    ∙ ap (λ r. word ∷ r) (words_of-join next words are.0 are.1)

-- a line of words is printed
pub printed-join : (word : List ℕ) (words : List (List ℕ)) → IsWord word → AreWords words → list_all is_printed (join_with_byte 32 (word ∷ words)) ≡ true
printed-join word [] is are = list_all-weaker is_ink is_printed printed_ink word is.ink
printed-join word (next ∷ words) is are =
    list_all-append is_printed word (32 ∷ join_with_byte 32 (next ∷ words))
    ∙ both (list_all is_printed word) (list_all is_printed (join_with_byte 32 (next ∷ words)))
    (list_all-weaker is_ink is_printed printed_ink word is.ink) (printed-join next words are.0 are.1)

pub ascii-printed : (line : List ℕ) → list_all is_printed line ≡ true → is_ascii line ≡ true
ascii-printed line h = list_all-weaker is_printed (λ byte. nat_lt byte 128) ascii_printed line h

lines_of_parts-more : (part : List ℕ) (parts : List (List ℕ)) → 0 < length parts → lines_of_parts (part ∷ parts) ≡ strip_carriage_return part ∷ lines_of_parts parts
lines_of_parts-more part [] some = absurd (omega arith)
lines_of_parts-more part (next ∷ parts) some = refl

last_kept : (line : List ℕ) → list_all is_printed line ≡ true → (get_or line (length line - 1) 0 == 13) ≡ false
last_kept [] h = refl
last_kept (byte ∷ line) h =
    let lt : (suc (length line)) - 1 < suc (length line) = omega arith in
    no_return (get_or (byte ∷ line) (suc (length line) - 1) 0) (AllPass-from_list_all is_printed (byte ∷ line) h (suc (length line) - 1) 0 lt)

strip-printed : (line : List ℕ) → list_all is_printed line ≡ true → strip_carriage_return line ≡ line
strip-printed line h = ap (λ t. cond t (take (length line - 1) line) line) (last_kept line h)

-- the lines of a text that begins with a printed line
pub lines_of-line : (line rest : List ℕ) → list_all is_printed line ≡ true → lines_of (line ++ 10 ∷ rest) ≡ line ∷ lines_of rest
lines_of-line line rest h =
    let parts = slice_split (λ b. b == 10) rest in
    ap lines_of_parts (slice_split_at (λ b. b == 10) line 10 rest (All-shut_out is_printed (λ b. b == 10) no_line_end line h) refl)
    ∙ lines_of_parts-more line parts (omega (arith, length-slice_split (λ b. b == 10) rest))
    ∙ ap (λ l. l ∷ lines_of_parts parts) (strip-printed line h)
