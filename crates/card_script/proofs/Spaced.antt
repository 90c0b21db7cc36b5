-- Words with single spaces between them are the words of their line.
use Rattle.std.proofs.Common.{◌≡◌, ◌<◌, ◌≤◌, ◌||◌, ◌&&◌, ◌==◌, nat_lt, nat_le, ℕ, List, [], ◌∷◌, ◌++◌, length, Bool, true, false, cond, refl, sym, ap, ◌∙◌, lit<, arith}
use Rattle.std.specs.Prelude.{filter}
use Rattle.std.specs.List.{AllByRecursion, list_all, slice_split}
use Rattle.std.proofs.lemmas.Bool.{and_parts}
use Rattle.std.proofs.lemmas.Bool.Decides.{nat_tests}
use Rattle.std.proofs.lemmas.List.Elements.{All-from_recursion}
use Rattle.std.proofs.lemmas.List.Splits.{slice_split_none, slice_split_at}
use Rattle.script_text.specs.Lines.{words_of, is_ascii, is_blank, has_bytes}

-- a byte of ASCII that is printed, and no space
abbrev pub IsPrinted : ℕ → Type 0
IsPrinted b = (33 ≤ b) × (b < 128)

-- some of these
pub record IsWord (word : List ℕ) : Type 0 where
  pub some : 0 < length word
  pub printed : AllByRecursion IsPrinted word

-- words with single spaces between them
abbrev pub spaced : List (List ℕ) → List ℕ
spaced [] = []
spaced (word ∷ []) = word
spaced (word ∷ next ∷ words) = word ++ 32 ∷ spaced (next ∷ words)

solid : (word : List ℕ) → AllByRecursion IsPrinted word → AllByRecursion (λ b. is_blank b ≡ false) word
solid [] printed = tt
solid (b ∷ word) printed = (let low : 33 ≤ b = (printed.0).0 in grind (arith, nat_tests), solid word printed.1)

-- a word, and those behind it
with_word : (word rest : List ℕ) → 0 < length word → filter has_bytes (word ∷ slice_split is_blank rest) ≡ word ∷ words_of rest
unfolding words_of
with_word word rest some =
    let filled : has_bytes word ≡ true = grind (arith, nat_tests) in
    ap (λ t. cond t (word ∷ filter has_bytes (slice_split is_blank rest)) (filter has_bytes (slice_split is_blank rest))) filled

words_of-last : (word : List ℕ) → IsWord word → words_of word ≡ word ∷ []
unfolding words_of
words_of-last word is =
    let filled : has_bytes word ≡ true = let some : 0 < length word = is.some in grind (arith, nat_tests) in
    ap (filter has_bytes) (slice_split_none is_blank word (All-from_recursion (λ b. is_blank b ≡ false) word (solid word is.printed)))
    ∙ ap (λ t. cond t (word ∷ []) []) filled

words_of-next : (word rest : List ℕ) → IsWord word → words_of (word ++ 32 ∷ rest) ≡ word ∷ words_of rest
unfolding words_of
words_of-next word rest is =
    ap (filter has_bytes) (slice_split_at is_blank word 32 rest (All-from_recursion (λ b. is_blank b ≡ false) word (solid word is.printed)) refl)
    ∙ with_word word rest is.some

pub words_of-spaced : (words : List (List ℕ)) → AllByRecursion IsWord words → words_of (spaced words) ≡ words
unfolding words_of
words_of-spaced [] are = refl
words_of-spaced (word ∷ []) are = words_of-last word are.0
words_of-spaced (word ∷ next ∷ words) are =
    words_of-next word (spaced (next ∷ words)) are.0 ∙ ap (λ w. word ∷ w) (words_of-spaced (next ∷ words) are.1)

abbrev Ascii : List ℕ → Type 0
Ascii line = AllByRecursion (λ b. b < 128) line

ascii-behind : (word rest : List ℕ) → AllByRecursion IsPrinted word → Ascii rest → Ascii (word ++ rest)
ascii-behind [] rest printed all = all
ascii-behind (b ∷ word) rest printed all = ((printed.0).1, ascii-behind word rest printed.1 all)

ascii-word : (word : List ℕ) → AllByRecursion IsPrinted word → Ascii word
ascii-word [] printed = tt
ascii-word (b ∷ word) printed = ((printed.0).1, ascii-word word printed.1)

ascii-spaced : (words : List (List ℕ)) → AllByRecursion IsWord words → Ascii (spaced words)
ascii-spaced [] are = tt
ascii-spaced (word ∷ []) are = ascii-word word (are.0).printed
ascii-spaced (word ∷ next ∷ words) are = ascii-behind word (32 ∷ spaced (next ∷ words)) (are.0).printed (lit< tt, ascii-spaced (next ∷ words) are.1)

passes : (line : List ℕ) → Ascii line → is_ascii line ≡ true
passes [] all = refl
passes (b ∷ line) all =
    let small : nat_lt b 128 ≡ true = let lt : b < 128 = all.0 in grind (arith, nat_tests) in
    ap (λ t. t && is_ascii line) small ∙ passes line all.1

pub is_ascii-spaced : (words : List (List ℕ)) → AllByRecursion IsWord words → is_ascii (spaced words) ≡ true
is_ascii-spaced words are = passes (spaced words) (ascii-spaced words are)

-- whether each byte is printed, as a test
abbrev pub all_printed : List ℕ → Bool
all_printed word = list_all (λ b. nat_le 33 b && nat_lt b 128) word

pub printed-literal : (word : List ℕ) → all_printed word ≡ true → AllByRecursion IsPrinted word
printed-literal [] is = tt
printed-literal (b ∷ word) is =
    let parts = and_parts (nat_le 33 b && nat_lt b 128) (all_printed word) is in
    let bounds = and_parts (nat_le 33 b) (nat_lt b 128) parts.0 in
    ((grind (arith, nat_tests, bounds.0), grind (arith, nat_tests, bounds.1)), printed-literal word parts.1)
