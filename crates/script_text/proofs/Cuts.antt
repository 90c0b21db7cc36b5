-- The first line of a text, and the first word of a line.
use Rattle.std.proofs.Common.{◌≡◌, ◌==◌, ◌+◌, ◌<◌, ◌≤◌, ℕ, Bool, true, false, not, cond, List, [], ◌∷◌, filter, length, take, drop, refl, sym, ap, subst, ◌∙◌, arith, suc, inl, inr}
use Rattle.std.specs.List.{prefix_len, position_or_len, slice_split, onto_first}
use Rattle.std.specs.Str.Lines.{strip_carriage_return, lines_of_parts}
use Rattle.std.proofs.lemmas.Bool.{cases_lt}
use Rattle.std.proofs.lemmas.Bool.Decides.{nat_tests}
use Rattle.std.proofs.lemmas.List.{length-take-le, take_all, drop_all}
use Rattle.std.proofs.lemmas.List.Splits.{slice_split_first, slice_split-cons_yes, length-slice_split}
use Rattle.script_text.specs.Lines.{lines_of, words_of, is_blank, has_bytes}

-- where nothing passes, there is one part
slice_split-one : (p : ℕ → Bool) (bytes : List ℕ) → length bytes ≤ position_or_len p bytes → slice_split p bytes ≡ bytes ∷ []
slice_split-one p [] le = refl
slice_split-one p (b ∷ bytes) le = elim (p b) as (λ t. suc (length bytes) ≤ cond (not t) (1 + position_or_len p bytes) 0 → cond t ([] ∷ slice_split p bytes) (onto_first b (slice_split p bytes)) ≡ (b ∷ bytes) ∷ []) [
  | true ↦ λ (h : suc (length bytes) ≤ 0). absurd (omega arith)
  | false ↦ λ (h : suc (length bytes) ≤ 1 + position_or_len p bytes). ap (onto_first b) (slice_split-one p bytes (omega arith))
] le

-- the first part, and the parts behind it
slice_split-cut : (p : ℕ → Bool) (bytes : List ℕ) (n : ℕ) → n ≡ position_or_len p bytes → n < length bytes → slice_split p bytes ≡ take n bytes ∷ slice_split p (drop (n + 1) bytes)
slice_split-cut p bytes n is lt = slice_split_first p bytes 0 (omega arith) ∙ ap (λ k. take k bytes ∷ slice_split p (drop (k + 1) bytes)) (sym is)

lines_of_parts-more : (part : List ℕ) (parts : List (List ℕ)) → 0 < length parts → lines_of_parts (part ∷ parts) ≡ strip_carriage_return part ∷ lines_of_parts parts
lines_of_parts-more part [] some = absurd (omega arith)
lines_of_parts-more part (next ∷ parts) some = refl

-- a text with an LF: its first line, and the lines behind the LF
pub lines_of-first : (text : List ℕ) (n : ℕ) → n ≡ position_or_len (λ b. b == 10) text → n < length text → lines_of text ≡ strip_carriage_return (take n text) ∷ lines_of (drop (n + 1) text)
lines_of-first text n is lt =
    let rest = slice_split (λ b. b == 10) (drop (n + 1) text) in
    ap lines_of_parts (slice_split-cut (λ b. b == 10) text n is lt)
    ∙ lines_of_parts-more (take n text) rest (omega (arith, length-slice_split (λ b. b == 10) (drop (n + 1) text)))

-- a text without one is one line
pub lines_of-one : (text : List ℕ) → 0 < length text → length text ≤ position_or_len (λ b. b == 10) text → lines_of text ≡ text ∷ []
lines_of-one text some le =
    let filled : (length text == 0) ≡ false = grind (arith, nat_tests) in
    ap lines_of_parts (slice_split-one (λ b. b == 10) text le) ∙ ap (λ t. cond t [] (text ∷ [])) filled

-- a blank in front adds no word
words_of-blank : (b : ℕ) (line : List ℕ) → is_blank b ≡ true → words_of (b ∷ line) ≡ words_of line
unfolding words_of
words_of-blank b line blank = ap (filter has_bytes) (slice_split-cons_yes is_blank b line blank)

-- nor do the blanks in front
pub words_of-skip : (line : List ℕ) → words_of line ≡ words_of (drop (prefix_len is_blank line) line)
words_of-skip [] = refl
words_of-skip (b ∷ line) = elim (is_blank b) as (λ t. is_blank b ≡ t → words_of (b ∷ line) ≡ words_of (drop (cond t (1 + prefix_len is_blank line) 0) (b ∷ line))) [
  | true ↦ λ (blank : is_blank b ≡ true).
      let one : suc (prefix_len is_blank line) ≡ 1 + prefix_len is_blank line = omega arith in
      words_of-blank b line blank ∙ words_of-skip line ∙ ap (λ k. words_of (drop k (b ∷ line))) one
  | false ↦ λ (blank : is_blank b ≡ false). refl
] refl

-- behind the blanks in front a word begins
abbrev BeginsWord : ℕ → List ℕ → Type 0
BeginsWord n line = 0 < length (drop n line) → 0 < position_or_len is_blank (drop n line)

begins_word : (line : List ℕ) → BeginsWord (prefix_len is_blank line) line
begins_word [] = λ (h : 0 < 0). absurd (omega arith)
begins_word (b ∷ line) = elim (is_blank b) as (λ t. is_blank b ≡ t → BeginsWord (cond t (1 + prefix_len is_blank line) 0) (b ∷ line)) [
  | true ↦ λ (blank : is_blank b ≡ true).
      let one : suc (prefix_len is_blank line) ≡ 1 + prefix_len is_blank line = omega arith in
      subst (λ n. BeginsWord n (b ∷ line)) one (begins_word line)
  | false ↦ λ (blank : is_blank b ≡ false) _.
      let some : 0 < 1 + position_or_len is_blank line = omega arith in
      subst (λ t. 0 < cond (not t) (1 + position_or_len is_blank line) 0) (sym blank) some
] refl

-- a line that begins with a word: the word, and the words behind it
words_of-first : (line : List ℕ) (n : ℕ) → 0 < n → n ≡ position_or_len is_blank line → n < length line → words_of line ≡ take n line ∷ words_of (drop (n + 1) line)
unfolding words_of
words_of-first line n some is lt =
    let filled : has_bytes (take n line) ≡ true = let long : length (take n line) ≡ n = length-take-le n line (omega arith) in grind (arith, nat_tests) in
    let rest = filter has_bytes (slice_split is_blank (drop (n + 1) line)) in
    ap (filter has_bytes) (slice_split-cut is_blank line n is lt) ∙ ap (λ t. cond t (take n line ∷ rest) rest) filled

words_of-one : (line : List ℕ) → 0 < length line → length line ≤ position_or_len is_blank line → words_of line ≡ line ∷ []
unfolding words_of
words_of-one line some le =
    let filled : has_bytes line ≡ true = grind (arith, nat_tests) in
    ap (filter has_bytes) (slice_split-one is_blank line le) ∙ ap (λ t. cond t (line ∷ []) []) filled

words_of-last : (line : List ℕ) (n : ℕ) → 0 < n → n ≡ length line → length line ≤ position_or_len is_blank line → words_of line ≡ take n line ∷ words_of (drop (n + 1) line)
unfolding words_of
words_of-last line n some all le =
    words_of-one line (omega arith) le
    ∙ ap (λ word. word ∷ []) (sym (take_all n line (omega arith)))
    ∙ ap (λ rest. take n line ∷ words_of rest) (sym (drop_all (n + 1) line (omega arith)))

words_of-cut : (line : List ℕ) (n : ℕ) → 0 < n → n ≤ length line → n ≡ position_or_len is_blank line → words_of line ≡ take n line ∷ words_of (drop (n + 1) line)
words_of-cut line n some le is = elim (cases_lt n (length line)) [
  | inl lt ↦ words_of-first line n some is lt
  | inr ge ↦ words_of-last line n some (omega arith) (omega arith)
]

words_of-nothing : (rest : List ℕ) → length rest ≡ 0 → words_of rest ≡ []
unfolding words_of
words_of-nothing [] e = refl
words_of-nothing (b ∷ rest) e = absurd (omega arith)

-- a line of blanks has no word
pub words_of-none : (line : List ℕ) (k : ℕ) → k ≡ prefix_len is_blank line → length (drop k line) ≡ 0 → words_of line ≡ []
words_of-none line k is none = words_of-skip line ∙ ap (λ n. words_of (drop n line)) (sym is) ∙ words_of-nothing (drop k line) none

-- the first word of a line behind k blanks, of n bytes
pub words_of-word : (line words : List ℕ) (k n : ℕ) → k ≡ prefix_len is_blank line → words ≡ drop k line → 0 < length words → n ≤ length words → n ≡ position_or_len is_blank words → words_of line ≡ take n words ∷ words_of (drop (n + 1) words)
words_of-word line words k n is cut some le at =
    let here : words ≡ drop (prefix_len is_blank line) line = cut ∙ ap (λ j. drop j line) is in
    let long : 0 < length (drop (prefix_len is_blank line) line) = omega (arith, ap length here) in
    let begins : 0 < position_or_len is_blank words = subst (λ w. 0 < position_or_len is_blank w) (sym here) (begins_word line long) in
    words_of-skip line ∙ ap words_of (sym here) ∙ words_of-cut words n (omega arith) le at
