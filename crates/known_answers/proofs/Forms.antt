-- Words that have a form, and words that have none.
use Rattle.std.proofs.Common.{not, inl, inr, ◌/◌, ◌%◌, true≢false, zero, suc, ◌≡◌, ◌≢◌, ℕ, ◌^◌, ◌<◌, ◌≤◌, Bool, true, false, ◌||◌, List, [], ◌∷◌, length, refl, sym, ap, ◌∙◌, subst, arith, Bor, add-one, get_or, take, map, ◌+◌}
use Rattle.std.specs.Prelude.{bytes_eq, codes, decimal, is_ok, IsTrue, IsFalse}
use Rattle.std.specs.Prelude.{Result, Ok, Err}
use Rattle.std.specs.Str.Parse.{ParsesUnsigned}
use Rattle.std.proofs.lemmas.Fmt.{decimal_is_IsNumeral, parse-decimal}
use Rattle.std.proofs.lemmas.Slice.Eq.{bytes_eq-Decides}
use Rattle.std.proofs.lemmas.Result.{OkIff-at_ok}
use Rattle.std.proofs.lemmas.Bool.{and_from, and_left, and_parts, and_right, cases_eq}
use borrow.Author.Tests.{leb-true, le-leb, ltb-true, lt-ltb}
use Rattle.hex.specs.declared.error.FromHexError.{FromHexError}
use Rattle.hex.specs.declared.error.FromHexError.TheVariants.{InvalidStringLength, OddLength}
use Rattle.hex.specs.Hex.{decode_of, decode_sized}
use Rattle.hex.proofs.HexLemmas.{decode_of-ok, decode_pairs-err, decode_sized-odd, decode_sized-other}
use Rattle.hex.proofs.Pairs.{decode_sized-pairs}
use Rattle.node_image.specs.Layout.{greatest_of}
use Rattle.std.proofs.lemmas.Bool.Decides.{Decides-eqb}
use Rattle.known_answers.specs.declared.question_lines.Unreadable.TheVariants.{Form}
use Rattle.known_answers.specs.Refusals.{unreadable_by}
use Rattle.known_answers.specs.Words.{IsArgument}
use Rattle.known_answers.specs.Forms.{has_its_pages, is_iv, is_array, are_arrays, is_argument, number_in, is_number}

falls : (b : Bool) → (b ≡ true → ⊥) → IsFalse b
falls true h = absurd (h refl)
falls false h = refl

or_true : (x y : Bool) → y ≡ true → (x || y) ≡ true
or_true true y e = refl
or_true false y e = e

or_parts : (x y : Bool) → (x || y) ≡ true → (x ≡ true → ⊥) → y ≡ true
or_parts true y e other = absurd (other refl)
or_parts false y e other = e

-- arguments

pub argument_of_none : (word : List ℕ) → word ≡ codes "-" → IsTrue (is_argument word)
unfolding is_argument
argument_of_none word e = rw e refl

pub argument_of_nothing : (word : List ℕ) → length word ≡ 0 → IsFalse (is_argument word)
unfolding is_argument
argument_of_nothing [] e = refl
argument_of_nothing (c ∷ cs) e = absurd (omega arith)

pub argument_of_hex : (word bytes : List ℕ) → decode_of word ≡ Ok bytes → word ≢ [] → length bytes ≤ 2 ^ 24 → IsTrue (is_argument word)
unfolding is_argument
argument_of_hex word bytes read some few =
    let size = (decode_of-ok word bytes read).2 in
    let low : 1 ≤ length word = not_empty word some in
    let high : length word ≤ 2 ^ 25 = omega arith in
    or_true _ _ (and_from _ _ (and_from _ _ (le-leb 1 (length word) low) (le-leb (length word) (2 ^ 25) high)) (ap is_ok read))
  where
    not_empty : (word : List ℕ) → word ≢ [] → 1 ≤ length word
    not_empty [] some = absurd (some refl)
    not_empty (c ∷ cs) some = omega arith

-- what an argument that is not `-` is
argument_read : (word : List ℕ) → word ≢ codes "-" → IsTrue (is_argument word) → (is_ok (decode_of word) ≡ true) × (length word ≤ 2 ^ 25)
unfolding is_argument
argument_read word other h =
    let hex = and_parts _ _ (or_parts _ _ h (λ e. other ((bytes_eq-Decides word (codes "-")).0 e))) in
    (hex.1, leb-true (length word) (2 ^ 25) (and_parts _ _ hex.0).1)

pub argument_not_hex : (word : List ℕ) (error : FromHexError) → word ≢ codes "-" → decode_of word ≡ Err error → IsFalse (is_argument word)
argument_not_hex word error other bad =
    falls _ (λ h. let good = (argument_read word other h).0 in let wrong : is_ok (decode_of word) ≡ false = ap is_ok bad in cc)

pub argument_too_long : (word bytes : List ℕ) → word ≢ codes "-" → decode_of word ≡ Ok bytes → 2 ^ 24 < length bytes → IsFalse (is_argument word)
argument_too_long word bytes other read many =
    falls _ (λ h. let few = (argument_read word other h).1 in let size = (decode_of-ok word bytes read).2 in absurd (omega arith))

-- numbers

pub number_in_decimal : (word : List ℕ) (n : ℕ) → n < 2 ^ 64 → word ≡ decimal n → number_in word ≡ n
number_in_decimal word n low e = rw e (decimal_is_IsNumeral n low).1

pub number_of_decimal : (word : List ℕ) (n : ℕ) → n < 2 ^ 64 → word ≡ decimal n → IsTrue (is_number word)
unfolding is_number
number_of_decimal word n low e =
    let same : number_in word ≡ n = number_in_decimal word n low e in
    and_from _ _ (lt-ltb (number_in word) (2 ^ 64) (subst (λ k. k < 2 ^ 64) (sym same) low))
    ((bytes_eq-Decides word (decimal (number_in word))).1 (e ∙ ap decimal (sym same)))

number_read : (word : List ℕ) → IsTrue (is_number word) → (number_in word < 2 ^ 64) × (word ≡ decimal (number_in word))
unfolding is_number
number_read word h =
    let parts = and_parts _ _ h in
    (ltb-true (number_in word) (2 ^ 64) parts.0, (bytes_eq-Decides word (decimal (number_in word))).0 parts.1)

number_parses : {E : Type 0} (word : List ℕ) (r : Result ℕ E) → ParsesUnsigned 64 10 word r → IsTrue (is_number word)
    → (r ≡ Ok (number_in word)) × (word ≡ decimal (number_in word))
number_parses word r parsed h =
    let p = number_read word h in (parse-decimal 64 (number_in word) word r p.0 p.0 p.1 parsed, p.1)

pub number_unparsed : {E : Type 0} (word : List ℕ) (r : Result ℕ E) (error : E) → ParsesUnsigned 64 10 word r → r ≡ Err error → IsFalse (is_number word)
number_unparsed word r error parsed bad =
    falls _ (λ h. let good = (number_parses word r parsed h).0 in cc)

pub number_otherwise : {E : Type 0} (word : List ℕ) (r : Result ℕ E) (n : ℕ) → ParsesUnsigned 64 10 word r → r ≡ Ok n → word ≢ decimal n → IsFalse (is_number word)
number_otherwise word r n parsed is other =
    falls _ (λ h. let p = number_parses word r parsed h in let same : n ≡ number_in word = cc (is, p.0) in other (p.1 ∙ ap decimal (sym same)))

pub number_taken : {E : Type 0} (word : List ℕ) (r : Result ℕ E) (n : ℕ) → ParsesUnsigned 64 10 word r → r ≡ Ok n → word ≡ decimal n → IsTrue (is_number word)
number_taken word r n parsed is e =
    let p = OkIff-at_ok r _ _ n parsed is in number_of_decimal word n (subst (λ k. k < 2 ^ 64) (sym p.1) p.0.1) e

-- arrays

-- where a word is no such array, it was the form that was bad, and no memory was wanted
pub array_not_read : (word : List ℕ) (count : ℕ) (error : FromHexError) → decode_sized word count ≡ Err error → unreadable_by error ≡ Form
array_not_read word count error bad =
    elim (cases_eq (length word % 2) 1) [
      | inl odd ↦
          let is : error ≡ OddLength = cc (bad, decode_sized-odd word count odd) in
          ap unreadable_by is
      | inr other ↦
          let even : length word % 2 ≡ 0 = omega arith in
          elim (cases_eq (length word / 2) count) [
            | inl half ↦
                let is = (decode_pairs-err 0 word error even (sym (decode_sized-pairs word count even half) ∙ bad)).1 in
                ap unreadable_by is
            | inr longer ↦
                let is : error ≡ InvalidStringLength = cc (bad, decode_sized-other word count even longer) in
                ap unreadable_by is
          ]
    ]

-- one more array
pub arrays_more : (count : ℕ) (words : List (Bor (List ℕ))) (i : ℕ) (d : Bor (List ℕ)) → i < length words
    → IsTrue (are_arrays count (map (λ (w : Bor (List ℕ)). w.now) (take i words))) → IsTrue (is_array count (get_or words i d).now)
    → IsTrue (are_arrays count (map (λ (w : Bor (List ℕ)). w.now) (take (i + 1) words)))
arrays_more count words i d lt so_far next = rw add-one (go words i lt so_far next)
  where
    go : (words : List (Bor (List ℕ))) (i : ℕ) → i < length words
        → IsTrue (are_arrays count (map (λ (w : Bor (List ℕ)). w.now) (take i words))) → IsTrue (is_array count (get_or words i d).now)
        → IsTrue (are_arrays count (map (λ (w : Bor (List ℕ)). w.now) (take (suc i) words)))
    go [] i lt so_far next = absurd (omega arith)
    go (w ∷ words) zero lt so_far next = and_from _ _ next refl
    go (w ∷ words) (suc i) lt so_far next = let p = and_parts _ _ so_far in and_from _ _ p.0 (go words i (omega arith) p.1 next)

-- a word that is no such array
pub arrays_without : (count : ℕ) (words : List (Bor (List ℕ))) (i : ℕ) (d : Bor (List ℕ)) → i < length words
    → IsFalse (is_array count (get_or words i d).now) → IsFalse (are_arrays count (map (λ (w : Bor (List ℕ)). w.now) words))
arrays_without count [] i d lt bad = absurd (omega arith)
arrays_without count (w ∷ words) zero d lt bad = and_left _ _ bad
arrays_without count (w ∷ words) (suc i) d lt bad = and_right _ _ (arrays_without count words i d (omega arith) bad)

-- initialization vectors

pub iv_empty : (word bytes : List ℕ) → IsArgument word bytes → length bytes ≡ 0 → IsFalse (is_iv word)
unfolding is_iv
iv_empty word bytes is none =
    falls _ (λ h.
    let parts = and_parts _ _ h in
    let other : word ≢ codes "-" = λ e. true≢false (sym parts.1 ∙ ap not ((bytes_eq-Decides word (codes "-")).1 e)) in
    let size = (decode_of-ok word bytes (is.2 other)).2 in
    nothing word is.0 (omega arith))
  where
    nothing : (word : List ℕ) → word ≢ [] → length word ≡ 0 → ⊥
    nothing [] some e = some refl
    nothing (c ∷ cs) some e = absurd (omega arith)

pub iv_filled : (word bytes : List ℕ) → IsArgument word bytes → 1 ≤ length bytes → IsTrue (is_argument word) → IsTrue (is_iv word)
unfolding is_iv
iv_filled word bytes is some read =
    and_from _ _ read (ap not (falls (bytes_eq word (codes "-")) (λ h.
    let none : length bytes ≡ 0 = ap length (is.1 ((bytes_eq-Decides word (codes "-")).0 h)) in absurd (omega arith))))

pub iv_not : (word : List ℕ) → IsFalse (is_argument word) → IsFalse (is_iv word)
unfolding is_iv
iv_not word bad = and_left _ _ bad

-- the pages of a tree

pages_read : (word : List ℕ) (n : ℕ) (pages : List (List ℕ)) → n < 2 ^ 64 → word ≡ decimal n → IsTrue (has_its_pages word pages)
    → (n ≤ 2 ^ 20) × (length pages ≡ greatest_of n)
unfolding has_its_pages
pages_read word n pages low e h =
    let same : number_in word ≡ n = number_in_decimal word n low e in
    let front = and_parts _ _ (and_parts _ _ h).0 in
    let few : number_in word ≤ 2 ^ 20 = leb-true (number_in word) (2 ^ 20) (and_parts _ _ front.0).1 in
    let all : length pages ≡ greatest_of (number_in word) = (Decides-eqb (length pages) (greatest_of (number_in word))).0 front.1 in
    (subst (λ k. k ≤ 2 ^ 20) same few, all ∙ ap greatest_of same)

pub too_many_bytes : (word : List ℕ) (n : ℕ) (pages : List (List ℕ)) → n < 2 ^ 64 → word ≡ decimal n → 2 ^ 20 < n
    → IsFalse (has_its_pages word pages)
too_many_bytes word n pages low e many =
    falls _ (λ h. let few = (pages_read word n pages low e h).0 in absurd (omega arith))

pub other_pages : (word : List ℕ) (n : ℕ) (pages : List (List ℕ)) → n < 2 ^ 64 → word ≡ decimal n → length pages ≢ greatest_of n
    → IsFalse (has_its_pages word pages)
other_pages word n pages low e other = falls _ (λ h. other (pages_read word n pages low e h).1)
