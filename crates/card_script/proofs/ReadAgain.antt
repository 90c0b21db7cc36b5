-- A line that is printed is read again as itself.
use Rattle.std.proofs.Common.{◌≡◌, ◌<◌, ◌≤◌, ◌^◌, ◌&&◌, ℕ, List, [], ◌∷◌, ◌++◌, length, Bool, true, false, cond, Option, Some, None, refl, sym, ap, ◌∙◌, lit<, lit≤, append_assoc, arith}
use Rattle.std.specs.Prelude.{codes, decimal}
use Rattle.std.specs.List.{AllByRecursion}
use Rattle.std.specs.Option.{option_map}
use Rattle.hex.specs.Hex.{encode_lower}
use Rattle.tee_types.specs.Identifier.{IsIdentifier}
use Rattle.store_model.specs.Sound.{AreBytes}
use Rattle.script_text.specs.Calls.{◌>>=◌}
use Rattle.script_text.specs.Lines.{is_ascii, words_of}
use Rattle.script_text.specs.Words.{bytes_of, id_of, number_of, uuid_of}
use Rattle.script_text.specs.Forms.{bytes_text, uuid_text}
use Rattle.card_script.specs.declared.card_line.CardLine.{CardLine}
use Rattle.card_script.specs.declared.card_line.CardLine.TheVariants.{Put, Get, Remove, List as ListLine, Stop, Remount}
use Rattle.card_script.specs.CardLines.{line_words, name_words, put_words, stop_words, verb_of}
use Rattle.card_script.specs.CardScripts.{line_of, words_line}
use Rattle.card_script.specs.CardText.{line_text}
use Rattle.card_script.specs.CardLaws.{IsNamed, LinesReadAgain}
use Rattle.card_script.proofs.Spaced.{IsPrinted, IsWord, is_ascii-spaced, printed-literal, spaced, words_of-spaced}
use Rattle.card_script.proofs.PrintedWords.{bytes-word, hex-word, number-word, uuid-word}
use Rattle.card_script.proofs.PrintedValues.{bytes_of-text, id_of-text, number_of-text, uuid_of-text}

-- a text that is words with single spaces between them is read by these words
by_words : (above : List CardLine) (line : List ℕ) (words : List (List ℕ)) → line ≡ spaced words → AllByRecursion IsWord words → line_of above line ≡ words_line above words
unfolding line_of
by_words above line words is are =
    ap (line_of above) is
    ∙ ap (λ t. cond t (words_line above (words_of (spaced words))) None) (is_ascii-spaced words are)
    ∙ ap (words_line above) (words_of-spaced words are)

-- the script with a line, where it is one
abbrev with_line : List CardLine → Option CardLine → Option (List CardLine)
with_line above line = line >>= (λ l. Some (above ++ l ∷ []))

word-id : (app id : List ℕ) → IsNamed app id → IsWord (encode_lower id)
word-id app id named = let some : 1 ≤ length id = (named.id_size).0 in hex-word id named.id_bytes (omega arith)

name_words-text : (app id : List ℕ) → IsNamed app id → name_words (uuid_text app ∷ encode_lower id ∷ []) ≡ Some (app, id)
unfolding name_words
name_words-text app id named =
    ap (λ a. a >>= (λ x. id_of (encode_lower id) >>= (λ i. Some (x, i)))) (uuid_of-text app named.app_size named.app_bytes)
    ∙ ap (λ i. i >>= (λ y. Some (app, y))) (id_of-text id named.id_size named.id_bytes)

put_words-text : (app id bytes : List ℕ) → IsNamed app id → AreBytes bytes → put_words (uuid_text app ∷ encode_lower id ∷ bytes_text bytes ∷ []) ≡ Some (Put app id bytes)
unfolding put_words
put_words-text app id bytes named are =
    ap (λ a. a >>= (λ x. id_of (encode_lower id) >>= (λ i. bytes_of (bytes_text bytes) >>= (λ b. Some (Put x i b))))) (uuid_of-text app named.app_size named.app_bytes)
    ∙ ap (λ i. i >>= (λ y. bytes_of (bytes_text bytes) >>= (λ b. Some (Put app y b)))) (id_of-text id named.id_size named.id_bytes)
    ∙ ap (λ b. b >>= (λ z. Some (Put app id z))) (bytes_of-text bytes are)

stop_words-text : (n : ℕ) → n < 2 ^ 32 → stop_words (decimal n ∷ []) ≡ Some (Stop n)
unfolding stop_words
stop_words-text n fits = ap (λ m. m >>= (λ x. Some (Stop x))) (number_of-text n fits)

put-word : IsWord (codes "put")
put-word = record { some = lit< tt; printed = printed-literal (codes "put") refl }

get-word : IsWord (codes "get")
get-word = record { some = lit< tt; printed = printed-literal (codes "get") refl }

remove-word : IsWord (codes "remove")
remove-word = record { some = lit< tt; printed = printed-literal (codes "remove") refl }

list-word : IsWord (codes "list")
list-word = record { some = lit< tt; printed = printed-literal (codes "list") refl }

stop-word : IsWord (codes "stop")
stop-word = record { some = lit< tt; printed = printed-literal (codes "stop") refl }

remount-word : IsWord (codes "remount")
remount-word = record { some = lit< tt; printed = printed-literal (codes "remount") refl }

pub lines_read_again : LinesReadAgain
unfolding words_line line_words verb_of
lines_read_again above (Put app id bytes) formed =
    by_words above (line_text (Put app id bytes)) (codes "put" ∷ uuid_text app ∷ encode_lower id ∷ bytes_text bytes ∷ []) (simp append_assoc)
    (put-word, (uuid-word app, (word-id app id formed.0, (bytes-word bytes formed.1, tt))))
    ∙ ap (with_line above) (put_words-text app id bytes formed.0 formed.1)
lines_read_again above (Get app id) formed =
    by_words above (line_text (Get app id)) (codes "get" ∷ uuid_text app ∷ encode_lower id ∷ []) (simp append_assoc)
    (get-word, (uuid-word app, (word-id app id formed, tt)))
    ∙ ap (λ n. with_line above (option_map (λ m. Get m.0 m.1) n)) (name_words-text app id formed)
lines_read_again above (Remove app id) formed =
    by_words above (line_text (Remove app id)) (codes "remove" ∷ uuid_text app ∷ encode_lower id ∷ []) (simp append_assoc)
    (remove-word, (uuid-word app, (word-id app id formed, tt)))
    ∙ ap (λ n. with_line above (option_map (λ m. Remove m.0 m.1) n)) (name_words-text app id formed)
lines_read_again above ListLine formed = by_words above (line_text ListLine) (codes "list" ∷ []) refl (list-word, tt)
lines_read_again above (Stop n) formed =
    by_words above (line_text (Stop n)) (codes "stop" ∷ decimal n ∷ []) refl (stop-word, (number-word n (omega arith), tt))
    ∙ ap (with_line above) (stop_words-text n formed)
lines_read_again above Remount formed = by_words above (line_text Remount) (codes "remount" ∷ []) refl (remount-word, tt)
