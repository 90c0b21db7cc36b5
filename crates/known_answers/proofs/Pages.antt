-- Blocks of a tree and their words, one after the other.
use Rattle.std.proofs.Common.{◌≡◌, ℕ, ◌+◌, List, [], ◌∷◌, ◌++◌, Option, sym, ap, ◌∙◌, add-one}
use Rattle.std.proofs.lemmas.List.{append_assoc, append-nil}
use Rattle.std.specs.Prelude.{codes}
use Rattle.disk_model.specs.State.{FileState}
use Rattle.node_image.specs.Selection.{row}
use Rattle.known_answers.specs.Files.{IsKept}
use Rattle.known_answers.specs.Trees.{page_word, page_words}

-- one more block
page_words-append : (pages : List (Option (List ℕ))) (page : Option (List ℕ))
    → page_words (pages ++ page ∷ []) ≡ page_words pages ++ (codes " " ++ page_word page)
page_words-append [] page = append-nil (codes " " ++ page_word page)
page_words-append (p ∷ pages) page =
    ap (λ z. codes " " ++ page_word p ++ z) (page_words-append pages page)
    ∙ sym (append_assoc (codes " " ++ page_word p) (page_words pages) (codes " " ++ page_word page))

-- the line after one more block
pub words_more : (f : ℕ → Option (List ℕ)) (k : ℕ) (front line spaced word next : List ℕ)
    → line ≡ front ++ page_words (row f k) → spaced ≡ line ++ codes " " → word ≡ page_word (f k) → next ≡ spaced ++ word
    → next ≡ front ++ page_words (row f (k + 1))
words_more f k front line spaced word next so_far space is more =
    more
    ∙ (λ i. space i ++ is i)
    ∙ append_assoc line (codes " ") (page_word (f k))
    ∙ ap (λ z. z ++ (codes " " ++ page_word (f k))) so_far
    ∙ append_assoc front (page_words (row f k)) (codes " " ++ page_word (f k))
    ∙ ap (λ z. front ++ z) (sym (page_words-append (row f k) (f k)))
    ∙ ap (λ n. front ++ page_words (row f n)) (sym (add-one k))

-- a file that reads as a kept one did is kept
pub kept_then : (old new : FileState) (bytes : List ℕ) → IsKept old bytes → IsKept new old.reads → IsKept new bytes
kept_then old new bytes kept then = record { reads = then.reads ∙ kept.reads; steady = then.steady; tells = then.tells }
