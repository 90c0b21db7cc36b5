-- Words and answers one after the other.
use Rattle.std.proofs.Common.{◌≡◌, ℕ, ◌+◌, ◌<◌, List, [], ◌∷◌, ◌++◌, length, get_or, map, take, refl, sym, ap, ◌∙◌, Bor}
use Rattle.std.proofs.lemmas.List.{append_assoc, append-nil, map-append, take_more}
use Rattle.std.specs.Prelude.{codes}
use Rattle.rpmb_card.specs.Card.{CardState, card_after, card_answer}
use Rattle.known_answers.specs.Lines.{behind_spaces, hex_word, spaced}
use Rattle.known_answers.specs.Answers.{card_answers}

-- one more word
pub behind_spaces-append : (words : List (List ℕ)) (word : List ℕ)
    → behind_spaces (words ++ word ∷ []) ≡ behind_spaces words ++ (codes " " ++ hex_word word)
behind_spaces-append [] word = append-nil (codes " " ++ hex_word word)
behind_spaces-append (w ∷ words) word =
    ap (λ z. codes " " ++ hex_word w ++ z) (behind_spaces-append words word)
    ∙ sym (append_assoc (codes " " ++ hex_word w) (behind_spaces words) (codes " " ++ hex_word word))

-- the card after several frames
abbrev pub card_through : CardState → List (List ℕ) → CardState
card_through card [] = card
card_through card (frame ∷ frames) = card_through (card_after card frame) frames

pub card_through-append : (card : CardState) (frames : List (List ℕ)) (frame : List ℕ)
    → card_through card (frames ++ frame ∷ []) ≡ card_after (card_through card frames) frame
card_through-append card [] frame = refl
card_through-append card (f ∷ frames) frame = card_through-append (card_after card f) frames frame

pub card_answers-append : (card : CardState) (frames : List (List ℕ)) (frame : List ℕ)
    → card_answers card (frames ++ frame ∷ []) ≡ card_answers card frames ++ card_answer (card_through card frames) frame ∷ []
card_answers-append card [] frame = refl
card_answers-append card (f ∷ frames) frame = ap (λ z. card_answer card f ∷ z) (card_answers-append (card_after card f) frames frame)

-- one more word of several
pub spaced-append : (first : List ℕ) (words : List (List ℕ)) (word : List ℕ)
    → spaced (first ∷ (words ++ word ∷ [])) ≡ spaced (first ∷ words) ++ (codes " " ++ hex_word word)
spaced-append first words word =
    ap (λ z. hex_word first ++ z) (behind_spaces-append words word)
    ∙ sym (append_assoc (hex_word first) (behind_spaces words) (codes " " ++ hex_word word))

-- the line after one more word
pub spaced-more : (first : List ℕ) (words : List (Bor (List ℕ))) (i : ℕ) (d : Bor (List ℕ)) (line next : List ℕ) → i < length words
    → line ≡ spaced (first ∷ map (λ (w : Bor (List ℕ)). w.now) (take i words))
    → next ≡ line ++ (codes " " ++ hex_word (get_or words i d).now)
    → next ≡ spaced (first ∷ map (λ (w : Bor (List ℕ)). w.now) (take (i + 1) words))
spaced-more first words i d line next lt so_far more =
    let now : Bor (List ℕ) → List ℕ = λ w. w.now in
    let word : List ℕ = (get_or words i d).now in
    more
    ∙ ap (λ z. z ++ (codes " " ++ hex_word word)) so_far
    ∙ sym (spaced-append first (map now (take i words)) word)
    ∙ ap (λ z. spaced (first ∷ z)) (sym (ap (map now) (take_more words i d lt) ∙ map-append now (take i words) (get_or words i d ∷ [])))

-- the line and the card after one more frame
pub answers-more : (card now : CardState) (first : List ℕ) (frames : List (List ℕ)) (i : ℕ) (line next : List ℕ) → i < length frames
    → line ≡ spaced (card_answers card (first ∷ take i frames)) → now ≡ card_through card (first ∷ take i frames)
    → next ≡ line ++ (codes " " ++ hex_word (card_answer now (get_or frames i [])))
    → next ≡ spaced (card_answers card (first ∷ take (i + 1) frames))
answers-more card now first frames i line next lt so_far is_now more =
    let frame : List ℕ = get_or frames i [] in
    let after : CardState = card_after card first in
    more
    ∙ ap (λ z. z ++ (codes " " ++ hex_word (card_answer now frame))) so_far
    ∙ ap (λ s. spaced (card_answers card (first ∷ take i frames)) ++ (codes " " ++ hex_word (card_answer s frame))) is_now
    ∙ sym (spaced-append (card_answer card first) (card_answers after (take i frames)) (card_answer (card_through after (take i frames)) frame))
    ∙ ap (λ z. spaced (card_answer card first ∷ z)) (sym (card_answers-append after (take i frames) frame))
    ∙ ap (λ z. spaced (card_answers card (first ∷ z))) (sym (take_more frames i [] lt))

pub through-more : (card now next : CardState) (first : List ℕ) (frames : List (List ℕ)) (i : ℕ) → i < length frames
    → now ≡ card_through card (first ∷ take i frames) → next ≡ card_after now (get_or frames i [])
    → next ≡ card_through card (first ∷ take (i + 1) frames)
through-more card now next first frames i lt is_now is_next =
    is_next
    ∙ ap (λ s. card_after s (get_or frames i [])) is_now
    ∙ sym (card_through-append (card_after card first) (take i frames) (get_or frames i []))
    ∙ ap (λ z. card_through card (first ∷ z)) (sym (take_more frames i [] lt))
