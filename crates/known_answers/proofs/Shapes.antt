-- The words of a line of known length, one by one.
use Rattle.std.proofs.Common.{◌≡◌, ℕ, ◌<◌, ◌≤◌, List, [], ◌∷◌, map, length, get_or, arith, sym, subst, refl, Bor}
use Rattle.std.proofs.lemmas.List.{get_or-map}
use Rattle.known_answers.specs.Words.{IsArray}
use Rattle.known_answers.specs.Asks.{AreParts, word_at}
use Rattle.known_answers.specs.declared.questions.Parts.{Parts}

abbrev pub words_of : List (Bor (List ℕ)) → List (List ℕ)
words_of ws = map (λ (w : Bor (List ℕ)). w.now) ws

-- five words
pub five_words : (ws : List (Bor (List ℕ))) → 5 ≤ length ws → length ws < 6
    → words_of ws ≡ word_at (words_of ws) 0 ∷ word_at (words_of ws) 1 ∷ word_at (words_of ws) 2 ∷ word_at (words_of ws) 3 ∷ word_at (words_of ws) 4 ∷ []
five_words [] low high = absurd (omega arith)
five_words (v ∷ []) low high = absurd (omega arith)
five_words (v ∷ w ∷ []) low high = absurd (omega arith)
five_words (v ∷ w ∷ x ∷ []) low high = absurd (omega arith)
five_words (v ∷ w ∷ x ∷ y ∷ []) low high = absurd (omega arith)
five_words (v ∷ w ∷ x ∷ y ∷ z ∷ []) low high = refl
five_words (v ∷ w ∷ x ∷ y ∷ z ∷ u ∷ ws) low high = absurd (omega arith)

read : (ws : List (Bor (List ℕ))) (d : Bor (List ℕ)) (i : ℕ) → i < length ws → (get_or ws i d).now ≡ word_at (words_of ws) i
read ws d i lt = sym (get_or-map (λ (w : Bor (List ℕ)). w.now) ws i d [] lt)

-- the first four are the parts
pub four_parts : (ws : List (Bor (List ℕ))) (d0 d1 d2 d3 : Bor (List ℕ)) (p : Parts) → 4 ≤ length ws
    → AreParts (get_or ws 0 d0).now (get_or ws 1 d1).now (get_or ws 2 d2).now (get_or ws 3 d3).now p
    → AreParts (word_at (words_of ws) 0) (word_at (words_of ws) 1) (word_at (words_of ws) 2) (word_at (words_of ws) 3) p
four_parts ws d0 d1 d2 d3 p low h =
    subst (λ x. AreParts x (word_at (words_of ws) 1) (word_at (words_of ws) 2) (word_at (words_of ws) 3) p) (read ws d0 0 (omega arith))
    (subst (λ x. AreParts (get_or ws 0 d0).now x (word_at (words_of ws) 2) (word_at (words_of ws) 3) p) (read ws d1 1 (omega arith))
    (subst (λ x. AreParts (get_or ws 0 d0).now (get_or ws 1 d1).now x (word_at (words_of ws) 3) p) (read ws d2 2 (omega arith))
    (subst (λ x. AreParts (get_or ws 0 d0).now (get_or ws 1 d1).now (get_or ws 2 d2).now x p) (read ws d3 3 (omega arith)) h)))

-- the fifth is the array
pub fifth_array : (ws : List (Bor (List ℕ))) (d : Bor (List ℕ)) (bytes : List ℕ) → 5 ≤ length ws → IsArray (get_or ws 4 d).now bytes → IsArray (word_at (words_of ws) 4) bytes
fifth_array ws d bytes low h = subst (λ x. IsArray x bytes) (read ws d 4 (omega arith)) h
