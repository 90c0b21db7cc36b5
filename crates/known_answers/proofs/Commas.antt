-- Numbers with commas between them.
use Rattle.std.proofs.Common.{◌≡◌, ℕ, ◌+◌, ◌<◌, List, [], ◌∷◌, ◌++◌, length, get_or, take, decimal, sym, ap, ◌∙◌}
use Rattle.std.proofs.lemmas.List.{append_assoc, append-nil, take_more}
use Rattle.std.specs.Prelude.{codes}
use Rattle.known_answers.specs.Objects.{bad_word, behind_commas}

-- one more number
behind_commas-append : (ns : List ℕ) (n : ℕ) → behind_commas (ns ++ n ∷ []) ≡ behind_commas ns ++ (codes "," ++ decimal n)
behind_commas-append [] n = append-nil (codes "," ++ decimal n)
behind_commas-append (m ∷ ns) n =
    ap (λ z. codes "," ++ decimal m ++ z) (behind_commas-append ns n)
    ∙ sym (append_assoc (codes "," ++ decimal m) (behind_commas ns) (codes "," ++ decimal n))

-- the word after one more block
pub bad_more : (first : ℕ) (blocks : List ℕ) (i : ℕ) (word comma next : List ℕ) → i < length blocks
    → word ≡ bad_word first (take i blocks) → comma ≡ word ++ codes "," → next ≡ comma ++ decimal (get_or blocks i 0)
    → next ≡ bad_word first (take (i + 1) blocks)
bad_more first blocks i word comma next lt so_far is_comma more =
    let block : List ℕ = codes "," ++ decimal (get_or blocks i 0) in
    more
    ∙ ap (λ z. z ++ decimal (get_or blocks i 0)) is_comma
    ∙ append_assoc word (codes ",") (decimal (get_or blocks i 0))
    ∙ ap (λ z. z ++ block) so_far
    ∙ append_assoc (codes "bad:" ++ decimal first) (behind_commas (take i blocks)) block
    ∙ ap (λ z. codes "bad:" ++ decimal first ++ z) (sym (behind_commas-append (take i blocks) (get_or blocks i 0)))
    ∙ ap (λ z. bad_word first z) (sym (take_more blocks i 0 lt))
