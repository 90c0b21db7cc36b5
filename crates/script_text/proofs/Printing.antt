-- Bytes written in hex, one after another.
use Rattle.std.proofs.Common.{◌≡◌, ◌+◌, ◌/◌, ◌%◌, ◌<◌, ◌≤◌, ℕ, List, [], ◌∷◌, ◌++◌, length, drop, get_or, slice_index, refl, sym, ap, ◌∙◌, append_assoc, append-nil}
use Rattle.std.proofs.lemmas.List.{at_drop_more, at_drop_all}
use Rattle.hex.specs.Hex.{encode_lower, encode_with, lower_digits}

encode_lower-cons : (byte : ℕ) (bytes : List ℕ) → encode_lower (byte ∷ bytes) ≡ (slice_index lower_digits (byte / 16) ∷ slice_index lower_digits (byte % 16) ∷ []) ++ encode_lower bytes
unfolding encode_with
encode_lower-cons byte bytes = refl

pub encode_lower-more : (bytes : List ℕ) (i : ℕ) (old new : List ℕ) → i < length bytes → new ≡ old ++ slice_index lower_digits (get_or bytes i 0 / 16) ∷ slice_index lower_digits (get_or bytes i 0 % 16) ∷ [] → new ++ encode_lower (drop (i + 1) bytes) ≡ old ++ encode_lower (drop i bytes)
encode_lower-more bytes i old new lt is =
    ap (λ t. t ++ encode_lower (drop (i + 1) bytes)) is
    ∙ append_assoc old _ _
    ∙ ap (λ t. old ++ t) (sym (at_drop_more encode_lower bytes i 0 lt ∙ encode_lower-cons (get_or bytes i 0) (drop (i + 1) bytes)))

pub encode_lower-all : (bytes : List ℕ) (i : ℕ) (out : List ℕ) → length bytes ≤ i → out ++ encode_lower (drop i bytes) ≡ out
unfolding encode_with
encode_lower-all bytes i out le = ap (λ t. out ++ t) (at_drop_all encode_lower bytes i le) ∙ append-nil out

-- seven pieces behind a text
pub append-seven : (old a b c d e f g : List ℕ) → ((((((old ++ a) ++ b) ++ c) ++ d) ++ e) ++ f) ++ g ≡ old ++ ((((((a ++ b) ++ c) ++ d) ++ e) ++ f) ++ g)
append-seven old a b c d e f g = simp append_assoc

-- eleven pieces behind a text
pub append-eleven : (old a b c d e f g h i j k : List ℕ) → ((((((((((old ++ a) ++ b) ++ c) ++ d) ++ e) ++ f) ++ g) ++ h) ++ i) ++ j) ++ k ≡ old ++ ((((((((((a ++ b) ++ c) ++ d) ++ e) ++ f) ++ g) ++ h) ++ i) ++ j) ++ k)
append-eleven old a b c d e f g h i j k = simp append_assoc
