-- The content of an object with bad blocks, and of one without.
use Rattle.std.proofs.Common.{◌≡◌, ℕ, List, [], ◌∷◌, ◌++◌, true, false, refl, sym, true≢false}
use Rattle.script_text.specs.BadBlocks.{bad_text, is_some_of}
use Rattle.run_acts.specs.Lines.{content_text, data_text}

pub content-some : (bytes xs : List ℕ) → is_some_of xs ≡ true → content_text bytes xs ≡ bad_text xs
unfolding content_text
content-some bytes [] is = absurd (true≢false (sym is))
content-some bytes (x ∷ xs) is = refl

pub content-none : (bytes xs : List ℕ) → is_some_of xs ≡ false → bad_text xs ++ data_text bytes ≡ content_text bytes xs
unfolding content_text bad_text
content-none bytes [] is = refl
content-none bytes (x ∷ xs) is = absurd (true≢false is)
