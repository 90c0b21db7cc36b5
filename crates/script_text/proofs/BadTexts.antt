-- The text of bad blocks grows by one number at its end.
use Rattle.std.proofs.Common.{◌≡◌, ◌∙◌, ◌+◌, ℕ, suc, List, [], ◌∷◌, ◌++◌, Bool, true, false, if◌then◌else◌, codes, decimal, refl, sym, ap, append_assoc, append-nil, add-one, true≢false}
use Rattle.script_text.specs.BadBlocks.{bad_text, commas_text, is_some_of, member_word, passing}

commas-more : (xs : List ℕ) (n : ℕ) → commas_text (xs ++ n ∷ []) ≡ commas_text xs ++ codes "," ++ decimal n
unfolding commas_text
commas-more [] n = append-nil _
commas-more (x ∷ xs) n =
    ap (λ (t : List ℕ). codes "," ++ decimal x ++ t) (commas-more xs n) ∙ simp append_assoc

bad-more : (xs : List ℕ) (n : ℕ) → bad_text (xs ++ n ∷ []) ≡ bad_text xs ++ member_word (is_some_of xs) ++ decimal n
unfolding bad_text commas_text
bad-more [] n = append-nil _
bad-more (x ∷ xs) n =
    ap (λ (t : List ℕ). codes "bad:" ++ decimal x ++ t) (commas-more xs n) ∙ simp append_assoc

some-more : (xs : List ℕ) (n : ℕ) → is_some_of (xs ++ n ∷ []) ≡ true
some-more [] n = refl
some-more (x ∷ xs) n = refl

pub passing-with : (test : ℕ → Bool) (k : ℕ) (b : Bool) → test (k + 1) ≡ b → passing test (k + 1) ≡ passing test k ++ (if b then (k + 1) ∷ [] else [])
unfolding passing
passing-with test k b is = rw (add-one) (ap (λ (c : Bool). passing test k ++ (if c then suc k ∷ [] else [])) (rw add-one at is))

module _ (test : ℕ → Bool) (k : ℕ) (init out : List ℕ) (some : Bool) (same : out ≡ init ++ bad_text (passing test k)) (found : some ≡ is_some_of (passing test k)) where
  pub bad-next : (next : List ℕ) → test (k + 1) ≡ true → next ≡ out ++ member_word some ++ decimal (k + 1) → next ≡ init ++ bad_text (passing test (k + 1))
  bad-next next is wrote =
      let grown : bad_text (passing test (k + 1)) ≡ bad_text (passing test k) ++ member_word (is_some_of (passing test k)) ++ decimal (k + 1) =
      ap bad_text (passing-with test k true is) ∙ bad-more (passing test k) (k + 1) in
      rw (wrote, same, found, grown) (simp append_assoc)

  pub some-next : test (k + 1) ≡ true → true ≡ is_some_of (passing test (k + 1))
  some-next is = sym (ap is_some_of (passing-with test k true is) ∙ some-more (passing test k) (k + 1))

  stays : test (k + 1) ≡ false → passing test (k + 1) ≡ passing test k
  stays is = passing-with test k false is ∙ append-nil _

  pub bad-same : test (k + 1) ≡ false → out ≡ init ++ bad_text (passing test (k + 1))
  bad-same is = same ∙ ap (λ (xs : List ℕ). init ++ bad_text xs) (sym (stays is))

  pub some-same : test (k + 1) ≡ false → some ≡ is_some_of (passing test (k + 1))
  some-same is = found ∙ ap is_some_of (sym (stays is))

pub bad-none : (test : ℕ → Bool) (init : List ℕ) → init ≡ init ++ bad_text (passing test 0)
unfolding passing bad_text
bad-none test init = sym (append-nil init)
