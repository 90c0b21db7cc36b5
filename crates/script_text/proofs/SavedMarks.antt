-- The marks that are kept while a script is read.
use Rattle.std.proofs.Common.{◌≡◌, ℕ, Bool, true, false, cond, ◌||◌, List, [], ◌∷◌, ◌++◌, Option, Some, None, refl, sym, ap, ◌∙◌, Vec, Global}
use Rattle.std.specs.List.{list_any}
use Rattle.std.specs.Option.{option_map, option_map_or}
use Rattle.std.specs.Cmp.Lexicographic.{same_text}
use Rattle.std.proofs.lemmas.List.Folds.{list_any-append}
use Rattle.script_text.specs.declared.script.Step.{Step}
use Rattle.script_text.specs.Words.{same_word}
use Rattle.script_text.specs.Script.{IsSavedIn, is_saved, saved_mark, with_mark}

-- whether a mark is among those that are kept
abbrev is_kept : List ℕ → List (Vec ℕ Global) → Bool
is_kept mark kept = list_any (λ k. same_word mark k.items) kept

pub or-false : (b : Bool) → (b || false) ≡ b
or-false true = refl
or-false false = refl

or-true : (b : Bool) → (b || true) ≡ true
or-true true = refl
or-true false = refl

-- a mark that is kept is not kept again
kept-again : (mark : List ℕ) (kept : List (Vec ℕ Global)) (more : Vec ℕ Global) (same : Bool) → same_word mark more.items ≡ same → is_kept more.items kept ≡ true → is_kept mark kept ≡ (is_kept mark kept || same)
kept-again mark kept more false is here = sym (or-false (is_kept mark kept))
kept-again mark kept more true is here =
    let one : mark ≡ more.items = same_text mark more.items (sym is) in
    ap (λ m. is_kept m kept) one ∙ here ∙ sym (or-true (is_kept mark kept))

kept-insert : (mark : List ℕ) (kept : List (Vec ℕ Global)) (more : Vec ℕ Global) → is_kept mark (with_mark kept (Some more)) ≡ (is_kept mark kept || same_word mark more.items)
kept-insert mark kept more = by (is_kept more.items kept) refl
  where
    by : (c : Bool) → is_kept more.items kept ≡ c → is_kept mark (cond c kept (kept ++ more ∷ [])) ≡ (is_kept mark kept || same_word mark more.items)
    by true here = kept-again mark kept more (same_word mark more.items) refl here
    by false new = list_any-append (λ (k : Vec ℕ Global). same_word mark k.items) kept (more ∷ []) ∙ ap (λ b. is_kept mark kept || b) (or-false (same_word mark more.items))

-- with a step more, and its mark kept, if it has one
pub saved-step : (steps : List Step) (kept : List (Vec ℕ Global)) (step : Step) (more : Option (Vec ℕ Global)) → IsSavedIn steps kept → option_map (λ m. m.items) more ≡ saved_mark step
    → IsSavedIn (steps ++ step ∷ []) (with_mark kept more)
saved-step steps kept step more is marked mark =
    let behind : is_saved mark (step ∷ []) ≡ option_map_or (same_word mark) (option_map (λ (m : Vec ℕ Global). m.items) more) false =
    or-false (option_map_or (same_word mark) (saved_mark step) false) ∙ ap (λ (m : Option (List ℕ)). option_map_or (same_word mark) m false) (sym marked) in
    one more
    ∙ ap (λ b. b || option_map_or (same_word mark) (option_map (λ (m : Vec ℕ Global). m.items) more) false) (is mark)
    ∙ ap (λ b. is_saved mark steps || b) (sym behind)
    ∙ sym (list_any-append (λ (s : Step). option_map_or (same_word mark) (saved_mark s) false) steps (step ∷ []))
  where
    one : (m : Option (Vec ℕ Global)) → is_kept mark (with_mark kept m) ≡ (is_kept mark kept || option_map_or (same_word mark) (option_map (λ (v : Vec ℕ Global). v.items) m) false)
    one None = sym (or-false (is_kept mark kept))
    one (Some v) = kept-insert mark kept v
