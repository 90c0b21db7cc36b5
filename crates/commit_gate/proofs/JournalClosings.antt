-- Closing a handle that is not live.
use Rattle.std.proofs.Common.{◌≡◌, ℕ, Bool, List, [], ◌∷◌, ◌==◌, Some, None, refl, sym, ap, ◌∙◌, inl, inr}
use Rattle.std.specs.Map.{lookup, remove_entry}
use Rattle.std.proofs.lemmas.Bool.{cases_Bool, cond-true, cond-false}
use Rattle.store_model.specs.declared.session.Handle.{Handle}
use Rattle.store_model.specs.Machine.{Session, handle_at, without_handle}

removed_none : (test : ℕ → Bool) (entries : List (ℕ × Handle)) → lookup test entries ≡ None → remove_entry test entries ≡ entries
removed_none test [] none = refl
removed_none test (e ∷ entries) none = elim (cases_Bool (test e.0)) [
  | inl own ↦ absurd (cc (sym (cond-true (test e.0) (Some e.1) (lookup test entries) own) ∙ none))
  | inr off ↦
      cond-false (test e.0) entries (e ∷ remove_entry test entries) off
      ∙ ap (λ (l : List (ℕ × Handle)). e ∷ l) (removed_none test entries (sym (cond-false (test e.0) (Some e.1) (lookup test entries) off) ∙ none))
]

pub closed_none : (s : Session) (number : ℕ) → None ≡ handle_at s number → s ≡ without_handle s number
closed_none s number none = sym (ap (λ (l : List (ℕ × Handle)). record s { handles = l }) (removed_none (λ n. n == number) s.handles (sym none)))
