-- Sessions that are opened one after another.
use Rattle.std.proofs.Common.{◌≡◌, ◌∙◌, ◌+◌, ◌<◌, ℕ, List, [], ◌∷◌, ◌++◌, length, slice_index_or, refl, sym, ap, inl, inr, arith}
use Rattle.std.proofs.lemmas.Bool.{cases_eq}
use Rattle.std.proofs.lemmas.List.{get_or_append_left, get_or_push, length_push}
use Rattle.quota_store.specs.CallerSessions.{CallerSession}
use Rattle.object_calls.specs.OpeningSessions.{AreUnseated, unseated}

module _ {E : Type 0} where
  pub none_unseated : AreUnseated {E = E} [] []
  none_unseated = record { many = refl; each = λ i d within. absurd (omega (arith, within)) }

  -- one session more
  pub one_unseated : (applications : List (List ℕ)) (sessions : List (CallerSession E)) (app : List ℕ) (entropy : E) (session : CallerSession E) → AreUnseated applications sessions
      → session ≡ unseated (length applications) app entropy → AreUnseated (applications ++ app ∷ []) (sessions ++ session ∷ [])
  one_unseated applications sessions app entropy session s is = record {
    many = length_push sessions session ∙ ap (λ n. n + 1) s.many ∙ sym (length_push applications app);
    each = each;
  }
    where
      as_new : (x : CallerSession E) → x ≡ session → (n : ℕ) → n ≡ length applications → (a : List ℕ) → a ≡ app → x ≡ unseated n a x.entropy
      as_new x same n number a its =
          let at : session ≡ unseated (length applications) app session.entropy = is ∙ ap (λ (y : CallerSession E). unseated (length applications) app y.entropy) (sym is) in
          same ∙ at ∙ (λ i. unseated (sym number i) (sym its i) ((sym same i).entropy))

      each : (i : ℕ) (d : CallerSession E) → i < length (sessions ++ session ∷ [])
          → slice_index_or (sessions ++ session ∷ []) i d ≡ unseated i (slice_index_or (applications ++ app ∷ []) i []) (slice_index_or (sessions ++ session ∷ []) i d).entropy
      each i d within = elim (cases_eq i (length sessions)) [
        | inl last ↦
            as_new (slice_index_or (sessions ++ session ∷ []) i d) (get_or_push sessions session d i (sym last)) i (last ∙ s.many) (slice_index_or (applications ++ app ∷ []) i [])
            (get_or_push applications app [] i (sym (last ∙ s.many)))
        | inr other ↦
            let below : i < length sessions = omega (arith, within, other, length_push sessions session) in
            let here : slice_index_or (sessions ++ session ∷ []) i d ≡ slice_index_or sessions i d = get_or_append_left sessions (session ∷ []) d i below in
            let app_here : slice_index_or (applications ++ app ∷ []) i [] ≡ slice_index_or applications i [] = get_or_append_left applications (app ∷ []) [] i (omega (arith, below, s.many)) in
            here ∙ s.each i d below ∙ (λ j. unseated i (sym app_here j) ((sym here j).entropy))
      ]
