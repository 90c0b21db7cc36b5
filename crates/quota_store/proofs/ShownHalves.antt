-- Kept halves that are shown the history one after another.
use Rattle.std.proofs.Common.{◌≡◌, ◌<◌, ◌≤◌, ◌+◌, ◌∙◌, ℕ, length, get_or, Option, Some, None, refl, sym, ap, inl, inr, arith}
use Rattle.std.specs.Prelude.{slice_set}
use Rattle.std.specs.Option.{option_map}
use Rattle.std.proofs.lemmas.Bool.{cases_eq}
use Rattle.std.proofs.lemmas.List.{get_or_default, length-set, same_lists}
use Rattle.history_seats.specs.Rule.{PassFits}
use Rattle.history_seats.specs.Views.{GateView, PassView, Sight}
use Rattle.quota_store.specs.Halves.{AllFit, half_shown, halves_shown, kept_at}
use Rattle.quota_store.proofs.KeptHalves.{Places, length-shown, set_else, set_there, shown_at, within_some}

-- the first so many were shown it, and past what each saw its session has no event
pub record AreShownBelow (gate : GateView) (count : ℕ) (old new : Places) : Type 0 where
  pub many : length new ≡ length old
  pub shown : (k : ℕ) → k < count → kept_at new k ≡ option_map (half_shown gate) (kept_at old k)
  pub fit : (k : ℕ) (half : Sight PassView) → k < count → kept_at old k ≡ Some half → PassFits gate half.knows
  pub stays : (k : ℕ) → count ≤ k → kept_at new k ≡ kept_at old k

module _ (gate : GateView) (old : Places) where
  pub none_shown : AreShownBelow gate 0 old old
  none_shown = record {
    many = refl;
    shown = λ k below. absurd (omega (arith, below));
    fit = λ k half below is. absurd (omega (arith, below));
    stays = λ k from. refl;
  }

  -- one more
  pub one_shown : (count : ℕ) (new : Places) (found shown : Option (Sight PassView)) → AreShownBelow gate count old new → count < length new → found ≡ get_or new count found
      → shown ≡ option_map (half_shown gate) found → ((half : Sight PassView) → found ≡ Some half → PassFits gate half.knows) → AreShownBelow gate (count + 1) old (slice_set new count shown)
  one_shown count new found shown s within read shown_is fits =
      let here : found ≡ kept_at old count = read ∙ get_or_default new count found None within ∙ s.stays count (omega arith) in
      record {
        many = length-set new count shown ∙ s.many;
        shown = λ k below. elim (cases_eq k count) [
          | inl same ↦
              ap (kept_at (slice_set new count shown)) same ∙ set_there new count shown within ∙ shown_is ∙ ap (option_map (half_shown gate)) (here ∙ ap (kept_at old) (sym same))
          | inr other ↦ set_else new count shown k other ∙ s.shown k (omega (arith, below, other))
        ];
        fit = λ k half below is. elim (cases_eq k count) [
          | inl same ↦ fits half (here ∙ ap (kept_at old) (sym same) ∙ is)
          | inr other ↦ s.fit k half (omega (arith, below, other)) is
        ];
        stays = λ k above. set_else new count shown k (λ same. omega (arith, same, above)) ∙ s.stays k (omega (arith, above));
      }

  -- all were
  module _ (count : ℕ) (new : Places) (s : AreShownBelow gate count old new) (whole : length new ≤ count) where
    pub all_shown : new ≡ halves_shown gate old
    all_shown =
        same_lists new (halves_shown gate old) (s.many ∙ sym (length-shown gate old)) (λ k d within.
        get_or_default new k d None within ∙ s.shown k (omega (arith, within, whole)) ∙ sym (shown_at gate old k)
        ∙ sym (get_or_default (halves_shown gate old) k d None (omega (arith, within, s.many, length-shown gate old))))

    pub all_fit : AllFit gate old
    all_fit k half is = s.fit k half (omega (arith, within_some old k half is, s.many, whole)) is
