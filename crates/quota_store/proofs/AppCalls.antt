-- What stands behind an application's lock before a call of one of its sessions, and behind it.
use Rattle.std.proofs.Common.{◌≡◌, ◌<◌, ◌∙◌, ℕ, Bool, true, false, not, List, Some, None, refl, sym, subst, inl, inr}
use Rattle.std.specs.Prelude.{slice_set}
use Rattle.std.specs.Ordering.{is_eq}
use Rattle.std.specs.Str.{bytes_eq}
use Rattle.std.proofs.lemmas.Bool.{cases_eq}
use Rattle.std.proofs.lemmas.List.{length-set}
use Rattle.std.proofs.lemmas.Slice.Eq.{bytes_eq-Decides}
use Rattle.tee_types.specs.Identifier.{bytes_cmp}
use Rattle.history_seats.specs.Views.{PassView, Sight}
use Rattle.shared_store.specs.Stores.{Store}
use Rattle.quota_store.specs.Halves.{AreAllHere, AreAppHalves, AreOthersHere, app_at, kept_at}
use Rattle.quota_store.specs.LockedCalls.{KeepsHalves}
use Rattle.quota_store.proofs.KeptHalves.{Places, set_else, within_some}

-- two applications that `!=` does not tell apart
pub same_app : (a b : List ℕ) (answer : Bool) → answer ≡ not (bytes_eq a b) → answer ≡ false → a ≡ b
same_app a b answer tested none = (bytes_eq-Decides a b).0 (equal (bytes_eq a b) (sym none ∙ tested))
  where
    equal : (t : Bool) → false ≡ not t → t ≡ true
    equal true is = refl
    equal false is = absurd (cc (is))

module _ (store : Store) (app : List ℕ) (kept : Places) (session : ℕ) (app_is : app ≡ app_at store session) where
  -- once the session's own half is taken out the others are here
  pub others_here : AreAllHere store app kept → AreOthersHere store session (slice_set kept session None)
  others_here all other known different own =
      let here = all other known (subst (λ (a : List ℕ). is_eq (bytes_cmp a (app_at store other)) ≡ true) (sym app_is) own) in
      (here.0, set_else kept session None other different ∙ here.1)

  -- once it is back all are
  pub all_back : (after : Places) (half : Sight PassView) → kept_at kept session ≡ Some half → AreAppHalves store (record { app = app; kept = kept }) → KeepsHalves store session (slice_set kept session None) after
      → AreAppHalves store (record { app = app; kept = after })
  all_back after half there was k = record {
    halves = k.halves;
    all = λ other known own. elim (cases_eq other session) [
      | inl same ↦
          subst (λ (n : ℕ). (x : Sight PassView) × (kept_at after n ≡ Some x)) (sym same)
          (k.own (subst (λ (n : ℕ). session < n) (sym (length-set kept session None)) (within_some kept session half there)))
      | inr different ↦
          let here = was.all other known own in
          k.others other here.0 (set_else kept session None other different ∙ here.1)
    ];
  }
