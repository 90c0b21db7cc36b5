-- The kept halves of one application's sessions, as they come to places of their own.
use Rattle.std.proofs.Common.{◌≡◌, ◌<◌, ◌≤◌, ◌+◌, ◌∙◌, ℕ, Bool, true, false, cond, List, length, get_or, Option, Some, None, refl, sym, ap, subst, inl, inr, arith}
use Rattle.std.specs.Prelude.{is_some, slice_set}
use Rattle.std.specs.Ordering.{is_eq}
use Rattle.std.specs.Str.{bytes_eq}
use Rattle.std.proofs.lemmas.Bool.{cases_eq, cases_lt}
use Rattle.std.proofs.lemmas.Map.Text.{is_eq-slice_cmp}
use Rattle.std.proofs.lemmas.Option.{slice_get_cases, slice_get_past, slice_get_read}
use Rattle.tee_types.specs.Identifier.{bytes_cmp}
use Rattle.history_seats.specs.Views.{PassView, Sight}
use Rattle.app_totals.proofs.Names.{same_bytes}
use Rattle.shared_store.specs.Stores.{Store}
use Rattle.quota_store.specs.Callers.{QuotaCaller}
use Rattle.quota_store.specs.Halves.{AreAllHere, AreAppHalves, AreEmptyPlaces, AreHalves, app_at, kept_at}
use Rattle.quota_store.specs.Sharing.{AreMoved, AreOfApps, AreTogether, is_app_at, is_of_app}
use Rattle.quota_store.proofs.KeptHalves.{Places, empty_at, set_else, set_there, some_in}

-- ONE AFTER ANOTHER
-- the picked ones of the first so many were moved
pub record AreMovedBelow (picks : ℕ → Bool) (count : ℕ) (old new moved : Places) : Type 0 where
  pub left : (k : ℕ) → k < count → kept_at new k ≡ cond (picks k) None (kept_at old k)
  pub came : (k : ℕ) → k < count → kept_at moved k ≡ cond (picks k) (kept_at old k) None
  pub stays : (k : ℕ) → count ≤ k → kept_at new k ≡ kept_at old k
  pub empty : (k : ℕ) → count ≤ k → kept_at moved k ≡ None

module _ (picks : ℕ → Bool) (old : Places) where
  pub none_moved : (places : Places) → AreEmptyPlaces places → AreMovedBelow picks 0 old old places
  none_moved places e = record {
    left = λ k below. absurd (omega (arith, below));
    came = λ k below. absurd (omega (arith, below));
    stays = λ k from. refl;
    empty = λ k from. empty_at places e k;
  }

  -- one more
  pub one_moved : (count : ℕ) (new moved : Places) (from to : Option (Sight PassView)) → AreMovedBelow picks count old new moved → count < length new → count < length moved
      → from ≡ cond (picks count) None (kept_at new count) → to ≡ cond (picks count) (kept_at new count) (kept_at moved count)
      → AreMovedBelow picks (count + 1) old (slice_set new count from) (slice_set moved count to)
  one_moved count new moved from to m new_lt moved_lt from_is to_is = record {
    left = λ k below. elim (cases_eq k count) [
      | inl same ↦
          ap (kept_at (slice_set new count from)) same ∙ set_there new count from new_lt ∙ from_is
          ∙ ap (cond (picks count) None) (m.stays count (omega arith))
          ∙ ap (λ (n : ℕ). cond (picks n) None (kept_at old n)) (sym same)
      | inr other ↦ set_else new count from k other ∙ m.left k (omega (arith, below, other))
    ];
    came = λ k below. elim (cases_eq k count) [
      | inl same ↦
          ap (kept_at (slice_set moved count to)) same ∙ set_there moved count to moved_lt ∙ to_is
          ∙ ap (λ (o : Option (Sight PassView)). cond (picks count) o (kept_at moved count)) (m.stays count (omega arith))
          ∙ ap (cond (picks count) (kept_at old count)) (m.empty count (omega arith))
          ∙ ap (λ (n : ℕ). cond (picks n) (kept_at old n) None) (sym same)
      | inr other ↦ set_else moved count to k other ∙ m.came k (omega (arith, below, other))
    ];
    stays = λ k above. set_else new count from k (λ same. omega (arith, same, above)) ∙ m.stays k (omega (arith, above));
    empty = λ k above. set_else moved count to k (λ same. omega (arith, same, above)) ∙ m.empty k (omega (arith, above));
  }

  -- none is picked past the last
  pub all_moved : (count : ℕ) (new moved : Places) → AreMovedBelow picks count old new moved → ((k : ℕ) → count ≤ k → picks k ≡ false) → AreMoved picks old new moved
  all_moved count new moved m none = record {
    left = λ k. elim (cases_lt k count) [
      | inl below ↦ m.left k below
      | inr past ↦ m.stays k past ∙ ap (λ (b : Bool). cond b None (kept_at old k)) (sym (none k past))
    ];
    came = λ k. elim (cases_lt k count) [
      | inl below ↦ m.came k below
      | inr past ↦ m.empty k past ∙ ap (λ (b : Bool). cond b (kept_at old k) None) (sym (none k past))
    ];
  }

-- THE APPLICATION'S
module _ {E : Type 0} (app : List ℕ) (sessions : List (QuotaCaller E)) where
  pub none_past : (k : ℕ) → length sessions ≤ k → is_app_at app sessions k ≡ false
  none_past k past = ap (is_of_app app) (slice_get_past sessions k past)

  -- how a session of that number is compared
  pub compared : (k : ℕ) (s : QuotaCaller E) (test : Bool) → k < length sessions → s ≡ get_or sessions k s → test ≡ bytes_eq app s.caller.state.application → test ≡ is_app_at app sessions k
  compared k s test lt read is =
      is ∙ sym (is_eq-slice_cmp app s.caller.state.application) ∙ ap (is_of_app app) (sym (slice_get_read sessions (length sessions) k s refl lt read))

  module _ (store : Store) (many : length sessions ≡ length store.mounted.applications) (apps : AreOfApps store sessions) where
    picked : (k : ℕ) → k < length store.mounted.applications → is_app_at app sessions k ≡ is_eq (bytes_cmp app (app_at store k))
    picked k known = elim (slice_get_cases sessions k).1 [
      | inl found ↦
          ap (is_of_app app) found.2
          ∙ ap (λ (a : List ℕ). is_eq (bytes_cmp app a)) (ap (λ (s : QuotaCaller E). s.caller.state.application) (sym found.3) ∙ apps k found.0 found.1)
      | inr none ↦ absurd (omega (arith, known, many, none.0))
    ]

    module _ (old new own : Places) (m : AreMoved (is_app_at app sessions) old new own) where
      came_some : (b : Bool) (o : Option (Sight PassView)) (half : Sight PassView) → cond b o None ≡ Some half → o ≡ Some half
      came_some true o half is = is
      came_some false o half is = absurd (cc (is))

      left_some : (b : Bool) (o : Option (Sight PassView)) (half : Sight PassView) → cond b None o ≡ Some half → o ≡ Some half
      left_some true o half is = absurd (cc (is))
      left_some false o half is = is

      pub halves_came : AreHalves store old → AreHalves store own
      halves_came halves k half is = halves k half (came_some (is_app_at app sessions k) (kept_at old k) half (sym (m.came k) ∙ is))

      pub halves_left : AreHalves store old → AreHalves store new
      halves_left halves k half is = halves k half (left_some (is_app_at app sessions k) (kept_at old k) half (sym (m.left k) ∙ is))

      -- those of one application went together
      left_alike : (i j : ℕ) (a b : Bool) → a ≡ b → is_some (kept_at old i) ≡ is_some (kept_at old j) → is_some (cond a None (kept_at old i)) ≡ is_some (cond b None (kept_at old j))
      left_alike i j a true same alike = ap (λ (t : Bool). is_some (cond t None (kept_at old i))) same
      left_alike i j a false same alike = ap (λ (t : Bool). is_some (cond t None (kept_at old i))) same ∙ alike

      pub together_left : AreTogether store old → AreTogether store new
      together_left together i j i_known j_known same =
          let tests : is_app_at app sessions i ≡ is_app_at app sessions j =
          picked i i_known ∙ ap (λ (a : List ℕ). is_eq (bytes_cmp app a)) (same_bytes (app_at store i) (app_at store j) same) ∙ sym (picked j j_known) in
          ap is_some (m.left i) ∙ left_alike i j (is_app_at app sessions i) (is_app_at app sessions j) tests (together i j i_known j_known same) ∙ ap is_some (sym (m.left j))

      -- all of the application came, where one was there
      pub all_came : AreTogether store old → (number : ℕ) → number < length store.mounted.applications → is_some (kept_at old number) ≡ true → app ≡ app_at store number → AreAllHere store app own
      all_came together number known here app_is k k_known same =
          let alike : is_some (kept_at old number) ≡ is_some (kept_at old k) =
          together number k known k_known (subst (λ (a : List ℕ). is_eq (bytes_cmp a (app_at store k)) ≡ true) app_is same) in
          let there : kept_at own k ≡ kept_at old k = m.came k ∙ ap (λ (b : Bool). cond b (kept_at old k) None) (picked k k_known ∙ same) in
          let half = some_in (kept_at old k) (sym alike ∙ here) in
          (half.0, there ∙ half.1)

      pub own_halves : AreHalves store old → AreTogether store old → (number : ℕ) → number < length store.mounted.applications → is_some (kept_at old number) ≡ true → app ≡ app_at store number
          → AreAppHalves store (record { app = app; kept = own })
      own_halves halves together number known here app_is = record { halves = halves_came halves; all = all_came together number known here app_is }
