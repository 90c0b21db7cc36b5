-- Sessions are given their seats, one after the other.
use Rattle.std.proofs.Common.{◌≡◌, ◌+◌, ◌<◌, ◌≤◌, ℕ, List, [], length, get_or, Some, slice_index_or, refl, sym, ap, ◌∙◌, subst, inl, inr, arith}
use Rattle.std.specs.Prelude.{slice_set}
use Rattle.std.proofs.lemmas.Bool.{cases_eq}
use Rattle.std.proofs.lemmas.List.{get_or-set_other, get_or-set_same, get_or_default, length-set}
use Rattle.history_seats.specs.Views.{PassView, Sight}
use Rattle.core_laws.specs.Stores.{Store}
use Rattle.serial_calls.specs.CallerSessions.{CallerSession, IsCallerOf}
use Rattle.serial_calls.proofs.ShownViews.{fresh_caller}
use Rattle.object_calls.specs.OpeningSessions.{AreSeated, AreUnseated, DrawAlike, HaveNoEvents, unseated}

-- The session is the store's, of that number, and has no event.
pub record IsSeatedAt {E : Type 0} (store : Store) (number : ℕ) (s : CallerSession E) : Type 0 where
  pub caller : IsCallerOf store s
  pub numbered : s.number ≡ number
  pub unmade : s.made ≡ 0

-- the sessions below that number are the store's, and the others are as they were
pub record AreSeatedBelow {E : Type 0} (store : Store) (old : List (CallerSession E)) (count : ℕ) (new : List (CallerSession E)) : Type 0 where
  pub many : length new ≡ length old
  pub each : (i : ℕ) (d : CallerSession E) → i < count → IsSeatedAt store i (slice_index_or new i d)
  pub others : (i : ℕ) (d : CallerSession E) → count ≤ i → slice_index_or new i d ≡ slice_index_or old i d
  pub draw : DrawAlike old new

module _ {E : Type 0} (store : Store) (old : List (CallerSession E)) where
  pub none_seated : AreSeatedBelow store old 0 old
  none_seated = record { many = refl; each = λ i d within. absurd (omega (arith, within)); others = λ i d from. refl; draw = λ i d. refl }

  -- one more session has its seat
  pub one_seated : (count : ℕ) (new after : List (CallerSession E)) (pass : Sight PassView) (session : CallerSession E) → AreSeatedBelow store old count new → count < length old
      → AreUnseated store.mounted.applications old → session ≡ slice_index_or new count session → pass.table ≡ store.table
      → pass.knows ≡ record { mounted = store.mounted; seen = []; decided = 0; session = count }
      → after ≡ slice_set new count (record session { pass = Some pass }) → AreSeatedBelow store old (count + 1) after
  one_seated count new after pass session s within unseated_ is table knows after_is = record {
    many = ap length after_is ∙ length-set new count (record session { pass = Some pass }) ∙ s.many;
    each = λ i d below. elim (cases_eq i count) [
      | inl here ↦
          let now : slice_index_or after i d ≡ record session { pass = Some pass } =
          ap (λ (l : List (CallerSession E)). get_or l i d) after_is ∙ ap (λ (k : ℕ). get_or (slice_set new count (record session { pass = Some pass })) k d) here ∙ get_or-set_same new count (record session { pass = Some pass }) d (omega (arith, within, s.many)) in
          subst (IsSeatedAt store i) (sym now)
          (record { caller = seated; numbered = ap (λ (x : CallerSession E). x.number) as_new ∙ sym here; unmade = ap (λ (x : CallerSession E). x.made) as_new })
      | inr other ↦
          let now : slice_index_or after i d ≡ slice_index_or new i d =
          ap (λ (l : List (CallerSession E)). get_or l i d) after_is ∙ get_or-set_other new count i (record session { pass = Some pass }) d other in
          subst (IsSeatedAt store i) (sym now) (s.each i d (omega (arith, below, other)))
    ];
    others = λ i d from.
        ap (λ (l : List (CallerSession E)). get_or l i d) after_is ∙ get_or-set_other new count i (record session { pass = Some pass }) d (λ same. omega (arith, from, same))
        ∙ s.others i d (omega (arith, from));
    draw = λ i d. elim (cases_eq i count) [
      | inl here ↦
          ap (λ (l : List (CallerSession E)). (get_or l i d).entropy) after_is
          ∙ ap (λ (k : ℕ). (get_or (slice_set new count (record session { pass = Some pass })) k d).entropy) here
          ∙ ap (λ (x : CallerSession E). x.entropy) (get_or-set_same new count (record session { pass = Some pass }) d (omega (arith, within, s.many)))
          ∙ ap (λ (x : CallerSession E). x.entropy) (is ∙ s.others count session (omega arith) ∙ get_or_default old count session d within)
          ∙ ap (λ (k : ℕ). (slice_index_or old k d).entropy) (sym here)
      | inr other ↦
          ap (λ (l : List (CallerSession E)). (get_or l i d).entropy) after_is
          ∙ ap (λ (x : CallerSession E). x.entropy) (get_or-set_other new count i (record session { pass = Some pass }) d other) ∙ s.draw i d
    ];
  }
    where
      as_new : session ≡ unseated count (slice_index_or store.mounted.applications count []) session.entropy
      as_new =
          let was : session ≡ slice_index_or old count session = is ∙ s.others count session (omega arith) in
          was ∙ unseated_.each count session within ∙ ap (λ (x : CallerSession E). unseated count (slice_index_or store.mounted.applications count []) x.entropy) (sym was)

      seated : IsCallerOf store (record session { pass = Some pass })
      seated =
          let view : pass.knows.session ≡ count = ap (λ (v : PassView). v.session) knows in
          let known : count < length store.mounted.applications = omega (arith, within, unseated_.many) in
          subst (λ (x : CallerSession E). IsCallerOf store (record x { pass = Some pass })) (sym as_new)
          (subst (λ (n : ℕ). IsCallerOf store (record (unseated n (slice_index_or store.mounted.applications count []) session.entropy) { pass = Some pass })) view
          (fresh_caller E store pass (slice_index_or store.mounted.applications count []) session.entropy table (ap (λ (v : PassView). v.mounted) knows) (ap (λ (v : PassView). v.seen) knows)
          (subst (λ (n : ℕ). n < length store.mounted.applications) (sym view) known)
          (ap (λ (n : ℕ). slice_index_or store.mounted.applications n []) (sym view))))

  pub all_seated : (new : List (CallerSession E)) → AreUnseated store.mounted.applications old → AreSeatedBelow store old (length old) new → AreSeated store new
  all_seated new unseated_ s = record {
    many = s.many ∙ unseated_.many;
    each = λ i d within. (s.each i d (omega (arith, within, s.many))).caller;
    numbered = λ i d within. (s.each i d (omega (arith, within, s.many))).numbered;
  }

  pub all_unmade : (new : List (CallerSession E)) → AreSeatedBelow store old (length old) new → HaveNoEvents new
  all_unmade new s i d within = (s.each i d (omega (arith, within, s.many))).unmade
