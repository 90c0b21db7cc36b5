-- Slots as a phase begins.
use Rattle.std.proofs.Common.{◌≡◌, ◌++◌, ◌∷◌, ℕ, List, [], map, Bool, Some, None, inl, inr, refl, sym, ◌∙◌, subst}
use Rattle.std.proofs.lemmas.Bool.{cases_Bool, cond-true, cond-false}
use Rattle.disk_model.specs.State.{FileState}
use Rattle.history_seats.specs.Records.{Version}
use Rattle.history_seats.specs.Mounts.{MountedEntry}
use Rattle.history_seats.specs.Versions.{mounted_version, version_among}
use Rattle.history_seats.specs.Directory.{has_entry}
use Rattle.history_seats.specs.Views.{SlotView}
use Rattle.history_seats.proofs.Places.{open-calm, open-less}
use Rattle.core_laws.specs.Opened.{first_view}
use Rattle.core_laws.specs.SlotParts.{Knows}
use Rattle.core_laws.specs.Stores.{Store}
use Rattle.object_slots.specs.KnownFor.{KnowsFor}
use Rattle.object_slots.specs.GuardedSlots.{SlotInvariant}
use Rattle.object_slots.specs.FirstSlots.{FirstSlotsAreGuarded, IsMountedFile, first_slot}
use Rattle.object_slots.proofs.KnownVersions.{known_for, no_version}

no_front : {A : Type 0} (xs : List A) (a : A) (ys : List A) → xs ++ a ∷ ys ≡ [] → ⊥
no_front [] a ys e = cc
no_front (x ∷ xs) a ys e = cc

module _ (store : Store) (number generation : ℕ) (file : FileState) (m : IsMountedFile store number generation file) where
  abbrev view : SlotView
  view = first_view store.mounted number generation

  -- what is known before the first event is what the mount tells
  told : (other : ℕ) (v : Version) → KnowsFor view other v → version_among number other store.mounted.entries ≡ Some v
  told other v (inl given) =
      let has : Bool = has_entry number other (map (λ (e : MountedEntry). e.entry) store.mounted.entries) in
      elim (cases_Bool has) [
        | inl there ↦ sym (cond-true has (version_among number other store.mounted.entries) None there) ∙ given
        | inr gone ↦ absurd (no_version v (sym (cond-false has (version_among number other store.mounted.entries) None gone) ∙ given))
      ]
  told other v (inr doubt) = absurd (no_version (Some v) (open-less 0 [] (mounted_version number other store.mounted) (Some v) doubt))

  of_own : (v : Version) → Knows view v → version_among number generation store.mounted.entries ≡ Some v
  of_own v known =
      let one = known_for 0 store.mounted [] number v known in
      let is = told one.0 v one.1 in
      subst (λ (g : ℕ). version_among number g store.mounted.entries ≡ Some v) (m.single one.0 v is) is

  pub first_guarded : SlotInvariant store (first_slot store number generation file)
  first_guarded = record {
    seat = record { table = store.table; knows = view };
    is = refl;
    own = record {
      table = refl;
      mounted = refl;
      own = refl;
      holds = λ stage. record { sound = m.sound; stands = λ honest v known. m.stands honest v (of_own v known) };
      real = λ v known. m.real v (of_own v known);
      single = λ other v known. m.single other v (told other v known);
      told = m.told;
      masked = λ v known. m.masked v (of_own v known);
      legal = λ honest scenario off front r back is tag answered. absurd (no_front front r back is);
    };
    content = record {
      version = version_among number generation store.mounted.entries;
      gives = open-calm 0 [] (version_among number generation store.mounted.entries);
      holding = tt;
    };
  }

pub first_slots_are_guarded : FirstSlotsAreGuarded
first_slots_are_guarded store number generation file m = first_guarded store number generation file m
