-- What a calm slot's view knows: one version.
use Rattle.std.proofs.Common.{◌≡◌, ◌∙◌, ℕ, Bool, List, Option, Some, None, inl, inr, sym, ap, subst}
use Rattle.std.proofs.lemmas.Bool.{cases_Bool, cond-true, cond-false}
use Rattle.history_seats.specs.Records.{HistoryRecord, Version}
use Rattle.history_seats.specs.Mounts.{Mounted}
use Rattle.history_seats.specs.Settling.{Pending, calm}
use Rattle.history_seats.specs.Versions.{version_of}
use Rattle.history_seats.specs.Directory.{directory_of, given_version, has_entry}
use Rattle.history_seats.specs.Views.{SlotView}
use Rattle.history_seats.proofs.Places.{open-now}
use Rattle.core_laws.specs.SlotParts.{Knows}
use Rattle.object_slots.specs.KnownFor.{KnowsFor, KnowsItsOwn, own_version}
use Rattle.object_slots.proofs.KnownVersions.{known_for, no_version}

given_stands : (mounted : Mounted) (records : List HistoryRecord) (file generation : ℕ) (v : Version) → given_version mounted records file generation ≡ Some v
    → (version_of file generation mounted records).now ≡ Some v
given_stands mounted records file generation v given =
    let has : Bool = has_entry file generation (directory_of mounted records).now in
    elim (cases_Bool has) [
      | inl there ↦ sym (cond-true has (version_of file generation mounted records).now None there) ∙ given
      | inr gone ↦ absurd (no_version v (sym (cond-false has (version_of file generation mounted records).now None gone) ∙ given))
    ]

module _ (view : SlotView) (version : Option Version) (gives : own_version view ≡ calm version) where
  known_own : (v : Version) → KnowsFor view view.generation v → version ≡ Some v
  known_own v (inl given) =
      sym (ap (λ (p : Pending (Option Version)). p.now) gives)
      ∙ open-now view.decided view.seen (version_of view.file view.generation view.mounted view.seen)
      ∙ given_stands view.mounted view.seen view.file view.generation v given
  known_own v (inr doubt) = absurd (no_version (Some v) (sym (ap (λ (p : Pending (Option Version)). p.if_landed) gives) ∙ doubt))

  pub known_one : KnowsItsOwn view → (v : Version) → Knows view v → version ≡ Some v
  known_one single v known =
      let one = known_for view.decided view.mounted view.seen view.file v known in
      known_own v (subst (λ (g : ℕ). KnowsFor view g v) (single one.0 v one.1) one.1)
