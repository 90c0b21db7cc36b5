-- After an event of a slot's object its view knows what it knew, and what the event's commit left, or leaves in doubt.
use Rattle.std.proofs.Common.{◌≡◌, ◌⊎◌, ℕ, ◌≤◌, List, [], ◌∷◌, ◌++◌, length, Bool, true, false, Some, None, inl, inr, refl, sym, ◌∙◌, subst, true≢false}
use Rattle.std.specs.Prelude.{◌==◌}
use Rattle.std.proofs.lemmas.Bool.{and_parts, cases_Bool, cond-true, cond-false, eqb-true}
use Rattle.store_model.specs.declared.event.Event.{Event}
use Rattle.store_model.specs.declared.event.Event.TheVariants.{Call as CallEvent, Landed}
use Rattle.store_model.specs.declared.event.Mark.TheVariants.{Unchanged, Made, Doubtful}
use Rattle.store_model.specs.Record.{Tag}
use Rattle.history_seats.specs.Records.{HistoryRecord, Version, is_object}
use Rattle.history_seats.specs.Mounts.{Mounted}
use Rattle.history_seats.specs.Settling.{is_landing}
use Rattle.history_seats.specs.Versions.{version_of}
use Rattle.history_seats.specs.Directory.{directory_of, given_version, has_entry}
use Rattle.history_seats.specs.Known.{IsKnown}
use Rattle.history_seats.specs.Tags.{HasRightTag}
use Rattle.history_seats.specs.Changes.{TagVersions}
use Rattle.history_seats.proofs.GivenStays.{doubt-gives, made-gives, unchanged-leaves}
use Rattle.history_seats.proofs.KnownEntries.{entry_known}
use Rattle.history_seats.proofs.Places.{open-less}
use Rattle.core_laws.specs.SlotLaws.{IsNewlyKnown, OwnEventsKeep}

module _ (mounted : Mounted) (all : List HistoryRecord) (z : ℕ) (within : z ≤ length all) (file generation : ℕ) (versions : TagVersions) where
  abbrev own_tag : Tag Version
  own_tag = record { file = file; generation = generation; committed = versions.committed; doubted = versions.doubted }

  abbrev tagged : Event → HistoryRecord
  tagged event = record { event = event; tag = Some own_tag }

  abbrev after : Event → List HistoryRecord
  after event = all ++ tagged event ∷ []

  -- the tag is of that generation, or of none that is asked for
  same_generation : (other : ℕ) → is_object file other (Some own_tag) ≡ true → generation ≡ other
  same_generation other own = eqb-true generation other (and_parts (file == file) (generation == other) own).1

  abbrev Known : Event → Version → Type 0
  Known event v = IsKnown z mounted all file v ⊎ IsNewlyKnown event versions v

  pub known_after : (event : Event) → is_landing event ≡ false → HasRightTag mounted all (record { event = event; tag = Some (record { file = file; generation = generation; committed = versions.committed; doubted = versions.doubted }) })
      → (v : Version)
      → IsKnown z mounted (all ++ record { event = event; tag = Some (record { file = file; generation = generation; committed = versions.committed; doubted = versions.doubted }) } ∷ []) file v
      → IsKnown z mounted all file v ⊎ IsNewlyKnown event versions v
  known_after (CallEvent session number call reply Unchanged) on right v known =
      let left = unchanged-leaves mounted all (tagged (CallEvent session number call reply Unchanged)) refl right in
      inl (elim known [
        | inl given ↦ inl (given.0, sym (left.given file given.0) ∙ given.1)
        | inr doubt ↦ inr (doubt.0, sym (left.in_doubt z file doubt.0 within) ∙ doubt.1)
      ])
  known_after (CallEvent session number call reply (Made commit)) on right v (inl given) =
      let event : Event = CallEvent session number call reply (Made commit) in
      let gives = made-gives mounted all (tagged event) own_tag refl right refl in
      elim (cases_Bool (is_object file given.0 (Some own_tag))) [
        | inl own ↦
            let same : generation ≡ given.0 = same_generation given.0 own in
            inr (sym gives.own ∙ subst (λ (n : ℕ). given_version mounted (after event) file n ≡ Some v) (sym same) given.1)
        | inr other ↦
            let has : Bool = has_entry file given.0 (directory_of mounted (after event)).now in
            let is = sym (gives.others file given.0 other) ∙ given.1 in
            elim (cases_Bool has) [
              | inl there ↦ inl (inl (given.0, sym (cond-true has (given_version mounted all file given.0) None there) ∙ is))
              | inr gone ↦
                  let none : None ≡ Some v = sym (cond-false has (given_version mounted all file given.0) None gone) ∙ is in
                  absurd (cc (none))
            ]
      ]
  known_after (CallEvent session number call reply (Made commit)) on right v (inr doubt) =
      let event : Event = CallEvent session number call reply (Made commit) in
      let gives = made-gives mounted all (tagged event) own_tag refl right refl in
      let none : None ≡ Some (Some v) = sym (gives.in_doubt file doubt.0) ∙ open-less z (after event) (version_of file doubt.0 mounted (after event)) (Some v) doubt.1 in
      absurd (cc (none))
  known_after (CallEvent session number call reply (Doubtful commit)) on right v (inl given) =
      let gives = doubt-gives mounted all (tagged (CallEvent session number call reply (Doubtful commit))) own_tag refl right refl in
      inl (inl (given.0, sym (gives.given file given.0) ∙ given.1))
  known_after (CallEvent session number call reply (Doubtful commit)) on right v (inr doubt) =
      let event : Event = CallEvent session number call reply (Doubtful commit) in
      let gives = doubt-gives mounted all (tagged event) own_tag refl right refl in
      let is : (version_of file doubt.0 mounted (after event)).if_landed ≡ Some (Some v) = open-less z (after event) (version_of file doubt.0 mounted (after event)) (Some v) doubt.1 in
      elim (cases_Bool (is_object file doubt.0 (Some own_tag))) [
        | inl own ↦
            let same : generation ≡ doubt.0 = same_generation doubt.0 own in
            let both : Some versions.doubted ≡ Some (Some v) =
            sym gives.own ∙ subst (λ (n : ℕ). (version_of file n mounted (after event)).if_landed ≡ Some (Some v)) (sym same) is in
            inr (cc (both))
        | inr other ↦
            let none : None ≡ Some (Some v) = sym (gives.others file doubt.0 other) ∙ is in
            absurd (cc (none))
      ]
  known_after (Landed commit) on right v known = absurd (true≢false on)

-- An event of the slot's object keeps its fact.
pub own_events_keep : OwnEventsKeep
own_events_keep keys gate slot event versions sound fits on right stands h = record {
  sound = h.sound;
  stands = λ honest v known.
      elim (known_after slot.view.mounted gate.all gate.decided sound.decided_within slot.view.file slot.view.generation versions event on right v known) [
        | inl before ↦ h.stands honest v (entry_known gate slot.view fits v before)
        | inr new ↦ stands honest v new
      ];
}
