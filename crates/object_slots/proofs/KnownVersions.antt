-- What a view knows of each generation of its file.
use Rattle.std.proofs.Common.{◌≡◌, ◌⊎◌, ℕ, ◌≤◌, List, [], ◌∷◌, ◌++◌, length, Bool, true, false, true≢false, cond, drop, Option, Some, None, inl, inr, refl, sym, ◌∙◌, ap}
use Rattle.std.specs.Prelude.{◌==◌, unwrap_or}
use Rattle.std.proofs.lemmas.Bool.{and_parts, cases_Bool, cond-true, cond-false, eqb-true}
use Rattle.store_model.specs.declared.event.Event.{Event}
use Rattle.store_model.specs.declared.event.Event.TheVariants.{Call as CallEvent, Landed}
use Rattle.store_model.specs.declared.event.Mark.TheVariants.{Unchanged, Made, Doubtful}
use Rattle.store_model.specs.Record.{Tag}
use Rattle.history_seats.specs.Records.{HistoryRecord, Version, is_object}
use Rattle.history_seats.specs.Mounts.{Entry, Mounted}
use Rattle.history_seats.specs.Settling.{Pending, as_landed, dropped, is_landing, open_from, settled, settling}
use Rattle.history_seats.specs.Versions.{version_of}
use Rattle.history_seats.specs.Directory.{directory_of, given_version, has_entry}
use Rattle.history_seats.specs.Known.{IsKnown, directory_from, version_from}
use Rattle.history_seats.specs.Tags.{HasRightTag}
use Rattle.history_seats.specs.Changes.{TagVersions}
use Rattle.history_seats.specs.Views.{GateView, SlotView}
use Rattle.history_seats.specs.Rule.{SlotFits}
use Rattle.history_seats.proofs.DoubtedEntries.{landed_entry}
use Rattle.history_seats.proofs.Givens.{version-whole}
use Rattle.history_seats.proofs.GivenStays.{doubt-gives, made-gives, unchanged-leaves}
use Rattle.history_seats.proofs.KnownEntries.{given-told, version-doubt}
use Rattle.history_seats.proofs.Places.{any_settles, open-less, open-now, view-place}
use Rattle.store_model.specs.Record.{concerns_file}
use Rattle.object_slots.specs.KnownFor.{IsKnownFor, KnowsFor}

pub no_version : {X : Type 0} (x : X) → None ≡ Some x → ⊥
no_version x e = cc

-- what is known is known for some generation
pub known_for : (z : ℕ) (mounted : Mounted) (records : List HistoryRecord) (file : ℕ) (v : Version) → IsKnown z mounted records file v → (generation : ℕ) × IsKnownFor z mounted records file generation v
known_for z mounted records file v (inl given) = (given.0, inl given.1)
known_for z mounted records file v (inr doubt) = (doubt.0, inr doubt.1)

-- where a doubt leaves nothing for a file's generation, a landing brings no entry of it, dropped or not
landed_none : (file generation : ℕ) (b : Bool) (p : Pending (List Entry)) (q : Pending (Option Version))
    → (q.if_landed ≡ None → has_entry file generation (as_landed p).now ≡ true → has_entry file generation p.now ≡ true)
    → (cond b q (dropped q)).if_landed ≡ None → has_entry file generation (as_landed (cond b p (dropped p))).now ≡ true → has_entry file generation p.now ≡ true
landed_none file generation true p q f none h = f none h
landed_none file generation false p q f none h = h

-- a settling event leaves two values as they are now, or lands both
settled_both : {X Y : Type 0} (event : Option Event) (p : Pending X) (q : Pending Y)
    → (((settled event p).now ≡ p.now) × ((settled event q).now ≡ q.now)) ⊎ ((settled event p ≡ as_landed p) × (settled event q ≡ as_landed q))
settled_both None p q = inl (refl, refl)
settled_both (Some (CallEvent session number call reply Unchanged)) p q = inl (refl, refl)
settled_both (Some (CallEvent session number call reply (Made commit))) p q = inl (refl, refl)
settled_both (Some (CallEvent session number call reply (Doubtful commit))) p q = inl (refl, refl)
settled_both (Some (Landed commit)) p q = inr (refl, refl)

-- what it leaves in doubt was so before
settled_doubt : {X : Type 0} (event : Option Event) (p : Pending X) (x : X) → (settled event p).if_landed ≡ Some x → p.if_landed ≡ Some x
settled_doubt None p x is = is
settled_doubt (Some (CallEvent session number call reply Unchanged)) p x is = is
settled_doubt (Some (CallEvent session number call reply (Made commit))) p x is = absurd (no_version x is)
settled_doubt (Some (CallEvent session number call reply (Doubtful commit))) p x is = absurd (no_version x is)
settled_doubt (Some (Landed commit)) p x is = absurd (no_version x is)

-- What the whole history knows of a generation of a view's file, the view knows.
module _ (gate : GateView) (slot : SlotView) (fits : SlotFits gate slot) (generation : ℕ) (v : Version) where
  abbrev event : Option Event
  event = settling fits.sees.begins.rest

  abbrev versions : Pending (Option Version)
  versions = version_from slot.decided slot.file generation slot.mounted slot.seen

  abbrev entries : Pending (List Entry)
  entries = directory_from slot.decided slot.mounted slot.seen

  given_there : has_entry slot.file generation (directory_of slot.mounted slot.seen).now ≡ true → (version_of slot.file generation slot.mounted slot.seen).now ≡ Some v → KnowsFor slot generation v
  given_there has is =
      inl (cond-true (has_entry slot.file generation (directory_of slot.mounted slot.seen).now) (version_of slot.file generation slot.mounted slot.seen).now None has ∙ is)

  landed_known : (doubt : Option (Option Version)) → versions.if_landed ≡ doubt → has_entry slot.file generation (as_landed entries).now ≡ true → unwrap_or doubt versions.now ≡ Some v → KnowsFor slot generation v
  landed_known None none has is =
      let b : Bool = any_settles (drop slot.decided slot.seen) in
      let now = landed_none slot.file generation b (directory_of slot.mounted slot.seen) (version_of slot.file generation slot.mounted slot.seen) (landed_entry slot.file generation slot.mounted slot.seen) none has in
      given_there now (sym (open-now slot.decided slot.seen (version_of slot.file generation slot.mounted slot.seen)) ∙ is)
  landed_known (Some left) some_ has is = inr (some_ ∙ ap (λ (o : Option Version). Some o) is)

  given_known : given_version slot.mounted gate.all slot.file generation ≡ Some v → KnowsFor slot generation v
  given_known given =
      let whole = given-told gate slot fits generation in
      let told : (settled event versions).now ≡ Some v = elim whole.version [ inl none ↦ absurd (no_version v (sym none ∙ given)) | inr is ↦ sym is ∙ given ] in
      let there : has_entry slot.file generation (settled event entries).now ≡ true = elim (cases_Bool (has_entry slot.file generation (settled event entries).now)) [
        | inl yes_ ↦ yes_
        | inr none ↦ absurd (no_version v (sym (whole.nothing none) ∙ given))
      ] in
      elim (settled_both event versions entries) [
        | inl both ↦
            let has : has_entry slot.file generation entries.now ≡ true = sym (ap (has_entry slot.file generation) both.1) ∙ there in
            let is : versions.now ≡ Some v = sym both.0 ∙ told in
            given_there
            (sym (ap (has_entry slot.file generation) (open-now slot.decided slot.seen (directory_of slot.mounted slot.seen))) ∙ has)
            (sym (open-now slot.decided slot.seen (version_of slot.file generation slot.mounted slot.seen)) ∙ is)
        | inr both ↦
            let has : has_entry slot.file generation (as_landed entries).now ≡ true = sym (ap (λ (p : Pending (List Entry)). has_entry slot.file generation p.now) both.1) ∙ there in
            let is : (as_landed versions).now ≡ Some v = sym (ap (λ (p : Pending (Option Version)). p.now) both.0) ∙ told in
            landed_known versions.if_landed refl has is
      ]

  doubt_known : (version_from gate.decided slot.file generation slot.mounted gate.all).if_landed ≡ Some (Some v) → KnowsFor slot generation v
  doubt_known doubted =
      let told : version_from gate.decided slot.file generation slot.mounted gate.all ≡ open_from gate.decided gate.all (settled event versions) =
      ap (open_from gate.decided gate.all) (version-whole slot.file generation slot.mounted slot.seen gate.all fits.sees.begins)
      ∙ view-place (concerns_file slot.file) slot.decided slot.seen gate fits.sees (version_of slot.file generation slot.mounted slot.seen) (version-doubt slot.file generation slot.mounted slot.seen) in
      let left : (open_from gate.decided gate.all (settled event versions)).if_landed ≡ Some (Some v) = sym (ap (λ (p : Pending (Option Version)). p.if_landed) told) ∙ doubted in
      inr (settled_doubt event versions (Some v) (open-less gate.decided gate.all (settled event versions) (Some v) left))

  pub renewed_known : IsKnownFor gate.decided slot.mounted gate.all slot.file generation v → KnowsFor slot generation v
  renewed_known (inl given) = given_known given
  renewed_known (inr doubted) = doubt_known doubted

-- An event of the file makes known only versions of its own generation.
module _ (mounted : Mounted) (all : List HistoryRecord) (z : ℕ) (within : z ≤ length all) (file own : ℕ) (versions : TagVersions) (generation : ℕ) (v : Version) where
  abbrev own_tag : Tag Version
  own_tag = record { file = file; generation = own; committed = versions.committed; doubted = versions.doubted }

  abbrev tagged : Event → HistoryRecord
  tagged event = record { event = event; tag = Some own_tag }

  -- it is of that generation, or what is known of another was known before
  other_known : (event : Event) → is_landing event ≡ false → HasRightTag mounted all (tagged event) → is_object file generation (Some own_tag) ≡ false
      → IsKnownFor z mounted (all ++ tagged event ∷ []) file generation v → IsKnownFor z mounted all file generation v
  other_known (CallEvent session number call reply Unchanged) on right off known =
      let left = unchanged-leaves mounted all (tagged (CallEvent session number call reply Unchanged)) refl right in
      elim known [
        | inl given ↦ inl (sym (left.given file generation) ∙ given)
        | inr doubt ↦ inr (sym (left.in_doubt z file generation within) ∙ doubt)
      ]
  other_known (CallEvent session number call reply (Made commit)) on right off (inl given) =
      let event : Event = CallEvent session number call reply (Made commit) in
      let gives = made-gives mounted all (tagged event) own_tag refl right refl in
      let has : Bool = has_entry file generation (directory_of mounted (all ++ tagged event ∷ [])).now in
      let is = sym (gives.others file generation off) ∙ given in
      elim (cases_Bool has) [
        | inl there ↦ inl (sym (cond-true has (given_version mounted all file generation) None there) ∙ is)
        | inr gone ↦
            let none : None ≡ Some v = sym (cond-false has (given_version mounted all file generation) None gone) ∙ is in
            absurd (no_version v none)
      ]
  other_known (CallEvent session number call reply (Made commit)) on right off (inr doubt) =
      let event : Event = CallEvent session number call reply (Made commit) in
      let gives = made-gives mounted all (tagged event) own_tag refl right refl in
      let after : List HistoryRecord = all ++ tagged event ∷ [] in
      absurd (no_version (Some v) (sym (gives.in_doubt file generation) ∙ open-less z after (version_of file generation mounted after) (Some v) doubt))
  other_known (CallEvent session number call reply (Doubtful commit)) on right off (inl given) =
      let gives = doubt-gives mounted all (tagged (CallEvent session number call reply (Doubtful commit))) own_tag refl right refl in
      inl (sym (gives.given file generation) ∙ given)
  other_known (CallEvent session number call reply (Doubtful commit)) on right off (inr doubt) =
      let event : Event = CallEvent session number call reply (Doubtful commit) in
      let gives = doubt-gives mounted all (tagged event) own_tag refl right refl in
      let after : List HistoryRecord = all ++ tagged event ∷ [] in
      absurd (no_version (Some v) (sym (gives.others file generation off) ∙ open-less z after (version_of file generation mounted after) (Some v) doubt))
  other_known (Landed commit) on right off known = absurd (true≢false on)

  pub known_before : (event : Event) → is_landing event ≡ false → HasRightTag mounted all (record { event = event; tag = Some (record { file = file; generation = own; committed = versions.committed; doubted = versions.doubted }) })
      → IsKnownFor z mounted (all ++ record { event = event; tag = Some (record { file = file; generation = own; committed = versions.committed; doubted = versions.doubted }) } ∷ []) file generation v
      → (own ≡ generation) ⊎ IsKnownFor z mounted all file generation v
  known_before event on right known = elim (cases_Bool (is_object file generation (Some own_tag))) [
    | inl same ↦ inl (eqb-true own generation (and_parts (file == file) (own == generation) same).1)
    | inr off ↦ inr (other_known event on right off known)
  ]
