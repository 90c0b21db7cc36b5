-- What a slot's view tells of its file from its place on.
use Rattle.std.proofs.Common.{◌≡◌, ◌⊎◌, ℕ, List, Bool, true, false, cond, drop, Option, Some, None, inl, inr, refl, sym, ◌∙◌, ap, subst}
use Rattle.std.proofs.lemmas.Bool.{cases_Bool, cond-true}
use Rattle.std.specs.Prelude.{unwrap_or}
use Rattle.store_model.specs.declared.event.Event.{Event}
use Rattle.store_model.specs.declared.event.Event.TheVariants.{Call as CallEvent, Landed}
use Rattle.store_model.specs.declared.event.Mark.TheVariants.{Unchanged, Made, Doubtful}
use Rattle.store_model.specs.Record.{concerns_file}
use Rattle.history_seats.specs.Records.{HistoryRecord, Version, concerns_object}
use Rattle.history_seats.specs.Mounts.{Entry, Mounted}
use Rattle.history_seats.specs.Settling.{Pending, as_landed, calm, dropped, is_doubtful, open_from, settled, settled_by, settles, settling}
use Rattle.history_seats.specs.Versions.{mounted_version, version_after, version_next, version_of}
use Rattle.history_seats.specs.Directory.{directory_of, entries_after, entries_next, given_version, has_entry, mounted_entries}
use Rattle.history_seats.specs.Known.{IsKnown, directory_from, version_from}
use Rattle.history_seats.specs.VersionLaws.{IsGiven}
use Rattle.history_seats.specs.Views.{GateView, SlotView}
use Rattle.history_seats.specs.Rule.{SlotFits}
use Rattle.history_seats.proofs.Parts.{calm-settled}
use Rattle.history_seats.proofs.Givens.{given-whole, version-whole}
use Rattle.history_seats.proofs.DoubtedEntries.{landed_entry}
use Rattle.history_seats.proofs.Places.{IsDoubtOf, any_settles, doubt-within, open-calm, open-less, open-now, view-now, view-place}

no-some : {X : Type 0} (x : X) → None ≡ Some x → ⊥
no-some x e = cc

version-one : (file generation : ℕ) (p : Pending (Option Version)) (r : HistoryRecord) (x : Option Version) → (version_next file generation p r).if_landed ≡ Some x
    → (is_doubtful r.event ≡ true) ⊎ ((settles r.event ≡ false) × (y : Option Version) × (p.if_landed ≡ Some y))
version-one file generation p r x is = one r.event (concerns_object file generation r) is
  where
    one : (event : Event) (b : Bool) → (cond b (version_after event r.tag p) (settled_by event p)).if_landed ≡ Some x
        → (is_doubtful event ≡ true) ⊎ ((settles event ≡ false) × (y : Option Version) × (p.if_landed ≡ Some y))
    one (CallEvent session number call reply Unchanged) true e = inr (refl, x, e)
    one (CallEvent session number call reply Unchanged) false e = inr (refl, x, e)
    one (CallEvent session number call reply (Made commit)) true e = absurd (no-some x e)
    one (CallEvent session number call reply (Made commit)) false e = absurd (no-some x e)
    one (CallEvent session number call reply (Doubtful commit)) b e = inl refl
    one (Landed commit) true e = absurd (no-some x e)
    one (Landed commit) false e = absurd (no-some x e)

-- a version is in doubt only while the records have a doubt open
pub version-doubt : (file generation : ℕ) (mounted : Mounted) (records : List HistoryRecord) → IsDoubtOf records (version_of file generation mounted records)
version-doubt file generation mounted records = λ x is.
    elim (doubt-within (version_next file generation) (λ p. p) (version-one file generation) (mounted_version file generation mounted) records x is) [
      | inl d ↦ d
      | inr none ↦ absurd (no-some none.1 none.2)
    ]

entries-one : (apps : List (List ℕ)) (p : Pending (List Entry)) (r : HistoryRecord) (x : List Entry) → (entries_next apps p r).if_landed ≡ Some x
    → (is_doubtful r.event ≡ true) ⊎ ((settles r.event ≡ false) × (y : List Entry) × (p.if_landed ≡ Some y))
entries-one apps p r x is = one r.event is
  where
    one : (event : Event) → (entries_after apps event r.tag p).if_landed ≡ Some x → (is_doubtful event ≡ true) ⊎ ((settles event ≡ false) × (y : List Entry) × (p.if_landed ≡ Some y))
    one (CallEvent session number call reply Unchanged) e = inr (refl, x, e)
    one (CallEvent session number call reply (Made commit)) e = absurd (no-some x e)
    one (CallEvent session number call reply (Doubtful commit)) e = inl refl
    one (Landed commit) e = absurd (no-some x e)

pub directory-doubt : (mounted : Mounted) (records : List HistoryRecord) → IsDoubtOf records (directory_of mounted records)
directory-doubt mounted records = λ x is.
    elim (doubt-within (entries_next mounted.applications) (λ p. p) (entries-one mounted.applications) (mounted_entries mounted) records x is) [
      | inl d ↦ d
      | inr none ↦ absurd (no-some none.1 none.2)
    ]

-- where a doubt leaves nothing for a file's generation, a landing brings no entry of it, dropped or not
landed-none : (file generation : ℕ) (b : Bool) (p : Pending (List Entry)) (q : Pending (Option Version))
    → (q.if_landed ≡ None → has_entry file generation (as_landed p).now ≡ true → has_entry file generation p.now ≡ true)
    → (cond b q (dropped q)).if_landed ≡ None → has_entry file generation (as_landed (cond b p (dropped p))).now ≡ true → has_entry file generation p.now ≡ true
landed-none file generation true p q f none h = f none h
landed-none file generation false p q f none h = h

-- a settling event leaves two values as they are now, or lands both
settled_both : {X Y : Type 0} (event : Option Event) (p : Pending X) (q : Pending Y)
    → (((settled event p).now ≡ p.now) × ((settled event q).now ≡ q.now)) ⊎ ((settled event p ≡ as_landed p) × (settled event q ≡ as_landed q))
settled_both None p q = inl (refl, refl)
settled_both (Some (CallEvent session number call reply Unchanged)) p q = inl (refl, refl)
settled_both (Some (CallEvent session number call reply (Made commit))) p q = inl (refl, refl)
settled_both (Some (CallEvent session number call reply (Doubtful commit))) p q = inl (refl, refl)
settled_both (Some (Landed commit)) p q = inr (refl, refl)

-- what it leaves in doubt was so before
settled_doubt : {X : Type 0} (event : Option Event) (p : Pending X) (x : X) → (settled event p).if_landed ≡ Some x → p.if_landed ≡ Some x
settled_doubt None p x is = is
settled_doubt (Some (CallEvent session number call reply Unchanged)) p x is = is
settled_doubt (Some (CallEvent session number call reply (Made commit))) p x is = absurd (no-some x is)
settled_doubt (Some (CallEvent session number call reply (Doubtful commit))) p x is = absurd (no-some x is)
settled_doubt (Some (Landed commit)) p x is = absurd (no-some x is)

module _ (gate : GateView) (slot : SlotView) (fits : SlotFits gate slot) where
  abbrev event : Option Event
  event = settling fits.sees.begins.rest

  pub version-told : version_from gate.decided slot.file slot.generation slot.mounted gate.all
      ≡ open_from gate.decided gate.all (settled (settling fits.sees.begins.rest) (version_from slot.decided slot.file slot.generation slot.mounted slot.seen))
  version-told =
      ap (open_from gate.decided gate.all) (version-whole slot.file slot.generation slot.mounted slot.seen gate.all fits.sees.begins)
      ∙ view-place (concerns_file slot.file) slot.decided slot.seen gate fits.sees (version_of slot.file slot.generation slot.mounted slot.seen)
      (version-doubt slot.file slot.generation slot.mounted slot.seen)

  pub calm-stays : (version : Option Version) → version_from slot.decided slot.file slot.generation slot.mounted slot.seen ≡ calm version
      → version_from gate.decided slot.file slot.generation slot.mounted gate.all ≡ calm version
  calm-stays version is =
      version-told
      ∙ ap (λ (p : Pending (Option Version)). open_from gate.decided gate.all (settled (settling fits.sees.begins.rest) p)) is
      ∙ ap (open_from gate.decided gate.all) (calm-settled version (settling fits.sees.begins.rest))
      ∙ open-calm gate.decided gate.all version

  pub given-told : (generation : ℕ) → IsGiven
      (settled (settling fits.sees.begins.rest) (version_from slot.decided slot.file generation slot.mounted slot.seen)).now
      (settled (settling fits.sees.begins.rest) (directory_from slot.decided slot.mounted slot.seen)).now
      slot.file generation (given_version slot.mounted gate.all slot.file generation)
  given-told generation =
      let those = concerns_file slot.file in
      let versions = view-now those slot.decided slot.seen gate fits.sees (version_of slot.file generation slot.mounted slot.seen) (version-doubt slot.file generation slot.mounted slot.seen) in
      let entries = view-now those slot.decided slot.seen gate fits.sees (directory_of slot.mounted slot.seen) (directory-doubt slot.mounted slot.seen) in
      subst (λ (x : Option Version × List Entry). IsGiven x.0 x.1 slot.file generation (given_version slot.mounted gate.all slot.file generation)) (λ i. (versions i, entries i))
      (given-whole slot.file generation slot.mounted slot.seen gate.all fits.sees.begins)

  abbrev pub Known : Version → Type 0
  Known v = IsKnown slot.decided slot.mounted slot.seen slot.file v

  given-there : (generation : ℕ) (v : Version) → has_entry slot.file generation (directory_of slot.mounted slot.seen).now ≡ true → (version_of slot.file generation slot.mounted slot.seen).now ≡ Some v → Known v
  given-there generation v has is =
      inl (generation, cond-true (has_entry slot.file generation (directory_of slot.mounted slot.seen).now) (version_of slot.file generation slot.mounted slot.seen).now None has ∙ is)

  -- what a landing leaves, the view knows
  landed-known : (generation : ℕ) (v : Version) (doubt : Option (Option Version)) → (version_from slot.decided slot.file generation slot.mounted slot.seen).if_landed ≡ doubt
      → has_entry slot.file generation (as_landed (directory_from slot.decided slot.mounted slot.seen)).now ≡ true
      → unwrap_or doubt (version_from slot.decided slot.file generation slot.mounted slot.seen).now ≡ Some v → Known v
  landed-known generation v None none has is =
      let b : Bool = any_settles (drop slot.decided slot.seen) in
      let now = landed-none slot.file generation b (directory_of slot.mounted slot.seen) (version_of slot.file generation slot.mounted slot.seen) (landed_entry slot.file generation slot.mounted slot.seen) none has in
      given-there generation v now (sym (open-now slot.decided slot.seen (version_of slot.file generation slot.mounted slot.seen)) ∙ is)
  landed-known generation v (Some left) some_ has is = inr (generation, some_ ∙ ap (λ (o : Option Version). Some o) is)

  -- what the whole history gives for the file, the view knows
  given-known : (generation : ℕ) (v : Version) → given_version slot.mounted gate.all slot.file generation ≡ Some v → Known v
  given-known generation v given =
      let versions : Pending (Option Version) = version_from slot.decided slot.file generation slot.mounted slot.seen in
      let entries : Pending (List Entry) = directory_from slot.decided slot.mounted slot.seen in
      let whole = given-told generation in
      let told : (settled event versions).now ≡ Some v = elim whole.version [ inl none ↦ absurd (no-some v (sym none ∙ given)) | inr is ↦ sym is ∙ given ] in
      let there : has_entry slot.file generation (settled event entries).now ≡ true = elim (cases_Bool (has_entry slot.file generation (settled event entries).now)) [
        | inl yes_ ↦ yes_
        | inr none ↦ absurd (no-some v (sym (whole.nothing none) ∙ given))
      ] in
      elim (settled_both event versions entries) [
        | inl both ↦
            let has : has_entry slot.file generation entries.now ≡ true = sym (ap (has_entry slot.file generation) both.1) ∙ there in
            let is : versions.now ≡ Some v = sym both.0 ∙ told in
            given-there generation v
            (sym (ap (has_entry slot.file generation) (open-now slot.decided slot.seen (directory_of slot.mounted slot.seen))) ∙ has)
            (sym (open-now slot.decided slot.seen (version_of slot.file generation slot.mounted slot.seen)) ∙ is)
        | inr both ↦
            let has : has_entry slot.file generation (as_landed entries).now ≡ true = sym (ap (λ (p : Pending (List Entry)). has_entry slot.file generation p.now) both.1) ∙ there in
            let is : (as_landed versions).now ≡ Some v = sym (ap (λ (p : Pending (Option Version)). p.now) both.0) ∙ told in
            landed-known generation v versions.if_landed refl has is
      ]

  -- what the whole history leaves there by a doubt, too
  doubted-known : (generation : ℕ) (v : Version) → (version_from gate.decided slot.file generation slot.mounted gate.all).if_landed ≡ Some (Some v) → Known v
  doubted-known generation v doubted =
      let told : version_from gate.decided slot.file generation slot.mounted gate.all
      ≡ open_from gate.decided gate.all (settled (settling fits.sees.begins.rest) (version_from slot.decided slot.file generation slot.mounted slot.seen)) =
      ap (open_from gate.decided gate.all) (version-whole slot.file generation slot.mounted slot.seen gate.all fits.sees.begins)
      ∙ view-place (concerns_file slot.file) slot.decided slot.seen gate fits.sees (version_of slot.file generation slot.mounted slot.seen) (version-doubt slot.file generation slot.mounted slot.seen) in
      let left : (open_from gate.decided gate.all (settled event (version_from slot.decided slot.file generation slot.mounted slot.seen))).if_landed ≡ Some (Some v) =
      sym (ap (λ (p : Pending (Option Version)). p.if_landed) told) ∙ doubted in
      inr (
        generation,
        settled_doubt event (version_from slot.decided slot.file generation slot.mounted slot.seen) (Some v)
            (open-less gate.decided gate.all (settled event (version_from slot.decided slot.file generation slot.mounted slot.seen)) (Some v) left),
      )

  pub entry_known : (v : Version) → IsKnown gate.decided slot.mounted gate.all slot.file v → Known v
  entry_known v (inl now) = given-known now.0 v now.1
  entry_known v (inr doubted) = doubted-known doubted.0 v doubted.1
