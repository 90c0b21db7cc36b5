-- A doubt that does not concern a file's generation brings no entry of it.
use Rattle.std.proofs.Common.{◌≡◌, ℕ, List, [], ◌∷◌, ◌++◌, Bool, true, false, not, cond, ◌&&◌, ◌||◌, filter, Option, Some, None, inl, inr, refl, sym, ◌∙◌, ap, subst, arith, true≢false, eq-eqb}
use Rattle.std.specs.Prelude.{◌==◌, slice_index_or, unwrap_or}
use Rattle.std.specs.List.{list_any, fold}
use Rattle.std.proofs.lemmas.Bool.{cases_Bool, cond-true, cond-false}
use Rattle.std.proofs.lemmas.List.Sums.{fold-append}
use Rattle.tee_types.specs.declared.call.Call.{Call}
use Rattle.tee_types.specs.declared.call.Call.TheVariants.{Create, Rename, Delete}
use Rattle.store_model.specs.declared.event.Event.{Event}
use Rattle.store_model.specs.declared.event.Event.TheVariants.{Call as CallEvent, Landed}
use Rattle.store_model.specs.declared.event.Mark.TheVariants.{Unchanged, Made, Doubtful}
use Rattle.store_model.specs.declared.name.ObjectName.{ObjectName}
use Rattle.store_model.specs.Name.{name_eq}
use Rattle.store_model.specs.Record.{Tag}
use Rattle.store_model.specs.Record.{events_of}
use Rattle.history_seats.specs.Records.{HistoryRecord, Version, concerns_object, is_object}
use Rattle.history_seats.specs.Mounts.{Entry, Mounted}
use Rattle.history_seats.specs.Settling.{Pending, IsOpenDoubt, as_landed, settled_by, settles}
use Rattle.history_seats.specs.Versions.{is_entry_of, version_after, version_next, version_of, mounted_version}
use Rattle.history_seats.specs.Directory.{directory_of, entries_after, entries_committed, entries_next, entries_tagged, has_entry, mounted_entries, renamed, with_name}
use Rattle.history_seats.specs.CommitLaws.{is_there_after}
use Rattle.history_seats.proofs.Doubts.{marked-settles}
use Rattle.history_seats.proofs.Lists.{both_true, neither, or_false, or_left}

-- what is filtered out is not there
none_kept : (file generation : ℕ) (entries : List Entry) → has_entry file generation (filter (λ e. not (is_entry_of file generation e)) entries) ≡ false
none_kept file generation [] = refl
none_kept file generation (e ∷ entries) = one (is_entry_of file generation e) refl (none_kept file generation entries)
  where
    one : (b : Bool) → is_entry_of file generation e ≡ b → has_entry file generation (filter (λ x. not (is_entry_of file generation x)) entries) ≡ false
        → has_entry file generation (cond (not b) (e ∷ filter (λ x. not (is_entry_of file generation x)) entries) (filter (λ x. not (is_entry_of file generation x)) entries)) ≡ false
    one true is rest = rest
    one false is rest = or_false (is_entry_of file generation e) (has_entry file generation (filter (λ x. not (is_entry_of file generation x)) entries)) is rest

module _ (file generation : ℕ) where
  has_filter : (keep : Entry → Bool) (entries : List Entry) → has_entry file generation (filter keep entries) ≡ true → has_entry file generation entries ≡ true
  has_filter keep [] h = h
  has_filter keep (e ∷ entries) h = elim (cases_Bool (keep e)) [
    | inl kept ↦ grind (arith, kept, h, has_filter keep entries)
    | inr gone ↦ grind (arith, gone, h, has_filter keep entries)
  ]

  is_renamed : (tag : Tag Version) (name : ObjectName) (e : Entry) → is_entry_of file generation (renamed tag name e) ≡ is_entry_of file generation e
  is_renamed tag name e = elim (cases_Bool (is_entry_of tag.file tag.generation e)) [
    | inl own ↦ ap (is_entry_of file generation) (cond-true (is_entry_of tag.file tag.generation e) (record e { name = name }) e own)
    | inr other ↦ ap (is_entry_of file generation) (cond-false (is_entry_of tag.file tag.generation e) (record e { name = name }) e other)
  ]

  has_renamed : (tag : Tag Version) (name : ObjectName) (entries : List Entry) → has_entry file generation (with_name tag name entries) ≡ has_entry file generation entries
  has_renamed tag name [] = refl
  has_renamed tag name (e ∷ entries) =
      ap (λ (b : Bool). b || has_entry file generation (with_name tag name entries)) (is_renamed tag name e)
      ∙ ap (λ (b : Bool). is_entry_of file generation e || b) (has_renamed tag name entries)

  has_tagged : (application : List ℕ) (call : Call) (tag : Tag Version) (entries : List Entry) → ((tag.file == file) && (tag.generation == generation)) ≡ false
      → has_entry file generation (entries_tagged application call tag entries) ≡ true → has_entry file generation entries ≡ true
  has_tagged application (Create id flags attributes bytes) tag entries other h =
      let keep : Entry → Bool = λ e. not (name_eq (record { app = application; id = id }) e.name) in
      has_filter keep entries (sym (ap (λ (b : Bool). b || has_entry file generation (filter keep entries)) other) ∙ h)
  has_tagged application (Rename handle id) tag entries other h = sym (has_renamed tag (record { app = application; id = id }) entries) ∙ h
  has_tagged application (Delete handle) tag entries other h = has_filter (λ e. not (is_entry_of tag.file tag.generation e)) entries h
  has_tagged application call tag entries other h = h

  -- a commit whose tag does not name the file's generation brings no entry of it
  pub has_committed : (application : List ℕ) (call : Call) (tag : Option (Tag Version)) (entries : List Entry) → is_object file generation tag ≡ false
      → has_entry file generation (entries_committed application call tag entries) ≡ true → has_entry file generation entries ≡ true
  has_committed application call None entries other h = h
  has_committed application call (Some tag) entries other h = has_tagged application call tag entries other h

  -- where no doubt concerns the file's generation, an entry of it that a landing leaves stands now
  abbrev pub IsQuiet : Pending (List Entry) → Pending (Option Version) → Type 0
  IsQuiet p q = q.if_landed ≡ None → (entries : List Entry) → p.if_landed ≡ Some entries → has_entry file generation entries ≡ true → has_entry file generation p.now ≡ true

  module _ (apps : List (List ℕ)) (tag : Option (Tag Version)) (p : Pending (List Entry)) (q : Pending (Option Version)) (quiet : IsQuiet p q) where
    quiet_named : (event : Event) → IsQuiet (entries_after apps event tag p) (version_after event tag q)
    quiet_named (CallEvent session number call reply Unchanged) none entries is h = quiet none entries is h
    quiet_named (CallEvent session number call reply (Made commit)) none entries is h = absurd (cc (is))
    quiet_named (CallEvent session number call reply (Doubtful commit)) none entries is h = absurd (cc (none))
    quiet_named (Landed commit) none entries is h = absurd (cc (is))

    quiet_other : (event : Event) → is_object file generation tag ≡ false → IsQuiet (entries_after apps event tag p) (settled_by event q)
    quiet_other (CallEvent session number call reply Unchanged) other none entries is h = quiet none entries is h
    quiet_other (CallEvent session number call reply (Made commit)) other none entries is h = absurd (cc (is))
    quiet_other (CallEvent session number call reply (Doubtful commit)) other none entries is h =
        let same : entries_committed (slice_index_or apps session []) call tag p.now ≡ entries = cc (is) in
        has_committed (slice_index_or apps session []) call tag p.now other (ap (has_entry file generation) same ∙ h)
    quiet_other (Landed commit) other none entries is h = absurd (cc (is))

    quiet_event : (event : Event) → IsQuiet (entries_after apps event tag p) (cond (is_object file generation tag) (version_after event tag q) (settled_by event q))
    quiet_event event = elim (cases_Bool (is_object file generation tag)) [
      | inl named ↦ subst (IsQuiet (entries_after apps event tag p)) (sym (cond-true (is_object file generation tag) (version_after event tag q) (settled_by event q) named)) (quiet_named event)
      | inr other ↦ subst (IsQuiet (entries_after apps event tag p)) (sym (cond-false (is_object file generation tag) (version_after event tag q) (settled_by event q) other)) (quiet_other event other)
    ]

  pub quiet_next : (apps : List (List ℕ)) (r : HistoryRecord) (p : Pending (List Entry)) (q : Pending (Option Version)) → IsQuiet p q → IsQuiet (entries_next apps p r) (version_next file generation q r)
  quiet_next apps r p q quiet = quiet_event apps r.tag p q quiet r.event

  quiet_all : (apps : List (List ℕ)) (records : List HistoryRecord) (p : Pending (List Entry)) (q : Pending (Option Version)) → IsQuiet p q
      → IsQuiet (fold (entries_next apps) p records) (fold (version_next file generation) q records)
  quiet_all apps [] p q quiet = quiet
  quiet_all apps (r ∷ records) p q quiet = quiet_all apps records (entries_next apps p r) (version_next file generation q r) (quiet_next apps r p q quiet)

  pub quiet_mounted : (mounted : Mounted) → IsQuiet (mounted_entries mounted) (mounted_version file generation mounted)
  quiet_mounted mounted = λ _ entries is _. absurd (cc (is))

  landed_now : (p : Pending (List Entry)) (q : Pending (Option Version)) (now : List Entry) (if_landed : Option (List Entry)) → p.now ≡ now → p.if_landed ≡ if_landed
      → IsQuiet p q → q.if_landed ≡ None → has_entry file generation (unwrap_or if_landed now) ≡ true → has_entry file generation now ≡ true
  landed_now p q now None is lands quiet none h = h
  landed_now p q now (Some entries) is lands quiet none h = sym (ap (has_entry file generation) is) ∙ quiet none entries lands h

  pub quiet_landed : (p : Pending (List Entry)) (q : Pending (Option Version)) → IsQuiet p q → q.if_landed ≡ None → has_entry file generation (as_landed p).now ≡ true → has_entry file generation p.now ≡ true
  quiet_landed p q quiet none h = landed_now p q p.now p.if_landed refl refl quiet none h

  -- where no doubt is left for the file's generation, a landing brings no entry of it
  pub landed_entry : (mounted : Mounted) (records : List HistoryRecord) → (version_of file generation mounted records).if_landed ≡ None
      → has_entry file generation (as_landed (directory_of mounted records)).now ≡ true → has_entry file generation (directory_of mounted records).now ≡ true
  landed_entry mounted records none h =
      quiet_landed (directory_of mounted records) (version_of file generation mounted records)
      (quiet_all mounted.applications records (mounted_entries mounted) (mounted_version file generation mounted) (quiet_mounted mounted)) none h

  -- an event that settles and does not name it leaves no doubt for it
  none_after : (event : Event) (q : Pending (Option Version)) → settles event ≡ true → (settled_by event q).if_landed ≡ None
  none_after (CallEvent session number call reply Unchanged) q is = absurd (true≢false (sym is))
  none_after (CallEvent session number call reply (Made commit)) q is = refl
  none_after (CallEvent session number call reply (Doubtful commit)) q is = refl
  none_after (Landed commit) q is = refl

  none_unsettled : (event : Event) (tag : Option (Tag Version)) (q : Pending (Option Version)) → settles event ≡ false → q.if_landed ≡ None
      → (b : Bool) → (cond b (version_after event tag q) (settled_by event q)).if_landed ≡ None
  none_unsettled (CallEvent session number call reply Unchanged) tag q off none true = none
  none_unsettled (CallEvent session number call reply Unchanged) tag q off none false = none
  none_unsettled (CallEvent session number call reply (Made commit)) tag q off none b = absurd (true≢false off)
  none_unsettled (CallEvent session number call reply (Doubtful commit)) tag q off none b = absurd (true≢false off)
  none_unsettled (Landed commit) tag q off none b = absurd (true≢false off)

  none_later : (q : Pending (Option Version)) (records : List HistoryRecord) → q.if_landed ≡ None → list_any settles (events_of records) ≡ false → (fold (version_next file generation) q records).if_landed ≡ None
  none_later q [] none off = none
  none_later q (r ∷ records) none off =
      let both = neither (settles r.event) (list_any settles (events_of records)) off in
      none_later (version_next file generation q r) records (none_unsettled r.event r.tag q both.0 none (concerns_object file generation r)) both.1

  pub none_left : (mounted : Mounted) (records : List HistoryRecord) (commit : ℕ) (doubt : IsOpenDoubt commit 0 records) → concerns_object file generation doubt.doubted ≡ false
      → (version_of file generation mounted records).if_landed ≡ None
  none_left mounted records commit doubt other =
      let before = version_of file generation mounted doubt.front in
      let d = doubt.doubted in
      let at : (version_next file generation before d).if_landed ≡ None =
      ap (λ (p : Pending (Option Version)). p.if_landed) (cond-false (concerns_object file generation d) (version_after d.event d.tag before) (settled_by d.event before) other)
      ∙ none_after d.event before (marked-settles commit d.event doubt.marked) in
      let whole : version_of file generation mounted (doubt.front ++ d ∷ doubt.back) ≡ fold (version_next file generation) (version_next file generation before d) doubt.back =
      fold-append (version_next file generation) (mounted_version file generation mounted) doubt.front (d ∷ doubt.back) in
      subst (λ (l : List HistoryRecord). (version_of file generation mounted l).if_landed ≡ None) doubt.is
      (ap (λ (p : Pending (Option Version)). p.if_landed) whole ∙ none_later (version_next file generation before d) doubt.back at doubt.last)

-- a commit's tag has an entry after a create, none after a delete, and else where it had one
pub moved-entry : (application : List ℕ) (call : Call) (tag : Tag Version) (entries : List Entry)
    → has_entry tag.file tag.generation (entries_committed application call (Some tag) entries) ≡ is_there_after call (has_entry tag.file tag.generation entries)
moved-entry application (Create id flags attributes bytes) tag entries =
    or_left ((tag.file == tag.file) && (tag.generation == tag.generation)) _
    (both_true (tag.file == tag.file) (tag.generation == tag.generation) (eq-eqb tag.file tag.file refl) (eq-eqb tag.generation tag.generation refl))
moved-entry application (Rename handle id) tag entries = has_renamed tag.file tag.generation tag (record { app = application; id = id }) entries
moved-entry application (Delete handle) tag entries = none_kept tag.file tag.generation entries
moved-entry application _ tag entries = refl
