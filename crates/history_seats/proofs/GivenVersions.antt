-- Each entry of the directory has a version.
use Rattle.std.proofs.Common.{◌≡◌, ℕ, List, [], ◌∷◌, ◌++◌, Bool, true, false, true≢false, cond, ◌&&◌, ◌||◌, inl, inr, map, Option, Some, None, refl, sym, ap, ◌∙◌, subst, append_assoc}
use Rattle.std.proofs.lemmas.Bool.{cases_Bool, cond-true, cond-false}
use Rattle.std.proofs.lemmas.List.{append-nil}
use Rattle.std.specs.Prelude.{is_some, slice_index_or, unwrap_or}
use Rattle.tee_types.specs.declared.call.Call.TheVariants.{Create}
use Rattle.tee_types.specs.declared.flags.Flags.{Flags}
use Rattle.tee_types.specs.declared.reply.Reply.{Reply}
use Rattle.store_model.specs.declared.event.Event.{Event}
use Rattle.store_model.specs.declared.event.Event.TheVariants.{Call as CallEvent, Landed}
use Rattle.store_model.specs.declared.event.Mark.TheVariants.{Unchanged, Made, Doubtful}
use Rattle.store_model.specs.Record.{Tag}
use Rattle.history_seats.specs.Records.{HistoryRecord, Version, concerns_object, is_object}
use Rattle.history_seats.specs.Mounts.{Entry, Mounted, MountedEntry}
use Rattle.history_seats.specs.Settling.{Pending, as_landed, is_doubtful, is_landing, is_made, settled_by}
use Rattle.history_seats.specs.Versions.{is_entry_of, mounted_version, version_after, version_among, version_next, version_of}
use Rattle.history_seats.specs.Directory.{directory_of, entries_after, entries_committed, entries_next, given_version, has_entry, mounted_entries}
use Rattle.history_seats.specs.Tags.{AreTagsRight, HasRightTag, IsTagRight}
use Rattle.history_seats.specs.EntryLaws.{HaveVersions}
use Rattle.history_seats.proofs.Givens.{directory-snoc, version-snoc}
use Rattle.history_seats.proofs.DoubtedEntries.{IsQuiet, has_committed, moved-entry, quiet_landed, quiet_mounted, quiet_next}
use Rattle.history_seats.proofs.GivenStays.{given-there, named_tag}

module _ (file generation : ℕ) where
  -- an entry of the file's generation has a version, as it stands and as the doubt leaves it
  record Have (p : Pending (List Entry)) (q : Pending (Option Version)) : Type 0 where
    pub now : has_entry file generation p.now ≡ true → is_some q.now ≡ true
    pub landed : has_entry file generation (as_landed p).now ≡ true → is_some (as_landed q).now ≡ true
    pub quiet : IsQuiet file generation p q

  -- where what is committed is what was given
  module _ (p : Pending (List Entry)) (q : Pending (Option Version)) (have : Have p q) (committed : Option Version) (given : committed ≡ cond (has_entry file generation p.now) q.now None) where
    committed-now : has_entry file generation p.now ≡ true → is_some committed ≡ true
    committed-now h = ap is_some (given ∙ cond-true (has_entry file generation p.now) q.now None h) ∙ have.now h

    committed-landed : (o : Option (Option Version)) → q.if_landed ≡ o → has_entry file generation (as_landed p).now ≡ true → is_some (unwrap_or q.if_landed committed) ≡ true
    committed-landed None e h = ap (λ (o : Option (Option Version)). is_some (unwrap_or o committed)) e ∙ committed-now (quiet_landed file generation p q have.quiet e h)
    committed-landed (Some x) e h =
        ap (λ (o : Option (Option Version)). is_some (unwrap_or o committed)) e
        ∙ sym (ap (λ (o : Option (Option Version)). is_some (unwrap_or o q.now)) e) ∙ have.landed h

  record Both (p : Pending (List Entry)) (q : Pending (Option Version)) : Type 0 where
    pub now : has_entry file generation p.now ≡ true → is_some q.now ≡ true
    pub landed : has_entry file generation (as_landed p).now ≡ true → is_some (as_landed q).now ≡ true

  module _ (apps : List (List ℕ)) (p : Pending (List Entry)) (q : Pending (Option Version)) (have : Have p q) where
    named : (event : Event) (tag : Tag Version) → is_landing event ≡ false
        → (is_made event ≡ false → tag.committed ≡ cond (has_entry file generation p.now) q.now None)
        → (is_made event ≡ true → is_some tag.committed ≡ has_entry file generation (entries_after apps event (Some tag) p).now)
        → is_some tag.doubted ≡ (is_doubtful event && has_entry file generation (as_landed (entries_after apps event (Some tag) p)).now)
        → Both (entries_after apps event (Some tag) p) (version_after event (Some tag) q)
    named (CallEvent session number call reply Unchanged) tag on given made doubted =
        record { now = committed-now p q have tag.committed (given refl); landed = committed-landed p q have tag.committed (given refl) q.if_landed refl }
    named (CallEvent session number call reply (Made commit)) tag on given made doubted = record { now = λ h. made refl ∙ h; landed = λ h. made refl ∙ h }
    named (CallEvent session number call reply (Doubtful commit)) tag on given made doubted = record { now = committed-now p q have tag.committed (given refl); landed = λ h. doubted ∙ h }
    named (Landed commit) tag on given made doubted = absurd (true≢false on)

    other : (event : Event) (tag : Option (Tag Version)) → is_object file generation tag ≡ false
        → Both (entries_after apps event tag p) (settled_by event q)
    other (CallEvent session number call reply Unchanged) tag off = record { now = have.now; landed = have.landed }
    other (CallEvent session number call reply (Made commit)) tag off =
        let was : has_entry file generation (entries_committed (slice_index_or apps session []) call tag p.now) ≡ true → is_some q.now ≡ true =
        λ h. have.now (has_committed file generation (slice_index_or apps session []) call tag p.now off h) in
        record { now = was; landed = was }
    other (CallEvent session number call reply (Doubtful commit)) tag off =
        record { now = have.now; landed = λ h. have.now (has_committed file generation (slice_index_or apps session []) call tag p.now off h) }
    other (Landed commit) tag off = record { now = have.landed; landed = have.landed }

  have-next : (mounted : Mounted) (before : List HistoryRecord) (r : HistoryRecord) → HasRightTag mounted before r → Have (directory_of mounted before) (version_of file generation mounted before)
      → Have (directory_of mounted (before ++ r ∷ [])) (version_of file generation mounted (before ++ r ∷ []))
  have-next mounted before r right have =
      let p = directory_of mounted before in
      let q = version_of file generation mounted before in
      let b : Bool = concerns_object file generation r in
      let dir = directory-snoc mounted before r in
      let both : Both (entries_next mounted.applications p r) (version_next file generation q r) = elim (cases_Bool b) [
        | inl own ↦
            let t = named_tag file generation r own in
            let told = right t.0 t.1 in
            let given : is_made r.event ≡ false → t.0.committed ≡ cond (has_entry file generation p.now) q.now None =
            λ made. told.stays made ∙ (λ i. given_version mounted before (t.2 i) (t.3 i)) in
            let after : directory_of mounted (before ++ r ∷ []) ≡ entries_after mounted.applications r.event (Some t.0) p =
            dir ∙ ap (λ (o : Option (Tag Version)). entries_after mounted.applications r.event o p) t.1 in
            let made : is_made r.event ≡ true → is_some t.0.committed ≡ has_entry file generation (entries_after mounted.applications r.event (Some t.0) p).now =
            λ made. told.made made ∙ (λ i. has_entry (t.2 i) (t.3 i) (after i).now) in
            let doubted : is_some t.0.doubted ≡ (is_doubtful r.event && has_entry file generation (as_landed (entries_after mounted.applications r.event (Some t.0) p)).now) =
            told.doubted ∙ (λ i. is_doubtful r.event && has_entry (t.2 i) (t.3 i) (as_landed (after i)).now) in
            let one : Both (entries_after mounted.applications r.event (Some t.0) p) (version_after r.event (Some t.0) q) = named mounted.applications p q have r.event t.0 told.on_a_call given made doubted in
            let back : Both (entries_after mounted.applications r.event r.tag p) (version_after r.event r.tag q) =
            subst (λ (o : Option (Tag Version)). Both (entries_after mounted.applications r.event o p) (version_after r.event o q)) (sym t.1) one in
            subst (Both (entries_next mounted.applications p r)) (sym (cond-true b (version_after r.event r.tag q) (settled_by r.event q) own)) back
        | inr off ↦
            subst (Both (entries_next mounted.applications p r)) (sym (cond-false b (version_after r.event r.tag q) (settled_by r.event q) off)) (other mounted.applications p q have r.event r.tag off)
      ] in
      let here : Have (entries_next mounted.applications p r) (version_next file generation q r) =
      record { now = both.now; landed = both.landed; quiet = quiet_next file generation mounted.applications r p q have.quiet } in
      subst (λ (x : Pending (List Entry) × Pending (Option Version)). Have x.0 x.1) (λ i. (sym dir i, sym (version-snoc file generation mounted before r) i)) here

  have-all : (mounted : Mounted) (before records : List HistoryRecord) → AreTagsRight mounted before records → Have (directory_of mounted before) (version_of file generation mounted before)
      → Have (directory_of mounted (before ++ records)) (version_of file generation mounted (before ++ records))
  have-all mounted before [] right have =
      subst (λ (l : List HistoryRecord). Have (directory_of mounted l) (version_of file generation mounted l)) (sym (append-nil before)) have
  have-all mounted before (r ∷ records) right have =
      subst (λ (l : List HistoryRecord). Have (directory_of mounted l) (version_of file generation mounted l)) (append_assoc before (r ∷ []) records)
      (have-all mounted (before ++ r ∷ []) records right.1 (have-next mounted before r right.0 have))

  first : (b : Bool) (version : Version) (later : Bool) (rest : Option Version) → (later ≡ true → is_some rest ≡ true) → (b || later) ≡ true → is_some (cond b (Some version) rest) ≡ true
  first true version later rest then_ h = refl
  first false version later rest then_ h = then_ h

  among : (entries : List MountedEntry) → has_entry file generation (map (λ e. e.entry) entries) ≡ true → is_some (version_among file generation entries) ≡ true
  among [] h = h
  among (e ∷ entries) h = first (is_entry_of file generation e.entry) e.version (has_entry file generation (map (λ e. e.entry) entries)) (version_among file generation entries) (among entries) h

  have-mounted : (mounted : Mounted) → Have (mounted_entries mounted) (mounted_version file generation mounted)
  have-mounted mounted = record { now = among mounted.entries; landed = among mounted.entries; quiet = quiet_mounted file generation mounted }

  pub have-versions : (mounted : Mounted) (records : List HistoryRecord) → AreTagsRight mounted [] records → HaveVersions mounted records file generation
  have-versions mounted records right =
      let have = have-all mounted [] records right (have-mounted mounted) in
      record { now = λ h. ap is_some (given-there mounted records file generation h) ∙ have.now h; landed = have.landed }

-- a create that is made leaves an entry
pub created-right : (mounted : Mounted) (before : List HistoryRecord) (session number : ℕ) (id : List ℕ) (flags : Flags) (attributes bytes : List ℕ) (reply : Reply) (commit file generation : ℕ) (version : Version)
    → HasRightTag mounted before (record {
      event = CallEvent session number (Create id flags attributes bytes) reply (Made commit);
      tag = Some (record { file = file; generation = generation; committed = Some version; doubted = None });
    })
created-right mounted before session number id flags attributes bytes reply commit file generation version tag is =
    let own : Tag Version = record { file = file; generation = generation; committed = Some version; doubted = None } in
    let r : HistoryRecord = record { event = CallEvent session number (Create id flags attributes bytes) reply (Made commit); tag = Some own } in
    let there : true ≡ has_entry file generation (directory_of mounted (before ++ r ∷ [])).now =
    sym (ap (λ (p : Pending (List Entry)). has_entry file generation p.now) (directory-snoc mounted before r)
    ∙ moved-entry (slice_index_or mounted.applications session []) (Create id flags attributes bytes) own (directory_of mounted before).now) in
    subst (λ (t : Tag Version). IsTagRight mounted before r t) (inside own tag is) (record { on_a_call = refl; stays = λ made. absurd (true≢false made); made = λ made. there; doubted = refl })
  where
    inside : (one same : Tag Version) → Some one ≡ Some same → one ≡ same
    inside one same e = cc
