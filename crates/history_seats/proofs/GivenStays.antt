-- What a record leaves of what is given, and what a commit gives.
use Rattle.std.proofs.Common.{◌≡◌, ◌≤◌, ℕ, length, drop, List, [], ◌∷◌, ◌++◌, Bool, true, false, true≢false, cond, ◌==◌, inl, inr, Option, Some, None, refl, sym, ap, ◌∙◌, eq-eqb}
use Rattle.std.proofs.lemmas.Bool.{cases_Bool, cond-true, cond-false, eqb-true}
use Rattle.std.specs.Prelude.{is_some, slice_index_or}
use Rattle.store_model.specs.declared.event.Event.{Event}
use Rattle.store_model.specs.declared.event.Event.TheVariants.{Call as CallEvent, Landed}
use Rattle.store_model.specs.declared.event.Mark.{Mark}
use Rattle.store_model.specs.declared.event.Mark.TheVariants.{Unchanged, Made, Doubtful}
use Rattle.store_model.specs.Record.{Tag}
use Rattle.history_seats.specs.Records.{HistoryRecord, Version, concerns_object, is_object}
use Rattle.history_seats.specs.Mounts.{Entry, Mounted}
use Rattle.history_seats.specs.Settling.{HasMark, Pending, as_landed, dropped, is_doubtful, is_landing, is_made, settled_by}
use Rattle.history_seats.specs.Versions.{version_after, version_of}
use Rattle.history_seats.specs.Directory.{directory_of, entries_after, given_version, has_entry}
use Rattle.history_seats.specs.Tags.{HasRightTag}
use Rattle.history_seats.specs.Changes.{landing_of}
use Rattle.history_seats.specs.Known.{version_from}
use Rattle.history_seats.specs.EntryLaws.{IsLeft}
use Rattle.history_seats.specs.CommitLaws.{GivesInDoubt, GivesMade}
use Rattle.history_seats.proofs.Lists.{and_parts, both_true}
use Rattle.history_seats.proofs.Givens.{directory-snoc, version-snoc}
use Rattle.history_seats.proofs.OpenDoubts.{unchanged-settles}
use Rattle.history_seats.proofs.Places.{any_settles, open-snoc}
use Rattle.history_seats.proofs.DoubtedEntries.{has_committed}

-- the tag of a record that concerns the object, and what it names
pub named_tag : (file generation : ℕ) (r : HistoryRecord) → concerns_object file generation r ≡ true → (tag : Tag Version) × (r.tag ≡ Some tag) × (tag.file ≡ file) × (tag.generation ≡ generation)
named_tag file generation r own = one r.tag refl own
  where
    one : (tag : Option (Tag Version)) → r.tag ≡ tag → is_object file generation tag ≡ true → (tag : Tag Version) × (r.tag ≡ Some tag) × (tag.file ≡ file) × (tag.generation ≡ generation)
    one None is e = absurd (true≢false (sym e))
    one (Some tag) is e =
        let both = and_parts (tag.file == file) (tag.generation == generation) e in
        (tag, is, eqb-true tag.file file both.0, eqb-true tag.generation generation both.1)

-- what is given where an entry is
pub given-there : (mounted : Mounted) (records : List HistoryRecord) (file generation : ℕ) → has_entry file generation (directory_of mounted records).now ≡ true
    → given_version mounted records file generation ≡ (version_of file generation mounted records).now
given-there mounted records file generation has = cond-true (has_entry file generation (directory_of mounted records).now) (version_of file generation mounted records).now None has

-- and where there is none
pub given-gone : (mounted : Mounted) (records : List HistoryRecord) (file generation : ℕ) → has_entry file generation (directory_of mounted records).now ≡ false → given_version mounted records file generation ≡ None
given-gone mounted records file generation gone = cond-false (has_entry file generation (directory_of mounted records).now) (version_of file generation mounted records).now None gone

-- a tag on a call says what is committed after it
version-tagged : (event : Event) (tag : Tag Version) (q : Pending (Option Version)) → is_landing event ≡ false → (version_after event (Some tag) q).now ≡ tag.committed
version-tagged (CallEvent session number call reply Unchanged) tag q is = refl
version-tagged (CallEvent session number call reply (Made commit)) tag q is = refl
version-tagged (CallEvent session number call reply (Doubtful commit)) tag q is = refl
version-tagged (Landed commit) tag q is = absurd (true≢false is)

not-made : (event : Event) → HasMark Unchanged event → is_made event ≡ false
not-made (CallEvent session number call reply Unchanged) is = refl
not-made (CallEvent session number call reply (Made commit)) is = absurd (cc (is))
not-made (CallEvent session number call reply (Doubtful commit)) is = refl
not-made (Landed commit) is = refl

not-landing : (mark : Mark) (event : Event) → HasMark mark event → is_landing event ≡ false
not-landing mark (CallEvent session number call reply m) is = refl
not-landing mark (Landed commit) is = absurd is

version-unchanged : (tag : Option (Tag Version)) (event : Event) (q : Pending (Option Version)) → HasMark Unchanged event → (version_after event tag q).if_landed ≡ q.if_landed
version-unchanged tag (CallEvent session number call reply mark) q is = ap (λ (m : Mark). (version_after (CallEvent session number call reply m) tag q).if_landed) is
version-unchanged tag (Landed commit) q is = absurd is

settled-unchanged : (event : Event) (q : Pending (Option Version)) → HasMark Unchanged event → settled_by event q ≡ q
settled-unchanged (CallEvent session number call reply mark) q is = ap (λ (m : Mark). settled_by (CallEvent session number call reply m) q) is
settled-unchanged (Landed commit) q is = absurd is

directory-unchanged : (mounted : Mounted) (records : List HistoryRecord) (r : HistoryRecord) → HasMark Unchanged r.event → directory_of mounted (records ++ r ∷ []) ≡ directory_of mounted records
directory-unchanged mounted records r unchanged = directory-snoc mounted records r ∙ one r.event unchanged
  where
    one : (event : Event) → HasMark Unchanged event → entries_after mounted.applications event r.tag (directory_of mounted records) ≡ directory_of mounted records
    one (CallEvent session number call reply mark) is =
        ap (λ (m : Mark). entries_after mounted.applications (CallEvent session number call reply m) r.tag (directory_of mounted records)) is
    one (Landed commit) is = absurd is

-- a call that is not of the object leaves its version as it stands
settled-now : (event : Event) (q : Pending (Option Version)) → is_landing event ≡ false → (settled_by event q).now ≡ q.now
settled-now (CallEvent session number call reply Unchanged) q is = refl
settled-now (CallEvent session number call reply (Made commit)) q is = refl
settled-now (CallEvent session number call reply (Doubtful commit)) q is = refl
settled-now (Landed commit) q is = absurd (true≢false is)

-- without a commit that is made the entries stand
entries-now : (apps : List (List ℕ)) (event : Event) (tag : Option (Tag Version)) (p : Pending (List Entry)) → is_landing event ≡ false → is_made event ≡ false → (entries_after apps event tag p).now ≡ p.now
entries-now apps (CallEvent session number call reply Unchanged) tag p on unmade = refl
entries-now apps (CallEvent session number call reply (Made commit)) tag p on unmade = absurd (true≢false unmade)
entries-now apps (CallEvent session number call reply (Doubtful commit)) tag p on unmade = refl
entries-now apps (Landed commit) tag p on unmade = absurd (true≢false on)

module _ (mounted : Mounted) (records : List HistoryRecord) (r : HistoryRecord) (on : is_landing r.event ≡ false) (right : HasRightTag mounted records r) where
  abbrev pub after : List HistoryRecord
  after = records ++ r ∷ []

  -- the version of an object that the record does not concern
  version-other : (file generation : ℕ) → concerns_object file generation r ≡ false → version_of file generation mounted after ≡ settled_by r.event (version_of file generation mounted records)
  version-other file generation off =
      version-snoc file generation mounted records r
      ∙ cond-false (concerns_object file generation r) (version_after r.event r.tag (version_of file generation mounted records)) (settled_by r.event (version_of file generation mounted records)) off

  -- and of one that it does
  version-own : (file generation : ℕ) (tag : Tag Version) → r.tag ≡ Some tag → concerns_object file generation r ≡ true
      → version_of file generation mounted after ≡ version_after r.event (Some tag) (version_of file generation mounted records)
  version-own file generation tag is own =
      version-snoc file generation mounted records r
      ∙ cond-true (concerns_object file generation r) (version_after r.event r.tag (version_of file generation mounted records)) (settled_by r.event (version_of file generation mounted records)) own
      ∙ ap (λ (o : Option (Tag Version)). version_after r.event o (version_of file generation mounted records)) is

  module _ (unmade : is_made r.event ≡ false) where
    directory-now : (directory_of mounted after).now ≡ (directory_of mounted records).now
    directory-now = ap (λ (p : Pending (List Entry)). p.now) (directory-snoc mounted records r) ∙ entries-now mounted.applications r.event r.tag (directory_of mounted records) on unmade

    version-now : (file generation : ℕ) → has_entry file generation (directory_of mounted records).now ≡ true → (version_of file generation mounted after).now ≡ (version_of file generation mounted records).now
    version-now file generation has = elim (cases_Bool (concerns_object file generation r)) [
      | inl own ↦
          let t = named_tag file generation r own in
          let told = right t.0 t.1 in
          ap (λ (p : Pending (Option Version)). p.now) (version-own file generation t.0 t.1 own)
          ∙ version-tagged r.event t.0 (version_of file generation mounted records) on
          ∙ told.stays unmade ∙ (λ i. given_version mounted records (t.2 i) (t.3 i)) ∙ given-there mounted records file generation has
      | inr off ↦ ap (λ (p : Pending (Option Version)). p.now) (version-other file generation off) ∙ settled-now r.event (version_of file generation mounted records) on
    ]

    -- without a commit that is made, what is given stays
    given-stays : (file generation : ℕ) → given_version mounted after file generation ≡ given_version mounted records file generation
    given-stays file generation =
        let same : has_entry file generation (directory_of mounted after).now ≡ has_entry file generation (directory_of mounted records).now = ap (has_entry file generation) directory-now in
        elim (cases_Bool (has_entry file generation (directory_of mounted records).now)) [
          | inl has ↦ given-there mounted after file generation (same ∙ has) ∙ version-now file generation has ∙ sym (given-there mounted records file generation has)
          | inr none ↦ given-gone mounted after file generation (same ∙ none) ∙ sym (given-gone mounted records file generation none)
        ]

module _ (mounted : Mounted) (records : List HistoryRecord) (r : HistoryRecord) (unchanged : HasMark Unchanged r.event) (right : HasRightTag mounted records r) where
  doubt-left : (file generation : ℕ) → (version_of file generation mounted (records ++ r ∷ [])).if_landed ≡ (version_of file generation mounted records).if_landed
  doubt-left file generation =
      let q = version_of file generation mounted records in
      let b : Bool = concerns_object file generation r in
      ap (λ (p : Pending (Option Version)). p.if_landed) (version-snoc file generation mounted records r)
      ∙ elim (cases_Bool b) [
        | inl own ↦ ap (λ (p : Pending (Option Version)). p.if_landed) (cond-true b (version_after r.event r.tag q) (settled_by r.event q) own) ∙ version-unchanged r.tag r.event q unchanged
        | inr off ↦ ap (λ (p : Pending (Option Version)). p.if_landed) (cond-false b (version_after r.event r.tag q) (settled_by r.event q) off ∙ settled-unchanged r.event q unchanged)
      ]

  doubt-from : (z file generation : ℕ) → z ≤ length records → (version_from z file generation mounted (records ++ r ∷ [])).if_landed ≡ (version_from z file generation mounted records).if_landed
  doubt-from z file generation le =
      ap (λ (p : Pending (Option Version)). p.if_landed) (open-snoc z records r (version_of file generation mounted (records ++ r ∷ [])) (unchanged-settles r.event unchanged) le)
      ∙ one (any_settles (drop z records)) (version_of file generation mounted (records ++ r ∷ [])) (version_of file generation mounted records) (doubt-left file generation)
    where
      one : (b : Bool) (p q : Pending (Option Version)) → p.if_landed ≡ q.if_landed → (cond b p (dropped p)).if_landed ≡ (cond b q (dropped q)).if_landed
      one true p q e = e
      one false p q e = refl

  pub unchanged-leaves : IsLeft mounted records (records ++ r ∷ [])
  unchanged-leaves = record {
    directory = directory-unchanged mounted records r unchanged;
    given = given-stays mounted records r (not-landing Unchanged r.event unchanged) right (not-made r.event unchanged);
    in_doubt = doubt-from;
  }

none-of : (o : Option Version) → is_some o ≡ false → o ≡ None
none-of None is = refl
none-of (Some v) is = absurd (true≢false is)

own-object : (r : HistoryRecord) (tag : Tag Version) → r.tag ≡ Some tag → concerns_object tag.file tag.generation r ≡ true
own-object r tag is =
    ap (is_object tag.file tag.generation) is
    ∙ both_true (tag.file == tag.file) (tag.generation == tag.generation) (eq-eqb tag.file tag.file refl) (eq-eqb tag.generation tag.generation refl)

is-made : (event : Event) → is_made event ≡ true → is_landing event ≡ false
is-made (CallEvent session number call reply mark) is = refl
is-made (Landed commit) is = absurd (true≢false (sym is))

made-doubt : (event : Event) (q : Pending (Option Version)) (tag : Tag Version) → is_made event ≡ true → (b : Bool) → (cond b (version_after event (Some tag) q) (settled_by event q)).if_landed ≡ None
made-doubt (CallEvent session number call reply Unchanged) q tag is b = absurd (true≢false (sym is))
made-doubt (CallEvent session number call reply (Made commit)) q tag is true = refl
made-doubt (CallEvent session number call reply (Made commit)) q tag is false = refl
made-doubt (CallEvent session number call reply (Doubtful commit)) q tag is b = absurd (true≢false (sym is))
made-doubt (Landed commit) q tag is b = absurd (true≢false (sym is))

-- a commit that does not concern an object brings no entry of it
has-before : (file generation : ℕ) (apps : List (List ℕ)) (event : Event) (tag : Option (Tag Version)) (p : Pending (List Entry)) → is_landing event ≡ false → is_object file generation tag ≡ false
    → has_entry file generation (entries_after apps event tag p).now ≡ true → has_entry file generation p.now ≡ true
has-before file generation apps (CallEvent session number call reply Unchanged) tag p on off h = h
has-before file generation apps (CallEvent session number call reply (Made commit)) tag p on off h = has_committed file generation (slice_index_or apps session []) call tag p.now off h
has-before file generation apps (CallEvent session number call reply (Doubtful commit)) tag p on off h = h
has-before file generation apps (Landed commit) tag p on off h = absurd (true≢false on)

module _ (mounted : Mounted) (records : List HistoryRecord) (r : HistoryRecord) (tag : Tag Version) (is : r.tag ≡ Some tag) (right : HasRightTag mounted records r) where
  -- what is given after a commit was made
  made-own : is_made r.event ≡ true → given_version mounted (records ++ r ∷ []) tag.file tag.generation ≡ tag.committed
  made-own made =
      let told = right tag is in
      elim (cases_Bool (has_entry tag.file tag.generation (directory_of mounted (records ++ r ∷ [])).now)) [
        | inl has ↦
            given-there mounted (records ++ r ∷ []) tag.file tag.generation has
            ∙ ap (λ (p : Pending (Option Version)). p.now) (version-own mounted records r told.on_a_call right tag.file tag.generation tag is (own-object r tag is))
            ∙ version-tagged r.event tag (version_of tag.file tag.generation mounted records) told.on_a_call
        | inr gone ↦ given-gone mounted (records ++ r ∷ []) tag.file tag.generation gone ∙ sym (none-of tag.committed (told.made made ∙ gone))
      ]

  made-others : is_made r.event ≡ true → (file generation : ℕ) → concerns_object file generation r ≡ false → given_version mounted (records ++ r ∷ []) file generation
      ≡ cond (has_entry file generation (directory_of mounted (records ++ r ∷ [])).now) (given_version mounted records file generation) None
  made-others made file generation off =
      let on = is-made r.event made in
      let b : Bool = has_entry file generation (directory_of mounted (records ++ r ∷ [])).now in
      elim (cases_Bool b) [
        | inl has ↦
            let was : has_entry file generation (directory_of mounted records).now ≡ true =
            has-before file generation mounted.applications r.event r.tag (directory_of mounted records) on off
            (sym (ap (λ (p : Pending (List Entry)). has_entry file generation p.now) (directory-snoc mounted records r)) ∙ has) in
            given-there mounted (records ++ r ∷ []) file generation has
            ∙ ap (λ (p : Pending (Option Version)). p.now) (version-other mounted records r on right file generation off)
            ∙ settled-now r.event (version_of file generation mounted records) on
            ∙ sym (given-there mounted records file generation was)
            ∙ sym (cond-true b (given_version mounted records file generation) None has)
        | inr gone ↦ given-gone mounted (records ++ r ∷ []) file generation gone ∙ sym (cond-false b (given_version mounted records file generation) None gone)
      ]

  none-doubted : is_made r.event ≡ true → (file generation : ℕ) → (version_of file generation mounted (records ++ r ∷ [])).if_landed ≡ None
  none-doubted made file generation =
      ap (λ (p : Pending (Option Version)). p.if_landed)
      (version-snoc file generation mounted records r
      ∙ ap (λ (o : Option (Tag Version)). cond (concerns_object file generation r) (version_after r.event o (version_of file generation mounted records)) (settled_by r.event (version_of file generation mounted records))) is)
      ∙ made-doubt r.event (version_of file generation mounted records) tag made (concerns_object file generation r)

  pub made-gives : is_made r.event ≡ true → GivesMade mounted records (records ++ r ∷ []) tag
  made-gives made = record {
    own = made-own made;
    others = λ file generation off. made-others made file generation (ap (is_object file generation) is ∙ off);
    in_doubt = none-doubted made;
  }

  doubtful-call : (event : Event) → is_doubtful event ≡ true → (is_landing event ≡ false) × (is_made event ≡ false)
  doubtful-call (CallEvent session number call reply Unchanged) e = absurd (true≢false (sym e))
  doubtful-call (CallEvent session number call reply (Made commit)) e = absurd (true≢false (sym e))
  doubtful-call (CallEvent session number call reply (Doubtful commit)) e = (refl, refl)
  doubtful-call (Landed commit) e = absurd (true≢false (sym e))

  doubtful-own : (event : Event) (q : Pending (Option Version)) → is_doubtful event ≡ true → (version_after event (Some tag) q).if_landed ≡ Some tag.doubted
  doubtful-own (CallEvent session number call reply Unchanged) q e = absurd (true≢false (sym e))
  doubtful-own (CallEvent session number call reply (Made commit)) q e = absurd (true≢false (sym e))
  doubtful-own (CallEvent session number call reply (Doubtful commit)) q e = refl
  doubtful-own (Landed commit) q e = absurd (true≢false (sym e))

  doubtful-other : (event : Event) (q : Pending (Option Version)) → is_doubtful event ≡ true → (settled_by event q).if_landed ≡ None
  doubtful-other (CallEvent session number call reply Unchanged) q e = absurd (true≢false (sym e))
  doubtful-other (CallEvent session number call reply (Made commit)) q e = absurd (true≢false (sym e))
  doubtful-other (CallEvent session number call reply (Doubtful commit)) q e = refl
  doubtful-other (Landed commit) q e = absurd (true≢false (sym e))

  pub doubt-gives : is_doubtful r.event ≡ true → GivesInDoubt mounted records (records ++ r ∷ []) tag
  doubt-gives e =
      let call = doubtful-call r.event e in
      record {
        given = given-stays mounted records r call.0 right call.1;
        own =
            ap (λ (p : Pending (Option Version)). p.if_landed) (version-own mounted records r call.0 right tag.file tag.generation tag is (own-object r tag is))
            ∙ doubtful-own r.event (version_of tag.file tag.generation mounted records) e;
        others = λ file generation off.
            ap (λ (p : Pending (Option Version)). p.if_landed) (version-other mounted records r call.0 right file generation (ap (is_object file generation) is ∙ off))
            ∙ doubtful-other r.event (version_of file generation mounted records) e;
      }

-- what is given once the doubt landed
pub landing-gives : (mounted : Mounted) (records : List HistoryRecord) (commit file generation : ℕ) → given_version mounted (records ++ landing_of commit ∷ []) file generation
    ≡ cond (has_entry file generation (as_landed (directory_of mounted records)).now) (as_landed (version_of file generation mounted records)).now None
landing-gives mounted records commit file generation =
    let d = directory-snoc mounted records (landing_of commit) in
    let v = version-snoc file generation mounted records (landing_of commit) in
    λ i. cond (has_entry file generation (d i).now) (v i).now None
