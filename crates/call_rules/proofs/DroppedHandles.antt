-- A handle that is dropped takes its own record away, and no other; the table keeps the handles that are left.
use Rattle.std.proofs.Common.{◌≡◌, ◌≢◌, ◌<◌, ◌==◌, ◌⊎◌, ◌↔◌, ℕ, Bool, true, true≢false, ◌&&◌, List, [], length, length-set, slice_set, Option, Some, None, find, inl, inr, refl, sym, ap, ◌∙◌, subst, arith, eq-eqb, eqb-true}
use Rattle.std.specs.Option.{option_map}
use Rattle.std.proofs.lemmas.Bool.{and_parts, cases_eq}
use Rattle.enumerators.specs.Places.{IsNumbered}
use Rattle.enumerators.proofs.Numbering.{IsNumbered-remove_entry}
use Rattle.dir_records.specs.declared.entry.DirEntry.{DirEntry}
use Rattle.open_table.specs.declared.table.OpenRecord.{OpenRecord}
use Rattle.open_table.specs.Table.{TableState, record_at}
use Rattle.store_model.specs.declared.session.Handle.{Handle}
use Rattle.store_model.specs.Machine.{Session, handle_at, new_session, without_handle}
use Rattle.open_table.specs.HandleChanges.{DropsHandle, WithoutKey}
use Rattle.call_rules.specs.OpenHandles.{AreOpen, IsRecordOf}
use Rattle.call_rules.proofs.EntryLists.{at_number, taken-found, taken-other}
use Rattle.call_rules.proofs.EntryTests.{find-found, find-none}
use Rattle.call_rules.proofs.OpenSteps.{IsLive, KeepsFile, nth, record-after}
use Rattle.call_rules.proofs.QuietSteps.{numbers-without, set_numbers}
use Rattle.call_rules.proofs.SessionLists.{live-within, set-in}

-- the record is of that session's handle
abbrev pub IsOf : OpenRecord → ℕ → ℕ → Type 0
IsOf r i number = (r.session ≡ i) × (r.handle ≡ number)

module _ (entries : List (Option DirEntry)) (old new : TableState) (sessions : List Session) (are_open : AreOpen entries old sessions) (i number : ℕ) where
  abbrev test : ℕ × OpenRecord → Bool
  test e = ((e.1).session == i) && ((e.1).handle == number)

  passes : (key : ℕ) (r : OpenRecord) → IsOf r i number → test (key, r) ≡ true
  passes key r is = λ k. eq-eqb r.session i is.0 k && eq-eqb r.handle number is.1 k

  -- what the table has without the key of the first record that passes
  pub record Drops (later : List (ℕ × OpenRecord)) (bound : ℕ) : Type 0 where
    pub left : (key : ℕ) (r : OpenRecord) → at_number later key ≡ Some r → (record_at old key ≡ Some r) × (IsOf r i number → ⊥)
    pub kept : (key : ℕ) (r : OpenRecord) → record_at old key ≡ Some r → (IsOf r i number → ⊥) → at_number later key ≡ Some r
    pub keyed : IsNumbered 0 later bound

  first : (found : Option (ℕ × OpenRecord)) → find test old.records ≡ found → WithoutKey old new (option_map (λ e. e.0) found) → Drops new.records are_open.bound
  first None found same = record {
    left = λ key r is.
        let was : record_at old key ≡ Some r = ap (λ (rs : List (ℕ × OpenRecord)). at_number rs key) (sym same) ∙ is in
        (was, λ of. true≢false (sym (passes key r of) ∙ find-none test old.records key r found was));
    kept = λ key r was _. ap (λ (rs : List (ℕ × OpenRecord)). at_number rs key) same ∙ was;
    keyed = subst (λ (rs : List (ℕ × OpenRecord)). IsNumbered 0 rs are_open.bound) (sym same) are_open.keyed;
  }
  first (Some e) found taken =
      let at = find-found test old.records 0 are_open.bound e are_open.keyed found in
      let tests = and_parts ((e.1).session == i) ((e.1).handle == number) at.1 in
      let session : (e.1).session ≡ i = eqb-true (e.1).session i tests.0 in
      let handle : (e.1).handle ≡ number = eqb-true (e.1).handle number tests.1 in
      record {
        left = λ key r is.
            let was = taken-found old.records are_open.bound e.0 key r are_open.keyed (ap (λ (rs : List (ℕ × OpenRecord)). at_number rs key) (sym taken) ∙ is) in
            (was.1, λ of. was.0 (are_open.single key e.0 r e.1 was.1 at.0 (of.0 ∙ sym session) (of.1 ∙ sym handle)));
        kept = λ key r was other.
            ap (λ (rs : List (ℕ × OpenRecord)). at_number rs key) taken
            ∙ taken-other old.records e.0 key
            (λ same.
            let both : Some e.1 ≡ Some r = sym at.0 ∙ ap (record_at old) (sym same) ∙ was in
            let one : e.1 ≡ r = cc (both) in
            other (ap (λ (x : OpenRecord). x.session) (sym one) ∙ session, ap (λ (x : OpenRecord). x.handle) (sym one) ∙ handle))
            ∙ was;
        keyed = subst (λ (rs : List (ℕ × OpenRecord)). IsNumbered 0 rs are_open.bound) (sym taken)
            (IsNumbered-remove_entry (λ k. k == e.0) 0 old.records are_open.bound are_open.keyed);
      }

  pub drops-one : DropsHandle old new i number → Drops new.records are_open.bound
  drops-one drops = first (find test old.records) refl drops

  pub exactly : DropsHandle old new i number → (key : ℕ) (r : OpenRecord) → (record_at new key ≡ Some r) ↔ ((record_at old key ≡ Some r) × (IsOf r i number → ⊥))
  exactly drops key r = let one = drops-one drops in (λ is. one.left key r is, λ was. one.kept key r was.0 was.1)

  module _ (after : List (Option DirEntry)) (within : i < length sessions) (drops : DropsHandle old new i number)
      (files : (k n : ℕ) (h : Handle) → IsLive sessions k n h → (k ≢ i) ⊎ (n ≢ number) → KeepsFile entries after h.name) where
    abbrev closed : Session
    closed = without_handle (nth sessions i) number

    abbrev later : List Session
    later = slice_set sessions i closed

    -- a handle that is left, and that was live
    record IsLeft (k n : ℕ) (h : Handle) : Type 0 where
      live : IsLive sessions k n h
      other : (k ≢ i) ⊎ (n ≢ number)

    was-live : (k n : ℕ) (h : Handle) → IsLive later k n h → IsLeft k n h
    was-live k n h live = elim (set-in sessions i k closed (new_session []) within) [
      | inl set_ ↦
          let was = taken-found (nth sessions i).handles (nth sessions i).next_handle number n h (are_open.numbered i) (ap (λ (y : Session). handle_at y n) (sym set_.1) ∙ live) in
          record { live = ap (λ (m : ℕ). handle_at (nth sessions m) n) set_.0 ∙ was.1; other = inr was.0 }
      | inr stays ↦ record { live = ap (λ (y : Session). handle_at y n) (sym stays.1) ∙ live; other = inl stays.0 }
    ]

    still-live : (k n : ℕ) (h : Handle) → IsLive sessions k n h → ((k ≡ i) × (n ≡ number) → ⊥) → IsLive later k n h
    still-live k n h live other = elim (set-in sessions i k closed (new_session []) within) [
      | inl set_ ↦
          ap (λ (y : Session). handle_at y n) set_.1 ∙ taken-other (nth sessions i).handles number n (λ same. other (set_.0, same))
          ∙ ap (λ (m : ℕ). handle_at (nth sessions m) n) (sym set_.0) ∙ live
      | inr stays ↦ ap (λ (y : Session). handle_at y n) stays.1 ∙ live
    ]

    one : Drops new.records are_open.bound
    one = drops-one drops

    not-both : (k n : ℕ) → (k ≢ i) ⊎ (n ≢ number) → (k ≡ i) × (n ≡ number) → ⊥
    not-both k n (inl other) both = other both.0
    not-both k n (inr other) both = other both.1

    either : (k n : ℕ) → ((k ≡ i) × (n ≡ number) → ⊥) → (k ≢ i) ⊎ (n ≢ number)
    either k n other = elim (cases_eq k i) [
      | inl same ↦ inr (λ number_same. other (same, number_same))
      | inr apart ↦ inl apart
    ]

    left-each : (k n : ℕ) (h : Handle) → IsLeft k n h → (key : ℕ) × (r : OpenRecord) × (record_at new key ≡ Some r) × IsRecordOf after k n h r
    left-each k n h left =
        let each = are_open.each k n h (live-within sessions k n h left.live) left.live in
        let of = each.3 in (
          each.0,
          each.1,
          one.kept each.0 each.1 each.2 (λ is. not-both k n left.other (sym of.session ∙ is.0, sym of.handle ∙ is.1)),
          record-after entries after k n h h each.1 of (record { flags = refl; files = files k n h left.live left.other }),
        )

    left-back : (key : ℕ) (r : OpenRecord) → record_at new key ≡ Some r
        → (r.session < length later) × ((h : Handle) × IsLive later r.session r.handle h × IsRecordOf after r.session r.handle h r)
    left-back key r found =
        let was = one.left key r found in
        let back = are_open.back key r was.0 in
        let h : Handle = back.1.0 in (
          omega (arith, back.0, length-set sessions i closed),
          (
            h,
            still-live r.session r.handle h back.1.1 was.1,
            record-after entries after r.session r.handle h h r back.1.2
                (record { flags = refl; files = files r.session r.handle h back.1.1 (either r.session r.handle was.1) }),
          ),
        )

    pub open-dropped : AreOpen after new later
    open-dropped = record {
      each = λ k n h _ live. left-each k n h (was-live k n h live);
      back = left-back;
      single = λ a b r q at_a at_b session handle. are_open.single a b r q (one.left a r at_a).0 (one.left b q at_b).0 session handle;
      bound = are_open.bound;
      keyed = one.keyed;
      numbered = set_numbers (record { objects = []; sessions = sessions }) i closed are_open.numbered (numbers-without (nth sessions i) number (are_open.numbered i));
    }
