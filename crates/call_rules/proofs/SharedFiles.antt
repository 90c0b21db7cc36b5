-- Sharing by the file of an entry is sharing by its name.
use Rattle.std.proofs.Common.{◌≡◌, ◌<◌, ◌==◌, ℕ, zero, suc, Bool, true, false, true≢false, not, ◌&&◌, ◌||◌, List, [], ◌∷◌, length, slice_index_or, Option, Some, inl, inr, refl, sym, ap, ◌∙◌, arith, eq-eqb, eqb-true}
use Rattle.std.proofs.lemmas.Bool.{cases_Bool, cases_eq}
use Rattle.std.specs.List.{list_all, list_any}
use Rattle.std.specs.Ordering.{is_eq}
use Rattle.tee_types.specs.declared.flags.Flags.{Flags}
use Rattle.tee_types.specs.Rights.{are_compatible}
use Rattle.dir_records.specs.declared.entry.DirEntry.{DirEntry}
use Rattle.open_table.specs.declared.table.OpenRecord.{OpenRecord}
use Rattle.open_table.specs.Table.{TableState, allows_on_file, is_file_open, record_at}
use Rattle.store_model.specs.declared.name.ObjectName.{ObjectName}
use Rattle.store_model.specs.declared.session.Handle.{Handle}
use Rattle.store_model.specs.Name.{name_cmp, name_eq}
use Rattle.store_model.specs.Machine.{MachineState, Session, handle_at, new_session, session_at}
use Rattle.store_model.specs.Handles.{allows_open, has_open}
use Rattle.store_model.proofs.Maps.{name_cmp_total}
use Rattle.std.proofs.lemmas.Cmp.{tied_itself}
use Rattle.core_laws.specs.Entries.{name_of}
use Rattle.core_laws.specs.EntryLists.{AreDistinct, AreSingle, entry_at}
use Rattle.core_laws.proofs.Names.{alike_is, name_test}
use Rattle.call_rules.specs.OpenHandles.{AreOpen}
use Rattle.call_rules.proofs.CallHandles.{live-allows, live-any}
use Rattle.call_rules.proofs.EntryLists.{all-at, any-at}
use Rattle.call_rules.proofs.EntryTests.{all-from, any-found}

-- two tests of which each follows from the other
one-test : (a b : Bool) → (a ≡ true → b ≡ true) → (b ≡ true → a ≡ true) → a ≡ b
one-test true b to back = sym (to refl)
one-test false true to back = back refl
one-test false false to back = refl

name_eq-is : (a b : ObjectName) → name_eq a b ≡ true → a ≡ b
name_eq-is a b same = alike_is a b (name_test a b ∙ same)

-- the test `not a || b` passes where a passes only with b
allowed : (a b : Bool) → (a ≡ true → b ≡ true) → (not a || b) ≡ true
allowed true b h = h refl
allowed false b h = refl

-- a test of all sessions, and one that some session passes
all-sessions : (p : Session → Bool) (sessions : List Session) → ((i : ℕ) → i < length sessions → p (slice_index_or sessions i (new_session [])) ≡ true) → list_all p sessions ≡ true
all-sessions p [] passes = refl
all-sessions p (x ∷ sessions) passes =
    (λ k. passes zero (omega arith) k && list_all p sessions) ∙ all-sessions p sessions (λ i within. passes (suc i) (omega (arith, within)))

any-session : (p : Session → Bool) (sessions : List Session) → list_any p sessions ≡ true → (i : ℕ) × (i < length sessions) × (p (slice_index_or sessions i (new_session [])) ≡ true)
any-session p [] any = absurd (true≢false (sym any))
any-session p (x ∷ sessions) any = elim (cases_Bool (p x)) [
  | inl here ↦ (zero, omega arith, here)
  | inr other ↦
      let later = any-session p sessions (sym (ap (λ (b : Bool). b || list_any p sessions) other) ∙ any) in
      (suc later.0, omega (arith, later.1), later.2)
]

module _ (entries : List (Option DirEntry)) (table : TableState) (sessions : List Session) (are_open : AreOpen entries table sessions) (single : AreSingle entries) (distinct : AreDistinct entries)
    (index : ℕ) (e : DirEntry) (at_index : entry_at entries index ≡ Some e) where
  abbrev name : ObjectName
  name = name_of e

  -- the sessions as those of a machine
  abbrev machine : MachineState
  machine = record { objects = []; sessions = sessions }

  -- an entry of the file, and one of the name, is that entry
  by-file : (other : ℕ) (f : DirEntry) → entry_at entries other ≡ Some f → f.file ≡ e.file → f ≡ e
  by-file other f at same =
      let place : other ≡ index = single other index f e at at_index same in
      let both : Some f ≡ Some e = sym at ∙ ap (entry_at entries) place ∙ at_index in
      cc (both)

  by-name : (other : ℕ) (f : DirEntry) → entry_at entries other ≡ Some f → name_of f ≡ name → f ≡ e
  by-name other f at same = elim (cases_eq other index) [
    | inl place ↦ (let both : Some f ≡ Some e = sym at ∙ ap (entry_at entries) place ∙ at_index in cc (both))
    | inr apart ↦
        let alike : is_eq (name_cmp name (name_of f)) ≡ true = ap (λ (n : ObjectName). is_eq (name_cmp name n)) same ∙ ap is_eq (tied_itself name_cmp_total name) in
        absurd (true≢false (sym alike ∙ distinct index e at_index other f apart at))
  ]

  -- a record of the file is that of a live handle on the object
  record LiveOn (r : OpenRecord) : Type 0 where
    handle : Handle
    live : handle_at (session_at machine r.session) r.handle ≡ Some handle
    name : handle.name ≡ name_of e
    flags : r.flags ≡ handle.flags

  live-on : (key : ℕ) (r : OpenRecord) → record_at table key ≡ Some r → r.file ≡ e.file → LiveOn r
  live-on key r found same =
      let back = are_open.back key r found in
      let of = back.1.2 in
      let one : of.file.named.entry ≡ e = by-file of.file.index of.file.named.entry of.file.named.at (sym of.file.is ∙ same) in
      record { handle = back.1.0; live = back.1.1; name = sym of.file.named.named ∙ ap name_of one; flags = of.flags }

  -- a live handle on the object has a record of the file
  record RecordOn (h : Handle) : Type 0 where
    key : ℕ
    it : OpenRecord
    found : record_at table key ≡ Some it
    file : it.file ≡ e.file
    flags : it.flags ≡ h.flags

  record-on : (i number : ℕ) (h : Handle) → i < length sessions → handle_at (session_at machine i) number ≡ Some h → h.name ≡ name → RecordOn h
  record-on i number h within live same =
      let each = are_open.each i number h within live in
      let of = each.3 in
      let one : of.file.named.entry ≡ e = by-name of.file.index of.file.named.entry of.file.named.at (of.file.named.named ∙ same) in
      record { key = each.0; it = each.1; found = each.2; file = of.file.is ∙ ap (λ (f : DirEntry). f.file) one; flags = of.flags }

  module _ (flags : Flags) where
    allows-by_name : allows_on_file table e.file flags ≡ true → list_all (allows_open name flags) sessions ≡ true
    allows-by_name all = all-sessions (allows_open name flags) sessions
        (λ i within. all-from (λ (h : Handle). not (name_eq name h.name) || are_compatible flags h.flags) (slice_index_or sessions i (new_session [])).handles 0
        (slice_index_or sessions i (new_session [])).next_handle (are_open.numbered i)
        (λ number h live. allowed (name_eq name h.name) (are_compatible flags h.flags)
        (λ same.
        let on = record-on i number h within live (sym (name_eq-is name h.name same)) in
        let test = all-at (λ (r : OpenRecord). not (r.file == e.file) || are_compatible flags r.flags) table.records on.key on.it all on.found in
        ap (are_compatible flags) (sym on.flags) ∙ sym (ap (λ (b : Bool). not b || are_compatible flags (on.it).flags) (eq-eqb (on.it).file e.file on.file)) ∙ test)))

    allows-by_file : list_all (allows_open name flags) sessions ≡ true → allows_on_file table e.file flags ≡ true
    allows-by_file all = all-from (λ (r : OpenRecord). not (r.file == e.file) || are_compatible flags r.flags) table.records 0 are_open.bound are_open.keyed
        (λ key r found. allowed (r.file == e.file) (are_compatible flags r.flags)
        (λ same.
        let on = live-on key r found (eqb-true r.file e.file same) in
        ap (are_compatible flags) on.flags ∙ live-allows machine name flags r.session r.handle on.handle all on.live on.name))

    pub allows-same : allows_on_file table e.file flags ≡ list_all (allows_open name flags) sessions
    allows-same = one-test (allows_on_file table e.file flags) (list_all (allows_open name flags) sessions) allows-by_name allows-by_file

  open-by_name : is_file_open table e.file ≡ true → list_any (has_open name) sessions ≡ true
  open-by_name any =
      let first = any-found (λ (r : OpenRecord). r.file == e.file) table.records 0 are_open.bound are_open.keyed any in
      let on = live-on first.number first.value first.at (eqb-true (first.value).file e.file first.passes) in
      live-any machine name (first.value).session (first.value).handle on.handle on.live on.name

  open-by_file : list_any (has_open name) sessions ≡ true → is_file_open table e.file ≡ true
  open-by_file any =
      let some_ = any-session (has_open name) sessions any in
      let session : Session = slice_index_or sessions some_.0 (new_session []) in
      let first = any-found (λ (h : Handle). name_eq name h.name) session.handles 0 session.next_handle (are_open.numbered some_.0) some_.2 in
      let on = record-on some_.0 first.number first.value some_.1 first.at (sym (name_eq-is name (first.value).name first.passes)) in
      any-at (λ (r : OpenRecord). r.file == e.file) table.records on.key on.it on.found (eq-eqb (on.it).file e.file on.file)

  pub open-same : is_file_open table e.file ≡ list_any (has_open name) sessions
  open-same = one-test (is_file_open table e.file) (list_any (has_open name) sessions) open-by_name open-by_file
