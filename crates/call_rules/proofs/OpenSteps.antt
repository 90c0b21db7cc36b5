-- The table keeps the open handles: as they stay, as one is added, and as one is dropped.
use Rattle.std.proofs.Common.{◌≡◌, ◌≢◌, ◌<◌, ◌+◌, ◌⊎◌, ℕ, List, [], ◌∷◌, ◌++◌, length, length-set, slice_index_or, slice_set, Option, Some, None, inl, inr, refl, sym, ap, ◌∙◌, subst, arith}
use Rattle.std.proofs.lemmas.Grind.{get_or-set_at}
use Rattle.enumerators.specs.Places.{IsNumbered}
use Rattle.enumerators.proofs.Numbering.{IsNumbered-append, lookup-next}
use Rattle.tee_types.specs.declared.flags.Flags.{Flags}
use Rattle.dir_records.specs.declared.entry.DirEntry.{DirEntry}
use Rattle.open_table.specs.declared.table.OpenRecord.{OpenRecord}
use Rattle.open_table.specs.Table.{TableState, record_at}
use Rattle.store_model.specs.declared.name.ObjectName.{ObjectName}
use Rattle.store_model.specs.declared.session.Handle.{Handle}
use Rattle.store_model.specs.Machine.{Session, handle_at, new_session}
use Rattle.open_table.specs.HandleChanges.{AddsHandle}
use Rattle.call_rules.specs.Numbers.{HasNumbers}
use Rattle.call_rules.specs.OpenHandles.{AreOpen, IsRecordOf, HasFile}
use Rattle.call_rules.proofs.EntryInserts.{inserted-found, inserted-here, inserted-other, numbered-higher, numbered-inserted}
use Rattle.call_rules.proofs.EntryLists.{added-found, added-new, added-old, at_number}
use Rattle.call_rules.proofs.QuietSteps.{set_numbers}
use Rattle.call_rules.proofs.SessionLists.{live-within, set-in}

-- the session of that number, and its live handle
abbrev pub nth : List Session → ℕ → Session
nth sessions i = slice_index_or sessions i (new_session [])

abbrev pub IsLive : List Session → ℕ → ℕ → Handle → Type 0
IsLive sessions i number h = handle_at (nth sessions i) number ≡ Some h

-- one handle after another: it has the same rights, and its object has the same file
pub record Follows (entries after : List (Option DirEntry)) (h h' : Handle) : Type 0 where
  pub flags : h'.flags ≡ h.flags
  pub files : (file : ℕ) → HasFile entries h.name file → HasFile after h'.name file

abbrev pub KeepsFile : (entries after : List (Option DirEntry)) → ObjectName → Type 0
KeepsFile entries after name = (file : ℕ) → HasFile entries name file → HasFile after name file

pub record-after : (entries after : List (Option DirEntry)) (i number : ℕ) (h h' : Handle) (r : OpenRecord) → IsRecordOf entries i number h r → Follows entries after h h' → IsRecordOf after i number h' r
record-after entries after i number h h' r of follows =
    record { session = of.session; handle = of.handle; flags = of.flags ∙ sym follows.flags; file = follows.files r.file of.file }

-- the live handles of the sessions, one for one
pub record Pairs (entries after : List (Option DirEntry)) (sessions later : List Session) : Type 0 where
  pub long : length later ≡ length sessions
  pub to : (i number : ℕ) (h : Handle) → IsLive sessions i number h → (h' : Handle) × IsLive later i number h' × Follows entries after h h'
  pub from : (i number : ℕ) (h' : Handle) → IsLive later i number h' → (h : Handle) × IsLive sessions i number h × Follows entries after h h'
  pub numbered : (i : ℕ) → HasNumbers (nth later i)

module _ (entries after : List (Option DirEntry)) (old new : TableState) (sessions : List Session) (are_open : AreOpen entries old sessions) where
  pub open-same : (later : List Session) → Pairs entries after sessions later → new.records ≡ old.records → AreOpen after new later
  open-same later pairs same = record {
    each = λ i number h' within live.
        let from = pairs.from i number h' live in
        let each = are_open.each i number from.0 (live-within sessions i number from.0 from.1) from.1 in
        (each.0, each.1, ap (λ (rs : List (ℕ × OpenRecord)). at_number rs each.0) same ∙ each.2, record-after entries after i number from.0 h' each.1 each.3 from.2);
    back = λ key r found.
        let back = are_open.back key r (ap (λ (rs : List (ℕ × OpenRecord)). at_number rs key) (sym same) ∙ found) in
        let to = pairs.to r.session r.handle back.1.0 back.1.1 in
        (omega (arith, pairs.long, back.0), (to.0, to.1, record-after entries after r.session r.handle back.1.0 to.0 r back.1.2 to.2));
    single = λ a b r q at_a at_b.
        are_open.single a b r q (ap (λ (rs : List (ℕ × OpenRecord)). at_number rs a) (sym same) ∙ at_a) (ap (λ (rs : List (ℕ × OpenRecord)). at_number rs b) (sym same) ∙ at_b);
    bound = are_open.bound;
    keyed = subst (λ (rs : List (ℕ × OpenRecord)). IsNumbered 0 rs are_open.bound) (sym same) are_open.keyed;
    numbered = pairs.numbered;
  }

  -- a handle is added
  module _ (i : ℕ) (within : i < length sessions) (name : ObjectName) (flags : Flags) (file : ℕ)
      (files : (k number : ℕ) (h : Handle) → IsLive sessions k number h → KeepsFile entries after h.name) (here : HasFile after name file) where
    abbrev next : ℕ
    next = (nth sessions i).next_handle

    abbrev handle : Handle
    handle = record { name = name; flags = flags; position = 0 }

    abbrev opened : Session
    opened = record (nth sessions i) { handles = (nth sessions i).handles ++ (next, handle) ∷ []; next_handle = next + 1 }

    abbrev later : List Session
    later = slice_set sessions i opened

    module _ (adds : AddsHandle old new file i next flags) where
      abbrev added : OpenRecord
      added = record { file = file; session = i; handle = next; flags = flags }

      own : IsRecordOf after i next handle added
      own = record { session = refl; handle = refl; flags = refl; file = here }

      -- an old record is one of the new table, for its handle
      old-record : (k number : ℕ) (h : Handle) → IsLive sessions k number h → (key : ℕ) × (r : OpenRecord) × (record_at new key ≡ Some r) × IsRecordOf after k number h r
      old-record k number h live =
          let each = are_open.each k number h (live-within sessions k number h live) live in
          let other : each.0 ≢ adds.key = λ same. (let both : None ≡ Some each.1 = sym adds.fresh ∙ ap (record_at old) (sym same) ∙ each.2 in cc (both)) in (
            each.0,
            each.1,
            ap (λ (rs : List (ℕ × OpenRecord)). at_number rs each.0) adds.added ∙ inserted-other old.records adds.key added each.0 other ∙ each.2,
            record-after entries after k number h h each.1 each.3 (record { flags = refl; files = files k number h live }),
          )

      new-each : (k number : ℕ) (h : Handle) → IsLive later k number h → (key : ℕ) × (r : OpenRecord) × (record_at new key ≡ Some r) × IsRecordOf after k number h r
      new-each k number h live = elim (set-in sessions i k opened (new_session []) within) [
        | inl set_ ↦ elim (added-found (nth sessions i).handles next handle h number (ap (λ (y : Session). handle_at y number) (sym set_.1) ∙ live)) [
          | inl was ↦ old-record k number h (ap (λ (m : ℕ). handle_at (nth sessions m) number) set_.0 ∙ was)
          | inr is ↦ (
            adds.key,
            added,
            ap (λ (rs : List (ℕ × OpenRecord)). at_number rs adds.key) adds.added ∙ inserted-here old.records adds.key added,
            record {
              session = sym set_.0;
              handle = sym is.0;
              flags = ap (λ (x : Handle). x.flags) (sym is.1);
              file = record {
                index = here.index;
                named = record { entry = here.named.entry; at = here.named.at; named = here.named.named ∙ ap (λ (x : Handle). x.name) (sym is.1) };
                is = here.is;
              };
            },
          )
        ]
        | inr stays ↦ old-record k number h (ap (λ (y : Session). handle_at y number) (sym stays.1) ∙ live)
      ]

      live-later : (k number : ℕ) (h : Handle) → IsLive sessions k number h → IsLive later k number h
      live-later k number h live = elim (set-in sessions i k opened (new_session []) within) [
        | inl set_ ↦
            ap (λ (y : Session). handle_at y number) set_.1
            ∙ added-old (nth sessions i).handles next handle h number (ap (λ (m : ℕ). handle_at (nth sessions m) number) (sym set_.0) ∙ live)
        | inr stays ↦ ap (λ (y : Session). handle_at y number) stays.1 ∙ live
      ]

      live-new : IsLive later i next handle
      live-new =
          ap (λ (y : Session). handle_at y next) (get_or-set_at sessions i i opened (new_session []) refl within)
          ∙ added-new (nth sessions i).handles next handle (lookup-next 0 (nth sessions i).handles next (are_open.numbered i))

      abbrev Backed : OpenRecord → Type 0
      Backed r = (r.session < length later) × ((h : Handle) × IsLive later r.session r.handle h × IsRecordOf after r.session r.handle h r)

      new-back : (key : ℕ) (r : OpenRecord) → record_at new key ≡ Some r → Backed r
      new-back key r found = elim (inserted-found old.records adds.key added r key (ap (λ (rs : List (ℕ × OpenRecord)). at_number rs key) (sym adds.added) ∙ found)) [
        | inl is ↦ subst Backed (sym is.1) (omega (arith, within, length-set sessions i opened), (handle, live-new, own))
        | inr was ↦
            let back = are_open.back key r was.1 in
            let h : Handle = back.1.0 in (
              omega (arith, back.0, length-set sessions i opened),
              (
                h,
                live-later r.session r.handle h back.1.1,
                record-after entries after r.session r.handle h h r back.1.2 (record { flags = refl; files = files r.session r.handle h back.1.1 }),
              ),
            )
      ]

      -- the number is new
      no-record : (key : ℕ) (q : OpenRecord) → record_at old key ≡ Some q → q.session ≡ i → q.handle ≡ next → ⊥
      no-record key q found session number =
          let back = are_open.back key q found in
          let live : handle_at (nth sessions i) next ≡ Some back.1.0 = (λ k. handle_at (nth sessions (sym session k)) (sym number k)) ∙ back.1.1 in
          let none : handle_at (nth sessions i) next ≡ None = lookup-next 0 (nth sessions i).handles next (are_open.numbered i) in
          let both : None ≡ Some back.1.0 = sym none ∙ live in
          cc (both)

      abbrev FoundNew : ℕ → OpenRecord → Type 0
      FoundNew key r = ((key ≡ adds.key) × (r ≡ added)) ⊎ ((key ≢ adds.key) × (record_at old key ≡ Some r))

      found-new : (key : ℕ) (r : OpenRecord) → record_at new key ≡ Some r → FoundNew key r
      found-new key r found = inserted-found old.records adds.key added r key (ap (λ (rs : List (ℕ × OpenRecord)). at_number rs key) (sym adds.added) ∙ found)

      new-single : (a b : ℕ) (r q : OpenRecord) → FoundNew a r → FoundNew b q → r.session ≡ q.session → r.handle ≡ q.handle → a ≡ b
      new-single a b r q (inl x) (inl y) session number = x.0 ∙ sym y.0
      new-single a b r q (inl x) (inr y) session number =
          absurd (no-record b q y.1 (sym session ∙ ap (λ (z : OpenRecord). z.session) x.1) (sym number ∙ ap (λ (z : OpenRecord). z.handle) x.1))
      new-single a b r q (inr x) (inl y) session number =
          absurd (no-record a r x.1 (session ∙ ap (λ (z : OpenRecord). z.session) y.1) (number ∙ ap (λ (z : OpenRecord). z.handle) y.1))
      new-single a b r q (inr x) (inr y) session number = are_open.single a b r q x.1 y.1 session number

      pub open-added : AreOpen after new later
      open-added = record {
        each = λ k number h _ live. new-each k number h live;
        back = new-back;
        single = λ a b r q at_a at_b session number. new-single a b r q (found-new a r at_a) (found-new b q at_b) session number;
        bound = are_open.bound + adds.key + 1;
        keyed = subst (λ (rs : List (ℕ × OpenRecord)). IsNumbered 0 rs (are_open.bound + adds.key + 1)) (sym adds.added)
            (numbered-inserted old.records 0 (are_open.bound + adds.key + 1) adds.key added (omega arith) (omega arith)
            (numbered-higher old.records 0 are_open.bound (are_open.bound + adds.key + 1) (omega arith) are_open.keyed));
        numbered = set_numbers (record { objects = []; sessions = sessions }) i opened are_open.numbered
            (IsNumbered-append 0 (nth sessions i).handles next handle (are_open.numbered i));
      }
