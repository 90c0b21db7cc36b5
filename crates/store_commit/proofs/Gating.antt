-- The invariant of a gate, as a commit is made.
use Rattle.std.proofs.Common.{◌≤◌, ◌+◌, ◌-◌, ◌∙◌, arith, ◌≡◌, ℕ, List, length, Option, Some, None, sym, ap, subst}
use Rattle.dir_records.specs.declared.entry.DirEntry.{DirEntry}
use Rattle.crash_core.specs.EntryChanges.{changed, file_put, index_of}
use Rattle.crash_core.specs.EntryLists.{entry_at}
use Rattle.dir_index.specs.Index.{IndexState}
use Rattle.crash_core.specs.declared.change.EntryChange.{EntryChange}
use Rattle.crash_core.specs.declared.change.EntryChange.TheVariants.{Put, Clear}
use Rattle.crash_core.specs.declared.change.DoubtedChange.{DoubtedChange}
use Rattle.store_commit.specs.Changes.{FitsIn}
use Rattle.dir_file.specs.View.{DirView}
use Rattle.store_commit.specs.Ends.{IsDoubted, IsMade}
use Rattle.store_commit.specs.Gates.{DoubtStands, IsGate, file_in_doubt, names_due, room_left}
use Rattle.store_commit.specs.Holds.{AreHolds, EndsHoldOf, IsTaken}
use Rattle.store_commit.specs.NameIndex.{ChangesNames, IsIndexOf}
use Rattle.store_commit.specs.Sides.{IsSettled, Sides}
use Rattle.store_commit.proofs.HoldLists.{holds_after}
use Rattle.store_commit.proofs.NameIndexes.{changed_most}

-- the index after a change
pub names_after : (entries : List (Option DirEntry)) (s t : IndexState) (before : Option DirEntry) (change : EntryChange) → length entries ≡ 256 → FitsIn entries change
    → entry_at entries (index_of change) ≡ before → ChangesNames s t before change → IsIndexOf s entries → IsIndexOf t (changed entries change)
names_after entries s t before (Put index e) whole fits at changes is = changes entries whole fits at is
names_after entries s t before (Clear index) whole fits at changes is = changes entries whole fits at is

-- the names and the holds of a gate whose directory has the change
pub changed_gate : (g h : Sides) (change : EntryChange) (d e : Option DoubtedChange) (s t : IndexState) (old new : List (Option ℕ)) (before : Option DirEntry)
    → length g.dir.entries ≡ 256 → h.dir.entries ≡ changed g.dir.entries change → FitsIn g.dir.entries change
    → entry_at g.dir.entries (index_of change) ≡ before → ChangesNames s t before change → EndsHoldOf change old new
    → IsGate g d s old → DoubtStands h e → names_due t e ≤ t.spare → IsTaken h.dir.entries new (file_in_doubt e) → IsGate h e t new
changed_gate g h change d e s t old new before whole entries fits at changes ends gate stands due taken = record {
  taken = taken;
  stands = stands;
  due = due;
  names = subst (IsIndexOf t) (sym entries) (names_after g.dir.entries s t before change whole fits at changes gate.names);
  held = subst (λ (l : List (Option DirEntry)). AreHolds l new) (sym entries) (holds_after g.dir.entries old new change gate.held ends);
}

pub settled_gate : (g : Sides) (d : Option DoubtedChange) → d ≡ None → DoubtStands g d → IsSettled g
settled_gate g d is stands = subst (DoubtStands g) is stands

pub made_gate : (g h : Sides) (change : EntryChange) (n : ℕ) (d : Option DoubtedChange) (s t : IndexState) (old new : List (Option ℕ)) (before : Option DirEntry)
    → d ≡ None → IsMade g h change n → FitsIn g.dir.entries change → entry_at g.dir.entries (index_of change) ≡ before
    → ChangesNames s t before change → EndsHoldOf change old new → IsGate g d s old → IsGate h d t new
made_gate g h change n d s t old new before none made fits at changes ends gate =
    changed_gate g h change d d s t old new before (settled_gate g d none gate.stands).entries.whole made.entries fits at changes ends gate
    (subst (DoubtStands h) (sym none) made.settled)
    (subst (λ (o : Option DoubtedChange). names_due t o ≤ t.spare) (sym none) (omega arith))
    (subst (λ (o : Option DoubtedChange). IsTaken h.dir.entries new (file_in_doubt o)) (sym none) tt)

-- a commit that is in doubt
pub doubted_gate : (g h : Sides) (change : EntryChange) (n : ℕ) (o : Option DoubtedChange) (s : IndexState) (holds : List (Option ℕ)) → o ≡ None → IsDoubted g h change n → FitsIn g.dir.entries change
    → IsTaken g.dir.entries holds (file_put change) → 1 ≤ room_left s o → IsGate g o s holds → IsGate h (Some (record { number = n; change = change })) s holds
doubted_gate g h change n o s holds none doubted fits taken room gate =
    let entries : h.dir.entries ≡ g.dir.entries = ap (λ (v : DirView). v.entries) doubted.same in
    let left : 1 ≤ s.spare - 0 = subst (λ (x : Option DoubtedChange). 1 ≤ room_left s x) none room in
    let spare : 1 ≤ s.spare = omega (arith, left) in
    record {
      stands = record {
        next = doubted.next;
        stands = doubted.doubt;
        entries = doubted.entries ∙ ap (λ (l : List (Option DirEntry)). changed l change) (sym entries);
        fits = subst (λ (l : List (Option DirEntry)). FitsIn l change) (sym entries) fits;
        number = doubted.number ∙ ap (λ (k : ℕ). k + 1) (sym doubted.counted);
      };
      names = subst (IsIndexOf s) (sym entries) gate.names;
      due = let most = changed_most s change in omega (arith, most, spare);
      held = subst (λ (l : List (Option DirEntry)). AreHolds l holds) (sym entries) gate.held;
      taken = subst (λ (l : List (Option DirEntry)). IsTaken l holds (file_put change)) (sym entries) taken;
    }
