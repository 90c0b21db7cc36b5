-- What the calls that stage answer.
use Rattle.std.proofs.Common.{◌≡◌, ◌∙◌, ◌+◌, ◌<◌, ℕ, true, List, length, Option, Some, None, Result, Ok, Err, refl, sym, ap, subst, arith, ◌≤◌}
use Rattle.std.specs.Prelude.{OnErr}
use Rattle.node_image.specs.declared.node.RootRef.{RootRef}
use Rattle.node_image.specs.Layout.{greatest_of}
use Rattle.page_bytes.specs.Ranges.{meets, needs, resize_range, write_range}
use Rattle.history_seats.specs.Records.{Version}
use Rattle.core_laws.specs.Stores.{Store}
use Rattle.object_file.specs.Value.{size_in}
use Rattle.object_slots.specs.declared.fault.SlotFault.{SlotFault}
use Rattle.object_slots.specs.SlotStages.{DataChange, StagesObject, resize_change, write_change}
use Rattle.object_slots.specs.SlotValues.{HeldObject, Holding, IfLive, IsLive, SlotValue, free, live, made, staged}
use Rattle.object_slots.specs.LiveSlots.{LiveSlotsGiveVersions}
use Rattle.object_slots.specs.SlotObjects.{IsObjectOf, IsOfVersion}
use Rattle.object_slots.specs.GuardedSlots.{IsContentOf, SlotInvariant}
use Rattle.object_slots.specs.GuardedReads.{GivesVersion}
use Rattle.object_slots.specs.GuardedStages.{StagesVersion, VersionChange, resize_of, write_of}
use Rattle.core_laws.proofs.Comparing.{meets_from}
use Rattle.object_slots.proofs.HonestPages.{resize_lays, write_lays}
use Rattle.object_slots.proofs.Contents.{slot_object}
use Rattle.object_slots.proofs.SlotStaged.{IsChangeOf, stages_version}

-- a live slot that no doubt touches gives a version
pub live_gives : (store : Store) (slot : SlotValue) (o : HeldObject) → SlotInvariant store slot → slot.holds ≡ live o → slot.doubt ≡ None → (v : Version) × GivesVersion slot v
live_gives store slot o is holds calmly =
    let content : IsContentOf store.keys slot.file is.seat.knows (live o) None =
    subst (λ (x : Holding × Option ℕ). IsContentOf store.keys slot.file is.seat.knows x.0 x.1) (λ i. (holds i, calmly i)) is.content in
    (content.holding.0, record { seat = is.seat; is = is.is; gives = content.gives ∙ ap (λ (w : Option Version). record { now = w; if_landed = None }) content.holding.1 })

refused : (store : Store) (new : SlotValue) (v : Version) (change : VersionChange) (result : Result RootRef SlotFault) → StagesVersion store new v change result → OnErr result (SlotInvariant store new)
refused store new v change (Ok root) stages = tt
refused store new v change (Err fault) stages = stages.leaves

module _ (store : Store) (old new : SlotValue) (same : new ≡ record old { file = new.file; holds = new.holds }) (calmly : old.doubt ≡ None) (is : SlotInvariant store old) (Undrawn : Type 0)
    (result : Result RootRef SlotFault) (c : HeldObject → DataChange) (change : ℕ → VersionChange)
    (of : (o : HeldObject) → o.tree.tree.head.length ≡ 4096 + size_in o → IsChangeOf o (c o) (change (size_in o))) where
  by_object : (o : HeldObject) → old.holds ≡ live o → StagesObject old.file new.file o (c o) new.holds Undrawn result → (v : Version) → GivesVersion old v
      → StagesVersion store new v (change v.size) result
  by_object o holds stages v given =
      let object : IsObjectOf store.keys old.file o v = slot_object store old v o is given holds in
      subst (λ (n : ℕ). StagesVersion store new v (change n) result) (sym object.size)
      (stages_version store old new o (c o) (change (size_in o)) v Undrawn is holds calmly given same (of o object.long) result stages)

  pub changes_answer : (holds : Holding) → old.holds ≡ holds → IsLive holds → IfLive holds (λ o. StagesObject old.file new.file o (c o) new.holds Undrawn result)
      → OnErr result (SlotInvariant store new) × ((v : Version) → GivesVersion old v → StagesVersion store new v (change v.size) result)
  changes_answer free holds on stages = absurd on
  changes_answer (made o) holds on stages = absurd on
  changes_answer (staged o s) holds on stages = absurd on
  changes_answer (live o) holds on stages =
      let one = live_gives store old o is holds calmly in
      (refused store new one.0 (change one.0.size) result (by_object o holds stages one.0 one.1), by_object o holds stages)

module _ (at : ℕ) (bytes : List ℕ) (o : HeldObject) (long : o.tree.tree.head.length ≡ 4096 + size_in o) where
  write_inside : (k : ℕ) → needs (write_change o at bytes).range k ≡ true → k < greatest_of (4096 + (write_change o at bytes).size)
  write_inside k is = grind (arith, long, is)

  write_grown : (k : ℕ) → k < greatest_of (4096 + (write_change o at bytes).size) → greatest_of o.tree.tree.head.length ≤ k → meets (write_change o at bytes).range.first (write_change o at bytes).range.last k ≡ true
  write_grown k lt past =
      meets_from (write_change o at bytes).range.first (write_change o at bytes).range.last k (omega (arith, long, lt, past)) (omega (arith, long, lt, past)) (omega (arith, past))

  pub write_is : IsChangeOf o (write_change o at bytes) (write_of (size_in o) at bytes)
  write_is = record {
    size = refl;
    contents = refl;
    asked = refl;
    range = ap (λ (n : ℕ). write_range n (4096 + at) (length bytes)) long;
    place = refl;
    bytes = refl;
    behind = omega (arith, long);
    own = λ x. refl;
    inside = write_inside;
    from = refl;
    grown = write_grown;
    lays = write_lays o.tree.tree.head.length (4096 + at) bytes;
  }

module _ (size : ℕ) (o : HeldObject) (long : o.tree.tree.head.length ≡ 4096 + size_in o) where
  resize_inside : (k : ℕ) → needs (resize_change o size).range k ≡ true → k < greatest_of (4096 + (resize_change o size).size)
  resize_inside k is = grind (arith, long, is)

  resize_grown : (k : ℕ) → k < greatest_of (4096 + (resize_change o size).size) → greatest_of o.tree.tree.head.length ≤ k → meets (resize_change o size).range.first (resize_change o size).range.last k ≡ true
  resize_grown k lt past =
      meets_from (resize_change o size).range.first (resize_change o size).range.last k (omega (arith, long, lt, past)) (omega (arith, long, lt, past)) (omega (arith, past))

  pub resize_is : IsChangeOf o (resize_change o size) (resize_of (size_in o) size)
  resize_is = record {
    size = refl;
    contents = refl;
    asked = refl;
    range = ap (λ (n : ℕ). resize_range n (4096 + size)) long;
    place = refl;
    bytes = refl;
    behind = omega (arith, long);
    own = λ x. refl;
    inside = resize_inside;
    from = refl;
    grown = resize_grown;
    lays = resize_lays o.tree.tree.head.length (4096 + size);
  }

-- What such a slot holds is of the version.
pub live_slots : LiveSlotsGiveVersions
live_slots store slot is on calmly = by_holding slot.holds refl on
  where
    by_holding : (holds : Holding) → slot.holds ≡ holds → IsLive holds → (v : Version) × GivesVersion slot v × IsOfVersion store.keys slot.file slot.holds (Some v)
    by_holding free holds on = absurd on
    by_holding (made o) holds on = absurd on
    by_holding (staged o s) holds on = absurd on
    by_holding (live o) holds on =
        let one = live_gives store slot o is holds calmly in
        (one.0, one.1, subst (λ (h : Holding). IsOfVersion store.keys slot.file h (Some one.0)) (sym holds) (one.0, refl, slot_object store slot one.0 o is one.1 holds))
