-- What is answered where the blocks are read that a change needs: as a stage answers whose draw failed.
use Rattle.std.proofs.Common.{◌≡◌, ◌+◌, ℕ, Bool, None, Result, Ok, Err, refl}
use Rattle.std.specs.Prelude.{OnErr}
use Rattle.disk_model.specs.Calls.{Rests}
use Rattle.disk_model.specs.State.{FileState, Sound}
use Rattle.disk_model.specs.Keeps.{Keeps}
use Rattle.disk_model.proofs.Laws.{rest_keeps}
use Rattle.node_image.specs.References.{IsCurrent}
use Rattle.node_image.specs.declared.node.RootRef.{RootRef}
use Rattle.htree_file.specs.Selected.{Lies}
use Rattle.htree_file.proofs.Firmness.{keeps_selected, stays_firm}
use Rattle.page_bytes.specs.Ranges.{needs}
use Rattle.store_model.specs.Object.{Contents}
use Rattle.history_seats.specs.Records.{Version}
use Rattle.core_laws.specs.Stores.{Store}
use Rattle.object_file.specs.Held.{held_in}
use Rattle.object_file.specs.Value.{size_in}
use Rattle.object_slots.specs.declared.fault.SlotFault.{SlotFault}
use Rattle.object_slots.specs.declared.fault.SlotFault.TheVariants.{Corrupt, Failed, NoEntropy, NoMemory}
use Rattle.object_slots.specs.SlotFaults.{HasCause}
use Rattle.object_slots.specs.SlotReads.{CorruptAnswer, ReadFault}
use Rattle.object_slots.specs.SlotStages.{DataChange, StageFault, StagesObject}
use Rattle.object_slots.specs.SlotChecks.{ChecksObject, ChecksVersion}
use Rattle.object_slots.specs.SlotValues.{HeldObject, Holding, IfLive, IsHolding, IsLive, SlotValue, free, live, made, staged}
use Rattle.object_slots.specs.GuardedSlots.{SlotInvariant}
use Rattle.object_slots.specs.GuardedReads.{GivesVersion}
use Rattle.object_slots.specs.GuardedStages.{StagesVersion, VersionChange}
use Rattle.object_slots.proofs.ChangeAnswers.{changes_answer}
use Rattle.object_slots.proofs.SlotStaged.{IsChangeOf}
use Rattle.object_slots.proofs.StepLaws.{stage_steps}

-- such a stage
abbrev undrawn : {A : Type 0} → Result A SlotFault → Result RootRef SlotFault
undrawn (Ok done) = Err (NoEntropy 0)
undrawn (Err fault) = Err fault

corrupt_as : (A : Type 0) (c : Contents) (asked : ℕ → Bool) (result : Result A SlotFault) → CorruptAnswer c asked result → CorruptAnswer c asked (undrawn result)
corrupt_as A c asked (Ok done) answer = answer
corrupt_as A c asked (Err Corrupt) answer = answer
corrupt_as A c asked (Err (NoEntropy count)) answer = answer
corrupt_as A c asked (Err (Failed count)) answer = tt
corrupt_as A c asked (Err NoMemory) answer = tt

corrupt_by : (A : Type 0) (c : Contents) (asked : ℕ → Bool) (result : Result A SlotFault) → CorruptAnswer c asked (undrawn result) → CorruptAnswer c asked result
corrupt_by A c asked (Ok done) answer = answer
corrupt_by A c asked (Err Corrupt) answer = answer
corrupt_by A c asked (Err (NoEntropy count)) answer = answer
corrupt_by A c asked (Err (Failed count)) answer = tt
corrupt_by A c asked (Err NoMemory) answer = tt

module _ (A : Type 0) (old new : FileState) (o : HeldObject) (c : DataChange) (now : Holding) (sound : Sound old) (still : Sound new) (current : IsCurrent o.tree.root) where
  keeps : (result : Result A SlotFault) → ChecksObject old new o c now result → Keeps (Lies o.tree.tree.layout o.tree.tree.nodes o.tree.root.version) old new
  keeps result checks = keeps_selected o.tree.tree.layout o.tree.tree.nodes o.tree.root.version old new (rest_keeps old new sound checks.rests)

  stage_fault : (fault : SlotFault) → ChecksObject old new o c now {A = A} (Err fault) → ReadFault old new o (needs c.range) fault → StageFault old new o (needs c.range) (Unit {0}) fault
  stage_fault Corrupt checks refused = (refused, checks.rests, tt)
  stage_fault (Failed count) checks refused = tt
  stage_fault (NoEntropy count) checks refused = absurd refused
  stage_fault NoMemory checks refused = absurd refused

  checks_stage : (result : Result A SlotFault) → ChecksObject old new o c now result → StagesObject old new o c now (Unit {0}) (undrawn result)
  checks_stage (Ok done) checks = record {
    leaves = checks.holds;
    refused = (checks.rests, checks.read);
    corrupt = checks.corrupt;
    keeps = keeps (Ok done) checks;
    firm = stays_firm old new o.tree.root o.tree.tree sound still current.0 (keeps (Ok done) checks);
    verified = checks.verified;
    steps = stage_steps old new o still (keeps (Ok done) checks);
  }
  checks_stage (Err fault) checks = record {
    leaves = checks.holds;
    refused = stage_fault fault checks checks.refused;
    corrupt = λ told. corrupt_as A (held_in o old.reads) c.asked (Err fault) (checks.corrupt told);
    keeps = keeps (Err fault) checks;
    firm = stays_firm old new o.tree.root o.tree.tree sound still current.0 (keeps (Err fault) checks);
    verified = checks.verified;
    steps = stage_steps old new o still (keeps (Err fault) checks);
  }

module _ (A : Type 0) (store : Store) (old new : SlotValue) (same : new ≡ record old { file = new.file; holds = new.holds }) (calmly : old.doubt ≡ None) (is : SlotInvariant store old)
    (sound : Sound old.file) (still : Sound new.file) (result : Result A SlotFault) (c : HeldObject → DataChange) (change : ℕ → VersionChange)
    (of : (o : HeldObject) → o.tree.tree.head.length ≡ 4096 + size_in o → IsChangeOf o (c o) (change (size_in o))) where
  abbrev Checks : Holding → Type 0
  Checks holds = IfLive holds (λ o. ChecksObject old.file new.file o (c o) new.holds result)

  stages : (holds : Holding) → IsHolding holds → Checks holds → IfLive holds (λ o. StagesObject old.file new.file o (c o) new.holds (Unit {0}) (undrawn result))
  stages free holding checks = tt
  stages (made o) holding checks = tt
  stages (staged o s) holding checks = tt
  stages (live o) holding checks = checks_stage A old.file new.file o (c o) new.holds sound still holding result checks

  left : (r : Result A SlotFault) → OnErr (undrawn r) (SlotInvariant store new) → SlotInvariant store new
  left (Ok done) guarded = guarded
  left (Err fault) guarded = guarded

  gave : (v : Version) (asked : VersionChange) (r : Result A SlotFault) → StagesVersion store new v asked (undrawn r) → ChecksVersion store new.file v asked r
  gave v asked (Ok done) by = record { corrupt = λ honest x sound. by.corrupt honest x sound; gave = by.undrawn }
  gave v asked (Err fault) by = record { corrupt = λ honest x sound. corrupt_by A x asked.asked (Err fault) (by.corrupt honest x sound); gave = tt }

  pub checks_answer : IsHolding old.holds → IsLive old.holds → Checks old.holds
      → SlotInvariant store new × ((v : Version) → GivesVersion old v → ChecksVersion store new.file v (change v.size) result)
  checks_answer holding on checks =
      let both = changes_answer store old new same calmly is (Unit {0}) (undrawn result) c change of old.holds refl on (stages old.holds holding checks) in
      (left result both.0, λ v gives. gave v (change v.size) result (both.1 v gives))

  -- the file was only read
  pub checks_rest : (holds : Holding) → IsLive holds → Checks holds → Rests old.file new.file × HasCause old.file new.file result
  checks_rest free on checks = absurd on
  checks_rest (made o) on checks = absurd on
  checks_rest (staged o s) on checks = absurd on
  checks_rest (live o) on checks = (checks.rests, checks.cause)
