-- A change of an object's data, from opening its stage and from settling it.
use Rattle.std.proofs.Common.{◌≡◌, ◌∙◌, ◌+◌, ◌-◌, ℕ, List, length, true, false, Option, Some, None, Result, Ok, Err, IfErr, IfSome, IsTrue, OnOk, inl, refl, sym, ap, subst}
use Rattle.disk_model.specs.State.{FileState, Sound}
use Rattle.disk_model.specs.Calls.{Known, Rests}
use Rattle.disk_model.specs.Keeps.{Anywhere, Keeps}
use Rattle.disk_model.proofs.Goings.{then_known}
use Rattle.disk_model.proofs.Laws.{keeps_then}
use Rattle.node_image.specs.References.{IsCurrent}
use Rattle.node_image.specs.declared.node.RootRef.{RootRef}
use Rattle.node_image.specs.Layout.{greatest_of}
use Rattle.htree_file.specs.declared.fault.TreeFault.{TreeFault}
use Rattle.htree_file.specs.declared.fault.TreeFault.TheVariants.{BadHead, BadTag, Damaged, Failed as TreeFailed, NoEntropy as TreeNoEntropy, NoMemory as TreeNoMemory, Short}
use Rattle.htree_file.specs.Changes.{SparesZero}
use Rattle.htree_file.specs.Making.{IsDrawFault}
use Rattle.htree_file.specs.Opening.{IsVerified, Loaded, load_of}
use Rattle.htree_file.specs.Selected.{Lies}
use Rattle.htree_file.specs.Standing.{IsFirm, Told}
use Rattle.htree_file.specs.Value.{Staged, TreeValue}
use Rattle.htree_file.proofs.Firmness.{keeps_selected, stays_firm}
use Rattle.page_bytes.specs.Ranges.{needs}
use Rattle.block_file.specs.NewPages.{IsNewPage}
use Rattle.block_file.specs.Reads.{BlocksAnswer, IsChangeFault, IsEarlyFault}
use Rattle.block_file.specs.Stages.{LeavesBytes, SealsRange, StageAnswer}
use Rattle.block_file.proofs.Reading.{page_first, told_first, was_first}
use Rattle.store_model.specs.Object.{Contents}
use Rattle.object_file.specs.Changes.{HoldsAfter, LeavesObject, adopted}
use Rattle.object_file.specs.Corrupt.{CorruptAnswer as TreeCorrupt}
use Rattle.object_file.specs.Held.{held_in}
use Rattle.object_file.specs.Value.{ObjectValue, size_in}
use Rattle.object_slots.specs.declared.fault.SlotFault.{SlotFault}
use Rattle.object_slots.specs.declared.fault.SlotFault.TheVariants.{Corrupt, Failed, NoEntropy, NoMemory}
use Rattle.object_slots.specs.SlotFaults.{IsFileFault, slot_fault}
use Rattle.object_slots.specs.SlotReads.{CorruptAnswer}
use Rattle.object_slots.specs.SlotStages.{DataChange, HoldsStage, IsStageOf, OpensStage, SettlesObject, StageFault, StagesObject}
use Rattle.object_slots.specs.SlotValues.{HeldObject, Holding, apart, live, staged}
use Rattle.object_slots.proofs.FaultLaws.{corrupt_fault}
use Rattle.object_slots.proofs.SettleAnswers.{at_some, opened}
use Rattle.object_slots.proofs.StepLaws.{stage_steps}

-- what an adopted stage holds depends on the object apart from its file alone
module _ {F : Type 0} (old new : ObjectValue F) (key : new.tree.key ≡ old.tree.key) (own : new.attributes ≡ old.attributes) (before after : List ℕ) (change : Contents → Contents) where
  holds_apart : (s : Staged) → HoldsAfter old new before after change s → HoldsAfter (apart old) (apart old) before after change s
  holds_apart s holds tsk wraps sound =
      let same : held_in (adopted (apart old) s) after ≡ held_in (adopted new s) after =
      λ i. held_in {F = Unit {0}} (record { tree = record { file = tt; key = sym key i; root = s.root; tree = s.tree; stage = None }; attributes = sym own i }) after in
      same ∙ holds tsk wraps sound

  pub holds_stage : (stage : Option Staged) → IfSome stage (HoldsAfter old new before after change) → IfSome stage (HoldsAfter (apart old) (apart old) before after change)
  holds_stage None holds = tt
  holds_stage (Some s) holds = holds_apart s holds

holds_ok : (A : Type 0) (result : Result A TreeFault) (P Q X Y : Type 0) → (X → Y) → OnOk result (P → Q → X) → OnOk result (P → Q → Y)
holds_ok A (Ok done) P Q X Y then holds = λ p q. then (holds p q)
holds_ok A (Err fault) P Q X Y then holds = tt

-- a stage, as the slot sees it
module _ {F : Type 0} (state : F → FileState) (old new : ObjectValue F) (c : DataChange) (Undrawn A : Type 0) (result : Result A TreeFault) where
  pub opens_stage : StageAnswer state old.tree new.tree (4096 + c.size) result → new.attributes ≡ old.attributes
      → OnOk result (IfSome new.tree.stage (λ s. SealsRange old.tree.key old.tree.tree s.tree (state old.tree.file) (state new.tree.file) c.range c.at c.bytes (4096 + c.size)))
      → OnOk result (Told (state old.tree.file) (state new.tree.file) → load_of (state old.tree.file).reads old.tree.root ≡ Ok old.tree.tree →
      IfSome new.tree.stage (λ s. LeavesObject old.tree.key old.tree.tree.head.wrapped (state old.tree.file).reads old.tree.root (state new.tree.file).reads s.root
      (length old.attributes) (size_in old) c.size c.contents))
      → OnOk result (Told (state old.tree.file) (state new.tree.file) → load_of (state old.tree.file).reads old.tree.root ≡ Ok old.tree.tree →
      IfSome new.tree.stage (HoldsAfter old new (state old.tree.file).reads (state new.tree.file).reads c.contents))
      → OnOk result (Told (state old.tree.file) (state new.tree.file) → load_of (state old.tree.file).reads old.tree.root ≡ Ok old.tree.tree →
      IfSome new.tree.stage (λ s. LeavesBytes old.tree.key old.tree.tree.head.wrapped (state old.tree.file).reads old.tree.root (state new.tree.file).reads s.root c.range c.left))
      → BlocksAnswer old.tree.key old.tree.tree (state old.tree.file) (state new.tree.file) (needs c.range) result
      → (Told (state old.tree.file) (state new.tree.file) → TreeCorrupt (held_in old (state old.tree.file).reads) c.asked result)
      → IfErr result (λ e. IsEarlyFault e → Rests (state old.tree.file) (state new.tree.file) × Undrawn)
      → IfErr result (λ e. IsDrawFault e → Rests (state old.tree.file) (state new.tree.file))
      → IsVerified old.tree.root old.tree.tree
      → OpensStage (state old.tree.file) (state new.tree.file) (apart old) c new.tree.stage Undrawn result
  opens_stage answer own seals object holds bytes blocks corrupt early undrawn verified = record {
    opens = answer.opens;
    none = answer.none;
    next = answer.next;
    format = answer.format;
    verifies = answer.verified;
    spares = answer.spares;
    seals = seals;
    loads = answer.loaded;
    object = object;
    holds = holds_ok A result (Told (state old.tree.file) (state new.tree.file)) (load_of (state old.tree.file).reads old.tree.root ≡ Ok old.tree.tree)
        (IfSome new.tree.stage (HoldsAfter old new (state old.tree.file).reads (state new.tree.file).reads c.contents))
        (IfSome new.tree.stage (HoldsAfter (apart old) (apart old) (state old.tree.file).reads (state new.tree.file).reads c.contents))
        (holds_stage old new (ap (λ (t : TreeValue F). t.key) answer.same) own (state old.tree.file).reads (state new.tree.file).reads c.contents new.tree.stage) holds;
    bytes = bytes;
    blocks = blocks;
    corrupt = corrupt;
    early = early;
    undrawn = undrawn;
    keeps = answer.keeps;
    verified = verified;
  }

module _ (o : HeldObject) (c : DataChange) (Undrawn : Type 0) where
  stage_fault : (old new : FileState) (stage : Option Staged) (A : Type 0) (fault : TreeFault) → IsChangeFault fault → OpensStage old new o c stage Undrawn {A = A} (Err fault)
      → StageFault old new o (needs c.range) Undrawn (slot_fault fault)
  stage_fault old new stage A (TreeFailed count) kind opens = tt
  stage_fault old new stage A (TreeNoEntropy count) kind opens = (opens.undrawn tt, opens.blocks)
  stage_fault old new stage A TreeNoMemory kind opens = opens.early tt
  stage_fault old new stage A (BadHead long greatest) kind opens = absurd kind
  stage_fault old new stage A (Short end need) kind opens = absurd kind
  stage_fault old new stage A (Damaged n want found) kind opens = absurd kind
  stage_fault old new stage A (BadTag k want found) kind opens =
      let early : Rests old new × Undrawn = opens.early tt in
      (record { block = k; want = want; found = found; bad = opens.blocks }, early.0, early.1)

  -- no stage was opened
  pub stages_refused : (old new : FileState) (stage : Option Staged) (now : Holding) (A : Type 0) (fault : TreeFault) → Sound old → Sound new → IsCurrent o.tree.root
      → IsChangeFault fault → now ≡ live o → OpensStage old new o c stage Undrawn {A = A} (Err fault) → StagesObject old new o c now Undrawn (Err (slot_fault fault))
  stages_refused old new stage now A fault sound still current kind same opens = record {
    leaves = same;
    refused = stage_fault old new stage A fault kind opens;
    corrupt = λ told. corrupt_fault (held_in o old.reads) c.asked A RootRef fault kind (opens.corrupt told);
    keeps = opens.keeps;
    firm = stays_firm old new o.tree.root o.tree.tree sound still current.0 opens.keeps;
    verified = opens.verified;
    steps = stage_steps old new o still opens.keeps;
  }

  -- what the new nodes seal, in the course of further calls
  seals_first : (a b d : FileState) (next : Loaded) → Keeps (Lies o.tree.tree.layout o.tree.tree.nodes o.tree.root.version) b d → SealsRange o.tree.key o.tree.tree next a b c.range c.at c.bytes (4096 + c.size)
      → SealsRange o.tree.key o.tree.tree next a d c.range c.at c.bytes (4096 + c.size)
  seals_first a b d next keeps seals = record {
    met = λ k lt first last.
        let was = seals.met k lt first last in
        let page : List ℕ = was.0 in
        let new_page : IsNewPage o.tree.key o.tree.tree a b c.range c.at c.bytes k page = was.2 in
        let read = λ (asked : needs c.range k ≡ true). page_first o.tree.key o.tree.tree a b d k new_page.over keeps (new_page.read asked) in
        (page, was.1, record { over = new_page.over; read = read; rewritten = new_page.rewritten });
    missed = seals.missed;
  }

  module _ (old mid new : FileState) (stage : Option Staged) (now : Holding) (opens : OpensStage old mid o c stage Undrawn {A = Unit {0}} (Ok tt)) where
    both_keep : Keeps Anywhere mid new → Keeps (Lies o.tree.tree.layout o.tree.tree.nodes o.tree.root.version) old new
    both_keep keeps = keeps_then (Lies o.tree.tree.layout o.tree.tree.nodes o.tree.root.version) old mid new opens.keeps (keeps_selected o.tree.tree.layout o.tree.tree.nodes o.tree.root.version mid new keeps)

    module _ (root : RootRef) (settles : SettlesObject mid new o stage now (Ok root)) where
      abbrev s : Staged
      s = (opened stage opens.opens).0

      is : stage ≡ Some s
      is = (opened stage opens.opens).1

      abbrev after : Staged
      after = record s { settled = true }

      told_before : Told old new → Told old mid
      told_before told = told_first old mid new settles.keeps.goes_on told

      reads_same : Known old new → mid.reads ≡ new.reads
      reads_same known = sym (settles.reads (then_known old mid new opens.keeps.goes_on known))

      holds_now : Told old new → load_of old.reads o.tree.root ≡ Ok o.tree.tree → HoldsStage old new o c after
      holds_now told loads =
          let before : Told old mid = told_before told in
          let reads : mid.reads ≡ new.reads = reads_same told.1 in
          record {
            loads = subst (λ (image : List ℕ). load_of image s.root ≡ Ok s.tree) reads (at_some stage (λ x. load_of mid.reads x.root ≡ Ok x.tree) s is (opens.loads before.1 loads));
            object = subst (λ (image : List ℕ). LeavesObject o.tree.key o.tree.tree.head.wrapped old.reads o.tree.root image s.root (length o.attributes) (size_in o) c.size c.contents) reads
                (at_some stage (λ x. LeavesObject o.tree.key o.tree.tree.head.wrapped old.reads o.tree.root mid.reads x.root (length o.attributes) (size_in o) c.size c.contents) s is
                (opens.object before loads));
            holds = subst (λ (image : List ℕ). HoldsAfter o o old.reads image c.contents s) reads (at_some stage (HoldsAfter o o old.reads mid.reads c.contents) s is (opens.holds before loads));
            bytes = subst (λ (image : List ℕ). LeavesBytes o.tree.key o.tree.tree.head.wrapped old.reads o.tree.root image s.root c.range c.left) reads
                (at_some stage (λ x. LeavesBytes o.tree.key o.tree.tree.head.wrapped old.reads o.tree.root mid.reads x.root c.range c.left) s is (opens.bytes before loads));
          }

      leaves_is : (root ≡ s.root) × (now ≡ staged o after)
      leaves_is = at_some stage (λ x. (root ≡ x.root) × (now ≡ staged o (record x { settled = true }))) s is settles.leaves

      abbrev IsNext : Staged → Type 0
      IsNext x =
          (x.root.version ≡ 1 - o.tree.root.version) × (x.settled ≡ false)
          × (x.tree.head ≡ record o.tree.tree.head { length = 4096 + c.size; greatest = greatest_of (4096 + c.size) })

      next_is : IsNext s
      next_is = at_some stage IsNext s is opens.next

      kept : Keeps (Lies o.tree.tree.layout o.tree.tree.nodes o.tree.root.version) mid new
      kept = keeps_selected o.tree.tree.layout o.tree.tree.nodes o.tree.root.version mid new settles.keeps

      stage_of : IsStageOf old new o c root after
      stage_of = record {
        root_is = sym leaves_is.0;
        settled = refl;
        version = next_is.0;
        format = at_some stage (λ x. x.root.format ≡ o.tree.root.format) s is opens.format;
        head = next_is.2;
        synced = (mid, opens.keeps, settles.synced);
        verified = at_some stage (λ x. IsVerified x.root x.tree) s is opens.verifies;
        spares = at_some stage (λ x. SparesZero o.tree.tree x.tree) s is opens.spares;
        seals = seals_first old mid new s.tree kept
            (at_some stage (λ x. SealsRange o.tree.key o.tree.tree x.tree old mid c.range c.at c.bytes (4096 + c.size)) s is opens.seals);
        read = λ k asked. was_first o.tree.key o.tree.tree old mid new k kept (opens.blocks k asked);
        stands = holds_now;
        firm = λ honest loads.
            at_some stage (λ x. IsTrue new.honest → load_of mid.reads x.root ≡ Ok x.tree → IsFirm new x.root x.tree) s is settles.next_firm honest
            (at_some stage (λ x. load_of mid.reads x.root ≡ Ok x.tree) s is (opens.loads (inl (settles.keeps.goes_on.honest honest)) loads));
      }

      stages_settled : Sound old → Sound new → IsCurrent o.tree.root → StagesObject old new o c now Undrawn (Ok root)
      stages_settled sound still current = record {
        leaves = (after, leaves_is.1, stage_of);
        refused = tt;
        corrupt = λ told. opens.corrupt (told_before told);
        keeps = both_keep settles.keeps;
        firm = stays_firm old new o.tree.root o.tree.tree sound still current.0 (both_keep settles.keeps);
        verified = opens.verified;
        steps = stage_steps old new o still (both_keep settles.keeps);
      }

    file_corrupt : (x : Contents) (fault : SlotFault) → IsFileFault fault → CorruptAnswer {A = RootRef} x c.asked (Err fault)
    file_corrupt x (Failed count) kind = tt
    file_corrupt x Corrupt kind = absurd kind
    file_corrupt x (NoEntropy count) kind = absurd kind
    file_corrupt x NoMemory kind = absurd kind

    file_refused : (fault : SlotFault) → IsFileFault fault → StageFault old new o (needs c.range) Undrawn fault
    file_refused (Failed count) kind = tt
    file_refused Corrupt kind = absurd kind
    file_refused (NoEntropy count) kind = absurd kind
    file_refused NoMemory kind = absurd kind

    -- the stage was opened, and settled or given up
    pub stages_then : (result : Result RootRef SlotFault) → Sound old → Sound new → IsCurrent o.tree.root → SettlesObject mid new o stage now result
        → StagesObject old new o c now Undrawn result
    stages_then (Ok root) sound still current settles = stages_settled root settles sound still current
    stages_then (Err fault) sound still current settles = record {
      leaves = settles.leaves;
      refused = file_refused fault settles.kind;
      corrupt = λ told. file_corrupt (held_in o old.reads) fault settles.kind;
      keeps = both_keep settles.keeps;
      firm = stays_firm old new o.tree.root o.tree.tree sound still current.0 (both_keep settles.keeps);
      verified = opens.verified;
      steps = stage_steps old new o still (both_keep settles.keeps);
    }
