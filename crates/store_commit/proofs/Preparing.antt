-- The directory's part of a commit, from a stage and from settling it.
use Rattle.std.proofs.Common.{◌≡◌, ◌∙◌, ℕ, true, false, Option, Some, None, List, Ok, Err, IfSome, IsSome, IsTrue, refl, sym, ap, subst}
use Rattle.disk_model.specs.State.{FileState}
use Rattle.disk_model.specs.Keeps.{Keeps}
use Rattle.disk_model.proofs.Laws.{keeps_then}
use Rattle.node_image.specs.declared.node.RootRef.{RootRef}
use Rattle.htree_file.specs.declared.fault.TreeFault.{TreeFault}
use Rattle.htree_file.specs.Selected.{Lies}
use Rattle.htree_file.proofs.Firmness.{keeps_selected}
use Rattle.tee_types.specs.declared.reply.Cause.{Cause}
use Rattle.dir_records.specs.declared.entry.DirEntry.{DirEntry}
use Rattle.dir_file.specs.View.{DirValue, DirView, StagedDirectory, adopted}
use Rattle.dir_file.specs.Held.{IsDurable, IsStaged}
use Rattle.dir_file.specs.Stages.{IsNext, SettlesDirectory, StagesEntry}
use Rattle.crash_core.specs.declared.change.EntryChange.{EntryChange}
use Rattle.crash_core.specs.declared.change.EntryChange.TheVariants.{Put, Clear}
use Rattle.store_commit.specs.Prepared.{IsStageOf, Prepares, StageStands, StagesChange}

-- what an open stage is
pub opened : (o : Option StagedDirectory) → IsSome o → (s : StagedDirectory) × (o ≡ Some s)
opened None is = absurd (cc (is))
opened (Some s) is = (s, refl)

pub at_some : (o : Option StagedDirectory) (P : StagedDirectory → Type 0) (s : StagedDirectory) → o ≡ Some s → IfSome o P → P s
at_some o P s is holds = subst (λ (v : Option StagedDirectory). IfSome v P) is holds

pub if_some : (o : Option StagedDirectory) (P : StagedDirectory → Type 0) (s : StagedDirectory) → o ≡ Some s → P s → IfSome o P
if_some o P s is holds = subst (λ (v : Option StagedDirectory). IfSome v P) (sym is) holds

-- the stage of an entry is one of its change
module _ (old new : FileState) (was now : DirView) where
  staged_entry : (change : EntryChange) (index : ℕ) (entry : Option DirEntry)
      → ((s : StagedDirectory) → IsNext was index entry s → IsStageOf false was change s)
      → StagesEntry old new was now index entry {A = Unit {0}} (Ok tt) → Prepares false old new was now change {A = Unit {0}} (Ok tt)
  staged_entry change index entry next staged =
      let o = opened now.stage staged.opens in
      record {
        same = staged.same;
        none = tt;
        opens = staged.opens;
        next = if_some now.stage (IsStageOf false was change) o.0 o.1 (next o.0 (at_some now.stage (IsNext was index entry) o.0 o.1 staged.next));
        keeps = staged.keeps;
        synced = tt;
        stands = λ honest held. if_some now.stage (StageStands false new was.tsk) o.0 o.1 (at_some now.stage (IsStaged new was.tsk) o.0 o.1 (staged.staged honest held));
      }

  pub staged_change : (change : EntryChange) → StagesChange old new was now change {A = Unit {0}} (Ok tt) → Prepares false old new was now change {A = Unit {0}} (Ok tt)
  staged_change (Put index entry) staged =
      staged_entry (Put index entry) index (Some entry) (λ s n. record { version = n.version; format = n.format; entries_are = n.entries_are; is_settled = n.settled; are = n.are }) staged
  staged_change (Clear index) staged =
      staged_entry (Clear index) index None (λ s n. record { version = n.version; format = n.format; entries_are = n.entries_are; is_settled = n.settled; are = n.are }) staged

  pub refused_change : (change : EntryChange) (fault : TreeFault) (cause : Cause) → StagesChange old new was now change {A = Unit {0}} (Err fault)
      → Prepares false old new was now change {A = Unit {0}} (Err cause)
  refused_change (Put index entry) fault cause staged =
      record { same = staged.same; none = staged.none; opens = tt; next = tt; keeps = staged.keeps; synced = tt; stands = tt }
  refused_change (Clear index) fault cause staged =
      record { same = staged.same; none = staged.none; opens = tt; next = tt; keeps = staged.keeps; synced = tt; stands = tt }

module _ (old mid new : FileState) (was d now : DirView) (change : EntryChange) (staged : Prepares false old mid was d change {A = Unit {0}} (Ok tt)) where
  both_keep : Keeps (λ place. Unit {0}) mid new → Keeps (Lies was.tree.layout was.tree.nodes was.root.version) old new
  both_keep keeps = keeps_then (Lies was.tree.layout was.tree.nodes was.root.version) old mid new staged.keeps (keeps_selected was.tree.layout was.tree.nodes was.root.version mid new keeps)

  -- settled
  pub prepared : (root : RootRef) → SettlesDirectory mid new d now {A = RootRef} (Ok root) → Prepares true old new was now change {A = RootRef} (Ok root)
  prepared root settles =
      let o = opened d.stage staged.opens in
      let s : StagedDirectory = o.0 in
      let s' : StagedDirectory = record s { settled = true } in
      let is : now.stage ≡ Some s' = at_some d.stage (λ t. now.stage ≡ Some (record t { settled = true })) s o.1 settles.settled in
      let next : IsStageOf false was change s = at_some d.stage (IsStageOf false was change) s o.1 staged.next in
      record {
        same = settles.same ∙ ap (λ (v : DirView). record v { stage = now.stage }) staged.same;
        none = tt;
        opens = subst IsSome (sym is) refl;
        next = if_some now.stage (IsStageOf true was change) s' is (record { version = next.version; format = next.format; entries_are = next.entries_are; is_settled = refl; are = next.are });
        keeps = both_keep settles.keeps;
        synced = (mid, staged.keeps, settles.synced);
        stands = λ honest held. if_some now.stage (StageStands true new was.tsk) s' is
            (let tsk : d.tsk ≡ was.tsk = ap (λ v. v.tsk) staged.same in
            let stands : IsStaged mid was.tsk s = at_some d.stage (StageStands false mid was.tsk) s o.1 (staged.stands (settles.keeps.goes_on.honest honest) held) in
            subst (λ (k : List ℕ). IsStaged mid k s → IsDurable new k s.root s.tree s.entries) tsk
            (at_some d.stage (λ t. IsTrue new.honest → IsStaged mid d.tsk t → IsDurable new d.tsk t.root t.tree t.entries) s o.1 settles.next honest) stands);
      }

  -- given up
  pub given_up : (then : FileState) (left : DirView) (fault : TreeFault) (cause : Cause) → SettlesDirectory mid new d now {A = RootRef} (Err fault)
      → then ≡ new → left ≡ record now { stage = None } → Prepares true old then was left change {A = RootRef} (Err cause)
  given_up then left fault cause settles same dropped =
      let none : left.stage ≡ None = ap (λ v. v.stage) dropped in
      record {
        same = dropped ∙ ap (λ (v : DirView). record v { stage = None }) (settles.same ∙ ap (λ (v : DirView). record v { stage = now.stage }) staged.same)
            ∙ ap (λ (o : Option StagedDirectory). record was { stage = o }) (sym none);
        none = none;
        opens = tt;
        next = tt;
        keeps = subst (λ (s : FileState). Keeps (Lies was.tree.layout was.tree.nodes was.root.version) old s) (sym same) (both_keep settles.keeps);
        synced = tt;
        stands = tt;
      }

-- the stage is adopted, in the same file
module _ {F : Type 0} (old new : DirValue F) (is_open : IsSome old.dir.stage)
    (committed : IfSome old.dir.stage (λ s. new ≡ record old { dir = adopted old.dir s })) where
  abbrev adopts : new ≡ record old { dir = adopted old.dir (opened old.dir.stage is_open).0 }
  adopts = at_some old.dir.stage (λ s. new ≡ record old { dir = adopted old.dir s }) (opened old.dir.stage is_open).0 (opened old.dir.stage is_open).1 committed

  pub adopted_file : new.file ≡ old.file
  adopted_file = ap (λ (d : DirValue F). d.file) adopts

  pub adopted_dir : IfSome old.dir.stage (λ s. new.dir ≡ adopted old.dir s)
  adopted_dir = if_some old.dir.stage (λ s. new.dir ≡ adopted old.dir s) (opened old.dir.stage is_open).0 (opened old.dir.stage is_open).1
      (ap (λ (d : DirValue F). d.dir) adopts)
