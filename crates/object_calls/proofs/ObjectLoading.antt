-- What loading an object and reading it whole answers.
use Rattle.std.proofs.Common.{◌≡◌, ◌⊎◌, ◌∙◌, ◌+◌, ℕ, List, length, Result, Ok, Err, refl, sym, ap, subst, inl, inr, arith}
use Rattle.std.specs.Prelude.{IfOk, IfErr, OnOk}
use Rattle.aes_block.specs.WrappedKey.{unwrapped_of}
use Rattle.disk_model.specs.State.{FileState, Sound as SoundFile}
use Rattle.disk_model.specs.Calls.{Rests}
use Rattle.htree_file.specs.declared.fault.TreeFault.TheVariants.{BadHead, BadTag, Damaged as DamagedTree, Failed as FileFault, NoEntropy, NoMemory as NoRoom, Short}
use Rattle.htree_file.specs.Answers.{FilePassed}
use Rattle.htree_file.specs.Opening.{IsVerified}
use Rattle.htree_file.specs.Standing.{Told}
use Rattle.htree_file.proofs.Causes.{fault_then, passed_then, told_then}
use Rattle.node_image.specs.declared.node.RootRef.{RootRef}
use Rattle.page_bytes.specs.Pages.{page_at}
use Rattle.page_bytes.proofs.Content.{length-bytes_from}
use Rattle.block_file.specs.Reads.{AreReadBytes}
use Rattle.block_file.proofs.Reading.{rests_keep, told_first}
use Rattle.tree_paths.specs.declared.node_set.NodeSet.{NodeSet}
use Rattle.tee_types.specs.declared.reply.Cause.{Cause}
use Rattle.tee_types.specs.declared.reply.Cause.TheVariants.{Fault, Frame as OfFrame, CardResult as OfResult}
use Rattle.tee_types.specs.declared.reply.Device.{Device}
use Rattle.tee_types.specs.declared.reply.Device.TheVariants.{Dir, File, Card, Entropy}
use Rattle.store_model.specs.Object.{Damaged as DamagedObject, Sound as SoundObject}
use Rattle.dir_records.specs.declared.entry.DirEntry.{DirEntry}
use Rattle.crash_core.specs.MountedObject.{mounted_object, root_of}
use Rattle.object_file.specs.declared.fault.ObjectFault.{ObjectFault}
use Rattle.object_file.specs.declared.fault.ObjectFault.TheVariants.{Tree, WrongSize}
use Rattle.object_file.specs.Held.{held_in, pages_in}
use Rattle.object_file.specs.Loading.{IsOutsideObject, ObjectCause, ObjectDiffers}
use Rattle.object_file.specs.Value.{ObjectValue, size_in}
use Rattle.store_commit.specs.declared.fault.MountFault.{MountFault}
use Rattle.store_commit.specs.declared.fault.MountFault.TheVariants.{NoStore, CardBlock, Directory, Frame, CardResult, Failed, Spent, NoMemory, OldFormat}
use Rattle.object_calls.specs.declared.shown_object.ShownObject.{ShownObject}
use Rattle.object_calls.specs.declared.shown_object.ShownObject.TheVariants.{Damaged, Sound}
use Rattle.object_calls.specs.Next.{ShowAnswer, ShowFailed}
use Rattle.object_calls.specs.ObjectReads.{ShowsLoaded, object_answer}
use Rattle.object_calls.specs.ShownObjects.{ShowsData, ShowsEntry, ShowsObject, data_blocks}
use Rattle.object_calls.proofs.ObjectShowing.{contents_shown, read_from}

-- AN OBJECT THAT DOES NOT LOAD
module _ (tsk : List ℕ) (a c : FileState) (e : DirEntry) where
  found_damaged : (fault : ObjectFault) → (IsOutsideObject fault → ⊥) → IsOutsideObject fault ⊎ (Told a c → mounted_object tsk c.reads e ≡ DamagedObject e.size) → ObjectDiffers tsk c e fault
      → ShowsEntry tsk a c e Damaged
  found_damaged fault inside is differs = record { told = told is; read = record { fault = fault; inside = inside; differs = differs } }
    where
      told : IsOutsideObject fault ⊎ (Told a c → mounted_object tsk c.reads e ≡ DamagedObject e.size) → Told a c → ShowsObject Damaged e.size (mounted_object tsk c.reads e)
      told (inl outside) t = absurd (inside outside)
      told (inr damaged) t = subst (ShowsObject Damaged e.size) (sym (damaged t)) refl

  pub damaged_answer : (fault : ObjectFault) → IsOutsideObject fault ⊎ (Told a c → mounted_object tsk c.reads e ≡ DamagedObject e.size) → ObjectDiffers tsk c e fault → ObjectCause a c fault
      → ShowAnswer tsk a c e (object_answer e.file fault)
  damaged_answer (Tree (FileFault count)) is differs cause = (refl, cause)
  damaged_answer (Tree NoRoom) is differs cause = tt
  damaged_answer (Tree (BadHead long greatest)) is differs cause = (found_damaged (Tree (BadHead long greatest)) (λ o. o) is differs, cause)
  damaged_answer (Tree (Short end need)) is differs cause = (found_damaged (Tree (Short end need)) (λ o. o) is differs, cause)
  damaged_answer (Tree (DamagedTree n want found)) is differs cause = (found_damaged (Tree (DamagedTree n want found)) (λ o. o) is differs, cause)
  damaged_answer (Tree (BadTag k want found)) is differs cause = (found_damaged (Tree (BadTag k want found)) (λ o. o) is differs, cause)
  damaged_answer (Tree (NoEntropy count)) is differs cause = (found_damaged (Tree (NoEntropy count)) (λ o. o) is differs, cause)
  damaged_answer (WrongSize entry head) is differs cause = (found_damaged (WrongSize entry head) (λ o. o) is differs, cause)

-- ONE THAT LOADS
-- the object was loaded from the file, and nothing was asked of that but reads
pub record IsLoaded {F : Type 0} (tsk : List ℕ) (a b : FileState) (e : DirEntry) (o : ObjectValue F) : Type 0 where
  pub root : o.tree.root ≡ root_of e
  pub key : o.tree.key ≡ unwrapped_of tsk o.tree.tree.head.wrapped
  pub verified : IsVerified o.tree.root o.tree.tree
  pub size : o.tree.tree.head.length ≡ 4096 + e.size
  pub long : length o.attributes ≡ e.attributes
  pub front : AreReadBytes o.tree.key o.tree.tree a b 0 o.attributes e.attributes
  pub object : Told a b → mounted_object tsk b.reads e ≡ SoundObject (held_in o b.reads)
  pub rests : Rests a b
  pub passed : FilePassed a b

module _ {F : Type 0} (tsk : List ℕ) (a b c : FileState) (e : DirEntry) (o : ObjectValue F) (loaded : IsLoaded tsk a b e o) (sound : SoundFile b) (rests : Rests b c) where
  size_is : size_in o ≡ e.size
  size_is = omega (arith, loaded.size)

  shown_sound : (attributes bytes : List ℕ) (bad : NodeSet) → ShowsLoaded o.attributes o.tree.key o.tree.tree b c (size_in o) (Sound attributes bytes bad) → ShowsEntry tsk a c e (Sound attributes bytes bad)
  shown_sound attributes bytes bad shows = record {
    told = λ told.
        let before = told_first a b c rests.goes_on told in
        let behind = told_then a b c loaded.rests.goes_on told in
        let is : mounted_object tsk c.reads e ≡ SoundObject (held_in o b.reads) = ap (λ (i : List ℕ). mounted_object tsk i e) (rests.reads behind.1) ∙ loaded.object before in
        let long : length (held_in o b.reads).bytes ≡ size_in o = length-bytes_from (page_at (pages_in o.tree b.reads)) 4096 (size_in o) in
        subst (ShowsObject (Sound attributes bytes bad) e.size) (sym is)
        (sym (long ∙ size_is), contents_shown o b c attributes bytes bad loaded.verified (omega (arith, loaded.size)) shows.0 shows.1 behind);
    read = read_from o.tree.key o.tree.tree a b c loaded.rests (rests_keep o.tree.tree.layout o.tree.tree.nodes b c sound rests) tsk e attributes bytes bad
        (subst (λ (r : RootRef). IsVerified r o.tree.tree) loaded.root loaded.verified) loaded.size loaded.key
        (ap length shows.0 ∙ loaded.long) (subst (λ (l : List ℕ). AreReadBytes o.tree.key o.tree.tree a b 0 l e.attributes) (sym shows.0) loaded.front)
        (subst (λ (n : ℕ). ShowsData o.tree.key o.tree.tree b c n (data_blocks n) bytes bad) size_is shows.1);
  }

  device_failed : (device : Device) (count : ℕ) → ShowFailed b c e.file (Failed (Fault device count)) → ShowFailed a c e.file (Failed (Fault device count))
  device_failed (File n) count f = (f.0, fault_then a b c (FileFault count) loaded.rests.goes_on loaded.passed f.1)
  device_failed Dir count f = absurd f
  device_failed Card count f = absurd f
  device_failed Entropy count f = absurd f

  cause_failed : (cause : Cause) → ShowFailed b c e.file (Failed cause) → ShowFailed a c e.file (Failed cause)
  cause_failed (Fault device count) f = device_failed device count f
  cause_failed (OfFrame fault) f = absurd f
  cause_failed (OfResult result) f = absurd f

  show_failed : (fault : MountFault) → ShowFailed b c e.file fault → ShowFailed a c e.file fault
  show_failed NoStore f = absurd f
  show_failed (CardBlock byte) f = absurd f
  show_failed (Directory fault) f = absurd f
  show_failed (Frame fault) f = absurd f
  show_failed (CardResult result) f = absurd f
  show_failed (Failed cause) f = cause_failed cause f
  show_failed Spent f = absurd f
  show_failed (OldFormat n) f = absurd f
  show_failed NoMemory f = tt

  pub loaded_answer : (result : Result ShownObject MountFault) → IfOk result (ShowsLoaded o.attributes o.tree.key o.tree.tree b c (size_in o)) → OnOk result (FilePassed b c)
      → IfErr result (ShowFailed b c e.file) → ShowAnswer tsk a c e result
  loaded_answer (Ok Damaged) shows passed failed = absurd shows
  loaded_answer (Ok (Sound attributes bytes bad)) shows passed failed = (shown_sound attributes bytes bad shows, passed_then a b c loaded.passed passed)
  loaded_answer (Err fault) shows passed failed = show_failed fault failed
