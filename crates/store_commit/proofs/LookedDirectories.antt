-- A directory that is looked at, and why it names none.
use Rattle.std.proofs.Common.{◌≡◌, ◌⊎◌, Err, inl, inr}
use Rattle.disk_model.specs.State.{FileState}
use Rattle.htree_file.specs.declared.fault.TreeFault.TheVariants.{BadHead, BadTag, Damaged, Failed as FileFault, NoEntropy, NoMemory as NoRoom, Short}
use Rattle.htree_file.specs.Standing.{Told}
use Rattle.node_image.specs.declared.node.RootRef.{RootRef}
use Rattle.hmac_keys.specs.declared.Keys.{Keys}
use Rattle.crash_core.specs.declared.fault.DirFault.{DirFault}
use Rattle.crash_core.specs.declared.fault.DirFault.TheVariants.{Tree, WrongLength, Record, Double}
use Rattle.crash_core.specs.Directory.{directory_of}
use Rattle.crash_core.specs.DeviceKeys.{directory_key}
use Rattle.dir_file.specs.Loading.{DirCause, IsOutsideDir}
use Rattle.store_commit.specs.DirectoryLooks.{HasNoDirectory}
use Rattle.store_commit.specs.Mounts.{directory_answer}

module _ (keys : Keys) (old new : FileState) (root : RootRef) where
  -- the fault is outside the directory, or it is why the directory is refused
  abbrev IsWhy : DirFault → Type 0
  IsWhy fault = IsOutsideDir fault ⊎ (Told old new → directory_of (directory_key keys) new.reads root ≡ Err fault)

  shown : (fault : DirFault) → (IsOutsideDir fault → ⊥) → IsWhy fault → Told old new → directory_of (directory_key keys) new.reads root ≡ Err fault
  shown fault not (inl outside) told = absurd (not outside)
  shown fault not (inr is) told = is told

  pub looked_refused : (fault : DirFault) → IsWhy fault → DirCause old new fault → HasNoDirectory keys old new root (directory_answer fault)
  looked_refused (Tree (FileFault count)) is cause = cause
  looked_refused (Tree NoRoom) is cause = tt
  looked_refused (Tree (BadHead long greatest)) is cause = shown (Tree (BadHead long greatest)) (λ o. o) is
  looked_refused (Tree (Short end need)) is cause = shown (Tree (Short end need)) (λ o. o) is
  looked_refused (Tree (Damaged n want found)) is cause = shown (Tree (Damaged n want found)) (λ o. o) is
  looked_refused (Tree (BadTag k want found)) is cause = shown (Tree (BadTag k want found)) (λ o. o) is
  looked_refused (Tree (NoEntropy count)) is cause = shown (Tree (NoEntropy count)) (λ o. o) is
  looked_refused (WrongLength bytes) is cause = shown (WrongLength bytes) (λ o. o) is
  looked_refused (Record index offset) is cause = shown (Record index offset) (λ o. o) is
  looked_refused (Double index first) is cause = shown (Double index first) (λ o. o) is
