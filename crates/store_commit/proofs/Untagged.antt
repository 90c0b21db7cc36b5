-- What is left of a fault without the computed tag has none.
use Rattle.std.proofs.Common.{refl}
use Rattle.crash_core.specs.declared.fault.DirFault.TheVariants.{Double, Record, Tree, WrongLength}
use Rattle.htree_file.specs.declared.fault.TreeFault.TheVariants.{BadHead, BadTag, Damaged, Failed as FileFault, NoEntropy, NoMemory as NoRoom, Short}
use Rattle.store_commit.specs.declared.fault.MountFault.{MountFault}
use Rattle.store_commit.specs.declared.fault.MountFault.TheVariants.{CardBlock, CardResult, Directory, Failed, Frame, NoMemory, NoStore, OldFormat, Spent}
use Rattle.store_commit.specs.Untagged.{IsUntagged, untagged}

pub untagged_is : (fault : MountFault) → IsUntagged (untagged fault)
untagged_is NoStore = tt
untagged_is (CardBlock byte) = tt
untagged_is (OldFormat file) = tt
untagged_is (Directory (Tree (BadHead length greatest))) = tt
untagged_is (Directory (Tree (Short end need))) = tt
untagged_is (Directory (Tree (Damaged node want found))) = tt
untagged_is (Directory (Tree (BadTag block want found))) = refl
untagged_is (Directory (Tree (FileFault count))) = tt
untagged_is (Directory (Tree (NoEntropy count))) = tt
untagged_is (Directory (Tree NoRoom)) = tt
untagged_is (Directory (WrongLength length)) = tt
untagged_is (Directory (Record index offset)) = tt
untagged_is (Directory (Double index first)) = tt
untagged_is (Frame fault) = tt
untagged_is (CardResult value) = tt
untagged_is (Failed cause) = tt
untagged_is Spent = tt
untagged_is NoMemory = tt
