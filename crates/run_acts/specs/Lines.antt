-- The lines of objects and of refusals.
use Rattle.std.specs.Prelude.{ℕ, List, [], ◌∷◌, ◌++◌, ◌==◌, Option, Some, None, codes, decimal, nat_le, if◌then◌else◌, length}
use Rattle.std.specs.Int.{w16, to_be_bytes}
use Rattle.hex.specs.Hex.{encode_lower}
use Rattle.sha2.specs.Sha256.{sha256}
use Rattle.crash_core.specs.declared.fault.DirFault.{DirFault}
use Rattle.crash_core.specs.declared.fault.DirFault.TheVariants.{Tree, WrongLength, Record, Double}
use Rattle.htree_file.specs.declared.fault.TreeFault.{TreeFault}
use Rattle.htree_file.specs.declared.fault.TreeFault.TheVariants.{BadHead, Short, Damaged as DamagedNode, BadTag, Failed as FileFailed, NoEntropy, NoMemory as NoRoom}
use Rattle.script_text.specs.Forms.{bytes_text, uuid_text}
use Rattle.script_text.specs.BadBlocks.{bad_text}
use Rattle.store_commit.specs.declared.fault.MountFault.{MountFault}
use Rattle.store_commit.specs.declared.fault.MountFault.TheVariants.{NoStore, CardBlock, Directory, Frame, CardResult, Failed, Spent, NoMemory, OldFormat}
use Rattle.store_model.specs.declared.name.ObjectName.{ObjectName}
use Rattle.store_model.specs.Object.{Object, ObjectMap, Damaged, Sound, size_of}

-- bytes in hex, `-` for none, or their SHA-256 where they are more than 64
unfoldable pub data_text : List ℕ → List ℕ
data_text bytes = if nat_le (length bytes) 64 then bytes_text bytes else codes "sha256:" ++ encode_lower (sha256 bytes)

-- the numbers of the bad blocks, or the data where there is none
unfoldable pub content_text : (bytes bad : List ℕ) → List ℕ
content_text bytes [] = data_text bytes
content_text bytes (block ∷ bad) = bad_text (block ∷ bad)

-- what an object has, or that it is damaged as a whole
unfoldable pub object_words : Object → List ℕ
object_words (Sound c) = bytes_text c.attributes ++ codes " " ++ content_text c.bytes c.bad
object_words (Damaged size) = codes "damaged"

-- the line of an object: `# UUID ID SIZE ATTRIBUTES CONTENT`, or `# UUID ID SIZE damaged`
unfoldable pub object_line : ObjectName × Object → List ℕ
object_line entry =
    codes "# " ++ uuid_text (entry.0).app ++ codes " " ++ encode_lower (entry.0).id ++ codes " " ++ decimal (size_of entry.1) ++ codes " "
    ++ object_words entry.1 ++ codes "\n"

-- the lines of all objects, in the order of their names
unfoldable pub objects_text : ObjectMap → List ℕ
objects_text [] = []
objects_text (entry ∷ objects) = object_line entry ++ objects_text objects

-- a computed tag, where it was not taken out
abbrev pub computed_text : List ℕ → List ℕ
computed_text tag = if length tag == 0 then [] else codes " " ++ encode_lower tag

-- why a tree does not load, where that is told
abbrev pub tree_text : TreeFault → Option (List ℕ)
tree_text (BadHead length greatest) = Some (codes "head " ++ decimal length ++ codes " " ++ decimal greatest)
tree_text (Short end need) = Some (codes "short " ++ decimal end ++ codes " " ++ decimal need)
tree_text (DamagedNode node want found) = Some (codes "hash " ++ decimal node ++ codes " " ++ encode_lower want ++ codes " " ++ encode_lower found)
tree_text (BadTag block want found) = Some (codes "tag " ++ decimal block ++ codes " " ++ encode_lower want ++ computed_text found)
tree_text (FileFailed count) = None
tree_text (NoEntropy count) = None
tree_text NoRoom = None

-- why a directory is refused
abbrev pub directory_text : DirFault → Option (List ℕ)
directory_text (Tree fault) = tree_text fault
directory_text (WrongLength length) = Some (codes "length " ++ decimal length)
directory_text (Record index offset) = Some (codes "record " ++ decimal index ++ codes " " ++ decimal offset)
directory_text (Double index first) = Some (codes "double " ++ decimal index ++ codes " " ++ decimal first)

-- why a store is not mounted; of a failed device, of a spent card and of memory that ran out nothing is told
unfoldable pub why_text : MountFault → Option (List ℕ)
why_text NoStore = Some (codes "no-store")
why_text (CardBlock byte) = Some (codes "card " ++ decimal byte)
why_text (OldFormat file) = Some (codes "old " ++ decimal file)
why_text (Directory fault) = directory_text fault
why_text (Frame fault) = Some (codes "frame")
why_text (CardResult value) = Some (codes "result 0x" ++ encode_lower (to_be_bytes w16 value))
why_text (Failed cause) = None
why_text Spent = None
why_text NoMemory = None

-- the line of a reason, or nothing
abbrev pub why_line : Option (List ℕ) → List ℕ
why_line (Some why) = codes "# refused " ++ why ++ codes "\n"
why_line None = []

unfoldable pub refusal_line : MountFault → List ℕ
refusal_line fault = why_line (why_text fault)
