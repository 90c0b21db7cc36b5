-- What was seen of a directory's file, whatever the file is: each at a moment since which no call wrote there.
use Rattle.std.specs.Prelude.{◌≡◌, ℕ, List, Ok}
use Rattle.disk_model.specs.State.{FileState}
use Rattle.disk_model.specs.Seen.{WasSeen}
use Rattle.node_image.specs.declared.node.RootRef.{RootRef}
use Rattle.node_image.specs.Parts.{In}
use Rattle.node_image.specs.Parts.Part.{block}
use Rattle.node_image.specs.Tables.{block_version}
use Rattle.htree_file.specs.Opening.{Loaded, table_of}
use Rattle.htree_file.specs.Pages.{block_in}
use Rattle.htree_file.specs.Selected.{Lies}

-- head and nodes of the tree that the reference names
abbrev pub SeesTree : (old new : FileState) → RootRef → Loaded → Type 0
SeesTree old new root tree = WasSeen (Lies tree.layout tree.nodes root.version) old new (λ image. table_of image root ≡ Ok tree)

-- the ciphertext of its block k
abbrev pub SeesBlock : (old new : FileState) → Loaded → (k : ℕ) → (ciphertext : List ℕ) → Type 0
SeesBlock old new tree k ciphertext = WasSeen (In tree.layout (block k (block_version tree.nodes k))) old new (λ image. ciphertext ≡ block_in image tree k)
