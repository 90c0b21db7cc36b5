-- What making a certificate puts behind the bytes that it has.
use Rattle.std.specs.Prelude.{◌≡◌, ℕ, ◌/◌, ◌<◌, List, ◌++◌, codes, IsTrue}
use Rattle.std.specs.Int.{w16, to_be_bytes}
use Rattle.disk_model.specs.State.{FileState}
use Rattle.node_image.specs.Selection.{row}
use Rattle.htree_file.specs.Opening.{Loaded}
use Rattle.htree_file.specs.Pages.{block_in}
use Rattle.htree_file.specs.Standing.{Told}
use Rattle.image_audit.specs.Auditing.{certificate_bytes, joined, tree_bytes}

-- the ciphertext of a block, as the file reads where it tells
pub record PutsCipher (file : FileState) (tree : Loaded) (k : ℕ) (before after : List ℕ) : Type 0 where
  pub cipher : List ℕ
  pub is : after ≡ before ++ cipher
  pub told : IsTrue file.tells → cipher ≡ block_in file.reads tree k

-- the ciphertexts of the first so many blocks, as a file reads that is told from before to behind
pub record PutsCiphers (old new : FileState) (tree : Loaded) (count : ℕ) (before after : List ℕ) : Type 0 where
  pub blocks : ℕ → List ℕ
  pub is : after ≡ before ++ joined (row blocks count)
  pub told : Told old new → (k : ℕ) → k < count → blocks k ≡ block_in new.reads tree k

-- The bytes begin a certificate of this tree of the directory, with a ciphertext that its file reads as where it is told.
pub record BeginsAudit (index : ℕ) (dir : Loaded) (old new : FileState) (bytes : List ℕ) : Type 0 where
  pub block : List ℕ
  pub is : bytes ≡ codes "TEECERT1" ++ (to_be_bytes w16 index ++ (tree_bytes dir ++ block))
  pub told : Told old new → block ≡ block_in new.reads dir (index / 32)

-- What a certificate has of this tree of an object was put behind the bytes, with ciphertexts that its file reads as where it is told.
pub record EndsAudit (object : Loaded) (old new : FileState) (before after : List ℕ) : Type 0 where
  pub blocks : ℕ → List ℕ
  pub is : after ≡ before ++ (tree_bytes object ++ joined (row blocks object.head.greatest))
  pub told : Told old new → (k : ℕ) → k < object.head.greatest → blocks k ≡ block_in new.reads object k

-- The bytes are a certificate of these trees, with ciphertexts that their files read as where they are told.
pub record IsAudit (index : ℕ) (dir object : Loaded) (dir_old dir_new object_old object_new : FileState) (bytes : List ℕ) : Type 0 where
  pub block : List ℕ
  pub blocks : ℕ → List ℕ
  pub is : bytes ≡ certificate_bytes index dir block object blocks
  pub dir_told : Told dir_old dir_new → block ≡ block_in dir_new.reads dir (index / 32)
  pub object_told : Told object_old object_new → (k : ℕ) → k < object.head.greatest → blocks k ≡ block_in object_new.reads object k
