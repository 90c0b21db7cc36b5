-- How long a block's tag is.
use Rattle.std.proofs.Common.{◌≡◌, ℕ, List, length}
use Rattle.aes_block.specs.Cipher.{cipher}
use Rattle.node_image.specs.declared.head.Head.{Head}
use Rattle.node_image.specs.declared.node.NodeImage.{NodeImage}
use Rattle.gcm_mode.proofs.TagWidth.{tag_width}
use Rattle.htree_file.specs.Pages.{tag_of}

pub block_tag_width : (key : List ℕ) (h : Head) (node : NodeImage) (k : ℕ) (ciphertext : List ℕ) → length (tag_of key h node k ciphertext) ≡ 16
block_tag_width key h node k ciphertext = tag_width (cipher key) _ _ ciphertext
