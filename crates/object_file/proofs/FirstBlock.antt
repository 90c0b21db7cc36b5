-- The page of block 0, which has the attributes.
use Rattle.std.proofs.Common.{true, ◌≡◌, ◌∙◌, ◌+◌, ◌/◌, ◌%◌, ◌<◌, ◌≤◌, ◌++◌, refl, ℕ, List, length, get_or, take, drop, Option, Some, sym, ap, arith}
use Rattle.std.proofs.lemmas.Grind.{same_number_lists}
use Rattle.std.proofs.lemmas.List.{get_or-take, get_or_append_left}
use Rattle.disk_model.specs.State.{FileState}
use Rattle.disk_model.specs.Calls.{GoesOn, Rests}
use Rattle.aes_block.specs.Cipher.{cipher}
use Rattle.gcm_mode.specs.Gcm.{gcm_text}
use Rattle.gcm_mode.proofs.Stream.{length-gctr}
use Rattle.node_image.specs.declared.node.NodeImage.{NodeImage}
use Rattle.node_image.specs.declared.head.Head.{Head}
use Rattle.node_image.specs.Parts.{start}
use Rattle.node_image.specs.Parts.Part.{block}
use Rattle.node_image.specs.Tables.{at_node, block_version}
use Rattle.node_image.proofs.ImageBytes.{length-bytes_at}
use Rattle.htree_file.specs.Opening.{Loaded}
use Rattle.htree_file.specs.Pages.{block_in, page_in, page_of}
use Rattle.htree_file.specs.Standing.{Told}
use Rattle.page_bytes.specs.Pages.{byte_in, bytes_from}
use Rattle.page_bytes.proofs.Content.{get_or-bytes_from-zero, length-bytes_from}
use Rattle.block_file.specs.Reads.{AreReadBytes, WasRead}
use Rattle.block_file.proofs.Reading.{page_stands, page_then}
use Rattle.htree_file.proofs.PageLaws.{page_block}
use Rattle.page_bytes.specs.Ranges.{meets}
use Rattle.object_file.specs.Loading.{IsFirstRead}

-- a text keeps its length
length-gcm_text : (e : List ℕ → List ℕ) (iv text : List ℕ) → length (gcm_text e iv text) ≡ length text
unfolding gcm_text
length-gcm_text e iv text = length-gctr e _ text

-- a page is as long as its ciphertext
pub page_length : (key : List ℕ) (h : Head) (node : NodeImage) (k : ℕ) (ciphertext page : List ℕ) → page_of key h node k ciphertext ≡ Some page → length page ≡ length ciphertext
page_length key h node k ciphertext page opens =
    ap length (sym (page_block key h node k ciphertext page opens).1) ∙ length-gcm_text (cipher key) node.iv ciphertext

-- a block has 4,096 bytes
block_length : (image : List ℕ) (tree : Loaded) (k : ℕ) → length (block_in image tree k) ≡ 4096
block_length image tree k = length-bytes_at image (start tree.layout (block k (block_version tree.nodes k))) 4096

-- the bytes that were read of block 0 are its page
pub first_stands : (key : List ℕ) (tree : Loaded) (old new : FileState) (n : ℕ) (into before : List ℕ) → n ≡ 4096 → length into ≡ n → Told old new → WasRead key tree old new 0
    → into ≡ bytes_from (page_in old.reads key tree) 0 n ++ drop n before → page_in old.reads key tree 0 ≡ Some into
first_stands key tree old new n into before whole long told was is =
    let page : List ℕ = was.0 in
    let stands : page_in old.reads key tree 0 ≡ Some page = page_stands key tree old new 0 page told was.1 in
    let size : length page ≡ n = page_length key tree.head (at_node tree.nodes (0 + 1)) 0 (was.1).ciphertext page (was.1).opens ∙ ap length ((was.1).stands told) ∙ block_length old.reads tree 0 ∙ sym whole in
    let same : page ≡ into = same_number_lists page into (size ∙ sym long) (λ i lt.
    let below : i < n = omega (arith, size) in
    let here : get_or into i 0 ≡ byte_in (page_in old.reads key tree (i / 4096)) (i % 4096) =
    ap (λ (l : List ℕ). get_or l i 0) is
    ∙ get_or_append_left (bytes_from (page_in old.reads key tree) 0 n) (drop n before) 0 i (omega (arith, below, length-bytes_from (page_in old.reads key tree) 0 n))
    ∙ get_or-bytes_from-zero (page_in old.reads key tree) n i below in
    let first : i / 4096 ≡ 0 = omega arith in
    let place : i % 4096 ≡ i = omega arith in
    sym (here ∙ ap (λ (k : ℕ). byte_in (page_in old.reads key tree k) (i % 4096)) first ∙ ap (λ (o : Option (List ℕ)). byte_in o (i % 4096)) stands ∙ ap (λ (j : ℕ). get_or page j 0) place)) in
    stands ∙ ap (λ (l : List ℕ). Some l) same

-- the page of block 0, of which these are the first bytes
pub first_read : (key : List ℕ) (tree : Loaded) (a b : FileState) (whole attributes : List ℕ) (count : ℕ) → count ≤ 4096 → AreReadBytes key tree a b 0 whole 4096 → attributes ≡ take count whole
    → IsFirstRead key tree a b attributes count
first_read key tree a b whole attributes count few read is = record {
  page = read.pages 0;
  read = read.read 0 refl;
  are = λ i lt.
      let first : (0 + i) / 4096 ≡ 0 = omega (arith, lt, few) in
      let place : (0 + i) % 4096 ≡ i = omega (arith, lt, few) in
      ap (λ (l : List ℕ). get_or l i 0) is ∙ get_or-take count whole i 0 lt ∙ read.are i (omega (arith, lt, few)) ∙ (λ j. get_or (read.pages (first j)) (place j) 0);
}

-- and these bytes were read themselves
met_whole : (count k : ℕ) → count ≤ 4096 → meets 0 (0 + count) k ≡ true → meets 0 (0 + 4096) k ≡ true
met_whole count k few met = grind (arith, few, met)

pub bytes_front : (key : List ℕ) (tree : Loaded) (a b : FileState) (whole attributes : List ℕ) (count : ℕ) → count ≤ 4096 → AreReadBytes key tree a b 0 whole 4096 → attributes ≡ take count whole
    → AreReadBytes key tree a b 0 attributes count
bytes_front key tree a b whole attributes count few read is = record {
  pages = read.pages;
  read = λ k met. read.read k (met_whole count k few met);
  are = λ i lt. ap (λ (l : List ℕ). get_or l i 0) is ∙ get_or-take count whole i 0 lt ∙ read.are i (omega (arith, lt, few));
}

pub first_then : (key : List ℕ) (tree : Loaded) (a b c : FileState) (attributes : List ℕ) (count : ℕ) → Rests a b → GoesOn b c → IsFirstRead key tree b c attributes count → IsFirstRead key tree a c attributes count
first_then key tree a b c attributes count rests goes first = record {
  page = first.page;
  read = page_then key tree a b c 0 first.page rests goes first.read;
  are = first.are;
}

-- bytes that were read after calls that change nothing
pub bytes_then : (key : List ℕ) (tree : Loaded) (a b c : FileState) (at : ℕ) (bytes : List ℕ) (count : ℕ) → Rests a b → GoesOn b c → AreReadBytes key tree b c at bytes count → AreReadBytes key tree a c at bytes count
bytes_then key tree a b c at bytes count rests goes read = record {
  pages = read.pages;
  read = λ k met. page_then key tree a b c k (read.pages k) rests goes (read.read k met);
  are = read.are;
}
