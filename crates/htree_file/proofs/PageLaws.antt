-- A block has its page by its tag.
use Rattle.std.proofs.Common.{◌≡◌, ◌≢◌, ℕ, zero, suc, List, [], ◌∷◌, length, Bool, true, false, ◌&&◌, ◌==◌, nat_lt, cond, Some, None, refl, sym, ◌∙◌, ap, arith}
use Rattle.std.proofs.lemmas.Bool.{and_parts, cond-false, cond-true, eq-eqb, eqb-true, lt-ltb, ltb-true}
use Rattle.std.specs.Cmp.Derive.{both_true}
use Rattle.std.proofs.Math.Bool.{and-false}
use Rattle.std.specs.Str.{bytes_eq}
use Rattle.aes_block.specs.Cipher.{cipher}
use Rattle.gcm_mode.specs.Gcm.{gcm_text}
use Rattle.disk_model.specs.Bytes.{AreBytes}
use Rattle.node_image.specs.declared.node.NodeImage.{NodeImage}
use Rattle.node_image.specs.declared.head.Head.{Head}
use Rattle.htree_file.specs.Opening.{HasWidth}
use Rattle.htree_file.specs.Pages.{are_bytes, is_block, page_of, tag_of}
use Rattle.htree_file.proofs.SameBytes.{same_from, same_not}

-- a list of bytes, and of so many
pub are_bytes-all : (bytes : List ℕ) → AreBytes bytes → are_bytes bytes ≡ true
are_bytes-all [] each = refl
are_bytes-all (byte ∷ bytes) each = both_true (lt-ltb byte 256 (each 0)) (are_bytes-all bytes (λ k. each (suc k)))

pub bytes-are : (bytes : List ℕ) → are_bytes bytes ≡ true → AreBytes bytes
bytes-are [] is k = omega arith
bytes-are (byte ∷ bytes) is zero = ltb-true byte 256 (and_parts (nat_lt byte 256) (are_bytes bytes) is).0
bytes-are (byte ∷ bytes) is (suc k) = bytes-are bytes (and_parts (nat_lt byte 256) (are_bytes bytes) is).1 k

pub block_is : (ciphertext : List ℕ) → length ciphertext ≡ 4096 → AreBytes ciphertext → is_block ciphertext ≡ true
block_is ciphertext long each = both_true (eq-eqb (length ciphertext) 4096 long) (are_bytes-all ciphertext each)

pub block_width : (ciphertext : List ℕ) → is_block ciphertext ≡ true → HasWidth 4096 ciphertext
block_width ciphertext is =
    let both = and_parts (length ciphertext == 4096) (are_bytes ciphertext) is in
    record { long = eqb-true (length ciphertext) 4096 both.0; bytes = bytes-are ciphertext both.1 }

module _ (key : List ℕ) (h : Head) (node : NodeImage) (k : ℕ) (ciphertext : List ℕ) where
  abbrev tagged : Bool
  tagged = bytes_eq node.tag (tag_of key h node k ciphertext)

  pub page_good : (page : List ℕ) → is_block ciphertext ≡ true → node.tag ≡ tag_of key h node k ciphertext → page ≡ gcm_text (cipher key) node.iv ciphertext → page_of key h node k ciphertext ≡ Some page
  page_good page block same text =
      cond-true (is_block ciphertext && tagged) (Some (gcm_text (cipher key) node.iv ciphertext)) None (both_true block (same_from node.tag (tag_of key h node k ciphertext) same))
      ∙ ap (λ (l : List ℕ). Some l) (sym text)

  pub page_bad : node.tag ≢ tag_of key h node k ciphertext → page_of key h node k ciphertext ≡ None
  page_bad other = cond-false (is_block ciphertext && tagged) (Some (gcm_text (cipher key) node.iv ciphertext)) None (ap (λ (b : Bool). is_block ciphertext && b) (same_not node.tag (tag_of key h node k ciphertext) other) ∙ and-false (is_block ciphertext))

  -- what a page is the deciphering of
  pub page_block : (page : List ℕ) → page_of key h node k ciphertext ≡ Some page → (is_block ciphertext ≡ true) × (gcm_text (cipher key) node.iv ciphertext ≡ page)
  page_block page is = by_test (is_block ciphertext && tagged) refl is
    where
      by_test : (b : Bool) → (is_block ciphertext && tagged) ≡ b → cond b (Some (gcm_text (cipher key) node.iv ciphertext)) None ≡ Some page → (is_block ciphertext ≡ true) × (gcm_text (cipher key) node.iv ciphertext ≡ page)
      by_test true tested found = ((and_parts (is_block ciphertext) tagged tested).0, cc (found))
      by_test false tested found = absurd (cc (found))
