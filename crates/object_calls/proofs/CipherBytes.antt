-- What is deciphered of bytes is bytes.
use Rattle.std.proofs.Common.{◌≡◌, ◌+◌, ◌/◌, ◌%◌, ◌<◌, ◌≤◌, ◌==◌, ℕ, zero, suc, Bool, true, false, List, [], ◌∷◌, ◌++◌, length, map, take, Some, slice_index, bit_xor, inl, inr, sym, subst, arith}
use Rattle.std.specs.Int.{byte_at, bytes_high_first}
use Rattle.std.specs.List.{range_with_len}
use Rattle.std.proofs.lemmas.Bool.{cases_lt}
use Rattle.std.proofs.lemmas.List.{get_or_past}
use Rattle.std.proofs.lemmas.List.FromFn.{get_or-map-range_with_len, length-map-range_with_len}
use Rattle.std.proofs.lemmas.Nat.{xor_of_8}
use Rattle.sha2.specs.Sha256.{digest_bytes, final_hash, initial_hash_256, sha256}
use Rattle.aes_block.specs.Cipher.{cipher}
use Rattle.aes_block.specs.Field.{field_times, inverse, inverse_below}
use Rattle.aes_block.specs.InverseCipher.{inv_cipher, inv_rounds, inv_shift_rows, inv_sub_bytes}
use Rattle.aes_block.specs.KeySchedule.{round_key}
use Rattle.aes_block.specs.SBox.{inv_s_box}
use Rattle.aes_block.specs.State.{IsBytes, cell}
use Rattle.aes_block.specs.WrappedKey.{unwrapped_of}
use Rattle.aes_block.proofs.StaysBytes.{added_bytes, cipher_bytes, round_key_bytes, state_bytes}
use Rattle.gcm_mode.specs.CounterMode.{counter_block, gctr, stream_byte}
use Rattle.gcm_mode.specs.Gcm.{gcm_text}
use Rattle.node_image.specs.declared.node.NodeImage.{NodeImage}
use Rattle.node_image.specs.declared.head.Head.{Head}
use Rattle.hmac_keys.specs.Hmac.{hmac}
use Rattle.htree_file.proofs.PageLaws.{page_block}
use Rattle.htree_file.specs.Pages.{page_of}

-- LISTS OF BYTES
no_bytes : IsBytes []
no_bytes k = omega arith

pub bytes-append : (xs ys : List ℕ) → IsBytes xs → IsBytes ys → IsBytes (xs ++ ys)
bytes-append [] ys left right k = right k
bytes-append (x ∷ xs) ys left right zero = left 0
bytes-append (x ∷ xs) ys left right (suc k) = bytes-append xs ys (λ j. left (suc j)) right k

pub bytes-take : (n : ℕ) (xs : List ℕ) → IsBytes xs → IsBytes (take n xs)
bytes-take zero xs each k = omega arith
bytes-take (suc n) [] each k = omega arith
bytes-take (suc n) (x ∷ xs) each zero = each 0
bytes-take (suc n) (x ∷ xs) each (suc k) = bytes-take n xs (λ j. each (suc j)) k

-- made by a function that gives bytes
pub bytes-mapped : (f : ℕ → ℕ) (a n : ℕ) → ((k : ℕ) → f k < 256) → IsBytes (map f (range_with_len a n))
bytes-mapped f a n each k = elim (cases_lt k n) [
  | inl within ↦ subst (λ (x : ℕ). x < 256) (sym (get_or-map-range_with_len f a n k (a + k) 0 within (omega arith))) (each (a + k))
  | inr past ↦
      subst (λ (x : ℕ). x < 256) (sym (get_or_past (map f (range_with_len a n)) k 0 (omega (arith, length-map-range_with_len f a n, past)))) (omega arith)
]

-- KEYS
byte_small : (i n : ℕ) → byte_at i n < 256
byte_small zero n = omega arith
byte_small (suc i) n = omega arith

number_bytes : (k n : ℕ) → IsBytes (bytes_high_first k n)
number_bytes zero n j = omega arith
number_bytes (suc k) n zero = byte_small k n
number_bytes (suc k) n (suc j) = number_bytes k n j

digest_is : (h : List ℕ) (n : ℕ) → IsBytes (digest_bytes h n)
unfolding digest_bytes
digest_is h zero = no_bytes
digest_is h (suc n) = bytes-append (digest_bytes h n) (bytes_high_first 4 (slice_index h n)) (digest_is h n) (number_bytes 4 (slice_index h n))

sha_bytes : (message : List ℕ) → IsBytes (sha256 message)
unfolding sha256
sha_bytes message = digest_is (final_hash initial_hash_256 message) 8

pub hmac_bytes : (key text : List ℕ) → IsBytes (hmac key text)
unfolding hmac
hmac_bytes key text = sha_bytes _

inverse_lt : (b n : ℕ) → n ≤ 256 → inverse_below b n < 256
unfolding inverse_below
inverse_lt b zero few = omega arith
inverse_lt b (suc n) few = elim (field_times b n == 1) as (λ (t : Bool). elim t as (λ _. ℕ) [ true ↦ n | false ↦ inverse_below b n ] < 256) [
  | true ↦ omega (arith, few)
  | false ↦ inverse_lt b n (omega (arith, few))
]

inv_s_box_lt : (b : ℕ) → inv_s_box b < 256
unfolding inv_s_box inverse
inv_s_box_lt b = inverse_lt _ 256 (omega arith)

pub inv_cipher_bytes : (key block : List ℕ) → IsBytes key → IsBytes (inv_cipher key block)
unfolding inv_cipher inv_sub_bytes
inv_cipher_bytes key block keyed =
    let s : List ℕ = inv_shift_rows (inv_rounds key block 9) in
    added_bytes (inv_sub_bytes s) (round_key key 0) (state_bytes (λ r c. inv_s_box (cell s r c)) (λ r c. inv_s_box_lt (cell s r c))) (round_key_bytes key 0 keyed)

-- the key of a file
pub unwrapped_bytes : (tsk wrapped : List ℕ) → IsBytes tsk → IsBytes (unwrapped_of tsk wrapped)
unwrapped_bytes tsk wrapped is = inv_cipher_bytes (take 16 tsk) wrapped (bytes-take 16 tsk is)

-- PAGES
gctr_bytes : (key first text : List ℕ) → IsBytes key → IsBytes text → IsBytes (gctr (cipher key) first text)
unfolding gctr
gctr_bytes key first text keyed each =
    bytes-mapped (λ k. bit_xor (slice_index text k) (stream_byte (cipher key) first k)) 0 (length text)
    (λ k. xor_of_8 (slice_index text k) (stream_byte (cipher key) first k) (each k) (cipher_bytes key (counter_block first (k / 16)) keyed (k % 16)))

text_bytes : (key iv text : List ℕ) → IsBytes key → IsBytes text → IsBytes (gcm_text (cipher key) iv text)
unfolding gcm_text
text_bytes key iv text keyed each = gctr_bytes key _ text keyed each

-- a page that a ciphertext of bytes deciphers to
pub page_bytes : (key : List ℕ) (head : Head) (node : NodeImage) (k : ℕ) (ciphertext page : List ℕ) → IsBytes key → IsBytes ciphertext
    → page_of key head node k ciphertext ≡ Some page → IsBytes page
page_bytes key head node k ciphertext page keyed each is =
    subst IsBytes (page_block key head node k ciphertext page is).1 (text_bytes key node.iv ciphertext keyed each)
