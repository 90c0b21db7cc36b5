-- The forms of the words that a question is asked by.
use Rattle.std.specs.Prelude.{ℕ, ◌^◌, ◌&&◌, not, ◌==◌, ◌||◌, nat_le, nat_lt, Bool, true, List, [], ◌∷◌, codes, decimal, length, bytes_eq, is_ok}
use Rattle.std.specs.Str.Parse.{digits_value}
use Rattle.node_image.specs.Layout.{greatest_of}
use Rattle.hex.specs.Hex.{decode_of, decode_sized}

-- so many bytes in hex
unfoldable pub is_array : ℕ → List ℕ → Bool
is_array count word = is_ok (decode_sized word count)

-- so many bytes in hex, each of the words
abbrev pub are_arrays : ℕ → List (List ℕ) → Bool
are_arrays count [] = true
are_arrays count (word ∷ words) = is_array count word && are_arrays count words

-- `-`, or in hex one byte or more, at most 2^24
unfoldable pub is_argument : List ℕ → Bool
is_argument word =
    bytes_eq word (codes "-") || (nat_le 1 (length word) && nat_le (length word) (2 ^ 25) && is_ok (decode_of word))

-- the number that a word writes in decimal
abbrev pub number_in : List ℕ → ℕ
number_in word = digits_value 10 word

-- a number below 2^64 in decimal, without a sign or a leading zero
unfoldable pub is_number : List ℕ → Bool
is_number word = nat_lt (number_in word) (2 ^ 64) && bytes_eq word (decimal (number_in word))

-- a card's counter
unfoldable pub is_counter : List ℕ → Bool
is_counter word = is_number word && nat_lt (number_in word) (2 ^ 32)

-- one of the two versions
unfoldable pub is_version : List ℕ → Bool
is_version word = is_number word && nat_lt (number_in word) 2

-- one of the two formats
unfoldable pub is_format : List ℕ → Bool
is_format word = is_number word && nat_le 1 (number_in word) && nat_le (number_in word) 2

-- an initialization vector, which is not empty
unfoldable pub is_iv : List ℕ → Bool
is_iv word = is_argument word && not (bytes_eq word (codes "-"))

-- the four words of parts
unfoldable pub are_parts : (key iv aad text : List ℕ) → Bool
are_parts key iv aad text = is_array 16 key && is_iv iv && is_argument aad && is_argument text

-- the five words of a tree's image
unfoldable pub is_tree_image : (tsk hash version format image : List ℕ) → Bool
is_tree_image tsk hash version format image =
    is_array 32 tsk && is_array 32 hash && is_version version && is_format format && is_argument image

-- the three words of an object's image
unfoldable pub is_object_image : (tsk entry image : List ℕ) → Bool
is_object_image tsk entry image = is_array 32 tsk && is_array 128 entry && is_argument image

-- a length of at most 2^20, and the pages that a tree of so many bytes needs
unfoldable pub has_its_pages : List ℕ → List (List ℕ) → Bool
has_its_pages bytes pages =
    is_number bytes && nat_le (number_in bytes) (2 ^ 20) && length pages == greatest_of (number_in bytes) && are_arrays 4096 pages
