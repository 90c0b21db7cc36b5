-- The forms of words, and the values that they stand for.
use Rattle.std.specs.Prelude.{ℕ, ◌==◌, ◌+◌, ◌*◌, Bool, not, ◌&&◌, ◌||◌, nat_lt, nat_le, nat_eq, List, [], ◌∷◌, length, drop, if◌then◌else◌, codes, Option, Some, None, option_and_then, count_by, slice_index, ℤ, pos, neg_ℤ}
use Rattle.std.specs.List.{list_any, list_all, starts_with}
use Rattle.std.specs.Option.{option_map}
use Rattle.std.specs.Cmp.Lexicographic.{pointwise}
use Rattle.std.specs.Char.{digit_value}
use Rattle.std.specs.Map.{lookup}
use Rattle.std.specs.Result.{result_ok}
use Rattle.std.specs.Str.Parse.{digits_value, starts_with_minus, without_leading_plus}
use Rattle.hex.specs.Hex.{decode_of}
use Rattle.uuid.specs.Text.{parsed}
use Rattle.tee_types.specs.Limits.{last_file, most_objects}
use Rattle.tee_types.specs.declared.flags.Flags.{Flags}
use Rattle.tee_types.specs.Rights.{read_bit, write_bit, write_meta_bit, share_read_bit, share_write_bit, overwrite_bit}
use Rattle.tee_types.specs.declared.reply.Device.{Device}
use Rattle.tee_types.specs.declared.reply.Device.TheVariants.{Dir, File, Card}
use Rattle.tee_types.specs.declared.call.Whence.{Whence}
use Rattle.tee_types.specs.declared.call.Whence.TheVariants.{Set, Cur, End}

-- the two words are alike
abbrev pub same_word : List ℕ → List ℕ → Bool
same_word = pointwise nat_eq

abbrev pub is_digit : ℕ → Bool
is_digit byte = nat_le 48 byte && nat_le byte 57

abbrev pub is_small_letter : ℕ → Bool
is_small_letter byte = nat_le 97 byte && nat_le byte 122

-- words that are no names of applications
abbrev pub reserved_words : List (List ℕ)
reserved_words =
    codes "app" ∷ codes "serial" ∷ codes "threads" ∷ codes "phase" ∷ codes "list" ∷ codes "stop" ∷ codes "fail"
    ∷ codes "lose" ∷ codes "taint" ∷ codes "flip" ∷ codes "quota" ∷ codes "crash" ∷ codes "save" ∷ codes "restore" ∷ []

-- 1 to 16 of `a` to `z`, `0` to `9` and `_`, a letter first
abbrev pub has_name_form : List ℕ → Bool
has_name_form word =
    nat_le 1 (length word) && nat_le (length word) 16
    && list_all (λ byte. is_small_letter byte || is_digit byte || (byte == 95)) word
    && is_small_letter (slice_index word 0)

-- NAME: the form of a name, and no reserved word
unfoldable pub is_name : List ℕ → Bool
is_name word = has_name_form word && not (list_any (same_word word) reserved_words)

-- MARK: the form of a name; reserved words are marks too, but for `app`
abbrev pub is_mark : List ℕ → Bool
is_mark word = has_name_form word && not (same_word word (codes "app"))

-- the bytes of a mark
unfoldable pub mark_of : List ℕ → Option (List ℕ)
mark_of word = if is_mark word then Some word else None

-- UUID: any text form of a UUID
abbrev pub uuid_of : List ℕ → Option (List ℕ)
uuid_of = parsed

-- ID: the bytes of an identifier, 2 to 128 hex digits
unfoldable pub id_of : List ℕ → Option (List ℕ)
id_of word = if nat_le 2 (length word) && nat_le (length word) 128 then result_ok (decode_of word) else None

-- BYTES: hex digits, at least two, or `-` for no bytes
unfoldable pub bytes_of : List ℕ → Option (List ℕ)
bytes_of word =
    if same_word word (codes "-") then Some []
    else if nat_le 2 (length word) then result_ok (decode_of word)
    else None

-- BYTES, of one byte at least
unfoldable pub mask_of : List ℕ → Option (List ℕ)
mask_of word = if same_word word (codes "-") then None else bytes_of word

-- each byte is a digit in that base
abbrev pub are_digits : ℕ → List ℕ → Bool
are_digits base word = list_all (λ byte. nat_lt (digit_value byte) base) word

-- digits in that base, at least one, of a number up to the greatest; zeros may lead
unfoldable pub numeral_of : ℕ → ℕ → List ℕ → Option ℕ
numeral_of base greatest word =
    if nat_le 1 (length word) && are_digits base word && nat_le (digits_value base word) greatest
    then Some (digits_value base word)
    else None

-- N: decimal digits, of a number up to 4,294,967,295
abbrev pub number_of : List ℕ → Option ℕ
number_of word = numeral_of 10 4294967295 word

-- OBJECTS: decimal digits, of a number of objects up to 256
abbrev pub object_count_of : List ℕ → Option ℕ
object_count_of word = numeral_of 10 most_objects word

-- the number, where it is at least 1
abbrev pub if_positive : ℕ → Option ℕ
if_positive number = if nat_le 1 number then Some number else None

-- decimal digits of a number from 1 up to the greatest
unfoldable pub positive_of : ℕ → List ℕ → Option ℕ
positive_of greatest word = option_and_then if_positive (numeral_of 10 greatest word)

-- the number of a call of a device: decimal digits, of a number from 1 to 4,294,967,295
abbrev pub place_of_call : List ℕ → Option ℕ
place_of_call word = positive_of 4294967295 word

-- SEED: decimal digits, of a number up to 18,446,744,073,709,551,615
abbrev pub seed_of : List ℕ → Option ℕ
seed_of word = numeral_of 10 18446744073709551615 word

-- FILE: `dir`, or the number of an object's file, 1 to 272
unfoldable pub file_of : List ℕ → Option Device
file_of word = if same_word word (codes "dir") then Some Dir else option_map File (positive_of last_file word)

-- DEVICE: a file, or `card`
unfoldable pub device_of : List ℕ → Option Device
device_of word = if same_word word (codes "card") then Some Card else file_of word

-- OFFSET: `-`, `+` or no sign, then decimal digits, of a number up to 9,223,372,036,854,775,807
unfoldable pub offset_of : List ℕ → Option ℤ
offset_of word =
    if starts_with_minus word
    then option_map (λ n. neg_ℤ (pos n)) (numeral_of 10 9223372036854775807 (drop 1 word))
    else option_map pos (numeral_of 10 9223372036854775807 (without_leading_plus word))

abbrev pub whences : List (List ℕ × Whence)
whences = (codes "set", Set) ∷ (codes "cur", Cur) ∷ (codes "end", End) ∷ []

-- from where a seek counts
unfoldable pub whence_of : List ℕ → Option Whence
whence_of word = lookup (same_word word) whences

abbrev pub count_of : List ℕ → ℕ → ℕ
count_of word letter = count_by (λ byte. byte == letter) word

-- each letter of the word is one of r, w, m, R, W and o, and stands there once at most
abbrev pub are_flag_letters : List ℕ → Bool
are_flag_letters word =
    nat_le 1 (length word)
    && nat_le (count_of word 114) 1 && nat_le (count_of word 119) 1 && nat_le (count_of word 109) 1
    && nat_le (count_of word 82) 1 && nat_le (count_of word 87) 1 && nat_le (count_of word 111) 1
    && (count_of word 114 + count_of word 119 + count_of word 109 + count_of word 82 + count_of word 87 + count_of word 111 == length word)

-- letters of r READ, w WRITE, m WRITE_META, R SHARE_READ, W SHARE_WRITE, o OVERWRITE; or `-` for none
unfoldable pub letter_flags_of : List ℕ → Option Flags
letter_flags_of word =
    if same_word word (codes "-") then Some (record { bits = 0 })
    else if are_flag_letters word then Some (record {
      bits = count_of word 114 * read_bit + count_of word 119 * write_bit + count_of word 109 * write_meta_bit
          + count_of word 82 * share_read_bit + count_of word 87 * share_write_bit + count_of word 111 * overwrite_bit;
    })
    else None

-- the bits in 1 to 8 hex digits
unfoldable pub bits_of : List ℕ → Option Flags
bits_of digits =
    if nat_le (length digits) 8 then option_map (λ bits. record { bits = bits }) (numeral_of 16 4294967295 digits) else None

-- FLAGS: letters, or `0x` and the bits in hex
unfoldable pub flags_of : List ℕ → Option Flags
flags_of word = if starts_with nat_eq word (codes "0x") then bits_of (drop 2 word) else letter_flags_of word
