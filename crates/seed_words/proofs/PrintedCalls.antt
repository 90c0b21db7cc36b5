-- Calls as they are printed: their words are read back as them.
use Rattle.std.proofs.Common.{◌≡◌, ◌≤◌, ℕ, List, [], ◌∷◌, length, Some, pos, refl, append_assoc, arith}
use Rattle.std.specs.Prelude.{codes, decimal}
use Rattle.std.specs.List.{join_with_byte}
use Rattle.hex.specs.Hex.{IsBytes, encode_lower}
use Rattle.tee_types.specs.declared.call.Call.{Call}
use Rattle.tee_types.specs.declared.call.Call.TheVariants.{Create, Seek, Write, Rename, Read, Delete, Close}
use Rattle.tee_types.specs.declared.call.Whence.TheVariants.{Set}
use Rattle.script_text.specs.Words.{bytes_of, flags_of, letter_flags_of, whence_of}
use Rattle.script_text.specs.Calls.{call_words, create_words, one_number, rename_words, seek_words, two_numbers, verb_of, write_words}
use Rattle.script_text.specs.Forms.{call_text, flags_text}
use Rattle.seed_words.proofs.PrintedWords.{AreWords, IsWord}
use Rattle.seed_words.proofs.PrintedValues.{IsWord-decimal, IsWord-encode_lower, bytes_of-encode_lower, id_of-encode_lower, number_of-decimal, offset_of-decimal}
use Rattle.seed_words.specs.Rounds.{all_rights}

-- A call is printed as some words, which are read back as it.
pub record ReadsBack (call : Call) : Type 0 where
  pub verb : List ℕ
  pub words : List (List ℕ)
  pub text : call_text call ≡ join_with_byte 32 (verb ∷ words)
  pub is_word : IsWord verb
  pub are_words : AreWords words
  pub means : call_words (verb ∷ words) ≡ Some call

is_number : (n : ℕ) → n ≤ 4294967295 → IsWord (decimal n)
is_number n le = IsWord-decimal n (omega arith)

-- READ, WRITE, WRITE_META and OVERWRITE as letters
flags_of-all : flags_of (flags_text all_rights) ≡ Some all_rights
unfolding flags_of letter_flags_of flags_text
flags_of-all = refl

IsWord-flags : IsWord (flags_text all_rights)
unfolding flags_text
IsWord-flags = record { some = refl; ink = refl }

-- no bytes
bytes_of-none : bytes_of (codes "-") ≡ Some []
unfolding bytes_of
bytes_of-none = refl

pub create_back : (i byte : ℕ) (id bytes : List ℕ) → IsBytes (i ∷ id) → length (i ∷ id) ≤ 64 → IsBytes (byte ∷ bytes) → ReadsBack (Create (i ∷ id) all_rights [] (byte ∷ bytes))
unfolding call_text call_words create_words verb_of
create_back i byte id bytes named short are = record {
  verb = codes "create";
  words = encode_lower (i ∷ id) ∷ flags_text all_rights ∷ codes "-" ∷ encode_lower (byte ∷ bytes) ∷ [];
  text = simp append_assoc;
  is_word = record { some = refl; ink = refl };
  are_words = (IsWord-encode_lower i id named, (IsWord-flags, (record { some = refl; ink = refl }, (IsWord-encode_lower byte bytes are, tt))));
  means =
      let some : 1 ≤ length (i ∷ id) = omega arith in
      rw (id_of-encode_lower (i ∷ id) named some short, flags_of-all, bytes_of-none, bytes_of-encode_lower byte bytes are);
}

pub seek_back : (handle offset : ℕ) → handle ≤ 4294967295 → offset ≤ 9223372036854775807 → ReadsBack (Seek handle (pos offset) Set)
unfolding call_text call_words seek_words verb_of whence_of
seek_back handle offset h o = record {
  verb = codes "seek";
  words = decimal handle ∷ decimal offset ∷ codes "set" ∷ [];
  text = simp append_assoc;
  is_word = record { some = refl; ink = refl };
  are_words = (is_number handle h, (IsWord-decimal offset (omega arith), (record { some = refl; ink = refl }, tt)));
  means = rw (number_of-decimal handle h, offset_of-decimal offset o);
}

pub write_back : (handle byte : ℕ) (bytes : List ℕ) → handle ≤ 4294967295 → IsBytes (byte ∷ bytes) → ReadsBack (Write handle (byte ∷ bytes))
unfolding call_text call_words write_words verb_of
write_back handle byte bytes h are = record {
  verb = codes "write";
  words = decimal handle ∷ encode_lower (byte ∷ bytes) ∷ [];
  text = simp append_assoc;
  is_word = record { some = refl; ink = refl };
  are_words = (is_number handle h, (IsWord-encode_lower byte bytes are, tt));
  means = rw (number_of-decimal handle h, bytes_of-encode_lower byte bytes are);
}

pub rename_back : (handle i : ℕ) (id : List ℕ) → handle ≤ 4294967295 → IsBytes (i ∷ id) → length (i ∷ id) ≤ 64 → ReadsBack (Rename handle (i ∷ id))
unfolding call_text call_words rename_words verb_of
rename_back handle i id h named short = record {
  verb = codes "rename";
  words = decimal handle ∷ encode_lower (i ∷ id) ∷ [];
  text = simp append_assoc;
  is_word = record { some = refl; ink = refl };
  are_words = (is_number handle h, (IsWord-encode_lower i id named, tt));
  means =
      let some : 1 ≤ length (i ∷ id) = omega arith in
      rw (number_of-decimal handle h, id_of-encode_lower (i ∷ id) named some short);
}

pub read_back : (handle size : ℕ) → handle ≤ 4294967295 → size ≤ 4294967295 → ReadsBack (Read handle size)
unfolding call_text call_words two_numbers verb_of
read_back handle size h s = record {
  verb = codes "read";
  words = decimal handle ∷ decimal size ∷ [];
  text = simp append_assoc;
  is_word = record { some = refl; ink = refl };
  are_words = (is_number handle h, (is_number size s, tt));
  means = rw (number_of-decimal handle h, number_of-decimal size s);
}

pub delete_back : (handle : ℕ) → handle ≤ 4294967295 → ReadsBack (Delete handle)
unfolding call_text call_words one_number verb_of
delete_back handle h = record {
  verb = codes "delete";
  words = decimal handle ∷ [];
  text = refl;
  is_word = record { some = refl; ink = refl };
  are_words = (is_number handle h, tt);
  means = rw (number_of-decimal handle h);
}

pub close_back : (handle : ℕ) → handle ≤ 4294967295 → ReadsBack (Close handle)
unfolding call_text call_words one_number verb_of
close_back handle h = record {
  verb = codes "close";
  words = decimal handle ∷ [];
  text = refl;
  is_word = record { some = refl; ink = refl };
  are_words = (is_number handle h, tt);
  means = rw (number_of-decimal handle h);
}
