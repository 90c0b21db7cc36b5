-- What 128 bytes hold, written.
use Rattle.std.proofs.Common.{◌≡◌, ℕ, ◌+◌, ◌-◌, ◌<◌, ◌≤◌, List, [], ◌∷◌, ◌++◌, length, take, drop, get_or, replicate, true, None, refl, sym, ap, ◌∙◌, arith, length-drop}
use Rattle.std.specs.Int.{w16, w32, from_be_bytes, to_be_bytes}
use Rattle.std.proofs.lemmas.List.{drop_all, length-take-le, take-append-drop}
use Rattle.std.proofs.lemmas.Nat.{be_bytes_2, be_bytes_4}
use Rattle.byte_fields.specs.Field.{field}
use Rattle.byte_fields.proofs.Fields.{field-append-drop, field_byte, length-field}
use Rattle.tee_types.specs.Limits.{IsObjectFile, last_file}
use Rattle.tee_types.specs.Identifier.{padded}
use Rattle.dir_records.specs.Layout.{byte, id_length, entry_of, entry_bytes}
use Rattle.dir_records.specs.Form.{HasForm, IsFormat, is_free, last_format, tests, first_fault}
use Rattle.dir_records.proofs.Bytes.{byte-drop, zeros}
use Rattle.dir_records.proofs.Rows.{each_passes, upto, at_most, is_equal, is_true}

-- the tests that bytes pass
pub record Passes (b : List ℕ) : Type 0 where
  pub count : (1 ≤ id_length b) × (id_length b ≤ 64)
  pub padding : is_free (drop (id_length b) (field 16 64 b)) ≡ true
  pub version : byte 81 b ≤ 1
  pub file : IsObjectFile (from_be_bytes w16 (field 82 2 b))
  pub size : from_be_bytes w32 (field 116 4 b) ≤ 1044480
  pub attributes : from_be_bytes w16 (field 120 2 b) ≤ 2048
  pub format : IsFormat (byte 122 b)
  pub last : byte 127 b ≡ 0

-- bytes without a fault pass each test
pub passes : (b : List ℕ) → first_fault b ≡ None → Passes b
unfolding first_fault
passes b none =
    let t = each_passes (tests b) none in
    record {
      count = upto 64 (id_length b) t.0;
      padding = is_true _ t.1.0;
      version = at_most 1 (byte 81 b) t.1.1.0;
      file = upto last_file (from_be_bytes w16 (field 82 2 b)) t.1.1.1.0;
      size = at_most 1044480 (from_be_bytes w32 (field 116 4 b)) t.1.1.1.1.0;
      attributes = at_most 2048 (from_be_bytes w16 (field 120 2 b)) t.1.1.1.1.1.0;
      format = upto last_format (byte 122 b) t.1.1.1.1.1.1.0;
      last = is_equal (byte 127 b) 0 t.1.1.1.1.1.1.1.0;
    }

-- their entry has its form
pub has_form-entry_of : (b : List ℕ) → Passes b → HasForm (entry_of b)
unfolding entry_of
has_form-entry_of b p = record {
  version = omega (arith, p.version);
  file = p.file;
  size = p.size;
  attributes = p.attributes;
  format = p.format;
}

-- the identifier and the zeros behind it are the 64 bytes that hold it
padded-name : (name : List ℕ) (n : ℕ) → length name ≡ 64 → n ≤ 64 → is_free (drop n name) ≡ true → (padded (take n name) ≡ name) × (length (take n name) ≡ n)
padded-name name n whole fits free =
    let count : length (take n name) ≡ n = length-take-le n name (omega (arith, whole)) in
    let left : length (drop n name) ≡ 64 - length (take n name) = omega (arith, length-drop n name, whole, count) in
    (ap (λ k. take n name ++ replicate k 0) (sym left) ∙ ap (λ z. take n name ++ z) (sym (zeros (drop n name) free)) ∙ take-append-drop n name, count)

-- and written it is the bytes again
pub entry_bytes-entry_of : (b : List ℕ) → length b ≡ 128 → ((i : ℕ) → get_or b i 0 < 256) → Passes b → entry_bytes (entry_of b) ≡ b
unfolding entry_of entry_bytes
entry_bytes-entry_of b len low p =
    let two = λ (n : ℕ) (fits : n + 2 ≤ length b). be_bytes_2 (field n 2 b) _ (length-field b n 2 fits) (field_byte b n 2 fits low) refl in
    let four = λ (n : ℕ) (fits : n + 4 ≤ length b). be_bytes_4 (field n 4 b) _ (length-field b n 4 fits) (field_byte b n 4 fits low) refl in
    let name = padded-name (field 16 64 b) (id_length b) (length-field b 16 64 (omega (arith, len))) p.count.1 p.padding in
    let none : drop 128 b ≡ [] = drop_all 128 b (omega (arith, len)) in
    let at_last : 0 ∷ [] ≡ drop 127 b = (λ i. sym p.last i ∷ sym none i) ∙ byte-drop b 127 128 (omega (arith, len)) refl in
    let at_generation : to_be_bytes w32 (from_be_bytes w32 (field 123 4 b)) ++ 0 ∷ [] ≡ drop 123 b =
    (λ i. four 123 (omega (arith, len)) i ++ at_last i) ∙ field-append-drop b 123 4 127 refl in
    let at_format = ap (λ z. byte 122 b ∷ z) at_generation ∙ byte-drop b 122 123 (omega (arith, len)) refl in
    let at_attributes = (λ i. two 120 (omega (arith, len)) i ++ at_format i) ∙ field-append-drop b 120 2 122 refl in
    let at_size = (λ i. four 116 (omega (arith, len)) i ++ at_attributes i) ∙ field-append-drop b 116 4 120 refl in
    let at_hash = ap (λ z. field 84 32 b ++ z) at_size ∙ field-append-drop b 84 32 116 refl in
    let at_file = (λ i. two 82 (omega (arith, len)) i ++ at_hash i) ∙ field-append-drop b 82 2 84 refl in
    let at_version = ap (λ z. byte 81 b ∷ z) at_file ∙ byte-drop b 81 82 (omega (arith, len)) refl in
    let at_length = (λ i. name.1 i ∷ at_version i) ∙ byte-drop b 80 81 (omega (arith, len)) refl in
    let at_id = (λ i. name.0 i ++ at_length i) ∙ field-append-drop b 16 64 80 refl in
    ap (λ z. field 0 16 b ++ z) at_id ∙ field-append-drop b 0 16 16 refl

-- bytes without a fault hold an entry of its form, and are its bytes
pub written-entry_of : (b : List ℕ) → length b ≡ 128 → ((i : ℕ) → get_or b i 0 < 256) → first_fault b ≡ None → HasForm (entry_of b) × (entry_bytes (entry_of b) ≡ b)
written-entry_of b len low none = (has_form-entry_of b (passes b none), entry_bytes-entry_of b len low (passes b none))
