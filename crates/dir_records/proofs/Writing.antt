-- The bytes of an entry, read.
use Rattle.std.proofs.Common.{◌≡◌, ℕ, ◌-◌, ◌^◌, ◌<◌, List, [], ◌∷◌, length, take, drop, replicate, Bool, true, false, not, Option, None, Some, Result, Ok, refl, ap, ◌∙◌, arith, length-append, if◌then◌else◌}
use Rattle.std.specs.Int.{w16, w32, from_be_bytes, to_be_bytes}
use Rattle.std.proofs.lemmas.List.{take_at, drop_at, length-replicate}
use Rattle.std.proofs.lemmas.Nat.{from_be_bytes-to_be_bytes_2, from_be_bytes-to_be_bytes_4}
use Rattle.byte_fields.specs.Field.{field}
use Rattle.byte_fields.proofs.Fields.{field_here, rest_after}
use Rattle.tee_types.specs.Limits.{last_file}
use Rattle.tee_types.specs.Identifier.{IsIdentifier, padded}
use Rattle.dir_records.specs.declared.entry.DirEntry.{DirEntry}
use Rattle.dir_records.specs.Layout.{byte, id_length, entry_of, entry_bytes}
use Rattle.dir_records.specs.Form.{HasForm, is_free, last_format, tests, first_fault, entry_or, record_of}
use Rattle.dir_records.proofs.Bytes.{byte_here, is_free-replicate, byte_of_zeros}
use Rattle.dir_records.proofs.Rows.{fault_of-passed, within, below, equal}

-- each field of an entry has its width
pub record HasWidths (e : DirEntry) : Type 0 where
  pub app : length e.app ≡ 16
  pub id : IsIdentifier e.id
  pub file : e.file < 2 ^ 16
  pub hash : length e.hash ≡ 32
  pub size : e.size < 2 ^ 32
  pub attributes : e.attributes < 2 ^ 16
  pub generation : e.generation < 2 ^ 32

-- What bytes give when they are read.
pub record Gives (e : DirEntry) (bytes : List ℕ) : Type 0 where
  pub entry : entry_of bytes ≡ e
  pub count : id_length bytes ≡ length e.id
  pub name : field 16 64 bytes ≡ padded e.id
  pub last : byte 127 bytes ≡ 0

length-padded : (id : List ℕ) → IsIdentifier id → length (padded id) ≡ 64
length-padded id is = simp (length-append, length-replicate) (omega (arith, is.0, is.1))

-- the bytes of an entry give it
pub gives-entry_bytes : (e : DirEntry) → HasWidths e → Gives e (entry_bytes e)
unfolding entry_of entry_bytes
gives-entry_bytes e w =
    let b : List ℕ = entry_bytes e in
    let at_id = rest_after b e.app _ 0 16 16 refl w.app refl in
    let at_length = rest_after b (padded e.id) _ 16 64 80 at_id (length-padded e.id w.id) refl in
    let at_version = rest_after b (length e.id ∷ []) _ 80 1 81 at_length refl refl in
    let at_file = rest_after b (e.version ∷ []) _ 81 1 82 at_version refl refl in
    let at_hash = rest_after b (to_be_bytes w16 e.file) _ 82 2 84 at_file refl refl in
    let at_size = rest_after b e.hash _ 84 32 116 at_hash w.hash refl in
    let at_attributes = rest_after b (to_be_bytes w32 e.size) _ 116 4 120 at_size refl refl in
    let at_format = rest_after b (to_be_bytes w16 e.attributes) _ 120 2 122 at_attributes refl refl in
    let at_generation = rest_after b (e.format ∷ []) _ 122 1 123 at_format refl refl in
    let at_last = rest_after b (to_be_bytes w32 e.generation) (0 ∷ []) 123 4 127 at_generation refl refl in
    let count : byte 80 b ≡ length e.id = byte_here b _ 80 (length e.id) at_length in
    let name : field 16 64 b ≡ padded e.id = field_here b (padded e.id) _ 16 64 at_id (length-padded e.id w.id) in
    record {
      entry = λ i. record {
        app = field_here b e.app _ 0 16 refl w.app i;
        id = ((λ j. take (count j) (name j)) ∙ take_at e.id (replicate (64 - length e.id) 0) (length e.id) refl) i;
        version = byte_here b _ 81 e.version at_version i;
        file = (ap (from_be_bytes w16) (field_here b (to_be_bytes w16 e.file) _ 82 2 at_file refl) ∙ from_be_bytes-to_be_bytes_2 e.file w.file) i;
        hash = field_here b e.hash _ 84 32 at_hash w.hash i;
        size = (ap (from_be_bytes w32) (field_here b (to_be_bytes w32 e.size) _ 116 4 at_size refl) ∙ from_be_bytes-to_be_bytes_4 e.size w.size) i;
        attributes = (ap (from_be_bytes w16) (field_here b (to_be_bytes w16 e.attributes) _ 120 2 at_attributes refl) ∙ from_be_bytes-to_be_bytes_2 e.attributes w.attributes) i;
        format = byte_here b _ 122 e.format at_format i;
        generation = (ap (from_be_bytes w32) (field_here b (to_be_bytes w32 e.generation) _ 123 4 at_generation refl) ∙ from_be_bytes-to_be_bytes_4 e.generation w.generation) i;
      };
      count = count;
      name = name;
      last = byte_here b [] 127 0 at_last;
    }

-- bytes that give an entry of its form pass each test
pub first_fault-given : (e : DirEntry) (b : List ℕ) → Gives e b → IsIdentifier e.id → HasForm e → first_fault b ≡ None
unfolding first_fault entry_of
first_fault-given e b g id form =
    let version : byte 81 b ≡ e.version = λ i. (g.entry i).version in
    let file : from_be_bytes w16 (field 82 2 b) ≡ e.file = λ i. (g.entry i).file in
    let size : from_be_bytes w32 (field 116 4 b) ≡ e.size = λ i. (g.entry i).size in
    let attributes : from_be_bytes w16 (field 120 2 b) ≡ e.attributes = λ i. (g.entry i).attributes in
    let format : byte 122 b ≡ e.format = λ i. (g.entry i).format in
    let tail : drop (id_length b) (field 16 64 b) ≡ replicate (64 - length e.id) 0 =
    (λ i. drop (g.count i) (g.name i)) ∙ drop_at e.id (replicate (64 - length e.id) 0) (length e.id) refl in
    let id_passes = within 64 (id_length b) (omega (arith, g.count, id.0)) (omega (arith, g.count, id.1)) in
    let name_passes = ap (λ z. not (is_free z)) tail ∙ ap not (is_free-replicate (64 - length e.id)) in
    let version_passes = below 1 (byte 81 b) (omega (arith, version, form.version)) in
    let file_passes = within last_file (from_be_bytes w16 (field 82 2 b)) (omega (arith, file, form.file.0)) (omega (arith, file, form.file.1)) in
    let size_passes = below 1044480 (from_be_bytes w32 (field 116 4 b)) (omega (arith, size, form.size)) in
    let attributes_pass = below 2048 (from_be_bytes w16 (field 120 2 b)) (omega (arith, attributes, form.attributes)) in
    let format_passes = within last_format (byte 122 b) (omega (arith, format, form.format.0)) (omega (arith, format, form.format.1)) in
    let last_passes = equal (byte 127 b) 0 g.last in
    fault_of-passed (tests b)
    (id_passes, (name_passes, (version_passes, (file_passes, (size_passes, (attributes_pass, (format_passes, (last_passes, tt))))))))

-- and hold that entry
pub record_of-given : (e : DirEntry) (b : List ℕ) → Gives e b → IsIdentifier e.id → HasForm e → record_of b ≡ Ok (Some e)
record_of-given e b g id form =
    if_false (is_free b) (taken (is_free b) refl) ∙ ap (λ f. entry_or f (entry_of b)) (first_fault-given e b g id form) ∙ ap (λ x. Ok (Some x)) g.entry
  where
    taken : (free : Bool) → is_free b ≡ free → free ≡ false
    taken true all = absurd (omega (arith, byte_of_zeros b 80 all, g.count, id.0))
    taken false some = refl

    if_false : (free : Bool) → free ≡ false → ◌≡◌ {A = Result (Option DirEntry) Rattle.dir_records.specs.declared.entry.BadRecord.BadRecord} (if free then Ok None else entry_or (first_fault b) (entry_of b)) (entry_or (first_fault b) (entry_of b))
    if_false true off = absurd (cc off)
    if_false false off = refl
