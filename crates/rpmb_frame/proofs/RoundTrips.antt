-- A frame and its bytes give each other back.
use Rattle.std.proofs.Common.{◌≡◌, ℕ, ◌+◌, ◌^◌, ◌<◌, ◌≤◌, List, [], ◌++◌, length, drop, get_or, refl, sym, ap, ◌∙◌, arith}
use Rattle.std.specs.Int.{w16, w32, from_be_bytes, to_be_bytes}
use Rattle.std.proofs.lemmas.List.{append-nil, drop_all}
use Rattle.std.proofs.lemmas.Nat.{be_bytes_2, be_bytes_4, from_be_bytes-to_be_bytes_2, from_be_bytes-to_be_bytes_4}
use Rattle.rpmb_frame.specs.declared.frame.Frame.{Frame}
use Rattle.byte_fields.specs.Field.{field}
use Rattle.byte_fields.proofs.Fields.{field-append-drop, field_byte, field_here, length-field, rest_after}
use Rattle.rpmb_frame.specs.Layout.{HasWidths, frame_bytes, frame_of}

-- the bytes of a frame, parsed
pub frame_of-frame_bytes : (f : Frame) → HasWidths f → frame_of (frame_bytes f) ≡ f
unfolding frame_of frame_bytes
frame_of-frame_bytes f widths =
    let b : List ℕ = frame_bytes f in
    let at_mac = rest_after b f.stuff _ 0 196 196 refl widths.0 refl in
    let at_block = rest_after b f.key_or_mac _ 196 32 228 at_mac widths.1 refl in
    let at_nonce = rest_after b f.block _ 228 256 484 at_block widths.2 refl in
    let at_counter = rest_after b f.nonce _ 484 16 500 at_nonce widths.3 refl in
    let at_address = rest_after b (to_be_bytes w32 f.counter) _ 500 4 504 at_counter refl refl in
    let at_count = rest_after b (to_be_bytes w16 f.address) _ 504 2 506 at_address refl refl in
    let at_result = rest_after b (to_be_bytes w16 f.count) _ 506 2 508 at_count refl refl in
    let at_kind = rest_after b (to_be_bytes w16 f.result) _ 508 2 510 at_result refl refl in
    let last = at_kind ∙ sym (append-nil (to_be_bytes w16 f.kind)) in
    let number = λ (n x : ℕ) (rest : List ℕ) (at : drop n b ≡ to_be_bytes w16 x ++ rest) (lt : x < 2 ^ 16).
    ap (from_be_bytes w16) (field_here b (to_be_bytes w16 x) rest n 2 at refl) ∙ from_be_bytes-to_be_bytes_2 x lt in
    λ i. record {
      stuff = field_here b f.stuff _ 0 196 refl widths.0 i;
      key_or_mac = field_here b f.key_or_mac _ 196 32 at_mac widths.1 i;
      block = field_here b f.block _ 228 256 at_block widths.2 i;
      nonce = field_here b f.nonce _ 484 16 at_nonce widths.3 i;
      counter = (ap (from_be_bytes w32) (field_here b (to_be_bytes w32 f.counter) _ 500 4 at_counter refl) ∙ from_be_bytes-to_be_bytes_4 f.counter widths.4) i;
      address = number 504 f.address _ at_address widths.5 i;
      count = number 506 f.count _ at_count widths.6 i;
      result = number 508 f.result _ at_result widths.7 i;
      kind = number 510 f.kind [] last widths.8 i;
    }

-- the fields of a frame, written
pub frame_bytes-frame_of : (bytes : List ℕ) → length bytes ≡ 512 → ((i : ℕ) → get_or bytes i 0 < 256) → frame_bytes (frame_of bytes) ≡ bytes
unfolding frame_of frame_bytes
frame_bytes-frame_of bytes len low =
    let two = λ (n : ℕ) (fits : n + 2 ≤ length bytes).
    be_bytes_2 (field n 2 bytes) _ (length-field bytes n 2 fits) (field_byte bytes n 2 fits low) refl in
    let four = be_bytes_4 (field 500 4 bytes) _ (length-field bytes 500 4 (omega arith)) (field_byte bytes 500 4 (omega arith) low) refl in
    let none : drop 512 bytes ≡ [] = drop_all 512 bytes (omega arith) in
    let last : to_be_bytes w16 (from_be_bytes w16 (field 510 2 bytes)) ≡ drop 510 bytes =
    two 510 (omega arith) ∙ sym (append-nil (field 510 2 bytes)) ∙ ap (λ z. field 510 2 bytes ++ z) (sym none) ∙ field-append-drop bytes 510 2 512 refl in
    let at_result : to_be_bytes w16 (from_be_bytes w16 (field 508 2 bytes)) ++ to_be_bytes w16 (from_be_bytes w16 (field 510 2 bytes)) ≡ drop 508 bytes =
    (λ i. two 508 (omega arith) i ++ last i) ∙ field-append-drop bytes 508 2 510 refl in
    let at_count = (λ i. two 506 (omega arith) i ++ at_result i) ∙ field-append-drop bytes 506 2 508 refl in
    let at_address = (λ i. two 504 (omega arith) i ++ at_count i) ∙ field-append-drop bytes 504 2 506 refl in
    let at_counter = (λ i. four i ++ at_address i) ∙ field-append-drop bytes 500 4 504 refl in
    let at_nonce = ap (λ z. field 484 16 bytes ++ z) at_counter ∙ field-append-drop bytes 484 16 500 refl in
    let at_block = ap (λ z. field 228 256 bytes ++ z) at_nonce ∙ field-append-drop bytes 228 256 484 refl in
    let at_mac = ap (λ z. field 196 32 bytes ++ z) at_block ∙ field-append-drop bytes 196 32 228 refl in
    ap (λ z. field 0 196 bytes ++ z) at_mac ∙ field-append-drop bytes 0 196 196 refl
