-- A node and its bytes, and a head and its bytes, give each other back.
use Rattle.std.proofs.Common.{◌≡◌, ℕ, ◌+◌, ◌^◌, ◌<◌, ◌≤◌, List, [], ◌∷◌, ◌++◌, length, drop, get_or, Bool, true, false, ◌&&◌, ◌==◌, refl, sym, ap, ◌∙◌, arith}
use Rattle.std.specs.Int.{w16, w32, w64, from_be_bytes, to_be_bytes}
use Rattle.std.proofs.lemmas.Bool.{eqb-true, and_parts}
use Rattle.std.proofs.lemmas.List.{append-nil, drop_all}
use Rattle.std.proofs.lemmas.Nat.{be_bytes_2, be_bytes_4, be_bytes_8, from_be_bytes-to_be_bytes_2, from_be_bytes-to_be_bytes_4, from_be_bytes-to_be_bytes_8}
use Rattle.node_image.specs.declared.node.NodeImage.{NodeImage}
use Rattle.node_image.specs.declared.head.Head.{Head}
use Rattle.byte_fields.specs.Field.{field}
use Rattle.node_image.specs.Layout.{HasWidths, has_form, head_bytes, head_of, is_sized, node_bytes, node_of}
use Rattle.byte_fields.proofs.Fields.{field-append-drop, field_byte, field_here, length-field, rest_after}

-- the bytes of a node, read
pub node_of-node_bytes : (n : NodeImage) → HasWidths n → node_of (node_bytes n) ≡ n
unfolding node_of node_bytes
node_of-node_bytes n widths =
    let b : List ℕ = node_bytes n in
    let at_iv = rest_after b n.hash _ 0 32 32 refl widths.0 refl in
    let at_tag = rest_after b n.iv _ 32 16 48 at_iv widths.1 refl in
    let at_flags = rest_after b n.tag _ 48 16 64 at_tag widths.2 refl ∙ sym (append-nil (to_be_bytes w16 n.flags)) in
    λ i. record {
      hash = field_here b n.hash _ 0 32 refl widths.0 i;
      iv = field_here b n.iv _ 32 16 at_iv widths.1 i;
      tag = field_here b n.tag _ 48 16 at_tag widths.2 i;
      flags = (ap (from_be_bytes w16) (field_here b (to_be_bytes w16 n.flags) [] 64 2 at_flags refl) ∙ from_be_bytes-to_be_bytes_2 n.flags widths.3) i;
    }

-- the node that bytes hold, written
pub node_bytes-node_of : (bytes : List ℕ) → length bytes ≡ 66 → ((i : ℕ) → get_or bytes i 0 < 256) → node_bytes (node_of bytes) ≡ bytes
unfolding node_of node_bytes
node_bytes-node_of bytes len low =
    let none : drop 66 bytes ≡ [] = drop_all 66 bytes (omega arith) in
    let last : to_be_bytes w16 (from_be_bytes w16 (field 64 2 bytes)) ≡ drop 64 bytes =
    be_bytes_2 (field 64 2 bytes) _ (length-field bytes 64 2 (omega arith)) (field_byte bytes 64 2 (omega arith) low) refl
    ∙ sym (append-nil (field 64 2 bytes)) ∙ ap (λ z. field 64 2 bytes ++ z) (sym none) ∙ field-append-drop bytes 64 2 66 refl in
    let at_tag = ap (λ z. field 48 16 bytes ++ z) last ∙ field-append-drop bytes 48 16 64 refl in
    let at_iv = ap (λ z. field 32 16 bytes ++ z) at_tag ∙ field-append-drop bytes 32 16 48 refl in
    ap (λ z. field 0 32 bytes ++ z) at_iv ∙ field-append-drop bytes 0 32 32 refl

-- the bytes of a head, read
pub head_of-head_bytes : (h : Head) → length h.wrapped ≡ 16 → h.length < 2 ^ 64 → h.greatest < 2 ^ 32 → head_of (head_bytes h) ≡ h
unfolding head_of head_bytes
head_of-head_bytes h wide long many =
    let b : List ℕ = head_bytes h in
    let at_length = rest_after b h.wrapped _ 0 16 16 refl wide refl in
    let at_greatest = rest_after b (to_be_bytes w64 h.length) _ 16 8 24 at_length refl refl in
    λ i. record {
      wrapped = field_here b h.wrapped _ 0 16 refl wide i;
      length = (ap (from_be_bytes w64) (field_here b (to_be_bytes w64 h.length) _ 16 8 at_length refl) ∙ from_be_bytes-to_be_bytes_8 h.length long) i;
      greatest = (ap (from_be_bytes w32) (field_here b (to_be_bytes w32 h.greatest) _ 24 4 at_greatest refl) ∙ from_be_bytes-to_be_bytes_4 h.greatest many) i;
    }

-- they have the form of a head where the numbers fit each other
pub has_form-head_bytes : (h : Head) → length h.wrapped ≡ 16 → h.length < 2 ^ 64 → h.greatest < 2 ^ 32 → has_form (head_bytes h) ≡ is_sized h
unfolding has_form head_bytes
has_form-head_bytes h wide long many =
    let b : List ℕ = head_bytes h in
    let zeros : List ℕ = 0 ∷ 0 ∷ 0 ∷ 0 ∷ [] in
    let at_length = rest_after b h.wrapped _ 0 16 16 refl wide refl in
    let at_greatest = rest_after b (to_be_bytes w64 h.length) _ 16 8 24 at_length refl refl in
    let at_spare = rest_after b (to_be_bytes w32 h.greatest) zeros 24 4 28 at_greatest refl refl ∙ sym (append-nil zeros) in
    let spare : field 28 4 b ≡ zeros = field_here b zeros [] 28 4 at_spare refl in
    (λ i. is_sized (head_of-head_bytes h wide long many i) && (from_be_bytes w32 (spare i) == 0)) ∙ and_true (is_sized h)
  where
    and_true : (b : Bool) → (b && true) ≡ b
    and_true true = refl
    and_true false = refl

-- the head that bytes of its form hold, written
pub head_bytes-head_of : (bytes : List ℕ) → length bytes ≡ 32 → ((i : ℕ) → get_or bytes i 0 < 256) → has_form bytes ≡ true → head_bytes (head_of bytes) ≡ bytes
unfolding head_of head_bytes has_form
head_bytes-head_of bytes len low form =
    let at_16 : 16 + 8 ≤ length bytes = omega arith in
    let at_24 : 24 + 4 ≤ length bytes = omega arith in
    let at_28 : 28 + 4 ≤ length bytes = omega arith in
    let none : drop 32 bytes ≡ [] = drop_all 32 bytes (omega arith) in
    let zero_spare : from_be_bytes w32 (field 28 4 bytes) ≡ 0 = eqb-true _ 0 (and_parts _ _ form).1 in
    let four = λ (n : ℕ) (fits : n + 4 ≤ length bytes). be_bytes_4 (field n 4 bytes) _ (length-field bytes n 4 fits) (field_byte bytes n 4 fits low) refl in
    let last : 0 ∷ 0 ∷ 0 ∷ 0 ∷ [] ≡ drop 28 bytes =
    ap (to_be_bytes w32) (sym zero_spare) ∙ four 28 at_28
    ∙ sym (append-nil (field 28 4 bytes)) ∙ ap (λ z. field 28 4 bytes ++ z) (sym none) ∙ field-append-drop bytes 28 4 32 refl in
    let at_greatest = (λ i. four 24 at_24 i ++ last i) ∙ field-append-drop bytes 24 4 28 refl in
    let eight = be_bytes_8 (field 16 8 bytes) _ (length-field bytes 16 8 at_16) (field_byte bytes 16 8 at_16 low) refl in
    let at_length = (λ i. eight i ++ at_greatest i) ∙ field-append-drop bytes 16 8 24 refl in
    ap (λ z. field 0 16 bytes ++ z) at_length ∙ field-append-drop bytes 0 16 16 refl
