-- A computed tag: 16 bytes, or none where it was taken out.
use Rattle.std.specs.Prelude.{◌≡◌, ℕ, List, [], ◌∷◌, length, Option, None, Some, unwrap_or, refl}

abbrev pub IsTag : Option (List ℕ) → Type 0
IsTag None = Unit {0}
IsTag (Some tag) = length tag ≡ 16

-- its bytes
abbrev pub tag_bytes : Option (List ℕ) → List ℕ
tag_bytes tag = unwrap_or tag []

-- the tag of these bytes
abbrev pub tag_of_bytes : List ℕ → Option (List ℕ)
tag_of_bytes [] = None
tag_of_bytes (byte ∷ bytes) = Some (byte ∷ bytes)

pub tag_of_bytes-tag_bytes : (tag : Option (List ℕ)) → IsTag tag → tag_of_bytes (tag_bytes tag) ≡ tag
tag_of_bytes-tag_bytes None is = refl
tag_of_bytes-tag_bytes (Some []) is = absurd (cc (is))
tag_of_bytes-tag_bytes (Some (byte ∷ bytes)) is = refl
