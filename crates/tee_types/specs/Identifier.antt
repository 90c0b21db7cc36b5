-- Identifiers of objects as lists of bytes, and how they lie in 64 bytes
-- (TEE Internal Core API, Trusted Storage: an identifier has up to TEE_OBJECT_ID_MAX_LEN = 64 bytes; the empty one is left out here).
use Rattle.std.specs.Prelude.{◌≡◌, ℕ, ◌-◌, ◌≤◌, List, ◌++◌, length, take, drop, replicate}
use Rattle.std.specs.declared.cmp.Ordering.{Ordering}
use Rattle.std.specs.Ordering.{nat_cmp}
use Rattle.std.specs.Cmp.Lexicographic.{slice_cmp}
use Rattle.tee_types.specs.Limits.{most_identifier_bytes}
use Rattle.std.proofs.Common.{sym, ap, ◌∙◌, arith, length-append, length-drop}
use Rattle.std.proofs.Math.Seq.{drop-append_seam}
use Rattle.std.proofs.lemmas.List.{take-append-drop, length-take-le, length-replicate, drop-replicate}

abbrev pub IsIdentifier : List ℕ → Type 0
IsIdentifier id = (1 ≤ length id) × (length id ≤ most_identifier_bytes)

-- by bytes, a prefix first
abbrev pub bytes_cmp : List ℕ → List ℕ → Ordering
bytes_cmp = slice_cmp nat_cmp

-- an identifier, and zero bytes up to 64
abbrev pub padded : List ℕ → List ℕ
padded id = id ++ replicate (64 - length id) 0

-- the first n of these 64 bytes are an identifier, and the others are zero
pub record IsPadded (bytes : List ℕ) (n : ℕ) : Type 0 where
  pub some : 1 ≤ n
  pub fits : n ≤ 64
  pub whole : length bytes ≡ 64
  pub padding : drop n bytes ≡ replicate (64 - n) 0

-- An identifier gives its 64 bytes back.
pub length-take_padded : (bytes : List ℕ) (n : ℕ) → IsPadded bytes n → length (take n bytes) ≡ n
length-take_padded bytes n h = length-take-le n bytes (omega (arith, h.fits, h.whole))

pub padded-take : (bytes : List ℕ) (n : ℕ) → IsPadded bytes n → padded (take n bytes) ≡ bytes
padded-take bytes n h =
    ap (λ k. take n bytes ++ replicate (64 - k) 0) (length-take_padded bytes n h)
    ∙ ap (λ zeros. take n bytes ++ zeros) (sym h.padding)
    ∙ take-append-drop n bytes

-- copied to the start of zero bytes, an identifier is followed by those that are left
length-copied : (id : List ℕ) (n : ℕ) → length id ≤ n → length (id ++ drop (length id) (replicate n 0)) ≡ n
length-copied id n h = simp (length-append, length-drop, length-replicate) (omega arith)

drop-copied : (id : List ℕ) (n : ℕ) → drop (length id) (id ++ drop (length id) (replicate n 0)) ≡ replicate (n - length id) 0
drop-copied id n = drop-append_seam id _ ∙ drop-replicate (length id) n 0

pub IsPadded-copy : (id : List ℕ) → IsIdentifier id → IsPadded (id ++ drop (length id) (replicate 64 0)) (length id)
IsPadded-copy id h = record {
  some = h.0;
  fits = h.1;
  whole = length-copied id 64 h.1;
  padding = drop-copied id 64;
}
