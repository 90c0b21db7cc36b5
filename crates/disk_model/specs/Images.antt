-- Images: what a crash may leave of a file, given its settled bytes and the spans that changed since.
use Rattle.std.specs.Prelude.{◌≡◌, ◌⊎◌, ◌↔◌, ℕ, ◌+◌, ◌/◌, ◌<◌, ◌≤◌, List, ◌++◌, length, slice_index, Bool, true, false, ◌&&◌, nat_lt, nat_le}
use Rattle.std.specs.List.{list_any}
use Rattle.disk_model.specs.declared.span.Span.{Span}

-- the list has this byte at this place
pub record Has (bytes : List ℕ) (place byte : ℕ) : Type 0 where
  pub below : place < length bytes
  pub is : slice_index bytes place ≡ byte

-- whether the place lies in the span
abbrev pub in_span : Span → ℕ → Bool
in_span span place = nat_le span.at place && nat_lt place (span.at + span.length)

-- whether the place lies in one of the spans
abbrev pub in_spans : List Span → ℕ → Bool
in_spans spans place = list_any (λ span. in_span span place) spans

-- the number of a place's sector: a sector is 512 places, of which the first is a multiple of 512
abbrev pub sector : ℕ → ℕ
sector place = place / 512

-- one of the spans meets the place's sector
abbrev pub IsSpoiled : List Span → ℕ → Type 0
IsSpoiled spans place = (other : ℕ) × (sector other ≡ sector place) × (in_spans spans other ≡ true)

-- none of them does
abbrev pub IsSpared : List Span → ℕ → Type 0
IsSpared spans place = (other : ℕ) → sector other ≡ sector place → in_spans spans other ≡ false

-- a place lies in one of the spans, or none does
abbrev pub HavePlace : List Span → Type 0
HavePlace spans = (place : ℕ) × (in_spans spans place ≡ true)

abbrev pub AreEmpty : List Span → Type 0
AreEmpty spans = (place : ℕ) → in_spans spans place ≡ false

-- A crash may leave this image. A disk writes whole sectors, and of one that it was writing any bytes may be left. So each settled
-- byte stays whose sector meets no span, and in the other sectors and past the settled end any byte may stand, or none. Spans
-- without a place leave the settled bytes.
pub record MayLeave (settled : List ℕ) (spans : List Span) (image : List ℕ) : Type 0 where
  pub stays : (place byte : ℕ) → IsSpared spans place → Has settled place byte → Has image place byte
  pub exact : AreEmpty spans → image ≡ settled

-- A law: with more spans a crash may leave what it may leave with fewer.
abbrev pub MoreSpansLeaveMore : Type 0
MoreSpansLeaveMore = (settled image : List ℕ) (spans more : List Span) → MayLeave settled spans image → MayLeave settled (spans ++ more) image

-- the place may look otherwise after a crash, where the settled bytes end at `old_end`
abbrev pub IsTouched : List Span → ℕ → ℕ → Type 0
IsTouched spans old_end place = HavePlace spans × ((old_end ≤ place) ⊎ IsSpoiled spans place)

-- two lists have the same byte at this place, or neither has one
abbrev pub SameAt : ℕ → List ℕ → List ℕ → Type 0
SameAt place a b = (byte : ℕ) → (Has a place byte ↔ Has b place byte)

-- the first list has a byte at this place that the other has not
abbrev pub DiffersAt : ℕ → List ℕ → List ℕ → Type 0
DiffersAt place a b = (byte : ℕ) × Has a place byte × (Has b place byte → ⊥)

-- each of these images has this byte at this place
abbrev pub Every : (List ℕ → Type 0) → ℕ → ℕ → Type 0
Every Images place byte = (image : List ℕ) → Images image → Has image place byte
