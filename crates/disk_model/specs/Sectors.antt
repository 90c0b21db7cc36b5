-- Tests by numbers: which spans have places, and which sectors they meet.
use Rattle.std.specs.Prelude.{ℕ, ◌+◌, ◌*◌, List, Bool, ◌&&◌, nat_lt, nat_le}
use Rattle.std.specs.List.{list_any}
use Rattle.disk_model.specs.declared.span.Span.{Span}
use Rattle.disk_model.specs.Images.{sector}

-- whether the span meets the sector of this number
abbrev pub meets : Span → ℕ → Bool
meets span number = nat_lt 0 span.length && (nat_le (sector span.at) number && nat_lt (512 * number) (span.at + span.length))

-- whether the span, or one of the spans, meets the place's sector
abbrev pub spoils : Span → ℕ → Bool
spoils span place = meets span (sector place)

abbrev pub any_spoils : List Span → ℕ → Bool
any_spoils spans place = list_any (λ span. spoils span place) spans

-- whether one of the spans has a place
abbrev pub any_has_place : List Span → Bool
any_has_place spans = list_any (λ span. nat_lt 0 span.length) spans
