-- The order of the names of objects with their sizes.
use Rattle.std.specs.Prelude.{Bool, ◌&&◌, nat_eq}
use Rattle.std.specs.declared.cmp.Ordering.{Ordering}
use Rattle.std.specs.Ordering.{nat_cmp, on, then_cmp}
use Rattle.std.specs.Cmp.Lexicographic.{pointwise}
use Rattle.tee_types.specs.Identifier.{bytes_cmp}
use Rattle.card_maps.specs.declared.name.CardName.{CardName}

-- by the bytes of the application, then by those of the identifier, then by the size
abbrev pub card_name_cmp : CardName → CardName → Ordering
card_name_cmp = then_cmp (then_cmp (on (λ n. n.app) bytes_cmp) (on (λ n. n.id) bytes_cmp)) (on (λ n. n.size) nat_cmp)

abbrev pub card_name_eq : CardName → CardName → Bool
card_name_eq a b = pointwise nat_eq a.app b.app && pointwise nat_eq a.id b.id && nat_eq a.size b.size
