-- Names of objects, and their order.
use Rattle.std.specs.Prelude.{Bool, ◌&&◌, nat_eq}
use Rattle.std.specs.declared.cmp.Ordering.{Ordering}
use Rattle.std.specs.Ordering.{on, then_cmp}
use Rattle.std.specs.Cmp.Lexicographic.{pointwise}
use Rattle.tee_types.specs.Identifier.{bytes_cmp}
use Rattle.store_model.specs.declared.name.ObjectName.{ObjectName}

-- by the bytes of the application, then by those of the identifier
abbrev pub name_cmp : ObjectName → ObjectName → Ordering
name_cmp = then_cmp (on (λ n. n.app) bytes_cmp) (on (λ n. n.id) bytes_cmp)

abbrev pub name_eq : ObjectName → ObjectName → Bool
name_eq a b = pointwise nat_eq a.app b.app && pointwise nat_eq a.id b.id
