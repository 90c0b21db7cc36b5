-- What an application has in the store: how many objects, and how many bytes of data.
use Rattle.std.specs.Prelude.{ℕ, List, length, filter, sum_by}
use Rattle.store_model.specs.Object.{ObjectMap, size_of}
use Rattle.store_model.specs.Enumerating.{is_of}
use Rattle.app_totals.specs.declared.numbers.Totals.{Totals}

-- the objects of that application
abbrev pub objects_of : List ℕ → ObjectMap → ObjectMap
objects_of app objects = filter (is_of app) objects

-- the bytes of data of all objects of a map
abbrev pub data_bytes : ObjectMap → ℕ
data_bytes objects = sum_by (λ entry. size_of entry.1) objects

-- how many objects of the map are the application's, and how many bytes of data these have
abbrev pub totals_of : List ℕ → ObjectMap → Totals
totals_of app objects = record { objects = length (objects_of app objects); bytes = data_bytes (objects_of app objects) }
