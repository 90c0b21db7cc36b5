-- Objects and the map of objects (TEE Internal Core API, Trusted Storage: a persistent object has an identifier,
-- attributes and a data stream; the standard's corrupt object is told part by part here).
use Rattle.std.specs.Prelude.{ℕ, ◌-◌, ◌*◌, ◌≤◌, Bool, true, false, List, [], ◌∷◌, Option, Some, None, length, is_some}
use Rattle.std.specs.Ordering.{is_eq}
use Rattle.std.specs.Map.{lookup, set_value, remove_entry}
use Rattle.std.specs.BTreeMap.{insert_entry}
use Rattle.store_model.specs.Name.{name_cmp}
use Rattle.store_model.specs.declared.name.ObjectName.{ObjectName}

-- data block k, from 1 on, holds the bytes from its start on and before its end
abbrev pub block_start : ℕ → ℕ
block_start k = 4096 * (k - 1)

abbrev pub block_end : ℕ → ℕ
block_end k = 4096 * k

-- A sound object. The bytes of a bad block stand as zero.
pub record Contents : Type 0 where
  pub attributes : List ℕ
  pub bytes : List ℕ
  -- the numbers of the bad blocks, rising
  pub bad : List ℕ

-- An object is sound, or damaged as a whole: of that one no more is known than its size.
pub data Object : Type 0 where
  Sound : Contents → Object
  Damaged : ℕ → Object

-- how many bytes of data an object has
abbrev pub size_of : Object → ℕ
size_of (Sound c) = length c.bytes
size_of (Damaged size) = size

-- its attributes and its data, none where it is damaged
abbrev pub attributes_of : Object → List ℕ
attributes_of (Sound c) = c.attributes
attributes_of (Damaged size) = []

abbrev pub bytes_of : Object → List ℕ
bytes_of (Sound c) = c.bytes
bytes_of (Damaged size) = []

-- a finite map from names to objects, as its entries in the order of the names
abbrev pub ObjectMap : Type 0
ObjectMap = List (ObjectName × Object)

-- the store has at most so many objects
abbrev pub most_objects : ℕ
most_objects = 256

-- no identifier of these objects is empty
abbrev pub AreNamed : ObjectMap → Type 0
AreNamed [] = Unit {0}
AreNamed (entry ∷ objects) = (1 ≤ length (entry.0).id) × AreNamed objects

-- the object of that name
abbrev pub object_at : ObjectMap → ObjectName → Option Object
object_at objects name = lookup (λ n. is_eq (name_cmp name n)) objects

abbrev pub holds : ObjectMap → ObjectName → Bool
holds objects name = is_some (object_at objects name)

-- the map with that object under that name, in place of the one that was there
abbrev pub with_object : ObjectMap → ObjectName → Object → ObjectMap
with_object objects name object = insert_entry name_cmp objects name object

-- the map with that object in place of the one of that name, where there is one
abbrev pub changed_object : ObjectMap → ObjectName → Object → ObjectMap
changed_object objects name object = set_value (λ n. is_eq (name_cmp name n)) objects object

-- the map without the object of that name
abbrev pub without_object : ObjectMap → ObjectName → ObjectMap
without_object objects name = remove_entry (λ n. is_eq (name_cmp name n)) objects

-- the map with the object of one name under another
abbrev pub moved_object : ObjectMap → ObjectName → ObjectName → ObjectMap
moved_object objects old new = elim (object_at objects old) [
  | Some object ↦ with_object (without_object objects old) new object
  | None ↦ objects
]

-- the size of the object of that name
abbrev pub size_at : ObjectMap → ObjectName → ℕ
size_at objects name = elim (object_at objects name) [ Some object ↦ size_of object | None ↦ 0 ]

-- the object is there, but its hashes, sizes or attributes failed
abbrev pub is_damaged : Option Object → Bool
is_damaged None = false
is_damaged (Some (Sound contents)) = false
is_damaged (Some (Damaged size)) = true
