-- How a file that is not honest may be altered back: its object then has less damage than it had.
use Rattle.std.specs.Prelude.{◌≡◌, ◌⊎◌, ◌+◌, ℕ, List, length, slice_index, false, true, Some, Contains}
use Rattle.std.specs.List.{list_any, AllZip}
use Rattle.store_model.specs.declared.name.ObjectName.{ObjectName}
use Rattle.store_model.specs.Object.{Object, Contents, Sound, Damaged, ObjectMap}
use Rattle.store_model.specs.Files.{FileMap}
use Rattle.store_model.specs.Record.{Record, is_named}
use Rattle.store_model.specs.Data.{meets_block}

-- The second has no bad block that the first has not, and what is good in the first is the same.
pub record HasFewerBad (old new : Contents) : Type 0 where
  pub attributes : new.attributes ≡ old.attributes
  pub size : length new.bytes ≡ length old.bytes
  pub bad : (k : ℕ) → Contains new.bad k → Contains old.bad k
  pub good : (p : ℕ) → list_any (meets_block p (p + 1)) old.bad ≡ false → slice_index new.bytes p ≡ slice_index old.bytes p

-- the second object is the first with less damage, or the same
abbrev pub HasLessDamage : Object → Object → Type 0
HasLessDamage (Sound old) (Sound new) = HasFewerBad old new
HasLessDamage (Sound old) (Damaged size) = ⊥
HasLessDamage (Damaged size) (Sound new) = length new.bytes ≡ size
HasLessDamage (Damaged size) (Damaged other) = other ≡ size

-- The object of that name has less damage; its file is not honest, and a record names it.
pub record IsMended {Root : Type 0} (files : FileMap) (tampered : List ℕ) (records : List (Record Root)) (name : ObjectName) (old new : Object) : Type 0 where
  pub file : ℕ
  pub of_object : files name ≡ Some file
  pub not_honest : Contains tampered file
  pub named : is_named records file ≡ true
  pub less : HasLessDamage old new

-- One entry of a map that may be altered back: it is the same, or its object is mended.
pub record IsMaybeMended {Root : Type 0} (files : FileMap) (tampered : List ℕ) (records : List (Record Root)) (old new : ObjectName × Object) : Type 0 where
  pub name : new.0 ≡ old.0
  pub object : (new.1 ≡ old.1) ⊎ IsMended files tampered records old.0 old.1 new.1

-- the second map is the first, altered back where these records name files that are not honest
abbrev pub IsAlteredBack : {Root : Type 0} → FileMap → List ℕ → List (Record Root) → ObjectMap → ObjectMap → Type 0
IsAlteredBack files tampered records old new = AllZip (IsMaybeMended files tampered records) old new
