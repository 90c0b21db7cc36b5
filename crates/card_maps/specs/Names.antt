-- The names of the objects of a map, with their sizes, as a list of them is given.
use Rattle.std.specs.Prelude.{List, map, length}
use Rattle.std.specs.List.Sorted.{IsPermutation, IsSorted}
use Rattle.card_maps.specs.declared.name.CardName.{CardName}
use Rattle.card_maps.specs.NameOrder.{card_name_cmp}
use Rattle.card_maps.specs.CardMaps.{CardMap, CardObject}

-- the name of an object, with its size
abbrev pub name_of : CardObject → CardName
name_of object = record { app = object.name.app; id = object.name.id; size = length object.bytes }

-- the names of a map, in the order of the blocks
abbrev pub names_of : CardMap → List CardName
names_of m = map name_of m

-- these names, in their order
pub record IsListing (names listed : List CardName) : Type 0 where
  pub same : IsPermutation names listed
  pub sorted : IsSorted card_name_cmp listed
