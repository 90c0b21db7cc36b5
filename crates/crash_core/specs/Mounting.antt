-- The map of objects that a picture mounts to: the card's block 0 names the directory, and each of its entries an object.
use Rattle.std.specs.Prelude.{ℕ, List, [], ◌∷◌, map, Option, Some, None, Result, Ok, Err}
use Rattle.std.specs.Option.{option_map}
use Rattle.node_image.specs.declared.node.RootRef.{RootRef}
use Rattle.hmac_keys.specs.declared.Keys.{Keys}
use Rattle.store_model.specs.Object.{Object, ObjectMap, with_object}
use Rattle.dir_records.specs.declared.entry.DirEntry.{DirEntry}
use Rattle.crash_core.specs.declared.fault.DirFault.{DirFault}
use Rattle.crash_core.specs.MountedObject.{mounted_object}
use Rattle.crash_core.specs.Entries.{name_of}
use Rattle.crash_core.specs.Directory.{directory_of}
use Rattle.crash_core.specs.Refusal.{Refusal, NoDirectory}
use Rattle.crash_core.specs.CardBlock.{directory_at, root_in}
use Rattle.crash_core.specs.DeviceKeys.{directory_key, object_key}
use Rattle.crash_core.specs.Pictures.{Picture, block_zero}

-- an entry, and the object that it names
pub record Held : Type 0 where
  pub entry : DirEntry
  pub object : Object

-- the map of these
abbrev pub map_of : List (Option Held) → ObjectMap
map_of [] = []
map_of (None ∷ held) = map_of held
map_of (Some h ∷ held) = with_object (map_of held) (name_of h.entry) h.object

-- what an entry names in the images
abbrev pub held_in : Keys → (images : ℕ → List ℕ) → DirEntry → Held
held_in keys images e = record { entry = e; object = mounted_object (object_key keys e.app) (images e.file) e }

abbrev pub all_held_in : Keys → (images : ℕ → List ℕ) → List (Option DirEntry) → List (Option Held)
all_held_in keys images entries = map (option_map (held_in keys images)) entries

abbrev pub unless_fault : Result (List (Option DirEntry)) DirFault → Result (List (Option DirEntry)) Refusal
unless_fault (Ok entries) = Ok entries
unless_fault (Err fault) = Err (NoDirectory fault)

abbrev pub directory_by : Keys → (images : ℕ → List ℕ) → Result RootRef Refusal → Result (List (Option DirEntry)) Refusal
directory_by keys images (Ok root) = unless_fault (directory_of (directory_key keys) (images (directory_at root.format)) root)
directory_by keys images (Err refusal) = Err refusal

-- the entries that a picture mounts: of the directory that the card's block 0 names, in the image of its file
abbrev pub mounted_directory : Keys → Picture → Result (List (Option DirEntry)) Refusal
mounted_directory keys picture = directory_by keys picture.images (root_in (block_zero picture.card))

abbrev pub mounted_entries : Keys → (images : ℕ → List ℕ) → Result (List (Option DirEntry)) Refusal → Result ObjectMap Refusal
mounted_entries keys images (Ok entries) = Ok (map_of (all_held_in keys images entries))
mounted_entries keys images (Err refusal) = Err refusal

-- the map, or why there is none
abbrev pub mounted : Keys → Picture → Result ObjectMap Refusal
mounted keys picture = mounted_entries keys picture.images (mounted_directory keys picture)
