-- The version that a reference names in an image of a file.
use Rattle.std.specs.Prelude.{ℕ, List}
use Rattle.node_image.specs.declared.node.RootRef.{RootRef}
use Rattle.node_image.specs.Selection.{selected_tree}
use Rattle.htree_file.specs.Opening.{load_of}
use Rattle.hmac_keys.specs.declared.Keys.{Keys}
use Rattle.crash_core.specs.DeviceKeys.{object_key}
use Rattle.crash_core.specs.MountedObject.{object_in}
use Rattle.history_seats.specs.Records.{Version}

-- of an object of that application, with so many bytes of data and of attributes
abbrev pub version_of_image : Keys → (image : List ℕ) → RootRef → (app : List ℕ) → (size attributes : ℕ) → Version
version_of_image keys image root app size attributes = record {
  root = root;
  tree = selected_tree image root;
  loads = load_of image root;
  app = app;
  size = size;
  attributes = attributes;
  object = object_in (object_key keys app) image root size attributes;
}
