-- References to trees, and the format of the files that are written.
use Rattle.std.specs.Prelude.{◌≡◌, ℕ, ◌<◌}
use Rattle.node_image.specs.declared.node.RootRef.{RootRef}

abbrev pub current_format : ℕ
current_format = 2

-- the reference is one of version 0 or 1, to a file of that format
abbrev pub IsCurrent : RootRef → Type 0
IsCurrent root = (root.version < 2) × (root.format ≡ current_format)
