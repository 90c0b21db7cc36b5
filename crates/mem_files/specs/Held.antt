-- What a file in memory holds.
use Rattle.std.specs.Prelude.{◌≡◌, ◌↔◌, ℕ, ◌-◌, List, [], Bool, true, false, Option, Some, None, Vec}
use Rattle.std.specs.declared.alloc.Global.{Global}
use Rattle.disk_model.specs.declared.span.Change.{Change}
use Rattle.disk_model.specs.declared.span.Span.{Span}
use Rattle.disk_model.specs.Images.{Has, in_spans}

-- the settled bytes are kept apart only where they may differ from those that a read gives
abbrev pub settled_bytes : Option (Vec ℕ Global) → List ℕ → List ℕ
settled_bytes None bytes = bytes
settled_bytes (Some settled) bytes = settled.items

-- outside the spans the two have the same bytes
abbrev pub DifferIn : List Span → (settled bytes : List ℕ) → Type 0
DifferIn spans settled bytes = (place byte : ℕ) → in_spans spans place ≡ false → (Has settled place byte ↔ Has bytes place byte)

pub record Held : Type 0 where
  pub settled : List ℕ
  pub reads : List ℕ
  pub trail : List Change
  pub pending_from : ℕ
  pub honest : Bool

-- the entry of the trail for a change of the places from one up to another
abbrev pub change_of : ℕ → ℕ → ℕ → Change
change_of base from upto = record { span = record { at = from; length = upto - from }; base = base }

-- these bytes are settled and read, and nothing is pending
abbrev pub held_as : Held → List ℕ → Held
held_as held bytes = record held { settled = bytes; reads = bytes; trail = []; pending_from = 0 }

-- the same, of a file that is honest from then on
abbrev pub held_anew : List ℕ → Held
held_anew bytes = record { settled = bytes; reads = bytes; trail = []; pending_from = 0; honest = true }
