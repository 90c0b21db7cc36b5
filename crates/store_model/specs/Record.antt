-- Events with what is known of the file of their object.
use Rattle.std.specs.Prelude.{◌==◌, ℕ, Bool, false, List, map, Option, Some, None}
use Rattle.std.specs.List.{list_any}
use Rattle.std.specs.Option.{option_map}
use Rattle.tee_types.specs.declared.reply.Reply.{Reply}
use Rattle.tee_types.specs.declared.reply.Reply.TheVariants.{NotAvailable}
use Rattle.tee_types.specs.declared.reply.Cause.{Cause}
use Rattle.tee_types.specs.declared.reply.Cause.TheVariants.{Fault}
use Rattle.tee_types.specs.declared.reply.Device.TheVariants.{File}
use Rattle.store_model.specs.declared.event.Event.{Event}

-- The file of the object that an event concerned, and what the event left committed there. `Root` stands for a committed version
-- of a file: its root reference, and the tree under it.
pub record Tag (Root : Type 0) : Type 0 where
  pub file : ℕ
  -- the card's write counter after the commit that made the object
  pub generation : ℕ
  -- what is committed after the event, where the object is there
  pub committed : Option Root
  -- what the commit of a doubtful event leaves, where the object is there after it
  pub doubted : Option Root

pub record Record (Root : Type 0) : Type 0 where
  pub event : Event
  pub tag : Option (Tag Root)

-- the file that a record names
abbrev pub file_of : {Root : Type 0} → Record Root → Option ℕ
file_of record_ = option_map (λ tag. tag.file) record_.tag

abbrev pub is_file : ℕ → Option ℕ → Bool
is_file file None = false
is_file file (Some other) = other == file

-- the record's tag names that file
abbrev pub concerns_file : {Root : Type 0} → ℕ → Record Root → Bool
concerns_file file record_ = is_file file (file_of record_)

-- a record names that file
abbrev pub is_named : {Root : Type 0} → List (Record Root) → ℕ → Bool
is_named records file = list_any (concerns_file file) records

-- the object's file that the cause accuses
abbrev pub file_at_fault : Cause → Option ℕ
file_at_fault (Fault (File file) count) = Some file
file_at_fault _ = None

abbrev pub fault_in_reply : Reply → Option ℕ
fault_in_reply (NotAvailable cause) = file_at_fault cause
fault_in_reply _ = None

-- the events of these records
abbrev pub events_of : {Root : Type 0} → List (Record Root) → List Event
events_of records = map (λ r. r.event) records

-- events without tags
abbrev pub untagged : List Event → List (Record (Unit {0}))
untagged events = map (λ event. record { event = event; tag = None }) events
