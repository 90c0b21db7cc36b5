-- The records of one history: which file and which session each concerns.
use Rattle.std.specs.Prelude.{◌≡◌, ◌==◌, ℕ, Bool, false, ◌&&◌, List, ◌++◌, Option, Some, None, Result}
use Rattle.std.specs.List.{list_any}
use Rattle.node_image.specs.declared.node.RootRef.{RootRef}
use Rattle.node_image.specs.Selection.{SelectedTree}
use Rattle.htree_file.specs.declared.fault.TreeFault.{TreeFault}
use Rattle.htree_file.specs.Opening.{Loaded}
use Rattle.store_model.specs.declared.event.Event.{Event}
use Rattle.store_model.specs.declared.event.Event.TheVariants.{Call as CallEvent, Landed}
use Rattle.store_model.specs.Object.{Object}
use Rattle.store_model.specs.Record.{Record, Tag}

-- A committed version of a file, and all that is asked of it: nobody who has one needs a key.
pub record Version : Type 0 where
  -- its root reference, and the tree that this selects
  pub root : RootRef
  pub tree : SelectedTree
  -- what loading it gives: of two images that select one tree, one may be too short for it
  pub loads : Result Loaded TreeFault
  -- the application whose object it is, how many bytes of data and how many of attributes that has
  pub app : List ℕ
  pub size : ℕ
  pub attributes : ℕ
  -- the object that it opens to under the application's key
  pub object : Object

-- an event, and the committed versions that its tag names
abbrev pub HistoryRecord : Type 0
HistoryRecord = Record Version

-- the tag names that file and generation
abbrev pub is_object : (file generation : ℕ) → Option (Tag Version) → Bool
is_object file generation None = false
is_object file generation (Some tag) = (tag.file == file) && (tag.generation == generation)

-- the record's tag does
abbrev pub concerns_object : (file generation : ℕ) → HistoryRecord → Bool
concerns_object file generation r = is_object file generation r.tag

abbrev pub is_event_of : ℕ → Event → Bool
is_event_of session (CallEvent s number call reply mark) = s == session
is_event_of session (Landed commit) = false

-- the record's event is a call of that session
abbrev pub is_of_session : ℕ → HistoryRecord → Bool
is_of_session session r = is_event_of session r.event

-- What was seen is a beginning of the whole, and no record past it is one of those.
pub record IsUpToDate (those : HistoryRecord → Bool) (seen whole : List HistoryRecord) : Type 0 where
  pub rest : List HistoryRecord
  pub is : seen ++ rest ≡ whole
  pub lacks : list_any those rest ≡ false
