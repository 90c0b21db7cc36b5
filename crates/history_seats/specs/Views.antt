-- What each seat knows.
use Rattle.std.specs.Prelude.{ℕ, List, [], Option, None}
use Rattle.atomic_table.specs.Seated.{TableId}
use Rattle.history_seats.specs.Records.{HistoryRecord}
use Rattle.history_seats.specs.Mounts.{Mounted}

-- The gate's: the whole history; a place below which each doubt is decided, since it landed before that place or never will; and the
-- files and sessions whose seats are out. The mount is told with the first seat that is split.
pub record GateView : Type 0 where
  pub mounted : Option Mounted
  pub all : List HistoryRecord
  pub decided : ℕ
  pub files : List ℕ
  pub sessions : List ℕ

-- a file's: a beginning of the history that lacks no record of the file
pub record SlotView : Type 0 where
  pub mounted : Mounted
  pub seen : List HistoryRecord
  pub decided : ℕ
  pub file : ℕ
  pub generation : ℕ

-- a session's: a beginning of the history that lacks no event of the session
pub record PassView : Type 0 where
  pub mounted : Mounted
  pub seen : List HistoryRecord
  pub decided : ℕ
  pub session : ℕ

-- the gate's view, with the seats that it has taken in; `kept` is one half of a pass that is in halves
pub record Joined : Type 0 where
  pub gate : GateView
  pub slot : Option SlotView
  pub pass : Option PassView
  pub kept : Option PassView

-- what a seat knows; a spent one knows nothing
pub data SeatView : Type 0 where
  Gate : Joined → SeatView
  Slot : SlotView → SeatView
  Pass : PassView → SeatView
  -- the two halves of a pass: that of the session's caller, and the one that is kept elsewhere
  Half : PassView → SeatView
  Kept : PassView → SeatView
  Spent : SeatView

-- What contracts see of a seat: its table, and what it knows.
pub record Sight (Known : Type 0) : Type 0 where
  pub table : TableId
  pub knows : Known

-- with no seat taken in
abbrev pub alone : GateView → Joined
alone gate = record { gate = gate; slot = None; pass = None; kept = None }

abbrev pub new_gate : GateView
new_gate = record { mounted = None; all = []; decided = 0; files = []; sessions = [] }

abbrev pub no_mount : Mounted
no_mount = record { applications = []; entries = [] }

-- what a view is, where it is of that kind
abbrev pub gate_of : SeatView → Joined
gate_of (Gate joined) = joined
gate_of _ = alone new_gate

abbrev pub slot_of : SeatView → SlotView
slot_of (Slot slot) = slot
slot_of _ = record { mounted = no_mount; seen = []; decided = 0; file = 0; generation = 0 }

abbrev pub no_pass : PassView
no_pass = record { mounted = no_mount; seen = []; decided = 0; session = 0 }

abbrev pub pass_of : SeatView → PassView
pass_of (Pass pass) = pass
pass_of _ = no_pass

abbrev pub half_of : SeatView → PassView
half_of (Half pass) = pass
half_of _ = no_pass

abbrev pub kept_of : SeatView → PassView
kept_of (Kept pass) = pass
kept_of _ = no_pass
