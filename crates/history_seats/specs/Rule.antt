-- The rule of the table: word 0 is the length of the history, and each seat's view fits the gate's.
use Rattle.std.specs.Prelude.{◌≡◌, ◌⊎◌, ◌≤◌, ℕ, Bool, true, List, [], ◌∷◌, length, Option, Some, None}
use mathlib.Core.Option.{some}
use lib.ListN.{get_elem?}
use Rattle.store_model.specs.Record.{concerns_file, events_of}
use Rattle.store_model.specs.History.{AreNumbered}
use Rattle.history_seats.specs.Records.{HistoryRecord, IsUpToDate, is_of_session}
use Rattle.history_seats.specs.Settling.{IsDecidedBelow}
use Rattle.history_seats.specs.Mounts.{Mounted}
use Rattle.history_seats.specs.Tags.{AreTagged, AreTagsRight}
use Rattle.history_seats.specs.Views.{GateView, SlotView, PassView, Joined, SeatView}
use Rattle.history_seats.specs.Numbers.{is_in, are_distinct}
use Rattle.history_seats.specs.Views.SeatView.{Gate, Slot, Pass, Half, Kept, Spent}

-- What holds of the gate's view alone.
pub record IsSound (gate : GateView) : Type 0 where
  -- each doubt below its place is decided
  pub decided_within : gate.decided ≤ length gate.all
  pub decided_below : IsDecidedBelow gate.decided 0 gate.all
  -- each tag is right, and each fault of an object file and each commit has its tag
  pub tags_right : (mounted : Mounted) → gate.mounted ≡ Some mounted → AreTagsRight mounted [] gate.all
  pub tagged : AreTagged gate.all
  pub numbered : AreNumbered (events_of gate.all)
  pub files_distinct : are_distinct gate.files ≡ true
  pub sessions_distinct : are_distinct gate.sessions ≡ true

-- What a seat has seen, with its place: past it there is none of those, and each doubt below the place is decided.
pub record HasSeen (those : HistoryRecord → Bool) (decided : ℕ) (seen : List HistoryRecord) (gate : GateView) : Type 0 where
  pub begins : IsUpToDate those seen gate.all
  pub decided_before : decided ≤ gate.decided
  pub decided_within : decided ≤ length seen
  pub decided_below : IsDecidedBelow decided 0 gate.all

-- A slot's view fits the gate's: past what it has seen no record concerns its file.
pub record SlotFits (gate : GateView) (slot : SlotView) : Type 0 where
  pub sees : HasSeen (concerns_file slot.file) slot.decided slot.seen gate
  pub mounted : gate.mounted ≡ Some slot.mounted

-- A pass's view fits the gate's: past what it has seen no event is of its session.
pub record PassFits (gate : GateView) (pass : PassView) : Type 0 where
  pub sees : HasSeen (is_of_session pass.session) pass.decided pass.seen gate
  pub mounted : gate.mounted ≡ Some pass.mounted

-- what the gate has taken in fits its view, and is out
pub record Agrees (joined : Joined) : Type 0 where
  pub gate : IsSound joined.gate
  pub slot : (slot : SlotView) → joined.slot ≡ Some slot → SlotFits joined.gate slot × (is_in slot.file joined.gate.files ≡ true)
  pub pass : (pass : PassView) → joined.pass ≡ Some pass → PassFits joined.gate pass × (is_in pass.session joined.gate.sessions ≡ true)
  pub kept : (kept : PassView) → joined.kept ≡ Some kept → PassFits joined.gate kept × (is_in kept.session joined.gate.sessions ≡ true)

-- the session is in halves: one of them is kept
abbrev pub IsCut : (ℕ → Option ℕ) → ℕ → Type 0
IsCut kept_at session = (seat : ℕ) × (kept_at session ≡ Some seat)

module _ (joined : Joined) (gate_at : ℕ) (slot_at pass_at kept_at : ℕ → Option ℕ) where
  -- what the rule says of one seat's view: there is one gate, one slot of a file, and one pass of a session or two halves of it
  abbrev pub Fits : ℕ → SeatView → Type 0
  Fits seat (Gate view) = (seat ≡ gate_at) × (view ≡ joined)
  Fits seat (Slot slot) = (slot_at slot.file ≡ Some seat) × SlotFits joined.gate slot
  Fits seat (Pass pass) = (pass_at pass.session ≡ Some seat) × (kept_at pass.session ≡ None) × PassFits joined.gate pass
  Fits seat (Half pass) = (pass_at pass.session ≡ Some seat) × IsCut kept_at pass.session × PassFits joined.gate pass
  Fits seat (Kept pass) = (kept_at pass.session ≡ Some seat) × PassFits joined.gate pass
  Fits seat Spent = Unit {0}

-- the file of a slot's view, the session of a pass's or of the caller's half, and that of a kept half
abbrev pub slot_file : SeatView → Option ℕ
slot_file (Slot slot) = Some slot.file
slot_file _ = None

abbrev pub pass_session : SeatView → Option ℕ
pass_session (Pass pass) = Some pass.session
pass_session (Half pass) = Some pass.session
pass_session _ = None

abbrev pub kept_session : SeatView → Option ℕ
kept_session (Kept pass) = Some pass.session
kept_session _ = None

abbrev pub file_taken : Option SlotView → Option ℕ
file_taken None = None
file_taken (Some slot) = Some slot.file

abbrev pub session_taken : Option PassView → Option ℕ
session_taken None = None
session_taken (Some pass) = Some pass.session

-- the number has a seat, whose view is of it
pub record HasSeat (number_of : SeatView → Option ℕ) (seat_at : ℕ → Option ℕ) (views : List SeatView) (n : ℕ) : Type 0 where
  pub seat : ℕ
  pub view : SeatView
  pub at : seat_at n ≡ Some seat
  pub stands : get_elem? views seat ≡ some view
  pub own : number_of view ≡ Some n

-- each number that is out was taken in, or has a seat
abbrev pub AreHeld : (SeatView → Option ℕ) → Option ℕ → (ℕ → Option ℕ) → List ℕ → List SeatView → Type 0
AreHeld number_of taken seat_at numbers views = (n : ℕ) → is_in n numbers ≡ true → (taken ≡ Some n) ⊎ HasSeat number_of seat_at views n

-- each session in halves has its kept one at a seat, or the gate has taken it in
abbrev pub AreKept : Option ℕ → (ℕ → Option ℕ) → List SeatView → Type 0
AreKept taken kept_at views = (n seat : ℕ) → kept_at n ≡ Some seat → (taken ≡ Some n) ⊎ HasSeat kept_session kept_at views n

-- The rule, for a gate's view, and for the seats that have each file, each session, and each kept half.
pub record Holds (joined : Joined) (gate_at : ℕ) (slot_at pass_at kept_at : ℕ → Option ℕ) (words : List ℕ) (views : List SeatView) : Type 0 where
  pub word : words ≡ length joined.gate.all ∷ []
  -- there is one gate, and each view fits it
  pub gate_stands : get_elem? views gate_at ≡ some (Gate joined)
  pub fit : (seat : ℕ) (view : SeatView) → get_elem? views seat ≡ some view → Fits joined gate_at slot_at pass_at kept_at seat view
  -- what is out has a seat or was taken in; who has a seat is out, and what was taken in has none
  pub files_held : AreHeld slot_file (file_taken joined.slot) slot_at joined.gate.files views
  pub sessions_held : AreHeld pass_session (session_taken joined.pass) pass_at joined.gate.sessions views
  pub files_out : (file seat : ℕ) → slot_at file ≡ Some seat → is_in file joined.gate.files ≡ true
  pub sessions_out : (session seat : ℕ) → pass_at session ≡ Some seat → is_in session joined.gate.sessions ≡ true
  pub slot_in : (slot : SlotView) → joined.slot ≡ Some slot → slot_at slot.file ≡ None
  pub pass_in : (pass : PassView) → joined.pass ≡ Some pass → pass_at pass.session ≡ None
  -- a kept half is of a session that is out; a pass that was taken in is whole, and a half that was has the gate's seat
  pub halves_held : AreKept (session_taken joined.kept) kept_at views
  pub halves_out : (session seat : ℕ) → kept_at session ≡ Some seat → is_in session joined.gate.sessions ≡ true
  pub whole_in : (pass : PassView) → joined.pass ≡ Some pass → kept_at pass.session ≡ None
  pub kept_in : (kept : PassView) → joined.kept ≡ Some kept → kept_at kept.session ≡ Some gate_at
  pub agrees : Agrees joined
  -- before the mount is told there is no record
  pub unmounted : joined.gate.mounted ≡ None → joined.gate.all ≡ []

-- The rule that the table keeps between any two steps.
abbrev pub SeatRule : List ℕ → List SeatView → Type 0
SeatRule words views =
    (joined : Joined) × (gate_at : ℕ) × (slot_at : ℕ → Option ℕ) × (pass_at : ℕ → Option ℕ) × (kept_at : ℕ → Option ℕ) × Holds joined gate_at slot_at pass_at kept_at words views
