-- What each kind of step does to the views.
use Rattle.std.specs.Prelude.{◌≡◌, ℕ, true, List, length, Option, Some, None}
use Rattle.store_model.specs.Record.{concerns_file}
use Rattle.history_seats.specs.Records.{HistoryRecord}
use Rattle.history_seats.specs.Views.{GateView, SlotView, PassView, Joined, SeatView, alone}
use Rattle.history_seats.specs.Views.SeatView.{Gate, Slot, Pass, Half, Kept, Spent}
use Rattle.history_seats.specs.Numbers.{without}
use Rattle.history_seats.specs.Rule.{Agrees}
use Rattle.history_seats.specs.Changes.{IsNextOf, with_record, slot_renewed, pass_renewed, doubt_dropped}

abbrev pub slots_renewed : GateView → Option SlotView → Option SlotView
slots_renewed gate None = None
slots_renewed gate (Some slot) = Some (slot_renewed gate slot)

abbrev pub passes_renewed : GateView → Option PassView → Option PassView
passes_renewed gate None = None
passes_renewed gate (Some pass) = Some (pass_renewed gate pass)

-- what was taken in sees the whole history
abbrev pub renewed : Joined → Joined
renewed joined = record {
  gate = joined.gate;
  slot = slots_renewed joined.gate joined.slot;
  pass = passes_renewed joined.gate joined.pass;
  kept = passes_renewed joined.gate joined.kept;
}

-- a record is appended, and what was taken in sees it
abbrev pub appended : HistoryRecord → Joined → Joined
appended r joined = renewed (record joined { gate = with_record r joined.gate })

-- the doubt landed
abbrev pub landing_appended : HistoryRecord → Joined → Joined
landing_appended r joined = record joined { gate = with_record r joined.gate }

abbrev pub doubts_dropped : Joined → Joined
doubts_dropped joined = record joined { gate = doubt_dropped joined.gate }

-- what was taken in is out no more
abbrev pub files_left : List ℕ → Option SlotView → List ℕ
files_left files None = files
files_left files (Some slot) = without slot.file files

abbrev pub sessions_left : List ℕ → Option PassView → List ℕ
sessions_left sessions None = sessions
sessions_left sessions (Some pass) = without pass.session sessions

abbrev pub retired : Joined → Joined
retired joined =
    alone (record joined.gate { files = files_left joined.gate.files joined.slot; sessions = sessions_left joined.gate.sessions joined.pass })

-- the same on views, where the view is the gate's
abbrev pub on_gate : (GateView → GateView) → SeatView → SeatView
on_gate change (Gate joined) = Gate (record joined { gate = change joined.gate })
on_gate change view = view

abbrev pub slot_from : (GateView → SlotView) → SeatView → SeatView
slot_from new (Gate joined) = Slot (new joined.gate)
slot_from new view = Spent

abbrev pub pass_from : (GateView → PassView) → SeatView → SeatView
pass_from new (Gate joined) = Pass (new joined.gate)
pass_from new view = Spent

abbrev pub slot_taken_in : SeatView → SeatView → SeatView
slot_taken_in (Gate joined) (Slot slot) = Gate (record joined { slot = Some slot })
slot_taken_in view other = view

abbrev pub pass_taken_in : SeatView → SeatView → SeatView
pass_taken_in (Gate joined) (Pass pass) = Gate (record joined { pass = Some pass })
pass_taken_in view other = view

abbrev pub kept_taken_in : SeatView → SeatView → SeatView
kept_taken_in (Gate joined) (Kept kept) = Gate (record joined { kept = Some kept })
kept_taken_in view other = view

-- a pass is cut in two halves of its view, and two halves are one pass again, with the caller's view
abbrev pub half_cut : SeatView → SeatView
half_cut (Pass pass) = Half pass
half_cut view = view

abbrev pub half_kept : SeatView → SeatView
half_kept (Pass pass) = Kept pass
half_kept view = Spent

abbrev pub made_whole : SeatView → SeatView → SeatView
made_whole (Half pass) (Kept kept) = Pass pass
made_whole view other = view

abbrev pub spent : SeatView
spent = Spent

abbrev pub slot_or_spent : Option SlotView → SeatView
slot_or_spent None = Spent
slot_or_spent (Some slot) = Slot slot

abbrev pub pass_or_spent : Option PassView → SeatView
pass_or_spent None = Spent
pass_or_spent (Some pass) = Pass pass

abbrev pub kept_or_spent : Option PassView → SeatView
kept_or_spent None = Spent
kept_or_spent (Some kept) = Kept kept

-- what was taken in leaves again
abbrev pub slot_let_out : SeatView → SeatView
slot_let_out (Gate joined) = Gate (record joined { slot = None })
slot_let_out view = view

abbrev pub slot_inside : SeatView → SeatView
slot_inside (Gate joined) = slot_or_spent joined.slot
slot_inside view = Spent

abbrev pub pass_let_out : SeatView → SeatView
pass_let_out (Gate joined) = Gate (record joined { pass = None })
pass_let_out view = view

abbrev pub pass_inside : SeatView → SeatView
pass_inside (Gate joined) = pass_or_spent joined.pass
pass_inside view = Spent

abbrev pub kept_let_out : SeatView → SeatView
kept_let_out (Gate joined) = Gate (record joined { kept = None })
kept_let_out view = view

abbrev pub kept_inside : SeatView → SeatView
kept_inside (Gate joined) = kept_or_spent joined.kept
kept_inside view = Spent

-- What a step on the word tells: it found the length of the history, the gate's view was changed so, and all that is in it agrees.
abbrev pub Moved : (Joined → Joined) → SeatView → ℕ → SeatView → Type 0
Moved change (Gate joined) found view = (found ≡ length joined.gate.all) × (view ≡ Gate (change joined)) × Agrees joined
Moved change old found view = view ≡ old

-- a record's tag names no file but that of the slot that was taken in
abbrev pub IsTagIn : Joined → HistoryRecord → Type 0
IsTagIn joined r = (file : ℕ) → concerns_file file r ≡ true → (slot : SlotView) × (joined.slot ≡ Some slot) × (slot.file ≡ file)

-- its event is the next call of the session that was taken in
abbrev pub IsEventIn : Joined → HistoryRecord → Type 0
IsEventIn joined r = (pass : PassView) × (joined.pass ≡ Some pass) × IsNextOf pass r.event

-- the file and the generation of a slot that may be there
abbrev pub ids_in : Option SlotView → Option (ℕ × ℕ)
ids_in None = None
ids_in (Some slot) = Some (slot.file, slot.generation)
