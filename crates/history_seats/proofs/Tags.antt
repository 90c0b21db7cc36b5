-- Tags that name the version which stood before them.
use Rattle.std.proofs.Common.{◌≡◌, List, [], ◌∷◌, ◌++◌, true≢false, Option, Some, None, refl, sym, subst, append_assoc}
use Rattle.std.proofs.lemmas.Bool.{eqb-true}
use Rattle.std.proofs.lemmas.List.{append-nil}
use Rattle.std.proofs.lemmas.List.Elements.{All-append, All-cons, All-nil}
use Rattle.history_seats.specs.Records.{HistoryRecord}
use Rattle.history_seats.specs.Mounts.{Mounted}
use Rattle.history_seats.specs.Tags.{HasRightTag, AreTagsRight, HasDueTag, AreTagged}
use Rattle.history_seats.specs.Views.{GateView, SlotView, PassView}
use Rattle.history_seats.specs.Changes.{TagVersions, record_of, together}
use Rattle.history_seats.specs.Steps.{IsTagIn}
use Rattle.store_model.specs.declared.event.Event.{Event}

pub tags-snoc : (m : Mounted) (before records : List HistoryRecord) (r : HistoryRecord) → AreTagsRight m before records → HasRightTag m (before ++ records) r → AreTagsRight m before (records ++ r ∷ [])
tags-snoc m before [] r n e = (subst (λ (l : List HistoryRecord). HasRightTag m l r) (append-nil before) e, tt)
tags-snoc m before (x ∷ records) r n e = (
  n.0,
  tags-snoc m (before ++ x ∷ []) records r n.1 (subst (λ (l : List HistoryRecord). HasRightTag m l r) (sym (append_assoc before (x ∷ []) records)) e),
)

pub tagged-snoc : (records : List HistoryRecord) (r : HistoryRecord) → AreTagged records → HasDueTag r → AreTagged (records ++ r ∷ [])
tagged-snoc records r all here = All-append HasDueTag records (r ∷ []) all (All-cons HasDueTag r [] here (All-nil HasDueTag))

-- a record's tag names the file of the slot that came with it, and no other
pub tag_in : (gate : GateView) (pass : Option PassView) (event : Event) (slot : Option SlotView) (left : TagVersions) → IsTagIn (together gate slot pass) (record_of event slot left)
tag_in gate pass event None left = λ file e. absurd (true≢false (sym e))
tag_in gate pass event (Some s) left = λ file e. (s, refl, eqb-true s.file file e)

pub event_in : (event : Event) (slot : Option SlotView) (left : TagVersions) → (record_of event slot left).event ≡ event
event_in event None left = refl
event_in event (Some s) left = refl
