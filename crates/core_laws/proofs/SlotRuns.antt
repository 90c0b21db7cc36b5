-- A slot's own steps keep what holds of it, whatever the other parts do.
use Rattle.std.proofs.Common.{◌≡◌, ℕ, List, [], ◌∷◌, IsTrue, sym, ◌∙◌, ap, subst}
use Rattle.disk_model.specs.State.{FileState, LeftNow, Sound}
use Rattle.disk_model.specs.Keeps.{FileCall, IsCall, write, sync, rest}
use Rattle.disk_model.proofs.ImageLaws.{reads_left}
use Rattle.hmac_keys.specs.declared.Keys.{Keys}
use Rattle.history_seats.specs.Records.{Version}
use Rattle.history_seats.specs.Changes.{slot_renewed}
use Rattle.history_seats.specs.Rule.{SlotFits}
use Rattle.history_seats.specs.Views.{GateView, SlotView}
use Rattle.history_seats.proofs.KnownEntries.{entry_known}
use Rattle.crash_core.specs.MountedObject.{object_or_damaged}
use Rattle.crash_core.specs.DeviceKeys.{object_key}
use Rattle.crash_core.specs.Sights.{Sight, Stands, sight_of}
use Rattle.crash_core.proofs.Sightings.{CallMisses, call_stands}
use Rattle.core_laws.specs.SlotParts.{IsShownIn, Knows, SlotHolds, SlotPart, VersionStands}
use Rattle.core_laws.specs.SlotSteps.{CallFile, DropOpenStage, FileUser, IsSlotCall, IsSlotRun, IsSlotStep, SlotStep, SparesKnown}
use Rattle.core_laws.proofs.Versions.{version_seen}

-- a version that stands does so after a call that misses what it selects
pub version_stays : (keys : Keys) (call : FileCall) (old new : FileState) (v : Version) → Sound old → Sound new → IsTrue new.honest → IsCall call old new → CallMisses call old.reads v.root
    → VersionStands keys old v → VersionStands keys new v
version_stays keys call old new v sound still honest called misses stands =
    let wrap : List ℕ = object_key keys v.app in
    let here : LeftNow old old.reads = reads_left old sound in
    let what : Sight = sight_of wrap old.reads v.root in
    let after : Stands new wrap v.root what = call_stands call old new wrap v.root what sound still honest called misses (version_seen keys old v sound stands) in
    let was : IsShownIn keys old.reads v = stands.shown old.reads here in
    record {
      current = stands.current;
      shown = λ image left.
          let same : sight_of wrap image v.root ≡ what = after.alike image left in
          record {
            selects = ap (λ (x : Sight). x.tree) same ∙ was.selects;
            loads = ap (λ (x : Sight). x.loads) same ∙ was.loads;
            object = ap (λ (x : Sight). object_or_damaged v.size v.attributes x.opened) same ∙ was.object;
          };
    }

-- what spares each version that the view knows misses it
pub spared_missed : (keys : Keys) (s : FileState) (view : SlotView) (call : FileCall) (v : Version) → Sound s → VersionStands keys s v → Knows view v → SparesKnown view call
    → CallMisses call s.reads v.root
spared_missed keys s view (write from upto) v sound stands known spares =
    let spared = spares v known in
    record { tree = spared.tree; loads = (stands.shown s.reads (reads_left s sound)).loads ∙ spared.loads; off = spared.off }
spared_missed keys s view sync v sound stands known spares = tt
spared_missed keys s view rest v sound stands known spares = tt

-- a file that is honest after a call was so before
pub call_honest : (call : FileCall) (old new : FileState) → IsCall call old new → IsTrue new.honest → IsTrue old.honest
call_honest (write from upto) old new called honest = called.changes.goes_on.honest honest
call_honest sync old new called honest = called.goes_on.honest honest
call_honest rest old new called honest = called.goes_on.honest honest

module _ (user : FileUser) where
  pub step_honest : (old : SlotPart) (step : SlotStep) (new : SlotPart) → IsSlotStep user old step new → IsTrue new.file.honest → IsTrue old.file.honest
  step_honest old (CallFile call) new c honest = call_honest call old.file new.file c.called honest
  step_honest old DropOpenStage new is honest = subst (λ (slot : SlotPart). IsTrue slot.file.honest) is honest

  pub run_honest : (old : SlotPart) (steps : List SlotStep) (new : SlotPart) → IsSlotRun user old steps new → IsTrue new.file.honest → IsTrue old.file.honest
  run_honest old [] new run honest = subst (λ (slot : SlotPart). IsTrue slot.file.honest) run honest
  run_honest old (step ∷ steps) new run honest = step_honest old step run.0 run.1 (run_honest run.0 steps new run.2 honest)

  pub step_view : (old : SlotPart) (step : SlotStep) (new : SlotPart) → IsSlotStep user old step new → new.view ≡ old.view
  step_view old (CallFile call) new c = c.view
  step_view old DropOpenStage new is = ap (λ (slot : SlotPart). slot.view) is

  module _ (keys : Keys) where
    call_holds : (old : SlotPart) (call : FileCall) (new : SlotPart) → SlotHolds keys old → IsSlotCall user call old new → SlotHolds keys new
    call_holds old call new h c = record {
      sound = c.sound;
      stands = λ honest v known.
          let was : Knows old.view v = subst (λ (view : SlotView). Knows view v) c.view known in
          let stands : VersionStands keys old.file v = h.stands (call_honest call old.file new.file c.called honest) v was in
          version_stays keys call old.file new.file v h.sound c.sound honest c.called (spared_missed keys old.file old.view call v h.sound stands was (c.spares honest)) stands;
    }

    pub step_holds : (old : SlotPart) (step : SlotStep) (new : SlotPart) → SlotHolds keys old → IsSlotStep user old step new → SlotHolds keys new
    step_holds old (CallFile call) new h c = call_holds old call new h c
    step_holds old DropOpenStage new h is = subst (SlotHolds keys) (sym is) (record { sound = h.sound; stands = h.stands })

    -- A slot's run keeps what holds of it.
    pub run_holds : (old : SlotPart) (steps : List SlotStep) (new : SlotPart) → SlotHolds keys old → IsSlotRun user old steps new → SlotHolds keys new
    run_holds old [] new h run = subst (SlotHolds keys) (sym run) h
    run_holds old (step ∷ steps) new h run = run_holds run.0 steps new (step_holds old step run.0 h run.1) run.2

-- So does a seat that sees more.
pub renewed_holds : (keys : Keys) (gate : GateView) (slot : SlotPart) → SlotFits gate slot.view → SlotHolds keys slot → SlotHolds keys (record slot { view = slot_renewed gate slot.view })
renewed_holds keys gate slot fits h = record {
  sound = h.sound;
  stands = λ honest v known. h.stands honest v (entry_known gate slot.view fits v known);
}
