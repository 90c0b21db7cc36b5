-- A run of the card on devices that do not fail.
use Rattle.std.proofs.Common.{◌≡◌, ◌≤◌, ◌⊎◌, ◌||◌, inl, inr, true, false, Bool, ℕ, List, [], ◌∷◌, ◌++◌, Option, Result, Ok, Err, refl, sym, subst, ◌∙◌, ⊎_elim, arith, length}
use Rattle.std.specs.Prelude.{IsTrue}
use Rattle.tee_types.specs.declared.reply.Cause.TheVariants.{CardResult, Fault, Frame}
use Rattle.tee_types.specs.declared.reply.Device.TheVariants.{Card, Dir, Entropy, File}
use Rattle.rpmb_card.specs.Card.{CardState}
use Rattle.rpmb_card.specs.Port.{PortState}
use Rattle.rpmb_host.specs.Honest.{HasCard}
use Rattle.card_script.specs.declared.card_line.CardLine.{CardLine}
use Rattle.card_script.specs.declared.card_line.CardLine.TheVariants.{Put, Get, Remove, List as ListLine, Stop, Remount}
use Rattle.card_script.specs.declared.reading.CardScriptFault.{CardScriptFault}
use Rattle.card_script.specs.declared.reading.CardScriptFault.TheVariants.{BadLine as BadLineFault}
use Rattle.card_script.specs.CardScripts.{script_of}
use Rattle.card_maps.specs.CardMaps.{BadCard, CardMap, card_map}
use Rattle.rpmb_files.specs.declared.fault.CardFault.{CardFault}
use Rattle.rpmb_files.specs.declared.fault.CardFault.TheVariants.{Bad, Device, Full, NoMemory as Starved, NotFound, Spent, TooLarge}
use Rattle.rpmb_files.specs.Devices.{Devices, devices}
use Rattle.rpmb_files.specs.Stores.{StoreState}
use Rattle.script_runner.specs.declared.status.Excess.TheVariants.{Bytes}
use Rattle.script_runner.specs.declared.status.Status.{Status}
use Rattle.script_runner.specs.declared.status.Status.TheVariants.{BadLine, Done, NoMemory, ReadFault, TooLong, WriteFault}
use Rattle.script_runner.specs.RunCauses.{World}
use Rattle.script_runner.specs.Sending.{IsWriteError}
use Rattle.script_runner.specs.ScriptReading.{IsReadError}
use Rattle.script_runner.specs.CardRecords.{CardRecord, Named, Told}
use Rattle.script_runner.specs.CardRuns.{CardTrace, EndsAtMount, EndsCard, EndsLines, IsCardScriptError, all_done, at_mount, cut_off, no_script, ran, starved, unread}
use Rattle.script_runner.specs.CardRunLaws.{ArmNothing, QuietCardRunsEnd}
use Rattle.script_runner.specs.CardSteps.{GoesThrough, IsRefusedAt, RefusesMount, StandsAt, at_first, at_line}
use Rattle.script_runner.proofs.CardPointLaws.{HasCard-rearmed}
use Rattle.script_runner.proofs.CardMapRuns.{one_script, stood}

arm-nothing-front : (front back : List CardLine) → ArmNothing (front ++ back) → ArmNothing front
arm-nothing-front [] back none = tt
arm-nothing-front (Put app id bytes ∷ front) back none = arm-nothing-front front back none
arm-nothing-front (Get app id ∷ front) back none = arm-nothing-front front back none
arm-nothing-front (Remove app id ∷ front) back none = arm-nothing-front front back none
arm-nothing-front (ListLine ∷ front) back none = arm-nothing-front front back none
arm-nothing-front (Stop exchanges ∷ front) back none = absurd none
arm-nothing-front (Remount ∷ front) back none = arm-nothing-front front back none

or-calm : (tells calm : Bool) → IsTrue calm → IsTrue (tells || calm)
or-calm true calm is = refl
or-calm false calm is = is

abbrev Calm : StoreState → Type 0
Calm s = IsTrue s.devices.port.calm

module _ (Reliable : Type 0) where
  calm-through : (lines : List CardLine) (records : List CardRecord) (old new : StoreState) → GoesThrough Reliable lines records old new → ArmNothing lines → Calm old → Calm new
  unfolding GoesThrough
  calm-through [] [] old new same none calm = subst Calm (sym same) calm
  calm-through [] (r ∷ records) old new goes none calm = absurd goes
  calm-through (l ∷ lines) [] old new goes none calm = absurd goes
  calm-through (Put app id bytes ∷ lines) (Told r ∷ records) old new goes none calm = calm-through lines records goes.0 new goes.2 none ((goes.1).goes_on.calm calm)
  calm-through (Get app id ∷ lines) (Told r ∷ records) old new goes none calm = calm-through lines records goes.0 new goes.2 none ((goes.1).goes_on.calm calm)
  calm-through (Remove app id ∷ lines) (Told r ∷ records) old new goes none calm = calm-through lines records goes.0 new goes.2 none ((goes.1).goes_on.calm calm)
  calm-through (ListLine ∷ lines) (Named names ∷ records) old new goes none calm = calm-through lines records goes.0 new goes.2 none (subst Calm (sym (goes.1).same) calm)
  calm-through (Stop exchanges ∷ lines) (r ∷ records) old new goes none calm = absurd none
  calm-through (Remount ∷ lines) (Told r ∷ records) old new goes none calm =
      let m = (goes.1).1 in
      let disarmed = m.disarms.port.calm refl (or-calm old.devices.port.tells_arms old.devices.port.calm calm) in
      calm-through lines records goes.0 new goes.2 none (m.mounts.goes_on.calm disarmed)
  calm-through (Put app id bytes ∷ lines) (Named names ∷ records) old new goes none calm = absurd goes.1
  calm-through (Get app id ∷ lines) (Named names ∷ records) old new goes none calm = absurd goes.1
  calm-through (Remove app id ∷ lines) (Named names ∷ records) old new goes none calm = absurd goes.1
  calm-through (ListLine ∷ lines) (Told r ∷ records) old new goes none calm = absurd goes.1
  calm-through (Remount ∷ lines) (Named names ∷ records) old new goes none calm = absurd goes.1

  module _ (reliable : Reliable) where
    -- a mount of a card that has the form, on devices that do not fail, is refused for want of memory alone
    for_memory : (failed : Type 0) (put text : List ℕ) (key : List ℕ) (old new : Devices) (card : CardState) (m : CardMap) (fault : CardFault) (status : Status) → HasCard old.port key card → card_map card ≡ Ok m → IsTrue old.port.calm
        → RefusesMount Reliable key old new fault → EndsAtMount failed put text fault status → status ≡ NoMemory
    for_memory failed put text key old new card m (Bad block offset) status has is calm refuses ends =
        let e : ◌≡◌ {A = Result CardMap BadCard} (Ok m) (Err (record { block = block; offset = offset })) = sym is ∙ refuses.stands card has in absurd cc
    for_memory failed put text key old new card m (Device (Fault Card count)) status has is calm refuses ends = absurd (refuses.calm calm)
    for_memory failed put text key old new card m (Device (Fault Entropy count)) status has is calm refuses ends = absurd (refuses.reliable reliable)
    for_memory failed put text key old new card m (Device (Fault Dir count)) status has is calm refuses ends = absurd refuses.stands
    for_memory failed put text key old new card m (Device (Fault (File n) count)) status has is calm refuses ends = absurd refuses.stands
    for_memory failed put text key old new card m (Device (Frame fault)) status has is calm refuses ends = absurd ((refuses.stands).1 card has)
    for_memory failed put text key old new card m (Device (CardResult result)) status has is calm refuses ends = absurd ((refuses.stands).1 card has)
    for_memory failed put text key old new card m Starved NoMemory has is calm refuses ends = refl
    for_memory failed put text key old new card m (TooLarge size) status has is calm refuses ends = absurd refuses.stands
    for_memory failed put text key old new card m NotFound status has is calm refuses ends = absurd refuses.stands
    for_memory failed put text key old new card m (Full need free) status has is calm refuses ends = absurd refuses.stands
    for_memory failed put text key old new card m Spent status has is calm refuses ends = absurd refuses.stands
    for_memory failed put text key old new card m fault status has is calm refuses ends = absurd ends

    module _ (key : List ℕ) (lines : List CardLine) (handed : PortState) (card : CardState) (has : HasCard handed key card) (m : CardMap) (is : card_map card ≡ Ok m) (calm : IsTrue handed.calm) (none : ArmNothing lines) where
      calm-at : (records : List CardRecord) (left : List CardLine) (last : StoreState) → StandsAt Reliable key lines handed records left last → Calm last
      calm-at records left last s = calm-through s.done records s.first last s.goes (arm-nothing-front s.done left (subst ArmNothing s.front none)) (s.mounted.goes_on.calm calm)

      refused-for_memory : (failed : Type 0) (put text : List ℕ) (records : List CardRecord) (given : PortState) (fault : CardFault) (status : Status) → IsRefusedAt Reliable key lines handed given records fault
          → EndsAtMount failed put text fault status → status ≡ NoMemory
      refused-for_memory failed put text records given fault status (at_first drawn empty refuses) ends = for_memory failed put text key (devices handed 0) (devices given drawn) card m fault status has is calm refuses ends
      refused-for_memory failed put text records given fault status (at_line left last between drawn at disarms refuses) ends =
          let s = stood Reliable key lines handed card has m is records _ last at in
          let there : HasCard between.port last.key s.card_left = HasCard-rearmed last.devices.port between.port _ last.key s.card_left disarms.port s.has_left in
          let disarmed = disarms.port.calm refl (or-calm last.devices.port.tells_arms last.devices.port.calm (calm-at records _ last at)) in
          for_memory failed put text last.key between (devices given drawn) s.card_left s.map fault status there s.map_is disarmed refuses ends

      ended : (failed : Type 0) (put : List ℕ) (records : List CardRecord) (why : Option CardFault) (given : PortState) (status : Status) → (failed → ⊥) → EndsLines Reliable key failed lines put records why handed given status
          → (status ≡ Done) ⊎ (status ≡ NoMemory)
      ended failed put records why given status room (all_done last at port refused_is text done) = inl done
      ended failed put records why given status room (cut_off left last at port refused_is begins error) = inr (no_room status error)
        where
          no_room : (status : Status) → IsWriteError failed status → status ≡ NoMemory
          no_room NoMemory error = refl
          no_room WriteFault error = absurd (room error)
          no_room status error = absurd error
      ended failed put records why given status room (starved line left last next call reply at makes port refused_is begins done) = inr done
      ended failed put records why given status room (at_mount fault is_fault at begins ends) = inr (refused-for_memory failed put _ records given fault status at ends)

-- a source that did not fail was read to its end, or it is too long, or there is no memory
unread-ends : (w : World) (t : CardTrace) (status : Status) → IsReadError w.source_failed (length t.taken) status → (w.source_failed → ⊥) → length t.taken ≤ 16777216 → status ≡ NoMemory
unread-ends w t ReadFault error source short = absurd (source error.0)
unread-ends w t (TooLong Bytes) error source short = absurd (omega (arith, error, short))
unread-ends w t NoMemory error source short = refl
unread-ends w t status error source short = absurd error

no_script-ends : (text : List ℕ) (lines : List CardLine) (status : Status) → script_of text ≡ Ok lines → IsCardScriptError (script_of text) status → status ≡ NoMemory
no_script-ends text lines (BadLine line) is error =
    let e : ◌≡◌ {A = Result (List CardLine) CardScriptFault} (Ok lines) (Err (BadLineFault line)) = sym is ∙ error in absurd cc
no_script-ends text lines NoMemory is error = refl
no_script-ends text lines status is error = absurd error

run-ends : (Reliable : Type 0) (w : World) (key : List ℕ) (t : CardTrace) (handed given : PortState) (status : Status) → Reliable → (card : CardState) → HasCard handed key card → (m : CardMap) → card_map card ≡ Ok m → IsTrue handed.calm
    → (lines : List CardLine) → script_of t.taken ≡ Ok lines → length t.taken ≤ 16777216 → ArmNothing lines → (w.source_failed → ⊥) → (w.sink_failed → ⊥) → (w.sink_full → ⊥)
    → EndsCard Reliable key w t handed given status → (status ≡ Done) ⊎ (status ≡ NoMemory)
run-ends Reliable w key t handed given status reliable card has m is calm lines script short none source sink room (unread error silent same) = inr (unread-ends w t status error source short)
run-ends Reliable w key t handed given status reliable card has m is calm lines script short none source sink room (no_script taken error silent same) = inr (no_script-ends t.taken lines status script error)
run-ends Reliable w key t handed given status reliable card has m is calm lines script short none source sink room (ran other taken other_is ends) =
    ended Reliable reliable key other handed card has m is calm (subst ArmNothing (one_script t.taken lines other script other_is) none) _ t.put t.records t.refused given status (⊎_elim sink room) ends

pub quiet_card_runs_end : (Reliable : Type 0) (w : World) → QuietCardRunsEnd Reliable w
quiet_card_runs_end Reliable w key left_old left_new held_old held_new handed given status r card has m is calm reliable lines script short none source sink room =
    run-ends Reliable w key r.trace handed given status reliable card has m is calm lines script short none source sink room r.ends
