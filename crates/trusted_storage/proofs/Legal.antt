-- Over honest files each phase's history is legal.
use Rattle.std.proofs.Common.{◌≡◌, ◌∙◌, ℕ, List, [], ◌∷◌, IsTrue, None, Option, Some, refl, sym, ap, subst}
use Rattle.core_laws.specs.Stores.{Store, mounted_files, phase_of}
use Rattle.disk_model.specs.State.{FileState}
use Rattle.hmac_keys.specs.declared.Keys.{Keys}
use Rattle.object_calls.specs.FinishedPhase.{AreAllHonest}
use Rattle.rpmb_card.specs.Port.{PortState}
use Rattle.run_acts.proofs.Ready.{ready-applications}
use Rattle.run_acts.specs.Benches.{BenchState}
use Rattle.run_acts.specs.Phases.{RunsPhase}
use Rattle.run_acts.specs.declared.refused_call.RefusedCall.{RefusedCall}
use Rattle.app_quota.specs.declared.quotas.Quota.{Quota}
use Rattle.script_runner.specs.RunCauses.{World}
use Rattle.script_runner.specs.Trace.{applications_of}
use Rattle.script_text.specs.declared.script.Arm.{Arm}
use Rattle.script_text.specs.declared.script.Mode.{Mode}
use Rattle.script_text.specs.declared.script.Step.{Step}
use Rattle.store_model.specs.declared.event.Event.{Event}
use Rattle.store_model.specs.History.{AreNumbered}
use Rattle.store_model.specs.Legal.{IsLegalEvent, IsLegalFrom}
use Rattle.store_model.specs.Object.{ObjectMap}
use Rattle.store_model.specs.Record.{Record, Tag, events_of, file_of}
use Rattle.store_model.specs.ReplayState.{ReplayState, opening, replay_after}
use Rattle.trusted_storage.specs.Laws.{RepliesAreLegal}
use Rattle.trusted_storage.specs.Replies.{IsLegalPhase}
use Rattle.trusted_storage.proofs.Phases.{each_of_run}

-- RECORDS WITHOUT THEIR VERSIONS
abbrev plain_tag : {Root : Type 0} → Option (Tag Root) → Option (Tag (Unit {0}))
plain_tag None = None
plain_tag (Some tag) = Some (record { file = tag.file; generation = tag.generation; committed = None; doubted = None })

abbrev plain : {Root : Type 0} → Record Root → Record (Unit {0})
plain r = record { event = r.event; tag = plain_tag r.tag }

abbrev plain_all : {Root : Type 0} → List (Record Root) → List (Record (Unit {0}))
plain_all [] = []
plain_all (r ∷ records) = plain r ∷ plain_all records

plain_file : {Root : Type 0} (event : Event) (tag : Option (Tag Root)) → file_of {Root = Unit {0}} (record { event = event; tag = plain_tag tag }) ≡ file_of {Root = Root} (record { event = event; tag = tag })
plain_file event None = refl
plain_file event (Some tag) = refl

plain_events : {Root : Type 0} (records : List (Record Root)) → events_of (plain_all records) ≡ events_of records
plain_events [] = refl
plain_events (r ∷ records) = ap (λ (l : List Event). r.event ∷ l) (plain_events records)

plain_legal : {Root : Type 0} (s : ReplayState) (records : List (Record Root)) → IsLegalFrom [] s records → IsLegalFrom [] s (plain_all records)
plain_legal s [] legal = tt
plain_legal {Root = Root} s (r ∷ records) legal =
    let same : file_of (plain r) ≡ file_of r = plain_file r.event r.tag in (
      subst (IsLegalEvent [] s r.event) (sym same) legal.0,
      subst (λ (x : Option ℕ). IsLegalFrom [] (replay_after s r.event x) (plain_all records)) (sym same) (plain_legal (replay_after s r.event (file_of r)) records legal.1),
    )

-- a history that is legal from where a store begins
pub legal_of : {Root : Type 0} (store : Store) (objects : ObjectMap) (applications : List (List ℕ)) (records : List (Record Root)) (events : List Event) → store.objects ≡ objects → (store.mounted).applications ≡ applications
    → events ≡ events_of records → AreNumbered (events_of records) → IsLegalFrom [] (opening (phase_of store)) records → IsLegalPhase objects applications events
legal_of store objects applications records events objects_are applications_are events_are numbered legal = record {
  files = mounted_files store.mounted;
  counter = store.counter;
  records = plain_all records;
  events_are = plain_events records ∙ sym events_are;
  legal =
      subst (λ (apps : List (List ℕ)). IsLegalFrom [] (opening (record { objects = objects; files = mounted_files store.mounted; applications = apps; counter = store.counter })) (plain_all records)) applications_are
      (subst (λ (m : ObjectMap). IsLegalFrom [] (opening (record { objects = m; files = mounted_files store.mounted; applications = (store.mounted).applications; counter = store.counter })) (plain_all records)) objects_are
      (plain_legal (opening (phase_of store)) records legal));
  numbered = subst AreNumbered (sym events_are) numbered;
}

-- A PHASE
module _ {F R : Type 0} (of_file : F → FileState) (of_port : R → PortState) (Reliable : Type 0) (keys : Keys) (applications : List (List ℕ)) (quotas : List Quota) (arms : List Arm) (mode : Mode) (calls : List Step)
    (old new : BenchState) (objects : ObjectMap) (events : List Event) (refused : List RefusedCall) (r : RunsPhase of_file of_port Reliable keys applications quotas arms mode calls old new objects events refused) where
  open r use {closed, disarms}

  abbrev s : Store
  s = (r.serves).store

  pub applications_are : (s.mounted).applications ≡ applications
  applications_are = ap (λ (x : Store). (x.mounted).applications) ((r.serves).is_store).is
      ∙ ready-applications of_file of_port applications arms r.opened (r.serves).armed (r.serves).ready

  pub legal_phase : AreAllHonest new.files → IsLegalPhase objects applications events
  legal_phase honest =
      let closes = (r.serves).closes in
      let all : AreAllHonest closed.files = λ file. subst (λ (x : FileState). IsTrue x.honest) (disarms.files file) (honest file) in
      legal_of s objects applications (closes.view).all events ((r.serves).opens ∙ sym r.objects) applications_are closes.events_are (closes.leaves).numbered
      ((closes.leaves).honest all).events_legal

pub replies_legal : {F R : Type 0} (of_file : F → FileState) (of_port : R → PortState) (image : FileState → ℕ → ℕ → List ℕ) (Reliable : Type 0) (w : World) → RepliesAreLegal of_file of_port image Reliable w
replies_legal of_file of_port image Reliable w c script is files none =
    each_of_run of_file of_port image Reliable w (Unit {0}) (λ before behind quotas mode calls phase. IsLegalPhase phase.opening (applications_of script) phase.events) c script
    (λ quotas arms mode calls old new phase r honest.
    legal_phase of_file of_port Reliable c.keys (applications_of script) quotas arms mode calls old new phase.opening phase.events phase.refused r (honest tt)) is (λ trusted. (files, none))
