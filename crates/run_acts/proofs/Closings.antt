-- A store that was served is closed: what its devices are, before its calls and behind them.
use Rattle.std.proofs.Common.{◌≡◌, ◌≢◌, ◌∙◌, ◌+◌, ◌-◌, ◌<◌, ℕ, suc, List, [], ◌++◌, drop, length, take, Option, inl, inr, refl, sym, ap, subst, arith}
use Rattle.std.proofs.lemmas.Bool.{cases_eq}
use Rattle.disk_model.specs.Calls.{GoesOn}
use Rattle.disk_model.specs.State.{FileState}
use Rattle.hmac_keys.specs.KeyTable.{rpmb_key}
use Rattle.tee_types.specs.Limits.{IsObjectFile, directory_file, file_count, last_file, old_directory_file}
use Rattle.tee_types.proofs.FileNumbers.{other_on_bench}
use Rattle.rpmb_card.specs.Port.{PortState}
use Rattle.tee_types.specs.declared.reply.Device.{Device}
use Rattle.tee_types.specs.declared.reply.Device.TheVariants.{Dir, File, Card, Entropy}
use Rattle.app_quota.specs.declared.quotas.Quota.{Quota}
use Rattle.store_model.specs.declared.event.Event.{Event}
use Rattle.store_model.specs.Record.{events_of}
use Rattle.core_laws.specs.Stores.{Store}
use Rattle.quota_store.specs.CallerSessions.{CallerSession}
use Rattle.store_commit.specs.Gates.{GateValue}
use Rattle.quota_store.specs.SlotValues.{SlotValue}
use Rattle.script_text.specs.declared.script.Mode.{Mode}
use Rattle.script_text.specs.declared.script.Mode.TheVariants.{Serial}
use Rattle.script_text.specs.declared.script.Step.{Step}
use Rattle.quota_store.specs.EventCounts.{events_at}
use Rattle.quota_store.specs.Cards.{TellsCard}
use Rattle.quota_store.specs.DeviceCounts.{Rise, counts_of, draws_of}
use Rattle.quota_store.specs.Devices.{PortGoesOn, file_in, no_slot}
use Rattle.quota_store.proofs.CountGrowth.{same_file_goes_on}
use Rattle.object_calls.specs.declared.bench.Bench.{Bench}
use Rattle.object_calls.specs.OpeningArms.{IsOnBench}
use Rattle.object_calls.specs.OpeningFiles.{files_of}
use Rattle.object_calls.specs.FinishedPhase.{GivesBack, LeavesStore}
use Rattle.object_calls.specs.Opening.{OpeningValue, bench_files}
use Rattle.object_calls.specs.Services.{ServiceValue}
use Rattle.object_calls.specs.ServedPhases.{ServesOpening}
use Rattle.object_calls.proofs.Files.{directory_here, object_numbered, spare_here}
use Rattle.run_acts.specs.MadeCalls.{MakesCalls, faults_at}
use Rattle.run_acts.specs.Reliable.{AreFresh, AreReliable, StayReliable}
use Rattle.run_acts.specs.ServedSteps.{ServesSteps}
use Rattle.run_acts.specs.Benches.{BenchState, bench_state, opening_state}
use Rattle.run_acts.specs.Closing.{BenchGoesOn, ClosesEarly, ClosesStore, faults_on, served}
use Rattle.run_acts.specs.PhaseServing.{HasDevices}
use Rattle.run_acts.specs.QuotaClosing.{ClosesWithin}
use Rattle.run_acts.specs.QuotaRefusals.{HoldsOfAdmitted, KeepsPhaseQuotas, admitted, admitted_from}
use Rattle.run_acts.specs.declared.refused_call.RefusedCall.{RefusedCall}
use Rattle.run_acts.proofs.Admissions.{admitted-cut}
use Rattle.run_acts.proofs.Phases.{serves_made}
use Rattle.run_acts.proofs.Draws.{drawn_from_0, undrawn_from_0}

-- the file of an object as a store is mounted
pub file_opened : {F R : Type 0} (of_file : F → FileState) (o : OpeningValue F R) (i : ℕ) → i < last_file → bench_files of_file o (i + 1) ≡ files_of of_file o.files i
file_opened of_file o i within =
    let next : i + 1 ≡ suc i = omega arith in
    ap (bench_files of_file o) next ∙ object_numbered of_file o.spare o.gate.dir.file o.files (suc i) (omega arith, omega (arith, within))

-- as the store begins to be served, its devices are those of the mounted store
pub begins_devices : {F R : Type 0} (of_file : F → FileState) (of_port : R → PortState) (store : Store) (o : OpeningValue F R) (s : ServiceValue F R) → ServesOpening of_file store o s
    → HasDevices of_file of_port s (opening_state of_file of_port o)
begins_devices of_file of_port store o s serves = record {
  dir = directory_here of_file o.spare o.gate.dir.file o.files ∙ sym (ap (λ (g : GateValue _ _). of_file g.dir.file) serves.gate);
  spare = spare_here of_file o.spare o.gate.dir.file o.files ∙ sym (ap of_file serves.spare);
  each = λ i d within. file_opened of_file o i within ∙ sym (ap (λ (x : SlotValue). x.file) (serves.slots i d within));
  card = sym (ap (λ (g : GateValue _ _). of_port g.host.port) serves.gate);
}

-- as it is closed, the bench has them
pub ends_devices : {F R : Type 0} (of_file : F → FileState) (of_port : R → PortState) (s : ServiceValue F R) (files : List F) (card : R) → GivesBack of_file s files card
    → HasDevices of_file of_port s (record { files = files_of of_file files; card = of_port card })
ends_devices of_file of_port s files card gives = record {
  dir = gives.dir;
  spare = gives.spare;
  each = gives.each;
  card = ap of_port gives.port;
}

module _ {F R E : Type 0} (of_file : F → FileState) (of_port : R → PortState) (draws : E → ℕ) (is_reliable : E → Type 0) where
  -- the file of that number
  file_of_number : (s : ServiceValue F R) (bench : BenchState) → HasDevices of_file of_port s bench → (file : ℕ) → IsObjectFile file → bench.files file ≡ file_in s.slots file
  file_of_number s bench has file object =
      let number : file - 1 + 1 ≡ file = omega (arith, object.0) in
      ap bench.files (sym number) ∙ has.each (file - 1) no_slot (omega (arith, object.0, object.1))

  faults_same : (s : ServiceValue F R) (bench : BenchState) → HasDevices of_file of_port s bench → (device : Device) → IsOnBench device → faults_at of_file of_port draws s device ≡ faults_on bench device
  faults_same s bench has Dir on = sym (ap (λ (f : FileState). f.faults) has.dir)
  faults_same s bench has (File n) on = sym (ap (λ (f : FileState). f.faults) (file_of_number s bench has n on))
  faults_same s bench has Card on = sym (ap (λ (p : PortState). p.faults) has.card)
  faults_same s bench has Entropy on = absurd on

  module _ (store : Store) (old new : ServiceValue F R) (before closed : BenchState) (was now : List (CallerSession E)) (calls : List Step) (has_before : HasDevices of_file of_port old before)
      (has_closed : HasDevices of_file of_port new closed) (makes : MakesCalls of_file of_port draws store old new was now calls) where
    abbrev key : List ℕ
    key = rpmb_key store.keys.huk

    file_goes_on : (file : ℕ) → file < file_count → GoesOn (before.files file) (closed.files file)
    file_goes_on file below = elim (cases_eq file directory_file) [
      | inl is ↦
          subst (λ (n : ℕ). GoesOn (before.files n) (closed.files n)) (sym is)
          (subst (λ (p : FileState × FileState). GoesOn p.0 p.1) (λ i. (sym has_before.dir i, sym has_closed.dir i)) makes.devices.dir)
      | inr other ↦ elim (other_on_bench file below other) [
        | inl old_dir ↦
            subst (λ (n : ℕ). GoesOn (before.files n) (closed.files n)) (sym old_dir)
            (same_file_goes_on (before.files old_directory_file) (closed.files old_directory_file) (has_closed.spare ∙ ap of_file makes.spare ∙ sym has_before.spare))
        | inr object ↦
            subst (λ (p : FileState × FileState). GoesOn p.0 p.1) (λ i. (sym (file_of_number old before has_before file object) i, sym (file_of_number new closed has_closed file object) i))
            (makes.devices.file file)
      ]
    ]

    pub goes_on : BenchGoesOn key before closed
    goes_on = record {
      files = file_goes_on;
      card = subst (λ (p : PortState × PortState). PortGoesOn key p.0 p.1) (λ i. (sym has_before.card i, sym has_closed.card i)) makes.devices.card;
    }

    pub counted_on : (device : Device) → IsOnBench device → Rise (faults_on before device) (faults_on closed device) (counts_of device makes.added)
    counted_on device on =
        subst (λ (p : ℕ × ℕ). Rise p.0 p.1 (counts_of device makes.added)) (λ i. (faults_same old before has_before device on i, faults_same new closed has_closed device on i))
        (makes.counted device on)

    pub closes_store : (mode : Mode) (doubt : Option ℕ) (events : List Event) → length was ≡ length store.mounted.applications → AreFresh draws was → StayReliable is_reliable draws was now → events_at old.gate ≡ []
        → (events_at old.gate ≡ [] → (any : Mode) → ServesSteps any calls (events_at new.gate)) → events ≡ events_of new.gate.journal.knows.all → LeavesStore store new.gate.journal.knows closed.files closed.card doubt
        → ClosesStore (AreReliable is_reliable was) store before mode calls closed events
    closes_store mode doubt events many fresh stay empty serves is leaves =
        let added : makes.added ≡ events = sym (is ∙ makes.events ∙ ap (λ (l : List Event). l ++ makes.added) empty) in
        record {
          view = new.gate.journal.knows;
          events_are = is;
          serves = subst (ServesSteps mode calls) (sym is) (serves empty mode);
          doubt = doubt;
          leaves = leaves;
          counted = λ device on. subst (λ (l : List Event). Rise (faults_on before device) (faults_on closed device) (counts_of device l)) added (counted_on device on);
          devices = goes_on;
          card = subst (TellsCard key before.card) added (subst (λ (p : PortState). TellsCard key p makes.added) (sym has_before.card) makes.card);
          drawn = λ session within.
              subst (λ (l : List Event). (last : ℕ) × Rise 0 last (draws_of session l)) added
              (let below : session < length was = omega (arith, within, many) in drawn_from_0 draws was now session (draws_of session makes.added) below fresh (λ d. makes.drawn session d below));
          undrawn = λ reliable session within.
              subst (λ (l : List Event). draws_of session l ≡ []) added
              (let below : session < length was = omega (arith, within, many) in
              undrawn_from_0 is_reliable draws was now session (draws_of session makes.added) below fresh reliable (λ d. stay session d below) (λ d. makes.drawn session d below));
        }

    -- memory ran out behind these calls
    pub closes_early : (all rest : List Step) (doubt : Option ℕ) → events_at old.gate ≡ [] → all ≡ calls ++ rest → LeavesStore store new.gate.journal.knows closed.files closed.card doubt
        → ClosesEarly store before Serial all closed
    closes_early all rest doubt empty is leaves =
        let in_order = (serves_made of_file of_port draws store old new was now calls makes empty Serial).in_script_order refl in
        served new.gate.journal.knows doubt (rest, is ∙ ap (λ (l : List Step). l ++ rest) (sym in_order)) leaves goes_on

-- Where a generator that never fails has streams that never do, so much is said of it.
pub closes_where : (Streams Generator : Type 0) (store : Store) (before : BenchState) (mode : Mode) (calls : List Step) (closed : BenchState) (events : List Event) → (Generator → Streams)
    → ClosesStore Streams store before mode calls closed events → ClosesStore Generator store before mode calls closed events
closes_where Streams Generator store before mode calls closed events never c = record {
  view = c.view;
  events_are = c.events_are;
  serves = c.serves;
  doubt = c.doubt;
  leaves = c.leaves;
  counted = c.counted;
  devices = c.devices;
  card = c.card;
  drawn = c.drawn;
  undrawn = λ generator. c.undrawn (never generator);
}

-- so under quotas
pub closes_within_where : (Streams Generator : Type 0) (store : Store) (quotas : List Quota) (before : BenchState) (mode : Mode) (calls : List Step) (closed : BenchState) (events : List Event) (refused : List RefusedCall)
    → (Generator → Streams) → ClosesWithin Streams store quotas before mode calls closed events refused → ClosesWithin Generator store quotas before mode calls closed events refused
unfolding closes_where
closes_within_where Streams Generator store quotas before mode calls closed events refused never c = record {
  closes = closes_where Streams Generator store before mode (admitted refused calls) closed events never c.closes;
  quotas_kept = c.quotas_kept;
}

module _ {F R E : Type 0} (of_file : F → FileState) (of_port : R → PortState) (draws : E → ℕ) (is_reliable : E → Type 0) (store : Store) (old new : ServiceValue F R) (before closed : BenchState)
    (was now : List (CallerSession E)) (steps : List Step) (refused : List RefusedCall) (has_before : HasDevices of_file of_port old before) (has_closed : HasDevices of_file of_port new closed) where
  -- the calls that were admitted were made one after another
  pub closes_within : (quotas : List Quota) → MakesCalls of_file of_port draws store old new was now (admitted refused steps) → (doubt : Option ℕ) (events : List Event)
      → length was ≡ length store.mounted.applications → AreFresh draws was → StayReliable is_reliable draws was now → events_at old.gate ≡ [] → events ≡ events_of new.gate.journal.knows.all
      → LeavesStore store new.gate.journal.knows closed.files closed.card doubt → KeepsPhaseQuotas quotas store new.gate.journal.knows.all steps refused
      → ClosesWithin (AreReliable is_reliable was) store quotas before Serial steps closed events refused
  unfolding closes_store
  closes_within quotas makes doubt events many fresh stay empty is leaves kept = record {
    closes = closes_store of_file of_port draws is_reliable store old new before closed was now (admitted refused steps) has_before has_closed makes Serial doubt events many fresh stay empty
        (λ none. serves_made of_file of_port draws store old new was now (admitted refused steps) makes none) is leaves;
    quotas_kept = kept;
  }

  -- memory ran out behind these
  pub closes_early_within : (quotas : List Quota) → quotas ≢ [] → (made : ℕ) → MakesCalls of_file of_port draws store old new was now (admitted refused (take made steps)) → (doubt : Option ℕ)
      → events_at old.gate ≡ [] → LeavesStore store new.gate.journal.knows closed.files closed.card doubt → HoldsOfAdmitted quotas steps (λ l. ClosesEarly store before Serial l closed)
  closes_early_within quotas some made makes doubt empty leaves = record {
    refused = refused;
    unrefused = λ none. absurd (some none);
    holds = closes_early of_file of_port draws is_reliable store old new before closed was now (admitted refused (take made steps)) has_before has_closed makes (admitted refused steps)
        (admitted_from (0 + length (take made steps)) refused (drop made steps)) doubt empty (admitted-cut refused made steps) leaves;
  }

-- a store that was closed as it was, has the devices of its opening
pub closed_state : {F R : Type 0} (of_file : F → FileState) (of_port : R → PortState) (o left : OpeningValue F R) (bench : Bench F R) → left ≡ o
    → files_of of_file bench.files.items ≡ bench_files of_file left → bench.card ≡ left.gate.host.port → bench_state of_file of_port bench ≡ opening_state of_file of_port o
closed_state of_file of_port o left bench same files card =
    (λ i. record { files = files i; card = of_port (card i) }) ∙ ap (opening_state of_file of_port) same
