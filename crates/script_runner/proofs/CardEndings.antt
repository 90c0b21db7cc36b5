-- How a run of the lines of the card ends.
use Rattle.std.proofs.Common.{◌≡◌, ◌+◌, ◌<◌, ◌≤◌, ◌⊎◌, inl, inr, ℕ, List, [], ◌∷◌, ◌++◌, length, take, drop, get_or, Option, Some, None, refl, sym, ap, subst, ◌∙◌, append_assoc}
use Rattle.std.proofs.lemmas.List.{append-nil, drop_all, take-append-drop}
use Rattle.tee_types.specs.declared.reply.Cause.{Cause}
use Rattle.tee_types.specs.declared.reply.Cause.TheVariants.{CardResult, Fault, Frame}
use Rattle.rpmb_card.specs.Port.{PortState}
use Rattle.tee_ports.specs.Streams.{Appends}
use Rattle.tee_ports.proofs.Streams.{Appends-append, Appends-none}
use Rattle.card_script.specs.declared.card_line.CardLine.{CardLine}
use Rattle.card_script.specs.declared.card_line.CardLine.TheVariants.{Remount}
use Rattle.card_maps.specs.Course as course
use Rattle.rpmb_files.specs.declared.fault.CardFault.{CardFault}
use Rattle.rpmb_files.specs.declared.fault.CardFault.TheVariants.{Bad, Device, NoMemory as Starved}
use Rattle.rpmb_files.specs.Devices.{devices}
use Rattle.rpmb_files.specs.Stores.{StoreState, store_state}
use Rattle.run_acts.specs.declared.MountFault.{MountFault}
use Rattle.run_acts.specs.Lines.{refusal_line, why_text}
use Rattle.script_runner.specs.declared.status.Status.{Status}
use Rattle.script_runner.specs.declared.status.Status.TheVariants.{CardMapRefused, DeviceFault, Done, MountRefused, NoMemory, WriteFault}
use Rattle.script_runner.specs.declared.card_state.CardEnd.{CardEnd}
use Rattle.script_runner.specs.declared.card_state.CardRun.{CardRun}
use Rattle.script_runner.specs.Sending.{Begins, IsWriteError, Sends, Stops}
use Rattle.script_runner.specs.Prints.{PrintsLines}
use Rattle.script_runner.specs.RunRefusals.{IsDeviceFault, IsRefusal}
use Rattle.script_runner.specs.CardRecords.{CardRecord, lines_text, mount_line, told_mount}
use Rattle.script_runner.specs.CardSteps.{GoesThrough, IsRefusedAt, MakesCall, MountsOn, RefusesMount, StandsAt, at_first, at_line}
use Rattle.script_runner.specs.CardRuns.{EndsAtMount, PrintsMount, RunsLines, all_done, at_mount, cut_off, starved}
use Rattle.script_runner.specs.CardRunning.{CardStops, unlisted, unmade, unmounted, unsent}
use Rattle.script_runner.proofs.Sent.{Stops-append, Stops-sent}
use Rattle.script_runner.proofs.CardLoops.{GoesThrough-length, LinesDone, goes-more, lines_text-front, rest, text-more}

IsWriteError-more : (failed more : Type 0) (status : Status) → (failed → more) → IsWriteError failed status → IsWriteError more status
IsWriteError-more failed more WriteFault f error = f error
IsWriteError-more failed more NoMemory f error = tt
IsWriteError-more failed more status f error = absurd error

-- what is put is a front of a text
put-of : (held_old held_new : Option (List ℕ)) (text : List ℕ) → Stops held_old held_new [] text → (put : List ℕ) × Appends held_old held_new put × Begins put text
put-of held_old held_new text stops = stops

module _ (failed more : Type 0) (f : failed → more) (held_old held held_new : Option (List ℕ)) (text kept : List ℕ) (sends : Sends held_old held [] kept text) where
  -- what was put where a mount was refused behind this text
  pub record EndsMount (fault : CardFault) (status : Status) : Type 0 where
    pub put : List ℕ
    pub appended : Appends held_old held_new put
    pub begins : Begins put (text ++ mount_line fault)
    pub ends : EndsAtMount more put (text ++ mount_line fault) fault status

  -- all of the line was put behind what was kept
  whole : (line : List ℕ) → Appends held held_new (kept ++ line) → (put : List ℕ) × Appends held_old held_new put × (put ≡ text ++ line)
  whole line appends = (
    sends.0 ++ (kept ++ line),
    Appends-append held_old held held_new sends.0 (kept ++ line) sends.1 appends,
    sym (append_assoc sends.0 kept line) ∙ ap (λ t. t ++ line) (sym sends.2),
  )

  part : (fault : CardFault) (status : Status) → ((put : List ℕ) → EndsAtMount more put (text ++ mount_line fault) fault status) → Stops held held_new kept (mount_line fault) → EndsMount fault status
  part fault status ends stops =
      let s = Stops-append held_old held held_new [] kept text (mount_line fault) sends stops in
      record { put = s.0; appended = s.1; begins = s.2; ends = ends s.0 }

  entire : (fault : CardFault) (status : Status) → ((put : List ℕ) → put ≡ text ++ mount_line fault → EndsAtMount more put (text ++ mount_line fault) fault status)
      → Appends held held_new (kept ++ mount_line fault) → EndsMount fault status
  entire fault status ends appends =
      let w = whole (mount_line fault) appends in
      record { put = w.0; appended = w.1; begins = ([], sym (append-nil w.0 ∙ w.2)); ends = ends w.0 w.2 }

  -- nothing is told of a device that failed
  untold : (cause : Cause) → IsDeviceFault (told_mount cause) → mount_line (Device cause) ≡ []
  unfolding refusal_line why_text
  untold (Fault device count) is = refl
  untold (Frame fault) is = absurd is
  untold (CardResult value) is = absurd is

  of_device : (cause : Cause) (told : MountFault) → told ≡ told_mount cause → IsDeviceFault (told_mount cause) → Appends held held_new kept ⊎ (failed × Stops held held_new kept []) → EndsMount (Device cause) (DeviceFault told)
  of_device cause told same is (inl appends) =
      let none = untold cause is in
      entire (Device cause) (DeviceFault told) (λ put whole_of. (same, subst IsDeviceFault (sym same) is, inl whole_of))
      (subst (λ line. Appends held held_new (kept ++ line)) (sym none) (subst (Appends held held_new) (sym (append-nil kept)) appends))
  of_device cause told same is (inr cut) =
      part (Device cause) (DeviceFault told) (λ put. (same, subst IsDeviceFault (sym same) is, inr (f cut.0))) (subst (Stops held held_new kept) (sym (untold cause is)) cut.1)

  pub mount-ends : (fault : CardFault) (status : Status) → PrintsMount failed held held_new kept fault status → EndsMount fault status
  mount-ends (Bad block offset) (CardMapRefused told at) prints = entire (Bad block offset) (CardMapRefused told at) (λ put is. (prints.0, prints.1, is)) prints.2
  mount-ends (Bad block offset) WriteFault prints = part (Bad block offset) WriteFault (λ put. f prints.0) prints.1
  mount-ends (Bad block offset) NoMemory prints = part (Bad block offset) NoMemory (λ put. tt) prints
  mount-ends (Device cause) (MountRefused told) prints = entire (Device cause) (MountRefused told) (λ put is. (prints.0, subst IsRefusal (sym prints.0) prints.1, is)) prints.2
  mount-ends (Device cause) WriteFault prints = part (Device cause) WriteFault (λ put. (prints.0, f prints.1)) prints.2
  mount-ends (Device cause) NoMemory prints = part (Device cause) NoMemory (λ put. prints.0) prints.1
  mount-ends (Device cause) (DeviceFault told) prints = of_device cause told prints.0 prints.1 prints.2
  mount-ends Starved NoMemory prints = part Starved NoMemory (λ put. tt) prints
  mount-ends fault status prints = absurd prints

-- the first of the lines were done
module _ (Reliable : Type 0) (key : List ℕ) (lines : List CardLine) (handed : PortState) (first now : StoreState) (mounted : MountsOn key (devices handed 0) first) (at : ℕ) (records : List CardRecord) (goes : GoesThrough Reliable (take at lines) records first now) where
  pub stands : StandsAt Reliable key lines handed records (drop at lines) now
  stands = record { first = first; mounted = mounted; done = take at lines; front = sym (take-append-drop at lines); goes = goes }

  pub output : (line : List ℕ) → lines_text 0 (take at lines) records ++ line ≡ lines_text 0 lines records ++ line
  output line = ap (λ t. t ++ line) (sym (ap (λ ls. lines_text 0 ls records) (sym (take-append-drop at lines))
      ∙ lines_text-front 0 (take at lines) (drop at lines) records (GoesThrough-length Reliable (take at lines) records first now goes)))

  module _ (more : Type 0) (held_old held_new : Option (List ℕ)) (given : PortState) (status : Status) where
    abbrev Ends : Type 0
    Ends = RunsLines Reliable key more lines held_old held_new handed given status

    begins-output : (put line : List ℕ) → Begins put (lines_text 0 (take at lines) records ++ line) → Begins put (lines_text 0 lines records ++ line)
    begins-output put line begins = (begins.0, sym (output line) ∙ begins.1)

    nothing-behind : (text : List ℕ) → Stops held_old held_new [] text → Stops held_old held_new [] (text ++ [])
    nothing-behind text stops = subst (Stops held_old held_new []) (sym (append-nil text)) stops

    -- the text of what was done was not put to its end
    pub ends-cut : given ≡ now.devices.port → Stops held_old held_new [] (lines_text 0 (take at lines) records) → IsWriteError more status → Ends
    ends-cut port stops error =
        let s = nothing-behind (lines_text 0 (take at lines) records) stops in record {
          put = s.0;
          records = records;
          refused = None;
          appended = s.1;
          ends = cut_off (drop at lines) now stands port refl (begins-output s.0 [] s.2) error;
        }

    -- memory ran out in a call of the next line
    pub ends-starved : (line : CardLine) → drop at lines ≡ line ∷ drop (at + 1) lines → (next : StoreState) (call : course.CardCall) (reply : course.CardReply) → MakesCall Reliable now next call reply
        → given ≡ next.devices.port → Stops held_old held_new [] (lines_text 0 (take at lines) records) → status ≡ NoMemory → Ends
    ends-starved line rest next call reply makes port stops is =
        let s = nothing-behind (lines_text 0 (take at lines) records) stops in record {
          put = s.0;
          records = records;
          refused = None;
          appended = s.1;
          ends = starved line (drop (at + 1) lines) now next call reply (subst (λ left. StandsAt Reliable key lines handed records left now) rest stands) makes port refl (begins-output s.0 [] s.2) is;
        }

    -- every line was done
    pub ends-done : length lines ≤ at → given ≡ now.devices.port → (put : List ℕ) → Appends held_old held_new put → put ≡ lines_text 0 (take at lines) records → status ≡ Done → Ends
    ends-done all port put appends is done = record {
      put = put;
      records = records;
      refused = None;
      appended = appends;
      ends = all_done now (subst (λ left. StandsAt Reliable key lines handed records left now) (drop_all at lines all) stands) port refl
          (is ∙ sym (append-nil (lines_text 0 (take at lines) records)) ∙ output []) done;
    }

    -- a mount was refused
    pub ends-refused : (failed : Type 0) (f : failed → more) (held : Option (List ℕ)) (kept : List ℕ) (sends : Sends held_old held [] kept (lines_text 0 (take at lines) records)) (fault : CardFault)
        → IsRefusedAt Reliable key lines handed given records fault → PrintsMount failed held held_new kept fault status → Ends
    ends-refused failed f held kept sends fault refused prints =
        let m = mount-ends failed more f held_old held held_new (lines_text 0 (take at lines) records) kept sends fault status prints in record {
          put = m.put;
          records = records;
          refused = Some fault;
          appended = m.appended;
          ends = at_mount fault refl refused (begins-output m.put (mount_line fault) m.begins)
              (subst (λ text. EndsAtMount more m.put text fault status) (output (mount_line fault)) m.ends);
        }

-- the run ended in the line at that place
module _ {R E : Type 0} (of_port : R → PortState) (draws : E → ℕ) (Reliable : Type 0) (key : List ℕ) (lines : List CardLine) (handed : PortState) (first : StoreState) (mounted : MountsOn key (devices handed 0) first) where
  pub RunsLines-stopped : (failed more : Type 0) (f : failed → more) (held_old held held_new : Option (List ℕ)) (run : CardRun R E) (end : CardEnd R) (line : CardLine)
      (within : run.at < length lines) (is : line ≡ get_or lines run.at line) (so_far : LinesDone Reliable lines held_old held first (store_state of_port draws run.store) run.at run.kept.items)
      → CardStops of_port draws Reliable failed line held held_new run end → RunsLines Reliable key more lines held_old held_new handed (of_port end.card) end.status
  RunsLines-stopped failed more f held_old held held_new run end line within is so_far (unsent done next does port stops error) =
      let now = store_state of_port draws run.store in
      ends-cut Reliable key lines handed first next mounted (run.at + 1) (so_far.records ++ done ∷ [])
      (goes-more Reliable lines held_old held held_new first now next run.at run.kept.items line within is so_far done does)
      more held_old held_new (of_port end.card) end.status port
      (subst (Stops held_old held_new []) (sym (text-more Reliable lines held_old held held_new first now next run.at run.kept.items line within is so_far done))
      (Stops-append held_old held held_new [] run.kept.items _ _ so_far.sends stops))
      (IsWriteError-more failed more end.status f error)
  RunsLines-stopped failed more f held_old held held_new run end line within is so_far (unmade call reply next makes port same status) =
      ends-starved Reliable key lines handed first (store_state of_port draws run.store) mounted run.at so_far.records so_far.goes more held_old held_new (of_port end.card) end.status
      line (rest Reliable lines held_old held held_new first (store_state of_port draws run.store) next run.at run.kept.items line within is so_far) next call reply makes port
      (subst (λ h. Stops held_old h [] (lines_text 0 (take run.at lines) so_far.records)) (sym same) (Stops-sent held_old held [] run.kept.items _ so_far.sends)) status
  RunsLines-stopped failed more f held_old held held_new run end line within is so_far (unlisted port same status) =
      ends-cut Reliable key lines handed first (store_state of_port draws run.store) mounted run.at so_far.records so_far.goes more held_old held_new (of_port end.card) end.status port
      (subst (λ h. Stops held_old h [] (lines_text 0 (take run.at lines) so_far.records)) (sym same) (Stops-sent held_old held [] run.kept.items _ so_far.sends))
      (subst (IsWriteError more) (sym status) tt)
  RunsLines-stopped failed more f held_old held held_new run end line within is so_far (unmounted between fault drawn remounts disarms refuses prints) =
      let now = store_state of_port draws run.store in
      let left = rest Reliable lines held_old held held_new first now now run.at run.kept.items line within is so_far in
      let standing : StandsAt Reliable key lines handed so_far.records (Remount ∷ drop (run.at + 1) lines) now =
      subst (λ ls. StandsAt Reliable key lines handed so_far.records ls now) (left ∙ ap (λ l. l ∷ drop (run.at + 1) lines) remounts)
      (stands Reliable key lines handed first now mounted run.at so_far.records so_far.goes) in
      ends-refused Reliable key lines handed first now mounted run.at so_far.records so_far.goes more held_old held_new (of_port end.card) end.status failed f held run.kept.items so_far.sends fault
      (at_line (drop (run.at + 1) lines) now between drawn standing disarms refuses) prints

  pub RunsLines-finished : (failed more : Type 0) (f : failed → more) (held_old held held_new : Option (List ℕ)) (run : CardRun R E) (end : CardEnd R)
      (all : length lines ≤ run.at) (so_far : LinesDone Reliable lines held_old held first (store_state of_port draws run.store) run.at run.kept.items)
      → end.card ≡ run.store.host.port → (status : Status) → end.status ≡ status → PrintsLines failed held held_new run.kept.items status → RunsLines Reliable key more lines held_old held_new handed (of_port end.card) end.status
  RunsLines-finished failed more f held_old held held_new run end all so_far port Done same prints =
      ends-done Reliable key lines handed first (store_state of_port draws run.store) mounted run.at so_far.records so_far.goes more held_old held_new (of_port end.card) end.status all (ap of_port port)
      ((so_far.sends).0 ++ run.kept.items) (Appends-append held_old held held_new (so_far.sends).0 run.kept.items (so_far.sends).1 prints) (sym (so_far.sends).2) same
  RunsLines-finished failed more f held_old held held_new run end all so_far port WriteFault same prints =
      ends-cut Reliable key lines handed first (store_state of_port draws run.store) mounted run.at so_far.records so_far.goes more held_old held_new (of_port end.card) end.status (ap of_port port)
      (subst (Stops held_old held_new []) (append-nil (lines_text 0 (take run.at lines) so_far.records)) (Stops-append held_old held held_new [] run.kept.items _ [] so_far.sends prints.1))
      (subst (IsWriteError more) (sym same) (f prints.0))
  RunsLines-finished failed more f held_old held held_new run end all so_far port status same prints = absurd prints

-- the first mount was refused
pub RunsLines-shut : (Reliable : Type 0) (key : List ℕ) (lines : List CardLine) (handed given : PortState) (failed : Type 0) (held_old held_new : Option (List ℕ)) (fault : CardFault) (status : Status) (drawn : ℕ) (kept : List ℕ) → kept ≡ []
    → RefusesMount Reliable key (devices handed 0) (devices given drawn) fault → PrintsMount failed held_old held_new kept fault status → RunsLines Reliable key failed lines held_old held_new handed given status
unfolding lines_text
RunsLines-shut Reliable key lines handed given failed held_old held_new fault status drawn kept none refuses prints =
    let m = mount-ends failed failed (λ x. x) held_old held_old held_new [] kept ([], Appends-none held_old, sym none) fault status prints in
    let text : [] ++ mount_line fault ≡ lines_text 0 lines [] ++ mount_line fault = ap (λ t. t ++ mount_line fault) (sym (no_records lines)) in record {
      put = m.put;
      records = [];
      refused = Some fault;
      appended = m.appended;
      ends = at_mount fault refl (at_first drawn refl refuses) (subst (Begins m.put) text m.begins) (subst (λ t. EndsAtMount failed m.put t fault status) text m.ends);
    }
  where
    no_records : (lines : List CardLine) → lines_text 0 lines [] ≡ []
    no_records [] = refl
    no_records (line ∷ lines) = refl
