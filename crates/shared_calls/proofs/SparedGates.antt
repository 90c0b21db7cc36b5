-- A gate, over the answer of an object's file that accuses no device of the gate.
use Rattle.std.proofs.Common.{◌≡◌, ◌++◌, ◌∷◌, ◌∙◌, [], ℕ, List, None, ap, inl, refl, subst, sym}
use Rattle.tee_types.specs.Limits.{IsObjectFile}
use Rattle.serial_calls.specs.CallerSessions.{CallerSession}
use Rattle.serial_calls.specs.ChangeReplies.{IsFailure}
use Rattle.disk_model.specs.State.{FileState}
use Rattle.history_seats.specs.Records.{HistoryRecord, Version}
use Rattle.hmac_keys.specs.KeyTable.{rpmb_key}
use Rattle.serial_calls.specs.declared.PlacedReply.{PlacedReply}
use Rattle.serial_calls.specs.GuardedGates.{GuardedGateValue}
use Rattle.serial_calls.specs.FileAnswers.{Fails, IsFileAnswer, Refuses, Spent, Tells, Undrawn}
use Rattle.serial_calls.specs.AnswerServed.{IsServed}
use Rattle.rpmb_card.specs.Port.{PortState}
use Rattle.store_model.specs.Record.{events_of}
use Rattle.store_model.specs.declared.event.Mark.{Mark}
use Rattle.store_model.specs.declared.event.Event.{Event}
use Rattle.store_model.specs.declared.event.Event.TheVariants.{Call as CallEvent}
use Rattle.serial_calls.specs.Given.{Tells as TellsDecoding, decoding_given}
use Rattle.serial_calls.specs.Decodings.{Decoding}
use Rattle.serial_calls.specs.Stores.{Store}
use Rattle.tee_types.specs.declared.call.Call.{Call}
use Rattle.tee_types.specs.declared.call.Call.TheVariants.{Info, Open, Read}
use Rattle.tee_types.specs.declared.reply.Cause.{Cause}
use Rattle.tee_types.specs.declared.reply.Cause.TheVariants.{CardResult, Fault, Frame}
use Rattle.tee_types.specs.declared.reply.Device.TheVariants.{Card, Dir, Entropy, File}
use Rattle.tee_types.specs.declared.reply.Reply.{Reply}
use Rattle.tee_types.specs.declared.reply.Reply.TheVariants.{Corrupt, NotAvailable}
use Rattle.serial_calls.specs.EventCounts.{events_at}
use Rattle.serial_calls.specs.Appended.{AppendsCall}
use Rattle.serial_calls.specs.Cards.{CostsTwo, IsNoFrame}
use Rattle.serial_calls.specs.DeviceCounts.{Rise, told_of}
use Rattle.serial_calls.specs.Devices.{Devices}
use Rattle.serial_calls.specs.Slots.{AreOfObjectFiles}
use Rattle.serial_calls.proofs.CarriedCounts.{counts_of-call}
use Rattle.serial_calls.proofs.CountGrowth.{grows_le}
use Rattle.serial_calls.proofs.MoreRecords.{events_more, tagged_more}
use Rattle.serial_calls.proofs.ToldCalls.{GatesGoOn, quiet_goes_on, told_appends, told_mark}
use Rattle.shared_calls.specs.Kept.{KeepsGate}
use Rattle.shared_calls.proofs.KeptGates.{keeps-added, known-session}

-- The reply accuses neither the directory's file nor the card.
abbrev pub SparesGate : Reply → Type 0
SparesGate (NotAvailable (Fault Dir count)) = ⊥
SparesGate (NotAvailable (Fault Card count)) = ⊥
SparesGate (NotAvailable (Frame fault)) = ⊥
SparesGate (NotAvailable (CardResult result)) = ⊥
SparesGate reply = Unit {0}

-- no spelling tells that a device failed
tells-available : (sp : Decoding) (size attributes position : ℕ) (call : Call) (cause : Cause) → TellsDecoding sp size attributes position call (NotAvailable cause) → ⊥
tells-available sp size attributes position (Open id flags) cause tells = tells
tells-available sp size attributes position (Read handle count) cause tells = tells
tells-available sp size attributes position (Info handle) cause tells = tells
tells-available sp size attributes position call cause tells = tells

told-spares : (sp : Decoding) (size attributes position : ℕ) (call : Call) (reply : Reply) → IsFailure reply → TellsDecoding sp size attributes position call reply → SparesGate reply
told-spares sp size attributes position call Corrupt failure tells = tt
told-spares sp size attributes position call (NotAvailable cause) failure tells = absurd (tells-available sp size attributes position call cause tells)
told-spares sp size attributes position call reply failure tells = absurd failure

-- why an object's file gave nothing
pub failure-spares : (store : Store) (file : FileState) (number : ℕ) (v : Version) (position : ℕ) (call : Call) (reply : Reply) → IsFailure reply → IsFileAnswer store file number v position call reply → SparesGate reply
failure-spares store file number v position call reply failure (Tells told honest) = told-spares (decoding_given told.gave) v.size v.attributes position call reply failure told.tells
failure-spares store file number v position call reply failure (Refuses is honest) = subst SparesGate (sym is) tt
failure-spares store file number v position call reply failure (Fails count is) = subst SparesGate (sym is) tt
failure-spares store file number v position call reply failure (Undrawn count is spared) = subst SparesGate (sym is) tt
failure-spares store file number v position call reply failure (Spent is spared) = subst SparesGate (sym is) tt

-- it carries no count of theirs, and no frame
spares-dir : (reply : Reply) → SparesGate reply → told_of Dir reply ≡ []
spares-dir (NotAvailable (Fault Dir count)) spares = absurd spares
spares-dir (NotAvailable (Fault Card count)) spares = refl
spares-dir (NotAvailable (Fault Entropy count)) spares = refl
spares-dir (NotAvailable (Fault (File n) count)) spares = refl
spares-dir (NotAvailable (Frame fault)) spares = refl
spares-dir (NotAvailable (CardResult result)) spares = refl
spares-dir reply spares = refl

spares-card : (reply : Reply) → SparesGate reply → told_of Card reply ≡ []
spares-card (NotAvailable (Fault Dir count)) spares = refl
spares-card (NotAvailable (Fault Card count)) spares = absurd spares
spares-card (NotAvailable (Fault Entropy count)) spares = refl
spares-card (NotAvailable (Fault (File n) count)) spares = refl
spares-card (NotAvailable (Frame fault)) spares = refl
spares-card (NotAvailable (CardResult result)) spares = refl
spares-card reply spares = refl

spares-frame : (reply : Reply) → SparesGate reply → IsNoFrame reply
spares-frame (NotAvailable (Fault device count)) spares = tt
spares-frame (NotAvailable (Frame fault)) spares = absurd spares
spares-frame (NotAvailable (CardResult result)) spares = absurd spares
spares-frame reply spares = tt

module _ {F R E : Type 0} (of_file : F → FileState) (of_port : R → PortState) (store : Store) (before : Devices) (old new : GuardedGateValue F R) (was now : CallerSession E) (file : ℕ) (object : IsObjectFile file)
    (call : Call) (answer : PlacedReply) where
  abbrev key : List ℕ
  key = rpmb_key store.keys.huk

  pub keeps-spared : IsServed store old new was now file call answer → SparesGate answer.reply → KeepsGate of_file of_port store before old → KeepsGate of_file of_port store before new
  keeps-spared s spares k =
      let gates : GatesGoOn of_file of_port (λ e. 0) key old.gate new.gate was now = quiet_goes_on of_file of_port (λ e. 0) key old.gate new.gate was now s.gate (inl refl) in
      let a : AppendsCall store old new was now call answer = told_appends store old new was now file object call answer s in
      let added : List Event = CallEvent was.number was.made call answer.reply a.mark ∷ [] in
      let events : events_at new ≡ events_at old ++ added =
      ap (λ (l : List HistoryRecord). events_of l) a.all ∙ events_more old.journal.knows.all a.last ∙ ap (λ (e : Event). events_at old ++ e ∷ []) a.event in
      let dir0 : FileState = of_file old.gate.dir.file in
      let dir1 : FileState = of_file new.gate.dir.file in
      let port0 : PortState = of_port old.gate.host.port in
      let port1 : PortState = of_port new.gate.host.port in
      keeps-added of_file of_port store before old new k gates.dir gates.card added events (known-session of_file of_port store before old new was now call answer a, tt)
      (subst AreOfObjectFiles (sym a.all) (tagged_more old.journal.knows.all a.last a.tagged k.tagged))
      (subst (Rise dir0.faults dir1.faults) (sym (counts_of-call was.number was.made call answer.reply a.mark Dir None ∙ spares-dir answer.reply spares)) (grows_le dir0.faults dir1.faults gates.dir.faults))
      (subst (Rise port0.faults port1.faults) (sym (counts_of-call was.number was.made call answer.reply a.mark Card None ∙ spares-card answer.reply spares)) gates.card.counted)
      (record { frames = λ had. (spares-frame answer.reply spares, tt); doubts = λ had. (subst (λ (m : Mark). CostsTwo port0.faults m answer.reply) (sym (told_mark store old new was now file object call answer s)) tt, tt) })
