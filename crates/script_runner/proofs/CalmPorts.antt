-- A port that is calm counts no fault, as long as it is not armed.
use Rattle.std.proofs.Common.{◌≡◌, ◌⊎◌, ◌∙◌, ◌||◌, ℕ, List, Bool, true, false, IsTrue, Result, Ok, Err, inl, inr, refl, sym, ap, subst}
use Rattle.disk_model.specs.State.{FileState, no_file}
use Rattle.tee_ports.specs.declared.failed.Failed.{Failed as FailedCall}
use Rattle.hmac_keys.specs.declared.Keys.{Keys}
use Rattle.hmac_keys.specs.KeyTable.{rpmb_key}
use Rattle.node_image.specs.declared.node.RootRef.{RootRef}
use Rattle.tee_types.specs.Limits.{directory_file}
use Rattle.rpmb_frame.specs.declared.frame.Frame.{Frame as CardFrame}
use Rattle.rpmb_card.specs.Arms.{no_arms}
use Rattle.rpmb_card.specs.Port.{Exchanged, PortState, Rearmed}
use Rattle.rpmb_host.specs.Calls.{WriteExchanges}
use Rattle.rpmb_host.specs.declared.fault.HostFault.{HostFault}
use Rattle.rpmb_host.specs.declared.fault.HostFault.TheVariants.{Failed as NoAnswer}
use Rattle.tee_types.specs.declared.reply.Cause.{Cause}
use Rattle.tee_types.specs.declared.reply.Cause.TheVariants.{Fault, Frame as FrameCause, CardResult as ResultCause}
use Rattle.tee_types.specs.declared.reply.Device.TheVariants.{Card, Dir, Entropy, File}
use Rattle.store_commit.specs.Causes.{Counted, StaysCalm, counts}
use Rattle.store_commit.specs.Counts.{CauseCounts, RefusalCounts, RefusalNotOfCard}
use Rattle.store_commit.specs.declared.fault.MountFault.{MountFault}
use Rattle.store_commit.specs.declared.fault.MountFault.TheVariants.{CardBlock, CardResult, Directory, Failed, Frame, NoMemory, NoStore, OldFormat, Spent}
use Rattle.store_commit.specs.Formats.{FormatHeard, IsFormatRefused}
use Rattle.store_commit.specs.Reads.{AsksBlock, AsksCounter, IsCardRead, IsRootWritten, OfHost}
use Rattle.store_model.specs.Object.{ObjectMap}
use Rattle.run_acts.specs.MountRefusals.{BenchCounts}
use Rattle.run_acts.specs.Opening.{OpeningValue}
use Rattle.run_acts.specs.Benches.{BenchState, opening_state}
use Rattle.run_acts.specs.ListedBenches.{IsListRefused, ListRefusal, ListsBench, StopsListing, starved, stopped, unasked, unmounted, unshown}
use Rattle.run_acts.specs.MountedDevices.{IsMounted, IsMountRefused}
use Rattle.run_acts.specs.Opens.{FormsBench, IsBlockUnread, IsNotFormed, IsOpenRefused, OpensBench, ReadsBlock, StopsOpening, found, made, starved as starved_opening, stopped as stopped_opening, unasked as unasked_opening, unformed, unread}

-- if it was calm, it is, and its count is as it was
abbrev pub CalmStep : (old new : PortState) → Type 0
CalmStep old new = IsTrue old.calm → StaysCalm old new

pub calm_same : (old new : PortState) → new ≡ old → CalmStep old new
calm_same old new same calm = subst (StaysCalm old) (sym same) (record { calm = calm; faults = refl })

pub calm_then : (a b c : PortState) → CalmStep a b → CalmStep b c → CalmStep a c
calm_then a b c first second calm =
    let one = first calm in
    let two = second one.calm in
    record { calm = two.calm; faults = two.faults ∙ one.faults }

pub or_true : (first second : Bool) → IsTrue second → IsTrue (first || second)
or_true true second is = refl
or_true false second is = is

pub calm_disarmed : (old new : PortState) → Rearmed old new no_arms → CalmStep old new
calm_disarmed old new r calm = record { calm = r.calm refl (or_true old.tells_arms old.calm calm); faults = ap (λ (p : PortState). p.faults) r.others }

-- an exchange
calm_exchanged : (old new : PortState) (frame : List ℕ) (outcome : Result (List ℕ) FailedCall) → Exchanged old new frame outcome → CalmStep old new
calm_exchanged old new frame (Ok answer) e calm = record { calm = e.stays_calm calm; faults = e.passed }
calm_exchanged old new frame (Err failed) e calm = let none : false ≡ true = e.calm calm in absurd cc

module _ (key : List ℕ) where
  calm_counter : (old new : PortState) (answer : Result CardFrame HostFault) → AsksCounter key old new answer → CalmStep old new
  calm_counter old new answer a = calm_exchanged old new _ a.outcome a.exchanged

  calm_block : (old new : PortState) (answer : Result CardFrame HostFault) → AsksBlock key old new answer → CalmStep old new
  calm_block old new answer a = calm_exchanged old new _ a.outcome a.exchanged

  calm_card : (old new : PortState) (counter : ℕ) (block : List ℕ) → IsCardRead key old new counter block → CalmStep old new
  calm_card old new counter block r =
      calm_then old r.between new (calm_counter old r.between _ ((r.first).asks)) (calm_block r.between new _ ((r.second).asks))

  calm_writes : (old new : PortState) (write : List ℕ) (outcome : Result (List ℕ) FailedCall) → WriteExchanges old new write outcome → CalmStep old new
  calm_writes old new write outcome (inl (err, e)) = calm_exchanged old new write outcome e
  calm_writes old new write outcome (inr (between, answer, first, second)) =
      calm_then old between new (calm_exchanged old between write (Ok answer) first) (calm_exchanged between new _ outcome second)

  calm_root : (old new : PortState) (root : RootRef) (answer : Result CardFrame HostFault) → IsRootWritten key old new root answer → CalmStep old new
  calm_root old new root answer r =
      calm_then old r.between new (calm_counter old r.between _ ((r.read).asks)) (calm_writes r.between new _ ((r.asks).outcome) ((r.asks).exchanged))

-- A REFUSAL
cause_still : (old new : Counted) (cause : Cause) → CauseCounts old new cause → RefusalNotOfCard (Failed cause) → new.port.faults ≡ old.port.faults
cause_still old new (Fault Dir count) counted other = counted.1
cause_still old new (Fault (File n) count) counted other = absurd counted
cause_still old new (Fault Card count) counted other = absurd other
cause_still old new (Fault Entropy count) counted other = counted.3
cause_still old new (FrameCause fault) counted other = counted.card
cause_still old new (ResultCause result) counted other = counted.card

refusal_still : (old new : Counted) (fault : MountFault) → RefusalCounts old new fault → RefusalNotOfCard fault → new.port.faults ≡ old.port.faults
refusal_still old new (Failed cause) counted other = cause_still old new cause counted other
refusal_still old new NoStore counted other = counted.card
refusal_still old new (CardBlock byte) counted other = counted.card
refusal_still old new (Directory fault) counted other = counted.card
refusal_still old new (Frame fault) counted other = counted.card
refusal_still old new (CardResult result) counted other = counted.card
refusal_still old new Spent counted other = counted.card
refusal_still old new (OldFormat file) counted other = counted.card
refusal_still old new NoMemory counted other = counted.card

bench_still : (old new : Counted) (fault : MountFault) → BenchCounts old new fault → RefusalNotOfCard fault → new.port.faults ≡ old.port.faults
bench_still old new (Failed (Fault (File n) count)) counted other = counted.card
bench_still old new (Failed (Fault Dir count)) counted other = cause_still old new (Fault Dir count) counted other
bench_still old new (Failed (Fault Card count)) counted other = absurd other
bench_still old new (Failed (Fault Entropy count)) counted other = cause_still old new (Fault Entropy count) counted other
bench_still old new (Failed (FrameCause fault)) counted other = counted.card
bench_still old new (Failed (ResultCause result)) counted other = counted.card
bench_still old new NoStore counted other = counted.card
bench_still old new (CardBlock byte) counted other = counted.card
bench_still old new (Directory fault) counted other = counted.card
bench_still old new (Frame fault) counted other = counted.card
bench_still old new (CardResult result) counted other = counted.card
bench_still old new Spent counted other = counted.card
bench_still old new (OldFormat file) counted other = counted.card
bench_still old new NoMemory counted other = counted.card

-- it is a failure of the card, or another one
of_card : (fault : MountFault) → RefusalNotOfCard fault ⊎ ((count : ℕ) × (fault ≡ Failed (Fault Card count)))
of_card (Failed (Fault Card count)) = inr (count, refl)
of_card (Failed (Fault Dir count)) = inl tt
of_card (Failed (Fault (File n) count)) = inl tt
of_card (Failed (Fault Entropy count)) = inl tt
of_card (Failed (FrameCause fault)) = inl tt
of_card (Failed (ResultCause result)) = inl tt
of_card NoStore = inl tt
of_card (CardBlock byte) = inl tt
of_card (Directory fault) = inl tt
of_card (Frame fault) = inl tt
of_card (CardResult result) = inl tt
of_card Spent = inl tt
of_card (OldFormat file) = inl tt
of_card NoMemory = inl tt

module _ (keys : Keys) where
  abbrev key : List ℕ
  key = rpmb_key keys.huk

  -- A BENCH THAT IS OPENED
  calm_read : (old new : BenchState) (block : List ℕ) → ReadsBlock keys old new block → CalmStep old.card new.card
  calm_read old new block r calm = record { calm = (r.port).calm calm; faults = r.passed }

  calm_unread : (old new : BenchState) (drew draws : ℕ) (fault : MountFault) → IsBlockUnread keys old new drew draws fault → CalmStep old.card new.card
  calm_unread old new drew draws fault u calm = elim (of_card fault) [
    | inl other ↦ record { calm = (u.port).calm calm; faults = refusal_still (counts no_file old.card drew) (counts no_file new.card draws) fault (u.counted no_file) other }
    | inr accused ↦ calm_block key old.card new.card _ (subst (OfHost (λ f. AsksBlock key old.card new.card (Err f))) accused.1 u.heard) calm
  ]

  calm_formed : (old new : BenchState) → FormsBench keys old new → CalmStep old.card new.card
  calm_formed old new f calm = record { calm = ((f.goes_on).port).calm calm; faults = f.card_passed }

  calm_refused_format : (old new : FileState) (p q : PortState) (fault : HostFault) → IsFormatRefused old new p q key fault → CalmStep p q
  calm_refused_format old new p q fault (inl (asks, same)) = calm_counter key p q _ asks
  calm_refused_format old new p q fault (inr (root, written)) = calm_root key p q root _ written

  calm_unformed : (old new : BenchState) (drew draws : ℕ) (fault : MountFault) → IsNotFormed keys old new drew draws fault → CalmStep old.card new.card
  calm_unformed old new drew draws fault u calm = elim (of_card fault) [
    | inl other ↦ record { calm = ((u.goes_on).port).calm calm; faults = refusal_still (counts (old.files directory_file) old.card drew) (counts (new.files directory_file) new.card draws) fault u.counted other }
    | inr accused ↦ calm_refused_format (old.files directory_file) (new.files directory_file) old.card new.card (NoAnswer accused.0) (subst (FormatHeard (old.files directory_file) (new.files directory_file) old.card new.card keys) accused.1 u.heard) calm
  ]

  pub calm_opened : (old new : BenchState) → OpensBench keys old new → CalmStep old.card new.card
  calm_opened old new (found block some reads) = calm_read old new block reads
  calm_opened old new (made block between blank reads forms) = calm_then old.card between.card new.card (calm_read old between block reads) (calm_formed between new forms)

  calm_stopped : (old new : BenchState) (drew draws : ℕ) (fault : MountFault) → StopsOpening keys old new drew draws fault → CalmStep old.card new.card
  calm_stopped old new drew draws fault (unread u) = calm_unread old new drew draws fault u
  calm_stopped old new drew draws fault (unformed block between blank reads not) =
      calm_then old.card between.card new.card (calm_read old between block reads) (calm_unformed between new drew draws fault not)

  pub calm_shut : (old new : BenchState) (drew draws : ℕ) (fault : MountFault) → IsOpenRefused keys old new drew draws fault → CalmStep old.card new.card
  calm_shut old new drew draws fault (stopped_opening stops memory) = calm_stopped old new drew draws fault stops
  calm_shut old new drew draws fault (unasked_opening is same) = calm_same old.card new.card (ap (λ (b : BenchState). b.card) same)
  calm_shut old new drew draws fault (starved_opening other is stops gone) = calm_stopped old new drew draws other stops

  -- ONE THAT IS MOUNTED, OR LISTED
  pub calm_refused : (old new : BenchState) (drew draws : ℕ) (fault : MountFault) → IsMountRefused keys old new drew draws fault → CalmStep old.card new.card
  calm_refused old new drew draws fault m calm =
      let found = m.calm calm in
      record { calm = found.0; faults = bench_still (counts (old.files directory_file) old.card drew) (counts (new.files directory_file) new.card draws) fault m.counted found.1 }

  module _ {F R : Type 0} (of_file : F → FileState) (of_port : R → PortState) where
    pub calm_mounted : (old : BenchState) (o : OpeningValue F R) → IsMounted of_file of_port keys old o → CalmStep old.card ((opening_state of_file of_port o).card)
    calm_mounted old o m = calm_card key old.card (opening_state of_file of_port o).card _ _ ((((m.gate).heard).read))

    module _ (old new : BenchState) (drew draws : ℕ) where
      calm_stop : (fault : MountFault) → StopsListing of_file of_port keys old new drew draws fault → CalmStep old.card new.card
      calm_stop fault (unmounted refused) = calm_refused old new drew draws fault refused
      calm_stop fault (unshown cut) =
          calm_then old.card (opening_state of_file of_port cut.opened).card new.card (calm_mounted old cut.opened cut.mounts)
          (calm_same (opening_state of_file of_port cut.opened).card new.card cut.card)

      calm_why : (fault : MountFault) → ListRefusal of_file of_port keys old new drew draws fault → CalmStep old.card new.card
      calm_why fault (stopped stops memory) = calm_stop fault stops
      calm_why fault (unasked is same) = calm_same old.card new.card (ap (λ (b : BenchState). b.card) same)
      calm_why fault (starved other is stops gone) = calm_stop other stops

      pub calm_unlisted : (fault : MountFault) → IsListRefused of_file of_port keys old new drew draws fault → CalmStep old.card new.card
      calm_unlisted fault refused = calm_why fault refused.why

    pub calm_listed : (old new : BenchState) (objects : ObjectMap) (lines : List ℕ) → ListsBench of_file of_port keys old new objects lines → CalmStep old.card new.card
    calm_listed old new objects lines l =
        calm_then old.card (opening_state of_file of_port l.opened).card new.card (calm_mounted old l.opened l.mounts) (calm_same (opening_state of_file of_port l.opened).card new.card l.card)
