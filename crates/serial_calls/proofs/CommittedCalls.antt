-- What a commit on an object leaves of the store that serves it.
use Rattle.std.proofs.Common.{◌≡◌, ℕ, List, None, Option, Some, refl, sym, ap, ◌∙◌, subst}
use Rattle.tee_types.specs.Limits.{IsObjectFile}
use Rattle.call_steps.specs.CallerSessions.{CallerSession}
use Rattle.crash_core.specs.EntryChanges.{file_put}
use Rattle.disk_model.specs.State.{FileState}
use Rattle.history_seats.specs.Views.{GateView}
use Rattle.call_steps.specs.declared.PlacedReply.{PlacedReply}
use Rattle.call_steps.specs.GateEnds.{mark_told, reply_told}
use Rattle.call_steps.specs.GuardedGates.{GuardedGateValue}
use Rattle.call_steps.specs.ObjectCommits.{IsCommitted}
use Rattle.rpmb_card.specs.Card.{CardState}
use Rattle.rpmb_card.specs.Port.{PortState}
use Rattle.rpmb_host.specs.Honest.{HadCard, HasCard}
use Rattle.call_steps.specs.CardEnds.{CardGoesOn}
use Rattle.call_steps.specs.Causes.{CauseStands, Counted, DoubtIsByCard, EndCause, NoCard, counts}
use Rattle.call_steps.specs.Counts.{CauseCounts, DoubtCounts, EndCounts, RoseAlone}
use Rattle.call_steps.specs.Gates.{GateValue, LeavesHolds, file_in_doubt, gate_sides}
use Rattle.call_steps.specs.Heard.{EndHeard, HeardCause}
use Rattle.call_steps.specs.Holds.{EndsHold, file_held, unless_file}
use Rattle.call_steps.specs.declared.CommitEnd.{CommitEnd}
use Rattle.call_steps.specs.declared.CommitEnd.TheVariants.{Doubtful, Dropped, Made, Spent}
use Rattle.call_steps.specs.declared.EntryChange.{EntryChange}
use Rattle.store_model.specs.declared.event.Event.TheVariants.{Call as CallEvent}
use Rattle.core_laws.specs.Stores.{Store}
use Rattle.tee_types.specs.declared.call.Call.{Call}
use Rattle.tee_types.specs.declared.reply.Cause.{Cause}
use Rattle.tee_types.specs.declared.reply.Cause.TheVariants.{CardResult, Fault, Frame}
use Rattle.tee_types.specs.declared.reply.Device.{Device}
use Rattle.tee_types.specs.declared.reply.Device.TheVariants.{Card, Dir, Entropy, File}
use Rattle.tee_types.specs.declared.reply.Reply.{Reply}
use Rattle.tee_types.specs.declared.reply.Reply.TheVariants.{NotAvailable}
use Rattle.call_steps.specs.SlotValues.{SlotValue}
use Rattle.serial_calls.specs.Appended.{AppendsCall}
use Rattle.serial_calls.specs.HeldFiles.{HoldsForDoubt, KeepsHolds}
use Rattle.call_steps.specs.Devices.{AccusesRightly, CostsDoubt, Devices, IsOfHeard, TellsNoCard, devices_of}
use Rattle.serial_calls.specs.ServeReady.{KnowsCard}
use Rattle.call_steps.proofs.Cards.{no_card_told, steps_card, steps_told}
use Rattle.call_steps.proofs.CountGrowth.{GateGrows, end_grows}
use Rattle.serial_calls.proofs.ToldCalls.{GatesGoOn}

-- The event.
module _ {F R E : Type 0} (of_file : F → FileState) (of_port : R → PortState) (draws : E → ℕ) (store : Store) (old new : GuardedGateValue F R) (file : ℕ) (was now : CallerSession E) (call : Call) (own : Reply)
    (change : EntryChange) (Reliable : Type 0) (answer : PlacedReply) (object : IsObjectFile file)
    (c : IsCommitted of_file of_port store old new file was now call own change Reliable (draws was.entropy) (draws now.entropy) answer) where
  pub committed_appends : AppendsCall store old new was now call answer
  committed_appends = record {
    mark = mark_told c.end;
    appends = c.appends;
    place = c.place;
    last = c.last;
    event = c.event ∙ ap (λ (r : Reply). CallEvent was.number was.made call r (mark_told c.end)) (sym c.reply);
    tagged = λ other is_tag. subst IsObjectFile (some_number other (sym c.tagged ∙ is_tag)) object;
    all = ap (λ (k : GateView). k.all) c.knows;
  }
    where
      some_number : (other : ℕ) → Some file ≡ Some other → file ≡ other
      some_number other e = cc

  pub committed_mark : committed_appends.mark ≡ mark_told c.end
  unfolding committed_appends
  committed_mark = refl

-- What it leaves of the devices.
module _ {F R E : Type 0} (of_file : F → FileState) (of_port : R → PortState) (draws : E → ℕ) (store : Store) (old new : GuardedGateValue F R) (file : ℕ) (was now : CallerSession E) (call : Call) (own : Reply)
    (change : EntryChange) (Reliable : Type 0) (answer : PlacedReply) (c : IsCommitted of_file of_port store old new file was now call own change Reliable (draws was.entropy) (draws now.entropy) answer) where
  abbrev c0 : Counted
  c0 = counts (of_file old.gate.dir.file) (of_port old.gate.host.port) (draws was.entropy)

  abbrev c1 : Counted
  c1 = counts (of_file new.gate.dir.file) (of_port new.gate.host.port) (draws now.entropy)

  module _ (key : List ℕ) (known : KnowsCard (of_port old.gate.host.port) old.gate.host.key key old.gate.counter) where
    committed_told : (card : CardState) → HasCard (of_port old.gate.host.port) key card → HadCard (of_port new.gate.host.port) key
    committed_told card has =
        subst (HadCard (of_port new.gate.host.port)) (c.gate.throughout.key ∙ known.keyed)
        (steps_told (gate_sides of_file of_port old.gate) (gate_sides of_file of_port new.gate) change c.end c.gate.steps card
        (subst (λ (k : List ℕ). HasCard (of_port old.gate.host.port) k card) (sym known.keyed) has))

    committed_card : (was is : CardState) → HasCard (of_port old.gate.host.port) key was → HasCard (of_port new.gate.host.port) key is → CardGoesOn was is
    committed_card was is had has =
        steps_card (gate_sides of_file of_port old.gate) (gate_sides of_file of_port new.gate) change c.end c.gate.steps was is
        (subst (λ (k : List ℕ). HasCard (of_port old.gate.host.port) k was) (sym known.keyed) had)
        (subst (λ (k : List ℕ). HasCard (of_port new.gate.host.port) k is) (sym (c.gate.throughout.key ∙ known.keyed)) has)

    pub committed_goes_on : GatesGoOn of_file of_port draws key old.gate new.gate was now
    committed_goes_on =
        let grows : GateGrows c0 c1 = end_grows c0 c1 c.end c.gate.counts_are in
        record {
          dir = c.gate.throughout.keeps.goes_on;
          card = record { told = committed_told; card = committed_card; calm = λ is. (c.gate.calm is).0; counted = grows.card; arms = c.gate.arms };
          drawn = grows.draws;
        }

-- A reply to it accuses no device but one whose count rose: those of the gate and of the session. A frame, or a result of the card, is told
-- where no card is that has the key.
module _ {F R E : Type 0} (of_file : F → FileState) (of_port : R → PortState) (draws : E → ℕ) (old new : GuardedGateValue F R) (from to : List SlotValue) (was now : CallerSession E)
    (key : List ℕ) (known : KnowsCard (of_port old.gate.host.port) old.gate.host.key key old.gate.counter) where
  abbrev d0 : Devices
  d0 = devices_of of_file of_port old.gate from (draws was.entropy)

  abbrev d1 : Devices
  d1 = devices_of of_file of_port new.gate to (draws now.entropy)

  abbrev b0 : Counted
  b0 = counts (of_file old.gate.dir.file) (of_port old.gate.host.port) (draws was.entropy)

  abbrev b1 : Counted
  b1 = counts (of_file new.gate.dir.file) (of_port new.gate.host.port) (draws now.entropy)

  rose_accuses : (device : Device) (count : ℕ) → RoseAlone b0 b1 device count → AccusesRightly key d0 d1 (NotAvailable (Fault device count))
  rose_accuses Dir count rose = (rose.0.rose, rose.0.carried)
  rose_accuses (File n) count rose = absurd rose
  rose_accuses Card count rose = (rose.0, rose.1)
  rose_accuses Entropy count rose = (rose.0, rose.1)

  none_told : NoCard (of_port old.gate.host.port) old.gate.host.key old.gate.counter → TellsNoCard (of_port old.gate.host.port) key
  none_told none =
      no_card_told (of_port old.gate.host.port) key old.gate.counter known.counted
      (subst (λ (k : List ℕ). NoCard (of_port old.gate.host.port) k old.gate.counter) known.keyed none)

  -- the frame that was heard
  frame_heard : (cause : Cause) → HeardCause old.gate.host.key old.gate.counter (of_port new.gate.host.port) cause → IsOfHeard key (of_port new.gate.host.port) cause
  frame_heard cause heard =
      (old.gate.counter, subst (λ (k : List ℕ). HeardCause k old.gate.counter (of_port new.gate.host.port) cause) known.keyed heard)

  dropped_accuses : (cause : Cause) → CauseCounts b0 b1 cause → CauseStands old.gate.host.key old.gate.counter b0 b1 cause
      → HeardCause old.gate.host.key old.gate.counter (of_port new.gate.host.port) cause → AccusesRightly key d0 d1 (NotAvailable cause)
  dropped_accuses (Fault device count) rose stands heard = rose_accuses device count rose
  dropped_accuses (Frame fault) rose stands heard = (none_told stands, frame_heard (Frame fault) heard)
  dropped_accuses (CardResult result) rose stands heard = (none_told stands, frame_heard (CardResult result) heard)

  doubted_accuses : (cause : Cause) → DoubtCounts b0 b1 cause → CauseStands old.gate.host.key old.gate.counter b0 b1 cause
      → HeardCause old.gate.host.key old.gate.counter (of_port new.gate.host.port) cause → AccusesRightly key d0 d1 (NotAvailable cause)
  doubted_accuses (Fault device count) rose stands heard = rose_accuses device count rose
  doubted_accuses (Frame fault) rose stands heard = (none_told stands, frame_heard (Frame fault) heard)
  doubted_accuses (CardResult result) rose stands heard = (none_told stands, frame_heard (CardResult result) heard)

  pub end_accuses : (end : CommitEnd) (own : Reply) → EndCounts b0 b1 end → EndCause old.gate.host.key old.gate.counter b0 b1 end
      → EndHeard old.gate.host.key old.gate.counter (of_port new.gate.host.port) end → AccusesRightly key d0 d1 own → AccusesRightly key d0 d1 (reply_told end own)
  end_accuses (Made n) own rose cause heard accuses = accuses
  end_accuses (Dropped why) own rose cause heard accuses = dropped_accuses why rose cause heard
  end_accuses (Doubtful n why) own rose cause heard accuses = doubted_accuses why rose cause.0 heard
  end_accuses Spent own rose cause heard accuses = tt

  -- a doubt cost two counts, where the card is told
  pub end_costs : (end : CommitEnd) (own : Reply) → EndCause old.gate.host.key old.gate.counter b0 b1 end → DoubtIsByCard end → CostsDoubt key d0 d1 (mark_told end) (reply_told end own)
  end_costs (Made n) own cause doubtful = tt
  end_costs (Dropped why) own cause doubtful = tt
  end_costs (Doubtful n why) own cause doubtful = (
    doubtful,
    λ card has. cause.1 card (subst (λ (k : List ℕ). HasCard (of_port old.gate.host.port) k card) (sym known.keyed) has) (known.counted card has),
  )
  end_costs Spent own cause doubtful = tt

pub none_some : (x : ℕ) → None ≡ Some x → ⊥
none_some x e = cc

-- The files that are held behind it.
pub not_some : (o : Option ℕ) → ((x : ℕ) → o ≡ Some x → ⊥) → o ≡ None
not_some None none = refl
not_some (Some x) none = absurd (none x refl)

-- while no commit is in doubt no file is held
pub unheld : {F R : Type 0} (gate : GateValue F R) → gate.doubt ≡ None → HoldsForDoubt gate → (session : ℕ) → file_held gate.holds session ≡ None
unheld gate idle held session =
    not_some (file_held gate.holds session) (λ x is. none_some x (sym (ap file_in_doubt idle) ∙ held session x is))

none_without : (put : Option ℕ) (old new : List (Option ℕ)) → EndsHold put old new → ((session : ℕ) → file_held old session ≡ None) → (session : ℕ) → file_held new session ≡ None
none_without None old new ends none session = ap (λ (l : List (Option ℕ)). file_held l session) ends ∙ none session
none_without (Some file) old new ends none session = ends session ∙ ap (unless_file file) (none session)

none_left : (change : EntryChange) (end : CommitEnd) (old new : List (Option ℕ)) → LeavesHolds change end old new → ((session : ℕ) → file_held old session ≡ None)
    → (session : ℕ) → file_held new session ≡ None
none_left change (Made n) old new leaves none session = none_without (file_put change) old new leaves none session
none_left change (Dropped cause) old new leaves none session = ap (λ (l : List (Option ℕ)). file_held l session) leaves ∙ none session
none_left change (Doubtful n cause) old new leaves none session = ap (λ (l : List (Option ℕ)). file_held l session) leaves ∙ none session
none_left change Spent old new leaves none session = ap (λ (l : List (Option ℕ)). file_held l session) leaves ∙ none session

-- a commit that ended keeps no file held, where none was in doubt before
pub end_holds : {F R : Type 0} (old new : GateValue F R) (change : EntryChange) (end : CommitEnd) → LeavesHolds change end old.holds new.holds → old.doubt ≡ None → KeepsHolds old new
end_holds old new change end leaves idle held session file is =
    absurd (none_some file (sym (none_left change end old.holds new.holds leaves (unheld old idle held) session) ∙ is))
