-- From one phase to the next: its files stay honest backward, and its card is told on.
use Rattle.std.proofs.Common.{◌≡◌, ◌∙◌, ◌<◌, ◌≤◌, ℕ, zero, suc, List, [], ◌∷◌, length, IsTrue, inl, inr, refl, sym, ap, subst, arith}
use Rattle.std.proofs.lemmas.Bool.{cases_lt}
use Rattle.disk_model.specs.Arms.{Taint}
use Rattle.disk_model.specs.State.{FileState, no_file}
use Rattle.tee_types.specs.Limits.{file_count}
use Rattle.object_calls.specs.OpeningArms.{TaintsOnBench}
use Rattle.hmac_keys.specs.declared.Keys.{Keys}
use Rattle.hmac_keys.specs.KeyTable.{rpmb_key}
use Rattle.rpmb_card.specs.Card.{CardState}
use Rattle.rpmb_card.specs.Port.{PortState}
use Rattle.rpmb_host.specs.Honest.{HadCard, HasCard}
use Rattle.tee_types.specs.declared.reply.Device.{Device}
use Rattle.tee_types.specs.declared.reply.Device.TheVariants.{Dir, File, Card, Entropy}
use Rattle.app_quota.specs.declared.quotas.Quota.{Quota}
use Rattle.store_model.specs.declared.event.Event.{Event}
use Rattle.store_model.specs.Object.{ObjectMap}
use Rattle.store_model.specs.ReplayState.{ReplayState}
use Rattle.script_text.specs.declared.script.Arm.{Arm}
use Rattle.script_text.specs.declared.script.Arm.TheVariants.{Fail, Lose, Stop, Taint as TaintArm}
use Rattle.script_text.specs.declared.script.Mode.{Mode}
use Rattle.script_text.specs.declared.script.Step.{Step}
use Rattle.object_calls.specs.FinishedPhase.{AreAllHonest}
use Rattle.object_calls.specs.Opening.{bench_files}
use Rattle.object_calls.specs.OpeningFiles.{files_of}
use Rattle.run_acts.specs.Benches.{BenchState, opening_state}
use Rattle.run_acts.specs.Between.{AreReadable}
use Rattle.run_acts.specs.Left.{AreLeft, HoldsLeft, replay_left}
use Rattle.run_acts.specs.PhaseArms.{ArmsAll, ArmsOneOf}
use Rattle.run_acts.specs.Phases.{RunsPhase}
use Rattle.run_acts.specs.declared.refused_call.RefusedCall.{RefusedCall}
use Rattle.run_acts.proofs.ArmedFiles.{arms_keep}
use Rattle.run_acts.proofs.Mounted.{opens_with_left}
use Rattle.run_acts.proofs.PhasesLeft.{phases_leave}

-- there is no file past the last
pub files_none : {F : Type 0} (of_file : F → FileState) (files : List F) (k : ℕ) → length files ≤ k → files_of of_file files k ≡ no_file
files_none of_file [] k past = refl
files_none of_file (f ∷ files) zero past = absurd (omega (arith, past))
files_none of_file (f ∷ files) (suc k) past = files_none of_file files k (omega (arith, past))

-- Files that are honest were honest before they were armed.
all_honest : (arms : List Arm) (old new : BenchState) → ArmsAll arms old new → (k : ℕ) → (new.files k).honest ≡ (old.files k).honest
all_honest arms old new s k = arms_keep (λ f. f.honest ≡ (old.files k).honest) (λ f calls same. same) (λ f call same. same) (λ f taint same. same) arms old new s k refl

-- An arming leaves the card as it is.
stops_card : (device : Device) (calls : ℕ) (old new : BenchState) → ArmsOneOf (Stop device calls) old new → (new.card).card ≡ (old.card).card
stops_card Dir calls old new s = ap (λ (p : PortState). p.card) s.port
stops_card (File n) calls old new s = ap (λ (p : PortState). p.card) s.port
stops_card Card calls old new s = ap (λ (p : PortState). p.card) (s.1).others
stops_card Entropy calls old new s = ap (λ (p : PortState). p.card) s.port

fails_card : (device : Device) (call : ℕ) (old new : BenchState) → ArmsOneOf (Fail device call) old new → (new.card).card ≡ (old.card).card
fails_card Dir call old new s = ap (λ (p : PortState). p.card) s.port
fails_card (File n) call old new s = ap (λ (p : PortState). p.card) s.port
fails_card Card call old new s = ap (λ (p : PortState). p.card) (s.1).others
fails_card Entropy call old new s = ap (λ (p : PortState). p.card) s.port

taints_card : (file : Device) (taint : Taint) (old new : BenchState) → TaintsOnBench file taint old.files new.files old.card new.card → (new.card).card ≡ (old.card).card
taints_card Dir taint old new s = ap (λ (p : PortState). p.card) s.port
taints_card (File n) taint old new s = ap (λ (p : PortState). p.card) s.port
taints_card Card taint old new s = ap (λ (p : PortState). p.card) s.port
taints_card Entropy taint old new s = ap (λ (p : PortState). p.card) s.port

one_card : (arm : Arm) (old new : BenchState) → ArmsOneOf arm old new → (new.card).card ≡ (old.card).card
one_card (Stop device calls) old new s = stops_card device calls old new s
one_card (Fail device call) old new s = fails_card device call old new s
one_card (Lose call) old new s = ap (λ (p : PortState). p.card) (s.1).others
one_card (TaintArm file call at mask) old new s = taints_card file (record { call = call; at = at; mask = mask }) old new s

all_card : (arms : List Arm) (old new : BenchState) → ArmsAll arms old new → (new.card).card ≡ (old.card).card
all_card [] old new s = ap (λ (p : PortState). p.card) s.1
all_card (arm ∷ arms) old new (between, its, others) = all_card arms between new others ∙ one_card arm old between its

module _ {F R : Type 0} (of_file : F → FileState) (of_port : R → PortState) (Reliable : Type 0) (keys : Keys) (applications : List (List ℕ)) (quotas : List Quota) (arms : List Arm) (mode : Mode) (calls : List Step) (old new : BenchState)
    (opening : ObjectMap) (events : List Event) (refused : List RefusedCall) (r : RunsPhase of_file of_port Reliable keys applications quotas arms mode calls old new opening events refused) where
  open r use {closed, disarms}

  abbrev armed : BenchState
  armed = opening_state of_file of_port (r.serves).armed

  module _ (honest : AreAllHonest new.files) where
    -- each file of the bench was honest as the calls began
    began_honest : (file : ℕ) → file < file_count → IsTrue (armed.files file).honest
    began_honest file within =
        ((((r.serves).closes).devices).files file within).honest (subst (λ (x : FileState). IsTrue x.honest) (disarms.files file) (honest file))

    -- and as the bench was mounted
    opened_honest : (file : ℕ) → IsTrue (bench_files of_file r.opened file).honest
    opened_honest file = elim (cases_lt file file_count) [
      | inl within ↦ subst IsTrue (all_honest arms (opening_state of_file of_port r.opened) armed ((r.serves).ready).arms_are file) (began_honest file within)
      | inr past ↦ subst (λ (x : FileState). IsTrue x.honest) (sym (r.none file past)) refl
    ]

    pub readable_opening : AreReadable old.files (bench_files of_file r.opened)
    readable_opening file = inl (opened_honest file)

    pub opens_left : (s : ReplayState) (card : CardState) → HoldsLeft keys old s → HasCard old.card (rpmb_key keys.huk) card → AreLeft s opening
    opens_left s card holds has =
        subst (AreLeft s) (sym r.objects) (opens_with_left of_file of_port keys old r.opened r.mounts s card holds r.sound readable_opening has)

    pub leaves_held : HoldsLeft keys new (replay_left opening applications events)
    leaves_held = phases_leave of_file of_port Reliable keys applications quotas arms mode calls old new opening events refused r honest

  -- a card with the key is told as the phase ends, where one was as it began
  pub phase_card : (card : CardState) → HasCard old.card (rpmb_key keys.huk) card → HadCard new.card (rpmb_key keys.huk)
  phase_card card has =
      let key = rpmb_key keys.huk in
      let there : HasCard armed.card key card = record {
        told = all_card arms (opening_state of_file of_port r.opened) armed ((r.serves).ready).arms_are ∙ (r.keeps).card ∙ has.told;
        keyed = has.keyed;
      } in
      let had : HadCard closed.card key =
      subst (λ (k : Keys). HadCard closed.card (rpmb_key k.huk)) (r.serves).keys_are
      (((((r.serves).closes).devices).card).told card (subst (λ (k : Keys). HasCard armed.card (rpmb_key k.huk) card) (sym (r.serves).keys_are) there)) in
      (had.0, record { told = ap (λ (p : PortState). p.card) (disarms.card).others ∙ (had.1).told; keyed = (had.1).keyed })
