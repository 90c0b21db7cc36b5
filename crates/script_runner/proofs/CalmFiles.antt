-- A file that is calm counts a fault only for want of memory, as long as it is not armed.
use Rattle.std.proofs.Common.{◌≡◌, ◌≢◌, ◌⊎◌, ◌∙◌, ◌<◌, ◌≤◌, ◌++◌, ℕ, List, [], ◌∷◌, IsTrue, None, Option, Some, inl, inr, refl, sym, ap, subst, arith}
use Rattle.std.proofs.lemmas.Bool.{cases_eq, cases_lt}
use Rattle.disk_model.specs.Arms.{Taint as FileTaint}
use Rattle.disk_model.proofs.Goings.{goes_on_none, goes_on_then}
use Rattle.disk_model.specs.Bytes.{after_mask}
use Rattle.disk_model.specs.Calls.{GoesOn}
use Rattle.disk_model.specs.Controls.{disarmed, renamed_as, settled_as, taint_armed}
use Rattle.disk_model.specs.Faults.{Rose}
use Rattle.disk_model.specs.State.{FileState}
use Rattle.hmac_keys.specs.declared.Keys.{Keys}
use Rattle.tee_types.specs.Limits.{directory_file, file_count}
use Rattle.rpmb_card.specs.Port.{PortState}
use Rattle.tee_types.specs.declared.reply.Device.TheVariants.{Card, Dir, Entropy, File}
use Rattle.crash_core.proofs.Lists.{put_else, put_here}
use Rattle.crash_core.specs.CoreState.{put}
use Rattle.core_laws.specs.Stores.{Store}
use Rattle.script_text.specs.declared.script.Arm.{Arm}
use Rattle.script_text.specs.declared.script.Arm.TheVariants.{Fail, Lose, Stop, Taint}
use Rattle.script_text.specs.declared.script.Mode.{Mode}
use Rattle.script_text.specs.declared.script.Step.{Step}
use Rattle.store_commit.specs.declared.fault.MountFault.{MountFault}
use Rattle.store_model.specs.declared.event.Event.{Event}
use Rattle.store_model.specs.Object.{ObjectMap}
use Rattle.run_acts.specs.Opening.{OpeningValue}
use Rattle.run_acts.specs.Alterations.{AltersFile, FlipsFile}
use Rattle.run_acts.specs.Benches.{BenchState, opening_state}
use Rattle.run_acts.specs.Closing.{ClosesEarly, served, unserved}
use Rattle.run_acts.specs.Crashes.{Crashes, CrashesBelow, CrashesInPart}
use Rattle.run_acts.specs.MountedDevices.{IsMountRefused}
use Rattle.run_acts.specs.Opens.{FormsBench, IsNotFormed, IsOpenRefused, OpensBench, ReadsBlock, StopsOpening, found, made, starved, stopped, unasked, unformed, unread}
use Rattle.run_acts.specs.PhaseArms.{ArmsAll, ArmsFront, ArmsOneOf}
use Rattle.run_acts.specs.PhaseRefusals.{ClosesOpened, IsGivenUp, LeavesStarved, in_part, mounted, uncalled, unmounted, unready}
use Rattle.run_acts.specs.Phases.{RunsPhase}
use Rattle.run_acts.specs.declared.refused_call.RefusedCall.{RefusedCall}
use Rattle.app_quota.specs.declared.quotas.Quota.{Quota}
use Rattle.run_acts.proofs.Mounted.{mount_goes_on}
use Rattle.run_acts.proofs.MountedBenches.{each_file, refused_keeps}
use Rattle.script_runner.specs.CountLaws.{ArmsCard, ArmsFile}
use Rattle.script_runner.specs.SavedFiles.{PutsBack}
use Rattle.script_runner.proofs.CalmPorts.{CalmStep, calm_disarmed, calm_mounted, calm_refused, calm_same, calm_then, or_true}

-- none of these arms is so
abbrev pub NoneOf : (Arms : Arm → Type 0) → List Arm → Type 0
NoneOf Arms [] = Unit {0}
NoneOf Arms (arm ∷ arms) = (Arms arm → ⊥) × NoneOf Arms arms

pub none_of-front : (Arms : Arm → Type 0) (front rest : List Arm) → NoneOf Arms (front ++ rest) → NoneOf Arms front
none_of-front Arms [] rest none = tt
none_of-front Arms (arm ∷ front) rest none = (none.0, none_of-front Arms front rest none.1)

pub none_of-then : (Arms : Arm → Type 0) (arms : List Arm) (arm : Arm) → NoneOf Arms arms → (Arms arm → ⊥) → NoneOf Arms (arms ++ arm ∷ [])
none_of-then Arms [] arm none last = (last, tt)
none_of-then Arms (first ∷ arms) arm none last = (none.0, none_of-then Arms arms arm none.1 last)

card_of_arm : (arm : Arm) (old new : BenchState) → ArmsOneOf arm old new → (ArmsCard arm → ⊥) → new.card ≡ old.card
card_of_arm (Stop Dir calls) old new s other = s.port
card_of_arm (Stop (File n) calls) old new s other = s.port
card_of_arm (Stop Card calls) old new s other = absurd (other refl)
card_of_arm (Stop Entropy calls) old new s other = s.port
card_of_arm (Fail Dir call) old new s other = s.port
card_of_arm (Fail (File n) call) old new s other = s.port
card_of_arm (Fail Card call) old new s other = absurd (other refl)
card_of_arm (Fail Entropy call) old new s other = s.port
card_of_arm (Lose call) old new s other = absurd (other refl)
card_of_arm (Taint Dir call at mask) old new s other = s.port
card_of_arm (Taint (File n) call at mask) old new s other = s.port
card_of_arm (Taint Card call at mask) old new s other = s.port
card_of_arm (Taint Entropy call at mask) old new s other = s.port

card_of_arms : (arms : List Arm) (old new : BenchState) → ArmsAll arms old new → NoneOf ArmsCard arms → new.card ≡ old.card
card_of_arms [] old new s none = s.1
card_of_arms (arm ∷ arms) old new (between, its, others) none = card_of_arms arms between new others none.1 ∙ card_of_arm arm old between its none.0

-- WHAT CALLS LEAVE OF FILES, where nothing is armed
pub goes_same : (old new : FileState) → new ≡ old → GoesOn old new
goes_same old new same = subst (GoesOn old) (sym same) (goes_on_none old)

goes_read : (keys : Keys) (old new : BenchState) (block : List ℕ) → ReadsBlock keys old new block → (file : ℕ) → GoesOn (old.files file) (new.files file)
goes_read keys old new block r file = goes_same (old.files file) (new.files file) (r.files file)

goes_formed : (keys : Keys) (old new : BenchState) → FormsBench keys old new → (file : ℕ) → GoesOn (old.files file) (new.files file)
goes_formed keys old new f =
    each_file (λ k. GoesOn (old.files k) (new.files k)) ((f.goes_on).file) (λ k from. goes_same (old.files k) (new.files k) (f.others k from))

goes_unformed : (keys : Keys) (old new : BenchState) (drew draws : ℕ) (fault : MountFault) → IsNotFormed keys old new drew draws fault → (file : ℕ) → GoesOn (old.files file) (new.files file)
goes_unformed keys old new drew draws fault u =
    each_file (λ k. GoesOn (old.files k) (new.files k)) ((u.goes_on).file) (λ k from. goes_same (old.files k) (new.files k) (u.others k from))

pub goes_opened : (keys : Keys) (old new : BenchState) → OpensBench keys old new → (file : ℕ) → GoesOn (old.files file) (new.files file)
goes_opened keys old new (found block some reads) file = goes_read keys old new block reads file
goes_opened keys old new (made block between blank reads forms) file =
    goes_on_then (old.files file) (between.files file) (new.files file) (goes_read keys old between block reads file) (goes_formed keys between new forms file)

goes_stopped : (keys : Keys) (old new : BenchState) (drew draws : ℕ) (fault : MountFault) → StopsOpening keys old new drew draws fault → (file : ℕ) → GoesOn (old.files file) (new.files file)
goes_stopped keys old new drew draws fault (unread u) file = goes_same (old.files file) (new.files file) (u.files file)
goes_stopped keys old new drew draws fault (unformed block between blank reads not) file =
    goes_on_then (old.files file) (between.files file) (new.files file) (goes_read keys old between block reads file) (goes_unformed keys between new drew draws fault not file)

pub goes_shut : (keys : Keys) (old new : BenchState) (drew draws : ℕ) (fault : MountFault) → IsOpenRefused keys old new drew draws fault → (file : ℕ) → GoesOn (old.files file) (new.files file)
goes_shut keys old new drew draws fault (stopped stops memory) file = goes_stopped keys old new drew draws fault stops file
goes_shut keys old new drew draws fault (unasked is same) file = goes_same (old.files file) (new.files file) (ap (λ (b : BenchState). b.files file) same)
goes_shut keys old new drew draws fault (starved other is stops gone) file = goes_stopped keys old new drew draws other stops file

pub goes_refused : (keys : Keys) (old new : BenchState) (drew draws : ℕ) (fault : MountFault) → IsMountRefused keys old new drew draws fault → (file : ℕ) → GoesOn (old.files file) (new.files file)
goes_refused keys old new drew draws fault m file = (((refused_keeps keys old new drew draws fault m.refused m.leaves).files file).keeps).goes_on

-- A FILE THAT WAS CALM
-- it is calm, and counted no fault but for want of memory
pub record StandsCalm (old new : FileState) : Type 0 where
  pub calm : IsTrue new.calm
  pub starved : old.starved ≤ new.starved
  pub quiet : (new.faults ≡ old.faults) ⊎ Rose old.starved new.starved

pub stands_first : (s : FileState) → IsTrue s.calm → StandsCalm s s
stands_first s calm = record { calm = calm; starved = omega arith; quiet = inl refl }

pub stands_then : (a b c : FileState) → StandsCalm a b → GoesOn b c → StandsCalm a c
stands_then a b c s goes = record {
  calm = goes.calm s.calm;
  starved = omega (arith, s.starved, goes.starved);
  quiet = elim s.quiet [
    | inr rose ↦ inr (omega (arith, rose, goes.starved))
    | inl same ↦ elim (goes.quiet s.calm) [
      | inr rose ↦ inr (omega (arith, rose, s.starved))
      | inl again ↦ inl (again ∙ same)
    ]
  ];
}

stands_disarmed : (a s : FileState) → StandsCalm a s → StandsCalm a (disarmed s)
stands_disarmed a s stands = record { calm = or_true s.tells_arms s.calm stands.calm; starved = stands.starved; quiet = stands.quiet }

stands_renamed : (a s : FileState) (image : List ℕ) → StandsCalm a s → StandsCalm a (renamed_as s image)
stands_renamed a s image stands = record { calm = stands.calm; starved = stands.starved; quiet = stands.quiet }

-- A FILE THAT WAS ALTERED
stands_changed : (n : ℕ) (altered : FileState) (old new : ℕ → FileState) → new n ≡ altered → ((k : ℕ) → k ≢ n → new k ≡ old k) → (a : FileState) → (StandsCalm a (old n) → StandsCalm a altered)
    → (file : ℕ) → StandsCalm a (old file) → StandsCalm a (new file)
stands_changed n altered old new here others a stays file stands = elim (cases_eq file n) [
  | inl same ↦ subst (λ (k : ℕ). StandsCalm a (new k)) (sym same) (subst (StandsCalm a) (sym here) (stays (subst (λ (k : ℕ). StandsCalm a (old k)) same stands)))
  | inr other ↦ subst (StandsCalm a) (sym (others file other)) stands
]

stands_altered : (n : ℕ) (altered : FileState) (old new : BenchState) → AltersFile n altered old new → (a : FileState) → (StandsCalm a (old.files n) → StandsCalm a altered)
    → (file : ℕ) → StandsCalm a (old.files file) → StandsCalm a (new.files file)
stands_altered n altered old new alters = stands_changed n altered old.files new.files alters.here alters.others

pub stands_put_back : (n : ℕ) (kept : Option (List ℕ)) (old new : BenchState) → PutsBack n kept old new → (a : FileState) (file : ℕ) → StandsCalm a (old.files file) → StandsCalm a (new.files file)
stands_put_back n None old new same a file stands = subst (λ (b : BenchState). StandsCalm a (b.files file)) (sym same) stands
stands_put_back n (Some bytes) old new alters a file stands =
    stands_altered n (renamed_as (old.files n) bytes) old new alters a (stands_renamed a (old.files n) bytes) file stands

pub card_put_back : (n : ℕ) (kept : Option (List ℕ)) (old new : BenchState) → PutsBack n kept old new → new.card ≡ old.card
card_put_back n None old new same = ap (λ (b : BenchState). b.card) same
card_put_back n (Some bytes) old new alters = alters.card

pub stands_flipped : (n at : ℕ) (mask : List ℕ) (old new : BenchState) → FlipsFile n at mask old new → (a : FileState) (file : ℕ) → StandsCalm a (old.files file) → StandsCalm a (new.files file)
stands_flipped n at mask old new alters a file stands =
    stands_altered n (settled_as (old.files n) (after_mask (old.files n).reads at mask)) old new alters a
    (λ (s : StandsCalm a (old.files n)). record { calm = s.calm; starved = s.starved; quiet = s.quiet }) file stands

stands_crashed : (image : FileState → ℕ → ℕ → List ℕ) (seed count : ℕ) (old new : ℕ → FileState) → CrashesBelow image seed count old new → (a : FileState) (file : ℕ) → StandsCalm a (old file) → StandsCalm a (new file)
stands_crashed image seed count old new c a file stands = elim (cases_lt file count) [
  | inl below ↦ subst (StandsCalm a) (sym (c.each file below)) (stands_renamed a (old file) (image (old file) seed file) stands)
  | inr past ↦ subst (StandsCalm a) (sym (c.others file past)) stands
]

pub stands_crash : (image : FileState → ℕ → ℕ → List ℕ) (seed : ℕ) (old new : BenchState) → Crashes image seed old new → (a : FileState) (file : ℕ) → StandsCalm a (old.files file) → StandsCalm a (new.files file)
stands_crash image seed old new c = stands_crashed image seed file_count old.files new.files c.files

pub stands_part : (image : FileState → ℕ → ℕ → List ℕ) (seed : ℕ) (old new : BenchState) → CrashesInPart image seed old new → (a : FileState) (file : ℕ) → StandsCalm a (old.files file) → StandsCalm a (new.files file)
stands_part image seed old new c = stands_crashed image seed c.count old.files new.files c.files

-- A FILE AS ARMS LEAVE IT
-- another file was armed
stands_beside : (old new : ℕ → FileState) (n : ℕ) (armed : FileState) → ((k : ℕ) → new k ≡ put old n armed k) → (a : FileState) (file : ℕ) → (Some n ≡ Some file → ⊥) → StandsCalm a (old file) → StandsCalm a (new file)
stands_beside old new n armed is a file other = subst (StandsCalm a) (sym (is file ∙ put_else old n armed file (λ same. other (ap Some (sym same)))))

-- a mask is armed
stands_tainted : (old new : ℕ → FileState) (n : ℕ) (taint : FileTaint) → ((k : ℕ) → new k ≡ put old n (taint_armed (old n) taint) k) → (a : FileState) (file : ℕ) → StandsCalm a (old file) → StandsCalm a (new file)
stands_tainted old new n taint is a =
    stands_changed n (taint_armed (old n) taint) old new (is n ∙ put_here old n (taint_armed (old n) taint) n refl) (λ k other. is k ∙ put_else old n (taint_armed (old n) taint) k other) a
    (λ (s : StandsCalm a (old n)). record { calm = s.calm; starved = s.starved; quiet = s.quiet })

stands_same : (old new : BenchState) → ((file : ℕ) → new.files file ≡ old.files file) → (a : FileState) (file : ℕ) → StandsCalm a (old.files file) → StandsCalm a (new.files file)
stands_same old new same a file = subst (StandsCalm a) (sym (same file))

stands_armed : (arm : Arm) (old new : BenchState) → ArmsOneOf arm old new → (a : FileState) (file : ℕ) → (ArmsFile file arm → ⊥) → StandsCalm a (old.files file) → StandsCalm a (new.files file)
stands_armed (Stop Dir calls) old new s a file other = stands_beside old.files new.files directory_file _ s.files a file other
stands_armed (Stop (File n) calls) old new s a file other = stands_beside old.files new.files n _ s.files a file other
stands_armed (Stop Card calls) old new s a file other = stands_same old new s.0 a file
stands_armed (Stop Entropy calls) old new s a file other = stands_same old new s.files a file
stands_armed (Fail Dir call) old new s a file other = stands_beside old.files new.files directory_file _ s.files a file other
stands_armed (Fail (File n) call) old new s a file other = stands_beside old.files new.files n _ s.files a file other
stands_armed (Fail Card call) old new s a file other = stands_same old new s.0 a file
stands_armed (Fail Entropy call) old new s a file other = stands_same old new s.files a file
stands_armed (Lose call) old new s a file other = stands_same old new s.0 a file
stands_armed (Taint Dir call at mask) old new s a file other = stands_tainted old.files new.files directory_file _ s.files a file
stands_armed (Taint (File n) call at mask) old new s a file other = stands_tainted old.files new.files n _ s.files a file
stands_armed (Taint Card call at mask) old new s a file other = stands_same old new s.files a file
stands_armed (Taint Entropy call at mask) old new s a file other = stands_same old new s.files a file

stands_all_armed : (arms : List Arm) (old new : BenchState) → ArmsAll arms old new → (a : FileState) (file : ℕ) → NoneOf (ArmsFile file) arms → StandsCalm a (old.files file) → StandsCalm a (new.files file)
stands_all_armed [] old new s a file none stands = stands_same old new s.0 a file stands
stands_all_armed (arm ∷ arms) old new (between, its, others) a file none stands = stands_all_armed arms between new others a file none.1 (stands_armed arm old between its a file none.0 stands)

-- A PHASE
module _ {F R : Type 0} (of_file : F → FileState) (of_port : R → PortState) (keys : Keys) (applications : List (List ℕ)) (arms : List Arm) (mode : Mode) (calls : List Step) where
  module _ (Reliable : Type 0) (quotas : List Quota) (old new : BenchState) (objects : ObjectMap) (events : List Event) (refused : List RefusedCall)
      (r : RunsPhase of_file of_port Reliable keys applications quotas arms mode calls old new objects events refused) where
    open r use {closed, disarms}

    abbrev armed : BenchState
    armed = opening_state of_file of_port (r.serves).armed

    abbrev opened : BenchState
    opened = opening_state of_file of_port r.opened

    pub phase_stands : (a : FileState) (file : ℕ) → file < file_count → NoneOf (ArmsFile file) arms → StandsCalm a (old.files file) → StandsCalm a (new.files file)
    phase_stands a file within none stands =
        let first = stands_then a (old.files file) (opened.files file) stands (mount_goes_on of_file of_port keys old r.opened r.mounts file) in
        let second = stands_all_armed arms opened armed ((r.serves).ready).arms_are a file none first in
        let third = stands_then a (armed.files file) (closed.files file) second ((((r.serves).closes).devices).files file within) in
        subst (StandsCalm a) (sym (disarms.files file)) (stands_disarmed a (closed.files file) third)

    pub phase_calm : NoneOf ArmsCard arms → CalmStep old.card new.card
    phase_calm none =
        calm_then old.card opened.card new.card (calm_mounted keys of_file of_port old r.opened r.mounts)
        (calm_then opened.card armed.card new.card (calm_same opened.card armed.card (card_of_arms arms opened armed ((r.serves).ready).arms_are none))
        (calm_then armed.card closed.card new.card ((((r.serves).closes).devices).card.calm) (calm_disarmed closed.card new.card disarms.card)))

  -- and one that was given up: what became of a store that was mounted
  module _ (opened closed : BenchState) where
    unready_stands : ArmsFront arms opened closed → (a : FileState) (file : ℕ) → NoneOf (ArmsFile file) arms → StandsCalm a (opened.files file) → StandsCalm a (closed.files file)
    unready_stands (front, rest, is, all) a file none stands =
        stands_all_armed front opened closed all a file (none_of-front (ArmsFile file) front rest (subst (NoneOf (ArmsFile file)) is none)) stands

    unready_calm : ArmsFront arms opened closed → NoneOf ArmsCard arms → CalmStep opened.card closed.card
    unready_calm (front, rest, is, all) none = calm_same opened.card closed.card (card_of_arms front opened closed all (none_of-front ArmsCard front rest (subst (NoneOf ArmsCard) is none)))

    early_stands : (store : Store) → ClosesEarly store opened mode calls closed → (a : FileState) (file : ℕ) → file < file_count → StandsCalm a (opened.files file) → StandsCalm a (closed.files file)
    early_stands store (unserved same) a file within stands = subst (λ (b : BenchState). StandsCalm a (b.files file)) (sym same) stands
    early_stands store (served view doubt front leaves goes) a file within stands = stands_then a (opened.files file) (closed.files file) stands (goes.files file within)

    early_calm : (store : Store) → ClosesEarly store opened mode calls closed → CalmStep opened.card closed.card
    early_calm store (unserved same) = calm_same opened.card closed.card (ap (λ (b : BenchState). b.card) same)
    early_calm store (served view doubt front leaves goes) = (goes.card).calm

  module _ (o : OpeningValue F R) (closed : BenchState) where
    abbrev was : BenchState
    was = opening_state of_file of_port o

    closes_stands : ClosesOpened of_file of_port keys applications arms mode calls o closed → (a : FileState) (file : ℕ) → file < file_count → NoneOf (ArmsFile file) arms → StandsCalm a (was.files file) → StandsCalm a (closed.files file)
    closes_stands (unready front) a file within none stands = unready_stands was closed front a file none stands
    closes_stands (in_part p) a file within none stands =
        let armed = opening_state of_file of_port p.armed in
        early_stands armed closed p.store p.closes a file within (stands_all_armed arms was armed (p.ready).arms_are a file none stands)

    closes_calm : ClosesOpened of_file of_port keys applications arms mode calls o closed → NoneOf ArmsCard arms → CalmStep was.card closed.card
    closes_calm (unready front) none = unready_calm was closed front none
    closes_calm (in_part p) none =
        let armed = opening_state of_file of_port p.armed in
        calm_then was.card armed.card closed.card (calm_same was.card armed.card (card_of_arms arms was armed (p.ready).arms_are none)) (early_calm armed closed p.store p.closes)

  module _ (old : BenchState) (drew draws : ℕ) where
    leaves_stands : (left : BenchState) → LeavesStarved of_file of_port keys applications arms mode calls old left drew draws → (a : FileState) (file : ℕ) → file < file_count → NoneOf (ArmsFile file) arms
        → StandsCalm a (old.files file) → StandsCalm a (left.files file)
    leaves_stands left (uncalled same undrawn) a file within none stands = subst (λ (b : BenchState). StandsCalm a (b.files file)) (sym same) stands
    leaves_stands left (unmounted fault refused keeps) a file within none stands = stands_then a (old.files file) (left.files file) stands (((keeps.files file).keeps).goes_on)
    leaves_stands left (mounted opened mounts keeps undrawn closes) a file within none stands =
        closes_stands opened left closes a file within none (stands_then a (old.files file) ((opening_state of_file of_port opened).files file) stands (mount_goes_on of_file of_port keys old opened mounts file))

    leaves_calm : (left : BenchState) → LeavesStarved of_file of_port keys applications arms mode calls old left drew draws → NoneOf ArmsCard arms → CalmStep old.card left.card
    leaves_calm left (uncalled same undrawn) none = calm_same old.card left.card (ap (λ (b : BenchState). b.card) same)
    leaves_calm left (unmounted fault refused keeps) none = calm_refused keys old left drew draws fault refused
    leaves_calm left (mounted opened mounts keeps undrawn closes) none =
        calm_then old.card (opening_state of_file of_port opened).card left.card (calm_mounted keys of_file of_port old opened mounts) (closes_calm opened left closes none)

    pub given_up_stands : (new : BenchState) (fault : MountFault) → IsGivenUp of_file of_port keys applications arms mode calls old new drew draws fault → (a : FileState) (file : ℕ) → file < file_count → NoneOf (ArmsFile file) arms
        → StandsCalm a (old.files file) → StandsCalm a (new.files file)
    given_up_stands new fault (inl (refused, memory)) a file within none stands = stands_then a (old.files file) (new.files file) stands (goes_refused keys old new drew draws fault refused file)
    given_up_stands new fault (inr ends) a file within none stands =
        subst (StandsCalm a) (sym ((ends.disarms).files file)) (stands_disarmed a ((ends.left).files file) (leaves_stands ends.left ends.leaves a file within none stands))

    pub given_up_calm : (new : BenchState) (fault : MountFault) → IsGivenUp of_file of_port keys applications arms mode calls old new drew draws fault → NoneOf ArmsCard arms → CalmStep old.card new.card
    given_up_calm new fault (inl (refused, memory)) none = calm_refused keys old new drew draws fault refused
    given_up_calm new fault (inr ends) none = calm_then old.card (ends.left).card new.card (leaves_calm ends.left ends.leaves none) (calm_disarmed (ends.left).card new.card (ends.disarms).card)
