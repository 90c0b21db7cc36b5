-- Each act finds what the acts before it leave.
use Rattle.std.proofs.Common.{◌≡◌, ℕ, List, [], ◌∷◌, ◌++◌, inl, refl, sym, ap, subst}
use Rattle.disk_model.specs.State.{FileState}
use Rattle.hmac_keys.specs.declared.Keys.{Keys}
use Rattle.hmac_keys.specs.KeyTable.{rpmb_key}
use Rattle.rpmb_card.specs.Port.{PortState}
use Rattle.script_text.specs.declared.script.Control.TheVariants.{Arm as ArmControl, Crash, Flip, Mode as ModeControl, Phase, Quota as QuotaControl, Restore, Save}
use Rattle.store_model.specs.ReplayState.{ReplayState}
use Rattle.run_acts.specs.Left.{replay_left}
use Rattle.run_acts.specs.declared.MountFault.{MountFault}
use Rattle.run_acts.specs.MountingLaws.{IsOfDevice}
use Rattle.run_acts.specs.Lines.{objects_text}
use Rattle.run_acts.specs.QuotaRefusals.{admitted}
use Rattle.run_acts.specs.Untainted.{ArmNoMask}
use Rattle.run_acts.proofs.CrashedLaws.{card_of, crashes_keep, crashes_may_be}
use Rattle.run_acts.proofs.HeldRefusals.{list_refusal, phase_refusal}
use Rattle.run_acts.proofs.ListedLeft.{lists_keep, lists_show_left}
use Rattle.run_acts.proofs.PhaseChains.{leaves_held, opens_left, phase_card}
use Rattle.run_acts.proofs.Untainted.{crashes_stay_untainted, lists_stay_untainted, phases_stay_untainted, untainted_files_are_honest}
use Rattle.script_runner.specs.Course.{Does, Goes, StopsAt}
use Rattle.script_runner.specs.RecordLaws.{AlterNothing, AltersNothing, FindLeft, HoldsUntainted, left_behind}
use Rattle.script_runner.specs.Records.{RunRecord, acts_in, outcomes_in}
use Rattle.script_runner.specs.Text.{Act, ActOutcome, Controlled, Do, Listed, Ran, Refused, Serve}
use Rattle.script_runner.specs.SavedFiles.{Standing}
use Rattle.script_runner.proofs.Alterings.{mask_none}

-- what is left behind acts, and then behind more
pub left_behind-then : (apps : List (List ℕ)) (s : ReplayState) (told more : List ActOutcome) → left_behind apps s (told ++ more) ≡ left_behind apps (left_behind apps s told) more
left_behind-then apps s [] more = refl
left_behind-then apps s (Ran phase ∷ told) more = left_behind-then apps (replay_left phase.opening apps phase.events) told more
left_behind-then apps s (outcome ∷ told) more = left_behind-then apps s told more

-- an act finds what is left, and so do those behind it
find_left-then : (apps : List (List ℕ)) (s : ReplayState) (outcome : ActOutcome) (more : List ActOutcome) → FindLeft apps s (outcome ∷ []) → FindLeft apps (left_behind apps s (outcome ∷ [])) more → FindLeft apps s (outcome ∷ more)
find_left-then apps s (Ran phase) more first rest = (first.0, rest)
find_left-then apps s (Listed objects) more first rest = (first.0, rest)
find_left-then apps s outcome more first rest = rest

module _ {F R : Type 0} (of_file : F → FileState) (of_port : R → PortState) (image : FileState → ℕ → ℕ → List ℕ) (Reliable : Type 0) (keys : Keys) (apps : List (List ℕ)) where
  -- the bench holds that, and no mask waits
  abbrev pub HeldAt : ReplayState → Standing → Type 0
  HeldAt s there = ArmNoMask there.arms × HoldsUntainted keys there.bench s

  -- an act that alters no file
  pub act_finds : (act : Act) (outcome : ActOutcome) (old new : Standing) (s : ReplayState) → AltersNothing act → Does of_file of_port image Reliable keys apps act outcome old new → HeldAt s old
      → FindLeft apps s (outcome ∷ []) × HeldAt (left_behind apps s (outcome ∷ [])) new
  act_finds (Serve mode calls) (Ran phase) old new s none does held =
      let between = new.bench in
      let runs = does.0 in
      let files = phases_stay_untainted of_file of_port Reliable keys apps old.quotas old.arms mode calls old.bench between phase.opening phase.events phase.refused runs held.0 (held.1).files in
      let honest = untainted_files_are_honest between.files files in
      let card = (held.1).card in
      let waits : ArmNoMask new.arms = subst (λ (there : Standing). ArmNoMask there.arms) (sym does.1) tt in (
        (opens_left of_file of_port Reliable keys apps old.quotas old.arms mode calls old.bench between phase.opening phase.events phase.refused runs honest s card.0 (held.1).holds card.1, tt),
        (
          waits,
          record {
            files = files;
            holds = leaves_held of_file of_port Reliable keys apps old.quotas old.arms mode calls old.bench between phase.opening phase.events phase.refused runs honest;
            card = phase_card of_file of_port Reliable keys apps old.quotas old.arms mode calls old.bench between phase.opening phase.events phase.refused runs card.0 card.1;
          },
        ),
      )
  act_finds (Do control) (Listed objects) old new s none does held =
      let between = new.bench in
      let lists = (does.1).0 in
      let lines = objects_text objects in
      let files = lists_stay_untainted of_file of_port keys old.bench between objects lines lists (held.1).files in
      let honest = untainted_files_are_honest between.files files in
      let card = (held.1).card in
      let waits : ArmNoMask new.arms = subst (λ (there : Standing). ArmNoMask there.arms) (sym (does.1).1) held.0 in (
        (lists_show_left of_file of_port keys s old.bench between objects lines card.0 (held.1).holds lists (λ file. inl (honest file)) card.1, tt),
        (
          waits,
          record {
            files = files;
            holds = lists_keep of_file of_port keys s old.bench between objects lines card.0 (held.1).holds lists honest card.1;
            card = (card.0, card_of between.card (old.bench).card (rpmb_key keys.huk) card.0 (sym (lists.keeps).card) card.1);
          },
        ),
      )
  act_finds (Do (ModeControl mode)) Controlled old new s none does held = (tt, subst (HeldAt s) (sym does) held)
  act_finds (Do Phase) Controlled old new s none does held = (tt, subst (HeldAt s) (sym does) held)
  act_finds (Do (ArmControl arm)) Controlled old new s none does held = (tt, subst (HeldAt s) (sym does) (mask_none old.arms arm held.0 none, held.1))
  act_finds (Do (Save mark)) Controlled old new s none does held = (tt, subst (HeldAt s) (sym does) held)
  act_finds (Do (QuotaControl app objects bytes)) Controlled old new s none does held = (tt, subst (HeldAt s) (sym does) held)
  act_finds (Do (Restore file mark)) Controlled old new s none does held = absurd none
  act_finds (Do (Flip file at mask)) Controlled old new s none does held = absurd none
  act_finds (Do (Crash seed)) Controlled old new s none does held =
      let between = new.bench in
      let crashes = does.0 in
      let may = crashes_may_be image seed old.bench between crashes in
      let card = (held.1).card in
      let waits : ArmNoMask new.arms = subst (λ (there : Standing). ArmNoMask there.arms) (sym does.1) held.0 in (
        tt,
        (
          waits,
          record {
            files = crashes_stay_untainted old.bench between (held.1).files may;
            holds = crashes_keep keys s old.bench between (held.1).holds may;
            card = (card.0, card_of between.card (old.bench).card (rpmb_key keys.huk) card.0 (ap (λ (p : PortState). p.card) (sym crashes.card)) card.1);
          },
        ),
      )
  act_finds act outcome old new s none does held = absurd does

  -- so all of them
  pub acts_find : (records : List RunRecord) (old new : Standing) (s : ReplayState) → Goes of_file of_port image Reliable keys apps records old new → AlterNothing (acts_in records) → HeldAt s old
      → FindLeft apps s (outcomes_in records) × HeldAt (left_behind apps s (outcomes_in records)) new
  acts_find [] old new s goes none held = (tt, subst (HeldAt s) (sym goes) held)
  acts_find (r ∷ records) old new s goes none held =
      let one = act_finds r.act r.outcome r.before r.behind s none.0 goes.1 (subst (HeldAt s) (sym goes.0) held) in
      let rest = acts_find records r.behind new (left_behind apps s (r.outcome ∷ [])) goes.2 none.1 one.1 in (
        find_left-then apps s r.outcome (outcomes_in records) one.0 rest.0,
        subst (λ (x : ReplayState). HeldAt x new) (sym (left_behind-then apps s (r.outcome ∷ []) (outcomes_in records))) rest.1,
      )

  -- a refusal of a bench that holds objects
  pub refusal_of_device : (drew draws : ℕ) (act : Act) (old new : Standing) (s : ReplayState) (fault : MountFault) → HoldsUntainted keys old.bench s
      → StopsAt of_file of_port image Reliable keys apps drew draws act (Refused fault) old new → IsOfDevice fault
  refusal_of_device drew draws (Serve mode calls) old new s fault held stops =
      phase_refusal of_file of_port keys s old.bench new.bench drew draws (held.card).0 held.holds (held.card).1 held.files apps old.arms mode (admitted (stops.0).refused calls) fault (stops.0).holds
  refusal_of_device drew draws (Do control) old new s fault held stops = list_refusal of_file of_port keys s old.bench new.bench drew draws (held.card).0 held.holds (held.card).1 held.files fault (stops.1).0
