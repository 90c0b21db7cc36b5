-- Freshness of a run.
use Rattle.std.proofs.Common.{◌≡◌, ◌⊎◌, ℕ, List, None, Option, inl, inr, refl, subst, sym}
use Rattle.disk_model.specs.State.{FileState, Sound}
use Rattle.hmac_keys.specs.declared.Keys.{Keys}
use Rattle.rpmb_card.specs.Port.{PortState}
use Rattle.run_acts.specs.Benches.{BenchState}
use Rattle.run_acts.specs.Opens.{OpensBench, found, made}
use Rattle.script_runner.specs.Ending.{EndsBench, NotOpened, Opened}
use Rattle.script_runner.specs.RunCauses.{World}
use Rattle.script_runner.specs.SavedFiles.{begins_with}
use Rattle.script_runner.specs.Trace.{IsUntouched, OfScript, Trace, applications_of}
use Rattle.script_runner.proofs.Ended.{no_start}
use Rattle.run_freshness.specs.Course.{AreFresh, HasItsCard}
use Rattle.run_freshness.specs.Runs.{RunsAreFresh, closed_at_first}
use Rattle.run_freshness.proofs.Course.{card_then, courses_fresh}

-- the card is that of the bench that was closed last, also behind a format
card_at_first : (keys : Keys) (closed : Option BenchState) (handed between : BenchState) → HasItsCard closed handed → (opens : OpensBench keys handed between)
    → HasItsCard (closed_at_first closed opens) between
card_at_first keys closed handed between has (found block some read) = card_then closed handed between read.card has
card_at_first keys closed handed between has (made block zeroed blank read forms) = (refl, forms.sound)

module _ {F R : Type 0} (of_file : F → FileState) (of_port : R → PortState) (image : FileState → ℕ → ℕ → List ℕ) (Reliable : Type 0) (all_sound : (file : F) → Sound (of_file file)) (keys : Keys)
    (closed : Option BenchState) (drew draws : ℕ) (t : Trace) (handed given : BenchState) (has : HasItsCard closed handed) (started : t.start ≡ None) where
  abbrev OpenedBench : (applications : List (List ℕ)) → Type 0
  OpenedBench applications = Opened of_file of_port image Reliable drew draws keys applications t.start t.records handed given

  abbrev IsFresh : (applications : List (List ℕ)) → Type 0
  IsFresh applications = (o : OpenedBench applications) × AreFresh of_file of_port Reliable keys applications (closed_at_first closed o.opens) t.records given

  opened_fresh : (applications : List (List ℕ)) → OpenedBench applications ⊎ NotOpened of_file of_port image Reliable drew draws keys t.start t.records handed given → IsFresh applications
  opened_fresh applications (inl o) =
      let first = closed_at_first closed o.opens in
      let goes = o.goes in (
        o,
        subst (AreFresh of_file of_port Reliable keys applications first t.records) (sym goes.given_is)
            (courses_fresh of_file of_port image Reliable all_sound keys applications first drew draws t.records (begins_with o.between) goes.last (card_at_first keys closed handed o.between has o.opens) goes.acts),
      )
  opened_fresh applications (inr shut) = absurd (no_start t.start shut.fault started shut.shown)

  run_fresh : EndsBench of_file of_port image Reliable drew draws keys t handed given → IsUntouched t handed given ⊎ OfScript t.taken (λ script. IsFresh (applications_of script))
  run_fresh (inl undone) = inl undone
  run_fresh (inr (script, read, ends)) = inr (script, read, opened_fresh (applications_of script) ends.bench)

pub runs_fresh : {F R : Type 0} (of_file : F → FileState) (of_port : R → PortState) (image : FileState → ℕ → ℕ → List ℕ) (Reliable : Type 0) (w : World) → ((file : F) → Sound (of_file file))
    → RunsAreFresh of_file of_port image Reliable w
runs_fresh of_file of_port image Reliable w all_sound left_old left_new held_old held_new drew draws keys closed handed given status has r started =
    run_fresh of_file of_port image Reliable all_sound keys closed drew draws r.0 handed given has started r.2
