-- What the run of a migration puts.
use Rattle.std.proofs.Common.{ℕ, ◌≡◌, ◌⊎◌, ◌∙◌, Bool, List, [], ◌++◌, Option, inl, inr, refl, sym, ap, subst, Some}
use Rattle.std.proofs.lemmas.List.{append-nil}
use Rattle.disk_model.specs.State.{FileState}
use Rattle.hmac_keys.specs.declared.Keys.{Keys}
use Rattle.rpmb_card.specs.Port.{PortState}
use Rattle.tee_ports.specs.Streams.{Appends}
use Rattle.tee_ports.proofs.Streams.{Appends-none}
use Rattle.store_model.specs.Object.{ObjectMap}
use Rattle.script_text.specs.Text.{migration_line}
use Rattle.run_acts.specs.Benches.{BenchState}
use Rattle.run_acts.specs.declared.MountFault.{MountFault}
use Rattle.run_acts.specs.Lines.{objects_text, refusal_line}
use Rattle.run_acts.specs.ListedBenches.{IsListRefused, ListsBench}
use Rattle.run_acts.specs.MigratedBenches.{IsBenchNotMoved, MovesBench}
use Rattle.script_runner.specs.declared.status.Status.{Status}
use Rattle.script_runner.specs.declared.status.Status.TheVariants.{DeviceFault, Done, MountRefused, NoMemory, WriteFault}
use Rattle.script_runner.specs.Migrations.{GivenUp, MigratesThen, MigrationRecord, PrintsBehind, RunsMigration, Shown, Starved, Unlisted, migration_output, migration_stop, told_behind}
use Rattle.script_runner.specs.Prints.{MayStopWriting, MayWant, PrintsLines, PrintsRefusal}
use Rattle.script_runner.specs.Text.{Refused}
use Rattle.script_runner.specs.RunRefusals.{IsDeviceFault, IsRefusal}
use Rattle.script_runner.specs.Sending.{Begins, Stops}
use Rattle.script_runner.proofs.Endings.{refusal_line-none}
use Rattle.script_runner.proofs.Sent.{Stops-longer}

-- two texts were put as one
pub prints_behind : (failed : Type 0) (held_old held_new : Option (List ℕ)) (kept lines text : List ℕ) → text ≡ kept ++ lines → (status : Status) → PrintsLines failed held_old held_new text status
    → PrintsBehind failed held_old held_new kept lines status
prints_behind failed held_old held_new kept lines text is Done t = subst (Appends held_old held_new) is t
prints_behind failed held_old held_new kept lines text is WriteFault t = (t.0, (t.1.0, t.1.1, (t.1.2.0, sym is ∙ sym (append-nil text) ∙ t.1.2.1)))
prints_behind failed held_old held_new kept lines text is status t = absurd t

module _ {F R : Type 0} (of_file : F → FileState) (of_port : R → PortState) (keys : Keys) (drew draws : ℕ) (failed : Type 0) (held_old held_new : Option (List ℕ)) (handed given : BenchState) where
  -- a refusal, with its line behind the text so far
  module _ (what : MigrationRecord) (kept : List ℕ) (fault : MountFault) (line : migration_output what ≡ kept ++ refusal_line fault) (done : MigratesThen of_file of_port keys drew draws what handed given)
      (stop : migration_stop what ≡ Some (Refused fault)) where
    same_stop : (printed : MountFault) → printed ≡ fault → migration_stop what ≡ Some (Refused printed)
    same_stop printed is = stop ∙ ap (λ f. Some (Refused f)) (sym is)

    runs_refused : (status : Status) → PrintsRefusal failed held_old held_new kept fault status → RunsMigration of_file of_port keys drew draws failed held_old held_new handed given status
    runs_refused WriteFault t = record {
      put = t.2.0;
      what = what;
      appended = t.2.1;
      begins = subst (Begins t.2.0) (sym line) t.2.2;
      done = done;
      cause = (t.1, subst MayStopWriting (sym stop) t.0);
    }
    runs_refused NoMemory t = record {
      put = t.1.0;
      what = what;
      appended = t.1.1;
      begins = subst (Begins t.1.0) (sym line) t.1.2;
      done = done;
      cause = subst MayWant (sym stop) t.0;
    }
    runs_refused (MountRefused printed) t = record {
      put = kept ++ refusal_line fault;
      what = what;
      appended = t.2;
      begins = ([], line ∙ sym (append-nil (kept ++ refusal_line fault)));
      done = done;
      cause = (sym line, same_stop printed t.0, subst IsRefusal (sym t.0) t.1);
    }
    runs_refused (DeviceFault printed) t = by_sink t.2
      where
        none : migration_output what ≡ kept
        none = line ∙ ap (λ (text : List ℕ). kept ++ text) (refusal_line-none fault t.1) ∙ append-nil kept

        by_sink : Appends held_old held_new kept ⊎ (failed × Stops held_old held_new kept []) → RunsMigration of_file of_port keys drew draws failed held_old held_new handed given (DeviceFault printed)
        by_sink (inl put) = record {
          put = kept;
          what = what;
          appended = put;
          begins = (refusal_line fault, line);
          done = done;
          cause = (inl (sym none), same_stop printed t.0, subst IsDeviceFault (sym t.0) t.1);
        }
        by_sink (inr x) =
            let stops : Stops held_old held_new kept (refusal_line fault) = Stops-longer held_old held_new kept [] (refusal_line fault) x.1 in
            record {
              put = stops.0;
              what = what;
              appended = stops.1;
              begins = subst (Begins stops.0) (sym line) stops.2;
              done = done;
              cause = (inr x.0, same_stop printed t.0, subst IsDeviceFault (sym t.0) t.1);
            }
    runs_refused status t = absurd t

  -- the bench was not migrated to the end
  pub runs_given_up : (kept : List ℕ) → kept ≡ [] → (fault : MountFault) → IsBenchNotMoved keys handed given drew draws fault → (status : Status) → PrintsRefusal failed held_old held_new kept fault status
      → RunsMigration of_file of_port keys drew draws failed held_old held_new handed given status
  runs_given_up kept none fault stops status prints =
      runs_refused (GivenUp fault) kept fault (ap (λ (text : List ℕ). text ++ refusal_line fault) (sym none)) stops refl status prints

  module _ (between : BenchState) (directory : Bool) (moved : ℕ) (kept : List ℕ) (kept_is : kept ≡ migration_line directory moved) (moves : MovesBench keys handed between directory moved) where
    -- it was, and its objects could not be listed
    pub runs_unlisted : (fault : MountFault) → IsListRefused of_file of_port keys between given drew draws fault → (status : Status) → PrintsRefusal failed held_old held_new kept (told_behind fault) status
        → RunsMigration of_file of_port keys drew draws failed held_old held_new handed given status
    runs_unlisted fault refused status prints =
        runs_refused (Unlisted directory moved fault) kept (told_behind fault) (ap (λ (text : List ℕ). text ++ refusal_line (told_behind fault)) (sym kept_is)) (between, moves, refused) refl status prints

    -- or were listed
    module _ (objects : ObjectMap) (lists : ListsBench of_file of_port keys between given objects (objects_text objects)) where
      line : migration_output (Shown directory moved objects) ≡ kept ++ objects_text objects
      line = ap (λ (text : List ℕ). text ++ objects_text objects) (sym kept_is)

      runs_shown : (status : Status) → PrintsBehind failed held_old held_new kept (objects_text objects) status → RunsMigration of_file of_port keys drew draws failed held_old held_new handed given status
      runs_shown Done t = record {
        put = kept ++ objects_text objects;
        what = Shown directory moved objects;
        appended = t;
        begins = ([], line ∙ sym (append-nil (kept ++ objects_text objects)));
        done = (between, moves, lists);
        cause = (sym line, refl, tt);
      }
      runs_shown WriteFault t = record {
        put = t.1.0;
        what = Shown directory moved objects;
        appended = t.1.1;
        begins = subst (Begins t.1.0) (sym line) t.1.2;
        done = (between, moves, lists);
        cause = (t.0, tt);
      }
      runs_shown NoMemory t = record {
        put = [];
        what = Shown directory moved objects;
        appended = subst (λ (held : Option (List ℕ)). Appends held_old held []) (sym t) (Appends-none held_old);
        begins = (migration_output (Shown directory moved objects), refl);
        done = (between, moves, lists);
        cause = tt;
      }
      runs_shown status t = absurd t

    pub runs_listed : (objects : ObjectMap) (lines : List ℕ) → ListsBench of_file of_port keys between given objects lines → (status : Status) → PrintsBehind failed held_old held_new kept lines status
        → RunsMigration of_file of_port keys drew draws failed held_old held_new handed given status
    runs_listed objects lines lists status prints =
        runs_shown objects (subst (ListsBench of_file of_port keys between given objects) lists.lines_are lists) status
        (subst (λ (text : List ℕ). PrintsBehind failed held_old held_new kept text status) lists.lines_are prints)

  -- memory ran out behind the migration
  pub runs_starved : (directory : Bool) (moved : ℕ) → MovesBench keys handed given directory moved → held_new ≡ held_old
      → RunsMigration of_file of_port keys drew draws failed held_old held_new handed given NoMemory
  runs_starved directory moved moves same = record {
    put = [];
    what = Starved directory moved;
    appended = subst (λ (held : Option (List ℕ)). Appends held_old held []) (sym same) (Appends-none held_old);
    begins = (migration_output (Starved directory moved), refl);
    done = moves;
    cause = tt;
  }
