-- Turns of the loop that moves objects, one behind another.
use Rattle.std.proofs.Common.{◌≡◌, ◌≤◌, ◌<◌, ◌+◌, ◌∙◌, ℕ, List, Option, Some, None, inl, inr, refl, sym, subst, arith}
use Rattle.std.specs.List.{count_by}
use Rattle.disk_model.specs.Faults.{Rose}
use Rattle.disk_model.specs.State.{FileState}
use Rattle.disk_model.proofs.Goings.{goes_on_then}
use Rattle.htree_file.specs.Answers.{FileFailed}
use Rattle.htree_file.specs.declared.fault.TreeFault.TheVariants.{Failed as FileFault}
use Rattle.htree_file.proofs.Causes.{fault_then, passed_none, passed_then}
use Rattle.node_image.specs.References.{current_format}
use Rattle.tee_types.specs.declared.reply.Cause.TheVariants.{Fault, Frame as FrameCause, CardResult as ResultCause}
use Rattle.tee_types.specs.declared.reply.Device.TheVariants.{Dir, File, Card, Entropy}
use Rattle.dir_records.specs.declared.entry.DirEntry.{DirEntry}
use Rattle.rpmb_card.specs.Port.{PortState}
use Rattle.rpmb_card.specs.Protocol.{last_counter}
use Rattle.crash_core.specs.EntryLists.{entry_at}
use Rattle.crash_core.specs.MigrationLaws.{moved_entry}
use Rattle.store_commit.specs.declared.fault.MountFault.{MountFault}
use Rattle.store_commit.specs.declared.fault.MountFault.TheVariants.{CardBlock, CardResult, Directory, Failed, Frame, NoMemory, NoStore, OldFormat, Spent}
use Rattle.store_commit.specs.Causes.{Counted, counts}
use Rattle.store_commit.specs.Gates.{GateValue}
use Rattle.store_commit.specs.Mounts.{NoCardOf}
use Rattle.object_calls.specs.OpeningFiles.{object_files}
use Rattle.object_calls.specs.MovedEntries.{MovesEntries, is_old, unless_current}
use Rattle.object_calls.specs.ObjectMoves.{GateGoesOn, GatePassed, MayMove, MigratesGate, MovesEach, MovesObject, ObjectNotMoved}
use Rattle.object_calls.proofs.EntriesOf.{form_at}
use Rattle.object_calls.proofs.MigrationStages.{later_rose}
use Rattle.object_calls.proofs.MovedEntries.{count_moved, current_counts, left_old, other_old, moves_none, moves_one, moves_skip}
use Rattle.object_calls.proofs.ObjectMoving.{still_goes_on, still_migrates}
use Rattle.object_calls.proofs.ObjectTurns.{turns_follow}

module _ {F R : Type 0} (state : F → FileState) (port : R → PortState) where
  pub goes_on_both : (g0 g1 g2 : GateValue F R) (a b c : List F) → GateGoesOn state port g0 g1 a b → GateGoesOn state port g1 g2 b c → GateGoesOn state port g0 g2 a c
  goes_on_both g0 g1 g2 a b c first second = record {
    tsk = second.tsk ∙ first.tsk;
    key = second.key ∙ first.key;
    dir = goes_on_then (state g0.dir.file) (state g1.dir.file) (state g2.dir.file) first.dir second.dir;
    files = λ n. goes_on_then (object_files state a n) (object_files state b n) (object_files state c n) (first.files n) (second.files n);
    card = λ had. second.card (first.card had);
  }

  passed_both : (g0 g1 g2 : GateValue F R) (a b c : List F) → GatePassed state port g0 g1 a b → GatePassed state port g1 g2 b c → GatePassed state port g0 g2 a c
  passed_both g0 g1 g2 a b c first second = record {
    dir = passed_then (state g0.dir.file) (state g1.dir.file) (state g2.dir.file) first.dir second.dir;
    files = λ n. passed_then (object_files state a n) (object_files state b n) (object_files state c n) (first.files n) (second.files n);
    card = omega (arith, first.card, second.card);
  }

  passed_still : (g : GateValue F R) (a : List F) → GatePassed state port g g a a
  passed_still g a = record { dir = passed_none (state g.dir.file); files = λ n. passed_none (object_files state a n); card = omega arith }

  pub migrates_both : (g0 g1 g2 : GateValue F R) (a b c : List F) → GateGoesOn state port g0 g1 a b → MigratesGate state port g0 g1 a b → MigratesGate state port g1 g2 b c
      → MigratesGate state port g0 g2 a c
  migrates_both g0 g1 g2 a b c goes first second spare keys card tsk has =
      let one = first spare keys card tsk has in
      turns_follow state port spare g0 g1 g2 a b c keys card one (second spare keys one.after (tsk ∙ sym goes.tsk) one.has)

  -- WHAT STANDS AFTER SO MANY TURNS
  pub record AreTurned (g0 g1 : GateValue F R) (a b : List F) (index moved : ℕ) : Type 0 where
    pub may : MayMove state port g1
    pub migrates : MigratesGate state port g0 g1 a b
    pub goes_on : GateGoesOn state port g0 g1 a b
    pub passed : GatePassed state port g0 g1 a b
    pub moves : MovesEntries g0.dir.dir.entries g1.dir.dir.entries index moved
    pub counted : g1.counter ≡ g0.counter + moved
    pub few : moved ≤ index

  pub turned_none : (g : GateValue F R) (a : List F) → MayMove state port g → AreTurned g g a a 0 0
  turned_none g a may = record {
    may = may;
    migrates = still_migrates state port g g a refl refl;
    goes_on = still_goes_on state port g g a refl refl;
    passed = passed_still g a;
    moves = moves_none g.dir.dir.entries;
    counted = omega arith;
    few = omega arith;
  }

  pub turned_skip : (g0 g1 : GateValue F R) (a b : List F) (i moved : ℕ) → AreTurned g0 g1 a b i moved → unless_current (entry_at g1.dir.dir.entries i) ≡ None → AreTurned g0 g1 a b (i + 1) moved
  turned_skip g0 g1 a b i moved before none = record {
    may = before.may;
    migrates = before.migrates;
    goes_on = before.goes_on;
    passed = before.passed;
    moves = moves_skip g0.dir.dir.entries g1.dir.dir.entries i moved before.moves none;
    counted = before.counted;
    few = let few = before.few in omega (arith, few);
  }

  pub turned_one : (g0 g1 g2 : GateValue F R) (a b c : List F) (i moved : ℕ) (e : DirEntry) → AreTurned g0 g1 a b i moved → i < 256 → unless_current (entry_at g1.dir.dir.entries i) ≡ Some e
      → MovesObject state port g1 g2 i e → MigratesGate state port g1 g2 b c → GateGoesOn state port g1 g2 b c → GatePassed state port g1 g2 b c → AreTurned g0 g2 a c (i + 1) (moved + 1)
  turned_one g0 g1 g2 a b c i moved e before below left moves migrates goes passed =
      let entries : List (Option DirEntry) = g1.dir.dir.entries in
      let whole = before.may.settled.entries.whole in
      let was = left_old (entry_at entries i) e left in
      let form = form_at entries before.may.settled.entries i e was.0 in
      let next = moves_one g0.dir.dir.entries entries i moved e moves.file before.moves (omega (arith, below, whole)) left form.format moves.free in
      let counted = before.counted in
      let one = moves.counted in
      let few = before.few in
      record {
        may = moves.may;
        migrates = migrates_both g0 g1 g2 a b c before.goes_on before.migrates migrates;
        goes_on = goes_on_both g0 g1 g2 a b c before.goes_on goes;
        passed = passed_both g0 g1 g2 a b c before.passed passed;
        moves = subst (λ (l : List (Option DirEntry)). MovesEntries g0.dir.dir.entries l (i + 1) (moved + 1)) (sym moves.entries) next;
        counted = omega (arith, counted, one);
        few = omega (arith, few);
      }

  -- the next entry is left, and the counter is at its end
  pub short_here : (g0 g1 : GateValue F R) (a b : List F) (i moved : ℕ) (e : DirEntry) → AreTurned g0 g1 a b i moved → unless_current (entry_at g1.dir.dir.entries i) ≡ Some e → g1.counter ≡ last_counter
      → last_counter < g0.counter + count_by is_old g0.dir.dir.entries
  short_here g0 g1 a b i moved e before left spent =
      let entries : List (Option DirEntry) = g1.dir.dir.entries in
      let was = left_old (entry_at entries i) e left in
      let form = form_at entries before.may.settled.entries i e was.0 in
      let one = count_moved entries i e (moved_entry e 0 current_format) was.0 (other_old e form.format was.1) (current_counts (moved_entry e 0 current_format) refl) in
      let counted = before.counted in
      let all = (before.moves).counted in
      omega (arith, one, counted, all, spent)

  -- all were turned
  pub turned_all : (g0 g1 : GateValue F R) (a b : List F) (i moved : ℕ) → AreTurned g0 g1 a b i moved → i ≡ 256 → MovesEach state port g0 g1 moved
  turned_all g0 g1 a b i moved before is = record {
    entries = subst (λ (n : ℕ). MovesEntries g0.dir.dir.entries g1.dir.dir.entries n moved) is before.moves;
    counted = before.counted;
    may = before.may;
  }

  -- a later one was given up
  module _ (g0 g1 g2 : GateValue F R) (a b c : List F) (goes : GateGoesOn state port g0 g1 a b) (passed : GatePassed state port g0 g1 a b) (drew between draws : ℕ) (same : between ≡ drew) where
    abbrev first : Counted
    first = counts (state g0.dir.file) (port g0.host.port) drew

    abbrev mid : Counted
    mid = counts (state g1.dir.file) (port g1.host.port) between

    abbrev last : Counted
    last = counts (state g2.dir.file) (port g2.host.port) draws

    copy_failed : (n count : ℕ) → FileFailed (object_files state b n) (object_files state c n) count → FileFailed (object_files state a n) (object_files state c n) count
    copy_failed n count failed = fault_then (object_files state a n) (object_files state b n) (object_files state c n) (FileFault count) (goes.files n) (passed.files n) failed

    no_card : NoCardOf (port g1.host.port) g1.host.key → NoCardOf (port g0.host.port) g0.host.key
    no_card none card has = let had = goes.card (card, has) in none had.0 had.1

    pub stops_later : (fault : MountFault) → ObjectNotMoved (object_files state b) (object_files state c) mid last g1.host.key fault
        → ObjectNotMoved (object_files state a) (object_files state c) first last g0.host.key fault
    stops_later (Failed (Fault (File file) count)) not = record {
      named = not.named;
      other = not.other;
      into = not.into;
      failed = elim not.failed [
        | inl here ↦ inl (copy_failed file count here)
        | inr there ↦ inr (copy_failed not.other count there)
      ];
    }
    stops_later (Failed (Fault Dir count)) not = fault_then (state g0.dir.file) (state g1.dir.file) (state g2.dir.file) (FileFault count) goes.dir passed.dir not
    stops_later (Failed (Fault Card count)) not = (later_rose (port g0.host.port).faults (port g1.host.port).faults (port g2.host.port).faults passed.card not.0, not.1)
    stops_later (Failed (Fault Entropy count)) not = (subst (λ (n : ℕ). Rose n draws) same not.0, not.1)
    stops_later (Failed (FrameCause fault)) not = absurd not
    stops_later (Failed (ResultCause result)) not = absurd not
    stops_later (Frame fault) not = no_card not
    stops_later (CardResult result) not = no_card not
    stops_later Spent not = tt
    stops_later NoMemory not = tt
    stops_later NoStore not = absurd not
    stops_later (CardBlock byte) not = absurd not
    stops_later (OldFormat file) not = absurd not
    stops_later (Directory fault) not = absurd not
