use Rattle.std.proofs.Common.{◌≡◌, ◌≤◌, ◌+◌, ◌∙◌, ℕ, vec_len, refl, sym, subst}
use Rattle.std.specs.Vec.{vec_capacity}
use Rattle.std.proofs.lemmas.Result.{err_from_is_err_and}
use Rattle.tee_types.specs.Limits.{file_count, last_file}
use Rattle.crash_core.specs.EntryLists.{entry_at}
use Rattle.object_calls.proofs.MovedEntries.{left_old}
use Rattle.object_calls.proofs.ObjectsMoved.{AreTurned, short_here, goes_on_both, migrates_both, stops_later, turned_none, turned_one, turned_skip}
use Rattle.object_calls.proofs.object_moving.move_each.Goals as goal
use Rattle.object_calls.proofs.object_moving.move_each.Goals.{in-Some+in_ok-move_object, in_default}

pub loop-index-init : goal.loop-index-init
loop-index-init g c = record {
  turned = turned_none g.F.StoreFile.state g.R.RpmbPort.state c.args.gate.now c.args.files.now.items c.requires.may;
  whole = c.requires.whole;
  room = c.requires.room;
  undrawn = refl;
  reliable = λ reliable. reliable;
}

pub returns-in_err-move_object-clause-migrates : goal.returns-in_err-move_object-clause-migrates
returns-in_err-move_object-clause-migrates g c =
    let before = c.loop-index.invariant.turned in
    migrates_both g.F.StoreFile.state g.R.RpmbPort.state c.args.gate.now c.loop-index.gate c.move_object.new.gate c.args.files.now.items c.loop-index.files.items c.move_object.new.files.items before.goes_on before.migrates
    c.move_object.ensures.migrates

pub returns-in_err-move_object-clause-goes_on : goal.returns-in_err-move_object-clause-goes_on
returns-in_err-move_object-clause-goes_on g c =
    goes_on_both g.F.StoreFile.state g.R.RpmbPort.state c.args.gate.now c.loop-index.gate c.move_object.new.gate c.args.files.now.items c.loop-index.files.items c.move_object.new.files.items
    c.loop-index.invariant.turned.goes_on c.move_object.ensures.goes_on

pub returns-in_err-move_object-clause-stops : goal.returns-in_err-move_object-clause-stops
returns-in_err-move_object-clause-stops g c =
    let state = g.F.StoreFile.state in
    let port = g.R.RpmbPort.state in
    let l = c.loop-index in
    let before = l.invariant.turned in
    let e = c.in-Some.entry in
    let was = left_old (entry_at l.gate.dir.dir.entries l.index) e (sym c.old_entry.ensures ∙ c.in-Some.is) in
    let fault = c.in_err-move_object.field-0.0 in
    let is = c.in_err-move_object.ensures in
    let p = err_from_is_err_and c.from_residual.result c.from_residual.ensures.1 in
    rw (p.1, p.2) (record {
      why = stops_later state port c.args.gate.now l.gate c.move_object.new.gate c.args.files.now.items l.files.items c.move_object.new.files.items before.goes_on before.passed (g.E.Entropy.faults c.args.entropy.now)
          (g.E.Entropy.faults l.entropy) (g.E.Entropy.faults c.move_object.new.entropy) l.invariant.undrawn fault is.refused;
      left = λ spent. is.left spent was.1;
      short = λ spent. short_here state port c.args.gate.now l.gate c.args.files.now.items l.files.items l.index l.moved e before (sym c.old_entry.ensures ∙ c.in-Some.is) (is.spent spent);
    })

pub loop-index-preserved : goal.loop-index-preserved
loop-index-preserved g c =
    let state = g.F.StoreFile.state in
    let port = g.R.RpmbPort.state in
    let l = c.loop-index in
    let m = c.match-old_entry in
    let g0 = c.args.gate.now in
    let first = c.args.files.now.items in
    let i : ℕ = l.index in
    let before = l.invariant.turned in
    elim c.match-old_entry.branch [
      | in-Some+in_ok-move_object w ↦
          let new = w.move_object.new in
          let is = w.in_ok-move_object.ensures in
          let turned : AreTurned state port g0 new.gate first new.files.items (i + 1) (l.moved + 1) =
          turned_one state port g0 l.gate new.gate first l.files.items new.files.items i l.moved w.in-Some.entry before c.loop-index-test.true (sym c.old_entry.ensures ∙ w.in-Some.is) is.moves is.migrates is.goes_on is.passed in
          record {
            turned = subst (λ gate. AreTurned state port g0 gate first m.files.items (i + 1) m.moved) (sym w.gate-is)
                (subst (λ files. AreTurned state port g0 new.gate first files.items (i + 1) m.moved) (sym w.files-is)
                (subst (AreTurned state port g0 new.gate first new.files.items (i + 1)) (sym w.moved-is) turned));
            whole = subst (λ files. vec_len files ≡ last_file) (sym w.files-is) is.whole;
            room = subst (λ files. file_count ≤ vec_capacity files) (sym w.files-is) is.room;
            undrawn = subst (λ entropy. g.E.Entropy.faults entropy ≡ g.E.Entropy.faults c.args.entropy.now) (sym w.entropy-is) (is.undrawn ∙ l.invariant.undrawn);
            reliable = λ reliable. subst (λ entropy. g.E.Entropy.is_reliable entropy) (sym w.entropy-is) (is.reliable (l.invariant.reliable reliable));
          }
      | in_default w ↦
          let turned : AreTurned state port g0 l.gate first l.files.items (i + 1) l.moved = turned_skip state port g0 l.gate first l.files.items i l.moved before (sym c.old_entry.ensures ∙ w.in_default.is) in
          record {
            turned = subst (λ gate. AreTurned state port g0 gate first m.files.items (i + 1) m.moved) (sym w.gate-is)
                (subst (λ files. AreTurned state port g0 l.gate first files.items (i + 1) m.moved) (sym w.files-is)
                (subst (AreTurned state port g0 l.gate first l.files.items (i + 1)) (sym w.moved-is) turned));
            whole = subst (λ files. vec_len files ≡ last_file) (sym w.files-is) l.invariant.whole;
            room = subst (λ files. file_count ≤ vec_capacity files) (sym w.files-is) l.invariant.room;
            undrawn = subst (λ entropy. g.E.Entropy.faults entropy ≡ g.E.Entropy.faults c.args.entropy.now) (sym w.entropy-is) l.invariant.undrawn;
            reliable = λ reliable. subst (λ entropy. g.E.Entropy.is_reliable entropy) (sym w.entropy-is) (l.invariant.reliable reliable);
          }
    ]
