use Rattle.std.proofs.Common.{◌-◌, ◌<◌, ◌∙◌, List, Some, ℕ, vec_len, refl, ap, arith}
use Rattle.std.specs.Prelude.{slice_set}
use Rattle.history_seats.specs.Numbers.{without}
use Rattle.serial_calls.specs.Journals.{JournalValue}
use Rattle.serial_calls.specs.SlotValues.{SlotValue}
use Rattle.object_calls.proofs.Placings.{all_placed, none_placed, object_last, one_placed}
use Rattle.object_calls.proofs.Retirings.{files_same, files_then}
use Rattle.object_calls.proofs.Stacks.{popped_last, popped_rest}
use Rattle.object_calls.proofs.phase_end.retire_slots.Goals as goal

pub loop-slot-init : goal.loop-slot-init
loop-slot-init g c = record {
  journal = refl;
  placed = none_placed g.L.StoreName.store g.F.StoreFile.state c.args.slots.items c.args.journal.now.knows c.args.places.items c.requires.free;
}

pub put_file-requires : goal.put_file-requires
put_file-requires g c =
    let l = c.loop-slot in
    let slot : SlotValue = c.in-Some.slot in
    let some : 0 < vec_len l.left = omega (arith, c.in-Some.ensures.cases) in
    let last = popped_last l.left.items (vec_len l.left) l.left.ok.0 slot (c.in-Some.ensures.value slot some) in
    let object =
    object_last g.L.StoreName.store g.F.StoreFile.state c.args.slots.items c.args.journal.now.knows l.journal.knows l.left.items l.places.items l.invariant.placed c.requires.objects
    (omega (arith, some, l.left.ok.0)) slot last in
    (omega (arith, object.0, c.number-number.ensures.number), omega (arith, object.1, c.number-number.ensures.number, l.invariant.placed.many, l.places.ok.0))

pub loop-slot-preserved : goal.loop-slot-preserved
loop-slot-preserved g c =
    let l = c.loop-slot in
    let slot : SlotValue = c.in-Some.slot in
    let after = c.retire_slot-file.new.journal in
    let some : 0 < vec_len l.left = omega (arith, c.in-Some.ensures.cases) in
    let last = popped_last l.left.items (vec_len l.left) l.left.ok.0 slot (c.in-Some.ensures.value slot some) in
    let retired = c.retire_slot-file.ensures in
    let rest : List ℕ = without slot.number l.journal.knows.files in
    record {
      journal = files_then c.args.journal.now l.journal after rest l.invariant.journal retired.journal;
      placed = one_placed g.L.StoreName.store g.F.StoreFile.state c.args.slots.items c.args.journal.now.knows l.journal.knows l.left.items l.places.items l.invariant.placed c.requires.objects
          (omega (arith, some, l.left.ok.0)) after.knows slot c.retire_slot-file.result c.pop.new.self.items c.put_file.new.places.items last
          (popped_rest l.left.items (vec_len l.left) l.left.ok.0 c.pop.new.self.items c.in-Some.ensures.rest) (c.put_file.ensures ∙ ap (λ n. slice_set l.places.items (n - 1) (Some c.retire_slot-file.result)) c.number-number.ensures.number) retired.retired retired.file retired.out
          (ap (λ (j : JournalValue). j.knows.files) retired.journal) retired.gone retired.recorded (files_same l.journal after rest retired.journal);
    }

pub returns : goal.returns
returns g c =
    let l = c.loop-slot in
    let all =
    all_placed g.L.StoreName.store g.F.StoreFile.state c.args.slots.items c.args.journal.now.knows l.journal.knows l.left.items l.places.items l.invariant.placed
    (omega (arith, c.in_default.ensures.cases.0, l.left.ok.0)) (omega (arith, c.requires.many, c.args.slots.ok.0)) in
    record {
      journal = l.invariant.journal;
      many = omega (arith, l.invariant.placed.many, l.places.ok.0);
      full = all.0;
      placed = all.1;
      recorded = all.2;
    }
