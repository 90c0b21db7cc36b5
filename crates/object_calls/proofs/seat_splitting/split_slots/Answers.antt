use Rattle.std.proofs.Common.{rules, ◌≡◌, ◌+◌, ◌<◌, ◌∙◌, [], ◌∷◌, ◌++◌, length, vec_len, sym, subst, arith}
use Rattle.object_calls.specs.Seats.{IsSplitting}
use Rattle.object_calls.proofs.SplitFiles.{may_be_next, none_split, one_split}
use Rattle.object_calls.proofs.Stacks.{popped_last, popped_rest}
use Rattle.object_calls.proofs.seat_splitting.split_slots.Goals as goal

pub loop-file-init : goal.loop-file-init
loop-file-init g c =
    let store = g.L.StoreName.store in
    let none : length c.args.slots.items ≡ 0 = sym c.args.slots.ok.0 ∙ c.requires.empty in
    let first : 1 ≡ vec_len c.args.slots + 1 = omega (arith, c.requires.empty) in
    record {
      table = c.requires.table.1;
      splitting = subst (IsSplitting store c.args.seat.now.knows) first c.requires.splitting;
      split = none_split store c.args.gate.now.dir.dir.entries g.F.StoreFile.state c.args.files.items c.args.seat.now.knows c.args.slots.items c.reversed-left.result.items none
          c.reversed-left.ensures.items;
      count = omega (arith, c.requires.empty, c.reversed-left.ensures.len, c.requires.files);
      room = c.requires.room;
      kept = c.reversed-left.ensures.capacity;
    }

pub split_slot-slot-requires-clause-guarded : goal.split_slot-slot-requires-clause-guarded
split_slot-slot-requires-clause-guarded g c =
    let l = c.loop-file in
    let file = c.in-Some.file in
    let some : 0 < vec_len l.left = omega (arith, c.in-Some.ensures.cases) in
    let last = popped_last l.left.items (vec_len l.left) l.left.ok.0 file (c.in-Some.ensures.value file some) in
    let more : length l.slots.items < length c.args.files.items = omega (arith, l.invariant.count, some, l.slots.ok.0, c.args.files.ok.0, c.requires.files) in
    let number : c.len.result + 1 ≡ length l.slots.items + 1 = omega (arith, c.len.ensures, l.slots.ok.0) in
    may_be_next g.L.StoreName.store c.args.gate.now.dir.dir.entries g.F.StoreFile.state c.args.files.items l.seat.knows l.slots.items l.left.items l.invariant.split more c.requires.guarded
    file (c.len.result + 1) number last

pub loop-file-preserved : goal.loop-file-preserved
loop-file-preserved g c =
    let store = g.L.StoreName.store in
    let l = c.loop-file in
    let file = c.in-Some.file in
    let some : 0 < vec_len l.left = omega (arith, c.in-Some.ensures.cases) in
    let last = popped_last l.left.items (vec_len l.left) l.left.ok.0 file (c.in-Some.ensures.value file some) in
    let more : length l.slots.items < length c.args.files.items = omega (arith, l.invariant.count, some, l.slots.ok.0, c.args.files.ok.0, c.requires.files) in
    let number : c.len.result + 1 ≡ length l.slots.items + 1 = omega (arith, c.len.ensures, l.slots.ok.0) in
    let s = c.split_slot-slot.ensures in
    let pushed : c.push.new.self.items ≡ l.slots.items ++ c.split_slot-slot.result ∷ [] = search rules in
    let longer : vec_len c.push.new.self ≡ vec_len l.slots + 1 = search rules in
    record {
      table = s.table;
      splitting = subst (IsSplitting store c.split_slot-slot.new.seat.knows) (let next : c.len.result + 1 + 1 ≡ vec_len c.push.new.self + 1 = omega (arith, c.len.ensures, longer) in next) s.splitting;
      split = one_split store c.args.gate.now.dir.dir.entries g.F.StoreFile.state c.args.files.items l.seat.knows l.slots.items l.left.items l.invariant.split more
          c.split_slot-slot.new.seat.knows file (c.len.result + 1) c.split_slot-slot.result c.push.new.self.items c.pop.new.self.items number last s.slot pushed
          (popped_rest l.left.items (vec_len l.left) l.left.ok.0 c.pop.new.self.items c.in-Some.ensures.rest) s.told;
      count = omega (arith, l.invariant.count, longer, c.in-Some.ensures.cases);
      room = omega (arith, l.invariant.room, c.push.ensures.capacity);
      kept = c.in-Some.ensures.capacity ∙ l.invariant.kept;
    }
