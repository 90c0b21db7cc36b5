use Rattle.std.proofs.Common.{rules, ◌≡◌, ◌+◌, ◌-◌, ◌<◌, get_or, vec_len, arith}
use Rattle.core_laws.proofs.Mending.{some_same}
use Rattle.run_acts.proofs.Sharings.{last_kept, rest_kept}
use Rattle.run_acts.proofs.shared_slots.share_slots.Goals as goal

pub new-requires : goal.new-requires
new-requires g c =
    let left = c.loop-slot.left in
    let slot = c.in-Some.slot in
    let some : 0 < vec_len left = omega (arith, c.in-Some.ensures.cases) in
    last_kept g.L.DevicesName.devices (vec_len left) left.items c.loop-slot.invariant.keep slot some
    (some_same slot (get_or left.items (vec_len left - 1) slot) (c.in-Some.ensures.value slot some))

pub loop-slot-preserved : goal.loop-slot-preserved
loop-slot-preserved g c =
    let l = c.loop-slot in
    let longer : vec_len c.push.new.self ≡ vec_len l.shared + 1 = search rules in
    record {
      keep = rest_kept g.L.DevicesName.devices (vec_len l.left) l.left.items l.invariant.keep (vec_len c.pop.new.self) c.pop.new.self.items (omega (arith, c.in-Some.ensures.cases))
          c.in-Some.ensures.rest;
      count = omega (arith, l.invariant.count, longer, c.in-Some.ensures.cases);
      room = omega (arith, l.invariant.room, c.push.ensures.capacity);
      left = omega (arith, l.invariant.left, c.in-Some.ensures.capacity);
    }
