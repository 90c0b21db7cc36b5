use Rattle.std.proofs.Common.{rules, ◌≡◌, ◌+◌, [], ◌∷◌, ◌++◌, vec_len, arith}
use Rattle.run_acts.proofs.Sharings.{more_kept}
use Rattle.run_acts.proofs.shared_slots.unshare_slots.Goals as goal

pub loop-slot-preserved : goal.loop-slot-preserved
loop-slot-preserved g c =
    let l = c.loop-slot in
    let pushed : c.push.new.self.items ≡ l.slots.items ++ c.into_slot.result ∷ [] = search rules in
    let longer : vec_len c.push.new.self ≡ vec_len l.slots + 1 = search rules in
    record {
      keep = more_kept g.L.DevicesName.devices (vec_len l.slots) l.slots.items l.invariant.keep (vec_len c.push.new.self) c.into_slot.result c.push.new.self.items l.slots.ok.0 longer
          c.into_slot.ensures.keeps pushed;
      count = omega (arith, l.invariant.count, longer, c.in-Some.ensures.cases);
      room = omega (arith, l.invariant.room, c.push.ensures.capacity);
    }
