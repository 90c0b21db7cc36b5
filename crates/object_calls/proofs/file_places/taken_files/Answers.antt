use Rattle.std.proofs.Common.{rules, ◌≡◌, ◌+◌, ◌<◌, ◌∙◌, [], ◌∷◌, ◌++◌, length, vec_len, sym, arith}
use Rattle.object_calls.proofs.Placings.{none_taken, one_taken}
use Rattle.object_calls.proofs.Stacks.{popped_last, popped_rest}
use Rattle.object_calls.proofs.file_places.taken_files.Goals as goal

pub loop-place-init : goal.loop-place-init
loop-place-init g c = record {
  taken = none_taken c.args.places.items c.reversed-left.result.items c.args.room.items (sym c.args.room.ok.0 ∙ c.requires.empty) c.reversed-left.ensures.items;
  count = omega (arith, c.requires.empty, c.reversed-left.ensures.len);
  room = omega arith;
}

pub loop-place-preserved : goal.loop-place-preserved
loop-place-preserved g c =
    let l = c.loop-place in
    let place = c.in-Some.place in
    let some : 0 < vec_len l.left = omega (arith, c.in-Some.ensures.cases) in
    let more : length l.files.items < length c.args.places.items = omega (arith, l.invariant.count, some, l.files.ok.0, c.args.places.ok.0) in
    let pushed : c.push.new.self.items ≡ l.files.items ++ c.in-Some-place.file ∷ [] = search rules in
    let longer : vec_len c.push.new.self ≡ vec_len l.files + 1 = search rules in
    record {
      taken = one_taken c.args.places.items l.left.items l.files.items l.invariant.taken more place
          (popped_last l.left.items (vec_len l.left) l.left.ok.0 place (c.in-Some.ensures.value place some)) c.in-Some-place.file c.pop.new.self.items c.push.new.self.items c.in-Some-place.is
          (popped_rest l.left.items (vec_len l.left) l.left.ok.0 c.pop.new.self.items c.in-Some.ensures.rest) pushed;
      count = omega (arith, l.invariant.count, longer, c.in-Some.ensures.cases);
      room = omega (arith, l.invariant.room, c.push.ensures.capacity);
    }
