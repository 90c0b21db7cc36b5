use Rattle.std.proofs.Common.{refl, w64}
use Rattle.std.proofs.lemmas.Int.{to_z-of_z}
use Rattle.call_rules.proofs.DataCalls.{seek_missed, seek_far, seek_done}
use Rattle.call_rules.proofs.Lookups.{entry_object}
use Rattle.call_rules.proofs.seek_call.seek.Goals as goal

pub returns-in_default-clause-told : goal.returns-in_default-clause-told
returns-in_default-clause-told g c = λ s i m. seek_missed s i c.args.session.now m.session c.args.number c.args.offset c.args.whence (c.in_default.ensures.none refl s i m)

pub returns-in_default-sought-clause-told : goal.returns-in_default-sought-clause-told
returns-in_default-sought-clause-told g c = λ s i m.
    seek_far s i c.args.session.now m.session c.args.number c.args.offset c.args.whence c.in-Some.found.handle c.in-Some.ensures.found.live c.in-Some.found.held.entry.size
    (entry_object _ s.objects m.shaped _ c.in-Some.found.held c.in-Some.ensures.found.named) c.seek_base-base.result c.seek_base-base.ensures
    _ (to_z-of_z w64 c.args.offset c.ranges.offset) c.in_default-sought.ensures

pub returns-clause-told : goal.returns-clause-told
returns-clause-told g c = λ s i m.
    seek_done s i c.args.session.now m.session c.args.number c.args.offset c.args.whence c.in-Some.found.handle c.in-Some.ensures.found.live c.in-Some.found.held.entry.size
    (entry_object _ s.objects m.shaped _ c.in-Some.found.held c.in-Some.ensures.found.named) c.seek_base-base.result c.seek_base-base.ensures
    _ (to_z-of_z w64 c.args.offset c.ranges.offset) c.in-Some-sought.ensures.0 c.in-Some-sought.position c.in-Some-sought.ensures.1 c.replace.new.self c.replace.ensures
