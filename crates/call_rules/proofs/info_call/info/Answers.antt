use Rattle.std.proofs.Common.{refl}
use Rattle.call_rules.proofs.DataCalls.{info_told, info_of_object}
use Rattle.call_rules.proofs.Lookups.{entry_object}
use Rattle.call_rules.proofs.info_call.info.Goals as goal

pub returns-in-None-clause-told : goal.returns-in-None-clause-told
returns-in-None-clause-told g c = λ s i m. info_told s i c.args.session.now m.session c.args.number (c.in-None.ensures.none refl s i m)

pub returns-in-Some-clause-tells : goal.returns-in-Some-clause-tells
returns-in-Some-clause-tells g c = λ s i m.
    info_of_object s i c.args.session.now m.session c.args.number c.in-Some.found.handle c.in-Some.ensures.found.live c.in-Some.found.held.entry.size
    (entry_object _ s.objects m.shaped _ c.in-Some.found.held c.in-Some.ensures.found.named)
