use Rattle.std.proofs.Common.{Some, None}
use Rattle.call_rules.proofs.Creating.{named_for}
use Rattle.call_rules.proofs.Lookups.{entry_object}
use Rattle.call_rules.proofs.Names.{held_by, rename_told, rename_taken, rename_done}
use Rattle.call_rules.proofs.rename_call.rename.Goals as goal

pub returns-in-Answered-clause-told : goal.returns-in-Answered-clause-told
returns-in-Answered-clause-told g c = λ s i m.
    rename_told s i c.args.session.now m.session c.args.number c.in-Answered.reply c.in-Answered.ensures.misuse (c.in-Answered.ensures.refused s i m) c.args.id

pub returns-in-Some-clause-told : goal.returns-in-Some-clause-told
returns-in-Some-clause-told g c = λ s i m.
    rename_taken s i c.args.session.now m.session c.args.number c.in-Needs.found.handle c.in-Needs.ensures.found.opened.live c.in-Needs.ensures.found.has_right c.args.id
    (held_by _ _ c.args.session.now s i m c.args.id (Some c.in-Some._held) (named_for _ c.args.session.now c.args.id c.app.result (Some c.in-Some._held) c.app.ensures c.in-Some.ensures.named))

pub returns-in_default-clause-free : goal.returns-in_default-clause-free
returns-in_default-clause-free g c = λ s i m.
    held_by _ _ c.args.session.now s i m c.args.id None (named_for _ c.args.session.now c.args.id c.app.result None c.app.ensures c.in_default.ensures.named)

pub returns-in_default-clause-renames : goal.returns-in_default-clause-renames
returns-in_default-clause-renames g c = λ s i m.
    rename_done s i c.args.session.now m.session c.args.number c.in-Needs.found.handle c.in-Needs.ensures.found.opened.live c.in-Needs.ensures.found.has_right c.args.id
    (held_by _ _ c.args.session.now s i m c.args.id None (named_for _ c.args.session.now c.args.id c.app.result None c.app.ensures c.in_default.ensures.named))
    c.in-Needs.found.held.entry.size
    (entry_object _ s.objects m.shaped _ c.in-Needs.found.held c.in-Needs.ensures.found.opened.named)
