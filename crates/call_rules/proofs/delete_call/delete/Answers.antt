use Rattle.std.proofs.Common.{◌≡◌, true}
use Rattle.tee_types.specs.declared.reply.Reply.{Reply}
use Rattle.tee_types.specs.declared.call.Call.TheVariants.{Delete}
use Rattle.tee_types.specs.Rights.{write_meta_bit}
use Rattle.store_model.specs.Machine.{handle_at}
use Rattle.store_model.specs.Files.{is_misuse}
use Rattle.call_rules.specs.declared.decision.OpenObject.{OpenObject}
use Rattle.call_rules.specs.Objects.{IsDone, IsRightful, RefusesRight}
use Rattle.call_rules.specs.Told.{IsTold}
use Rattle.call_rules.proofs.Decisions.{if_answered, if_needs}
use Rattle.call_rules.proofs.Lookups.{entry_object}
use Rattle.call_rules.proofs.Names.{delete_told, delete_done}
use Rattle.call_rules.proofs.delete_call.delete.Goals as goal

pub returns-clause-told : goal.returns-clause-told
returns-clause-told g c = λ s i m.
    if_answered c.rightful_object.result (λ (reply : Reply). is_misuse reply ≡ true) (RefusesRight s write_meta_bit (handle_at c.args.session.now c.args.number))
    (λ (reply : Reply). IsTold s i (Delete c.args.number) reply c.args.session.now)
    (λ reply misuse refuses. delete_told s i c.args.session.now m.session c.args.number reply misuse refuses)
    c.rightful_object.ensures.misuse (c.rightful_object.ensures.refused s i m)

pub returns-clause-deletes : goal.returns-clause-deletes
returns-clause-deletes g c = λ s i m.
    if_needs c.rightful_object.result (IsRightful (g.C.Catalog.entries c.args.catalog.now) c.args.session.now c.args.number write_meta_bit)
    (λ (more : OpenObject). IsDone s i (Delete c.args.number) (more.handle).name ((more.held).entry).size)
    (λ more found. delete_done s i c.args.session.now m.session c.args.number more.handle found.opened.live found.has_right ((more.held).entry).size
    (entry_object (g.C.Catalog.entries c.args.catalog.now) s.objects m.shaped (more.handle).name more.held found.opened.named))
    c.rightful_object.ensures.found
