use Rattle.std.proofs.Common.{◌≡◌, true}
use Rattle.tee_types.specs.declared.reply.Reply.{Reply}
use Rattle.tee_types.specs.declared.call.Call.TheVariants.{Truncate}
use Rattle.tee_types.specs.Rights.{write_bit}
use Rattle.store_model.specs.Machine.{handle_at}
use Rattle.store_model.specs.Files.{is_misuse}
use Rattle.store_model.specs.Data.{truncate_from}
use Rattle.call_rules.specs.declared.decision.OpenObject.{OpenObject}
use Rattle.call_rules.specs.Objects.{IsOfObject, IsRightful, RefusesRight}
use Rattle.call_rules.specs.Told.{IsTold}
use Rattle.call_rules.proofs.Decisions.{if_answered, if_needs}
use Rattle.call_rules.proofs.DataCalls.{truncate_told, truncate_of_object}
use Rattle.call_rules.proofs.Lookups.{entry_object}
use Rattle.call_rules.proofs.truncate_call.truncate.Goals as goal

pub returns-clause-told : goal.returns-clause-told
returns-clause-told g c = λ s i size m.
    if_answered c.rightful_object.result (λ (reply : Reply). is_misuse reply ≡ true) (RefusesRight s write_bit (handle_at c.args.session.now c.args.number))
    (λ (reply : Reply). IsTold s i (Truncate c.args.number size) reply c.args.session.now)
    (λ reply misuse refuses. truncate_told s i c.args.session.now m.session c.args.number reply misuse refuses size)
    c.rightful_object.ensures.misuse (c.rightful_object.ensures.refused s i m)

pub returns-clause-resizes : goal.returns-clause-resizes
returns-clause-resizes g c = λ s i size m.
    if_needs c.rightful_object.result (IsRightful (g.C.Catalog.entries c.args.catalog.now) c.args.session.now c.args.number write_bit)
    (λ (more : OpenObject). IsOfObject s i (Truncate c.args.number size) (more.handle).name ((more.held).entry).size (truncate_from s size more.handle))
    (λ more found. truncate_of_object s i c.args.session.now m.session c.args.number more.handle found.opened.live found.has_right ((more.held).entry).size size
    (entry_object (g.C.Catalog.entries c.args.catalog.now) s.objects m.shaped (more.handle).name more.held found.opened.named))
    c.rightful_object.ensures.found
