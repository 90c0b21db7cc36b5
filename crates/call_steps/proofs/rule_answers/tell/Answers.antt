-- The rules' reply accuses no file.
use Rattle.std.proofs.Common.{◌≡◌, None, sym, ap, subst}
use Rattle.tee_types.specs.declared.reply.Reply.{Reply}
use Rattle.store_model.specs.Record.{fault_in_reply}
use Rattle.call_steps.proofs.Ruled.{plain-bare, plain-no-file}
use Rattle.call_steps.proofs.rule_answers.tell.Goals as goal

pub answer_ruled-place-requires-clause-fault : goal.answer_ruled-place-requires-clause-fault
answer_ruled-place-requires-clause-fault g c =
    subst (λ (r : Reply). fault_in_reply r ≡ None) (sym (ap (λ (p : Reply × Reply). p.0) c.twice-reply.ensures)) (plain-no-file c.args.reply c.requires.plain)

pub twice-reply-requires : goal.twice-reply-requires
twice-reply-requires g c = plain-bare c.args.reply c.requires.plain
