use Rattle.std.proofs.Common.{sym, subst}
use Rattle.std.proofs.lemmas.Result.{IfErr-weaker, IfOk-weaker}
use Rattle.card_maps.specs.Course.{CardCall, Get, Put, Remove}
use Rattle.card_maps.specs.Tables.{named}
use Rattle.rpmb_files.specs.Replies.{done_reply, found_reply}
use Rattle.rpmb_files.specs.Stores.{store_state}
use Rattle.script_runner.specs.CardRecords.{Told, map_reply}
use Rattle.script_runner.specs.CardSteps.{DoesLine, MakesCall}
use Rattle.script_runner.proofs.CardLineLaws.{MakesCall-done, MakesCall-found, goes_on-answered, goes_on-armed, stops-answered, stops-armed}
use Rattle.script_runner.proofs.card_lines.do_line.Goals as goal

pub returns-in-Put-clause-ok : goal.returns-in-Put-clause-ok
returns-in-Put-clause-ok g c = λ first lasts.
    let reliable = g.E.Entropy.is_reliable first in
    let port = g.R.RpmbPort.state in
    let draws = g.E.Entropy.faults in
    let old = store_state port draws c.args.run.store in
    let new = store_state port draws c.put.new.self in
    let call : CardCall = Put (named c.in-Put.app c.in-Put.id) c.as_slice.result.now in
    let made : MakesCall reliable old new call (done_reply c.put.result) =
    MakesCall-done reliable old new call c.put.result c.put.ensures.leaves c.put.ensures.cause c.put.ensures.goes_on c.put.ensures.key c.put.ensures.calm
    (λ r. (c.put.ensures.reliable (lasts r)).1) in
    IfOk-weaker c.answer.result _ _ (λ next. goes_on-answered port draws reliable c.args.line.now _ _ c.args.run c.put.new.self (Unit {0}) call
    (λ r makes. subst (λ l. DoesLine reliable l (Told r) old new) (sym c.in-Put.is) (subst (λ b. MakesCall reliable old new (Put (named c.in-Put.app c.in-Put.id) b) (map_reply r)) c.as_slice.ensures makes))
    (done_reply c.put.result) made c.done_reply-reply.result next c.done_reply-reply.ensures) c.answer.ensures.ok

pub returns-in-Put-clause-err : goal.returns-in-Put-clause-err
returns-in-Put-clause-err g c = λ first lasts.
    let reliable = g.E.Entropy.is_reliable first in
    let port = g.R.RpmbPort.state in
    let draws = g.E.Entropy.faults in
    let old = store_state port draws c.args.run.store in
    let new = store_state port draws c.put.new.self in
    let call : CardCall = Put (named c.in-Put.app c.in-Put.id) c.as_slice.result.now in
    let made : MakesCall reliable old new call (done_reply c.put.result) =
    MakesCall-done reliable old new call c.put.result c.put.ensures.leaves c.put.ensures.cause c.put.ensures.goes_on c.put.ensures.key c.put.ensures.calm
    (λ r. (c.put.ensures.reliable (lasts r)).1) in
    IfErr-weaker c.answer.result _ _ (λ end. stops-answered port draws reliable c.args.line.now _ _ c.args.run c.put.new.self _ call
    (λ r makes. subst (λ l. DoesLine reliable l (Told r) old new) (sym c.in-Put.is) (subst (λ b. MakesCall reliable old new (Put (named c.in-Put.app c.in-Put.id) b) (map_reply r)) c.as_slice.ensures makes))
    (done_reply c.put.result) made c.done_reply-reply.result end c.done_reply-reply.ensures) c.answer.ensures.err

pub returns-in-Get-clause-ok : goal.returns-in-Get-clause-ok
returns-in-Get-clause-ok g c = λ first lasts.
    let reliable = g.E.Entropy.is_reliable first in
    let port = g.R.RpmbPort.state in
    let draws = g.E.Entropy.faults in
    let old = store_state port draws c.args.run.store in
    let new = store_state port draws c.get.new.self in
    let call : CardCall = Get (named c.in-Get.app c.in-Get.id) in
    let made : MakesCall reliable old new call (found_reply c.get.result) =
    MakesCall-found reliable old new call c.get.result c.get.ensures.leaves c.get.ensures.cause c.get.ensures.goes_on c.get.ensures.key c.get.ensures.calm
    (λ r. (c.get.ensures.reliable (lasts r)).1) in
    IfOk-weaker c.answer-in-Get.result _ _ (λ next. goes_on-answered port draws reliable c.args.line.now _ _ c.args.run c.get.new.self (Unit {0}) call
    (λ r makes. subst (λ l. DoesLine reliable l (Told r) old new) (sym c.in-Get.is) makes)
    (found_reply c.get.result) made c.found_reply-reply.result next c.found_reply-reply.ensures) c.answer-in-Get.ensures.ok

pub returns-in-Get-clause-err : goal.returns-in-Get-clause-err
returns-in-Get-clause-err g c = λ first lasts.
    let reliable = g.E.Entropy.is_reliable first in
    let port = g.R.RpmbPort.state in
    let draws = g.E.Entropy.faults in
    let old = store_state port draws c.args.run.store in
    let new = store_state port draws c.get.new.self in
    let call : CardCall = Get (named c.in-Get.app c.in-Get.id) in
    let made : MakesCall reliable old new call (found_reply c.get.result) =
    MakesCall-found reliable old new call c.get.result c.get.ensures.leaves c.get.ensures.cause c.get.ensures.goes_on c.get.ensures.key c.get.ensures.calm
    (λ r. (c.get.ensures.reliable (lasts r)).1) in
    IfErr-weaker c.answer-in-Get.result _ _ (λ end. stops-answered port draws reliable c.args.line.now _ _ c.args.run c.get.new.self _ call
    (λ r makes. subst (λ l. DoesLine reliable l (Told r) old new) (sym c.in-Get.is) makes)
    (found_reply c.get.result) made c.found_reply-reply.result end c.found_reply-reply.ensures) c.answer-in-Get.ensures.err

pub returns-in-Remove-clause-ok : goal.returns-in-Remove-clause-ok
returns-in-Remove-clause-ok g c = λ first lasts.
    let reliable = g.E.Entropy.is_reliable first in
    let port = g.R.RpmbPort.state in
    let draws = g.E.Entropy.faults in
    let old = store_state port draws c.args.run.store in
    let new = store_state port draws c.remove.new.self in
    let call : CardCall = Remove (named c.in-Remove.app c.in-Remove.id) in
    let made : MakesCall reliable old new call (done_reply c.remove.result) =
    MakesCall-done reliable old new call c.remove.result c.remove.ensures.leaves c.remove.ensures.cause c.remove.ensures.goes_on c.remove.ensures.key c.remove.ensures.calm
    (λ r. (c.remove.ensures.reliable (lasts r)).1) in
    IfOk-weaker c.answer-in-Remove.result _ _ (λ next. goes_on-answered port draws reliable c.args.line.now _ _ c.args.run c.remove.new.self (Unit {0}) call
    (λ r makes. subst (λ l. DoesLine reliable l (Told r) old new) (sym c.in-Remove.is) makes)
    (done_reply c.remove.result) made c.done_reply-reply-in-Remove.result next c.done_reply-reply-in-Remove.ensures) c.answer-in-Remove.ensures.ok

pub returns-in-Remove-clause-err : goal.returns-in-Remove-clause-err
returns-in-Remove-clause-err g c = λ first lasts.
    let reliable = g.E.Entropy.is_reliable first in
    let port = g.R.RpmbPort.state in
    let draws = g.E.Entropy.faults in
    let old = store_state port draws c.args.run.store in
    let new = store_state port draws c.remove.new.self in
    let call : CardCall = Remove (named c.in-Remove.app c.in-Remove.id) in
    let made : MakesCall reliable old new call (done_reply c.remove.result) =
    MakesCall-done reliable old new call c.remove.result c.remove.ensures.leaves c.remove.ensures.cause c.remove.ensures.goes_on c.remove.ensures.key c.remove.ensures.calm
    (λ r. (c.remove.ensures.reliable (lasts r)).1) in
    IfErr-weaker c.answer-in-Remove.result _ _ (λ end. stops-answered port draws reliable c.args.line.now _ _ c.args.run c.remove.new.self _ call
    (λ r makes. subst (λ l. DoesLine reliable l (Told r) old new) (sym c.in-Remove.is) makes)
    (done_reply c.remove.result) made c.done_reply-reply-in-Remove.result end c.done_reply-reply-in-Remove.ensures) c.answer-in-Remove.ensures.err

pub returns-in-Stop-clause-ok : goal.returns-in-Stop-clause-ok
returns-in-Stop-clause-ok g c = λ first lasts.
    let s = c.stop_after.ensures in
    IfOk-weaker c.tell.result _ _
    (goes_on-armed g.R.RpmbPort.state g.E.Entropy.faults _ c.args.line.now _ _ c.args.run c.stop_after.new.self c.in-Stop.exchanges c.from.result c.in-Stop.is c.from.ensures
    s.rearmed s.key s.entropy s.shown s.settled) c.tell.ensures.ok

pub returns-in-Stop-clause-err : goal.returns-in-Stop-clause-err
returns-in-Stop-clause-err g c = λ first lasts.
    let s = c.stop_after.ensures in
    IfErr-weaker c.tell.result _ _
    (stops-armed g.R.RpmbPort.state g.E.Entropy.faults _ c.args.line.now _ _ c.args.run c.stop_after.new.self c.in-Stop.exchanges c.from.result c.in-Stop.is c.from.ensures
    s.rearmed s.key s.entropy s.shown s.settled _) c.tell.ensures.err
