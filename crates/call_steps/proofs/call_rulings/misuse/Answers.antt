-- Which call is a misuse.
use Rattle.call_steps.proofs.Misuses.{close-misuse, free-misuse, misuse-as, new-misuse, next-misuse, reset-misuse, seek-misuse, start-misuse}
use Rattle.call_steps.proofs.call_rulings.misuse.Goals as goal

pub returns-in-Close : goal.returns-in-Close
returns-in-Close g c = λ s i m.
    misuse-as s i c.args.session.now c.args.call.now _ c.unless_handle.result _ c.in-Close.is c.unless_handle.ensures (close-misuse s i c.args.session.now m.session c.in-Close.handle)

pub returns-in-Seek : goal.returns-in-Seek
returns-in-Seek g c = λ s i m.
    misuse-as s i c.args.session.now c.args.call.now _ c.unless_handle-in-Seek.result _ c.in-Seek.is c.unless_handle-in-Seek.ensures (seek-misuse s i c.args.session.now m.session c.in-Seek.handle _ _)

pub returns-in-EnumNew : goal.returns-in-EnumNew
returns-in-EnumNew g c = λ s i m.
    misuse-as s i c.args.session.now c.args.call.now _ c.where_full.result _ c.in-EnumNew.is c.where_full.ensures (new-misuse s i c.args.session.now m.session)

pub returns-in-EnumStart : goal.returns-in-EnumStart
returns-in-EnumStart g c = λ s i m.
    misuse-as s i c.args.session.now c.args.call.now _ c.unless_enumerator.result _ c.in-EnumStart.is c.unless_enumerator.ensures (start-misuse s i c.args.session.now m.session c.in-EnumStart.number)

pub returns-in-EnumNext : goal.returns-in-EnumNext
returns-in-EnumNext g c = λ s i m.
    misuse-as s i c.args.session.now c.args.call.now _ c.unless_enumerator-in-EnumNext.result _ c.in-EnumNext.is c.unless_enumerator-in-EnumNext.ensures (next-misuse s i c.args.session.now m.session c.in-EnumNext.number)

pub returns-in-EnumReset : goal.returns-in-EnumReset
returns-in-EnumReset g c = λ s i m.
    misuse-as s i c.args.session.now c.args.call.now _ c.unless_enumerator-in-EnumReset.result _ c.in-EnumReset.is c.unless_enumerator-in-EnumReset.ensures (reset-misuse s i c.args.session.now m.session c.in-EnumReset.number)

pub returns-in-EnumFree : goal.returns-in-EnumFree
returns-in-EnumFree g c = λ s i m.
    misuse-as s i c.args.session.now c.args.call.now _ c.unless_enumerator-in-EnumFree.result _ c.in-EnumFree.is c.unless_enumerator-in-EnumFree.ensures (free-misuse s i c.args.session.now m.session c.in-EnumFree.number)
