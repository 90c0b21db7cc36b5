use Rattle.std.proofs.Common.{◌≡◌, ◌==◌, ◌&&◌, ◌∙◌, Some, true, refl, ap, sym, eq-eqb, rules, arith}
use Rattle.open_table.specs.Table.{key_of, record_at}
use Rattle.open_table.proofs.SlabEntries.{lookup-entries}
use Rattle.open_table.proofs.Finding.{IsSome-held, found-least}
use Rattle.open_table.proofs.table.OpenTable.find.Goals as goal

pub returns-then-record-handle-clause-held : goal.returns-then-record-handle-clause-held
returns-then-record-handle-clause-held c =
    let found : Some c.in-Some.key ≡ key_of c.args.self.now c.args.session c.args.handle = search rules in
    IsSome-held (λ e. ((e.1).session == c.args.session) && ((e.1).handle == c.args.handle)) c.in-Some.key c.args.self.now.records (sym found)

pub returns-then-record-handle-clause-least : goal.returns-then-record-handle-clause-least
returns-then-record-handle-clause-least c =
    let found : Some c.in-Some.key ≡ key_of c.args.self.now c.args.session c.args.handle = search rules in
    let slots = c.self.inside.records.slots in
    λ k r at session handle.
    let read = sym (lookup-entries c.self.inside.records k) ∙ ap (λ table. record_at table k) c.self.view_is ∙ at in
    let passes : ((r.session == c.args.session) && (r.handle == c.args.handle)) ≡ true = rw (eq-eqb r.session c.args.session session, eq-eqb r.handle c.args.handle handle) refl in
    let le = found-least (λ r. (r.session == c.args.session) && (r.handle == c.args.handle)) c.in-Some.key 0 slots (ap (λ table. key_of table c.args.session c.args.handle) c.self.view_is ∙ sym found) k r read passes in
    omega (arith, le)
