-- The session is the one of which the record was asked to be fair.
use Rattle.std.proofs.Common.{sym, subst}
use Rattle.store_model.specs.declared.event.Mark.TheVariants.{Made}
use Rattle.history_seats.specs.Changes.{IsFitting}
use Rattle.core_laws.specs.Answered.{IsFairAt}
use Rattle.commit_gate.specs.JournalCalls.{IsMovedBy}
use Rattle.commit_gate.specs.CallerSessions.{CallerSession}
use Rattle.commit_gate.specs.Commits.{file_record, made_versions}
use Rattle.commit_gate.specs.Ended.{IsAppended}
use Rattle.commit_gate.specs.SessionMoves.{moved_by}
use Rattle.commit_gate.proofs.Endings.{moved_appended}
use Rattle.commit_gate.proofs.commit_ends.end_made.Goals as goal

pub append_call-requires-clause-moved : goal.append_call-requires-clause-moved
append_call-requires-clause-moved g c = subst (λ (s : CallerSession g.row.E.Denot). IsMovedBy g.L.StoreName.store c.args.journal.now.knows
    (file_record s.number s.made c.args.call c.args.reply (Made c.args.number) c.args.slot.knows (made_versions g.N.VersionsName.versions)) s)
    (sym c.apply.ensures) c.requires.append.moves

pub append_call-requires-clause-fitting : goal.append_call-requires-clause-fitting
append_call-requires-clause-fitting g c = subst (λ (s : CallerSession g.row.E.Denot). IsFitting c.args.journal.now.knows
    (file_record s.number s.made c.args.call c.args.reply (Made c.args.number) c.args.slot.knows (made_versions g.N.VersionsName.versions)))
    (sym c.apply.ensures) c.requires.append.fitting

pub append_call-requires-clause-fair : goal.append_call-requires-clause-fair
append_call-requires-clause-fair g c = λ scenario. subst (λ (s : CallerSession g.row.E.Denot). IsFairAt g.L.StoreName.store scenario c.args.journal.now.knows.all
    (file_record s.number s.made c.args.call c.args.reply (Made c.args.number) c.args.slot.knows (made_versions g.N.VersionsName.versions)))
    (sym c.apply.ensures) (c.requires.append.fair scenario)

pub returns-clause-appended : goal.returns-clause-appended
returns-clause-appended g c =
    let store = g.L.StoreName.store in
    let before = c.args.journal.now.knows in
    let after = c.append_call.new.journal.knows in
    let versions = made_versions g.N.VersionsName.versions in
    let s = c.args.session.now in
    let ends = c.append_call.ensures in
    moved_appended store before after c.args.call c.args.reply (Made c.args.number) c.args.slot versions s c.append_call.new.session c.append_call.result
    (moved_by s.state c.args.step) s.doubt
    (subst (λ (x : CallerSession g.row.E.Denot). IsAppended store before after c.args.call c.args.reply (Made c.args.number) c.args.slot versions x x c.append_call.new.session c.append_call.result)
    c.apply.ensures
    (record {
      place = ends.place;
      knows = ends.knows;
      kept = ends.kept;
      seat = ends.slot;
      session = ends.session;
      agreed = ends.agreed;
      whole = ends.whole;
      extends = ends.extends;
    }))
