-- The session has its commit in doubt at the place that the event takes.
use Rattle.std.proofs.Common.{◌≡◌, ℕ, Some, length, sym, ap, ◌∙◌, subst}
use Rattle.tee_types.specs.declared.reply.Reply.TheVariants.{NotAvailable}
use Rattle.store_model.specs.declared.event.Mark.TheVariants.{Doubtful}
use Rattle.history_seats.specs.Changes.{IsFitting}
use Rattle.core_laws.specs.Answered.{IsFairAt}
use Rattle.commit_gate.specs.JournalCalls.{IsMovedBy}
use Rattle.commit_gate.specs.CallerSessions.{CallerSession, landing_of_call}
use Rattle.commit_gate.specs.Commits.{file_record}
use Rattle.commit_gate.specs.Ended.{IsAppended}
use Rattle.commit_gate.proofs.Endings.{moved_appended}
use Rattle.commit_gate.proofs.commit_ends.end_doubtful.Goals as goal

pub append_call-requires-clause-moved : goal.append_call-requires-clause-moved
append_call-requires-clause-moved g c =
    let s = c.args.session.now in
    let knows = c.args.journal.now.knows in
    let doubted : ℕ → CallerSession g.row.E.Denot = λ place. record s { doubt = Some (record { place = place; landing = landing_of_call c.args.call }) } in
    let is : c.begin_doubt.new.self ≡ doubted (length knows.all) = c.begin_doubt.ensures ∙ ap doubted c.len.ensures in
    subst (λ (v : CallerSession g.row.E.Denot). IsMovedBy g.L.StoreName.store knows
    (file_record v.number v.made c.args.call (NotAvailable c.args.cause) (Doubtful c.args.number) c.args.slot.knows g.N.VersionsName.versions) v) (sym is) c.requires.append.moves

pub append_call-requires-clause-fitting : goal.append_call-requires-clause-fitting
append_call-requires-clause-fitting g c =
    subst (λ (v : CallerSession g.row.E.Denot). IsFitting c.args.journal.now.knows
    (file_record v.number v.made c.args.call (NotAvailable c.args.cause) (Doubtful c.args.number) c.args.slot.knows g.N.VersionsName.versions)) (sym c.begin_doubt.ensures) c.requires.append.fitting

pub append_call-requires-clause-fair : goal.append_call-requires-clause-fair
append_call-requires-clause-fair g c = λ scenario.
    subst (λ (v : CallerSession g.row.E.Denot). IsFairAt g.L.StoreName.store scenario c.args.journal.now.knows.all
    (file_record v.number v.made c.args.call (NotAvailable c.args.cause) (Doubtful c.args.number) c.args.slot.knows g.N.VersionsName.versions)) (sym c.begin_doubt.ensures) (c.requires.append.fair scenario)

pub returns-clause-appended : goal.returns-clause-appended
returns-clause-appended g c =
    let store = g.L.StoreName.store in
    let before = c.args.journal.now.knows in
    let after = c.append_call.new.journal.knows in
    let versions = g.N.VersionsName.versions in
    let s = c.args.session.now in
    let ends = c.append_call.ensures in
    let doubted : ℕ → CallerSession g.row.E.Denot = λ place. record s { doubt = Some (record { place = place; landing = landing_of_call c.args.call }) } in
    let is : c.begin_doubt.new.self ≡ doubted (length before.all) = c.begin_doubt.ensures ∙ ap doubted c.len.ensures in
    moved_appended store before after c.args.call (NotAvailable c.args.cause) (Doubtful c.args.number) c.args.slot versions s c.append_call.new.session c.append_call.result
    s.state (Some (record { place = length before.all; landing = landing_of_call c.args.call }))
    (subst (λ (v : CallerSession g.row.E.Denot). IsAppended store before after c.args.call (NotAvailable c.args.cause) (Doubtful c.args.number) c.args.slot versions v v c.append_call.new.session
    c.append_call.result) is
    (record {
      place = ends.place;
      knows = ends.knows;
      kept = ends.kept;
      seat = ends.slot;
      session = ends.session;
      agreed = ends.agreed;
      whole = ends.whole;
      extends = ends.extends;
    }))
