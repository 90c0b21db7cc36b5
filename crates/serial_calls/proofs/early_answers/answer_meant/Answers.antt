-- The machine's own reply may be appended.
use Rattle.std.proofs.Common.{ap, subst, sym, ℕ, ◌<◌, ◌^◌, ◌≡◌}
use Rattle.call_steps.specs.CallerSessions.{CallerSession}
use Rattle.serial_calls.proofs.MeantCalls.{meant-appended}
use Rattle.serial_calls.proofs.early_answers.answer_meant.Goals as goal
use Rattle.serial_calls.specs.Appending.{MayBeAppended}
use Rattle.crash_core.specs.DirectoryLaws.{AreEntries}
use Rattle.call_steps.specs.KnownMachine.{KnowsMachine}
use Rattle.call_steps.specs.GuardedGates.{GateInvariant, GuardedGateValue}

pub append-requires-clause-may : goal.append-requires-clause-may
append-requires-clause-may g c =
    let store = g.L.StoreName.store in
    let gate = c.args.gate.now in
    let slot = c.catch_up_entry.new.slot in
    let s = c.args.session.now in
    let call = c.args.call in
    let reply = c.args.reply in
    let same : c.catch_up_entry.new.gate ≡ gate = c.catch_up_entry.ensures.gate in
    let alike : c.catch_up_entry.new.session ≡ s = c.catch_up_entry.ensures.calm c.requires.calm in
    let guarded = subst (λ (x : GuardedGateValue g.row.F.Denot g.row.R.Denot). GateInvariant store x.gate x.journal.knows x.closing) same c.reveal_invariant.ensures.guarded in
    let are = subst (λ (x : GuardedGateValue g.row.F.Denot g.row.R.Denot). AreEntries x.gate.dir.dir.entries) same c.reveal_invariant.ensures.entries in
    let machine = subst (λ (x : GuardedGateValue g.row.F.Denot g.row.R.Denot). KnowsMachine store x.journal.knows x.gate.dir.dir.entries x.gate.open_handles) same c.reveal_invariant.ensures.machine in
    let low : gate.gate.counter < 2 ^ 32 =
    subst (λ (n : ℕ). n < 2 ^ 32) (ap (λ (x : GuardedGateValue g.row.F.Denot g.row.R.Denot). x.gate.counter) same) c.reveal_invariant.ensures.counter in
    subst (λ (x : GuardedGateValue g.row.F.Denot g.row.R.Denot × CallerSession g.row.E.Denot). MayBeAppended store x.0.gate x.0.journal.knows slot call reply x.1) (λ i. (sym same i, sym alike i))
    (meant-appended store gate.gate gate.journal.knows gate.closing guarded are machine low s c.requires.calm c.requires.entry.0 c.args.entry.now c.requires.entry.1 c.catch_up_entry.ensures.at.0 call reply c.requires.kind
    c.requires.meant c.requires.idle slot c.catch_up_entry.ensures.at.1)
