-- A gate behind its lock whose commit in doubt landed, or was dropped.
use Rattle.std.proofs.Common.{◌≡◌, ℕ, true≢false, List, [], ◌∷◌, Option, Some, None, IfSome, IsSome, refl, sym, ap, ◌∙◌, subst}
use Rattle.tee_types.specs.declared.call.Call.{Call}
use Rattle.tee_types.specs.declared.call.Call.TheVariants.{Delete}
use Rattle.open_table.specs.Table.{TableState}
use Rattle.dir_records.specs.declared.entry.DirEntry.{DirEntry}
use Rattle.history_seats.specs.Views.{GateView}
use Rattle.history_seats.specs.Changes.{doubt_dropped, landing_of, with_record}
use Rattle.crash_core.specs.EntryLists.{AreDistinct}
use Rattle.crash_core.specs.EntryChanges.{changed}
use Rattle.crash_core.specs.Entries.{first_double}
use Rattle.crash_core.proofs.Doubles.{names_distinct}
use Rattle.core_laws.specs.Stores.{Store, replay_at}
use Rattle.core_laws.proofs.Answers.{answered-front}
use Rattle.commit_gate.specs.Journals.{IsDoubtOf, IsJournal}
use Rattle.core_laws.specs.Ties.{IsTied, IsTiedDoubt}
use Rattle.core_laws.proofs.CommitTies.{landed_ties}
use Rattle.core_laws.proofs.QuietTies.{dropped_ties}
use Rattle.call_rules.specs.OpenLaws.{NotesLanding}
use Rattle.call_rules.proofs.EventOpens.{landed-event}
use Rattle.crash_core.specs.declared.change.DoubtedChange.{DoubtedChange}
use Rattle.store_commit.specs.Gates.{DoubtStands, GateValue, IsDoubtOf as IsDoubtOfGate}
use Rattle.store_commit.specs.Sides.{Sides}
use Rattle.store_commit.specs.View.{DirView}
use Rattle.commit_gate.specs.declared.guarded_gate.Closing.{Closing}
use Rattle.commit_gate.specs.GuardedGates.{AreHandlesTied, IsClosingTied, GateInvariant, closing_of}
use Rattle.commit_gate.specs.CurrentFiles.{AreFilesCurrent, PutsCurrent}
use Rattle.commit_gate.specs.Settled.{Closes}
use Rattle.commit_gate.proofs.CurrentFiles.{kept_current, landed_current}

-- the doubt that is there
pub the-doubt : (o : Option DoubtedChange) → IsSome o → (d : DoubtedChange) × (o ≡ Some d)
the-doubt (Some d) has = (d, refl)
the-doubt None has = absurd (true≢false (sym has))

pub the-resolve : (P : DoubtedChange → Type 0) (o : Option DoubtedChange) (d : DoubtedChange) → o ≡ Some d → IfSome o P → P d
the-resolve P o d is if_some = subst (λ (x : Option DoubtedChange). IfSome x P) is if_some

-- while a commit is in doubt, the entries have names of their own
pub doubted-distinct : (g : Sides) (o : Option DoubtedChange) (d : DoubtedChange) → o ≡ Some d → DoubtStands g o → AreDistinct g.dir.entries
doubted-distinct g o d is stands =
    let of : IsDoubtOfGate g d = subst (DoubtStands g) is stands in
    names_distinct g.dir.entries (ap (λ (n : ℕ). first_double g.dir.entries 0 n) of.stands.entries.whole ∙ of.stands.entries.apart)

-- the handle that is closed is the landing's
closes-landing : (old new : TableState) (session : ℕ) (call : Call) → Closes (closing_of session call) old new → NotesLanding old new session call
closes-landing old new session (Delete handle) closes = closes
closes-landing old new session call closes = closes

module _ {F R : Type 0} (store : Store) (gate : GateValue F R) (knows : GateView) (closing : Option Closing) (d : DoubtedChange) (doubted : gate.doubt ≡ Some d) (guarded : GateInvariant store gate knows closing) where
  abbrev own : DoubtedChange
  own = record { number = d.number; change = d.change }

  abbrev entries : List (Option DirEntry)
  entries = gate.dir.dir.entries

  tied-so : IsTied store knows entries gate.counter (Some own)
  tied-so = subst (λ (o : Option DoubtedChange). IsTied store knows entries gate.counter o) doubted guarded.tied

  pub doubt-tied : IsTiedDoubt store knows entries own
  doubt-tied = tied-so.doubt

  closing-so : IsClosingTied store knows (Some d) closing
  closing-so = subst (λ (o : Option DoubtedChange). IsClosingTied store knows o closing) doubted guarded.closes

  puts-current : PutsCurrent own.change
  puts-current = the-resolve (λ x. PutsCurrent x.change) gate.doubt d doubted guarded.current.put

  -- under each tamper scenario the replay has it open
  pub doubt-held : IsDoubtOf store knows d.number
  doubt-held = λ scenario answered. let s = doubt-tied.stands scenario answered in (s.doubt, s.is_open, s.number)

  landed-handles : (table : TableState) → AreDistinct entries → Closes closing gate.open_handles table
      → AreHandlesTied store (with_record (landing_of d.number) knows) (changed entries own.change) table
  landed-handles table distinct closes = λ scenario answered.
      let r = landing_of d.number in
      let before = answered-front store scenario knows.all (r ∷ []) answered in
      let s = doubt-tied.stands scenario before in
      landed-event store scenario knows.all r answered entries gate.open_handles table (guarded.handles scenario before) d.number (replay_at store scenario knows.all).counter s.doubt s.makes.made own.change
      s.makes.object refl s.is_open distinct s.makes.makes s.makes.enters
      (closes-landing gate.open_handles table s.doubt.session s.doubt.call
      (subst (λ (c : Option Closing). Closes c gate.open_handles table) (closing-so scenario s.doubt before s.is_open) closes))

  -- The landing: the entries have the change, the counter is its number, and the handle is closed.
  module _ (next : GateValue F R) (counted : next.counter ≡ d.number) (calm : next.doubt ≡ None) (tsk : next.dir.dir.tsk ≡ gate.dir.dir.tsk)
      (format : next.dir.dir.root.format ≡ gate.dir.dir.root.format) (key : next.host.key ≡ gate.host.key) where
    pub landed-guarded : next.dir.dir.entries ≡ changed entries d.change → AreDistinct entries → Closes closing gate.open_handles next.open_handles
        → IsJournal store (with_record (landing_of d.number) knows) → GateInvariant store next (with_record (landing_of d.number) knows) None
    landed-guarded is distinct closes journal =
        let view = with_record (landing_of d.number) knows in
        record {
          journal = journal;
          tied =
              subst (λ (p : List (Option DirEntry) × ℕ × Option DoubtedChange). IsTied store view p.0 p.1 p.2) (λ i. (sym is i, sym counted i, sym calm i))
              (landed_ties store knows entries gate.counter own tied-so);
          handles =
              subst (λ (l : List (Option DirEntry)). AreHandlesTied store view l next.open_handles) (sym is)
              (landed-handles next.open_handles distinct closes);
          closes = subst (λ (o : Option DoubtedChange). IsClosingTied store view o None) (sym calm) refl;
          directory_key = tsk ∙ guarded.directory_key;
          card_key = key ∙ guarded.card_key;
          current = landed_current gate.dir.dir next.dir.dir gate.doubt guarded.current own.change puts-current format is next.doubt calm;
        }

  -- It did not land: entries, counter and handles stay.
  module _ (next : GateValue F R) (counted : next.counter ≡ gate.counter) (calm : next.doubt ≡ None) (tsk : next.dir.dir.tsk ≡ gate.dir.dir.tsk)
      (format : next.dir.dir.root.format ≡ gate.dir.dir.root.format) (key : next.host.key ≡ gate.host.key) where
    pub dropped-guarded : next.dir.dir.entries ≡ entries → next.open_handles ≡ gate.open_handles → IsJournal store (doubt_dropped knows)
        → GateInvariant store next (doubt_dropped knows) None
    dropped-guarded is same journal =
        let view = doubt_dropped knows in
        record {
          journal = journal;
          tied =
              subst (λ (p : List (Option DirEntry) × ℕ × Option DoubtedChange). IsTied store view p.0 p.1 p.2) (λ i. (sym is i, sym counted i, sym calm i))
              (dropped_ties store knows entries gate.counter (Some own) tied-so);
          handles = subst (λ (p : List (Option DirEntry) × TableState). AreHandlesTied store view p.0 p.1) (λ i. (sym is i, sym same i)) guarded.handles;
          closes = subst (λ (o : Option DoubtedChange). IsClosingTied store view o None) (sym calm) refl;
          directory_key = tsk ∙ guarded.directory_key;
          card_key = key ∙ guarded.card_key;
          current = kept_current gate.dir.dir next.dir.dir gate.doubt guarded.current next.doubt format is
              (subst (λ (o : Option DoubtedChange). IfSome o (λ x. PutsCurrent x.change)) (sym calm) tt);
        }

-- Nothing that the ties speak of changed.
pub same-guarded : {F R : Type 0} (store : Store) (gate next : GateValue F R) (knows : GateView) (closing : Option Closing) → next.dir.dir ≡ gate.dir.dir → next.counter ≡ gate.counter
    → next.doubt ≡ gate.doubt → next.open_handles ≡ gate.open_handles → next.host.key ≡ gate.host.key → GateInvariant store gate knows closing → GateInvariant store next knows closing
same-guarded store gate next knows closing dir counted doubt handles key guarded = record {
  journal = guarded.journal;
  tied =
      subst (λ (p : List (Option DirEntry) × ℕ × Option DoubtedChange). IsTied store knows p.0 p.1 p.2) (λ i. (sym (ap (λ d. d.entries) dir) i, sym counted i, sym doubt i))
      guarded.tied;
  handles = subst (λ (p : List (Option DirEntry) × TableState). AreHandlesTied store knows p.0 p.1) (λ i. (sym (ap (λ d. d.entries) dir) i, sym handles i)) guarded.handles;
  closes = subst (λ (o : Option DoubtedChange). IsClosingTied store knows o closing) (sym doubt) guarded.closes;
  directory_key = ap (λ d. d.tsk) dir ∙ guarded.directory_key;
  card_key = key ∙ guarded.card_key;
  current = subst (λ (p : DirView × Option DoubtedChange). AreFilesCurrent p.0 p.1) (λ i. (sym dir i, sym doubt i)) guarded.current;
}
