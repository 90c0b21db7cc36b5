-- A call by an open handle on an object, of whose version the file gave what the call needs.
use Rattle.std.proofs.Common.{List, Option, Some, inr, refl, sym, ℕ, ◌∙◌, ◌≡◌}
use Rattle.commit_gate.specs.CallerSessions.{CallerSession}
use Rattle.call_rules.specs.declared.decision.OpenObject.{OpenObject}
use Rattle.core_laws.specs.Listed.{history_entry}
use Rattle.crash_core.specs.Entries.{name_of}
use Rattle.history_seats.specs.Changes.{TagVersions}
use Rattle.history_seats.specs.Records.{HistoryRecord, Version}
use Rattle.history_seats.specs.Views.{GateView, SlotView}
use Rattle.commit_gate.specs.Commits.{EndsUnder, file_record, tag_of}
use Rattle.commit_gate.specs.declared.guarded_gate.Closing.{Closing}
use Rattle.call_steps.proofs.AtObject.{fact_here, mapped_here, name_here, version_real}
use Rattle.call_steps.specs.AtObject.{IsAtObject}
use Rattle.commit_gate.specs.Gates.{GateValue}
use Rattle.tee_types.specs.declared.reply.Reply.TheVariants.{Done}
use Rattle.store_model.specs.Files.{name_by, object_named}
use Rattle.store_model.specs.Record.{Tag}
use Rattle.store_model.specs.declared.event.Event.TheVariants.{Call as CallEvent}
use Rattle.store_model.specs.declared.event.Mark.{Mark}
use Rattle.core_laws.specs.Answered.{AreAnswered}
use Rattle.core_laws.specs.Given.{is_asked, position_by}
use Rattle.core_laws.specs.Masked.{GaveVersion}
use Rattle.core_laws.specs.TamperScenarios.{TamperScenario}
use Rattle.core_laws.specs.Shown.{IsGivenAt, IsWriteEndAt}
use Rattle.core_laws.specs.Stores.{Store, replay_at}
use Rattle.tee_types.specs.declared.call.Call.{Call}
use Rattle.tee_types.specs.declared.reply.Reply.{Reply}

-- the same call, with another reply
same_call : (i j n m : ℕ) (a b : Call) (p q r : Reply) (k l o : Mark) → CallEvent i n a p k ≡ CallEvent j m b q l → CallEvent i n a r o ≡ CallEvent j m b r o
same_call i j n m a b p q r k l o is = cc (is)

same_tag : (a b : Tag Version) → Some a ≡ Some b → a ≡ b
same_tag a b is = cc (is)

-- Where the promises end at a write or a truncation, they end however its commit does.
pub ends_any : (store : Store) (scenario : TamperScenario) (before : List HistoryRecord) (session number : ℕ) (call : Call) (slot : SlotView) (reply : Reply) (mark : Mark) (versions : TagVersions)
    → IsWriteEndAt store scenario before (file_record session number call reply mark slot versions) → EndsUnder store scenario before session number call Done slot
ends_any store scenario before session number call slot reply mark versions ends = λ told other named ended.
    let g = ends.given in
    let tag : tag_of slot versions ≡ g.tag = same_tag (tag_of slot versions) g.tag g.tagged in
    inr (record {
      given = record {
        session = g.session;
        number = g.number;
        call = g.call;
        reply = told;
        mark = other;
        is = same_call session g.session number g.number call g.call reply g.reply told mark g.mark other g.is;
        name = g.name;
        of_call = g.of_call;
        tag = record { file = g.tag.file; generation = g.tag.generation; committed = named.committed; doubted = named.doubted };
        tagged = λ i. Some (record { file = (tag i).file; generation = (tag i).generation; committed = named.committed; doubted = named.doubted });
        entry = g.entry;
        named = g.named;
        file = g.file;
        generation = g.generation;
        version = g.version;
        gives = g.gives;
        position = g.position;
        at = g.at;
        gave = g.gave;
        real = g.real;
        mapped = g.mapped;
        masked = g.masked;
      };
      changes = ends.changes;
      ends = ended;
      strays = ends.strays;
    })

module _ {F R E : Type 0} (store : Store) (gate : GateValue F R) (knows : GateView) (closing : Option Closing) (caller : CallerSession E) (handle : ℕ) (found : OpenObject) (slot : SlotView) (v : Version)
    (at_object : IsAtObject store gate knows closing caller handle found slot v) (scenario : TamperScenario) (answered : AreAnswered store scenario knows.all) where
  -- such a call, by what the file gave
  abbrev pub given_call : (call : Call) (reply : Reply) (mark : Mark) (versions : TagVersions) (position : ℕ)
      → object_named (replay_at store scenario knows.all).state caller.number call ≡ name_by (replay_at store scenario knows.all).state caller.number handle
      → position ≡ position_by (replay_at store scenario knows.all).state caller.number call → GaveVersion store.keys (store.taints slot.file) v (is_asked v.size position call)
      → IsGivenAt store scenario knows.all (file_record caller.number caller.made call reply mark slot versions)
  given_call call reply mark versions position names place gave = record {
    session = caller.number;
    number = caller.made;
    call = call;
    reply = reply;
    mark = mark;
    is = refl;
    name = name_of found.held.entry;
    of_call = names ∙ name_here store gate knows closing caller handle found slot v at_object scenario answered;
    tag = tag_of slot versions;
    tagged = refl;
    entry = history_entry found.held.entry;
    named = (fact_here store gate knows closing caller handle found slot v at_object scenario answered).named;
    file = sym at_object.file;
    generation = sym at_object.generation;
    version = v;
    gives = at_object.gives;
    position = position;
    at = place;
    gave = gave.gave;
    masked = gave.masked;
    real = version_real store gate knows closing caller handle found slot v at_object;
    mapped = mapped_here store gate knows closing caller handle found slot v at_object scenario answered;
  }
