-- What the gate's ties tell of its entries and of what it lacks.
use Rattle.std.proofs.Common.{◌≡◌, ◌≢◌, ℕ, List, Option, Some, is_some, refl, sym, ap, ◌∙◌, subst}
use Rattle.store_model.specs.declared.name.ObjectName.{ObjectName}
use Rattle.store_model.specs.ReplayState.{ReplayState}
use Rattle.dir_records.specs.declared.entry.DirEntry.{DirEntry}
use Rattle.history_seats.specs.Mounts.{Entry}
use Rattle.history_seats.specs.Directory.{given_version}
use Rattle.crash_core.specs.EntryLists.{IsUnnamed}
use Rattle.core_laws.specs.Listed.{AreListed, IsInDirectory}
use Rattle.core_laws.specs.Stores.{entries_at, entry_named, replay_at}
use Rattle.core_laws.specs.Mapped.{object_by}
use Rattle.core_laws.proofs.Listed.{named_there}
use Rattle.core_laws.specs.CallChanges.{IsCallChange}
use Rattle.core_laws.specs.OwnEntries.{TiedCommitsMakeEntries, TiedEntriesTell}
use Rattle.core_laws.specs.EntryFacts.{AreEntryFacts}
use Rattle.core_laws.proofs.Uniqueness.{lacks_named}
use Rattle.core_laws.proofs.QuietTies.{matched_now}
use Rattle.core_laws.proofs.Facts.{matched_tell}
use Rattle.core_laws.proofs.Applications.{applications_stay}
use Rattle.core_laws.proofs.Making.{commits_make}

lacks_file : (entries : List (Option DirEntry)) (listed : List Entry) → AreListed entries listed → (file : ℕ) → IsUnnamed entries file → (name : ObjectName) (x : Entry) → entry_named name listed ≡ Some x → x.file ≢ file
lacks_file entries listed l file unnamed name x is same =
    let i : IsInDirectory entries x = l.back x (named_there name x listed is) in
    unnamed i.index i.entry i.at (sym same ∙ sym (ap (λ (y : Entry). y.file) i.is))

pub tied_tell : TiedEntriesTell
tied_tell store scenario view entries counter doubt tied are answered mapped = record {
  mapped = mapped;
  facts = facts;
  lacked = record {
    file = lacks_file entries (entries_at store view.all).now tied.listed;
    name = λ name lacks. lacks_named entries (entries_at store view.all).now name tied.listed lacks;
    object = λ name lacks.
        ap is_some
        (mapped.objects name
        ∙ ap (object_by store.keys scenario (given_version store.mounted view.all)) (lacks_named entries (entries_at store view.all).now name tied.listed lacks));
  };
  own = λ session handle index e at by. record {
    mapped = mapped;
    apart = facts.apart;
    unique = tied.unique;
    rising = tied.rising scenario answered;
    by_handle = by;
    named = (facts.each index e at).named;
    file = refl;
    generation = refl;
  };
}
  where
    facts : AreEntryFacts store.keys scenario (given_version store.mounted view.all) (entries_at store view.all).now (replay_at store scenario view.all) entries
    facts =
        matched_tell store.keys scenario (given_version store.mounted view.all) (entries_at store view.all).now (replay_at store scenario view.all) entries
        (matched_now store view entries counter doubt tied) are.distinct are.single mapped

pub tied_make : TiedCommitsMakeEntries
tied_make store scenario view entries counter doubt tied answered mapped session call change tag left c on due =
    let s : ReplayState = replay_at store scenario view.all in
    let told = matched_tell store.keys scenario (given_version store.mounted view.all) (entries_at store view.all).now s entries (matched_now store view entries counter doubt tied) c.before.distinct c.before.single mapped in
    commits_make s session call entries change told.sizes due
    (subst (λ (p : List ℕ × ℕ). IsCallChange p.0 call entries p.1 change) (λ i. (sym (applications_stay store scenario view.all session) i, sym (tied.counter scenario answered) i)) c.makes) c.place on
