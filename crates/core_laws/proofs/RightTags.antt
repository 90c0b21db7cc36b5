-- Which tags are right, in the words of the gate's entries.
use Rattle.std.proofs.Common.{◌≡◌, ◌&&◌, ℕ, Bool, true, false, true≢false, List, [], ◌∷◌, ◌++◌, Option, Some, None, is_some, slice_index_or, refl, sym, ap, ◌∙◌, subst}
use Rattle.history_seats.specs.Changes.{call_record}
use Rattle.tee_types.specs.declared.call.Call.{Call}
use Rattle.tee_types.specs.declared.call.Call.TheVariants.{Delete}
use Rattle.tee_types.specs.declared.reply.Reply.{Reply}
use Rattle.store_model.specs.declared.event.Event.{Event}
use Rattle.store_model.specs.declared.event.Event.TheVariants.{Call as CallEvent, Landed}
use Rattle.store_model.specs.declared.event.Mark.TheVariants.{Unchanged, Made, Doubtful}
use Rattle.store_model.specs.Record.{Tag}
use Rattle.dir_records.specs.declared.entry.DirEntry.{DirEntry}
use Rattle.history_seats.specs.Records.{Version}
use Rattle.history_seats.specs.Mounts.{Entry}
use Rattle.history_seats.specs.Settling.{HasMark, Pending, as_landed, is_doubtful, is_doubtful_mark, is_landing, is_made, is_made_mark}
use Rattle.history_seats.specs.Directory.{directory_of, entries_committed, given_version, has_entry}
use Rattle.history_seats.specs.Tags.{HasRightTag, IsTagRight}
use Rattle.history_seats.specs.Views.{GateView}
use Rattle.history_seats.proofs.DoubtedEntries.{moved-entry}
use Rattle.history_seats.proofs.Givens.{directory-snoc}
use Rattle.crash_core.specs.declared.change.EntryChange.{EntryChange}
use Rattle.crash_core.specs.declared.change.EntryChange.TheVariants.{Clear, Put}
use Rattle.crash_core.specs.EntryChanges.{changed}
use Rattle.crash_core.proofs.Lists.{set_here}
use Rattle.core_laws.specs.Listed.{AreListed, history_entry}
use Rattle.core_laws.specs.Stores.{Store, entries_at}
use Rattle.core_laws.proofs.Mending.{some_same}
use Rattle.core_laws.specs.CallChanges.{IsCallChange, IsEntryCommit}
use Rattle.core_laws.specs.TagLaws.{CommitTagsAreRight, UnchangedTagsAreRight}
use Rattle.core_laws.proofs.Listing.{listed_committed}
use Rattle.core_laws.proofs.Matching.{contains_has}

-- the marks that such an event has not
record IsQuietEvent (event : Event) : Type 0 where
  landing : is_landing event ≡ false
  made : is_made event ≡ false
  doubtful : is_doubtful event ≡ false

quiet_event : (event : Event) → HasMark Unchanged event → IsQuietEvent event
quiet_event (Landed commit) is = absurd is
quiet_event (CallEvent session number call reply mark) is = record { landing = refl; made = ap is_made_mark is; doubtful = ap is_doubtful_mark is }

pub unchanged_right : UnchangedTagsAreRight
unchanged_right mounted before r is names tag of =
    let quiet = quiet_event r.event is in
    let given = names tag of in
    record {
      on_a_call = quiet.landing;
      stays = λ made. given.committed;
      made = λ made. absurd (true≢false (sym made ∙ quiet.made));
      doubted = ap is_some given.doubted ∙ sym (ap (λ (b : Bool). b && has_entry tag.file tag.generation (as_landed (directory_of mounted (before ++ r ∷ []))).now) quiet.doubtful);
    }

module _ (store : Store) (view : GateView) (entries : List (Option DirEntry)) (counter session number : ℕ) (call : Call) (reply : Reply) (commit : ℕ) (tag : Tag Version) (change : EntryChange)
    (l : AreListed entries (entries_at store view.all).now) where
  abbrev application : List ℕ
  application = slice_index_or store.mounted.applications session []

  abbrev more : List Entry
  more = entries_committed application call (Some tag) (entries_at store view.all).now

  gone : (call : Call) (index : ℕ) → IsCallChange application call entries counter (Clear index)
      → has_entry tag.file tag.generation (entries_committed application call (Some tag) (entries_at store view.all).now) ≡ false
  gone (Delete handle) index makes = moved-entry application (Delete handle) tag (entries_at store view.all).now
  gone call index makes = absurd makes

  -- what the commit leaves is named just where its entry is there
  there : (change : EntryChange) (left : Option Version) → IsEntryCommit store entries counter session call change tag left → is_some left ≡ has_entry tag.file tag.generation more
  there (Put index e) left c =
      let lists : AreListed (changed entries (Put index e)) more = listed_committed application entries counter tag (entries_at store view.all).now l c.before call (Put index e) c.place c.makes c.tagged c.after in
      let has : has_entry e.file e.generation more ≡ true = contains_has more (history_entry e) (lists.each index e (set_here entries index (Some e) c.place)) in
      ap is_some c.leaves.1 ∙ sym ((λ i. has_entry (c.tagged.file i) (c.tagged.generation i) more) ∙ has)
  there (Clear index) left c = ap is_some c.leaves ∙ sym (gone call index c.makes)

  tag_made : IsEntryCommit store entries counter session call change tag tag.committed → tag.doubted ≡ None → HasRightTag store.mounted view.all (call_record session number call reply (Made commit) (Some tag))
  tag_made c none other of =
      let r = call_record session number call reply (Made commit) (Some tag) in
      let directory = directory-snoc store.mounted view.all r in
      subst (IsTagRight store.mounted view.all r) (some_same tag other of)
      (record {
        on_a_call = refl;
        stays = λ made. absurd (true≢false made);
        made = λ made. there change tag.committed c ∙ sym (ap (λ (p : Pending (List Entry)). has_entry tag.file tag.generation p.now) directory);
        doubted = ap is_some none;
      })

  tag_doubtful : IsEntryCommit store entries counter session call change tag tag.doubted → tag.committed ≡ given_version store.mounted view.all tag.file tag.generation
      → HasRightTag store.mounted view.all (call_record session number call reply (Doubtful commit) (Some tag))
  tag_doubtful c given other of =
      let r = call_record session number call reply (Doubtful commit) (Some tag) in
      let directory = directory-snoc store.mounted view.all r in
      subst (IsTagRight store.mounted view.all r) (some_same tag other of)
      (record {
        on_a_call = refl;
        stays = λ made. given;
        made = λ made. absurd (true≢false (sym made));
        doubted = there change tag.doubted c ∙ sym (ap (λ (p : Pending (List Entry)). has_entry tag.file tag.generation (as_landed p).now) directory);
      })

pub commits_right : CommitTagsAreRight
commits_right store view entries counter doubt session number call reply commit tag change tied = record {
  made = tag_made store view entries counter session number call reply commit tag change tied.listed;
  doubtful = tag_doubtful store view entries counter session number call reply commit tag change tied.listed;
}
