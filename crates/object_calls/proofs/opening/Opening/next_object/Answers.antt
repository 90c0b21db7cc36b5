use Rattle.std.proofs.Common.{◌≡◌, ◌∙◌, ◌++◌, List, length, take, drop, Some, Err, Ok, refl, sym, ap, subst}
use Rattle.std.proofs.lemmas.Result.{err_from_is_err_and}
use Rattle.hmac_keys.specs.KeyTable.{tsk}
use Rattle.object_calls.specs.OpeningFiles.{numbered_files, object_files}
use Rattle.object_calls.specs.Next.{MapStays, NextAnswer, ReadsObject}
use Rattle.object_calls.specs.Opening.{IsOpening, bench_files, entries_in}
use Rattle.object_calls.proofs.EntriesOf.{form_at}
use Rattle.object_calls.proofs.Files.{refilled}
use Rattle.object_calls.proofs.MapStays.{read_map}
use Rattle.object_calls.proofs.Nexts.{not_shown, shown_next, shown_of}
use Rattle.object_calls.proofs.Rearming.{reads_bench, reads_pending, stays_open}
use Rattle.object_calls.proofs.opening.Opening.next_object.Goals as goal

pub show_in-requires-clause-form : goal.show_in-requires-clause-form
show_in-requires-clause-form g c =
    let entries = c.self.inside.gate.dir.dir.entries in
    let next = c.in-Some.ensures in
    form_at entries c.self.invariant.0.entries next.index c.in-Some.entry next.at

pub invariant_of-self : goal.invariant_of-self
invariant_of-self g c =
    let state = g.F.StoreFile.state in
    let i = c.self.inside in
    let entries = i.gate.dir.dir.entries in
    let spare = i.spare in
    let d = i.gate.dir.file in
    let e = c.in-Some.entry in
    let next = c.in-Some.ensures in
    let own = (form_at entries c.self.invariant.0.entries next.index e next.at).file in
    let was : List g.row.F.Denot = c.deref_mut.result.now in
    let items : List g.row.F.Denot = i.files.items in
    let new : List g.row.F.Denot = c.show_in.new.files in
    let held : was ≡ items = c.deref_mut.ensures.value in
    let long : length items ≡ i.files.len = sym i.files.ok.0 in
    let many : length new ≡ i.files.len = c.show_in.auto.files ∙ c.deref_mut.ensures.len in
    let filled = refilled i.files.len items new long many in
    let reads : ReadsObject (object_files state items) (object_files state new) e.file =
    subst (λ (l : List g.row.F.Denot). ReadsObject (object_files state l) (object_files state new) e.file) held c.show_in.ensures.reads in
    let one = reads_bench state spare d items new e.file own reads in (
      subst (λ (l : List g.row.F.Denot). IsOpening state i.gate l i.storage_key) (sym filled)
          (stays_open state i.gate items i.storage_key c.self.invariant.0 spare i.gate new refl (many ∙ sym long) (reads_pending (numbered_files state spare d items) (numbered_files state spare d new) e.file one)),
      c.self.invariant.1,
      c.self.invariant.2,
      c.self.invariant.3,
    )

pub returns-in_err-object-clause-answer : goal.returns-in_err-object-clause-answer
returns-in_err-object-clause-answer g c =
    let state = g.F.StoreFile.state in
    let i = c.self.inside in
    let entries = i.gate.dir.dir.entries in
    let spare = i.spare in
    let d = i.gate.dir.file in
    let e = c.in-Some.entry in
    let next = c.in-Some.ensures in
    let own = (form_at entries c.self.invariant.0.entries next.index e next.at).file in
    let was : List g.row.F.Denot = c.deref_mut.result.now in
    let items : List g.row.F.Denot = i.files.items in
    let new : List g.row.F.Denot = c.show_in.new.files in
    let held : was ≡ items = c.deref_mut.ensures.value in
    let long : length items ≡ i.files.len = sym i.files.ok.0 in
    let many : length new ≡ i.files.len = c.show_in.auto.files ∙ c.deref_mut.ensures.len in
    let filled = refilled i.files.len items new long many in
    let reads : ReadsObject (object_files state items) (object_files state new) e.file =
    subst (λ (l : List g.row.F.Denot). ReadsObject (object_files state l) (object_files state new) e.file) held c.show_in.ensures.reads in
    let key_is : c.tsk.result ≡ tsk i.storage_key e.app = c.tsk.ensures ∙ ap (tsk i.storage_key) c.bytes.ensures in
    let fault = c.in_err-object.field-0.0 in
    let answer = not_shown state spare d was new entries c.args.after i.storage_key c.tsk.result e own next key_is c.show_in.ensures.reads fault c.in_err-object.ensures.answer in
    let p = err_from_is_err_and c.from_residual.result c.from_residual.ensures.1 in
    rw (p.1, p.2)
    (subst (λ v. NextAnswer (entries_in v) c.args.after v.storage_key (bench_files state v) (numbered_files state spare d (take i.files.len (new ++ drop (length new) items))) (Err fault)) c.self.view_is
    (subst (λ (l : List g.row.F.Denot). NextAnswer entries c.args.after i.storage_key (numbered_files state spare d items) (numbered_files state spare d l) (Err fault)) (sym filled)
    (subst (λ (l : List g.row.F.Denot). NextAnswer entries c.args.after i.storage_key (numbered_files state spare d l) (numbered_files state spare d new) (Err fault)) held answer)))

pub returns-in_err-object-clause-map : goal.returns-in_err-object-clause-map
returns-in_err-object-clause-map g c =
    let state = g.F.StoreFile.state in
    let i = c.self.inside in
    let entries = i.gate.dir.dir.entries in
    let spare = i.spare in
    let d = i.gate.dir.file in
    let e = c.in-Some.entry in
    let next = c.in-Some.ensures in
    let own = (form_at entries c.self.invariant.0.entries next.index e next.at).file in
    let was : List g.row.F.Denot = c.deref_mut.result.now in
    let items : List g.row.F.Denot = i.files.items in
    let new : List g.row.F.Denot = c.show_in.new.files in
    let held : was ≡ items = c.deref_mut.ensures.value in
    let long : length items ≡ i.files.len = sym i.files.ok.0 in
    let many : length new ≡ i.files.len = c.show_in.auto.files ∙ c.deref_mut.ensures.len in
    let filled = refilled i.files.len items new long many in
    let reads : ReadsObject (object_files state items) (object_files state new) e.file =
    subst (λ (l : List g.row.F.Denot). ReadsObject (object_files state l) (object_files state new) e.file) held c.show_in.ensures.reads in
    let one = reads_bench state spare d items new e.file own reads in
    subst (λ v. MapStays (entries_in v) (bench_files state v) (numbered_files state spare d (take i.files.len (new ++ drop (length new) items)))) c.self.view_is
    (subst (λ (l : List g.row.F.Denot). MapStays entries (numbered_files state spare d items) (numbered_files state spare d l)) (sym filled)
    (read_map entries (numbered_files state spare d items) (numbered_files state spare d new) e.file one))

pub invariant_of-self-2 : goal.invariant_of-self-2
invariant_of-self-2 g c =
    let state = g.F.StoreFile.state in
    let i = c.self.inside in
    let entries = i.gate.dir.dir.entries in
    let spare = i.spare in
    let d = i.gate.dir.file in
    let e = c.in-Some.entry in
    let next = c.in-Some.ensures in
    let own = (form_at entries c.self.invariant.0.entries next.index e next.at).file in
    let was : List g.row.F.Denot = c.deref_mut.result.now in
    let items : List g.row.F.Denot = i.files.items in
    let new : List g.row.F.Denot = c.show_in.new.files in
    let held : was ≡ items = c.deref_mut.ensures.value in
    let long : length items ≡ i.files.len = sym i.files.ok.0 in
    let many : length new ≡ i.files.len = c.show_in.auto.files ∙ c.deref_mut.ensures.len in
    let filled = refilled i.files.len items new long many in
    let reads : ReadsObject (object_files state items) (object_files state new) e.file =
    subst (λ (l : List g.row.F.Denot). ReadsObject (object_files state l) (object_files state new) e.file) held c.show_in.ensures.reads in
    let one = reads_bench state spare d items new e.file own reads in (
      subst (λ (l : List g.row.F.Denot). IsOpening state i.gate l i.storage_key) (sym filled)
          (stays_open state i.gate items i.storage_key c.self.invariant.0 spare i.gate new refl (many ∙ sym long) (reads_pending (numbered_files state spare d items) (numbered_files state spare d new) e.file one)),
      c.self.invariant.1,
      c.self.invariant.2,
      c.self.invariant.3,
    )

pub returns-clause-answer : goal.returns-clause-answer
returns-clause-answer g c =
    let state = g.F.StoreFile.state in
    let i = c.self.inside in
    let entries = i.gate.dir.dir.entries in
    let spare = i.spare in
    let d = i.gate.dir.file in
    let e = c.in-Some.entry in
    let next = c.in-Some.ensures in
    let own = (form_at entries c.self.invariant.0.entries next.index e next.at).file in
    let was : List g.row.F.Denot = c.deref_mut.result.now in
    let items : List g.row.F.Denot = i.files.items in
    let new : List g.row.F.Denot = c.show_in.new.files in
    let held : was ≡ items = c.deref_mut.ensures.value in
    let long : length items ≡ i.files.len = sym i.files.ok.0 in
    let many : length new ≡ i.files.len = c.show_in.auto.files ∙ c.deref_mut.ensures.len in
    let filled = refilled i.files.len items new long many in
    let reads : ReadsObject (object_files state items) (object_files state new) e.file =
    subst (λ (l : List g.row.F.Denot). ReadsObject (object_files state l) (object_files state new) e.file) held c.show_in.ensures.reads in
    let key_is : c.tsk.result ≡ tsk i.storage_key e.app = c.tsk.ensures ∙ ap (tsk i.storage_key) c.bytes.ensures in
    let object = c.in_ok-object.object in
    let answer = shown_next state spare d was new entries c.args.after i.storage_key c.tsk.result e own next key_is c.show_in.ensures.reads object c.in_ok-object.ensures.answer in
    subst (λ v. NextAnswer (entries_in v) c.args.after v.storage_key (bench_files state v) (numbered_files state spare d (take i.files.len (new ++ drop (length new) items))) (Ok (Some (shown_of e object)))) c.self.view_is
    (subst (λ (l : List g.row.F.Denot). NextAnswer entries c.args.after i.storage_key (numbered_files state spare d items) (numbered_files state spare d l) (Ok (Some (shown_of e object)))) (sym filled)
    (subst (λ (l : List g.row.F.Denot). NextAnswer entries c.args.after i.storage_key (numbered_files state spare d l) (numbered_files state spare d new) (Ok (Some (shown_of e object)))) held answer))

pub returns-clause-map : goal.returns-clause-map
returns-clause-map g c =
    let state = g.F.StoreFile.state in
    let i = c.self.inside in
    let entries = i.gate.dir.dir.entries in
    let spare = i.spare in
    let d = i.gate.dir.file in
    let e = c.in-Some.entry in
    let next = c.in-Some.ensures in
    let own = (form_at entries c.self.invariant.0.entries next.index e next.at).file in
    let was : List g.row.F.Denot = c.deref_mut.result.now in
    let items : List g.row.F.Denot = i.files.items in
    let new : List g.row.F.Denot = c.show_in.new.files in
    let held : was ≡ items = c.deref_mut.ensures.value in
    let long : length items ≡ i.files.len = sym i.files.ok.0 in
    let many : length new ≡ i.files.len = c.show_in.auto.files ∙ c.deref_mut.ensures.len in
    let filled = refilled i.files.len items new long many in
    let reads : ReadsObject (object_files state items) (object_files state new) e.file =
    subst (λ (l : List g.row.F.Denot). ReadsObject (object_files state l) (object_files state new) e.file) held c.show_in.ensures.reads in
    let one = reads_bench state spare d items new e.file own reads in
    subst (λ v. MapStays (entries_in v) (bench_files state v) (numbered_files state spare d (take i.files.len (new ++ drop (length new) items)))) c.self.view_is
    (subst (λ (l : List g.row.F.Denot). MapStays entries (numbered_files state spare d items) (numbered_files state spare d l)) (sym filled)
    (read_map entries (numbered_files state spare d items) (numbered_files state spare d new) e.file one))
