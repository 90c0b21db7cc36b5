-- A stage of a directory, and settling it, from those of its tree.
use Rattle.std.proofs.Common.{[], ◌∷◌, ◌≡◌, ◌∙◌, ◌+◌, ◌*◌, ◌/◌, ◌-◌, ◌<◌, ℕ, List, get_or, slice_set, true, false, Option, Some, None, Result, Ok, Err, IfSome, IsSome, IsTrue, OnErr, OnOk, refl, sym, ap, subst, inl, arith}
use Rattle.std.specs.Prelude.{IfOk}
use Rattle.disk_model.specs.State.{FileState, Sound}
use Rattle.disk_model.specs.Calls.{Known}
use Rattle.disk_model.specs.Keeps.{Anywhere, Keeps}
use Rattle.disk_model.proofs.ImageLaws.{reads_left}
use Rattle.aes_block.specs.WrappedKey.{unwrapped_of}
use Rattle.byte_fields.specs.Field.{field}
use Rattle.node_image.specs.declared.node.RootRef.{RootRef}
use Rattle.node_image.specs.declared.head.Head.{Head}
use Rattle.node_image.specs.Selection.{selected_tree}
use Rattle.htree_file.specs.declared.fault.TreeFault.{TreeFault}
use Rattle.htree_file.specs.Changes.{OpensAfter, SealsChanges, SparesZero}
use Rattle.htree_file.specs.Opening.{load_of}
use Rattle.htree_file.specs.Selected.{KeepsFirm, Lies}
use Rattle.htree_file.specs.Opening.{IsVerified}
use Rattle.node_image.specs.Layout.{greatest_of}
use Rattle.tree_paths.specs.Staged.{IsWithinBudget}
use Rattle.disk_model.specs.Calls.{Syncs}
use Rattle.disk_model.specs.State.{moment}
use Rattle.disk_model.proofs.ImageLaws.{now_since}
use Rattle.dir_file.specs.Stages.{IsNext, KeepsHeld}
use Rattle.dir_records.specs.Form.{HasForm}
use Rattle.htree_file.specs.Standing.{IsFirm}
use Rattle.htree_file.specs.Value.{Staged, TreeValue}
use Rattle.dir_records.specs.declared.entry.DirEntry.{DirEntry}
use Rattle.dir_records.specs.Form.{record_of}
use Rattle.crash_core.specs.Directory.{directory_of}
use Rattle.crash_core.proofs.SameDirectory.{directory_same}
use Rattle.dir_file.specs.View.{DirView, StagedDirectory}
use Rattle.dir_file.specs.Held.{IsDurable, IsStaged}
use Rattle.dir_file.specs.Stages.{SettlesDirectory}
use Rattle.dir_file.specs.declared.file.NextEntry.{NextEntry}
use Rattle.dir_file.specs.EntryForms.{Fits}
use Rattle.dir_file.specs.Inside.{DirInside, NextFits, NextInside, staged_of}
use Rattle.dir_file.specs.Stages.{StagesEntry}
use Rattle.dir_file.proofs.Budget.{one_block}
use Rattle.dir_file.specs.Loading.{IsReadDirectory}
use Rattle.dir_file.proofs.ChangedEntry.{changed_directory, one_change, entries_after}
use Rattle.dir_file.proofs.Loading.{nodes_eight}
use Rattle.dir_file.proofs.SealedEntries.{sealed_after}

-- what a contract sees of a directory
abbrev pub view_of : {F : Type 0} → TreeValue F → (tsk : List ℕ) → List (Option DirEntry) → Option NextEntry → DirView
view_of t tsk entries next = record { tsk = tsk; root = t.root; tree = t.tree; entries = entries; stage = staged_of t.stage next entries }

stage_some : (o : Option Staged) → IsSome o → (s : Staged) × (o ≡ Some s)
stage_some None is = absurd (cc (is))
stage_some (Some s) is = (s, refl)

-- the stage of the tree
tree_stage : (o : Option Staged) (next : Option NextEntry) (entries : List (Option DirEntry)) → IsSome (staged_of o next entries) → (s : Staged) × (n : NextEntry) × (o ≡ Some s) × (next ≡ Some n)
tree_stage None next entries is = absurd (cc (is))
tree_stage (Some s) None entries is = absurd (cc (is))
tree_stage (Some s) (Some n) entries is = (s, n, refl, refl)

abbrev stage_at : Staged → NextEntry → List (Option DirEntry) → StagedDirectory
stage_at s n entries = record { root = s.root; tree = s.tree; entries = slice_set entries n.index n.entry; settled = s.settled }

staged_is : (o : Option Staged) (next : Option NextEntry) (entries : List (Option DirEntry)) (s : Staged) (n : NextEntry) → o ≡ Some s → next ≡ Some n → staged_of o next entries ≡ Some (stage_at s n entries)
staged_is o next entries s n a b = λ i. staged_of (a i) (b i) entries

if_staged : (o : Option StagedDirectory) (P : StagedDirectory → Type 0) (s : StagedDirectory) → o ≡ Some s → P s → IfSome o P
if_staged o P s is holds = subst (λ (v : Option StagedDirectory). IfSome v P) (sym is) holds

at_stage : (o : Option Staged) (P : Staged → Type 0) (s : Staged) → o ≡ Some s → IfSome o P → P s
at_stage o P s is holds = subst (λ (v : Option Staged). IfSome v P) is holds

-- what the page of a block holds, and what a stage of it writes
pub page_records : (page : List ℕ) (entries list : List (Option DirEntry)) (index number : ℕ) (entry : Option DirEntry) → number ≡ index → list ≡ entries
    → ((j : ℕ) → j < 32 → record_of (field (128 * j) 128 page) ≡ Ok (get_or (slice_set list index entry) (32 * (number / 32) + j) None))
    → (j : ℕ) → j < 32 → record_of (field (128 * j) 128 page) ≡ Ok (get_or (slice_set entries index entry) (32 * (index / 32) + j) None)
page_records page entries list index number entry is same records =
    subst (λ (m : ℕ). (j : ℕ) → j < 32 → record_of (field (128 * j) 128 page) ≡ Ok (get_or (slice_set entries index entry) (32 * (m / 32) + j) None)) is
    (subst (λ (l : List (Option DirEntry)). (j : ℕ) → j < 32 → record_of (field (128 * j) 128 page) ≡ Ok (get_or (slice_set l index entry) (32 * (number / 32) + j) None)) same records)

pub page_budget : (index number before old new : ℕ) → number ≡ index → before ≡ 8 → IsWithinBudget (number / 32 ∷ []) before 8 old new → IsWithinBudget (index / 32 ∷ []) 8 8 old new
page_budget index number before old new is eight budget =
    subst (λ (m : ℕ). IsWithinBudget (m / 32 ∷ []) 8 8 old new) is (subst (λ (n : ℕ). IsWithinBudget (number / 32 ∷ []) n 8 old new) eight budget)

-- a firm directory that stays firm is held
pub held_kept : (old new : FileState) (d : DirView) → Sound old → Sound new → KeepsFirm old new d.root d.tree → KeepsHeld old new d
held_kept old new d sound still kept honest was =
    let firm = kept was.firm honest in
    record {
      firm = firm.firm;
      entries_are = λ image left.
          directory_same image old.reads d.root d.tree (selected_tree old.reads d.root) (firm.always image (now_since new (moment old) image still left)) (was.firm old.reads (reads_left old sound)) d.tsk
          ∙ was.entries_are old.reads (reads_left old sound);
    }

-- without a stage no entry is left over
pub idle_next : (o : Option Staged) (next : Option NextEntry) (entries : List (Option DirEntry)) (wrapped : List ℕ) → NextFits wrapped o next → staged_of o next entries ≡ None → next ≡ None
idle_next None next entries wrapped fits idle = fits
idle_next (Some s) next entries wrapped fits idle = absurd (cc (sym (staged_is (Some s) next entries s fits.entry refl fits.is) ∙ idle))

module _ {F : Type 0} (t u : TreeValue F) (old new : FileState) (tsk : List ℕ) (entries : List (Option DirEntry)) (sound : Sound old) (still : Sound new) where
  -- settling
  module _ (next : Option NextEntry) (opens : IsSome (staged_of t.stage next entries)) (same : u ≡ record t { file = u.file; stage = u.stage })
      (reads : Known old new → new.reads ≡ old.reads) (kept : KeepsFirm old new t.root t.tree) (keeps : Keeps Anywhere old new) where
    view_same : view_of u tsk entries next ≡ record (view_of t tsk entries next) { stage = staged_of u.stage next entries }
    view_same = λ i. record { tsk = tsk; root = (same i).root; tree = (same i).tree; entries = entries; stage = staged_of u.stage next entries }

    pub settles_ok : (root : RootRef) → IfSome t.stage (λ s. (root ≡ s.root) × (u.stage ≡ Some (record s { settled = true })))
        → IfSome t.stage (λ s. IsTrue new.honest → load_of old.reads s.root ≡ Ok s.tree → IsFirm new s.root s.tree)
        → Syncs old new → SettlesDirectory old new (view_of t tsk entries next) (view_of u tsk entries next) {A = RootRef} (Ok root)
    settles_ok root settled firm syncs =
        let p = tree_stage t.stage next entries opens in
        let s : Staged = p.0 in
        let n : NextEntry = p.1 in
        let is : staged_of t.stage next entries ≡ Some (stage_at s n entries) = staged_is t.stage next entries s n p.2 p.3 in
        let stage_then : u.stage ≡ Some (record s { settled = true }) = (at_stage t.stage (λ (x : Staged). (root ≡ x.root) × (u.stage ≡ Some (record x { settled = true }))) s p.2 settled).1 in
        record {
          same = view_same;
          settled = if_staged (staged_of t.stage next entries) (λ (x : StagedDirectory). staged_of u.stage next entries ≡ Some (record x { settled = true })) (stage_at s n entries) is
              (staged_is u.stage next entries (record s { settled = true }) n stage_then p.3);
          is_open = tt;
          synced = syncs;
          reads = reads;
          keeps = keeps;
          firm = kept;
          held = held_kept old new (view_of t tsk entries next) sound still kept;
          next = if_staged (staged_of t.stage next entries) (λ (x : StagedDirectory). IsTrue new.honest → IsStaged old tsk x → IsDurable new tsk x.root x.tree x.entries) (stage_at s n entries) is
              (λ honest staged.
              let stands : IsFirm new s.root s.tree = at_stage t.stage (λ (x : Staged). IsTrue new.honest → load_of old.reads x.root ≡ Ok x.tree → IsFirm new x.root x.tree) s p.2 firm honest staged.loads in
              record {
                firm = stands;
                entries_are = λ image left.
                    directory_same image new.reads s.root s.tree (selected_tree new.reads s.root) (stands image left) (stands new.reads (reads_left new still)) tsk
                    ∙ ap (λ (b : List ℕ). directory_of tsk b s.root) (reads (inl honest)) ∙ staged.entries_are;
              });
        }

    pub settles_err : (fault : TreeFault) → u.stage ≡ t.stage → SettlesDirectory old new (view_of t tsk entries next) (view_of u tsk entries next) {A = RootRef} (Err fault)
    settles_err fault stays = record {
      same = view_same;
      settled = tt;
      is_open = ap (λ (o : Option Staged). staged_of o next entries) stays;
      synced = tt;
      reads = reads;
      keeps = keeps;
      firm = kept;
      held = held_kept old new (view_of t tsk entries next) sound still kept;
      next = tt;
    }

    pub settles : (result : Result RootRef TreeFault) → IfOk result (λ root. IfSome t.stage (λ s. (root ≡ s.root) × (u.stage ≡ Some (record s { settled = true }))))
        → OnErr result (u.stage ≡ t.stage)
        → OnOk result (IfSome t.stage (λ s. IsTrue new.honest → load_of old.reads s.root ≡ Ok s.tree → IsFirm new s.root s.tree))
        → OnOk result (Syncs old new)
        → SettlesDirectory old new (view_of t tsk entries next) (view_of u tsk entries next) result
    settles (Ok root) settled stays firm syncs = settles_ok root settled firm syncs
    settles (Err fault) settled stays firm syncs = settles_err fault stays

  -- a stage of one entry
  module _ (index : ℕ) (entry : Option DirEntry) (page : List ℕ) (inside : t.key ≡ unwrapped_of tsk t.tree.head.wrapped) (fits : Fits entries index entry)
      (records : (j : ℕ) → j < 32 → record_of (field (128 * j) 128 page) ≡ Ok (get_or (slice_set entries index entry) (32 * (index / 32) + j) None))
      (was : Option NextEntry) (top : Head) where
    abbrev put : NextEntry
    put = record { index = index; entry = entry }

    abbrev before : DirView
    before = view_of t tsk entries was

    module _ (same : u ≡ record t { file = u.file; stage = u.stage }) (keeps : Keeps (Lies t.tree.layout t.tree.nodes t.root.version) old new) (kept : KeepsFirm old new t.root t.tree)
        (budget : IsWithinBudget (index / 32 ∷ []) 8 8 old.written new.written) (unsettled : new.pending_from ≡ old.pending_from) where
      pub stages_err : (fault : TreeFault) → u.stage ≡ None → was ≡ None → StagesEntry old new before (view_of u tsk entries was) index entry {A = Unit {0}} (Err fault)
      stages_err fault none idle = record {
        same = λ i. record { tsk = tsk; root = (same i).root; tree = (same i).tree; entries = entries; stage = staged_of u.stage was entries };
        none = ap (λ (o : Option Staged). staged_of o was entries) none;
        opens = tt;
        next = tt;
        keeps = keeps;
        firm = kept;
        held = held_kept old new before sound still kept;
        staged = tt;
        seals = tt;
        spares = tt;
        budget = budget;
        most = one_block (index / 32) old.written new.written (omega (arith, fits.below)) budget;
        unsettled = unsettled;
      }

      pub stages_ok : IsSome u.stage → IfSome u.stage (λ s. (s.root.version ≡ 1 - t.root.version) × (s.settled ≡ false) × (s.tree.head ≡ top))
          → IfSome u.stage (λ s. s.root.format ≡ t.root.format)
          → IfSome u.stage (λ s. IsVerified s.root s.tree)
          → (Known old new → load_of old.reads t.root ≡ Ok t.tree → IfSome u.stage (λ s. load_of new.reads s.root ≡ Ok s.tree))
          → (Known old new → load_of old.reads t.root ≡ Ok t.tree → IfSome u.stage (λ s. OpensAfter t.key t.tree.head.wrapped old.reads t.root new.reads s.root 32768 (one_change (index / 32) page)))
          → IfSome u.stage (λ s. SealsChanges t.key t.tree s.tree (one_change (index / 32) page)) → IfSome u.stage (λ s. SparesZero t.tree s.tree)
          → top.wrapped ≡ t.tree.head.wrapped → top.length ≡ 32768
          → StagesEntry old new before (view_of u tsk entries (Some put)) index entry {A = Unit {0}} (Ok tt)
      stages_ok opens version format verified loaded opened sealed spares wrapped bytes =
          let p = stage_some u.stage opens in
          let s : Staged = p.0 in
          let is : staged_of u.stage (Some put) entries ≡ Some (stage_at s put entries) = staged_is u.stage (Some put) entries s put p.1 refl in
          let v : (s.root.version ≡ 1 - t.root.version) × (s.settled ≡ false) × (s.tree.head ≡ top) = at_stage u.stage (λ (x : Staged). (x.root.version ≡ 1 - t.root.version) × (x.settled ≡ false) × (x.tree.head ≡ top)) s p.1 version in
          let stands : IsVerified s.root s.tree = at_stage u.stage (λ (x : Staged). IsVerified x.root x.tree) s p.1 verified in
          let long : s.tree.head.length ≡ 32768 = ap (λ (h : Head). h.length) v.2 ∙ bytes in
          record {
            same = λ i. record { tsk = tsk; root = (same i).root; tree = (same i).tree; entries = entries; stage = staged_of u.stage (Some put) entries };
            none = tt;
            opens = subst IsSome (sym is) refl;
            next = if_staged (staged_of u.stage (Some put) entries) (IsNext before index entry) (stage_at s put entries) is
                (record { version = v.0; format = at_stage u.stage (λ (x : Staged). x.root.format ≡ t.root.format) s p.1 format; settled = v.1; entries_are = refl; are = entries_after entries index entry fits; verified = stands });
            keeps = keeps;
            firm = kept;
            held = held_kept old new before sound still kept;
            staged = λ honest held.
                let known : Known old new = inl honest in
                let loads_before : load_of old.reads t.root ≡ Ok t.tree = (held.firm old.reads (reads_left old sound)).opens in
                let loads : load_of new.reads s.root ≡ Ok s.tree = at_stage u.stage (λ (x : Staged). load_of new.reads x.root ≡ Ok x.tree) s p.1 (loaded known loads_before) in
                let after : OpensAfter t.key t.tree.head.wrapped old.reads t.root new.reads s.root 32768 (one_change (index / 32) page) =
                at_stage u.stage (λ (x : Staged). OpensAfter t.key t.tree.head.wrapped old.reads t.root new.reads x.root 32768 (one_change (index / 32) page)) s p.1 (opened known loads_before) in
                if_staged (staged_of u.stage (Some put) entries) (IsStaged new tsk) (stage_at s put entries) is (record {
                  loads = loads;
                  entries_are = changed_directory tsk old.reads new.reads t.key t.root s.root t.tree s.tree entries index entry page loads_before loads inside
                      (held.entries_are old.reads (reads_left old sound)) fits records after;
                });
            seals = λ read. if_staged (staged_of u.stage (Some put) entries) (λ (x : StagedDirectory). IsReadDirectory tsk x.tree (Ok x.entries)) (stage_at s put entries) is
                (sealed_after tsk t.key t.tree s.tree entries index entry page inside (ap (λ (h : Head). h.wrapped) v.2 ∙ wrapped) long (nodes_eight s.root s.tree stands long) fits records
                (at_stage u.stage (λ (x : Staged). SealsChanges t.key t.tree x.tree (one_change (index / 32) page)) s p.1 sealed) read);
            spares = if_staged (staged_of u.stage (Some put) entries) (λ (x : StagedDirectory). SparesZero t.tree x.tree) (stage_at s put entries) is
                (at_stage u.stage (λ (x : Staged). SparesZero t.tree x.tree) s p.1 spares);
            budget = budget;
            most = one_block (index / 32) old.written new.written (omega (arith, fits.below)) budget;
            unsettled = unsettled;
          }

-- the parts of a directory with a stage
pub staged_inside : {F : Type 0} (t u : TreeValue F) (tsk : List ℕ) (entries : List (Option DirEntry)) (was : Option NextEntry) (index : ℕ) (entry : Option DirEntry)
    → DirInside t tsk entries was → u ≡ record t { file = u.file; stage = u.stage } → index < 256 → IfSome entry HasForm → IsSome u.stage
    → IfSome u.stage (λ s. (s.root.version ≡ 1 - t.root.version) × (s.settled ≡ false) × (s.tree.head ≡ record t.tree.head { length = 32768; greatest = greatest_of 32768 }))
    → IfSome u.stage (λ s. IsVerified s.root s.tree) → DirInside u tsk entries (Some (record { index = index; entry = entry }))
staged_inside {F = F} t u tsk entries was index entry inside same below form opens version verified =
    let p = stage_some u.stage opens in
    let s : Staged = p.0 in
    let head : s.tree.head ≡ record t.tree.head { length = 32768; greatest = greatest_of 32768 } =
    (at_stage u.stage (λ (x : Staged). (x.root.version ≡ 1 - t.root.version) × (x.settled ≡ false) × (x.tree.head ≡ record t.tree.head { length = 32768; greatest = greatest_of 32768 })) s p.1 version).2 in
    let next : NextInside t.tree.head.wrapped s (Some (record { index = index; entry = entry })) = record {
      entry = record { index = index; entry = entry };
      is = refl;
      below = below;
      form = form;
      tree = record {
        bytes = ap (λ (h : Head). h.length) head;
        blocks = ap (λ (h : Head). h.greatest) head;
        verified = at_stage u.stage (λ (x : Staged). IsVerified x.root x.tree) s p.1 verified;
      };
      wrapped_is = ap (λ (h : Head). h.wrapped) head;
    } in
    subst (λ (v : TreeValue F). DirInside v tsk entries (Some (record { index = index; entry = entry }))) (sym same) (record {
      whole = inside.whole;
      forms = inside.forms;
      key = inside.key;
      tree = inside.tree;
      staged = subst (λ (o : Option Staged). NextFits t.tree.head.wrapped o (Some (record { index = index; entry = entry }))) (sym p.1) next;
    })
