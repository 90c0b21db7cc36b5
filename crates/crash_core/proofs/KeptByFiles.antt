-- The calls of files keep what every step keeps.
use Rattle.std.proofs.Common.{◌≡◌, ◌≢◌, ◌⊎◌, ℕ, List, IsTrue, Option, Some, None, inl, inr, refl, sym, ◌∙◌, ap, subst}
use Rattle.disk_model.specs.State.{FileState, Sound}
use Rattle.disk_model.specs.Keeps.{FileCall, write, sync, rest}
use Rattle.node_image.specs.declared.node.RootRef.{RootRef}
use Rattle.tee_types.specs.Limits.{directory_file}
use Rattle.rpmb_card.specs.Card.{CardState}
use Rattle.store_model.specs.ReplayState.{ReplayState}
use Rattle.dir_records.specs.declared.entry.DirEntry.{DirEntry}
use Rattle.crash_core.specs.MountedObject.{root_of}
use Rattle.crash_core.specs.EntryLists.{IsNamed}
use Rattle.crash_core.specs.declared.change.EntryChange.{EntryChange}
use Rattle.crash_core.specs.declared.change.EntryChange.TheVariants.{Clear, Put}
use Rattle.crash_core.specs.EntryChanges.{changed}
use Rattle.crash_core.specs.Sights.{Misses}
use Rattle.crash_core.specs.CoreState.{Core, IsTrusted, PendingCommit, Phase, put, replay_state}
use Rattle.crash_core.specs.FileSteps.{IsFileStep, MissesNamed, MissesPending, MissesSealed}
use Rattle.crash_core.specs.CoreSteps.{IsOpenCommit}
use Rattle.crash_core.specs.Holding.{CardNames, DirectoryStands, Holds, PendingStands, SealedStands}
use Rattle.crash_core.proofs.Lists.{put_each, set_at}
use Rattle.crash_core.proofs.Moves.{IsRoot, MissesNext, MissesOnceSealed, MissesUnder, directory_moved, names_files, pending_moved}

-- of a commit that is not sealed the card names the committed directory
pub unsealed : (phase : Phase) (files : ℕ → FileState) (card : CardState) (root : RootRef) (entries : List (Option DirEntry)) (s : ReplayState) (pending : Option PendingCommit)
    → ((p : PendingCommit) → pending ≡ Some p → p.sealed ≡ None) → PendingStands phase files card root entries s pending → CardNames card root s.counter
unsealed phase files card root entries s None none stands = stands
unsealed phase files card root entries s (Some p) none stands = subst (SealedStands phase files card root entries s p) (none p refl) stands

-- and back
pub not_sealed : (phase : Phase) (files : ℕ → FileState) (card : CardState) (root : RootRef) (entries : List (Option DirEntry)) (s : ReplayState) (p : PendingCommit) → p.sealed ≡ None
    → CardNames card root s.counter → PendingStands phase files card root entries s (Some p)
not_sealed phase files card root entries s p none names = subst (SealedStands phase files card root entries s p) (sym none) names

-- a commit that is open is not sealed
pub open_commit : {Root : Type 0} (c : Core Root) (p : PendingCommit) → IsOpenCommit c p → (q : PendingCommit) → c.pending ≡ Some q → q.sealed ≡ None
open_commit c p (inl none, unsealed) q is = absurd (cc (none, is))
open_commit c p (inr own, unsealed) q is =
    let both : Some p ≡ Some q = sym own ∙ is in
    let same : p ≡ q = cc (both) in
    subst (λ (x : PendingCommit). x.sealed ≡ None) same unsealed

-- what an entry of the changed directory names, an entry named before, or the change puts it
named_changed : (entries : List (Option DirEntry)) (change : EntryChange) (file : ℕ) (root : RootRef) → IsNamed (changed entries change) file root
    → IsNamed entries file root ⊎ ((index : ℕ) × (e : DirEntry) × (change ≡ Put index e) × (file ≡ e.file) × (root ≡ root_of e))
named_changed entries (Put k e) file root n = elim (set_at entries k n.index (Some e) n.entry n.at) [
  | inl new ↦
      let same : e ≡ n.entry = cc (new) in
      inr (k, e, refl, n.is_file ∙ ap (λ (x : DirEntry). x.file) (sym same), n.is_root ∙ ap root_of (sym same))
  | inr old ↦ inl (record { index = n.index; entry = n.entry; at = old; is_file = n.is_file; is_root = n.is_root })
]
named_changed entries (Clear k) file root n = elim (set_at entries k n.index None n.entry n.at) [
  | inl new ↦ absurd (cc (new))
  | inr old ↦ inl (record { index = n.index; entry = n.entry; at = old; is_file = n.is_file; is_root = n.is_root })
]

-- a write to the file of an object misses what a directory selects there
object_roots : (from upto : ℕ) (reads : List ℕ) (dir : RootRef) (entries : List (Option DirEntry)) (file : ℕ) → file ≢ directory_file → MissesNamed from upto reads entries file
    → (root : RootRef) → IsRoot dir entries file root → Misses from upto reads root
object_roots from upto reads dir entries file other misses root (inl own) = absurd (other own.0)
object_roots from upto reads dir entries file other misses root (inr named) = misses root named

put_missed : (from upto : ℕ) (reads : List ℕ) (change : EntryChange) (dir : RootRef) (file index : ℕ) (e : DirEntry) (root : RootRef) → MissesSealed from upto reads change (Some dir) file
    → change ≡ Put index e → file ≡ e.file → root ≡ root_of e → Misses from upto reads root
put_missed from upto reads (Put k f) dir file index e root misses is own of =
    let same : f ≡ e = cc (is) in
    subst (Misses from upto reads) (ap root_of same ∙ sym of) (misses (own ∙ ap (λ (x : DirEntry). x.file) (sym same)))
put_missed from upto reads (Clear k) dir file index e root misses is own of = absurd (cc (is))

module _ {Root : Type 0} (phase : Phase) (c : Core Root) (h : Holds phase c) where
  -- A call of a file keeps it, where what it writes is missed.
  pub call_holds : (file : ℕ) (call : FileCall) (new : FileState) (stages : ℕ → Option ℕ) → IsFileStep phase file call (c.files file) new
      → (IsTrusted phase directory_file → MissesUnder phase call (c.files file).reads c.root c.entries file) → MissesNext phase call (c.files file).reads c.entries c.pending file
      → Holds phase (record c { files = put c.files file new; stages = stages })
  call_holds file call new stages step misses next = record {
    sound = λ k. put_each (λ (n : ℕ) (s : FileState). Sound s) c.files file new k step.sound (h.sound k);
    honest = λ k. put_each (λ (n : ℕ) (s : FileState). IsTrusted phase n → IsTrue s.honest) c.files file new k step.honest (h.honest k);
    legal = h.legal;
    committed = λ trusted. directory_moved phase c.files file call new (h.sound file) step c.root c.entries _ trusted (misses trusted) (h.committed trusted);
    pending = pending_moved phase c.files file call new (h.sound file) step c.card c.root c.entries (replay_state phase c) c.pending next h.pending;
    taken = h.taken;
  }

  -- a sync, and a call that changes nothing, write nothing
  sync_next : (pending : Option PendingCommit) (file : ℕ) → MissesNext phase sync (c.files file).reads c.entries pending file
  sync_next None file = tt
  sync_next (Some p) file = by_seal p.sealed
    where
      by_seal : (sealed : Option RootRef) → MissesOnceSealed phase sync (c.files file).reads c.entries p.change sealed file
      by_seal None = tt
      by_seal (Some dir) = λ trusted root named. tt

  rest_next : (pending : Option PendingCommit) (file : ℕ) → MissesNext phase rest (c.files file).reads c.entries pending file
  rest_next None file = tt
  rest_next (Some p) file = by_seal p.sealed
    where
      by_seal : (sealed : Option RootRef) → MissesOnceSealed phase rest (c.files file).reads c.entries p.change sealed file
      by_seal None = tt
      by_seal (Some dir) = λ trusted root named. tt

  pub sync_holds : (file : ℕ) (new : FileState) → IsFileStep phase file sync (c.files file) new → Holds phase (record c { files = put c.files file new })
  sync_holds file new step = call_holds file sync new c.stages step (λ first trusted root named. tt) (sync_next c.pending file)

  pub rest_holds : (file : ℕ) (new : FileState) → IsFileStep phase file rest (c.files file) new → Holds phase (record c { files = put c.files file new })
  rest_holds file new step = call_holds file rest new c.stages step (λ first trusted root named. tt) (rest_next c.pending file)

  -- A write to the file of an object.
  pub write_holds : (file from upto : ℕ) (new : FileState) (stages : ℕ → Option ℕ) → file ≢ directory_file → (IsTrusted phase file → MissesNamed from upto (c.files file).reads c.entries file)
      → (IsTrusted phase file → MissesPending from upto (c.files file).reads c.pending file) → IsFileStep phase file (write from upto) (c.files file) new
      → Holds phase (record c { files = put c.files file new; stages = stages })
  write_holds file from upto new stages other named sealed step =
      call_holds file (write from upto) new stages step (λ first trusted. object_roots from upto (c.files file).reads c.root c.entries file other (named trusted)) (by_pending c.pending sealed)
    where
      under : (change : EntryChange) (dir : RootRef) → (IsTrusted phase file → MissesSealed from upto (c.files file).reads change (Some dir) file) → IsTrusted phase file
          → (root : RootRef) → IsRoot dir (changed c.entries change) file root → Misses from upto (c.files file).reads root
      under change dir misses trusted root (inl own) = absurd (other own.0)
      under change dir misses trusted root (inr one) = elim (named_changed c.entries change file root one) [
        | inl old ↦ named trusted root old
        | inr new ↦ put_missed from upto (c.files file).reads change dir file new.0 new.1 root (misses trusted) new.2 new.3 new.4
      ]

      by_seal : (change : EntryChange) (seal : Option RootRef) → (IsTrusted phase file → MissesSealed from upto (c.files file).reads change seal file)
          → MissesOnceSealed phase (write from upto) (c.files file).reads c.entries change seal file
      by_seal change None misses = tt
      by_seal change (Some dir) misses = under change dir misses

      by_pending : (pending : Option PendingCommit) → (IsTrusted phase file → MissesPending from upto (c.files file).reads pending file)
          → MissesNext phase (write from upto) (c.files file).reads c.entries pending file
      by_pending None misses = tt
      by_pending (Some p) misses = by_seal p.change p.sealed misses

  -- A write to the directory's file, for a commit that is not sealed.
  pub directory_holds : (p : PendingCommit) (from upto : ℕ) (new : FileState) → IsOpenCommit c p → (IsTrusted phase directory_file → Misses from upto (c.files directory_file).reads c.root)
      → IsFileStep phase directory_file (write from upto) (c.files directory_file) new → Holds phase (record c { files = put c.files directory_file new; pending = Some p })
  directory_holds p from upto new open_ misses step =
      let names : CardNames c.card c.root (replay_state phase c).counter = unsealed phase c.files c.card c.root c.entries (replay_state phase c) c.pending (open_commit c p open_) h.pending in
      record {
        sound = λ k. put_each (λ (n : ℕ) (s : FileState). Sound s) c.files directory_file new k step.sound (h.sound k);
        honest = λ k. put_each (λ (n : ℕ) (s : FileState). IsTrusted phase n → IsTrue s.honest) c.files directory_file new k step.honest (h.honest k);
        legal = h.legal;
        committed = λ trusted. directory_moved phase c.files directory_file (write from upto) new (h.sound directory_file) step c.root c.entries _ trusted (own (h.committed trusted)) (h.committed trusted);
        pending = not_sealed phase (put c.files directory_file new) c.card c.root c.entries (replay_state phase c) p open_.1 names;
        taken = h.taken;
      }
    where
      own : DirectoryStands phase c.files c.root c.entries ((replay_state phase c).state).objects → MissesUnder phase (write from upto) (c.files directory_file).reads c.root c.entries directory_file
      own d trusted root (inl same) = subst (Misses from upto (c.files directory_file).reads) (sym same.1) (misses trusted)
      own d trusted root (inr named) = absurd (names_files phase c.files c.root c.entries _ d root named)
