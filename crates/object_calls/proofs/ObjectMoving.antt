-- An object is moved: its file is copied into the least free one, and a commit names that; or the move is given up.
use Rattle.std.proofs.Common.{◌≡◌, ◌≢◌, ◌∙◌, ◌<◌, ◌≤◌, ◌==◌, ◌||◌, ℕ, zero, suc, Bool, List, [], ◌∷◌, Option, Some, None, IsTrue, false, inl, inr, refl, sym, ap, subst, arith, is_eq}
use Rattle.std.specs.Prelude.{slice_set}
use Rattle.std.proofs.lemmas.Bool.{cases_eq, cond-true, eq-eqb, ne_eqb}
use Rattle.disk_model.specs.Faults.{Rose}
use Rattle.disk_model.specs.State.{FileState, Sound}
use Rattle.disk_model.specs.Calls.{GoesOn}
use Rattle.disk_model.proofs.Goings.{goes_on_none}
use Rattle.htree_file.specs.Answers.{FileFailed, FilePassed}
use Rattle.htree_file.specs.Standing.{Told}
use Rattle.node_image.specs.References.{current_format}
use Rattle.hmac_keys.specs.declared.Keys.{Keys}
use Rattle.tee_types.specs.Limits.{IsObjectFile}
use Rattle.tee_types.specs.declared.reply.Cause.{Cause}
use Rattle.tee_types.specs.declared.reply.Cause.TheVariants.{Fault, Frame as FrameCause, CardResult as ResultCause}
use Rattle.tee_types.specs.declared.reply.Device.TheVariants.{Dir, File, Card, Entropy}
use Rattle.store_model.specs.Name.{name_cmp}
use Rattle.dir_records.specs.declared.entry.DirEntry.{DirEntry}
use Rattle.rpmb_card.specs.Card.{CardState}
use Rattle.rpmb_card.specs.Port.{PortState}
use Rattle.rpmb_host.specs.Calls.{HostState}
use Rattle.rpmb_host.specs.Honest.{HadCard, HasCard}
use Rattle.store_commit.specs.View.{DirValue}
use Rattle.crash_core.specs.Entries.{is_double, name_of}
use Rattle.crash_core.specs.EntryLists.{entry_at}
use Rattle.crash_core.specs.Migration.{Migrates}
use Rattle.crash_core.specs.MigrationLaws.{moved_entry}
use Rattle.crash_core.proofs.Migrations.{exchanges_migrate, same_card}
use Rattle.store_commit.specs.declared.change.CommitEnd.{CommitEnd}
use Rattle.store_commit.specs.declared.change.CommitEnd.TheVariants.{Made, Dropped, Doubtful, Spent as SpentEnd}
use Rattle.crash_core.specs.declared.change.EntryChange.{EntryChange}
use Rattle.crash_core.specs.declared.change.EntryChange.TheVariants.{Put as PutChange}
use Rattle.store_commit.specs.declared.fault.MountFault.{MountFault}
use Rattle.store_commit.specs.declared.fault.MountFault.TheVariants.{CardBlock, CardResult, Directory, Failed, Frame, NoMemory, NoStore, OldFormat, Spent}
use Rattle.store_commit.specs.Causes.{CauseStands, Counted, EndCause, EndNotDrawn, NoCard, NotDrawn, counts}
use Rattle.store_commit.specs.Counts.{EndCounts, RefusalNotDrawn}
use Rattle.store_commit.specs.EntryForms.{AreEntriesOf, Fits}
use Rattle.store_commit.specs.Ends.{Leaves, Throughout}
use Rattle.store_commit.specs.Gates.{GateValue, LeavesHolds, doubt_left, gate_sides}
use Rattle.store_commit.specs.Holds.{IsFreeFile, IsLeastFreeFile, file_held, unless_file}
use Rattle.store_commit.specs.Mounts.{NoCardOf}
use Rattle.store_commit.specs.Sides.{Sides, sides}
use Rattle.store_commit.specs.Steps.{Steps}
use Rattle.object_calls.specs.OpeningFiles.{numbered_files, object_files}
use Rattle.object_calls.specs.DirectoryMoves.{cause_answer}
use Rattle.object_calls.specs.ObjectMoves.{CopiesBetweenFiles, CopiesObject, GateGoesOn, GatePassed, KeepsGateMaps, MayMove, MigratesGate, MovesObject, ObjectNotCopied, ObjectNotMoved, devices_at, end_fault}
use Rattle.object_calls.proofs.EntriesOf.{distinct_names, form_at}
use Rattle.object_calls.proofs.Files.{objects_sound}
use Rattle.object_calls.proofs.ObjectTurns.{copy_ends, object_migrates}

-- FREE FILES
-- where one session holds a file, and no other holds one, none holds another
pub none_behind : (holds : List (Option ℕ)) (file session : ℕ) → ((s : ℕ) → file_held holds s ≡ None) → unless_file file (file_held (slice_set holds 0 (Some file)) session) ≡ None
none_behind [] file session none = refl
none_behind (x ∷ holds) file zero none = cond-true (file == file) None (Some file) (eq-eqb file file refl)
none_behind (x ∷ holds) file (suc session) none = ap (unless_file file) (none (suc session))

-- Where no session holds a file, the least free one is the least that no entry names.
none_unheld : (holds : List (Option ℕ)) (file : ℕ) → ((session : ℕ) → file_held holds session ≡ None) → (session : ℕ) → file_held holds session ≢ Some file
none_unheld holds file none session is = let both : ◌≡◌ {A = Option ℕ} None (Some file) = sym (none session) ∙ is in cc (both)

no_holds : (file session : ℕ) → file_held [] session ≢ Some file
no_holds file session is = let both : ◌≡◌ {A = Option ℕ} None (Some file) = is in cc (both)

pub least_of_entries : (entries : List (Option DirEntry)) (holds : List (Option ℕ)) (file : ℕ) → ((session : ℕ) → file_held holds session ≡ None) → IsLeastFreeFile entries holds file
    → IsLeastFreeFile entries [] file
least_of_entries entries holds file none is = record {
  free = record { from = is.free.from; upto = is.free.upto; unnamed = is.free.unnamed; unheld = no_holds file };
  least = λ other lt free. is.least other lt (record { from = free.from; upto = free.upto; unnamed = free.unnamed; unheld = none_unheld holds other none });
}

-- An entry that names a free file in place of its own fits where it was.
pub fits_moved : (entries : List (Option DirEntry)) (holds : List (Option ℕ)) (index : ℕ) (e : DirEntry) (file : ℕ) → AreEntriesOf entries → index < 256 → entry_at entries index ≡ Some e → IsFreeFile entries holds file
    → Fits entries index (Some (moved_entry e file current_format))
fits_moved entries holds index e file are below at free =
    let form = form_at entries are index e at in
    record {
      below = below;
      form = record { version = form.version; file = (free.from, free.upto); size = form.size; attributes = form.attributes; format = (omega arith, omega arith) };
      alone = λ i low other. alone i other (entry_at entries i) refl;
    }
  where
    alone : (i : ℕ) → i ≢ index → (o : Option DirEntry) → entry_at entries i ≡ o → is_double o (Some (moved_entry e file current_format)) ≡ false
    alone i other None there = refl
    alone i other (Some f) there =
        let unlike : is_eq (name_cmp (name_of f) (name_of e)) ≡ false = distinct_names entries are i f there index e (λ same. other (sym same)) at in
        ap (λ (b : Bool). b || (f.file == file)) unlike ∙ ne_eqb f.file file (λ same. free.unnamed i f there (sym same))

-- THE DEVICES
module _ {F R : Type 0} (state : F → FileState) (port : R → PortState) where
  -- the gate has the same devices and the same counter, and its first session holds a file that was free
  pub record IsReserved (g0 gr : GateValue F R) (file : ℕ) : Type 0 where
    pub dir : gr.dir ≡ g0.dir
    pub host : gr.host ≡ g0.host
    pub counter : gr.counter ≡ g0.counter
    pub holds : gr.holds ≡ slice_set g0.holds 0 (Some file)
    pub free : IsLeastFreeFile g0.dir.dir.entries g0.holds file

  -- what a commit left of a gate
  pub record IsCommit (gr g1 : GateValue F R) (change : EntryChange) (end : CommitEnd) (drew draws : ℕ) : Type 0 where
    pub leaves : Leaves (gate_sides state port gr) (gate_sides state port g1) change end
    pub doubt : g1.doubt ≡ doubt_left change end
    pub holds : LeavesHolds change end gr.holds g1.holds
    pub throughout : Throughout (gate_sides state port gr) (gate_sides state port g1)
    pub steps : Steps (gate_sides state port gr) (gate_sides state port g1) change end
    pub counted : EndCounts (counts (state gr.dir.file) (port gr.host.port) drew) (counts (state g1.dir.file) (port g1.host.port) draws) end
    pub cause : EndCause gr.host.key gr.counter (counts (state gr.dir.file) (port gr.host.port) drew) (counts (state g1.dir.file) (port g1.host.port) draws) end

  pub reserved_of : (g0 ga gr : GateValue F R) (file : ℕ) → ga ≡ record g0 { open_handles = ga.open_handles; room = ga.room } → gr ≡ record ga { holds = slice_set ga.holds 0 (Some file) }
      → IsLeastFreeFile ga.dir.dir.entries ga.holds file → IsReserved g0 gr file
  reserved_of g0 ga gr file first second free = record {
    dir = ap (λ (x : GateValue F R). x.dir) second ∙ ap (λ (x : GateValue F R). x.dir) first;
    host = ap (λ (x : GateValue F R). x.host) second ∙ ap (λ (x : GateValue F R). x.host) first;
    counter = ap (λ (x : GateValue F R). x.counter) second ∙ ap (λ (x : GateValue F R). x.counter) first;
    holds = ap (λ (x : GateValue F R). x.holds) second ∙ ap (λ (x : GateValue F R). slice_set x.holds 0 (Some file)) first;
    free = subst (λ (x : GateValue F R). IsLeastFreeFile x.dir.dir.entries x.holds file) first free;
  }

  pub same_sides : (g0 gr : GateValue F R) (file : ℕ) → IsReserved g0 gr file → gate_sides state port gr ≡ gate_sides state port g0
  same_sides g0 gr file r =
      λ i. sides (state (r.dir i).file) (r.dir i).dir (port (r.host i).port) (r.host i).key (r.counter i)

  -- NOTHING IS CALLED
  pub still_goes_on : (g0 g1 : GateValue F R) (files : List F) → g1.dir ≡ g0.dir → g1.host ≡ g0.host → GateGoesOn state port g0 g1 files files
  still_goes_on g0 g1 files dir host = record {
    tsk = ap (λ (d : DirValue F). d.dir.tsk) dir;
    key = ap (λ (h : HostState R). h.key) host;
    dir = subst (λ (d : DirValue F). GoesOn (state g0.dir.file) (state d.file)) (sym dir) (goes_on_none (state g0.dir.file));
    files = λ file. goes_on_none (object_files state files file);
    card = λ had. subst (λ (h : HostState R). HadCard (port h.port) h.key) (sym host) had;
  }

  pub still_migrates : (g0 g1 : GateValue F R) (files : List F) → g1.dir ≡ g0.dir → g1.host ≡ g0.host → MigratesGate state port g0 g1 files files
  still_migrates g0 g1 files dir host spare keys card tsk has = record {
    after = card;
    has = subst (λ (h : HostState R). HasCard (port h.port) h.key card) (sym host) has;
    migrates = subst (λ (d : DirValue F). Migrates keys (devices_at state spare g0 files card) (record { files = numbered_files state spare d.file files; card = card })) (sym dir)
        (exchanges_migrate keys (devices_at state spare g0 files card) (devices_at state spare g0 files card) (λ file. refl) (same_card card));
  }

  -- but room was made
  pub roomed_migrates : (g0 g1 : GateValue F R) (files : List F) → g1 ≡ record g0 { open_handles = g1.open_handles; room = g1.room } → MigratesGate state port g0 g1 files files
  roomed_migrates g0 g1 files same = still_migrates g0 g1 files (ap (λ (x : GateValue F R). x.dir) same) (ap (λ (x : GateValue F R). x.host) same)

  -- A COPY
  copied_goes_on : (old new : ℕ → FileState) (from to : ℕ) → CopiesBetweenFiles old new from to → (n : ℕ) → GoesOn (old n) (new n)
  copied_goes_on old new from to copies n = elim (cases_eq n from) [
    | inl is ↦ subst (λ (k : ℕ). GoesOn (old k) (new k)) (sym is) copies.reads.goes_on
    | inr not_from ↦ elim (cases_eq n to) [
      | inl is ↦ subst (λ (k : ℕ). GoesOn (old k) (new k)) (sym is) copies.writes.goes_on
      | inr not_to ↦ subst (GoesOn (old n)) (sym (copies.others n not_from not_to)) (goes_on_none (old n))
    ]
  ]

  pub copy_goes_on : (g0 g1 : GateValue F R) (old new : List F) (from to : ℕ) → g1.dir ≡ g0.dir → g1.host ≡ g0.host → CopiesBetweenFiles (object_files state old) (object_files state new) from to
      → GateGoesOn state port g0 g1 old new
  copy_goes_on g0 g1 old new from to dir host copies =
      let still = still_goes_on g0 g1 old dir host in
      record { tsk = still.tsk; key = still.key; dir = still.dir; files = copied_goes_on (object_files state old) (object_files state new) from to copies; card = still.card }

  -- a turn that began with the devices of the gate, or ends with them
  begun_by : (spare : F) (g0 gr g1 : GateValue F R) (old new : List F) (keys : Keys) (card : CardState) → gr.dir ≡ g0.dir → KeepsGateMaps state port spare gr g1 old new keys card
      → KeepsGateMaps state port spare g0 g1 old new keys card
  begun_by spare g0 gr g1 old new keys card dir kept = record {
    after = kept.after;
    has = kept.has;
    migrates = subst (λ (d : DirValue F). Migrates keys (record { files = numbered_files state spare d.file old; card = card }) (devices_at state spare g1 new kept.after)) dir kept.migrates;
  }

  ended_by : (spare : F) (g0 gr : GateValue F R) (old new : List F) (keys : Keys) (card : CardState) → gr.dir ≡ g0.dir → gr.host ≡ g0.host → KeepsGateMaps state port spare g0 g0 old new keys card
      → KeepsGateMaps state port spare g0 gr old new keys card
  ended_by spare g0 gr old new keys card dir host kept = record {
    after = kept.after;
    has = subst (λ (h : HostState R). HasCard (port h.port) h.key kept.after) (sym host) kept.has;
    migrates = subst (λ (d : DirValue F). Migrates keys (devices_at state spare g0 old card) (record { files = numbered_files state spare d.file new; card = kept.after })) (sym dir) kept.migrates;
  }

  module _ (sound : (f : F) → Sound (state f)) (g0 gr : GateValue F R) (old new : List F) (index file : ℕ) (e : DirEntry) (may : MayMove state port g0) (reserved : IsReserved g0 gr file)
      (at : entry_at g0.dir.dir.entries index ≡ Some e) where
    own : IsObjectFile e.file
    own = (form_at g0.dir.dir.entries may.settled.entries index e at).file

    to_object : IsObjectFile file
    to_object = (reserved.free.free.from, reserved.free.free.upto)

    apart : file ≢ e.file
    apart = reserved.free.free.unnamed index e at

    -- given up with the copy
    pub copy_migrates : CopiesBetweenFiles (object_files state old) (object_files state new) e.file file → MigratesGate state port g0 gr old new
    copy_migrates copies spare keys card tsk has =
        ended_by spare g0 gr old new keys card reserved.dir reserved.host
        (copy_ends state port sound spare keys card g0 old new e file may.settled may.format tsk has own to_object apart reserved.free.free.unnamed copies)

    -- A COMMIT
    module _ (g1 : GateValue F R) (end : CommitEnd) (drew draws : ℕ) (commit : IsCommit gr g1 (PutChange index (moved_entry e file current_format)) end drew draws)
        (copied : CopiesObject (object_files state old) (object_files state new) e file) where
      abbrev change : EntryChange
      change = PutChange index (moved_entry e file current_format)

      same : gate_sides state port gr ≡ gate_sides state port g0
      same = same_sides g0 gr file reserved

      throughout : Throughout (gate_sides state port g0) (gate_sides state port g1)
      throughout = subst (λ (s : Sides). Throughout s (gate_sides state port g1)) same commit.throughout

      steps : Steps (gate_sides state port g0) (gate_sides state port g1) change end
      steps = subst (λ (s : Sides). Steps s (gate_sides state port g1) change end) same commit.steps

      leaves : Leaves (gate_sides state port g0) (gate_sides state port g1) change end
      leaves = subst (λ (s : Sides). Leaves s (gate_sides state port g1) change end) same commit.leaves

      told_from : IsTrue (object_files state new e.file).honest → Told (object_files state old e.file) (object_files state new e.file)
      told_from honest = ((objects_sound state sound new e.file).told honest, inl honest)

      pub move_migrates : MigratesGate state port g0 g1 old new
      move_migrates spare keys card tsk has =
          object_migrates state port sound spare keys card g0 old new e file may.settled may.format tsk has own to_object apart reserved.free.free.unnamed copied.between g1 index end at copied.settled
          (λ from to. copied.opens (told_from from) (inl to)) throughout steps

      card_then : (end : CommitEnd) → Steps (gate_sides state port g0) (gate_sides state port g1) change end → HadCard (port g0.host.port) g0.host.key → HadCard (port g1.host.port) g1.host.key
      card_then (Made n) s had = let seal = s.1 had.0 had.1 in (seal.next, seal.has)
      card_then (Dropped cause) s had = (had.0, s.1 had.0 had.1)
      card_then (Doubtful n cause) s had = elim (s.2 had.0 had.1) [
        | inl still ↦ (had.0, still)
        | inr seal ↦ (seal.next, seal.has)
      ]
      card_then SpentEnd s had = (had.0, subst (λ (x : Sides). HasCard x.port x.key had.0) (sym s) had.1)

      tsk_then : (end : CommitEnd) → Leaves (gate_sides state port g0) (gate_sides state port g1) change end → g1.dir.dir.tsk ≡ g0.dir.dir.tsk
      tsk_then (Made n) l = l.tsk
      tsk_then (Dropped cause) l = ap (λ d. d.tsk) l.same
      tsk_then (Doubtful n cause) l = ap (λ d. d.tsk) l.same
      tsk_then SpentEnd l = ap (λ (s : Sides). s.dir.tsk) l.same

      pub move_goes_on : GateGoesOn state port g0 g1 old new
      move_goes_on = record {
        tsk = tsk_then end leaves;
        key = throughout.key;
        dir = throughout.keeps.goes_on;
        files = copied_goes_on (object_files state old) (object_files state new) e.file file copied.between;
        card = card_then end steps;
      }

      -- it was made
      moved_here : (end : CommitEnd) → Leaves (gate_sides state port g0) (gate_sides state port g1) change end → g1.doubt ≡ doubt_left change end → LeavesHolds change end gr.holds g1.holds
          → end_fault end ≡ None → MovesObject state port g0 g1 index e
      moved_here (Made n) l doubt holds made = record {
        file = file;
        free = least_of_entries g0.dir.dir.entries g0.holds file may.unheld reserved.free;
        entries = l.entries;
        counted = l.counted ∙ l.number;
        may = record {
          idle = doubt;
          settled = l.settled;
          format = l.format ∙ may.format;
          unheld = λ session. holds session ∙ ap (λ (h : List (Option ℕ)). unless_file file (file_held h session)) reserved.holds ∙ none_behind g0.holds file session may.unheld;
        };
      }
      moved_here (Dropped cause) l doubt holds made = absurd (cc (made))
      moved_here (Doubtful n cause) l doubt holds made = absurd (cc (made))
      moved_here SpentEnd l doubt holds made = absurd (cc (made))

      pub moves_object : end_fault end ≡ None → MovesObject state port g0 g1 index e
      moves_object made = moved_here end leaves commit.doubt commit.holds made

      passed_here : (end : CommitEnd) → EndCounts (counts (state gr.dir.file) (port gr.host.port) drew) (counts (state g1.dir.file) (port g1.host.port) draws) end → end_fault end ≡ None
          → GatePassed state port g0 g1 old new × (draws ≡ drew)
      passed_here (Made n) rose made = (
        record {
          dir = subst (λ (d : DirValue F). FilePassed (state d.file) (state g1.dir.file)) reserved.dir rose.file;
          files = copied.passed;
          card = subst (λ (h : HostState R). (port h.port).faults ≤ (port g1.host.port).faults) reserved.host rose.card;
        },
        rose.draws,
      )
      passed_here (Dropped cause) rose made = absurd (cc (made))
      passed_here (Doubtful n cause) rose made = absurd (cc (made))
      passed_here SpentEnd rose made = absurd (cc (made))

      pub move_passed : end_fault end ≡ None → GatePassed state port g0 g1 old new × (draws ≡ drew)
      move_passed made = passed_here end commit.counted made

      -- it was not
      no_card : NoCard (port gr.host.port) gr.host.key gr.counter → NoCardOf (port g0.host.port) g0.host.key
      no_card none card has =
          none card (subst (λ (h : HostState R). HasCard (port h.port) h.key card) (sym reserved.host) has) ((may.settled.named card has).counted ∙ sym reserved.counter)

      abbrev before : Counted
      before = counts (state g0.dir.file) (port g0.host.port) drew

      abbrev after : Counted
      after = counts (state g1.dir.file) (port g1.host.port) draws

      abbrev files0 : ℕ → FileState
      files0 = object_files state old

      abbrev files1 : ℕ → FileState
      files1 = object_files state new

      same_counts : counts (state gr.dir.file) (port gr.host.port) drew ≡ before
      same_counts = λ i. counts (state (reserved.dir i).file) (port (reserved.host i).port) drew

      by_cause : (cause : Cause) → CauseStands gr.host.key gr.counter (counts (state gr.dir.file) (port gr.host.port) drew) after cause → ObjectNotMoved files0 files1 before after g0.host.key (cause_answer cause)
      by_cause (Fault Dir count) stands = subst (λ (d : DirValue F). FileFailed (state d.file) (state g1.dir.file) count) reserved.dir stands
      by_cause (Fault (File n) count) stands = absurd stands
      by_cause (Fault Card count) stands = (subst (λ (h : HostState R). Rose (port h.port).faults (port g1.host.port).faults) reserved.host stands.0, stands.1)
      by_cause (Fault Entropy count) stands = stands
      by_cause (FrameCause fault) stands = no_card stands
      by_cause (ResultCause result) stands = no_card stands

      refused_here : (end : CommitEnd) (fault : MountFault) → EndCause gr.host.key gr.counter (counts (state gr.dir.file) (port gr.host.port) drew) after end → end_fault end ≡ Some fault
          → ObjectNotMoved files0 files1 before after g0.host.key fault
      refused_here (Made n) fault cause is = absurd (cc (is))
      refused_here (Dropped why) fault cause is = let same : cause_answer why ≡ fault = cc (is) in subst (ObjectNotMoved files0 files1 before after g0.host.key) same (by_cause why cause)
      refused_here (Doubtful n why) fault cause is = let same : cause_answer why ≡ fault = cc (is) in subst (ObjectNotMoved files0 files1 before after g0.host.key) same (by_cause why cause.0)
      refused_here SpentEnd fault cause is = let same : Spent ≡ fault = cc (is) in subst (ObjectNotMoved files0 files1 before after g0.host.key) same tt

      pub move_refused : (fault : MountFault) → end_fault end ≡ Some fault → ObjectNotMoved files0 files1 before after g0.host.key fault
      move_refused fault is = refused_here end fault commit.cause is

-- HOW A COMMIT ENDED
not_by_cause : (cause : Cause) → cause_answer cause ≢ Spent
not_by_cause (Fault device count) is = absurd (cc (is))
not_by_cause (FrameCause fault) is = absurd (cc (is))
not_by_cause (ResultCause result) is = absurd (cc (is))

-- a commit that was tried is none that was spent
pub end_unspent : (end : CommitEnd) → end ≢ SpentEnd → end_fault end ≢ Some Spent
end_unspent (Made n) other is = absurd (cc (is))
end_unspent (Dropped cause) other is = let same : cause_answer cause ≡ Spent = cc (is) in not_by_cause cause same
end_unspent (Doubtful n cause) other is = let same : cause_answer cause ≡ Spent = cc (is) in not_by_cause cause same
end_unspent SpentEnd other is = other refl

answer_undrawn : (cause : Cause) → NotDrawn cause → RefusalNotDrawn (cause_answer cause)
answer_undrawn (Fault device count) none = none
answer_undrawn (FrameCause fault) none = tt
answer_undrawn (ResultCause result) none = tt

pub end_undrawn : (end : CommitEnd) (fault : MountFault) → EndNotDrawn end → end_fault end ≡ Some fault → RefusalNotDrawn fault
end_undrawn (Made n) fault none is = absurd (cc (is))
end_undrawn (Dropped cause) fault none is = let same : cause_answer cause ≡ fault = cc (is) in subst RefusalNotDrawn same (answer_undrawn cause none)
end_undrawn (Doubtful n cause) fault none is = let same : cause_answer cause ≡ fault = cc (is) in subst RefusalNotDrawn same (answer_undrawn cause none)
end_undrawn SpentEnd fault none is = let same : Spent ≡ fault = cc (is) in subst RefusalNotDrawn same tt

-- THE COPY WAS GIVEN UP
module _ (old new : ℕ → FileState) (e : DirEntry) (before after : Counted) (key : List ℕ) where
  pub copy_refused : (fault : MountFault) → ObjectNotCopied old new e fault → ObjectNotMoved old new before after key fault
  copy_refused (Failed (Fault (File file) count)) not = not.1
  copy_refused (Failed (Fault Dir count)) not = absurd not
  copy_refused (Failed (Fault Card count)) not = absurd not
  copy_refused (Failed (Fault Entropy count)) not = absurd not
  copy_refused (Failed (FrameCause fault)) not = absurd not
  copy_refused (Failed (ResultCause result)) not = absurd not
  copy_refused NoStore not = absurd not
  copy_refused (CardBlock byte) not = absurd not
  copy_refused (OldFormat file) not = absurd not
  copy_refused (Directory fault) not = absurd not
  copy_refused (Frame fault) not = absurd not
  copy_refused (CardResult result) not = absurd not
  copy_refused Spent not = absurd not
  copy_refused NoMemory not = absurd not

  pub copy_undrawn : (fault : MountFault) → ObjectNotCopied old new e fault → RefusalNotDrawn fault
  copy_undrawn (Failed (Fault (File file) count)) not = tt
  copy_undrawn (Failed (Fault Dir count)) not = tt
  copy_undrawn (Failed (Fault Card count)) not = tt
  copy_undrawn (Failed (Fault Entropy count)) not = absurd not
  copy_undrawn (Failed (FrameCause fault)) not = tt
  copy_undrawn (Failed (ResultCause result)) not = tt
  copy_undrawn NoStore not = tt
  copy_undrawn (CardBlock byte) not = tt
  copy_undrawn (OldFormat file) not = tt
  copy_undrawn (Directory fault) not = tt
  copy_undrawn (Frame fault) not = tt
  copy_undrawn (CardResult result) not = tt
  copy_undrawn Spent not = tt
  copy_undrawn NoMemory not = tt

  pub copy_unspent : (fault : MountFault) → ObjectNotCopied old new e fault → fault ≢ Spent
  copy_unspent fault not is = subst (ObjectNotCopied old new e) is not
