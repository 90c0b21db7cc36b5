-- The gate's fact amid a commit.
use Rattle.std.proofs.Common.{◌≡◌, ◌+◌, ℕ, List, [], ◌∷◌, inl, inr, IsTrue, Option, Some, None, Ok, sym, ap, ◌∙◌, subst, arith}
use Rattle.disk_model.specs.State.{FileState, Sound}
use Rattle.disk_model.specs.Keeps.{CallOff, FileCall, IsFileRun, write, sync, rest}
use Rattle.disk_model.proofs.ImageLaws.{reads_left}
use Rattle.node_image.specs.declared.node.RootRef.{RootRef}
use Rattle.htree_file.specs.Opening.{Loaded, load_of}
use Rattle.htree_file.specs.Selected.{Lies}
use Rattle.tee_types.specs.Limits.{directory_file}
use Rattle.store_model.specs.Object.{Object, ObjectMap}
use Rattle.store_model.specs.Calls.{state_after}
use Rattle.store_model.proofs.MadeChanges.{commits_make_changes}
use Rattle.history_seats.specs.Views.{GateView}
use Rattle.crash_core.specs.CardBlock.{root_block, root_in}
use Rattle.crash_core.specs.DeviceKeys.{directory_key}
use Rattle.crash_core.specs.declared.change.EntryChange.{EntryChange}
use Rattle.crash_core.specs.declared.change.EntryChange.TheVariants.{Clear, Put}
use Rattle.crash_core.specs.EntryChanges.{changed}
use Rattle.crash_core.specs.Mounting.{Held, map_of}
use Rattle.crash_core.specs.Sights.{Sight, Stands, sight_of}
use Rattle.crash_core.specs.CoreState.{IsTrusted, PendingCommit, Phase}
use Rattle.crash_core.specs.Holding.{CardNames, held_at}
use Rattle.crash_core.specs.Seals.{sealed_card}
use Rattle.crash_core.proofs.CardBlocks.{root_in-block}
use Rattle.crash_core.proofs.ChangedMaps.{change_enters, made_leaves}
use Rattle.crash_core.proofs.Doubles.{directory_distinct}
use Rattle.crash_core.proofs.Lists.{changed_held, entries_changed, set_at}
use Rattle.crash_core.proofs.SameDirectory.{directory_seen}
use Rattle.crash_core.proofs.Sightings.{CallMisses, call_stands, settled_stands}
use Rattle.core_laws.specs.GateLaws.{MaySeal}
use Rattle.core_laws.specs.GateParts.{DirectoryReads, GateDirectory, GateHolds, GatePart, GatePending, GateSealed, IsBacked, replay_of}
use Rattle.core_laws.specs.GateSteps.{Handed}
use Rattle.core_laws.proofs.DirectoryRuns.{file_run_honest, file_run_sound}
use Rattle.core_laws.proofs.Mending.{none_some}
use Rattle.commit_gate.specs.CommitFacts.{DirectoryRunsKeep, IsUnsealed, SealsKeep, held_put}
use Rattle.commit_gate.proofs.CommitSteps.{first_set}

-- a call that writes at no place of a tree misses it
call_misses : (s : FileState) (root : RootRef) (tree : Loaded) (call : FileCall) → load_of s.reads root ≡ Ok tree → CallOff (Lies tree.layout tree.nodes root.version) call → CallMisses call s.reads root
call_misses s root tree (write from upto) loads off = record {
  tree = tree;
  loads = loads;
  off = λ place ge lt at. elim (off place at) [
    | inl before ↦ omega (arith, before, ge)
    | inr past ↦ omega (arith, past, lt)
  ];
}
call_misses s root tree sync loads off = tt
call_misses s root tree rest loads off = tt

-- what stands, and loads the tree, stands after calls that write beside it
run_stands : (key : List ℕ) (root : RootRef) (tree : Loaded) (what : Sight) → what.loads ≡ Ok tree → (old : FileState) (calls : List FileCall) (new : FileState)
    → IsFileRun (Lies tree.layout tree.nodes root.version) old calls new → Sound new → IsTrue new.honest → Stands old key root what → Stands new key root what
run_stands key root tree what loads old [] new run sound honest stands = subst (λ (s : FileState). Stands s key root what) (sym run) stands
run_stands key root tree what loads old (call ∷ calls) new run sound honest stands =
    let mid : FileState = run.0 in
    let whole : Sound mid = file_run_sound (Lies tree.layout tree.nodes root.version) mid calls new run.4 sound in
    let fine : IsTrue mid.honest = file_run_honest (Lies tree.layout tree.nodes root.version) mid calls new run.4 honest in
    let here : load_of old.reads root ≡ Ok tree = ap (λ (x : Sight). x.loads) (stands.alike old.reads (reads_left old run.1)) ∙ loads in
    run_stands key root tree what loads mid calls new run.4 sound honest
    (call_stands call old mid key root what run.1 whole fine run.2 (call_misses old root tree call here run.3) stands)

-- a card names the committed directory while no commit is sealed
unsealed_names : (phase : Phase) (g : GatePart) (p : PendingCommit) (sealed : Option RootRef) → sealed ≡ None → GateSealed phase g p sealed → CardNames g.card g.root (replay_of phase g.view).counter
unsealed_names phase g p None none names = names
unsealed_names phase g p (Some dir) none names = absurd (none_some dir (sym none))

names_pending : (phase : Phase) (g : GatePart) (o : Option PendingCommit) → IsUnsealed o → GatePending phase g o → CardNames g.card g.root (replay_of phase g.view).counter
names_pending phase g None unsealed names = names
names_pending phase g (Some p) unsealed stands = unsealed_names phase g p p.sealed unsealed stands

sealed_from : (phase : Phase) (g : GatePart) (p : PendingCommit) (sealed : Option RootRef) → sealed ≡ None → CardNames g.card g.root (replay_of phase g.view).counter → GateSealed phase g p sealed
sealed_from phase g p None none names = names
sealed_from phase g p (Some dir) none names = absurd (none_some dir (sym none))

pending_from : (phase : Phase) (g : GatePart) (o : Option PendingCommit) → IsUnsealed o → CardNames g.card g.root (replay_of phase g.view).counter → GatePending phase g o
pending_from phase g None unsealed names = names
pending_from phase g (Some p) unsealed names = sealed_from phase g p p.sealed unsealed names

pub directory_runs_keep : DirectoryRunsKeep
directory_runs_keep phase g tree new after h unsealed still firm runs sound honest = record {
  sound = sound;
  committed = record {
    own = λ trusted.
        let own : DirectoryReads phase.keys g.directory g.root g.entries = h.committed.own trusted in
        let loads : own.sight.loads ≡ Ok tree =
        sym (ap (λ (x : Sight). x.loads) (own.stands.alike g.directory.reads (reads_left g.directory h.sound))) ∙ (firm trusted g.directory.reads (reads_left g.directory h.sound)).opens in
        record {
          sight = own.sight;
          stands = run_stands (directory_key phase.keys) g.root tree own.sight loads g.directory runs.calls new runs.run sound (honest trusted) own.stands;
          reads = own.reads;
        };
    held = h.committed.held;
    holds = h.committed.holds;
    each = h.committed.each;
    map_is = h.committed.map_is;
  };
  pending = pending_from phase (record g { directory = new; pending = after }) after still (names_pending phase g g.pending unsealed h.pending);
  taken = h.taken;
}

module _ (phase : Phase) (view : GateView) where
  -- what is held after the change is backed as before, or put by the commit under way
  each_backed : (held : List (Option Held)) (change : EntryChange) (object : Object)
      → ((index : ℕ) (x : Held) → held_at held index ≡ Some x → IsTrusted phase x.entry.file → IsBacked view None x)
      → (index : ℕ) (x : Held) → held_at (changed_held held change object) index ≡ Some x → IsTrusted phase x.entry.file → IsBacked view (held_put change object) x
  each_backed held (Put k e) object each index x at trusted = elim (set_at held k index (Some (record { entry = e; object = object })) x at) [
    | inl new ↦ inr new
    | inr old ↦ elim (each index x old trusted) [ inl known ↦ inl known | inr puts ↦ absurd (none_some x puts) ]
  ]
  each_backed held (Clear k) object each index x at trusted = elim (set_at held k index None x at) [
    | inl new ↦ absurd (none_some x new)
    | inr old ↦ each index x old trusted
  ]

  any_backed : (putting : Option Held) (x : Held) → IsBacked view None x → IsBacked view putting x
  any_backed putting x (inl known) = inl known
  any_backed putting x (inr puts) = absurd (none_some x puts)

module _ (phase : Phase) (handed : Option Handed) (g : GatePart) (p : PendingCommit) (dir : RootRef) (may : MaySeal phase handed g p dir) (h : GateHolds phase g)
    (is : g.pending ≡ Some p) (none : p.sealed ≡ None) (idle : g.putting ≡ None) (honest : IsTrusted phase directory_file → IsTrue g.directory.honest) where
  abbrev objects : ObjectMap
  objects = ((replay_of phase g.view).state).objects

  abbrev d : GateDirectory phase g.directory g.view g.putting g.root g.entries objects
  d = h.committed

  each_idle : (index : ℕ) (x : Held) → held_at d.held index ≡ Some x → IsTrusted phase x.entry.file → IsBacked g.view None x
  each_idle index x at trusted = subst (λ (o : Option Held). IsBacked g.view o x) idle (d.each index x at trusted)

  names : CardNames g.card g.root (replay_of phase g.view).counter
  names = names_pending phase g (Some p) none (subst (GatePending phase g) is h.pending)

  sealed_names : CardNames (sealed_card g.card dir) dir ((replay_of phase g.view).counter + 1)
  sealed_names = record {
    names = ap root_in (first_set g.card.blocks (root_block dir) g.root names.names) ∙ root_in-block dir may.form;
    counted = ap (λ (n : ℕ). n + 1) names.counted;
  }

  sealed_reads : IsTrusted phase directory_file → DirectoryReads phase.keys g.directory dir (changed g.entries p.change)
  sealed_reads trusted = record {
    sight = sight_of (directory_key phase.keys) g.directory.reads dir;
    stands = settled_stands g.directory (directory_key phase.keys) dir h.sound (honest trusted) (may.settled trusted) (may.form.version, may.current);
    reads = directory_seen (directory_key phase.keys) g.directory.reads dir (changed g.entries p.change) (may.holds trusted);
  }

  sealed_map : IsTrusted phase directory_file → map_of (changed_held d.held p.change may.object) ≡ (state_after (replay_of phase g.view).state p.session p.call).objects
  sealed_map trusted =
      let own : DirectoryReads phase.keys g.directory g.root g.entries = d.own trusted in
      let next : DirectoryReads phase.keys g.directory dir (changed g.entries p.change) = sealed_reads trusted in
      change_enters objects g.entries d.held d.holds (d.map_is trusted) (directory_distinct g.entries own.sight.opened own.reads) g.card.counter may.made p.change may.object may.change
      (directory_distinct (changed g.entries p.change) next.sight.opened next.reads)
      ∙ sym (made_leaves (replay_of phase g.view).state p.session commits_make_changes p.call may.made may.due may.makes)

  sealed_holds : GateHolds phase (record g { card = sealed_card g.card dir; pending = Some (record p { sealed = Some dir }); putting = held_put p.change may.object })
  sealed_holds = record {
    sound = h.sound;
    committed = record {
      own = d.own;
      held = d.held;
      holds = d.holds;
      each = λ index x at trusted. any_backed phase g.view (held_put p.change may.object) x (each_idle index x at trusted);
      map_is = d.map_is;
    };
    pending = record {
      names = sealed_names;
      place = may.change.place;
      directory = record {
        own = sealed_reads;
        held = changed_held d.held p.change may.object;
        holds = entries_changed d.held g.entries p.change may.object d.holds;
        each = each_backed phase g.view d.held p.change may.object each_idle;
        map_is = sealed_map;
      };
    };
    taken = h.taken;
  }

pub seals_keep : SealsKeep
seals_keep phase handed g p dir may h is none idle honest = sealed_holds phase handed g p dir may h is none idle honest
