-- Between two calls the gate's part has its fact, and is at rest.
use Rattle.std.proofs.Common.{◌≡◌, ◌⊎◌, ℕ, ◌+◌, ◌<◌, List, [], get_or, inl, inr, IsTrue, Option, Some, None, refl, sym, ap, ◌∙◌, subst, arith}
use Rattle.std.specs.Prelude.{◌==◌, unwrap_or}
use Rattle.std.specs.Option.{option_map}
use Rattle.std.proofs.lemmas.Bool.{cond-true, cond-false, eq-eqb, ne_eqb}
use Rattle.node_image.specs.References.{IsCurrent}
use Rattle.node_image.specs.declared.node.RootRef.{RootRef}
use Rattle.tee_types.specs.Limits.{directory_file}
use Rattle.rpmb_card.specs.Card.{CardState}
use Rattle.htree_file.specs.Opening.{Loaded}
use Rattle.store_model.specs.Doubt.{Doubt}
use Rattle.store_model.specs.ReplayState.{ReplayState, replay_landed}
use Rattle.store_model.proofs.CloseCommits.{rising-after}
use Rattle.dir_records.specs.declared.entry.DirEntry.{DirEntry}
use Rattle.history_seats.specs.Records.{Version}
use Rattle.history_seats.specs.Mounts.{Mounted}
use Rattle.history_seats.specs.Settling.{IsOpenDoubt, as_landed}
use Rattle.history_seats.specs.Directory.{given_version}
use Rattle.history_seats.specs.Known.{version_from}
use Rattle.history_seats.specs.Views.{GateView, no_mount}
use Rattle.crash_core.specs.CardBlock.{root_in}
use Rattle.crash_core.specs.Entries.{first_double}
use Rattle.crash_core.specs.EntryLists.{AreDistinct, IsUnnamed}
use Rattle.crash_core.specs.EntryChanges.{changed, index_of}
use Rattle.crash_core.specs.CoreState.{IsTrusted, PendingCommit}
use Rattle.crash_core.specs.Holding.{CardNames}
use Rattle.crash_core.proofs.Doubles.{names_distinct}
use Rattle.core_laws.specs.GateParts.{DirectoryReads, GateDirectory, GateHolds, GatePart, GateSealed, KnowsEntry, mount_of, replay_of}
use Rattle.core_laws.specs.Finished.{IsAtRest}
use Rattle.store_commit.specs.EntryForms.{AreEntriesOf}
use Rattle.store_commit.specs.Held.{IsDurable}
use Rattle.store_commit.specs.View.{StagedDirectory}
use Rattle.core_laws.specs.TamperScenarios.{TamperScenario}
use Rattle.core_laws.specs.Mapped.{landed_version}
use Rattle.core_laws.specs.Stores.{Store, entries_at, replay_at}
use Rattle.core_laws.proofs.Mending.{none_some, some_same}
use Rattle.crash_core.specs.declared.change.DoubtedChange.{DoubtedChange}
use Rattle.store_commit.specs.Changes.{FitsIn}
use Rattle.store_commit.specs.Gates.{IsDoubtOf}
use Rattle.store_commit.specs.Holds.{AreHolds}
use Rattle.store_commit.specs.Sides.{IsSettled, Names, Sides}
use Rattle.crash_core.specs.declared.change.EntryChange.{EntryChange as Change}
use Rattle.crash_core.specs.declared.change.EntryChange.TheVariants.{Put, Clear}
use Rattle.commit_gate.specs.FinishedPhases.{phase_under}
use Rattle.commit_gate.specs.CoreGates.{IsCardOf, gate_part, pending_of, sealed_in, takes_of}
use Rattle.commit_gate.specs.Readings.{IsDoubtRead, IsTiedUnder}
use Rattle.commit_gate.specs.Resting.{IsGateOf, IsResting, RestingGatesHold, resting_part}
use Rattle.commit_gate.proofs.HeldDirectories.{held_reads}
use Rattle.commit_gate.proofs.Holders.{holder_holds}
use Rattle.commit_gate.proofs.LandedEntries.{landed_is_known}
use Rattle.commit_gate.proofs.ReadDirectories.{reading_stands}

-- entries of a directory have distinct names
pub entries_distinct : (entries : List (Option DirEntry)) → AreEntriesOf entries → AreDistinct entries
entries_distinct entries are = names_distinct entries (ap (λ (n : ℕ). first_double entries 0 n) are.whole ∙ are.apart)

-- what the card names whose register alone differs
pub card_names : (g : Sides) (card : CardState) (is : IsCardOf g card) (root : RootRef) (counter : ℕ) → Names is.own root counter → CardNames card root counter
card_names g card is root counter names = record {
  names = ap (λ (blocks : List (List ℕ)). root_in (get_or blocks 0 [])) (is.same).blocks ∙ names.block;
  counted = (is.same).counter ∙ names.counted;
}

-- no entry names a file that is taken
pub taken_unnamed : (entries : List (Option DirEntry)) (holds : List (Option ℕ)) → AreHolds entries holds → (file actor : ℕ) → takes_of holds file ≡ Some actor → IsUnnamed entries file
taken_unnamed entries holds are file actor is = let at = holder_holds holds 0 file actor is in are.unnamed at.0 file at.2

module _ (store : Store) (scenario : TamperScenario) (g : Sides) (view : GateView) (mounted : view.mounted ≡ Some store.mounted) where
  abbrev s : ReplayState
  s = replay_at store scenario view.all

  mount_is : mount_of view ≡ store.mounted
  mount_is = ap (λ (o : Option Mounted). unwrap_or o no_mount) mounted

  pub given_known : (e : DirEntry) (v : Version) → given_version store.mounted view.all e.file e.generation ≡ Some v → KnowsEntry view e v
  given_known e v given = inl (subst (λ (m : Mounted). given_version m view.all e.file e.generation ≡ Some v) (sym mount_is) given)

  pub landed_known : (number : ℕ) → IsOpenDoubt number view.decided view.all → (e : DirEntry) (v : Version) → landed_version store.mounted view.all e.file e.generation ≡ Some v → KnowsEntry view e v
  landed_known number late e v given =
      subst (λ (m : Mounted). (given_version m view.all e.file e.generation ≡ Some v) ⊎ ((version_from view.decided e.file e.generation m view.all).if_landed ≡ Some (Some v))) (sym mount_is)
      (landed_is_known store.mounted view.all number view.decided late e.file e.generation v given)

  -- the committed directory stands for the gate
  committed_stands : (doubt : Option DoubtedChange) → IsTiedUnder store scenario view g.dir.entries g.counter doubt → AreEntriesOf g.dir.entries
      → (IsTrusted (phase_under store scenario) directory_file → DirectoryReads store.keys g.file g.dir.root g.dir.entries)
      → GateDirectory (phase_under store scenario) g.file view None g.dir.root g.dir.entries ((replay_of (phase_under store scenario) view).state).objects
  committed_stands doubt tied are own =
      reading_stands store scenario g.dir.entries (entries_at store view.all).now (given_version store.mounted view.all) s tied.now (entries_distinct g.dir.entries are) tied.rising
      view (λ index e v stood given. given_known e v given) g.file g.dir.root own

-- a change that fits changes one of the entries
pub change_within : (entries : List (Option DirEntry)) (change : Change) → FitsIn entries change → index_of change < 256
change_within entries (Put index e) fits = fits.below
change_within entries (Clear index) fits = fits

module _ (store : Store) (scenario : TamperScenario) (g : Sides) (doubt : Option DoubtedChange) (holds : List (Option ℕ)) (card : CardState) (view : GateView)
    (gate : IsGateOf store g doubt holds card) (tied : IsTiedUnder store scenario view g.dir.entries g.counter doubt)
    (honest : IsTrusted (phase_under store scenario) directory_file → IsTrue g.file.honest) where
  abbrev at_now : ReplayState
  at_now = replay_at store scenario view.all

  -- a directory that is held reads as its entries
  own_reads : (root : RootRef) (tree : Loaded) (entries : List (Option DirEntry)) → IsCurrent root → (IsTrue g.file.honest → IsDurable g.file g.dir.tsk root tree entries)
      → IsTrusted (phase_under store scenario) directory_file → DirectoryReads store.keys g.file root entries
  own_reads root tree entries current held trusted =
      held_reads store.keys g.file root tree entries gate.sound current (subst (λ (key : List ℕ). IsDurable g.file key root tree entries) gate.tsk (held (honest trusted)))

  names_now : (root : RootRef) (more counter : ℕ) → at_now.counter ≡ counter → Names (gate.told).own root (counter + more) → CardNames card root (at_now.counter + more)
  names_now root more counter is names = card_names g card gate.told root (at_now.counter + more) (subst (λ (n : ℕ). Names (gate.told).own root (n + more)) (sym is) names)

  names_still : (root : RootRef) (counter : ℕ) → at_now.counter ≡ counter → Names (gate.told).own root counter → CardNames card root at_now.counter
  names_still root counter is names = card_names g card gate.told root at_now.counter (subst (Names (gate.told).own root) (sym is) names)

  settled_rests : IsSettled g → IsResting (phase_under store scenario) (resting_part store scenario g None holds card view)
  settled_rests settled = record {
    fact = record {
      sound = gate.sound;
      committed = committed_stands store scenario g view tied.mounted doubt tied settled.entries (own_reads g.dir.root g.dir.tree g.dir.entries (settled.form.version, gate.current) settled.held);
      pending = names_still g.dir.root g.counter tied.counted (settled.named (gate.told).own (gate.told).has);
      taken = taken_unnamed g.dir.entries holds gate.held;
    };
    at_rest = λ p is. absurd (none_some p is);
  }

  module _ (d : DoubtedChange) (of : IsDoubtOf g d) (read : IsDoubtRead store scenario view g.dir.entries d) where
    abbrev part_with : Option Doubt → Option RootRef → GatePart
    part_with o sealed = gate_part g card (takes_of holds) (pending_of (Some d) o sealed) None view

    abbrev commit_with : Option RootRef → PendingCommit
    commit_with sealed = record { session = (read.doubt).session; call = (read.doubt).call; change = d.change; sealed = sealed }

    doubted_rests : (o : Option Doubt) → at_now.doubt ≡ o → o ≡ Some read.doubt → (sealed : Option RootRef) → IsAtRest (phase_under store scenario) (part_with o sealed)
    doubted_rests o is_open same sealed p is =
        let commit : commit_with sealed ≡ p =
        some_same (commit_with sealed) p (sym (ap (λ (x : Option Doubt). pending_of (Some d) x sealed) same) ∙ is) in
        record {
          doubt = read.doubt;
          is_open = read.is_open;
          session = ap (λ (x : PendingCommit). x.session) (sym commit);
          call = ap (λ (x : PendingCommit). x.call) (sym commit);
        }

    landed_stands : GateDirectory (phase_under store scenario) g.file view None (of.next).root (changed g.dir.entries d.change) ((replay_landed at_now (Some read.doubt)).state).objects
    landed_stands =
        let stands = of.stands in
        let after : AreEntriesOf (changed g.dir.entries d.change) = subst AreEntriesOf of.entries stands.next_entries in
        reading_stands store scenario (changed g.dir.entries d.change) (as_landed (entries_at store view.all)).now (landed_version store.mounted view.all) (replay_landed at_now (Some read.doubt))
        read.landed (entries_distinct (changed g.dir.entries d.change) after) (rising-after at_now.state (read.doubt).session (read.doubt).call tied.rising)
        view (λ index e v stood given. landed_known store scenario g view tied.mounted d.number read.late e v given) g.file (of.next).root
        (λ trusted. subst (DirectoryReads store.keys g.file (of.next).root) of.entries
        (own_reads (of.next).root (of.next).tree (of.next).entries (stands.next_form.version, stands.same_format ∙ gate.current) stands.next_held trusted))

    holds_with : (sealed : Option RootRef) → GateSealed (phase_under store scenario) (part_with (Some read.doubt) sealed) (commit_with sealed) sealed → GateHolds (phase_under store scenario) (part_with (Some read.doubt) sealed)
    holds_with sealed names = record {
      sound = gate.sound;
      committed = committed_stands store scenario g view tied.mounted doubt tied (of.stands).entries (own_reads g.dir.root g.dir.tree g.dir.entries ((of.stands).form.version, gate.current) (of.stands).held);
      pending = names;
      taken = taken_unnamed g.dir.entries holds gate.held;
    }

    rests_with : (sealed : Option RootRef) → GateSealed (phase_under store scenario) (part_with (Some read.doubt) sealed) (commit_with sealed) sealed → IsResting (phase_under store scenario) (part_with at_now.doubt sealed)
    rests_with sealed names = record {
      fact = subst (λ (o : Option Doubt). GateHolds (phase_under store scenario) (part_with o sealed)) (sym read.is_open) (holds_with sealed names);
      at_rest = doubted_rests at_now.doubt refl read.is_open sealed;
    }

    -- the card's counter tells which directory the card names
    unsealed : Names (gate.told).own g.dir.root g.counter → sealed_in g card ≡ None
    unsealed names =
        cond-true (card.counter == g.counter) None (option_map (λ (next : StagedDirectory). next.root) g.dir.stage)
        (eq-eqb card.counter g.counter ((gate.told).same.counter ∙ names.counted))

    is_sealed : Names (gate.told).own (of.next).root (g.counter + 1) → sealed_in g card ≡ Some (of.next).root
    is_sealed names =
        cond-false (card.counter == g.counter) None (option_map (λ (next : StagedDirectory). next.root) g.dir.stage)
        (ne_eqb card.counter g.counter (λ same. let more : card.counter ≡ g.counter + 1 = (gate.told).same.counter ∙ names.counted in omega (arith, same, more)))
        ∙ ap (option_map (λ (next : StagedDirectory). next.root)) (of.stands).is_open

    doubt_rests : IsResting (phase_under store scenario) (resting_part store scenario g (Some d) holds card view)
    doubt_rests = elim ((of.stands).named (gate.told).own (gate.told).has) [
      | inl old ↦
          subst (λ (x : Option RootRef). IsResting (phase_under store scenario) (part_with at_now.doubt x)) (sym (unsealed old))
          (rests_with None (names_still g.dir.root g.counter tied.counted old))
      | inr new ↦ subst (λ (x : Option RootRef). IsResting (phase_under store scenario) (part_with at_now.doubt x)) (sym (is_sealed new)) (rests_with (Some (of.next).root) (record {
        names = names_now (of.next).root 1 g.counter tied.counted new;
        place = subst (λ (n : ℕ). index_of d.change < n) (sym ((of.stands).entries).whole) (change_within g.dir.entries d.change of.fits);
        directory = landed_stands;
      }))
    ]

-- Each gate that is tied to its history rests.
pub resting_gates_hold : RestingGatesHold
resting_gates_hold store scenario g None holds card view gate tied honest = settled_rests store scenario g None holds card view gate tied honest gate.stands
resting_gates_hold store scenario g (Some d) holds card view gate tied honest = doubt_rests store scenario g (Some d) holds card view gate tied honest d gate.stands tied.doubts
