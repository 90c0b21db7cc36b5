-- The parts, each with its own fact, are one state of the core machine.
use Rattle.std.proofs.Common.{◌≡◌, ◌≢◌, ℕ, List, eqb, IsTrue, Option, Some, None, inl, inr, refl, sym, subst, eq-eqb, ne_eqb}
use Rattle.std.proofs.lemmas.Bool.{cases_eq, cond-false, cond-true}
use Rattle.disk_model.specs.State.{FileState, Sound}
use Rattle.node_image.specs.declared.node.RootRef.{RootRef}
use Rattle.tee_types.specs.Limits.{IsObjectFile, directory_file}
use Rattle.tee_types.proofs.FileNumbers.{object_not_directory}
use Rattle.store_model.specs.Object.{ObjectMap}
use Rattle.store_model.specs.ReplayState.{opening}
use Rattle.store_model.specs.Legal.{IsLegalFrom}
use Rattle.dir_records.specs.declared.entry.DirEntry.{DirEntry}
use Rattle.dir_records.specs.Form.{HasForm}
use Rattle.crash_core.specs.EntryChanges.{changed}
use Rattle.crash_core.specs.Mounting.{Held}
use Rattle.crash_core.specs.DeviceKeys.{directory_key}
use Rattle.crash_core.specs.Sights.{Shows, Stands}
use Rattle.crash_core.specs.CoreState.{IsTrusted, PendingCommit, Phase}
use Rattle.crash_core.specs.Holding.{DirectoryStands, Holds, PendingStands, SealedStands}
use Rattle.crash_core.proofs.Doubles.{directory_forms}
use Rattle.crash_core.proofs.Lists.{entry_held}
use Rattle.core_laws.specs.SlotParts.{SlotHolds, SlotPart}
use Rattle.core_laws.specs.GateParts.{GateDirectory, GatePart, GatePending, GateSealed, IsBacked, replay_of}
use Rattle.core_laws.specs.Joined.{Parts, PartsHold, core_of, files_of}
use Rattle.core_laws.proofs.Versions.{entry_is_known, version_shows}

-- the directory's file is the gate's
pub directory_is : (g : GatePart) (slots : ℕ → SlotPart) → files_of g slots directory_file ≡ g.directory
directory_is g slots = cond-true (eqb directory_file directory_file) g.directory (slots directory_file).file (eq-eqb directory_file directory_file refl)

-- any other file is that of its slot
pub file_is : (g : GatePart) (slots : ℕ → SlotPart) (file : ℕ) → file ≢ directory_file → files_of g slots file ≡ (slots file).file
file_is g slots file other = cond-false (eqb file directory_file) g.directory (slots file).file (ne_eqb file directory_file other)

-- what holds of the directory's file, and of each slot's, holds of each file
pub each_file : (g : GatePart) (slots : ℕ → SlotPart) (P : ℕ → FileState → Type 0) → P directory_file g.directory → ((file : ℕ) → file ≢ directory_file → P file (slots file).file) → (file : ℕ) → P file (files_of g slots file)
each_file g slots P first others file = elim (cases_eq file directory_file) [
  | inl is ↦ subst (λ (n : ℕ). P n (files_of g slots n)) (sym is) (subst (P directory_file) (sym (directory_is g slots)) first)
  | inr other ↦ subst (P file) (sym (file_is g slots file other)) (others file other)
]

module _ (phase : Phase) (p : Parts) (h : PartsHold phase p) where
  -- an entry of an object file that the gate backs shows its object in the slot's file
  backed_shows : (x : Held) → IsTrusted phase x.entry.file → IsObjectFile x.entry.file → IsBacked p.gate.view p.gate.putting x
      → Shows phase.keys (p.slots x.entry.file).file x.entry x.object
  backed_shows x trusted of_object (inl known) =
      let file : ℕ = x.entry.file in
      let other = object_not_directory file of_object.0 of_object.1 in
      let slot : SlotHolds phase.keys (p.slots file) = h.slots file other in
      let honest : IsTrue (p.slots file).file.honest = subst (λ (s : FileState). IsTrue s.honest) (file_is p.gate p.slots file other) (h.honest file trusted) in
      let knows = entry_is_known p.gate.view (p.slots file).view x.entry known.0 (h.fit.fits file of_object) (h.fit.numbered file other) known.1 in
      version_shows phase.keys (p.slots file).file x known.0 slot.sound (slot.stands honest known.0 knows) known.2 known.3
  backed_shows x trusted of_object (inr putting) = h.fit.putting x putting trusted

  directory_stands : (dir : RootRef) (entries : List (Option DirEntry)) (objects : ObjectMap) → IsTrusted phase directory_file
      → GateDirectory phase p.gate.directory p.gate.view p.gate.putting dir entries objects → DirectoryStands phase (files_of p.gate p.slots) dir entries objects
  directory_stands dir entries objects trusted d =
      let own = d.own trusted in
      record {
        sight = own.sight;
        own = subst (λ (s : FileState). Stands s (directory_key phase.keys) dir own.sight) (sym (directory_is p.gate p.slots)) own.stands;
        reads = own.reads;
        held = d.held;
        holds = d.holds;
        each = λ index x at trusted_file.
            let form : HasForm x.entry = directory_forms entries own.sight.opened own.reads index x.entry (entry_held d.held entries index x d.holds at) in
            subst (λ (s : FileState). Shows phase.keys s x.entry x.object) (sym (file_is p.gate p.slots x.entry.file (object_not_directory x.entry.file form.file.0 form.file.1)))
            (backed_shows x trusted_file form.file (d.each index x at trusted_file));
        map_is = d.map_is trusted;
      }

  sealed_stands : (commit : PendingCommit) (sealed : Option RootRef) → GateSealed phase p.gate commit sealed
      → SealedStands phase (files_of p.gate p.slots) p.gate.card p.gate.root p.gate.entries (replay_of phase p.gate.view) commit sealed
  sealed_stands commit None names = names
  sealed_stands commit (Some dir) seal = (seal.names, λ trusted. directory_stands dir (changed p.gate.entries commit.change) _ trusted seal.directory)

  pub pending_stands : (pending : Option PendingCommit) → GatePending phase p.gate pending
      → PendingStands phase (files_of p.gate p.slots) p.gate.card p.gate.root p.gate.entries (replay_of phase p.gate.view) pending
  pending_stands None names = names
  pending_stands (Some commit) stands = sealed_stands commit commit.sealed stands

  pub committed_stands : IsTrusted phase directory_file → DirectoryStands phase (files_of p.gate p.slots) p.gate.root p.gate.entries ((replay_of phase p.gate.view).state).objects
  committed_stands trusted = directory_stands p.gate.root p.gate.entries _ trusted h.gate.committed

  -- The parts are a state of the core machine.
  pub parts_hold : IsLegalFrom phase.tampered (opening phase.begins) p.gate.view.all → Holds phase (core_of p.gate p.slots)
  parts_hold legal = record {
    sound = each_file p.gate p.slots (λ n s. Sound s) h.gate.sound (λ n other. (h.slots n other).sound);
    honest = h.honest;
    legal = legal;
    committed = committed_stands;
    pending = pending_stands p.gate.pending h.gate.pending;
    taken = h.gate.taken;
  }
