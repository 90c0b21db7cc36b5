-- What holds of a slot's object after calls of its file.
use Rattle.std.proofs.Common.{◌≡◌, ◌∙◌, ◌⊎◌, ◌==◌, ℕ, ◌<◌, ◌≤◌, List, [], ◌∷◌, Option, Ok, IsTrue, inl, inr, refl, sym, ap, subst, arith}
use Rattle.disk_model.specs.State.{FileState, Sound as SoundFile}
use Rattle.disk_model.specs.Calls.{GoesOn, Rests}
use Rattle.disk_model.proofs.Seen.{runs_one}
use Rattle.disk_model.specs.Arms.{Taint}
use Rattle.disk_model.specs.Keeps.{CallOff, FileCall, IsFileRun, Runs, write, sync, rest}
use Rattle.disk_model.proofs.ImageLaws.{reads_left}
use Rattle.hmac_keys.specs.declared.Keys.{Keys}
use Rattle.htree_file.specs.Opening.{Loaded}
use Rattle.htree_file.specs.Selected.{Lies}
use Rattle.store_model.specs.Object.{Contents, Sound}
use Rattle.object_file.proofs.Sightings.{CallMisses}
use Rattle.history_seats.specs.Records.{Version}
use Rattle.core_laws.specs.Masked.{IsMaskedOf, told_taints}
use Rattle.core_laws.specs.SlotParts.{VersionStands}
use Rattle.core_laws.proofs.MaskedBytes.{runs_go_on, stands_later, told_stays}
use Rattle.object_slots.proofs.MaskedObjects.{object_runs}
use Rattle.core_laws.proofs.SlotRuns.{call_honest, version_stays}
use Rattle.object_file.specs.Held.{held_in}
use Rattle.object_slots.specs.SlotValues.{HeldObject}
use Rattle.object_slots.specs.SlotVersions.{HasVersion}
use Rattle.object_slots.proofs.VersionLaws.{versions_are_held}
use Rattle.object_slots.specs.SlotObjects.{IsObjectOf}

-- the object is of its version, with what it holds
pub has_version : (keys : Keys) (s : FileState) (o : HeldObject) (v : Version) → IsObjectOf keys s o v → IsTrue s.honest → HasVersion keys o v (held_in o s.reads)
has_version keys s o v is honest = record {
  root = is.root;
  loads = is.loads honest;
  key = is.key;
  size = is.size;
  attributes = is.attributes;
  object = is.object honest;
  own = refl;
}

-- While its version stands, the object holds what it held.
pub object_stays : (keys : Keys) (old new : FileState) (o : HeldObject) (v : Version) → SoundFile new → Runs (Lies o.tree.tree.layout o.tree.tree.nodes o.tree.root.version) old new
    → (IsTrue new.honest → VersionStands keys new v)
    → IsObjectOf keys old o v → IsObjectOf keys new o v
object_stays keys old new o v sound runs stands is = record {
  real = is.real;
  root = is.root;
  key = is.key;
  size = is.size;
  long = is.long;
  attributes = is.attributes;
  verified = is.verified;
  front = is.front;
  stands = stands;
  loads = λ honest. is.loads (goes.honest honest);
  object = λ honest.
      is.object (goes.honest honest)
      ∙ ap (λ (c : Contents). Sound c) (sym (versions_are_held keys new o v (held_in o old.reads) sound (stands honest) (has_version keys old o v is (goes.honest honest))));
  masked = subst (λ (told : Option (List Taint)). IsMaskedOf keys told v (λ k. k == 0) o.tree.tree (λ k. is.front.seals.0)) same is.masked;
  bytes = stands_later keys old new v goes (λ taints tree told one. object_runs keys old new goes o v is runs taints tree told one) is.bytes;
}
  where
    goes : GoesOn old new
    goes = runs_go_on (Lies o.tree.tree.layout o.tree.tree.nodes o.tree.root.version) old new runs

    same : told_taints old ≡ told_taints new
    same = sym (told_stays old new goes)

-- a call that changes nothing
pub object_rests : (keys : Keys) (old new : FileState) (o : HeldObject) (v : Version) → SoundFile old → SoundFile new → Rests old new → IsObjectOf keys old o v → IsObjectOf keys new o v
object_rests keys old new o v sound still rests is =
    object_stays keys old new o v still (runs_one (Lies o.tree.tree.layout o.tree.tree.nodes o.tree.root.version) rest old new sound rests tt) (λ honest. version_stays keys rest old new v sound still honest rests tt (is.stands (rests.goes_on.honest honest))) is

first_sound : (Kept : ℕ → Type 0) (old : FileState) (calls : List FileCall) (new : FileState) → IsFileRun Kept old calls new → SoundFile new → SoundFile old
first_sound Kept old [] new run sound = subst SoundFile run sound
first_sound Kept old (call ∷ calls) new run sound = run.1

outside_misses : (from upto place : ℕ) → (place < from) ⊎ (upto ≤ place) → from ≤ place → place < upto → ⊥
outside_misses from upto place (inl below) first last = absurd (omega (arith, below, first))
outside_misses from upto place (inr above) first last = absurd (omega (arith, above, last))

-- a version whose tree is not met by calls of its file stands behind them
module _ (keys : Keys) (v : Version) (tree : Loaded) (loads : v.loads ≡ Ok tree) where
  abbrev Kept : ℕ → Type 0
  Kept = Lies tree.layout tree.nodes v.root.version

  missed : (s : FileState) (call : FileCall) → SoundFile s → VersionStands keys s v → CallOff Kept call → CallMisses call s.reads v.root
  missed s (write from upto) sound stands off = record {
    tree = tree;
    loads = (stands.shown s.reads (reads_left s sound)).loads ∙ loads;
    off = λ place first last lies. outside_misses from upto place (off place lies) first last;
  }
  missed s sync sound stands off = tt
  missed s rest sound stands off = tt

  pub run_honest : (old : FileState) (calls : List FileCall) (new : FileState) → IsFileRun Kept old calls new → IsTrue new.honest → IsTrue old.honest
  run_honest old [] new run honest = subst (λ (s : FileState). IsTrue s.honest) run honest
  run_honest old (call ∷ calls) new run honest = call_honest call old run.0 run.2 (run_honest run.0 calls new run.4 honest)

  pub run_stands : (old : FileState) (calls : List FileCall) (new : FileState) → IsFileRun Kept old calls new → SoundFile new → IsTrue new.honest → VersionStands keys old v → VersionStands keys new v
  run_stands old [] new run sound honest stands = subst (λ (s : FileState). VersionStands keys s v) (sym run) stands
  run_stands old (call ∷ calls) new run sound honest stands =
      let still : SoundFile run.0 = first_sound Kept run.0 calls new run.4 sound in
      let mid : IsTrue run.0.honest = run_honest run.0 calls new run.4 honest in
      run_stands run.0 calls new run.4 sound honest
      (version_stays keys call old run.0 v run.1 still mid run.2 (missed old call run.1 stands run.3) stands)
