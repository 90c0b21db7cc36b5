-- What stands alike in every image of a file stands so after each call of the file that misses what it selects.
use Rattle.std.proofs.Common.{◌≡◌, ℕ, List, [], IsTrue, inl, inr, sym, ◌∙◌, ap, arith}
use Rattle.std.proofs.lemmas.Bool.{cases_lt}
use Rattle.disk_model.specs.State.{FileState, LeftNow, Sound, moment, pending}
use Rattle.disk_model.specs.Calls.{Rests, Syncs}
use Rattle.disk_model.specs.Keeps.{FileCall, IsCall, Keeps, Outside, Writes, write, sync, rest}
use Rattle.disk_model.proofs.ImageLaws.{exact_none, now_since, reads_left}
use Rattle.disk_model.proofs.Laws.{change_keeps, keeps_fewer}
use Rattle.node_image.specs.declared.node.RootRef.{RootRef}
use Rattle.node_image.specs.References.{IsCurrent}
use Rattle.node_image.specs.Selection.{selected_tree}
use Rattle.hmac_keys.specs.declared.Keys.{Keys}
use Rattle.htree_file.specs.Opening.{load_of}
use Rattle.htree_file.specs.Pages.{opened_of}
use Rattle.htree_file.specs.Selected.{Lies, StaysFirm}
use Rattle.htree_file.specs.Standing.{IsFirm}
use Rattle.htree_file.proofs.Firmness.{stays_firm}
use Rattle.store_model.specs.Object.{Object}
use Rattle.dir_records.specs.declared.entry.DirEntry.{DirEntry}
use Rattle.crash_core.specs.MountedObject.{root_of}
use Rattle.crash_core.specs.DeviceKeys.{object_key}
use Rattle.crash_core.specs.Sights.{Misses, Shows, Sight, Stands, sight_of}
use Rattle.crash_core.proofs.FileRuns.{rest_left, sync_left}
use Rattle.crash_core.proofs.SameDirectory.{opened_same}

-- a write misses what the reference selects
abbrev pub CallMisses : FileCall → List ℕ → RootRef → Type 0
CallMisses (write from upto) reads root = Misses from upto reads root
CallMisses sync reads root = Unit {0}
CallMisses rest reads root = Unit {0}

-- of a settled file there is one image
pub one_image : (s : FileState) → Sound s → IsTrue s.honest → pending s ≡ [] → (image : List ℕ) → LeftNow s image → image ≡ s.reads
one_image s sound honest none image left = exact_none s.settled (pending s) image none (left honest) ∙ sym (exact_none s.settled (pending s) s.reads none (reads_left s sound honest))

module _ (old new : FileState) (wrap : List ℕ) (root : RootRef) (what : Sight) (sound : Sound old) (still : Sound new) (honest : IsTrue new.honest) (stands : Stands old wrap root what) where
  -- what it reads as is an image
  here : sight_of wrap old.reads root ≡ what
  here = stands.alike old.reads (reads_left old sound)

  rest_stands : Rests old new → (i : List ℕ) → LeftNow new i → sight_of wrap i root ≡ what
  rest_stands rests i left = stands.alike i (rest_left old new rests honest i left)

  sync_stands : Syncs old new → (i : List ℕ) → LeftNow new i → sight_of wrap i root ≡ what
  sync_stands syncs i left = stands.alike i (sync_left old new sound syncs honest i left)

  module _ (from upto : ℕ) (writes : Writes from upto old new) (misses : Misses from upto old.reads root) where
    firm : IsFirm old root misses.tree
    firm i left = record {
      opens = ap (λ (s : Sight). s.loads) (stands.alike i left ∙ sym here) ∙ misses.loads;
      selects = ap (λ (s : Sight). s.tree) (stands.alike i left ∙ sym here);
    }

    outside : (p : ℕ) → Lies misses.tree.layout misses.tree.nodes root.version p → Outside from upto p
    outside p at = elim (cases_lt p from) [
      | inl lt ↦ inl lt
      | inr ge ↦ elim (cases_lt p upto) [
        | inl lt ↦ absurd (misses.off p (omega arith) lt at)
        | inr past ↦ inr (omega arith)
      ]
    ]

    keeps : Keeps (Lies misses.tree.layout misses.tree.nodes root.version) old new
    keeps = keeps_fewer (Outside from upto) (Lies misses.tree.layout misses.tree.nodes root.version) old new outside (change_keeps from upto old new sound writes)

    write_stands : (i : List ℕ) → LeftNow new i → sight_of wrap i root ≡ what
    write_stands i left =
        let stays : StaysFirm old new root misses.tree = stays_firm old new root misses.tree sound still stands.current.0 keeps firm honest in
        let opens = stays.always i (now_since new (moment old) i still left) in
        let selects : selected_tree i root ≡ selected_tree old.reads root = opens.selects in
        let loads : load_of i root ≡ load_of old.reads root = opens.opens ∙ sym misses.loads in
        let opened : opened_of wrap i root ≡ opened_of wrap old.reads root = opened_same wrap i old.reads root selects loads in
        let same : sight_of wrap i root ≡ sight_of wrap old.reads root = (λ j. record { tree = selects j; loads = loads j; opened = opened j }) in
        same ∙ here

-- A call of the file that misses what the reference selects leaves it standing.
pub call_stands : (call : FileCall) (old new : FileState) (wrap : List ℕ) (root : RootRef) (what : Sight) → Sound old → Sound new → IsTrue new.honest
    → IsCall call old new → CallMisses call old.reads root → Stands old wrap root what → Stands new wrap root what
call_stands (write from upto) old new wrap root what sound still honest called misses stands =
    record { current = stands.current; alike = write_stands old new wrap root what sound still honest stands from upto called misses }
call_stands sync old new wrap root what sound still honest called misses stands =
    record { current = stands.current; alike = sync_stands old new wrap root what sound still honest stands called }
call_stands rest old new wrap root what sound still honest called misses stands =
    record { current = stands.current; alike = rest_stands old new wrap root what sound still honest stands called }

-- so an entry shows its object still
pub call_shows : (call : FileCall) (old new : FileState) (keys : Keys) (e : DirEntry) (object : Object) → Sound old → Sound new → IsTrue new.honest
    → IsCall call old new → CallMisses call old.reads (root_of e) → Shows keys old e object → Shows keys new e object
call_shows call old new keys e object sound still honest called misses shows = record {
  sight = shows.sight;
  stands = call_stands call old new (object_key keys e.app) (root_of e) shows.sight sound still honest called misses shows.stands;
  is = shows.is;
}

-- in a settled file a reference stands
pub settled_stands : (s : FileState) (wrap : List ℕ) (root : RootRef) → Sound s → IsTrue s.honest → pending s ≡ [] → IsCurrent root → Stands s wrap root (sight_of wrap s.reads root)
settled_stands s wrap root sound honest none current =
    record { current = current; alike = λ image left. ap (λ (b : List ℕ). sight_of wrap b root) (one_image s sound honest none image left) }
