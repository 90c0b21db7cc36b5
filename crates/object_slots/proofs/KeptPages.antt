-- Pages that are kept, in the course of further calls.
use Rattle.std.proofs.Common.{◌≡◌, ◌⊎◌, inl, inr, ◌∙◌, ℕ, List, [], ◌++◌, length, take, drop, sym, ap, subst}
use Rattle.std.proofs.lemmas.List.{append-nil}
use Rattle.std.proofs.Math.Seq.{take-append_seam}
use Rattle.std.specs.Prelude.{Contains}
use Rattle.disk_model.specs.State.{FileState, Sound}
use Rattle.disk_model.specs.Calls.{GoesOn, Rests}
use Rattle.disk_model.proofs.Goings.{known_at_end}
use Rattle.disk_model.proofs.Seen.{seen_anew}
use Rattle.node_image.specs.Parts.{In}
use Rattle.node_image.specs.Parts.Part.{block}
use Rattle.node_image.specs.Tables.{block_version}
use Rattle.htree_file.specs.Opening.{Loaded}
use Rattle.htree_file.specs.Pages.{block_in}
use Rattle.htree_file.specs.Standing.{Told}
use Rattle.htree_file.specs.Value.{TreeValue}
use Rattle.block_file.specs.Reads.{IsPage}
use Rattle.block_file.proofs.Reading.{page_first, rests_keep}
use Rattle.core_laws.proofs.Contained.{contains_none}
use Rattle.object_file.specs.Value.{ObjectValue}
use Rattle.object_slots.specs.CachedPages.{AreKept}

-- what is told, and can be followed at the end of a run, could be followed through it
told_through : (a b : FileState) → GoesOn a b → Told b b → Told a b
told_through a b goes told = (told.0, known_at_end a b goes told.1)

module _ (key : List ℕ) (tree : Loaded) (a b : FileState) (k : ℕ) (page : List ℕ) (rests : Rests a b) where
  -- a page that was read stands as the call ends
  page_now : IsPage key tree a b k page → IsPage key tree b b k page
  page_now read = record {
    among = read.among;
    ciphertext = read.ciphertext;
    seen = seen_anew (In tree.layout (block k (block_version tree.nodes k))) a b (λ image. read.ciphertext ≡ block_in image tree k) rests read.seen;
    stands = λ told.
        let through = told_through a b rests.goes_on told in
        read.stands through ∙ ap (λ (bytes : List ℕ). block_in bytes tree k) (sym (rests.reads through.1));
    opens = read.opens;
    long = read.long;
  }

  -- one that stood before it stands still
  page_still : Sound a → IsPage key tree a a k page → IsPage key tree b b k page
  page_still sound stood = page_now (page_first key tree a a b k page (rests_keep tree.layout tree.nodes a b sound rests) stood)

-- no page is kept
pub kept_none : {F : Type 0} (state : F → FileState) (t : TreeValue F) (pages : List (ℕ × List ℕ)) → pages ≡ [] → AreKept state t pages
kept_none state t pages none k page has = absurd (contains_none (k, page) (subst (λ (l : List (ℕ × List ℕ)). Contains l (k, page)) none has))

-- Calls of an object's file that change nothing.
module _ {F : Type 0} (state : F → FileState) (o p : ObjectValue F) (same : p ≡ record o { tree = record o.tree { file = p.tree.file } })
    (sound : Sound (state o.tree.file)) (rests : Rests (state o.tree.file) (state p.tree.file)) (before after : List (ℕ × List ℕ)) (kept : AreKept state o.tree before) where
  abbrev resting : TreeValue F
  resting = record o.tree { file = p.tree.file }

  by_tree : AreKept state resting after → AreKept state p.tree after
  by_tree all = subst (λ (t : TreeValue F). AreKept state t after) (sym (ap (λ (q : ObjectValue F). q.tree) same)) all

  -- each page that is kept was kept
  pub kept_still : ((e : ℕ × List ℕ) → Contains after e → Contains before e) → AreKept state p.tree after
  kept_still fewer = by_tree (λ k page has. page_still o.tree.key o.tree.tree (state o.tree.file) (state p.tree.file) k page rests sound (kept k page (fewer (k, page) has)))

  -- or was read
  pub kept_more : (j : ℕ) (read : List ℕ) → IsPage o.tree.key o.tree.tree (state o.tree.file) (state p.tree.file) j read
      → ((e : ℕ × List ℕ) → Contains after e → Contains before e ⊎ (e ≡ (j, read))) → AreKept state p.tree after
  kept_more j read is more = by_tree (λ k page has. elim (more (k, page) has) [
    | inl was ↦ page_still o.tree.key o.tree.tree (state o.tree.file) (state p.tree.file) k page rests sound (kept k page was)
    | inr new ↦ page_now o.tree.key o.tree.tree (state o.tree.file) (state p.tree.file) k page rests
        (subst (λ (e : ℕ × List ℕ). IsPage o.tree.key o.tree.tree (state o.tree.file) (state p.tree.file) e.0 e.1) (sym new) is)
  ])

-- a page that was lent whole is what was put in its place
pub page_whole : (count : ℕ) (page rest before : List ℕ) → rest ≡ [] → length page ≡ count → take count ((page ++ rest) ++ drop (length (page ++ rest)) before) ≡ page
page_whole count page rest before none long =
    let all : page ++ rest ≡ page = ap (λ (l : List ℕ). page ++ l) none ∙ append-nil page in
    ap (λ (l : List ℕ). take count (l ++ drop (length l) before)) all
    ∙ ap (λ (n : ℕ). take n (page ++ drop (length page) before)) (sym long)
    ∙ take-append_seam page (drop (length page) before)
