-- The certificate of an object whose trees were read.
use Rattle.std.specs.Prelude.{◌≡◌, ℕ, ◌+◌, ◌/◌, ◌<◌, List, [], ◌∷◌, ◌++◌, codes, Some, Ok}
use Rattle.std.specs.Int.{w16, to_be_bytes}
use Rattle.node_image.specs.Layout.{head_bytes, node_bytes}
use Rattle.node_image.specs.References.{current_format}
use Rattle.node_image.specs.Selection.{row}
use Rattle.node_image.specs.Tables.{at_node}
use Rattle.hmac_keys.specs.declared.Keys.{Keys}
use Rattle.htree_file.specs.Opening.{Loaded}
use Rattle.store_model.specs.Object.{Contents, Sound}
use Rattle.dir_records.specs.declared.entry.DirEntry.{DirEntry}
use Rattle.crash_core.specs.EntryLists.{entry_at}
use Rattle.crash_core.specs.MountedObject.{root_of}
use Rattle.core_laws.specs.Clashes.{HaveFlags}
use Rattle.freshness_laws.specs.Readings.{ReadTree}
use Rattle.freshness_laws.specs.SeenStores.{SeenStore, object_read}
use Rattle.image_audit.specs.Checking.{certificate_of}

-- one after the other
abbrev pub joined : List (List ℕ) → List ℕ
joined [] = []
joined (x ∷ xs) = x ++ joined xs

-- each node of a tree
abbrev pub nodes_bytes : Loaded → List (List ℕ)
nodes_bytes tree = row (λ k. node_bytes (at_node tree.nodes (k + 1))) tree.head.greatest

-- the head of a tree, and its nodes
abbrev pub tree_bytes : Loaded → List ℕ
tree_bytes tree = head_bytes tree.head ++ joined (nodes_bytes tree)

-- of entry k: the directory's tree and the ciphertext of the entry's block, the object's tree and its ciphertexts
abbrev pub certificate_bytes : (index : ℕ) → (directory : Loaded) → (block : List ℕ) → (object : Loaded) → (blocks : ℕ → List ℕ) → List ℕ
certificate_bytes index directory block object blocks =
    codes "TEECERT1" ++ (to_be_bytes w16 index ++ (tree_bytes directory ++ (block ++ (tree_bytes object ++ joined (row blocks object.head.greatest)))))

-- In a store of the current format a sound object without bad blocks has a certificate that is accepted with its attributes and bytes.
abbrev pub ObjectsHaveCertificates : Type 0
ObjectsHaveCertificates =
    (keys : Keys) (block : List ℕ) (s : SeenStore keys block) (index : ℕ) (e : DirEntry) (read : ReadTree (root_of e)) (c : Contents)
    → (s.root).format ≡ current_format → HaveFlags (s.dir).tree → index < 256 → entry_at s.entries index ≡ Some e
    → e.format ≡ current_format → HaveFlags read.tree → object_read keys e (Some read) ≡ Sound c → c.bad ≡ []
    → certificate_of keys block (certificate_bytes index (s.dir).tree ((s.dir).block (index / 32)) read.tree read.block)
    ≡ Ok (record { app = e.app; id = e.id; attributes = c.attributes; bytes = c.bytes })
