-- Suppositions: which files are not honest at the end, and what stands in the place of damage in them.
use Rattle.std.specs.Prelude.{ℕ, List, Option, Some, None, Result, Ok, Err, if◌then◌else◌, unwrap_or, option_map}
use Rattle.node_image.specs.declared.node.RootRef.{RootRef}
use Rattle.htree_file.specs.declared.fault.TreeFault.{TreeFault}
use Rattle.htree_file.specs.Opening.{IsVerified, Loaded}
use Rattle.hmac_keys.specs.declared.Keys.{Keys}
use Rattle.store_model.specs.Object.{Object}
use Rattle.history_seats.specs.Numbers.{is_in}
use Rattle.history_seats.specs.Records.{Version}
use Rattle.core_laws.specs.Decodings.{Decoding, block_of, object_decoded, page_decoded, tree_decoding, decoding_of, wrap_of}

-- A tree that is verified under the reference.
pub record VerifiedTree (root : RootRef) : Type 0 where
  pub tree : Loaded
  pub verified : IsVerified root tree

-- A tamper scenario. What stands for a version of a file that is honest is what was committed. In a file that is not, its own bytes may come
-- back: a tree where the version's loads no more, and a ciphertext where a block is bad. A tree is supposed for a file's generation and a
-- reference under which it is verified, and a ciphertext for a block of a file's generation.
pub record TamperScenario : Type 0 where
  pub tampered : List ℕ
  pub trees : (file generation : ℕ) (root : RootRef) → Option (VerifiedTree root)
  pub blocks : (file generation k : ℕ) → Option (List ℕ)

-- the tamper scenario that nothing comes back
abbrev pub nothing_back : (tampered : List ℕ) → TamperScenario
nothing_back tampered = record { tampered = tampered; trees = λ file generation root. None; blocks = λ file generation k. None }

abbrev pub tree_supposed : {root : RootRef} → Option (VerifiedTree root) → Option Loaded
tree_supposed None = None
tree_supposed (Some supposed) = Some supposed.tree

-- the tree that loads, or else the one that is supposed
abbrev pub tree_or : {root : RootRef} → Result Loaded TreeFault → Option (VerifiedTree root) → Option Loaded
tree_or (Ok tree) supposed = Some tree
tree_or (Err fault) supposed = tree_supposed supposed

-- the block's own ciphertext where it is good, or else the one that is supposed
abbrev pub block_or : Option (List ℕ) → (own : List ℕ) → (supposed : Option (List ℕ)) → List ℕ
block_or (Some page) own supposed = own
block_or None own supposed = unwrap_or supposed own

-- the spelling with supposed ciphertexts in its bad blocks
abbrev pub mended : (supposed : ℕ → Option (List ℕ)) → Decoding → Decoding
mended supposed sp = record sp { block = λ k. block_or (page_decoded sp k) (sp.block k) (supposed k) }

abbrev pub supposed_under : Keys → TamperScenario → (file generation : ℕ) → Version → Option Decoding
supposed_under keys scenario file generation v =
    option_map (λ tree. mended (scenario.blocks file generation) (tree_decoding (wrap_of keys v) (block_of v) tree))
    (tree_or v.loads (scenario.trees file generation v.root))

-- What stands for a version of a file's generation under a tamper scenario, if anything does.
abbrev pub under : Keys → TamperScenario → (file generation : ℕ) → Version → Option Decoding
under keys scenario file generation v =
    if is_in file scenario.tampered then supposed_under keys scenario file generation v else decoding_of keys v

-- the object that stands for it
abbrev pub object_under : Keys → TamperScenario → (file generation : ℕ) → Version → Object
object_under keys scenario file generation v = object_decoded v.size v.attributes (under keys scenario file generation v)
