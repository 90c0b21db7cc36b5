-- The lines on trees of a file.
use Rattle.std.specs.Prelude.{ℕ, ◌≡◌, List, [], ◌∷◌, ◌++◌, length, map, codes, decimal, Option, Some, None, Result, Ok, Err}
use Rattle.hex.specs.Hex.{encode_lower}
use Rattle.sha2.specs.Sha256.{sha256}
use Rattle.node_image.specs.declared.node.RootRef.{RootRef}
use Rattle.htree_file.specs.declared.fault.TreeFault.{TreeFault}
use Rattle.htree_file.specs.declared.fault.TreeFault.TheVariants.{BadHead, Damaged, Short}
use Rattle.node_image.specs.Selection.{row}
use Rattle.htree_file.specs.Opening.{Loaded}
use Rattle.htree_file.specs.Pages.{Opened, opened_of, page_in}
use Rattle.known_answers.specs.Lines.{hex_word, two_words}
use Rattle.known_answers.specs.declared.questions.TreeImage.{TreeImage}
use Rattle.known_answers.specs.declared.questions.TreePages.{TreePages}

-- what stands for a block: the hash of its page, or that it is bad
abbrev pub page_word : Option (List ℕ) → List ℕ
page_word None = codes "bad"
page_word (Some page) = encode_lower (sha256 page)

-- these of several blocks, each behind a space
abbrev pub page_words : List (Option (List ℕ)) → List ℕ
page_words [] = []
page_words (page ∷ pages) = codes " " ++ page_word page ++ page_words pages

-- what a tree that was loaded from the bytes opens to under the key of its blocks
abbrev pub opened_by : (key image : List ℕ) → Loaded → Opened
opened_by key image tree = record { bytes = tree.head.length; pages = row (page_in image key tree) (length tree.nodes) }

-- the length of a tree and its blocks
abbrev pub pages_line : Opened → List ℕ
pages_line opened = codes "length " ++ decimal opened.bytes ++ page_words opened.pages

-- the fault that a tree is refused by; no other comes of bytes alone
abbrev pub fault_line : TreeFault → List ℕ
fault_line (BadHead length greatest) = codes "head " ++ decimal length ++ codes " " ++ decimal greatest
fault_line (Damaged n want found) = codes "hash " ++ decimal n ++ codes " " ++ two_words want found
fault_line (Short end need) = codes "short " ++ decimal end ++ codes " " ++ decimal need
fault_line fault = []

abbrev pub opened_line : Result Opened TreeFault → List ℕ
opened_line (Ok opened) = pages_line opened
opened_line (Err fault) = fault_line fault

-- what the reference opens to in the image
abbrev pub tree_line : TreeImage → List ℕ
tree_line t = opened_line (opened_of t.tsk t.image.items t.root)

-- a reference and an image
abbrev pub made_line : RootRef → List ℕ → List ℕ
made_line root image = hex_word root.hash ++ codes " " ++ decimal root.version ++ codes " " ++ hex_word image

-- the line names an image of that format and a reference, of version 0, that opens to the pages in it
pub record IsMadeLine (t : TreePages) (line : List ℕ) : Type 0 where
  pub root : RootRef
  pub image : List ℕ
  pub version : root.version ≡ 0
  pub format : root.format ≡ t.format
  pub opens : opened_of t.tsk image root ≡ Ok (record { bytes = t.bytes; pages = map (λ page. Some page) t.pages.items })
  pub is : line ≡ made_line root image
