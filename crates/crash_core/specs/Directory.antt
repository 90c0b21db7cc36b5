-- The directory that a reference names in an image of its file: 256 entries in a tree of 32,768 bytes (OP-TEE, core/tee/fs_dirfile.c,
-- the file "dirf.db").
use Rattle.std.specs.Prelude.{ℕ, zero, suc, ◌+◌, ◌/◌, ◌==◌, List, [], length, get_or, cond, is_none, Option, Some, None, Result, Ok, Err}
use Rattle.aes_block.specs.WrappedKey.{unwrapped_of}
use Rattle.node_image.specs.declared.node.RootRef.{RootRef}
use Rattle.node_image.specs.Selection.{row}
use Rattle.node_image.specs.Tables.{at_node}
use Rattle.htree_file.specs.declared.fault.TreeFault.{TreeFault}
use Rattle.htree_file.specs.declared.fault.TreeFault.TheVariants.{BadTag}
use Rattle.htree_file.specs.Opening.{Loaded, load_of}
use Rattle.htree_file.specs.Pages.{Opened, block_in, page_in, tag_of}
use Rattle.dir_records.specs.declared.entry.DirEntry.{DirEntry}
use Rattle.crash_core.specs.declared.fault.DirFault.{DirFault}
use Rattle.crash_core.specs.declared.fault.DirFault.TheVariants.{Tree, WrongLength}
use Rattle.crash_core.specs.Entries.{distinct, entries_of}

-- how many blocks hold so many bytes; a tree of no bytes has a block too, but that is not looked at
abbrev pub blocks_of : (bytes : ℕ) → ℕ
blocks_of bytes = (bytes + 4095) / 4096

-- the first of so many pages, from page k on, that is bad
unfoldable pub first_bad : (pages : List (Option (List ℕ))) → (k count : ℕ) → Option ℕ
first_bad pages k zero = None
first_bad pages k (suc count) = cond (is_none (get_or pages k None)) (Some k) (first_bad pages (k + 1) count)

-- the first bad block of a tree of so many bytes
abbrev pub bad_block : (bytes : ℕ) → (pages : List (Option (List ℕ))) → Option ℕ
bad_block bytes pages = first_bad pages 0 (blocks_of bytes)

-- what pages of so many bytes hold, none of which is bad
abbrev pub directory_in : (bytes : ℕ) → (pages : List (Option (List ℕ))) → Result (List (Option DirEntry)) DirFault
directory_in bytes pages = cond (bytes == 32768) (distinct (entries_of pages 256)) (Err (WrongLength bytes))

-- or the first bad block, with the tag that its node has and the one that it has
abbrev pub or_bad : (image key : List ℕ) → Loaded → (pages : List (Option (List ℕ))) → Option ℕ → Result (List (Option DirEntry)) DirFault
or_bad image key tree pages None = directory_in tree.head.length pages
or_bad image key tree pages (Some k) =
    Err (Tree (BadTag k (at_node tree.nodes (k + 1)).tag (tag_of key tree.head (at_node tree.nodes (k + 1)) k (block_in image tree k))))

abbrev pub pages_of : (image key : List ℕ) → Loaded → List (Option (List ℕ))
pages_of image key tree = row (page_in image key tree) (length tree.nodes)

abbrev pub tree_directory : (image key : List ℕ) → Loaded → Result (List (Option DirEntry)) DirFault
tree_directory image key tree = or_bad image key tree (pages_of image key tree) (bad_block tree.head.length (pages_of image key tree))

-- or why the tree does not load
abbrev pub directory_or : (tsk image : List ℕ) → Result Loaded TreeFault → Result (List (Option DirEntry)) DirFault
directory_or tsk image (Ok tree) = tree_directory image (unwrapped_of tsk tree.head.wrapped) tree
directory_or tsk image (Err fault) = Err (Tree fault)

-- The 256 entries of the directory that a reference names in an image, under the directory's key. Or the first fault: of the tree, of
-- its blocks, its length, the first record outside its form, the first double.
unfoldable pub directory_of : (tsk image : List ℕ) → RootRef → Result (List (Option DirEntry)) DirFault
directory_of tsk image root = directory_or tsk image (load_of image root)

abbrev pub directory_pages : Opened → Option ℕ → Result (List (Option DirEntry)) DirFault
directory_pages opened None = directory_in opened.bytes opened.pages
directory_pages opened (Some k) = Err (Tree (BadTag k [] []))

-- The same of an opened tree, where it has entries. Of a bad block this knows the number alone.
abbrev pub directory_from : Result Opened TreeFault → Result (List (Option DirEntry)) DirFault
directory_from (Ok opened) = directory_pages opened (bad_block opened.bytes opened.pages)
directory_from (Err fault) = Err (Tree fault)
