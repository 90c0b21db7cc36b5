-- The object that an entry of the directory mounts as, over an image of its file.
use Rattle.std.specs.Prelude.{ℕ, ◌+◌, ◌-◌, ◌==◌, List, length, take, filter, Option, Some, None, is_none, Result, Ok, Err, if◌then◌else◌}
use Rattle.std.specs.List.{range_with_len}
use Rattle.node_image.specs.declared.node.RootRef.{RootRef}
use Rattle.htree_file.specs.declared.fault.TreeFault.{TreeFault}
use Rattle.htree_file.specs.Pages.{Opened, opened_of}
use Rattle.page_bytes.specs.Pages.{bytes_from, page_at}
use Rattle.store_model.specs.Object.{Contents, Object, Damaged, Sound}
use Rattle.dir_records.specs.declared.entry.DirEntry.{DirEntry}

-- the data blocks that are bad; block 0 has the attributes
abbrev pub bad_blocks : (pages : List (Option (List ℕ))) → List ℕ
bad_blocks pages = filter (λ k. is_none (page_at pages k)) (range_with_len 1 (length pages - 1))

-- an object of those sizes, whose attributes lie in that page: its data begin with block 1
abbrev pub contents_of : (size attributes : ℕ) → (pages : List (Option (List ℕ))) → (page : List ℕ) → Contents
contents_of size attributes pages page = record {
  attributes = take attributes page;
  bytes = bytes_from (page_at pages) 4096 size;
  bad = bad_blocks pages;
}

-- it is damaged where its attributes are
abbrev pub object_with : (size attributes : ℕ) → (pages : List (Option (List ℕ))) → Option (List ℕ) → Object
object_with size attributes pages (Some page) = Sound (contents_of size attributes pages page)
object_with size attributes pages None = Damaged size

-- the object that an opened tree holds: damaged where that has another length
abbrev pub object_of : (size attributes : ℕ) → Opened → Object
object_of size attributes opened =
    if opened.bytes == 4096 + size then object_with size attributes opened.pages (page_at opened.pages 0) else Damaged size

-- or where it does not open
abbrev pub object_or_damaged : (size attributes : ℕ) → Result Opened TreeFault → Object
object_or_damaged size attributes (Ok opened) = object_of size attributes opened
object_or_damaged size attributes (Err fault) = Damaged size

-- the object that a reference names in an image, under the application's key
abbrev pub object_in : (tsk : List ℕ) → (image : List ℕ) → RootRef → (size attributes : ℕ) → Object
object_in tsk image root size attributes = object_or_damaged size attributes (opened_of tsk image root)

-- the reference of an entry
abbrev pub root_of : DirEntry → RootRef
root_of e = record { hash = e.hash; version = e.version; format = e.format }

-- the object that an entry mounts as
abbrev pub mounted_object : (tsk : List ℕ) → (image : List ℕ) → DirEntry → Object
mounted_object tsk image e = object_in tsk image (root_of e) e.size e.attributes
