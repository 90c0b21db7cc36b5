-- What a change of the bytes of an object's tree is for the object in them.
use Rattle.std.specs.Prelude.{◌≡◌, ℕ, ◌+◌, List, length, max}
use Rattle.disk_model.specs.Bytes.{after_resize, after_write}
use Rattle.node_image.specs.Layout.{greatest_of}
use Rattle.htree_file.specs.Pages.{Opened}
use Rattle.page_bytes.specs.Changed.{IsChanged}
use Rattle.page_bytes.specs.Pages.{bytes_from, page_at}
use Rattle.page_bytes.specs.Ranges.{resize_range, write_range}
use Rattle.store_model.specs.Data.{resized_contents, written_contents}
use Rattle.store_model.specs.Object.{Contents, Sound}
use Rattle.crash_core.specs.MountedObject.{object_of}

-- a write of bytes behind the attributes is a write of the object
abbrev pub WritesAreOfObjects : Type 0
WritesAreOfObjects =
    (size attributes at : ℕ) (bytes : List ℕ) (was now : Opened) (c : Contents) → object_of size attributes was ≡ Sound c
    → length was.pages ≡ greatest_of was.bytes → length now.pages ≡ greatest_of now.bytes → now.bytes ≡ max (4096 + size) (4096 + at + length bytes)
    → IsChanged (write_range (4096 + size) (4096 + at) (length bytes)) (length now.pages) (page_at was.pages) (page_at now.pages)
    → bytes_from (page_at now.pages) 0 now.bytes ≡ after_write (bytes_from (page_at was.pages) 0 was.bytes) (4096 + at) bytes
    → object_of (max size (at + length bytes)) attributes now ≡ Sound (written_contents c at bytes)

-- another length of the bytes is another size of the object
abbrev pub LengthsAreSizes : Type 0
LengthsAreSizes =
    (size attributes n : ℕ) (was now : Opened) (c : Contents) → object_of size attributes was ≡ Sound c
    → length was.pages ≡ greatest_of was.bytes → length now.pages ≡ greatest_of now.bytes → now.bytes ≡ 4096 + n
    → IsChanged (resize_range (4096 + size) (4096 + n)) (length now.pages) (page_at was.pages) (page_at now.pages)
    → bytes_from (page_at now.pages) 0 now.bytes ≡ after_resize (bytes_from (page_at was.pages) 0 was.bytes) (4096 + n)
    → object_of n attributes now ≡ Sound (resized_contents c n)
