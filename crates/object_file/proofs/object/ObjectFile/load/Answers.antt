use Rattle.std.proofs.Common.{◌≡◌, ◌+◌, Ok, subst, sym}
use Rattle.disk_model.specs.State.{FileState}
use Rattle.disk_model.specs.Calls.{Rests}
use Rattle.disk_model.specs.Keeps.{rest}
use Rattle.disk_model.specs.Seen.{WasSeen}
use Rattle.disk_model.proofs.Goings.{rests_then}
use Rattle.disk_model.proofs.Seen.{runs_one, seen_later}
use Rattle.node_image.specs.declared.node.RootRef.{RootRef}
use Rattle.aes_block.specs.WrappedKey.{unwrapped_of}
use Rattle.htree_file.specs.Opening.{IsVerified, Loaded, load_of, table_of}
use Rattle.htree_file.specs.Selected.{Lies}
use Rattle.htree_file.specs.Standing.{Told}
use Rattle.htree_file.specs.Value.{TreeValue}
use Rattle.block_file.specs.Reads.{AreReadBytes}
use Rattle.crash_core.specs.MountedObject.{root_of}
use Rattle.object_file.specs.Loading.{IsFirstRead, IsFront, PartFault}
use Rattle.object_file.proofs.FirstBlock.{bytes_then, first_then}
use Rattle.object_file.proofs.Mounting.{mounted_held, part_damaged, part_fault, sound_faultless}
use Rattle.object_file.specs.Held.{held_in}
use Rattle.object_file.specs.Value.{ObjectValue}
use Rattle.object_file.proofs.object.ObjectFile.load.Goals as goal

-- the tree was seen under the reference
abbrev SeenAs : (old new : FileState) → RootRef → Loaded → Type 0
SeenAs old new root tree = WasSeen (Lies tree.layout tree.nodes root.version) old new (λ image. table_of image root ≡ Ok tree)

pub returns-in-Ok-read_attributes-clause-object : goal.returns-in-Ok-read_attributes-clause-object
returns-in-Ok-read_attributes-clause-object g c =
    let a = g.F.StoreFile.state c.args.file in
    let b = g.F.StoreFile.state c.in-Ok.tree.file in
    let d = g.F.StoreFile.state c.read_attributes.new.file.file in
    let e = c.args.entry.now in
    let attributes = c.in-Ok-read_attributes.attributes.items in
    let was = c.in-Ok.ensures in
    let rests : Rests b d = subst (λ (t : TreeValue g.row.F.Denot). Rests (g.F.StoreFile.state t.file) d) c.new-file.ensures c.read_attributes.ensures.rests in
    let front : Told b d → IsFront b.reads c.in-Ok.tree.key c.in-Ok.tree.tree attributes e.attributes =
    subst (λ (t : TreeValue g.row.F.Denot). Told (g.F.StoreFile.state t.file) d → IsFront (g.F.StoreFile.state t.file).reads t.key t.tree attributes e.attributes) c.new-file.ensures
    c.in-Ok-read_attributes.ensures.front in
    let long : c.in-Ok.tree.tree.head.length ≡ 4096 + e.size =
    subst (λ (t : TreeValue g.row.F.Denot). t.tree.head.length ≡ 4096 + e.size) c.new-file.ensures c.in-Ok-read_attributes.ensures.size in
    let same : record c.in-Ok.tree { file = c.read_attributes.new.file.file } ≡ c.read_attributes.new.file =
    sym (subst (λ (t : TreeValue g.row.F.Denot). c.read_attributes.new.file ≡ record t { file = c.read_attributes.new.file.file }) c.new-file.ensures c.read_attributes.ensures.same) in
    mounted_held (record { tree = c.read_attributes.new.file; attributes = attributes }) c.args.tsk.now e a b d was.rests rests
    (subst (λ (t : TreeValue g.row.F.Denot). Told a b → load_of b.reads (root_of e) ≡ Ok t.tree) same was.loaded)
    (subst (λ (t : TreeValue g.row.F.Denot). IsVerified (root_of e) t.tree) same was.verified)
    (subst (λ (t : TreeValue g.row.F.Denot). t.root ≡ root_of e) same was.root)
    (subst (λ (t : TreeValue g.row.F.Denot). t.key ≡ unwrapped_of c.args.tsk.now t.tree.head.wrapped) same was.key)
    (subst (λ (t : TreeValue g.row.F.Denot). t.tree.head.length ≡ 4096 + e.size) same long)
    (subst (λ (t : TreeValue g.row.F.Denot). Told b d → IsFront b.reads t.key t.tree attributes e.attributes) same front)

pub returns-in-Ok-read_attributes-clause-faultless : goal.returns-in-Ok-read_attributes-clause-faultless
returns-in-Ok-read_attributes-clause-faultless g c told =
    let d = g.F.StoreFile.state c.read_attributes.new.file.file in
    let o : ObjectValue g.row.F.Denot = record { tree = c.read_attributes.new.file; attributes = c.in-Ok-read_attributes.attributes.items } in
    sound_faultless c.args.tsk.now d.reads c.args.entry.now (held_in o d.reads) (returns-in-Ok-read_attributes-clause-object g c told)

pub returns-in-Err-read_attributes-clause-fault : goal.returns-in-Err-read_attributes-clause-fault
returns-in-Err-read_attributes-clause-fault g c =
    let a = g.F.StoreFile.state c.args.file in
    let b = g.F.StoreFile.state c.in-Ok.tree.file in
    let d = g.F.StoreFile.state c.read_attributes.new.file.file in
    let e = c.args.entry.now in
    let tree = c.in-Ok.tree in
    let fault = c.in-Err-read_attributes.fault in
    let rests : Rests b d = subst (λ (t : TreeValue g.row.F.Denot). Rests (g.F.StoreFile.state t.file) d) c.new-file.ensures c.read_attributes.ensures.rests in
    let stands : PartFault tree.key tree.tree d e.size fault =
    subst (λ (t : TreeValue g.row.F.Denot). PartFault t.key t.tree d e.size fault) c.new-file.ensures c.in-Err-read_attributes.ensures.fault in
    rw (c.into_file-file.ensures)
    (part_fault c.args.tsk.now tree.key tree.tree e a b d c.in-Ok.ensures.rests rests c.in-Ok.ensures.loaded c.in-Ok.ensures.key fault stands)

pub returns-in-Err-read_attributes-clause-damaged : goal.returns-in-Err-read_attributes-clause-damaged
returns-in-Err-read_attributes-clause-damaged g c =
    let a = g.F.StoreFile.state c.args.file in
    let b = g.F.StoreFile.state c.in-Ok.tree.file in
    let d = g.F.StoreFile.state c.read_attributes.new.file.file in
    let e = c.args.entry.now in
    let tree = c.in-Ok.tree in
    let fault = c.in-Err-read_attributes.fault in
    let rests : Rests b d = subst (λ (t : TreeValue g.row.F.Denot). Rests (g.F.StoreFile.state t.file) d) c.new-file.ensures c.read_attributes.ensures.rests in
    let stands : PartFault tree.key tree.tree d e.size fault =
    subst (λ (t : TreeValue g.row.F.Denot). PartFault t.key t.tree d e.size fault) c.new-file.ensures c.in-Err-read_attributes.ensures.fault in
    rw (c.into_file-file.ensures)
    (part_damaged c.args.tsk.now tree.key tree.tree e a b d c.in-Ok.ensures.rests rests c.in-Ok.ensures.loaded c.in-Ok.ensures.key fault stands)

pub returns-in-Ok-read_attributes-clause-bytes : goal.returns-in-Ok-read_attributes-clause-bytes
returns-in-Ok-read_attributes-clause-bytes g c =
    let a = g.F.StoreFile.state c.args.file in
    let b = g.F.StoreFile.state c.in-Ok.tree.file in
    let d = g.F.StoreFile.state c.read_attributes.new.file.file in
    let count = c.args.entry.now.attributes in
    let attributes = c.in-Ok-read_attributes.attributes.items in
    let rests : Rests b d = subst (λ (t : TreeValue g.row.F.Denot). Rests (g.F.StoreFile.state t.file) d) c.new-file.ensures c.read_attributes.ensures.rests in
    let read : AreReadBytes c.in-Ok.tree.key c.in-Ok.tree.tree b d 0 attributes count =
    subst (λ (t : TreeValue g.row.F.Denot). AreReadBytes t.key t.tree (g.F.StoreFile.state t.file) d 0 attributes count) c.new-file.ensures c.in-Ok-read_attributes.ensures.bytes in
    let same : record c.in-Ok.tree { file = c.read_attributes.new.file.file } ≡ c.read_attributes.new.file =
    sym (subst (λ (t : TreeValue g.row.F.Denot). c.read_attributes.new.file ≡ record t { file = c.read_attributes.new.file.file }) c.new-file.ensures c.read_attributes.ensures.same) in
    subst (λ (t : TreeValue g.row.F.Denot). AreReadBytes t.key t.tree a d 0 attributes count) same
    (bytes_then c.in-Ok.tree.key c.in-Ok.tree.tree a b d 0 attributes count c.in-Ok.ensures.rests rests.goes_on read)

pub returns-in-Ok-read_attributes-clause-first : goal.returns-in-Ok-read_attributes-clause-first
returns-in-Ok-read_attributes-clause-first g c =
    let a = g.F.StoreFile.state c.args.file in
    let b = g.F.StoreFile.state c.in-Ok.tree.file in
    let d = g.F.StoreFile.state c.read_attributes.new.file.file in
    let count = c.args.entry.now.attributes in
    let attributes = c.in-Ok-read_attributes.attributes.items in
    let rests : Rests b d = subst (λ (t : TreeValue g.row.F.Denot). Rests (g.F.StoreFile.state t.file) d) c.new-file.ensures c.read_attributes.ensures.rests in
    let read : IsFirstRead c.in-Ok.tree.key c.in-Ok.tree.tree b d attributes count =
    subst (λ (t : TreeValue g.row.F.Denot). IsFirstRead t.key t.tree (g.F.StoreFile.state t.file) d attributes count) c.new-file.ensures c.in-Ok-read_attributes.ensures.first in
    let same : record c.in-Ok.tree { file = c.read_attributes.new.file.file } ≡ c.read_attributes.new.file =
    sym (subst (λ (t : TreeValue g.row.F.Denot). c.read_attributes.new.file ≡ record t { file = c.read_attributes.new.file.file }) c.new-file.ensures c.read_attributes.ensures.same) in
    subst (λ (t : TreeValue g.row.F.Denot). IsFirstRead t.key t.tree a d attributes count) same
    (first_then c.in-Ok.tree.key c.in-Ok.tree.tree a b d attributes count c.in-Ok.ensures.rests rests.goes_on read)

pub returns-in-Ok-read_attributes-clause-seen : goal.returns-in-Ok-read_attributes-clause-seen
returns-in-Ok-read_attributes-clause-seen g c =
    let a = g.F.StoreFile.state c.args.file in
    let b = g.F.StoreFile.state c.in-Ok.tree.file in
    let d = g.F.StoreFile.state c.read_attributes.new.file.file in
    let root = root_of c.args.entry.now in
    let tree = c.in-Ok.tree in
    let rests : Rests b d = subst (λ (t : TreeValue g.row.F.Denot). Rests (g.F.StoreFile.state t.file) d) c.new-file.ensures c.read_attributes.ensures.rests in
    let same : record tree { file = c.read_attributes.new.file.file } ≡ c.read_attributes.new.file =
    sym (subst (λ (t : TreeValue g.row.F.Denot). c.read_attributes.new.file ≡ record t { file = c.read_attributes.new.file.file }) c.new-file.ensures c.read_attributes.ensures.same) in
    let seen : SeenAs a d root tree.tree = seen_later (Lies tree.tree.layout tree.tree.nodes root.version) a b d (λ image. table_of image root ≡ Ok tree.tree)
    (runs_one (Lies tree.tree.layout tree.tree.nodes root.version) rest b d (g.met.F.StoreFile.sound tree.file) rests tt) c.in-Ok.ensures.seen in
    let by_root : SeenAs a d tree.root tree.tree = subst (λ (r : RootRef). SeenAs a d r tree.tree) (sym c.in-Ok.ensures.root) seen in
    subst (λ (t : TreeValue g.row.F.Denot). SeenAs a d t.root t.tree) same by_root

pub returns-in-Ok-read_attributes-clause-rests : goal.returns-in-Ok-read_attributes-clause-rests
returns-in-Ok-read_attributes-clause-rests g c =
    let d = g.F.StoreFile.state c.read_attributes.new.file.file in
    rests_then _ _ d c.in-Ok.ensures.rests (subst (λ (t : TreeValue g.row.F.Denot). Rests (g.F.StoreFile.state t.file) d) c.new-file.ensures c.read_attributes.ensures.rests)

pub returns-in-Err-read_attributes-clause-rests_err : goal.returns-in-Err-read_attributes-clause-rests_err
returns-in-Err-read_attributes-clause-rests_err g c =
    let d = g.F.StoreFile.state c.read_attributes.new.file.file in
    rw (c.into_file-file.ensures)
    (rests_then _ _ d c.in-Ok.ensures.rests (subst (λ (t : TreeValue g.row.F.Denot). Rests (g.F.StoreFile.state t.file) d) c.new-file.ensures c.read_attributes.ensures.rests))
