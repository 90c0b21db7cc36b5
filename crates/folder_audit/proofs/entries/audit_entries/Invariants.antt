use Rattle.std.proofs.Common.{◌≡◌, ◌≤◌, take, vec_len}
use Rattle.std.specs.Vec.{vec_capacity}
use Rattle.disk_model.specs.State.{FileState}
use Rattle.tee_types.specs.Limits.{file_count}
use Rattle.folder_audit.specs.Audit.{HavePassed, OnlyReads, PutsLines, folder_states, with_directory}
use Rattle.folder_audit.proofs.entries.audit_entries.Given as goal

abbrev pub invariant-loop-place : goal.invariant-loop-place
invariant-loop-place g l =
    let old = folder_states g.G.StoreFile.state (with_directory l.fn.files.items l.fn.dir.file) in
    let now = folder_states g.G.StoreFile.state (with_directory l.files.items l.dir.file) in
    record {
      puts : PutsLines l.under.keys l.under.block l.fn.dir.tree l.entries old now (take l.place l.names.entries) l.fn.lines.items l.lines.items;
      passed : HavePassed old now;
      rests : OnlyReads old now;
      last : (none : FileState) → now none file_count ≡ old none file_count;
      dir : l.dir ≡ record l.fn.dir { file = l.dir.file };
      whole : vec_len l.files ≡ file_count;
      capacity : vec_capacity l.fn.files ≤ vec_capacity l.files;
    }
