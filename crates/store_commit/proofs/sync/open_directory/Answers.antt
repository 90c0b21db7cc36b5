use Rattle.std.proofs.Common.{◌≡◌, [], Ok, inl, inr}
use Rattle.disk_model.specs.State.{pending}
use Rattle.disk_model.specs.Calls.{Rests}
use Rattle.disk_model.specs.Keeps.{Anywhere, Keeps}
use Rattle.disk_model.proofs.Goings.{rests_none}
use Rattle.disk_model.proofs.Laws.{rest_keeps}
use Rattle.dir_file.specs.Loading.{SeesDirectory}
use Rattle.dir_file.proofs.Seen.{directory_behind}
use Rattle.store_commit.specs.Leaving.{LeavesNoMore}
use Rattle.store_commit.specs.DirectoryLooks.{Looks}
use Rattle.store_commit.proofs.Leavings.{left_then, rests_left, syncs_left}
use Rattle.store_commit.proofs.Mounting.{rests_pending}
use Rattle.store_commit.proofs.Syncing.{err_map, keeps_after, ok_map}
use Rattle.store_commit.proofs.sync.open_directory.Goals as goal

pub returns-in-Ok-clause-keeps : goal.returns-in-Ok-clause-keeps
returns-in-Ok-clause-keeps g c =
    let state = g.F.StoreFile.state in
    let a = state c.args.file in
    let b = state c.sync.new.self in
    ok_map c.load.result (λ d. Rests b (state d.file)) (λ d. Keeps Anywhere a (state d.file))
    (λ d rests. keeps_after a b (state d.file) c.in-Ok.ensures.synced rests (g.met.F.StoreFile.sound c.args.file) (g.met.F.StoreFile.sound c.sync.new.self)) c.load.ensures.rests

pub returns-in-Ok-clause-keeps_err : goal.returns-in-Ok-clause-keeps_err
returns-in-Ok-clause-keeps_err g c =
    let state = g.F.StoreFile.state in
    let a = state c.args.file in
    let b = state c.sync.new.self in
    err_map c.load.result (λ d. Rests b (state d.file)) (λ d. Keeps Anywhere a (state d.file))
    (λ d rests. keeps_after a b (state d.file) c.in-Ok.ensures.synced rests (g.met.F.StoreFile.sound c.args.file) (g.met.F.StoreFile.sound c.sync.new.self)) c.load.ensures.rests_err

pub returns-in-Err-clause-keeps_err : goal.returns-in-Err-clause-keeps_err
returns-in-Err-clause-keeps_err g c =
    rest_keeps (g.F.StoreFile.state c.args.file) (g.F.StoreFile.state c.sync.new.self) (g.met.F.StoreFile.sound c.args.file) c.in-Err.ensures.unsettled

pub returns-in-Ok-clause-unwritten : goal.returns-in-Ok-clause-unwritten
returns-in-Ok-clause-unwritten g c =
    let state = g.F.StoreFile.state in
    let a = state c.args.file in
    let b = state c.sync.new.self in
    ok_map c.load.result (λ d. Rests b (state d.file)) (λ d. pending (state d.file) ≡ []) (λ d rests. rests_pending a b (state d.file) c.in-Ok.ensures.synced rests) c.load.ensures.rests

pub returns-in-Ok-clause-seen : goal.returns-in-Ok-clause-seen
returns-in-Ok-clause-seen g c =
    let state = g.F.StoreFile.state in
    let a = state c.args.file in
    let b = state c.sync.new.self in
    let tsk = c.args.tsk.now in
    let root = c.args.root in
    ok_map c.load.result (λ d. SeesDirectory b (state d.file) tsk root d.dir.tree (Ok d.dir.entries)) (λ d. SeesDirectory a (state d.file) tsk root d.dir.tree (Ok d.dir.entries))
    (λ d seen. directory_behind a b (state d.file) tsk root d.dir.tree (Ok d.dir.entries) (g.met.F.StoreFile.sound c.args.file) c.in-Ok.ensures.synced seen) c.load.ensures.seen

pub returns-in-Ok-clause-left : goal.returns-in-Ok-clause-left
returns-in-Ok-clause-left g c =
    let state = g.F.StoreFile.state in
    let a = state c.args.file in
    let b = state c.sync.new.self in
    ok_map c.load.result (λ d. Rests b (state d.file)) (λ d. LeavesNoMore a (state d.file))
    (λ d rests. left_then a b (state d.file) rests.goes_on (syncs_left a b (g.met.F.StoreFile.sound c.args.file) c.in-Ok.ensures.synced) (rests_left b (state d.file) rests)) c.load.ensures.rests

pub returns-in-Ok-clause-left_err : goal.returns-in-Ok-clause-left_err
returns-in-Ok-clause-left_err g c =
    let state = g.F.StoreFile.state in
    let a = state c.args.file in
    let b = state c.sync.new.self in
    err_map c.load.result (λ d. Rests b (state d.file)) (λ d. LeavesNoMore a (state d.file))
    (λ d rests. left_then a b (state d.file) rests.goes_on (syncs_left a b (g.met.F.StoreFile.sound c.args.file) c.in-Ok.ensures.synced) (rests_left b (state d.file) rests)) c.load.ensures.rests_err

pub returns-in-Err-clause-left_err : goal.returns-in-Err-clause-left_err
returns-in-Err-clause-left_err g c = rests_left (g.F.StoreFile.state c.args.file) (g.F.StoreFile.state c.sync.new.self) c.in-Err.ensures.unsettled

pub returns-in-Ok-clause-looks : goal.returns-in-Ok-clause-looks
returns-in-Ok-clause-looks g c =
    let state = g.F.StoreFile.state in
    let a = state c.args.file in
    let b = state c.sync.new.self in
    ok_map c.load.result (λ d. Rests b (state d.file)) (λ d. Looks a (state d.file)) (λ d rests. record { mid = b; first = inr c.in-Ok.ensures.synced; behind = rests; sound = g.met.F.StoreFile.sound c.sync.new.self }) c.load.ensures.rests

pub returns-in-Ok-clause-looks_err : goal.returns-in-Ok-clause-looks_err
returns-in-Ok-clause-looks_err g c =
    let state = g.F.StoreFile.state in
    let a = state c.args.file in
    let b = state c.sync.new.self in
    err_map c.load.result (λ d. Rests b (state d.file)) (λ d. Looks a (state d.file)) (λ d rests. record { mid = b; first = inr c.in-Ok.ensures.synced; behind = rests; sound = g.met.F.StoreFile.sound c.sync.new.self }) c.load.ensures.rests_err

pub returns-in-Err-clause-looks_err : goal.returns-in-Err-clause-looks_err
returns-in-Err-clause-looks_err g c = record { mid = g.F.StoreFile.state c.sync.new.self; first = inl c.in-Err.ensures.unsettled; behind = rests_none (g.F.StoreFile.state c.sync.new.self); sound = g.met.F.StoreFile.sound c.sync.new.self }
