-- What a phase leaves over honest files.
use Rattle.std.proofs.Common.{ℕ, None, Option, Some, inl, refl}
use Rattle.core_laws.specs.Stores.{phase_of}
use Rattle.crash_core.specs.Pictures.{Picture}
use Rattle.hmac_keys.specs.declared.Keys.{Keys}
use Rattle.object_calls.specs.FinishedPhase.{IsMapLeft, IsMapWith, end_replay}
use Rattle.run_acts.proofs.Replays.{left_alike, replay_alike}
use Rattle.run_acts.specs.Left.{replay_left}
use Rattle.store_model.specs.Record.{events_of}
use Rattle.store_model.specs.ReplayState.{ReplayState, opening}
use Rattle.trusted_storage.specs.Laws.{PhasesEndLegal}
use Rattle.trusted_storage.proofs.Holding.{to_left}
use Rattle.trusted_storage.proofs.Legal.{legal_of}

left_of : (keys : Keys) (picture : Picture) (s : ReplayState) (doubt : Option ℕ) → IsMapWith keys picture s doubt → IsMapLeft keys picture s
left_of keys picture s None is = inl is
left_of keys picture s (Some commit) is = is

pub phases_end : PhasesEndLegal
phases_end store view files port doubt leaves honest =
    let end = leaves.honest honest in
    let apps = (store.mounted).applications in
    let first = opening (phase_of store) in
    let plain = opening (record { objects = store.objects; files = λ name. None; applications = apps; counter = 0 }) in
    record {
      legal = legal_of store store.objects apps view.all (events_of view.all) refl refl refl leaves.numbered end.events_legal;
      mounts = λ card picture has is.
          to_left store.keys picture (replay_left store.objects apps (events_of view.all))
          (left_alike store.keys picture (end_replay store view) (replay_left store.objects apps (events_of view.all)) (replay_alike first plain view.all (record { state = refl; doubt = tt }))
          (left_of store.keys picture (end_replay store view) doubt (end.mounts card picture has is)));
    }
