-- What a commit that is made does to its session.
use Rattle.std.specs.Prelude.{◌≡◌, ◌+◌, false, [], ◌∷◌, ◌++◌, IsSome}
use Rattle.store_model.specs.Machine.{Session, handle_at, has_all_handles, with_handle, without_handle}
use Rattle.commit_gate.specs.declared.session_moves.SessionMove.{SessionMove}
use Rattle.commit_gate.specs.declared.session_moves.SessionMove.TheVariants.{Stays, Opens, Replaces, Closes}

-- the session behind it
abbrev pub moved_by : Session → SessionMove → Session
moved_by s Stays = s
moved_by s (Opens name flags) = record s {
  handles = s.handles ++ (s.next_handle, record { name = name; flags = flags; position = 0 }) ∷ [];
  next_handle = s.next_handle + 1;
}
moved_by s (Replaces number handle) = with_handle s number handle
moved_by s (Closes number) = without_handle s number

-- a handle may be given, or the handle is live
abbrev pub MayMove : Session → SessionMove → Type 0
MayMove s Stays = Unit {0}
MayMove s (Opens name flags) = has_all_handles s ≡ false
MayMove s (Replaces number handle) = IsSome (handle_at s number)
MayMove s (Closes number) = IsSome (handle_at s number)
