-- Short runs of one application, computed from the machine's definition.
use Rattle.std.proofs.Common.{◌≡◌, ℕ, List, [], ◌∷◌, None, replicate, refl, ap, lit<, lit≤, pos, negsuc}
use Rattle.std.proofs.lemmas.List.Elements.{All-nil}
use Rattle.tee_types.specs.Identifier.{IsIdentifier}
use Rattle.std.specs.List.Sorted.{IsStrictlySortedBy}
use Rattle.tee_types.specs.declared.flags.Flags.{Flags}
use Rattle.tee_types.specs.declared.call.Call.{Call}
use Rattle.tee_types.specs.declared.call.Call.TheVariants.{Create, Open, Close, Read, Write, Truncate, Seek, Rename, Delete, Info, EnumNew, EnumStart, EnumNext, EnumReset, EnumFree}
use Rattle.tee_types.specs.declared.call.Whence.TheVariants.{Set, Cur, End}
use Rattle.tee_types.specs.declared.reply.Reply.{Reply}
use Rattle.tee_types.specs.declared.reply.Reply.TheVariants.{Done, Handle as HandleReply, Content, Info as InfoReply, Found, Refused, Misuse, Corrupt}
use Rattle.tee_types.specs.declared.reply.Code.TheVariants.{AccessConflict, BadParameters, ItemNotFound, Overflow, NoSpace}
use Rattle.tee_types.specs.declared.reply.Reason.TheVariants.{BadHandle, BadEnumerator, BadFlags, NoRight, TooMany}
use Rattle.enumerators.specs.Enumeration.{no_enumerators}
use Rattle.store_model.specs.declared.session.Handle.{Handle}
use Rattle.store_model.specs.declared.event.Event.{Event}
use Rattle.store_model.specs.declared.event.Event.TheVariants.{Call as CallEvent}
use Rattle.store_model.specs.declared.event.Mark.TheVariants.{Unchanged, Made}
use Rattle.store_model.specs.declared.event.Mark.{Mark}
use Rattle.store_model.specs.Record.{untagged, fault_in_reply}
use Rattle.store_model.specs.Sound.{IsObject, IsObjectMap}
use Rattle.store_model.specs.Files.{file_named}
use Rattle.store_model.specs.ReplayState.{ReplayState, PhaseOpening, opening, replay}
use Rattle.store_model.specs.Legal.{IsTagged, IsLegalFrom}
use Rattle.store_model.specs.Legal.IsLegalAnswer.{Answered}
use Rattle.store_model.specs.LegalHistory.{IsLegal, opening_with}
use Rattle.store_model.specs.Commits.{commits_of, map_after}
use Rattle.store_model.specs.Object.{Sound, Damaged}
use Rattle.store_model.specs.Machine.{MachineState, opened_store}
use Rattle.store_model.specs.Handles.{create_of, open_of, close_of}
use Rattle.store_model.specs.Data.{read_of, write_of, truncate_of, seek_of, info_of}
use Rattle.store_model.specs.Naming.{rename_of, delete_of}
use Rattle.store_model.specs.Enumerating.{enum_new_of, enum_start_of, enum_next_of, enum_reset_of, enum_free_of}
use Rattle.store_model.specs.Calls.{reply_of, state_after}

-- the replies to these calls of the one session, in order
abbrev replies : MachineState → List Call → List Reply
replies s [] = []
replies s (call ∷ calls) = reply_of s 0 call ∷ replies (state_after s 0 call) calls

abbrev app : List ℕ
app = 0 ∷ 0 ∷ 0 ∷ 0 ∷ 0 ∷ 0 ∷ 0 ∷ 0 ∷ 0 ∷ 0 ∷ 0 ∷ 0 ∷ 0 ∷ 0 ∷ 0 ∷ 1 ∷ []

abbrev empty_store : MachineState
empty_store = opened_store [] (app ∷ [])

abbrev key : List ℕ
key = 0x6b ∷ []

abbrev flags : ℕ → Flags
flags bits = record { bits = bits }

-- the bits of r, rR, ro, m and w
abbrev r : Flags
r = flags 0x1

abbrev r-shared : Flags
r-shared = flags 0x11

abbrev r-over : Flags
r-over = flags 0x401

first_object : replies empty_store (Create key r (0 ∷ []) [] ∷ Read 0 4 ∷ Close 0 ∷ Open key r ∷ []) ≡ HandleReply 0 ∷ Content [] ∷ Done ∷ HandleReply 1 ∷ []
unfolding create_of open_of close_of read_of
first_object = refl

-- the same run as a history: the create is commit 1, and one object is left
abbrev first_events : List Event
first_events =
    CallEvent 0 0 (Create key r (0 ∷ []) []) (HandleReply 0) (Made 1)
    ∷ CallEvent 0 1 (Read 0 4) (Content []) Unchanged
    ∷ CallEvent 0 2 (Close 0) Done Unchanged
    ∷ CallEvent 0 3 (Open key r) (HandleReply 1) Unchanged
    ∷ []

-- the phase that opens with the empty store
abbrev first_phase : PhaseOpening
first_phase = record { objects = []; files = λ name. None; applications = app ∷ []; counter = 0 }

no_objects : IsObjectMap []
unfolding IsStrictlySortedBy
no_objects = record { few = lit≤ tt; rising = tt; named = All-nil (λ e. IsIdentifier (e.0).id); sound = All-nil (λ e. IsObject e.1) }

no_tag : (s : ReplayState) (call : Call) (reply : Reply) (mark : Mark) → file_named s.files s.state 0 call ≡ None → fault_in_reply reply ≡ None
    → IsTagged s 0 call reply mark None
no_tag s call reply mark none fault = record {
  own = λ number named. absurd (cc (named));
  needed = λ needed is. none;
  fault = λ number accused. absurd (cc (fault, accused));
}

first_events_legal : IsLegalFrom [] (opening first_phase) (untagged first_events)
unfolding create_of open_of close_of read_of
first_events_legal = (
  record { declared = lit< tt; tagged = no_tag _ _ _ _ refl refl; answer = Answered (record { replied = refl; marked = refl; counted = lit< tt }) },
  (
    record { declared = lit< tt; tagged = no_tag _ _ _ _ refl refl; answer = Answered (record { replied = refl; marked = refl; counted = lit< tt }) },
    (
      record { declared = lit< tt; tagged = no_tag _ _ _ _ refl refl; answer = Answered (record { replied = refl; marked = refl; counted = lit< tt }) },
      (record { declared = lit< tt; tagged = no_tag _ _ _ _ refl refl; answer = Answered (record { replied = refl; marked = refl; counted = lit< tt }) }, tt),
    ),
  ),
)

commits_of_first_object : commits_of first_events ≡ CallEvent 0 0 (Create key r (0 ∷ []) []) (HandleReply 0) (Made 1) ∷ []
commits_of_first_object = refl

map_after_first_object : (legal : IsLegal first_phase [] (untagged first_events) None) → legal.begins ≡ []
    → map_after legal ≡ (record { app = app; id = key }, Sound (record { attributes = 0 ∷ []; bytes = []; bad = [] })) ∷ []
unfolding create_of open_of close_of read_of
map_after_first_object legal is = ap (λ begins. ((replay (opening_with first_phase begins) (untagged first_events)).state).objects) is

-- a create is refused while the object is open, and without OVERWRITE
overwrite_needs_no_handle : replies empty_store (Create key r [] (1 ∷ []) ∷ Create key r [] (2 ∷ []) ∷ Create key r-over [] (2 ∷ []) ∷ Close 0 ∷ Create key r-over [] (2 ∷ []) ∷ Read 1 4 ∷ []) ≡ HandleReply 0 ∷ Refused AccessConflict ∷ Refused AccessConflict ∷ Done ∷ HandleReply 1 ∷ Content (2 ∷ []) ∷ []
unfolding create_of open_of close_of read_of
overwrite_needs_no_handle = refl

-- each handle has to share what the other has
sharing : replies empty_store (Create key r [] [] ∷ Open key r-shared ∷ Close 0 ∷ Open key r-shared ∷ Open key r ∷ Open key r-shared ∷ Open key (flags 0x32) ∷ Open key (flags 0x4) ∷ Open key (flags 0x8) ∷ Open key r-over ∷ []) ≡ HandleReply 0 ∷ Refused AccessConflict ∷ Done ∷ HandleReply 1 ∷ Refused AccessConflict ∷ HandleReply 2 ∷ Refused AccessConflict ∷ Refused AccessConflict ∷ Misuse BadFlags ∷ Misuse BadFlags ∷ []
unfolding create_of open_of close_of read_of
sharing = refl

-- fewer bytes near the end, none at it and past it
reads : replies empty_store (Create key r [] (1 ∷ 2 ∷ 3 ∷ 4 ∷ 5 ∷ []) ∷ Read 0 0 ∷ Read 0 3 ∷ Read 0 9 ∷ Read 0 1 ∷ Read 0 4294967295 ∷ []) ≡ HandleReply 0 ∷ Content [] ∷ Content (1 ∷ 2 ∷ 3 ∷ []) ∷ Content (4 ∷ 5 ∷ []) ∷ Content [] ∷ Content [] ∷ []
unfolding create_of open_of close_of read_of
reads = refl

-- a read wants a live handle that has READ
misuses : replies empty_store (Read 0 1 ∷ Close 0 ∷ Open key r ∷ Create key (flags 0x2) [] (1 ∷ []) ∷ Read 0 1 ∷ Close 0 ∷ Close 0 ∷ Read 0 1 ∷ []) ≡ Misuse BadHandle ∷ Misuse BadHandle ∷ Refused ItemNotFound ∷ HandleReply 0 ∷ Misuse NoRight ∷ Done ∷ Misuse BadHandle ∷ Misuse BadHandle ∷ []
unfolding create_of open_of close_of read_of
misuses = refl

-- attributes and data at their limits and above
limits : replies empty_store (Create key r (replicate 2049 0) [] ∷ Create key r (replicate 2048 0) [] ∷ []) ≡ Refused BadParameters ∷ HandleReply 0 ∷ []
unfolding create_of
limits = refl

handle : Handle
handle = record { name = record { app = app; id = key }; flags = r-shared; position = 0 }

abbrev with_handles : ℕ → ℕ → MachineState
with_handles n next = record {
  objects = [];
  sessions = record { application = app; handles = replicate n (7, handle); next_handle = next; enumerators = no_enumerators } ∷ [];
}

live_handles : reply_of (with_handles 1024 1024) 0 (Create key r [] []) ≡ Misuse TooMany
unfolding create_of
live_handles = refl

last_handle : reply_of (with_handles 1023 1023) 0 (Create key r [] []) ≡ HandleReply 1023
unfolding create_of
last_handle = refl

numbers_given : reply_of (with_handles 0 4294967295) 0 (Create key r [] []) ≡ Misuse TooMany
unfolding create_of
numbers_given = refl

last_number : reply_of (with_handles 0 4294967294) 0 (Create key r [] []) ≡ HandleReply 4294967294
unfolding create_of
last_number = refl

-- bytes of a bad block are not given, others of the object are
abbrev damaged : MachineState
damaged = record {
  objects = (record { app = app; id = key }, Sound (record { attributes = []; bytes = replicate 4098 0; bad = 1 ∷ [] }))
      ∷ (record { app = app; id = 0x6c ∷ [] }, Damaged 5) ∷ [];
  sessions = record {
    application = app;
    handles = (0, record { name = record { app = app; id = key }; flags = r-shared; position = 4095 }) ∷ (1, record { name = record { app = app; id = key }; flags = r-shared; position = 4096 }) ∷ [];
    next_handle = 2;
    enumerators = no_enumerators;
  } ∷ [];
}

bad_blocks : replies damaged (Read 0 1 ∷ Read 1 9 ∷ Open (0x6c ∷ []) r ∷ Open key r-shared ∷ []) ≡ Corrupt ∷ Content (0 ∷ 0 ∷ []) ∷ Corrupt ∷ HandleReply 2 ∷ []
unfolding open_of read_of
bad_blocks = refl

abbrev rw : Flags
rw = flags 0x3

-- zero bytes between the old end and the position
zero_fill : replies empty_store (Create key rw [] [] ∷ Seek 0 (pos 5) Set ∷ Write 0 (0xff ∷ []) ∷ Info 0 ∷ Seek 0 (pos 3) Set ∷ Read 0 8 ∷ []) ≡ HandleReply 0 ∷ Done ∷ Done ∷ InfoReply 6 6 rw [] ∷ Done ∷ Content (0 ∷ 0 ∷ 0xff ∷ []) ∷ []
unfolding create_of seek_of write_of info_of read_of
zero_fill = refl

overflow_and_no_space : replies empty_store (Create key rw [] [] ∷ Seek 0 (pos 4294967295) Set ∷ Write 0 (0 ∷ []) ∷ Info 0 ∷ Seek 0 (pos 1) Cur ∷ Write 0 [] ∷ Seek 0 (pos 4294967294) Set ∷ Write 0 (0 ∷ []) ∷ []) ≡ HandleReply 0 ∷ Done ∷ Refused Overflow ∷ InfoReply 0 4294967295 rw [] ∷ Refused Overflow ∷ Done ∷ Done ∷ Refused NoSpace ∷ []
unfolding create_of seek_of write_of info_of
overflow_and_no_space = refl

seek_clamps_at_zero : replies empty_store (Create key r [] (1 ∷ 2 ∷ 3 ∷ 4 ∷ 5 ∷ []) ∷ Seek 0 (pos 3) Set ∷ Seek 0 (negsuc 8) Cur ∷ Info 0 ∷ Seek 0 (negsuc 1) End ∷ Read 0 9 ∷ []) ≡ HandleReply 0 ∷ Done ∷ Done ∷ InfoReply 5 0 r [] ∷ Done ∷ Content (4 ∷ 5 ∷ []) ∷ []
unfolding create_of seek_of info_of read_of
seek_clamps_at_zero = refl

shrink_and_grow : replies empty_store (Create key rw [] (1 ∷ 2 ∷ 3 ∷ 4 ∷ 5 ∷ []) ∷ Truncate 0 2 ∷ Truncate 0 4 ∷ Truncate 0 1044481 ∷ Read 0 9 ∷ []) ≡ HandleReply 0 ∷ Done ∷ Done ∷ Refused NoSpace ∷ Content (1 ∷ 2 ∷ 0 ∷ 0 ∷ []) ∷ []
unfolding create_of truncate_of read_of
shrink_and_grow = refl

rename_and_delete : replies empty_store (Create key (flags 0x4) [] [] ∷ Rename 0 key ∷ Rename 0 (0x6c ∷ []) ∷ Close 0 ∷ Open (0x6c ∷ []) r ∷ Rename 1 (0x6d ∷ []) ∷ Delete 1 ∷ Open key r ∷ Close 1 ∷ Open (0x6c ∷ []) (flags 0x4) ∷ Delete 2 ∷ Close 2 ∷ []) ≡ HandleReply 0 ∷ Refused AccessConflict ∷ Done ∷ Done ∷ HandleReply 1 ∷ Misuse NoRight ∷ Misuse NoRight ∷ Refused ItemNotFound ∷ Done ∷ HandleReply 2 ∷ Done ∷ Misuse BadHandle ∷ []
unfolding create_of open_of close_of rename_of delete_of
rename_and_delete = refl

-- an enumerator follows the store, and gives each identifier above the last one
enumerator_follows_the_store : replies empty_store (EnumNew ∷ EnumStart 0 ∷ Create (0x6d ∷ []) r [] [] ∷ EnumNext 0 ∷ EnumStart 0 ∷ EnumNext 0 ∷ Create (0x61 ∷ []) r [] (1 ∷ []) ∷ EnumNext 0 ∷ Create (0x7a ∷ []) r [] (1 ∷ 2 ∷ []) ∷ EnumNext 0 ∷ EnumReset 0 ∷ EnumNext 0 ∷ EnumFree 0 ∷ EnumNext 0 ∷ []) ≡ HandleReply 0 ∷ Refused ItemNotFound ∷ HandleReply 0 ∷ Refused ItemNotFound ∷ Done ∷ Found (0x6d ∷ []) 0 ∷ HandleReply 1 ∷ Refused ItemNotFound ∷ HandleReply 2 ∷ Found (0x7a ∷ []) 2 ∷ Done ∷ Refused ItemNotFound ∷ Done ∷ Misuse BadEnumerator ∷ []
unfolding create_of enum_new_of enum_start_of enum_next_of enum_reset_of enum_free_of
enumerator_follows_the_store = refl

-- of the two data blocks of an object the first is bad; handle 0 writes at position 0
abbrev first_bad : MachineState
first_bad = record {
  objects = (record { app = app; id = key }, Sound (record { attributes = []; bytes = replicate 8192 0; bad = 1 ∷ [] })) ∷ [];
  sessions = record {
    application = app;
    handles = (0, record { name = record { app = app; id = key }; flags = rw; position = 0 }) ∷ [];
    next_handle = 1;
    enumerators = no_enumerators;
  } ∷ [];
}

-- a bad block is mended where it is overwritten whole, and goes where it is cut away; a change of a part of it is refused
bad_block_overwritten : replies first_bad (Read 0 1 ∷ Write 0 (replicate 4095 7) ∷ Write 0 (replicate 4096 7) ∷ Seek 0 (pos 4095) Set ∷ Read 0 2 ∷ []) ≡ Corrupt ∷ Corrupt ∷ Done ∷ Done ∷ Content (7 ∷ 0 ∷ []) ∷ []
unfolding read_of write_of seek_of
bad_block_overwritten = refl

bad_block_cut : replies first_bad (Truncate 0 4095 ∷ Truncate 0 4096 ∷ Truncate 0 4097 ∷ Read 0 1 ∷ Truncate 0 0 ∷ Truncate 0 1 ∷ Read 0 2 ∷ []) ≡ Corrupt ∷ Done ∷ Done ∷ Corrupt ∷ Done ∷ Done ∷ Content (0 ∷ []) ∷ []
unfolding read_of truncate_of
bad_block_cut = refl
