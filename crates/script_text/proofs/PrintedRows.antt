-- Printed forms and the text of a short phase, computed from the definitions.
use Rattle.std.proofs.Common.{◌≡◌, List, [], ◌∷◌, ◌++◌, map, replicate, pos, negsuc, refl}
use Rattle.std.specs.Prelude.{codes}
use Rattle.std.specs.Fmt.{digits}
use Rattle.hex.specs.Hex.{encode_with}
use Rattle.uuid.specs.Text.{by_index}
use Rattle.tee_types.specs.declared.call.Call.TheVariants.{Create, Open, Close, Read, Write, Truncate, Seek, Rename, Delete, Info, EnumNew, EnumStart, EnumNext, EnumReset, EnumFree}
use Rattle.tee_types.specs.declared.call.Whence.TheVariants.{Set, Cur, End}
use Rattle.tee_types.specs.declared.reply.Reply.TheVariants.{Done, Handle, Content, Info as InfoReply, Found, Refused, Misuse, Corrupt, NotAvailable, CounterSpent, NoMemory}
use Rattle.tee_types.specs.declared.reply.Code.TheVariants.{NoSpace}
use Rattle.tee_types.specs.declared.reply.Reason.TheVariants.{TooMany}
use Rattle.tee_types.specs.declared.reply.Device.TheVariants.{Dir, File, Card}
use Rattle.tee_types.specs.declared.reply.Cause.TheVariants.{Fault, CardResult}
use Rattle.store_model.specs.declared.event.Event.{Event}
use Rattle.store_model.specs.declared.event.Event.TheVariants.{Call as CallEvent, Landed}
use Rattle.store_model.specs.declared.event.Mark.TheVariants.{Unchanged, Made}
use Rattle.script_text.specs.declared.script.Arm.TheVariants.{Stop, Fail, Lose, Taint}
use Rattle.script_text.specs.declared.script.Control.TheVariants.{Mode as ModeControl, Phase, Arm as ArmControl, Crash, Save, Restore, Flip, Quota, List as ListControl}
use Rattle.script_text.specs.declared.script.Mode.TheVariants.{Serial, Threads}
use Rattle.script_text.specs.Script.{ScriptValue}
use Rattle.script_text.specs.Forms.{uuid_text, flags_text, call_text, reply_text}
use Rattle.script_text.specs.Text.{event_text, events_text, phase_line, control_line}

calls : map call_text
    (Create (0x6b ∷ []) (record { bits = 1 }) (0 ∷ []) [] ∷ Open (0x6b ∷ []) (record { bits = 0x8 }) ∷ Close 0 ∷ Read 0 4
    ∷ Write 0 [] ∷ Write 4294967295 (0xaa ∷ []) ∷ Truncate 0 10 ∷ Seek 0 (pos 0) Set ∷ Seek 1 (negsuc 8) Cur ∷ Seek 2 (pos 9223372036854775807) End
    ∷ Rename 0 (0x6b ∷ 0xff ∷ []) ∷ Delete 1 ∷ Info 2 ∷ EnumNew ∷ EnumStart 0 ∷ EnumNext 1 ∷ EnumReset 2 ∷ EnumFree 3 ∷ [])
    ≡ codes "create 6b r 00 -" ∷ codes "open 6b 0x00000008" ∷ codes "close 0" ∷ codes "read 0 4"
    ∷ codes "write 0 -" ∷ codes "write 4294967295 aa" ∷ codes "truncate 0 10" ∷ codes "seek 0 0 set" ∷ codes "seek 1 -9 cur" ∷ codes "seek 2 9223372036854775807 end"
    ∷ codes "rename 0 6bff" ∷ codes "delete 1" ∷ codes "info 2" ∷ codes "enum" ∷ codes "start 0" ∷ codes "next 1" ∷ codes "reset 2" ∷ codes "free 3" ∷ []
unfolding digits encode_with flags_text call_text
calls = refl

flags : map (λ bits. flags_text (record { bits = bits })) (0 ∷ 0x1 ∷ 0x437 ∷ 0x400 ∷ 0x8 ∷ 0x408 ∷ 0xffffffff ∷ [])
    ≡ codes "-" ∷ codes "r" ∷ codes "rwmRWo" ∷ codes "o" ∷ codes "0x00000008" ∷ codes "0x00000408" ∷ codes "0xffffffff" ∷ []
unfolding encode_with flags_text
flags = refl

replies : map reply_text
    (InfoReply 32 5 (record { bits = 1 }) (0xa0 ∷ []) ∷ Found (0x6d ∷ []) 7 ∷ Refused NoSpace ∷ Misuse TooMany ∷ Corrupt
    ∷ NotAvailable (Fault (File 272) 3) ∷ NotAvailable (Fault Dir 1) ∷ NotAvailable (CardResult 0x85)
    ∷ CounterSpent 4294967295 ∷ NoMemory ∷ [])
    ≡ codes "ok 32 5 r a0" ∷ codes "ok 6d 7" ∷ codes "STORAGE_NO_SPACE" ∷ codes "misuse TOO_MANY" ∷ codes "CORRUPT_OBJECT"
    ∷ codes "STORAGE_NOT_AVAILABLE file 272 3" ∷ codes "STORAGE_NOT_AVAILABLE dir 1" ∷ codes "STORAGE_NOT_AVAILABLE result 0x0085"
    ∷ codes "counter-spent 4294967295" ∷ codes "no-memory" ∷ []
unfolding digits encode_with flags_text reply_text
replies = refl

abbrev names_of_a : ScriptValue
names_of_a = record { applications = record { name = codes "a"; app = [] } ∷ []; steps = [] }

landed : event_text names_of_a 12 (Landed 3) ≡ codes "12 - landed 3\n"
unfolding digits event_text
landed = refl

abbrev first_events : List Event
first_events =
    CallEvent 0 0 (Create (0x6b ∷ []) (record { bits = 1 }) (0 ∷ []) []) (Handle 0) (Made 1)
    ∷ CallEvent 0 1 (Read 0 4) (Content []) Unchanged
    ∷ CallEvent 0 2 (Close 0) Done Unchanged
    ∷ CallEvent 0 3 (Open (0x6b ∷ []) (record { bits = 1 })) (Handle 1) Unchanged
    ∷ []

-- the text of a phase
first_output : phase_line 0 Serial 0 ++ events_text names_of_a 0 first_events
    ≡ codes "# phase 0 serial objects 0\n0 a create 6b r 00 - -> ok 0\n1 a read 0 4 -> ok -\n2 a close 0 -> ok\n3 a open 6b r -> ok 1\n"
unfolding digits encode_with flags_text call_text reply_text event_text events_text phase_line
first_output = refl

threads_phase : phase_line 18446744073709551615 Threads 256 ≡ codes "# phase 18446744073709551615 threads objects 256\n"
unfolding digits phase_line
threads_phase = refl

controls : map control_line
    (ModeControl Serial ∷ ModeControl Threads ∷ Phase ∷ ArmControl (Stop Dir 5) ∷ ArmControl (Stop (File 12) 0) ∷ ArmControl (Fail Card 3) ∷ ArmControl (Fail (File 272) 4294967295)
    ∷ ArmControl (Lose 1) ∷ Crash 7 ∷ Crash 18446744073709551615 ∷ ListControl
    ∷ ArmControl (Taint Dir 1 0 []) ∷ ArmControl (Taint (File 7) 2 53248 (1 ∷ 255 ∷ [])) ∷ Save (codes "m_1") ∷ Restore (File 272) (codes "list") ∷ Restore Dir (codes "m_1")
    ∷ Flip (File 1) 4294967295 (0 ∷ []) ∷ Flip Dir 4096 [] ∷ [])
    ≡ codes "# serial\n" ∷ codes "# threads\n" ∷ codes "# phase\n" ∷ codes "# stop dir 5\n" ∷ codes "# stop 12 0\n" ∷ codes "# fail card 3\n" ∷ codes "# fail 272 4294967295\n"
    ∷ codes "# lose card 1\n" ∷ codes "# crash 7\n" ∷ codes "# crash 18446744073709551615\n" ∷ codes "# list\n"
    ∷ codes "# taint dir 1 0 -\n" ∷ codes "# taint 7 2 53248 01ff\n" ∷ codes "# save m_1\n" ∷ codes "# restore 272 list\n" ∷ codes "# restore dir m_1\n"
    ∷ codes "# flip 1 4294967295 00\n" ∷ codes "# flip dir 4096 -\n" ∷ []
unfolding digits encode_with
controls = refl

quotas : map control_line
    (Quota (0 ∷ 1 ∷ 35 ∷ 69 ∷ 103 ∷ 137 ∷ 171 ∷ 205 ∷ 239 ∷ 255 ∷ 0 ∷ 0 ∷ 0 ∷ 0 ∷ 0 ∷ 160 ∷ []) 256 4294967295 ∷ Quota (replicate 16 0) 0 0 ∷ [])
    ≡ codes "# quota 00012345-6789-abcd-efff-0000000000a0 256 4294967295\n" ∷ codes "# quota 00000000-0000-0000-0000-000000000000 0 0\n" ∷ []
unfolding by_index digits uuid_text
quotas = refl
