-- The printed forms of flags, calls, controls and replies.
use Rattle.std.specs.Prelude.{ℕ, ◌==◌, List, [], ◌∷◌, ◌++◌, if◌then◌else◌, codes, decimal}
use Rattle.std.specs.Fmt.{signed_decimal}
use Rattle.std.specs.Int.{w32, w16, to_be_bytes}
use Rattle.hex.specs.Hex.{encode_lower}
use Rattle.uuid.specs.Text.{hyphenated_text, lower}
use Rattle.tee_types.specs.declared.flags.Flags.{Flags}
use Rattle.tee_types.specs.declared.call.Call.{Call}
use Rattle.tee_types.specs.declared.call.Call.TheVariants.{Create, Open, Close, Read, Write, Truncate, Seek, Rename, Delete, Info, EnumNew, EnumStart, EnumNext, EnumReset, EnumFree}
use Rattle.tee_types.specs.declared.call.Whence.{Whence}
use Rattle.tee_types.specs.declared.call.Whence.TheVariants.{Set, Cur, End}
use Rattle.tee_types.specs.declared.reply.Reply.{Reply}
use Rattle.tee_types.specs.declared.reply.Reply.TheVariants.{Done, Handle, Content, Info as InfoReply, Found, Refused, Misuse, Corrupt, NotAvailable, CounterSpent, NoMemory}
use Rattle.tee_types.specs.declared.reply.Code.{Code}
use Rattle.tee_types.specs.declared.reply.Code.TheVariants.{AccessConflict, BadParameters, ItemNotFound, Overflow, NoSpace}
use Rattle.tee_types.specs.declared.reply.Reason.{Reason}
use Rattle.tee_types.specs.declared.reply.Reason.TheVariants.{BadHandle, BadEnumerator, BadFlags, NoRight, TooMany}
use Rattle.tee_types.specs.declared.reply.Device.{Device}
use Rattle.tee_types.specs.declared.reply.Device.TheVariants.{Dir, File, Card, Entropy}
use Rattle.tee_types.specs.declared.reply.Cause.{Cause}
use Rattle.tee_types.specs.declared.reply.Cause.TheVariants.{Fault, Frame, CardResult}
use Rattle.tee_types.specs.Rights.{read_bit, write_bit, write_meta_bit, share_read_bit, share_write_bit, overwrite_bit, has, is_known}
use Rattle.script_text.specs.declared.script.Control.{Control}
use Rattle.script_text.specs.declared.script.Control.TheVariants.{Mode as ModeControl, Phase, Arm as ArmControl, Crash, Save, Restore, Flip, Quota, List as ListControl}
use Rattle.script_text.specs.declared.script.Mode.{Mode}
use Rattle.script_text.specs.declared.script.Mode.TheVariants.{Serial, Threads}
use Rattle.script_text.specs.declared.script.Arm.{Arm}
use Rattle.script_text.specs.declared.script.Arm.TheVariants.{Stop, Fail, Lose, Taint}

-- an application's UUID, hyphenated, in small letters
unfoldable pub uuid_text : List ℕ → List ℕ
uuid_text app = hyphenated_text lower app

-- bytes in hex, small letters; no bytes as `-`
abbrev pub bytes_text : List ℕ → List ℕ
bytes_text [] = codes "-"
bytes_text (byte ∷ bytes) = encode_lower (byte ∷ bytes)

-- the letter, where the bits are set
abbrev pub letter : Flags → ℕ → ℕ → List ℕ
letter flags bits code = if has flags bits then code ∷ [] else []

-- the letters r w m R W o of the bits that are set
abbrev pub letters_text : Flags → List ℕ
letters_text flags =
    letter flags read_bit 114 ++ letter flags write_bit 119 ++ letter flags write_meta_bit 109
    ++ letter flags share_read_bit 82 ++ letter flags share_write_bit 87 ++ letter flags overwrite_bit 111

-- letters, `-` for no bit, or `0x` and eight digits where a bit outside the six is set
unfoldable pub flags_text : Flags → List ℕ
flags_text flags =
    if flags.bits == 0 then codes "-"
    else if is_known flags then letters_text flags
    else codes "0x" ++ encode_lower (to_be_bytes w32 flags.bits)

-- the place from which a seek counts
abbrev pub whence_text : Whence → List ℕ
whence_text Set = codes "set"
whence_text Cur = codes "cur"
whence_text End = codes "end"

-- the words of a call, behind the name of its application
unfoldable pub call_text : Call → List ℕ
call_text (Create id flags attributes bytes) =
    codes "create " ++ encode_lower id ++ codes " " ++ flags_text flags ++ codes " " ++ bytes_text attributes ++ codes " " ++ bytes_text bytes
call_text (Open id flags) = codes "open " ++ encode_lower id ++ codes " " ++ flags_text flags
call_text (Close handle) = codes "close " ++ decimal handle
call_text (Read handle size) = codes "read " ++ decimal handle ++ codes " " ++ decimal size
call_text (Write handle bytes) = codes "write " ++ decimal handle ++ codes " " ++ bytes_text bytes
call_text (Truncate handle size) = codes "truncate " ++ decimal handle ++ codes " " ++ decimal size
call_text (Seek handle offset whence) =
    codes "seek " ++ decimal handle ++ codes " " ++ signed_decimal offset ++ codes " " ++ whence_text whence
call_text (Rename handle id) = codes "rename " ++ decimal handle ++ codes " " ++ encode_lower id
call_text (Delete handle) = codes "delete " ++ decimal handle
call_text (Info handle) = codes "info " ++ decimal handle
call_text EnumNew = codes "enum"
call_text (EnumStart number) = codes "start " ++ decimal number
call_text (EnumNext number) = codes "next " ++ decimal number
call_text (EnumReset number) = codes "reset " ++ decimal number
call_text (EnumFree number) = codes "free " ++ decimal number

-- a device as controls name it
abbrev pub device_word : Device → List ℕ
device_word Dir = codes "dir"
device_word (File number) = decimal number
device_word Card = codes "card"
device_word Entropy = codes "entropy"

-- the words of the control that arms a device
abbrev pub arm_text : Arm → List ℕ
arm_text (Stop device calls) = codes "stop " ++ device_word device ++ codes " " ++ decimal calls
arm_text (Fail device call) = codes "fail " ++ device_word device ++ codes " " ++ decimal call
arm_text (Lose call) = codes "lose card " ++ decimal call
arm_text (Taint file call at mask) = codes "taint " ++ device_word file ++ codes " " ++ decimal call ++ codes " " ++ decimal at ++ codes " " ++ bytes_text mask

-- the word of a mode
abbrev pub mode_text : Mode → List ℕ
mode_text Serial = codes "serial"
mode_text Threads = codes "threads"

-- the words of a control
abbrev pub control_text : Control → List ℕ
control_text (ModeControl mode) = mode_text mode
control_text Phase = codes "phase"
control_text (ArmControl arm) = arm_text arm
control_text (Crash seed) = codes "crash " ++ decimal seed
control_text (Save mark) = codes "save " ++ mark
control_text (Restore file mark) = codes "restore " ++ device_word file ++ codes " " ++ mark
control_text (Flip file at mask) = codes "flip " ++ device_word file ++ codes " " ++ decimal at ++ codes " " ++ bytes_text mask
control_text (Quota app objects bytes) = codes "quota " ++ uuid_text app ++ codes " " ++ decimal objects ++ codes " " ++ decimal bytes
control_text ListControl = codes "list"

abbrev pub code_text : Code → List ℕ
code_text AccessConflict = codes "ACCESS_CONFLICT"
code_text BadParameters = codes "BAD_PARAMETERS"
code_text ItemNotFound = codes "ITEM_NOT_FOUND"
code_text Overflow = codes "OVERFLOW"
code_text NoSpace = codes "STORAGE_NO_SPACE"

abbrev pub reason_text : Reason → List ℕ
reason_text BadHandle = codes "BAD_HANDLE"
reason_text BadEnumerator = codes "BAD_ENUMERATOR"
reason_text BadFlags = codes "BAD_FLAGS"
reason_text NoRight = codes "NO_RIGHT"
reason_text TooMany = codes "TOO_MANY"

abbrev pub device_text : Device → List ℕ
device_text Dir = codes "dir"
device_text (File number) = codes "file " ++ decimal number
device_text Card = codes "card"
device_text Entropy = codes "entropy"

abbrev pub cause_text : Cause → List ℕ
cause_text (Fault device count) = device_text device ++ codes " " ++ decimal count
cause_text (Frame fault) = codes "frame"
cause_text (CardResult value) = codes "result 0x" ++ encode_lower (to_be_bytes w16 value)

-- what `info` answers
abbrev pub info_text : ℕ → ℕ → Flags → List ℕ → List ℕ
info_text size position flags attributes =
    codes "ok " ++ decimal size ++ codes " " ++ decimal position ++ codes " " ++ flags_text flags ++ codes " " ++ bytes_text attributes

unfoldable pub reply_text : Reply → List ℕ
reply_text Done = codes "ok"
reply_text (Handle number) = codes "ok " ++ decimal number
reply_text (Content bytes) = codes "ok " ++ bytes_text bytes
reply_text (InfoReply size position flags attributes) = info_text size position flags attributes
reply_text (Found id size) = codes "ok " ++ encode_lower id ++ codes " " ++ decimal size
reply_text (Refused code) = code_text code
reply_text (Misuse reason) = codes "misuse " ++ reason_text reason
reply_text Corrupt = codes "CORRUPT_OBJECT"
reply_text (NotAvailable cause) = codes "STORAGE_NOT_AVAILABLE " ++ cause_text cause
reply_text (CounterSpent counter) = codes "counter-spent " ++ decimal counter
reply_text NoMemory = codes "no-memory"
