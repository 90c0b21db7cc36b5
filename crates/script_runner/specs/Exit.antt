-- What the program says of a status: its exit status, and a text on standard error.
use Rattle.std.specs.Prelude.{ℕ, List, codes}
use Rattle.script_runner.specs.declared.status.Status.{Status}
use Rattle.script_runner.specs.declared.status.Excess.TheVariants.{Bytes, Apps}
use Rattle.script_runner.specs.declared.status.Status.TheVariants.{Done, Usage, BadLine, ReadFault, WriteFault, TooLong, NoMemory, MountRefused, DeviceFault, FileFault, CardMapRefused, OverCommitted}

abbrev pub status_number : Status → ℕ
status_number Done = 0
status_number Usage = 2
status_number (BadLine line) = 3
status_number ReadFault = 4
status_number WriteFault = 5
status_number (MountRefused fault) = 6
status_number (DeviceFault fault) = 7
status_number (FileFault fault) = 7
status_number (CardMapRefused block offset) = 6
status_number (TooLong excess) = 8
status_number NoMemory = 9
status_number (OverCommitted sum) = 10

abbrev pub status_text : Status → List ℕ
status_text Done = codes ""
status_text Usage = codes "usage: tee_run run | tee_run soak N | tee_run migrate | tee_run export PATH | tee_run audit PATH | tee_run card"
status_text (BadLine line) = codes "bad line"
status_text ReadFault = codes "read fault"
status_text WriteFault = codes "write fault"
status_text (TooLong Bytes) = codes "script too long"
status_text (TooLong (Apps n)) = codes "too many applications"
status_text NoMemory = codes "no memory"
status_text (MountRefused fault) = codes "mount refused"
status_text (DeviceFault fault) = codes "device fault"
status_text (FileFault fault) = codes "device fault"
status_text (CardMapRefused block offset) = codes "mount refused"
status_text (OverCommitted sum) = codes "quotas exceed 256 objects"
