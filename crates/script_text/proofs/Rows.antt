-- Short scripts, and what they are, computed from the definitions.
use Rattle.std.proofs.Common.{◌≡◌, ℕ, true, false, List, [], ◌∷◌, ◌++◌, map, replicate, Some, None, Result, Ok, Err, pos, negsuc, refl}
use Rattle.std.specs.Prelude.{codes}
use Rattle.std.specs.List.{flat_map}
use Rattle.hex.specs.Hex.{decode_pairs}
use Rattle.uuid.specs.Text.{by_index}
use Rattle.tee_types.specs.declared.call.Call.{Call}
use Rattle.tee_types.specs.declared.call.Call.TheVariants.{Create, Open, Close, Read, Write, Truncate, Seek, Rename, Delete, Info, EnumNew, EnumStart, EnumNext, EnumReset, EnumFree}
use Rattle.tee_types.specs.declared.call.Whence.TheVariants.{Set, Cur, End}
use Rattle.tee_types.specs.declared.reply.Device.TheVariants.{Dir, File, Card}
use Rattle.script_text.specs.declared.reading.ScriptFault.{ScriptFault}
use Rattle.script_text.specs.declared.reading.ScriptFault.TheVariants.{BadLine, TooManyApps}
use Rattle.script_text.specs.declared.script.Arm.TheVariants.{Stop, Fail, Lose, Taint}
use Rattle.script_text.specs.declared.script.Control.TheVariants.{Mode as ModeControl, Phase, Arm as ArmControl, Crash, Save, Restore, Flip, Quota, List as ListControl}
use Rattle.script_text.specs.declared.script.Mode.TheVariants.{Serial, Threads}
use Rattle.script_text.specs.declared.script.Step.{Step}
use Rattle.script_text.specs.declared.script.Step.TheVariants.{Call as CallStep, Control as ControlStep}
use Rattle.script_text.specs.Lines.{words_of}
use Rattle.script_text.specs.Words.{is_name, mark_of, mask_of, id_of, bytes_of, numeral_of, positive_of, file_of, device_of, offset_of, whence_of, letter_flags_of, bits_of, flags_of}
use Rattle.script_text.specs.Script.{ScriptValue, no_script}
use Rattle.script_text.specs.Calls.{create_words, open_words, write_words, seek_words, rename_words, one_number, two_numbers, verb_of, call_words}
use Rattle.script_text.specs.Controls.{stop_words, fail_words, lose_words, taint_words, crash_words, save_words, restore_words, flip_words, quota_words, control_verb_of, control_of}
use Rattle.script_text.specs.Grammar.{call_line, app_line, control_line, step_line, words_line, line_of, script_from, script_of}

abbrev app : List ℕ
app = 0 ∷ 0 ∷ 0 ∷ 0 ∷ 0 ∷ 0 ∷ 0 ∷ 0 ∷ 0 ∷ 0 ∷ 0 ∷ 0 ∷ 0 ∷ 0 ∷ 0 ∷ 1 ∷ []

abbrev app_text : List ℕ
app_text = codes "app a 00000000-0000-0000-0000-000000000001\n"

abbrev script_a : List Step → ScriptValue
script_a steps = record { applications = record { name = codes "a"; app = app } ∷ []; steps = steps }

-- what each of these texts is, below the line of the application `a`
abbrev below : List (List ℕ) → List (Result ScriptValue ScriptFault)
below texts = map (λ text. script_of (app_text ++ text)) texts

-- the calls of the application `a`
abbrev calls : List Call → Result ScriptValue ScriptFault
calls these = Ok (script_a (map (λ call. CallStep 0 call) these))

first_object : below
    (codes "a create 6b r 00 -\na read 0 4\na close 0\na open 6b r\n"
    ∷ codes "a create 6b r 00 -\na read 0 4\na close 0\na open 6b r"
    ∷ [])
    ≡ replicate 2 (calls (Create (0x6b ∷ []) (record { bits = 1 }) (0 ∷ []) [] ∷ Read 0 4 ∷ Close 0 ∷ Open (0x6b ∷ []) (record { bits = 1 }) ∷ []))
unfolding words_of is_name id_of bytes_of numeral_of letter_flags_of bits_of flags_of create_words open_words one_number two_numbers verb_of call_words call_line app_line control_verb_of control_of control_line step_line words_line line_of script_from decode_pairs by_index
first_object = refl

empty_script : script_of [] ≡ Ok no_script
unfolding script_from
empty_script = refl

each_call : below
    (codes "a write 1 00fF\na write 1 -\na truncate 2 1044480\na rename 3 6c\na delete 4\na info 5\na enum\na start 6\na next 7\na reset 8\na free 9\n"
    ∷ codes "a seek 0 4095 set\na seek 0 -9 cur\na seek 0 -2 end\na seek 0 +7 cur\na seek 0 -0 set"
    ∷ [])
    ≡ calls (Write 1 (0 ∷ 255 ∷ []) ∷ Write 1 [] ∷ Truncate 2 1044480 ∷ Rename 3 (0x6c ∷ []) ∷ Delete 4 ∷ Info 5 ∷ EnumNew
    ∷ EnumStart 6 ∷ EnumNext 7 ∷ EnumReset 8 ∷ EnumFree 9 ∷ [])
    ∷ calls (Seek 0 (pos 4095) Set ∷ Seek 0 (negsuc 8) Cur ∷ Seek 0 (negsuc 1) End ∷ Seek 0 (pos 7) Cur ∷ Seek 0 (pos 0) Set ∷ [])
    ∷ []
unfolding words_of is_name id_of bytes_of numeral_of offset_of whence_of write_words seek_words rename_words one_number two_numbers verb_of call_words call_line app_line control_verb_of control_of control_line step_line words_line line_of script_from decode_pairs by_index
each_call = refl

-- zeros in front and capital hex digits are good, and so are 64 bytes of an identifier and the greatest number
good_words : below
    (codes "a read 000 04294967295"
    ∷ codes "a open 6B6b rwmRWo"
    ∷ (codes "a open " ++ replicate 128 48 ++ codes " -")
    ∷ codes "a create 6b oWRmwr - 00FF"
    ∷ codes "a open 6b 0x8\na open 6b 0x400\na open 6b 0xffFFffFF\na open 6b 0x00000000"
    ∷ [])
    ≡ calls (Read 0 4294967295 ∷ [])
    ∷ calls (Open (0x6b ∷ 0x6b ∷ []) (record { bits = 0x437 }) ∷ [])
    ∷ calls (Open (replicate 64 0) (record { bits = 0 }) ∷ [])
    ∷ calls (Create (0x6b ∷ []) (record { bits = 0x437 }) [] (0 ∷ 255 ∷ []) ∷ [])
    ∷ calls (map (λ bits. Open (0x6b ∷ []) (record { bits = bits })) (0x8 ∷ 0x400 ∷ 0xffffffff ∷ 0 ∷ []))
    ∷ []
unfolding words_of is_name id_of bytes_of numeral_of letter_flags_of bits_of flags_of create_words open_words one_number two_numbers verb_of call_words call_line app_line control_verb_of control_of control_line step_line words_line line_of script_from decode_pairs by_index
good_words = refl

bad_words : below
    (map codes
    ("a close 4294967296" ∷ "a close -1" ∷ "a close +1" ∷ "a close 0x1" ∷ "a open 6b rr" ∷ "a open 6b x" ∷ "a open 6b 0x" ∷ "a open 6b 0x000000001"
    ∷ "a open 6b 0xg" ∷ "a open 6b 0X1" ∷ "a open 6b x1" ∷ "a create 6b r 0 -" ∷ "a create 6b r - 000" ∷ "a open - r" ∷ "a open 6b6 r" ∷ "a open 6g r"
    ∷ "a seek 0 - set" ∷ "a seek 0 + set" ∷ "a seek 0 +-1 set" ∷ "a seek 0 0 SET" ∷ "a seek 0 0 begin" ∷ "a Close 0" ∷ "a write 0 f" ∷ [])
    ++ (codes "a create " ++ replicate 130 48 ++ codes " r - -") ∷ [])
    ≡ replicate 24 (Err (BadLine 2))
unfolding words_of is_name id_of bytes_of numeral_of offset_of whence_of letter_flags_of bits_of flags_of create_words open_words write_words seek_words one_number two_numbers verb_of call_words call_line app_line control_verb_of control_of control_line step_line words_line line_of script_from decode_pairs by_index
bad_words = refl

offsets : map offset_of
    (codes "9223372036854775807" ∷ codes "-09223372036854775807" ∷ codes "9223372036854775808" ∷ codes "-9223372036854775808" ∷ codes "-" ∷ [] ∷ [])
    ≡ Some (pos 9223372036854775807) ∷ Some (negsuc 9223372036854775806) ∷ None ∷ None ∷ None ∷ None ∷ []
unfolding numeral_of offset_of
offsets = refl

-- an unknown word, an undeclared application, too few words and too many
bad_forms : below
    (map codes
    ("a wrote 0 ff" ∷ "b open 6b r" ∷ "a" ∷ "a close" ∷ "a close 0 0" ∷ "a enum 0" ∷ "a seek 0 0" ∷ "a # 0" ∷ "serial a" ∷ "phase 0" ∷ "threads 2" ∷ []))
    ≡ replicate 11 (Err (BadLine 2))
unfolding words_of is_name id_of bytes_of numeral_of offset_of whence_of letter_flags_of bits_of flags_of open_words seek_words one_number two_numbers verb_of call_words call_line app_line control_verb_of control_of control_line step_line words_line line_of script_from decode_pairs by_index
bad_forms = refl

-- further spaces and tabs, a CR before the LF, lines without a word, and comments
good_separators : below
    (codes "a  close \t 0"
    ∷ codes " \ta close 0\t "
    ∷ (codes "a close 0" ++ 13 ∷ 10 ∷ [])
    ∷ (codes "\n \t\n" ++ 13 ∷ codes "\na close 0\n\n")
    ∷ (codes "# a\n\t #a create\n#" ++ 0 ∷ 13 ∷ 127 ∷ codes "\na close 0")
    ∷ [])
    ≡ replicate 5 (calls (Close 0 ∷ []))
unfolding words_of is_name numeral_of one_number verb_of call_words call_line app_line control_verb_of control_of control_line step_line words_line line_of script_from by_index
good_separators = refl

-- a CR that stands before no LF, other bytes that are not of words, and a byte past ASCII, in a comment too
bad_separators : below
    ((codes "a close 0" ++ 13 ∷ [])
    ∷ (codes "a close 0" ++ 13 ∷ 13 ∷ 10 ∷ [])
    ∷ (codes "a close" ++ 13 ∷ codes "0")
    ∷ (codes "a close" ++ 12 ∷ codes "0")
    ∷ (codes "a close 0 " ++ 0 ∷ [])
    ∷ (codes "# a" ++ 128 ∷ [])
    ∷ (codes " " ++ 255 ∷ codes "#")
    ∷ [])
    ≡ replicate 7 (Err (BadLine 2))
unfolding words_of is_name numeral_of one_number verb_of call_words call_line app_line control_verb_of control_of control_line step_line words_line line_of script_from by_index
bad_separators = refl

-- controls stand where they are, also above an application
controls : below
    (codes "serial\nphase\napp b 00000000000000000000000000000001\nb enum\n phase \nthreads\na enum" ∷ [])
    ≡ Ok (record {
      applications = record { name = codes "a"; app = app } ∷ record { name = codes "b"; app = app } ∷ [];
      steps = ControlStep (ModeControl Serial) ∷ ControlStep Phase ∷ CallStep 1 EnumNew ∷ ControlStep Phase ∷ ControlStep (ModeControl Threads) ∷ CallStep 0 EnumNew ∷ [];
    }) ∷ []
unfolding words_of is_name verb_of call_words call_line app_line control_verb_of control_of control_line step_line words_line line_of script_from by_index
controls = refl

-- the controls that arm a device, crash the files and show the objects; zeros may lead
arms : below
    (codes "stop dir 0\nstop card 5\nstop 272 04294967295\nfail 001 1\nfail dir 4294967295\nlose card 2\n list\ncrash 0\ncrash 018446744073709551615" ∷ [])
    ≡ Ok (script_a (map ControlStep
    (ArmControl (Stop Dir 0) ∷ ArmControl (Stop Card 5) ∷ ArmControl (Stop (File 272) 4294967295) ∷ ArmControl (Fail (File 1) 1) ∷ ArmControl (Fail Dir 4294967295)
    ∷ ArmControl (Lose 2) ∷ ListControl ∷ Crash 0 ∷ Crash 18446744073709551615 ∷ []))) ∷ []
unfolding words_of is_name numeral_of positive_of file_of device_of stop_words fail_words lose_words crash_words control_verb_of control_of app_line control_line step_line words_line line_of script_from by_index
arms = refl

-- no device, no number, a number past its bounds, too few words and too many
bad_arms : below
    (map codes
    ("stop 0 1" ∷ "stop 273 1" ∷ "stop entropy 1" ∷ "stop Dir 1" ∷ "stop file 1" ∷ "stop dir" ∷ "stop dir 1 1" ∷ "stop dir 4294967296" ∷ "stop dir -1" ∷ "stop 0x1 1"
    ∷ "fail dir 0" ∷ "fail card" ∷ "fail 1 4294967296" ∷ "lose card 0" ∷ "lose dir 1" ∷ "lose 1" ∷ "lose card 1 1" ∷ "crash" ∷ "crash 18446744073709551616" ∷ "crash -1"
    ∷ "crash 1 1" ∷ "list 0" ∷ []))
    ≡ replicate 22 (Err (BadLine 2))
unfolding words_of is_name numeral_of positive_of file_of device_of stop_words fail_words lose_words crash_words verb_of call_words call_line app_line control_verb_of control_of control_line step_line words_line line_of script_from by_index
bad_arms = refl

-- the controls that alter files: the places of zeros, masks that change nothing, marks that are words of controls, and a mark again
alterations : below
    (codes "taint dir 1 0 00\ntaint 272 04294967295 04294967295 00fF\nflip 001 0 00\nflip dir 4294967295 Ff00\nsave restore\nsave list\nsave restore\nrestore 1 list\n restore dir  restore" ∷ [])
    ≡ Ok (script_a (map ControlStep
    (ArmControl (Taint Dir 1 0 (0 ∷ [])) ∷ ArmControl (Taint (File 272) 4294967295 4294967295 (0 ∷ 255 ∷ [])) ∷ Flip (File 1) 0 (0 ∷ []) ∷ Flip Dir 4294967295 (255 ∷ 0 ∷ [])
    ∷ Save (codes "restore") ∷ Save (codes "list") ∷ Save (codes "restore") ∷ Restore (File 1) (codes "list") ∷ Restore Dir (codes "restore") ∷ []))) ∷ []
unfolding words_of is_name mark_of mask_of bytes_of numeral_of positive_of file_of taint_words save_words restore_words flip_words control_verb_of control_of app_line control_line step_line words_line line_of script_from decode_pairs by_index
alterations = refl

-- no file, no mark, a number past its bounds or with a sign, half a byte or none, too few words and too many, and a mark that is saved nowhere or below
bad_alterations : below
    (map codes
    ("taint card 1 0 00" ∷ "taint 0 1 0 00" ∷ "taint 273 1 0 00" ∷ "taint 1 0 0 00" ∷ "taint 1 4294967296 0 00" ∷ "taint 1 1 4294967296 00" ∷ "taint 1 1 -1 00" ∷ "taint 1 1 +0 00"
    ∷ "taint 1 1 0 0" ∷ "taint 1 1 0 -" ∷ "taint 1 1 0" ∷ "taint 1 1 0 00 00" ∷ "taint 1 1 0 0x00" ∷ "flip card 0 00" ∷ "flip 273 0 00" ∷ "flip 1 4294967296 00" ∷ "flip 1 -0 00" ∷ "flip 1 0" ∷ "flip 1 0 000" ∷ "flip 1 0 -"
    ∷ "flip 1 0 00 00" ∷ "save" ∷ "save app" ∷ "save 1m" ∷ "save M" ∷ "save abcdefghijklmnopq" ∷ "save m m" ∷ "restore 1 m" ∷ "restore 1 m\nsave m" ∷ "restore 1" ∷ []))
    ++ below (map codes ("save m\nrestore card m" ∷ "save m\nrestore 0 m" ∷ "save m\nrestore 1 n" ∷ "save m\nrestore 1 m m" ∷ "save m\nrestore m 1" ∷ "save m\nrestore 1 M" ∷ []))
    ≡ replicate 30 (Err (BadLine 2)) ++ replicate 6 (Err (BadLine 3))
unfolding words_of is_name mark_of mask_of bytes_of numeral_of positive_of file_of taint_words save_words restore_words flip_words verb_of call_words call_line control_verb_of control_of app_line control_line step_line words_line line_of script_from decode_pairs by_index
bad_alterations = refl

-- quotas of an application: each form of a UUID, the greatest numbers, and none; zeros may lead
quotas : below
    (codes "quota 00000000-0000-0000-0000-000000000001 16 16777216\nquota 00000000000000000000000000000001 256 4294967295\n quota {00000000-0000-0000-0000-000000000001}\t0016  00\nquota urn:uuid:00000000-0000-0000-0000-000000000001 0 0" ∷ [])
    ≡ Ok (script_a (map ControlStep (Quota app 16 16777216 ∷ Quota app 256 4294967295 ∷ Quota app 16 0 ∷ Quota app 0 0 ∷ []))) ∷ []
unfolding words_of is_name numeral_of quota_words control_verb_of control_of app_line control_line step_line words_line line_of script_from by_index
quotas = refl

-- too few words and too many, an object too many, a number past its bounds or with a sign, and no number
bad_quotas : below
    (map (λ words. codes "quota 00000000-0000-0000-0000-000000000001" ++ codes words)
    ("" ∷ " 1" ∷ " 1 1 1" ∷ " 257 1" ∷ " 4294967552 1" ∷ " 1 4294967296" ∷ " -1 1" ∷ " +1 1" ∷ " 1 -1" ∷ " 1 +1" ∷ " 0x1 1" ∷ " 1 -" ∷ "0 1 1" ∷ []))
    ≡ replicate 13 (Err (BadLine 2))
unfolding words_of is_name numeral_of quota_words verb_of call_words call_line app_line control_verb_of control_of control_line step_line words_line line_of script_from by_index
bad_quotas = refl

-- no UUID: no word, a name, a digit too few, and one that is none
bad_owners : below
    (map codes ("quota" ∷ "quota 1 1" ∷ "quota a 1 1" ∷ "quota 0000000-0000-0000-0000-000000000001 1 1" ∷ "quota 00000000-0000-0000-0000-00000000000g 1 1" ∷ []))
    ≡ replicate 5 (Err (BadLine 2))
unfolding words_of is_name numeral_of quota_words verb_of call_words call_line app_line control_verb_of control_of control_line step_line words_line line_of script_from by_index
bad_owners = refl

-- a name again, an application below a call, a word too few and too many, no UUID, and words of controls for names
bad_applications : below
    (codes "app a 00000000-0000-0000-0000-000000000002"
    ∷ codes "app b"
    ∷ codes "app b 00000000-0000-0000-0000-000000000002 c"
    ∷ codes "app b 00000000-0000-0000-0000-00000000000g"
    ∷ codes "app list 00000000-0000-0000-0000-000000000002"
    ∷ codes "app quota 00000000-0000-0000-0000-000000000002"
    ∷ [])
    ++ below (codes "a enum\napp b 00000000-0000-0000-0000-000000000002" ∷ [])
    ≡ replicate 6 (Err (BadLine 2)) ++ Err (BadLine 3) ∷ []
unfolding words_of is_name verb_of call_words call_line app_line control_verb_of control_of control_line step_line words_line line_of script_from by_index
bad_applications = refl

-- a call above every application, and the first of two bad lines; comments and empty lines count
first_bad_line : script_of (codes "a close 0\n") ∷ below (codes "a close 0\na\nb" ∷ codes "\n# a\na close" ∷ [])
    ≡ Err (BadLine 1) ∷ Err (BadLine 3) ∷ Err (BadLine 4) ∷ []
unfolding words_of is_name numeral_of one_number verb_of call_words call_line app_line control_verb_of control_of control_line step_line words_line line_of script_from by_index
first_bad_line = refl

-- the last of four lines is cut off
truncated_script : below (codes "a create 6b rw - -\na read 0 1\na write 0 f" ∷ []) ≡ Err (BadLine 4) ∷ []
unfolding words_of is_name id_of bytes_of numeral_of letter_flags_of bits_of flags_of create_words write_words two_numbers verb_of call_words call_line app_line control_verb_of control_of control_line step_line words_line line_of script_from decode_pairs by_index
truncated_script = refl

-- an application under each of these letters
abbrev applications : List ℕ → List ℕ
applications letters = flat_map (λ letter. codes "app " ++ letter ∷ codes " 00000000000000000000000000000001\n") letters

-- sixteen applications are good, a seventeenth is too many, and a bad line below it wins
seventeen_applications :
    script_of (applications (codes "abcdefghijklmnopq")) ∷ script_of (applications (codes "abcdefghijklmnopq") ++ codes "save\n") ∷ []
    ≡ Err (TooManyApps 17) ∷ Err (BadLine 18) ∷ []
unfolding words_of is_name verb_of call_words call_line app_line save_words control_verb_of control_of control_line step_line words_line line_of script_from by_index
seventeen_applications = refl

sixteen_applications : script_of (applications (codes "abcdefghijklmnop"))
    ≡ Ok (record { applications = map (λ letter. record { name = letter ∷ []; app = app }) (codes "abcdefghijklmnop"); steps = [] })
unfolding words_of is_name verb_of call_words call_line app_line control_verb_of control_of control_line step_line words_line line_of script_from by_index
sixteen_applications = refl

names : map is_name (codes "a" ∷ codes "a_9" ∷ codes "abcdefghijklmnop" ∷ codes "set" ∷ codes "dir" ∷ codes "create" ∷ codes "card" ∷ []) ≡ replicate 7 true
unfolding is_name
names = refl

no_names : map is_name ([] ∷ codes "9a" ∷ codes "_a" ∷ codes "A" ∷ codes "a-b" ∷ codes "abcdefghijklmnopq" ∷ codes "app" ∷ codes "list" ∷ codes "quota" ∷ codes "restore" ∷ []) ≡ replicate 10 false
unfolding is_name
no_names = refl
