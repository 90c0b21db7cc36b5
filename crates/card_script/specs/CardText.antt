-- The printed forms of lines and replies.
use Rattle.std.specs.Prelude.{ℕ, List, ◌++◌, codes, decimal}
use Rattle.hex.specs.Hex.{encode_lower}
use Rattle.script_text.specs.Forms.{bytes_text, uuid_text}
use Rattle.card_script.specs.declared.card_line.CardLine.{CardLine}
use Rattle.card_script.specs.declared.card_line.CardLine.TheVariants.{Put, Get, Remove, List as ListLine, Stop, Remount}
use Rattle.card_script.specs.declared.card_line.CardReply.{CardReply}
use Rattle.card_script.specs.declared.card_line.CardReply.TheVariants.{Done, Content, NotFound, TooLarge, Full, Spent, Device}

-- the name of an object: its application and its identifier
abbrev pub name_text : (app id : List ℕ) → List ℕ
name_text app id = uuid_text app ++ codes " " ++ encode_lower id

-- the words of a line
abbrev pub line_text : CardLine → List ℕ
line_text (Put app id bytes) = codes "put " ++ name_text app id ++ codes " " ++ bytes_text bytes
line_text (Get app id) = codes "get " ++ name_text app id
line_text (Remove app id) = codes "remove " ++ name_text app id
line_text ListLine = codes "list"
line_text (Stop exchanges) = codes "stop " ++ decimal exchanges
line_text Remount = codes "remount"

abbrev pub reply_text : CardReply → List ℕ
reply_text Done = codes "ok"
reply_text (Content bytes) = codes "ok " ++ bytes_text bytes
reply_text NotFound = codes "NOT_FOUND"
reply_text (TooLarge size) = codes "TOO_LARGE " ++ decimal size
reply_text (Full need free) = codes "FULL " ++ decimal need ++ codes " " ++ decimal free
reply_text Spent = codes "SPENT"
reply_text Device = codes "DEVICE"

-- the line of the reply to the line at that place: `K LINE -> REPLY`
abbrev pub answer_line : ℕ → CardLine → CardReply → List ℕ
answer_line place line reply = decimal place ++ codes " " ++ line_text line ++ codes " -> " ++ reply_text reply ++ codes "\n"

-- the line of an object that `list` shows: `# UUID ID SIZE`
abbrev pub listed_line : (app id : List ℕ) (size : ℕ) → List ℕ
listed_line app id size = codes "# " ++ name_text app id ++ codes " " ++ decimal size ++ codes "\n"
