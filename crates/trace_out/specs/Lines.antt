-- The text of a trace.
use Rattle.std.specs.Prelude.{ℕ, Bool, true, false, List, [], ◌∷◌, ◌++◌, ◌||◌, take, Option, option_map, slice_get, unwrap_or, codes, decimal, flat_map, count_by, if◌then◌else◌}
use Rattle.std.specs.Int.{to_be_bytes, w32}
use Rattle.hex.specs.Hex.{encode_lower}
use Rattle.port_msg.specs.declared.message.Msg.{Msg}
use Rattle.port_msg.specs.declared.message.MsgKind.{MsgKind}
use Rattle.port_msg.specs.declared.message.MsgKind.TheVariants.{Read, Write, ReadRsp, WriteRsp, Flush, FlushRsp, Token}
use Rattle.port_msg.specs.declared.records.Cause.{Cause}
use Rattle.port_msg.specs.declared.records.Cause.TheVariants.{Exit, Illegal, BadCall, Break, MisalignedJump, MisalignedLoad, MisalignedStore, UnmappedFetch, UnmappedLoad, UnmappedStore}
use Rattle.port_msg.specs.declared.records.Record.{Record}
use Rattle.port_msg.specs.declared.records.What.{What}
use Rattle.port_msg.specs.declared.records.What.TheVariants.{Send, Take, Move, Out, Halt}
use Rattle.trace_out.specs.Names.{NamesView, actor_name}
use Rattle.trace_out.specs.declared.names.PortName.{PortName}

-- a blank before a text
abbrev pub spaced : List ℕ → List ℕ
spaced text = codes " " ++ text

-- a name, or `?` for a number that names nothing
abbrev pub name_text : Option (List ℕ) → List ℕ
name_text name = unwrap_or name (codes "?")

-- `PART.PORT`: the part that has the port, and the port's word there
abbrev pub part_port : NamesView → PortName → List ℕ
part_port names port = name_text (slice_get names.parts port.part.0) ++ codes "." ++ port.word

-- the port of a number
abbrev pub port_text : NamesView → ℕ → List ℕ
port_text names q = name_text (option_map (part_port names) (slice_get names.ports q))

abbrev pub kind_text : MsgKind → List ℕ
kind_text Read = codes "read"
kind_text Write = codes "write"
kind_text ReadRsp = codes "readrsp"
kind_text WriteRsp = codes "writersp"
kind_text Flush = codes "flush"
kind_text FlushRsp = codes "flushrsp"
kind_text Token = codes "token"

-- writes and the answers to reads have data
abbrev pub has_data : MsgKind → Bool
has_data Write = true
has_data ReadRsp = true
has_data Read = false
has_data WriteRsp = false
has_data Flush = false
has_data FlushRsp = false
has_data Token = false

-- the message's first bytes, as many as its length says and at most 64, each as two lower-case hexadecimal digits; `-` where it has no data
abbrev pub data_text : Msg → List ℕ
data_text msg = if has_data msg.kind then encode_lower (take msg.len msg.bytes) else codes "-"

-- `IDPART.SEQ`: the part that made the request, and its number there
abbrev pub id_text : NamesView → Msg → List ℕ
id_text names msg = name_text (slice_get names.parts msg.id.part.0) ++ codes "." ++ decimal msg.id.seq

-- `SRC DST`
abbrev pub way_text : NamesView → Msg → List ℕ
way_text names msg = port_text names msg.src.0 ++ spaced (port_text names msg.dst.0)

-- `ADDR LEN DATA`: the address as 8 lower-case hexadecimal digits, the length as a decimal number
abbrev pub load_text : Msg → List ℕ
load_text msg = encode_lower (to_be_bytes w32 msg.addr) ++ spaced (decimal msg.len) ++ spaced (data_text msg)

-- `KIND IDPART.SEQ SRC DST ADDR LEN DATA`
abbrev pub message_text : NamesView → Msg → List ℕ
message_text names msg = kind_text msg.kind ++ spaced (id_text names msg) ++ spaced (way_text names msg) ++ spaced (load_text msg)

abbrev pub cause_text : Cause → List ℕ
cause_text (Exit code) = codes "exit " ++ decimal code
cause_text Illegal = codes "illegal"
cause_text BadCall = codes "bad-call"
cause_text Break = codes "break"
cause_text MisalignedJump = codes "misaligned-jump"
cause_text MisalignedLoad = codes "misaligned-load"
cause_text MisalignedStore = codes "misaligned-store"
cause_text UnmappedFetch = codes "unmapped-fetch"
cause_text UnmappedLoad = codes "unmapped-load"
cause_text UnmappedStore = codes "unmapped-store"

-- the word of what was done
abbrev pub what_word : What → List ℕ
what_word (Send msg) = codes "send"
what_word (Take msg) = codes "take"
what_word (Move msg) = codes "move"
what_word (Out byte) = codes "out"
what_word (Halt cause) = codes "halt"

-- what it was done with: the message, the byte as two lower-case hexadecimal digits, or the cause
abbrev pub what_text : NamesView → What → List ℕ
what_text names (Send msg) = message_text names msg
what_text names (Take msg) = message_text names msg
what_text names (Move msg) = message_text names msg
what_text names (Out byte) = encode_lower (byte ∷ [])
what_text names (Halt cause) = cause_text cause

-- `T WORD NAME WHAT` and a line feed: the time in picoseconds, what was done, the part or link that did it, and with what
abbrev pub line_of : NamesView → Record → List ℕ
line_of names r = decimal r.at.0 ++ spaced (what_word r.what) ++ spaced (name_text (actor_name names r.actor.0)) ++ spaced (what_text names r.what) ++ codes "\n"

abbrev pub is_out : What → Bool
is_out (Out byte) = true
is_out (Send msg) = false
is_out (Take msg) = false
is_out (Move msg) = false
is_out (Halt cause) = false

-- a byte that a core wrote always has its line; the other records have theirs where all are asked for
abbrev pub has_line : Bool → Record → Bool
has_line all r = all || is_out r.what

abbrev pub text_of : NamesView → Bool → Record → List ℕ
text_of names all r = if has_line all r then line_of names r else []

-- the lines of the records, in order
abbrev pub lines_of : NamesView → Bool → List Record → List ℕ
lines_of names all recs = flat_map (text_of names all) recs

-- how many lines there are
abbrev pub line_count : Bool → List Record → ℕ
line_count all recs = count_by (has_line all) recs
