-- What the kinds of messages are.
use Rattle.std.specs.Prelude.{Bool, true, false}
use Rattle.port_msg.specs.declared.message.MsgKind.{MsgKind}
use Rattle.port_msg.specs.declared.message.MsgKind.TheVariants.{Token, Read, Write, ReadRsp, WriteRsp, Flush, FlushRsp}

abbrev pub is_token : MsgKind → Bool
is_token Token = true
is_token Read = false
is_token Write = false
is_token ReadRsp = false
is_token WriteRsp = false
is_token Flush = false
is_token FlushRsp = false

abbrev pub is_write : MsgKind → Bool
is_write Write = true
is_write Read = false
is_write ReadRsp = false
is_write WriteRsp = false
is_write Flush = false
is_write FlushRsp = false
is_write Token = false

-- a message that asks for bytes or brings them, and wants an answer
abbrev pub is_request : MsgKind → Bool
is_request Read = true
is_request Write = true
is_request ReadRsp = false
is_request WriteRsp = false
is_request Flush = false
is_request FlushRsp = false
is_request Token = false
