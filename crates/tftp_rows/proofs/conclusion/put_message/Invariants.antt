use Rattle.std.proofs.Common.{◌≡◌, ◌++◌, string_bytes, take}
use Rattle.tftp_rows.specs.Endings.{message_text}
use Rattle.tftp_rows.proofs.conclusion.put_message.Given as goal

-- what stands there is what stood there and the text of the message so far
abbrev pub invariant-loop-byte : goal.invariant-loop-byte
invariant-loop-byte l = string_bytes l.line ≡ string_bytes l.initial.line ++ message_text (take l.byte-index l.message)
