-- The words of what is printed that are no number.
use Rattle.std.specs.Prelude.{ℕ, List, codes}
use Rattle.tftp_packet.specs.{Side, Get, Put, PacketFault, Short, Opcode, AckLength, NoTerminator, OddOptions, EmptyOptionName, DuplicateOption, UnknownMode, MailMode, RequestTooLong}
use Rattle.tftp_capture.specs.{TextFault, BadHeader, BadEnd, BadService, LineTooLong, BadLine, BadPort, BadHost, BadHex, PayloadTooLong, TotalWrong, Truncated, TrailingText, TextTooLong}
use Rattle.law_end.specs.{AbortedBy, Local, Peer}

abbrev pub side_name : Side → List ℕ
side_name Get = codes "get"
side_name Put = codes "put"

abbrev pub by_name : AbortedBy → List ℕ
by_name Local = codes "local"
by_name Peer = codes "peer"

abbrev pub request_name : Side → List ℕ
request_name Get = codes "RRQ"
request_name Put = codes "WRQ"

abbrev pub packet_fault_name : PacketFault → List ℕ
packet_fault_name Short = codes "Short"
packet_fault_name Opcode = codes "Opcode"
packet_fault_name AckLength = codes "AckLength"
packet_fault_name NoTerminator = codes "NoTerminator"
packet_fault_name OddOptions = codes "OddOptions"
packet_fault_name EmptyOptionName = codes "EmptyOptionName"
packet_fault_name DuplicateOption = codes "DuplicateOption"
packet_fault_name UnknownMode = codes "UnknownMode"
packet_fault_name MailMode = codes "MailMode"
packet_fault_name RequestTooLong = codes "RequestTooLong"

abbrev pub text_fault_name : TextFault → List ℕ
text_fault_name BadHeader = codes "BadHeader"
text_fault_name BadEnd = codes "BadEnd"
text_fault_name BadService = codes "BadService"
text_fault_name LineTooLong = codes "LineTooLong"
text_fault_name BadLine = codes "BadLine"
text_fault_name BadPort = codes "BadPort"
text_fault_name BadHost = codes "BadHost"
text_fault_name BadHex = codes "BadHex"
text_fault_name PayloadTooLong = codes "PayloadTooLong"
text_fault_name TotalWrong = codes "TotalWrong"
text_fault_name Truncated = codes "Truncated"
text_fault_name TrailingText = codes "TrailingText"
text_fault_name TextTooLong = codes "TextTooLong"
