-- What the worked payloads spell.
use Rattle.std.proofs.Common.{◌≡◌, [], ◌∷◌, codes, refl}
use Rattle.tftp_packet.specs.{value_of, is_known_number, is_number, range_of, no_options, map_of, Message, Spells, Get, Put, Octet}
use Rattle.law_model.specs.Model.{request_of, two_bytes, two_bytes_written, ten_bytes, eight_a_block}
use Rattle.tests_worked.specs.{asks_for_a, brings_hi, acknowledges_hi, answers_stray, offers_a, asks_for_eights, agrees_to_eights, by_eight}
use Rattle.tests_worked.proofs.Payloads.{request_spells, request_for_spells, oack_spells, data_spells, ack_spells, error_spells, eight_is}

pub request_spelled : Spells asks_for_a.payload (Message.Request (request_of two_bytes))
request_spelled = request_spells Get [] no_options refl refl

pub hi_spelled : Spells brings_hi.payload (Message.Data 1 (codes "hi"))
hi_spelled = data_spells 1 (codes "hi") refl

pub ack_spelled : Spells acknowledges_hi.payload (Message.Ack 1)
ack_spelled = ack_spells 1 refl

pub unknown_id_spelled : Spells answers_stray.payload (Message.Error 5 [])
unknown_id_spelled = error_spells 5 [] refl refl

pub write_spelled : Spells offers_a.payload (Message.Request (request_of two_bytes_written))
write_spelled = request_spells Put [] no_options refl refl

zero_eight : eight_a_block ≡ map_of ((codes "BLKSIZE", codes "08") ∷ [])
unfolding value_of is_known_number is_number range_of
zero_eight = refl

pub eights_spelled : Spells asks_for_eights.payload (Message.Request (request_of ten_bytes))
eights_spelled = request_for_spells (codes "a") (codes "Octet") Octet Get ((codes "BLKSIZE", codes "08") ∷ []) eight_a_block refl refl zero_eight

pub agreed_spelled : Spells agrees_to_eights.payload (Message.Oack ten_bytes.agreed)
agreed_spelled = oack_spells by_eight eight_a_block refl eight_is
