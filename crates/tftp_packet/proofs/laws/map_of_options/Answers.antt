use Rattle.tftp_packet.proofs.Maps.{text_in_map, len_map}
use Rattle.tftp_packet.proofs.laws.map_of_options.Goals as goal

pub returns-clause-value : goal.returns-clause-value
returns-clause-value c = text_in_map

pub returns-clause-count : goal.returns-clause-count
returns-clause-count c = len_map
