-- Which end sent a datagram of a capture.
use Rattle.tftp_packet.specs.{End}
use Rattle.tftp_packet.specs.{Dir, In, Out}
use Rattle.law_model.specs.Model.Roles.{other_end}

-- the end that sent a datagram which went this way at the named end
abbrev pub author_of : End → Dir → End
author_of named Out = named
author_of named In = other_end named
