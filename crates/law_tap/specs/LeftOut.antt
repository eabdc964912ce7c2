-- Lists that differ by requests that had passed before.
use Rattle.std.specs.Prelude.{List, [], ◌∷◌, Contains}
use Rattle.tftp_packet.specs.{Client}
use Rattle.law_model.specs.Model.{Req}
use Rattle.law_tap.specs.Tap.{Pass}

abbrev pub request_passes : Pass
request_passes = record { from = Client; packet = Req }

-- the second list is the first one without some requests, each of which had passed before
pub data LeavesOut : List Pass → List Pass → Type 0 where
  none : LeavesOut [] []
  keeps : (x : Pass) (all rest : List Pass) → LeavesOut all rest → LeavesOut (x ∷ all) (x ∷ rest)
  drops : (all rest : List Pass) → LeavesOut all rest → Contains rest request_passes → LeavesOut (request_passes ∷ all) rest
