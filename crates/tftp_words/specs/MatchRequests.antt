-- What the words of `tftp-match` ask for.
use Rattle.std.specs.Prelude.{◌≡◌, ◌≢◌, ◌⊎◌, ℕ, List, [], ◌∷◌, Bool, Option, None, codes}
use Rattle.tftp_packet.specs.{Rollover}
use Rattle.tftp_words.specs.declared.match_request.MatchRequest.{MatchRequest}
use Rattle.tftp_words.specs.Parts.{Word, Part, Say, Have, Choose}

-- whether one run has the captures of a transfer: its number, and that at the server, where captures are recordings
pub data MatchAsked : Type 0 where
  Matched : (client server : Word) (transfer server_transfer : Option ℕ) (services : List ℕ) (rollover : Option Rollover) (counts json : Bool) → MatchAsked

-- one capture at most is standard input
abbrev pub IsOneInput : Word → Word → Type 0
IsOneInput client server = (client ≢ codes "-") ⊎ (server ≢ codes "-")

-- the parts are the arguments of the match that is asked for, the client's capture before the server's
abbrev pub Compares : MatchAsked → List Part → Type 0
Compares (Matched client server transfer server_transfer services rollover counts json) ps =
    IsOneInput client server × Have ps services json None rollover (client ∷ server ∷ []) × Choose ps counts transfer server_transfer

-- the words ask for this match: the program's name, whatever it is, and the arguments
abbrev pub IsMatchRequest : MatchAsked → List Word → Type 0
IsMatchRequest asked words =
    (program : Word) × (arguments : List Word) × (words ≡ program ∷ arguments) × (ps : List Part) × Say arguments ps × Compares asked ps

-- what the code holds of a match
abbrev pub match_asked : MatchRequest → MatchAsked
match_asked r = Matched r.client.now r.server.now r.transfer r.server_transfer r.services.items r.rollover r.counts r.json
