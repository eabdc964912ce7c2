-- What the words of `check` choose.
use Rattle.std.specs.Prelude.{ℕ, max, List, [], ◌∷◌, length, Option, Some, None}
use Rattle.tftp_packet.specs.{Rollover}
use Rattle.audit_recording.specs.declared.judges.judging.Judging.{Judging}
use Rattle.tftp_words.specs.declared.point.Point.{Point}

-- Where transfers are judged: at the point that is named, by what comes after block 65535 if that is said; and where none is, where they
-- were recorded.
abbrev pub judging_at : Option Point → Option Rollover → Judging
judging_at (Some Point.Client) None = Judging.Client
judging_at (Some Point.Client) (Some rollover) = Judging.ClientBy rollover
judging_at (Some Point.Server) None = Judging.Server
judging_at (Some Point.Server) (Some rollover) = Judging.ServerBy rollover
judging_at (Some Point.Between) None = Judging.Between
judging_at (Some Point.Between) (Some rollover) = Judging.BetweenBy rollover
judging_at None rollover = Judging.WhereRecorded

-- how wide the column of files is, in bytes: as its head, `file`, or as the longest of these names
abbrev pub widest : List (List ℕ) → ℕ
widest [] = 4
widest (name ∷ names) = max (length name) (widest names)
