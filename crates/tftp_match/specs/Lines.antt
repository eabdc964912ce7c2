-- The lines that are said of two captures. Each ends by LF.
use Rattle.std.specs.Prelude.{ℕ, ◌++◌, List, [], codes, decimal, if◌then◌else◌, Option, Some, None, Result, Ok, Err}
use Rattle.tftp_packet.specs.{End, Client, Server}
use Rattle.tftp_commands.specs.{checked}
use Rattle.judge_pair.specs.{Apart, Carried, SentLater, Stopped, Unsent, Wait, WrongEnd}
use Rattle.judge_pair.specs.declared.judge.matched.Matched.{Matched}
use Rattle.judge_pair.specs.declared.match_texts.said.PairSaid.{PairSaid}
use Rattle.tftp_match.specs.Copies.{copies_lines}
use Rattle.tftp_match.specs.declared.copies.Copies.{Copies}
use Rattle.tftp_match.specs.declared.facts.First.{First}
use Rattle.tftp_match.specs.Firsts.{client_first, is_matched, server_first}

-- why a datagram waits, where that is told
abbrev pub why_text : Option Wait → List ℕ
why_text None = []
why_text (Some Unsent) = codes " unsent"
why_text (Some SentLater) = codes " waits"

-- a dash where a capture has no more
abbrev pub place_text : Option First → List ℕ
place_text None = codes "-"
place_text (Some first) = decimal first.number ++ why_text first.why

-- what the network lost and repeated is left out where it was not counted
abbrev pub matched_line : Option Carried → List ℕ
matched_line None = codes "matched\n"
matched_line (Some c) = codes "matched lost " ++ decimal c.lost ++ codes " repeated " ++ decimal c.repeated ++ codes "\n"

abbrev pub unmatched_line : Option First → Option First → List ℕ
unmatched_line client server = codes "unmatched client datagram " ++ place_text client ++ codes " server datagram " ++ place_text server ++ codes "\n"

-- a capture of the client names the server, or the other way round
abbrev pub wrong_end_line : End → List ℕ
wrong_end_line Client = codes "fault client WrongEnd\n"
wrong_end_line Server = codes "fault server WrongEnd\n"

-- how far they go together; nothing where that is not told
abbrev pub third_line : PairSaid → List ℕ
third_line s = by s.together where
  by : Result Matched Apart → List ℕ
  by (Ok m) = if is_matched s then matched_line m.carried else unmatched_line (client_first s) (server_first s)
  by (Err (WrongEnd end)) = wrong_end_line end
  by (Err Stopped) = []

-- the verdict on the client's capture, the verdict on the server's, and how far they go together
abbrev pub lines : PairSaid → List ℕ
lines s = (checked s.client).bytes ++ (checked s.server).bytes ++ third_line s

-- behind them a line for each packet, where these are told
abbrev pub all_lines : PairSaid → Option (List Copies) → List ℕ
all_lines s copies = lines s ++ copies_lines copies
