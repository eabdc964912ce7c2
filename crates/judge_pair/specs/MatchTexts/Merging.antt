-- Two capture texts that are read side by side. Lists of datagrams have the newest first.
use Rattle.std.specs.Prelude.{◌≡◌, ◌+◌, ◌-◌, ◌^◌, ℕ, List, [], Bool, Option, Some, None}
use Rattle.tftp_packet.specs.{End, Client, Rollover, Server}
use Rattle.tftp_capture.specs.{ReaderState}
use Rattle.tftp_packet.specs.Hosts.{Datagram, Header}
use Rattle.tftp_judge.specs.{IsJudgeAfter, Judge, header_by}
use Rattle.judge_pair.specs.Judge.{IsPairAfter, Pair, side_at, IsRestAfter, left_at}
use Rattle.judge_pair.specs.Judge.Rest.{Rest}
use Rattle.judge_pair.specs.MatchTexts.Reading.{GoesOnAt, IsSeenAt, Seen}
use Rattle.judge_pair.specs.declared.match_texts.reading.Halt.{Halt}

-- Whatever the text was before and the other end's datagrams are: if what judges stood for all that was read, it stands for
-- all that is read now.
abbrev pub RunsBy : {P : Type 0} → Option Rollover → (P → Judge) → (P → Header → List Datagram → Header → List Datagram → Type 0) → Seen → P → Seen → P → Type 0
RunsBy {P} rollover judge StandsFor old p new now =
    (before : Option (List ℕ)) (h k : Header) (read other : List Datagram) → IsSeenAt rollover before old (judge p).refused h read → StandsFor p h read k other
    → (more : List Datagram) × IsSeenAt rollover before new (judge now).refused h more × StandsFor now h more k other

-- the judge of a pair, with the end of which one speaks first
abbrev pub IsPairAt : End → Pair → Header → List Datagram → Header → List Datagram → Type 0
IsPairAt Client p h read k other = IsPairAfter p h read k other
IsPairAt Server p h read k other = IsPairAfter p k other h read

abbrev pub judge_at : End → Pair → Judge
judge_at end p = (side_at end p).judge

abbrev pub Runs : Option Rollover → End → Seen → Pair → Seen → Pair → Type 0
Runs rollover end = RunsBy rollover (judge_at end) (IsPairAt end)

-- the same of what is left of a pair
abbrev pub IsRestAt : End → Rest → Header → List Datagram → Header → List Datagram → Type 0
IsRestAt Client r h read k other = IsRestAfter r h read k other
IsRestAt Server r h read k other = IsRestAfter r k other h read

abbrev pub left_judge_at : End → Rest → Judge
left_judge_at end r = (left_at end r).side.judge

abbrev pub RestRuns : Option Rollover → End → Seen → Rest → Seen → Rest → Type 0
RestRuns rollover end = RunsBy rollover (left_judge_at end) (IsRestAt end)

-- the same of a judge alone
abbrev pub IsAloneAt : Judge → Header → List Datagram → Header → List Datagram → Type 0
IsAloneAt j h read k other = j.refused ≡ None → IsJudgeAfter j h read

abbrev pub itself : Judge → Judge
itself j = j

abbrev pub AloneRuns : Option Rollover → Seen → Judge → Seen → Judge → Type 0
AloneRuns rollover = RunsBy rollover itself IsAloneAt

-- both texts
pub record AreSeenBoth (rollover : Option Rollover) (before other_before : Option (List ℕ)) (client server : Seen) (p : Pair) (h k : Header) (read other : List Datagram) : Type 0 where
  pub at_client : IsSeenAt rollover before client p.client.judge.refused h read
  pub at_server : IsSeenAt rollover other_before server p.server.judge.refused k other
  pub pair : IsPairAfter p h read k other

abbrev pub BothRun : Option Rollover → Seen → Seen → Pair → Seen → Seen → Pair → Type 0
BothRun rollover client server p client_now server_now now =
    (before other_before : Option (List ℕ)) (h k : Header) (read other : List Datagram) → AreSeenBoth rollover before other_before client server p h k read other
    → (more : List Datagram) × (other_more : List Datagram) × AreSeenBoth rollover before other_before client_now server_now now h k more other_more

-- a reader that has read the header and no datagram
abbrev pub HasBegun : Option Rollover → Option (List ℕ) → Option (List ℕ) → Bool → ReaderState → Type 0
HasBegun rollover before after failed reader = GoesOnAt rollover before after failed reader (header_by rollover reader.header) []

-- how many lines are left at most, and one more while more is read
abbrev pub lines_left : Option Halt → ℕ → ℕ
lines_left None handed = 2 ^ 40 - handed + 1
lines_left (Some halt) handed = 0
