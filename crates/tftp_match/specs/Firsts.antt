-- The first datagram of each of two captures that no run has beside what stands before both, and why, as far as that is told.
use Rattle.std.specs.Prelude.{ℕ, ◌+◌, ◌&&◌, ◌==◌, Bool, true, false, if◌then◌else◌, nat_lt, Option, Some, None, Result, Ok, Err}
use Rattle.tftp_judge.specs.{Unlawful, Aborted, Incomplete, NormalTooLong, Verdict, Capture, Refused}
use Rattle.tftp_judge.specs.declared.refusal.Refusal.TheVariants.{Memory}
use Rattle.judge_pair.specs.{Apart, Carried, SentLater, Unsent, Wait}
use Rattle.judge_pair.specs.declared.judge.matched.Matched.{Matched}
use Rattle.judge_pair.specs.declared.match_texts.said.PairSaid.{PairSaid}
use Rattle.tftp_match.specs.declared.facts.First.{First}

-- what is said of a text that was judged to its end: it has no fault, and none of its datagrams is refused
abbrev pub is_judged_whole : {M : Type 0} → Result M Verdict → Bool
is_judged_whole (Ok m) = true
is_judged_whole (Err (Refused (Unlawful index rule))) = false
is_judged_whole (Err (Refused (Aborted by code))) = true
is_judged_whole (Err (Refused (Incomplete count))) = true
is_judged_whole (Err (Refused NormalTooLong)) = true
is_judged_whole (Err (Refused (Memory count))) = false
is_judged_whole (Err (Capture fault)) = false

-- Why a datagram waits, as it is told. That the other end never sent it is told only where all of the other capture was
-- judged: else it may have been sent in the datagram that is refused there, or behind it.
abbrev pub told_why : {M : Type 0} → Result M Verdict → Option Wait → Option Wait
told_why other (Some Unsent) = if is_judged_whole other then Some Unsent else None
told_why other (Some SentLater) = Some SentLater
told_why other None = None

-- the datagram that is refused, for which no word stands
abbrev pub refused_first : {M : Type 0} → Result M Verdict → Option First
refused_first (Ok m) = None
refused_first (Err (Refused (Unlawful index rule))) = Some (record { number = index; why = None })
refused_first (Err (Refused (Aborted by code))) = None
refused_first (Err (Refused (Incomplete count))) = None
refused_first (Err (Refused NormalTooLong)) = None
refused_first (Err (Refused (Memory count))) = None
refused_first (Err (Capture fault)) = None

-- Of a capture of which so many datagrams are lawful and so many of these are matched: the one behind the matched ones, where
-- a lawful one is left, or else the one that is refused.
abbrev pub first_of : {M N : Type 0} → Result M Verdict → Result N Verdict → ℕ → ℕ → Option Wait → Option First
first_of own other lawful matched why = if nat_lt matched lawful then Some (record { number = matched + 1; why = told_why other why }) else refused_first own

abbrev pub client_first : PairSaid → Option First
client_first s = by s.together where
  by : Result Matched Apart → Option First
  by (Ok m) = first_of s.client s.server m.client_lawful m.client_matched m.client_why
  by (Err why) = None

abbrev pub server_first : PairSaid → Option First
server_first s = by s.together where
  by : Result Matched Apart → Option First
  by (Ok m) = first_of s.server s.client m.server_lawful m.server_matched m.server_why
  by (Err why) = None

-- both were judged to their ends, and all of both goes together
abbrev pub is_matched : PairSaid → Bool
is_matched s = is_judged_whole s.client && is_judged_whole s.server && by s.together where
  by : Result Matched Apart → Bool
  by (Ok m) = m.client_matched == m.client_lawful && m.server_matched == m.server_lawful
  by (Err why) = false

-- what the network lost and repeated, where they go together and it was counted
abbrev pub carried : PairSaid → Option Carried
carried s = by s.together where
  by : Result Matched Apart → Option Carried
  by (Ok m) = if is_matched s then m.carried else None
  by (Err why) = None
