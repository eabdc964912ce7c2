-- The status with which the program ends where both captures were judged.
use Rattle.std.specs.Prelude.{ℕ, ◌||◌, Bool, true, false, if◌then◌else◌, Result, Ok, Err}
use Rattle.tftp_commands.specs.{Status, checked}
use Rattle.tftp_commands.specs.declared.status.Status.TheVariants as status
use Rattle.judge_pair.specs.{Apart}
use Rattle.judge_pair.specs.declared.judge.matched.Matched.{Matched}
use Rattle.judge_pair.specs.declared.match_texts.said.PairSaid.{PairSaid}
use Rattle.tftp_match.specs.Firsts.{is_matched}

abbrev pub is_fault : Status → Bool
is_fault status.Success = false
is_fault status.Refused = false
is_fault status.Fault = true

-- 0 where they are matched; 1 where they are not; 2 where a text has a fault or could not be judged, or is of the other end
abbrev pub status_of : PairSaid → ℕ
status_of s = if is_fault (checked s.client).status || is_fault (checked s.server).status then 2 else by s.together where
  by : Result Matched Apart → ℕ
  by (Ok m) = if is_matched s then 0 else 1
  by (Err why) = 2
