-- What was read of a capture, and when no more of it is to come.
use Rattle.std.specs.Prelude.{◌≡◌, ◌≤◌, ◌⊎◌, ℕ, List, length, take, reverse, Option, Some, None}
use Rattle.tftp_packet.specs.Hosts.{Datagram}
use Rattle.law_pair.specs.{Capture, IsSentLater, IsUnsent, begun, passed_in}
use Rattle.judge_pair.specs.Counts.{AreCounted, AreLostBetween, AreRepeatedBetween, Counted}
use Rattle.judge_pair.specs.declared.counts.carried.Carried.{Carried}
use Rattle.judge_pair.specs.declared.judge.waiting.Wait.{Wait}
use Rattle.judge_pair.specs.declared.judge.waiting.Wait.TheVariants.{Unsent, SentLater}

-- the datagrams that were read, the newest first, are the first of the capture
pub record IsReadOf (c : Capture) (read : List Datagram) : Type 0 where
  pub within : length read ≤ length c.datagrams
  pub is : reverse (take (length read) c.datagrams) ≡ read

-- of the capture, lawful for n datagrams, no more is merged: one waits, or all that is lawful was read
abbrev pub GoesNoFurther : Option Datagram → List Datagram → ℕ → Type 0
GoesNoFurther held read n = held ≡ None → length read ≡ n

-- Of a capture, lawful for n datagrams, i are matched with another, lawful for k: why the datagram behind them waits, if one
-- is left.
abbrev pub IsWhyWaiting : Capture → ℕ → ℕ → Capture → ℕ → Option Wait → Type 0
IsWhyWaiting own n i other k None = i ≡ n
IsWhyWaiting own n i other k (Some Unsent) = IsUnsent own n i other k
IsWhyWaiting own n i other k (Some SentLater) = IsSentLater own n i other k

-- how often each packet passed among the first n datagrams of a capture, while there was memory to count it
abbrev pub AreCountsOf : Capture → ℕ → Option Counted → Type 0
AreCountsOf c n counts = AreCounted counts (passed_in (begun n c))

-- What the network lost and repeated between the first n datagrams of the one capture and the first k of the other. It is not
-- told only where one of the two is not counted.
abbrev pub AreCarried : Capture → ℕ → Option Counted → Capture → ℕ → Option Counted → Option Carried → Type 0
AreCarried client n counts server k others None = (counts ≡ None) ⊎ (others ≡ None)
AreCarried client n counts server k others (Some c) =
    AreLostBetween (passed_in (begun n client)) (passed_in (begun k server)) c.lost × AreRepeatedBetween (passed_in (begun n client)) (passed_in (begun k server)) c.repeated
