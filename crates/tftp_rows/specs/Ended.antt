-- Of what the conclusion of a row tells. Lists have the newest first.
use Rattle.std.specs.Prelude.{◌≡◌, ◌==◌, ℕ, Bool, true, false, List, Option, Some, None, if◌then◌else◌}
use Rattle.tftp_packet.specs.{End}
use Rattle.audit_flows.specs.Lines.{Placed}
use Rattle.audit_flows.specs.{Transfer}
use Rattle.audit_recording.specs.Blame.Frames.{Carried, whole_of}
use Rattle.audit_recording.specs.Endings.Pace.{other_end}
use Rattle.audit_recording.specs.Endings.Told.{IsEnding, sent_of}
use Rattle.audit_recording.specs.Endings.Undelivered.{undelivered_of}
use Rattle.audit_recording.specs.declared.blame.blame.Blamed.{Blamed}
use Rattle.audit_recording.specs.declared.blame.closing.Word.{Word}
use Rattle.audit_recording.specs.declared.blame.ending.Ending.{Ending}
use Rattle.audit_recording.specs.declared.blame.ending.Ending.TheVariants as ending
use Rattle.audit_recording.specs.declared.blame.undelivered.Undelivered.{Undelivered}
use Rattle.audit_rows.specs.Judging.{comes_before}
use Rattle.audit_rows.specs.Viewing.{is_whole, stops_early}
use Rattle.audit_rows.specs.declared.judged.Judged.{Judged}
use Rattle.audit_rows.specs.declared.told.Told.{Told}
use Rattle.tftp_rows.specs.declared.conclusion.Conclusion.{Conclusion}
use Rattle.tftp_rows.specs.declared.conclusion.Conclusion.TheVariants.{Whole, Aborted, Unreached, Silent, Cut, Quiet, Unheard}

-- With this datagram. Only of what stops early is it known that the other end was to go on; for less than a second that is not silence.
abbrev pub quiet_after : Bool → Word → ℕ → Conclusion
quiet_after false word seconds = Quiet word.role seconds word.frame
quiet_after true word seconds = if seconds == 0 then Cut word.role word.frame else Silent (other_end word.role) seconds word.frame

-- It tells this ending, of a transfer that stops early or not; whether the ERROR came before what is refused; and what was not delivered
-- at last, if no ERROR ended it.
abbrev pub Concludes : Ending → Bool → Bool → Option (End × Undelivered) → Conclusion → Type 0
Concludes (ending.Stopped stop) early before undelivered (Aborted own is_before) = (sent_of own ≡ sent_of stop.now) × (is_before ≡ before)
Concludes (ending.Stopped stop) early before undelivered c = ⊥
Concludes (ending.Quiet word seconds) early before (Some u) c = c ≡ Unreached u.0 seconds u.1
Concludes (ending.Quiet word seconds) early before None c = c ≡ quiet_after early word seconds
Concludes ending.Whole early before undelivered c = c ≡ Whole
Concludes ending.Unheard early before undelivered c = c ≡ Unheard

-- whether what ended it is an ERROR that came before the refused datagram, and from the other end
abbrev pub is_before : Transfer → List Placed → Ending → Option Blamed → Bool
is_before x whole (ending.Stopped stop) blamed = comes_before x whole stop.now blamed
is_before x whole _ blamed = false

-- It tells how this transfer ended, by the row that this is; and what ICMP told of its last datagram, if it told anything.
abbrev pub IsConclusionOf : Conclusion → Judged → Told → Transfer → List ℕ → List Carried → Type 0
IsConclusionOf c j t x named carried =
    (e : Ending) × IsEnding x named carried (is_whole t.view.now.found) j.until e
    × Concludes e (stops_early t.view.now.found) (is_before x (whole_of named carried) e t.view.now.blamed) (undelivered_of j.trail) c
