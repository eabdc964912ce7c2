-- What a refusal rests on, in words: whether it stands whatever frames but a request are missing, and that block numbers may begin again.
use Rattle.std.specs.Prelude.{◌&&◌, ℕ, Bool, true, false, List, [], Option, Some, Err, codes, is_none, if◌then◌else◌}
use Rattle.law_model.specs.{EndRule}
use Rattle.law_end.specs.declared.rule.Rule.TheVariants as rule
use Rattle.tftp_judge.specs.declared.refusal.Refusal.TheVariants as refusal
use Rattle.judge_tap.specs.declared.refusal.TapRefusal.TheVariants as tap
use Rattle.audit_recording.specs.declared.blame.reason.Reason.{Reason}
use Rattle.audit_rows.specs.declared.charge.Charge.{Charge}
use Rattle.audit_rows.specs.declared.found.Found.{Found}
use Rattle.audit_rows.specs.declared.found.Found.TheVariants.{AtEnd, Between}
use Rattle.audit_rows.specs.declared.viewed.Viewed.{Viewed}

-- Of a refusal that nothing makes doubtful: it stands whatever frames are missing but a request of its client, or it stands if none is.
abbrev pub premise_by : Bool → List Reason → Option Bool → List ℕ
premise_by true [] (Some true) = codes ", whatever is missing except a request"
premise_by true [] _ = codes ", if no frame is missing"
premise_by _ _ _ = []

abbrev pub premise_text : Charge → Option Bool → List ℕ
premise_text charge stands = premise_by charge.is_refusal charge.reasons.items stands

-- It is refused by rule 20: the transfer goes on after block 65535 (RFC 1350, section 5, has two bytes for a block's number).
abbrev pub goes_beyond : Found → Bool
goes_beyond (AtEnd (Err (refusal.Unlawful number (rule.Block EndRule.BeyondBlock65535)))) = true
goes_beyond (Between (Err (tap.Unlawful number (rule.Block EndRule.BeyondBlock65535) stands))) = true
goes_beyond _ = false

-- and by numbers that do not begin again
abbrev pub goes_beyond_once : Viewed → Bool
goes_beyond_once v = is_none v.rollover && goes_beyond v.found

-- the words by which numbers that begin again are judged
abbrev pub beyond_text : Bool → List ℕ
beyond_text beyond = if beyond then codes "; --end client --rollover 0 judges numbers that begin again" else []
