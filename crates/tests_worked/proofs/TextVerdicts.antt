-- What there is to say of the worked texts.
use Rattle.std.proofs.Common.{Bool, true, false, List, [], ◌∷◌, Ok, Err, codes, inl, inr, refl, arith}
use Rattle.std.proofs.lemmas.Bool.{false≢true}
use Rattle.tftp_packet.specs.Hosts.{no_host, Header}
use Rattle.tftp_packet.specs.{Dir, Out}
use Rattle.tftp_packet.specs.{Message}
use Rattle.tftp_capture.specs.{numbered, Numbered, BeginsWith, worked_header, worked_text, BadHeader}
use Rattle.tftp_capture.specs.declared.fault.CaptureFault.TheVariants.{Text}
use Rattle.tftp_capture.proofs.Beginnings.{capture_begins, fault_after}
use Rattle.law_model.specs.Model.{two_bytes, two_bytes_view}
use Rattle.law_model.specs.Rules.{transfer_of, IsAcked}
use Rattle.law_model.specs.{EndRule}
use Rattle.law_model.proofs.ModelLemmas.Defaults.{default_blksize}
use Rattle.law_model.proofs.ModelLemmas.Worked.{two_bytes_is_view, two_bytes_complete}
use Rattle.law_end.specs.{TransferIds, IsDressed, IsLawful, IsRefused, Rule}
use Rattle.law_end.proofs.Whole.Beginnings.{empty_is_lawful}
use Rattle.tftp_judge.specs.{IsTextVerdict, unnumbered, IsVerdictByRules, Unlawful, Capture, Refused}
use Rattle.tftp_judge.proofs.ByRuns.{verdict}
use Rattle.tests_worked.specs.{overrun_text, unversioned_text}
use Rattle.tests_worked.proofs.Chains.{Start, request_alone, refused_end}
use Rattle.tests_worked.proofs.Dressed.{dressed_by}
use Rattle.tests_worked.proofs.Passing.{every_is}
use Rattle.tests_worked.proofs.Payloads.{Spelled, datagrams}
use Rattle.tests_worked.proofs.ReadShown.{two_shown}
use Rattle.tests_worked.proofs.RefusedMore.{asked}
use Rattle.tests_worked.proofs.Spelled.{request_spelled}
use Rattle.tests_worked.proofs.TextsRead.{asks, brings, acknowledges, read_of, read_said, overrun_said, no_version_said}
use Rattle.tests_worked.proofs.Verdicts.{accepted}
use Rattle.tests_worked.proofs.ByRules.{refused_by_rules}

-- ---- the read of one block

abbrev ids : TransferIds
ids = record { own = 40000; peer = record { host = no_host; port = 41000 }; asked = no_host }

abbrev request : Spelled
request = (asks, Message.Request asked)

dressed : IsDressed worked_header two_bytes two_bytes.file two_bytes_view (read_of 1)
dressed = dressed_by worked_header two_bytes two_bytes.file 512 ids ((acknowledges, Message.Ack 1) ∷ (brings 1, Message.Data 1 (codes "hi")) ∷ []) (request ∷ []) two_bytes_view (read_of 1) (default_blksize two_bytes refl) refl (request_spelled, tt) refl refl

pub read_accepted : IsTextVerdict worked_text (Ok two_bytes)
read_accepted = (worked_header, numbered 4 (read_of 1), read_said, accepted worked_header two_bytes (read_of 1) (two_shown worked_header two_bytes_view (read_of 1) two_bytes_is_view two_bytes_complete dressed))

-- ---- block 2 for block 1

abbrev begun : Start worked_header
begun = request_alone worked_header request request_spelled refl

none_acked : IsAcked (transfer_of worked_header (datagrams begun.es)) 0
none_acked = record {
  member = inl refl;
  most = λ j p. absurd (false≢true (every_is worked_header begun.es is_no_ack Out (Message.Ack j) begun.spelled refl p));
}
  where
    is_no_ack : Dir → Message → Bool
    is_no_ack dir (Message.Ack j) = false
    is_no_ack dir _ = true

overrun_refused : IsRefused worked_header (asks ∷ []) (brings 2) (Rule.Block EndRule.WindowOverrun)
overrun_refused = refused_end worked_header begun (brings 2, Message.Data 2 (codes "hi")) EndRule.WindowOverrun refl (0, inr (refl, none_acked), omega arith)

overrun_by_rules : IsVerdictByRules worked_header (read_of 2) (Err (Unlawful 2 (Rule.Block EndRule.WindowOverrun)))
overrun_by_rules = refused_by_rules worked_header (asks ∷ []) (brings 2) (acknowledges ∷ []) (Rule.Block EndRule.WindowOverrun) 2 refl refl overrun_refused

pub overrun_refused_at : IsTextVerdict overrun_text (Err (Refused (Unlawful 2 (Rule.Block EndRule.WindowOverrun))))
overrun_refused_at = (
  worked_header,
  numbered 4 (read_of 2),
  capture_begins overrun_text worked_header (numbered 4 (read_of 2)) overrun_said,
  (verdict worked_header (read_of 2) (Err (Unlawful 2 (Rule.Block EndRule.WindowOverrun)))).1 overrun_by_rules,
)

-- ---- a version that there is not

none_lawful : (header : Header) (datagrams : List Numbered) → BeginsWith [] datagrams → IsLawful header (unnumbered datagrams)
none_lawful header [] begins = empty_is_lawful header
none_lawful header (d ∷ datagrams) (rest, is) = absurd (cc)

pub no_version_faulty : IsTextVerdict unversioned_text (Err (Capture (Text 1 BadHeader)))
no_version_faulty = (
  ([], no_version_said),
  λ header datagrams begins. none_lawful header datagrams (fault_after unversioned_text header [] datagrams 1 BadHeader no_version_said begins),
)
