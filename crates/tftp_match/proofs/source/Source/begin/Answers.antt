use Rattle.std.proofs.Common.{◌∙◌, ap, sym, true}
use Rattle.audit_recording.specs.Session.Headed.{is_recording}
use Rattle.tftp_match.specs.Captures.{whole_left}
use Rattle.tftp_match.specs.declared.unread.UnreadFault.{UnreadFault}
use Rattle.tftp_rows.proofs.FaultLemmas.{same_fault}
use Rattle.tftp_match.proofs.CapturesLemmas.{again, read_of, recording_is, text_is}
use Rattle.tftp_match.proofs.UnreadLemmas.{fault_of_file}
use Rattle.tftp_match.proofs.source.Source.begin.Goals as goal

pub returns-then-is_text-clause-begun : goal.returns-then-is_text-clause-begun
returns-then-is_text-clause-begun g c =
    let file = g.R.Read.remaining c.args.reader in
    let left = g.R.Read.remaining c.head_of.new.reader in
    let head = c.in_ok-head.head.items in
    let none = ap is_recording (sym c.as_slice.ensures.value) ∙ (sym c.is_recording-is_text.ensures ∙ c.if-is_text.true) in
    text_is file left (whole_left g.R.Read.remaining c.chain-whole.result) head c.in_ok-head.ensures.head c.in_ok-head.ensures.all none (rw c.new.ensures.position at (rw c.new.ensures.inner at c.chain-whole.ensures.bytes))

pub returns-clause-begun : goal.returns-clause-begun
returns-clause-begun g c =
    let file = g.R.Read.remaining c.args.reader in
    let left = g.R.Read.remaining c.head_of.new.reader in
    let head = c.in_ok-head.head.items in
    let some = ap is_recording (sym c.as_slice.ensures.value) ∙ (sym c.is_recording-is_text.ensures ∙ c.if-is_text.false) in
    let held = again file left (whole_left g.R.Read.remaining c.chain-whole.result) head c.in_ok-head.ensures.head (rw c.new.ensures.position at (rw c.new.ensures.inner at c.chain-whole.ensures.bytes)) in (
      read_of file _ c.in_ok-session_of.field-0 c.args.services.now held c.in_ok-session_of.ensures.read,
      c.in_ok-session_of.ensures.wanted,
      recording_is file left head true c.in_ok-head.ensures.head c.in_ok-head.ensures.all some,
    )

pub returns-in_err-head-clause-why : goal.returns-in_err-head-clause-why
returns-in_err-head-clause-why g c = same_fault c.from_residual.result _ _ c.from_residual.ensures.1 (c.in_err-head.ensures.why (g.R.Read.remaining c.args.reader))

pub returns-in_err-session_of-clause-why : goal.returns-in_err-session_of-clause-why
returns-in_err-session_of-clause-why g c =
    let file = g.R.Read.remaining c.args.reader in
    let left = g.R.Read.remaining c.head_of.new.reader in
    let head = c.in_ok-head.head.items in
    let some = ap is_recording (sym c.as_slice.ensures.value) ∙ (sym c.is_recording-is_text.ensures ∙ c.if-is_text.false) in
    let held = again file left (whole_left g.R.Read.remaining c.chain-whole.result) head c.in_ok-head.ensures.head (rw c.new.ensures.position at (rw c.new.ensures.inner at c.chain-whole.ensures.bytes)) in
    same_fault c.from_residual-in_err-session_of.result (UnreadFault.Recording c.in_err-session_of.field-0.0) _ c.from_residual-in_err-session_of.ensures.1
    (recording_is file left head true c.in_ok-head.ensures.head c.in_ok-head.ensures.all some, fault_of_file file _ _ held c.in_err-session_of.ensures.why)
