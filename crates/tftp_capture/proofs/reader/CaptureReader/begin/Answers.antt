use Rattle.std.proofs.Common.{◌≡◌, [], Err, ap, sym, refl, ◌∙◌, subst, None}
use Rattle.tftp_capture.specs.{Stands, head_line, HasService, LineState}
use Rattle.tftp_capture.specs.CaptureText.Due.{Body, EndLine, ServiceLine}
use Rattle.tftp_capture.proofs.Headers.{at_end_rest, at_read, at_text_end, consumed_nil, end_bad, end_ok, fails_to_begin, head_bad, head_ok, head_stop, refused_at_once, said_stop, service_at, service_bad, service_ok}
use Rattle.tftp_capture.proofs.reader.CaptureReader.begin.Goals as goal

pub returns-in_default-clause-err : goal.returns-in_default-clause-err
returns-in_default-clause-err g c = refused_at_once (g.R.Read.remaining c.args.reader.now.0)

pub returns-in-Err-clause-err : goal.returns-in-Err-clause-err
returns-in-Err-clause-err g c =
    let ends = rw c.in-Ok.ensures at c.in-Err.ensures.ends in
    fails_to_begin (g.R.Read.remaining c.args.reader.now.0) (g.R.Read.remaining c.next.new.reader.0) c.next.new.self.ahead c.at.result c.next.ensures.near (λ h. c.in-Err.ensures.drained (ap Err (at_read c.in-Err.error _ (rw c.at.ensures at h)))) (λ h. c.in-Err.ensures.end (ap Err (at_text_end c.in-Err.error _ (rw c.at.ensures at h)))) (rw c.at.ensures (head_stop _ _ c.next.new.self.line _ c.next.new.self.ahead c.in-Err.error ends.1 ends.2))

pub returns-in_default-of-clause-err : goal.returns-in_default-of-clause-err
returns-in_default-of-clause-err g c =
    let ends = rw c.in-Ok.ensures at c.in_default-next.ensures.ends in
    let other = rw c.line.ensures.value at c.in_default-of.ensures in
    fails_to_begin (g.R.Read.remaining c.args.reader.now.0) (g.R.Read.remaining c.next.new.reader.0) c.next.new.self.ahead _ c.next.ensures.near (λ h. absurd h) (λ h. cc)
    (head_bad _ _ c.next.new.self.line ends.0 _ ends.1 ends.2 other)

pub returns-in-Err-next_said-clause-err : goal.returns-in-Err-next_said-clause-err
returns-in-Err-next_said-clause-err g c =
    let ends = rw c.in-Ok.ensures at c.in_default-next.ensures.ends in
    let is : c.next.new.self.line ≡ head_line c.in-Some.version = sym c.line.ensures.value ∙ c.in-Some.ensures in
    let taken = rw c.in-Ok.ensures at c.in_default-next.ensures.taken in
    let count = rw c.in-Ok.ensures at c.in_default-next.ensures.count in
    let head = head_ok _ (g.R.Read.remaining c.next.new.reader.0) c.in-Some.version c.next.new.self c.go_on_in.new.self ends.0 ends.1 ends.2 is taken count c.go_on_in.ensures in
    fails_to_begin (g.R.Read.remaining c.args.reader.now.0) (g.R.Read.remaining c.next_said.new.reader.0) c.next_said.new.self.ahead c.at-in-Err-next_said.result c.next_said.ensures.near (λ h. c.in-Err-next_said.ensures.drained (ap Err (at_read c.in-Err-next_said.error _ (rw c.at-in-Err-next_said.ensures at h)))) (λ h. c.in-Err-next_said.ensures.end (ap Err (at_text_end c.in-Err-next_said.error _ (rw c.at-in-Err-next_said.ensures at h))))
    (rw (c.at-in-Err-next_said.ensures, c.count.ensures.value) (said_stop _ _ _ c.go_on_in.new.self c.next_said.new.self (EndLine c.in-Some.version) tt head c.in-Err-next_said.error c.in-Err-next_said.ensures.reaches))

pub returns-in_default-end_of-clause-err : goal.returns-in_default-end_of-clause-err
returns-in_default-end_of-clause-err g c =
    let ends = rw c.in-Ok.ensures at c.in_default-next.ensures.ends in
    let is : c.next.new.self.line ≡ head_line c.in-Some.version = sym c.line.ensures.value ∙ c.in-Some.ensures in
    let taken = rw c.in-Ok.ensures at c.in_default-next.ensures.taken in
    let count = rw c.in-Ok.ensures at c.in_default-next.ensures.count in
    let head = head_ok _ (g.R.Read.remaining c.next.new.reader.0) c.in-Some.version c.next.new.self c.go_on_in.new.self ends.0 ends.1 ends.2 is taken count c.go_on_in.ensures in
    let other = rw c.line-2.ensures.value at c.in_default-end_of.ensures in
    fails_to_begin (g.R.Read.remaining c.args.reader.now.0) (g.R.Read.remaining c.next_said.new.reader.0) c.next_said.new.self.ahead _ c.next_said.ensures.near (λ h. absurd h) (λ h. cc)
    (rw c.count-in_default-end_of.ensures.value (end_bad _ _ _ c.in-Some.version c.go_on_in.new.self c.next_said.new.self head c.in_default-next_said.ensures.reaches other))

pub returns-in-Err-next_said-2-clause-err : goal.returns-in-Err-next_said-2-clause-err
returns-in-Err-next_said-2-clause-err g c =
    let ends = rw c.in-Ok.ensures at c.in_default-next.ensures.ends in
    let is : c.next.new.self.line ≡ head_line c.in-Some.version = sym c.line.ensures.value ∙ c.in-Some.ensures in
    let taken = rw c.in-Ok.ensures at c.in_default-next.ensures.taken in
    let count = rw c.in-Ok.ensures at c.in_default-next.ensures.count in
    let head = head_ok _ (g.R.Read.remaining c.next.new.reader.0) c.in-Some.version c.next.new.self c.go_on_in.new.self ends.0 ends.1 ends.2 is taken count c.go_on_in.ensures in
    let named = end_ok _ _ _ c.in-Some.version c.go_on_in.new.self c.next_said.new.self c.in-Some-end_of.named head c.in_default-next_said.ensures.reaches (sym c.line-2.ensures.value ∙ c.in-Some-end_of.ensures) in
    fails_to_begin (g.R.Read.remaining c.args.reader.now.0) (g.R.Read.remaining c.next_said-2.new.reader.0) c.next_said-2.new.self.ahead c.at-in-Err-next_said-2.result c.next_said-2.ensures.near (λ h. c.in-Err-next_said-2.ensures.drained (ap Err (at_read c.in-Err-next_said-2.error _ (rw c.at-in-Err-next_said-2.ensures at h)))) (λ h. c.in-Err-next_said-2.ensures.end (ap Err (at_text_end c.in-Err-next_said-2.error _ (rw c.at-in-Err-next_said-2.ensures at h))))
    (rw (c.at-in-Err-next_said-2.ensures, c.count-in-Err-next_said-2.ensures.value) (said_stop _ _ _ c.next_said.new.self c.next_said-2.new.self (ServiceLine c.in-Some.version c.in-Some-end_of.named) tt named c.in-Err-next_said-2.error c.in-Err-next_said-2.ensures.reaches))

pub returns-in-Err-clause-end : goal.returns-in-Err-clause-end
returns-in-Err-clause-end g c = λ h.
    let error = at_text_end c.in-Err.error _ (rw c.at.ensures at h) in
    at_end_rest _ c.next.new.self.ahead (c.in-Err.ensures.end (cc))

pub returns-in-Err-next_said-clause-end : goal.returns-in-Err-next_said-clause-end
returns-in-Err-next_said-clause-end g c = λ h.
    let error = at_text_end c.in-Err-next_said.error _ (rw c.at-in-Err-next_said.ensures at h) in
    at_end_rest _ c.next_said.new.self.ahead (c.in-Err-next_said.ensures.end (cc))

pub returns-in-Err-next_said-2-clause-end : goal.returns-in-Err-next_said-2-clause-end
returns-in-Err-next_said-2-clause-end g c = λ h.
    let error = at_text_end c.in-Err-next_said-2.error _ (rw c.at-in-Err-next_said-2.ensures at h) in
    at_end_rest _ c.next_said-2.new.self.ahead (c.in-Err-next_said-2.ensures.end (cc))

pub returns-in_default-service_of-clause-err : goal.returns-in_default-service_of-clause-err
returns-in_default-service_of-clause-err g c =
    let ends = rw c.in-Ok.ensures at c.in_default-next.ensures.ends in
    let is : c.next.new.self.line ≡ head_line c.in-Some.version = sym c.line.ensures.value ∙ c.in-Some.ensures in
    let taken = rw c.in-Ok.ensures at c.in_default-next.ensures.taken in
    let count = rw c.in-Ok.ensures at c.in_default-next.ensures.count in
    let head = head_ok _ (g.R.Read.remaining c.next.new.reader.0) c.in-Some.version c.next.new.self c.go_on_in.new.self ends.0 ends.1 ends.2 is taken count c.go_on_in.ensures in
    let named = end_ok _ _ _ c.in-Some.version c.go_on_in.new.self c.next_said.new.self c.in-Some-end_of.named head c.in_default-next_said.ensures.reaches (sym c.line-2.ensures.value ∙ c.in-Some-end_of.ensures) in
    let other = rw c.line-3.ensures.value at c.in_default-service_of.ensures in
    fails_to_begin (g.R.Read.remaining c.args.reader.now.0) (g.R.Read.remaining c.next_said-2.new.reader.0) c.next_said-2.new.self.ahead _ c.next_said-2.ensures.near (λ h. absurd h) (λ h. cc)
    (rw c.count-handed.ensures.value (service_bad _ _ _ c.in-Some.version c.next_said.new.self c.next_said-2.new.self c.in-Some-end_of.named named c.in_default-next_said-2.ensures.reaches other))

pub returns-clause-ok : goal.returns-clause-ok
returns-clause-ok g c =
    let ends = rw c.in-Ok.ensures at c.in_default-next.ensures.ends in
    let is : c.next.new.self.line ≡ head_line c.in-Some.version = sym c.line.ensures.value ∙ c.in-Some.ensures in
    let taken = rw c.in-Ok.ensures at c.in_default-next.ensures.taken in
    let count = rw c.in-Ok.ensures at c.in_default-next.ensures.count in
    let head = head_ok _ (g.R.Read.remaining c.next.new.reader.0) c.in-Some.version c.next.new.self c.go_on_in.new.self ends.0 ends.1 ends.2 is taken count c.go_on_in.ensures in
    let named = end_ok _ _ _ c.in-Some.version c.go_on_in.new.self c.next_said.new.self c.in-Some-end_of.named head c.in_default-next_said.ensures.reaches (sym c.line-2.ensures.value ∙ c.in-Some-end_of.ensures) in
    let is = rw c.line-3.ensures.value at c.in-Some-service_of.ensures in
    let begun = service_ok _ _ _ c.in-Some.version c.next_said.new.self c.next_said-2.new.self c.in-Some-end_of.named c.in-Some-service_of.service named c.in_default-next_said-2.ensures.reaches is.0 is.1 in
    let version : c.next_said-2.new.self.version ≡ c.in-Some.version = c.in_default-next_said-2.ensures.reaches.version ∙ c.in_default-next_said.ensures.reaches.version ∙ ap (λ (s : LineState). s.version) c.go_on_in.ensures in (
      begun.text,
      consumed_nil (g.R.Read.remaining c.args.reader.now.0) _ begun.text begun.consumed,
      record {
        lines = begun.lines;
        stands = subst (λ v. Stands begun.text begun.lines [] (Body v (record { named = c.in-Some-end_of.named; service = c.in-Some-service_of.service; rollover = None })) []) (sym version) begun.stands;
        line_count = begun.line_count;
        byte_count = begun.byte_count;
        datagram_count = refl;
      },
    )

pub returns-clause-service : goal.returns-clause-service
returns-clause-service g c =
    let ends = rw c.in-Ok.ensures at c.in_default-next.ensures.ends in
    let is : c.next.new.self.line ≡ head_line c.in-Some.version = sym c.line.ensures.value ∙ c.in-Some.ensures in
    let taken = rw c.in-Ok.ensures at c.in_default-next.ensures.taken in
    let count = rw c.in-Ok.ensures at c.in_default-next.ensures.count in
    let head = head_ok _ (g.R.Read.remaining c.next.new.reader.0) c.in-Some.version c.next.new.self c.go_on_in.new.self ends.0 ends.1 ends.2 is taken count c.go_on_in.ensures in
    let named = end_ok _ _ _ c.in-Some.version c.go_on_in.new.self c.next_said.new.self c.in-Some-end_of.named head c.in_default-next_said.ensures.reaches (sym c.line-2.ensures.value ∙ c.in-Some-end_of.ensures) in
    let is = rw c.line-3.ensures.value at c.in-Some-service_of.ensures in
    let begun = service_ok _ _ _ c.in-Some.version c.next_said.new.self c.next_said-2.new.self c.in-Some-end_of.named c.in-Some-service_of.service named c.in_default-next_said-2.ensures.reaches is.0 is.1 in (
      begun.text,
      consumed_nil (g.R.Read.remaining c.args.reader.now.0) _ begun.text begun.consumed,
      subst (HasService begun.text _) (sym c.count-handed.ensures.value) (service_at _ _ _ c.in-Some.version c.next_said.new.self c.next_said-2.new.self c.in-Some-end_of.named c.in-Some-service_of.service named c.in_default-next_said-2.ensures.reaches is.0 is.1),
    )
