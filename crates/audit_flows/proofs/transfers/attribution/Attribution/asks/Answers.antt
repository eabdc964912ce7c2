use Rattle.std.proofs.Common.{◌≡◌, true, false, [], sym, ap, ◌∙◌, ◌&&◌, ◌||◌, not, is_some}
use Rattle.audit_flows.specs.Lines.{live, line, begins_request, talk_in}
use Rattle.audit_flows.specs.Transfers.{is_client, is_service}
use Rattle.audit_flows.proofs.transfers.attribution.Attribution.asks.Goals as goal

pub returns-then-is_named : goal.returns-then-is_named
returns-then-is_named c named older d after later seen spelled =
    let begins : begins_request d.payload ≡ true = sym (ap (λ s. s.kind.begins_request) seen) ∙ c.if-not-seen.false in
    let there : is_service named [] d.target.port ≡ true =
    sym (ap (λ s. is_service named [] s.target.port) seen) ∙ sym (c.is_named.ensures named older after) ∙ c.if-is_named.true in
    sym (λ i. begins i && (there i || (not (is_client older c.args.now d.target)
    && (is_service named older d.target.port || (d.is_spelled && not (is_some (talk_in d.source d.target (live c.args.now (line d.source older)))))))))

pub returns : goal.returns
returns c named older d after later seen spelled =
    let begins : begins_request d.payload ≡ true = sym (ap (λ s. s.kind.begins_request) seen) ∙ c.if-not-seen.false in
    let off : is_service named [] d.target.port ≡ false =
    sym (ap (λ s. is_service named [] s.target.port) seen) ∙ sym (c.is_named.ensures named older after) ∙ c.if-is_named.false in
    c.goes_to_service.ensures
    ∙ (λ i. not (c.is_client-is_client.ensures named older after later i)
    && (c.is_service-is_service.ensures named older after i || (sym spelled i && not (c.talks-talks.ensures named older after later i))))
    ∙ ap (λ s. not (is_client older c.args.now s.target)
    && (is_service named older s.target.port || (d.is_spelled && not (is_some (talk_in s.source s.target (live c.args.now (line s.source older))))))) seen
    ∙ sym (λ i. begins i && (off i || (not (is_client older c.args.now d.target)
    && (is_service named older d.target.port || (d.is_spelled && not (is_some (talk_in d.source d.target (live c.args.now (line d.source older)))))))))
