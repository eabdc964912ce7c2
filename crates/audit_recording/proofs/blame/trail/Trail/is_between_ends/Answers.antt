use Rattle.std.proofs.Common.{◌≡◌, ◌||◌, [], false, refl, sym, ap, ◌∙◌}
use Rattle.audit_flows.specs.Lines.{Recorded, same_endpoint}
use Rattle.audit_flows.specs.{Transfer}
use Rattle.audit_flows.specs.Transfers.{server_of}
use Rattle.audit_recording.specs.Between.{server_or_asked}
use Rattle.audit_recording.specs.Blame.Frames.{whole_of}
use Rattle.audit_recording.specs.Session.Heard.{end_beside}
use Rattle.audit_recording.specs.declared.blame.undelivered.Undelivered.{Undelivered}
use Rattle.audit_recording.proofs.blame.trail.Trail.is_between_ends.Goals as goal

-- a datagram between the ends of that one
abbrev between_them : Undelivered → Recorded
between_them u = record { time = 0; source = u.source; target = u.target; payload = []; is_spelled = false }

pub returns-then-is_server : goal.returns-then-is_server
returns-then-is_server c judging x named carried was =
    let u = c.args.undelivered.now in
    let peer : c.peer-peer.result ≡ end_beside x.client u = c.peer-peer.ensures (between_them u) refl refl ∙ ap (λ (y : Transfer). end_beside y.client u) was.transfer in
    let server : c.server.result ≡ server_or_asked x (server_of x.number (whole_of named carried)) = c.server.ensures judging x named carried was in
    let is : c.eq-is_server.result ≡ same_endpoint (end_beside x.client u) (server_or_asked x (server_of x.number (whole_of named carried))) = c.eq-is_server.ensures ∙ (λ i. same_endpoint (peer i) (server i)) in
    c.if-is_server.true ∙ sym (ap (λ b. b || same_endpoint (end_beside x.client u) x.asked) (sym is ∙ c.if-is_server.true))

pub returns-else-is_server : goal.returns-else-is_server
returns-else-is_server c judging x named carried was =
    let u = c.args.undelivered.now in
    let peer : c.peer-peer.result ≡ end_beside x.client u = c.peer-peer.ensures (between_them u) refl refl ∙ ap (λ (y : Transfer). end_beside y.client u) was.transfer in
    let server : c.server.result ≡ server_or_asked x (server_of x.number (whole_of named carried)) = c.server.ensures judging x named carried was in
    let is : c.eq-is_server.result ≡ same_endpoint (end_beside x.client u) (server_or_asked x (server_of x.number (whole_of named carried))) = c.eq-is_server.ensures ∙ (λ i. same_endpoint (peer i) (server i)) in
    c.eq-is_asked.ensures
    ∙ (λ i. same_endpoint (peer i) (was.transfer i).asked)
    ∙ sym (ap (λ b. b || same_endpoint (end_beside x.client u) x.asked) (sym is ∙ c.if-is_server.false))
