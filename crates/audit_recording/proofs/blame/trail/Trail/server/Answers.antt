use Rattle.std.proofs.Common.{◌≡◌, Option, Some, None, refl, ap, ◌∙◌, unwrap_or}
use Rattle.audit_flows.specs.{Endpoint, Transfer}
use Rattle.audit_flows.specs.Transfers.{server_of}
use Rattle.audit_recording.specs.Between.{server_or_asked}
use Rattle.audit_recording.specs.Blame.Frames.{whole_of}
use Rattle.audit_recording.proofs.blame.trail.Trail.server.Goals as goal

or_asked : (x : Transfer) (o : Option Endpoint) → unwrap_or o x.asked ≡ server_or_asked x o
or_asked x None = refl
or_asked x (Some e) = refl

pub returns : goal.returns
returns c judging x named carried was =
    c.unwrap_or.ensures
    ∙ ap (λ o. unwrap_or o c.args.self.now.transfer.asked) (c.server.ensures (whole_of named carried) was.ends ∙ ap (λ n. server_of n (whole_of named carried)) was.number)
    ∙ ap (λ (y : Transfer). unwrap_or (server_of x.number (whole_of named carried)) y.asked) was.transfer
    ∙ or_asked x (server_of x.number (whole_of named carried))
