use Rattle.std.proofs.Common.{◌≡◌, refl, subst, sym}
use Rattle.audit_recording.specs.Blame.Frames.{is_seen}
use Rattle.audit_recording.specs.Blame.Kept.{placed_by}
use Rattle.audit_recording.proofs.blame.passed.Passed.is_seen.Goals as goal

pub returns-in-Client : goal.returns-in-Client
returns-in-Client c whole ends =
    subst (λ p. c.is_at_client.result ≡ is_seen p c.args.ends.now.number whole (placed_by c.args.self.now)) (sym c.in-Client.is) (c.is_at_client.ensures (placed_by c.args.self.now) refl)

pub returns-in-Server : goal.returns-in-Server
returns-in-Server c whole ends =
    subst (λ p. c.is_at_server.result ≡ is_seen p c.args.ends.now.number whole (placed_by c.args.self.now)) (sym c.in-Server.is)
    (c.is_at_server.ensures whole (placed_by c.args.self.now) ends refl refl refl)

pub returns-in-Between : goal.returns-in-Between
returns-in-Between c whole ends =
    subst (λ p. c.is_at_client-in-Between.result ≡ is_seen p c.args.ends.now.number whole (placed_by c.args.self.now)) (sym c.in-Between.is)
    (c.is_at_client-in-Between.ensures (placed_by c.args.self.now) refl)
