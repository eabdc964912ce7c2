use Rattle.std.proofs.Common.{◌≡◌, ◌++◌, ℕ, Err, ap, subst}
use Rattle.net_pcap.specs.{FrameState, RunsOut, Memory}
use Rattle.net_pcap.proofs.frame.Frame.fill.Goals as goal

pub returns-in-Ok-Some-clause-tells : goal.returns-in-Ok-Some-clause-tells
returns-in-Ok-Some-clause-tells g c = rw c.in-Ok-Some.field-0-is at c.in-Ok-Some.ensures.tells

pub returns-in-Ok-None-clause-tells : goal.returns-in-Ok-None-clause-tells
returns-in-Ok-None-clause-tells g c = rw c.in-Ok-None.field-0-is at c.in-Ok-None.ensures.tells

pub returns-in-Err-clause-wants : goal.returns-in-Err-clause-wants
returns-in-Err-clause-wants g c = λ bytes frames stands h.
    let kind : c.in-Err.kind ≡ Memory = cc in
    let (taken, consumed, out) = c.in-Err.ensures.wants bytes frames stands (ap Err kind) in
    (taken, consumed, subst (λ (room : ℕ). RunsOut room c.args.pieces.now.room (bytes ++ taken) frames) (ap (λ (f : FrameState). f.room) c.self.view_is) out)
