use Rattle.std.proofs.Common.{Err, ap, refl}
use Rattle.net_pcap.proofs.Standings.{begins_ok, begins_opened, begins_none, begins_err, refused_at_once}
use Rattle.net_pcap.proofs.reader.FrameReader.begin.Goals as goal

pub returns-in-Ok-Some-clause-ok : goal.returns-in-Ok-Some-clause-ok
returns-in-Ok-Some-clause-ok g c =
    let ends = rw c.in-Ok-Some.field-0-is at c.in-Ok-Some.ensures.ends in
    begins_ok c.in-Ok.pieces c.step.new.self (g.R.Read.remaining c.args.reader.now.0) _ c.step.new.piece.items c.in-Ok.ensures.ahead c.in-Ok.ensures.mode c.in-Ok.ensures.count c.in-Ok-Some.field-0-0 ends

pub returns-in-Ok-None-clause-err : goal.returns-in-Ok-None-clause-err
returns-in-Ok-None-clause-err g c =
    let ends = rw c.in-Ok-None.field-0-is at c.in-Ok-None.ensures.ends in
    begins_none c.in-Ok.pieces c.step.new.self (g.R.Read.remaining c.args.reader.now.0) _ c.step.new.piece.items c.in-Ok.ensures.ahead c.in-Ok.ensures.mode c.in-Ok.ensures.count ends

pub returns-in-Err-clause-err : goal.returns-in-Err-clause-err
returns-in-Err-clause-err g c =
    begins_err c.in-Ok.pieces c.step.new.self (g.R.Read.remaining c.args.reader.now.0) _ c.step.new.piece.items c.in-Ok.ensures.ahead c.in-Ok.ensures.mode c.in-Ok.ensures.count c.in-Err.kind c.step.new.self.ahead (g.R.Read.remaining c.step.new.reader.0) refl c.in-Err.ensures.ends (λ h. c.in-Err.ensures.short (ap Err h))

pub returns-in-Ok-Some-clause-opened : goal.returns-in-Ok-Some-clause-opened
returns-in-Ok-Some-clause-opened g c =
    let ends = rw c.in-Ok-Some.field-0-is at c.in-Ok-Some.ensures.ends in
    begins_opened c.in-Ok.pieces c.step.new.self (g.R.Read.remaining c.args.reader.now.0) _ c.step.new.piece.items c.in-Ok.ensures.ahead c.in-Ok.ensures.mode c.in-Ok.ensures.count c.in-Ok-Some.field-0-0 ends

pub returns-in_default-clause-err : goal.returns-in_default-clause-err
returns-in_default-clause-err g c = refused_at_once (g.R.Read.remaining c.args.reader.now.0)
