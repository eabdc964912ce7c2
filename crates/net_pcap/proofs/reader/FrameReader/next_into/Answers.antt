use Rattle.std.proofs.Common.{◌≡◌, Err, ap}
use Rattle.net_pcap.proofs.Standings.{continues_frame, continues_end, continues_fault, short_fault}
use Rattle.net_streams.specs.{Open}
use Rattle.net_pcap.proofs.reader.FrameReader.next_into.Goals as goal

pub returns-in-Ok-true-clause-continues : goal.returns-in-Ok-true-clause-continues
returns-in-Ok-true-clause-continues g c = λ bytes frames stands.
    let is : record { pieces = c.self.inside.pieces; count = c.self.inside.count; standing = Open } ≡ c.args.self.now = rw c.in-Open.is at c.self.view_is in
    let tells = rw c.in-Ok-true.field-0-test at c.in-Ok-true.ensures.tells in
    rw c.in-Open.is (continues_frame c.args.self.now c.self.inside.pieces c.fill.new.pieces c.self.inside.count (g.R.Read.remaining c.args.reader.now.0) (g.R.Read.remaining c.fill.new.reader.0) c.fill.new.self.parts bytes frames is stands tells)

pub returns-in-Ok-false-clause-continues : goal.returns-in-Ok-false-clause-continues
returns-in-Ok-false-clause-continues g c = λ bytes frames stands.
    let is : record { pieces = c.self.inside.pieces; count = c.self.inside.count; standing = Open } ≡ c.args.self.now = rw c.in-Open.is at c.self.view_is in
    let tells = rw c.in-Ok-false.field-0-test at c.in-Ok-false.ensures.tells in
    continues_end c.args.self.now c.self.inside.pieces c.fill.new.pieces c.self.inside.count (g.R.Read.remaining c.args.reader.now.0) (g.R.Read.remaining c.fill.new.reader.0) c.fill.new.self.parts bytes frames is stands tells

pub returns-in-Err-clause-continues : goal.returns-in-Err-clause-continues
returns-in-Err-clause-continues g c = λ bytes frames stands.
    let is : record { pieces = c.self.inside.pieces; count = c.self.inside.count; standing = Open } ≡ c.args.self.now = rw c.in-Open.is at c.self.view_is in
    continues_fault c.args.self.now c.self.inside.pieces c.fill.new.pieces c.self.inside.count (g.R.Read.remaining c.args.reader.now.0) (g.R.Read.remaining c.fill.new.reader.0) c.fill.new.self.parts bytes frames is stands c.in-Err.kind c.in-Err.ensures.tells

pub returns-in-Err-clause-wants : goal.returns-in-Err-clause-wants
returns-in-Err-clause-wants g c = λ bytes frames stands due memory.
    let is : record { pieces = c.self.inside.pieces; count = c.self.inside.count; standing = Open } ≡ c.args.self.now = rw c.in-Open.is at c.self.view_is in
    short_fault c.args.self.now c.self.inside.pieces c.fill.new.pieces c.self.inside.count (g.R.Read.remaining c.args.reader.now.0) (g.R.Read.remaining c.fill.new.reader.0) c.fill.new.self.parts bytes frames is stands _ (λ more given goes. c.in-Err.ensures.wants more given goes (ap Err memory))
