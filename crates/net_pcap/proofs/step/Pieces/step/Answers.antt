use Rattle.std.proofs.Common.{◌≡◌, ap, refl, subst, ◌++◌, List, Err, arith}
use Rattle.net_pcap.specs.{NamedInterface, RestEnds, Memory}
use Rattle.net_pcap.proofs.Steps.{step_fails, rest_fails, rest_full, rest_place, rest_says, wants_bytes}
use Rattle.net_pcap.proofs.step.Pieces.step.Goals as goal

pub returns-in-Err-clause-ends : goal.returns-in-Err-clause-ends
returns-in-Err-clause-ends g c = step_fails c.in-Err.kind _ c.args.self.now (g.R.Read.remaining c.args.reader.now.0) _ c.read_front.new.piece.items c.self.view_is c.in-Err.ensures.taken c.in-Err.ensures.ends

pub returns-in-Err-clause-memory : goal.returns-in-Err-clause-memory
returns-in-Err-clause-memory g c = λ h. let kind : c.in-Err.kind ≡ Memory = cc in wants_bytes _ _ _ c.args.self.now c.read_front.new.piece.items c.self.view_is (omega arith) (c.in-Err.ensures.memory (ap Err kind))

pub returns-in-Err-read_rest-clause-ends : goal.returns-in-Err-read_rest-clause-ends
returns-in-Err-read_rest-clause-ends g c =
    let (more, consumed, ends) = c.in-Err-read_rest.ensures.ends in
    rest_fails _ c.args.self.now (g.R.Read.remaining c.args.reader.now.0) _ _ c.read_front.new.piece.items more c.read_rest.new.piece.items c.self.view_is c.in-Ok-Some.ensures.taken consumed c.in-Err-read_rest.kind (subst (λ (l : List NamedInterface). RestEnds c.self.inside.layout l (Err c.in-Err-read_rest.kind) c.read_rest.new.piece.items (c.read_front.new.piece.items ++ more)) c.deref.ensures.value ends)

pub returns-in-Err-read_rest-clause-memory : goal.returns-in-Err-read_rest-clause-memory
returns-in-Err-read_rest-clause-memory g c = λ h.
    let kind : c.in-Err-read_rest.kind ≡ Memory = cc in
    wants_bytes _ _ _ c.args.self.now c.read_rest.new.piece.items c.self.view_is c.in-Ok-Some.ensures.roomy (c.in-Err-read_rest.ensures.memory (ap Err kind))

pub returns-then-not-take-clause-ends : goal.returns-then-not-take-clause-ends
returns-then-not-take-clause-ends g c =
    let (more, consumed, ends) = rw c.deref.ensures.value at c.in-Ok.ensures.ends in
    rw c.take.ensures.ahead (rest_full _ c.args.self.now (g.R.Read.remaining c.args.reader.now.0) _ _ c.read_front.new.piece.items more c.read_rest.new.piece.items c.self.view_is c.in-Ok-Some.ensures.taken consumed c.in-Ok.found ends (c.if-not-take.ensures.named refl))

pub returns-then-not-take-clause-memory : goal.returns-then-not-take-clause-memory
returns-then-not-take-clause-memory g c = λ h.
    let (more, consumed, ends) = rw c.deref.ensures.value at c.in-Ok.ensures.ends in
    rest_place _ c.args.self.now (g.R.Read.remaining c.args.reader.now.0) _ _ c.read_front.new.piece.items more c.read_rest.new.piece.items c.self.view_is c.in-Ok-Some.ensures.taken consumed _ c.in-Ok.found ends (c.if-not-take.ensures.named refl) (c.if-not-take.ensures.full refl)

pub returns-clause-ends : goal.returns-clause-ends
returns-clause-ends g c =
    let (more, consumed, ends) = rw c.deref.ensures.value at c.in-Ok.ensures.ends in
    rw c.take.ensures.ahead (rest_says _ c.args.self.now (g.R.Read.remaining c.args.reader.now.0) _ _ c.read_front.new.piece.items more c.read_rest.new.piece.items c.self.view_is c.in-Ok-Some.ensures.taken consumed c.in-Ok.found c.take.new.self ends (c.if-not-take.ensures.taken refl _) (c.if-not-take.ensures.count refl) (omega arith))
