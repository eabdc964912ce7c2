use Rattle.std.proofs.Common.{◌≡◌, inr, ℕ, List, Ok, Err, Bool, Result, sym, ap, ◌∙◌, subst, arith, length}
use Rattle.std.proofs.lemmas.Bool.{false≢true}
use Rattle.net_pcap.specs.{FaultKind, Memory, Says, said_of}
use Rattle.net_pcap.proofs.Fronts.{grown_longer, grown_whole}
use Rattle.net_pcap.proofs.Rests.{rest_cut, rest_failed, rest_bad}
use Rattle.net_pcap.proofs.read.read_rest.Goals as goal

ok_one : (a b : Bool) → ◌≡◌ {A = Result Bool FaultKind} (Ok a) (Ok b) → a ≡ b
ok_one a b e = cc

pub returns-in-Ok-false-clause-ends : goal.returns-in-Ok-false-clause-ends
returns-in-Ok-false-clause-ends g c =
    let (bytes, consumed, are) = c.in-Ok-false.ensures.gathers in
    let short = c.in-Ok-false.ensures.part (λ e. false≢true (sym c.in-Ok-false.field-0-test ∙ ok_one _ _ e)) in
    (bytes, consumed, rest_cut c.args.layout c.args.interfaces.now c.args.piece.now.items bytes c.args.size c.requires.front c.requires.announced c.requires.sized c.gather.new.piece.items (omega (arith, short, ap length are)))

pub returns-in-Err-clause-ends : goal.returns-in-Err-clause-ends
returns-in-Err-clause-ends g c =
    let (bytes, consumed, are) = c.in-Err.ensures.gathers in
    let short = c.in-Err.ensures.part (λ e. let x : ⊥ = cc in x) in
    (bytes, consumed, rest_failed c.args.layout c.args.interfaces.now c.args.piece.now.items bytes c.args.size c.requires.front c.requires.announced c.requires.sized c.in-Err.kind c.gather.new.piece.items are c.in-Err.ensures.kinds (omega (arith, short, ap length are)))

pub returns-in-Err-clause-memory : goal.returns-in-Err-clause-memory
returns-in-Err-clause-memory g c = λ h.
    let (bytes, consumed, are) = c.in-Err.ensures.gathers in
    let kind : c.in-Err.kind ≡ Memory = cc in
    grown_longer c.args.layout c.args.piece.now.items c.gather.new.piece.items bytes c.args.size are c.requires.announced _ (omega (arith, c.requires.front)) c.requires.sized (c.in-Err.ensures.memory (ap Err kind)) (rw c.deref.ensures.value at c.in_default.ensures)

pub said_by-requires-clause-whole : goal.said_by-requires-clause-whole
said_by-requires-clause-whole g c =
    let (bytes, consumed, are) = c.in-Ok-true.ensures.gathers in
    let whole = c.in-Ok-true.ensures.whole (ap Ok c.in-Ok-true.field-0-test) in
    rw c.deref-2.ensures.value (grown_whole c.args.layout c.args.piece.now.items c.gather.new.piece.items bytes c.args.size are c.requires.announced c.requires.sized whole).0

pub returns-in-None-clause-ends : goal.returns-in-None-clause-ends
returns-in-None-clause-ends g c =
    let (bytes, consumed, are) = c.in-Ok-true.ensures.gathers in
    let whole = c.in-Ok-true.ensures.whole (ap Ok c.in-Ok-true.field-0-test) in
    let never = rw c.deref-2.ensures.value at c.in-None.ensures.says in
    (bytes, consumed, rest_bad c.args.layout c.args.interfaces.now c.args.piece.now.items bytes c.args.size c.requires.front c.requires.announced c.requires.sized c.gather.new.piece.items (sym (ap length are) ∙ whole) (λ said says. never said (subst (λ (l : List ℕ). Says c.args.layout c.args.interfaces.now l said) (sym {A = List ℕ} are) says)))

pub returns-in-Some-said_by-clause-ends : goal.returns-in-Some-said_by-clause-ends
returns-in-Some-said_by-clause-ends g c =
    let (bytes, consumed, are) = c.in-Ok-true.ensures.gathers in
    (bytes, consumed, (subst (λ (l : List ℕ). Says c.args.layout c.args.interfaces.now l (said_of c.in-Some-said_by.found c.gather.new.piece.items)) are (rw c.deref-2.ensures.value at c.in-Some-said_by.ensures.says), inr (sym {A = List ℕ} are)))

pub returns-in-Some-clause-ends : goal.returns-in-Some-clause-ends
returns-in-Some-clause-ends g c = rw c.in-Some.ensures.0 (c.skip_rest.ensures.ends c.args.interfaces.now)
