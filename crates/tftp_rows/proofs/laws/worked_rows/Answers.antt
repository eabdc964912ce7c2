use Rattle.std.proofs.Common.{◌≡◌, ap, codes, refl}
use Rattle.std.specs.Fmt.{digits}
use Rattle.tftp_packet.specs.{Server}
use Rattle.audit_recording.specs.Endings.Told.{Sent}
use Rattle.tftp_rows.specs.Rows.{column_heads}
use Rattle.tftp_rows.proofs.laws.worked_rows.Goals as goal

pub returns-clause-head : goal.returns-clause-head
unfolding column_heads
returns-clause-head c = refl

pub returns-clause-accepted : goal.returns-clause-accepted
unfolding digits
returns-clause-accepted c r p b e t = rw p.file (rw p.number (rw p.place (rw p.frame (rw p.accused (rw p.words (rw p.reasons (rw b.refusal (rw b.beyond (rw e (rw t refl))))))))))

pub returns-clause-unreached : goal.returns-clause-unreached
unfolding digits
returns-clause-unreached c r p b e t = rw p.file (rw p.number (rw p.place (rw p.frame (rw p.accused (rw p.words (rw p.reasons (rw b.refusal (rw b.stands (rw b.beyond (rw e (rw t refl)))))))))))

pub returns-clause-behind : goal.returns-clause-behind
unfolding digits
returns-clause-behind c r stop p b n e t =
    let role : stop.role ≡ Server = ap {A = Sent} (λ s. s.role) n in
    let frame : stop.frame ≡ 16 = ap {A = Sent} (λ s. s.frame) n in
    let code : stop.code ≡ 1 = ap {A = Sent} (λ s. s.code) n in
    let message : stop.message.items ≡ codes "File not found" = ap {A = Sent} (λ s. s.message) n in
    rw p.file (rw p.number (rw p.place (rw p.frame (rw p.accused (rw p.words (rw p.reasons (rw b.refusal (rw b.stands (rw b.beyond (rw e (rw t (rw role (rw frame (rw code (rw message refl)))))))))))))))

pub returns-clause-beyond : goal.returns-clause-beyond
unfolding digits
returns-clause-beyond c r p b e t = rw p.file (rw p.number (rw p.place (rw p.frame (rw p.accused (rw p.words (rw p.reasons (rw b.refusal (rw b.stands (rw b.beyond (rw e (rw t refl)))))))))))
