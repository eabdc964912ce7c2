use Rattle.std.proofs.Common.{◌≡◌, ap, codes, refl}
use Rattle.std.specs.Fmt.{digits}
use Rattle.json.specs.Print.{escape_byte, print_from}
use Rattle.tftp_packet.specs.{Server}
use Rattle.audit_recording.specs.Endings.Told.{Sent}
use Rattle.tftp_rows.specs.Listing.{list_head}
use Rattle.tftp_rows.proofs.laws.worked_lists.Goals as goal

pub returns-clause-head : goal.returns-clause-head
unfolding list_head
returns-clause-head c = refl

pub returns-clause-row : goal.returns-clause-row
unfolding digits
returns-clause-row c r stop p n e t =
    let role : stop.role ≡ Server = ap {A = Sent} (λ s. s.role) n in
    let frame : stop.frame ≡ 16 = ap {A = Sent} (λ s. s.frame) n in
    let code : stop.code ≡ 1 = ap {A = Sent} (λ s. s.code) n in
    let message : stop.message.items ≡ codes "File not found" = ap {A = Sent} (λ s. s.message) n in
    rw p.number (rw p.from (rw p.to (rw p.how (rw p.coded (rw p.name (rw p.wants (rw p.datagrams (rw p.begins (rw p.ends (rw e (rw t (rw role (rw frame (rw code (rw message refl)))))))))))))))

pub returns-clause-object : goal.returns-clause-object
unfolding digits escape_byte print_from
returns-clause-object c r p e t = rw p.number (rw p.from (rw p.to (rw p.how (rw p.coded (rw p.name (rw p.wants (rw p.datagrams (rw p.begins (rw p.ends (rw e (rw t refl)))))))))))

pub returns-clause-options : goal.returns-clause-options
returns-clause-options c = refl
