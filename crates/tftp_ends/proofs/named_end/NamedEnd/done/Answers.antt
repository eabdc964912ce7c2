use Rattle.std.proofs.Common.{◌≡◌, true, sym, subst, ap, ◌∙◌, List}
use Rattle.tftp_packet.specs.Hosts.{Datagram}
use Rattle.tftp_ends.specs.{NamedEnd, IsEndAfter, HoldsWire, end_of}
use Rattle.tftp_ends.proofs.named_end.NamedEnd.done.Goals as goal

pub returns-in-Sends-clause-whole : goal.returns-in-Sends-clause-whole
returns-in-Sends-clause-whole g c =
    subst (λ (e : NamedEnd). (passed : List Datagram) → IsEndAfter e passed → c.done.result ≡ true → HoldsWire e passed) (sym (ap end_of c.in-Sends.is) ∙ c.self.view_is) c.done.ensures.whole

pub returns-in-Receives-clause-whole : goal.returns-in-Receives-clause-whole
returns-in-Receives-clause-whole g c =
    subst (λ (e : NamedEnd). (passed : List Datagram) → IsEndAfter e passed → c.done-in-Receives.result ≡ true → HoldsWire e passed) (sym (ap end_of c.in-Receives.is) ∙ c.self.view_is)
    c.done-in-Receives.ensures.whole
