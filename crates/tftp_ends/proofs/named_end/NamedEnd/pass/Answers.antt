use Rattle.std.proofs.Common.{List, ◌∷◌, OnOk, sym, subst, ap, ◌∙◌}
use Rattle.tftp_packet.specs.{meaning}
use Rattle.tftp_packet.specs.Hosts.{Datagram}
use Rattle.tftp_ends.specs.{NamedEnd, Sends, Receives, terms_of, IsEndAfter, IsFound, IsOfItsAuthor, Says, end_of}
use Rattle.tftp_ends.proofs.named_end.NamedEnd.pass.Goals.{in-Sends, in-Receives}
use Rattle.tftp_ends.proofs.named_end.NamedEnd.pass.Goals as goal

pub returns-clause-found : goal.returns-clause-found
returns-clause-found g c = elim c.match-self.branch [
  | in-Sends w ↦ rw w.result-is
      (subst (λ (e : NamedEnd). (passed : List Datagram) → IsEndAfter e passed → IsFound (terms_of e) passed (meaning c.args.packet.now) w.pass.result)
      (sym (ap end_of w.in-Sends.is) ∙ c.self.view_is) w.pass.ensures.found)
  | in-Receives w ↦ rw w.result-is
      (subst (λ (e : NamedEnd). (passed : List Datagram) → IsEndAfter e passed → IsFound (terms_of e) passed (meaning c.args.packet.now) w.pass-in-Receives.result)
      (sym (ap end_of w.in-Receives.is) ∙ c.self.view_is) w.pass-in-Receives.ensures.found)
]

pub returns-clause-after : goal.returns-clause-after
returns-clause-after g c = elim c.match-self.branch [
  | in-Sends w ↦ rw (w.result-is, w.self-inside-is)
      (subst (λ (e : NamedEnd). (passed : List Datagram) (d : Datagram) → IsEndAfter e passed → Says d c.args.dir (meaning c.args.packet.now) → IsOfItsAuthor (terms_of e) c.args.dir (meaning c.args.packet.now)
      → OnOk w.pass.result (IsEndAfter (Sends w.pass.new.self) (d ∷ passed)))
      (sym (ap end_of w.in-Sends.is) ∙ c.self.view_is) w.pass.ensures.after)
  | in-Receives w ↦ rw (w.result-is, w.self-inside-is)
      (subst (λ (e : NamedEnd). (passed : List Datagram) (d : Datagram) → IsEndAfter e passed → Says d c.args.dir (meaning c.args.packet.now) → IsOfItsAuthor (terms_of e) c.args.dir (meaning c.args.packet.now)
      → OnOk w.pass-in-Receives.result (IsEndAfter (Receives w.pass-in-Receives.new.self) (d ∷ passed)))
      (sym (ap end_of w.in-Receives.is) ∙ c.self.view_is) w.pass-in-Receives.ensures.after)
]
