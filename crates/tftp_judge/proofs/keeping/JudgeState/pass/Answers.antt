use Rattle.std.proofs.Common.{◌≡◌, ◌↔◌, ℕ, true, List, ◌∷◌, Result, Ok, Err, OnOk, inl, inr, refl, sym, subst, ap, ◌∙◌}
use Rattle.std.proofs.lemmas.Bool.{false≢true}
use Rattle.tftp_packet.specs.{Message, Spells, opcode_of}
use Rattle.tftp_capture.specs.{datagram_of, header_of}
use Rattle.tftp_packet.specs.Hosts.{Datagram, Header}
use Rattle.tftp_judge.specs.Found.{error_by_port}
use Rattle.tftp_ends.specs.{PortFault}
use Rattle.tftp_ends.specs.declared.ports.PortFault.TheVariants as PortFault
use Rattle.tftp_judge.specs.declared.pass_error.PassError.TheVariants as PassError
use Rattle.tftp_ends.specs.{KnownIds, StandsFor, HasNumbers, among_all}
use Rattle.law_model.specs.Rules.{is_of_transfer, transfer_of}
use Rattle.law_rollover.specs.{IsTaken, IsTakenFor}
use Rattle.tftp_judge.specs.{FindsOf, PassError, HasKept, JudgeState}
use Rattle.tftp_judge.proofs.Accepting.{Routed, fault_found, state_found, routed_by, stray_first, stray_found}
use Rattle.tftp_judge.proofs.Taken.{error_given, error_taken, opcode_taken}
use Rattle.tftp_judge.proofs.keeping.JudgeState.pass.Given.{Over}
use Rattle.tftp_judge.proofs.keeping.JudgeState.pass.Goals as goal
use Rattle.tftp_judge.proofs.keeping.JudgeState.pass.Goals.{then-says_unknown_id, else-says_unknown_id, After-opcode, In-Ok}

-- what is kept, by the fields
known : (g : Over) (c : After-opcode g) (h : Header) (earlier : List Datagram) → HasKept c.args.self.now h earlier
    → HasKept (record { header = header_of c.self.inside.header; ports = c.self.inside.ports; transfer = c.self.inside.transfer; of_transfer = c.self.inside.of_transfer }) h earlier
known g c h earlier has = subst (λ (k : JudgeState). HasKept k h earlier) (sym c.self.view_is) has

numbers : (g : Over) (c : After-opcode g) (h : Header) (earlier : List Datagram) (d : Datagram) → IsTaken c.args.rollover (transfer_of h earlier) (datagram_of c.args.datagram.now) d
    → HasNumbers d c.args.datagram.now.dir c.args.datagram.now.local_port c.args.datagram.now.remote_host c.args.datagram.now.remote_port c.opcode.result
numbers g c h earlier d taken = record {
  dir = ap (λ (x : Datagram). x.dir) taken.0;
  local = ap (λ (x : Datagram). x.local) taken.0;
  host = ap (λ (x : Datagram). x.host) taken.0;
  remote = ap (λ (x : Datagram). x.remote) taken.0;
  opcode = opcode_taken (transfer_of h earlier) (datagram_of c.args.datagram.now).payload d.payload c.args.rollover taken.1 ∙ sym (c.opcode.ensures ∙ ap opcode_of c.as_slice-payload.ensures);
}

routed : (g : Over) (c : In-Ok g) (h : Header) (earlier : List Datagram) (d : Datagram) → StandsFor c.self.inside.ports h earlier
    → HasNumbers d c.args.datagram.now.dir c.args.datagram.now.local_port c.args.datagram.now.remote_host c.args.datagram.now.remote_port c.opcode.result
    → Routed h earlier d c.class.new.self c.in-Ok.route
routed g c h earlier d stands numbered =
    routed_by h earlier d c.class.new.self c.class.result c.in-Ok.route c.in-Ok.is (c.class.ensures.answer h earlier d stands numbered) (c.class.ensures.passes h earlier d stands numbered)

pub returns-in-Request-clause-finds : goal.returns-in-Request-clause-finds
returns-in-Request-clause-finds g c h earlier d lawful has taken =
    let at = known g (goal.at.returns-in-Request-clause-finds g c).After-opcode h earlier has in
    let by_ports = routed g (goal.at.returns-in-Request-clause-finds g c).In-Ok h earlier d at.ports (numbers g (goal.at.returns-in-Request-clause-finds g c).After-opcode h earlier d taken) in
    let on : is_of_transfer (among_all c.in-Ok.route) ≡ true = elim c.in-Request.is [ inl is ↦ ap (λ r. is_of_transfer (among_all r)) is | inr is ↦ ap (λ r. is_of_transfer (among_all r)) is ] in
    state_found h earlier d c.pass_message.new.self (c.pass_message.ensures.header ∙ at.header) (λ passes. subst (λ (ids : KnownIds). StandsFor ids h (d ∷ earlier)) (sym c.pass_message.ensures.ports) (by_ports.ports passes)) c.pass_message.result
    (c.pass_message.ensures.finds h earlier d at.header lawful at.kept (sym by_ports.is) on (ap (λ (x : Datagram). x.dir) taken.0) (subst (λ payload. IsTakenFor c.args.rollover (transfer_of h earlier) payload d.payload) (sym c.as_slice-payload.ensures) taken.1))

pub returns-after-says_unknown_id-clause-finds : goal.returns-after-says_unknown_id-clause-finds
returns-after-says_unknown_id-clause-finds g c h earlier d lawful has taken =
    let at = known g (goal.at.returns-after-says_unknown_id-clause-finds g c).After-opcode h earlier has in
    let by_ports = routed g (goal.at.returns-after-says_unknown_id-clause-finds g c).In-Ok h earlier d at.ports (numbers g (goal.at.returns-after-says_unknown_id-clause-finds g c).After-opcode h earlier d taken) in
    let raw = subst (λ (payload : List ℕ). (c.says_unknown_id.result ≡ true) ↔ ((text : List ℕ) × Spells payload (Message.Error 5 text))) c.as_slice-payload.ensures c.says_unknown_id.ensures in
    let payload = (datagram_of c.args.datagram.now).payload in
    let says : (c.says_unknown_id.result ≡ true) ↔ ((text : List ℕ) × Spells d.payload (Message.Error 5 text)) = (
      λ is. let (text, spells) = raw.0 is in (text, error_taken (transfer_of h earlier) payload d.payload c.args.rollover taken.1 5 text spells),
      λ (text, spells). raw.1 (text, error_given (transfer_of h earlier) payload d.payload c.args.rollover taken.1 5 text spells),
    ) in
    elim c.if-says_unknown_id.branch [
      | then-says_unknown_id w ↦ rw w.result-is
          (stray_found h earlier d _ c.in-Ok.route by_ports (ap (λ r. is_of_transfer (among_all r)) c.in-StrayAnswer.is) (λ _. says.0 w.if-says_unknown_id.true) at.header at.kept)
      | else-says_unknown_id w ↦ rw w.result-is
          (stray_first h earlier d (inr (by_ports.is ∙ ap among_all c.in-StrayAnswer.is, λ unknown. false≢true (sym w.if-says_unknown_id.false ∙ says.1 unknown))))
    ]

pub returns-in-Stray-clause-finds : goal.returns-in-Stray-clause-finds
returns-in-Stray-clause-finds g c h earlier d lawful has taken =
    let at = known g (goal.at.returns-in-Stray-clause-finds g c).After-opcode h earlier has in
    let by_ports = routed g (goal.at.returns-in-Stray-clause-finds g c).In-Ok h earlier d at.ports (numbers g (goal.at.returns-in-Stray-clause-finds g c).After-opcode h earlier d taken) in
    stray_found h earlier d _ c.in-Ok.route by_ports (ap (λ r. is_of_transfer (among_all r)) c.in-Stray.is) (λ answer. let same = sym (ap among_all c.in-Stray.is) ∙ answer in absurd (cc)) at.header at.kept

pub returns-in-Err-clause-finds : goal.returns-in-Err-clause-finds
returns-in-Err-clause-finds g c h earlier d lawful has taken =
    let stands = (known g (goal.at.returns-in-Err-clause-finds g c).After-opcode h earlier has).ports in
    let numbered = numbers g (goal.at.returns-in-Err-clause-finds g c).After-opcode h earlier d taken in
    (subst (λ (stop : PassError). FindsOf h earlier d (Unit {0}) (Err stop)) (sym c.error_of_port.ensures)
    (fault_found h earlier d (Unit {0}) c.class.result c.in-Err.fault c.in-Err.is (c.class.ensures.answer h earlier d stands numbered) (c.class.ensures.memory h earlier d stands numbered)))

-- ---- memory

memory_fault : (fault : PortFault) → error_by_port fault ≡ PassError.Memory → fault ≡ PortFault.Memory
memory_fault (PortFault.Broken rule) is = absurd (cc)
memory_fault PortFault.Memory is = refl

pub returns-in-Err-clause-memory : goal.returns-in-Err-clause-memory
returns-in-Err-clause-memory g c h earlier d has taken want =
    let stands = (known g (goal.at.returns-in-Err-clause-memory g c).After-opcode h earlier has).ports in
    let numbered = numbers g (goal.at.returns-in-Err-clause-memory g c).After-opcode h earlier d taken in
    let stop : c.error_of_port.result ≡ PassError.Memory = cc in
    let fault : c.in-Err.fault ≡ PortFault.Memory = memory_fault c.in-Err.fault (sym c.error_of_port.ensures ∙ stop) in
    inl (c.class.ensures.memory h earlier d stands numbered (c.in-Err.is ∙ ap Err fault))

pub returns-in-Request-clause-memory : goal.returns-in-Request-clause-memory
returns-in-Request-clause-memory g c h earlier d has taken want =
    let at = known g (goal.at.returns-in-Request-clause-memory g c).After-opcode h earlier has in
    let by_ports = routed g (goal.at.returns-in-Request-clause-memory g c).In-Ok h earlier d at.ports (numbers g (goal.at.returns-in-Request-clause-memory g c).After-opcode h earlier d taken) in
    let on : is_of_transfer (among_all c.in-Ok.route) ≡ true = elim c.in-Request.is [ inl is ↦ ap (λ r. is_of_transfer (among_all r)) is | inr is ↦ ap (λ r. is_of_transfer (among_all r)) is ] in
    c.pass_message.ensures.memory h earlier d at.kept (sym by_ports.is) on (ap (λ (x : Datagram). x.dir) taken.0) (subst (λ payload. IsTakenFor c.args.rollover (transfer_of h earlier) payload d.payload) (sym c.as_slice-payload.ensures) taken.1) want

-- ---- whether it is of the transfer

on_ok : (r : Result (Unit {0}) PassError) (A : Type 0) → A → OnOk r A
on_ok (Ok done) A a = a
on_ok (Err stop) A a = tt

pub returns-in-Request-clause-routed : goal.returns-in-Request-clause-routed
returns-in-Request-clause-routed g c h earlier d has taken =
    let at = known g (goal.at.returns-in-Request-clause-routed g c).After-opcode h earlier has in
    let by_ports = routed g (goal.at.returns-in-Request-clause-routed g c).In-Ok h earlier d at.ports (numbers g (goal.at.returns-in-Request-clause-routed g c).After-opcode h earlier d taken) in
    on_ok c.pass_message.result _ (c.pass_message.ensures.of_transfer ∙ c.belongs-self-inside.ensures ∙ ap is_of_transfer (sym by_ports.is))

pub returns-after-says_unknown_id-clause-routed : goal.returns-after-says_unknown_id-clause-routed
returns-after-says_unknown_id-clause-routed g c h earlier d has taken =
    let at = known g (goal.at.returns-after-says_unknown_id-clause-routed g c).After-opcode h earlier has in
    let by_ports = routed g (goal.at.returns-after-says_unknown_id-clause-routed g c).In-Ok h earlier d at.ports (numbers g (goal.at.returns-after-says_unknown_id-clause-routed g c).After-opcode h earlier d taken) in
    on_ok _ _ (c.belongs-self-inside.ensures ∙ ap is_of_transfer (sym by_ports.is))

pub returns-in-Stray-clause-routed : goal.returns-in-Stray-clause-routed
returns-in-Stray-clause-routed g c h earlier d has taken =
    let at = known g (goal.at.returns-in-Stray-clause-routed g c).After-opcode h earlier has in
    let by_ports = routed g (goal.at.returns-in-Stray-clause-routed g c).In-Ok h earlier d at.ports (numbers g (goal.at.returns-in-Stray-clause-routed g c).After-opcode h earlier d taken) in
    on_ok (Ok tt) _ (c.belongs-self-inside.ensures ∙ ap is_of_transfer (sym by_ports.is))
