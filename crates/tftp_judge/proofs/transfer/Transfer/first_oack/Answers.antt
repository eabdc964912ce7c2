use Rattle.std.proofs.Common.{◌∷◌, Err, refl, sym, subst, ap, ◌∙◌, Option}
use Rattle.tftp_packet.specs.{RequestParts, OptionMap, map_of}
use Rattle.tftp_packet.specs.{Rollover}
use Rattle.tftp_nego.specs.{MayAgree, FirstFault}
use Rattle.law_end.specs.{FirstOackBreaks, Agrees, terms_after}
use Rattle.tftp_judge.specs.{Finds, Transfer, IsTransferAfter, PassError}
use Rattle.tftp_judge.proofs.MessageFound.{fault_found, none_of_agreed}
use Rattle.tftp_judge.proofs.StaysAfter.{transfer_agreed}
use Rattle.tftp_judge.proofs.transfer.Transfer.first_oack.Goals as goal

pub returns-in-Err-clause-finds : goal.returns-in-Err-clause-finds
returns-in-Err-clause-finds g c = λ h passed d after spells.
    let asked_is = ap (λ (t : Transfer). t.asked) c.self.view_is in
    let rollover_is = ap (λ (t : Transfer). t.rollover) c.self.view_is ∙ after.rollover in
    subst (λ (stop : PassError). Finds (FirstOackBreaks h.rollover c.args.self.now.asked (map_of c.args.oack.now)) (IsTransferAfter c.args.self.now h (d ∷ passed)) (Err stop)) (sym c.stop_of.ensures)
    (fault_found h.rollover c.args.self.now.asked (map_of c.args.oack.now) (IsTransferAfter c.args.self.now h (d ∷ passed)) c.in-Err.fault
    (λ some. subst (λ (r : Option Rollover). FirstFault r c.args.self.now.asked (map_of c.args.oack.now) c.in-Err.fault) rollover_is
    (subst (λ (asked : RequestParts). FirstFault c.self.inside.rollover asked (map_of c.args.oack.now) c.in-Err.fault) asked_is ((c.in-Err.ensures.fault c.in-Err.fault some).0 refl)))
    (λ is. let may = c.in-Err.ensures.memory (ap (λ f. Err f) is) in none_of_agreed h.rollover c.args.self.now.asked (map_of c.args.oack.now) may.0 (subst (λ (r : Option Rollover). MayAgree r c.args.self.now.asked (map_of c.args.oack.now)) rollover_is
    (subst (λ (asked : RequestParts). MayAgree c.self.inside.rollover asked (map_of c.args.oack.now)) asked_is may.1))))

pub returns-clause-finds : goal.returns-clause-finds
returns-clause-finds g c = λ h passed d after spells.
    let asked_is = ap (λ (t : Transfer). t.asked) c.self.view_is in
    let rollover_is = ap (λ (t : Transfer). t.rollover) c.self.view_is ∙ after.rollover in
    let was = subst (λ (t : Transfer). IsTransferAfter t h passed) (sym c.self.view_is) after in
    let ok = c.in-Ok.ensures.ok in (
      none_of_agreed h.rollover c.args.self.now.asked (map_of c.args.oack.now)
          (λ e. ok.1 (ok.0 ∙ e))
          (subst (λ (r : Option Rollover). MayAgree r c.args.self.now.asked (map_of c.args.oack.now)) rollover_is
          (subst (λ (asked : RequestParts). MayAgree c.self.inside.rollover asked (map_of c.args.oack.now)) asked_is (subst (λ (o : OptionMap). MayAgree c.self.inside.rollover c.self.inside.asked o) ok.0 ok.2))),
      transfer_agreed _ h passed d (map_of c.args.oack.now) c.of.result c.begin-end.result was (ap (λ (t : Transfer). t.exchange) c.self.view_is ∙ c.requires) spells (c.of.ensures ∙ ok.0)
          (c.begin-end.ensures.terms ∙ c.agreed_terms.ensures.are h (sym after.named) (sym after.rollover)
          ∙ ap (λ (a : RequestParts). terms_after h a (Agrees c.in-Ok.agreed)) (sym asked_is) ∙ ap (λ (o : OptionMap). terms_after h c.self.inside.asked (Agrees o)) (sym c.of.ensures)) (c.begin-end.ensures.before passed after.errors),
    )
