use Rattle.std.proofs.Common.{Some, refl, sym, ◌∙◌, []}
use Rattle.audit_recording.specs.declared.blame.facts.Found.{Found}
use Rattle.audit_recording.proofs.BlameLemmas.Holding.{facts_found, found_at}
use Rattle.audit_recording.proofs.blame.facts.ViewFacts.refuse.Goals as goal

pub returns-in-None-Some : goal.returns-in-None-Some
returns-in-None-Some c rollover x whole frames are own ends refuses =
    let found : Found = record { number = c.args.number; blamed = c.in-None-Some.blamed } in
    facts_found rollover (record { forgotten = c.args.self.now.forgotten; held = c.clear.new.self; refused = Some found }) found c.args.point x whole frames refl
    (sym (found_at rollover c.args.self.now c.args.point x whole frames c.args.number c.args.ends.now.number c.find.result c.in-None-Some.is-0 own (λ above. c.find.ensures whole ends above) are (are.enough [] c.args.number refuses.rule refuses.refused)) ∙ c.in-None-Some.is-1)
    refuses
