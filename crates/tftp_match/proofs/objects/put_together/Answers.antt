use Rattle.std.proofs.Common.{OnOk, codes, subst, sym}
use Rattle.tftp_rows.specs.Members.{AddsMember}
use Rattle.tftp_rows.proofs.MembersLemmas.{adds_then}
use Rattle.tftp_match.proofs.ObjectsLemmas.{together_told}
use Rattle.tftp_match.proofs.objects.put_together.Goals as goal

pub returns-in-Ok : goal.returns-in-Ok
returns-in-Ok c =
    let r = c.put_numbers.result in
    let end = c.put_numbers.new.out in
    subst (λ j. OnOk r (AddsMember c.args.out.now end (codes "together") j)) (sym (together_told c.args.said.now _ c.in-Ok.is))
    (adds_then r c.args.out.now c.key.new.self end _ _ (c.in_ok-key.ensures.ok, c.in_ok-key.ensures.room.0) c.put_numbers.ensures)
