use Rattle.std.proofs.Common.{ℕ, List, ap, sym, subst, ◌∙◌}
use Rattle.tftp_packet.specs.{Mode}
use Rattle.law_end.specs.{meaning_from}
use Rattle.tftp_judge.specs.{file_in, IsCanonical}
use Rattle.tftp_judge.proofs.meaning.Meaning.into_parts.Goals as goal

pub returns-clause-parts : goal.returns-clause-parts
returns-clause-parts c =
    let kept = c.into_file_bytes.result in
    let mode = c.self.invariant.2 in
    ap (λ (file : List ℕ). meaning_from (c.self.inside.request, (c.self.inside.agreed, file))) (ap (λ (m : Mode). file_in m kept) (sym mode) ∙ c.into_file_bytes.ensures.file) ∙ c.self.view_is

pub returns-clause-canonical : goal.returns-clause-canonical
returns-clause-canonical c = subst (λ (m : Mode). IsCanonical m c.into_file_bytes.result) c.self.invariant.2 c.into_file_bytes.ensures.canonical
