use Rattle.std.proofs.Common.{◌≡◌, List, ℕ, sym, ap, ◌∙◌}
use Rattle.std.proofs.lemmas.Slice.Eq.{bytes_eq-Decides}
use Rattle.tftp_packet.specs.{lower, Text, shown}
use Rattle.tftp_packet.proofs.Values.{text_value}
use Rattle.tftp_packet.proofs.value.is_value_of.Goals as goal

same_text : (xs ys : List ℕ) → Text xs ≡ Text ys → xs ≡ ys
same_text xs ys e = cc

pub returns-in-Text-None : goal.returns-in-Text-None
returns-in-Text-None c =
    let is_text = text_value (lower c.args.name.now) c.args.text.now c.in-Text-None.ensures in
    let says = ap shown c.in-Text-None.is-0 in
    let decides = bytes_eq-Decides c.as_slice.result.now c.args.text.now in (
      (λ is. says ∙ ap Text (sym c.as_slice.ensures ∙ decides.0 (sym c.eq.ensures ∙ is)) ∙ is_text),
      (λ e. c.eq.ensures ∙ decides.1 (c.as_slice.ensures ∙ same_text c.in-Text-None.bytes c.args.text.now (sym says ∙ e ∙ sym is_text))),
    )
