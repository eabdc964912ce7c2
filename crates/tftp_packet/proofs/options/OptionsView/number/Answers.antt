use Rattle.tftp_packet.specs.{lower}
use Rattle.tftp_packet.proofs.Maps.{no_text_in_map, number_in_map}
use Rattle.tftp_packet.proofs.options.OptionsView.number.Goals as goal

pub returns-in_err-get : goal.returns-in_err-get
returns-in_err-get c = rw c.from_residual.ensures (no_text_in_map c.args.self.now (lower c.args.name.now) c.in_err-get.ensures)

pub returns : goal.returns
returns c = number_in_map c.args.self.now (lower c.args.name.now) c.in_ok-get.field-0.now c.number_of.result c.in_ok-get.ensures c.number_of.ensures
