use Rattle.std.proofs.Common.{◌≡◌, refl, ◌∙◌, sym, ap}
use Rattle.net_pcap.specs.{fraction_unit}
use Rattle.net_pcap.proofs.Records.{record_spelled}
use Rattle.net_pcap.proofs.classic.record_of.Goals.{then-classic, else-classic}
use Rattle.net_pcap.proofs.classic.record_of.Goals as goal

pub returns-clause-record : goal.returns-clause-record
returns-clause-record c =
    let unit : c.if-classic.unit ≡ fraction_unit c.args.classic.nano = elim c.if-classic.branch [ then-classic w ↦ w.unit-is ∙ ap fraction_unit (sym w.if-classic.true) | else-classic w ↦ w.unit-is ∙ ap fraction_unit (sym w.if-classic.false) ] in
    record_spelled c.args.classic c.args.bytes.now _ _ _ _ _ c.requires.sized c.requires.few c.number-seconds.ensures c.number-fraction.ensures c.number.ensures unit refl
