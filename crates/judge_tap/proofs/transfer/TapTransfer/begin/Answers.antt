use Rattle.std.proofs.Common.{◌≡◌, [], sym, subst, ap, ◌∙◌}
use Rattle.tftp_packet.specs.{Message, End}
use Rattle.law_model.specs.Model.Roles.{receiver_of}
use Rattle.law_end.specs.{Passes}
use Rattle.law_tap.specs.{header_at, recorded_at}
use Rattle.law_tap.proofs.TapHighest.{nothing_high, one_more_high}
use Rattle.law_tap.proofs.TapTests.{asks_says}
use Rattle.judge_tap.specs.{IsRecorded}
use Rattle.judge_tap.proofs.TransferFound.{asked_first, request_no_error}
use Rattle.judge_tap.proofs.transfer.TapTransfer.begin.Goals as goal

pub returns-clause-ok : goal.returns-clause-ok
returns-clause-ok g c = λ s d apart service follows source says noted recorded passes.
    let end : c.receiver_of_file-end.result ≡ receiver_of c.args.asked.side = c.receiver_of_file-end.ensures ∙ ap receiver_of c.side.ensures in
    let asks = asks_says d.payload (Message.Request c.args.asked) says in
    record {
      asked = asked_first s d c.args.asked source says;
      receiving = c.in_ok-receiving.ensures.ok s c.args.asked.side d apart end service follows source asks (subst (λ (e : End). IsRecorded s e d c.args.request.now) (sym end) recorded)
          (subst (λ (e : End). Passes (header_at s c.args.asked.side) [] (recorded_at s e d)) (sym end) passes);
      notes = noted;
      first_error = request_no_error s d c.args.asked says;
      highest = one_more_high d [] (Message.Request c.args.asked) says 0 nothing_high;
    }
