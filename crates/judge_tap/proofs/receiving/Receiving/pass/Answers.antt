use Rattle.std.proofs.Common.{◌≡◌, true, Err, sym, subst, ap, ◌∙◌}
use Rattle.tftp_packet.specs.{opcode_of, Server}
use Rattle.law_model.specs.Model.Roles.{receiver_of}
use Rattle.tftp_judge.specs.{Finds, PassError}
use Rattle.law_tap.specs.{same_end, header_at, kept_between, recorded_at}
use Rattle.judge_tap.specs.{IsReceiving, Receiving, ReceiverBreaks}
use Rattle.tftp_judge.specs.declared.pass_error.PassError.TheVariants as stop
use Rattle.judge_tap.proofs.Receivings.{kept_more, left_out, opcode_there, refused_found, refused_takes, said_client, said_server}
use Rattle.judge_tap.proofs.receiving.Receiving.pass.Goals as goal

pub returns-then-leaves_out-clause-finds : goal.returns-then-leaves_out-clause-finds
returns-then-leaves_out-clause-finds g c = λ s side passed d apart is source recorded.
    let opcode = opcode_there s side passed d c.args.rollover c.args.datagram.now recorded ∙ ap opcode_of (sym c.as_slice.ensures) ∙ sym c.opcode.ensures in
    let left = c.leaves_out.ensures s side passed d apart is source opcode ∙ c.if-leaves_out.true in
    left_out s side passed d c.args.self.now left is

pub returns-in-Err-clause-finds : goal.returns-in-Err-clause-finds
returns-in-Err-clause-finds g c = λ s side passed d apart is source recorded.
    let was = subst (λ (r : Receiving). IsReceiving r s side passed) (sym c.self.view_is) is in
    let opcode = opcode_there s side passed d c.args.rollover c.args.datagram.now recorded ∙ ap opcode_of (sym c.as_slice.ensures) ∙ sym c.opcode.ensures in
    let stays = c.leaves_out.ensures s side passed d apart is source opcode ∙ c.if-leaves_out.false in
    let refuses = c.in-Err.ensures.refuses (header_at s side) (kept_between s side passed) (recorded_at s (receiver_of side) d) was.judge recorded in
    subst (λ (x : PassError). Finds (ReceiverBreaks s side passed d) (Unit {0}) (Err x)) (sym c.error_of.ensures) (refused_found s side passed d stays c.in-Err.refusal refuses (Unit {0}))

pub returns-in-Err-clause-memory : goal.returns-in-Err-clause-memory
returns-in-Err-clause-memory g c = λ s side passed d is recorded memory.
    let was = subst (λ (r : Receiving). IsReceiving r s side passed) (sym c.self.view_is) is in
    let refuses = c.in-Err.ensures.refuses (header_at s side) (kept_between s side passed) (recorded_at s (receiver_of side) d) was.judge recorded in
    let same : c.error_of.result ≡ stop.Memory = cc in
    refused_takes s side passed d c.in-Err.refusal refuses (sym c.error_of.ensures ∙ same)

pub returns-then-is_server-clause-finds : goal.returns-then-is_server-clause-finds
returns-then-is_server-clause-finds g c = λ s side passed d apart is source recorded.
    let was = subst (λ (r : Receiving). IsReceiving r s side passed) (sym c.self.view_is) is in
    let opcode = opcode_there s side passed d c.args.rollover c.args.datagram.now recorded ∙ ap opcode_of (sym c.as_slice.ensures) ∙ sym c.opcode.ensures in
    let stays = c.leaves_out.ensures s side passed d apart is source opcode ∙ c.if-leaves_out.false in
    let told = c.in_default.ensures.accepts (header_at s side) (kept_between s side passed) (recorded_at s (receiver_of side) d) was.judge recorded in (
      λ rule b. told.0.lawful rule b.1,
      kept_more s side passed d stays apart c.args.from source (record { judge = c.self.inside.judge; end = c.self.inside.end; answered = c.self.inside.answered }) c.feed_by.new.judge true was told.1
          (said_server (same_end Server c.args.from) c.self.inside.answered (sym c.is_server.ensures ∙ c.if-is_server.true)),
    )

pub returns-else-is_server-clause-finds : goal.returns-else-is_server-clause-finds
returns-else-is_server-clause-finds g c = λ s side passed d apart is source recorded.
    let was = subst (λ (r : Receiving). IsReceiving r s side passed) (sym c.self.view_is) is in
    let opcode = opcode_there s side passed d c.args.rollover c.args.datagram.now recorded ∙ ap opcode_of (sym c.as_slice.ensures) ∙ sym c.opcode.ensures in
    let stays = c.leaves_out.ensures s side passed d apart is source opcode ∙ c.if-leaves_out.false in
    let told = c.in_default.ensures.accepts (header_at s side) (kept_between s side passed) (recorded_at s (receiver_of side) d) was.judge recorded in (
      λ rule b. told.0.lawful rule b.1,
      kept_more s side passed d stays apart c.args.from source (record { judge = c.self.inside.judge; end = c.self.inside.end; answered = c.self.inside.answered }) c.feed_by.new.judge c.self.inside.answered was told.1
          (said_client (same_end Server c.args.from) c.self.inside.answered (sym c.is_server.ensures ∙ c.if-is_server.false)),
    )
