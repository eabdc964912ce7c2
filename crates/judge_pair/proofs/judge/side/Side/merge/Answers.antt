use Rattle.std.proofs.Common.{◌∷◌, Some, sym, subst, ap, ◌∙◌}
use Rattle.std.proofs.lemmas.Bool.{false≢true}
use Rattle.tftp_packet.specs.Hosts.{Datagram}
use Rattle.law_model.specs.Rules.{transfer_of}
use Rattle.judge_pair.specs.Blocks.{with_block}
use Rattle.judge_pair.specs.Judge.{WasSent}
use Rattle.judge_pair.proofs.JudgeLemmas.Sides.{sides_out, sides_in, sides_held}
use Rattle.judge_pair.proofs.judge.side.Side.merge.Goals as goal

pub returns-in-Out-clause-merges : goal.returns-in-Out-clause-merges
returns-in-Out-clause-merges g c = λ h k read other_read d is mine theirs but main.
    sides_out h k read other_read d c.args.self.now c.args.other.now c.ask_again.new.self c.requires.free mine theirs c.ask_again.ensures.rest but main
    (ap (λ (x : Datagram). x.dir) is ∙ c.in-Out.is)
    (c.ask_again.ensures.asked h (d ∷ read) mine)

pub returns-then-not-has_sent-clause-merges : goal.returns-then-not-has_sent-clause-merges
returns-then-not-has_sent-clause-merges g c = λ h k read other_read d is mine theirs but main.
    sides_held h k read other_read d c.args.self.now c.hold.new.self c.args.other.now c.hold.ensures.rest (c.hold.ensures.held ∙ ap Some (sym is)) mine theirs but main
    (ap (λ (x : Datagram). x.dir) is ∙ c.in-In.is)
    (λ sent. false≢true (sym c.if-not-has_sent.true ∙ (c.has_sent.ensures k other_read theirs).1
    (subst (λ bytes. WasSent bytes (transfer_of k other_read)) (ap (λ (x : Datagram). x.payload) is ∙ ap (with_block c.args.block) (sym c.as_slice.ensures)) sent)))

pub returns-else-not-has_sent-clause-merges : goal.returns-else-not-has_sent-clause-merges
returns-else-not-has_sent-clause-merges g c = λ h k read other_read d is mine theirs but main.
    sides_in h k read other_read d c.args.self.now c.args.other.now c.requires.free mine theirs but main (ap (λ (x : Datagram). x.dir) is ∙ c.in-In.is)
    (subst (λ bytes. WasSent bytes (transfer_of k other_read)) (ap (with_block c.args.block) c.as_slice.ensures ∙ sym (ap (λ (x : Datagram). x.payload) is))
    ((c.has_sent.ensures k other_read theirs).0 c.if-not-has_sent.false))
