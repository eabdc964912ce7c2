use Rattle.std.proofs.Common.{◌≡◌, ◌↔◌, ◌+◌, ◌/◌, ◌≤◌, List, length, Ok, refl, true≢false, sym, subst, ap, ◌∙◌, reverse}
use Rattle.tftp_packet.specs.{OptionMap, RequestParts}
use Rattle.tftp_packet.specs.Hosts.{Datagram, Header}
use Rattle.tftp_packet.specs.Rounds.{greatest_of}
use Rattle.law_model.specs.Model.{Meaning}
use Rattle.tftp_ends.specs.{held_of}
use Rattle.law_model.specs.Rules.{transfer_of}
use Rattle.law_end.specs.{CanBeNumbered, IsWritable, written_wire, OneEnded, Meant, meaning_from, FirstAsked}
use Rattle.tftp_judge.specs.{Agreed, Transfer, AreErrors, IsTransferAfter, IsVerdictByRules, exchange_of}
use Rattle.tftp_judge.proofs.EndedTransfer.{BeganBy, begun_by, agreed_to, unanswered_by, held_file, fits_by, unanswered_not_meant, undone_not_meant, ended_by, meant_by, can_be_written, meant_verdict, long_verdict, memory_verdict, unfinished_verdict}
use Rattle.tftp_judge.proofs.NewMessages.{blocks_of}
use Rattle.tftp_judge.proofs.transfer.Transfer.finish.Given.{Over}
use Rattle.tftp_judge.proofs.transfer.Transfer.finish.Goals as goal
use Rattle.tftp_judge.proofs.transfer.Transfer.finish.Goals.{in-Begun, in-Agreed, After-done, After-written_blocks, After-into_options}

-- the end began with the reply
began : (g : Over) (c : After-done g) (h : Header) (passed : List Datagram) → IsTransferAfter c.args.self h passed → BeganBy h c.args.self.asked passed c.match-exchange.agreed.0 c.match-exchange.agreed.1
began g c h passed after = elim c.match-exchange.branch [
  | in-Begun w ↦ rw (w.agreed-is) (begun_by h c.args.self passed after w.in-Begun.end w.nothing_agreed.result (sym (ap (λ (t : Transfer). t.exchange) c.self.view_is) ∙ ap exchange_of w.in-Begun.is) w.nothing_agreed.ensures)
  | in-Agreed w ↦ rw (w.agreed-is) (agreed_to h c.args.self passed after w.in-Agreed.end w.into_agreed.result (sym (ap (λ (t : Transfer). t.exchange) c.self.view_is) ∙ ap exchange_of w.in-Agreed.is ∙ ap (λ o. Agreed o w.in-Agreed.end) (sym w.into_agreed.ensures)))
]

-- ---- the file is that of a whole transfer

abbrev meaning : (g : Over) → After-written_blocks g → Meaning
meaning g c = meaning_from (c.args.self.asked, (c.match-exchange.agreed.0, c.in-Ok.file.1))

meant : (g : Over) (c : After-written_blocks g) (h : Header) (earlier : List Datagram) → OneEnded h earlier → FirstAsked h earlier c.args.self.asked → BeganBy h c.args.self.asked (transfer_of h earlier) c.match-exchange.agreed.0 c.match-exchange.agreed.1 → Meant h earlier (meaning g c)
meant g c h earlier lawful first begun =
    let mode = ap (λ (t : Transfer). t.asked.mode) c.self.view_is in
    let file = held_file _ _ _ _ c.in-Ok.file.1 c.into_store.ensures (c.mode.ensures ∙ mode) c.in-Ok.ensures.file in
    meant_by h earlier lawful c.args.self.asked first c.match-exchange.agreed.1 begun.0 begun.1 c.match-exchange.agreed.0 c.in-Ok.file.1
    ((c.done.ensures.done (transfer_of h earlier) begun.1.after).0 c.if-not-done.false) (c.done.ensures.whole (transfer_of h earlier) begun.1.after c.if-not-done.false) begun.2 file

fits : (g : Over) (c : After-written_blocks g) (h : Header) → c.args.self.rollover ≡ h.rollover
    → (length (written_wire c.in-Ok.file.0 c.in-Ok.file.1) / c.blksize.result + 1 ≤ c.greatest_block-greatest.result) ↔ IsWritable h.rollover (meaning g c)
fits g c h same =
    rw (c.greatest_block-greatest.ensures ∙ ap (λ (t : Transfer). greatest_of t.rollover) c.self.view_is ∙ ap greatest_of same)
    (fits_by (greatest_of h.rollover) c.in-Ok.file.0 c.args.self.asked.mode c.blksize.result c.match-exchange.agreed.0 c.in-Ok.file.1 c.in-Ok.file.1
    (c.in-Ok.ensures.mode ∙ c.mode.ensures ∙ ap (λ (t : Transfer). t.asked.mode) c.self.view_is) c.blksize.ensures.value refl)

made : (g : Over) (c : After-into_options g) → meaning_from (c.args.self.asked, (c.match-exchange.agreed.0, c.in-Ok.file.1)) ≡ meaning_from (c.self.inside.asked, (c.into_options.result, c.in-Ok.file.1))
made g c =
    ap (λ (r : RequestParts). meaning_from (r, (c.match-exchange.agreed.0, c.in-Ok.file.1))) (sym (ap (λ (t : Transfer). t.asked) c.self.view_is))
    ∙ ap (λ (o : OptionMap). meaning_from (c.self.inside.asked, (o, c.in-Ok.file.1))) (sym c.into_options.ensures)

-- ---- what is answered

pub returns-in-Unanswered-clause-verdict : goal.returns-in-Unanswered-clause-verdict
returns-in-Unanswered-clause-verdict g c h earlier lawful first after counts =
    let (none, before) = unanswered_by h c.args.self (transfer_of h earlier) after (sym (ap (λ (t : Transfer). t.exchange) c.self.view_is) ∙ ap exchange_of c.in-Unanswered.is) in
    unfinished_verdict h earlier c.args.count c.unfinished.result lawful (unanswered_not_meant h earlier lawful c.args.self.asked first none before) counts
    (c.unfinished.ensures (transfer_of h earlier) (subst (λ e. AreErrors e (transfer_of h earlier)) (sym (ap (λ (t : Transfer). t.errors) c.self.view_is)) after.errors))

pub returns-then-not-done-clause-verdict : goal.returns-then-not-done-clause-verdict
returns-then-not-done-clause-verdict g c h earlier lawful first after counts =
    let begun = began g (goal.at.returns-then-not-done-clause-verdict g c).After-done h (transfer_of h earlier) after in
    unfinished_verdict h earlier c.args.count c.unfinished-then-not-done.result lawful
    (undone_not_meant h earlier lawful c.args.self.asked first c.match-exchange.agreed.1 begun.0 begun.1 (λ done. true≢false (sym ((c.done.ensures.done (transfer_of h earlier) begun.1.after).1 done) ∙ c.if-not-done.true))) counts
    (c.unfinished-then-not-done.ensures (transfer_of h earlier) (subst (λ e. AreErrors e (transfer_of h earlier)) (sym (ap (λ (t : Transfer). t.errors) c.self.view_is)) after.errors))

pub returns-in-Err-clause-verdict : goal.returns-in-Err-clause-verdict
returns-in-Err-clause-verdict g c h earlier lawful first after counts =
    let begun = began g (goal.at.returns-in-Err-clause-verdict g c).After-done h (transfer_of h earlier) after in
    memory_verdict h earlier c.args.count lawful (ended_by h earlier lawful c.args.self.asked first c.match-exchange.agreed.1 begun.0 begun.1 ((c.done.ensures.done (transfer_of h earlier) begun.1.after).0 c.if-not-done.false)) counts

pub returns-in-Err-clause-memory : goal.returns-in-Err-clause-memory
returns-in-Err-clause-memory g c h earlier lawful first after total is =
    let begun = began g (goal.at.returns-in-Err-clause-memory g c).After-done h (transfer_of h earlier) after in
    ended_by h earlier lawful c.args.self.asked first c.match-exchange.agreed.1 begun.0 begun.1 ((c.done.ensures.done (transfer_of h earlier) begun.1.after).0 c.if-not-done.false)

pub returns-in-Err-clause-joins : goal.returns-in-Err-clause-joins
returns-in-Err-clause-joins g c h earlier after total is =
    let begun = began g (goal.at.returns-in-Err-clause-joins g c).After-done h (transfer_of h earlier) after in
    (held_of c.match-exchange.agreed.1, blocks_of c.match-exchange.agreed.1 (transfer_of h earlier) begun.1.after, subst g.D.Delivered.join_takes c.into_store.ensures c.in-Err.ensures.memory)

pub returns-in_default-clause-verdict : goal.returns-in_default-clause-verdict
returns-in_default-clause-verdict g c h earlier lawful first after counts =
    let at = (goal.at.returns-in_default-clause-verdict g c).After-written_blocks in
    let begun = began g (goal.at.returns-in_default-clause-verdict g c).After-done h (transfer_of h earlier) after in
    long_verdict h earlier (meaning g at) lawful (meant g at h earlier lawful first begun) (λ few. c.in_default.ensures ((fits g at h after.rollover).1 few))

pub of-requires-clause-can : goal.of-requires-clause-can
of-requires-clause-can g c =
    let (h, earlier, of) = c.requires.some in
    let at = (goal.at.of-requires-clause-can g c).After-written_blocks in
    let begun = began g (goal.at.of-requires-clause-can g c).After-done h (transfer_of h earlier) of.after in
    subst CanBeNumbered (made g (goal.at.of-requires-clause-can g c).After-into_options)
    (h.rollover, can_be_written h earlier (meaning g at) of.short (meant g at h earlier of.lawful of.asked begun) ((fits g at h of.after.rollover).0 c.in-Some.ensures.1))

pub returns-clause-verdict : goal.returns-clause-verdict
returns-clause-verdict g c h earlier lawful first after counts =
    let at = (goal.at.returns-clause-verdict g c).After-written_blocks in
    let begun = began g (goal.at.returns-clause-verdict g c).After-done h (transfer_of h earlier) after in
    let is : meaning g at ≡ c.of.result = made g (goal.at.returns-clause-verdict g c).After-into_options ∙ sym c.of.ensures in
    subst (λ m. IsVerdictByRules h (reverse earlier) (Ok m)) is (meant_verdict h earlier (meaning g at) lawful (meant g at h earlier lawful first begun) ((fits g at h after.rollover).0 c.in-Some.ensures.1))
