use Rattle.std.proofs.Common.{inl, inr, refl, sym, ◌∙◌}
use Rattle.net_udp.specs.Frames.{shown}
use Rattle.net_udp.proofs.RecordingLemmas.Bringing.{no_packet, not_read, spells_here, whole_packet}
use Rattle.net_udp.proofs.RecordingLemmas.Liking.{coming, does_nothing, wants_part}
use Rattle.net_udp.proofs.FragmentsLemmas.Rooms.{on_err}
use Rattle.net_udp.proofs.recording.brought.take_frame.Goals as goal

pub returns-in_default-clause-comes : goal.returns-in_default-clause-comes
returns-in_default-clause-comes c = λ before stands. (before, inl ((λ p spells. not_read c.read_frame.result p c.in_default.field-0 c.in_default.is (c.read_frame.ensures.only p (spells_here _ _ _ _ p c.link.ensures c.bytes.ensures spells))), refl, refl), stands)

pub returns-in_default-clause-ok : goal.returns-in_default-clause-ok
returns-in_default-clause-ok c = inl (λ p spells. no_packet c.read_frame.result p c.in_default.field-0 c.in_default.is (c.read_frame.ensures.only p (spells_here _ _ _ _ p c.link.ensures c.bytes.ensures spells)), c.nothing.ensures, refl)

pub returns-then-is_copy-clause-comes : goal.returns-then-is_copy-clause-comes
returns-then-is_copy-clause-comes c = coming _ _ c.args.frame.now.parts (shown c.in-Ok.packet) _ (spells_here _ _ _ _ (shown c.in-Ok.packet) (sym c.link.ensures) (sym c.bytes.ensures) c.in-Ok.ensures.found) c.in_ok-likeness.ensures.like c.in_ok-likeness.ensures.held

pub returns-in_default-fragment-clause-comes : goal.returns-in_default-fragment-clause-comes
returns-in_default-fragment-clause-comes c = coming _ _ c.args.frame.now.parts (shown c.in-Ok.packet) _ (spells_here _ _ _ _ (shown c.in-Ok.packet) (sym c.link.ensures) (sym c.bytes.ensures) c.in-Ok.ensures.found) c.in_ok-likeness.ensures.like c.in_ok-likeness.ensures.held

pub returns-in_default-fragment-clause-ok : goal.returns-in_default-fragment-clause-ok
returns-in_default-fragment-clause-ok c = inl (does_nothing _ _ (λ p spells. whole_packet c.read_frame.result p c.in-Ok.packet c.in-Ok.is c.in_default-fragment.is (c.read_frame.ensures.only p (spells_here _ _ _ _ p c.link.ensures c.bytes.ensures spells))), c.nothing-in_default-fragment.ensures, refl)

pub returns-clause-comes : goal.returns-clause-comes
returns-clause-comes c = coming _ _ c.args.frame.now.parts (shown c.in-Ok.packet) _ (spells_here _ _ _ _ (shown c.in-Ok.packet) (sym c.link.ensures) (sym c.bytes.ensures) c.in-Ok.ensures.found) c.in_ok-likeness.ensures.like c.in_ok-likeness.ensures.held

pub returns-in_err-brought-clause-wants : goal.returns-in_err-brought-clause-wants
returns-in_err-brought-clause-wants c =
    let spells = spells_here _ _ _ _ (shown c.in-Ok.packet) (sym c.link.ensures) (sym c.bytes.ensures) c.in-Ok.ensures.found in
    on_err c.from_residual-in_err-brought.result _ (λ before stands.
    let held = coming _ _ c.args.frame.now.parts (shown c.in-Ok.packet) c.in_ok-likeness.likeness spells c.in_ok-likeness.ensures.like c.in_ok-likeness.ensures.held before stands in
    inr (c.in_ok-likeness.likeness, held.0, held.1, sym c.is_copy.ensures ∙ c.if-is_copy.false, wants_part c.args.frame.now.parts c.args.frame.now.number _ _ _ _ (shown c.in-Ok.packet) c.in-Some.fragment _ c.key_protocol.ensures c.may_overlap.ensures spells c.in-Some.is c.time.ensures c.number.ensures c.in_err-brought.ensures.wants))
