use Rattle.std.proofs.Common.{◌≡◌, ◌+◌, ◌<◌, ◌++◌, ◌∷◌, [], length, rules, ap, sym, ◌∙◌, refl, arith}
use Rattle.std.proofs.lemmas.Grind.{common_steps}
use Rattle.net_pcap.specs.{PiecesState, capped, lost_in, with_missed, with_reported}
use Rattle.net_pcap.proofs.Statistics.{added_back, lost_before, lost_named}
use Rattle.net_pcap.proofs.step.Pieces.take.Goals.{in-Opens, in-Names+else-is_err, in-Gives, in-Counts, in-Skips}
use Rattle.net_pcap.proofs.step.Pieces.take.Goals as goal

pub invariant_of-self-2 : goal.invariant_of-self-2
invariant_of-self-2 c =
    let before = c.self.inside.before in
    let known = c.self.invariant.2 in
    let few : c.self.inside.count < 1099511627776 = omega (arith, c.requires, ap (λ (s : PiecesState). s.count) c.self.view_is) in
    elim c.match-found.branch [
      | in-Opens w ↦ rw w.self-inside-is (omega (arith, few), omega (arith, c.self.invariant.1), lost_before c.self.inside.lost before _ known ∙ ap (λ l. capped (c.self.inside.lost + lost_in l)) (sym w.clear.ensures.items))
      | in-Names+else-is_err w ↦ rw w.self-inside-is (omega (arith, few), omega (arith, c.self.invariant.1), lost_named c.self.inside.lost before c.self.inside.interfaces.items (record { described = w.in-Names.interface; section = c.self.inside.sections; number = w.len.result; reported = 0; missed = 0 }) refl known ∙ ap (λ l. capped (before + lost_in l)) (let pushed : c.self.inside.interfaces.items ++ (record { described = w.in-Names.interface; section = c.self.inside.sections; number = w.len.result; reported = 0; missed = 0 }) ∷ [] ≡ w.push.new.self.items = search (rules, common_steps) in pushed))
      | in-Gives w ↦ rw w.self-inside-is (omega (arith, few), omega (arith, c.self.invariant.1), added_back (with_missed _) _ _ c.self.inside.lost before _ _ w.miss-more.new.interfaces _ c.self.inside.interfaces.items w.deref_mut.ensures.value (sym (ap length w.deref_mut.ensures.value) ∙ w.deref_mut.ensures.len) w.miss-more.ensures.changed w.miss-more.ensures.more known w.saturating_add-self-inside.ensures)
      | in-Counts w ↦ rw w.self-inside-is (omega (arith, few), omega (arith, c.self.invariant.1), added_back (with_reported _) _ _ c.self.inside.lost before _ _ w.report-more.new.interfaces _ c.self.inside.interfaces.items w.deref_mut-in-Counts.ensures.value (sym (ap length w.deref_mut-in-Counts.ensures.value) ∙ w.deref_mut-in-Counts.ensures.len) w.report-more.ensures.changed w.report-more.ensures.more known w.saturating_add-self-inside-in-Counts.ensures)
      | in-Skips w ↦ rw w.self-inside-is (omega (arith, few), omega (arith, c.self.invariant.1), known)
    ]
