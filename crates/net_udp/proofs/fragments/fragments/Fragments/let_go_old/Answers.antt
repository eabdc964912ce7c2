use Rattle.std.proofs.Common.{◌≡◌, true, sym, ap, ◌∙◌}
use Rattle.net_udp.specs.Fragments.{SetState, Sets, set_at, is_long}
use Rattle.net_udp.proofs.FragmentsLemmas.Holding.{not_both}
use Rattle.net_udp.proofs.FragmentsLemmas.Rooms.{no_set, same_set}
use Rattle.net_udp.proofs.fragments.fragments.Fragments.let_go_old.Goals as goal
use Rattle.net_udp.proofs.fragments.fragments.Fragments.let_go_old.Goals.{in-Some, in-None}

pub returns-then-old-clause-kept : goal.returns-then-old-clause-kept
returns-then-old-clause-kept c = λ s e young.
    elim c.match-get.branch [
      | in-Some w ↦
          let found = w.in-Some.ensures.value ∙ ap (λ (sets : Sets). set_at c.args.key sets) c.self.view_is ∙ e in
          let old : is_long s.began c.args.time ≡ true = ap (λ (t : SetState). is_long t.began c.args.time) (sym (same_set _ s found)) ∙ ap (λ began. is_long began c.args.time) (sym w.began.ensures) ∙ sym w.is_long-old.ensures ∙ sym w.old-is ∙ c.if-old.true in
          absurd (not_both (is_long s.began c.args.time) old young)
      | in-None w ↦ absurd (not_both c.match-get.old c.if-old.true w.old-is)
    ]

pub returns-else-old-clause-young : goal.returns-else-old-clause-young
returns-else-old-clause-young c = λ s e.
    elim c.match-get.branch [
      | in-Some w ↦
          let found = w.in-Some.ensures.value ∙ ap (λ (sets : Sets). set_at c.args.key sets) c.self.view_is ∙ e in
          ap (λ (t : SetState). is_long t.began c.args.time) (sym (same_set _ s found)) ∙ ap (λ began. is_long began c.args.time) (sym w.began.ensures) ∙ sym w.is_long-old.ensures ∙ sym w.old-is ∙ c.if-old.false
      | in-None w ↦ absurd (no_set s (w.in-None.ensures.value ∙ ap (λ (sets : Sets). set_at c.args.key sets) c.self.view_is ∙ e))
    ]
