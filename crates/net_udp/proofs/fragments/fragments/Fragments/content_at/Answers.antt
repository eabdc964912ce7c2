use Rattle.std.proofs.Common.{◌≡◌, sym, ap, ◌∙◌, subst}
use Rattle.net_udp.specs.Fragments.{IsComplete, IsHeld, content_of, SetState, Sets, set_at}
use Rattle.net_udp.specs.declared.fragments.content.Content.{Content as Given}
use Rattle.net_udp.proofs.FragmentsLemmas.Rooms.{no_set, same_set}
use Rattle.net_udp.proofs.fragments.fragments.Fragments.content_at.Goals as goal
use Rattle.net_udp.proofs.fragments.fragments.Fragments.content_at.Goals.{in-Some+in_ok-content-in-Some, in-None}

held_at : (s t : SetState) (c d : Given) → s ≡ t → d ≡ c → IsHeld s.held (content_of c) → IsHeld t.held (content_of d)
held_at s t c d e f h = subst (λ (x : SetState). IsHeld x.held (content_of d)) e (subst (λ (x : Given). IsHeld s.held (content_of x)) (sym f) h)

pub content-requires : goal.content-requires
content-requires c =
    let found = c.in-Some.ensures.value ∙ ap (λ (sets : Sets). set_at c.args.key sets) c.self.view_is ∙ c.requires.1 in
    subst (λ (t : SetState). IsComplete t.held) (sym (same_set _ c.requires.0 found)) c.requires.2

pub returns : goal.returns
returns c = λ s e.
    elim c.match-get.branch [
      | in-Some+in_ok-content-in-Some w ↦
          let found = w.in-Some.ensures.value ∙ ap (λ (sets : Sets). set_at c.args.key sets) c.self.view_is ∙ e in
          held_at _ s w.in_ok-content-in-Some.content _ (same_set _ s found) w.content-is w.in_ok-content-in-Some.ensures
      | in-None w ↦ absurd (no_set s (w.in-None.ensures.value ∙ ap (λ (sets : Sets). set_at c.args.key sets) c.self.view_is ∙ e))
    ]
