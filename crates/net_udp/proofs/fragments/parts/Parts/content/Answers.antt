use Rattle.std.proofs.Common.{◌≡◌, ℕ, ◌<◌, None, Some, Option, Vec, Global, List, length, map, ap, ◌∙◌, arith, get_or, subst}
use Rattle.net_udp.specs.Fragments.{Held}
use Rattle.net_udp.proofs.FragmentsLemmas.Keeping.{content_more, no_byte}
use Rattle.net_udp.proofs.fragments.parts.Parts.content.Goals as goal
use Rattle.net_udp.proofs.fragments.parts.Parts.content.Goals.{in-Some+in_ok-push-in-Some, in-None}

pub loop-cell-preserved : goal.loop-cell-preserved
loop-cell-preserved c =
    let cells : c.deref-cell-items.result.now ≡ c.args.self.now.cells = c.deref-cell-items.ensures.value ∙ ap (λ (h : Held). h.cells) c.self.view_is in
    let within : c.loop-cell.cell-index < length c.args.self.now.cells = omega (arith, ap length cells) in
    elim c.match-cell.branch [
      | in-Some+in_ok-push-in-Some w ↦
          ap (λ (v : Vec ℕ Global). map (λ (b : ℕ). Some b) v.items) w.bytes-is ∙ ap (λ (l : List ℕ). map (λ (b : ℕ). Some b) l) w.in_ok-push-in-Some.ensures.items
          ∙ content_more c.args.self.now.cells c.loop-cell.bytes.items c.loop-cell.cell-index w.in-Some.byte within (subst (λ (l : List (Option ℕ)). get_or l c.loop-cell.cell-index None ≡ Some w.in-Some.byte) cells w.in-Some.is) c.loop-cell.invariant
      | in-None w ↦
          let b = c.requires.full c.loop-cell.cell-index within in
          absurd (no_byte (get_or c.args.self.now.cells c.loop-cell.cell-index None) b.0 (subst (λ (l : List (Option ℕ)). get_or l c.loop-cell.cell-index None ≡ None) cells w.in-None.is) b.1)
    ]
