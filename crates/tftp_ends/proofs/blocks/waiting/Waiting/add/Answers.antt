use Rattle.std.proofs.Common.{sym, subst, ap, ◌∙◌, ◌≡◌, ◌++◌, ◌∷◌, [], length, None, option_map, OnOk}
use Rattle.tftp_ends.specs.Blocks.{placed, shown, AreWithin}
use Rattle.tftp_ends.proofs.BlocksLemmas.Places.{placed_behind}
use Rattle.tftp_ends.proofs.BlocksLemmas.Spans.{within_gap, shown_gap}
use Rattle.tftp_ends.proofs.blocks.waiting.Waiting.add.Goals as goal

pub returns-in-Some-clause-places : goal.returns-in-Some-clause-places
returns-in-Some-clause-places c =
    subst (λ slots. OnOk c.lay.result (c.lay.new.self.0 ≡ slots))
    (ap (λ n. placed c.args.self.now.0 n c.in-Some.bytes.now) c.len-place.ensures ∙ placed_behind c.args.self.now.0 c.in-Some.bytes.now
    ∙ ap (λ block. c.args.self.now.0 ++ option_map (λ b. b.now) block ∷ []) (sym c.in-Some.is)) c.lay.ensures.ok

pub invariant_of-self-in-None : goal.invariant_of-self-in-None
invariant_of-self-in-None c =
    subst (AreWithin (length c.self.inside.bytes.items)) (sym (c.push_back_reserved.ensures.items ∙ ap (λ p. c.reserve.new.self.items ++ p ∷ []) c.gap.ensures ∙ ap (λ ps. ps ++ None ∷ []) c.in_ok-reserve-in-None.ensures.items))
    (within_gap _ c.self.inside.places.items c.self.invariant)

pub returns-in_ok-reserve-in-None-clause-places : goal.returns-in_ok-reserve-in-None-clause-places
returns-in_ok-reserve-in-None-clause-places c =
    ap (shown c.self.inside.bytes.items) (c.push_back_reserved.ensures.items ∙ ap (λ p. c.reserve.new.self.items ++ p ∷ []) c.gap.ensures ∙ ap (λ ps. ps ++ None ∷ []) c.in_ok-reserve-in-None.ensures.items)
    ∙ shown_gap c.self.inside.bytes.items c.self.inside.places.items ∙ ap (λ v. v.0 ++ None ∷ []) c.self.view_is
    ∙ ap (λ block. c.args.self.now.0 ++ option_map (λ b. b.now) block ∷ []) (sym c.in-None.is)
