use Rattle.std.proofs.Common.{ap, sym, ◌∙◌, Some, option_map}
use Rattle.std.specs.FinMap as map
use Rattle.tftp_ends.proofs.BlocksLemmas.Kept.{get_in}
use Rattle.tftp_ends.proofs.blocks.map_delivered.MapDeliveredDelivered.block.Goals as goal

pub returns-in-Some : goal.returns-in-Some
returns-in-Some c =
    ap Some c.as_slice.ensures.value ∙ ap (option_map (λ v. v.items)) c.in-Some.ensures.value
    ∙ sym (get_in (λ v. v.items) c.self.inside.by_number.entries c.args.number) ∙ ap (λ m. map.get m.0 c.args.number) c.self.view_is

pub returns-in-None : goal.returns-in-None
returns-in-None c =
    ap (option_map (λ v. v.items)) c.in-None.ensures.value
    ∙ sym (get_in (λ v. v.items) c.self.inside.by_number.entries c.args.number) ∙ ap (λ m. map.get m.0 c.args.number) c.self.view_is
