use Rattle.std.proofs.Common.{◌≡◌, ◌↔◌, ◌∙◌, IsTrue, List, ap, subst, rules, tests}
use Rattle.std.proofs.lemmas.Iterator.{YieldsList-from_slice, cases_from_any}
use Rattle.net_udp.specs.declared.fragments.extent.Extent.{Extent}
use Rattle.net_udp.specs.Fragments.{OneOf, SetState}
use Rattle.net_udp.proofs.FragmentsLemmas.Extents.{one_told}
use Rattle.net_udp.proofs.fragments.set.Set.has_one_of.Goals as goal

pub returns : goal.returns
returns c =
    let es = c.self.inside.extents.items in
    let told = cases_from_any _ _ _ (λ e. e ≡ c.args.extent) (λ e. e ≡ c.args.extent → ⊥) c.any.ensures.ran (YieldsList-from_slice es (c.iter.ensures.rest ∙ c.deref.ensures.value)) (λ x q k. search (rules, tests)) (λ x q k. search (rules, tests)) in
    subst (λ (list : List Extent). IsTrue c.any.result ↔ OneOf (λ e. e ≡ c.args.extent) list) (ap (λ (s : SetState). s.extents) c.self.view_is) (one_told (λ e. e ≡ c.args.extent) c.any.result es told)
