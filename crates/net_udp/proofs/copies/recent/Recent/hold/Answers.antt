use Rattle.std.proofs.Common.{◌≡◌, ap, ◌∙◌, rules}
use Rattle.std.proofs.lemmas.Grind.{common_steps}
use Rattle.net_udp.specs.Copies.{RecentState}
use Rattle.net_udp.proofs.CopiesLemmas.Holding.{holds_more}
use Rattle.net_udp.proofs.copies.recent.Recent.hold.Goals as goal

pub returns-clause-held : goal.returns-clause-held
returns-clause-held c = λ came stands.
    let held = ap (λ (s : RecentState). s.held) c.self.view_is ∙ stands.held in
    let bytes : c.replace.result.items ≡ c.args.bytes.now = search (rules, common_steps) in
    rw c.push_front_reserved.ensures.items (rw c.memory_of_oldest-next.ensures.items (holds_more c.self.inside.held.items (record { interface = c.args.interface; time = c.args.time; bytes = c.replace.result }) _ _ came (ap (λ bs. record { interface = c.args.interface; time = c.args.time; bytes = bs }) bytes) (rw c.replace.ensures.after c.memory_of_oldest-next.ensures.room) held))
