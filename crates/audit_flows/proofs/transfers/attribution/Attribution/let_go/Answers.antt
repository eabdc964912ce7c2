use Rattle.std.proofs.Common.{subst}
use Rattle.audit_flows.specs.Transfers.{Forgets}
use Rattle.audit_flows.proofs.TransfersLemmas.Forgetting.{lines_left, served_left}
use Rattle.audit_flows.proofs.TransfersLemmas.Straying.{strays_left}
use Rattle.audit_flows.proofs.transfers.attribution.Attribution.let_go.Goals as goal

pub returns : goal.returns
returns c named older after = record {
  failed = after.failed;
  count = after.count;
  clock = after.clock;
  fixed = after.fixed;
  services = after.services;
  lines = lines_left older c.args.self.now.lines c.let_some_go.new.kept (subst (λ now. Forgets (λ l. l.moment) now c.args.self.now.lines c.let_some_go.new.kept) after.clock c.let_some_go.ensures) after.lines;
  served = served_left older c.args.self.now.served c.let_some_go-2.new.kept (subst (λ now. Forgets (λ s. s.moment) now c.args.self.now.served c.let_some_go-2.new.kept) after.clock c.let_some_go-2.ensures) after.served;
  strays = strays_left older c.args.self.now.strays c.let_some_go-3.new.kept (subst (λ now. Forgets (λ s. s.moment) now c.args.self.now.strays c.let_some_go-3.new.kept) after.clock c.let_some_go-3.ensures) after.strays;
}
