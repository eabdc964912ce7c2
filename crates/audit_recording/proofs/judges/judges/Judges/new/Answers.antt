use Rattle.std.proofs.Common.{refl}
use Rattle.audit_recording.proofs.JudgesLemmas.Watching.{fed_some_if, on_some_if}
use Rattle.audit_recording.proofs.judges.judges.Judges.new.Goals as goal

pub returns-clause-after : goal.returns-clause-after
returns-clause-after g c name = record {
  works = refl;
  client = on_some_if _ c.args.points.client c.by-at_client.result c.then_some.ensures (c.by-at_client.ensures.transfer, c.by-at_client.ensures.after name);
  server = on_some_if _ c.args.points.server c.by-at_server.result c.then_some-2.ensures (c.by-at_server.ensures.transfer, c.by-at_server.ensures.after name);
  between = on_some_if _ c.args.points.between c.by-between.result c.then_some-3.ensures (c.by-between.ensures.transfer, λ is. c.by-between.ensures.after);
  counted = record {
    client = fed_some_if _ c.args.points.client c.by-at_client.result c.then_some.ensures c.by-at_client.ensures.none;
    server = fed_some_if _ c.args.points.server c.by-at_server.result c.then_some-2.ensures c.by-at_server.ensures.none;
    between = fed_some_if _ c.args.points.between c.by-between.result c.then_some-3.ensures c.by-between.ensures.none;
  };
}
