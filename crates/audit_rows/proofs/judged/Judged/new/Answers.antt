use Rattle.std.proofs.Common.{ap, sym, subst, ◌∙◌}
use Rattle.audit_flows.specs.{TransferDoubts}
use Rattle.audit_flows.specs.Transfers.{IsDoubtedAfter}
use Rattle.audit_recording.specs.Blame.Frames.{whole_of}
use Rattle.audit_views.specs.Parties.{host_name}
use Rattle.audit_rows.specs.declared.found.Found.TheVariants.{AtEnd, Between}
use Rattle.audit_rows.proofs.Seen.{seen}
use Rattle.audit_rows.proofs.judged.Judged.new.Goals as goal

pub returns-clause-judged : goal.returns-clause-judged
returns-clause-judged c x named carried after watching =
    let judging = c.args.judging in
    let points = c.finish-client.ensures.points judging x host_name (whole_of named carried) watching in
    record {
      trail = after.own;
      doubts = subst (λ d. IsDoubtedAfter d (whole_of named carried)) (sym (c.doubted-doubted.ensures.doubts ∙ c.doubts.ensures)) watching.doubts;
      kept = record {
        number = ap {A = TransferDoubts} (λ d. d.number) (c.doubted-doubted.ensures.doubts ∙ c.doubts.ensures) ∙ watching.number;
        is_twice = c.doubted-doubted.ensures.is_twice judging x named carried after.own;
        begins = c.doubted-doubted.ensures.begins;
        is_one_way = c.doubted-doubted.ensures.is_one_way;
        copied_from = c.doubted-doubted.ensures.copied_from;
        damaged = c.doubted-doubted.ensures.damaged;
        discarded = c.doubted-doubted.ensures.discarded;
        joined = c.doubted-doubted.ensures.joined;
        goes_on = c.doubted-doubted.ensures.goes_on;
        left_out = c.doubted-doubted.ensures.left_out;
      };
      at_client = seen c.at_client.result (λ it. AtEnd it) c.finish-client.result.client c.at_client.ensures.found ∙ points.client;
      at_server = seen c.at_server.result (λ it. AtEnd it) c.finish-client.result.server c.at_server.ensures.found ∙ points.server;
      at_between = seen c.between.result (λ it. Between it) c.finish-client.result.between c.between.ensures.found ∙ points.between;
      client = c.at_client.ensures.is x named carried after.own points.client
          (c.finish-client.ensures.client judging x host_name (whole_of named carried) watching);
      server = c.at_server.ensures.is x named carried after.own points.server
          (c.finish-client.ensures.server judging x host_name (whole_of named carried) watching);
      between = λ apart. c.between.ensures.is x named carried after.own after.between points.between apart
          (c.finish-client.ensures.between judging x (whole_of named carried) watching apart);
    }
