use Rattle.std.proofs.Common.{◌≡◌, ◌≤◌, ◌∷◌, max, sym, ap, subst, ◌∙◌}
use Rattle.std.proofs.Math.Nat.{le-max_right}
use Rattle.audit_flows.specs.Lines.{clock, Placed, doubts_of, seen_of, kind_of}
use Rattle.audit_flows.specs.Transfers.{place_of, and_then, IsAfter}
use Rattle.audit_flows.proofs.transfers.attribution.Attribution.feed.Goals as goal

pub returns-in-Ok-clause-doubts : goal.returns-in-Ok-clause-doubts
returns-in-Ok-clause-doubts c named older d after recorded =
    let now_is : c.max-now.result ≡ max c.args.time (clock older) = c.max-now.ensures ∙ ap (max c.args.time) after.clock in
    let later : clock older ≤ c.max-now.result = subst (λ m. clock older ≤ m) (sym now_is) (le-max_right c.args.time (clock older)) in
    let seen : record { source = c.args.source; target = c.args.target; time = c.args.time; kind = c.new-kind.result } ≡ seen_of d =
    λ i. record {
      source = sym recorded.source i;
      target = sym recorded.target i;
      time = sym recorded.time i;
      kind = (c.new-kind.ensures ∙ ap kind_of (sym recorded.payload)) i;
    } in
    c.doubts-doubts.ensures named older d after later seen recorded.payload
    (c.place_of-place.ensures named older d after later seen recorded.payload recorded.is_spelled)
    ∙ ap (λ m. doubts_of (record { datagram = d; moment = m; place = c.place_of-place.result }) older) now_is

pub returns-in-Ok-clause-stands : goal.returns-in-Ok-clause-stands
returns-in-Ok-clause-stands c named older d after recorded =
    let now_is : c.max-now.result ≡ max c.args.time (clock older) = c.max-now.ensures ∙ ap (max c.args.time) after.clock in
    let then_is : c.max-now.result ≡ max d.time (clock older) = now_is ∙ ap (λ t. max t (clock older)) (sym recorded.time) in
    let later : clock older ≤ c.max-now.result = subst (λ m. clock older ≤ m) (sym now_is) (le-max_right c.args.time (clock older)) in
    let seen : record { source = c.args.source; target = c.args.target; time = c.args.time; kind = c.new-kind.result } ≡ seen_of d =
    λ i. record {
      source = sym recorded.source i;
      target = sym recorded.target i;
      time = sym recorded.time i;
      kind = (c.new-kind.ensures ∙ ap kind_of (sym recorded.payload)) i;
    } in
    let placed : c.place_of-place.result ≡ place_of named older c.max-now.result d = c.place_of-place.ensures named older d after later seen recorded.payload recorded.is_spelled in
    let same : record { datagram = d; moment = c.max-now.result; place = c.place_of-place.result } ≡ record { datagram = d; moment = max d.time (clock older); place = place_of named older (max d.time (clock older)) d } =
    λ i. record { datagram = d; moment = then_is i; place = (placed ∙ ap (λ m. place_of named older m d) then_is) i } in
    c.let_go.ensures named (and_then named older d)
    (subst (λ (p : Placed). IsAfter c.keep.new.self named (p ∷ older)) same (c.in-Ok.ensures.stands named older d after later seen recorded.payload placed))
