use Rattle.std.proofs.Common.{rules, ◌≡◌, ◌+◌, Some, subst, sym}
use Rattle.std.proofs.lemmas.Option.{slice_get_read}
use Rattle.std.specs.List.{slice_get}
use Rattle.audit_recording.proofs.SessionLemmas.Finding.{key_there}
use Rattle.audit_recording.proofs.SessionLemmas.Requesting.{AreFirst, all_asked, asked_more, place_of}
use Rattle.audit_recording.proofs.session.requests.requests_of.Goals as goal

pub loop-place-preserved : goal.loop-place-preserved
loop-place-preserved c = (
  search rules,
  λ named history carried s is.
      let there : slice_get c.in_ok-keys.keys.items c.loop-place.place ≡ Some c.index.result.now =
      slice_get_read c.in_ok-keys.keys.items c.len-place-end.result c.loop-place.place c.index.result.now (search rules) c.loop-place-test.true c.index.ensures in
      let one = c.in_ok-put_request.ensures named history carried s is
      (place_of named carried c.in_ok-keys.keys.items c.loop-place.place c.index.result.now (c.in_ok-keys.ensures.in_order named history carried s is) there)
      (key_there c.args.session.now.trails.entries c.loop-place.place c.index.result.now (subst (λ l. slice_get l c.loop-place.place ≡ Some c.index.result.now) c.in_ok-keys.ensures.keys there)) in
      subst (AreFirst named carried (c.loop-place.place + 1)) (sym one.2) (asked_more named carried c.loop-place.place c.loop-place.asked.items one.0 (c.loop-place.invariant.1 named history carried s is) one.1),
)

pub loop-place-init : goal.loop-place-init
loop-place-init c = (search rules, λ named history carried s is. search rules)

pub returns : goal.returns
returns c named history carried s is =
    all_asked named carried c.in_ok-keys.keys.items c.loop-place.asked.items (c.in_ok-keys.ensures.in_order named history carried s is)
    (subst (λ n. AreFirst named carried n c.loop-place.asked.items) (search rules) (c.loop-place.invariant.1 named history carried s is))
