-- Between the ends, where some of what passed was not seen: what was sent in one run.
use Rattle.std.proofs.Common.{◌≡◌, ◌↔◌, ℕ, List, [], ◌∷◌, Contains, inl, inr, refl, sym, subst, ap}
use Rattle.tftp_packet.specs.{End, Client, Server}
use Rattle.law_model.specs.Model.{Meaning, Deed, Sent, Took, MachinePacket, HasSent, MaySend, Step, view_of, MayFollow, IsRun}
use Rattle.law_model.specs.Model.Machines.{other_end}
use Rattle.law_model.proofs.ModelLemmas.Members.{contains_first, contains_later, contains_cases, contains_none}
use Rattle.law_tap.specs.Tap.{Pass, TapStep, Does, Passes, did, passed_in, MayBeNext, IsTappedRun}
use Rattle.law_tap.specs.Losses.{Loses, kept}
use Rattle.law_tap.specs.LossesBetween.{AllSent, IsSentInOneRun, IsTapViewWithLosses}
use Rattle.law_tap.proofs.Left.{loses_all, left_was_there}

pub did_pass : (e f : End) (q : MachinePacket) (steps : List TapStep) → did e (Passes f q ∷ steps) ≡ did e steps
did_pass Client f q steps = refl
did_pass Server f q steps = refl

did_later : (e a : End) (d : Deed) (steps : List TapStep) (x : Deed) → Contains (did e steps) x → Contains (did e (Does a d ∷ steps)) x
did_later Client Client d steps x at = contains_later d (did Client steps) x at
did_later Client Server d steps x at = at
did_later Server Client d steps x at = at
did_later Server Server d steps x at = contains_later d (did Server steps) x at

module _ (m : Meaning) (wire : List ℕ) where
  -- what passed its end had sent
  was_sent : (x : Pass) (steps : List TapStep) → IsTappedRun m wire steps → Contains (passed_in steps) x → HasSent (did x.from steps) x.packet
  was_sent x [] run at = absurd (contains_none x at)
  was_sent x (Does a d ∷ steps) run at = did_later x.from a d steps (Sent x.packet) (was_sent x steps run.1 at)
  was_sent x (Passes f q ∷ steps) run at = subst (λ v. HasSent v x.packet) (sym (did_pass x.from f q steps)) (elim (contains_cases (record { from = f; packet = q }) (passed_in steps) x at) [
    | inl now ↦ subst (λ (y : Pass). HasSent (did y.from steps) y.packet) now run.0
    | inr before ↦ was_sent x steps run.1 before
  ])

  -- the run without the tap
  record Plain (steps : List TapStep) : Type 0 where
    run : List Step
    is_run : IsRun m wire run
    client : view_of Client run ≡ did Client steps
    server : view_of Server run ≡ did Server steps

  at_end : (e : End) (steps : List TapStep) (t : Plain steps) → view_of e t.run ≡ did e steps
  at_end Client steps t = t.client
  at_end Server steps t = t.server

  may_follow : (a : End) (d : Deed) (steps : List TapStep) → IsTappedRun m wire steps → (t : Plain steps) → MayBeNext m wire steps (Does a d) → MayFollow m wire t.run a d
  may_follow a (Sent p) steps run t may = subst (λ v. MaySend m wire a v p) (sym (at_end a steps t)) may
  may_follow a (Took p) steps run t may = subst (λ v. HasSent v p) (sym (at_end (other_end a) steps t)) (was_sent (record { from = other_end a; packet = p }) steps run may)

  plain : (steps : List TapStep) → IsTappedRun m wire steps → Plain steps
  plain [] run = record { run = []; is_run = tt; client = refl; server = refl }
  plain (Passes f q ∷ steps) run = let t = plain steps run.1 in record { run = t.run; is_run = t.is_run; client = t.client; server = t.server }
  plain (Does Client d ∷ steps) run = let t = plain steps run.1 in record {
    run = record { actor = Client; deed = d } ∷ t.run;
    is_run = (may_follow Client d steps run.1 t run.0, t.is_run);
    client = ap (λ v. d ∷ v) t.client;
    server = t.server;
  }
  plain (Does Server d ∷ steps) run = let t = plain steps run.1 in record {
    run = record { actor = Server; deed = d } ∷ t.run;
    is_run = (may_follow Server d steps run.1 t run.0, t.is_run);
    client = t.client;
    server = ap (λ v. d ∷ v) t.server;
  }

  all_sent : (steps : List TapStep) (is : IsTappedRun m wire steps) (t : Plain steps) (seen : List Pass) → ((x : Pass) → Contains seen x → Contains (passed_in steps) x) → AllSent t.run seen
  all_sent steps is t [] there = tt
  all_sent steps is t (x ∷ seen) there = (
    subst (λ v. HasSent v x.packet) (sym (at_end x.from steps t)) (was_sent x steps is (there x (contains_first x seen))),
    all_sent steps is t seen (λ y at. there y (contains_later x seen y at)),
  )

  pub sent_in_one : (seen : List Pass) → IsTapViewWithLosses m wire seen → IsSentInOneRun m wire seen
  sent_in_one seen lossy =
      let steps = lossy.view.0 in
      let t = plain steps lossy.view.1 in
      (t.run, t.is_run, all_sent steps lossy.view.1 t seen (λ x at. subst (λ l. Contains l x) (sym lossy.view.2) (left_was_there lossy.all seen x lossy.left at)))

  -- the same run with a tap that all that is sent passes at once
  record Beside (run : List Step) : Type 0 where
    steps : List TapStep
    tapped : IsTappedRun m wire steps
    client : did Client steps ≡ view_of Client run
    server : did Server steps ≡ view_of Server run
    passed : (e : End) (p : MachinePacket) → HasSent (view_of e run) p → Contains (passed_in steps) (record { from = e; packet = p })

  client_step : (d : Deed) (run : List Step) → MayFollow m wire run Client d → Beside run → Beside (record { actor = Client; deed = d } ∷ run)
  client_step (Sent p) run may t = record {
    steps = Passes Client p ∷ Does Client (Sent p) ∷ t.steps;
    tapped = (contains_first (Sent p) (did Client t.steps), (subst (λ v. MaySend m wire Client v p) (sym t.client) may, t.tapped));
    client = ap (λ v. Sent p ∷ v) t.client;
    server = t.server;
    passed = there;
  }
    where
      there : (e : End) (q : MachinePacket) → HasSent (view_of e (record { actor = Client; deed = Sent p } ∷ run)) q → Contains (record { from = Client; packet = p } ∷ passed_in t.steps) (record { from = e; packet = q })
      there Client q at = elim (contains_cases (Sent p) (view_of Client run) (Sent q) at) [
        | inl now ↦ let same : p ≡ q = cc in subst (λ r. Contains (record { from = Client; packet = p } ∷ passed_in t.steps) (record { from = Client; packet = r })) same (contains_first (record { from = Client; packet = p }) (passed_in t.steps))
        | inr before ↦ contains_later (record { from = Client; packet = p }) (passed_in t.steps) (record { from = Client; packet = q }) (t.passed Client q before)
      ]
      there Server q at = contains_later (record { from = Client; packet = p }) (passed_in t.steps) (record { from = Server; packet = q }) (t.passed Server q at)
  client_step (Took p) run may t = record {
    steps = Does Client (Took p) ∷ t.steps;
    tapped = (t.passed Server p may, t.tapped);
    client = ap (λ v. Took p ∷ v) t.client;
    server = t.server;
    passed = there;
  }
    where
      there : (e : End) (q : MachinePacket) → HasSent (view_of e (record { actor = Client; deed = Took p } ∷ run)) q → Contains (passed_in t.steps) (record { from = e; packet = q })
      there Client q at = elim (contains_cases (Took p) (view_of Client run) (Sent q) at) [ inl now ↦ absurd (cc) | inr before ↦ t.passed Client q before ]
      there Server q at = t.passed Server q at

  server_step : (d : Deed) (run : List Step) → MayFollow m wire run Server d → Beside run → Beside (record { actor = Server; deed = d } ∷ run)
  server_step (Sent p) run may t = record {
    steps = Passes Server p ∷ Does Server (Sent p) ∷ t.steps;
    tapped = (contains_first (Sent p) (did Server t.steps), (subst (λ v. MaySend m wire Server v p) (sym t.server) may, t.tapped));
    client = t.client;
    server = ap (λ v. Sent p ∷ v) t.server;
    passed = there;
  }
    where
      there : (e : End) (q : MachinePacket) → HasSent (view_of e (record { actor = Server; deed = Sent p } ∷ run)) q → Contains (record { from = Server; packet = p } ∷ passed_in t.steps) (record { from = e; packet = q })
      there Server q at = elim (contains_cases (Sent p) (view_of Server run) (Sent q) at) [
        | inl now ↦ let same : p ≡ q = cc in subst (λ r. Contains (record { from = Server; packet = p } ∷ passed_in t.steps) (record { from = Server; packet = r })) same (contains_first (record { from = Server; packet = p }) (passed_in t.steps))
        | inr before ↦ contains_later (record { from = Server; packet = p }) (passed_in t.steps) (record { from = Server; packet = q }) (t.passed Server q before)
      ]
      there Client q at = contains_later (record { from = Server; packet = p }) (passed_in t.steps) (record { from = Client; packet = q }) (t.passed Client q at)
  server_step (Took p) run may t = record {
    steps = Does Server (Took p) ∷ t.steps;
    tapped = (t.passed Client p may, t.tapped);
    client = t.client;
    server = ap (λ v. Took p ∷ v) t.server;
    passed = there;
  }
    where
      there : (e : End) (q : MachinePacket) → HasSent (view_of e (record { actor = Server; deed = Took p } ∷ run)) q → Contains (passed_in t.steps) (record { from = e; packet = q })
      there Server q at = elim (contains_cases (Took p) (view_of Server run) (Sent q) at) [ inl now ↦ absurd (cc) | inr before ↦ t.passed Server q before ]
      there Client q at = t.passed Client q at

  step_beside : (a : End) (d : Deed) (run : List Step) → MayFollow m wire run a d → Beside run → Beside (record { actor = a; deed = d } ∷ run)
  step_beside Client d run may t = client_step d run may t
  step_beside Server d run may t = server_step d run may t

  beside : (run : List Step) → IsRun m wire run → Beside run
  beside [] run = record { steps = []; tapped = tt; client = refl; server = refl; passed = none_sent }
    where
      none_sent : (e : End) (p : MachinePacket) → HasSent (view_of e []) p → Contains (passed_in []) (record { from = e; packet = p })
      none_sent Client p at = absurd (contains_none (Sent p) at)
      none_sent Server p at = absurd (contains_none (Sent p) at)
  beside (s ∷ steps) run = step_beside s.actor s.deed steps run.0 (beside steps run.1)

  own : (e : End) (run : List Step) (t : Beside run) → did e t.steps ≡ view_of e run
  own Client run t = t.client
  own Server run t = t.server

  -- and then all that was seen passes, once more
  record Again (run : List Step) (seen : List Pass) : Type 0 where
    steps : List TapStep
    tapped : IsTappedRun m wire steps
    left : Loses Pass (passed_in steps) seen
    same : (e : End) → did e steps ≡ view_of e run

  again : (run : List Step) → Beside run → (seen : List Pass) → AllSent run seen → Again run seen
  again run t [] sent = record { steps = t.steps; tapped = t.tapped; left = loses_all (passed_in t.steps); same = λ e. own e run t }
  again run t (x ∷ seen) sent =
      let more = again run t seen sent.1 in
      record {
        steps = Passes x.from x.packet ∷ more.steps;
        tapped = (subst (λ v. HasSent v x.packet) (sym (more.same x.from)) sent.0, more.tapped);
        left = kept x (passed_in more.steps) seen more.left;
        same = λ e. subst (λ v. v ≡ view_of e run) (sym (did_pass e x.from x.packet more.steps)) (more.same e);
      }

  pub passes_late : (seen : List Pass) → IsSentInOneRun m wire seen → IsTapViewWithLosses m wire seen
  passes_late seen (run, is_run, sent) =
      let more = again run (beside run is_run) seen sent in
      record { all = passed_in more.steps; view = (more.steps, more.tapped, refl); left = more.left }

  pub order_says_nothing : (seen : List Pass) → IsTapViewWithLosses m wire seen ↔ IsSentInOneRun m wire seen
  order_says_nothing seen = (sent_in_one seen, passes_late seen)

  pub change_places : (x y : Pass) (seen : List Pass) → IsTapViewWithLosses m wire (x ∷ y ∷ seen) → IsTapViewWithLosses m wire (y ∷ x ∷ seen)
  change_places x y seen lossy =
      let one = sent_in_one (x ∷ y ∷ seen) lossy in
      passes_late (y ∷ x ∷ seen) (one.0, one.1, (one.2.1.0, (one.2.0, one.2.1.1)))
