-- A tap beside an end sees what that end does; and so what is lawful at an end is lawful at a tap.
use Rattle.std.proofs.Common.{◌≡◌, ℕ, List, [], ◌∷◌, Contains, inl, inr, refl, sym, subst, ap, ◌∙◌}
use Rattle.tftp_packet.specs.{End, Client, Server}
use Rattle.law_model.specs.Model.{Meaning, Deed, Sent, Took, MachinePacket, History, HasSent, MaySend, Step, view_of, MayFollow, IsRun, IsView}
use Rattle.law_model.proofs.ModelLemmas.Members.{contains_first, contains_later, contains_cases, contains_none}
use Rattle.law_tap.specs.{TapStep, Does, Passes, did, passed_in, MayBeNext, IsTappedRun, IsTapView, pass_of, tapped_at}

-- the same run with a tap beside the end e
record Tapped (m : Meaning) (wire : List ℕ) (e : End) (run : List Step) : Type 0 where
  steps : List TapStep
  tapped : IsTappedRun m wire steps
  passed : passed_in steps ≡ tapped_at e (view_of e run)
  client : did Client steps ≡ view_of Client run
  server : did Server steps ≡ view_of Server run

pub sent_passed : (e : End) (h : History) (p : MachinePacket) → HasSent h p → Contains (tapped_at e h) (record { from = e; packet = p })
sent_passed e [] p at = absurd (contains_none (Sent p) at)
sent_passed e (d ∷ h) p at = elim (contains_cases d h (Sent p) at) [
  | inl now ↦ subst (λ x. Contains (pass_of e x ∷ tapped_at e h) (record { from = e; packet = p })) (sym now) (contains_first (record { from = e; packet = p }) (tapped_at e h))
  | inr before ↦ contains_later (pass_of e d) (tapped_at e h) (record { from = e; packet = p }) (sent_passed e h p before)
]

module _ (m : Meaning) (wire : List ℕ) (run : List Step) where
  client_beside : (d : Deed) → MayFollow m wire run Client d → Tapped m wire Client run → Tapped m wire Client (record { actor = Client; deed = d } ∷ run)
  client_beside (Sent p) may t = record {
    steps = Passes Client p ∷ Does Client (Sent p) ∷ t.steps;
    tapped = (contains_first (Sent p) (did Client t.steps), (subst (λ v. MaySend m wire Client v p) (sym t.client) may, t.tapped));
    passed = ap (λ l. record { from = Client; packet = p } ∷ l) t.passed;
    client = ap (λ v. Sent p ∷ v) t.client;
    server = t.server;
  }
  client_beside (Took p) may t = record {
    steps = Does Client (Took p) ∷ Passes Server p ∷ t.steps;
    tapped = (contains_first (record { from = Server; packet = p }) (passed_in t.steps), (subst (λ v. HasSent v p) (sym t.server) may, t.tapped));
    passed = ap (λ l. record { from = Server; packet = p } ∷ l) t.passed;
    client = ap (λ v. Took p ∷ v) t.client;
    server = t.server;
  }

  server_beside : (d : Deed) → MayFollow m wire run Server d → Tapped m wire Server run → Tapped m wire Server (record { actor = Server; deed = d } ∷ run)
  server_beside (Sent p) may t = record {
    steps = Passes Server p ∷ Does Server (Sent p) ∷ t.steps;
    tapped = (contains_first (Sent p) (did Server t.steps), (subst (λ v. MaySend m wire Server v p) (sym t.server) may, t.tapped));
    passed = ap (λ l. record { from = Server; packet = p } ∷ l) t.passed;
    client = t.client;
    server = ap (λ v. Sent p ∷ v) t.server;
  }
  server_beside (Took p) may t = record {
    steps = Does Server (Took p) ∷ Passes Client p ∷ t.steps;
    tapped = (contains_first (record { from = Client; packet = p }) (passed_in t.steps), (subst (λ v. HasSent v p) (sym t.client) may, t.tapped));
    passed = ap (λ l. record { from = Client; packet = p } ∷ l) t.passed;
    client = t.client;
    server = ap (λ v. Took p ∷ v) t.server;
  }

  -- the other end does its deed behind the tap
  server_behind : (d : Deed) → MayFollow m wire run Server d → Tapped m wire Client run → Tapped m wire Client (record { actor = Server; deed = d } ∷ run)
  server_behind d may t = record { steps = Does Server d ∷ t.steps; tapped = (allowed d may, t.tapped); passed = t.passed; client = t.client; server = ap (λ v. d ∷ v) t.server } where
    allowed : (d : Deed) → MayFollow m wire run Server d → MayBeNext m wire t.steps (Does Server d)
    allowed (Sent p) may = subst (λ v. MaySend m wire Server v p) (sym t.server) may
    allowed (Took p) may = subst (λ l. Contains l (record { from = Client; packet = p })) (sym t.passed) (sent_passed Client (view_of Client run) p may)

  client_behind : (d : Deed) → MayFollow m wire run Client d → Tapped m wire Server run → Tapped m wire Server (record { actor = Client; deed = d } ∷ run)
  client_behind d may t = record { steps = Does Client d ∷ t.steps; tapped = (allowed d may, t.tapped); passed = t.passed; client = ap (λ v. d ∷ v) t.client; server = t.server } where
    allowed : (d : Deed) → MayFollow m wire run Client d → MayBeNext m wire t.steps (Does Client d)
    allowed (Sent p) may = subst (λ v. MaySend m wire Client v p) (sym t.client) may
    allowed (Took p) may = subst (λ l. Contains l (record { from = Server; packet = p })) (sym t.passed) (sent_passed Server (view_of Server run) p may)

  beside_step : (e a : End) (d : Deed) → MayFollow m wire run a d → Tapped m wire e run → Tapped m wire e (record { actor = a; deed = d } ∷ run)
  beside_step Client Client d may t = client_beside d may t
  beside_step Client Server d may t = server_behind d may t
  beside_step Server Client d may t = client_behind d may t
  beside_step Server Server d may t = server_beside d may t

beside : (m : Meaning) (wire : List ℕ) (e : End) (run : List Step) → IsRun m wire run → Tapped m wire e run
beside m wire e [] run = record { steps = []; tapped = tt; passed = refl; client = refl; server = refl }
beside m wire e (s ∷ steps) run = beside_step m wire steps e s.actor s.deed run.0 (beside m wire e steps run.1)

pub view_is_tapped : (m : Meaning) (wire : List ℕ) (e : End) (h : History) → IsView m wire e h → IsTapView m wire (tapped_at e h)
view_is_tapped m wire e h (run, is_run, is) =
    let t = beside m wire e run is_run in
    (t.steps, t.tapped, t.passed ∙ ap (tapped_at e) is)
