-- Two ends that each did their part beside one tap are a tapped run.
use Rattle.std.proofs.Common.{◌≡◌, ℕ, List, [], ◌∷◌, Contains, refl, sym, subst, ap}
use Rattle.tftp_packet.specs.{End, Client, Server}
use Rattle.law_model.specs.Model.{Meaning, Deed, Sent, Took, MachinePacket, HasSent, MaySend, Step, view_of, MayFollow}
use Rattle.law_tap.specs.{Pass, TapStep, Does, Passes, did, passed_in, MayBeNext, IsTappedRun, deed_at, as_at}
use Rattle.law_tap.proofs.Halves.{IsOpen, IsHalf}
use Rattle.law_tap.proofs.Passed.{sent_passed}

pub record Joined (m : Meaning) (wire : List ℕ) (cs ss : List Step) (passed : List Pass) : Type 0 where
  pub steps : List TapStep
  pub run : IsTappedRun m wire steps
  pub tap : passed_in steps ≡ passed
  pub client : did Client steps ≡ view_of Client cs
  pub server : did Server steps ≡ view_of Server ss

module _ (m : Meaning) (wire : List ℕ) where
  -- a deed of the client, and one of the server
  by_client : (d : Deed) (cs ss : List Step) (passed : List Pass) → MayFollow m wire cs Client d → view_of Server cs ≡ as_at Server passed → Joined m wire cs ss passed → Joined m wire (record { actor = Client; deed = d } ∷ cs) ss passed
  by_client d cs ss passed may view j = record { steps = Does Client d ∷ j.steps; run = (allowed d may, j.run); tap = j.tap; client = ap (λ v. d ∷ v) j.client; server = j.server } where
    allowed : (d : Deed) → MayFollow m wire cs Client d → MayBeNext m wire j.steps (Does Client d)
    allowed (Sent p) may = subst (λ v. MaySend m wire Client v p) (sym j.client) may
    allowed (Took p) may = subst (λ l. Contains l (record { from = Server; packet = p })) (sym j.tap) (sent_passed Server p passed (subst (λ v. HasSent v p) view may))

  by_server : (d : Deed) (cs ss : List Step) (passed : List Pass) → MayFollow m wire ss Server d → view_of Client ss ≡ as_at Client passed → Joined m wire cs ss passed → Joined m wire cs (record { actor = Server; deed = d } ∷ ss) passed
  by_server d cs ss passed may view j = record { steps = Does Server d ∷ j.steps; run = (allowed d may, j.run); tap = j.tap; client = j.client; server = ap (λ v. d ∷ v) j.server } where
    allowed : (d : Deed) → MayFollow m wire ss Server d → MayBeNext m wire j.steps (Does Server d)
    allowed (Sent p) may = subst (λ v. MaySend m wire Server v p) (sym j.server) may
    allowed (Took p) may = subst (λ l. Contains l (record { from = Client; packet = p })) (sym j.tap) (sent_passed Client p passed (subst (λ v. HasSent v p) view may))

  -- the tap passes a packet
  passes : (f : End) (p : MachinePacket) (cs ss : List Step) (passed : List Pass) (dc ds : Deed) → deed_at Server f p ≡ dc → deed_at Client f p ≡ ds → IsOpen (view_of Client cs) dc → IsOpen (view_of Server ss) ds
      → Joined m wire cs ss passed → Joined m wire (record { actor = Server; deed = dc } ∷ cs) (record { actor = Client; deed = ds } ∷ ss) (record { from = f; packet = p } ∷ passed)
  passes f p cs ss passed dc ds is_c is_s open_c open_s j = record { steps = Passes f p ∷ j.steps; run = (sent f (subst (IsOpen (view_of Client cs)) (sym is_c) open_c) (subst (IsOpen (view_of Server ss)) (sym is_s) open_s), j.run); tap = ap (λ l. record { from = f; packet = p } ∷ l) j.tap; client = j.client; server = j.server } where
    sent : (f : End) → IsOpen (view_of Client cs) (deed_at Server f p) → IsOpen (view_of Server ss) (deed_at Client f p) → HasSent (did f j.steps) p
    sent Client one other = subst (λ v. HasSent v p) (sym j.client) one
    sent Server one other = subst (λ v. HasSent v p) (sym j.server) other

  both_pass : (x : Pass) (cs ss : List Step) (passed : List Pass) (dc ds : Deed) → deed_at Server x.from x.packet ≡ dc → deed_at Client x.from x.packet ≡ ds → IsOpen (view_of Client cs) dc → IsOpen (view_of Server ss) ds
      → Joined m wire cs ss passed → Joined m wire (record { actor = Server; deed = dc } ∷ cs) (record { actor = Client; deed = ds } ∷ ss) (x ∷ passed)
  both_pass x cs ss passed dc ds is_c is_s open_c open_s j = passes x.from x.packet cs ss passed dc ds is_c is_s open_c open_s j

  none_passed : (e : End) (passed : List Pass) → [] ≡ as_at e passed → passed ≡ []
  none_passed e [] is = refl
  none_passed e (x ∷ passed) is = absurd (cc)

  -- the server's steps where the client's are none
  alone_step : (a : End) (d : Deed) (ss : List Step) (passed : List Pass) → passed ≡ [] → IsHalf m wire Server (record { actor = a; deed = d } ∷ ss) → view_of Client (record { actor = a; deed = d } ∷ ss) ≡ as_at Client passed
      → (view_of Client ss ≡ as_at Client passed → Joined m wire [] ss passed) → Joined m wire [] (record { actor = a; deed = d } ∷ ss) passed
  alone_step Server d ss passed none run view rest = by_server d [] ss passed (run.0.own refl) view (rest view)
  alone_step Client d ss passed none run view rest = let empty : as_at Client passed ≡ [] = ap (as_at Client) none in absurd (cc)

  alone : (ss : List Step) (passed : List Pass) → passed ≡ [] → IsHalf m wire Server ss → view_of Client ss ≡ as_at Client passed → Joined m wire [] ss passed
  alone [] passed none run view = record { steps = []; run = tt; tap = sym none; client = refl; server = refl }
  alone (s ∷ ss) passed none run view = alone_step s.actor s.deed ss passed none run view (λ v. alone ss passed none run.1 v)

  -- the tap passes something towards or from the client: first what the server did since
  abbrev pub Rest : List Step → Type 0
  Rest cs = (ss : List Step) (passed : List Pass) → IsHalf m wire Server ss → view_of Server cs ≡ as_at Server passed → view_of Client ss ≡ as_at Client passed → Joined m wire cs ss passed

  both : (dc ds : Deed) (cs ss : List Step) (passed : List Pass) → IsOpen (view_of Client cs) dc → IsOpen (view_of Server ss) ds → IsHalf m wire Server ss → Rest cs
      → dc ∷ view_of Server cs ≡ as_at Server passed → ds ∷ view_of Client ss ≡ as_at Client passed
      → Joined m wire (record { actor = Server; deed = dc } ∷ cs) (record { actor = Client; deed = ds } ∷ ss) passed
  both dc ds cs ss [] open_c open_s run rest client server = absurd (cc)
  both dc ds cs ss (x ∷ passed) open_c open_s run rest client server = both_pass x cs ss passed dc ds (cc) (cc) open_c open_s (rest ss passed run (cc) (cc))

  tap_step : (dc : Deed) (cs : List Step) (a : End) (d : Deed) (ss : List Step) (passed : List Pass) → IsOpen (view_of Client cs) dc → IsHalf m wire Server (record { actor = a; deed = d } ∷ ss) → Rest cs
      → dc ∷ view_of Server cs ≡ as_at Server passed → view_of Client (record { actor = a; deed = d } ∷ ss) ≡ as_at Client passed
      → (view_of Client ss ≡ as_at Client passed → Joined m wire (record { actor = Server; deed = dc } ∷ cs) ss passed)
      → Joined m wire (record { actor = Server; deed = dc } ∷ cs) (record { actor = a; deed = d } ∷ ss) passed
  tap_step dc cs Server d ss passed open_c run rest client server more = by_server d (record { actor = Server; deed = dc } ∷ cs) ss passed (run.0.own refl) server (more server)
  tap_step dc cs Client d ss passed open_c run rest client server more = both dc d cs ss passed open_c (run.0.tap refl) run.1 rest client server

  at_tap : (dc : Deed) (cs : List Step) → IsOpen (view_of Client cs) dc → Rest cs → Rest (record { actor = Server; deed = dc } ∷ cs)
  at_tap dc cs open_c rest [] passed run client server = let none = none_passed Client passed server in let empty : as_at Server passed ≡ [] = ap (as_at Server) none in absurd (cc)
  at_tap dc cs open_c rest (s ∷ ss) passed run client server = tap_step dc cs s.actor s.deed ss passed open_c run rest client server (λ v. at_tap dc cs open_c rest ss passed run.1 client v)

  step_rest : (a : End) (d : Deed) (cs : List Step) → IsHalf m wire Client (record { actor = a; deed = d } ∷ cs) → Rest cs → Rest (record { actor = a; deed = d } ∷ cs)
  step_rest Client d cs run rest ss passed other client server = by_client d cs ss passed (run.0.own refl) client (rest ss passed other client server)
  step_rest Server d cs run rest ss passed other client server = at_tap d cs (run.0.tap refl) rest ss passed other client server

  pub join : (cs : List Step) → IsHalf m wire Client cs → Rest cs
  join [] run ss passed other client server = alone ss passed (none_passed Server passed client) other server
  join (s ∷ cs) run ss passed other client server = step_rest s.actor s.deed cs run (join cs run.1) ss passed other client server
