-- The first request of a division is the meaning's, and its blocks are numbered as those of the wire.
use Rattle.std.proofs.Common.{◌≡◌, ℕ, ◌≤◌, List, [], ◌∷◌, Contains, Some, inl, inr, sym, subst, ◌∙◌}
use Rattle.tftp_packet.specs.{Message, Spells}
use Rattle.tftp_packet.specs.Hosts.{Datagram, Header}
use Rattle.law_model.specs.Model.{Meaning, request_of, blksize_of, block_count, Req, Data, Deed, Sent, Took, History, MaySend, MayCome, IsOneSided}
use Rattle.law_model.specs.Rules.{Route, asks, first_of}
use Rattle.law_end.specs.{Label, Main, Division, datagrams_of, packet_of, label_route, SaysAs, AreRouted}
use Rattle.law_end.proofs.FirstBroken.FirstRequests.{or_some, asks_route}
use Rattle.law_end.proofs.Accord.Moments.{sent_moment, took_moment}

-- ---- the first request

module _ (h : Header) (m : Meaning) (wire : List ℕ) where
  is_request : (label : Label) (d : Datagram) → label_route label ≡ Route.Request → SaysAs m wire d label → Spells d.payload (Message.Request (request_of m))
  is_request (Main (Sent Req)) d is says = says.1
  is_request (Main (Took Req)) d is says = says.1
  is_request _ d is says = absurd (cc)

  pub request_spelled : (division : Division) → AreRouted h m wire division → (d : Datagram) → first_of (asks h) (datagrams_of division) ≡ Some d → Spells d.payload (Message.Request (request_of m))
  request_spelled [] routed d is = absurd (cc)
  request_spelled (p ∷ earlier) routed d is = elim (or_some (first_of (asks h) (datagrams_of earlier)) (asks h p.datagram) p.datagram d is) [
    | inl before ↦ request_spelled earlier routed.2 d before
    | inr now ↦ subst (λ (x : Datagram). Spells x.payload (Message.Request (request_of m))) now.2
        (is_request p.label p.datagram (sym routed.0 ∙ asks_route h (datagrams_of earlier) p.datagram now.0 now.1) routed.1)
  ]

  -- ---- the blocks of a history are numbered as those of the wire

  abbrev IsNumbered : ℕ → Type 0
  IsNumbered k = (1 ≤ k) × (k ≤ block_count (blksize_of m) wire)

  pub numbered : (v : History) → IsOneSided m wire h.named v → (deed : Deed) → Contains v deed → (k : ℕ) → packet_of deed ≡ Data k → IsNumbered k
  numbered v own (Sent p) at k is =
      let (before, may, kept) = sent_moment m wire h.named v own p at in
      let allowed = subst (MaySend m wire h.named before) is may in
      (allowed.from_one, allowed.in_wire)
  numbered v own (Took p) at k is =
      let (before, may, kept) = took_moment m wire h.named v own p at in
      let allowed = subst (MayCome m wire h.named before) is may in
      (allowed.from_one, allowed.in_wire)
