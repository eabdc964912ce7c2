-- A merge of what two ends did is a merge of the datagrams that say it.
use Rattle.std.proofs.Common.{◌≡◌, ℕ, List, [], ◌∷◌, Contains, Some, inl, inr, refl, sym, subst, ap, ◌∙◌}
use Rattle.tftp_packet.specs.{Message, Spells}
use Rattle.tftp_packet.specs.Hosts.{Datagram, Header}
use Rattle.tftp_packet.specs.{In, Out}
use Rattle.law_model.specs.Model.{Meaning, MachinePacket, Req, Deed, Sent, Took, History, HasSent, message_of}
use Rattle.law_model.specs.Rules.{route_of, transfer_of, Passed, is_of_transfer}
use Rattle.law_model.proofs.ModelLemmas.Members.{contains_first, contains_later, contains_cases, contains_none}
use Rattle.law_end.specs.Dress.{StrayAnswer}
use Rattle.law_end.specs.{Label, Main, Stray, Division, datagrams_of, view_in, dir_of, packet_of, label_route, SaysAs, AreRouted, packet_in}
use Rattle.law_end.proofs.Spelled.{spelled_once}
use Rattle.law_end.proofs.Accord.PassedIsDone.{with_main, with_stray}
use Rattle.law_pair.specs.{IsOpen, AreMerged, IsBrought, AreMergedBy}
use Rattle.law_pair.proofs.Merged.{nothing, at_client, at_server, by_order}

-- ---- what a packet says tells which packet it is

packet_told : (m : Meaning) (wire : List ℕ) (p : MachinePacket) → packet_in (message_of m wire p) ≡ Some p
packet_told m wire Req = refl
packet_told m wire _ = refl

some_packet : (p q : MachinePacket) → Some p ≡ Some q → p ≡ q
some_packet p q e = cc

pub packet_is : (m : Meaning) (wire : List ℕ) (p q : MachinePacket) (x : Message) → message_of m wire p ≡ x → packet_in x ≡ Some q → p ≡ q
packet_is m wire p q x says is = some_packet p q (sym (packet_told m wire p) ∙ ap packet_in says ∙ is)

pub packet_same : (m n : Meaning) (wire line : List ℕ) (p q : MachinePacket) → message_of m wire p ≡ message_of n line q → p ≡ q
packet_same m n wire line p q e = packet_is m wire p q (message_of n line q) e (packet_told n line q)

-- ---- the datagrams say what was done, one each

abbrev pub AreSpelt : Meaning → List ℕ → History → List Datagram → Type 0
AreSpelt m wire [] [] = Unit {0}
AreSpelt m wire [] (d ∷ ds) = ⊥
AreSpelt m wire (deed ∷ v) [] = ⊥
AreSpelt m wire (deed ∷ v) (d ∷ ds) = ((d.dir ≡ dir_of deed) × Spells d.payload (message_of m wire (packet_of deed))) × AreSpelt m wire v ds

module _ (h : Header) (m : Meaning) (wire : List ℕ) where
  spelt_step : (d : Datagram) (label : Label) (earlier : Division) → route_of h (datagrams_of earlier) d ≡ label_route label → SaysAs m wire d label
      → AreSpelt m wire (view_in earlier) (transfer_of h (datagrams_of earlier)) → AreSpelt m wire (view_in (record { datagram = d; label = label } ∷ earlier)) (transfer_of h (d ∷ datagrams_of earlier))
  spelt_step d (Main deed) earlier is says before = subst (AreSpelt m wire (deed ∷ view_in earlier)) (sym (with_main h m wire earlier d deed is)) (says, before)
  spelt_step d Stray earlier is says before = subst (AreSpelt m wire (view_in earlier)) (sym (with_stray h m wire earlier d (ap is_of_transfer is))) before
  spelt_step d StrayAnswer earlier is says before = subst (AreSpelt m wire (view_in earlier)) (sym (with_stray h m wire earlier d (ap is_of_transfer is))) before

  pub spelt : (division : Division) → AreRouted h m wire division → AreSpelt m wire (view_in division) (transfer_of h (datagrams_of division))
  spelt [] routed = tt
  spelt (p ∷ earlier) routed = spelt_step p.datagram p.label earlier routed.0 routed.1 (spelt earlier routed.2)

out_is_sent : (deed : Deed) (p : MachinePacket) → Out ≡ dir_of deed → packet_of deed ≡ p → deed ≡ Sent p
out_is_sent (Sent q) p out is = ap Sent is
out_is_sent (Took q) p out is = absurd (cc)

-- what went out was sent
pub sent_of : (m n : Meaning) (wire line : List ℕ) (v : History) (ds : List Datagram) → AreSpelt m wire v ds → (x : Message) → Passed Out x ds → (p : MachinePacket) → message_of n line p ≡ x → HasSent v p
sent_of m n wire line [] [] all x passed p is = absurd passed
sent_of m n wire line [] (d ∷ ds) all x passed p is = absurd all
sent_of m n wire line (deed ∷ v) [] all x passed p is = absurd all
sent_of m n wire line (deed ∷ v) (d ∷ ds) all x passed p is = elim passed [
  | inl now ↦
      let same = spelled_once d.payload (message_of m wire (packet_of deed)) x all.0.1 now.1 in
      let packet = packet_same m n wire line (packet_of deed) p (same ∙ sym is) in
      subst (Contains (deed ∷ v)) (out_is_sent deed p (sym now.0 ∙ all.0.0) packet) (contains_first deed v)
  | inr before ↦ contains_later deed v (Sent p) (sent_of m n wire line v ds all.1 x before p is)
]

-- what was sent went out
pub passed_of : (m : Meaning) (wire : List ℕ) (v : History) (ds : List Datagram) → AreSpelt m wire v ds → (p : MachinePacket) → HasSent v p → Passed Out (message_of m wire p) ds
passed_of m wire [] [] all p at = absurd (contains_none (Sent p) at)
passed_of m wire [] (d ∷ ds) all p at = absurd all
passed_of m wire (deed ∷ v) [] all p at = absurd all
passed_of m wire (deed ∷ v) (d ∷ ds) all p at = elim (contains_cases deed v (Sent p) at) [
  | inl same ↦ inl (subst (λ x. (d.dir ≡ dir_of x) × Spells d.payload (message_of m wire (packet_of x))) same all.0)
  | inr before ↦ inr (passed_of m wire v ds all.1 p before)
]

-- ---- from datagrams to deeds: each end may have its own meaning

module _ (m n : Meaning) (wire line : List ℕ) (v : History) (ds : List Datagram) (all : AreSpelt n line v ds) where
  brought_open : (d : Datagram) (deed : Deed) → d.dir ≡ dir_of deed → Spells d.payload (message_of m wire (packet_of deed)) → IsBrought ds d → IsOpen v deed
  brought_open d (Sent p) way says brought = tt
  brought_open d (Took p) way says brought =
      let (x, s, passed) = brought way in
      sent_of n m line wire v ds all x passed p (spelled_once d.payload (message_of m wire p) x says s)

pub deeds_merged : (mc ms : Meaning) (wc ws : List ℕ) (vc vs : History) (client server : List Datagram) → AreSpelt mc wc vc client → AreSpelt ms ws vs server → AreMergedBy client server → AreMerged vc vs
deeds_merged mc ms wc ws vc vs client server spelt_client spelt_server merged =
    by_order IsBrought (λ client server. (vc vs : History) → AreSpelt mc wc vc client → AreSpelt ms ws vs server → AreMerged vc vs) none client_step server_step client server merged vc vs spelt_client spelt_server
  where
    none : (vc vs : History) → AreSpelt mc wc vc [] → AreSpelt ms ws vs [] → AreMerged vc vs
    none [] [] one other = nothing IsOpen
    none (deed ∷ vc) vs one other = absurd one
    none [] (deed ∷ vs) one other = absurd other

    client_step : (d : Datagram) (client server : List Datagram) → IsBrought server d → AreMergedBy client server → ((vc vs : History) → AreSpelt mc wc vc client → AreSpelt ms ws vs server → AreMerged vc vs)
        → (vc vs : History) → AreSpelt mc wc vc (d ∷ client) → AreSpelt ms ws vs server → AreMerged vc vs
    client_step d client server now so_far before [] vs one other = absurd one
    client_step d client server now so_far before (deed ∷ vc) vs one other =
        at_client IsOpen deed vc vs (brought_open mc ms wc ws vs server other d deed one.0.0 one.0.1 now) (before vc vs one.1 other)

    server_step : (d : Datagram) (client server : List Datagram) → IsBrought client d → AreMergedBy client server → ((vc vs : History) → AreSpelt mc wc vc client → AreSpelt ms ws vs server → AreMerged vc vs)
        → (vc vs : History) → AreSpelt mc wc vc client → AreSpelt ms ws vs (d ∷ server) → AreMerged vc vs
    server_step d client server now so_far before vc [] one other = absurd other
    server_step d client server now so_far before vc (deed ∷ vs) one other =
        at_server IsOpen deed vc vs (brought_open ms mc ws wc vc client one d deed other.0.0 other.0.1 now) (before vc vs one other.1)

-- ---- from deeds to datagrams: of one meaning

module _ (m : Meaning) (wire : List ℕ) where
  open_brought : (v : History) (ds : List Datagram) → AreSpelt m wire v ds → (d : Datagram) (deed : Deed) → d.dir ≡ dir_of deed → Spells d.payload (message_of m wire (packet_of deed)) → IsOpen v deed → IsBrought ds d
  open_brought v ds all d (Sent p) way says open_now came = let both : Out ≡ In = sym way ∙ came in absurd (cc)
  open_brought v ds all d (Took p) way says open_now came = (message_of m wire p, says, passed_of m wire v ds all p open_now)

  abbrev Merges : History → History → Type 0
  Merges vc vs = (client server : List Datagram) → AreSpelt m wire vc client → AreSpelt m wire vs server → AreMergedBy client server

  nothing_merges : Merges [] []
  nothing_merges [] [] one other = nothing IsBrought
  nothing_merges (d ∷ client) server one other = absurd one
  nothing_merges [] (d ∷ server) one other = absurd other

  from_client : (deed : Deed) (vc vs : History) → IsOpen vs deed → AreMerged vc vs → Merges vc vs → Merges (deed ∷ vc) vs
  from_client deed vc vs now so_far before [] server one other = absurd one
  from_client deed vc vs now so_far before (d ∷ client) server one other =
      at_client IsBrought d client server (open_brought vs server other d deed one.0.0 one.0.1 now) (before client server one.1 other)

  from_server : (deed : Deed) (vc vs : History) → IsOpen vc deed → AreMerged vc vs → Merges vc vs → Merges vc (deed ∷ vs)
  from_server deed vc vs now so_far before client [] one other = absurd other
  from_server deed vc vs now so_far before client (d ∷ server) one other =
      at_server IsBrought d client server (open_brought vc client one d deed other.0.0 other.0.1 now) (before client server one other.1)

  pub messages_merged : (vc vs : History) → AreMerged vc vs → Merges vc vs
  messages_merged = by_order IsOpen Merges nothing_merges from_client from_server
