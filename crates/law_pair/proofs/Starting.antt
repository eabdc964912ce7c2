-- A write whose two ends take it differently, the client without options and the server with some, never begins.
use Rattle.std.proofs.Common.{◌≡◌, ℕ, List, ◌∷◌, inl, inr, refl, subst}
use Rattle.tftp_packet.specs.{Put, Client, Server}
use Rattle.law_model.specs.Model.{Meaning, NothingAgreed, SomethingAgreed, Data, Ack, Deed, Sent, Took, History, HasSent, IsStartedOn, MayAckZeroOn, MaySend}
use Rattle.law_model.proofs.ModelLemmas.Members.{contains_cases, contains_none}
use Rattle.law_pair.specs.{IsOpen, AreMerged, MaySendEach}
use Rattle.law_pair.proofs.Merged.{by_order}
use Rattle.law_pair.proofs.TwoViews.{each_tail}
use Rattle.law_pair.proofs.Counted.{client_took, server_took}

abbrev NoBlock : History → Type 0
NoBlock h = (k : ℕ) → HasSent h (Data k) → ⊥

abbrev NoZero : History → Type 0
NoZero h = HasSent h (Ack 0) → ⊥

module _ (mc ms : Meaning) (wc ws : List ℕ) (client_put : mc.side ≡ Put) (server_put : ms.side ≡ Put) (plain : NothingAgreed mc) (some : SomethingAgreed ms) where
  client_deed : (deed : Deed) (vc vs : History) → AreMerged vc vs → MaySendEach mc wc Client (deed ∷ vc) → NoBlock vc → NoZero vs → NoBlock (deed ∷ vc)
  client_deed (Took p) vc vs merged each no_block no_zero k at = elim (contains_cases (Took p) vc (Sent (Data k)) at) [ inl same ↦ absurd (cc) | inr before ↦ no_block k before ]
  client_deed (Sent p) vc vs merged each no_block no_zero k at = elim (contains_cases (Sent p) vc (Sent (Data k)) at) [
    | inl same ↦
        let is : p ≡ Data k = cc in
        let may = subst (MaySend mc wc Client vc) is each.0 in
        elim (subst (λ side. IsStartedOn side mc vc) client_put may.started) [
          | inl x ↦ no_zero (client_took vc vs merged (Ack 0) x.1)
          | inr x ↦ x.0 plain
        ]
    | inr before ↦ no_block k before
  ]

  server_deed : (deed : Deed) (vc vs : History) → AreMerged vc vs → MaySendEach ms ws Server (deed ∷ vs) → NoBlock vc → NoZero vs → NoZero (deed ∷ vs)
  server_deed (Took p) vc vs merged each no_block no_zero at = elim (contains_cases (Took p) vs (Sent (Ack 0)) at) [ inl same ↦ absurd (cc) | inr before ↦ no_zero before ]
  server_deed (Sent p) vc vs merged each no_block no_zero at = elim (contains_cases (Sent p) vs (Sent (Ack 0)) at) [
    | inl same ↦
        let is : p ≡ Ack 0 = cc in
        let may = subst (MaySend ms ws Server vs) is each.0 in
        elim (subst (λ side. MayAckZeroOn side ms vs) server_put (may.zero refl)) [
          | inl x ↦ some x.0
          | inr x ↦ no_block x.1 (server_took vc vs merged (Data x.1) x.2)
        ]
    | inr before ↦ no_zero before
  ]

  neither : (vc vs : History) → AreMerged vc vs → MaySendEach mc wc Client vc → MaySendEach ms ws Server vs → NoBlock vc × NoZero vs
  neither = by_order IsOpen (λ vc vs. MaySendEach mc wc Client vc → MaySendEach ms ws Server vs → NoBlock vc × NoZero vs)
      (λ one other. (λ k at. contains_none (Sent (Data k)) at, λ at. contains_none (Sent (Ack 0)) at))
      (λ d vc vs now merged before each other.
      let past = before (each_tail mc wc Client d vc each) other in
      (client_deed d vc vs merged each past.0 past.1, past.1))
      (λ d vc vs now merged before other each.
      let past = before other (each_tail ms ws Server d vs each) in
      (past.0, server_deed d vc vs merged each past.0 past.1))

  -- so the server never sent ACK 0
  pub no_zero_sent : (vc vs : History) → AreMerged vc vs → MaySendEach mc wc Client vc → MaySendEach ms ws Server vs → HasSent vs (Ack 0) → ⊥
  no_zero_sent vc vs merged at_client at_server = (neither vc vs merged at_client at_server).1
