-- An end deals with one other, from one port: what shows two is certain.
use Rattle.std.proofs.Common.{◌≡◌, ◌≢◌, ℕ, List, ◌∷◌, ◌++◌, Contains, Some, length, reverse, refl, sym, subst, ◌∙◌}
use Rattle.tftp_packet.specs.{End, Client, Server}
use Rattle.tftp_packet.specs.Hosts.{Datagram, Header, peer_of}
use Rattle.law_model.specs.Model.{Meaning}
use Rattle.law_model.specs.Rules.{asks, first_of}
use Rattle.law_model.proofs.ModelLemmas.Members.{contains_first}
use Rattle.law_end.specs.{Division, HasClientId, HasLabel, IsLawful, Label, Main, Stray, TransferIds, datagrams_of, view_in}
use Rattle.law_end.specs.Dress.{StrayAnswer}
use Rattle.law_end.proofs.Division.Divided.{view_main}
use Rattle.law_end.proofs.Division.Placing.{one}
use Rattle.law_end.proofs.FirstBroken.FirstRequests.{first_passes}
use Rattle.law_tap.specs.Losses.{IsCertain, IsLawfulWithLosses}
use Rattle.law_tap.specs.StandingAtEnd.{GoesOnWith}
use Rattle.law_tap.proofs.EndKnown.{asking_peer, first_there, gone_peer, no_answer}
use Rattle.law_tap.proofs.EndStands.{certain, in_fuller}
use Rattle.law_tap.proofs.EndStood.{Stood, WasIn, asked_main, out_main, was_in}
use Rattle.law_tap.proofs.Left.{left_was_there}

module _ (h : Header) (m : Meaning) (wire : List ℕ) (ids : TransferIds) where
  -- with whom an end has gone on, there is the other one
  other_there : (e : End) → h.named ≡ e → (division : Division) (g : Datagram) → WasIn h m wire ids division g → GoesOnWith g → peer_of g ≡ ids.peer
  other_there Client named division g w goes = gone_peer h m wire ids named division g w goes
  other_there Server named division g w goes =
      let (deed, is) = out_main h m wire ids w.before g w.label w.has goes.out goes.message goes.says (no_answer goes.message goes.alone) in
      let c = subst (HasLabel h m wire ids w.before g) is w.has in
      subst (λ e. HasClientId e ids g) named c.client

  -- what was recorded at a client has its port
  own_port : h.named ≡ Client → (before : Division) (x : Datagram) (label : Label) → HasLabel h m wire ids before x label → x.local ≡ ids.own
  own_port named before x (Main deed) has = subst (λ e. HasClientId e ids x) named has.client
  own_port named before x Stray has = has.here
  own_port named before x StrayAnswer has = has.here

module _ (h : Header) (later earlier : List Datagram) (d : Datagram) where
  -- whatever division a fuller list has
  module _ (m : Meaning) (wire : List ℕ) (ids : TransferIds) (st : Stood h m wire ids earlier d) where
    abbrev all : Division
    all = one d st.label st.rest

    this : WasIn h m wire ids all d
    this = record {
      label = st.label;
      before = st.rest;
      has = st.has;
      labels = st.labels;
      done = λ deed is. subst (λ v. Contains v deed) (sym (view_main (record { datagram = d; label = st.label }) deed st.rest is)) (contains_first deed (view_in st.rest));
    }

    was : (x : Datagram) → Contains earlier x → WasIn h m wire ids st.rest x
    was x at = was_in h m wire ids st.rest st.labels x (left_was_there (datagrams_of st.rest) earlier x st.left at)

  abbrev Certain : Type 0
  Certain = IsCertain h (reverse (later ++ d ∷ earlier)) (length earlier)

  in_none : ((m : Meaning) (wire : List ℕ) (ids : TransferIds) → Stood h m wire ids earlier d → ⊥) → Certain
  in_none none = certain h later earlier d (λ lossy. by lossy lossy.lawful) where
    by : (lossy : IsLawfulWithLosses h (reverse (d ∷ earlier))) → IsLawful h lossy.all → ⊥
    by lossy (m, wire, seen) = none m wire seen.dressed.ids (in_fuller h later earlier d lossy m wire seen)

  pub two_others : (other : Datagram) → Contains earlier other → GoesOnWith d → GoesOnWith other → peer_of d ≢ peer_of other → Certain
  two_others other at goes went differs = in_none (λ m wire ids st.
      differs (other_there h m wire ids h.named refl (all m wire ids st) d (this m wire ids st) goes
      ∙ sym (other_there h m wire ids h.named refl st.rest other (was m wire ids st other at) went)))

  pub another_client : h.named ≡ Server → (request : Datagram) → first_of (asks h) earlier ≡ Some request → GoesOnWith d → peer_of d ≢ peer_of request → Certain
  another_client named request first goes differs = in_none (λ m wire ids st.
      differs (other_there h m wire ids Server named (all m wire ids st) d (this m wire ids st) goes
      ∙ sym (asking_peer h m wire ids named st.rest request (was m wire ids st request (first_there (asks h) earlier request first)) (first_passes (asks h) earlier request first))))

  pub another_port : h.named ≡ Client → (other : Datagram) → Contains earlier other → d.local ≢ other.local → Certain
  another_port named other at differs = in_none (λ m wire ids st.
      let w = was m wire ids st other at in
      differs (own_port h m wire ids named st.rest d st.label st.has ∙ sym (own_port h m wire ids named w.before other w.label w.has)))
