-- Where the other end is known, each datagram of the transfer is main in each fuller list.
use Rattle.std.proofs.Common.{◌≡◌, ℕ, Bool, true, List, [], ◌∷◌, Any, Contains, Some, inl, inr, refl, sym, subst, ap, ◌∙◌}
use Rattle.std.proofs.lemmas.Bool.{and_parts}
use Rattle.tftp_packet.specs.{Message, RequestParts, End, Client, Server}
use Rattle.tftp_packet.specs.Hosts.{Datagram, Header, peer_of}
use Rattle.law_model.specs.Model.{Meaning, message_of}
use Rattle.law_model.specs.Rules.{asks, begins_request, comes_in, first_of, is_from_client, transfer_of}
use Rattle.law_model.proofs.ModelLemmas.Members.{contains_first, contains_later}
use Rattle.law_end.specs.{Division, TransferIds, HasClientId, HasLabel, HasServerId, HaveLabels, IsMain, datagrams_of, packet_of}
use Rattle.law_end.proofs.FirstBroken.FirstRequests.{begins_asked, first_passes, or_some, some_same}
use Rattle.law_end.proofs.Division.Divided.{any_none, any_cases}
use Rattle.law_tap.specs.Losses.{Loses}
use Rattle.law_tap.specs.StandingAtEnd.{GoesOnWith, IsForOtherEnd, KnowsOtherEnd}
use Rattle.law_tap.proofs.Left.{left_was_there}
use Rattle.law_tap.proofs.EndRoutes.{AskedFirst, IsOfOther, shows_other, transfer_other}
use Rattle.law_tap.proofs.EndStood.{WasIn, asked_main, main_spells, out_main, peer_main, server_id, was_in}

-- ---- in lists

pub first_there : (test : Datagram → Bool) (ds : List Datagram) (x : Datagram) → first_of test ds ≡ Some x → Contains ds x
first_there test [] x is = absurd (cc)
first_there test (d ∷ ds) x is = elim (or_some (first_of test ds) (test d) d x is) [
  | inl before ↦ contains_later d ds x (first_there test ds x before)
  | inr this ↦ subst (Contains (d ∷ ds)) this.2 (contains_first d ds)
]

-- the datagram by which it has gone on
any_there : (seen : List Datagram) → Any GoesOnWith seen → (g : Datagram) × Contains seen g × GoesOnWith g
any_there [] any = absurd (any_none GoesOnWith any)
any_there (d ∷ seen) any = elim (any_cases GoesOnWith d seen any) [
  | inl now ↦ (d, contains_first d seen, now)
  | inr before ↦ let (g, at, goes) = any_there seen before in (g, contains_later d seen g at, goes)
]

-- ---- what goes to the other end alone

pub no_answer : (n : Message) → IsForOtherEnd n → (text : List ℕ) → n ≡ Message.Error 5 text → ⊥
no_answer (Message.Error code t) alone text is = alone (cc)
no_answer (Message.Request asked) alone text is = absurd alone
no_answer (Message.Oack options) alone text is = absurd (cc)
no_answer (Message.Data k bytes) alone text is = absurd (cc)
no_answer (Message.Ack k) alone text is = absurd (cc)

no_request : (n : Message) → IsForOtherEnd n → (asked : RequestParts) → n ≡ Message.Request asked → ⊥
no_request n alone asked is = subst IsForOtherEnd is alone

goes_begins : (g : Datagram) (goes : GoesOnWith g) → begins_request g ≡ true → ⊥
goes_begins g goes begins = let (asked, is) = begins_asked g.payload goes.message goes.says begins in no_request goes.message goes.alone asked is

module _ (h : Header) (m : Meaning) (wire : List ℕ) (ids : TransferIds) where
  -- where a client has gone on, there is its server
  pub gone_peer : h.named ≡ Client → (division : Division) (g : Datagram) → WasIn h m wire ids division g → GoesOnWith g → peer_of g ≡ ids.peer
  gone_peer named division g w goes =
      let (deed, is) = out_main h m wire ids w.before g w.label w.has goes.out goes.message goes.says (no_answer goes.message goes.alone) in
      let c = subst (HasLabel h m wire ids w.before g) is w.has in
      let says = main_spells h m wire ids w.before g w.label deed is w.has goes.message goes.says in
      subst (λ e. HasServerId e ids g) named
      (server_id h m wire ids w.before g (packet_of deed) c.server (λ req. no_request goes.message goes.alone _ (sym says ∙ ap (message_of m wire) req)))

  -- who asked a server is its client
  pub asking_peer : h.named ≡ Server → (division : Division) (r : Datagram) → WasIn h m wire ids division r → asks h r ≡ true → peer_of r ≡ ids.peer
  asking_peer named division r w asked =
      let (deed, is) = asked_main h m wire ids w.before r w.label w.has asked in
      let c = subst (HasLabel h m wire ids w.before r) is w.has in
      subst (λ e. HasClientId e ids r) named c.client

  module _ (division : Division) (labels : HaveLabels h m wire ids division) (seen : List Datagram) (left : Loses Datagram (datagrams_of division) seen) where
    find : (x : Datagram) → Contains seen x → WasIn h m wire ids division x
    find x at = was_in h m wire ids division labels x (left_was_there (datagrams_of division) seen x left at)

    module _ (asked : AskedFirst h seen) (sent : (x : Datagram) → Contains seen x → GoesOnWith x → Contains (transfer_of h seen) x) (known : KnowsOtherEnd h seen) where
      -- what shows the other end has its peer
      abbrev Shown : End → Type 0
      Shown e = (f : Datagram) → first_of (shows_other h e) seen ≡ Some f → peer_of f ≡ ids.peer

      shown_server : h.named ≡ Server → Shown Server
      shown_server named f is = asking_peer named division f (find f (first_there (asks h) seen f is)) (first_passes (asks h) seen f is)

      gone_shows : (g : Datagram) → GoesOnWith g → h.named ≡ Client → (f : Datagram) → first_of comes_in seen ≡ Some f → IsOfOther h seen g → peer_of g ≡ peer_of f
      gone_shows g goes named f is (inl t) =
          absurd (goes_begins g goes (and_parts (is_from_client h.named g) (begins_request g) (and_parts _ _ t).0).1)
      gone_shows g goes named f is (inr (first, at, same)) =
          let one = subst (λ e. first_of (shows_other h e) seen ≡ Some first) named at in
          same ∙ ap peer_of (some_same first f (sym one ∙ is))

      shown_client : h.named ≡ Client → Shown Client
      shown_client named f is = elim known [
        | inl server ↦ let both : Client ≡ Server = sym named ∙ server in absurd (cc)
        | inr any ↦
            let (g, at, goes) = any_there seen any in
            sym (gone_shows g goes named f is (transfer_other h seen asked g (sent g at goes))) ∙ gone_peer named division g (find g at) goes
      ]

      shown : (e : End) → h.named ≡ e → Shown e
      shown Client named = shown_client named
      shown Server named = shown_server named

      -- each datagram of the transfer is main
      pub transfer_main : (x : Datagram) → Contains (transfer_of h seen) x → (within : Division) (w : WasIn h m wire ids within x) → IsMain w.label
      transfer_main x at within w = elim (transfer_other h seen asked x at) [
        | inl t ↦ asked_main h m wire ids w.before x w.label w.has t
        | inr (f, is, same) ↦ peer_main h m wire ids w.before x w.label w.labels w.has (same ∙ shown h.named refl f is)
      ]
