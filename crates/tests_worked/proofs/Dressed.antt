-- Datagrams with their labels dress a view, by computation.
use Rattle.std.proofs.Common.{◌≡◌, ℕ, ◌==◌, ◌&&◌, ◌||◌, not, Bool, true, false, ◌⊎◌, List, [], ◌∷◌, ◌++◌, Any, map as each, reverse, inl, inr, refl, sym, subst, ap, ◌∙◌}
use Rattle.std.proofs.lemmas.Bool.{and_parts, or_cases, eqb-true, eq-eqb, false≢true}
use Rattle.std.proofs.lemmas.Slice.Eq.{bytes_eq-Decides}
use Rattle.std.specs.Str.{bytes_eq}
use Rattle.std.specs.List.{list_all}
use Rattle.tftp_packet.specs.{Spells, Message, End, Client, Server}
use Rattle.tftp_packet.specs.Hosts.{Datagram, Header, PeerId, peer_of, same_peer}
use Rattle.tftp_packet.specs.{Dir, In, Out}
use Rattle.law_model.specs.Model.{Meaning, blksize_of, request_of, block, MachinePacket, Req, Oack, Data, Ack, Error, Deed, message_of, History}
use Rattle.law_model.specs.Rules.{SaysUnknownId}
use Rattle.law_model.proofs.ModelLemmas.HistoryTests.{same_end}
use Rattle.law_end.specs.{server_port, from_server, BeginsAsRequest, Label, Main, Stray, Labelled, Division, datagrams_of, view_in, TransferIds, HasClientId, HasServerId, GoesToServer, dir_of, packet_of, IsMain, HasLabel, HaveLabels, IsDressed}
use Rattle.law_end.specs.Dress.{StrayAnswer}
use Rattle.law_end.proofs.Division.Divided.{any_first, any_later}
use Rattle.law_end.proofs.Division.RouteTests.{apart_is, is_same}
use Rattle.tests_worked.proofs.Payloads.{Spelled, spells_it, spelled_it}
use Rattle.tests_worked.proofs.Passing.{same_dir, dir_is}
use Rattle.tests_worked.proofs.Meant.{deed_for}

-- a datagram with the deed that it carries
abbrev pub Carried : Type 0
Carried = Datagram × Deed

abbrev pub main : Carried → Labelled
main c = record { datagram = c.0; label = Main c.1 }

abbrev pub strays : Datagram → Labelled
strays d = record { datagram = d; label = Stray }

abbrev pub answers_stray : Datagram → Labelled
answers_stray d = record { datagram = d; label = StrayAnswer }

abbrev pub division_of : List Carried → Division
division_of cs = each main cs

abbrev pub has_client_id : End → TransferIds → Datagram → Bool
has_client_id Client ids d = d.local == ids.own
has_client_id Server ids d = same_peer (peer_of d) ids.peer

abbrev pub has_server_id : End → TransferIds → Datagram → Bool
has_server_id Client ids d = same_peer (peer_of d) ids.peer
has_server_id Server ids d = d.local == ids.own

abbrev pub asks_host : End → TransferIds → Datagram → Bool
asks_host Client ids d = bytes_eq d.host ids.asked
asks_host Server ids d = true

-- ---- what came before

abbrev pub came : Dir → Division → Bool
came dir [] = false
came dir (p ∷ ps) = same_dir p.datagram.dir dir || came dir ps

abbrev pub is_main : Label → Bool
is_main (Main deed) = true
is_main _ = false

abbrev pub is_stray : Label → Bool
is_stray Stray = true
is_stray _ = false

abbrev pub main_came : Dir → Division → Bool
main_came dir [] = false
main_came dir (p ∷ ps) = (is_main p.label && same_dir p.datagram.dir dir) || main_came dir ps

abbrev pub strayed_from : PeerId → Division → Bool
strayed_from peer [] = false
strayed_from peer (p ∷ ps) = (is_stray p.label && same_peer (peer_of p.datagram) peer) || strayed_from peer ps

-- ---- the label of a datagram

abbrev pub goes_to_server : Header → TransferIds → Division → Datagram → MachinePacket → Bool
goes_to_server header ids earlier d Req = (server_port header.named d == header.service) && asks_host header.named ids d
goes_to_server header ids earlier d _ = has_server_id header.named ids d && (same_dir d.dir (from_server header.named) || came (from_server header.named) earlier)

-- a server that goes on from the service port is asked there by others
abbrev pub no_other_asks : Header → TransferIds → Bool
no_other_asks header ids = not (same_end header.named Server) || not (ids.own == header.service)

abbrev pub is_label : Header → TransferIds → Division → Datagram → Label → Bool
is_label header ids earlier d (Main deed) =
    same_dir d.dir (dir_of deed) && (has_client_id header.named ids d && goes_to_server header ids earlier d (packet_of deed))
is_label header ids earlier d Stray =
    same_dir d.dir In
    && ((d.local == ids.own) && (not (same_peer (peer_of d) ids.peer) && (main_came (from_server header.named) earlier && no_other_asks header ids)))
is_label header ids earlier d StrayAnswer = same_dir d.dir Out && ((d.local == ids.own) && strayed_from (peer_of d) earlier)

abbrev pub are_labels : Header → TransferIds → Division → Bool
are_labels header ids [] = true
are_labels header ids (p ∷ earlier) = is_label header ids earlier p.datagram p.label && are_labels header ids earlier

-- what a packet says, in blocks of b bytes
abbrev pub says : ℕ → Meaning → List ℕ → MachinePacket → Message
says b m wire Req = Message.Request (request_of m)
says b m wire Oack = Message.Oack m.agreed
says b m wire (Data k) = Message.Data k (block b wire k)
says b m wire (Ack j) = Message.Ack j
says b m wire (Error code text) = Message.Error code text

-- what a datagram spells as its label
abbrev pub SpellsAs : ℕ → Meaning → List ℕ → Datagram → Label → Type 0
SpellsAs b m wire d (Main deed) = Spells d.payload (says b m wire (packet_of deed))
SpellsAs b m wire d Stray = Unit {0}
SpellsAs b m wire d StrayAnswer = SaysUnknownId d

abbrev pub AllSpellAs : ℕ → Meaning → List ℕ → Division → Type 0
AllSpellAs b m wire [] = Unit {0}
AllSpellAs b m wire (p ∷ ps) = SpellsAs b m wire p.datagram p.label × AllSpellAs b m wire ps

-- ---- what the tests tell

says_it : (m : Meaning) (wire : List ℕ) (p : MachinePacket) → says (blksize_of m) m wire p ≡ message_of m wire p
says_it m wire Req = refl
says_it m wire _ = refl

client_is : (e : End) (ids : TransferIds) (d : Datagram) → has_client_id e ids d ≡ true → HasClientId e ids d
client_is Client ids d t = eqb-true d.local ids.own t
client_is Server ids d t = is_same (peer_of d) ids.peer t

server_is : (e : End) (ids : TransferIds) (d : Datagram) → has_server_id e ids d ≡ true → HasServerId e ids d
server_is Client ids d t = is_same (peer_of d) ids.peer t
server_is Server ids d t = eqb-true d.local ids.own t

asks_is : (e : End) (ids : TransferIds) (d : Datagram) → asks_host e ids d ≡ true → e ≡ Client → d.host ≡ ids.asked
asks_is Client ids d t e = (bytes_eq-Decides d.host ids.asked).0 t
asks_is Server ids d t e = absurd (cc)

any_came : (dir : Dir) (ps : Division) → came dir ps ≡ true → Any (λ (p : Labelled). p.datagram.dir ≡ dir) ps
any_came dir [] e = absurd (false≢true e)
any_came dir (p ∷ ps) e = elim (or_cases (same_dir p.datagram.dir dir) (came dir ps) e) [
  | inl here ↦ any_first (λ (q : Labelled). q.datagram.dir ≡ dir) p ps (dir_is p.datagram.dir dir here)
  | inr more ↦ any_later (λ (q : Labelled). q.datagram.dir ≡ dir) p ps (any_came dir ps more)
]

main_is : (label : Label) → is_main label ≡ true → IsMain label
main_is (Main deed) e = (deed, refl)
main_is _ e = absurd (false≢true e)

stray_is : (label : Label) → is_stray label ≡ true → label ≡ Stray
stray_is Stray e = refl
stray_is _ e = absurd (false≢true e)

any_main : (dir : Dir) (ps : Division) → main_came dir ps ≡ true → Any (λ (p : Labelled). IsMain p.label × (p.datagram.dir ≡ dir)) ps
any_main dir [] e = absurd (false≢true e)
any_main dir (p ∷ ps) e = elim (or_cases (is_main p.label && same_dir p.datagram.dir dir) (main_came dir ps) e) [
  | inl here ↦
      let parts = and_parts (is_main p.label) (same_dir p.datagram.dir dir) here in
      any_first (λ (q : Labelled). IsMain q.label × (q.datagram.dir ≡ dir)) p ps (main_is p.label parts.0, dir_is p.datagram.dir dir parts.1)
  | inr more ↦ any_later (λ (q : Labelled). IsMain q.label × (q.datagram.dir ≡ dir)) p ps (any_main dir ps more)
]

any_stray : (peer : PeerId) (ps : Division) → strayed_from peer ps ≡ true → Any (λ (p : Labelled). (p.label ≡ Stray) × (peer_of p.datagram ≡ peer)) ps
any_stray peer [] e = absurd (false≢true e)
any_stray peer (p ∷ ps) e = elim (or_cases (is_stray p.label && same_peer (peer_of p.datagram) peer) (strayed_from peer ps) e) [
  | inl here ↦
      let parts = and_parts (is_stray p.label) (same_peer (peer_of p.datagram) peer) here in
      any_first (λ (q : Labelled). (q.label ≡ Stray) × (peer_of q.datagram ≡ peer)) p ps (stray_is p.label parts.0, is_same (peer_of p.datagram) peer parts.1)
  | inr more ↦ any_later (λ (q : Labelled). (q.label ≡ Stray) × (peer_of q.datagram ≡ peer)) p ps (any_stray peer ps more)
]

-- what is no request
other_goes : (header : Header) (ids : TransferIds) (earlier : Division) (d : Datagram)
    → (has_server_id header.named ids d && (same_dir d.dir (from_server header.named) || came (from_server header.named) earlier)) ≡ true
    → HasServerId header.named ids d × ((d.dir ≡ from_server header.named) ⊎ Any (λ (p : Labelled). p.datagram.dir ≡ from_server header.named) earlier)
other_goes header ids earlier d e =
    let parts = and_parts (has_server_id header.named ids d) (same_dir d.dir (from_server header.named) || came (from_server header.named) earlier) e in (
      server_is header.named ids d parts.0,
      elim (or_cases (same_dir d.dir (from_server header.named)) (came (from_server header.named) earlier) parts.1) [
        | inl now ↦ inl (dir_is d.dir (from_server header.named) now)
        | inr before ↦ inr (any_came (from_server header.named) earlier before)
      ],
    )

goes_is : (header : Header) (ids : TransferIds) (earlier : Division) (d : Datagram) (p : MachinePacket) → goes_to_server header ids earlier d p ≡ true → GoesToServer header ids earlier d p
goes_is header ids earlier d Req e =
    let parts = and_parts (server_port header.named d == header.service) (asks_host header.named ids d) e in
    (eqb-true (server_port header.named d) header.service parts.0, asks_is header.named ids d parts.1)
goes_is header ids earlier d _ e = other_goes header ids earlier d e

-- what is not, is false
not_is : (b : Bool) → not b ≡ true → b ≡ false
not_is true e = sym e
not_is false e = refl

none_else_asks : (header : Header) (ids : TransferIds) (d : Datagram) → no_other_asks header ids ≡ true → header.named ≡ Server → ids.own ≡ header.service → BeginsAsRequest d.payload → ⊥
none_else_asks header ids d e named own asks = elim (or_cases (not (same_end header.named Server)) (not (ids.own == header.service)) e) [
  | inl client ↦ false≢true (sym (not_is (same_end header.named Server) client) ∙ ap (λ x. same_end x Server) named)
  | inr elsewhere ↦ false≢true (sym (not_is (ids.own == header.service) elsewhere) ∙ eq-eqb ids.own header.service own)
]

label_is : (header : Header) (m : Meaning) (wire : List ℕ) (ids : TransferIds) (earlier : Division) (d : Datagram) (label : Label) → is_label header ids earlier d label ≡ true → SpellsAs (blksize_of m) m wire d label
    → HasLabel header m wire ids earlier d label
label_is header m wire ids earlier d (Main deed) e s =
    let a = and_parts (same_dir d.dir (dir_of deed)) (has_client_id header.named ids d && goes_to_server header ids earlier d (packet_of deed)) e in
    let b = and_parts (has_client_id header.named ids d) (goes_to_server header ids earlier d (packet_of deed)) a.1 in
    record {
      dir = dir_is d.dir (dir_of deed) a.0;
      client = client_is header.named ids d b.0;
      server = goes_is header ids earlier d (packet_of deed) b.1;
      spells = subst (Spells d.payload) (says_it m wire (packet_of deed)) s;
    }
label_is header m wire ids earlier d Stray e s =
    let a = and_parts (same_dir d.dir In) ((d.local == ids.own) && (not (same_peer (peer_of d) ids.peer) && (main_came (from_server header.named) earlier && no_other_asks header ids))) e in
    let b = and_parts (d.local == ids.own) (not (same_peer (peer_of d) ids.peer) && (main_came (from_server header.named) earlier && no_other_asks header ids)) a.1 in
    let c = and_parts (not (same_peer (peer_of d) ids.peer)) (main_came (from_server header.named) earlier && no_other_asks header ids) b.1 in
    let f = and_parts (main_came (from_server header.named) earlier) (no_other_asks header ids) c.1 in
    record {
      dir = dir_is d.dir In a.0;
      here = eqb-true d.local ids.own b.0;
      elsewhere = apart_is (peer_of d) ids.peer (not_is (same_peer (peer_of d) ids.peer) c.0);
      after = any_main (from_server header.named) earlier f.0;
      no_request = none_else_asks header ids d f.1;
    }
label_is header m wire ids earlier d StrayAnswer e s =
    let a = and_parts (same_dir d.dir Out) ((d.local == ids.own) && strayed_from (peer_of d) earlier) e in
    let b = and_parts (d.local == ids.own) (strayed_from (peer_of d) earlier) a.1 in
    record {
      dir = dir_is d.dir Out a.0;
      here = eqb-true d.local ids.own b.0;
      there = any_stray (peer_of d) earlier b.1;
      spells = s;
    }

labels_are : (header : Header) (m : Meaning) (wire : List ℕ) (ids : TransferIds) (ps : Division) → are_labels header ids ps ≡ true → AllSpellAs (blksize_of m) m wire ps → HaveLabels header m wire ids ps
labels_are header m wire ids [] e s = tt
labels_are header m wire ids (p ∷ ps) e s =
    let a = and_parts (is_label header ids ps p.datagram p.label) (are_labels header ids ps) e in
    (label_is header m wire ids ps p.datagram p.label a.0 s.0, labels_are header m wire ids ps a.1 s.1)

-- ---- and so they dress it

pub dressed_as : (header : Header) (m : Meaning) (wire : List ℕ) (b : ℕ) (ids : TransferIds) (division : Division) (view : History) (datagrams : List Datagram)
    → blksize_of m ≡ b → are_labels header ids division ≡ true → AllSpellAs b m wire division → datagrams_of division ≡ reverse datagrams → view_in division ≡ view
    → IsDressed header m wire view datagrams
dressed_as header m wire b ids division view datagrams size e s whole main_is = record {
  ids = ids;
  division = division;
  whole = whole;
  main = main_is;
  labels = labels_are header m wire ids division e (subst (λ n. AllSpellAs n m wire division) (sym size) s);
}

-- ---- and where all are main ones, that spell something

abbrev pub carried_of : List Spelled → List Carried
carried_of es = each (λ (e : Spelled). (e.0, deed_for e.0.dir e.1)) es

abbrev pub as_main : List Spelled → Division
as_main es = division_of (carried_of es)

-- those that came last spell what they say
abbrev pub all_say : ℕ → Meaning → List ℕ → List Spelled → Bool
all_say b m wire es = list_all (λ (e : Spelled). spells_it e.0.payload (says b m wire (packet_of (deed_for e.0.dir e.1)))) es

spell_more : (b : ℕ) (m : Meaning) (wire : List ℕ) (news base : List Spelled) → all_say b m wire news ≡ true → AllSpellAs b m wire (as_main base) → AllSpellAs b m wire (as_main (news ++ base))
spell_more b m wire [] base t s = s
spell_more b m wire (e ∷ news) base t s =
    let message = says b m wire (packet_of (deed_for e.0.dir e.1)) in
    let parts = and_parts (spells_it e.0.payload message) (all_say b m wire news) t in
    (spelled_it e.0.payload message parts.0, spell_more b m wire news base parts.1 s)

pub dressed_by : (header : Header) (m : Meaning) (wire : List ℕ) (b : ℕ) (ids : TransferIds) (news base : List Spelled) (view : History) (datagrams : List Datagram) → blksize_of m ≡ b
    → (are_labels header ids (as_main (news ++ base)) && all_say b m wire news) ≡ true → AllSpellAs b m wire (as_main base) → datagrams_of (as_main (news ++ base)) ≡ reverse datagrams → view_in (as_main (news ++ base)) ≡ view
    → IsDressed header m wire view datagrams
dressed_by header m wire b ids news base view datagrams size test s =
    let parts = and_parts (are_labels header ids (as_main (news ++ base))) (all_say b m wire news) test in
    dressed_as header m wire b ids (as_main (news ++ base)) view datagrams size parts.0 (spell_more b m wire news base parts.1 s)
