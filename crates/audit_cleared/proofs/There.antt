-- The labels at the client are labels between the ends, and so what is lawful at the client is lawful there.
use Rattle.std.proofs.Common.{◌≡◌, ℕ, List, [], ◌∷◌, Any, inl, inr, refl, sym, ap, subst, ◌∙◌, None}
use Rattle.std.specs.List.{AllByRecursion}
use Rattle.tftp_packet.specs.{End, Client, Server}
use Rattle.law_model.specs.Model.{Meaning, MachinePacket, Req, Took, Sent}
use Rattle.law_end.specs.{TransferIds, says_of}
use Rattle.law_end.specs.Dress.{Main, Stray, StrayAnswer}
use Rattle.law_end.proofs.Division.Divided.{any_none, any_cases, any_first, any_later}
use Rattle.audit_flows.specs.{Endpoint, Transfer}
use Rattle.law_tap.specs.{PeerId, TapDatagram, TapSides, side_of, TapLabelled, TapDivision, IsMainFrom, GoesThere, HasTapLabel, HaveTapLabels}
use Rattle.law_tap.specs.TapDress as tap
use Rattle.audit_views.specs.Parties.{host_name}
use Rattle.audit_recording.specs.Between.{passed_of, peer_of as side}
use Rattle.audit_cleared.proofs.Pairs.{Pair, placed_in, label_there, labelled_there, division_there}
use Rattle.audit_cleared.proofs.Told.{Came, StrayFrom, GoesOut, asking, going_on, answering, ComesIn, from_there, astray, Says, sent, taken, Told}
use Rattle.audit_cleared.proofs.Server.{IsNamedApart, not_from}

module _ (x : Transfer) (m : Meaning) (wire : List ℕ) (ids : TransferIds) (server : Endpoint) (asked : ids.asked ≡ host_name x.asked.address) (apart : side x.client ≡ side server → ⊥) where
  abbrev s : TapSides
  s = record { client = side x.client; asked = side x.asked; server = side server; rollover = None }

  -- where something came, a packet of the server's did
  answered_there : (pairs : List Pair) → Told x m wire ids pairs → Any (Came x) pairs → Any (λ p. IsMainFrom Server p.label) (division_there pairs)
  answered_there [] told any = absurd (any_none (Came x) any)
  answered_there (q ∷ earlier) told any = elim (any_cases (Came x) q earlier any) [
    | inl now ↦ by (λ source. not_from x q.placed now source) told.0 (answered_there earlier told.1)
    | inr before ↦ any_later (λ (p : TapLabelled). IsMainFrom Server p.label) (labelled_there q) (division_there earlier) (answered_there earlier told.1 before)
  ]
    where
      by : (q.placed.datagram.source ≡ x.client → ⊥) → Says x m wire ids earlier q → (Any (Came x) earlier → Any (λ p. IsMainFrom Server p.label) (division_there earlier)) → Any (λ p. IsMainFrom Server p.label) (division_there (q ∷ earlier))
      by other (sent source out) before = absurd (other source)
      by other (taken off to (from_there packet is from says)) before = any_first (λ (p : TapLabelled). IsMainFrom Server p.label) (labelled_there q) (division_there earlier) (packet, ap label_there is)
      by other (taken off to (astray is elsewhere after)) before = any_later (λ (p : TapLabelled). IsMainFrom Server p.label) (labelled_there q) (division_there earlier) (before after)

  -- a stray at the client is one there
  strays_there : (there : PeerId) (pairs : List Pair) → Any (StrayFrom x m wire ids there) pairs
      → Any (λ (p : TapLabelled). (p.label ≡ tap.Stray) × (p.datagram.source ≡ there) × (p.datagram.destination ≡ side x.client)) (division_there pairs)
  strays_there there [] any = absurd (any_none (StrayFrom x m wire ids there) any)
  strays_there there (q ∷ earlier) any = elim (any_cases (StrayFrom x m wire ids there) q earlier any) [
    | inl now ↦ any_first (λ (p : TapLabelled). (p.label ≡ tap.Stray) × (p.datagram.source ≡ there) × (p.datagram.destination ≡ side x.client)) (labelled_there q) (division_there earlier)
        (ap label_there now.0, now.2, ap side now.3)
    | inr before ↦ any_later (λ (p : TapLabelled). (p.label ≡ tap.Stray) × (p.datagram.source ≡ there) × (p.datagram.destination ≡ side x.client)) (labelled_there q) (division_there earlier)
        (strays_there there earlier before)
  ]

  -- ---- one label

  goes_on_there : (earlier : TapDivision) (d : TapDatagram) (p : MachinePacket) → (p ≡ Req → ⊥) → d.destination ≡ side server → Any (λ p. IsMainFrom Server p.label) earlier → GoesThere s earlier d Client p
  goes_on_there earlier d Req other to before = absurd (other refl)
  goes_on_there earlier d _ other to before = (to, before)

  abbrev IsThere : List Pair → Pair → Type 0
  IsThere earlier q = HasTapLabel s (says_of m wire) (division_there earlier) (passed_of q.placed.datagram) (label_there q.label)

  module _ (earlier : List Pair) (told : Told x m wire ids earlier) (q : Pair) where
    as_label : (label : _) → q.label ≡ label → HasTapLabel s (says_of m wire) (division_there earlier) (passed_of q.placed.datagram) (label_there label) → IsThere earlier q
    as_label label is has = subst (λ l. HasTapLabel s (says_of m wire) (division_there earlier) (passed_of q.placed.datagram) (label_there l)) (sym is) has

    out_there : (Any (Came x) earlier → side server ≡ ids.peer) → q.placed.datagram.source ≡ x.client → GoesOut x m wire ids earlier q.placed.datagram q.label → IsThere earlier q
    out_there known source (asking is port host says) = as_label (Main (Sent Req)) is (record {
      source = ap side source;
      goes = λ i. record { host = (host ∙ asked) i; port = port i };
      spells = says;
    })
    out_there known source (going_on packet is other to before says) = as_label (Main (Sent packet)) is (record {
      source = ap side source;
      goes = goes_on_there (division_there earlier) (passed_of q.placed.datagram) packet other (to ∙ sym (known before)) (answered_there earlier told before);
      spells = says;
    })
    out_there known source (answering is before text spells) = as_label StrayAnswer is (record {
      own = (Client, ap side source);
      there = subst (λ to. Any (λ (p : TapLabelled). (p.label ≡ tap.Stray) × (p.datagram.source ≡ side q.placed.datagram.target) × (p.datagram.destination ≡ to)) (division_there earlier))
          (ap side (sym source)) (strays_there (side q.placed.datagram.target) earlier before);
      spells = (text, spells);
    })

    in_there : (Any (Came x) (q ∷ earlier) → side server ≡ ids.peer) → IsNamedApart x q.placed → Came x q → q.placed.datagram.target ≡ x.client → ComesIn x m wire ids earlier q.placed.datagram q.label → IsThere earlier q
    in_there known named_apart off to (from_there packet is from says) = as_label (Main (Took packet)) is (record {
      source = from ∙ sym (known (any_first (Came x) q earlier off));
      goes = ap side to;
      spells = says;
    })
    in_there known named_apart off to (astray is elsewhere before) = as_label Stray is (record {
      elsewhere = not_end;
      here = (Client, ap side to);
      no_request = λ there. absurd (apart (sym (ap side to) ∙ there));
    })
      where
        not_end : (e : End) → side q.placed.datagram.source ≡ side_of s e → ⊥
        not_end Client same = named_apart off same
        not_end Server same = elsewhere (same ∙ known (any_later (Came x) q earlier before))

    there_by : (Any (Came x) (q ∷ earlier) → side server ≡ ids.peer) → IsNamedApart x q.placed → Says x m wire ids earlier q → IsThere earlier q
    there_by known named_apart (sent source out) = out_there (λ before. known (any_later (Came x) q earlier before)) source out
    there_by known named_apart (taken off to c) = in_there known named_apart off to c

  pub labels_there : (pairs : List Pair) → Told x m wire ids pairs → AllByRecursion (IsNamedApart x) (placed_in pairs) → (Any (Came x) pairs → side server ≡ ids.peer) → HaveTapLabels s (says_of m wire) (division_there pairs)
  labels_there [] told named_apart known = tt
  labels_there (q ∷ earlier) told named_apart known =
      (there_by earlier told.1 q known named_apart.0 told.0, labels_there earlier told.1 named_apart.1 (λ before. known (any_later (Came x) q earlier before)))
