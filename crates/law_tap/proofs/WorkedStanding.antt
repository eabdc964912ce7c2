-- The worked recordings at an end of which a refusal stands, and those of which none does.
use Rattle.std.proofs.Common.{◌≡◌, ◌<◌, List, [], ◌∷◌, Any, Some, None, inl, inr, refl, sym, subst, ap, ◌∙◌, arith, codes, reverse}
use Rattle.tftp_packet.specs.{Message, PacketFault, Spells, Short, Client, Server, In, Out, number as fault_number}
use Rattle.tftp_packet.specs.Hosts.{Datagram, Header, PeerId, peer_of}
use Rattle.tftp_packet.proofs.NoFault.{no_fault}
use Rattle.law_model.specs.Model.{request_of, blksize_of, block, Sent, Took, MachinePacket, Req, Data, Ack, Error, History, HasSent, IsView, two_bytes, two_bytes_view}
use Rattle.law_model.specs.Rules.{Route, asks, first_of, route_of}
use Rattle.law_model.specs.{PortRule}
use Rattle.law_model.proofs.ModelLemmas.Moments.{earlier_view}
use Rattle.law_model.proofs.ModelLemmas.MadeRuns.{one_sided_view}
use Rattle.law_model.proofs.ModelLemmas.OneSided.{view_one_sided}
use Rattle.law_model.proofs.ModelLemmas.Members.{contains_cases, contains_none}
use Rattle.law_model.proofs.ModelLemmas.Defaults.{default_blksize}
use Rattle.law_model.proofs.ModelLemmas.Worked.{two_bytes_is_view}
use Rattle.law_model.proofs.RulesLemmas.EndRules.{from_18}
use Rattle.law_end.specs.{Broken, Division, HaveLabels, IsLawful, IsMain, IsRefused, Labelled, Main, OneEnded, Rule, Stray, TransferIds, from_server, number_of}
use Rattle.law_end.specs.Dress.{StrayAnswer}
use Rattle.law_end.proofs.Spelled.{spelled_once}
use Rattle.law_end.proofs.Completeness.RunsBreakNoRule.{run_keeps}
use Rattle.law_end.proofs.FirstBroken.OneMessage.{agreement_from}
use Rattle.law_end.proofs.Division.Divided.{any_cases, any_first, any_later, any_none}
use Rattle.law_end.proofs.Whole.NothingAgreed.{two_bytes_fit}
use Rattle.law_tap.specs.Losses.{nothing, kept, lost, IsFirstCertain, IsLawfulWithLosses}
use Rattle.law_tap.specs.StandingAtEnd.{GoesOnWith, IsForOtherEnd, KnowsOtherEnd}
use Rattle.law_tap.specs.WorkedLosses.{ack_in, ack_out, at_client, hi_back, hi_in, odd_in, other_in, request_out, unknown_out}
use Rattle.law_tap.proofs.Certain.{lawful_lossy}
use Rattle.law_tap.proofs.EndStands.{known_is_certain, own_is_certain}
use Rattle.law_tap.proofs.WorkedLosses.{ack_says, hi_says, request_says}

-- ---- the first rule that is broken is rule 6

module _ (h : Header) (earlier : List Datagram) (d : Datagram) (n : Message) (says : Spells d.payload n) (r : Datagram) (some : first_of (asks h) earlier ≡ Some r) (is : route_of h earlier d ≡ Route.Peer) where
  none_below_6 : (other : Rule) → number_of other < 6 → Broken h earlier d other → ⊥
  none_below_6 (Rule.Port PortRule.Foreign) low b = let both : Route.Peer ≡ Route.ForeignPort = sym is ∙ b in absurd (cc)
  none_below_6 (Rule.Port PortRule.Wrong) low b = let both : Route.Peer ≡ Route.WrongPort = sym is ∙ b in absurd (cc)
  none_below_6 (Rule.Port PortRule.BadAnswer) low (inl b) = let both : Route.Peer ≡ Route.NoStrayAnswer = sym is ∙ b in absurd (cc)
  none_below_6 (Rule.Port PortRule.BadAnswer) low (inr b) = let both : Route.Peer ≡ Route.StrayAnswer = sym is ∙ b.0 in absurd (cc)
  none_below_6 Rule.NoRequest low b = let none : Some r ≡ None = sym some ∙ b.0 in absurd (cc)
  none_below_6 (Rule.Malformed fault) low b = no_fault d.payload n fault says.1 b.1.0
  none_below_6 (Rule.Agreement broken) low b = absurd (omega (arith, low, agreement_from broken))
  none_below_6 (Rule.Block e) low b = absurd (omega (arith, low, from_18 e))
  none_below_6 _ low b = absurd (omega (arith, low))

-- ---- what is lawful at the client

abbrev ids : TransferIds
ids = record { own = 40000; peer = record { host = codes "10.0.0.1"; port = 41000 }; asked = codes "10.0.0.1" }

abbrev asked : Division
asked = record { datagram = request_out; label = Main (Sent Req) } ∷ []

abbrev answered : Division
answered = record { datagram = hi_in; label = Main (Took (Data 1)) } ∷ asked

abbrev acknowledged : Division
acknowledged = record { datagram = ack_out; label = Main (Sent (Ack 1)) } ∷ answered

hi_is_block : Spells hi_in.payload (Message.Data 1 (block (blksize_of two_bytes) two_bytes.file 1))
hi_is_block = subst (λ b. Spells hi_in.payload (Message.Data 1 (block b two_bytes.file 1))) (sym (default_blksize two_bytes refl)) hi_says

asked_labels : HaveLabels at_client two_bytes two_bytes.file ids asked
asked_labels = (record { dir = refl; client = refl; server = (refl, λ named. refl); spells = request_says }, tt)

answered_labels : HaveLabels at_client two_bytes two_bytes.file ids answered
answered_labels = (record { dir = refl; client = refl; server = (refl, inl refl); spells = hi_is_block }, asked_labels)

came : Any (λ (p : Labelled). p.datagram.dir ≡ from_server Client) answered
came = any_first (λ (p : Labelled). p.datagram.dir ≡ from_server Client) (record { datagram = hi_in; label = Main (Took (Data 1)) }) asked refl

acknowledged_labels : HaveLabels at_client two_bytes two_bytes.file ids acknowledged
acknowledged_labels = (record { dir = refl; client = refl; server = (refl, inr came); spells = ack_says }, answered_labels)

abbrev answered_view : History
answered_view = Took (Data 1) ∷ Sent Req ∷ []

answered_is_view : IsView two_bytes two_bytes.file Client answered_view
answered_is_view = earlier_view two_bytes two_bytes.file Client (Sent (Ack 1)) answered_view two_bytes_is_view

answered_lawful : IsLawful at_client (request_out ∷ hi_in ∷ [])
answered_lawful = (
  two_bytes,
  two_bytes.file,
  record {
    fits = two_bytes_fit None;
    view = answered_view;
    run = answered_is_view;
    dressed = record { ids = ids; division = answered; whole = refl; main = refl; labels = answered_labels };
  },
)

acknowledged_lawful : IsLawful at_client (request_out ∷ hi_in ∷ ack_out ∷ [])
acknowledged_lawful = (
  two_bytes,
  two_bytes.file,
  record {
    fits = two_bytes_fit None;
    view = two_bytes_view;
    run = two_bytes_is_view;
    dressed = record { ids = ids; division = acknowledged; whole = refl; main = refl; labels = acknowledged_labels };
  },
)

passes : (datagrams : List Datagram) → IsLawful at_client datagrams → OneEnded at_client (reverse datagrams)
passes datagrams lawful = let (m, wire, seen) = lawful in (run_keeps at_client m wire datagrams seen).0

-- ---- certain: the client of a read sends a block, and the server an ACK

pub block_refused : IsRefused at_client (hi_in ∷ request_out ∷ []) hi_back Rule.WrongKind
block_refused = record {
  lawful = passes (request_out ∷ hi_in ∷ []) answered_lawful;
  broken = (
    record {
      message = Message.Data 1 (block 512 two_bytes.file 1);
      says = record { routed = refl; spells = hi_says };
      asked = request_of two_bytes;
      first = (request_out, refl, request_says);
      breaks = inl (refl, tt);
    },
    none_below_6 at_client (hi_in ∷ request_out ∷ []) hi_back (Message.Data 1 (block 512 two_bytes.file 1)) hi_says request_out refl refl,
  );
}

pub block_certain : IsFirstCertain at_client (request_out ∷ hi_in ∷ hi_back ∷ []) 2
block_certain = record {
  certain = own_is_certain at_client [] (hi_in ∷ request_out ∷ []) hi_back Rule.WrongKind block_refused refl tt;
  lawful = lawful_lossy at_client (request_out ∷ hi_in ∷ []) answered_lawful;
}

pub ack_refused : IsRefused at_client (ack_out ∷ hi_in ∷ request_out ∷ []) ack_in Rule.WrongKind
ack_refused = record {
  lawful = passes (request_out ∷ hi_in ∷ ack_out ∷ []) acknowledged_lawful;
  broken = (
    record {
      message = Message.Ack 1;
      says = record { routed = refl; spells = ack_says };
      asked = request_of two_bytes;
      first = (request_out, refl, request_says);
      breaks = inl (refl, tt);
    },
    none_below_6 at_client (ack_out ∷ hi_in ∷ request_out ∷ []) ack_in (Message.Ack 1) ack_says request_out refl refl,
  );
}

pub ack_known : KnowsOtherEnd at_client (ack_in ∷ ack_out ∷ hi_in ∷ request_out ∷ [])
ack_known = inr (any_later GoesOnWith ack_in (ack_out ∷ hi_in ∷ request_out ∷ [])
    (any_first GoesOnWith ack_out (hi_in ∷ request_out ∷ []) (record { out = refl; message = Message.Ack 1; says = ack_says; alone = tt })))

pub ack_certain : IsFirstCertain at_client (request_out ∷ hi_in ∷ ack_out ∷ ack_in ∷ []) 3
ack_certain = record {
  certain = known_is_certain at_client [] (ack_out ∷ hi_in ∷ request_out ∷ []) ack_in Rule.WrongKind ack_refused tt ack_known;
  lawful = lawful_lossy at_client (request_out ∷ hi_in ∷ ack_out ∷ []) acknowledged_lawful;
}

-- ---- not certain: what came from who may be a stray

apart_ports : record { host = codes "10.0.0.1"; port = 42000 } ≡ ids.peer → ⊥
apart_ports e = let ports : 42000 ≡ 41000 = ap (λ (p : PeerId). p.port) e in absurd (omega (arith, ports))

came_main : Any (λ (p : Labelled). IsMain p.label × (p.datagram.dir ≡ from_server Client)) answered
came_main = any_first (λ (p : Labelled). IsMain p.label × (p.datagram.dir ≡ from_server Client)) (record { datagram = hi_in; label = Main (Took (Data 1)) }) asked ((Took (Data 1), refl), refl)

odd_lawful : IsLawful at_client (request_out ∷ hi_in ∷ odd_in ∷ [])
odd_lawful = (
  two_bytes,
  two_bytes.file,
  record {
    fits = two_bytes_fit None;
    view = answered_view;
    run = answered_is_view;
    dressed = record {
      ids = ids;
      division = record { datagram = odd_in; label = Stray } ∷ answered;
      whole = refl;
      main = refl;
      labels = (record { dir = refl; here = refl; elsewhere = apart_ports; after = came_main; no_request = λ named. absurd (cc) }, answered_labels);
    };
  },
)

pub odd_lossy : IsLawfulWithLosses at_client (request_out ∷ odd_in ∷ [])
odd_lossy = record { all = request_out ∷ hi_in ∷ odd_in ∷ []; lawful = odd_lawful; left = kept request_out _ _ (lost hi_in _ _ (kept odd_in _ _ nothing)) }

-- no fault has a lower number
none_first : (fault : PacketFault) → fault_number fault < 1 → ⊥
none_first PacketFault.Short low = omega (arith, low)
none_first PacketFault.Opcode low = omega (arith, low)
none_first PacketFault.AckLength low = omega (arith, low)
none_first PacketFault.NoTerminator low = omega (arith, low)
none_first PacketFault.OddOptions low = omega (arith, low)
none_first PacketFault.EmptyOptionName low = omega (arith, low)
none_first PacketFault.DuplicateOption low = omega (arith, low)
none_first PacketFault.UnknownMode low = omega (arith, low)
none_first PacketFault.MailMode low = omega (arith, low)
none_first PacketFault.RequestTooLong low = omega (arith, low)

pub odd_broken : Broken at_client (request_out ∷ []) odd_in (Rule.Malformed Short)
odd_broken = (refl, (inl (omega arith), λ other low holds. none_first other low))

no_more : Any GoesOnWith [] → ⊥
no_more any = any_none GoesOnWith any

not_in : (d : Datagram) → d.dir ≡ In → GoesOnWith d → ⊥
not_in d is on = let both : In ≡ Out = sym is ∙ on.out in absurd (cc)

not_said : (d : Datagram) (n : Message) → Spells d.payload n → (IsForOtherEnd n → ⊥) → GoesOnWith d → ⊥
not_said d n says none on = none (subst IsForOtherEnd (spelled_once d.payload on.message n on.says says) on.alone)

any_of : (d : Datagram) (seen : List Datagram) → (GoesOnWith d → ⊥) → (Any GoesOnWith seen → ⊥) → Any GoesOnWith (d ∷ seen) → ⊥
any_of d seen not_this none any = elim (any_cases GoesOnWith d seen any) [ inl now ↦ not_this now | inr before ↦ none before ]

unknown : (seen : List Datagram) → (Any GoesOnWith seen → ⊥) → KnowsOtherEnd at_client seen → ⊥
unknown seen none (inl server) = let both : Client ≡ Server = server in absurd (cc)
unknown seen none (inr any) = none any

not_asking : GoesOnWith request_out → ⊥
not_asking = not_said request_out (Message.Request (request_of two_bytes)) request_says (λ alone. alone)

pub odd_unknown : KnowsOtherEnd at_client (odd_in ∷ request_out ∷ []) → ⊥
odd_unknown = unknown (odd_in ∷ request_out ∷ []) (any_of odd_in (request_out ∷ []) (not_in odd_in refl) (any_of request_out [] not_asking no_more))

-- ---- not certain: a request after an ERROR 5

unknown_says : Spells unknown_out.payload (Message.Error 5 [])
unknown_says = ((omega arith, (omega arith, (omega arith, (omega arith, (omega arith, tt))))), (0, 5, (omega arith, omega arith, refl), tt, refl))

abbrev strayed : Division
strayed = record { datagram = other_in; label = Stray } ∷ answered

abbrev told_off : Division
told_off = record { datagram = unknown_out; label = StrayAnswer } ∷ strayed

none_sent : (p : MachinePacket) → (Req ≡ p → ⊥) → HasSent answered_view p → ⊥
none_sent p other at = elim (contains_cases (Took (Data 1)) (Sent Req ∷ []) (Sent p) at) [
  | inl now ↦ absurd (cc)
  | inr past ↦ elim (contains_cases (Sent Req) [] (Sent p) past) [ inl now ↦ other (cc) | inr none ↦ contains_none (Sent p) none ]
]

asks_again : IsView two_bytes two_bytes.file Client (Sent Req ∷ answered_view)
asks_again = one_sided_view two_bytes two_bytes.file Client (Sent Req ∷ answered_view) (
  record {
    client = refl;
    no_error = λ code text at. none_sent (Error code text) (λ e. cc) at;
    no_data = λ k at. none_sent (Data k) (λ e. cc) at;
    no_ack = λ j at. none_sent (Ack j) (λ e. cc) at;
  },
  view_one_sided two_bytes two_bytes.file Client answered_view answered_is_view,
)

again_lawful : IsLawful at_client (request_out ∷ hi_in ∷ other_in ∷ unknown_out ∷ request_out ∷ [])
again_lawful = (
  two_bytes,
  two_bytes.file,
  record {
    fits = two_bytes_fit None;
    view = Sent Req ∷ answered_view;
    run = asks_again;
    dressed = record {
      ids = ids;
      division = record { datagram = request_out; label = Main (Sent Req) } ∷ told_off;
      whole = refl;
      main = refl;
      labels = (
        record { dir = refl; client = refl; server = (refl, λ named. refl); spells = request_says },
        (
          record { dir = refl; here = refl; there = any_first (λ (p : Labelled). (p.label ≡ Stray) × (peer_of p.datagram ≡ peer_of unknown_out)) (record { datagram = other_in; label = Stray }) answered (refl, refl); spells = ([], unknown_says) },
          (record { dir = refl; here = refl; elsewhere = apart_ports; after = came_main; no_request = λ named. absurd (cc) }, answered_labels),
        ),
      );
    };
  },
)

pub again_lossy : IsLawfulWithLosses at_client (request_out ∷ other_in ∷ unknown_out ∷ request_out ∷ [])
again_lossy = record {
  all = request_out ∷ hi_in ∷ other_in ∷ unknown_out ∷ request_out ∷ [];
  lawful = again_lawful;
  left = kept request_out _ _ (lost hi_in _ _ (kept other_in _ _ (kept unknown_out _ _ (kept request_out _ _ nothing))));
}

pub again_broken : Broken at_client (unknown_out ∷ other_in ∷ request_out ∷ []) request_out Rule.AfterError
again_broken = record {
  message = Message.Request (request_of two_bytes);
  says = record { routed = refl; spells = request_says };
  asked = request_of two_bytes;
  first = (request_out, refl, request_says);
  breaks = inr (inl (refl, (Message.Error 5 [], (5, [], refl), inl (refl, unknown_says), (λ e. cc), inl refl)));
}

pub again_unknown : KnowsOtherEnd at_client (request_out ∷ unknown_out ∷ other_in ∷ request_out ∷ []) → ⊥
again_unknown = unknown (request_out ∷ unknown_out ∷ other_in ∷ request_out ∷ [])
    (any_of request_out (unknown_out ∷ other_in ∷ request_out ∷ []) not_asking
    (any_of unknown_out (other_in ∷ request_out ∷ []) (not_said unknown_out (Message.Error 5 []) unknown_says (λ alone. alone refl))
    (any_of other_in (request_out ∷ []) (not_in other_in refl) (any_of request_out [] not_asking no_more))))
