-- A worked recording with a stray before the answer meets the premise, and its transfer is refused.
use Rattle.std.proofs.Common.{Contains, ◌≡◌, ◌<◌, ℕ, Bool, true, false, ◌==◌, ◌&&◌, ◌||◌, not, List, [], ◌∷◌, ◌++◌, codes, inl, inr, refl, sym, ap, ◌∙◌, map, reverse, arith, if◌then◌else◌}
use Rattle.std.specs.List.{AllByRecursion, list_all}
use Rattle.std.proofs.lemmas.Bool.{false≢true, and_parts, or_cases}
use Rattle.tftp_packet.specs.{Message, Spells}
use Rattle.tftp_packet.specs.Hosts.{Datagram, Header, PeerId, peer_of}
use Rattle.law_model.specs.Model.{Req, Data, Error, Sent, Took}
use Rattle.law_model.specs.Rules.{Route, route_of}
use Rattle.law_model.specs.{PortRule}
use Rattle.law_model.proofs.RulesLemmas.EndRules.{from_18}
use Rattle.law_end.specs.{Broken, Division, IsLawful, IsRefused, Main, OneEnded, Rule, Stray, TransferIds, number_of}
use Rattle.law_end.proofs.Division.Divided.{any_first, any_later}
use Rattle.law_end.proofs.FirstBroken.OneMessage.{agreement_from}
use Rattle.audit_flows.specs.Lines.{Recorded, other_of, same_endpoint}
use Rattle.audit_flows.specs.{Endpoint}
use Rattle.audit_flows.proofs.LinesLemmas.Endpoints.{same_itself}
use Rattle.audit_flows.specs.Transfers.{client, data_of, service}
use Rattle.audit_flows.specs.Transfers.Worked.{error_of, next_server, passes, requests, server}
use Rattle.audit_spared.specs.Spared.Seen.{as_seen_by, at_client_of, is_with}
use Rattle.audit_spared.specs.Spared.{AreIdle, AreStraysHere, IsIdle, IsStrayHere, goes_from, has_come}
use Rattle.audit_spared.specs.Spared.Worked.{ack_of_answer, begun_within, first_capture, is_late_block, is_of_before, late_block_first, one_client, own_name}
use Rattle.audit_spared.proofs.SparedLemmas.WorkedPremises.{at_one}
use Rattle.audit_spared.proofs.SparedLemmas.WorkedCaptures.{asks_it, is_asked, label, sends_block, stops_by, takes_block}
use Rattle.audit_spared.proofs.SparedLemmas.WorkedReads.{asked, came, error_5, error_spelled, g_spelled, shown}

-- ---- strays, by computation

module _ (strays : Recorded → Bool) (c : Endpoint) where
  abbrev pub is_behind : List Recorded → Recorded → Bool
  is_behind [] d = false
  is_behind (e ∷ k) d = not (goes_from c d) || has_come c d.target (e ∷ k)

  abbrev pub stands_apart : Recorded → Recorded → Bool
  stands_apart d e = not (same_endpoint (other_of c e) (other_of c d)) || (if strays d then strays e else not (strays e))

  abbrev pub are_apart : List Recorded → Bool
  are_apart [] = true
  are_apart (d ∷ k) = (not (strays d) || is_behind k d) && (list_all (stands_apart d) k && are_apart k)

  abbrev IsTold : Recorded → Type 0
  IsTold d = strays d ≡ true → goes_from c d ≡ true → (text : List ℕ) × Spells d.payload (Message.Error 5 text)

  stray_one : (k : List Recorded) (d : Recorded) → strays d ≡ true → IsTold d → is_behind k d ≡ true → IsStrayHere c k d
  stray_one [] d is told e = absurd (false≢true e)
  stray_one (r ∷ k) d is told e = record {
    behind = λ none. absurd (cc);
    told = λ from. (
      told is from,
      elim (or_cases (not (goes_from c d)) (has_come c d.target (r ∷ k)) e) [
        | inl off ↦ absurd (false≢true (sym (ap not from) ∙ off))
        | inr heard ↦ heard
      ],
    );
  }

  same_marks : (a b : Bool) → (if b then a else not a) ≡ true → a ≡ b
  same_marks true true is = refl
  same_marks true false is = absurd (false≢true is)
  same_marks false true is = absurd (false≢true is)
  same_marks false false is = refl

  apart_one : (d e : Recorded) → stands_apart d e ≡ true → other_of c e ≡ other_of c d → strays e ≡ strays d
  apart_one d e is same = elim (or_cases (not (same_endpoint (other_of c e) (other_of c d))) (if strays d then strays e else not (strays e)) is) [
    | inl off ↦ absurd (false≢true (sym (ap not (ap (λ o. same_endpoint o (other_of c d)) same ∙ same_itself (other_of c d))) ∙ off))
    | inr marks ↦ same_marks (strays e) (strays d) marks
  ]

  apart_all : (d : Recorded) (k : List Recorded) → list_all (stands_apart d) k ≡ true → AllByRecursion (λ e. other_of c e ≡ other_of c d → strays e ≡ strays d) k
  apart_all d [] e = tt
  apart_all d (r ∷ k) e = let parts = and_parts (stands_apart d r) (list_all (stands_apart d) k) e in (apart_one d r parts.0, apart_all d k parts.1)

  pub apart_by : (k : List Recorded) → AllByRecursion IsTold k → are_apart k ≡ true → AreStraysHere strays c k
  apart_by [] told e = tt
  apart_by (d ∷ k) told e =
      let parts = and_parts (not (strays d) || is_behind k d) (list_all (stands_apart d) k && are_apart k) e in
      let more = and_parts (list_all (stands_apart d) k) (are_apart k) parts.1 in (
        λ is. stray_one k d is told.0 (elim (or_cases (not (strays d)) (is_behind k d) parts.0) [
          | inl off ↦ absurd (false≢true (sym (ap not is) ∙ off))
          | inr behind ↦ behind
        ]),
        apart_all d k more.0,
        apart_by k told.1 more.1,
      )

-- ---- a refusal by the third rule of the ports

before_three : (P : Rule → Type 0) → (P (Rule.Port PortRule.Foreign) → ⊥) → (P (Rule.Port PortRule.Wrong) → ⊥) → (q : Rule) → number_of q < 3 → P q → ⊥
before_three P none other (Rule.Port PortRule.Foreign) low is = none is
before_three P none other (Rule.Port PortRule.Wrong) low is = other is
before_three P none other (Rule.Port PortRule.BadAnswer) low is = absurd (omega arith)
before_three P none other (Rule.Agreement r) low is = let high = agreement_from r in absurd (omega (arith, high, low))
before_three P none other (Rule.Block r) low is = let high = from_18 r in absurd (omega (arith, high, low))
before_three P none other (Rule.Malformed fault) low is = absurd (omega arith)
before_three P none other Rule.NoRequest low is = absurd (omega arith)
before_three P none other Rule.WrongKind low is = absurd (omega arith)
before_three P none other Rule.AfterError low is = absurd (omega arith)
before_three P none other Rule.RequestChanged low is = absurd (omega arith)
before_three P none other Rule.RequestAfterStart low is = absurd (omega arith)
before_three P none other Rule.ReplyChanged low is = absurd (omega arith)
before_three P none other Rule.OackChanged low is = absurd (omega arith)
before_three P none other Rule.OackAfterStart low is = absurd (omega arith)

pub bad_answer : (h : Header) (earlier : List Datagram) (d : Datagram) → OneEnded h earlier → route_of h earlier d ≡ Route.NoStrayAnswer → IsRefused h earlier d (Rule.Port PortRule.BadAnswer)
bad_answer h earlier d lawful route = record {
  lawful = lawful;
  broken = (
    inl route,
    before_three (Broken h earlier d)
        (λ is. let both : Route.NoStrayAnswer ≡ Route.ForeignPort = sym route ∙ is in absurd (cc))
        (λ is. let both : Route.NoStrayAnswer ≡ Route.WrongPort = sym route ∙ is in absurd (cc)),
  );
}

-- ---- a request, the late block, what it is told, and the answer

abbrev late_ids : TransferIds
late_ids = record { own = 40000; peer = record { host = own_name server.address; port = 41000 }; asked = own_name service.address }

abbrev late_0 : Division
late_0 = label (as_seen_by own_name client (requests 7 client service (codes "g"))) (Main (Sent Req)) ∷ []

abbrev late_1 : Division
late_1 = label (as_seen_by own_name client (passes 7 server client (data_of 1))) (Main (Took (Data 1))) ∷ late_0

abbrev late_2 : Division
late_2 = label (as_seen_by own_name client (passes 8 client server (error_of 5))) (Main (Sent (Error 5 []))) ∷ late_1

abbrev late_3 : Division
late_3 = label (as_seen_by own_name client (passes 8 next_server client (data_of 1))) (Stray) ∷ late_2

late_apart : peer_of (as_seen_by own_name client (passes 8 next_server client (data_of 1))) ≡ late_ids.peer → ⊥
late_apart is = false≢true (ap (λ (p : PeerId). p.port == late_ids.peer.port) is)

abbrev pub late_second : List Recorded
late_second =
    passes 8 next_server client (data_of 1)
    ∷ passes 8 client server (error_of 5)
    ∷ passes 7 server client (data_of 1)
    ∷ requests 7 client service (codes "g")
    ∷ []

pub late_lawful : IsLawful (at_client_of 69) (map (as_seen_by own_name client) (reverse late_second))
late_lawful = shown (codes "g") (at_client_of 69) late_ids (stops_by 5 ∷ takes_block ∷ sends_block ∷ is_asked ∷ asks_it ∷ []) late_3 (map (as_seen_by own_name client) (reverse late_second)) refl refl refl (
  record { dir = refl; here = refl; elsewhere = late_apart; after = any_later _ _ late_1 (any_first _ _ late_0 ((Took (Data 1), refl), refl)); no_request = λ is. absurd (cc) },
  (
    record { dir = refl; client = refl; server = (refl, inr (any_first _ _ late_0 refl)); spells = error_spelled },
    (
      came (codes "g") g_spelled late_ids late_0 (as_seen_by own_name client (passes 7 server client (data_of 1))) refl refl refl refl,
      (asked (codes "g") g_spelled late_ids [] (as_seen_by own_name client (requests 7 client service (codes "g"))) refl refl refl refl refl, tt),
    ),
  ),
)

-- the strays of both captures

pub late_apart_all : AreStraysHere is_late_block client (ack_of_answer ∷ late_second)
late_apart_all = apart_by is_late_block client (ack_of_answer ∷ late_second)
    ((λ is from. absurd (false≢true is)), ((λ is from. absurd (false≢true is)), ((λ is from. error_5), ((λ is from. absurd (false≢true from)), ((λ is from. absurd (false≢true is)), tt))))) refl

pub first_apart_all : AreStraysHere is_late_block client first_capture
first_apart_all = apart_by is_late_block client first_capture
    ((λ is from. absurd (false≢true is)), ((λ is from. absurd (false≢true is)), ((λ is from. absurd (false≢true is)), ((λ is from. absurd (false≢true is)), ((λ is from. absurd (false≢true is)), ((λ is from. absurd (false≢true is)), tt)))))) refl

-- what is of before passes with this client alone
not_idle : (d : Recorded) → is_of_before d ≡ false → is_of_before d ≡ true → (c : Endpoint) → Contains one_client c → is_with c d ≡ true → (before : List Recorded) → IsIdle is_of_before one_client c before d
not_idle d off is c there with before = absurd (false≢true (sym off ∙ is))

first_idle : IsIdle is_of_before one_client client [] (passes 0 next_server client (data_of 3))
first_idle = record { plain = refl; alone = tt; apart = λ e there with. at_one (λ x. client ≡ x) client e refl there }

idles_more : (d : Recorded) (ds : List Recorded) → is_of_before d ≡ false → AreIdle is_of_before one_client ds → AreIdle is_of_before one_client (d ∷ ds)
idles_more d ds off idles = ((λ is c there with. not_idle d off is c there with ds), idles)

all_idles : (ds : List Recorded) → list_all (λ d. not (is_of_before d)) ds ≡ true → AreIdle is_of_before one_client (ds ++ passes 0 next_server client (data_of 3) ∷ [])
all_idles [] e = ((λ is c there with. at_one (λ x. IsIdle is_of_before one_client x [] (passes 0 next_server client (data_of 3))) client c first_idle there), tt)
all_idles (d ∷ ds) e =
    let parts = and_parts (not (is_of_before d)) (list_all (λ r. not (is_of_before r)) ds) e in
    idles_more d (ds ++ passes 0 next_server client (data_of 3) ∷ []) (turned (is_of_before d) parts.0) (all_idles ds parts.1)
  where
    turned : (b : Bool) → not b ≡ true → b ≡ false
    turned true is = absurd (false≢true is)
    turned false is = refl

pub late_idle : AreIdle is_of_before one_client (ack_of_answer ∷ begun_within)
late_idle = all_idles (ack_of_answer ∷ late_block_first) refl
