-- What one more datagram does to what the judge keeps.
use Rattle.std.proofs.Common.{◌≡◌, ◌⊎◌, ◌<◌, Bool, true, false, List, [], ◌∷◌, Option, Some, None, Ok, Err, inl, inr, refl, sym, subst, ap, ◌∙◌, arith, ◌&&◌, ◌==◌, ◌≢◌, Result, OnOk, if◌then◌else◌}
use Rattle.std.proofs.lemmas.Bool.{false≢true}
use Rattle.tftp_packet.specs.{Message, RequestParts, Spells}
use Rattle.tftp_packet.specs.Hosts.{Datagram, Header}
use Rattle.tftp_packet.specs.{Dir}
use Rattle.tftp_ends.specs.{KnownIds, StandsFor, HasNoRequest, IsNewStray, among_all, answer_of, Route as MayPass, PortFault}
use Rattle.law_model.specs.Rules.{Route, asks, first_of, or_this, begins_request, is_from_client, port_of_server, route_of, is_of_transfer, transfer_of, SaysUnknownId, PortBroken}
use Rattle.law_model.specs.{PortRule}
use Rattle.tftp_ends.specs.declared.route.Route.TheVariants as may
use Rattle.tftp_ends.proofs.KeptSteps.{passing_is}
use Rattle.law_end.specs.{OneEnded, Passes, number_of, Broken, FirstAsked, FirstBroken, Rule, MessageBreaks}
use Rattle.law_model.proofs.RulesLemmas.EndRules.{from_18}
use Rattle.law_end.proofs.FirstBroken.OneMessage.{agreement_from}
use Rattle.law_end.proofs.FirstBroken.FirstRequests.{before_is, asks_is, first_stays}
use Rattle.law_end.proofs.FirstBroken.OneMessage.{first_by, lawful_by}
use Rattle.tftp_judge.specs.{Finds, FindsOf, error_by_port, PassError, JudgeState, Transfer, HasKept, IsKept, IsTransferAfter}
use Rattle.tftp_judge.proofs.PassFound.{off_passes, main_passes, first_lawful}

-- ---- routes

pub transfer_kept : (h : Header) (earlier : List Datagram) (d : Datagram) → is_of_transfer (route_of h earlier d) ≡ true → transfer_of h (d ∷ earlier) ≡ d ∷ transfer_of h earlier
transfer_kept h earlier d is = ap (λ b. if b then d ∷ transfer_of h earlier else transfer_of h earlier) is

pub transfer_same : (h : Header) (earlier : List Datagram) (d : Datagram) → is_of_transfer (route_of h earlier d) ≡ false → transfer_of h (d ∷ earlier) ≡ transfer_of h earlier
transfer_same h earlier d is = ap (λ b. if b then d ∷ transfer_of h earlier else transfer_of h earlier) is

-- a route that may pass breaks no rule of ports, but what answers a stray may
passing_by : (r : MayPass) → (among_all r ≡ Route.ForeignPort → ⊥) × (among_all r ≡ Route.WrongPort → ⊥) × (among_all r ≡ Route.NoStrayAnswer → ⊥)
passing_by may.Request = (λ x. cc, λ x. cc, λ x. cc)
passing_by _ = (λ x. cc, λ x. cc, λ x. cc)

pub peer_is : (r : MayPass) → among_all r ≡ Route.Peer → r ≡ may.Peer
peer_is may.Peer e = refl
peer_is _ e = absurd (cc)

-- ---- the first rules

low_rule : (r : Rule) → number_of r < 3 → (r ≡ Rule.Port PortRule.Foreign) ⊎ (r ≡ Rule.Port PortRule.Wrong)
low_rule (Rule.Port PortRule.Foreign) low = inl refl
low_rule (Rule.Port PortRule.Wrong) low = inr refl
low_rule (Rule.Agreement broken) low = absurd (omega (arith, low, agreement_from broken))
low_rule (Rule.Block e) low = absurd (omega (arith, low, from_18 e))
low_rule _ low = absurd (omega arith)

module _ (h : Header) (earlier : List Datagram) (d : Datagram) where
  foreign_first : route_of h earlier d ≡ Route.ForeignPort → FirstBroken h earlier d (Rule.Port PortRule.Foreign)
  foreign_first is = (is, below) where
    below : (other : Rule) → number_of other < 1 → Broken h earlier d other → ⊥
    below other low b = elim (low_rule other (omega arith)) [
      | inl same ↦ let n = ap number_of same in omega arith
      | inr same ↦ let n = ap number_of same in omega arith
    ]

  wrong_first : route_of h earlier d ≡ Route.WrongPort → FirstBroken h earlier d (Rule.Port PortRule.Wrong)
  wrong_first is = (is, below) where
    below : (other : Rule) → number_of other < 2 → Broken h earlier d other → ⊥
    below other low b = elim (low_rule other (omega arith)) [
      | inl same ↦ let at : route_of h earlier d ≡ Route.ForeignPort = subst (Broken h earlier d) same b in absurd (cc)
      | inr same ↦ let n = ap number_of same in omega arith
    ]

  pub stray_first : PortBroken h earlier d PortRule.BadAnswer → FirstBroken h earlier d (Rule.Port PortRule.BadAnswer)
  stray_first is = (is, below) where
    at : (r : Route) → (r ≡ Route.NoStrayAnswer) ⊎ (r ≡ Route.StrayAnswer) → (r ≡ Route.ForeignPort → ⊥) × (r ≡ Route.WrongPort → ⊥)
    at r (inl e) = (λ x. cc, λ x. cc)
    at r (inr e) = (λ x. cc, λ x. cc)

    one_of : (route_of h earlier d ≡ Route.NoStrayAnswer) ⊎ (route_of h earlier d ≡ Route.StrayAnswer)
    one_of = elim is [ inl none ↦ inl none | inr bad ↦ inr bad.0 ]

    below : (other : Rule) → number_of other < 3 → Broken h earlier d other → ⊥
    below other low b = elim (low_rule other low) [
      | inl same ↦ (at (route_of h earlier d) one_of).0 (subst (Broken h earlier d) same b)
      | inr same ↦ (at (route_of h earlier d) one_of).1 (subst (Broken h earlier d) same b)
    ]

  -- a fault tells the rule
  port_first_by : (r : Route) → route_of h earlier d ≡ r → (fault : PortFault) → Err fault ≡ answer_of r → (rule : Rule) → (After : Type 0) → FindsOf h earlier d After (Err (error_by_port fault))
  port_first_by Route.Request is fault e rule After = absurd (cc)
  port_first_by Route.Peer is fault e rule After = absurd (cc)
  port_first_by Route.Stray is fault e rule After = absurd (cc)
  port_first_by Route.StrayAnswer is fault e rule After = absurd (cc)
  port_first_by Route.ForeignPort is fault e rule After = let same : PortFault.Broken PortRule.Foreign ≡ fault = cc in subst (λ f. FindsOf h earlier d After (Err (error_by_port f))) same (foreign_first is)
  port_first_by Route.WrongPort is fault e rule After = let same : PortFault.Broken PortRule.Wrong ≡ fault = cc in subst (λ f. FindsOf h earlier d After (Err (error_by_port f))) same (wrong_first is)
  port_first_by Route.NoStrayAnswer is fault e rule After = let same : PortFault.Broken PortRule.BadAnswer ≡ fault = cc in subst (λ f. FindsOf h earlier d After (Err (error_by_port f))) same (stray_first (inl is))

  pub port_first : (fault : PortFault) (After : Type 0) → Err fault ≡ answer_of (route_of h earlier d) → FindsOf h earlier d After (Err (error_by_port fault))
  port_first fault After e = port_first_by (route_of h earlier d) refl fault e (Rule.Port PortRule.Foreign) After

  -- what passes by its route and is none of the transfer
  pub strays_pass : (route : MayPass) → route_of h earlier d ≡ among_all route → is_of_transfer (among_all route) ≡ false → (among_all route ≡ Route.StrayAnswer → PortBroken h earlier d PortRule.BadAnswer → ⊥) → Passes h earlier d
  strays_pass route is off answers = off_passes h earlier d (ap is_of_transfer is ∙ off) kept where
    none : (among_all route ≡ Route.ForeignPort → ⊥) × (among_all route ≡ Route.WrongPort → ⊥) × (among_all route ≡ Route.NoStrayAnswer → ⊥)
    none = passing_by route

    kept : (port : PortRule) → PortBroken h earlier d port → ⊥
    kept PortRule.Foreign b = none.0 (sym is ∙ b)
    kept PortRule.Wrong b = none.1 (sym is ∙ b)
    kept PortRule.BadAnswer (inl b) = none.2 (sym is ∙ b)
    kept PortRule.BadAnswer (inr b) = answers (sym is ∙ b.0) (inr b)

-- ---- what is kept

-- before the first request, a datagram that passes is one of the transfer
before_off : (b c : Bool) → is_of_transfer (if b then (if c then Route.Request else Route.WrongPort) else Route.Peer) ≡ false → (if b then (if c then Route.Request else Route.WrongPort) else Route.Peer) ≡ Route.WrongPort
before_off true true e = absurd (false≢true (sym e))
before_off true false e = refl
before_off false c e = absurd (false≢true (sym e))

pub off_kept : (h : Header) (earlier : List Datagram) (d : Datagram) (t : Option Transfer) → IsKept h earlier t → is_of_transfer (route_of h earlier d) ≡ false → (route_of h earlier d ≡ Route.WrongPort → ⊥)
    → IsKept h (d ∷ earlier) t
off_kept h earlier d None none off right =
    let start : first_of (asks h) earlier ≡ None = ap (first_of (asks h)) none in
    let is = before_is h earlier d start in
    absurd (right (is ∙ before_off (is_from_client h.named d && begins_request d) (port_of_server h.named d == h.service) (ap is_of_transfer (sym is) ∙ off)))
off_kept h earlier d (Some t) (first, after) off right = (
  (first.0, first_stays (asks h) d first.0 earlier first.1, first.2),
  subst (IsTransferAfter t h) (sym (transfer_same h earlier d off)) after,
)

pub main_kept : (h : Header) (earlier : List Datagram) (d : Datagram) (t : Transfer) → is_of_transfer (route_of h earlier d) ≡ true → FirstAsked h earlier t.asked
    → IsTransferAfter t h (d ∷ transfer_of h earlier) → IsKept h (d ∷ earlier) (Some t)
main_kept h earlier d t on first after = (
  (first.0, first_stays (asks h) d first.0 earlier first.1, first.2),
  subst (IsTransferAfter t h) (sym (transfer_kept h earlier d on)) after,
)

-- the first request
pub first_kept : (h : Header) (earlier : List Datagram) (d : Datagram) (t : Transfer) → earlier ≡ [] → route_of h earlier d ≡ Route.Request → Spells d.payload (Message.Request t.asked)
    → IsTransferAfter t h (d ∷ []) → IsKept h (d ∷ earlier) (Some t)
first_kept h earlier d t none is spells after =
    let start : first_of (asks h) earlier ≡ None = ap (first_of (asks h)) none in
    let asked = asks_is h earlier d start is in (
      (d, ap (λ o. or_this o (asks h d) d) start ∙ ap (λ b. or_this None b d) asked, spells),
      subst (IsTransferAfter t h) (sym (transfer_kept h earlier d (ap is_of_transfer is) ∙ ap (λ ds. d ∷ transfer_of h ds) none)) after,
    )

-- ---- a message

found_by : (h : Header) (earlier : List Datagram) (d : Datagram) (m : Message) (t new : Transfer) → is_of_transfer (route_of h earlier d) ≡ true → Spells d.payload m → IsKept h earlier (Some t)
    → new.asked ≡ t.asked → (r : Result (Unit {0}) PassError) → Finds (MessageBreaks h t.asked (transfer_of h earlier) d.dir m) (IsTransferAfter new h (d ∷ transfer_of h earlier)) r
    → FindsOf h earlier d (IsKept h (d ∷ earlier) (Some new)) r
found_by h earlier d m t new on spells (first, after) same (Ok _) (none, next) = (
  main_passes h earlier d m on spells (lawful_by h earlier d m t.asked on spells first none),
  main_kept h earlier d new on (subst (FirstAsked h earlier) (sym same) first) next,
)
found_by h earlier d m t new on spells (first, after) same (Err (PassError.Broken rule)) found = first_by h earlier d m t.asked on spells first rule found.0 found.1
found_by h earlier d m t new on spells (first, after) same (Err PassError.Memory) none = main_passes h earlier d m on spells (lawful_by h earlier d m t.asked on spells first none)

pub message_found : (h : Header) (earlier : List Datagram) (d : Datagram) (dir : Dir) (m : Message) (t new : Transfer) → d.dir ≡ dir → is_of_transfer (route_of h earlier d) ≡ true → Spells d.payload m → IsKept h earlier (Some t)
    → new.asked ≡ t.asked → (r : Result (Unit {0}) PassError) → Finds (MessageBreaks h t.asked (transfer_of h earlier) dir m) (IsTransferAfter new h (d ∷ transfer_of h earlier)) r
    → FindsOf h earlier d (IsKept h (d ∷ earlier) (Some new)) r
message_found h earlier d dir m t new way on spells kept same r found =
    found_by h earlier d m t new on spells kept same r
    (subst (λ (w : Dir). Finds (MessageBreaks h t.asked (transfer_of h earlier) w m) (IsTransferAfter new h (d ∷ transfer_of h earlier)) r) (sym way) found)

main_route : (r : Route) → is_of_transfer r ≡ true → (r ≡ Route.Peer → ⊥) → r ≡ Route.Request
main_route Route.Request on other = refl
main_route Route.Peer on other = absurd (other refl)
main_route _ on other = absurd (false≢true on)

module _ (h : Header) (earlier : List Datagram) (d : Datagram) (m : Message) (none : earlier ≡ []) (on : is_of_transfer (route_of h earlier d) ≡ true) (other : route_of h earlier d ≡ Route.Peer → ⊥)
    (spells : Spells d.payload m) where
  nothing : (ds : List Datagram) → ds ≡ [] → (asked : RequestParts) → FirstAsked h ds asked → ⊥
  nothing ds e asked (x, first, s) = let at : first_of (asks h) ds ≡ None = ap (first_of (asks h)) e in absurd (cc)

  pub first_passes : OneEnded h earlier → Passes h earlier d
  first_passes one = main_passes h earlier d m on spells (first_lawful h earlier d m on spells (nothing earlier none) (λ _ peer. other peer))

pub request_found : (h : Header) (earlier : List Datagram) (d : Datagram) (t : Transfer) → OneEnded h earlier → earlier ≡ [] → is_of_transfer (route_of h earlier d) ≡ true → (route_of h earlier d ≡ Route.Peer → ⊥)
    → Spells d.payload (Message.Request t.asked) → IsTransferAfter t h (d ∷ []) → Passes h earlier d × IsKept h (d ∷ earlier) (Some t)
request_found h earlier d t one none on other spells after = (
  first_passes h earlier d (Message.Request t.asked) none on other spells one,
  first_kept h earlier d t none (main_route (route_of h earlier d) on other) spells after,
)

-- ---- a datagram, by its ports

-- what its ports say of it, and that they are kept where it passes
pub record Routed (h : Header) (earlier : List Datagram) (d : Datagram) (after : KnownIds) (route : MayPass) : Type 0 where
  pub is : route_of h earlier d ≡ among_all route
  pub ports : Passes h earlier d → StandsFor after h (d ∷ earlier)

pub routed_by : (h : Header) (earlier : List Datagram) (d : Datagram) (after : KnownIds) (result : Result MayPass PortFault) (route : MayPass) → result ≡ Ok route
    → (result ≢ Err PortFault.Memory → result ≡ answer_of (route_of h earlier d)) → OnOk result ((HasNoRequest h earlier d → ⊥) → StandsFor after h (d ∷ earlier)) → Routed h earlier d after route
routed_by h earlier d after result route ok answer passes =
    record {
      is = sym (passing_is (route_of h earlier d) route (sym ok ∙ answer (λ e. cc)));
      ports = λ lawful. subst (λ (r : Result MayPass PortFault). OnOk r ((HasNoRequest h earlier d → ⊥) → StandsFor after h (d ∷ earlier))) ok passes (λ none. lawful.lawful Rule.NoRequest none);
    }

-- what is found of a message is found of the datagram
pub state_found : (h : Header) (earlier : List Datagram) (d : Datagram) (new : JudgeState) → new.header ≡ h → (Passes h earlier d → StandsFor new.ports h (d ∷ earlier)) → (r : Result (Unit {0}) PassError)
    → FindsOf h earlier d (IsKept h (d ∷ earlier) new.transfer) r → FindsOf h earlier d (HasKept new h (d ∷ earlier)) r
state_found h earlier d new header ports (Ok _) (passes, kept) = (passes, record { header = header; ports = ports passes; kept = kept })
state_found h earlier d new header ports (Err (PassError.Broken rule)) found = found
state_found h earlier d new header ports (Err PassError.Memory) found = found

pub stray_found : (h : Header) (earlier : List Datagram) (d : Datagram) (new : JudgeState) (route : MayPass) → Routed h earlier d new.ports route → is_of_transfer (among_all route) ≡ false → (among_all route ≡ Route.StrayAnswer → SaysUnknownId d)
    → new.header ≡ h → IsKept h earlier new.transfer → Passes h earlier d × HasKept new h (d ∷ earlier)
stray_found h earlier d new route routed off answers header kept =
    let passes = strays_pass h earlier d route routed.is off (λ stray bad. elim bad [
      | inl none ↦ (passing_by route).2 (sym routed.is ∙ none)
      | inr never ↦ never.1 (answers stray)
    ]) in (
      passes,
      record {
        header = header;
        ports = routed.ports passes;
        kept = off_kept h earlier d new.transfer kept (ap is_of_transfer routed.is ∙ off) (passes.lawful (Rule.Port PortRule.Wrong));
      },
    )

-- what does not pass by its ports; or a stray, for which memory runs out
pub fault_found : (h : Header) (earlier : List Datagram) (d : Datagram) (After : Type 0) (result : Result MayPass PortFault) (fault : PortFault) → result ≡ Err fault
    → (result ≢ Err PortFault.Memory → result ≡ answer_of (route_of h earlier d)) → (result ≡ Err PortFault.Memory → IsNewStray h earlier d) → FindsOf h earlier d After (Err (error_by_port fault))
fault_found h earlier d After result (PortFault.Broken port) is answer memory = port_first h earlier d (PortFault.Broken port) After (sym is ∙ answer (λ e. let same = sym is ∙ e in cc))
fault_found h earlier d After result PortFault.Memory is answer memory = strays_pass h earlier d may.Stray (memory is).0 refl (λ stray bad. absurd (cc))
