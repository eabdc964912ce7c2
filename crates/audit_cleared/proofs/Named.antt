-- Of a recording whose addresses are sound: its transfers' own datagrams, and the sides that they tell.
use Rattle.std.proofs.Common.{◌≡◌, ◌==◌, ℕ, Bool, false, cond, List, [], ◌∷◌, inl, inr, sym, ap, subst, ◌∙◌, filter}
use Rattle.std.specs.List.{AllByRecursion}
use Rattle.std.proofs.lemmas.Bool.{false≢true, eq-eqb, and_from}
use Rattle.std.proofs.lemmas.List.Elements.{recursion_from_All}
use Rattle.tftp_packet.specs.Hosts.{PeerId}
use Rattle.law_model.specs.Model.{Meaning}
use Rattle.law_end.specs.{OneEnded, Meant}
use Rattle.law_end.proofs.Division.Divided.{any_none, any_cases}
use Rattle.audit_flows.specs.Lines.{Recorded, same_address, same_endpoint, Placed, is_of}
use Rattle.audit_flows.specs.{Endpoint, Opens, Talks, Transfer}
use Rattle.audit_flows.proofs.LinesLemmas.Lines.{by_test}
use Rattle.audit_flows.specs.Transfers.{client_view, placed, server_of}
use Rattle.audit_flows.proofs.TransfersLemmas.OwnDatagrams.{server_kept}
use Rattle.law_tap.specs.{ShowsBetween, BreaksNoTapRule}
use Rattle.audit_views.proofs.PartiesLemmas.Addresses.{called_one}
use Rattle.audit_cleared.specs.{IsOpenedIn, IsTransferIn, HasAddresses}
use Rattle.audit_views.specs.Views.{client_capture, client_header}
use Rattle.audit_views.specs.Parties.{IsAddress, host_name}
use Rattle.audit_recording.specs.Between.{peer_of as side, sides_of, sides_with, between_capture}
use Rattle.audit_cleared.proofs.Own.{IsOwn, as_request, as_talk, own_all, opened_own}
use Rattle.audit_cleared.proofs.Server.{IsNamedApart}
use Rattle.audit_cleared.proofs.Law.{AreOwn, breaks_none, shows_same}

-- ---- names tell addresses

pub named_same : (one other : Endpoint) → IsAddress one.address → IsAddress other.address → same_endpoint one other ≡ false → side one ≡ side other → ⊥
named_same one other here there off same = false≢true (sym off ∙ and_from (one.port == other.port) (same_address one.address other.address)
    (eq-eqb one.port other.port (ap (λ (p : PeerId). p.port) same))
    ((called_one one.address other.address here there).1 (ap (λ (p : PeerId). p.host) same)))

-- ---- the addresses of a transfer's datagrams

pub placed_addresses : (named : List ℕ) (recorded : List Recorded) → AllByRecursion HasAddresses recorded → AllByRecursion (λ p. HasAddresses p.datagram) (placed named recorded)
placed_addresses named [] all = tt
placed_addresses named (d ∷ recorded) all = (all.0, placed_addresses named recorded all.1)

pub kept_all : (P : Placed → Type 0) (test : Placed → Bool) (ps : List Placed) → AllByRecursion P ps → AllByRecursion P (filter test ps)
kept_all P test [] all = tt
kept_all P test (p ∷ ps) all = by_test (test p)
    (λ is. subst (AllByRecursion P) (sym (ap (λ b. cond b (p ∷ filter test ps) (filter test ps)) is)) (all.0, kept_all P test ps all.1))
    (λ off. subst (AllByRecursion P) (sym (ap (λ b. cond b (p ∷ filter test ps) (filter test ps)) off)) (kept_all P test ps all.1))

-- the client's, and where it asks
pub opening_addresses : (x : Transfer) (ps : List Placed) → AllByRecursion (IsOwn x) ps → AllByRecursion (λ p. HasAddresses p.datagram) ps → IsOpenedIn x ps → IsAddress x.client.address × IsAddress x.asked.address
opening_addresses x [] own all is = absurd (any_none (λ (p : Placed). p.place ≡ Opens x) is)
opening_addresses x (p ∷ ps) own all is = elim (any_cases (λ (q : Placed). q.place ≡ Opens x) p ps is) [
  | inl now ↦ by own.0 now
  | inr before ↦ opening_addresses x ps own.1 all.1 before
]
  where
    by : IsOwn x p → p.place ≡ Opens x → IsAddress x.client.address × IsAddress x.asked.address
    by (as_request is begins source to) now = (subst (λ (e : Endpoint). IsAddress e.address) source all.0.0, subst (λ (e : Endpoint). IsAddress e.address) to all.0.1)
    by (as_talk at ends asks) now = let both : Opens x ≡ Talks x = sym now ∙ at in absurd (cc)

apart_all : (x : Transfer) → IsAddress x.client.address → (ps : List Placed) → AllByRecursion (λ p. HasAddresses p.datagram) ps → AllByRecursion (IsNamedApart x) ps
apart_all x client [] all = tt
apart_all x client (p ∷ ps) all = (λ off same. named_same p.datagram.source x.client all.0.0 client off same, apart_all x client ps all.1)

-- ---- a transfer of a recording

module _ (x : Transfer) (named : List ℕ) (recorded : List Recorded) (one : IsTransferIn x named recorded) where
  abbrev own_view : List Placed
  own_view = client_view x.number (placed named recorded)

  own : AllByRecursion (IsOwn x) (client_view x.number (placed named recorded))
  own = own_all named recorded x one.at_service one.opened

  addresses : AllByRecursion (λ p. HasAddresses p.datagram) (client_view x.number (placed named recorded))
  addresses = kept_all (λ p. HasAddresses p.datagram) (is_of x.number) (placed named recorded) (placed_addresses named recorded (recursion_from_All HasAddresses recorded one.addresses))

  ends : IsAddress x.client.address × IsAddress x.asked.address
  ends = opening_addresses x (client_view x.number (placed named recorded)) own addresses (opened_own x (placed named recorded) one.opened)

  pub are_own : AreOwn x (client_view x.number (placed named recorded))
  are_own = record { own = own; named_apart = apart_all x ends.0 (client_view x.number (placed named recorded)) addresses; opened = opened_own x (placed named recorded) one.opened }

  pub asked_apart : side x.client ≡ side x.asked → ⊥
  asked_apart same = named_same x.client x.asked ends.0 ends.1 one.apart same

  pub same_server : server_of x.number (client_view x.number (placed named recorded)) ≡ server_of x.number (placed named recorded)
  same_server = server_kept x.number (is_of x.number) (λ p off. off) (placed named recorded)

-- ---- the laws

pub rules_cleared : (named : List ℕ) (recorded : List Recorded) (x : Transfer) → IsTransferIn x named recorded
    → OneEnded (client_header x) (client_capture host_name x (placed named recorded)) → BreaksNoTapRule (sides_of x (placed named recorded)) (between_capture x (placed named recorded))
rules_cleared named recorded x one lawful = subst (λ o. BreaksNoTapRule (sides_with x o) (between_capture x (placed named recorded))) (same_server x named recorded one)
    (breaks_none x (asked_apart x named recorded one) (client_view x.number (placed named recorded)) (are_own x named recorded one) lawful)

pub meaning_kept : (named : List ℕ) (recorded : List Recorded) (x : Transfer) → IsTransferIn x named recorded
    → (m : Meaning) → Meant (client_header x) (client_capture host_name x (placed named recorded)) m → (wire : List ℕ) × ShowsBetween (sides_of x (placed named recorded)) m wire (between_capture x (placed named recorded))
meaning_kept named recorded x one m meant = subst (λ o. (wire : List ℕ) × ShowsBetween (sides_with x o) m wire (between_capture x (placed named recorded))) (same_server x named recorded one)
    (shows_same x (asked_apart x named recorded one) (client_view x.number (placed named recorded)) (are_own x named recorded one) m meant)
