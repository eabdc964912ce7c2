-- Of a lawful capture the part is lawful that passed with some, where what came first did.
use Rattle.std.proofs.Common.{◌≡◌, ℕ, Bool, true, false, List, [], ◌∷◌, Option, Some, None, refl, sym, ap, subst, ◌∙◌, ◌&&◌, ◌||◌, not, map, reverse, option_map, if◌then◌else◌}
use Rattle.std.specs.List.{list_any, AllByRecursion, filter}
use Rattle.std.proofs.lemmas.Bool.{false≢true, or_left, or_right, and_from, and_parts}
use Rattle.std.proofs.lemmas.List.{reverse-reverse}
use Rattle.tftp_packet.specs.{Client}
use Rattle.tftp_packet.specs.Hosts.{Datagram, PeerId, peer_of, same_peer}
use Rattle.tftp_packet.specs.{In, Out}
use Rattle.law_model.specs.Rules.{comes_in, goes_out, first_of, or_this}
use Rattle.law_end.specs.{OneEnded}
use Rattle.law_end.proofs.Division.RouteTests.{is_same as same_peers, same_is as peers_same}
use Rattle.audit_flows.specs.Lines.{Recorded, Placed, same_endpoint, other_of, is_of, is_request, begins_request}
use Rattle.audit_flows.specs.{Address, Endpoint}
use Rattle.audit_flows.proofs.LinesLemmas.Lines.{by_test, map_or}
use Rattle.audit_spared.specs.Spared.Seen.{as_seen_by, at_client_of}
use Rattle.audit_spared.specs.Fair.{AreApart, is_own_request, stays}
use Rattle.audit_spared.proofs.FairLemmas.ByRules.{passes_without}
use Rattle.audit_spared.proofs.FairLemmas.Thinned.{filter_kept, filter_dropped, filter_reverse, kept_or_not}
use Rattle.audit_spared.specs.Spared.{comes_at, goes_from}
use Rattle.audit_spared.proofs.SparedLemmas.Stands.{Same, IsKnown}

-- ---- lists

module _ {X : Type 0} (f : X → X → Bool) where
  each_in : (xs ys : List X) → ((x : X) → list_any (λ y. f y x) xs ≡ true → list_any (λ y. f y x) ys ≡ true) → AllByRecursion (λ x. f x x ≡ true → list_any (λ y. f y x) ys ≡ true) xs
  each_in [] ys more = tt
  each_in (x ∷ xs) ys more = (
    λ is. more x (or_left (f x x) (list_any (λ y. f y x) xs) is),
    each_in xs ys (λ z any. more z (or_right (f x z) (list_any (λ y. f y z) xs) any)),
  )

  -- each that passes its own test is found by it
  each_found : (xs : List X) → AllByRecursion (λ x. f x x ≡ true → list_any (λ y. f y x) xs ≡ true) xs
  each_found xs = each_in xs xs (λ x any. any)

abbrev payload_of : Datagram → List ℕ
payload_of d = d.payload

module _ (write : Address → List ℕ) (c : Endpoint) where
  abbrev pub seen : Placed → Datagram
  seen q = as_seen_by write c q.datagram

  abbrev pub name : Endpoint → PeerId
  name o = record { host = write o.address; port = o.port }

  pub peer_seen : (d : Recorded) → peer_of (as_seen_by write c d) ≡ name (other_of c d)
  peer_seen d = by_test (same_endpoint d.source c)
      (λ is. ap (λ b. peer_of (if b then record { dir = Out; local = d.source.port; host = write d.target.address; remote = d.target.port; payload = d.payload }
      else record { dir = In; local = d.target.port; host = write d.source.address; remote = d.source.port; payload = d.payload })) is
      ∙ sym (ap (λ b. name (if b then d.target else d.source)) is))
      (λ off. ap (λ b. peer_of (if b then record { dir = Out; local = d.source.port; host = write d.target.address; remote = d.target.port; payload = d.payload }
      else record { dir = In; local = d.target.port; host = write d.source.address; remote = d.source.port; payload = d.payload })) off
      ∙ sym (ap (λ b. name (if b then d.target else d.source)) off))

  pub goes_seen : (d : Recorded) → goes_out (as_seen_by write c d) ≡ goes_from c d
  goes_seen d = by_test (same_endpoint d.source c)
      (λ is. ap (λ b. goes_out (if b then record { dir = Out; local = d.source.port; host = write d.target.address; remote = d.target.port; payload = d.payload }
      else record { dir = In; local = d.target.port; host = write d.source.address; remote = d.source.port; payload = d.payload })) is ∙ sym is)
      (λ off. ap (λ b. goes_out (if b then record { dir = Out; local = d.source.port; host = write d.target.address; remote = d.target.port; payload = d.payload }
      else record { dir = In; local = d.target.port; host = write d.source.address; remote = d.source.port; payload = d.payload })) off ∙ sym off)

  pub payload_seen : (d : Recorded) → (as_seen_by write c d).payload ≡ d.payload
  payload_seen d = by_test (same_endpoint d.source c)
      (λ is. ap (λ b. payload_of (if b then record { dir = Out; local = d.source.port; host = write d.target.address; remote = d.target.port; payload = d.payload }
      else record { dir = In; local = d.target.port; host = write d.source.address; remote = d.source.port; payload = d.payload })) is)
      (λ off. ap (λ b. payload_of (if b then record { dir = Out; local = d.source.port; host = write d.target.address; remote = d.target.port; payload = d.payload }
      else record { dir = In; local = d.target.port; host = write d.source.address; remote = d.source.port; payload = d.payload })) off)

  pub same_seen : (d e : Recorded) → Same d e → as_seen_by write c d ≡ as_seen_by write c e
  same_seen d e is = λ i. if same_endpoint (is.source i) c then record { dir = Out; local = (is.source i).port; host = write (is.target i).address; remote = (is.target i).port; payload = is.payload i }
      else record { dir = In; local = (is.target i).port; host = write (is.source i).address; remote = (is.source i).port; payload = is.payload i }

  -- ---- the first that came

  first_map : (ps : List Placed) → first_of comes_in (map seen ps) ≡ option_map seen (first_of (λ p. comes_at c p.datagram) ps)
  first_map [] = refl
  first_map (p ∷ ps) = (λ i. or_this (first_map ps i) (not (goes_seen p.datagram i)) (seen p))
      ∙ sym (map_or seen (first_of (λ q. comes_at c q.datagram) ps) (comes_at c p.datagram) p)

  -- ---- what is left

  filter_seen : (f : Placed → Bool) (g : Datagram → Bool) (ps : List Placed) → AllByRecursion (λ q. f q ≡ g (seen q)) ps → map seen (filter f ps) ≡ filter g (map seen ps)
  filter_seen f g [] all = refl
  filter_seen f g (p ∷ ps) all = kept_or_not f p
      (λ is. ap (map seen) (filter_kept f p ps is) ∙ ap (λ l. seen p ∷ l) (filter_seen f g ps all.1) ∙ sym (filter_kept g (seen p) (map seen ps) (sym all.0 ∙ is)))
      (λ off. ap (map seen) (filter_dropped f p ps off) ∙ filter_seen f g ps all.1 ∙ sym (filter_dropped g (seen p) (map seen ps) (sym all.0 ∙ off)))

  module _ (write_one : (a b : Address) → write a ≡ write b → a ≡ b) where
    pub name_one : (a b : Endpoint) → name a ≡ name b → a ≡ b
    name_one a b is =
        let address = write_one a.address b.address (ap (λ (p : PeerId). p.host) is) in
        let port = ap (λ (p : PeerId). p.port) is in
        λ i. record { address = address i; port = port i }

    module _ (n : ℕ) (kp : List Placed) where
      -- what passed with the peer is another transfer's
      abbrev shuns : PeerId → Placed → Bool
      shuns peer q = (not (is_request q) && not (is_of n q)) && same_peer (peer_of (seen q)) peer

      abbrev out : PeerId → Bool
      out peer = list_any (shuns peer) kp

      module _ (talked : Endpoint → Bool) where
        abbrev Talks : Placed → Type 0
        Talks q = is_request q ≡ false → is_of n q ≡ talked (other_of c q.datagram)

        shuns_none : (ps : List Placed) (o : Endpoint) → AllByRecursion Talks ps → talked o ≡ true → list_any (shuns (name o)) ps ≡ false
        shuns_none [] o all is = refl
        shuns_none (q ∷ ps) o all is = by_test (shuns (name o) q)
            (λ shunned.
            let parts = and_parts (not (is_request q) && not (is_of n q)) (same_peer (peer_of (seen q)) (name o)) shunned in
            let two = and_parts (not (is_request q)) (not (is_of n q)) parts.0 in
            let plain : is_request q ≡ false = by_test (is_request q) (λ t. absurd (false≢true (sym (ap not t) ∙ two.0))) (λ f. f) in
            let there : other_of c q.datagram ≡ o = name_one (other_of c q.datagram) o (sym (peer_seen q.datagram) ∙ same_peers (peer_of (seen q)) (name o) parts.1) in
            absurd (false≢true (sym (ap not (all.0 plain ∙ ap talked there ∙ is)) ∙ two.1)))
            (λ off. ap (λ b. b || list_any (shuns (name o)) ps) off ∙ shuns_none ps o all.1 is)

        -- the transfer's are those that stay
        stays_is : (q : Placed) → IsKnown c q → (is_request q ≡ true → is_of n q ≡ true) → Talks q → AllByRecursion Talks kp → (shuns (peer_of (seen q)) q ≡ true → out (peer_of (seen q)) ≡ true)
            → is_of n q ≡ stays Client out (seen q)
        stays_is q known requests talks all found = by_test (is_request q) request plain where
          own : is_own_request Client (seen q) ≡ is_request q
          own = (λ i. goes_seen q.datagram i && begins_request (payload_seen q.datagram i)) ∙ sym known.kind

          request : is_request q ≡ true → is_of n q ≡ stays Client out (seen q)
          request is = requests is ∙ sym (or_right (not (out (peer_of (seen q)))) (is_own_request Client (seen q)) (own ∙ is))

          stay : (b : Bool) → (not b || false) ≡ not b
          stay true = refl
          stay false = refl

          plain : is_request q ≡ false → is_of n q ≡ stays Client out (seen q)
          plain off = by_test (is_of n q)
              (λ is.
              let free : out (peer_of (seen q)) ≡ false = ap out (peer_seen q.datagram) ∙ shuns_none kp (other_of c q.datagram) all (sym (talks off) ∙ is) in
              is ∙ sym (ap (λ b. not b || is_own_request Client (seen q)) free))
              (λ other.
              let shunned : shuns (peer_of (seen q)) q ≡ true = and_from (not (is_request q) && not (is_of n q)) (same_peer (peer_of (seen q)) (peer_of (seen q)))
              (and_from (not (is_request q)) (not (is_of n q)) (ap not off) (ap not other)) (peers_same (peer_of (seen q)) (peer_of (seen q)) refl) in
              other ∙ sym ((λ i. not (found shunned i) || own i) ∙ off))

        stays_all : (ps : List Placed) → AllByRecursion (IsKnown c) ps → AllByRecursion (λ q. is_request q ≡ true → is_of n q ≡ true) ps → AllByRecursion Talks ps → AllByRecursion Talks kp
            → AllByRecursion (λ q. shuns (peer_of (seen q)) q ≡ true → out (peer_of (seen q)) ≡ true) ps → AllByRecursion (λ q. is_of n q ≡ stays Client out (seen q)) ps
        stays_all [] known requests talks all found = tt
        stays_all (q ∷ ps) known requests talks all found = (stays_is q known.0 requests.0 talks.0 all found.0, stays_all ps known.1 requests.1 talks.1 all found.1)

    -- ---- of a lawful list the part is lawful that passed with some, where what came first is of it

    module _ (n : ℕ) (kp : List Placed) (talked : Endpoint → Bool) (requests : AllByRecursion (λ q. is_request q ≡ true → is_of n q ≡ true) kp) (talks : AllByRecursion (Talks n kp talked) kp)
        (first : (q : Placed) → first_of (λ p. comes_at c p.datagram) kp ≡ Some q → talked (other_of c q.datagram) ≡ true) where
      first_stays : (d : Datagram) → first_of comes_in (map seen kp) ≡ Some d → out n kp (peer_of d) ≡ false
      first_stays d found = by (first_of (λ p. comes_at c p.datagram) kp) refl where
        by : (o : Option Placed) → first_of (λ p. comes_at c p.datagram) kp ≡ o → out n kp (peer_of d) ≡ false
        by None none = let both : None ≡ Some d = sym (first_map kp ∙ ap (option_map seen) none) ∙ found in absurd (cc)
        by (Some q) is =
            let both : Some (seen q) ≡ Some d = sym (first_map kp ∙ ap (option_map seen) is) ∙ found in
            let same : seen q ≡ d = cc in
            ap (λ e. out n kp (peer_of e)) (sym same) ∙ ap (out n kp) (peer_seen q.datagram)
            ∙ shuns_none n kp talked kp (other_of c q.datagram) talks (first q is)

      pub part_lawful : AllByRecursion (IsKnown c) kp → OneEnded (at_client_of 69) (map seen kp) → OneEnded (at_client_of 69) (map seen (filter (is_of n) kp))
      part_lawful known lawful =
          let apart : AreApart (out n kp) (reverse (map seen kp)) = λ d found. first_stays d (ap (first_of comes_in) (sym (reverse-reverse (map seen kp))) ∙ found) in
          let left = passes_without (at_client_of 69) (out n kp) [] (reverse (map seen kp)) apart (subst (OneEnded (at_client_of 69)) (sym (reverse-reverse (map seen kp))) lawful) in
          let same : reverse (filter (stays Client (out n kp)) (reverse (map seen kp))) ≡ filter (stays Client (out n kp)) (map seen kp) =
          sym (filter_reverse (stays Client (out n kp)) (reverse (map seen kp))) ∙ ap (filter (stays Client (out n kp))) (reverse-reverse (map seen kp)) in
          let all = stays_all n kp talked kp known requests talks talks (each_found (λ y q. shuns n kp (peer_of (seen q)) y) kp) in
          subst (OneEnded (at_client_of 69)) (same ∙ sym (filter_seen (is_of n) (stays Client (out n kp)) kp all)) left
