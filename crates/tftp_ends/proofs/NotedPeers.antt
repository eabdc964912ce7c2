-- What a set of peers has, by the test of peers.
use Rattle.std.proofs.Common.{◌≡◌, Bool, true, false, List, [], ◌∷◌, Option, Some, None, rules, cond, refl, sym, ap, subst, ◌∙◌, ◌==◌, ◌&&◌, ◌||◌, not, bytes_eq}
use Rattle.std.specs.Cmp.Rules.{comparing}
use Rattle.std.specs.List.{list_any}
use Rattle.std.specs.Ordering.{is_eq}
use Rattle.std.proofs.lemmas.Bool.{false≢true, and_from, and_parts, eqb-true, eq-eqb}
use Rattle.std.proofs.lemmas.Slice.Eq.{bytes_eq-Decides}
use Rattle.tftp_packet.specs.Hosts.{Datagram, PeerId, peer_of, same_peer, peer_cmp}
use Rattle.law_model.specs.Rules.{goes_out, comes_in, first_of, or_this, has_come_from}
use Rattle.tftp_ends.specs.{is_noted, NotesStrays}

same_by_order : (one other : PeerId) → is_eq (peer_cmp one other) ≡ same_peer one other
same_by_order one other = sym (search (comparing, rules))

-- the set has a peer exactly if the peer is noted
pub noted_by_order : (peer : PeerId) (peers : List PeerId) → list_any (λ other. is_eq (peer_cmp peer other)) peers ≡ is_noted peer peers
noted_by_order peer peers = λ i. list_any (λ other. same_by_order peer other i) peers

or_cond : (b c : Bool) → cond b true c ≡ (b || c)
or_cond true c = refl
or_cond false c = refl

-- a set has a peer more
pub noted_more : (peer other : PeerId) (old new : List PeerId)
    → list_any (λ p. is_eq (peer_cmp other p)) new ≡ cond (is_eq (peer_cmp peer other)) true (list_any (λ p. is_eq (peer_cmp other p)) old)
    → is_noted other new ≡ (same_peer peer other || is_noted other old)
noted_more peer other old new has = sym (noted_by_order other new) ∙ has ∙ or_cond (is_eq (peer_cmp peer other)) (list_any (λ p. is_eq (peer_cmp other p)) old)
    ∙ (λ i. same_by_order peer other i || noted_by_order other old i)

-- ---- the test of peers

pub is_same : (one other : PeerId) → same_peer one other ≡ true → one ≡ other
is_same one other e =
    let parts = and_parts (one.port == other.port) (bytes_eq one.host other.host) e in
    let host = (bytes_eq-Decides one.host other.host).0 parts.1 in
    let port = eqb-true one.port other.port parts.0 in
    λ i. record { host = host i; port = port i }

pub same_itself : (peer : PeerId) → same_peer peer peer ≡ true
same_itself peer = and_from _ _ (eq-eqb peer.port peer.port refl) ((bytes_eq-Decides peer.host peer.host).1 refl)

-- ---- what is noted, after one datagram more

-- a peer from which it came is no new one, or all others are
no_news : (here known came : Bool) → (here ≡ true → known ≡ true) → ((here || came) && not known) ≡ (came && not known)
no_news true true true is = refl
no_news true true false is = refl
no_news true false came is = absurd (false≢true (is refl))
no_news false known came is = refl

news : (here known came : Bool) → (here ≡ true → known ≡ false) → (here || (came && not known)) ≡ ((here || came) && not known)
news true true came is = absurd (false≢true (sym (is refl)))
news true false came is = refl
news false known came is = refl

or_none : {X : Type 0} (o : Option X) (b : Bool) (x : X) → or_this o b x ≡ None → (o ≡ None) × (b ≡ false)
or_none None true x e = absurd (cc)
or_none None false x e = (refl, refl)
or_none (Some y) b x e = absurd (cc)

none_came : (earlier : List Datagram) (peer : PeerId) → first_of comes_in earlier ≡ None → has_come_from peer earlier ≡ false
none_came [] peer none = refl
none_came (d ∷ earlier) peer none =
    let parts = or_none (first_of comes_in earlier) (comes_in d) d none in
    ap (λ b. (b && same_peer (peer_of d) peer) || has_come_from peer earlier) parts.1 ∙ none_came earlier peer parts.0

module _ (strays : List PeerId) (earlier : List Datagram) (d : Datagram) where
  pub noted_out : (other : Option PeerId) → goes_out d ≡ true → NotesStrays strays other earlier → NotesStrays strays other (d ∷ earlier)
  noted_out other out notes peer = rw out (notes peer)

  -- it came from the other end
  pub noted_there : (other : PeerId) → goes_out d ≡ false → same_peer (peer_of d) other ≡ true → NotesStrays strays (Some other) earlier → NotesStrays strays (Some other) (d ∷ earlier)
  noted_there other back there notes peer = rw back (notes peer
      ∙ sym (no_news (same_peer (peer_of d) peer) (same_peer peer other) (has_come_from peer earlier)
      (λ here. subst (λ p. same_peer p other ≡ true) (is_same (peer_of d) peer here) there)))

  -- it is a stray
  pub noted_stray : (other : PeerId) (more : List PeerId) → goes_out d ≡ false → same_peer (peer_of d) other ≡ false
      → ((peer : PeerId) → is_noted peer more ≡ (same_peer (peer_of d) peer || is_noted peer strays))
      → NotesStrays strays (Some other) earlier → NotesStrays more (Some other) (d ∷ earlier)
  noted_stray other more back apart adds notes peer = rw back (adds peer
      ∙ ap (λ b. same_peer (peer_of d) peer || b) (notes peer)
      ∙ news (same_peer (peer_of d) peer) (same_peer peer other) (has_come_from peer earlier)
      (λ here. subst (λ p. same_peer p other ≡ false) (is_same (peer_of d) peer here) apart))

  -- it is the first that came
  pub noted_first : goes_out d ≡ false → first_of comes_in earlier ≡ None → NotesStrays strays None earlier → NotesStrays strays (Some (peer_of d)) (d ∷ earlier)
  noted_first back none notes peer =
      let alone = none_came earlier peer none in
      rw back (notes peer ∙ ap (λ b. b && true) alone
      ∙ sym (no_news (same_peer (peer_of d) peer) (same_peer peer (peer_of d)) (has_come_from peer earlier)
      (λ here. subst (λ p. same_peer p (peer_of d) ≡ true) (is_same (peer_of d) peer here) (same_itself (peer_of d)))
      ∙ ap (λ b. b && not (same_peer peer (peer_of d))) alone))
