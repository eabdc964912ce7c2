-- What is kept stands for one datagram more.
use Rattle.std.proofs.Common.{◌≡◌, ◌⊎◌, inl, inr, Bool, true, false, List, ◌∷◌, Option, Some, None, refl, sym, ap, subst, ◌∙◌, ◌&&◌, ◌||◌, not, is_some, option_map}
use Rattle.tftp_packet.specs.{End}
use Rattle.tftp_packet.specs.Hosts.{Datagram, Header, PeerId, peer_of, same_peer}
use Rattle.law_model.specs.Rules.{goes_out, asks, first_of, or_this, is_from_client}
use Rattle.tftp_ends.specs.{KnownIds, StandsFor, NotesStrays, answers, first_answer, is_noted, other_end, sides_of}
use Rattle.tftp_ends.proofs.NotedPeers.{noted_out, noted_there, noted_stray}

-- the first datagram from the server's side, after a first request
abbrev pub ComesFirst : KnownIds → End → Datagram → Bool
ComesFirst known named d = is_some known.asked && not (is_some known.answered) && not (is_from_client named d)

pub first_stays : {X : Type 0} (test : X → Bool) (x y : X) (xs : List X) → first_of test xs ≡ Some y → first_of test (x ∷ xs) ≡ Some y
first_stays test x y xs is = ap (λ o. or_this o (test x) x) is

pub or_kept : {X : Type 0} (o : Option X) (x : X) → or_this o false x ≡ o
or_kept None x = refl
or_kept (Some y) x = refl

pub map_none : {X Y : Type 0} (f : X → Y) (o : Option X) → option_map f o ≡ None → o ≡ None
map_none f None e = refl
map_none f (Some x) e = absurd (cc)

pub two_ways : {X : Type 0} (o : Option X) → (o ≡ None) ⊎ ((x : X) × (o ≡ Some x))
two_ways None = inl refl
two_ways (Some x) = inr (x, refl)

module _ (h : Header) (known : KnownIds) (earlier : List Datagram) (stands : StandsFor known h earlier) (d first : Datagram) (some : first_of (asks h) earlier ≡ Some first) where
  pub asked_is : known.asked ≡ Some (sides_of first)
  asked_is = stands.asked ∙ ap (option_map sides_of) some

  pub answered_is : known.answered ≡ option_map sides_of (first_of (answers h.named first) earlier)
  answered_is = stands.answered ∙ ap (λ o. option_map sides_of (first_answer h.named earlier o)) some

  pub stands_on : (new : KnownIds) → new.header ≡ known.header → new.asked ≡ known.asked
      → new.answered ≡ option_map sides_of (first_of (answers h.named first) (d ∷ earlier))
      → NotesStrays new.strays (other_end h.named new.asked new.answered) (d ∷ earlier) → StandsFor new h (d ∷ earlier)
  stands_on new header asked answered notes =
      let stays = first_stays (asks h) d first earlier some in
      let begun : new.asked ≡ Some (sides_of first) = asked ∙ asked_is in
      record {
        header = header ∙ stands.header;
        asked = begun ∙ ap (option_map sides_of) (sym stays);
        answered = answered ∙ ap (λ o. option_map sides_of (first_answer h.named (d ∷ earlier) o)) (sym stays);
        strays = notes;
        begins = λ none. let no : None ≡ Some (sides_of first) = sym none ∙ begun in absurd (cc);
      }

-- ---- after the first request, where nothing new is fixed

module _ (h : Header) (known : KnownIds) (earlier : List Datagram) (stands : StandsFor known h earlier) (d first : Datagram) (some : first_of (asks h) earlier ≡ Some first) where
  -- it goes out, and the server's side is known or it does not come from there
  pub stays_out : goes_out d ≡ true → first_of (answers h.named first) (d ∷ earlier) ≡ first_of (answers h.named first) earlier → StandsFor known h (d ∷ earlier)
  stays_out out same = stands_on h known earlier stands d first some known refl refl
      (answered_is h known earlier stands d first some ∙ ap (option_map sides_of) (sym same))
      (noted_out known.strays earlier d (other_end h.named known.asked known.answered) out stands.strays)

  -- it comes in, from the other end
  pub stays_in : goes_out d ≡ false → first_of (answers h.named first) (d ∷ earlier) ≡ first_of (answers h.named first) earlier
      → (other : PeerId) → other_end h.named known.asked known.answered ≡ Some other → same_peer (peer_of d) other ≡ true → StandsFor known h (d ∷ earlier)
  stays_in back same other is there = stands_on h known earlier stands d first some known refl refl
      (answered_is h known earlier stands d first some ∙ ap (option_map sides_of) (sym same))
      (subst (λ o. NotesStrays known.strays o (d ∷ earlier)) (sym is)
      (noted_there known.strays earlier d other back there (subst (λ o. NotesStrays known.strays o earlier) is stands.strays)))

  -- it comes in, and not from the other end
  pub strays_in : (more : List PeerId) → goes_out d ≡ false → first_of (answers h.named first) (d ∷ earlier) ≡ first_of (answers h.named first) earlier
      → (other : PeerId) → other_end h.named known.asked known.answered ≡ Some other → same_peer (peer_of d) other ≡ false
      → ((peer : PeerId) → is_noted peer more ≡ (same_peer (peer_of d) peer || is_noted peer known.strays))
      → StandsFor (record { header = known.header; asked = known.asked; answered = known.answered; strays = more }) h (d ∷ earlier)
  strays_in more back same other is apart adds = stands_on h known earlier stands d first some (record { header = known.header; asked = known.asked; answered = known.answered; strays = more }) refl refl
      (answered_is h known earlier stands d first some ∙ ap (option_map sides_of) (sym same))
      (subst (λ o. NotesStrays more o (d ∷ earlier)) (sym is)
      (noted_stray known.strays earlier d other more back apart adds (subst (λ o. NotesStrays known.strays o earlier) is stands.strays)))
