-- A run shows what is left of a capture where some of the peers that are none of the transfer's are left out.
use Rattle.std.proofs.Common.{◌≡◌, ◌≢◌, ℕ, Bool, List, [], ◌∷◌, ◌++◌, Some, sym, subst, ap, ◌∙◌, reverse, ◌&&◌, ◌||◌, not, cond}
use Rattle.std.specs.List.{list_any, AllByRecursion, filter}
use Rattle.std.proofs.lemmas.List.{reverse-append}
use Rattle.tftp_packet.specs.Hosts.{Datagram, Header, PeerId, peer_of, same_peer}
use Rattle.law_model.specs.Model.{Meaning, IsOneSided}
use Rattle.law_model.specs.Rules.{comes_in, first_of}
use Rattle.law_model.proofs.ModelLemmas.OneSided.{view_one_sided}
use Rattle.law_end.specs.{datagrams_of, view_in, says_of, HaveLabels, Starts, IsSeen, IsLawful, ShowsBy, Shows}
use Rattle.law_end.proofs.Division.Routed.{starts_of, told_of}
use Rattle.law_end.proofs.Division.RouteTests.{other_peer}
use Rattle.law_end.proofs.Whole.Beginnings.{beginning_is_lawful}
use Rattle.audit_spared.specs.Fair.{is_own_request, stays, without, AreApart, wholly_without, AreUnasked}
use Rattle.std.proofs.lemmas.Bool.{or_parts}
use Rattle.std.proofs.Common.{true, false, refl}
use Rattle.audit_spared.proofs.FairLemmas.FirstIn.{mains_stay}
use Rattle.audit_spared.proofs.FairLemmas.Thinned.{thin, labels_thin, view_thin, datagrams_thin, filter_reverse, halves, MainKept}

module _ {X : Type 0} (P : X → Type 0) where
  all_first : (xs ys : List X) → AllByRecursion P (xs ++ ys) → AllByRecursion P xs
  all_first [] ys all = tt
  all_first (x ∷ xs) ys all = (all.0, all_first xs ys all.1)

pub seen_without : (h : Header) (m : Meaning) (wire : List ℕ) (out : PeerId → Bool) (old new : List Datagram) → AreApart out (old ++ new) → IsSeen h m wire (old ++ new) → IsSeen h m wire (old ++ without h out new)
seen_without h m wire out old new apart seen =
    let dress = seen.dressed in
    let two = halves (reverse new) (reverse old) dress.division (dress.whole ∙ reverse-append old new) in
    let labels : HaveLabels h m wire dress.ids (two.newer ++ two.older) = subst (HaveLabels h m wire dress.ids) two.whole dress.labels in
    let main : view_in (two.newer ++ two.older) ≡ seen.view = sym (ap view_in two.whole) ∙ dress.main in
    let own : IsOneSided m wire h.named (view_in (two.newer ++ two.older)) = subst (IsOneSided m wire h.named) (sym main) (view_one_sided m wire h.named seen.view seen.run) in
    let starts : Starts h.named (view_in (two.newer ++ two.older)) = starts_of h m wire dress.ids (two.newer ++ two.older) labels own in
    let whole : datagrams_of (two.newer ++ two.older) ≡ reverse (old ++ new) = sym (ap datagrams_of two.whole) ∙ dress.whole in
    let all = mains_stay h.service h.rollover (says_of m wire) (told_of m wire) dress.ids out h.named (two.newer ++ two.older) labels starts (λ x is. apart x (ap (first_of comes_in) (sym whole) ∙ is)) in
    let kept = all_first (MainKept h (says_of m wire) dress.ids out) two.newer two.older all in record {
      fits = seen.fits;
      view = seen.view;
      run = seen.run;
      dressed = record {
        ids = dress.ids;
        division = thin h (says_of m wire) dress.ids out two.newer two.older;
        whole = datagrams_thin h (says_of m wire) dress.ids out two.newer two.older
            ∙ ap (λ ds. filter (stays h.named out) ds ++ datagrams_of two.older) two.first
            ∙ ap (λ ds. filter (stays h.named out) (reverse new) ++ ds) two.rest
            ∙ ap (λ ds. ds ++ reverse old) (filter_reverse (stays h.named out) new)
            ∙ sym (reverse-append old (without h out new));
        main = view_thin h (says_of m wire) dress.ids out two.newer two.older kept ∙ main;
        labels = labels_thin h (says_of m wire) dress.ids out two.newer two.older kept labels;
      };
    }

pub lawful_without : (h : Header) (out : PeerId → Bool) (old new : List Datagram) → AreApart out (old ++ new) → IsLawful h (old ++ new) → IsLawful h (old ++ without h out new)
lawful_without h out old new apart (m, wire, seen) = (m, wire, seen_without h m wire out old new apart seen)

-- the view is the same, and so it is as complete
pub shown_by_without : (h : Header) (m : Meaning) (wire : List ℕ) (out : PeerId → Bool) (old new : List Datagram) → AreApart out (old ++ new) → ShowsBy h m wire (old ++ new) → ShowsBy h m wire (old ++ without h out new)
unfolding seen_without
shown_by_without h m wire out old new apart shown = record { seen = seen_without h m wire out old new apart shown.seen; complete = shown.complete }

pub shown_without : (h : Header) (m : Meaning) (out : PeerId → Bool) (old new : List Datagram) → AreApart out (old ++ new) → Shows h m (old ++ new) → Shows h m (old ++ without h out new)
shown_without h m out old new apart shows = record { writable = shows.writable; wire = shows.wire; shown = shown_by_without h m shows.wire out old new apart shows.shown }

-- ---- one peer, and the whole capture

pub one_apart : (peer : PeerId) (datagrams : List Datagram) → ((d : Datagram) → first_of comes_in (reverse datagrams) ≡ Some d → peer_of d ≢ peer) → AreApart (same_peer peer) datagrams
one_apart peer datagrams other d is = other_peer peer (peer_of d) (λ e. other d is (sym e))

pub begun_without : (h : Header) (out : PeerId → Bool) (datagrams more : List Datagram) → AreApart out datagrams → IsLawful h (datagrams ++ more) → IsLawful h (without h out datagrams)
begun_without h out datagrams more apart lawful = lawful_without h out [] datagrams apart (beginning_is_lawful h datagrams more lawful)

-- ---- where the client asked none of them, no request is left

own_or_not : (b own : Bool) → (own && b) ≡ false → (not b || own) ≡ not b
own_or_not false own none = refl
own_or_not true false none = refl
own_or_not true true none = none

filter_same : (f g : Datagram → Bool) (d : Datagram) (ds : List Datagram) → f d ≡ g d → filter f ds ≡ filter g ds → filter f (d ∷ ds) ≡ filter g (d ∷ ds)
filter_same f g d ds same rest = ap (λ b. cond b (d ∷ filter f ds) (filter f ds)) same ∙ ap (λ xs. cond (g d) (d ∷ xs) xs) rest

wholly : (h : Header) (out : PeerId → Bool) (ds : List Datagram) → AreUnasked h out ds → without h out ds ≡ wholly_without out ds
wholly h out [] none = refl
wholly h out (d ∷ ds) none =
    let parts = or_parts (is_own_request h.named d && out (peer_of d)) (list_any (λ x. is_own_request h.named x && out (peer_of x)) ds) none in
    filter_same (stays h.named out) (λ x. not (out (peer_of x))) d ds (own_or_not (out (peer_of d)) (is_own_request h.named d) parts.0) (wholly h out ds parts.1)

pub lawful_wholly : (h : Header) (out : PeerId → Bool) (old new : List Datagram) → AreApart out (old ++ new) → AreUnasked h out new → IsLawful h (old ++ new) → IsLawful h (old ++ wholly_without out new)
lawful_wholly h out old new apart unasked lawful = subst (λ ds. IsLawful h (old ++ ds)) (wholly h out new unasked) (lawful_without h out old new apart lawful)

pub shown_wholly : (h : Header) (m : Meaning) (out : PeerId → Bool) (old new : List Datagram) → AreApart out (old ++ new) → AreUnasked h out new → Shows h m (old ++ new) → Shows h m (old ++ wholly_without out new)
shown_wholly h m out old new apart unasked shows = subst (λ ds. Shows h m (old ++ ds)) (wholly h out new unasked) (shown_without h m out old new apart shows)
