-- What the client's capture shows, the capture between the ends shows: by the same run, with the same labels.
use Rattle.std.proofs.Common.{◌≡◌, ℕ, List, [], ◌∷◌, Contains, inl, inr, refl, sym, ap, subst, ◌∙◌, map, reverse}
use Rattle.std.specs.List.{AllByRecursion}
use Rattle.std.proofs.lemmas.List.{reverse-reverse}
use Rattle.tftp_packet.specs.{Client, Side, Get, Put}
use Rattle.tftp_packet.specs.Hosts.{Datagram}
use Rattle.law_model.specs.Model.{Meaning, MachinePacket, Ack, Took, History, HasTaken, IsOneSided, IsComplete, blksize_of, block_count}
use Rattle.law_model.specs.Model.Machines.{receiver_of}
use Rattle.law_model.proofs.ModelLemmas.Members.{contains_first, contains_later, contains_cases, contains_none}
use Rattle.law_model.proofs.ModelLemmas.OneSided.{view_one_sided}
use Rattle.law_end.specs.{IsSeen, IsLawful, ShowsBy, OneEnded, Meant, Division, view_in, HaveLabelsBy, says_of, Starts}
use Rattle.law_end.proofs.Division.Routed.{starts_of}
use Rattle.law_end.proofs.Whole.TwoEnds.{lawful, whole}
use Rattle.audit_flows.specs.Lines.{Placed}
use Rattle.audit_flows.specs.{Transfer}
use Rattle.audit_flows.specs.Transfers.{server_of}
use Rattle.law_tap.specs.{pass_of, tapped_at, TapDatagram, TapSides, AreApart, IsLawfulBetween, ShowsBetween, BreaksNoTapRule}
use Rattle.law_tap.specs.TapDress.{IsTapDressed}
use Rattle.law_tap.proofs.Beside.{view_is_tapped, sent_passed}
use Rattle.law_tap.proofs.TapLaw.{rules_are_runs}
use Rattle.audit_cleared.specs.{IsOpenedIn}
use Rattle.audit_views.specs.Views.{captured_at_client, client_header}
use Rattle.audit_views.specs.Parties.{host_name}
use Rattle.audit_recording.specs.Between.{passed_of, peer_of as side, server_or_asked, sides_with}
use Rattle.audit_cleared.proofs.Own.{IsOwn}
use Rattle.audit_cleared.proofs.Pairs.{Pair, Paired, paired, placed_in, division_of, division_there, same_there, same_passed}
use Rattle.audit_cleared.proofs.Told.{Labels, told_all}
use Rattle.audit_cleared.proofs.Server.{IsNamedApart, server_is, asked_is}
use Rattle.audit_cleared.proofs.There.{labels_there}

abbrev pub sides_by : Transfer → List Placed → TapSides
sides_by x ps = sides_with x (server_of x.number ps)

abbrev pub passed_by : List Placed → List TapDatagram
passed_by ps = map (λ p. passed_of p.datagram) ps

abbrev pub capture_by : Transfer → List Placed → List Datagram
capture_by x ps = map (captured_at_client host_name x) ps

-- what is asked of the datagrams of a transfer
pub record AreOwn (x : Transfer) (ps : List Placed) : Type 0 where
  pub own : AllByRecursion (IsOwn x) ps
  pub named_apart : AllByRecursion (IsNamedApart x) ps
  pub opened : IsOpenedIn x ps

-- the sides are apart, and what passed there divides as at the client
pub record IsDressedThere (x : Transfer) (m : Meaning) (wire : List ℕ) (view : History) (ps : List Placed) : Type 0 where
  pub apart : AreApart (sides_by x ps)
  pub dressed : IsTapDressed (sides_by x ps) m wire (tapped_at Client view) (passed_by ps)

module _ (x : Transfer) (asked_apart : side x.client ≡ side x.asked → ⊥) (m : Meaning) (wire : List ℕ) where
  dressed_pairs : (pairs : List Pair) (s : IsSeen (client_header x) m wire (reverse (capture_by x (placed_in pairs)))) → AreOwn x (placed_in pairs) → division_of x pairs ≡ s.dressed.division
      → IsDressedThere x m wire s.view (placed_in pairs)
  dressed_pairs pairs s are same =
      let own : IsOneSided m wire Client (view_in s.dressed.division) = subst (IsOneSided m wire Client) (sym s.dressed.main) (view_one_sided m wire Client s.view s.run) in
      let starts : Starts Client (view_in s.dressed.division) = starts_of (client_header x) m wire s.dressed.ids s.dressed.division s.dressed.labels own in
      let labels : Labels x m wire s.dressed.ids pairs = subst (HaveLabelsBy (client_header x) (says_of m wire) s.dressed.ids) (sym same) s.dressed.labels in
      let told = told_all x m wire s.dressed.ids pairs labels (subst (λ (d : Division). Starts Client (view_in d)) (sym same) starts) are.own in
      let server = server_is x m wire s.dressed.ids pairs told are.own are.named_apart asked_apart in
      let asked = asked_is x m wire s.dressed.ids pairs told are.own are.opened in
      record {
        apart = record { server = server.apart; asked = asked_apart };
        dressed = record {
          division = division_there pairs;
          whole = same_there pairs;
          main = same_passed x pairs ∙ ap (tapped_at Client) (ap (λ (d : Division). view_in d) same ∙ s.dressed.main);
          labels = labels_there x m wire s.dressed.ids (server_or_asked x (server_of x.number (placed_in pairs))) asked server.apart pairs told are.named_apart server.known;
        };
      }

  dressed_there : (ps : List Placed) (s : IsSeen (client_header x) m wire (reverse (capture_by x ps))) → AreOwn x ps → IsDressedThere x m wire s.view ps
  dressed_there ps s are = by (paired x ps s.dressed.division (s.dressed.whole ∙ reverse-reverse (capture_by x ps))) where
    by : Paired x ps s.dressed.division → IsDressedThere x m wire s.view ps
    by p = subst (λ qs. (t : IsSeen (client_header x) m wire (reverse (capture_by x qs))) → AreOwn x qs → division_of x p.pairs ≡ t.dressed.division → IsDressedThere x m wire t.view qs) p.placed
        (λ t. dressed_pairs p.pairs t) s are p.divided

  seen_by : (ps : List Placed) (s : IsSeen (client_header x) m wire (reverse (capture_by x ps))) → IsDressedThere x m wire s.view ps → IsLawfulBetween (sides_by x ps) (passed_by ps)
  seen_by ps s there = (m, wire, record { fits = s.fits; passed = tapped_at Client s.view; view = view_is_tapped m wire Client s.view s.run; dressed = there.dressed })

  -- ---- what is whole

  took_passed : (h : History) (p : MachinePacket) → HasTaken h p → Contains (tapped_at Client h) (pass_of Client (Took p))
  took_passed [] p at = absurd (contains_none (Took p) at)
  took_passed (d ∷ h) p at = elim (contains_cases d h (Took p) at) [
    | inl now ↦ subst (λ e. Contains (pass_of Client e ∷ tapped_at Client h) (pass_of Client (Took p))) (sym now) (contains_first (pass_of Client (Took p)) (tapped_at Client h))
    | inr before ↦ contains_later (pass_of Client d) (tapped_at Client h) (pass_of Client (Took p)) (took_passed h p before)
  ]

  whole_passed : (h : History) → IsComplete m wire Client h → (side : Side) → m.side ≡ side → Contains (tapped_at Client h) (record { from = receiver_of side; packet = Ack (block_count (blksize_of m) wire) })
  whole_passed h complete Get is = sent_passed Client h (Ack (block_count (blksize_of m) wire)) (complete.acknowledged (rw is refl))
  whole_passed h complete Put is = took_passed h (Ack (block_count (blksize_of m) wire)) (complete.was_told (rw is refl))

  shown_by : (ps : List Placed) → ShowsBy (client_header x) m wire (reverse (capture_by x ps)) → AreOwn x ps → ShowsBetween (sides_by x ps) m wire (passed_by ps)
  shown_by ps shows are = record {
    seen = record {
      fits = shows.seen.fits;
      passed = tapped_at Client shows.seen.view;
      view = view_is_tapped m wire Client shows.seen.view shows.seen.run;
      dressed = (dressed_there ps shows.seen are).dressed;
    };
    whole = whole_passed shows.seen.view shows.complete m.side refl;
  }

-- ---- by the rules

breaks_by : (s : TapSides) (passed : List TapDatagram) → AreApart s → IsLawfulBetween s passed → BreaksNoTapRule s passed
breaks_by s passed apart lawful_there = (rules_are_runs s apart passed).0 lawful_there

module _ (x : Transfer) (asked_apart : side x.client ≡ side x.asked → ⊥) (ps : List Placed) (are : AreOwn x ps) where
  run_of : OneEnded (client_header x) (capture_by x ps) → IsLawful (client_header x) (reverse (capture_by x ps))
  run_of one = (lawful (client_header x) (reverse (capture_by x ps))).1 (subst (OneEnded (client_header x)) (sym (reverse-reverse (capture_by x ps))) one)

  lawful_there : IsLawful (client_header x) (reverse (capture_by x ps)) → IsLawfulBetween (sides_by x ps) (passed_by ps)
  lawful_there (m, wire, s) = seen_by x asked_apart m wire ps s (dressed_there x asked_apart m wire ps s are)

  apart_there : IsLawful (client_header x) (reverse (capture_by x ps)) → AreApart (sides_by x ps)
  apart_there (m, wire, s) = (dressed_there x asked_apart m wire ps s are).apart

  pub breaks_none : OneEnded (client_header x) (capture_by x ps) → BreaksNoTapRule (sides_by x ps) (passed_by ps)
  breaks_none one = breaks_by (sides_by x ps) (passed_by ps) (apart_there (run_of one)) (lawful_there (run_of one))

  pub shows_same : (m : Meaning) → Meant (client_header x) (capture_by x ps) m → (wire : List ℕ) × ShowsBetween (sides_by x ps) m wire (passed_by ps)
  shows_same m meant = by ((whole (client_header x) m (reverse (capture_by x ps))).0 (subst (λ ds. Meant (client_header x) ds m) (sym (reverse-reverse (capture_by x ps))) meant)) where
    by : (wire : List ℕ) × ShowsBy (client_header x) m wire (reverse (capture_by x ps)) → (wire : List ℕ) × ShowsBetween (sides_by x ps) m wire (passed_by ps)
    by (wire, shows) = (wire, shown_by x asked_apart m wire ps shows are)
