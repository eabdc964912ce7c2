-- What comes after a client's line is silent leaves all that is said of its transfers as it is.
use Rattle.std.proofs.Common.{◌≡◌, ℕ, Bool, false, cond, List, [], ◌∷◌, ◌++◌, Option, Some, None, IfSome, option_map, arith, length, filter, map, inl, inr, refl, sym, ap, subst, ◌∙◌, if◌then◌else◌}
use Rattle.std.proofs.lemmas.List.Elements.{filter_agree}
use Rattle.tftp_packet.specs.{In, Out, Rollover}
use Rattle.law_tap.specs.{AreApart}
use Rattle.audit_flows.specs.Lines.{Placed, agrees_late, comes_in, follows_request, follows_strays, follows_unanswered, goes_on_with_first, is_asked_again, is_disordered, is_late, newest_of, says_first_word, says_unknown_id}
use Rattle.audit_flows.specs.{Beside, Place, Talks, Transfer, TransferDoubts}
use Rattle.audit_flows.specs.Transfers.{IsDoubtedAfter, is_about, is_end, opened_it, placed, server_of, server_view}
use Rattle.audit_flows.proofs.LinesLemmas.Lines.{by_test}
use Rattle.audit_flows.proofs.TransfersLemmas.OwnDatagrams.{about_none, seen_none}
use Rattle.audit_spared.specs.Finality.{AreSameDoubts, IsFinal, IsSilent, opened as opened_there}
use Rattle.audit_spared.proofs.FinalityLemmas.Silent.{silent_is_final}
use Rattle.audit_views.specs.Parties.{host_name}
use Rattle.audit_views.specs.Views.{IsFoundBy, captured, captured_at_client, captured_at_server, client_header, server_capture, server_header, way_at_server}
use Rattle.audit_recording.specs.Audit.Audited.{placed_after}
use Rattle.audit_recording.specs.Between.{IsBetweenFoundBy, between_capture, passed_of, sides_of, sides_with}
use Rattle.audit_recording.specs.Blame.Facts.{blamed_as, blamed_of}
use Rattle.audit_recording.specs.Blame.Frames.{Carried, Framed, datagrams_of, framed, framed_after, is_seen, numbered, view_of, whole_of}
use Rattle.audit_recording.specs.Blame.Kept.{IsTrailOf, sent_of}
use Rattle.audit_recording.specs.Judges.{opened, rollover_of}
use Rattle.audit_recording.specs.Reasons.Twice.{are_twice}
use Rattle.audit_recording.specs.Session.Noted.{Noticed}
use Rattle.audit_recording.specs.Session.Over.{IsOver}
use Rattle.audit_recording.specs.declared.blame.trail.Trail.{Trail}
use Rattle.audit_recording.specs.declared.judges.judging.Judging.{Judging}
use Rattle.audit_recording.specs.declared.rows.row.Point.{Point}
use Rattle.audit_recording.specs.declared.rows.row.Point.TheVariants as point
use Rattle.audit_recording.proofs.BlameLemmas.Trailing.{trail_passed_by}
use Rattle.audit_rows.specs.{IsJudgedOf}
use Rattle.audit_rows.specs.Viewing.{IsFoundAt, IsViewAt, IsViewBy, number_in}
use Rattle.audit_rows.specs.declared.found.Found.{Found}
use Rattle.audit_rows.specs.declared.found.Found.TheVariants.{AtEnd, Between}
use Rattle.audit_rows.specs.declared.judged.Judged.{Judged}
use Rattle.audit_rows.specs.declared.viewed.Viewed.{Viewed}
use Rattle.tftp_rows.specs.Whole.{AreOf, AreTold, IsPartOf, IsToldNext, Part, Telling}
use Rattle.tftp_rows.proofs.OrderLemmas.{part_of}

appended : (later carried : List Carried) → datagrams_of (later ++ carried) ≡ datagrams_of later ++ datagrams_of carried
appended [] carried = refl
appended (c ∷ later) carried = ap (λ l. c.datagram ∷ l) (appended later carried)

-- what adds nothing to those that pass a test does not pass it
added_none : (test : Placed → Bool) (p : Placed) (ps known : List Placed) → filter test (p ∷ ps) ≡ known → filter test ps ≡ known → test p ≡ false
added_none test p ps known more same = by_test (test p)
    (λ is. let longer : p ∷ filter test ps ≡ known = sym (ap (λ b. cond b (p ∷ filter test ps) (filter test ps)) is) ∙ more in
    let both : length (p ∷ filter test ps) ≡ length (filter test ps) = ap length (longer ∙ sym same) in absurd (omega (arith, both)))
    (λ off. off)

map_agree : {X Y : Type 0} (f g : X → Y) → ((x : X) → f x ≡ g x) → (xs : List X) → map f xs ≡ map g xs
map_agree f g same [] = refl
map_agree f g same (x ∷ xs) = ap (λ y. y ∷ map f xs) (same x) ∙ ap (λ ys. g x ∷ ys) (map_agree f g same xs)

if_so : {X : Type 0} (P Q : X → Type 0) (o : Option X) → ((x : X) → P x → Q x) → IfSome o P → IfSome o Q
if_so P Q None so is = is
if_so P Q (Some x) so is = so x is

same_opened : (n : ℕ) (ps : List Placed) → opened_there n ps ≡ opened n ps
same_opened n ps = by (newest_of (opened_it n) ps) refl where
  by : (found : Option Placed) → newest_of (opened_it n) ps ≡ found → opened_there n ps ≡ opened n ps
  by None is = rw is refl
  by (Some p) is = rw is refl

-- ---- what the ends saw

way_same : (x : Transfer) (one other : List Placed) → server_of x.number one ≡ server_of x.number other → (p : Placed) → way_at_server x one p ≡ way_at_server x other p
way_same x one other same p = by p.place refl where
  by : (place : Place) → p.place ≡ place → way_at_server x one p ≡ way_at_server x other p
  by (Beside y) is = rw is (ap (λ s. if is_end p.datagram.source s then Out else In) same)
  by (Talks y) is = rw is refl
  by _ is = rw is refl

found_on : (o : Option Rollover) (x : Transfer) (before after : List Placed) → IsFinal x.number before after → (at : Point) (found : Found) → IsFoundAt o at x before found → IsFoundAt o at x after found
found_on o x before after final point.Client (AtEnd found) is =
    subst (λ v. IsFoundBy o (client_header x) (map (captured_at_client host_name x) v) found) (sym final.client) is
found_on o x before after final point.Server (AtEnd found) is =
    let same : server_capture host_name x after after ≡ server_capture host_name x before before =
    map_agree (captured_at_server host_name x after) (captured_at_server host_name x before)
    (λ p. ap (λ way. captured host_name way p.datagram) (way_same x after before final.who p)) (server_view x.number after)
    ∙ ap (map (captured_at_server host_name x before)) final.server in
    subst (λ c. IsFoundBy o (server_header x) c found) (sym same) is
found_on o x before after final point.Between (Between found) is =
    subst (λ s. IsBetweenFoundBy o (sides_with x s) (between_capture x after) found) (sym final.who)
    (subst (λ v. IsBetweenFoundBy o (sides_of x before) (map (λ p. passed_of p.datagram) v) found) (sym final.client) is)
found_on o x before after final point.Client (Between found) is = absurd is
found_on o x before after final point.Server (Between found) is = absurd is
found_on o x before after final point.Between (AtEnd found) is = absurd is

-- the doubts of the division are those that they were
doubted_on : (d : TransferDoubts) (before after : List Placed) → AreSameDoubts d.number before after → IsDoubtedAfter d before → IsDoubtedAfter d after
doubted_on d before after same was = record {
  agrees_late = was.agrees_late ∙ sym (same.some agrees_late);
  says_unknown_id = was.says_unknown_id ∙ sym (same.some (λ q older. says_unknown_id q));
  says_first_word = was.says_first_word ∙ sym (same.some says_first_word);
  is_late = was.is_late ∙ sym (same.some is_late);
  is_disordered = was.is_disordered ∙ sym (same.some is_disordered);
  is_asked_again = was.is_asked_again ∙ sym (same.some is_asked_again);
  is_answered_apart = was.is_answered_apart ∙ sym same.answered;
  follows_strays = was.follows_strays ∙ sym (same.some follows_strays);
  follows_unanswered = was.follows_unanswered ∙ sym (same.some follows_unanswered);
  follows_request = was.follows_request ∙ sym (same.some follows_request);
  comes_in = was.comes_in ∙ sym (same.some comes_in);
  goes_on_with_first = was.goes_on_with_first ∙ sym (same.some goes_on_with_first);
}

-- ---- all of it

module _ (named : List ℕ) (carried : List Carried) (x : Transfer) (opens : opened x.number (whole_of named carried) ≡ Some x) (silent : IsSilent x.client (whole_of named carried)) where
  final : (later : List Carried) → IsFinal x.number (whole_of named carried) (whole_of named (later ++ carried))
  final later = subst (λ l. IsFinal x.number (whole_of named carried) (placed named l)) (sym (appended later carried))
      (silent_is_final named (datagrams_of carried) (datagrams_of later) x.number x (same_opened x.number (whole_of named carried) ∙ opens) silent)

  pub opened_on : (later : List Carried) → opened x.number (whole_of named (later ++ carried)) ≡ Some x
  opened_on later =
      sym (same_opened x.number (whole_of named (later ++ carried))) ∙ ((final later).transfer ∙ (same_opened x.number (whole_of named carried) ∙ opens))

  pub new_apart : (c : Carried) (later : List Carried) → is_about x.number (placed_after named (whole_of named (later ++ carried)) c.datagram) ≡ false
  new_apart c later = added_none (is_about x.number) (placed_after named (whole_of named (later ++ carried)) c.datagram) (whole_of named (later ++ carried))
      (filter (is_about x.number) (whole_of named carried)) ((final (c ∷ later)).about) ((final later).about)

  trail_on : (later : List Carried) (t : Trail) (judging : Judging) → IsTrailOf t judging x named carried → IsTrailOf t judging x named (later ++ carried)
  trail_on [] t judging was = was
  trail_on (c ∷ later) t judging was = trail_passed_by t judging x named c (later ++ carried) (new_apart c later) (trail_on later t judging was)

  seen_own : (at : Point) (f : Framed) → is_about x.number f.placed ≡ false → is_seen at x.number (whole_of named carried) f.placed ≡ false
  seen_own point.Client f off = about_none x.number f.placed off
  seen_own point.Server f off = seen_none x.number (whole_of named carried) f.placed off
  seen_own point.Between f off = about_none x.number f.placed off

  seen_same : (at : Point) (later : List Carried) (f : Framed) → is_seen at x.number (whole_of named (later ++ carried)) f.placed ≡ is_seen at x.number (whole_of named carried) f.placed
  seen_same point.Client later f = refl
  seen_same point.Server later f = (final later).seen f.placed
  seen_same point.Between later f = refl

  filter_on : (at : Point) (later : List Carried) → filter (λ f. is_seen at x.number (whole_of named carried) f.placed) (framed named (later ++ carried))
      ≡ filter (λ f. is_seen at x.number (whole_of named carried) f.placed) (framed named carried)
  filter_on at [] = refl
  filter_on at (c ∷ later) =
      let f : Framed = framed_after named (later ++ carried) c in
      let rest = filter (λ f. is_seen at x.number (whole_of named carried) f.placed) (framed named (later ++ carried)) in
      ap (λ b. cond b (f ∷ rest) rest) (seen_own at f (new_apart c later)) ∙ filter_on at later

  view_on : (at : Point) (later : List Carried) → view_of at x.number named (later ++ carried) ≡ view_of at x.number named carried
  view_on at later =
      filter_agree (λ f. is_seen at x.number (whole_of named (later ++ carried)) f.placed) (λ f. is_seen at x.number (whole_of named carried) f.placed)
      (seen_same at later) (framed named (later ++ carried))
      ∙ filter_on at later

  blamed_on : (at : Point) (later : List Carried) (number : Option ℕ) → blamed_as at x named (later ++ carried) number ≡ blamed_as at x named carried number
  blamed_on at later None = refl
  blamed_on at later (Some number) = ap (λ v. option_map (blamed_of x) (numbered v number)) (view_on at later)

  viewed_on : (at : Point) (later : List Carried) (v : Viewed) → IsViewAt at x named carried v → IsViewAt at x named (later ++ carried) v
  viewed_on at later v was = record {
    found = found_on v.rollover x (whole_of named carried) (whole_of named (later ++ carried)) (final later) at v.found was.found;
    blamed = was.blamed ∙ sym (blamed_on at later (number_in v.found));
  }

  viewed_by : (o : Option Rollover) (at : Point) (later : List Carried) (v : Viewed) → IsViewBy o at x named carried v → IsViewBy o at x named (later ++ carried) v
  viewed_by o at later v was = (was.0, viewed_on at later v was.1)

  pub judged_on : (later : List Carried) (j : Judged) (judging : Judging) → IsJudgedOf j judging x named carried → IsJudgedOf j judging x named (later ++ carried)
  judged_on later j judging was = record {
    trail = trail_on later j.trail judging was.trail;
    doubts = doubted_on j.doubted.doubts (whole_of named carried) (whole_of named (later ++ carried))
        (subst (λ n. AreSameDoubts n (whole_of named carried) (whole_of named (later ++ carried))) (sym was.kept.number) (final later).doubts) was.doubts;
    kept = record {
      number = was.kept.number;
      is_twice = was.kept.is_twice ∙ ap (λ v. are_twice (map sent_of v)) (sym (view_on point.Client later));
      begins = was.kept.begins;
      is_one_way = was.kept.is_one_way;
      copied_from = was.kept.copied_from;
      damaged = was.kept.damaged;
      discarded = was.kept.discarded;
      joined = was.kept.joined;
      goes_on = was.kept.goes_on;
      left_out = was.kept.left_out;
    };
    at_client = was.at_client;
    at_server = was.at_server;
    at_between = was.at_between;
    client = if_so (IsViewBy (rollover_of judging) point.Client x named carried) (IsViewBy (rollover_of judging) point.Client x named (later ++ carried)) j.client
        (viewed_by (rollover_of judging) point.Client later) was.client;
    server = if_so (IsViewBy (rollover_of judging) point.Server x named carried) (IsViewBy (rollover_of judging) point.Server x named (later ++ carried)) j.server
        (viewed_by (rollover_of judging) point.Server later) was.server;
    between = λ apart. if_so (IsViewBy (rollover_of judging) point.Between x named carried) (IsViewBy (rollover_of judging) point.Between x named (later ++ carried)) j.between
        (viewed_by (rollover_of judging) point.Between later)
        (was.between (subst (λ s. AreApart (sides_with x s)) (final later).who apart));
  }

-- ---- what was told

pub silent_of : (j : Judged) (judging : Judging) (x : Transfer) (named : List ℕ) (carried : List Carried) (s : Noticed) → IsJudgedOf j judging x named carried → IsOver j.trail named carried s
    → IsSilent x.client (whole_of named carried)
silent_of j judging x named carried s of over = subst (λ (y : Transfer). IsSilent y.client (whole_of named carried)) of.trail.transfer over.silent

-- what was over is so by all that comes later
pub of_later : (j : Judged) (judging : Judging) (x : Transfer) (named : List ℕ) (carried later : List Carried) (s : Noticed) → opened x.number (whole_of named carried) ≡ Some x
    → IsJudgedOf j judging x named carried → IsOver j.trail named carried s → (opened x.number (whole_of named (later ++ carried)) ≡ Some x) × IsJudgedOf j judging x named (later ++ carried)
of_later j judging x named carried later s opens of over =
    let silent = silent_of j judging x named carried s of over in
    (opened_on named carried x opens silent later, judged_on named carried x opens silent later j judging of)

abbrev IsSaid : Judged → Judging → Transfer → List ℕ → List Carried → Type 0
IsSaid j judging x named carried = (opened x.number (whole_of named carried) ≡ Some x) × IsJudgedOf j judging x named carried

-- one that was told is of all that was read, whether it was over or the recording had ended
said_by_all : (name : List ℕ) (judging : Judging) (named : List ℕ) (last p all : Part) (t : Telling) (older : List Telling) → last.carried ≡ all.carried → IsPartOf p all
    → IsToldNext name judging named (Some last) p t older → IsSaid t.judged judging t.transfer named all.carried
said_by_all name judging named last p all t older same part told = elim told.due [
  | inl over ↦ subst (IsSaid t.judged judging t.transfer named) (sym part.datagrams)
      (of_later t.judged judging t.transfer named p.carried part.next_carried p.noticed told.next.opens told.of over.1)
  | inr end ↦
      (let this : last ≡ p = cc in
      subst (IsSaid t.judged judging t.transfer named) (sym (ap {A = Part} (λ q. q.carried) this) ∙ same) (told.next.opens, told.of))
]

pub are_of : (name : List ℕ) (judging : Judging) (named : List ℕ) (last all p : Part) (ts : List Telling) → last.carried ≡ all.carried → IsPartOf p all → AreTold name judging named (Some last) p ts
    → AreOf name judging named all.carried ts
are_of name judging named last all p [] same part told = tt
are_of name judging named last all p (t ∷ older) same part told =
    let here = part_of told.0 p all told.1 part in
    let said = said_by_all name judging named last told.0 all t older same here told.2 in
    (said.0, said.1, told.2.rows, are_of name judging named last all told.0 older same here told.3)
