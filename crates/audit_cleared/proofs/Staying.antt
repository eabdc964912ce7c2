-- What comes after a client's line is silent leaves the refusals of its transfers, their frames and the lack of doubts as they are.
use Rattle.std.proofs.Common.{◌≡◌, ℕ, Bool, false, cond, List, [], ◌∷◌, ◌++◌, Option, Some, Err, arith, length, filter, map, reverse, refl, sym, ap, subst, ◌∙◌, if◌then◌else◌}
use Rattle.std.proofs.lemmas.List.Elements.{filter_agree}
use Rattle.tftp_packet.specs.{In, Out, Rollover}
use Rattle.law_end.specs.{Rule}
use Rattle.law_tap.specs.{AreApart}
use Rattle.tftp_judge.specs.{IsSaidBy, Unlawful}
use Rattle.judge_tap.specs.declared.refusal.TapRefusal.TheVariants as tap
use Rattle.audit_flows.specs.Lines.{Placed}
use Rattle.audit_flows.specs.{Beside, Place, Talks, Transfer}
use Rattle.audit_flows.specs.Transfers.{is_about, is_end, placed, server_of, server_view}
use Rattle.audit_flows.proofs.LinesLemmas.Lines.{by_test}
use Rattle.audit_flows.proofs.TransfersLemmas.OwnDatagrams.{about_none, seen_none}
use Rattle.audit_spared.specs.Finality.{IsFinal, IsSilent, opened}
use Rattle.audit_spared.proofs.FinalityLemmas.Silent.{opened_has_number, silent_is_final}
use Rattle.audit_views.specs.Parties.{host_name}
use Rattle.audit_views.specs.Views.{captured, captured_at_client, captured_at_server, client_header, server_capture, server_header, way_at_server}
use Rattle.audit_recording.specs.Audit.Audited.{placed_after}
use Rattle.audit_recording.specs.Between.{IsBetweenFoundBy, between_capture, passed_of, sides_of, sides_with}
use Rattle.audit_recording.specs.Blame.Facts.{IsRefusedAt}
use Rattle.audit_recording.specs.Blame.Frames.{Carried, Framed, datagrams_of, framed, framed_after, is_seen, numbered, view_of, whole_of}
use Rattle.audit_recording.specs.declared.rows.row.Point.{Point}
use Rattle.audit_recording.specs.declared.rows.row.Point.TheVariants.{Client, Server, Between}
use Rattle.audit_cleared.specs.Accused.{IsAccusation, is_doubtful_there}

appended : (later carried : List Carried) → datagrams_of (later ++ carried) ≡ datagrams_of later ++ datagrams_of carried
appended [] carried = refl
appended (c ∷ later) carried = ap (λ l. c.datagram ∷ l) (appended later carried)

-- what adds nothing to those that pass a test does not pass it
added_none : (test : Placed → Bool) (p : Placed) (ps known : List Placed) → filter test (p ∷ ps) ≡ known → filter test ps ≡ known → test p ≡ false
added_none test p ps known more same = by_test (test p)
    (λ is. let longer : p ∷ filter test ps ≡ known = sym (ap (λ b. cond b (p ∷ filter test ps) (filter test ps)) is) ∙ more in
    let both : length (p ∷ filter test ps) ≡ length (filter test ps) = ap length (longer ∙ sym same) in absurd (omega (arith, both)))
    (λ off. off)

pub map_agree : {X Y : Type 0} (f g : X → Y) → ((x : X) → f x ≡ g x) → (xs : List X) → map f xs ≡ map g xs
map_agree f g same [] = refl
map_agree f g same (x ∷ xs) = ap (λ y. y ∷ map f xs) (same x) ∙ ap (λ ys. g x ∷ ys) (map_agree f g same xs)

way_same : (x : Transfer) (one other : List Placed) → server_of x.number one ≡ server_of x.number other → (p : Placed) → way_at_server x one p ≡ way_at_server x other p
way_same x one other same p = by p.place refl where
  by : (place : Place) → p.place ≡ place → way_at_server x one p ≡ way_at_server x other p
  by (Beside y) is = rw is (ap (λ s. if is_end p.datagram.source s then Out else In) same)
  by (Talks y) is = rw is refl
  by _ is = rw is refl

module _ (n : ℕ) (named : List ℕ) (carried : List Carried) (x : Transfer) (opens : opened n (whole_of named carried) ≡ Some x) (silent : IsSilent x.client (whole_of named carried)) where
  final : (later : List Carried) → IsFinal n (whole_of named carried) (whole_of named (later ++ carried))
  final later = subst (λ l. IsFinal n (whole_of named carried) (placed named l)) (sym (appended later carried))
      (silent_is_final named (datagrams_of carried) (datagrams_of later) n x opens silent)

  new_apart : (c : Carried) (later : List Carried) → is_about n (placed_after named (whole_of named (later ++ carried)) c.datagram) ≡ false
  new_apart c later = added_none (is_about n) (placed_after named (whole_of named (later ++ carried)) c.datagram) (whole_of named (later ++ carried))
      (filter (is_about n) (whole_of named carried)) ((final (c ∷ later)).about) ((final later).about)

  -- ---- the views

  seen_own : (point : Point) (f : Framed) → is_about n f.placed ≡ false → is_seen point n (whole_of named carried) f.placed ≡ false
  seen_own Client f off = about_none n f.placed off
  seen_own Server f off = seen_none n (whole_of named carried) f.placed off
  seen_own Between f off = about_none n f.placed off

  seen_same : (point : Point) (later : List Carried) (f : Framed) → is_seen point n (whole_of named (later ++ carried)) f.placed ≡ is_seen point n (whole_of named carried) f.placed
  seen_same Client later f = refl
  seen_same Server later f = (final later).seen f.placed
  seen_same Between later f = refl

  filter_on : (point : Point) (later : List Carried) → filter (λ f. is_seen point n (whole_of named carried) f.placed) (framed named (later ++ carried))
      ≡ filter (λ f. is_seen point n (whole_of named carried) f.placed) (framed named carried)
  filter_on point [] = refl
  filter_on point (c ∷ later) =
      let f : Framed = framed_after named (later ++ carried) c in
      let rest = filter (λ f. is_seen point n (whole_of named carried) f.placed) (framed named (later ++ carried)) in
      ap (λ b. cond b (f ∷ rest) rest) (seen_own point f (new_apart c later)) ∙ filter_on point later

  view_on : (point : Point) (later : List Carried) → view_of point n named (later ++ carried) ≡ view_of point n named carried
  view_on point later =
      filter_agree (λ f. is_seen point n (whole_of named (later ++ carried)) f.placed) (λ f. is_seen point n (whole_of named carried) f.placed)
      (seen_same point later) (framed named (later ++ carried))
      ∙ filter_on point later

  doubts_on : (point : Point) (later : List Carried) (f : Framed) → is_doubtful_there point n (whole_of named (later ++ carried)) f ≡ is_doubtful_there point n (whole_of named carried) f
  doubts_on Client later f = (final later).doubts.at_client f.placed f.before
  doubts_on Server later f = (final later).doubts.at_server f.placed f.before
  doubts_on Between later f = (final later).doubts.between f.placed f.before

-- ---- the verdict

refused_on : (o : Option Rollover) (x : Transfer) (before after : List Placed) → IsFinal x.number before after → (point : Point) (number : ℕ) (rule : Rule) → IsRefusedAt o point x before number rule → IsRefusedAt o point x after number rule
refused_on o x before after final Client number rule is =
    subst (λ v. IsSaidBy o (Err (Unlawful number rule)) (client_header x) (reverse (map (captured_at_client host_name x) v))) (sym final.client) is
refused_on o x before after final Server number rule is =
    let same : server_capture host_name x after after ≡ server_capture host_name x before before =
    map_agree (captured_at_server host_name x after) (captured_at_server host_name x before)
    (λ p. ap (λ way. captured host_name way p.datagram) (way_same x after before final.who p)) (server_view x.number after)
    ∙ ap (map (captured_at_server host_name x before)) final.server in
    subst (λ c. IsSaidBy o (Err (Unlawful number rule)) (server_header x) (reverse c)) (sym same) is
refused_on o x before after final Between number rule is = (
  subst (λ s. AreApart (sides_with x s)) (sym final.who) is.0,
  is.1,
  subst (λ s. IsBetweenFoundBy o (sides_with x s) (between_capture x after) (Err (tap.Unlawful number rule is.1))) (sym final.who)
      (subst (λ v. IsBetweenFoundBy o (sides_of x before) (map (λ p. passed_of p.datagram) v) (Err (tap.Unlawful number rule is.1))) (sym final.client) is.2),
)

pub stays : (o : Option Rollover) (named : List ℕ) (carried later : List Carried) (n : ℕ) (point : Point) (number : ℕ) (rule : Rule) (frame : ℕ) (a : IsAccusation o named carried n point number rule frame)
    → IsSilent a.transfer.client (whole_of named carried) → IsAccusation o named (later ++ carried) n point number rule frame
stays o named carried later n point number rule frame a silent =
    let e : a.transfer.number ≡ n = opened_has_number n (whole_of named carried) a.transfer a.opens in
    let same : IsFinal n (whole_of named carried) (whole_of named (later ++ carried)) = final n named carried a.transfer a.opens silent later in
    record {
      transfer = a.transfer;
      blamed = a.blamed;
      opens = same.transfer ∙ a.opens;
      refused = refused_on o a.transfer (whole_of named carried) (whole_of named (later ++ carried))
          (subst (λ m. IsFinal m (whole_of named carried) (whole_of named (later ++ carried))) (sym e) same) point number rule a.refused;
      at = ap (λ v. numbered v number) (view_on n named carried a.transfer a.opens silent point later) ∙ a.at;
      in_frame = a.in_frame;
      doubtless = doubts_on n named carried a.transfer a.opens silent point later a.blamed ∙ a.doubtless;
    }
