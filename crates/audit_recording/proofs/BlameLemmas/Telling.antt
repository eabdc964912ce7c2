-- What the judges tell of the datagrams that they were given: what they refuse, and what they refuse no more. Lists have the
-- newest first.
use Rattle.std.proofs.Common.{◌≡◌, ◌<◌, ◌+◌, ◌||◌, not, arith, ℕ, Bool, true, false, true≢false, List, [], ◌∷◌, ◌++◌, append_assoc, filter, length, map, reverse, Option, Some, None, IfSome, is_some, Result, Err, refl, sym, ap, subst, ◌∙◌}
use Rattle.std.proofs.lemmas.List.{length-map, length-reverse, map-append, reverse-append, reverse-reverse}
use Rattle.std.proofs.lemmas.List.Elements.{filter-append}
use Rattle.tftp_packet.specs.Hosts.{Datagram, Header}
use Rattle.law_end.specs.{OneEnded, Rule}
use Rattle.law_model.specs.Model.{Meaning}
use Rattle.law_tap.specs.{AreApart, BreaksNoTapRule, TapDatagram, TapSides}
use Rattle.tftp_packet.specs.{Rollover}
use Rattle.tftp_judge.specs.{IsJudgeAfter, IsSaidBy, IsVerdict, Judge, Refusal, Unlawful, header_by}
use Rattle.tftp_judge.proofs.TakenText.{AreTaken, front_taken, of_held, one_taken, taken_length}
use Rattle.tftp_judge.proofs.ByRuns.{verdict}
use Rattle.judge_tap.specs.{IsTapJudge, TapJudge}
use Rattle.judge_tap.specs.declared.refusal.TapRefusal.TheVariants as tap
use Rattle.audit_flows.specs.Lines.{Placed, is_of}
use Rattle.audit_flows.specs.{Transfer}
use Rattle.audit_flows.specs.Transfers.{client_view, is_at_server, is_settled}
use Rattle.audit_views.specs.Parties.{host_name}
use Rattle.audit_views.specs.Views.{Client, HasJudged, HasJudgedBy, IsClientAfterBy, IsGoingOnBy, IsViewAfterBy, Server, View, ViewedWith, fed_to, captured_at_client, captured_at_server, client_capture, client_header, server_capture, server_header}
use Rattle.audit_views.specs.Views.Kept.{has_refused}
use Rattle.audit_views.proofs.ViewsLemmas.Judging.{finished, holds_of, said_by, stands_for}
use Rattle.audit_views.proofs.ViewsLemmas.Settling.{at_server_stays, capture_stays}
use Rattle.audit_recording.specs.Between.{Between, BetweenBy, HasTapped, HasTappedBy, HoldsBetween, IsBetweenAfterBy, IsBetweenVerdict, IsJudgedIfApart, IsTapRefusedIn, PassedBy, TappedBy, View as Tap, are_apart, between_capture, passed_of, sides_by, sides_of}
use Rattle.audit_recording.specs.Between.Kept.{counted_by, given_to, has_refused as has_refused_between, refused_by}
use Rattle.audit_recording.proofs.BetweenLemmas.Holding.{are_sides_apart, given_by}
use Rattle.audit_recording.proofs.BetweenLemmas.Numbering.{AreTakenBetween, between_front, between_length, between_one, of_taken, taken_of, taken_there}
use Rattle.audit_recording.proofs.BetweenLemmas.Settling.{sides_stay}
use Rattle.audit_recording.proofs.BetweenLemmas.Sides.{not_apart}
use Rattle.tftp_packet.specs.Hosts.{same_peer}
use Rattle.law_end.proofs.Division.RouteTests.{same_is}
use Rattle.audit_recording.specs.Blame.Facts.{IsRefusedAt}
use Rattle.audit_recording.specs.Blame.Kept.{Accepts, Refuses}
use Rattle.audit_recording.specs.declared.rows.row.Point.{Point}
use Rattle.audit_recording.specs.declared.rows.row.Point.TheVariants as point
use Rattle.audit_recording.proofs.BlameLemmas.Refusing.{IsFirst, none_of_lawful, one_first}

-- ---- an end

before_ended : (h : Header) (d : Datagram) (earlier : List Datagram) → OneEnded h (d ∷ earlier) → OneEnded h earlier
before_ended h d earlier lawful = lawful.1

newest_last : (before rest : List Datagram) (d : Datagram) → reverse (before ++ d ∷ rest) ≡ reverse rest ++ d ∷ reverse before
newest_last before rest d = reverse-append before (d ∷ rest) ∙ ap (λ l. l ++ reverse before) (reverse-append (d ∷ []) rest) ∙ append_assoc (reverse rest) (d ∷ []) (reverse before)

-- the datagram that a verdict refuses is the first that breaks a rule
first_at_end : (h : Header) (given : List Datagram) (number : ℕ) (rule : Rule) → IsVerdict h (reverse given) (Err (Unlawful number rule)) → IsFirst (OneEnded h) given number
first_at_end h given number rule said =
    let at = (verdict h (reverse given) (Err (Unlawful number rule))).0 said in
    record {
      later = reverse at.rest;
      datagram = at.datagram;
      earlier = reverse at.before;
      are = sym (reverse-reverse given) ∙ ap reverse at.split ∙ newest_last at.before at.rest at.datagram;
      number_is = at.index_is ∙ ap (λ n. n + 1) (sym (length-reverse at.before));
      lawful = at.lawful;
      unlawful = λ lawful. at.unlawful (subst (OneEnded h) (sym (reverse-append at.before (at.datagram ∷ []))) lawful);
    }

-- what the judge has refused is the verdict
refused_at_end : (j : Judge) (h : Header) (given : List Datagram) (number : ℕ) (rule : Rule) → j.refused ≡ Some (Unlawful number rule) → HasJudged j h given
    → IsVerdict h (reverse given) (Err (Unlawful number rule))
refused_at_end j h given number rule is judged =
    finished h given j (Err (Unlawful number rule))
    (λ after. let both : None ≡ Some (Unlawful number rule) = sym after.goes_on ∙ is in absurd (cc))
    (λ refusal was. let both : Some (Unlawful number rule) ≡ Some refusal = sym is ∙ was in let same : Unlawful number rule ≡ refusal = cc in ap (λ r. Err r) same)
    judged tt

-- ---- by what comes after block 65535

-- what is said is said of what the datagrams are taken for
said_taken : (rollover : Option Rollover) (said : Result Meaning Refusal) (h : Header) (given : List Datagram) → IsSaidBy rollover said h (reverse given)
    → (taken : List Datagram) × AreTaken rollover h given taken × IsVerdict (header_by rollover h) (reverse taken) said
said_taken rollover said h given is =
    let (taken, are, verdict) = of_held rollover (λ k ds. IsVerdict k ds said) h (reverse given) is in
    (taken, subst (λ l. AreTaken rollover h l taken) (reverse-reverse given) are, verdict)

judged_taken : (rollover : Option Rollover) (j : Judge) (h : Header) (given : List Datagram) → HasJudgedBy rollover j h given
    → (taken : List Datagram) × AreTaken rollover h given taken × HasJudged j (header_by rollover h) taken
judged_taken None j h given judged = (given, refl, judged)
judged_taken (Some r) j h given judged = judged

-- the refused one is the first of what the later and these are taken for
first_by : (rollover : Option Rollover) (h : Header) (later given taken : List Datagram) (number : ℕ) (rule : Rule) → AreTaken rollover h given taken
    → IsSaidBy rollover (Err (Unlawful number rule)) h (reverse (later ++ given)) → (more : List Datagram) × IsFirst (OneEnded (header_by rollover h)) (more ++ taken) number
first_by rollover h later given taken number rule are said =
    let (all, all_are, verdict) = said_taken rollover (Err (Unlawful number rule)) h (later ++ given) said in
    let (more, rest, split, front) = front_taken rollover h later given all all_are in
    (more, subst (λ l. IsFirst (OneEnded (header_by rollover h)) l number) (split ∙ ap (λ l. more ++ l) (one_taken rollover h given rest taken front are)) (first_at_end (header_by rollover h) all number rule verdict))

module _ (rollover : Option Rollover) (j : Judge) (h : Header) (given : List Datagram) (judged : HasJudgedBy rollover j h given) where
  abbrev IsSaid : List Datagram → ℕ → Rule → Type 0
  IsSaid ds number rule = IsSaidBy rollover (Err (Unlawful number rule)) h (reverse ds)

  accepted_count : j.refused ≡ None → j.fed ≡ length given
  accepted_count none =
      let (taken, are, has) = judged_taken rollover j h given judged in
      (stands_for j (header_by rollover h) taken none has).fed ∙ taken_length rollover h given taken are

  accepts_none : j.refused ≡ None → (later : List Datagram) (number : ℕ) (rule : Rule) → IsSaid (later ++ given) number rule → j.fed < number
  accepts_none none later number rule said =
      let (taken, are, has) = judged_taken rollover j h given judged in
      let k = header_by rollover h in
      let after : IsJudgeAfter j k taken = stands_for j k taken none has in
      let (more, first) = first_by rollover h later given taken number rule are said in
      subst (λ n. n < number) (sym after.fed) (none_of_lawful (OneEnded k) (before_ended k) more taken number after.lawful first)

  refused_said : (number : ℕ) (rule : Rule) → j.refused ≡ Some (Unlawful number rule) → IsSaid given number rule
  refused_said number rule is =
      said_by rollover (Err (Unlawful number rule)) h given
      (holds_of rollover (HasJudged j) (λ k taken. IsVerdict k (reverse taken) (Err (Unlawful number rule))) h given (λ k taken has. refused_at_end j k taken number rule is has) judged)

  refuses_one : (number : ℕ) (rule : Rule) → j.refused ≡ Some (Unlawful number rule) → (later : List Datagram) (other : ℕ) (by_rule : Rule) → IsSaid (later ++ given) other by_rule → other ≡ number
  refuses_one number rule is later other by_rule said =
      let (taken, are, has) = judged_taken rollover j h given judged in
      let k = header_by rollover h in
      let (more, first) = first_by rollover h later given taken other by_rule are said in
      one_first (OneEnded k) (before_ended k) more taken number other (first_at_end k taken number rule (refused_at_end j k taken number rule is has)) first

-- ---- at the client

client_more : (x : Transfer) (more whole : List Placed) → client_capture host_name x (more ++ whole) ≡ client_capture host_name x more ++ client_capture host_name x whole
client_more x more whole =
    ap (map (captured_at_client host_name x)) (filter-append (is_of x.number) more whole)
    ∙ map-append (captured_at_client host_name x) (client_view x.number more) (client_view x.number whole)

client_said : (rollover : Option Rollover) (x : Transfer) (more whole : List Placed) (number : ℕ) (rule : Rule) → IsRefusedAt rollover point.Client x (more ++ whole) number rule
    → IsSaidBy rollover (Err (Unlawful number rule)) (client_header x) (reverse (client_capture host_name x more ++ client_capture host_name x whole))
client_said rollover x more whole number rule said = subst (λ l. IsSaidBy rollover (Err (Unlawful number rule)) (client_header x) (reverse l)) (client_more x more whole) said

client_accepts : (rollover : Option Rollover) (c : Client) (whole : List Placed) → c.end.judge.refused ≡ None → IsClientAfterBy rollover c host_name whole → Accepts rollover point.Client c.transfer whole c.end.judge.fed
client_accepts rollover c whole none judged =
    let x = c.transfer in
    let h = client_header x in
    let given = client_capture host_name x whole in
    record {
      fixed = λ more p. refl;
      all = accepted_count rollover c.end.judge h given judged none ∙ length-map (client_view x.number whole) (captured_at_client host_name x);
      none = λ more number rule said. accepts_none rollover c.end.judge h given judged none (client_capture host_name x more) number rule (client_said rollover x more whole number rule said);
    }

client_refuses : (rollover : Option Rollover) (c : Client) (whole : List Placed) (number : ℕ) (rule : Rule) → c.end.judge.refused ≡ Some (Unlawful number rule) → IsClientAfterBy rollover c host_name whole
    → Refuses rollover point.Client c.transfer whole number
client_refuses rollover c whole number rule is judged =
    let x = c.transfer in
    let h = client_header x in
    let given = client_capture host_name x whole in
    record {
      fixed = λ more p. refl;
      rule = rule;
      refused = refused_said rollover c.end.judge h given judged number rule is;
      only = λ more other by_rule there. refuses_one rollover c.end.judge h given judged number rule is (client_capture host_name x more) other by_rule (client_said rollover x more whole other by_rule there);
    }

pub accepts_at_client : (rollover : Option Rollover) (c : Client) (x : Transfer) (whole : List Placed) → c.transfer ≡ x → c.end.judge.refused ≡ None → IsClientAfterBy rollover c host_name whole → Accepts rollover point.Client x whole c.end.judge.fed
accepts_at_client rollover c x whole own none judged = subst (λ (y : Transfer). Accepts rollover point.Client y whole c.end.judge.fed) own (client_accepts rollover c whole none judged)

pub refuses_at_client : (rollover : Option Rollover) (c : Client) (x : Transfer) (whole : List Placed) (number : ℕ) (rule : Rule) → c.transfer ≡ x → c.end.judge.refused ≡ Some (Unlawful number rule) → IsClientAfterBy rollover c host_name whole
    → Refuses rollover point.Client x whole number
refuses_at_client rollover c x whole number rule own is judged = subst (λ (y : Transfer). Refuses rollover point.Client y whole number) own (client_refuses rollover c whole number rule is judged)

-- ---- at the server

-- its judge was given the server's view
record IsServing (rollover : Option Rollover) (v : View) (whole : List Placed) : Type 0 where
  pub server : Server
  pub is : v.judge ≡ Some server
  pub going : IsGoingOnBy rollover server v host_name whole

serving : (rollover : Option Rollover) (v : View) (whole : List Placed) → is_settled v.transfer.number whole ≡ true → IsViewAfterBy rollover v host_name whole → IsServing rollover v whole
serving rollover v whole settled = by v.judge refl where
  by : (o : Option Server) → v.judge ≡ o → ViewedWith rollover o v host_name whole → IsServing rollover v whole
  by None none waits = absurd (true≢false (sym settled ∙ waits.unsettled))
  by (Some s) is going = record { server = s; is = is; going = going }

server_more : (x : Transfer) (more whole : List Placed) → is_settled x.number whole ≡ true
    → server_capture host_name x (more ++ whole) (more ++ whole) ≡ server_capture host_name x (more ++ whole) more ++ server_capture host_name x whole whole
server_more x more whole settled =
    let seen = is_at_server x.number (more ++ whole) in
    let as_captured = captured_at_server host_name x (more ++ whole) in
    ap (map as_captured) (filter-append seen more whole)
    ∙ map-append as_captured (filter seen more) (filter seen whole)
    ∙ ap (λ l. server_capture host_name x (more ++ whole) more ++ l) (sym (capture_stays host_name x more whole settled whole))

server_said : (rollover : Option Rollover) (x : Transfer) (more whole : List Placed) (number : ℕ) (rule : Rule) → is_settled x.number whole ≡ true → IsRefusedAt rollover point.Server x (more ++ whole) number rule
    → IsSaidBy rollover (Err (Unlawful number rule)) (server_header x) (reverse (server_capture host_name x (more ++ whole) more ++ server_capture host_name x whole whole))
server_said rollover x more whole number rule settled said = subst (λ l. IsSaidBy rollover (Err (Unlawful number rule)) (server_header x) (reverse l)) (server_more x more whole settled) said

module _ (rollover : Option Rollover) (s : Server) (whole : List Placed) (settled : is_settled s.transfer.number whole ≡ true)
    (judged : HasJudgedBy rollover s.end.judge (server_header s.transfer) (server_capture host_name s.transfer whole whole)) where
  server_accepts : s.end.judge.refused ≡ None → Accepts rollover point.Server s.transfer whole s.end.judge.fed
  server_accepts none =
      let x = s.transfer in
      let h = server_header x in
      let given = server_capture host_name x whole whole in
      record {
        fixed = λ more p. at_server_stays x.number more whole settled p;
        all = accepted_count rollover s.end.judge h given judged none ∙ length-map (filter (is_at_server x.number whole) whole) (captured_at_server host_name x whole);
        none = λ more number rule said. accepts_none rollover s.end.judge h given judged none (server_capture host_name x (more ++ whole) more) number rule (server_said rollover x more whole number rule settled said);
      }

  server_refuses : (number : ℕ) (rule : Rule) → s.end.judge.refused ≡ Some (Unlawful number rule) → Refuses rollover point.Server s.transfer whole number
  server_refuses number rule is =
      let x = s.transfer in
      let h = server_header x in
      let given = server_capture host_name x whole whole in
      record {
        fixed = λ more p. at_server_stays x.number more whole settled p;
        rule = rule;
        refused = refused_said rollover s.end.judge h given judged number rule is;
        only = λ more other by_rule there. refuses_one rollover s.end.judge h given judged number rule is (server_capture host_name x (more ++ whole) more) other by_rule (server_said rollover x more whole other by_rule settled there);
      }

has_refused_by : (v : View) (s : Server) → v.judge ≡ Some s → has_refused v ≡ s.end.judge.refused
has_refused_by v s is = rw is refl

fed_by : (v : View) (s : Server) → v.judge ≡ Some s → fed_to v ≡ s.end.judge.fed
fed_by v s is = rw is refl

module _ (rollover : Option Rollover) (v : View) (x : Transfer) (whole : List Placed) (own : v.transfer ≡ x) (settled : is_settled x.number whole ≡ true) (after : IsViewAfterBy rollover v host_name whole) where
  serves : IsServing rollover v whole
  serves = serving rollover v whole (ap (λ (y : Transfer). is_settled y.number whole) own ∙ settled) after

  its_own : serves.server.transfer ≡ x
  its_own = serves.going.transfer ∙ own

  its_settled : is_settled serves.server.transfer.number whole ≡ true
  its_settled = ap (λ (y : Transfer). is_settled y.number whole) its_own ∙ settled

  pub accepts_at_server : has_refused v ≡ None → Accepts rollover point.Server x whole (fed_to v)
  accepts_at_server none =
      subst (λ n. Accepts rollover point.Server x whole n) (sym (fed_by v serves.server serves.is))
      (subst (λ (y : Transfer). Accepts rollover point.Server y whole serves.server.end.judge.fed) its_own
      (server_accepts rollover serves.server whole its_settled serves.going.after.judged (sym (has_refused_by v serves.server serves.is) ∙ none)))

  pub refuses_at_server : (number : ℕ) (rule : Rule) → has_refused v ≡ Some (Unlawful number rule) → Refuses rollover point.Server x whole number
  refuses_at_server number rule is =
      subst (λ (y : Transfer). Refuses rollover point.Server y whole number) its_own
      (server_refuses rollover serves.server whole its_settled serves.going.after.judged number rule (sym (has_refused_by v serves.server serves.is) ∙ is))

-- ---- between the ends

before_passed : (s : TapSides) (d : TapDatagram) (earlier : List TapDatagram) → BreaksNoTapRule s (d ∷ earlier) → BreaksNoTapRule s earlier
before_passed s d earlier lawful = lawful.1

first_between : (s : TapSides) (given : List TapDatagram) (number : ℕ) (rule : Rule) (stands : Option Bool) → IsTapRefusedIn s given (tap.Unlawful number rule stands) → IsFirst (BreaksNoTapRule s) given number
first_between s given number rule stands at = record {
  later = at.later;
  datagram = at.datagram;
  earlier = at.earlier;
  are = at.are;
  number_is = at.refused.0;
  lawful = at.lawful;
  unlawful = λ lawful. lawful.0.lawful rule at.refused.1.breaks;
}

between_more : (x : Transfer) (more whole : List Placed) → between_capture x (more ++ whole) ≡ between_capture x more ++ between_capture x whole
between_more x more whole =
    ap (map (λ p. passed_of p.datagram)) (filter-append (is_of x.number) more whole)
    ∙ map-append (λ p. passed_of p.datagram) (client_view x.number more) (client_view x.number whole)

abbrev refuses_so : ℕ → Rule → Option Bool → TapSides → List TapDatagram → Type 0
refuses_so number rule stands k taken = IsBetweenVerdict k taken (Err (tap.Unlawful number rule stands))

-- the refused one is the first of what the later and these are taken for
between_first : (rollover : Option Rollover) (x : Transfer) (more whole : List Placed) (taken : List TapDatagram) (number : ℕ) (rule : Rule) → is_settled x.number whole ≡ true
    → AreTakenBetween rollover (sides_of x whole) (between_capture x whole) taken → IsRefusedAt rollover point.Between x (more ++ whole) number rule
    → (later : List TapDatagram) × IsFirst (BreaksNoTapRule (sides_by rollover (sides_of x whole))) (later ++ taken) number
between_first rollover x more whole taken number rule settled are (apart, stands, said) =
    let s : TapSides = sides_of x whole in
    let k : TapSides = sides_by rollover s in
    let given : List TapDatagram = between_capture x whole in
    let found : HoldsBetween rollover (refuses_so number rule stands) s (between_capture x more ++ given) =
    subst (λ (s : TapSides). HoldsBetween rollover (refuses_so number rule stands) s (between_capture x more ++ given)) (sides_stay x more whole settled)
    (subst (λ l. HoldsBetween rollover (refuses_so number rule stands) (sides_of x (more ++ whole)) l) (between_more x more whole) said) in
    let (all, all_are, at) = taken_of rollover (refuses_so number rule stands) s (between_capture x more ++ given) refl found in
    let (later, rest, split, front) = between_front rollover s (between_capture x more) given all all_are in (
      later,
      subst (λ l. IsFirst (BreaksNoTapRule k) l number) (split ∙ ap (λ l. later ++ l) (between_one rollover s given rest taken front are)) (first_between k all number rule stands at),
    )

-- the judge of the sides was given all that passed
record IsTapping (rollover : Option Rollover) (v : Tap) (x : Transfer) (whole : List Placed) : Type 0 where
  pub between : Between
  pub is : v.judge ≡ Some between
  pub sides : between.sides ≡ sides_by rollover (sides_of x whole)
  pub passed : PassedBy between.judge between (between_capture x whole)

tapping : (rollover : Option Rollover) (v : Tap) (whole : List Placed) → is_settled v.transfer.number whole ≡ true → IsBetweenAfterBy rollover v whole → IsTapping rollover v v.transfer whole
tapping rollover v whole settled = by v.judge refl where
  by : (o : Option Between) → v.judge ≡ o → BetweenBy rollover o v whole → IsTapping rollover v v.transfer whole
  by None none waits = absurd (true≢false (sym settled ∙ waits.unsettled))
  by (Some b) is going = record { between = b; is = is; sides = going.sides; passed = going.passed }

neither : (a b : Bool) → not (a || b) ≡ true → (a ≡ false) × (b ≡ false)
neither false false e = (refl, refl)
neither false true e = absurd (true≢false (sym e))
neither true b e = absurd (true≢false (sym e))

is_apart : (s : TapSides) → are_apart s ≡ true → AreApart s
is_apart s e =
    let both = neither (same_peer s.client s.server) (same_peer s.client s.asked) e in
    record { server = λ same. true≢false (sym (same_is s.client s.server same) ∙ both.0); asked = λ same. true≢false (sym (same_is s.client s.asked same) ∙ both.1) }

module _ (rollover : Option Rollover) (x : Transfer) (whole : List Placed) (settled : is_settled x.number whole ≡ true) (b : Between) (sides : b.sides ≡ sides_by rollover (sides_of x whole)) (one : IsJudgedIfApart b) where
  abbrev own_sides : TapSides
  own_sides = sides_by rollover (sides_of x whole)

  abbrev given_all : List TapDatagram
  given_all = between_capture x whole

  -- where there is no judge, nothing is said
  nothing_said : b.judge ≡ None → (more : List Placed) (number : ℕ) (rule : Rule) → IsRefusedAt rollover point.Between x (more ++ whole) number rule → ⊥
  nothing_said none more number rule said =
      not_apart b.sides (sym one ∙ ap is_some none)
      (subst AreApart (sym sides) (are_sides_apart rollover (sides_of x whole) (subst AreApart (sides_stay x more whole settled) said.0)))

  -- what the judge has of what the datagrams are taken for
  tapped_there : (j : TapJudge) → b.judge ≡ Some j → PassedBy b.judge b given_all → (taken : List TapDatagram) × AreTakenBetween rollover (sides_of x whole) given_all taken × HasTapped j own_sides taken
  tapped_there j is passed =
      taken_there rollover (HasTapped j) (sides_of x whole) given_all
      (subst (λ (s : TapSides). HasTappedBy s.rollover j s given_all) sides (subst (λ o. PassedBy o b given_all) is passed))

  tap_accepts : PassedBy b.judge b given_all → refused_by b ≡ None → Accepts rollover point.Between x whole (counted_by b)
  tap_accepts passed clear = by b.judge refl where
    by : (o : Option TapJudge) → b.judge ≡ o → Accepts rollover point.Between x whole (counted_by b)
    by None none =
        let counted : counted_by b ≡ b.counted = rw none refl in
        let all : b.counted ≡ length given_all = subst (λ o. PassedBy o b given_all) none passed in
        record {
          fixed = λ more p. refl;
          all = counted ∙ all ∙ length-map (client_view x.number whole) (λ p. passed_of p.datagram);
          none = λ more number rule said. absurd (nothing_said none more number rule said);
        }
    by (Some j) is =
        let counted : counted_by b ≡ j.fed = rw is refl in
        let refuses : refused_by b ≡ j.refused = rw is refl in
        let (taken, are, has) = tapped_there j is passed in
        let after : IsTapJudge j own_sides taken = subst (λ o. TappedBy o j own_sides taken) (sym refuses ∙ clear) has in
        record {
          fixed = λ more p. refl;
          all = counted ∙ after.fed ∙ between_length rollover (sides_of x whole) given_all taken are ∙ length-map (client_view x.number whole) (λ p. passed_of p.datagram);
          none = λ more number rule said.
              let (later, first) = between_first rollover x more whole taken number rule settled are said in
              subst (λ n. n < number) (sym (counted ∙ after.fed))
              (none_of_lawful (BreaksNoTapRule own_sides) (before_passed own_sides) later taken number after.lawful first);
        }

  tap_refuses : (number : ℕ) (rule : Rule) (stands : Option Bool) → PassedBy b.judge b given_all → refused_by b ≡ Some (tap.Unlawful number rule stands) → Refuses rollover point.Between x whole number
  tap_refuses number rule stands passed refused = by b.judge refl where
    by : (o : Option TapJudge) → b.judge ≡ o → Refuses rollover point.Between x whole number
    by None none =
        let no : refused_by b ≡ None = rw none refl in
        let both : None ≡ Some (tap.Unlawful number rule stands) = sym no ∙ refused in absurd (cc)
    by (Some j) is =
        let refuses : refused_by b ≡ j.refused = rw is refl in
        let (taken, are, has) = tapped_there j is passed in
        let at : IsTapRefusedIn own_sides taken (tap.Unlawful number rule stands) = subst (λ o. TappedBy o j own_sides taken) (sym refuses ∙ refused) has in
        let apart : AreApart own_sides = subst AreApart sides (is_apart b.sides (sym one ∙ ap is_some is)) in
        record {
          fixed = λ more p. refl;
          rule = rule;
          refused = (record { server = apart.server; asked = apart.asked }, stands, of_taken rollover (refuses_so number rule stands) (sides_of x whole) given_all refl taken are at);
          only = λ more other by_rule there.
              let (later, first) = between_first rollover x more whole taken other by_rule settled are there in
              one_first (BreaksNoTapRule own_sides) (before_passed own_sides) later taken number other (first_between own_sides taken number rule stands at) first;
        }

-- ---- in the view

refuses_by : (v : Tap) (b : Between) → v.judge ≡ Some b → has_refused_between v ≡ refused_by b
refuses_by v b is = rw is refl

module _ (rollover : Option Rollover) (v : Tap) (x : Transfer) (whole : List Placed) (own : v.transfer ≡ x) (settled : is_settled x.number whole ≡ true) (after : IsBetweenAfterBy rollover v whole)
    (one : IfSome v.judge IsJudgedIfApart) where
  taps : IsTapping rollover v x whole
  taps = subst (λ (y : Transfer). IsTapping rollover v y whole) own (tapping rollover v whole (ap (λ (y : Transfer). is_settled y.number whole) own ∙ settled) after)

  one_judge : IsJudgedIfApart taps.between
  one_judge = subst (λ o. IfSome o IsJudgedIfApart) taps.is one

  pub accepts_between : has_refused_between v ≡ None → Accepts rollover point.Between x whole (given_to v)
  accepts_between none =
      subst (λ n. Accepts rollover point.Between x whole n) (sym (given_by v taps.between taps.is))
      (tap_accepts rollover x whole settled taps.between taps.sides one_judge taps.passed (sym (refuses_by v taps.between taps.is) ∙ none))

  pub refuses_between : (number : ℕ) (rule : Rule) (stands : Option Bool) → has_refused_between v ≡ Some (tap.Unlawful number rule stands) → Refuses rollover point.Between x whole number
  refuses_between number rule stands is =
      tap_refuses rollover x whole settled taps.between taps.sides one_judge number rule stands taps.passed (sym (refuses_by v taps.between taps.is) ∙ is)

-- ---- the first datagram is the one with number 1

above_none : (rollover : Option Rollover) (h : Header) (given : List Datagram) (number : ℕ) (rule : Rule) → IsSaidBy rollover (Err (Unlawful number rule)) h (reverse given) → 0 < number
above_none rollover h given number rule said =
    let (taken, are, verdict) = said_taken rollover (Err (Unlawful number rule)) h given said in
    let at = (first_at_end (header_by rollover h) taken number rule verdict).number_is in
    omega (arith, at)

pub from_1 : (rollover : Option Rollover) (p : Point) (x : Transfer) (whole : List Placed) (number : ℕ) (rule : Rule) → IsRefusedAt rollover p x whole number rule → 0 < number
from_1 rollover point.Client x whole number rule said = above_none rollover (client_header x) (client_capture host_name x whole) number rule said
from_1 rollover point.Server x whole number rule said = above_none rollover (server_header x) (server_capture host_name x whole whole) number rule said
from_1 rollover point.Between x whole number rule (apart, stands, said) =
    let (taken, are, has) = taken_of rollover (refuses_so number rule stands) (sides_of x whole) (between_capture x whole) refl said in
    let at = has.refused.0 in
    omega (arith, at)
