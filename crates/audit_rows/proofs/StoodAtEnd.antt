-- A refusal at an end that is said to stand is certain.
use Rattle.std.proofs.Common.{◌≡◌, ◌≢◌, ◌&&◌, ℕ, Bool, true, false, List, ◌∷◌, ◌++◌, Option, Some, None, Result, Ok, Err, refl, sym, ap, subst, ◌∙◌, inl, inr, length, reverse}
use Rattle.std.proofs.lemmas.Bool.{and_parts}
use Rattle.tftp_packet.specs.{Dir, In, Out, Rollover}
use Rattle.tftp_packet.specs.Hosts.{Datagram, Header}
use Rattle.law_model.specs.Model.{Meaning}
use Rattle.law_end.specs.{Rule}
use Rattle.law_tap.specs.{IsCertain, KnowsOtherEnd, StandsAtEnd}
use Rattle.law_tap.proofs.EndStands.{known_is_certain, own_is_certain}
use Rattle.tftp_judge.specs.{Refusal}
use Rattle.tftp_judge.specs.declared.refusal.Refusal.TheVariants as refusal
use Rattle.audit_flows.specs.Lines.{Placed, Recorded, is_of, same_endpoint}
use Rattle.audit_flows.specs.{Transfer}
use Rattle.audit_flows.specs.Transfers.{is_at_server}
use Rattle.audit_flows.proofs.TransfersLemmas.OwnDatagrams.{about_none, seen_none}
use Rattle.audit_views.specs.Parties.{host_name}
use Rattle.audit_views.specs.Views.{captured, captured_at_client, captured_at_server, client_capture, client_header, server_capture, server_header, way_at_client, way_at_server}
use Rattle.audit_recording.specs.Blame.Facts.{goes_on, has_gone_on, is_for_server}
use Rattle.audit_recording.specs.Blame.Frames.{Carried, Framed, seen_as, whole_of}
use Rattle.audit_recording.specs.Blame.Named.{named_in}
use Rattle.audit_recording.specs.declared.blame.blame.Blamed.{Blamed}
use Rattle.audit_recording.specs.declared.blame.named.Named.{Named}
use Rattle.audit_recording.specs.declared.rows.row.Point.{Point}
use Rattle.audit_recording.specs.declared.rows.row.Point.TheVariants as point
use Rattle.audit_rows.specs.Standing.{IsCertainAtEnd}
use Rattle.audit_rows.specs.Viewing.{IsFoundAt, IsStanding, IsStandingAlone, IsStandingBy, IsSureAt, IsSureUnnamed, IsViewAt, number_in}
use Rattle.audit_rows.proofs.Stood.{alone_as}
use Rattle.audit_rows.specs.declared.found.Found.{Found}
use Rattle.audit_rows.specs.declared.found.Found.TheVariants.{AtEnd, Between}
use Rattle.audit_rows.specs.declared.viewed.Viewed.{Viewed}
use Rattle.audit_rows.proofs.Behind.{IsCaptured, captured_there}
use Rattle.audit_rows.proofs.First.{IsOf, of_verdict}
use Rattle.audit_rows.proofs.GoneOn.{either, known_by_earlier, own_or_known, went_out}
use Rattle.audit_rows.proofs.Named.{named_by}
use Rattle.audit_rows.proofs.Unnamed.{NamesNone, names_none, unnamed_known, unnamed_own}

-- it is certain, where its rule says so
certain_of : (h : Header) (given : List Datagram) (number : ℕ) (broken : Rule) (it : IsOf h given number broken) → IsCertain h (reverse (it.later ++ it.datagram ∷ it.earlier)) (length it.earlier) → IsCertainAtEnd h given number
certain_of h given number broken it certain = (length it.earlier, it.number_is, subst (λ l. IsCertain h (reverse l) (length it.earlier)) (sym it.are) certain)

-- what was captured has its payload
same_payload : (way : Dir) (d : Recorded) → (captured host_name way d).payload ≡ d.payload
same_payload Out d = refl
same_payload In d = refl

-- what goes on goes out
goes_out : (x : Transfer) (p : Placed) (d : Datagram) → d ≡ captured_at_client host_name x p → goes_on x p ≡ true → d.dir ≡ Out
goes_out x p d is goes =
    let (of, more) = and_parts (is_of x.number p) (same_endpoint p.datagram.source x.client && is_for_server p.datagram.payload) goes in
    let (own, says) = and_parts (same_endpoint p.datagram.source x.client) (is_for_server p.datagram.payload) more in
    ap (λ (e : Datagram). e.dir) is ∙ went_out x p own

-- ---- the law

module _ (x : Transfer) (named : List ℕ) (carried : List Carried) where
  abbrev AtClient : ℕ → Rule → Type 0
  AtClient number broken = IsOf (client_header x) (client_capture host_name x (whole_of named carried)) number broken

  abbrev Certain : ℕ → Type 0
  Certain number = IsCertainAtEnd (client_header x) (client_capture host_name x (whole_of named carried)) number

  certain_there : (number : ℕ) (broken : Rule) (it : AtClient number broken) → IsCertain (client_header x) (reverse (it.later ++ it.datagram ∷ it.earlier)) (length it.earlier) → Certain number
  certain_there number broken it certain = certain_of (client_header x) (client_capture host_name x (whole_of named carried)) number broken it certain

  abbrev options : Named
  options = named_in x (whole_of named carried)

  -- no request there asks for what none names
  nothing_at_client : (number : ℕ) (broken : Rule) (it : AtClient number broken) → NamesNone x (whole_of named carried) (it.later ++ it.datagram ∷ it.earlier)
  nothing_at_client number broken it = subst (NamesNone x (whole_of named carried)) it.are
      (names_none x (whole_of named carried) (is_of x.number) (captured_at_client host_name x) (about_none x.number) (λ p. same_payload (way_at_client x p) p.datagram))

  nothing_at_server : (given : List Datagram) → server_capture host_name x (whole_of named carried) (whole_of named carried) ≡ given → NamesNone x (whole_of named carried) given
  nothing_at_server given are = subst (NamesNone x (whole_of named carried)) are
      (names_none x (whole_of named carried) (is_at_server x.number (whole_of named carried)) (captured_at_server host_name x (whole_of named carried)) (seen_none x.number (whole_of named carried))
      (λ p. same_payload (way_at_server x (whole_of named carried) p) p.datagram))

  unnamed_known_there : (number : ℕ) (broken : Rule) (it : AtClient number broken) → IsSureUnnamed options broken → KnowsOtherEnd (client_header x) (it.datagram ∷ it.earlier) → Certain number
  unnamed_known_there number broken it sure known =
      certain_there number broken it (unnamed_known (client_header x) x (whole_of named carried) it.later it.earlier it.datagram broken it.refused (nothing_at_client number broken it) sure known)

  unnamed_own_there : (number : ℕ) (broken : Rule) (it : AtClient number broken) → IsSureUnnamed options broken → it.datagram.dir ≡ Out → Certain number
  unnamed_own_there number broken it sure out =
      certain_there number broken it (unnamed_own (client_header x) x (whole_of named carried) it.later it.earlier it.datagram broken it.refused (nothing_at_client number broken it) sure out)

  -- by an option that none names, where the client has gone on
  gone_unnamed : (number : ℕ) (broken : Rule) (it : AtClient number broken) (f : Framed) → IsCaptured x f it.datagram it.earlier → has_gone_on x (f.placed ∷ f.before) ≡ true → IsSureUnnamed options broken
      → Certain number
  gone_unnamed number broken it f there gone sure = elim (either (goes_on x f.placed) (has_gone_on x f.before) gone) [
    | inl now ↦ unnamed_own_there number broken it sure (goes_out x f.placed it.datagram there.this now)
    | inr before ↦ unnamed_known_there number broken it sure (known_by_earlier (client_header x) x f.before it.datagram it.earlier it.divided there.before before)
  ]

  -- by a rule that stands, where the client has gone on
  gone_certain : (number : ℕ) (broken : Rule) (it : AtClient number broken) (f : Framed) → IsCaptured x f it.datagram it.earlier → has_gone_on x (f.placed ∷ f.before) ≡ true → StandsAtEnd broken
      → Certain number
  gone_certain number broken it f there gone stands = elim (either (goes_on x f.placed) (has_gone_on x f.before) gone) [
    | inl now ↦ elim (own_or_known (client_header x) x f.placed it.datagram it.earlier broken it.refused stands there.this now) [
      | inl own ↦ certain_there number broken it (own_is_certain (client_header x) it.later it.earlier it.datagram broken it.refused own.0 own.1)
      | inr known ↦ certain_there number broken it (known_is_certain (client_header x) it.later it.earlier it.datagram broken it.refused stands known)
    ]
    | inr before ↦
        certain_there number broken it (known_is_certain (client_header x) it.later it.earlier it.datagram broken it.refused stands
        (known_by_earlier (client_header x) x f.before it.datagram it.earlier it.divided there.before before))
  ]

  pub client_certain : (more : Bool) (v : Viewed) → IsViewAt point.Client x named carried v → IsStanding point.Client x more options v (Some true)
      → (number : ℕ) × (number_in v.found ≡ Some number) × Certain number
  client_certain more v view stands = over v.rollover view.found stands where
    sure : (number : ℕ) (broken : Rule) → number_in v.found ≡ Some number → (o : Option Blamed) → v.blamed ≡ o → IsSureAt point.Client x options o broken → AtClient number broken → Certain number
    sure number broken at None is sure_so it = absurd sure_so
    sure number broken at (Some b) is sure_so it =
        let n = named_by point.Client x named carried v b view is in
        let same : n.number ≡ number = let both : Some n.number ≡ Some number = sym n.refuses ∙ at in cc in
        let seen = subst (λ k. seen_as point.Client x.number named carried k ≡ Some n.datagram) same n.seen in
        let there = captured_there x named carried number it.later it.datagram it.earlier it.are it.number_is n.datagram seen in
        elim sure_so [
          | inl known ↦ elim known.1 [
            | inl stands ↦ gone_certain number broken it n.datagram there (sym (ap (λ (d : Blamed). d.has_gone_on) n.is) ∙ known.0) stands
            | inr sure_too ↦ gone_unnamed number broken it n.datagram there (sym (ap (λ (d : Blamed). d.has_gone_on) n.is) ∙ known.0) sure_too
          ]
          | inr own ↦
              let out = went_out x n.datagram.placed (subst (λ e. same_endpoint e x.client ≡ true) (ap (λ (d : Blamed). d.source) n.is) own.0) in
              let way = ap (λ (d : Datagram). d.dir) there.this ∙ out in
              elim own.1 [
                | inl stands ↦ certain_there number broken it (own_is_certain (client_header x) it.later it.earlier it.datagram broken it.refused way stands)
                | inr sure_too ↦ unnamed_own_there number broken it sure_too way
              ]
        ]

    by : (found : Found) → v.found ≡ found → IsFoundAt None point.Client x (whole_of named carried) found → IsStandingAlone point.Client x options v.blamed found (Some true)
        → (number : ℕ) × (number_in found ≡ Some number) × Certain number
    by (Between said) e is standing = absurd is
    by (AtEnd (Ok m)) e is standing = let no : Some true ≡ None = standing in absurd (cc)
    by (AtEnd (Err (refusal.Unlawful number broken))) e is (inl (so, told)) =
        (number, refl, sure number broken (ap number_in e) v.blamed refl so (of_verdict (client_header x) (client_capture host_name x (whole_of named carried)) number broken is.verdict))
    by (AtEnd (Err (refusal.Unlawful number broken))) e is (inr (so, told)) = let no : Some true ≡ None = told in absurd (cc)
    by (AtEnd (Err (refusal.Aborted end code))) e is standing = let no : Some true ≡ None = standing in absurd (cc)
    by (AtEnd (Err (refusal.Incomplete count))) e is standing = let no : Some true ≡ None = standing in absurd (cc)
    by (AtEnd (Err refusal.NormalTooLong)) e is standing = let no : Some true ≡ None = standing in absurd (cc)
    by (AtEnd (Err (refusal.Memory count))) e is standing = let no : Some true ≡ None = standing in absurd (cc)

    over : (o : Option Rollover) → IsFoundAt o point.Client x (whole_of named carried) v.found → IsStandingBy o point.Client x more options v.blamed v.found (Some true)
        → (number : ℕ) × (number_in v.found ≡ Some number) × Certain number
    over None is standing = by v.found refl is (alone_as point.Client x more options v.blamed v.found true standing)
    over (Some rollover) is standing = let no : Some true ≡ None = standing in absurd (cc)

  in_one_round : (b : Option Blamed) (found : Found) → IsFoundAt None point.Server x (whole_of named carried) found → IsStandingAlone point.Server x options b found (Some true)
      → (number : ℕ) × (number_in found ≡ Some number) × IsCertainAtEnd (server_header x) (server_capture host_name x (whole_of named carried) (whole_of named carried)) number
  in_one_round b (Between said) is standing = absurd is
  in_one_round b (AtEnd (Ok m)) is standing = let no : Some true ≡ None = standing in absurd (cc)
  in_one_round b (AtEnd (Err (refusal.Unlawful number broken))) is (inl (so, told)) =
      let it = of_verdict (server_header x) (server_capture host_name x (whole_of named carried) (whole_of named carried)) number broken is.verdict in (
        number,
        refl,
        certain_of (server_header x) (server_capture host_name x (whole_of named carried) (whole_of named carried)) number broken it (elim so [
          | inl stands ↦ known_is_certain (server_header x) it.later it.earlier it.datagram broken it.refused stands (inl refl)
          | inr sure_too ↦ unnamed_known (server_header x) x (whole_of named carried) it.later it.earlier it.datagram broken it.refused (nothing_at_server (it.later ++ it.datagram ∷ it.earlier) it.are) sure_too (inl refl)
        ]),
      )
  in_one_round b (AtEnd (Err (refusal.Unlawful number broken))) is (inr (so, told)) = let no : Some true ≡ None = told in absurd (cc)
  in_one_round b (AtEnd (Err (refusal.Aborted end code))) is standing = let no : Some true ≡ None = standing in absurd (cc)
  in_one_round b (AtEnd (Err (refusal.Incomplete count))) is standing = let no : Some true ≡ None = standing in absurd (cc)
  in_one_round b (AtEnd (Err refusal.NormalTooLong)) is standing = let no : Some true ≡ None = standing in absurd (cc)
  in_one_round b (AtEnd (Err (refusal.Memory count))) is standing = let no : Some true ≡ None = standing in absurd (cc)

  pub server_certain : (o : Option Rollover) (more : Bool) (b : Option Blamed) (found : Found) → IsFoundAt o point.Server x (whole_of named carried) found → IsStandingBy o point.Server x more options b found (Some true)
      → (number : ℕ) × (number_in found ≡ Some number) × IsCertainAtEnd (server_header x) (server_capture host_name x (whole_of named carried) (whole_of named carried)) number
  server_certain None more b found is standing = in_one_round b found is (alone_as point.Server x more options b found true standing)
  server_certain (Some rollover) more b found is standing = let no : Some true ≡ None = standing in absurd (cc)

-- by a rollover nothing is said to stand
pub none_by_rollover : (at : Point) (x : Transfer) (more : Bool) (options : Named) (v : Viewed) (stands : Option Bool) → v.rollover ≢ None → IsStanding at x more options v stands → stands ≡ None
none_by_rollover at x more options v stands some standing = by v.rollover some standing where
  by : (o : Option Rollover) → o ≢ None → IsStandingBy o at x more options v.blamed v.found stands → stands ≡ None
  by None not standing = absurd (not refl)
  by (Some rollover) not standing = standing

-- that a refusal at an end does not stand is never said
pub never_so : (at : Point) (x : Transfer) (options : Named) (b : Option Blamed) (said : Result Meaning Refusal) → IsStandingAlone at x options b (AtEnd said) (Some false) → ⊥
never_so at x options b (Ok m) standing = let no : Some false ≡ None = standing in absurd (cc)
never_so at x options b (Err (refusal.Unlawful number broken)) (inl (so, told)) = let no : Some false ≡ Some true = told in absurd (cc)
never_so at x options b (Err (refusal.Unlawful number broken)) (inr (so, told)) = let no : Some false ≡ None = told in absurd (cc)
never_so at x options b (Err (refusal.Aborted end code)) standing = let no : Some false ≡ None = standing in absurd (cc)
never_so at x options b (Err (refusal.Incomplete count)) standing = let no : Some false ≡ None = standing in absurd (cc)
never_so at x options b (Err refusal.NormalTooLong) standing = let no : Some false ≡ None = standing in absurd (cc)
never_so at x options b (Err (refusal.Memory count)) standing = let no : Some false ≡ None = standing in absurd (cc)
