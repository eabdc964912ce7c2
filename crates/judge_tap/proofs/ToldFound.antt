-- What tells whether a refusal stands whatever is missing: after one datagram more, and of one that is refused.
use Rattle.std.proofs.Common.{◌≡◌, ◌≢◌, ◌⊎◌, ℕ, zero, suc, ◌≤◌, not, Bool, true, false, List, [], ◌∷◌, Any, Contains, Option, Some, None, Result, Ok, Err, IfErr, OnErr, OnOk, inl, inr, refl, sym, subst, ap, ◌∙◌, ◌||◌, if◌then◌else◌, arith}
use Rattle.std.proofs.lemmas.Bool.{true≢false, cases_Bool, and_parts}
use Rattle.tftp_packet.specs.{Message, OptionMap, RequestParts, Spells, FirstFault, PacketFault, End, Client, Server}
use Rattle.tftp_packet.specs.Hosts.{same_peer}
use Rattle.tftp_packet.proofs.NoFault.{no_fault}
use Rattle.tftp_nego.specs.{FirstFault as FirstNegoFault, MayAgree, NegoFault, Holds}
use Rattle.tftp_nego.proofs.Tested.{no_fault as faultless}
use Rattle.law_model.specs.{EndRule, PortRule}
use Rattle.law_model.proofs.ModelLemmas.Members.{contains_first, contains_later, contains_cases, contains_none}
use Rattle.law_end.specs.{IsWrongKind, Rule}
use Rattle.law_end.specs.declared.rule.Rule.TheVariants as rule
use Rattle.law_end.proofs.Division.Divided.{any_cases, any_first, any_later, any_none}
use Rattle.law_end.proofs.Division.RouteTests.{is_same}
use Rattle.law_end.proofs.Spelled.{spelled_once}
use Rattle.law_tap.specs.{TapDatagram, TapSides, AreApart, AreFigures, BreaksNoTapRule, IsCertainBetween, Figures, FirstTapAsked, FitsAgreed, IsFair, IsOffered, IsSaid, IsSaidBy, IsTapRead, LossyBreaks, LossyBroken, LossyMalformed, asks_in, ends_in, has_gone, lossy_astray, route_astray, NothingExplains, SidesBreak, TapPasses, TapRoute, is_passing, lossy_route, side_of, tap_route, tap_tests, transfer_between}
use Rattle.law_tap.proofs.CertainBetween.{between_lossy}
use Rattle.law_tap.proofs.FiguresAfter.{said_cases, said_later}
use Rattle.law_tap.proofs.LossyCertain.{broken_is_certain}
use Rattle.law_tap.proofs.LossyNone.{accepted_breaks_none}
use Rattle.law_tap.proofs.LossyDecided.{silent_figures, outside_figures, explained_is_not_beyond, first_passes, outside_passes}
use Rattle.law_tap.proofs.LossyExplained.{told_request, told_oack, told_data, told_ack, agrees, sends, explained, oacked_ack, oacked_data}
use Rattle.law_tap.proofs.LossySaid.{Known, known, any_there}
use Rattle.law_tap.proofs.StandingRules.{passing_stays}
use Rattle.law_tap.proofs.OneTapDivision.{one_end}
use Rattle.law_tap.proofs.TapBefore.{first_holds}
use Rattle.law_tap.proofs.TapLaw.{rules_are_runs}
use Rattle.judge_tap.proofs.LossyFound.{answer_breaks, not_certain, stray_breaks}
use Rattle.judge_tap.proofs.SaidAfter.{fit, unfit, offer_later as offer_said_later, oack_by}
use Rattle.tftp_judge.specs.declared.pass_error.PassError.{PassError}
use Rattle.tftp_judge.specs.declared.pass_error.PassError.TheVariants.{Broken as Breaks, Memory}
use Rattle.judge_tap.specs.{AreNotes, AreTold, Notes, BeginsAtTap, FindsAtTap, HasBegun, IsHeard, IsKeptAtTap, IsTapTransfer, TapTransfer, IsNotCertain, IsNoted, IsOfferKept, IsOfferSaid, IsOtherError, IsTold, IsToldIfBroken, IsToldOf, IsUnfit, SomeOack, Told, figures_after}
use Rattle.judge_tap.proofs.StateFound.{transfer_on}

-- ---- by the two sides

said_in : (s : TapSides) (e : End) (n : Message) (xs : List TapDatagram) (x : TapDatagram) → Contains xs x → IsSaidBy s e n x → IsSaid s xs e n
said_in s e n [] x at says = absurd (contains_none x at)
said_in s e n (y ∷ xs) x at says = elim (contains_cases y xs x at) [
  | inl now ↦ any_first (IsSaidBy s e n) y xs (subst (IsSaidBy s e n) (sym now) says)
  | inr before ↦ any_later (IsSaidBy s e n) y xs (said_in s e n xs x before says)
]

wrong_breaks : (s : TapSides) (earlier : List TapDatagram) (d : TapDatagram) (asked : RequestParts) (e : End) (n : Message) → IsWrongKind e asked.side n → LossyBreaks s earlier d asked e n rule.WrongKind
wrong_breaks s earlier d asked e (Message.Request now) wrong = wrong
wrong_breaks s earlier d asked e (Message.Oack options) wrong = wrong
wrong_breaks s earlier d asked e (Message.Data k y) wrong = wrong
wrong_breaks s earlier d asked e (Message.Ack k) wrong = wrong
wrong_breaks s earlier d asked e (Message.Error c t) wrong = wrong

read_by : (d : TapDatagram) (r : TapRoute) → is_passing r ≡ true → (n : Message) × Spells d.payload n → IsTapRead r d
read_by d TapRoute.Request is read = read
read_by d TapRoute.FromClient is read = read
read_by d TapRoute.FromServer is read = read
read_by d _ is read = absurd (cc)

no_sides : (d : TapDatagram) (r : TapRoute) → is_passing r ≡ true → (broken : Rule) → SidesBreak r d broken → ⊥
no_sides d r is (rule.Port PortRule.Foreign) b = true≢false (sym is ∙ ap is_passing b)
no_sides d r is (rule.Port PortRule.Wrong) b = true≢false (sym is ∙ ap is_passing b)
no_sides d r is (rule.Port PortRule.BadAnswer) (inl b) = true≢false (sym is ∙ ap is_passing b)
no_sides d r is (rule.Port PortRule.BadAnswer) (inr b) = true≢false (sym is ∙ ap is_passing b.0)
no_sides d r is _ b = absurd b

not_malformed : (s : TapSides) (d : TapDatagram) (n : Message) → Spells d.payload n → (broken : Rule) → LossyMalformed s d broken → ⊥
not_malformed s d n spells (rule.Malformed fault) (goes, holds) = no_fault d.payload n fault spells.1 holds.0
not_malformed s d n spells _ b = absurd b

module _ (s : TapSides) (apart : AreApart s) where
  abbrev Routes : List TapDatagram → TapDatagram → Type 0
  Routes earlier d =
      ((tap_route s earlier d ≡ route_astray earlier d) × (lossy_route s d ≡ lossy_astray s d))
      ⊎ ((tap_route s earlier d ≡ lossy_route s d) ⊎ ((tap_route s earlier d ≡ TapRoute.WrongPort) × (lossy_route s d ≡ TapRoute.FromClient)))

  routes : (earlier : List TapDatagram) (d : TapDatagram) → Routes earlier d
  routes earlier d = elim (cases_Bool (same_peer d.source s.client)) [
    | inl client ↦ elim (cases_Bool (asks_in d.payload)) [
      | inl asking ↦ inr (inl (rw (client, asking) refl))
      | inr plain ↦ elim (cases_Bool (same_peer d.destination s.server)) [
        | inr off ↦ inl (rw (client, plain, off) refl, rw (client, plain, off) refl)
        | inl to ↦ elim (cases_Bool (has_gone s.server s.client earlier)) [
          | inl gone ↦ inr (inl (rw (client, plain, to, gone) refl))
          | inr none ↦ inr (inr (rw (client, plain, to, none) refl, rw (client, plain, to) refl))
        ]
      ]
    ]
    | inr other ↦ elim (cases_Bool (same_peer d.source s.server)) [
      | inr elsewhere ↦ inr (inl (rw (other, elsewhere) refl))
      | inl server ↦ elim (cases_Bool (same_peer d.destination s.client)) [
        | inl to ↦ inr (inl (rw (other, server, to) refl))
        | inr off ↦ inl (rw (other, server, off) refl, rw (other, server, off) refl)
      ]
    ]
  ]

  pub lossy_astray_is : (d : TapDatagram) → (lossy_astray s d ≡ TapRoute.WrongPort) ⊎ (lossy_astray s d ≡ TapRoute.StrayAnswer)
  lossy_astray_is d = by (same_peer d.destination s.client || same_peer d.destination s.server) (ends_in d.payload) where
    by : (own ends : Bool) → ((if own then TapRoute.WrongPort else if ends then TapRoute.StrayAnswer else TapRoute.WrongPort) ≡ TapRoute.WrongPort) ⊎ ((if own then TapRoute.WrongPort else if ends then TapRoute.StrayAnswer else TapRoute.WrongPort) ≡ TapRoute.StrayAnswer)
    by true ends = inl refl
    by false true = inr refl
    by false false = inl refl

  pub transfer_there : (earlier : List TapDatagram) (x : TapDatagram) → Contains (transfer_between s earlier) x → Contains earlier x × (is_passing (lossy_route s x) ≡ true)
  transfer_there [] x at = absurd (contains_none x at)
  transfer_there (d ∷ earlier) x at = elim (cases_Bool (is_passing (tap_route s earlier d))) [
    | inr off ↦ let r = transfer_there earlier x (subst (λ l. Contains l x) (left off) at) in (contains_later d earlier x r.0, r.1)
    | inl goes ↦ elim (contains_cases d (transfer_between s earlier) x (subst (λ l. Contains l x) (taken goes) at)) [
      | inl now ↦ (subst (Contains (d ∷ earlier)) now (contains_first d earlier), subst (λ (v : TapDatagram). is_passing (lossy_route s v) ≡ true) now (passing_stays s apart earlier d goes))
      | inr before ↦ let r = transfer_there earlier x before in (contains_later d earlier x r.0, r.1)
    ]
  ]
    where
      left : is_passing (tap_route s earlier d) ≡ false → transfer_between s (d ∷ earlier) ≡ transfer_between s earlier
      left off = rw (off) refl

      taken : is_passing (tap_route s earlier d) ≡ true → transfer_between s (d ∷ earlier) ≡ d ∷ transfer_between s earlier
      taken goes = rw (goes) refl

  pub said_there : (earlier : List TapDatagram) (e : End) (n : Message) (x : TapDatagram) → Contains (transfer_between s earlier) x → x.source ≡ side_of s e → Spells x.payload n → IsSaid s earlier e n
  said_there earlier e n x at source spells = let r = transfer_there earlier x at in said_in s e n earlier x r.0 (record { goes = r.1; source = source; spells = spells })

  pub known_of : (tapped : List TapDatagram) → BreaksNoTapRule s tapped → Known s apart tapped
  known_of tapped passes = known s apart tapped (between_lossy s tapped ((rules_are_runs s apart tapped).1 passes))

  -- ---- what has passed

  module _ (tapped : List TapDatagram) (passes : BreaksNoTapRule s tapped) where
    one_request : (asked now : RequestParts) → IsSaid s tapped Client (Message.Request asked) → IsSaid s tapped Client (Message.Request now) → now ≡ asked
    one_request asked now was is = let k = known_of tapped passes in (told_request s apart tapped k Client now is).0 ∙ sym (told_request s apart tapped k Client asked was).0

    low : (e : End) (j : ℕ) (bytes : List ℕ) → IsSaid s tapped e (Message.Data j bytes) → 1 ≤ j
    low e j bytes said = let k = known_of tapped passes in (sends s apart tapped k e j (told_data s apart tapped k e j bytes said).1).1

    one_oack : (e g : End) (options other : OptionMap) → IsSaid s tapped e (Message.Oack options) → IsSaid s tapped g (Message.Oack other) → options ≡ other
    one_oack e g options other is was = let k = known_of tapped passes in (told_oack s apart tapped k e options is).0 ∙ sym (told_oack s apart tapped k g other was).0

    fair : (asked : RequestParts) (e : End) (options : OptionMap) → IsSaid s tapped Client (Message.Request asked) → IsSaid s tapped e (Message.Oack options) → IsFair s.rollover asked options
    fair asked e options request said =
        let k = known_of tapped passes in
        let told = told_oack s apart tapped k e options said in
        let some = (agrees s apart tapped k e told.1).1 in
        subst (IsFair s.rollover asked) (sym told.0) (record { may = subst (λ r. MayAgree s.rollover r k.m.agreed) (sym (told_request s apart tapped k Client asked request).0) k.fits.may_agree; some = some })

    pub data_explained : (asked : RequestParts) → IsSaid s tapped Client (Message.Request asked) → (e : End) (j : ℕ) (bytes : List ℕ) → IsSaid s tapped e (Message.Data j bytes) → NothingExplains s asked tapped → ⊥
    data_explained asked request e j bytes said none =
        let k = known_of tapped passes in
        none _ _ (explained s apart tapped k asked request (oacked_data s apart tapped k e j (told_data s apart tapped k e j bytes said).1))

    pub ack_explained : (asked : RequestParts) → IsSaid s tapped Client (Message.Request asked) → (e : End) (j : ℕ) → IsSaid s tapped e (Message.Ack j) → NothingExplains s asked tapped → ⊥
    ack_explained asked request e j said none =
        let k = known_of tapped passes in
        none _ _ (explained s apart tapped k asked request (oacked_ack s apart tapped k e j (told_ack s apart tapped k e j said)))

  -- ---- one datagram more

  module _ (earlier : List TapDatagram) (d : TapDatagram) (e : End) (m : Message) (says : IsSaidBy s e m d) where
    pub now_said : IsSaid s (d ∷ earlier) e m
    now_said = any_first (IsSaidBy s e m) d earlier says

    pub still : (g : End) (x : Message) → IsSaid s earlier g x → IsSaid s (d ∷ earlier) g x
    still g x said = said_later s earlier d e m says g x said

    offer_later : ((options : OptionMap) → m ≡ Message.Oack options → ⊥) → (offered : Option OptionMap) → IsOffered s earlier offered → IsOffered s (d ∷ earlier) offered
    offer_later other None none = λ g options said. elim (said_cases s earlier d e m says g (Message.Oack options) said) [ inl now ↦ absurd (other options now) | inr before ↦ none g options before ]
    offer_later other (Some agreed) (g, said) = (g, still g _ said)

    some_later : SomeOack s earlier → SomeOack s (d ∷ earlier)
    some_later (g, options, said) = (g, options, still g _ said)

    kept_later : ((options : OptionMap) → m ≡ Message.Oack options → ⊥) → (b : Bool) (offered : Option OptionMap) → IsOfferKept s earlier b offered → IsOfferKept s (d ∷ earlier) b offered
    kept_later other true offered was = offer_later other offered was
    kept_later other false offered was = some_later was

    pub told_silent : ((options : OptionMap) → m ≡ Message.Oack options → ⊥) → ((k : ℕ) → m ≡ Message.Ack k → ⊥) → ((k : ℕ) (bytes : List ℕ) → m ≡ Message.Data k bytes → ⊥) → (t : Told) → AreTold t s earlier → AreTold t s (d ∷ earlier)
    told_silent no_oack no_ack no_data t are = record {
      rollover = are.rollover;
      figures = silent_figures s earlier d e m says no_ack no_data t.figures are.figures;
      offered = kept_later no_oack t.known t.offered are.offered;
    }

    -- the figures are those after it
    pub told_figures : ((options : OptionMap) → m ≡ Message.Oack options → ⊥) → (found : Option Figures) → (found ≡ None → ⊥) → ((f : Figures) → found ≡ Some f → AreFigures f s (d ∷ earlier)) → (t after : Told)
        → after.rollover ≡ t.rollover → after.figures ≡ figures_after found t.figures → after.offered ≡ t.offered → after.known ≡ t.known → AreTold t s earlier → AreTold after s (d ∷ earlier)
    told_figures no_oack None some now t after follows figures offered known are = absurd (some refl)
    told_figures no_oack (Some f) some now t after follows figures offered known are = record {
      rollover = follows ∙ are.rollover;
      figures = subst (λ x. AreFigures x s (d ∷ earlier)) (sym figures) (now f refl);
      offered = subst (λ b. IsOfferKept s (d ∷ earlier) b after.offered) (sym known) (subst (IsOfferKept s (d ∷ earlier) t.known) (sym offered) (kept_later no_oack t.known t.offered are.offered));
    }

  pub told_oack_noted : (earlier : List TapDatagram) (d : TapDatagram) (e : End) (options : OptionMap) → IsSaidBy s e (Message.Oack options) d → (t after : Told) → after.rollover ≡ t.rollover → after.figures ≡ t.figures → IsNoted t options after → AreTold t s earlier → AreTold after s (d ∷ earlier)
  told_oack_noted earlier d e options says t after follows figures noted are = record {
    rollover = follows ∙ are.rollover;
    figures = subst (λ x. AreFigures x s (d ∷ earlier)) (sym figures) (silent_figures s earlier d e _ says (λ k is. absurd (cc)) (λ k bytes is. absurd (cc)) t.figures are.figures);
    offered = by noted;
  }
    where
      here : SomeOack s (d ∷ earlier)
      here = (e, options, now_said earlier d e (Message.Oack options) says)

      kept : (b : Bool) (agreed : OptionMap) (o : Option OptionMap) → o ≡ Some agreed → IsOfferKept s earlier b o → IsOfferKept s (d ∷ earlier) b (Some agreed)
      kept true agreed o is was = let at = subst (IsOffered s earlier) is was in (at.0, still earlier d e _ says at.0 _ at.1)
      kept false agreed o is was = here

      first : (b : Bool) → IsOfferKept s (d ∷ earlier) b (Some options)
      first true = (e, now_said earlier d e (Message.Oack options) says)
      first false = here

      by : IsNoted t options after → IsOfferKept s (d ∷ earlier) after.known after.offered
      by (inl unknown) = subst (λ b. IsOfferKept s (d ∷ earlier) b after.offered) (sym unknown) here
      by (inr (sure, inl (agreed, was, is))) = subst (λ b. IsOfferKept s (d ∷ earlier) b after.offered) (sym sure) (subst (IsOfferKept s (d ∷ earlier) t.known) (sym is) (kept t.known agreed t.offered was are.offered))
      by (inr (sure, inr is)) = subst (λ b. IsOfferKept s (d ∷ earlier) b after.offered) (sym sure) (subst (IsOfferKept s (d ∷ earlier) t.known) (sym is) (first t.known))

  -- ---- what an accepted list says is of the transfer

  passing_back : (earlier : List TapDatagram) (d : TapDatagram) → TapPasses s earlier d → is_passing (lossy_route s d) ≡ true → is_passing (tap_route s earlier d) ≡ true
  passing_back earlier d passes goes = elim (routes earlier d) [
    | inl astray ↦ absurd (elim (lossy_astray_is d) [
      | inl wrong ↦ true≢false (sym goes ∙ ap is_passing (astray.1 ∙ wrong))
      | inr answer ↦ true≢false (sym goes ∙ ap is_passing (astray.1 ∙ answer))
    ])
    | inr more ↦ elim more [ inl same ↦ ap is_passing same ∙ goes | inr client ↦ absurd (passes.lawful (rule.Port PortRule.Wrong) (inl client.0)) ]
  ]

  abbrev Saying : End → Message → TapDatagram → Type 0
  Saying e m x = (x.source ≡ side_of s e) × Spells x.payload m

  said_passed : (earlier : List TapDatagram) → BreaksNoTapRule s earlier → (e : End) (m : Message) → IsSaid s earlier e m → Any (Saying e m) (transfer_between s earlier)
  said_passed [] passes e m said = absurd (any_none (IsSaidBy s e m) said)
  said_passed (d ∷ earlier) passes e m said = elim (any_cases (IsSaidBy s e m) d earlier said) [
    | inl now ↦ subst (Any (Saying e m)) (sym (on (passing_back earlier d passes.0 now.goes))) (any_first (Saying e m) d (transfer_between s earlier) (now.source, now.spells))
    | inr before ↦ elim (cases_Bool (is_passing (tap_route s earlier d))) [
      | inl is ↦ subst (Any (Saying e m)) (sym (on is)) (any_later (Saying e m) d (transfer_between s earlier) (said_passed earlier passes.1 e m before))
      | inr is ↦ subst (Any (Saying e m)) (sym (off is)) (said_passed earlier passes.1 e m before)
    ]
  ]
    where
      on : is_passing (tap_route s earlier d) ≡ true → transfer_between s (d ∷ earlier) ≡ d ∷ transfer_between s earlier
      on is = rw (is) refl

      off : is_passing (tap_route s earlier d) ≡ false → transfer_between s (d ∷ earlier) ≡ transfer_between s earlier
      off is = rw (is) refl

  pub told_outside : (earlier : List TapDatagram) (d : TapDatagram) → TapPasses s earlier d → is_passing (tap_route s earlier d) ≡ false → (t : Told) → AreTold t s earlier → AreTold t s (d ∷ earlier)
  told_outside earlier d passes off t are = record {
    rollover = are.rollover;
    figures = outside_figures s earlier d out t.figures are.figures;
    offered = kept t.known t.offered are.offered;
  }
    where
      out : is_passing (lossy_route s d) ≡ false
      out = elim (cases_Bool (is_passing (lossy_route s d))) [ inl goes ↦ absurd (true≢false (sym (passing_back earlier d passes goes) ∙ off)) | inr is ↦ is ]

      before : (g : End) (x : Message) → IsSaid s (d ∷ earlier) g x → IsSaid s earlier g x
      before g x said = elim (any_cases (IsSaidBy s g x) d earlier said) [ inl now ↦ absurd (true≢false (sym now.goes ∙ out)) | inr was ↦ was ]

      on_said : (g : End) (x : Message) → IsSaid s earlier g x → IsSaid s (d ∷ earlier) g x
      on_said g x said = any_later (IsSaidBy s g x) d earlier said

      kept : (b : Bool) (o : Option OptionMap) → IsOfferKept s earlier b o → IsOfferKept s (d ∷ earlier) b o
      kept true None none = λ g options said. none g options (before g _ said)
      kept true (Some agreed) (g, said) = (g, on_said g _ said)
      kept false o (g, options, said) = (g, options, on_said g _ said)

  -- ---- a datagram that is refused

  module _ (earlier : List TapDatagram) (passes : BreaksNoTapRule s earlier) (d : TapDatagram) (e : End) (asked : RequestParts) (request : IsSaid s earlier Client (Message.Request asked)) (t : Told) (are : AreTold t s earlier) where
    offer_said : (o : Option OptionMap) → IsOffered s earlier o → IsOfferSaid s earlier asked o
    offer_said None none = none
    offer_said (Some agreed) (g, said) =
        let k = known_of earlier passes in
        let server = (agrees s apart earlier k g (told_oack s apart earlier k g agreed said).1).0 in
        (fair earlier passes asked g agreed request said, subst (λ h. IsSaid s earlier h (Message.Oack agreed)) server said, λ h options told. one_oack earlier passes h g options agreed told said)

    known_offer : t.known ≡ true → IsOfferSaid s earlier asked t.offered
    known_offer is = offer_said t.offered (subst (λ b. IsOfferKept s earlier b t.offered) is are.offered)

    unknown : (m : Message) → IsSaidBy s e m d → t.known ≡ false → SomeOack s (d ∷ earlier)
    unknown m says is = some_later earlier d e m says (subst (λ b. IsOfferKept s earlier b t.offered) is are.offered)

    -- what has a number
    module _ (m : Message) (says : IsSaidBy s e m d) (no_oack : (options : OptionMap) → m ≡ Message.Oack options → ⊥) (found : Option Figures) (now : (f : Figures) → found ≡ Some f → AreFigures f s (d ∷ earlier))
        (none : found ≡ None → NothingExplains s asked (d ∷ earlier)) where
      later : t.known ≡ true → IsOfferSaid s (d ∷ earlier) asked t.offered
      later is = offer_said_later s earlier d e m says no_oack asked t.offered (known_offer is)

      abbrev Low : Type 0
      Low = (k : ℕ) (bytes : List ℕ) → m ≡ Message.Data k bytes → 1 ≤ k

      low_later : Low → (g : End) (k : ℕ) (bytes : List ℕ) → IsSaid s (d ∷ earlier) g (Message.Data k bytes) → 1 ≤ k
      low_later own g k bytes said = elim (said_cases s earlier d e m says g (Message.Data k bytes) said) [ inl is ↦ own k bytes is | inr before ↦ low earlier passes g k bytes before ]

      -- the answer, by whether something explains it
      pub numbered : Low → (answer : Option Bool) → IsUnfit asked t found answer → ((NothingExplains s asked (d ∷ earlier) → (broken : Rule) × LossyBreaks s earlier d asked e m broken))
          → ((NothingExplains s asked (d ∷ earlier) → ⊥) → (broken : Rule) → LossyBreaks s earlier d asked e m broken → broken ≡ rule.Block EndRule.BlockChanged) → IsToldOf s earlier d asked e m answer
      numbered own answer unfits breaks passes_on = by found refl answer unfits where
        by : (x : Option Figures) → found ≡ x → (a : Option Bool) → IsUnfit asked t x a → IsToldOf s earlier d asked e m a
        by None is a one = subst (IsToldOf s earlier d asked e m) (sym one) (breaks (none is))
        by (Some f) is (Some true) (sure, never) = breaks (unfit s asked (d ∷ earlier) f (now f is) t.offered (later sure) never)
        by (Some f) is (Some false) (sure, fits) = passes_on (fit s asked (d ∷ earlier) f (now f is) t.offered (later sure) (low_later own) (still earlier d e m says Client _ request) fits)
        by (Some f) is None not_known = unknown m says not_known

    pub ack_told : (j : ℕ) (says : IsSaidBy s e (Message.Ack j) d) → (IsWrongKind e asked.side (Message.Ack j) → ⊥) → (found : Option Figures) → ((f : Figures) → found ≡ Some f → AreFigures f s (d ∷ earlier))
        → (found ≡ None → NothingExplains s asked (d ∷ earlier)) → (answer : Option Bool) → IsUnfit asked t found answer → IsToldOf s earlier d asked e (Message.Ack j) answer
    ack_told j says right found now none answer unfits = numbered (Message.Ack j) says (λ options is. absurd (cc)) found now none (λ k bytes is. absurd (cc)) answer unfits (breaks j refl) passes_on where
      breaks : (i : ℕ) → j ≡ i → NothingExplains s asked (d ∷ earlier) → (broken : Rule) × LossyBreaks s earlier d asked e (Message.Ack j) broken
      breaks zero is nothing = (rule.Block EndRule.AckZero, (is, nothing))
      breaks (suc i) is nothing = (rule.Block EndRule.AckAhead, (omega (arith, is), nothing))

      passes_on : (NothingExplains s asked (d ∷ earlier) → ⊥) → (broken : Rule) → LossyBreaks s earlier d asked e (Message.Ack j) broken → broken ≡ rule.Block EndRule.BlockChanged
      passes_on some rule.WrongKind b = absurd (right b)
      passes_on some (rule.Block EndRule.AckAhead) b = absurd (some b.1)
      passes_on some (rule.Block EndRule.AckZero) b = absurd (some b.1)
      passes_on some _ b = absurd b

    pub block_told : (j : ℕ) (bytes : List ℕ) (says : IsSaidBy s e (Message.Data j bytes) d) → (IsWrongKind e asked.side (Message.Data j bytes) → ⊥) → 1 ≤ j → (found : Option Figures) → ((f : Figures) → found ≡ Some f → AreFigures f s (d ∷ earlier))
        → (found ≡ None → NothingExplains s asked (d ∷ earlier)) → (answer : Option Bool) → IsUnfit asked t found answer → IsToldOf s earlier d asked e (Message.Data j bytes) answer
    block_told j bytes says right from_one found now none answer unfits =
        numbered (Message.Data j bytes) says (λ options is. absurd (cc)) found now none (λ k x is. let same : j ≡ k = cc in subst (λ i. 1 ≤ i) same from_one) answer unfits (λ nothing. (rule.Block EndRule.BlockLength, nothing)) passes_on where
          passes_on : (NothingExplains s asked (d ∷ earlier) → ⊥) → (broken : Rule) → LossyBreaks s earlier d asked e (Message.Data j bytes) broken → broken ≡ rule.Block EndRule.BlockChanged
          passes_on some rule.WrongKind b = absurd (right b)
          passes_on some (rule.Block EndRule.BeyondBlock65535) b = absurd (explained_is_not_beyond s earlier d e j bytes says asked some b)
          passes_on some (rule.Block EndRule.BlockZero) b = absurd (omega (arith, b, from_one))
          passes_on some (rule.Block EndRule.BlockLength) b = absurd (some b)
          passes_on some (rule.Block EndRule.BlockChanged) b = refl
          passes_on some _ b = absurd b

    pub request_told : (now : RequestParts) → (IsWrongKind e asked.side (Message.Request now) → ⊥) → (same : Bool) → ((same ≡ true) → asked ≡ now) → (asked ≡ now → same ≡ true) → (answer : Bool) → answer ≡ not same → IsToldOf s earlier d asked e (Message.Request now) (Some answer)
    request_told now right same one back answer is = subst (λ b. IsToldOf s earlier d asked e (Message.Request now) (Some b)) (sym is) (by same one back) where
      by : (b : Bool) → ((b ≡ true) → asked ≡ now) → (asked ≡ now → b ≡ true) → IsToldOf s earlier d asked e (Message.Request now) (Some (not b))
      by true one back = none where
        none : (broken : Rule) → LossyBreaks s earlier d asked e (Message.Request now) broken → broken ≡ rule.Block EndRule.BlockChanged
        none rule.WrongKind b = absurd (right b)
        none rule.RequestChanged b = absurd (b (sym (one refl)))
        none _ b = absurd b
      by false one back = (rule.RequestChanged, λ is. true≢false (sym (back (sym is))))

    pub error_told : (code : ℕ) (text : List ℕ) → (IsWrongKind e asked.side (Message.Error code text) → ⊥) → (other : Bool) → (other ≡ true → IsOtherError s (transfer_between s earlier) e (Message.Error code text))
        → (IsOtherError s (transfer_between s earlier) e (Message.Error code text) → other ≡ true) → IsToldOf s earlier d asked e (Message.Error code text) (Some other)
    error_told code text right true one back =
        let (c, words, before, differ) = one refl in
        let (x, at, is) = any_there (λ (v : TapDatagram). (v.source ≡ side_of s e) × Spells v.payload (Message.Error c words)) (transfer_between s earlier) before in
        (rule.AfterError, (c, words, said_there earlier e (Message.Error c words) x at is.0 is.1, λ same. let number : code ≡ c = cc in let said : text ≡ words = cc in differ (number, said)))
    error_told code text right false one back = none where
      none : (broken : Rule) → LossyBreaks s earlier d asked e (Message.Error code text) broken → broken ≡ rule.Block EndRule.BlockChanged
      none rule.WrongKind b = absurd (right b)
      none rule.AfterError (c, words, said, differs) =
          absurd (true≢false (sym (back (c, words, said_passed earlier passes e (Message.Error c words) said, λ same. differs (λ i. Message.Error (same.0 i) (same.1 i))))))
      none _ b = absurd b

    -- ---- an OACK

    module _ (options : OptionMap) (says : IsSaidBy s e (Message.Oack options) d) (right : IsWrongKind e asked.side (Message.Oack options) → ⊥) where
      abbrev To : Option Bool → Type 0
      To answer = IsToldOf s earlier d asked e (Message.Oack options) answer

      good : IsFair s.rollover asked options → (fault : NegoFault) → Holds s.rollover fault asked options → ⊥
      good is fault holds = faultless s.rollover asked options is.some is.may fault holds

      by_server : (x : Message) → IsSaid s earlier Server x → IsSaid s earlier e x
      by_server x said = subst (λ g. IsSaid s earlier g x) (sym (oack_by e asked.side options right)) said

      pub oack_after : (agreed : OptionMap) → t.known ≡ true → t.offered ≡ Some agreed → (same : Bool) → (same ≡ true → agreed ≡ options) → (agreed ≡ options → same ≡ true) → (answer : Bool) → answer ≡ not same → To (Some answer)
      oack_after agreed known is same one back answer told = subst (λ b. To (Some b)) (sym told) (by same one back) where
        was : IsOfferSaid s earlier asked (Some agreed)
        was = subst (IsOfferSaid s earlier asked) is (known_offer known)

        by : (b : Bool) → (b ≡ true → agreed ≡ options) → (agreed ≡ options → b ≡ true) → To (Some (not b))
        by false one back = (rule.OackChanged, (agreed, by_server _ was.1, λ is. true≢false (sym (back (sym is)))))
        by true one back = none where
          none : (broken : Rule) → LossyBreaks s earlier d asked e (Message.Oack options) broken → broken ≡ rule.Block EndRule.BlockChanged
          none rule.WrongKind b = absurd (right b)
          none (rule.Agreement broken) b = absurd (good (subst (IsFair s.rollover asked) (one refl) was.0) (NegoFault.Broken broken) b)
          none rule.OackChanged (first, at, differs) = absurd (differs (sym (one refl) ∙ sym (was.2 e first at)))
          none rule.ReplyChanged b = absurd (b.0.first agreed (by_server _ was.1))
          none (rule.Block EndRule.BeyondBlock65535) b = absurd (good (subst (IsFair s.rollover asked) (one refl) was.0) NegoFault.BeyondBlock65535 b)
          none _ b = absurd b

      pub oack_unknown : To None
      oack_unknown = (e, options, now_said earlier d e _ says)

      pub oack_faulty : (fault : NegoFault) → (fault ≡ NegoFault.Memory → ⊥) → FirstNegoFault s.rollover asked options fault → To (Some true)
      oack_faulty (NegoFault.Broken broken) known found = (rule.Agreement broken, found.0)
      oack_faulty NegoFault.BeyondBlock65535 known found = (rule.Block EndRule.BeyondBlock65535, found.0)
      oack_faulty NegoFault.Memory known found = absurd (known refl)

      pub oack_first : t.known ≡ true → t.offered ≡ None → IsFair s.rollover asked options → (fits : Bool) → (fits ≡ true → FitsAgreed asked options t.figures) → (FitsAgreed asked options t.figures → fits ≡ true) → (answer : Bool) → answer ≡ not fits → To (Some answer)
      oack_first known is fair_now fits one back answer told = subst (λ b. To (Some b)) (sym told) (by fits one back) where
        none_before : (g : End) (other : OptionMap) → IsSaid s earlier g (Message.Oack other) → ⊥
        none_before = subst (IsOfferSaid s earlier asked) is (known_offer known)

        figures_now : AreFigures t.figures s (d ∷ earlier)
        figures_now = silent_figures s earlier d e _ says (λ k now. absurd (cc)) (λ k bytes now. absurd (cc)) t.figures are.figures

        low_now : (g : End) (k : ℕ) (bytes : List ℕ) → IsSaid s (d ∷ earlier) g (Message.Data k bytes) → 1 ≤ k
        low_now g k bytes said = elim (said_cases s earlier d e _ says g (Message.Data k bytes) said) [ inl now ↦ absurd (cc) | inr before ↦ low earlier passes g k bytes before ]

        offer_now : IsOfferSaid s (d ∷ earlier) asked (Some options)
        offer_now = (
          fair_now,
          subst (λ g. IsSaid s (d ∷ earlier) g (Message.Oack options)) (oack_by e asked.side options right) (now_said earlier d e _ says),
          λ g other told. elim (said_cases s earlier d e _ says g (Message.Oack other) told) [ inl now ↦ let one : options ≡ other = cc in sym one | inr before ↦ absurd (none_before g other before) ],
        )

        by : (b : Bool) → (b ≡ true → FitsAgreed asked options t.figures) → (FitsAgreed asked options t.figures → b ≡ true) → To (Some (not b))
        by false one back = (
          rule.ReplyChanged,
          (record { may = fair_now.may; some = fair_now.some; first = none_before e }, unfit s asked (d ∷ earlier) t.figures figures_now (Some options) offer_now (λ fit. true≢false (sym (back fit)))),
        )
        by true one back = none where
          none : (broken : Rule) → LossyBreaks s earlier d asked e (Message.Oack options) broken → broken ≡ rule.Block EndRule.BlockChanged
          none rule.WrongKind b = absurd (right b)
          none (rule.Agreement broken) b = absurd (good fair_now (NegoFault.Broken broken) b)
          none rule.OackChanged (other, at, differs) = absurd (none_before e other at)
          none rule.ReplyChanged b = absurd (fit s asked (d ∷ earlier) t.figures figures_now (Some options) offer_now low_now (still earlier d e _ says Client _ request) (one refl) b.1)
          none (rule.Block EndRule.BeyondBlock65535) b = absurd (good fair_now NegoFault.BeyondBlock65535 b)
          none _ b = absurd b

    -- ---- what is told of the datagram

    pub wrong_told : (m : Message) → IsWrongKind e asked.side m → IsToldOf s earlier d asked e m (Some true)
    wrong_told m wrong = (rule.WrongKind, wrong_breaks s earlier d asked e m wrong)

    pub told_by : (m : Message) → IsSaidBy s e m d → (answer : Option Bool) → IsToldOf s earlier d asked e m answer → IsTold s earlier d answer
    told_by m says (Some true) told = (told.0, inr (inr (record { end = e; message = m; says = says; asked = asked; request = request; breaks = told.1 })))
    told_by m says None told = told
    told_by m says (Some false) told = (read_by d (lossy_route s d) says.goes (m, says.spells), lawful) where
      lawful : (broken : Rule) → LossyBroken s earlier d broken → broken ≡ rule.Block EndRule.BlockChanged
      lawful broken (inl b) = absurd (no_sides d (lossy_route s d) says.goes broken b)
      lawful broken (inr (inl b)) = absurd (not_malformed s d m says.spells broken b)
      lawful broken (inr (inr b)) =
          let end = one_end s apart b.end e (sym b.says.source ∙ says.source) in
          let message = spelled_once d.payload b.message m b.says.spells says.spells in
          let same = one_request earlier passes asked b.asked request b.request in
          told broken (subst (λ r. LossyBreaks s earlier d r e m broken) same (subst (λ x. LossyBreaks s earlier d b.asked e x broken) message (subst (λ g. LossyBreaks s earlier d b.asked g b.message broken) end b.breaks)))

  pub malformed_told : (earlier : List TapDatagram) (d : TapDatagram) → is_passing (lossy_route s d) ≡ true → (fault : PacketFault) → FirstFault d.payload fault → IsTold s earlier d (Some true)
  malformed_told earlier d goes fault is = (rule.Malformed fault, inr (inl (goes, is)))

  -- nothing of the transfer has passed
  pub first_told : (earlier : List TapDatagram) → BreaksNoTapRule s earlier → transfer_between s earlier ≡ [] → (d : TapDatagram) (e : End) (m : Message) → IsSaidBy s e m d → IsTold s earlier d (Some false)
  first_told earlier passes nothing d e m says =
      let first = first_passes s earlier d e m says (λ now said. any_none _ (subst (Any _) nothing (said_passed earlier passes Client (Message.Request now) said))) in
      (first.read, λ broken b. absurd (first.lawful broken b))

  -- the first request of the transfer was said
  pub asked_is_said : (earlier : List TapDatagram) (asked : RequestParts) → FirstTapAsked s (transfer_between s earlier) asked → IsSaid s earlier Client (Message.Request asked)
  asked_is_said earlier asked (x, first, spells) =
      let there = first_holds (tap_tests s).asks (transfer_between s earlier) x first in
      let parts = and_parts (same_peer x.source s.client) (asks_in x.payload) there.0 in
      said_there earlier Client (Message.Request asked) x there.1 (is_same x.source s.client parts.0) spells

-- what is none of the transfer, and breaks no rule of ports
pub outside_told : (s : TapSides) (earlier : List TapDatagram) (d : TapDatagram) → is_passing (lossy_route s d) ≡ false → IsTapRead (lossy_route s d) d → ((broken : Rule) → SidesBreak (lossy_route s d) d broken → ⊥) → IsTold s earlier d (Some false)
outside_told s earlier d out read sides = let passes = outside_passes s earlier d out read sides in (read, λ broken b. absurd (passes.lawful broken b))

pub stray_told : (s : TapSides) (earlier : List TapDatagram) (d : TapDatagram) → lossy_route s d ≡ TapRoute.Stray → IsTold s earlier d (Some false)
stray_told s earlier d is = outside_told s earlier d (ap is_passing is) (subst (λ r. IsTapRead r d) (sym is) tt) (λ broken b. stray_breaks d broken (subst (λ r. SidesBreak r d broken) is b))

pub answer_told : (s : TapSides) (earlier : List TapDatagram) (d : TapDatagram) → lossy_route s d ≡ TapRoute.StrayAnswer → (unknown : Bool) → (unknown ≡ true → (text : List ℕ) × Spells d.payload (Message.Error 5 text))
    → ((text : List ℕ) × Spells d.payload (Message.Error 5 text) → unknown ≡ true) → IsTold s earlier d (Some (not unknown))
answer_told s earlier d is true one back =
    let said = one refl in
    outside_told s earlier d (ap is_passing is) (subst (λ r. IsTapRead r d) (sym is) said) (λ broken b. answer_breaks d said.0 said.1 broken (subst (λ r. SidesBreak r d broken) is b))
answer_told s earlier d is false one back = (rule.Port PortRule.BadAnswer, inl (inr (is, λ text spells. true≢false (sym (back (text, spells))))))

-- a stop by a rule tells that, and one by memory nothing
pub if_broken : (s : TapSides) (earlier : List TapDatagram) (d : TapDatagram) (stop : PassError) (answer : Option Bool) → IsTold s earlier d answer → IsToldIfBroken s earlier d (Err stop) answer
if_broken s earlier d (Breaks broken) answer told = told
if_broken s earlier d Memory answer told = tt

-- ---- what the judge keeps

pub kept_heard : (s : TapSides) (passed : List TapDatagram) (kept : Option TapTransfer) → IsKeptAtTap s passed kept → IsHeard s passed kept
kept_heard s passed None none = none
kept_heard s passed (Some transfer) are = (are.asked, are.notes)

-- where the datagram passes, its transfer is heard with it
pub passed_told : (s : TapSides) (earlier : List TapDatagram) (d : TapDatagram) → is_passing (tap_route s earlier d) ≡ true → (after : TapTransfer) (Told_now : Type 0) (found : Result (Unit {0}) PassError)
    → FindsAtTap s earlier d (IsTapTransfer after s (d ∷ transfer_between s earlier)) found → (IsHeard s (transfer_between s (d ∷ earlier)) (Some after) → OnOk found Told_now) → OnOk found Told_now
passed_told s earlier d passing after Told_now (Ok u) finds told = told (subst (λ (l : List TapDatagram). IsHeard s l (Some after)) (sym (transfer_on s earlier d passing)) (finds.1.asked, finds.1.notes))
passed_told s earlier d passing after Told_now (Err stop) finds told = tt

-- where memory is wanting, the datagram passes
pub wanting_found : (s : TapSides) (earlier : List TapDatagram) (d : TapDatagram) (After : Type 0) (found : Result (Unit {0}) PassError) → Err Memory ≡ found → TapPasses s earlier d → FindsAtTap s earlier d After found
wanting_found s earlier d After found is passes = subst (FindsAtTap s earlier d After) is passes

-- where it breaks a rule, the transfer is heard as before
pub stopped_told : (s : TapSides) (earlier : List TapDatagram) (d : TapDatagram) (before after : TapTransfer) → IsTapTransfer before s (transfer_between s earlier) → after.asked ≡ before.asked → (found : Result (Unit {0}) PassError)
    → IfErr found (λ stop. stop ≢ Memory → after.notes ≡ before.notes) → (answer : Option Bool)
    → (OnErr found (IsHeard s (transfer_between s earlier) (Some after)) → IsToldIfBroken s earlier d found answer) → IsToldIfBroken s earlier d found answer
stopped_told s earlier d before after was asked (Ok u) stays answer told = tt
stopped_told s earlier d before after was asked (Err Memory) stays answer told = tt
stopped_told s earlier d before after was asked (Err (Breaks broken)) stays answer told =
    told (
      subst (λ (q : RequestParts). FirstTapAsked s (transfer_between s earlier) q) (sym asked) was.asked,
      subst (λ (n : Notes). AreNotes n s (transfer_between s earlier)) (sym (stays (λ memory. absurd (cc)))) was.notes,
    )

-- the first request of the transfer
pub begun_told : (s : TapSides) (earlier : List TapDatagram) (d : TapDatagram) → AreApart s → is_passing (tap_route s earlier d) ≡ true → (e : End) → d.source ≡ side_of s e → (begun : TapTransfer) → BeginsAtTap s earlier d (Ok begun)
    → (t : Told) → AreTold t s earlier → AreTold t s (d ∷ earlier)
begun_told s earlier d apart passing e source begun (passes, is) t are =
    let (x, first, spells) = is.asked in
    let there = first_holds (tap_tests s).asks (d ∷ []) x first in
    let same : d ≡ x = elim (contains_cases d [] x there.1) [ inl now ↦ now | inr none ↦ absurd (contains_none x none) ] in
    let says : IsSaidBy s e (Message.Request begun.asked) d = record { goes = passing_stays s apart earlier d passing; source = source; spells = subst (λ (y : TapDatagram). Spells y.payload (Message.Request begun.asked)) (sym same) spells } in
    told_silent s apart earlier d e _ says (λ options other. absurd (cc)) (λ k other. absurd (cc)) (λ k bytes other. absurd (cc)) t are

-- ---- whether it is certain

pub told_certain : (s : TapSides) (earlier : List TapDatagram) (d : TapDatagram) → AreApart s → IsTold s earlier d (Some true) → IsCertainBetween s earlier d
told_certain s earlier d apart (broken, b) = broken_is_certain s earlier d broken apart b

pub told_not_certain : (s : TapSides) (earlier : List TapDatagram) (d : TapDatagram) → AreApart s → BreaksNoTapRule s earlier → IsTold s earlier d (Some false)
    → (LossyBroken s earlier d (rule.Block EndRule.BlockChanged) → ⊥) → HasBegun s (d ∷ earlier) → IsNotCertain s earlier d
told_not_certain s earlier d apart passes (read, none) same begun =
    not_certain s earlier d apart (record { read = read; lawful = λ broken b. same (subst (LossyBroken s earlier d) (none broken b) b) }, accepted_breaks_none s earlier apart passes) begun
