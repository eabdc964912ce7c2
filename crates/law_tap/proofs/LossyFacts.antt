-- What is known of a list that begins with its request and breaks no rule with losses.
use Rattle.std.proofs.Common.{◌≡◌, ◌≢◌, ◌⊎◌, ℕ, zero, suc, ◌+◌, ◌/◌, ◌≤◌, Bool, true, false, List, [], ◌∷◌, None, Some, codes, inl, inr, refl, sym, subst, ap, ◌∙◌, arith, ◌==◌, ◌&&◌, if◌then◌else◌, Option}
use Rattle.std.specs.List.{AllByRecursion}
use Rattle.std.proofs.lemmas.Bool.{true≢false, cases_Bool, cases_eq}
use Rattle.std.proofs.lemmas.Nat.{div-add-mod'}
use Rattle.tftp_packet.specs.{OptionMap, Num, no_options, RequestParts, Message, Spells, Side, Get, Put, End, Client, Server}
use Rattle.tftp_packet.proofs.RoundsLemmas.Greatest.{two_bytes_within, most_blocks}
use Rattle.tftp_packet.specs.Rounds.{greatest_of}
use Rattle.tftp_packet.specs.{Rollover}
use Rattle.tftp_packet.specs.Hosts.{same_peer}
use Rattle.tftp_nego.specs.{number_or, Holds, NegoFault, AgreementRule}
use Rattle.law_model.specs.{EndRule}
use Rattle.law_end.specs.{IsWrongKind, Rule}
use Rattle.law_end.specs.declared.rule.Rule.TheVariants as rule
use Rattle.law_end.proofs.FirstBroken.Agreed.{without_fault}
use Rattle.law_end.proofs.Division.Divided.{any_none, any_cases, any_first, any_later}
use Rattle.law_end.proofs.Division.RouteTests.{is_same}
use Rattle.law_end.proofs.Soundness.MadeMeaning.{none_found, none_may_be_agreed}
use Rattle.law_end.proofs.Soundness.SameOrNot.{same_request, same_options, same_text}
use Rattle.law_end.proofs.Spelled.{spelled_once}
use Rattle.law_tap.specs.{TapDatagram, TapSides, side_of, AreApart, asks_in, is_passing, IsTapRead, TapRoute}
use Rattle.law_tap.proofs.OneTapDivision.{one_end}
use Rattle.law_tap.specs.TapRoutes.{route_from_elsewhere}
use Rattle.law_tap.specs.LossyRules.{lossy_route, IsSaidBy, IsSaid, IsNumber, Explains, NothingExplains, block_size, LossyBreaks, LossyPasses, BreaksNoLossyRule, BeginsWithRequest}

same_error : (c d : ℕ) (t u : List ℕ) → (Message.Error c t ≢ Message.Error d u → ⊥) → Message.Error c t ≡ Message.Error d u
same_error c d t u none = elim (cases_eq c d) [
  | inr other ↦ absurd (none (λ is. other (cc)))
  | inl number ↦ elim (same_text t u) [ inr other ↦ absurd (none (λ is. other (cc))) | inl words ↦ λ i. Message.Error (number i) (words i) ]
]

same_bytes : (x y : List ℕ) → (x ≢ y → ⊥) → x ≡ y
same_bytes x y none = elim (same_text x y) [ inl is ↦ is | inr other ↦ absurd (none other) ]

usual_size : block_size no_options ≡ 512
usual_size = ap (λ o. number_or 512 o) (none_found (codes "blksize"))

none_long : (rollover : Option Rollover) → 0 / block_size no_options + 1 ≤ greatest_of rollover
none_long rollover = subst (λ b. 0 / b + 1 ≤ greatest_of rollover) (sym usual_size) (let least = two_bytes_within rollover in let split = div-add-mod' 0 512 in omega (arith, split))

module _ (s : TapSides) (apart : AreApart s) where
  pub record Facts (tapped : List TapDatagram) (asked : RequestParts) : Type 0 where
    pub request : IsSaid s tapped Client (Message.Request asked)
    pub requests : (e : End) (now : RequestParts) → IsSaid s tapped e (Message.Request now) → now ≡ asked
    pub kinds : (e : End) (n : Message) → IsSaid s tapped e n → IsWrongKind e asked.side n → ⊥
    pub errors : (e : End) (c d : ℕ) (t u : List ℕ) → IsSaid s tapped e (Message.Error c t) → IsSaid s tapped e (Message.Error d u) → Message.Error c t ≡ Message.Error d u
    pub blocks : (e : End) (k : ℕ) (x y : List ℕ) → IsSaid s tapped e (Message.Data k x) → IsSaid s tapped e (Message.Data k y) → x ≡ y
    pub low : (e : End) (k : ℕ) (x : List ℕ) → IsSaid s tapped e (Message.Data k x) → 1 ≤ k
    pub explained : NothingExplains s asked tapped → ⊥

  -- ---- a datagram of the transfer says something of an end

  pub read_passing : (d : TapDatagram) (r : TapRoute) → is_passing r ≡ true → IsTapRead r d → (n : Message) × Spells d.payload n
  read_passing d TapRoute.Request is read = read
  read_passing d TapRoute.FromClient is read = read
  read_passing d TapRoute.FromServer is read = read
  read_passing d _ is read = absurd (cc)

  pub never_elsewhere : (d : TapDatagram) → is_passing (route_from_elsewhere s d) ≡ false
  never_elsewhere d = by (same_peer d.destination s.client) (same_peer d.destination s.server) ((s.server.port == s.asked.port) && asks_in d.payload) where
    by : (a b c : Bool) → is_passing (if a then TapRoute.Stray else if b then (if c then TapRoute.ForeignPort else TapRoute.Stray) else TapRoute.ForeignPort) ≡ false
    by true b c = refl
    by false true true = refl
    by false true false = refl
    by false false c = refl

  pub passing_end : (d : TapDatagram) → is_passing (lossy_route s d) ≡ true → (e : End) × (d.source ≡ side_of s e)
  passing_end d goes = elim (cases_Bool (same_peer d.source s.client)) [
    | inl client ↦ (Client, is_same d.source s.client client)
    | inr no_client ↦ elim (cases_Bool (same_peer d.source s.server)) [
      | inl server ↦ (Server, is_same d.source s.server server)
      | inr no_server ↦
          let route : lossy_route s d ≡ route_from_elsewhere s d = rw (no_client, no_server) refl in
          absurd (true≢false (sym goes ∙ ap is_passing route ∙ never_elsewhere d))
    ]
  ]

  -- ---- one datagram more

  module _ (d : TapDatagram) (earlier : List TapDatagram) (asked : RequestParts) (f : Facts earlier asked) where
    -- it is none of the transfer
    module _ (out : is_passing (lossy_route s d) ≡ false) where
      back : (e : End) (n : Message) → IsSaid s (d ∷ earlier) e n → IsSaid s earlier e n
      back e n said = elim (any_cases (IsSaidBy s e n) d earlier said) [ inl now ↦ absurd (true≢false (sym now.goes ∙ out)) | inr before ↦ before ]

      number_back : (k : ℕ) → IsNumber s (d ∷ earlier) k → IsNumber s earlier k
      number_back k (e, inl said) = (e, inl (back e (Message.Ack k) said))
      number_back k (e, inr (x, said)) = (e, inr (x, back e (Message.Data k x) said))

      still : (agreed : OptionMap) (total : ℕ) → Explains s asked earlier agreed total → Explains s asked (d ∷ earlier) agreed total
      still agreed total x = record {
        may = x.may;
        spelled = x.spelled;
        given = λ e options said. x.given e options (back e (Message.Oack options) said);
        zero = λ get e said. x.zero get e (back e (Message.Ack 0) said);
        size = x.size;
        numbered = x.numbered;
        numbers = λ k is. x.numbers k (number_back k is);
        blocks = λ e k y said. x.blocks e k y (back e (Message.Data k y) said);
      }

      pub outside : Facts (d ∷ earlier) asked
      outside = record {
        request = any_later (IsSaidBy s Client (Message.Request asked)) d earlier f.request;
        requests = λ e now said. f.requests e now (back e (Message.Request now) said);
        kinds = λ e n said wrong. f.kinds e n (back e n said) wrong;
        errors = λ e c c' t t' one other. f.errors e c c' t t' (back e (Message.Error c t) one) (back e (Message.Error c' t') other);
        blocks = λ e k x y one other. f.blocks e k x y (back e (Message.Data k x) one) (back e (Message.Data k y) other);
        low = λ e k x said. f.low e k x (back e (Message.Data k x) said);
        explained = λ none. f.explained (λ agreed total x. none agreed total (still agreed total x));
      }

    -- an end says something in it, which breaks no rule
    module _ (e : End) (n : Message) (says : IsSaidBy s e n d) (none : (broken : Rule) → LossyBreaks s earlier d asked e n broken → ⊥) where
      is_message : (g : End) (x : Message) → IsSaidBy s g x d → (e ≡ g) × (n ≡ x)
      is_message g x said = (one_end s apart e g (sym says.source ∙ said.source), spelled_once d.payload n x says.spells said.spells)

      -- it says this, or that was said before
      parted : (g : End) (x : Message) → IsSaid s (d ∷ earlier) g x → ((e ≡ g) × (n ≡ x)) ⊎ IsSaid s earlier g x
      parted g x said = elim (any_cases (IsSaidBy s g x) d earlier said) [ inl now ↦ inl (is_message g x now) | inr before ↦ inr before ]

      breaks_as : (g : End) (x : Message) → (e ≡ g) × (n ≡ x) → (broken : Rule) → LossyBreaks s earlier d asked g x broken → ⊥
      breaks_as g x is broken b = none broken (subst (λ y. LossyBreaks s earlier d asked e y broken) (sym is.1) (subst (λ v. LossyBreaks s earlier d asked v x broken) (sym is.0) b))

      now_asked : (g : End) (now : RequestParts) → IsSaid s (d ∷ earlier) g (Message.Request now) → now ≡ asked
      now_asked g now said = elim (parted g (Message.Request now) said) [
        | inr before ↦ f.requests g now before
        | inl is ↦ elim (same_request now asked) [ inl same ↦ same | inr other ↦ absurd (breaks_as g (Message.Request now) is rule.RequestChanged other) ]
      ]

      wrong_as : (g : End) (x : Message) → IsWrongKind g asked.side x → LossyBreaks s earlier d asked g x rule.WrongKind
      wrong_as g (Message.Request now) wrong = wrong
      wrong_as g (Message.Oack options) wrong = wrong
      wrong_as g (Message.Data k y) wrong = wrong
      wrong_as g (Message.Ack k) wrong = wrong
      wrong_as g (Message.Error c t) wrong = wrong

      now_kinds : (g : End) (x : Message) → IsSaid s (d ∷ earlier) g x → IsWrongKind g asked.side x → ⊥
      now_kinds g x said wrong = elim (parted g x said) [ inr before ↦ f.kinds g x before wrong | inl is ↦ breaks_as g x is rule.WrongKind (wrong_as g x wrong) ]

      now_errors : (g : End) (c c' : ℕ) (t t' : List ℕ) → IsSaid s (d ∷ earlier) g (Message.Error c t) → IsSaid s (d ∷ earlier) g (Message.Error c' t') → Message.Error c t ≡ Message.Error c' t'
      now_errors g c c' t t' one other = elim (parted g (Message.Error c t) one) [
        | inl is ↦ elim (parted g (Message.Error c' t') other) [
          | inl also ↦ sym is.1 ∙ also.1
          | inr before ↦ same_error c c' t t' (λ differs. breaks_as g (Message.Error c t) is rule.AfterError (c', t', before, differs))
        ]
        | inr was ↦ elim (parted g (Message.Error c' t') other) [
          | inl also ↦ sym (same_error c' c t' t (λ differs. breaks_as g (Message.Error c' t') also rule.AfterError (c, t, was, differs)))
          | inr before ↦ f.errors g c c' t t' was before
        ]
      ]

      data_same : (k : ℕ) (x y : List ℕ) → Message.Data k x ≡ Message.Data k y → x ≡ y
      data_same k x y is = cc

      now_blocks : (g : End) (k : ℕ) (x y : List ℕ) → IsSaid s (d ∷ earlier) g (Message.Data k x) → IsSaid s (d ∷ earlier) g (Message.Data k y) → x ≡ y
      now_blocks g k x y one other = elim (parted g (Message.Data k x) one) [
        | inl is ↦ elim (parted g (Message.Data k y) other) [
          | inl also ↦ data_same k x y (sym is.1 ∙ also.1)
          | inr before ↦ same_bytes x y (λ differs. breaks_as g (Message.Data k x) is (rule.Block EndRule.BlockChanged) (y, before, differs))
        ]
        | inr was ↦ elim (parted g (Message.Data k y) other) [
          | inl also ↦ sym (same_bytes y x (λ differs. breaks_as g (Message.Data k y) also (rule.Block EndRule.BlockChanged) (x, was, differs)))
          | inr before ↦ f.blocks g k x y was before
        ]
      ]

      now_low : (g : End) (k : ℕ) (x : List ℕ) → IsSaid s (d ∷ earlier) g (Message.Data k x) → 1 ≤ k
      now_low g k x said = elim (parted g (Message.Data k x) said) [
        | inr before ↦ f.low g k x before
        | inl is ↦ elim (cases_eq k 0) [ inl zero_one ↦ absurd (breaks_as g (Message.Data k x) is (rule.Block EndRule.BlockZero) zero_one) | inr some ↦ positive k some ]
      ]
        where
          positive : (i : ℕ) → (i ≡ 0 → ⊥) → 1 ≤ i
          positive zero some = absurd (some refl)
          positive (suc i) some = omega arith

      -- what neither agrees nor has a number leaves all explained
      abbrev Silent : Message → Type 0
      Silent x = ((options : OptionMap) → x ≡ Message.Oack options → ⊥) × ((k : ℕ) → x ≡ Message.Ack k → ⊥) × ((k : ℕ) (y : List ℕ) → x ≡ Message.Data k y → ⊥)

      old : Silent n → (g : End) (x : Message) → (n ≡ x → ⊥) → IsSaid s (d ∷ earlier) g x → IsSaid s earlier g x
      old silent g x other said = elim (parted g x said) [ inl is ↦ absurd (other is.1) | inr before ↦ before ]

      number_old : Silent n → (k : ℕ) → IsNumber s (d ∷ earlier) k → IsNumber s earlier k
      number_old silent k (g, inl said) = (g, inl (old silent g (Message.Ack k) (silent.1 k) said))
      number_old silent k (g, inr (x, said)) = (g, inr (x, old silent g (Message.Data k x) (silent.2 k x) said))

      also_explains : Silent n → (agreed : OptionMap) (total : ℕ) → Explains s asked earlier agreed total → Explains s asked (d ∷ earlier) agreed total
      also_explains silent agreed total x = record {
        may = x.may;
        spelled = x.spelled;
        given = λ g options said. x.given g options (old silent g (Message.Oack options) (silent.0 options) said);
        zero = λ get g said. x.zero get g (old silent g (Message.Ack 0) (silent.1 0) said);
        size = x.size;
        numbered = x.numbered;
        numbers = λ k is. x.numbers k (number_old silent k is);
        blocks = λ g k y said. x.blocks g k y (old silent g (Message.Data k y) (silent.2 k y) said);
      }

      unmoved : Silent n → NothingExplains s asked (d ∷ earlier) → ⊥
      unmoved silent nothing = f.explained (λ agreed total x. nothing agreed total (also_explains silent agreed total x))

      -- an OACK that may be agreed to is the first one, or says what an earlier one says
      module _ (options : OptionMap) (offers : n ≡ Message.Oack options) where
        as_offer : (broken : Rule) → LossyBreaks s earlier d asked e (Message.Oack options) broken → ⊥
        as_offer broken b = breaks_as e (Message.Oack options) (refl, offers) broken b

        faultless : (fault : NegoFault) → Holds s.rollover fault asked options → ⊥
        faultless (NegoFault.Broken broken) holds = as_offer (rule.Agreement broken) holds
        faultless NegoFault.BeyondBlock65535 holds = as_offer (rule.Block EndRule.BeyondBlock65535) holds
        faultless NegoFault.Memory holds = holds

        other_said : (g : End) (x : Message) → (Message.Oack options ≡ x → ⊥) → IsSaid s (d ∷ earlier) g x → IsSaid s earlier g x
        other_said g x other said = elim (parted g x said) [ inl is ↦ absurd (other (sym offers ∙ is.1)) | inr before ↦ before ]

        other_number : (k : ℕ) → IsNumber s (d ∷ earlier) k → IsNumber s earlier k
        other_number k (g, inl said) = (g, inl (other_said g (Message.Ack k) (λ is. absurd (cc)) said))
        other_number k (g, inr (x, said)) = (g, inr (x, other_said g (Message.Data k x) (λ is. absurd (cc)) said))

        offer_same : (one other : OptionMap) → Message.Oack one ≡ Message.Oack other → one ≡ other
        offer_same one other is = cc

        still_offered : (agreed : OptionMap) (total : ℕ) → options ≡ agreed → (agreed ≢ no_options) → Explains s asked earlier agreed total → Explains s asked (d ∷ earlier) agreed total
        still_offered agreed total same some x = record {
          may = x.may;
          spelled = x.spelled;
          given = λ g other said. elim (parted g (Message.Oack other) said) [
            | inl is ↦ (offer_same other options (sym is.1 ∙ offers) ∙ same, some)
            | inr before ↦ x.given g other before
          ];
          zero = λ get g said. x.zero get g (other_said g (Message.Ack 0) (λ is. absurd (cc)) said);
          size = x.size;
          numbered = x.numbered;
          numbers = λ k is. x.numbers k (other_number k is);
          blocks = λ g k y said. x.blocks g k y (other_said g (Message.Data k y) (λ is. absurd (cc)) said);
        }

        offered : NothingExplains s asked (d ∷ earlier) → ⊥
        offered nothing = as_offer rule.ReplyChanged (
          record {
            may = without_fault s.rollover asked options faultless;
            some = λ empty. as_offer (rule.Agreement AgreementRule.OackEmpty) empty;
            first = λ other said. elim (same_options options other) [
              | inr differs ↦ as_offer rule.OackChanged (other, said, differs)
              | inl same ↦ f.explained (λ agreed total x. let is = x.given e other said in nothing agreed total (still_offered agreed total (same ∙ is.0) is.1 x))
            ];
          },
          nothing,
        )

      now_explained : NothingExplains s asked (d ∷ earlier) → ⊥
      now_explained nothing = by n refl where
        by : (x : Message) → n ≡ x → ⊥
        by (Message.Request now) is = unmoved (λ o at. let e : Message.Request now ≡ Message.Oack o = sym is ∙ at in absurd (cc), λ k at. let e : Message.Request now ≡ Message.Ack k = sym is ∙ at in absurd (cc), λ k y at. let e : Message.Request now ≡ Message.Data k y = sym is ∙ at in absurd (cc)) nothing
        by (Message.Error c t) is = unmoved (λ o at. let e : Message.Error c t ≡ Message.Oack o = sym is ∙ at in absurd (cc), λ k at. let e : Message.Error c t ≡ Message.Ack k = sym is ∙ at in absurd (cc), λ k y at. let e : Message.Error c t ≡ Message.Data k y = sym is ∙ at in absurd (cc)) nothing
        by (Message.Oack options) is = offered options is nothing
        by (Message.Data k y) is = breaks_as e (Message.Data k y) (refl, is) (rule.Block EndRule.BlockLength) nothing
        by (Message.Ack zero) is = breaks_as e (Message.Ack 0) (refl, is) (rule.Block EndRule.AckZero) (refl, nothing)
        by (Message.Ack (suc k)) is = breaks_as e (Message.Ack (suc k)) (refl, is) (rule.Block EndRule.AckAhead) (omega arith, nothing)

      pub said_more : Facts (d ∷ earlier) asked
      said_more = record {
        request = any_later (IsSaidBy s Client (Message.Request asked)) d earlier f.request;
        requests = now_asked;
        kinds = now_kinds;
        errors = now_errors;
        blocks = now_blocks;
        low = now_low;
        explained = now_explained;
      }

  one_more : (d : TapDatagram) (earlier : List TapDatagram) (asked : RequestParts) → LossyPasses s earlier d → Facts earlier asked → Facts (d ∷ earlier) asked
  one_more d earlier asked passes f = elim (cases_Bool (is_passing (lossy_route s d))) [
    | inr out ↦ outside d earlier asked f out
    | inl goes ↦
        let (n, spells) = read_passing d (lossy_route s d) goes passes.read in
        let (e, source) = passing_end d goes in
        let says : IsSaidBy s e n d = record { goes = goes; source = source; spells = spells } in
        said_more d earlier asked f e n says (λ broken b. passes.lawful broken (inr (inr (record { end = e; message = n; says = says; asked = asked; request = f.request; breaks = b }))))
  ]

  -- ---- the request alone

  module _ (d : TapDatagram) (earlier : List TapDatagram) (asked : RequestParts) (says : IsSaidBy s Client (Message.Request asked) d) (rest : AllByRecursion (λ x. is_passing (lossy_route s x) ≡ false) earlier) where
    none_before : (e : End) (n : Message) (xs : List TapDatagram) → AllByRecursion (λ x. is_passing (lossy_route s x) ≡ false) xs → IsSaid s xs e n → ⊥
    none_before e n [] out said = any_none (IsSaidBy s e n) said
    none_before e n (x ∷ xs) out said = elim (any_cases (IsSaidBy s e n) x xs said) [ inl now ↦ true≢false (sym now.goes ∙ out.0) | inr before ↦ none_before e n xs out.1 before ]

    only : (e : End) (n : Message) → IsSaid s (d ∷ earlier) e n → (Client ≡ e) × (Message.Request asked ≡ n)
    only e n said = elim (any_cases (IsSaidBy s e n) d earlier said) [
      | inl now ↦ (one_end s apart Client e (sym says.source ∙ now.source), spelled_once d.payload (Message.Request asked) n says.spells now.spells)
      | inr before ↦ absurd (none_before e n earlier rest before)
    ]

    no_number : (k : ℕ) → IsNumber s (d ∷ earlier) k → ⊥
    no_number k (e, inl said) = let is = (only e (Message.Ack k) said).1 in absurd (cc)
    no_number k (e, inr (x, said)) = let is = (only e (Message.Data k x) said).1 in absurd (cc)

    nothing_yet : Explains s asked (d ∷ earlier) no_options 0
    nothing_yet = record {
      may = none_may_be_agreed s.rollover asked;
      spelled = λ some. absurd (some refl);
      given = λ e options said. let is = (only e (Message.Oack options) said).1 in absurd (cc);
      zero = λ get e said. absurd (no_number 0 (e, inl said));
      size = λ octet size has. let both : None ≡ Some (Num size) = sym (none_found (codes "tsize")) ∙ has in absurd (cc);
      numbered = none_long s.rollover;
      numbers = λ k is. absurd (no_number k is);
      blocks = λ e k x said. absurd (no_number k (e, inr (x, said)));
    }

    right_kind : (e : End) (n : Message) → (Client ≡ e) × (Message.Request asked ≡ n) → IsWrongKind e asked.side n → ⊥
    right_kind e n is wrong = by asked.side (subst (λ x. IsWrongKind Client asked.side x) (sym is.1) (subst (λ x. IsWrongKind x asked.side n) (sym is.0) wrong)) where
      by : (side : Side) → IsWrongKind Client side (Message.Request asked) → ⊥
      by Get w = w
      by Put w = w

    pub at_first : Facts (d ∷ earlier) asked
    at_first = record {
      request = any_first (IsSaidBy s Client (Message.Request asked)) d earlier says;
      requests = λ e now said. let is : Message.Request asked ≡ Message.Request now = (only e (Message.Request now) said).1 in let same : asked ≡ now = cc in sym same;
      kinds = λ e n said wrong. right_kind e n (only e n said) wrong;
      errors = λ e c c' t t' one other. let is = (only e (Message.Error c t) one).1 in absurd (cc);
      blocks = λ e k x y one other. absurd (no_number k (e, inr (x, one)));
      low = λ e k x said. absurd (no_number k (e, inr (x, said)));
      explained = λ nothing. nothing no_options 0 nothing_yet;
    }

  pub facts_of : (tapped : List TapDatagram) → BreaksNoLossyRule s tapped → BeginsWithRequest s tapped → (asked : RequestParts) × Facts tapped asked
  facts_of [] lawful begins = absurd begins
  facts_of (d ∷ earlier) lawful (inl before) = let (asked, f) = facts_of earlier lawful.1 before in (asked, one_more d earlier asked lawful.0 f)
  facts_of (d ∷ earlier) lawful (inr ((asked, says), rest)) = (asked, at_first d earlier asked says rest)
