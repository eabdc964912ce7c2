-- The notes of what was said, after one message more, and what it breaks.
use Rattle.std.proofs.Common.{◌≡◌, ◌⊎◌, ℕ, zero, suc, ◌≤◌, true, false, List, ◌∷◌, Option, Some, None, Result, Ok, Err, IsErrAnd, inl, inr, refl, sym, subst, ap, ◌∙◌, arith}
use Rattle.std.proofs.lemmas.Bool.{true≢false, cases_lt}
use Rattle.std.specs.FinMap as map
use Rattle.tftp_packet.specs.{Message, OptionMap, RequestParts, Side, Get, Put, End, Client, Server}
use Rattle.tftp_nego.specs.{FirstFault, NegoFault, Holds}
use Rattle.tftp_nego.proofs.Tested.{no_fault as faultless}
use Rattle.tftp_ends.specs.Blocks.{Held, Placing, Places}
use Rattle.tftp_ends.specs.Blocks.Store.{New, Same, Differs}
use Rattle.tftp_ends.proofs.BlocksLemmas.Places.{got_same, got_other}
use Rattle.law_model.specs.{EndRule}
use Rattle.law_model.specs.Model.Roles.{sender_of}
use Rattle.law_end.specs.{IsWrongKind, Rule}
use Rattle.law_end.specs.declared.rule.Rule.TheVariants as rule
use Rattle.law_end.proofs.Division.Divided.{any_cases, any_first}
use Rattle.law_tap.specs.{TapDatagram, TapSides, AreApart, AreFigures, Figures, FitsSaid, FitsAgreed, IsFair, IsOffered, IsSaid, IsSaidBy, LossyBreaks, NothingExplains}
use Rattle.law_tap.proofs.FiguresAfter.{said_cases, said_later}
use Rattle.law_tap.proofs.FiguresFit.{unfit_unexplained}
use Rattle.law_tap.proofs.FiguresMade.{agreed_explains, unseen_explains}
use Rattle.law_tap.proofs.OneTapDivision.{one_end}
use Rattle.law_tap.proofs.LossyDecided.{silent_figures, explained_is_not_beyond}
use Rattle.tftp_judge.specs.declared.pass_error.PassError.{PassError}
use Rattle.tftp_judge.specs.declared.pass_error.PassError.TheVariants.{Memory}
use Rattle.tftp_judge.specs.{error_of_fault}
use Rattle.judge_tap.specs.{AreSaidNotes, FindsSaid, IsErrorPut, IsErrorSaid, IsOfferSaid, SaidError, SaidErrors, SaidNotes, ack_broken, error_of}

-- ---- who says what

pub block_by : (e : End) (side : Side) (k : ℕ) (bytes : List ℕ) → (IsWrongKind e side (Message.Data k bytes) → ⊥) → e ≡ sender_of side
block_by Client Get k bytes right = absurd (right tt)
block_by Client Put k bytes right = refl
block_by Server Get k bytes right = refl
block_by Server Put k bytes right = absurd (right tt)

pub oack_by : (e : End) (side : Side) (options : OptionMap) → (IsWrongKind e side (Message.Oack options) → ⊥) → e ≡ Server
oack_by Client Get options right = absurd (right tt)
oack_by Client Put options right = absurd (right tt)
oack_by Server side options right = refl

-- ---- whether something explains it

module _ (s : TapSides) (asked : RequestParts) (tapped : List TapDatagram) (f : Figures) (are : AreFigures f s tapped) where
  offered_of : (offered : Option OptionMap) → IsOfferSaid s tapped asked offered → IsOffered s tapped offered
  offered_of None none = none
  offered_of (Some agreed) said = (Server, said.1)

  pub unfit : (offered : Option OptionMap) → IsOfferSaid s tapped asked offered → (FitsSaid asked offered f → ⊥) → NothingExplains s asked tapped
  unfit offered said none = unfit_unexplained s asked tapped f offered are (offered_of offered said) none

  pub fit : (offered : Option OptionMap) → IsOfferSaid s tapped asked offered → ((e : End) (k : ℕ) (bytes : List ℕ) → IsSaid s tapped e (Message.Data k bytes) → 1 ≤ k) → IsSaid s tapped Client (Message.Request asked)
      → FitsSaid asked offered f → NothingExplains s asked tapped → ⊥
  fit None none low request fits nothing = unseen_explains s asked tapped f are low none request fits nothing
  fit (Some agreed) said low request fits nothing = agreed_explains s asked tapped f are low agreed said.0 (Server, said.1) said.2 fits nothing

-- ---- one message more

module _ (s : TapSides) (earlier : List TapDatagram) (d : TapDatagram) (e : End) (m : Message) (says : IsSaidBy s e m d) where
  now_said : IsSaid s (d ∷ earlier) e m
  now_said = any_first (IsSaidBy s e m) d earlier says

  still : (g : End) (x : Message) → IsSaid s earlier g x → IsSaid s (d ∷ earlier) g x
  still g x said = said_later s earlier d e m says g x said

  pub offer_later : ((options : OptionMap) → m ≡ Message.Oack options → ⊥) → (asked : RequestParts) (offered : Option OptionMap) → IsOfferSaid s earlier asked offered → IsOfferSaid s (d ∷ earlier) asked offered
  offer_later other asked None none = λ g options said. elim (said_cases s earlier d e m says g (Message.Oack options) said) [ inl now ↦ absurd (other options now) | inr before ↦ none g options before ]
  offer_later other asked (Some agreed) said = (
    said.0,
    still Server (Message.Oack agreed) said.1,
    λ g options told. elim (said_cases s earlier d e m says g (Message.Oack options) told) [ inl now ↦ absurd (other options now) | inr before ↦ said.2 g options before ],
  )

  error_later : ((code : ℕ) (text : List ℕ) → m ≡ Message.Error code text → ⊥) → (g : End) (noted : Option SaidError) → IsErrorSaid s earlier g noted → IsErrorSaid s (d ∷ earlier) g noted
  error_later other g None none = λ code text said. elim (said_cases s earlier d e m says g (Message.Error code text) said) [ inl now ↦ absurd (other code text now) | inr before ↦ none code text before ]
  error_later other g (Some first) said = (
    still g (Message.Error first.0 first.1) said.0,
    λ code text told. elim (said_cases s earlier d e m says g (Message.Error code text) told) [ inl now ↦ absurd (other code text now) | inr before ↦ said.1 code text before ],
  )

  module _ (n : SaidNotes) (are : AreSaidNotes n s earlier) where
    one_later : ((now : RequestParts) → m ≡ Message.Request now → now ≡ n.asked) → (now : RequestParts) → IsSaid s (d ∷ earlier) Client (Message.Request now) → now ≡ n.asked
    one_later same now said = elim (said_cases s earlier d e m says Client (Message.Request now) said) [ inl is ↦ same now is | inr before ↦ are.one_request now before ]

    low_later : ((k : ℕ) (bytes : List ℕ) → m ≡ Message.Data k bytes → 1 ≤ k) → (g : End) (k : ℕ) (bytes : List ℕ) → IsSaid s (d ∷ earlier) g (Message.Data k bytes) → 1 ≤ k
    low_later low g k bytes said = elim (said_cases s earlier d e m says g (Message.Data k bytes) said) [ inl now ↦ low k bytes now | inr before ↦ are.from_one g k bytes before ]

    kept_later : ((k : ℕ) (bytes : List ℕ) → m ≡ Message.Data k bytes → map.get n.blocks k ≡ Some bytes) → (g : End) (k : ℕ) (bytes : List ℕ) → IsSaid s (d ∷ earlier) g (Message.Data k bytes) → map.get n.blocks k ≡ Some bytes
    kept_later has g k bytes said = elim (said_cases s earlier d e m says g (Message.Data k bytes) said) [ inl now ↦ has k bytes now | inr before ↦ are.kept g k bytes before ]

    -- ---- what says no number

    silent : ((k : ℕ) → m ≡ Message.Ack k → ⊥) → ((k : ℕ) (bytes : List ℕ) → m ≡ Message.Data k bytes → ⊥) → AreFigures n.figures s (d ∷ earlier)
    silent no_ack no_data = silent_figures s earlier d e m says no_ack no_data n.figures are.figures

-- ---- a request

module _ (s : TapSides) (earlier : List TapDatagram) (d : TapDatagram) (e : End) (now : RequestParts) (says : IsSaidBy s e (Message.Request now) d) (n : SaidNotes) (are : AreSaidNotes n s earlier)
    (right : IsWrongKind e n.asked.side (Message.Request now) → ⊥) where
  request_breaks : (n.asked ≡ now) → (broken : Rule) → LossyBreaks s earlier d n.asked e (Message.Request now) broken → ⊥
  request_breaks same rule.WrongKind b = right b
  request_breaks same rule.RequestChanged b = b (sym same)
  request_breaks same _ b = absurd b

  pub request_again : (n.asked ≡ now) → FindsSaid s earlier d n.asked e (Message.Request now) (AreSaidNotes n s (d ∷ earlier)) (Ok tt)
  request_again same = (
    request_breaks same,
    record {
      rollover = are.rollover;
      request = still s earlier d e _ says Client _ are.request;
      one_request = one_later s earlier d e _ says n are (λ other is. let one : now ≡ other = cc in sym one ∙ sym same);
      figures = silent s earlier d e _ says n are (λ k is. absurd (cc)) (λ k bytes is. absurd (cc));
      from_one = low_later s earlier d e _ says n are (λ k bytes is. absurd (cc));
      offered = offer_later s earlier d e _ says (λ options is. absurd (cc)) n.asked n.offered are.offered;
      kept = kept_later s earlier d e _ says n are (λ k bytes is. absurd (cc));
      said = λ k bytes at. still s earlier d e _ says _ _ (are.said k bytes at);
      errors = λ g. error_later s earlier d e _ says (λ code text is. absurd (cc)) g (error_of n.errors g) (are.errors g);
    },
  )

-- ---- an ACK

module _ (s : TapSides) (earlier : List TapDatagram) (d : TapDatagram) (e : End) (j : ℕ) (says : IsSaidBy s e (Message.Ack j) d) (n : SaidNotes) (are : AreSaidNotes n s earlier)
    (right : IsWrongKind e n.asked.side (Message.Ack j) → ⊥) where
  ack_low : (g : End) (k : ℕ) (bytes : List ℕ) → IsSaid s (d ∷ earlier) g (Message.Data k bytes) → 1 ≤ k
  ack_low = low_later s earlier d e _ says n are (λ k bytes is. absurd (cc))

  ack_offer : IsOfferSaid s (d ∷ earlier) n.asked n.offered
  ack_offer = offer_later s earlier d e _ says (λ options is. absurd (cc)) n.asked n.offered are.offered

  ack_breaks : (NothingExplains s n.asked (d ∷ earlier) → ⊥) → (broken : Rule) → LossyBreaks s earlier d n.asked e (Message.Ack j) broken → ⊥
  ack_breaks some rule.WrongKind b = right b
  ack_breaks some (rule.Block EndRule.AckAhead) b = some b.1
  ack_breaks some (rule.Block EndRule.AckZero) b = some b.1
  ack_breaks some _ b = absurd b

  pub ack_unexplained : NothingExplains s n.asked (d ∷ earlier) → LossyBreaks s earlier d n.asked e (Message.Ack j) (ack_broken j)
  ack_unexplained none = by j refl where
    by : (i : ℕ) → j ≡ i → LossyBreaks s earlier d n.asked e (Message.Ack j) (ack_broken i)
    by zero is = (is, none)
    by (suc i) is = (omega (arith, is), none)

  pub ack_unfit : (f : Figures) → AreFigures f s (d ∷ earlier) → (FitsSaid n.asked n.offered f → ⊥) → LossyBreaks s earlier d n.asked e (Message.Ack j) (ack_broken j)
  ack_unfit f figures none = ack_unexplained (unfit s n.asked (d ∷ earlier) f figures n.offered ack_offer none)

  pub ack_taken : (f : Figures) → AreFigures f s (d ∷ earlier) → FitsSaid n.asked n.offered f
      → FindsSaid s earlier d n.asked e (Message.Ack j) (AreSaidNotes (record { rollover = n.rollover; asked = n.asked; figures = f; offered = n.offered; blocks = n.blocks; errors = n.errors }) s (d ∷ earlier)) (Ok tt)
  ack_taken f figures fits = (
    ack_breaks (fit s n.asked (d ∷ earlier) f figures n.offered ack_offer ack_low (still s earlier d e _ says Client _ are.request) fits),
    record {
      rollover = are.rollover;
      request = still s earlier d e _ says Client _ are.request;
      one_request = one_later s earlier d e _ says n are (λ other is. absurd (cc));
      figures = figures;
      from_one = ack_low;
      offered = ack_offer;
      kept = kept_later s earlier d e _ says n are (λ k bytes is. absurd (cc));
      said = λ k bytes at. still s earlier d e _ says _ _ (are.said k bytes at);
      errors = λ g. error_later s earlier d e _ says (λ code text is. absurd (cc)) g (error_of n.errors g) (are.errors g);
    },
  )

-- ---- a block

module _ (s : TapSides) (earlier : List TapDatagram) (d : TapDatagram) (e : End) (j : ℕ) (bytes : List ℕ) (says : IsSaidBy s e (Message.Data j bytes) d) (n : SaidNotes) (are : AreSaidNotes n s earlier)
    (right : IsWrongKind e n.asked.side (Message.Data j bytes) → ⊥) where
  block_offer : IsOfferSaid s (d ∷ earlier) n.asked n.offered
  block_offer = offer_later s earlier d e _ says (λ options is. absurd (cc)) n.asked n.offered are.offered

  pub block_unfit : (f : Figures) → AreFigures f s (d ∷ earlier) → (FitsSaid n.asked n.offered f → ⊥) → NothingExplains s n.asked (d ∷ earlier)
  block_unfit f figures none = unfit s n.asked (d ∷ earlier) f figures n.offered block_offer none

  sent : e ≡ sender_of n.asked.side
  sent = block_by e n.asked.side j bytes right

  -- none with its number was said, or this one
  pub block_new : map.get n.blocks j ≡ None → (other : List ℕ) → IsSaid s earlier e (Message.Data j other) → ⊥
  block_new none other said = let both : None ≡ Some other = sym none ∙ are.kept e j other said in absurd (cc)

  pub block_stopped : (After : Type 0) (found : Result (Unit {0}) PassError) → IsErrAnd found (λ stop. stop ≡ Memory) → map.get n.blocks j ≡ None → FindsSaid s earlier d n.asked e (Message.Data j bytes) After found
  block_stopped After (Ok x) is none = absurd is
  block_stopped After (Err stop) is none = subst (λ r. FindsSaid s earlier d n.asked e (Message.Data j bytes) After (Err r)) (sym is) (block_new none)

  pub block_differs : (other : List ℕ) → map.get n.blocks j ≡ Some other → (other ≡ bytes → ⊥) → LossyBreaks s earlier d n.asked e (Message.Data j bytes) (rule.Block EndRule.BlockChanged)
  block_differs other at differ = (other, subst (λ g. IsSaid s earlier g (Message.Data j other)) (sym sent) (are.said j other at), λ same. differ (sym same))

  module _ (low : 1 ≤ j) (f : Figures) (figures : AreFigures f s (d ∷ earlier)) (fits : FitsSaid n.asked n.offered f) where
    block_low : (g : End) (k : ℕ) (x : List ℕ) → IsSaid s (d ∷ earlier) g (Message.Data k x) → 1 ≤ k
    block_low = low_later s earlier d e _ says n are (λ k x is. let same : j ≡ k = cc in subst (λ i. 1 ≤ i) same low)

    explained : NothingExplains s n.asked (d ∷ earlier) → ⊥
    explained = fit s n.asked (d ∷ earlier) f figures n.offered block_offer block_low (still s earlier d e _ says Client _ are.request) fits

    block_breaks : ((other : List ℕ) → IsSaid s earlier e (Message.Data j other) → other ≡ bytes) → (broken : Rule) → LossyBreaks s earlier d n.asked e (Message.Data j bytes) broken → ⊥
    block_breaks same rule.WrongKind b = right b
    block_breaks same (rule.Block EndRule.BeyondBlock65535) b = explained_is_not_beyond s earlier d e j bytes says n.asked explained b
    block_breaks same (rule.Block EndRule.BlockZero) b = omega (arith, b, low)
    block_breaks same (rule.Block EndRule.BlockLength) b = explained b
    block_breaks same (rule.Block EndRule.BlockChanged) (other, at, differs) = differs (sym (same other at))
    block_breaks same _ b = absurd b

    abbrev after : Held → SaidNotes
    after blocks = record { rollover = n.rollover; asked = n.asked; figures = f; offered = n.offered; blocks = blocks; errors = n.errors }

    -- the blocks that are kept with it are those that were said
    taken : (blocks : Held) → ((other : List ℕ) → IsSaid s earlier e (Message.Data j other) → other ≡ bytes) → map.get blocks j ≡ Some bytes
        → ((k : ℕ) → (k ≡ j → ⊥) → map.get blocks k ≡ map.get n.blocks k) → FindsSaid s earlier d n.asked e (Message.Data j bytes) (AreSaidNotes (after blocks) s (d ∷ earlier)) (Ok tt)
    taken blocks same here there = (
      block_breaks same,
      record {
        rollover = are.rollover;
        request = still s earlier d e _ says Client _ are.request;
        one_request = one_later s earlier d e _ says n are (λ other is. absurd (cc));
        figures = figures;
        from_one = block_low;
        offered = block_offer;
        kept = kept;
        said = said;
        errors = λ g. error_later s earlier d e _ says (λ code text is. absurd (cc)) g (error_of n.errors g) (are.errors g);
      },
    )
      where
        at_j : (k : ℕ) → (k ≡ j) ⊎ (k ≡ j → ⊥)
        at_j k = elim (cases_lt k j) [
          | inl less ↦ inr (λ is. omega (arith, less, is))
          | inr up ↦ elim (cases_lt j k) [ inl more ↦ inr (λ is. omega (arith, more, is)) | inr down ↦ inl (omega (arith, up, down)) ]
        ]

        kept : (g : End) (k : ℕ) (x : List ℕ) → IsSaid s (d ∷ earlier) g (Message.Data k x) → map.get blocks k ≡ Some x
        kept g k x told = elim (said_cases s earlier d e _ says g (Message.Data k x) told) [
          | inl now ↦ let number : j ≡ k = cc in let words : bytes ≡ x = cc in subst (λ i. map.get blocks i ≡ Some x) number (here ∙ ap Some words)
          | inr before ↦ was g k x before (at_j k)
        ]
          where
            was : (g : End) (k : ℕ) (x : List ℕ) → IsSaid s earlier g (Message.Data k x) → (k ≡ j) ⊎ (k ≡ j → ⊥) → map.get blocks k ≡ Some x
            was g k x before (inr far) = there k far ∙ are.kept g k x before
            was g k x before (inl is) =
                let at : map.get n.blocks j ≡ Some x = subst (λ i. map.get n.blocks i ≡ Some x) is (are.kept g k x before) in
                let own : IsSaid s earlier e (Message.Data j x) = subst (λ v. IsSaid s earlier v (Message.Data j x)) (sym sent) (are.said j x at) in
                subst (λ i. map.get blocks i ≡ Some x) (sym is) (here ∙ ap Some (sym (same x own)))

        said : (k : ℕ) (x : List ℕ) → map.get blocks k ≡ Some x → IsSaid s (d ∷ earlier) (sender_of n.asked.side) (Message.Data k x)
        said k x at = elim (at_j k) [
          | inr far ↦ still s earlier d e _ says _ _ (are.said k x (sym (there k far) ∙ at))
          | inl is ↦
              let both : Some bytes ≡ Some x = sym here ∙ subst (λ i. map.get blocks i ≡ Some x) is at in
              let words : bytes ≡ x = cc in
              subst (λ v. IsSaid s (d ∷ earlier) v (Message.Data k x)) sent (subst (λ i. IsSaid s (d ∷ earlier) e (Message.Data i x)) (sym is) (subst (λ y. IsSaid s (d ∷ earlier) e (Message.Data j y)) words (now_said s earlier d e _ says)))
        ]

    pub block_taken : (blocks : Held) (placing : Placing) → Places n.blocks blocks j bytes placing → (placing ≡ Differs → ⊥) → FindsSaid s earlier d n.asked e (Message.Data j bytes) (AreSaidNotes (after blocks) s (d ∷ earlier)) (Ok tt)
    block_taken blocks New (none, is) right = taken blocks (λ other at. absurd (block_new none other at)) (ap (λ b. map.get b j) is ∙ got_same n.blocks j bytes) (λ k far. ap (λ b. map.get b k) is ∙ got_other n.blocks j bytes k far)
    block_taken blocks Same (at, is) right = taken blocks (λ other told. let both : Some other ≡ Some bytes = sym (are.kept e j other told) ∙ at in cc) (ap (λ b. map.get b j) is ∙ at) (λ k far. ap (λ b. map.get b k) is)
    block_taken blocks Differs placed right = absurd (right refl)

-- ---- an ERROR

module _ (s : TapSides) (earlier : List TapDatagram) (d : TapDatagram) (e : End) (code : ℕ) (text : List ℕ) (says : IsSaidBy s e (Message.Error code text) d) (n : SaidNotes) (are : AreSaidNotes n s earlier)
    (right : IsWrongKind e n.asked.side (Message.Error code text) → ⊥) where
  error_breaks : ((c : ℕ) (t : List ℕ) → IsSaid s earlier e (Message.Error c t) → (code ≡ c) × (text ≡ t)) → (broken : Rule) → LossyBreaks s earlier d n.asked e (Message.Error code text) broken → ⊥
  error_breaks same rule.WrongKind b = right b
  error_breaks same rule.AfterError (c, t, first, differs) = let is = same c t first in differs (λ i. Message.Error (is.0 i) (is.1 i))
  error_breaks same _ b = absurd b

  pub error_new : error_of n.errors e ≡ None → (c : ℕ) (t : List ℕ) → IsSaid s earlier e (Message.Error c t) → ⊥
  error_new none = subst (IsErrorSaid s earlier e) none (are.errors e)

  pub error_stopped : (After : Type 0) (found : Result (Unit {0}) PassError) → IsErrAnd found (λ stop. stop ≡ Memory) → error_of n.errors e ≡ None → FindsSaid s earlier d n.asked e (Message.Error code text) After found
  error_stopped After (Ok x) is none = absurd is
  error_stopped After (Err stop) is none = subst (λ r. FindsSaid s earlier d n.asked e (Message.Error code text) After (Err r)) (sym is) (error_new none)

  pub error_differs : (errors : SaidErrors) → IsErrorPut (error_of n.errors e) (code, text) (error_of errors e) false → LossyBreaks s earlier d n.asked e (Message.Error code text) rule.AfterError
  error_differs errors put = by (error_of n.errors e) refl put where
    by : (o : Option SaidError) → error_of n.errors e ≡ o → IsErrorPut o (code, text) (error_of errors e) false → LossyBreaks s earlier d n.asked e (Message.Error code text) rule.AfterError
    by None is put = absurd (true≢false (sym put.1))
    by (Some first) is put =
        let said = subst (IsErrorSaid s earlier e) is (are.errors e) in
        (first.0, first.1, said.0, λ same. let number : code ≡ first.0 = cc in let words : text ≡ first.1 = cc in true≢false (sym (put.1.1 (λ i. (number i, words i)))))

  module _ (apart : AreApart s) (errors : SaidErrors) (put : IsErrorPut (error_of n.errors e) (code, text) (error_of errors e) true) (others : (g : End) → (g ≡ e → ⊥) → error_of errors g ≡ error_of n.errors g) where
    abbrev noted : SaidNotes
    noted = record { rollover = n.rollover; asked = n.asked; figures = n.figures; offered = n.offered; blocks = n.blocks; errors = errors }

    -- each ERROR of this end is this one, which is kept
    own : (o : Option SaidError) → error_of n.errors e ≡ o → IsErrorPut o (code, text) (error_of errors e) true
        → ((c : ℕ) (t : List ℕ) → IsSaid s earlier e (Message.Error c t) → (code ≡ c) × (text ≡ t)) × (error_of errors e ≡ Some (code, text))
    own None is p = (λ c t said. absurd (error_new is c t said), p.0)
    own (Some first) is p =
        let said = subst (IsErrorSaid s earlier e) is (are.errors e) in
        let same = p.1.0 refl in
        (λ c t told. let one = said.1 c t told in (ap (λ x. x.0) same ∙ sym one.0, ap (λ x. x.1) same ∙ sym one.1), p.0 ∙ ap Some (sym same))

    same_errors : ((c : ℕ) (t : List ℕ) → IsSaid s earlier e (Message.Error c t) → (code ≡ c) × (text ≡ t)) × (error_of errors e ≡ Some (code, text))
    same_errors = own (error_of n.errors e) refl put

    same_end_or : (g h : End) → (g ≡ h) ⊎ (g ≡ h → ⊥)
    same_end_or Client Client = inl refl
    same_end_or Server Server = inl refl
    same_end_or Client Server = inr (λ is. absurd (cc))
    same_end_or Server Client = inr (λ is. absurd (cc))

    of_end : (g : End) → IsErrorSaid s (d ∷ earlier) g (error_of errors g)
    of_end g = elim (same_end_or g e) [
      | inl is ↦ subst (λ h. IsErrorSaid s (d ∷ earlier) h (error_of errors h)) (sym is) (subst (IsErrorSaid s (d ∷ earlier) e) (sym same_errors.1) (
        now_said s earlier d e _ says,
        λ c t told. elim (said_cases s earlier d e _ says e (Message.Error c t) told) [
          | inl now ↦ let number : code ≡ c = cc in let words : text ≡ t = cc in (sym number, sym words)
          | inr before ↦ let is = same_errors.0 c t before in (sym is.0, sym is.1)
        ],
      ))
      | inr far ↦ subst (IsErrorSaid s (d ∷ earlier) g) (sym (others g far)) (by g far (error_of n.errors g) (are.errors g))
    ]
      where
        before : (g : End) → (g ≡ e → ⊥) → (c : ℕ) (t : List ℕ) → IsSaid s (d ∷ earlier) g (Message.Error c t) → IsSaid s earlier g (Message.Error c t)
        before g far c t told = elim (any_cases (IsSaidBy s g (Message.Error c t)) d earlier told) [ inl now ↦ absurd (far (one_end s apart g e (sym now.source ∙ says.source))) | inr was ↦ was ]

        -- what another end said is as before
        by : (g : End) → (g ≡ e → ⊥) → (o : Option SaidError) → IsErrorSaid s earlier g o → IsErrorSaid s (d ∷ earlier) g o
        by g far None none = λ c t told. none c t (before g far c t told)
        by g far (Some first) was = (still s earlier d e _ says g _ was.0, λ c t told. was.1 c t (before g far c t told))

    pub error_taken : FindsSaid s earlier d n.asked e (Message.Error code text) (AreSaidNotes noted s (d ∷ earlier)) (Ok tt)
    error_taken = (
      error_breaks same_errors.0,
      record {
        rollover = are.rollover;
        request = still s earlier d e _ says Client _ are.request;
        one_request = one_later s earlier d e _ says n are (λ other is. absurd (cc));
        figures = silent s earlier d e _ says n are (λ k is. absurd (cc)) (λ k bytes is. absurd (cc));
        from_one = low_later s earlier d e _ says n are (λ k bytes is. absurd (cc));
        offered = offer_later s earlier d e _ says (λ options is. absurd (cc)) n.asked n.offered are.offered;
        kept = kept_later s earlier d e _ says n are (λ k bytes is. absurd (cc));
        said = λ k bytes at. still s earlier d e _ says _ _ (are.said k bytes at);
        errors = of_end;
      },
    )

-- ---- an OACK

module _ (s : TapSides) (earlier : List TapDatagram) (d : TapDatagram) (e : End) (options : OptionMap) (says : IsSaidBy s e (Message.Oack options) d) (n : SaidNotes) (are : AreSaidNotes n s earlier)
    (right : IsWrongKind e n.asked.side (Message.Oack options) → ⊥) where
  server : e ≡ Server
  server = oack_by e n.asked.side options right

  by_server : (x : Message) → IsSaid s earlier Server x → IsSaid s earlier e x
  by_server x said = subst (λ g. IsSaid s earlier g x) (sym server) said

  good : IsFair s.rollover n.asked options → (fault : NegoFault) → Holds s.rollover fault n.asked options → ⊥
  good fair fault holds = faultless s.rollover n.asked options fair.some fair.may fault holds

  -- ---- after another one

  module _ (agreed : OptionMap) (is : n.offered ≡ Some agreed) where
    was : IsOfferSaid s earlier n.asked (Some agreed)
    was = subst (IsOfferSaid s earlier n.asked) is are.offered

    pub oack_changed : (agreed ≡ options → ⊥) → LossyBreaks s earlier d n.asked e (Message.Oack options) rule.OackChanged
    oack_changed differ = (agreed, by_server _ was.1, λ same. differ (sym same))

    module _ (same : agreed ≡ options) where
      again_breaks : (broken : Rule) → LossyBreaks s earlier d n.asked e (Message.Oack options) broken → ⊥
      again_breaks rule.WrongKind b = right b
      again_breaks (rule.Agreement broken) b = good (subst (IsFair s.rollover n.asked) same was.0) (NegoFault.Broken broken) b
      again_breaks rule.OackChanged (first, at, differs) = differs (sym same ∙ sym (was.2 e first at))
      again_breaks rule.ReplyChanged b = b.0.first agreed (by_server _ was.1)
      again_breaks (rule.Block EndRule.BeyondBlock65535) b = good (subst (IsFair s.rollover n.asked) same was.0) NegoFault.BeyondBlock65535 b
      again_breaks _ b = absurd b

      still_offered : IsOfferSaid s (d ∷ earlier) n.asked (Some agreed)
      still_offered = (
        was.0,
        still s earlier d e _ says Server _ was.1,
        λ g other told. elim (said_cases s earlier d e _ says g (Message.Oack other) told) [ inl now ↦ let one : options ≡ other = cc in sym one ∙ sym same | inr before ↦ was.2 g other before ],
      )

      pub oack_again : FindsSaid s earlier d n.asked e (Message.Oack options) (AreSaidNotes n s (d ∷ earlier)) (Ok tt)
      oack_again = (
        again_breaks,
        record {
          rollover = are.rollover;
          request = still s earlier d e _ says Client _ are.request;
          one_request = one_later s earlier d e _ says n are (λ other now. absurd (cc));
          figures = silent s earlier d e _ says n are (λ k now. absurd (cc)) (λ k bytes now. absurd (cc));
          from_one = low_later s earlier d e _ says n are (λ k bytes now. absurd (cc));
          offered = subst (IsOfferSaid s (d ∷ earlier) n.asked) (sym is) still_offered;
          kept = kept_later s earlier d e _ says n are (λ k bytes now. absurd (cc));
          said = λ k bytes at. still s earlier d e _ says _ _ (are.said k bytes at);
          errors = λ g. error_later s earlier d e _ says (λ code text now. absurd (cc)) g (error_of n.errors g) (are.errors g);
        },
      )

  -- ---- the first one

  module _ (first : n.offered ≡ None) where
    none_before : (g : End) (other : OptionMap) → IsSaid s earlier g (Message.Oack other) → ⊥
    none_before = subst (IsOfferSaid s earlier n.asked) first are.offered

    oack_faulty : (After : Type 0) (fault : NegoFault) → ((fault ≡ NegoFault.Memory → ⊥) → FirstFault s.rollover n.asked options fault) → FindsSaid s earlier d n.asked e (Message.Oack options) After (Err (error_of_fault fault))
    oack_faulty After (NegoFault.Broken broken) found = (found (λ is. absurd (cc))).0
    oack_faulty After NegoFault.BeyondBlock65535 found = (found (λ is. absurd (cc))).0
    oack_faulty After NegoFault.Memory found = none_before e

    pub oack_stopped : (After : Type 0) (fault : NegoFault) (stop : PassError) → stop ≡ error_of_fault fault → ((fault ≡ NegoFault.Memory → ⊥) → FirstFault s.rollover n.asked options fault) → FindsSaid s earlier d n.asked e (Message.Oack options) After (Err stop)
    oack_stopped After fault stop is found = subst (λ r. FindsSaid s earlier d n.asked e (Message.Oack options) After (Err r)) (sym is) (oack_faulty After fault found)

    module _ (fair : IsFair s.rollover n.asked options) where
      figures_now : AreFigures n.figures s (d ∷ earlier)
      figures_now = silent s earlier d e _ says n are (λ k now. absurd (cc)) (λ k bytes now. absurd (cc))

      low_now : (g : End) (k : ℕ) (bytes : List ℕ) → IsSaid s (d ∷ earlier) g (Message.Data k bytes) → 1 ≤ k
      low_now = low_later s earlier d e _ says n are (λ k bytes now. absurd (cc))

      offer_now : IsOfferSaid s (d ∷ earlier) n.asked (Some options)
      offer_now = (
        fair,
        subst (λ g. IsSaid s (d ∷ earlier) g (Message.Oack options)) server (now_said s earlier d e _ says),
        λ g other told. elim (said_cases s earlier d e _ says g (Message.Oack other) told) [ inl now ↦ let one : options ≡ other = cc in sym one | inr before ↦ absurd (none_before g other before) ],
      )

      pub oack_unfit : (FitsAgreed n.asked options n.figures → ⊥) → LossyBreaks s earlier d n.asked e (Message.Oack options) rule.ReplyChanged
      oack_unfit none = (record { may = fair.may; some = fair.some; first = none_before e }, unfit s n.asked (d ∷ earlier) n.figures figures_now (Some options) offer_now none)

      module _ (fits : FitsAgreed n.asked options n.figures) where
        first_breaks : (broken : Rule) → LossyBreaks s earlier d n.asked e (Message.Oack options) broken → ⊥
        first_breaks rule.WrongKind b = right b
        first_breaks (rule.Agreement broken) b = good fair (NegoFault.Broken broken) b
        first_breaks rule.OackChanged (other, at, differs) = none_before e other at
        first_breaks rule.ReplyChanged b = fit s n.asked (d ∷ earlier) n.figures figures_now (Some options) offer_now low_now (still s earlier d e _ says Client _ are.request) fits b.1
        first_breaks (rule.Block EndRule.BeyondBlock65535) b = good fair NegoFault.BeyondBlock65535 b
        first_breaks _ b = absurd b

        pub oack_taken : FindsSaid s earlier d n.asked e (Message.Oack options)
            (AreSaidNotes (record { rollover = n.rollover; asked = n.asked; figures = n.figures; offered = Some options; blocks = n.blocks; errors = n.errors }) s (d ∷ earlier)) (Ok tt)
        oack_taken = (
          first_breaks,
          record {
            rollover = are.rollover;
            request = still s earlier d e _ says Client _ are.request;
            one_request = one_later s earlier d e _ says n are (λ other now. absurd (cc));
            figures = figures_now;
            from_one = low_now;
            offered = offer_now;
            kept = kept_later s earlier d e _ says n are (λ k bytes now. absurd (cc));
            said = λ k bytes at. still s earlier d e _ says _ _ (are.said k bytes at);
            errors = λ g. error_later s earlier d e _ says (λ code text now. absurd (cc)) g (error_of n.errors g) (are.errors g);
          },
        )
