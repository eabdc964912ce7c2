-- The first answer to the request is one, and so are the terms.
use Rattle.std.proofs.Common.{◌≡◌, Bool, true, false, List, [], ◌∷◌, Some, None, inl, inr, refl, sym, subst, ap, ◌∙◌, if◌then◌else◌}
use Rattle.std.proofs.lemmas.Bool.{false≢true, true≢false}
use Rattle.tftp_packet.specs.{RequestParts, Side}
use Rattle.tftp_packet.specs.Hosts.{Datagram, Header}
use Rattle.law_model.specs.Rules.{or_this, transfer_of}
use Rattle.law_model.specs.{Terms}
use Rattle.law_end.specs.{FirstAsked, Answer, Answers, NotAnswered, FirstAnswer, terms_after, AreTerms, AreTermsAfter}
use Rattle.law_end.proofs.Spelled.{spelled_once}
use Rattle.law_end.proofs.FirstBroken.Answering.{answer_of, answer_is}
use Rattle.law_end.proofs.FirstBroken.FirstRequests.{some_same, asked_once}

-- ---- one answer is the first

pub not_both : (side : Side) (passed : List Datagram) (a : Answer) → NotAnswered side passed → FirstAnswer side passed a → ⊥
not_both side [] a none first = first
not_both side (d ∷ passed) a none first = elim first [ inl before ↦ not_both side passed a none.1 before | inr now ↦ none.0 a now.1 ]

answers_one : (side : Side) (d : Datagram) (a b : Answer) → Answers side d a → Answers side d b → a ≡ b
answers_one side d a b (m, s, is) (n, t, also) =
    let same : m ≡ n = spelled_once d.payload m n s t in
    some_same a b (sym (answer_is side m a is) ∙ ap (answer_of side) same ∙ answer_is side n b also)

pub first_one : (side : Side) (passed : List Datagram) (a b : Answer) → FirstAnswer side passed a → FirstAnswer side passed b → a ≡ b
first_one side [] a b first other = absurd first
first_one side (d ∷ passed) a b first other = elim first [
  | inl x ↦ elim other [ inl y ↦ first_one side passed a b x y | inr y ↦ absurd (not_both side passed a y.0 x) ]
  | inr x ↦ elim other [ inl y ↦ absurd (not_both side passed b x.0 y) | inr y ↦ answers_one side d a b x.1 y.1 ]
]

known_one : (h : Header) (asked : RequestParts) (passed : List Datagram) (t u : Terms) → AreTermsAfter h asked passed t → AreTermsAfter h asked passed u → t ≡ u
known_one h asked passed t u one other = elim one [
  | inl x ↦ elim other [ inl y ↦ x.1 ∙ sym y.1 | inr y ↦ absurd (not_both asked.side passed y.0 x.0 y.1) ]
  | inr x ↦ elim other [
    | inl y ↦ absurd (not_both asked.side passed x.0 y.0 x.1)
    | inr y ↦ x.2 ∙ ap (terms_after h asked) (first_one asked.side passed x.0 y.0 x.1 y.1) ∙ sym y.2
  ]
]

pub known_by : (h : Header) (earlier : List Datagram) (asked : RequestParts) (t : Terms) → FirstAsked h earlier asked → AreTerms h earlier t → AreTermsAfter h asked (transfer_of h earlier) t
known_by h earlier asked t first (other, request, known) = subst (λ r. AreTermsAfter h r (transfer_of h earlier) t) (asked_once h earlier other asked request first) known

pub terms_one : (h : Header) (earlier : List Datagram) (t u : Terms) → AreTerms h earlier t → AreTerms h earlier u → t ≡ u
terms_one h earlier t u (asked, first, known) other = known_one h asked (transfer_of h earlier) t u known (known_by h earlier asked u first other)

-- ---- the new datagram of the transfer

pub or_new : {X : Type 0} (b : Bool) (x y : X) → or_this None b x ≡ Some y → x ≡ y
or_new true x y e = cc
or_new false x y e = absurd (cc)

pub main_none : (b : Bool) (d : Datagram) (passed : List Datagram) → b ≡ false → (if b then d ∷ passed else passed) ≡ passed
main_none true d passed e = absurd (true≢false e)
main_none false d passed e = refl

pub main_some : (b : Bool) (d : Datagram) (passed : List Datagram) → b ≡ true → (if b then d ∷ passed else passed) ≡ d ∷ passed
main_some true d passed e = refl
main_some false d passed e = absurd (false≢true e)
