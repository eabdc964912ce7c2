-- What a list of main datagrams has, by its packets and by what is spelled.
use Rattle.std.proofs.Common.{◌≡◌, ◌⊎◌, ℕ, Bool, true, false, List, [], ◌∷◌, Contains, Option, Some, None, inl, inr, refl, sym, subst, ap, ◌∙◌, map}
use Rattle.std.specs.List.{list_any}
use Rattle.std.proofs.lemmas.Bool.{cases_Bool}
use Rattle.tftp_packet.specs.{Message, RequestParts, Spells, End}
use Rattle.law_model.specs.Model.{Meaning, request_of, MachinePacket, Req, Oack, Data, Ack, Error, message_of}
use Rattle.law_model.specs.Rules.{first_of, or_this}
use Rattle.law_model.proofs.ModelLemmas.Members.{contains_first, contains_later, contains_cases, contains_none}
use Rattle.law_end.specs.{says_of, says_some}
use Rattle.law_end.proofs.Spelled.{spelled_once}
use Rattle.law_end.proofs.FirstBroken.FirstRequests.{request_same}
use Rattle.law_end.proofs.Division.Divided.{any_first, any_later}
use Rattle.law_tap.specs.{Pass, TapDatagram, TapSides, Tests, before_error, tap_tests, FirstTapAsked, Says, HasKind}
use Rattle.law_tap.proofs.OneTap.{Has}
use Rattle.law_tap.proofs.OneTapDivision.{some_of}
use Rattle.law_tap.proofs.KeptOf.{before_all, before_less}
use Rattle.law_tap.proofs.TapRouted.{Carried}
use Rattle.law_tap.proofs.TapRecorded.{Agrees, Each, IsCarried, ends_same, datagram_in, pass_in}

module _ {X Y : Type 0} (f : X → Y) (t : Tests X) (u : Tests Y) where
  pub before_map : (e : End) (xs : List X) → Each (Agrees f t u) xs → before_error u e (map f xs) ≡ map f (before_error t e xs)
  before_map e [] each = refl
  before_map e (x ∷ xs) each = elim (cases_Bool (list_any (t.ends e) (x ∷ xs))) [
    | inl some ↦ before_less u e (f x) (map f xs) (ends_same f t u e (x ∷ xs) each ∙ some) ∙ before_map e xs each.1 ∙ ap (map f) (sym (before_less t e x xs some))
    | inr none ↦ before_all u e (map f (x ∷ xs)) (ends_same f t u e (x ∷ xs) each ∙ none) ∙ ap (map f) (sym (before_all t e (x ∷ xs) none))
  ]

pub before_each : {X : Type 0} (P : X → Type 0) (t : Tests X) (e : End) (xs : List X) → Each P xs → Each P (before_error t e xs)
before_each P t e [] each = tt
before_each P t e (x ∷ xs) each = elim (cases_Bool (list_any (t.ends e) (x ∷ xs))) [
  | inl some ↦ subst (Each P) (sym (before_less t e x xs some)) (before_each P t e xs each.1)
  | inr none ↦ subst (Each P) (sym (before_all t e (x ∷ xs) none)) each
]

pub some_each : (s : TapSides) (m : Meaning) (wire : List ℕ) (cs : List Carried) → Each (IsCarried s (says_of m wire)) cs → Each (IsCarried s says_some) cs
some_each s m wire [] each = tt
some_each s m wire (c ∷ cs) each = (record { source = each.0.source; goes = each.0.goes; spells = some_of m wire c.pass.packet c.datagram.payload each.0.spells }, some_each s m wire cs each.1)

-- a packet that has passed is spelled by a datagram
pub kind_there : (Kind : Message → Type 0) (s : TapSides) (m : Meaning) (wire : List ℕ) (cs : List Carried) → Each (IsCarried s (says_of m wire)) cs → (e : End) (p : MachinePacket)
    → Has (map pass_in cs) e p → Kind (message_of m wire p) → HasKind Kind (map datagram_in cs)
kind_there Kind s m wire [] each e p at kind = absurd (contains_none _ at)
kind_there Kind s m wire (c ∷ cs) each e p at kind = elim (contains_cases c.pass (map pass_in cs) (record { from = e; packet = p }) at) [
  | inl now ↦ any_first (Says Kind) c.datagram (map datagram_in cs) (message_of m wire p, subst (λ (x : Pass). Spells c.datagram.payload (message_of m wire x.packet)) now each.0.spells, kind)
  | inr before ↦ any_later (Says Kind) c.datagram (map datagram_in cs) (kind_there Kind s m wire cs each.1 e p before kind)
]

-- ---- the first request

or_some : {X : Type 0} (o : Option X) (b : Bool) (d x : X) → or_this o b d ≡ Some x → (o ≡ Some x) ⊎ ((o ≡ None) × (b ≡ true) × (d ≡ x))
or_some (Some y) b d x e = inl e
or_some None true d x e = inr (refl, refl, cc)
or_some None false d x e = absurd (cc)

pub first_holds : {X : Type 0} (test : X → Bool) (xs : List X) (x : X) → first_of test xs ≡ Some x → (test x ≡ true) × Contains xs x
first_holds test [] x is = absurd (cc)
first_holds test (y ∷ xs) x is = elim (or_some (first_of test xs) (test y) y x is) [
  | inl before ↦ let r = first_holds test xs x before in (r.0, contains_later y xs x r.1)
  | inr now ↦ (subst (λ z. test z ≡ true) now.2 now.1, subst (Contains (y ∷ xs)) now.2 (contains_first y xs))
]

pub carried_at : (P : Carried → Type 0) (cs : List Carried) → Each P cs → (d : TapDatagram) → Contains (map datagram_in cs) d → (c : Carried) × Contains cs c × P c × (c.datagram ≡ d)
carried_at P [] each d at = absurd (contains_none d at)
carried_at P (c ∷ cs) each d at = elim (contains_cases c.datagram (map datagram_in cs) d at) [
  | inl now ↦ (c, contains_first c cs, each.0, now)
  | inr before ↦ let r = carried_at P cs each.1 d before in (r.0, contains_later c cs r.0 r.1, r.2, r.3)
]

pub pass_at : (cs : List Carried) (c : Carried) → Contains cs c → Contains (map pass_in cs) c.pass
pass_at [] c at = absurd (contains_none c at)
pass_at (b ∷ cs) c at = elim (contains_cases b cs c at) [
  | inl now ↦ subst (λ (x : Carried). Contains (b.pass ∷ map pass_in cs) x.pass) now (contains_first b.pass (map pass_in cs))
  | inr before ↦ contains_later b.pass (map pass_in cs) c.pass (pass_at cs c before)
]

-- what each request of a run spells
pub asked_of : (m : Meaning) (wire : List ℕ) (payload : List ℕ) (p : MachinePacket) (asked : RequestParts) → Spells payload (message_of m wire p) → Spells payload (Message.Request asked) → (p ≡ Req) × (asked ≡ request_of m)
asked_of m wire payload Req asked s t = (refl, request_same asked (request_of m) (spelled_once payload (Message.Request asked) (Message.Request (request_of m)) t s))
asked_of m wire payload Oack asked s t = let same = spelled_once payload (Message.Request asked) (Message.Oack m.agreed) t s in absurd (cc)
asked_of m wire payload (Data k) asked s t = let same = spelled_once payload (Message.Request asked) (message_of m wire (Data k)) t s in absurd (cc)
asked_of m wire payload (Ack j) asked s t = let same = spelled_once payload (Message.Request asked) (Message.Ack j) t s in absurd (cc)
asked_of m wire payload (Error code text) asked s t = let same = spelled_once payload (Message.Request asked) (Message.Error code text) t s in absurd (cc)

pub first_asked_is : (s : TapSides) (m : Meaning) (wire : List ℕ) (cs : List Carried) → Each (IsCarried s (says_of m wire)) cs → (asked : RequestParts) → FirstTapAsked s (map datagram_in cs) asked → asked ≡ request_of m
first_asked_is s m wire cs each asked (d, first, says) =
    let there = first_holds (tap_tests s).asks (map datagram_in cs) d first in
    let (c, at, is, same) = carried_at (IsCarried s (says_of m wire)) cs each d there.1 in
    (asked_of m wire d.payload c.pass.packet asked (subst (λ (x : TapDatagram). Spells x.payload (message_of m wire c.pass.packet)) same is.spells) says).1
