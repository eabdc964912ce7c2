-- The block or the ACK that answers a request without an OACK, and what comes once a request is answered.
use Rattle.std.proofs.Common.{◌≡◌, ◌↔◌, ℕ, List, ◌∷◌, Err, inl, inr, refl, sym, subst, ap, ◌∙◌, arith}
use Rattle.std.proofs.lemmas.Bool.{cases_lt}
use Rattle.tftp_packet.specs.{Message, RequestParts, Side, Get, Put, End, Client, Server}
use Rattle.tftp_packet.specs.Hosts.{Datagram, Header}
use Rattle.tftp_packet.specs.{Dir, In, Out}
use Rattle.tftp_ends.specs.{NamedEnd, terms_of, IsEndAfter, IsOfItsAuthor, IsBeforeBlocks, IsBlockOrAck, Says, IsFound, NoneBroken, Rejection}
use Rattle.law_model.specs.Model.Roles.{sender_of, receiver_of}
use Rattle.law_model.specs.Rules.{author_of, BlocksWait, AckZeroWaits, AckBreaks, BlockPassed, EndBroken, FirstEndBroken, IsFront, IsReachedAt, IsTop, usable}
use Rattle.law_model.specs.{EndRule, NoReply, Plain, Terms}
use Rattle.law_model.proofs.RulesLemmas.EndRules.{from_18}
use Rattle.tftp_ends.proofs.BeforeReply.{read_alike, ack_put_alike}
use Rattle.tftp_ends.proofs.Passing.{none_greatest, usable_passed}
use Rattle.law_end.specs.{AreTermsAfter, TermsBreak, Answer, Agrees, Begins, IsAnswer, IsWrongKind, NotAnswered, plain_terms, terms_after, Rule}
use Rattle.tftp_judge.specs.{WaitsForReply, Finds, NoneBreaks, IsFirstOf, HasBegun, error_of_rejection}
use Rattle.tftp_judge.proofs.MessageFound.{no_end, first_end}

-- ---- before blocks

module _ (passed : List Datagram) (before : IsBeforeBlocks passed) where
  no_top : IsTop (usable passed) 0
  no_top = none_greatest (λ k. BlockPassed Out k (usable passed)) (λ k p. before.no_block k p.0 (inr (usable_passed Out (Message.Data k p.0) passed p.1)))

  no_front : IsFront (usable passed) 0
  no_front = record { below = λ k low high. absurd (omega arith); next = λ p. before.no_block 1 p.0 (inl (usable_passed In (Message.Data 1 p.0) passed p.1)) }

  none_reached : (t : Terms) (named : End) (side : Side) → t.named ≡ named → t.side ≡ side → IsReachedAt t (usable passed) 0
  none_reached t Client Get e f = inr (e ∙ ap receiver_of (sym f), no_front)
  none_reached t Client Put e f = inl (e ∙ ap sender_of (sym f), no_top)
  none_reached t Server Get e f = inl (e ∙ ap sender_of (sym f), no_top)
  none_reached t Server Put e f = inr (e ∙ ap receiver_of (sym f), no_front)

  -- no ACK but 0 may come
  ack_is_zero : (t : Terms) (j : ℕ) → (AckBreaks t passed j EndRule.AckAhead → ⊥) → j ≡ 0
  ack_is_zero t j lawful = elim (cases_lt 0 j) [
    | inl ahead ↦ absurd (lawful (0, none_reached t t.named t.side refl refl, ahead))
    | inr low ↦ omega arith
  ]

-- ---- the message that answers

module _ (h : Header) (asked : RequestParts) (passed : List Datagram) (none : NotAnswered asked.side passed) (before : IsBeforeBlocks passed) where
  known : AreTermsAfter h asked passed (plain_terms h asked.side NoReply)
  known = inl (none, refl)

  -- a block of a write
  pub not_started : (m : Message) (side : Side) → asked.side ≡ side → WaitsForReply side m → IsFirstOf (TermsBreak h asked passed m) (Rule.Block EndRule.NotStarted)
  not_started (Message.Data k bytes) Put put waits =
      first_end h asked passed (Message.Data k bytes) (plain_terms h asked.side NoReply) known EndRule.NotStarted (
        subst (λ (x : Side). BlocksWait x NoReply (usable passed)) (sym put) tt,
        λ other low b. let high = from_18 other in omega arith,
      )
  not_started _ Get e waits = absurd waits
  not_started _ Put e waits = absurd waits

  -- the others break the rules that they would break after a plain reply
  abbrev IsAlike : Message → Type 0
  IsAlike m = (e : EndRule) → EndBroken (plain_terms h asked.side NoReply) passed m e ↔ EndBroken (plain_terms h asked.side Plain) passed m e

  alike : (m : Message) (side : Side) → asked.side ≡ side → IsBlockOrAck m → (WaitsForReply side m → ⊥) → IsAlike m
  alike m Get get is other = λ e. read_alike (plain_terms h asked.side NoReply) passed m get e
  alike (Message.Ack j) Put put is other = λ e. ack_put_alike (plain_terms h asked.side NoReply) passed j put e
  alike (Message.Data k bytes) Put put is other = absurd (other tt)
  alike _ Put put is other = absurd is

  pub first_broken : (m : Message) → IsBlockOrAck m → (WaitsForReply asked.side m → ⊥) → (t : Terms) → t ≡ plain_terms h asked.side Plain → (e : EndRule) → FirstEndBroken t passed m e
      → IsFirstOf (TermsBreak h asked passed m) (Rule.Block e)
  first_broken m is other t same e first =
      let now = subst (λ (u : Terms). FirstEndBroken u passed m e) same first in
      let both : IsAlike m = alike m asked.side refl is other in
      first_end h asked passed m (plain_terms h asked.side NoReply) known e ((both e).1 now.0, λ low less b. now.1 low less ((both low).0 b))

  module _ (m : Message) (is : IsBlockOrAck m) (other : WaitsForReply asked.side m → ⊥) (t : Terms) (same : t ≡ plain_terms h asked.side Plain) (lawful : NoneBroken t passed m) where
    lawful_before : (e : EndRule) → EndBroken (plain_terms h asked.side NoReply) passed m e → ⊥
    lawful_before e b = lawful e (subst (λ (u : Terms). EndBroken u passed m e) (sym same) ((alike m asked.side refl is other e).0 b))

    pub none_broken : NoneBreaks (TermsBreak h asked passed m)
    none_broken = no_end h asked passed m (plain_terms h asked.side NoReply) known lawful_before

    -- what breaks none of them is the first block of a read or the ACK 0 of a write
    answers_by : (n : Message) → m ≡ n → (side : Side) → asked.side ≡ side → IsBlockOrAck n → (WaitsForReply side n → ⊥) → ((e : EndRule) → EndBroken (plain_terms h asked.side NoReply) passed n e → ⊥)
        → IsAnswer asked.side n Begins
    answers_by (Message.Data k bytes) e Get get block waits none_of = subst (λ (x : Side). IsAnswer x (Message.Data k bytes) Begins) (sym get) tt
    answers_by (Message.Data k bytes) e Put put block waits none_of = absurd (waits tt)
    answers_by (Message.Ack j) e Get get block waits none_of =
        absurd (none_of EndRule.AckZero (ack_is_zero passed before (plain_terms h asked.side NoReply) j (none_of EndRule.AckAhead), subst (λ (x : Side). AckZeroWaits x NoReply (usable passed)) (sym get) tt))
    answers_by (Message.Ack j) e Put put block waits none_of =
        subst (λ (x : Side). IsAnswer x (Message.Ack j) Begins) (sym put) (ack_is_zero passed before (plain_terms h asked.side NoReply) j (none_of EndRule.AckAhead))
    answers_by _ e side f block waits none_of = absurd block

    pub has_begun : (d : Datagram) (dir : Dir) → Says d dir m → (end : NamedEnd) → terms_of end ≡ t → IsEndAfter end (d ∷ passed) → HasBegun h asked (d ∷ passed) Begins end
    has_begun d dir says end terms after = record {
      answered = inr (none, (m, says.1, answers_by m refl asked.side refl is other lawful_before));
      terms = terms ∙ same;
      after = after;
    }

  -- what the end refuses that would begin
  pub not_begun : (m : Message) → IsBlockOrAck m → (WaitsForReply asked.side m → ⊥) → (t : Terms) → t ≡ plain_terms h asked.side Plain → (A : Type 0) (rejection : Rejection) → IsFound t passed m (Err rejection)
      → Finds (TermsBreak h asked passed m) A (Err (error_of_rejection rejection))
  not_begun m is other t same A (Rejection.Broken rule) found = first_broken m is other t same rule found
  not_begun m is other t same A Rejection.Memory found = none_broken m is other t same found

-- ---- once a request is answered

own : (t : Terms) (dir : Dir) (m : Message) (author : End) (side : Side) → author_of t.named dir ≡ author → t.side ≡ side → (IsWrongKind author side m → ⊥) → IsOfItsAuthor t dir m
own t dir (Message.Data k bytes) Client Get e f right = absurd (right tt)
own t dir (Message.Data k bytes) Client Put e f right = e ∙ ap sender_of (sym f)
own t dir (Message.Data k bytes) Server Get e f right = e ∙ ap sender_of (sym f)
own t dir (Message.Data k bytes) Server Put e f right = absurd (right tt)
own t dir (Message.Ack j) Client Get e f right = e ∙ ap receiver_of (sym f)
own t dir (Message.Ack j) Client Put e f right = absurd (right tt)
own t dir (Message.Ack j) Server Get e f right = absurd (right tt)
own t dir (Message.Ack j) Server Put e f right = e ∙ ap receiver_of (sym f)
own t dir (Message.Request r) author side e f right = tt
own t dir (Message.Error code text) author side e f right = tt
own t dir (Message.Oack o) author side e f right = tt

pub terms_named : (h : Header) (asked : RequestParts) (answer : Answer) → (terms_after h asked answer).named ≡ h.named
terms_named h asked (Agrees options) = refl
terms_named h asked Begins = refl

pub terms_side : (h : Header) (asked : RequestParts) (answer : Answer) → (terms_after h asked answer).side ≡ asked.side
terms_side h asked (Agrees options) = refl
terms_side h asked Begins = refl

-- a message that is of no wrong kind comes from its author
pub of_author : (h : Header) (asked : RequestParts) (answer : Answer) (t : Terms) (dir : Dir) (m : Message) → t ≡ terms_after h asked answer → (IsWrongKind (author_of h.named dir) asked.side m → ⊥)
    → IsOfItsAuthor t dir m
of_author h asked answer t dir m same right =
    own t dir m (author_of h.named dir) asked.side (ap (λ (n : End). author_of n dir) (ap (λ (u : Terms). u.named) same ∙ terms_named h asked answer)) (ap (λ (u : Terms). u.side) same ∙ terms_side h asked answer) right

module _ (h : Header) (asked : RequestParts) (passed : List Datagram) (answer : Answer) (end : NamedEnd) (begun : HasBegun h asked passed answer end) (m : Message) where
  pub begun_lawful : ((e : EndRule) → EndBroken (terms_of end) passed m e → ⊥) → NoneBreaks (TermsBreak h asked passed m)
  begun_lawful none_of = no_end h asked passed m (terms_of end) (inr (answer, begun.answered, begun.terms)) none_of

  pub begun_first : (e : EndRule) → FirstEndBroken (terms_of end) passed m e → IsFirstOf (TermsBreak h asked passed m) (Rule.Block e)
  begun_first e first = first_end h asked passed m (terms_of end) (inr (answer, begun.answered, begun.terms)) e first

  -- the same of what the end refuses
  pub begun_refused : (rejection : Rejection) → IsFound (terms_of end) passed m (Err rejection) → Finds (TermsBreak h asked passed m) (Unit {0}) (Err (error_of_rejection rejection))
  begun_refused (Rejection.Broken rule) found = begun_first rule found
  begun_refused Rejection.Memory found = begun_lawful found
