-- What stays as it was when a datagram is added, by what it says.
use Rattle.std.proofs.Common.{◌≡◌, ◌↔◌, ℕ, Bool, true, List, ◌∷◌, inl, inr, refl, sym, subst, ◌∙◌}
use Rattle.tftp_packet.specs.{OptionMap, Message, RequestParts, Spells, Side, Get, Put, End, Client, Server}
use Rattle.tftp_packet.specs.Hosts.{Datagram, Header}
use Rattle.tftp_packet.specs.{Dir, In, Out}
use Rattle.tftp_ends.specs.{NamedEnd, terms_of, IsEndAfter, IsBeforeBlocks, IsAside, IsBlockOrAck, Says}
use Rattle.tftp_ends.proofs.EndsAside.{end_aside}
use Rattle.tftp_ends.proofs.Passing.{another, aside_no_block, aside_no_ack}
use Rattle.law_end.specs.{AckSent, BlockSent, Answer, Agrees, Begins, FirstAnswer, IsAnswer, IsWrongKind, NotAnswered, terms_after}
use Rattle.law_end.proofs.Spelled.{spelled_once}
use Rattle.tftp_judge.proofs.ErrorsAside.{errors_aside}
use Rattle.tftp_judge.specs.{DiffersByExchange, DiffersBySent, HasAgreed, HasAnswer, Unanswered, Begun, Agreed, HasBegun, IsExchange, Transfer, IsTransferAfter, Errors, AreErrors, exchange_of}
use Rattle.tftp_judge.specs.Kept.{Exchange}
use Rattle.tftp_judge.specs.declared.exchange.Exchange.{Exchange as Kept}
use Rattle.tftp_judge.specs.declared.exchange.Exchange.TheVariants as kept

-- a message of no such kind
abbrev pub IsNoBlock : Message → Type 0
IsNoBlock m = (k : ℕ) (bytes : List ℕ) → m ≡ Message.Data k bytes → ⊥

abbrev pub IsNoAck : Message → Type 0
IsNoAck m = (j : ℕ) → m ≡ Message.Ack j → ⊥

abbrev pub IsNoError : Message → Type 0
IsNoError m = (code : ℕ) (text : List ℕ) → m ≡ Message.Error code text → ⊥

abbrev pub AnswersNothing : Side → Message → Type 0
AnswersNothing side m = (answer : Answer) → IsAnswer side m answer → ⊥

module _ (d : Datagram) (way : Dir) (m : Message) (passed : List Datagram) (says : Says d way m) where
  pub still_unanswered : (side : Side) → AnswersNothing side m → NotAnswered side passed → NotAnswered side (d ∷ passed)
  still_unanswered side other none =
      ((λ answer now. other answer (subst (λ n. IsAnswer side n answer) (spelled_once d.payload now.0 m now.1 says.1) now.2)), none)

  pub still_before_blocks : IsNoBlock m → IsNoAck m → IsBeforeBlocks passed → IsBeforeBlocks (d ∷ passed)
  still_before_blocks no_block no_ack before = record {
    no_block = λ k bytes p. before.no_block k bytes (elim p [
      | inl came ↦ inl (another d way In m (Message.Data k bytes) passed says (no_block k bytes) came)
      | inr went ↦ inr (another d way Out m (Message.Data k bytes) passed says (no_block k bytes) went)
    ]);
    no_ack = λ j p. before.no_ack j (elim p [
      | inl came ↦ inl (another d way In m (Message.Ack j) passed says (no_ack j) came)
      | inr went ↦ inr (another d way Out m (Message.Ack j) passed says (no_ack j) went)
    ]);
  }

  -- what the named end has sent
  pub block_flag_kept : (sent : Bool) → IsNoBlock m → (sent ≡ true) ↔ BlockSent passed → (sent ≡ true) ↔ BlockSent (d ∷ passed)
  block_flag_kept sent no_block is = (
    (λ yes. let was = is.0 yes in (was.0, was.1, inr was.2)),
    (λ p. is.1 (p.0, p.1, another d way Out m (Message.Data p.0 p.1) passed says (no_block p.0 p.1) p.2)),
  )

  pub ack_flag_kept : (sent : Bool) → IsNoAck m → (sent ≡ true) ↔ AckSent passed → (sent ≡ true) ↔ AckSent (d ∷ passed)
  ack_flag_kept sent no_ack is = (
    (λ yes. let was = is.0 yes in (was.0, inr was.1)),
    (λ p. is.1 (p.0, another d way Out m (Message.Ack p.0) passed says (no_ack p.0) p.1)),
  )

-- ---- the end that began

pub has_answer : {D : Type 0} (exchange : Kept D) → (exchange ≡ kept.Unanswered → ⊥) → HasAnswer (exchange_of exchange)
has_answer kept.Unanswered other = absurd (other refl)
has_answer (kept.Begun end) other = tt
has_answer (kept.Agreed options end) other = tt

pub begun_more : (h : Header) (asked : RequestParts) (passed : List Datagram) (d : Datagram) (answer : Answer) (old new : NamedEnd) → HasBegun h asked passed answer old
    → terms_of new ≡ terms_of old → IsEndAfter new (d ∷ passed) → HasBegun h asked (d ∷ passed) answer new
begun_more h asked passed d answer old new begun same after = record { answered = inl begun.answered; terms = same ∙ begun.terms; after = after }

module _ (h : Header) (asked : RequestParts) (passed : List Datagram) (d : Datagram) (m : Message) (spells : Spells d.payload m) (is : IsAside d.dir m) where
  pub exchange_aside : (exchange : Exchange) → (exchange ≡ Unanswered → AnswersNothing asked.side m) → IsExchange h asked passed exchange → IsExchange h asked (d ∷ passed) exchange
  exchange_aside Unanswered other kept = (
    still_unanswered d d.dir m passed (refl, spells) asked.side (other refl) kept.0,
    still_before_blocks d d.dir m passed (refl, spells) (aside_no_block d.dir m is) (aside_no_ack d.dir m is) kept.1,
  )
  exchange_aside (Begun end) other kept = begun_more h asked passed d Begins end end kept refl (end_aside end passed d m kept.after spells is)
  exchange_aside (Agreed options end) other kept = begun_more h asked passed d (Agrees options) end end kept refl (end_aside end passed d m kept.after spells is)

-- the whole transfer, where the message is no ERROR
pub transfer_aside : (t : Transfer) (h : Header) (passed : List Datagram) (d : Datagram) (m : Message) → IsTransferAfter t h passed → Spells d.payload m → IsAside d.dir m → IsNoError m
    → (t.exchange ≡ Unanswered → AnswersNothing t.asked.side m) → IsTransferAfter t h (d ∷ passed)
transfer_aside t h passed d m after spells is no_error other = record {
  named = after.named;
  rollover = after.rollover;
  exchange = exchange_aside h t.asked passed d m spells is t.exchange other after.exchange;
  block_sent = block_flag_kept d d.dir m passed (refl, spells) t.block_sent (aside_no_block d.dir m is) after.block_sent;
  ack_sent = ack_flag_kept d d.dir m passed (refl, spells) t.ack_sent (aside_no_ack d.dir m is) after.ack_sent;
  errors = errors_aside t.errors passed d m after.errors spells no_error;
}

-- ---- which messages answer

pub request_answers_nothing : (side : Side) (now : RequestParts) → AnswersNothing side (Message.Request now)
request_answers_nothing Get now answer is = absurd is
request_answers_nothing Put now answer is = absurd is

-- ---- by kind

pub transfer_with_request : (t : Transfer) (h : Header) (passed : List Datagram) (d : Datagram) (now : RequestParts) → IsTransferAfter t h passed → Spells d.payload (Message.Request now)
    → IsTransferAfter t h (d ∷ passed)
transfer_with_request t h passed d now after spells =
    transfer_aside t h passed d (Message.Request now) after spells tt (λ code text e. absurd (cc)) (λ e. request_answers_nothing t.asked.side now)

pub transfer_with_later_oack : (t : Transfer) (h : Header) (passed : List Datagram) (d : Datagram) (oack options : OptionMap) (end : NamedEnd) → t.exchange ≡ Agreed options end → IsTransferAfter t h passed
    → Spells d.payload (Message.Oack oack) → IsTransferAfter t h (d ∷ passed)
transfer_with_later_oack t h passed d oack options end is after spells =
    transfer_aside t h passed d (Message.Oack oack) after spells tt (λ code text e. absurd (cc)) (λ e. let no : Unanswered ≡ Agreed options end = sym e ∙ is in absurd (cc))

-- ---- the first OACK again

pub agreed_first : (h : Header) (asked : RequestParts) (passed : List Datagram) (exchange : Exchange) (given : OptionMap) → HasAgreed exchange given → IsExchange h asked passed exchange
    → FirstAnswer asked.side passed (Agrees given)
agreed_first h asked passed Unanswered given is kept = absurd is
agreed_first h asked passed (Begun end) given is kept = absurd is
agreed_first h asked passed (Agreed options end) given is kept = subst (λ o. FirstAnswer asked.side passed (Agrees o)) (sym is) kept.answered

was_answered : (exchange : Exchange) (given : OptionMap) → HasAgreed exchange given → exchange ≡ Unanswered → ⊥
was_answered Unanswered given is e = is
was_answered (Begun end) given is e = is
was_answered (Agreed options end) given is e = absurd (cc)

pub transfer_with_oack_again : (t : Transfer) (h : Header) (passed : List Datagram) (d : Datagram) (given : OptionMap) → HasAgreed t.exchange given → IsTransferAfter t h passed
    → Spells d.payload (Message.Oack given) → IsTransferAfter t h (d ∷ passed)
transfer_with_oack_again t h passed d given is after spells =
    transfer_aside t h passed d (Message.Oack given) after spells tt (λ code text e. absurd (cc)) (λ e. absurd (was_answered t.exchange given is e))

-- ---- a block or an ACK that was kept

pub is_no_error : (m : Message) → IsBlockOrAck m → IsNoError m
is_no_error (Message.Data k bytes) is code text e = absurd (cc)
is_no_error (Message.Ack j) is code text e = absurd (cc)
is_no_error _ is code text e = absurd is

pub transfer_kept : (old kept new : Transfer) (h : Header) (passed : List Datagram) (d : Datagram) (m : Message) → IsTransferAfter old h passed → Spells d.payload m → IsBlockOrAck m
    → DiffersByExchange old kept → DiffersBySent kept new → IsExchange h old.asked (d ∷ passed) kept.exchange
    → ((kept.block_sent ≡ true) ↔ BlockSent passed → (new.block_sent ≡ true) ↔ BlockSent (d ∷ passed))
    → ((kept.ack_sent ≡ true) ↔ AckSent passed → (new.ack_sent ≡ true) ↔ AckSent (d ∷ passed))
    → IsTransferAfter new h (d ∷ passed)
transfer_kept old kept new h passed d m after spells is by_exchange by_sent exchange block_sent ack_sent = record {
  named = by_sent.0 ∙ by_exchange.0 ∙ after.named;
  rollover = by_sent.4 ∙ by_exchange.5 ∙ after.rollover;
  exchange = subst (λ (a : RequestParts). IsExchange h a (d ∷ passed) new.exchange) (sym (by_sent.1 ∙ by_exchange.1)) (subst (IsExchange h old.asked (d ∷ passed)) (sym by_sent.2) exchange);
  block_sent = block_sent (subst (λ (b : Bool). (b ≡ true) ↔ BlockSent passed) (sym by_exchange.2) after.block_sent);
  ack_sent = ack_sent (subst (λ (b : Bool). (b ≡ true) ↔ AckSent passed) (sym by_exchange.3) after.ack_sent);
  errors = subst (λ (e : Errors). AreErrors e (d ∷ passed)) (sym (by_sent.3 ∙ by_exchange.4)) (errors_aside old.errors passed d m after.errors spells (is_no_error m is));
}

-- ---- the first OACK

pub transfer_agreed : (old : Transfer) (h : Header) (passed : List Datagram) (d : Datagram) (oack agreed : OptionMap) (end : NamedEnd) → IsTransferAfter old h passed → old.exchange ≡ Unanswered
    → Spells d.payload (Message.Oack oack) → agreed ≡ oack → terms_of end ≡ terms_after h old.asked (Agrees agreed) → (IsBeforeBlocks passed → IsEndAfter end passed)
    → IsTransferAfter (record { named = old.named; rollover = old.rollover; asked = old.asked; exchange = Agreed agreed end; block_sent = old.block_sent; ack_sent = old.ack_sent; errors = old.errors }) h (d ∷ passed)
transfer_agreed old h passed d oack agreed end after unanswered spells same terms begun =
    let kept = subst (IsExchange h old.asked passed) unanswered after.exchange in
    record {
      named = after.named;
      rollover = after.rollover;
      exchange = record {
        answered = inr (kept.0, (Message.Oack oack, spells, sym same));
        terms = terms;
        after = end_aside end passed d (Message.Oack oack) (begun kept.1) spells tt;
      };
      block_sent = block_flag_kept d d.dir (Message.Oack oack) passed (refl, spells) old.block_sent (λ k bytes e. absurd (cc)) after.block_sent;
      ack_sent = ack_flag_kept d d.dir (Message.Oack oack) passed (refl, spells) old.ack_sent (λ j e. absurd (cc)) after.ack_sent;
      errors = errors_aside old.errors passed d (Message.Oack oack) after.errors spells (λ code text e. absurd (cc));
    }

-- ---- an ERROR

pub error_is_right : (author : End) (side : Side) (code : ℕ) (text : List ℕ) → IsWrongKind author side (Message.Error code text) → ⊥
error_is_right Client Get code text wrong = wrong
error_is_right Client Put code text wrong = wrong
error_is_right Server Get code text wrong = wrong
error_is_right Server Put code text wrong = wrong

pub transfer_with_error : (old : Transfer) (h : Header) (passed : List Datagram) (d : Datagram) (dir : Dir) (code : ℕ) (text : List ℕ) (exchange : Exchange) (errors : Errors) → IsTransferAfter old h passed
    → Says d dir (Message.Error code text) → IsExchange h old.asked (d ∷ passed) exchange → AreErrors errors (d ∷ passed)
    → IsTransferAfter (record { named = old.named; rollover = old.rollover; asked = old.asked; exchange = exchange; block_sent = old.block_sent; ack_sent = old.ack_sent; errors = errors }) h (d ∷ passed)
transfer_with_error old h passed d dir code text exchange errors after says now are = record {
  named = after.named;
  rollover = after.rollover;
  exchange = now;
  block_sent = block_flag_kept d dir (Message.Error code text) passed says old.block_sent (λ k bytes e. absurd (cc)) after.block_sent;
  ack_sent = ack_flag_kept d dir (Message.Error code text) passed says old.ack_sent (λ j e. absurd (cc)) after.ack_sent;
  errors = are;
}
