-- What is found of a message, by its kind, is the first rule that it breaks.
use Rattle.std.proofs.Common.{◌≡◌, ◌≢◌, ℕ, ◌<◌, Bool, true, false, List, Ok, Err, inl, inr, refl, sym, subst, ap, ◌∙◌, arith, Result, OnOk, IfErr, Option}
use Rattle.std.proofs.lemmas.Bool.{false≢true}
use Rattle.tftp_packet.specs.{OptionMap, no_options, Message, RequestParts, Side, Get, End, Client, Server}
use Rattle.tftp_packet.specs.{Rollover}
use Rattle.tftp_packet.specs.Hosts.{Datagram, Header}
use Rattle.tftp_packet.specs.{Dir, Out}
use Rattle.tftp_ends.specs.{IsBlockOrAck, Rejection}
use Rattle.law_model.specs.Rules.{author_of, end_number, EndBroken, FirstEndBroken, Passed}
use Rattle.law_model.specs.{Terms, EndRule}
use Rattle.tftp_nego.specs.{MayAgree, FirstFault, number, NegoFault}
use Rattle.tftp_nego.proofs.Tested.{no_fault}
use Rattle.law_end.specs.{number_of, Agrees, Begins, NotAnswered, FirstAnswer, IsWrongKind, GoesOn, ClientWentOn, AreTermsAfter, BlockSent, RequestBreaks, FirstOackBreaks, LaterOackBreaks, OackBreaks, TermsBreak, KindBreaks, MessageBreaks, Rule}
use Rattle.law_end.proofs.FirstBroken.OneMessage.{kind_from}
use Rattle.law_end.proofs.FirstBroken.FirstAnswered.{first_one, not_both}
use Rattle.law_end.proofs.Accord.WhoSends.{request_kind, oack_kind}
use Rattle.tftp_judge.specs.{Finds, NoneBreaks, IsFirstOf, error_of_fault, error_of_rejection, PassError}
use Rattle.tftp_judge.proofs.FirstAnswers.{terms_once, block_answers}

-- rules that are broken in the same cases, and more that follows
pub finds_by : (P Q : Rule → Type 0) (A B : Type 0) → ((rule : Rule) → P rule → Q rule) → ((rule : Rule) → Q rule → P rule) → (A → B) → (r : Result (Unit {0}) PassError) → Finds P A r → Finds Q B r
finds_by P Q A B there back more (Ok x) found = ((λ rule q. found.0 rule (back rule q)), more found.1)
finds_by P Q A B there back more (Err (PassError.Broken rule)) found = (there rule found.0, λ other low q. found.1 other low (back other q))
finds_by P Q A B there back more (Err PassError.Memory) found = λ rule q. found rule (back rule q)

-- being out of memory, where none is broken
pub finds_memory : (P : Rule → Type 0) (A : Type 0) (r : Result (Unit {0}) PassError) → (stop : PassError) × (r ≡ Err stop) × (stop ≡ PassError.Memory) → NoneBreaks P → Finds P A r
finds_memory P A r is none = subst (Finds P A) (sym (is.1 ∙ ap (λ (s : PassError). Err s) is.2)) none

-- what stops says nothing of what follows
pub finds_stop : (P : Rule → Type 0) (A B : Type 0) (stop : PassError) → Finds P A (Err stop) → Finds P B (Err stop)
finds_stop P A B (PassError.Broken rule) found = found
finds_stop P A B PassError.Memory found = found

-- what follows where it passes
pub finds_with : (P : Rule → Type 0) (A : Type 0) (r : Result (Unit {0}) PassError) → Finds P (Unit {0}) r → OnOk r A → Finds P A r
finds_with P A (Ok x) found a = (found.0, a)
finds_with P A (Err stop) found a = finds_stop P (Unit {0}) A stop found

-- what the named end refuses
pub finds_rejected : (P : Rule → Type 0) (A : Type 0) (rejection : Rejection) (r : Result (Unit {0}) PassError) → (stop : PassError) × (r ≡ Err stop) × (stop ≡ error_of_rejection rejection)
    → Finds P A (Err (error_of_rejection rejection)) → Finds P A r
finds_rejected P A rejection r is found = subst (Finds P A) (sym (is.1 ∙ ap (λ (s : PassError). Err s) is.2)) found

-- ---- a request

module _ (asked : RequestParts) (passed : List Datagram) (dir : Dir) (now : RequestParts) where
  late_first : now ≡ asked → (other : Rule) → number_of other < 9 → RequestBreaks asked passed dir now other → ⊥
  late_first same Rule.RequestChanged low b = b same
  late_first same Rule.RequestAfterStart low b = omega arith
  late_first same other low b = absurd b

  pub request_late : now ≡ asked → dir ≡ Out → ClientWentOn passed → IsFirstOf (RequestBreaks asked passed dir now) Rule.RequestAfterStart
  request_late same out went = ((out, went), late_first same)

  pub request_passes : now ≡ asked → (dir ≡ Out → ClientWentOn passed → ⊥) → NoneBreaks (RequestBreaks asked passed dir now)
  request_passes same early Rule.RequestChanged b = b same
  request_passes same early Rule.RequestAfterStart b = early b.0 b.1
  request_passes same early other b = absurd b

-- ---- the first OACK

module _ (rollover : Option Rollover) (asked : RequestParts) (oack : OptionMap) where
  fault_first : (f : NegoFault) → FirstFault rollover asked oack f → (other : Rule) → number_of other < number f → FirstOackBreaks rollover asked oack other → ⊥
  fault_first f first (Rule.Agreement broken) low b = first.1 (NegoFault.Broken broken) low b
  fault_first f first (Rule.Block EndRule.BeyondBlock65535) low b = first.1 NegoFault.BeyondBlock65535 low b
  fault_first f first other low b = absurd b

  pub fault_found : (A : Type 0) (f : NegoFault) → (f ≢ NegoFault.Memory → FirstFault rollover asked oack f) → (f ≡ NegoFault.Memory → NoneBreaks (FirstOackBreaks rollover asked oack)) → Finds (FirstOackBreaks rollover asked oack) A (Err (error_of_fault f))
  fault_found A (NegoFault.Broken broken) first none = let is = first (λ e. cc) in (is.0, fault_first (NegoFault.Broken broken) is)
  fault_found A NegoFault.BeyondBlock65535 first none = let is = first (λ e. cc) in (is.0, fault_first NegoFault.BeyondBlock65535 is)
  fault_found A NegoFault.Memory first none = none refl

  pub none_of_agreed : oack ≢ no_options → MayAgree rollover asked oack → NoneBreaks (FirstOackBreaks rollover asked oack)
  none_of_agreed some may (Rule.Agreement broken) b = no_fault rollover asked oack some may (NegoFault.Broken broken) b
  none_of_agreed some may (Rule.Block EndRule.BeyondBlock65535) b = no_fault rollover asked oack some may NegoFault.BeyondBlock65535 b
  none_of_agreed some may rule b = absurd b

-- ---- an OACK, by how the request was answered

module _ (rollover : Option Rollover) (asked : RequestParts) (passed : List Datagram) (dir : Dir) (oack : OptionMap) where
  module _ (none : NotAnswered asked.side passed) where
    first_there : (rule : Rule) → FirstOackBreaks rollover asked oack rule → OackBreaks rollover asked passed dir oack rule
    first_there Rule.ReplyChanged b = absurd b
    first_there Rule.OackChanged b = absurd b
    first_there Rule.OackAfterStart b = absurd b
    first_there rule b = (none, b)

    first_back : (rule : Rule) → OackBreaks rollover asked passed dir oack rule → FirstOackBreaks rollover asked oack rule
    first_back Rule.ReplyChanged b = not_both asked.side passed Begins none b
    first_back Rule.OackChanged (first, answered, apart) = not_both asked.side passed (Agrees first) none answered
    first_back Rule.OackAfterStart (out, get, (k, bytes, sent)) = block_answers Out k bytes passed sent (subst (λ side. NotAnswered side passed) get none)
    first_back rule b = b.1

    pub first_oack_finds : (A : Type 0) (r : Result (Unit {0}) PassError) → Finds (FirstOackBreaks rollover asked oack) A r → Finds (OackBreaks rollover asked passed dir oack) A r
    first_oack_finds A = finds_by (FirstOackBreaks rollover asked oack) (OackBreaks rollover asked passed dir oack) A A first_there first_back (λ a. a)

  module _ (first : OptionMap) (answered : FirstAnswer asked.side passed (Agrees first)) where
    later_there : (rule : Rule) → LaterOackBreaks asked.side passed dir first oack rule → OackBreaks rollover asked passed dir oack rule
    later_there Rule.OackChanged b = (first, answered, b)
    later_there Rule.OackAfterStart b = b
    later_there rule b = absurd b

    agreed_once : (was : OptionMap) → FirstAnswer asked.side passed (Agrees was) → was ≡ first
    agreed_once was is = let same : Agrees was ≡ Agrees first = first_one asked.side passed (Agrees was) (Agrees first) is answered in cc

    later_back : (rule : Rule) → OackBreaks rollover asked passed dir oack rule → LaterOackBreaks asked.side passed dir first oack rule
    later_back Rule.ReplyChanged b = let same : Begins ≡ Agrees first = first_one asked.side passed Begins (Agrees first) b answered in absurd (cc)
    later_back Rule.OackChanged (was, is, apart) = λ same. apart (same ∙ sym (agreed_once was is))
    later_back Rule.OackAfterStart b = b
    later_back rule b = absurd (not_both asked.side passed (Agrees first) b.0 answered)

    pub later_oack_finds : (A B : Type 0) → (A → B) → (r : Result (Unit {0}) PassError) → Finds (LaterOackBreaks asked.side passed dir first oack) A r → Finds (OackBreaks rollover asked passed dir oack) B r
    later_oack_finds A B = finds_by (LaterOackBreaks asked.side passed dir first oack) (OackBreaks rollover asked passed dir oack) A B later_there later_back

-- ---- a block or an ACK

number_is : (e : EndRule) → number_of (Rule.Block e) ≡ end_number e
number_is e = refl

module _ (h : Header) (asked : RequestParts) (passed : List Datagram) (m : Message) (t : Terms) (known : AreTermsAfter h asked passed t) where
  same_terms : (e : EndRule) (u : Terms) → AreTermsAfter h asked passed u → EndBroken u passed m e → EndBroken t passed m e
  same_terms e u is b = subst (λ (v : Terms). EndBroken v passed m e) (terms_once h asked passed u t is known) b

  pub no_end : ((e : EndRule) → EndBroken t passed m e → ⊥) → NoneBreaks (TermsBreak h asked passed m)
  no_end none rule (e, is, u, at, b) = none e (same_terms e u at b)

  pub first_end : (e : EndRule) → FirstEndBroken t passed m e → IsFirstOf (TermsBreak h asked passed m) (Rule.Block e)
  first_end e first = ((e, refl, t, known, first.0), below)
    where
      below : (other : Rule) → number_of other < number_of (Rule.Block e) → TermsBreak h asked passed m other → ⊥
      below other low (f, is, u, at, b) =
          let here = number_is e in
          let there = ap number_of is ∙ number_is f in
          first.1 f (omega arith) (same_terms f u at b)

-- ---- any message

-- the first rule is that of ERRORs
pub gone_on : (h : Header) (asked : RequestParts) (passed : List Datagram) (dir : Dir) (m : Message) → (IsWrongKind (author_of h.named dir) asked.side m → ⊥) → GoesOn passed dir m
    → IsFirstOf (MessageBreaks h asked passed dir m) Rule.AfterError
gone_on h asked passed dir m right on = (inr (inl (refl, on)), below)
  where
    below : (other : Rule) → number_of other < 7 → MessageBreaks h asked passed dir m other → ⊥
    below other low (inl (is, wrong)) = right wrong
    below other low (inr (inl (is, on))) = let same = ap number_of is in omega (arith, low, same)
    below other low (inr (inr b)) = let high = kind_from h asked passed dir m other b in omega (arith, low, high)

module _ (h : Header) (asked : RequestParts) (passed : List Datagram) (dir : Dir) (m : Message) (right : IsWrongKind (author_of h.named dir) asked.side m → ⊥) (stays : GoesOn passed dir m → ⊥) where
  kind_there : (rule : Rule) → KindBreaks h asked passed dir m rule → MessageBreaks h asked passed dir m rule
  kind_there rule b = inr (inr b)

  kind_back : (rule : Rule) → MessageBreaks h asked passed dir m rule → KindBreaks h asked passed dir m rule
  kind_back rule (inl (is, wrong)) = absurd (right wrong)
  kind_back rule (inr (inl (is, on))) = absurd (stays on)
  kind_back rule (inr (inr b)) = b

  pub kind_finds : (A : Type 0) (r : Result (Unit {0}) PassError) → Finds (KindBreaks h asked passed dir m) A r → Finds (MessageBreaks h asked passed dir m) A r
  kind_finds A = finds_by (KindBreaks h asked passed dir m) (MessageBreaks h asked passed dir m) A A kind_there kind_back (λ a. a)

-- an ERROR breaks none of them
pub error_finds : (h : Header) (asked : RequestParts) (passed : List Datagram) (dir : Dir) (code : ℕ) (text : List ℕ) (A : Type 0) (r : Result (Unit {0}) PassError) → OnOk r A → IfErr r (λ stop. stop ≡ PassError.Memory)
    → Finds (KindBreaks h asked passed dir (Message.Error code text)) A r
error_finds h asked passed dir code text A (Ok x) a memory = ((λ rule b. b), a)
error_finds h asked passed dir code text A (Err stop) a memory = finds_memory (KindBreaks h asked passed dir (Message.Error code text)) A (Err stop) (stop, refl, memory) (λ rule b. b)

pub block_finds : (h : Header) (asked : RequestParts) (passed : List Datagram) (dir : Dir) (m : Message) (A : Type 0) (r : Result (Unit {0}) PassError) → IsBlockOrAck m → Finds (TermsBreak h asked passed m) A r
    → Finds (KindBreaks h asked passed dir m) A r
block_finds h asked passed dir (Message.Data k bytes) A r is found = found
block_finds h asked passed dir (Message.Ack j) A r is found = found
block_finds h asked passed dir _ A r is found = absurd is

-- the test of the kind, by the author and the side that were computed
pub right_kind : (h : Header) (asked : RequestParts) (dir : Dir) (m : Message) (author : End) (side : Side) (b : Bool) → author ≡ author_of h.named dir → side ≡ asked.side → b ≡ false
    → (IsWrongKind author side m → b ≡ true) → IsWrongKind (author_of h.named dir) asked.side m → ⊥
right_kind h asked dir m author side b e f right tells wrong =
    false≢true (sym right ∙ tells (subst (λ (a : End). IsWrongKind a side m) (sym e) (subst (λ (x : Side). IsWrongKind (author_of h.named dir) x m) (sym f) wrong)))

-- ---- the first request again

module _ (h : Header) (asked : RequestParts) (passed : List Datagram) (dir : Dir) where
  abbrev Again : Rule → Type 0
  Again = MessageBreaks h asked passed dir (Message.Request asked)

  right_by : (author : End) → (author ≡ Server → ⊥) → IsWrongKind author asked.side (Message.Request asked) → ⊥
  right_by Client other wrong = request_kind asked.side asked wrong
  right_by Server other wrong = other refl

  module _ (other : author_of h.named dir ≡ Server → ⊥) where
    -- no ERROR went this way, or it came in
    pub again_goes : (dir ≡ Out → (code : ℕ) × (text : List ℕ) × Passed Out (Message.Error code text) passed → ⊥) → GoesOn passed dir (Message.Request asked) → ⊥
    again_goes none (stop, (code, text, is), went, differs, inl out) =
        none out (code, text, subst (λ way. Passed way (Message.Error code text) passed) out (subst (λ m. Passed dir m passed) is went))
    again_goes none (stop, is, went, differs, inr (code, text, e)) = cc

    module _ (stays : GoesOn passed dir (Message.Request asked) → ⊥) where
      pub again_late : dir ≡ Out → ClientWentOn passed → IsFirstOf Again Rule.RequestAfterStart
      again_late out went = kind_finds h asked passed dir (Message.Request asked) (right_by (author_of h.named dir) other) stays (Unit {0}) (Err (PassError.Broken Rule.RequestAfterStart)) (request_late asked passed dir asked refl out went)

      pub again_passes : (dir ≡ Out → ClientWentOn passed → ⊥) → NoneBreaks Again
      again_passes early = (kind_finds h asked passed dir (Message.Request asked) (right_by (author_of h.named dir) other) stays (Unit {0}) (Ok tt) (request_passes asked passed dir asked refl early, tt)).0

-- ---- the first OACK again

module _ (side : Side) (passed : List Datagram) (dir : Dir) (first oack : OptionMap) (same : oack ≡ first) where
  pub later_late : (dir ≡ Out) × (side ≡ Get) × BlockSent passed → IsFirstOf (LaterOackBreaks side passed dir first oack) Rule.OackAfterStart
  later_late late = (late, below)
    where
      below : (lower : Rule) → number_of lower < number_of Rule.OackAfterStart → LaterOackBreaks side passed dir first oack lower → ⊥
      below Rule.OackChanged low apart = apart same
      below Rule.OackAfterStart low b = omega (arith, low)
      below rule low b = b

  pub later_passes : ((dir ≡ Out) × (side ≡ Get) × BlockSent passed → ⊥) → NoneBreaks (LaterOackBreaks side passed dir first oack)
  later_passes early Rule.OackChanged apart = apart same
  later_passes early Rule.OackAfterStart b = early b
  later_passes early rule b = b

module _ (h : Header) (asked : RequestParts) (passed : List Datagram) (dir : Dir) (oack : OptionMap) where
  abbrev OackAgain : Rule → Type 0
  OackAgain = MessageBreaks h asked passed dir (Message.Oack oack)

  oack_right_by : (author : End) → (author ≡ Client → ⊥) → IsWrongKind author asked.side (Message.Oack oack) → ⊥
  oack_right_by Client other wrong = other refl
  oack_right_by Server other wrong = oack_kind asked.side oack wrong

  module _ (other : author_of h.named dir ≡ Client → ⊥) where
    pub oack_again_ended : dir ≡ Out → (code : ℕ) × (text : List ℕ) × Passed Out (Message.Error code text) passed → IsFirstOf OackAgain Rule.AfterError
    oack_again_ended out (code, text, stop) = gone_on h asked passed dir (Message.Oack oack) (oack_right_by (author_of h.named dir) other)
        (Message.Error code text, (code, text, refl), subst (λ way. Passed way (Message.Error code text) passed) (sym out) stop, (λ e. cc), inl out)

    -- no ERROR went this way, or it came in
    pub oack_again_goes : (dir ≡ Out → (code : ℕ) × (text : List ℕ) × Passed Out (Message.Error code text) passed → ⊥) → GoesOn passed dir (Message.Oack oack) → ⊥
    oack_again_goes none (stop, (code, text, is), went, differs, inl out) =
        none out (code, text, subst (λ way. Passed way (Message.Error code text) passed) out (subst (λ m. Passed dir m passed) is went))
    oack_again_goes none (stop, is, went, differs, inr (code, text, e)) = cc

    module _ (first : FirstAnswer asked.side passed (Agrees oack)) (stays : GoesOn passed dir (Message.Oack oack) → ⊥) where
      oack_found : (r : Result (Unit {0}) PassError) → Finds (LaterOackBreaks asked.side passed dir oack oack) (Unit {0}) r → Finds OackAgain (Unit {0}) r
      oack_found r found = kind_finds h asked passed dir (Message.Oack oack) (oack_right_by (author_of h.named dir) other) stays (Unit {0}) r
          (later_oack_finds h.rollover asked passed dir oack oack first (Unit {0}) (Unit {0}) (λ a. a) r found)

      pub oack_again_late : (dir ≡ Out) × (asked.side ≡ Get) × BlockSent passed → IsFirstOf OackAgain Rule.OackAfterStart
      oack_again_late late = oack_found (Err (PassError.Broken Rule.OackAfterStart)) (later_late asked.side passed dir oack oack refl late)

      pub oack_again_passes : ((dir ≡ Out) × (asked.side ≡ Get) × BlockSent passed → ⊥) → NoneBreaks OackAgain
      oack_again_passes early = (oack_found (Ok tt) (later_passes asked.side passed dir oack oack refl early, tt)).0
