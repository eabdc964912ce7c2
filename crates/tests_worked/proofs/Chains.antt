-- Lists of datagrams that break no rule, one datagram at a time or by computation.
use Rattle.std.proofs.Common.{◌≡◌, ℕ, ◌<◌, ◌&&◌, Bool, true, false, List, [], ◌∷◌, ◌++◌, Option, Some, None, refl, sym, subst, ap, ◌∙◌, append_assoc}
use Rattle.std.proofs.lemmas.Bool.{and_parts, false≢true}
use Rattle.tftp_packet.specs.{OptionMap, Message, RequestParts, Spells, Side}
use Rattle.tftp_packet.specs.{Rollover}
use Rattle.tftp_packet.specs.Hosts.{Header}
use Rattle.law_model.specs.Rules.{or_this, asks, route_of, is_of_transfer, transfer_of, EndBroken}
use Rattle.law_model.specs.{Terms, EndRule}
use Rattle.tftp_nego.specs.{AgreementBroken, AgreementRule, Holds, NegoFault, agreement_number, number}
use Rattle.law_end.specs.{number_of, Answer, Agrees, terms_after, AreTerms, MessageBreaks, Broken, Rule, OneEnded, IsRefused}
use Rattle.tests_worked.proofs.Payloads.{Spelled, datagrams, AllSpelled, spells_it, spelled_it}
use Rattle.law_end.proofs.FirstBroken.Answering.{answer_of}
use Rattle.law_end.proofs.FirstBroken.OneMessage.{end_breaks, back}
use Rattle.tests_worked.proofs.Passing.{kept_if, main_of, first_asked, asked_by, asked_is, asked_back, first_answer, or_now, unanswered_is, answered_is, terms_of, terms_from, terms_by, terms_are, terms_back}
use Rattle.tests_worked.proofs.RuleTests.{not_oack, past_all, keeps_below}
use Rattle.tests_worked.proofs.Kept.{passes_by, passes_is, none_below, no_oack, FirstOack, OtherOack, OackKeeps, not_answered}

-- what is known of the transfer, if it is these terms
pub known_by : (h : Header) (es : List Spelled) (s : AllSpelled es) (t : Option Terms) → t ≡ terms_of h es → (u : Terms) → AreTerms h (datagrams es) u → t ≡ Some u
known_by h es s t is u known = is ∙ terms_are h es u s known

-- one more datagram that is no OACK
pub one_more : (h : Header) (t : Option Terms) (es : List Spelled) (e : Spelled) → AllSpelled es → Spells e.0.payload e.1 → t ≡ terms_of h es → not_oack e.1 ≡ true
    → passes_by h t es e ≡ true → OneEnded h (datagrams es) → OneEnded h (datagrams (e ∷ es))
one_more h t es e s here is other test before =
    let known = known_by h es s t is in
    (passes_is h t es e s here known (no_oack h es e s here t known past_all other) test, before)

-- the rules below n that a datagram breaks which is no OACK: none
pub none_under : (n : ℕ) (h : Header) (t : Option Terms) (es : List Spelled) (e : Spelled) → AllSpelled es → Spells e.0.payload e.1 → t ≡ terms_of h es → not_oack e.1 ≡ true
    → keeps_below n h t es e ≡ true → (rule : Rule) → number_of rule < n → Broken h (datagrams es) e.0 rule → ⊥
none_under n h t es e s here is other test =
    let known = known_by h es s t is in
    none_below n h t es e s here known (no_oack h es e s here t known n other) test

-- ---- the first OACK

-- its faults below n
pub record OackFine (rollover : Option Rollover) (asked : RequestParts) (oack : OptionMap) (n : ℕ) : Type 0 where
  pub agreement : (broken : AgreementRule) → agreement_number broken < n → AgreementBroken broken asked oack → ⊥
  pub beyond : 20 < n → Holds rollover NegoFault.BeyondBlock65535 asked oack → ⊥

same_request : (a b : RequestParts) → Some (Message.Request a) ≡ Some (Message.Request b) → a ≡ b
same_request a b e = cc

pub same_oack : (a b : OptionMap) → Message.Oack a ≡ Message.Oack b → a ≡ b
same_oack a b e = cc

oack_fault : (h : Header) (es : List Spelled) (e : Spelled) (s : AllSpelled es) (here : Spells e.0.payload e.1) (asked : RequestParts) (oack : OptionMap)
    → asked_by (first_asked h es) ≡ Some (Message.Request asked) → e.1 ≡ Message.Oack oack → (fault : NegoFault) → FirstOack h es e s here fault → Holds h.rollover fault asked oack
oack_fault h es e s here asked oack is says fault first =
    let request : first.asked ≡ asked = same_request first.asked asked (sym (asked_is h es first.asked s first.first) ∙ is) in
    let options : first.oack ≡ oack = same_oack first.oack oack (sym first.says ∙ says) in
    subst (λ r. Holds h.rollover fault r oack) request (subst (λ o. Holds h.rollover fault first.asked o) options first.wrong)

no_fault_below : (rollover : Option Rollover) (asked : RequestParts) (oack : OptionMap) (n : ℕ) → OackFine rollover asked oack n → (fault : NegoFault) → number fault < n → Holds rollover fault asked oack → ⊥
no_fault_below rollover asked oack n fine (NegoFault.Broken broken) low holds = fine.agreement broken low holds
no_fault_below rollover asked oack n fine NegoFault.BeyondBlock65535 low holds = fine.beyond low holds
no_fault_below rollover asked oack n fine NegoFault.Memory low holds = holds

pub first_oack_keeps : (h : Header) (es : List Spelled) (e : Spelled) (s : AllSpelled es) (here : Spells e.0.payload e.1) (t : Option Terms)
    (known : (u : Terms) → AreTerms h (datagrams es) u → t ≡ Some u) (n : ℕ) (asked : RequestParts) (oack : OptionMap)
    → asked_by (first_asked h es) ≡ Some (Message.Request asked) → first_answer asked.side (main_of h es) ≡ None → e.1 ≡ Message.Oack oack → OackFine h.rollover asked oack n
    → OackKeeps h es e s here t known n
first_oack_keeps h es e s here t known n asked oack is none says fine = record {
  first = λ fault low first. no_fault_below h.rollover asked oack n fine fault low (oack_fault h es e s here asked oack is says fault first);
  changed = λ low. not_answered h es e s here asked is none;
}

-- the first OACK passes, where its options are fine
pub first_oack : (h : Header) (t : Option Terms) (es : List Spelled) (e : Spelled) (asked : RequestParts) (oack : OptionMap) → AllSpelled es → Spells e.0.payload e.1 → t ≡ terms_of h es
    → asked_by (first_asked h es) ≡ Some (Message.Request asked) → first_answer asked.side (main_of h es) ≡ None → e.1 ≡ Message.Oack oack → OackFine h.rollover asked oack past_all
    → passes_by h t es e ≡ true → OneEnded h (datagrams es) → OneEnded h (datagrams (e ∷ es))
first_oack h t es e asked oack s here is request none says fine test before =
    let known = known_by h es s t is in
    (passes_is h t es e s here known (first_oack_keeps h es e s here t known past_all asked oack request none says fine) test, before)

-- ---- once the request is answered

-- the first request and the first answer
pub record IsFixed (h : Header) (es : List Spelled) (asked : RequestParts) (answer : Answer) : Type 0 where
  pub request : asked_by (first_asked h es) ≡ Some (Message.Request asked)
  pub answered : first_answer asked.side (main_of h es) ≡ Some answer

or_this_stays : (o : Option Spelled) (b : Bool) (e : Spelled) (asked : RequestParts) → asked_by o ≡ Some (Message.Request asked) → asked_by (or_this o b e) ≡ Some (Message.Request asked)
or_this_stays (Some x) b e asked is = is
or_this_stays None b e asked is = absurd (cc)

or_now_stays : (o now : Option Answer) (a : Answer) → o ≡ Some a → or_now o now ≡ Some a
or_now_stays (Some x) now a is = is
or_now_stays None now a is = absurd (cc)

answer_stays : (b : Bool) (side : Side) (e : Spelled) (es : List Spelled) (a : Answer) → first_answer side es ≡ Some a → first_answer side (kept_if b e es) ≡ Some a
answer_stays true side e es a is = or_now_stays (first_answer side es) (answer_of side e.1) a is
answer_stays false side e es a is = is

fixed_more : (h : Header) (es : List Spelled) (e : Spelled) (asked : RequestParts) (a : Answer) → IsFixed h es asked a → IsFixed h (e ∷ es) asked a
fixed_more h es e asked a f = record {
  request = or_this_stays (first_asked h es) (asks h e.0) e asked f.request;
  answered = answer_stays (is_of_transfer (route_of h (datagrams es) e.0)) asked.side e (main_of h es) a f.answered;
}

pub fixed_all : (h : Header) (news es : List Spelled) (asked : RequestParts) (a : Answer) → IsFixed h es asked a → IsFixed h (news ++ es) asked a
fixed_all h [] es asked a f = f
fixed_all h (e ∷ news) es asked a f = fixed_more h (news ++ es) e asked a (fixed_all h news es asked a f)

pub fixed_terms : (h : Header) (es : List Spelled) (asked : RequestParts) (a : Answer) (t : Terms) → IsFixed h es asked a → t ≡ terms_after h asked a → Some t ≡ terms_of h es
fixed_terms h es asked a t f is = ap Some is ∙ sym (ap (λ o. Some (terms_by h asked o)) f.answered) ∙ sym (ap (terms_from h es) f.request)

-- ---- beginnings

-- A beginning of a capture: what its datagrams spell, that they break no rule, and what is known of the transfer after it
-- and more.
pub record Start (h : Header) : Type 0 where
  pub es : List Spelled
  pub spelled : AllSpelled es
  pub lawful : OneEnded h (datagrams es)
  pub known : List Spelled → Option Terms
  pub knows : (more : List Spelled) → known more ≡ terms_of h (more ++ es)

-- a request alone
abbrev pub request_alone : (h : Header) (e : Spelled) → Spells e.0.payload e.1 → (not_oack e.1 && passes_by h None [] e) ≡ true → Start h
request_alone h e here test = record {
  es = e ∷ [];
  spelled = (here, tt);
  lawful = let parts = and_parts (not_oack e.1) (passes_by h None [] e) test in one_more h None [] e tt here refl parts.0 parts.1 tt;
  known = λ more. terms_of h (more ++ e ∷ []);
  knows = λ more. refl;
}

no_offer : (payload : List ℕ) (m : Message) → spells_it payload m ≡ true → not_oack m ≡ true
no_offer payload (Message.Oack o) e = absurd (false≢true e)
no_offer payload _ e = refl

module _ (h : Header) (b : Start h) where
  -- these pass too, one after another
  abbrev pub all_pass : List Spelled → Bool
  all_pass [] = true
  all_pass (e ∷ news) = (spells_it e.0.payload e.1 && passes_by h (b.known news) (news ++ b.es) e) && all_pass news

  pub all_more : (news : List Spelled) → all_pass news ≡ true → AllSpelled (news ++ b.es) × OneEnded h (datagrams (news ++ b.es))
  all_more [] t = (b.spelled, b.lawful)
  all_more (e ∷ news) t =
      let parts = and_parts (spells_it e.0.payload e.1 && passes_by h (b.known news) (news ++ b.es) e) (all_pass news) t in
      let now = and_parts (spells_it e.0.payload e.1) (passes_by h (b.known news) (news ++ b.es) e) parts.0 in
      let before = all_more news parts.1 in
      let here = spelled_it e.0.payload e.1 now.0 in
      ((here, before.0), one_more h (b.known news) (news ++ b.es) e before.0 here (b.knows news) (no_offer e.0.payload e.1 now.0) now.1 before.1)

  abbrev pub after : (news : List Spelled) → all_pass news ≡ true → Start h
  after news t = record {
    es = news ++ b.es;
    spelled = (all_more news t).0;
    lawful = (all_more news t).1;
    known = λ more. b.known (more ++ news);
    knows = λ more. b.knows (more ++ news) ∙ ap (terms_of h) (append_assoc more news b.es);
  }

  -- ---- refused

  -- the next one breaks a rule, and none before it
  pub refused_next : (e : Spelled) (rule : Rule) → Spells e.0.payload e.1 → (not_oack e.1 && keeps_below (number_of rule) h (b.known []) b.es e) ≡ true → Broken h (datagrams b.es) e.0 rule
      → IsRefused h (datagrams b.es) e.0 rule
  refused_next e rule here test broken =
      let parts = and_parts (not_oack e.1) (keeps_below (number_of rule) h (b.known []) b.es e) test in
      record { lawful = b.lawful; broken = (broken, none_under (number_of rule) h (b.known []) b.es e b.spelled here (b.knows []) parts.0 parts.1) }

  -- it breaks a rule by what it says, where this was asked for first
  pub breaks_so : (e : Spelled) (asked : RequestParts) (rule : Rule) → Spells e.0.payload e.1 → is_of_transfer (route_of h (datagrams b.es) e.0) ≡ true → asked_by (first_asked h b.es) ≡ Some (Message.Request asked)
      → MessageBreaks h asked (transfer_of h (datagrams b.es)) e.0.dir e.1 rule → Broken h (datagrams b.es) e.0 rule
  breaks_so e asked rule here routed is breaks = back h (datagrams b.es) e.0 e.1 asked routed here (asked_back h b.es asked b.spelled is) rule breaks

  abbrev WhereKnown : Option Terms → (Terms → Type 0) → Type 0
  WhereKnown (Some t) P = P t
  WhereKnown None P = ⊥

  -- a rule of blocks and acknowledgements
  pub refused_end : (e : Spelled) (end : EndRule)
      → (spells_it e.0.payload e.1 && (is_of_transfer (route_of h (datagrams b.es) e.0) && keeps_below (number_of (Rule.Block end)) h (b.known []) b.es e)) ≡ true
      → WhereKnown (b.known []) (λ t. EndBroken t (transfer_of h (datagrams b.es)) e.1 end) → IsRefused h (datagrams b.es) e.0 (Rule.Block end)
  refused_end e end test broken =
      let parts = and_parts (spells_it e.0.payload e.1) (is_of_transfer (route_of h (datagrams b.es) e.0) && keeps_below (number_of (Rule.Block end)) h (b.known []) b.es e) test in
      let more = and_parts (is_of_transfer (route_of h (datagrams b.es) e.0)) (keeps_below (number_of (Rule.Block end)) h (b.known []) b.es e) parts.1 in
      let here = spelled_it e.0.payload e.1 parts.0 in
      let first = none_under (number_of (Rule.Block end)) h (b.known []) b.es e b.spelled here (b.knows []) (no_offer e.0.payload e.1 parts.0) more.1 in
      record { lawful = b.lawful; broken = (by here more.0 (b.known []) (b.knows []) broken, first) }
    where
      by : Spells e.0.payload e.1 → is_of_transfer (route_of h (datagrams b.es) e.0) ≡ true → (o : Option Terms) → o ≡ terms_of h b.es → WhereKnown o (λ t. EndBroken t (transfer_of h (datagrams b.es)) e.1 end)
          → Broken h (datagrams b.es) e.0 (Rule.Block end)
      by here main (Some t) is broken =
          let (asked, first, known) = terms_back h b.es t b.spelled (sym is) in
          back h (datagrams b.es) e.0 e.1 asked main here first (Rule.Block end) (end_breaks h asked (transfer_of h (datagrams b.es)) e.0.dir e.1 t known end broken)
      by here main None is broken = absurd broken

-- an OACK after the first answer is none of the first, and below rule n it breaks none of their rules, where it says the
-- same or n is at most that of a changed one
pub later_oack_keeps : (h : Header) (es : List Spelled) (e : Spelled) (s : AllSpelled es) (here : Spells e.0.payload e.1) (t : Option Terms)
    (known : (u : Terms) → AreTerms h (datagrams es) u → t ≡ Some u) (n : ℕ) (asked : RequestParts) (answer : Answer) → IsFixed h es asked answer
    → (16 < n → OtherOack h es e s here → ⊥) → OackKeeps h es e s here t known n
later_oack_keeps h es e s here t known n asked answer f same = record { first = λ fault low. never fault; changed = same } where
  never : (fault : NegoFault) → FirstOack h es e s here fault → ⊥
  never fault first =
      let request : first.asked ≡ asked = same_request first.asked asked (sym (asked_is h es first.asked s first.first) ∙ f.request) in
      let none = unanswered_is h first.asked.side es s first.unanswered in
      let both : None ≡ Some answer = sym none ∙ ap (λ (r : RequestParts). first_answer r.side (main_of h es)) request ∙ f.answered in
      absurd (cc)

-- it says what the first one said
pub same_again : (h : Header) (es : List Spelled) (e : Spelled) (s : AllSpelled es) (here : Spells e.0.payload e.1) (asked : RequestParts) (options : OptionMap) → IsFixed h es asked (Agrees options)
    → e.1 ≡ Message.Oack options → OtherOack h es e s here → ⊥
same_again h es e s here asked options f says b =
    let is : b.asked ≡ asked = same_request b.asked asked (sym (asked_is h es b.asked s b.first) ∙ f.request) in
    let both : Some (Agrees b.agreed) ≡ Some (Agrees options) = sym (answered_is h b.asked.side es (Agrees b.agreed) s b.answered) ∙ ap (λ (r : RequestParts). first_answer r.side (main_of h es)) is ∙ f.answered in
    b.differs (same_oack b.oack options (sym b.says ∙ says) ∙ sym (same_answer b.agreed options both))
  where
    same_answer : (a b : OptionMap) → Some (Agrees a) ≡ Some (Agrees b) → a ≡ b
    same_answer a b e = cc
