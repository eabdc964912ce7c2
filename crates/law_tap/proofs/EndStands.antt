-- What is refused at an end by a rule that stands is certain.
use Rattle.std.proofs.Common.{◌≡◌, ◌≢◌, ◌⊎◌, ℕ, ◌<◌, true, List, [], ◌∷◌, ◌++◌, Any, Contains, inl, inr, refl, sym, subst, ap, ◌∙◌, arith, ◌+◌, reverse, length, take, append-nil}
use Rattle.std.proofs.Math.Seq.{take-append_seam}
use Rattle.std.proofs.lemmas.List.{length-append, length-reverse, reverse-append, reverse-reverse}
use Rattle.tftp_packet.specs.{OptionMap, Message, RequestParts, Spells, FirstFault, PacketFault, Side, Get, Put, End, Client, Server, Dir, Out, In}
use Rattle.tftp_packet.specs.Hosts.{Datagram, Header}
use Rattle.tftp_packet.proofs.NoFault.{no_fault}
use Rattle.tftp_nego.specs.{AgreementBroken}
use Rattle.tftp_nego.proofs.Tested.{agreement_kept}
use Rattle.law_model.specs.Model.{Meaning, SomethingAgreed, request_of, MachinePacket, Req, Oack, Data, Ack, Error, Deed, Sent, Took, IsView, IsOneSided, message_of}
use Rattle.law_model.specs.Rules.{EndBroken, HasPassed, Passed, SaysUnknownId, asks, is_of_transfer, route_of, transfer_of}
use Rattle.law_model.specs.{EndRule, Terms}
use Rattle.law_model.proofs.ModelLemmas.Members.{contains_cases, contains_first, contains_later, contains_none}
use Rattle.law_model.proofs.ModelLemmas.OneSided.{view_one_sided}
use Rattle.law_end.specs.{Agrees, AreRouted, AreTermsAfter, Broken, ClientWentOn, Division, FirstAsked, Fits, HasLabel, IsMain, IsRefused, IsSeen, IsWrongKind, KindBreaks, Label, Main, Stray, MessageBreaks, MessageBroken, Rule, TransferIds, datagrams_of, dir_of, number_of, packet_of, plain_terms, terms_after, view_in}
use Rattle.law_model.specs.{NoReply}
use Rattle.law_end.specs.Replies.{Begins}
use Rattle.law_end.specs.Dress.{StrayAnswer}
use Rattle.law_end.specs.declared.rule.Rule.TheVariants as rule
use Rattle.law_end.proofs.Spelled.{spelled_once}
use Rattle.law_end.proofs.FirstBroken.FirstRequests.{first_passes}
use Rattle.law_end.proofs.FirstBroken.OneMessage.{agreement_from}
use Rattle.law_end.proofs.Soundness.Searches.{oack_from}
use Rattle.law_end.proofs.Accord.PassedIsDone.{passed_told, told_passed}
use Rattle.law_end.proofs.Completeness.NextDeed.{deed_keeps, reply_now}
use Rattle.law_end.proofs.Division.Divided.{any_first, any_later, view_main}
use Rattle.law_end.proofs.Division.Placing.{one}
use Rattle.law_end.proofs.Division.Routed.{routed}
use Rattle.law_tap.specs.Losses.{IsCertain, IsLawfulWithLosses, Loses, kept, lost, nothing}
use Rattle.law_tap.specs.StandingAtEnd.{GoesOnWith, IsForOtherEnd, KnowsOtherEnd, StandsAtEnd, StandsOfItsOwn}
use Rattle.law_tap.proofs.Left.{left_was_there}
use Rattle.law_tap.proofs.EndRoutes.{AskedFirst, asked_first, sent_there, transfer_there, with_more, with_this}
use Rattle.law_tap.proofs.EndStood.{Stood, WasIn, asked_main, is_asked, main_spells, out_main, stood, was_in}
use Rattle.law_tap.proofs.EndKnown.{first_there, transfer_main}

-- ---- what a deed of a run says breaks no rule that stands, after what passed with it

pub before : (h : Header) (m : Meaning) (wire : List ℕ) (rest : Division) (x : Deed) → IsOneSided m wire h.named (x ∷ view_in rest) → IsOneSided m wire h.named (view_in rest)
before h m wire rest (Sent p) is = is.1
before h m wire rest (Took p) is = is.1

module _ (h : Header) (m : Meaning) (wire : List ℕ) (fits : Fits h.rollover m wire) (rest : Division)
    (routes : AreRouted h m wire rest) (deed : Deed) (own : IsOneSided m wire h.named (deed ∷ view_in rest)) where
  abbrev through : List Datagram
  through = transfer_of h (datagrams_of rest)

  keeps : (broken : Rule) → MessageBreaks h (request_of m) through (dir_of deed) (message_of m wire (packet_of deed)) broken → ⊥
  keeps broken b = deed_keeps h m wire fits rest routes (before h m wire rest deed own) deed own broken b

  -- the terms by what passed
  some_terms : (t : Terms) × AreTermsAfter h (request_of m) through t
  some_terms = elim (reply_now h m wire fits rest routes (before h m wire rest deed own)) [
    | inl none ↦ (plain_terms h m.side NoReply, inl (none, refl))
    | inr some ↦ elim some [
      | inl agreed ↦ (terms_after h (request_of m) (Agrees m.agreed), inr (Agrees m.agreed, agreed.1, refl))
      | inr plain ↦ (terms_after h (request_of m) Begins, inr (Begins, plain.1, refl))
    ]
  ]

  -- less of what passed
  module _ (passed : List Datagram) (more : (dir : Dir) (n : Message) → Passed dir n passed → Passed dir n through) where
    went_on : ClientWentOn passed → ClientWentOn through
    went_on (inl (k, bytes, p)) = inl (k, bytes, more Out (Message.Data k bytes) p)
    went_on (inr (j, p)) = inr (j, more Out (Message.Ack j) p)

    pub has_more : (n : Message) → HasPassed n passed → HasPassed n through
    has_more n (inl p) = inl (more In n p)
    has_more n (inr p) = inr (more Out n p)

    pub is_oack : (p : MachinePacket) (o : OptionMap) → message_of m wire p ≡ Message.Oack o → o ≡ m.agreed
    is_oack Req o e = absurd (cc)
    is_oack Oack o e = cc
    is_oack (Data k) o e = absurd (cc)
    is_oack (Ack j) o e = absurd (cc)
    is_oack (Error code text) o e = absurd (cc)

    pub agreed_once : (options : OptionMap) → HasPassed (Message.Oack options) through → options ≡ m.agreed
    agreed_once options (inl p) = let (x, at, way, says) = passed_told h m wire rest routes In (Message.Oack options) p in is_oack (packet_of x) options says
    agreed_once options (inr p) = let (x, at, way, says) = passed_told h m wire rest routes Out (Message.Oack options) p in is_oack (packet_of x) options says

    pub something : (x : Deed) → IsOneSided m wire h.named (x ∷ view_in rest) → packet_of x ≡ Oack → SomethingAgreed m
    something (Sent Oack) is e = is.0.agreed
    something (Took Oack) is e = is.0.agreed
    something (Sent Req) is e = absurd (cc)
    something (Sent (Data k)) is e = absurd (cc)
    something (Sent (Ack j)) is e = absurd (cc)
    something (Sent (Error code text)) is e = absurd (cc)
    something (Took Req) is e = absurd (cc)
    something (Took (Data k)) is e = absurd (cc)
    something (Took (Ack j)) is e = absurd (cc)
    something (Took (Error code text)) is e = absurd (cc)

    pub only_oack : (p : MachinePacket) (o : OptionMap) → message_of m wire p ≡ Message.Oack o → p ≡ Oack
    only_oack Req o e = absurd (cc)
    only_oack Oack o e = refl
    only_oack (Data k) o e = absurd (cc)
    only_oack (Ack j) o e = absurd (cc)
    only_oack (Error code text) o e = absurd (cc)

    -- what its message breaks after less, it breaks after all
    abbrev Says : Message → Type 0
    Says n = message_of m wire (packet_of deed) ≡ n

    kept_so : (n : Message) → Says n → (broken : Rule) → MessageBreaks h (request_of m) through (dir_of deed) n broken → ⊥
    kept_so n says broken b = keeps broken (subst (λ x. MessageBreaks h (request_of m) through (dir_of deed) x broken) (sym says) b)

    kind_stands : (n : Message) → Says n → (broken : Rule) → StandsAtEnd broken → KindBreaks h (request_of m) passed (dir_of deed) n broken → ⊥
    kind_stands (Message.Request now) says rule.RequestChanged stands b = kept_so (Message.Request now) says rule.RequestChanged (inr (inr b))
    kind_stands (Message.Request now) says rule.RequestAfterStart stands b = kept_so (Message.Request now) says rule.RequestAfterStart (inr (inr (b.0, went_on b.1)))
    kind_stands (Message.Request now) says _ stands b = absurd b
    kind_stands (Message.Error code text) says _ stands b = absurd b
    kind_stands (Message.Oack options) says (rule.Agreement broken) stands b =
        agreement_kept (request_of m) m.agreed (something deed own (only_oack (packet_of deed) options says)) fits.may_agree.asked broken
        (subst (AgreementBroken broken (request_of m)) (is_oack (packet_of deed) options says) b.1)
    kind_stands (Message.Oack options) says rule.OackChanged stands (first, answer, differs) =
        differs (is_oack (packet_of deed) options says ∙ sym (agreed_once first (has_more (Message.Oack first) (oack_from m.side passed first answer))))
    kind_stands (Message.Oack options) says rule.OackAfterStart stands (out, get, (k, bytes, p)) =
        kept_so (Message.Oack options) says rule.OackAfterStart (inr (inr (out, get, (k, bytes, more Out (Message.Data k bytes) p))))
    kind_stands (Message.Oack options) says (rule.Block EndRule.BlockZero) stands b = b.1
    kind_stands (Message.Oack options) says (rule.Block EndRule.BlockChanged) stands b = b.1
    kind_stands (Message.Oack options) says (rule.Malformed fault) stands b = b.1
    kind_stands (Message.Oack options) says rule.WrongKind stands b = b.1
    kind_stands (Message.Oack options) says rule.AfterError stands b = b.1
    kind_stands (Message.Oack options) says rule.RequestChanged stands b = b.1
    kind_stands (Message.Oack options) says rule.RequestAfterStart stands b = b.1
    kind_stands (Message.Oack options) says _ stands b = absurd stands
    kind_stands (Message.Data k bytes) says broken stands (e, is, t, known, breaks) = block_stands k bytes says e (subst StandsAtEnd is stands) t breaks
      where
        block_stands : (k : ℕ) (bytes : List ℕ) → Says (Message.Data k bytes) → (e : EndRule) → StandsAtEnd (rule.Block e) → (t : Terms) → EndBroken t passed (Message.Data k bytes) e → ⊥
        block_stands k bytes says EndRule.BlockZero stands t b = let (u, are) = some_terms in kept_so (Message.Data k bytes) says (rule.Block EndRule.BlockZero) (inr (inr (EndRule.BlockZero, refl, u, are, b)))
        block_stands k bytes says EndRule.BlockChanged stands t (other, was, differs) =
            let (u, are) = some_terms in
            kept_so (Message.Data k bytes) says (rule.Block EndRule.BlockChanged) (inr (inr (EndRule.BlockChanged, refl, u, are, (other, has_more (Message.Data k other) was, differs))))
        block_stands k bytes says _ stands t b = absurd stands
    kind_stands (Message.Ack j) says broken stands (e, is, t, known, breaks) = ack_stands e (subst StandsAtEnd is stands) breaks
      where
        ack_stands : (e : EndRule) → StandsAtEnd (rule.Block e) → EndBroken t passed (Message.Ack j) e → ⊥
        ack_stands EndRule.BlockZero stands b = b
        ack_stands EndRule.BlockChanged stands b = b
        ack_stands _ stands b = absurd stands

    pub message_stands : (n : Message) → Says n → (broken : Rule) → StandsAtEnd broken → MessageBreaks h (request_of m) passed (dir_of deed) n broken → ⊥
    message_stands n says broken stands (inl (is, wrong)) = kept_so n says rule.WrongKind (inl (refl, wrong))
    message_stands n says broken stands (inr (inl (is, (stop, error, p, differs, which)))) = kept_so n says rule.AfterError (inr (inl (refl, (stop, error, more (dir_of deed) stop p, differs, which))))
    message_stands n says broken stands (inr (inr b)) = kind_stands n says broken stands b

-- ---- what is refused

from_5 : (broken : Rule) → StandsAtEnd broken → 4 < number_of broken
from_5 (rule.Malformed fault) stands = omega arith
from_5 rule.WrongKind stands = omega arith
from_5 rule.AfterError stands = omega arith
from_5 rule.RequestChanged stands = omega arith
from_5 rule.RequestAfterStart stands = omega arith
from_5 (rule.Agreement broken) stands = let low = agreement_from broken in omega (arith, low)
from_5 rule.OackChanged stands = omega arith
from_5 rule.OackAfterStart stands = omega arith
from_5 (rule.Block EndRule.BlockZero) stands = omega arith
from_5 (rule.Block EndRule.BlockChanged) stands = omega arith
from_5 _ stands = absurd stands

-- the datagram is no packet, or says a message that breaks the rule
abbrev pub IsSaidSo : Header → List Datagram → Datagram → Rule → Type 0
IsSaidSo h earlier d broken = ((is_of_transfer (route_of h earlier d) ≡ true) × (fault : PacketFault) × (broken ≡ rule.Malformed fault) × FirstFault d.payload fault) ⊎ MessageBroken h earlier d broken

broken_by : (h : Header) (earlier : List Datagram) (d : Datagram) (broken : Rule) → StandsAtEnd broken → Broken h earlier d broken → IsSaidSo h earlier d broken
broken_by h earlier d (rule.Malformed fault) stands b = inl (b.0, fault, refl, b.1)
broken_by h earlier d rule.WrongKind stands b = inr b
broken_by h earlier d rule.AfterError stands b = inr b
broken_by h earlier d rule.RequestChanged stands b = inr b
broken_by h earlier d rule.RequestAfterStart stands b = inr b
broken_by h earlier d (rule.Agreement broken) stands b = inr b
broken_by h earlier d rule.OackChanged stands b = inr b
broken_by h earlier d rule.OackAfterStart stands b = inr b
broken_by h earlier d (rule.Block broken) stands b = inr b
broken_by h earlier d _ stands b = absurd stands

passed_there : (dir : Dir) (n : Message) (passed : List Datagram) → Passed dir n passed → (x : Datagram) × Contains passed x × (x.dir ≡ dir) × Spells x.payload n
passed_there dir n [] p = absurd p
passed_there dir n (d ∷ passed) (inl now) = (d, contains_first d passed, now.0, now.1)
passed_there dir n (d ∷ passed) (inr past) = let (x, at, way, s) = passed_there dir n passed past in (x, contains_later d passed x at, way, s)

any_at : (seen : List Datagram) (x : Datagram) → Contains seen x → GoesOnWith x → Any GoesOnWith seen
any_at [] x at on = absurd (contains_none x at)
any_at (d ∷ seen) x at on = elim (contains_cases d seen x at) [
  | inl now ↦ any_first GoesOnWith d seen (subst GoesOnWith (sym now) on)
  | inr past ↦ any_later GoesOnWith d seen (any_at seen x past on)
]

pub no_unknown_id : (x : Datagram) → (n : Message) → Spells x.payload n → IsForOtherEnd n → SaysUnknownId x → ⊥
no_unknown_id x n s alone (text, t) = subst IsForOtherEnd (spelled_once x.payload n (Message.Error 5 text) s t) alone refl

-- what was asked for first is what was asked for
same_asked : (h : Header) (earlier : List Datagram) (d : Datagram) (m : Meaning) (wire : List ℕ) (ids : TransferIds) → Stood h m wire ids earlier d → (asked : RequestParts) → FirstAsked h earlier asked → asked ≡ request_of m
same_asked h earlier d m wire ids st asked (r, some, s) =
    let w = was_in h m wire ids st.rest st.labels r (left_was_there (datagrams_of st.rest) earlier r st.left (first_there (asks h) earlier r some)) in
    let (deed, label) = asked_main h m wire ids w.before r w.label w.has (first_passes (asks h) earlier r some) in
    sym (is_asked h m wire ids (packet_of deed) asked (main_spells h m wire ids w.before r w.label deed label w.has (Message.Request asked) s))

-- What a deed of a fuller list says breaks the rule after less of what passed: that can't be.
abbrev pub IsKept : Header → List Datagram → Datagram → Rule → Type 0
IsKept h earlier d broken = (m : Meaning) (wire : List ℕ) → Fits h.rollover m wire → (rest : Division) → AreRouted h m wire rest → (deed : Deed) → IsOneSided m wire h.named (deed ∷ view_in rest)
    → ((dir : Dir) (n : Message) → Passed dir n (transfer_of h earlier) → Passed dir n (transfer_of h (datagrams_of rest))) → FirstAsked h earlier (request_of m)
    → (n : Message) → Spells d.payload n → message_of m wire (packet_of deed) ≡ n → MessageBreaks h (request_of m) (transfer_of h earlier) (dir_of deed) n broken → ⊥

module _ (h : Header) (earlier : List Datagram) (d : Datagram) (broken : Rule) (refused : IsRefused h earlier d broken) (from : 4 < number_of broken) (said_so : IsSaidSo h earlier d broken) (keep : IsKept h earlier d broken) where
  goes : is_of_transfer (route_of h earlier d) ≡ true
  goes = elim said_so [ inl x ↦ x.0 | inr b ↦ b.says.routed ]

  begun : AskedFirst h (d ∷ earlier)
  begun = (λ none is. refused.broken.1 rule.NoRequest from (none, is), asked_first h earlier refused.lawful)

  sent : (x : Datagram) → Contains (d ∷ earlier) x → GoesOnWith x → Contains (transfer_of h (d ∷ earlier)) x
  sent x at on = elim (contains_cases d earlier x at) [
    | inl now ↦ subst (Contains (transfer_of h (d ∷ earlier))) now (with_this h d earlier goes)
    | inr past ↦ with_more h d earlier x (sent_there h earlier refused.lawful x past on.out (no_unknown_id x on.message on.says on.alone))
  ]

  module _ (known : KnowsOtherEnd h (d ∷ earlier)) (m : Meaning) (wire : List ℕ) (fits : Fits h.rollover m wire) (ids : TransferIds) (st : Stood h m wire ids earlier d) where
    abbrev all : Division
    all = one d st.label st.rest

    left : Loses Datagram (datagrams_of all) (d ∷ earlier)
    left = kept d (datagrams_of st.rest) earlier st.left

    main : (x : Datagram) → Contains (transfer_of h (d ∷ earlier)) x → (within : Division) (w : WasIn h m wire ids within x) → IsMain w.label
    main = transfer_main h m wire ids all (st.has, st.labels) (d ∷ earlier) left begun sent known

    abbrev this : WasIn h m wire ids all d
    this = record {
      label = st.label;
      before = st.rest;
      has = st.has;
      labels = st.labels;
      done = λ deed is. subst (λ v. Contains v deed) (sym (view_main (record { datagram = d; label = st.label }) deed st.rest is)) (contains_first deed (view_in st.rest));
    }

    by_deed : (deed : Deed) → st.label ≡ Main deed → ⊥
    by_deed deed is = elim said_so [
      | inl (t, fault, e, bad) ↦ no_fault d.payload (message_of m wire (packet_of deed)) fault carried.spells.1 bad.0
      | inr b ↦ keep m wire fits st.rest routes deed own more (first b) b.message b.says.spells (said b) (subst2 b)
    ]
      where
        carried : HasLabel h m wire ids st.rest d (Main deed)
        carried = subst (HasLabel h m wire ids st.rest d) is st.has

        view : IsView m wire h.named (deed ∷ view_in st.rest)
        view = subst (λ l. IsView m wire h.named (view_in (one d l st.rest))) is st.view

        own : IsOneSided m wire h.named (deed ∷ view_in st.rest)
        own = view_one_sided m wire h.named (deed ∷ view_in st.rest) view

        routes : AreRouted h m wire st.rest
        routes = routed h m wire ids st.rest st.labels (before h m wire st.rest deed own)

        said : (b : MessageBroken h earlier d broken) → message_of m wire (packet_of deed) ≡ b.message
        said b = main_spells h m wire ids st.rest d st.label deed is st.has b.message b.says.spells

        -- what passed in the transfer has passed in the fuller list
        in_rest : (x : Datagram) → Contains (transfer_of h earlier) x → WasIn h m wire ids st.rest x
        in_rest x at = was_in h m wire ids st.rest st.labels x (left_was_there (datagrams_of st.rest) earlier x st.left (transfer_there h earlier x at))

        more : (dir : Dir) (n : Message) → Passed dir n (transfer_of h earlier) → Passed dir n (transfer_of h (datagrams_of st.rest))
        more dir n p =
            let (x, at, way, s) = passed_there dir n (transfer_of h earlier) p in
            let w = in_rest x at in
            let (deed', label) = main x (with_more h d earlier x at) st.rest w in
            let c = subst (HasLabel h m wire ids w.before x) label w.has in
            let says = main_spells h m wire ids w.before x w.label deed' label w.has n s in
            subst (λ way. Passed way n (transfer_of h (datagrams_of st.rest))) (sym c.dir ∙ way)
            (subst (λ y. Passed (dir_of deed') y (transfer_of h (datagrams_of st.rest))) says (told_passed h m wire st.rest routes deed' (w.done deed' label)))

        first : (b : MessageBroken h earlier d broken) → FirstAsked h earlier (request_of m)
        first b = subst (FirstAsked h earlier) (same_asked h earlier d m wire ids st b.asked b.first) b.first

        subst2 : (b : MessageBroken h earlier d broken) → MessageBreaks h (request_of m) (transfer_of h earlier) (dir_of deed) b.message broken
        subst2 b = subst (λ way. MessageBreaks h (request_of m) (transfer_of h earlier) way b.message broken) carried.dir
            (subst (λ a. MessageBreaks h a (transfer_of h earlier) d.dir b.message broken) (same_asked h earlier d m wire ids st b.asked b.first) b.breaks)

    pub unlawful : ⊥
    unlawful = let (deed, is) = main d (with_this h d earlier goes) all this in by_deed deed is

-- ---- lists, the oldest first

module _ {X : Type 0} where
  loses_both : (a b c e : List X) → Loses X a b → Loses X c e → Loses X (a ++ c) (b ++ e)
  loses_both _ _ c e nothing l = l
  loses_both _ _ c e (kept x a b k) l = kept x (a ++ c) (b ++ e) (loses_both a b c e k l)
  loses_both _ b c e (lost x a b' k) l = lost x (a ++ c) (b ++ e) (loses_both a b c e k l)

  turned : (x : X) (xs : List X) → reverse (x ∷ xs) ≡ reverse xs ++ x ∷ []
  turned x xs = reverse-append (x ∷ []) xs

  pub loses_reverse : (a b : List X) → Loses X a b → Loses X (reverse a) (reverse b)
  loses_reverse _ _ nothing = nothing
  loses_reverse _ _ (kept x a b k) =
      subst (λ l. Loses X l (reverse (x ∷ b))) (sym (turned x a)) (subst (Loses X (reverse a ++ x ∷ [])) (sym (turned x b)) (loses_both (reverse a) (reverse b) (x ∷ []) (x ∷ []) (loses_reverse a b k) (kept x [] [] nothing)))
  loses_reverse _ b (lost x a b' k) =
      subst (λ l. Loses X l (reverse b)) (sym (turned x a)) (subst (Loses X (reverse a ++ x ∷ [])) (append-nil (reverse b)) (loses_both (reverse a) (reverse b) (x ∷ []) [] (loses_reverse a b k) (lost x [] [] nothing)))

  up_to : (later earlier : List X) (x : X) → take (length earlier + 1) (reverse (later ++ x ∷ earlier)) ≡ reverse (x ∷ earlier)
  up_to later earlier x =
      ap (take (length earlier + 1)) (reverse-append later (x ∷ earlier))
      ∙ ap (λ n. take n (reverse (x ∷ earlier) ++ reverse later)) (sym long)
      ∙ take-append_seam (reverse (x ∷ earlier)) (reverse later)
    where
      long : length (reverse (x ∷ earlier)) ≡ length earlier + 1
      long = length-reverse (x ∷ earlier) ∙ omega arith

  is_within : (later earlier : List X) (x : X) → length earlier < length (reverse (later ++ x ∷ earlier))
  is_within later earlier x = let one = length-reverse (later ++ x ∷ earlier) in let all = length-append later (x ∷ earlier) in let more : length (x ∷ earlier) ≡ length earlier + 1 = omega arith in omega (arith, one, all, more)

-- ---- the list up to a datagram

module _ (h : Header) (later earlier : List Datagram) (d : Datagram) where
  pub in_fuller : (lossy : IsLawfulWithLosses h (reverse (d ∷ earlier))) (m : Meaning) (wire : List ℕ) (seen : IsSeen h m wire lossy.all) → Stood h m wire seen.dressed.ids earlier d
  in_fuller lossy m wire seen =
      let dress = seen.dressed in
      let left : Loses Datagram (reverse lossy.all) (d ∷ earlier) = subst (Loses Datagram (reverse lossy.all)) (reverse-reverse (d ∷ earlier)) (loses_reverse lossy.all (reverse (d ∷ earlier)) lossy.left) in
      let view = subst (IsView m wire h.named) (sym dress.main) seen.run in
      stood h m wire dress.ids (reverse lossy.all) (d ∷ earlier) left dress.division dress.whole dress.labels view d earlier refl

  pub certain : (IsLawfulWithLosses h (reverse (d ∷ earlier)) → ⊥) → IsCertain h (reverse (later ++ d ∷ earlier)) (length earlier)
  certain none = record { within = is_within later earlier d; unlawful = λ lossy. none (subst (IsLawfulWithLosses h) (up_to later earlier d) lossy) }

-- ---- the law

module _ (h : Header) (later earlier : List Datagram) (d : Datagram) (broken : Rule) (refused : IsRefused h earlier d broken) where
  abbrev Known : Type 0
  Known = KnowsOtherEnd h (d ∷ earlier)

  none_keeps : 4 < number_of broken → IsSaidSo h earlier d broken → IsKept h earlier d broken → Known → IsLawfulWithLosses h (reverse (d ∷ earlier)) → ⊥
  none_keeps from said_so keep known lossy =
      let (m, wire, seen) = lossy.lawful in
      unlawful h earlier d broken refused from said_so keep known m wire seen.fits seen.dressed.ids (in_fuller h later earlier d lossy m wire seen)

  no_list : StandsAtEnd broken → Known → IsLawfulWithLosses h (reverse (d ∷ earlier)) → ⊥
  no_list stands known lossy = none_keeps (from_5 broken stands) (broken_by h earlier d broken stands refused.broken.0)
      (λ m wire fits rest routes deed own more first n spells says b. message_stands h m wire fits rest routes deed own (transfer_of h earlier) more n says broken stands b) known lossy

  pub kept_is_certain : 4 < number_of broken → IsSaidSo h earlier d broken → IsKept h earlier d broken → Known → IsCertain h (reverse (later ++ d ∷ earlier)) (length earlier)
  kept_is_certain from said_so keep known = certain h later earlier d (none_keeps from said_so keep known)

  pub known_is_certain : StandsAtEnd broken → Known → IsCertain h (reverse (later ++ d ∷ earlier)) (length earlier)
  known_is_certain stands known = certain h later earlier d (no_list stands known)

  -- ---- what the end sent itself

  module _ (out : d.dir ≡ Out) where
    by_this : (n : Message) → Spells d.payload n → IsForOtherEnd n → Known
    by_this n s alone = inr (any_first GoesOnWith d earlier (record { out = out; message = n; says = s; alone = alone }))

    by_earlier : (n : Message) → IsForOtherEnd n → Passed Out n (transfer_of h earlier) → Known
    by_earlier n alone p = let (x, at, way, s) = passed_there Out n (transfer_of h earlier) p in inr (any_later GoesOnWith d earlier (any_at earlier x (transfer_there h earlier x at) (record { out = way; message = n; says = s; alone = alone })))

    -- the other end is known, or the request is another one
    abbrev KnownOr : RequestParts → Message → Type 0
    KnownOr asked n = Known ⊎ ((now : RequestParts) × (n ≡ Message.Request now) × (now ≢ asked))

    wrong_request : (e : End) (side : Side) (now : RequestParts) → h.named ≡ e → IsWrongKind e side (Message.Request now) → Known
    wrong_request Client Get now is wrong = absurd wrong
    wrong_request Client Put now is wrong = absurd wrong
    wrong_request Server side now is wrong = inl is

    wrong_error : (e : End) (side : Side) (code : ℕ) (text : List ℕ) → IsWrongKind e side (Message.Error code text) → ⊥
    wrong_error Client Get code text wrong = wrong
    wrong_error Client Put code text wrong = wrong
    wrong_error Server Get code text wrong = wrong
    wrong_error Server Put code text wrong = wrong

    known_or : (asked : RequestParts) (n : Message) → Spells d.payload n → (named_rule : Rule) → StandsOfItsOwn named_rule → MessageBreaks h asked (transfer_of h earlier) Out n named_rule → KnownOr asked n
    known_or asked (Message.Oack options) s named_rule stands b = inl (by_this (Message.Oack options) s tt)
    known_or asked (Message.Data k bytes) s named_rule stands b = inl (by_this (Message.Data k bytes) s tt)
    known_or asked (Message.Ack j) s named_rule stands b = inl (by_this (Message.Ack j) s tt)
    known_or asked (Message.Error code text) s named_rule stands (inl (is, wrong)) = absurd (wrong_error h.named asked.side code text wrong)
    known_or asked (Message.Error code text) s named_rule stands (inr (inl (is, b))) = absurd (subst StandsOfItsOwn is stands)
    known_or asked (Message.Error code text) s named_rule stands (inr (inr b)) = absurd b
    known_or asked (Message.Request now) s named_rule stands (inl (is, wrong)) = inl (wrong_request h.named asked.side now refl wrong)
    known_or asked (Message.Request now) s named_rule stands (inr (inl (is, b))) = absurd (subst StandsOfItsOwn is stands)
    known_or asked (Message.Request now) s rule.RequestChanged stands (inr (inr b)) = inr (now, refl, b)
    known_or asked (Message.Request now) s rule.RequestAfterStart stands (inr (inr (way, inl (k, bytes, p)))) = inl (by_earlier (Message.Data k bytes) tt p)
    known_or asked (Message.Request now) s rule.RequestAfterStart stands (inr (inr (way, inr (j, p)))) = inl (by_earlier (Message.Ack j) tt p)
    known_or asked (Message.Request now) s _ stands (inr (inr b)) = absurd b

    -- whatever division a fuller list has
    module _ (m : Meaning) (wire : List ℕ) (ids : TransferIds) (st : Stood h m wire ids earlier d) where
      no_packet : (label : Label) → HasLabel h m wire ids st.rest d label → (fault : PacketFault) → FirstFault d.payload fault → ⊥
      no_packet (Main deed) has fault bad = no_fault d.payload (message_of m wire (packet_of deed)) fault has.spells.1 bad.0
      no_packet Stray has fault bad = let both : In ≡ Out = sym has.dir ∙ out in absurd (cc)
      no_packet StrayAnswer has fault bad = no_fault d.payload (Message.Error 5 has.spells.0) fault has.spells.1.1 bad.0

      no_other_request : (asked now : RequestParts) → FirstAsked h earlier asked → Spells d.payload (Message.Request now) → now ≢ asked → ⊥
      no_other_request asked now first s differs =
          let (deed, label) = out_main h m wire ids st.rest d st.label st.has out (Message.Request now) s (λ text e. absurd (cc)) in
          let same = is_asked h m wire ids (packet_of deed) now (main_spells h m wire ids st.rest d st.label deed label st.has (Message.Request now) s) in
          differs (sym same ∙ sym (same_asked h earlier d m wire ids st asked first))

    stands_too : (named_rule : Rule) → StandsOfItsOwn named_rule → StandsAtEnd named_rule
    stands_too (rule.Malformed fault) stands = tt
    stands_too rule.WrongKind stands = tt
    stands_too rule.AfterError stands = tt
    stands_too rule.RequestChanged stands = tt
    stands_too rule.RequestAfterStart stands = tt
    stands_too (rule.Agreement broken) stands = tt
    stands_too rule.OackChanged stands = tt
    stands_too rule.OackAfterStart stands = tt
    stands_too (rule.Block e) stands = stands
    stands_too (rule.Port port) stands = absurd stands
    stands_too rule.NoRequest stands = absurd stands
    stands_too rule.ReplyChanged stands = absurd stands

    -- in a fuller list
    seen_at : (lossy : IsLawfulWithLosses h (reverse (d ∷ earlier))) → (m : Meaning) × (wire : List ℕ) × (ids : TransferIds) × Stood h m wire ids earlier d
    seen_at lossy =
        let (m, wire, seen) = lossy.lawful in
        (m, wire, seen.dressed.ids, in_fuller h later earlier d lossy m wire seen)

    pub own_is_certain : StandsOfItsOwn broken → IsCertain h (reverse (later ++ d ∷ earlier)) (length earlier)
    own_is_certain stands = certain h later earlier d (λ lossy. by lossy (broken_by h earlier d broken (stands_too broken stands) refused.broken.0)) where
      by : IsLawfulWithLosses h (reverse (d ∷ earlier)) → ((is_of_transfer (route_of h earlier d) ≡ true) × (fault : PacketFault) × (broken ≡ rule.Malformed fault) × FirstFault d.payload fault) ⊎ MessageBroken h earlier d broken → ⊥
      by lossy (inl (t, fault, e, bad)) = let (m, wire, ids, st) = seen_at lossy in no_packet m wire ids st st.label st.has fault bad
      by lossy (inr b) = elim (known_or b.asked b.message b.says.spells broken stands (subst (λ way. MessageBreaks h b.asked (transfer_of h earlier) way b.message broken) out b.breaks)) [
        | inl known ↦ no_list (stands_too broken stands) known lossy
        | inr (now, is, differs) ↦ let (m, wire, ids, st) = seen_at lossy in no_other_request m wire ids st b.asked now b.first (subst (Spells d.payload) is b.says.spells) differs
      ]
