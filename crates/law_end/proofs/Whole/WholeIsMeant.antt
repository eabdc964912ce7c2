-- A complete one-sided history is a whole transfer by the rules, of the same meaning.
use Rattle.std.proofs.Common.{◌≡◌, ◌⊎◌, ℕ, ◌+◌, ◌<◌, ◌≤◌, List, [], ◌∷◌, length, Option, Some, None, inl, inr, refl, sym, subst, ap, ◌∙◌, arith}
use Rattle.tftp_packet.specs.{Message, Side, Get, Put, End, Client, Server}
use Rattle.tftp_packet.specs.Hosts.{Datagram, Header}
use Rattle.law_model.specs.Model.{Meaning, request_of, NothingAgreed, blksize_of, block, block_count, Req, Oack, Data, Ack, Deed, History, Sent, Took, HasSent, HasTaken, heard, LetsStartOn, MayCome, IsOneSided, IsComplete}
use Rattle.law_model.specs.Model.Roles.{sender_of, receiver_of}
use Rattle.law_model.specs.Rules.{asks, first_of, transfer_of, HasPassed, IsSender, IsReceiver}
use Rattle.law_model.specs.{NoReply, Terms}
use Rattle.law_model.proofs.ModelLemmas.Members.{contains_cases, contains_none}
use Rattle.law_model.proofs.ModelLemmas.Stops.{heard_more}
use Rattle.law_end.specs.{Fits, says_of, Division, datagrams_of, view_in, Starts, AreRouted, FirstAsked, Agrees, Begins, NotAnswered, plain_terms, terms_after, IsAgreed, IsJoined, Meant, AreTermsAfter}
use Rattle.law_end.proofs.FirstBroken.FirstAnswered.{first_one, not_both}
use Rattle.law_model.proofs.RulesLemmas.Joined.{last_block}
use Rattle.law_end.proofs.Accord.PassedIsDone.{told_passed}
use Rattle.law_end.proofs.Accord.FirstReply.{sent_data}
use Rattle.law_end.proofs.Accord.FirstSpelled.{request_spelled}
use Rattle.law_end.proofs.Accord.KnownTerms.{state, named_is, side_is, numbers, plain_yet, begun_out, begun_in}
use Rattle.law_end.proofs.Completeness.NextDeed.{reply_now, wire_blocks}
use Rattle.law_end.proofs.Accord.Moments.{sent_below, acknowledged_was_sent}
use Rattle.law_end.proofs.Completeness.RunsPass.{ruled}
use Rattle.law_end.proofs.Division.Unasked.{none_view}

which_part : (e : End) (side : Side) → (e ≡ sender_of side) ⊎ (e ≡ receiver_of side)
which_part Client Get = inr refl
which_part Client Put = inl refl
which_part Server Get = inl refl
which_part Server Put = inr refl

-- what let a block come in was sent before an ERROR came
module _ (m : Meaning) (wire : List ℕ) (e : End) where
  more_heard : (side : Side) (d : Deed) (v : History) → LetsStartOn side m (heard v) → LetsStartOn side m (heard (d ∷ v))
  more_heard Get d v s = elim s [ inl x ↦ inl (x.0, heard_more d v (Sent Req) x.1) | inr x ↦ inr (x.0, heard_more d v (Sent (Ack 0)) x.1) ]
  more_heard Put d v s = elim s [ inl x ↦ inl (x.0, heard_more d v (Sent (Ack 0)) x.1) | inr x ↦ inr (x.0, heard_more d v (Sent Oack) x.1) ]

  took_heard : (k : ℕ) (v : History) → IsOneSided m wire e v → HasTaken v (Data k) → LetsStartOn m.side m (heard v)
  took_heard k [] own at = absurd (contains_none (Took (Data k)) at)
  took_heard k (Took p ∷ v) own at = elim (contains_cases (Took p) v (Took (Data k)) at) [
    | inl same ↦ let is : p ≡ Data k = cc in more_heard m.side (Took p) v (subst (MayCome m wire e v) is own.0).started
    | inr before ↦ more_heard m.side (Took p) v (took_heard k v own.1 before)
  ]
  took_heard k (Sent p ∷ v) own at = elim (contains_cases (Sent p) v (Took (Data k)) at) [
    | inl same ↦ absurd (cc)
    | inr before ↦ more_heard m.side (Sent p) v (took_heard k v own.1 before)
  ]

module _ (h : Header) (m : Meaning) (wire : List ℕ) (fits : Fits h.rollover m wire)
    (division : Division) (routed : AreRouted h m wire division) (own : IsOneSided m wire h.named (view_in division)) (starts : Starts h.named (view_in division)) (complete : IsComplete m wire h.named (view_in division)) where
  abbrev ds : List Datagram
  ds = datagrams_of division

  abbrev through : List Datagram
  through = transfer_of h ds

  abbrev n : ℕ
  n = block_count (blksize_of m) wire

  abbrev Ends : Type 0
  Ends = ((h.named ≡ sender_of m.side) × HasTaken (view_in division) (Ack n) × HasSent (view_in division) (Data n)) ⊎ ((h.named ≡ receiver_of m.side) × HasTaken (view_in division) (Data n))

  ends : Ends
  ends = elim (which_part h.named m.side) [
    | inl sends ↦ let ack = complete.was_told sends in inl (sends, ack, acknowledged_was_sent m wire h.named (view_in division) own n n ack (omega arith) (omega arith))
    | inr takes ↦ inr (takes, complete.took takes n (omega arith) (omega arith))
  ]

  plain : NotAnswered m.side through → NothingAgreed m
  plain = elim ends [
    | inl x ↦ plain_yet h m wire fits division routed own m.side (begun_out h m wire fits division routed own m.side refl (sent_data m wire h.named n (view_in division) own x.2))
    | inr x ↦ plain_yet h m wire fits division routed own m.side (begun_in h m wire fits division routed own m.side refl (took_heard m wire h.named n (view_in division) own x.1))
  ]

  there : (k : ℕ) → 1 ≤ k → k ≤ n → HasPassed (Message.Data k (block (blksize_of m) wire k)) through
  there k low up = elim ends [
    | inl x ↦ inr (told_passed h m wire division routed (Sent (Data k)) (sent_below m wire h.named (view_in division) own n k x.2 low up))
    | inr x ↦ inl (told_passed h m wire division routed (Took (Data k)) (complete.took x.0 k low up))
  ]

  pick : (t : Terms) × AreTermsAfter h (request_of m) through t
  pick = elim (reply_now h m wire fits division routed own) [
    | inl none ↦ (plain_terms h m.side NoReply, inl (none, refl))
    | inr some ↦ elim some [
      | inl x ↦ (terms_after h (request_of m) (Agrees m.agreed), inr (Agrees m.agreed, x.1, refl))
      | inr x ↦ (terms_after h (request_of m) Begins, inr (Begins, x.1, refl))
    ]
  ]

  agreed : IsAgreed (request_of m) through m.agreed
  agreed = elim (reply_now h m wire fits division routed own) [
    | inl none ↦ inr (plain none, λ options first. not_both m.side through (Agrees options) none first)
    | inr some ↦ elim some [
      | inl x ↦ inl x.1
      | inr x ↦ inr (x.0, λ options first. let e : Begins ≡ Agrees options = first_one m.side through Begins (Agrees options) x.1 first in cc)
    ]
  ]

  asked_by : (o : Option Datagram) → first_of (asks h) ds ≡ o → FirstAsked h ds (request_of m)
  asked_by (Some was) is = (was, is, request_spelled h m wire division routed was is)
  asked_by None is =
      let empty = none_view h (says_of m wire) division routed starts is in
      absurd (elim ends [
        | inl x ↦ contains_none (Took (Ack n)) (subst (λ v. HasTaken v (Ack n)) empty x.1)
        | inr x ↦ contains_none (Took (Data n)) (subst (λ v. HasTaken v (Data n)) empty x.1)
      ])

  asked : FirstAsked h ds (request_of m)
  asked = asked_by (first_of (asks h) ds) refl

  whole_by : (t : Terms) → (known : AreTermsAfter h (request_of m) through t) → Meant h ds m
  whole_by t known =
      let st = state h m wire fits division routed own t known in
      let nu = numbers h m wire fits division routed own plain t st in
      let part : (e : End) → (f : Side → End) → t.named ≡ f t.side → h.named ≡ f m.side = λ e f is.
      sym (named_is h m wire fits division routed own t st) ∙ is ∙ ap f (side_is h m wire fits division routed own t st) in
      let takes : IsReceiver t → h.named ≡ receiver_of m.side = part h.named receiver_of in
      let sends : IsSender t → h.named ≡ sender_of m.side = part h.named sender_of in
      let some : 0 < blksize_of m = subst (λ b. 0 < b) nu.blksize nu.some in
      let short : length (block (blksize_of m) wire n) < t.blksize = subst (λ b. length (block (blksize_of m) wire n) < b) (sym nu.blksize) (last_block (blksize_of m) n wire some refl) in
      record {
        ended = record {
          lawful = ruled h m wire fits division routed own starts;
          terms = t;
          known = (request_of m, asked, known);
          last = n;
          whole = record {
            known = inl (block (blksize_of m) wire n, there n (omega arith) (omega arith), short);
            front = λ is. record {
              below = λ k low up. (block (blksize_of m) wire k, told_passed h m wire division routed (Took (Data k)) (complete.took (takes is) k low up));
              next = λ b. let (up, same) = wire_blocks h m wire fits division routed own (n + 1) b.0 (inl b.1) in omega (arith, up);
            };
            acknowledged = λ is. told_passed h m wire division routed (Sent (Ack n)) (complete.acknowledged (takes is));
            was_told = λ is. told_passed h m wire division routed (Took (Ack n)) (complete.was_told (sends is));
          };
        };
        asked = asked;
        agreed = agreed;
        wire = wire;
        joined = subst (λ b. IsJoined b through n wire) (sym nu.blksize) (record { count = refl; blocks = there });
        file = fits.reads;
      }

  -- what the rules mean is the meaning of the run
  pub meant : Meant h ds m
  meant = let (t, known) = pick in whole_by t known
