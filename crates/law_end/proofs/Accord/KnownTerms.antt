-- What one end did tells what is known of the transfer: who has which part, the numbers, and that blocks may begin.
use Rattle.std.proofs.Common.{◌≡◌, ◌⊎◌, ℕ, ◌<◌, ◌≤◌, List, [], ◌∷◌, Contains, length, Some, None, codes, inl, inr, refl, sym, subst, ap, ◌∙◌, arith}
use Rattle.std.specs.FinMap as map
use Rattle.tftp_packet.specs.{Message, Side, Get, Put}
use Rattle.tftp_packet.specs.Rounds.{greatest_of}
use Rattle.tftp_packet.specs.Hosts.{Datagram, Header}
use Rattle.tftp_packet.specs.{Dir, In, Out}
use Rattle.tftp_nego.specs.{AreInRange}
use Rattle.law_model.specs.Model.{Meaning, request_of, SomethingAgreed, NothingAgreed, blksize_of, windowsize_of, block, block_count, Oack, Ack, Deed, Sent, Took, History, HasSent, HasTaken, message_of, IsStartedOn, LetsStartOn, IsOneSided, heard}
use Rattle.law_model.specs.Model.Roles.{sender_of, receiver_of}
use Rattle.law_model.specs.Rules.{transfer_of, Passed, HasPassed, IsSender, IsReceiver, BlocksWait, usable}
use Rattle.law_model.specs.{NoReply, Plain, Oacked, Terms}
use Rattle.law_model.proofs.ModelLemmas.Defaults.{default_blksize, default_windowsize}
use Rattle.tftp_nego.proofs.Numbers.{map_in_range}
use Rattle.law_end.specs.{Fits, Division, datagrams_of, view_in, dir_of, packet_of, AreRouted, Agrees, Begins, NotAnswered, FirstAnswer, plain_terms, terms_after, AreTermsAfter}
use Rattle.law_end.proofs.FirstBroken.FirstAnswered.{first_one, not_both as answered_not}
use Rattle.law_end.proofs.Soundness.MadeMeaning.{answer_spelled, from_eight, size_is}
use Rattle.law_end.proofs.Accord.PassedIsDone.{Told as Heard, usable_in, usable_passed, used_passed, passed_told, told_passed, data_only}
use Rattle.law_end.proofs.Accord.FirstReply.{used_start, no_oack, Told, data_out, data_in, reply_is}
use Rattle.law_end.proofs.Accord.FirstSpelled.{numbered}

module _ (h : Header) (m : Meaning) (wire : List ℕ) (fits : Fits h.rollover m wire)
    (division : Division) (routed : AreRouted h m wire division) (own : IsOneSided m wire h.named (view_in division)) where
  abbrev through : List Datagram
  through = transfer_of h (datagrams_of division)

  abbrev view : History
  view = view_in division

  -- what the other end can have used
  abbrev used : List Datagram
  used = usable through

  pub used_any : (x : Message) → HasPassed x used → HasPassed x through
  used_any x p = elim p [ inl came ↦ inl (usable_passed In x through came) | inr went ↦ inr (usable_passed Out x through went) ]

  pub passed_by : (deed : Deed) → Contains view deed → Passed (dir_of deed) (message_of m wire (packet_of deed)) through
  passed_by deed at = told_passed h m wire division routed deed at

  abbrev pub State : Terms → Type 0
  State t = (NotAnswered m.side through × (t ≡ plain_terms h m.side NoReply))
      ⊎ ((SomethingAgreed m × FirstAnswer m.side through (Agrees m.agreed) × (t ≡ terms_after h (request_of m) (Agrees m.agreed)))
      ⊎ (NothingAgreed m × (t ≡ plain_terms h m.side Plain)))

  -- what is known of the reply says what is agreed
  pub state : (t : Terms) → AreTermsAfter h (request_of m) through t → State t
  state t (inl none) = inl none
  state t (inr (a, first, is)) = elim (reply_is h m wire division routed own) [
    | inl none ↦ absurd (answered_not m.side through a none first)
    | inr some ↦ elim some [
      | inl x ↦ inr (inl (x.0, x.1, is ∙ ap (terms_after h (request_of m)) (first_one m.side through a (Agrees m.agreed) first x.1)))
      | inr x ↦ inr (inr (x.0, is ∙ ap (terms_after h (request_of m)) (first_one m.side through a Begins first x.1)))
    ]
  ]

  pub named_is : (t : Terms) → State t → t.named ≡ h.named
  named_is t (inl x) = ap (λ (u : Terms). u.named) x.1
  named_is t (inr (inl x)) = ap (λ (u : Terms). u.named) x.2
  named_is t (inr (inr x)) = ap (λ (u : Terms). u.named) x.1

  pub side_is : (t : Terms) → State t → t.side ≡ m.side
  side_is t (inl x) = ap (λ (u : Terms). u.side) x.1
  side_is t (inr (inl x)) = ap (λ (u : Terms). u.side) x.2
  side_is t (inr (inr x)) = ap (λ (u : Terms). u.side) x.1

  pub sends : (t : Terms) → State t → h.named ≡ sender_of m.side → IsSender t
  sends t s is = named_is t s ∙ is ∙ ap sender_of (sym (side_is t s))

  pub takes : (t : Terms) → State t → h.named ≡ receiver_of m.side → IsReceiver t
  takes t s is = named_is t s ∙ is ∙ ap receiver_of (sym (side_is t s))

  -- the numbers of the terms are those of the meaning
  pub record Numbers (t : Terms) : Type 0 where
    pub some : 0 < t.blksize
    pub blksize : t.blksize ≡ blksize_of m
    pub windowsize : t.windowsize ≡ windowsize_of m
    pub greatest : t.greatest ≡ greatest_of h.rollover
    pub size : (size : ℕ) → t.size ≡ Some size → length wire ≡ size

  plain_numbers : (t : Terms) → NothingAgreed m → t.blksize ≡ 512 → t.windowsize ≡ 1 → t.greatest ≡ greatest_of h.rollover → t.size ≡ None → Numbers t
  plain_numbers t nothing b w g none = record {
    some = omega (arith, b);
    blksize = b ∙ sym (default_blksize m nothing);
    windowsize = w ∙ sym (default_windowsize m nothing);
    greatest = g;
    size = λ size is. let both : None ≡ Some size = sym none ∙ is in absurd (cc);
  }

  -- so the numbers of the terms are known
  pub numbers : (NotAnswered m.side through → NothingAgreed m) → (t : Terms) → State t → Numbers t
  numbers plain t (inl x) = plain_numbers t (plain x.0) (ap (λ (u : Terms). u.blksize) x.1) (ap (λ (u : Terms). u.windowsize) x.1) (ap (λ (u : Terms). u.greatest) x.1) (ap (λ (u : Terms). u.size) x.1)
  numbers plain t (inr (inr x)) = plain_numbers t x.0 (ap (λ (u : Terms). u.blksize) x.1) (ap (λ (u : Terms). u.windowsize) x.1) (ap (λ (u : Terms). u.greatest) x.1) (ap (λ (u : Terms). u.size) x.1)
  numbers plain t (inr (inl (something, first, is))) =
      let (d, s) = answer_spelled m.side through m.agreed first in
      let eight : 8 ≤ blksize_of m = from_eight (map.get m.agreed (codes "blksize")) (subst AreInRange (sym s.1.map) (map_in_range s.1.pairs) (codes "blksize")) in
      let b : t.blksize ≡ blksize_of m = ap (λ (u : Terms). u.blksize) is in
      record {
        some = omega (arith, b, eight);
        blksize = b;
        windowsize = ap (λ (u : Terms). u.windowsize) is;
        greatest = ap (λ (u : Terms). u.greatest) is;
        size = λ size at. let (octet, get) = size_is m.mode (map.get m.agreed (codes "tsize")) size (sym (ap (λ (u : Terms). u.size) is) ∙ at) in fits.size octet size get;
      }

  -- what has passed as blocks
  pub blocks_are : (k : ℕ) (bytes : List ℕ) → HasPassed (Message.Data k bytes) through → (1 ≤ k) × (k ≤ block_count (blksize_of m) wire) × (bytes ≡ block (blksize_of m) wire k)
  blocks_are k bytes p = elim p [ inl came ↦ by In (passed_told h m wire division routed In (Message.Data k bytes) came) | inr went ↦ by Out (passed_told h m wire division routed Out (Message.Data k bytes) went) ]
    where
      by : (dir : Dir) → Heard m wire view dir (Message.Data k bytes) → (1 ≤ k) × (k ≤ block_count (blksize_of m) wire) × (bytes ≡ block (blksize_of m) wire k)
      by dir (deed, at, way, says) =
          let (is, text) = data_only h m wire (packet_of deed) k bytes says in
          let (low, up) = numbered h m wire view own deed at k is in
          (low, up, text)

  -- ---- blocks: what lets them begin

  abbrev pub Begun : Side → Type 0
  Begun Get = NothingAgreed m ⊎ (SomethingAgreed m × HasPassed (Message.Ack 0) used × HasPassed (Message.Oack m.agreed) through)
  Begun Put = (NothingAgreed m × HasPassed (Message.Ack 0) through) ⊎ (SomethingAgreed m × HasPassed (Message.Oack m.agreed) through)

  oack_passed : HasSent view Oack ⊎ HasTaken view Oack → HasPassed (Message.Oack m.agreed) through
  oack_passed (inl sent) = inr (passed_by (Sent Oack) sent)
  oack_passed (inr taken) = inl (passed_by (Took Oack) taken)

  begun_get : HasPassed (Message.Ack 0) used → SomethingAgreed m → Told m wire h.named view → Begun Get
  begun_get ack something told = elim told [ inl nothing ↦ inl nothing | inr x ↦ inr (something, ack, oack_passed x.1) ]

  pub begun_out : (side : Side) → m.side ≡ side → IsStartedOn side m view → Begun side
  begun_out Get get s = elim s [
    | inl x ↦ inl x.0
    | inr x ↦ begun_get (inl (usable_in (Message.Ack 0) through (passed_by (Took (Ack 0)) x.1))) x.0 (data_out m wire h.named get view own (subst (λ side. IsStartedOn side m view) (sym get) (inr x)))
  ]
  begun_out Put put s = elim s [ inl x ↦ inl (x.0, inl (passed_by (Took (Ack 0)) x.1)) | inr x ↦ inr (x.0, inl (passed_by (Took Oack) x.1)) ]

  pub begun_in : (side : Side) → m.side ≡ side → LetsStartOn side m (heard view) → Begun side
  begun_in Get get s = elim s [
    | inl x ↦ inl x.0
    | inr x ↦ begun_get (inr (used_passed h m wire division routed (Ack 0) x.1)) x.0 (data_in m wire h.named get view own (used_start m wire h.named m.side view (subst (λ side. LetsStartOn side m (heard view)) (sym get) (inr x))))
  ]
  begun_in Put put s = elim s [
    | inl x ↦ inl (x.0, used_any (Message.Ack 0) (inr (used_passed h m wire division routed (Ack 0) x.1)))
    | inr x ↦ inr (x.0, used_any (Message.Oack m.agreed) (inr (used_passed h m wire division routed Oack x.1)))
  ]

  pub no_oack_yet : (side : Side) → NotAnswered side through → HasPassed (Message.Oack m.agreed) through → ⊥
  no_oack_yet side none (inl p) = no_oack side In m.agreed through none p
  no_oack_yet side none (inr p) = no_oack side Out m.agreed through none p

  -- blocks before any answer say that nothing is agreed
  pub plain_yet : (side : Side) → Begun side → NotAnswered side through → NothingAgreed m
  plain_yet Get b none = elim b [ inl nothing ↦ nothing | inr x ↦ absurd (no_oack_yet Get none x.2) ]
  plain_yet Put b none = elim b [ inl x ↦ x.0 | inr x ↦ absurd (no_oack_yet Put none x.1) ]

  no_ack_yet : (dir : Dir) (passed : List Datagram) → NotAnswered Put passed → Passed dir (Message.Ack 0) passed → ⊥
  no_ack_yet dir [] none p = p
  no_ack_yet dir (d ∷ passed) none p = elim p [ inl now ↦ none.0 Begins (Message.Ack 0, now.1, refl) | inr before ↦ no_ack_yet dir passed none.1 before ]

  wait_none : (side : Side) → Begun side → NotAnswered side through → BlocksWait side NoReply used → ⊥
  wait_none Get b none wait = wait
  wait_none Put b none wait = elim b [
    | inl x ↦ elim x.1 [ inl p ↦ no_ack_yet In through none p | inr p ↦ no_ack_yet Out through none p ]
    | inr x ↦ no_oack_yet Put none x.1
  ]

  wait_oacked : (side : Side) → Begun side → SomethingAgreed m → BlocksWait side Oacked used → ⊥
  wait_oacked Get b something wait = elim b [ inl nothing ↦ something nothing | inr x ↦ wait x.1 ]
  wait_oacked Put b something wait = wait

  wait_plain : (side : Side) → BlocksWait side Plain used → ⊥
  wait_plain Get wait = wait
  wait_plain Put wait = wait

  pub not_waiting : Begun m.side → (t : Terms) → State t → BlocksWait t.side t.reply used → ⊥
  not_waiting b t (inl x) wait = wait_none m.side b x.0 (subst (λ (u : Terms). BlocksWait u.side u.reply used) x.1 wait)
  not_waiting b t (inr (inl x)) wait = wait_oacked m.side b x.0 (subst (λ (u : Terms). BlocksWait u.side u.reply used) x.2 wait)
  not_waiting b t (inr (inr x)) wait = wait_plain m.side (subst (λ (u : Terms). BlocksWait u.side u.reply used) x.1 wait)
