-- From one side's history to the rules: after the datagrams of a division that follows the routes, the next deed breaks
-- no rule.
use Rattle.std.proofs.Common.{◌≡◌, ◌⊎◌, ℕ, ◌+◌, ◌-◌, ◌<◌, ◌≤◌, List, ◌∷◌, inl, inr, refl, sym, subst, ◌∙◌, arith}
use Rattle.tftp_packet.specs.{Message, Side, Get, Put, End, Client, Server}
use Rattle.tftp_packet.specs.Rounds.{greatest_of}
use Rattle.tftp_packet.specs.Hosts.{Datagram, Header}
use Rattle.tftp_packet.specs.{Dir, In, Out}
use Rattle.tftp_nego.specs.{NegoFault}
use Rattle.law_model.specs.Model.{Meaning, request_of, SomethingAgreed, NothingAgreed, blksize_of, block, block_count, MachinePacket, Req, Oack, Data, Ack, Deed, Sent, Took, History, HasSent, message_of, MayAckZeroOn, MaySend, MaySendReq, MaySendData, MaySendAck, Error, LetsAckZeroOn, MayCome, MayComeData, MayComeAck, IsOneSided, heard}
use Rattle.law_model.specs.Model.Roles.{sender_of, receiver_of}
use Rattle.law_model.specs.Rules.{author_of, transfer_of, Passed, HasPassed, AckZeroWaits, BlockBreaks, AckBreaks, EndBroken, usable}
use Rattle.law_model.specs.{EndRule, NoReply, Plain, Oacked, Terms}
use Rattle.law_end.specs.{Fits, Division, datagrams_of, view_in, dir_of, packet_of, AreRouted, Answer, Agrees, Begins, NotAnswered, FirstAnswer, IsWrongKind, RequestBreaks, OackBreaks, TermsBreak, MessageBreaks, Rule}
use Rattle.tftp_nego.proofs.Tested.{agreement_kept, no_fault}
use Rattle.law_end.proofs.FirstBroken.FirstAnswered.{first_one, not_both as answered_not}
use Rattle.law_end.proofs.Accord.BlockLengths.{not_beyond, not_misfit, not_changed}
use Rattle.law_end.proofs.Accord.PassedIsDone.{usable_in, used_passed, block_sent, ack_went, sent_block, not_both, ack_not_ahead_in, ack_not_ahead_out, within_window_in}
use Rattle.law_end.proofs.Accord.FirstReply.{reply_is}
use Rattle.law_end.proofs.Accord.WhoSends.{request_kind, oack_kind, data_kind_out, data_kind_in, ack_kind_out, ack_kind_in}
use Rattle.law_end.proofs.Accord.AfterError.{stays_silent}
use Rattle.law_end.proofs.Accord.KnownTerms.{used_any, passed_by, State, state, sends, takes, Numbers, numbers, blocks_are, Begun, begun_out, begun_in, no_oack_yet, plain_yet, not_waiting}

module _ (h : Header) (m : Meaning) (wire : List ℕ) (fits : Fits h.rollover m wire)
    (division : Division) (routed : AreRouted h m wire division) (own : IsOneSided m wire h.named (view_in division)) where
  abbrev through : List Datagram
  through = transfer_of h (datagrams_of division)

  abbrev view : History
  view = view_in division

  -- what the other end can have used
  abbrev used : List Datagram
  used = usable through

  -- the rules that both ends keep alike
  module _ (t : Terms) (n : Numbers h m wire fits division routed own t) where
    -- no block of the wire is above the greatest
    pub few : block_count t.blksize wire ≤ t.greatest
    few = subst (λ g. block_count t.blksize wire ≤ g) (sym n.greatest)
        (subst (λ b. block_count b wire ≤ greatest_of h.rollover) (sym n.blksize) fits.numbered)

    -- what has passed as a block is one, by the block size of the terms
    pub as_blocks : (k : ℕ) (bytes : List ℕ) → HasPassed (Message.Data k bytes) through → (1 ≤ k) × (k ≤ block_count t.blksize wire) × (bytes ≡ block t.blksize wire k)
    as_blocks k bytes p = subst (λ b. (1 ≤ k) × (k ≤ block_count b wire) × (bytes ≡ block b wire k)) (sym n.blksize) (blocks_are h m wire fits division routed own k bytes p)

    at_size : (k : ℕ) (rule : EndRule) → BlockBreaks t through k (block (blksize_of m) wire k) rule → BlockBreaks t through k (block t.blksize wire k) rule
    at_size k rule breaks = subst (λ b. BlockBreaks t through k (block b wire k) rule) (sym n.blksize) breaks

    beyond : (k : ℕ) → 1 ≤ k → k ≤ block_count (blksize_of m) wire → BlockBreaks t through k (block (blksize_of m) wire k) EndRule.BeyondBlock65535 → ⊥
    beyond k low up breaks = not_beyond wire t n.some few n.size through as_blocks k low (subst (λ b. k ≤ block_count b wire) (sym n.blksize) up) (at_size k EndRule.BeyondBlock65535 breaks)

    misfit : (k : ℕ) → 1 ≤ k → k ≤ block_count (blksize_of m) wire → BlockBreaks t through k (block (blksize_of m) wire k) EndRule.BlockLength → ⊥
    misfit k low up breaks = not_misfit wire t n.some few n.size through as_blocks k low (subst (λ b. k ≤ block_count b wire) (sym n.blksize) up) (at_size k EndRule.BlockLength breaks)

    changed : (k : ℕ) → BlockBreaks t through k (block (blksize_of m) wire k) EndRule.BlockChanged → ⊥
    changed k breaks = not_changed wire t n.some few n.size through as_blocks k (at_size k EndRule.BlockChanged breaks)

  -- a block that goes out
  data_sent : (k : ℕ) → MaySendData m wire h.named view k → (t : Terms) → State h m wire fits division routed own t → (rule : EndRule) → BlockBreaks t through k (block (blksize_of m) wire k) rule → ⊥
  data_sent k may t s = by where
    begun : Begun h m wire fits division routed own m.side
    begun = begun_out h m wire fits division routed own m.side refl may.started

    n : Numbers h m wire fits division routed own t
    n = numbers h m wire fits division routed own (plain_yet h m wire fits division routed own m.side begun) t s

    top_near : (top : ℕ) → ((j : ℕ) → HasSent view (Data j) → j ≤ top) → top + 1 < k → ⊥
    top_near top most skipped = elim may.in_order [
      | inl one ↦ omega (arith, one, skipped)
      | inr before ↦ let low = most (k - 1) before in omega (arith, skipped, low)
    ]

    by : (rule : EndRule) → BlockBreaks t through k (block (blksize_of m) wire k) rule → ⊥
    by EndRule.NotStarted breaks = not_waiting h m wire fits division routed own begun t s breaks
    by EndRule.BlockZero breaks = let low = may.from_one in omega (arith, breaks)
    by EndRule.BeyondBlock65535 breaks = beyond t n k may.from_one may.in_wire breaks
    by EndRule.BlockLength breaks = misfit t n k may.from_one may.in_wire breaks
    by EndRule.WindowOverrun (acked, inr receives, past) = not_both h m wire division routed t (sends h m wire fits division routed own t s may.sender) receives.0
    by EndRule.WindowOverrun (acked, inl (sender, most), past) =
        let w = may.in_window in
        let near = w.3 in
        let size = n.windowsize in
        let low : w.0 ≤ acked = elim w.1 [ inl none ↦ omega (arith, none) | inr at ↦ most.most w.0 (usable_in (Message.Ack w.0) through (passed_by h m wire fits division routed own (Took (Ack w.0)) at)) ] in
        omega (arith, near, size, low, past)
    by EndRule.BlockSkipped (sender, (top, most, skipped)) = top_near top (λ j at. most.most j (sent_block h m wire division routed j at)) skipped
    by EndRule.GoneBack (sender, one, (top, most, back)) = elim most.member [
      | inl none ↦ omega (arith, none, back)
      | inr p ↦ let higher = may.in_step (sym n.windowsize ∙ one) top (block_sent h m wire division routed top p.0 p.1) in omega (arith, higher, back)
    ]
    by EndRule.BlockChanged breaks = changed t n k breaks
    by EndRule.AckAhead breaks = breaks
    by EndRule.AckZero breaks = breaks

  -- a block that comes in
  data_came : (k : ℕ) → MayComeData m wire h.named (heard view) k → (t : Terms) → State h m wire fits division routed own t → (rule : EndRule) → BlockBreaks t through k (block (blksize_of m) wire k) rule → ⊥
  data_came k may t s = by where
    begun : Begun h m wire fits division routed own m.side
    begun = begun_in h m wire fits division routed own m.side refl may.started

    n : Numbers h m wire fits division routed own t
    n = numbers h m wire fits division routed own (plain_yet h m wire fits division routed own m.side begun) t s

    by : (rule : EndRule) → BlockBreaks t through k (block (blksize_of m) wire k) rule → ⊥
    by EndRule.NotStarted breaks = not_waiting h m wire fits division routed own begun t s breaks
    by EndRule.BlockZero breaks = let low = may.from_one in omega (arith, breaks)
    by EndRule.BeyondBlock65535 breaks = beyond t n k may.from_one may.in_wire breaks
    by EndRule.BlockLength breaks = misfit t n k may.from_one may.in_wire breaks
    by EndRule.WindowOverrun breaks = within_window_in h m wire division routed t k (block (blksize_of m) wire k) (takes h m wire fits division routed own t s may.receiver) n.windowsize may breaks
    by EndRule.BlockSkipped breaks = not_both h m wire division routed t breaks.0 (takes h m wire fits division routed own t s may.receiver)
    by EndRule.GoneBack breaks = not_both h m wire division routed t breaks.0 (takes h m wire fits division routed own t s may.receiver)
    by EndRule.BlockChanged breaks = changed t n k breaks
    by EndRule.AckAhead breaks = breaks
    by EndRule.AckZero breaks = breaks

  -- ---- ACKs

  abbrev Answering : Side → Type 0
  Answering Get = SomethingAgreed m × HasPassed (Message.Oack m.agreed) through
  Answering Put = NothingAgreed m ⊎ (SomethingAgreed m × (k : ℕ) × (bytes : List ℕ) × HasPassed (Message.Data k bytes) used)

  answering_out : (side : Side) → MayAckZeroOn side m view → Answering side
  answering_out Get z = (z.0, inl (passed_by h m wire fits division routed own (Took Oack) z.1))
  answering_out Put z = elim z [ inl x ↦ inl x.0 | inr x ↦ inr (x.0, x.1, block (blksize_of m) wire x.1, inl (usable_in (Message.Data x.1 (block (blksize_of m) wire x.1)) through (passed_by h m wire fits division routed own (Took (Data x.1)) x.2))) ]

  answering_in : (side : Side) → LetsAckZeroOn side m (heard view) → Answering side
  answering_in Get z = (z.0, used_any h m wire fits division routed own (Message.Oack m.agreed) (inr (used_passed h m wire division routed Oack z.1)))
  answering_in Put z = elim z [ inl x ↦ inl x.0 | inr x ↦ inr (x.0, x.1, block (blksize_of m) wire x.1, inr (used_passed h m wire division routed (Data x.1) x.2)) ]

  zero_none : (side : Side) → Answering side → NotAnswered side through → AckZeroWaits side NoReply used → ⊥
  zero_none Get a none wait = no_oack_yet h m wire fits division routed own Get none a.1
  zero_none Put a none wait = wait

  zero_oacked : (side : Side) → Answering side → SomethingAgreed m → AckZeroWaits side Oacked used → ⊥
  zero_oacked Get a something wait = wait
  zero_oacked Put a something wait = elim a [ inl nothing ↦ something nothing | inr x ↦ wait x.1 x.2 x.3 ]

  zero_plain : (side : Side) → Answering side → NothingAgreed m → AckZeroWaits side Plain used → ⊥
  zero_plain Get a nothing wait = a.0 nothing
  zero_plain Put a nothing wait = wait

  zero_answers : Answering m.side → (t : Terms) → State h m wire fits division routed own t → AckZeroWaits t.side t.reply used → ⊥
  zero_answers a t (inl x) wait = zero_none m.side a x.0 (subst (λ (u : Terms). AckZeroWaits u.side u.reply used) x.1 wait)
  zero_answers a t (inr (inl x)) wait = zero_oacked m.side a x.0 (subst (λ (u : Terms). AckZeroWaits u.side u.reply used) x.2 wait)
  zero_answers a t (inr (inr x)) wait = zero_plain m.side a x.0 (subst (λ (u : Terms). AckZeroWaits u.side u.reply used) x.1 wait)

  ack_sent : (j : ℕ) → MaySendAck m h.named view j → (t : Terms) → State h m wire fits division routed own t → (rule : EndRule) → AckBreaks t through j rule → ⊥
  ack_sent j may t s EndRule.AckAhead breaks = ack_not_ahead_out h m wire division routed t j (takes h m wire fits division routed own t s may.receiver) may breaks
  ack_sent j may t s EndRule.AckZero breaks = zero_answers (answering_out m.side (may.zero breaks.0)) t s breaks.1
  ack_sent j may t s _ breaks = breaks

  ack_came : (j : ℕ) → MayComeAck m h.named (heard view) j → (t : Terms) → State h m wire fits division routed own t → (rule : EndRule) → AckBreaks t through j rule → ⊥
  ack_came j may t s EndRule.AckAhead breaks = ack_not_ahead_in h m wire division routed t j (sends h m wire fits division routed own t s may.sender) may breaks
  ack_came j may t s EndRule.AckZero breaks = zero_answers (answering_in m.side (may.zero breaks.0)) t s breaks.1
  ack_came j may t s _ breaks = breaks

  -- ---- OACKs

  oack_keeps : (dir : Dir) → SomethingAgreed m → (dir ≡ Out → m.side ≡ Get → (k : ℕ) (bytes : List ℕ) → Passed Out (Message.Data k bytes) through → ⊥) → (rule : Rule) → OackBreaks h.rollover (request_of m) through dir m.agreed rule → ⊥
  oack_keeps dir something early rule = by rule where
    first_is : (a : Answer) → FirstAnswer m.side through a → a ≡ Agrees m.agreed
    first_is a first = elim (reply_is h m wire division routed own) [
      | inl none ↦ absurd (answered_not m.side through a none first)
      | inr some ↦ elim some [ inl x ↦ first_one m.side through a (Agrees m.agreed) first x.1 | inr x ↦ absurd (something x.0) ]
    ]

    by : (rule : Rule) → OackBreaks h.rollover (request_of m) through dir m.agreed rule → ⊥
    by Rule.ReplyChanged b = let e = first_is Begins b in cc
    by Rule.OackChanged (was, first, differs) = let e = first_is (Agrees was) first in differs (cc)
    by Rule.OackAfterStart (out, get, (k, bytes, p)) = early out get k bytes p
    by (Rule.Agreement broken) b = agreement_kept (request_of m) m.agreed something fits.may_agree.asked broken b.1
    by (Rule.Block EndRule.BeyondBlock65535) b = no_fault h.rollover (request_of m) m.agreed something fits.may_agree NegoFault.BeyondBlock65535 b.1
    by rule b = b.1

  by_author : (dir : Dir) (e : End) (x : Message) → h.named ≡ e → IsWrongKind (author_of h.named dir) m.side x → IsWrongKind (author_of e dir) m.side x
  by_author dir e x is wrong = subst (λ n. IsWrongKind (author_of n dir) m.side x) is wrong

  -- ---- the next deed keeps the rules of its kind

  request_keeps : (dir : Dir) → (dir ≡ Out → MaySendReq h.named view) → (rule : Rule) → RequestBreaks (request_of m) through dir (request_of m) rule → ⊥
  request_keeps dir may Rule.RequestChanged b = b refl
  request_keeps dir may Rule.RequestAfterStart (out, went) = elim went [
    | inl x ↦ (may out).no_data x.0 (block_sent h m wire division routed x.0 x.1 x.2)
    | inr x ↦ (may out).no_ack x.0 (ack_sent_of x.0 x.1)
  ]
    where
      ack_sent_of : (j : ℕ) → Passed Out (Message.Ack j) through → HasSent view (Ack j)
      ack_sent_of j p = ack_went h m wire division routed j p
  request_keeps dir may rule b = b

  terms_keep : (x : Message) → ((t : Terms) → State h m wire fits division routed own t → (rule : EndRule) → EndBroken t through x rule → ⊥) → (rule : Rule) → TermsBreak h (request_of m) through x rule → ⊥
  terms_keep x keeps rule (e, is, t, known, breaks) = keeps t (state h m wire fits division routed own t known) e breaks

  abbrev Keeps : Dir → MachinePacket → Type 0
  Keeps dir p = (rule : Rule) → MessageBreaks h (request_of m) through dir (message_of m wire p) rule → ⊥

  error_kind : (dir : Dir) (e : End) (side : Side) (code : ℕ) (text : List ℕ) → IsWrongKind (author_of e dir) side (Message.Error code text) → ⊥
  error_kind dir e side code text wrong = error_by (author_of e dir) side wrong where
    error_by : (e : End) (side : Side) → IsWrongKind e side (Message.Error code text) → ⊥
    error_by Client Get wrong = wrong
    error_by Client Put wrong = wrong
    error_by Server Get wrong = wrong
    error_by Server Put wrong = wrong

  sent_keeps : (p : MachinePacket) → MaySend m wire h.named view p → Keeps Out p
  sent_keeps Req may rule (inl wrong) = request_kind m.side (request_of m) (by_author Out Client (message_of m wire Req) may.client wrong.1)
  sent_keeps Req may rule (inr (inr b)) = request_keeps Out (λ out. may) rule b
  sent_keeps Oack may rule (inl wrong) = oack_kind m.side m.agreed (by_author Out Server (message_of m wire Oack) may.server wrong.1)
  sent_keeps Oack may rule (inr (inr b)) = oack_keeps Out may.agreed (λ out get k bytes p. may.no_data get k (block_sent h m wire division routed k bytes p)) rule b
  sent_keeps (Data k) may rule (inl wrong) = data_kind_out m.side k (block (blksize_of m) wire k) (by_author Out (sender_of m.side) (message_of m wire (Data k)) may.sender wrong.1)
  sent_keeps (Data k) may rule (inr (inr b)) = terms_keep (message_of m wire (Data k)) (data_sent k may) rule b
  sent_keeps (Ack j) may rule (inl wrong) = ack_kind_out m.side j (by_author Out (receiver_of m.side) (Message.Ack j) may.receiver wrong.1)
  sent_keeps (Ack j) may rule (inr (inr b)) = terms_keep (Message.Ack j) (ack_sent j may) rule b
  sent_keeps (Error code text) may rule (inl wrong) = error_kind Out h.named m.side code text wrong.1
  sent_keeps (Error code text) may rule (inr (inr b)) = b
  sent_keeps p may rule (inr (inl b)) = stays_silent h m wire division routed (Sent p) (may, own) b.1

  came_keeps : (p : MachinePacket) → MayCome m wire h.named view p → Keeps In p
  came_keeps Req may rule (inl wrong) = request_kind m.side (request_of m) (by_author In Server (message_of m wire Req) may wrong.1)
  came_keeps Req may rule (inr (inr b)) = request_keeps In (λ out. absurd (cc)) rule b
  came_keeps Oack may rule (inl wrong) = oack_kind m.side m.agreed (by_author In Client (message_of m wire Oack) may.client wrong.1)
  came_keeps Oack may rule (inr (inr b)) = oack_keeps In may.agreed (λ out. absurd (cc)) rule b
  came_keeps (Data k) may rule (inl wrong) = data_kind_in m.side k (block (blksize_of m) wire k) (by_author In (receiver_of m.side) (message_of m wire (Data k)) may.receiver wrong.1)
  came_keeps (Data k) may rule (inr (inr b)) = terms_keep (message_of m wire (Data k)) (data_came k may) rule b
  came_keeps (Ack j) may rule (inl wrong) = ack_kind_in m.side j (by_author In (sender_of m.side) (Message.Ack j) may.sender wrong.1)
  came_keeps (Ack j) may rule (inr (inr b)) = terms_keep (Message.Ack j) (ack_came j may) rule b
  came_keeps (Error code text) may rule (inl wrong) = error_kind In h.named m.side code text wrong.1
  came_keeps (Error code text) may rule (inr (inr b)) = b
  came_keeps p may rule (inr (inl b)) = stays_silent h m wire division routed (Took p) (may, own) b.1

  -- the next deed breaks no rule of its kind, whichever it is
  pub deed_keeps : (deed : Deed) → IsOneSided m wire h.named (deed ∷ view) → Keeps (dir_of deed) (packet_of deed)
  deed_keeps (Sent p) own = sent_keeps p own.0
  deed_keeps (Took p) own = came_keeps p own.0

  pub reply_now : NotAnswered m.side through ⊎ ((SomethingAgreed m × FirstAnswer m.side through (Agrees m.agreed)) ⊎ (NothingAgreed m × FirstAnswer m.side through Begins))
  reply_now = reply_is h m wire division routed own

  -- the blocks that passed are those of the wire
  pub wire_blocks : (k : ℕ) (bytes : List ℕ) → HasPassed (Message.Data k bytes) through → (k ≤ block_count (blksize_of m) wire) × (bytes ≡ block (blksize_of m) wire k)
  wire_blocks k bytes p = let (low, up, is) = blocks_are h m wire fits division routed own k bytes p in (up, is)
