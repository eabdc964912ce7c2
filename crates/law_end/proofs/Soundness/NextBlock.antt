-- A block that breaks no rule is one that the end may send, or that may come to it.
use Rattle.std.proofs.Common.{◌≡◌, ◌⊎◌, ℕ, ◌+◌, ◌-◌, ◌≤◌, List, ◌∷◌, inl, inr, refl, sym, subst, ap, ◌∙◌, arith}
use Rattle.std.proofs.lemmas.Bool.{cases_lt, cases_eq}
use Rattle.tftp_packet.specs.{Message, Spells, Side, Get, Put}
use Rattle.tftp_packet.specs.Hosts.{Datagram, Header}
use Rattle.tftp_packet.specs.{Dir, In, Out}
use Rattle.law_model.specs.Model.{Meaning, request_of, SomethingAgreed, NothingAgreed, blksize_of, windowsize_of, block, block_count, Data, Ack, History, HasSent, HasTaken, IsStartedOn, MaySendData, heard, LetsStartOn, MayComeData}
use Rattle.law_model.specs.Model.Roles.{sender_of, receiver_of}
use Rattle.law_model.specs.Rules.{transfer_of, Passed, HasPassed, usable, BlocksWait}
use Rattle.law_model.specs.{EndRule, NoReply, Oacked, Terms}
use Rattle.law_end.specs.{Division, datagrams_of, view_in, Agrees, Begins, IsAnswer, FirstAnswer, plain_terms, terms_after, AreTermsAfter}
use Rattle.law_end.proofs.Accord.HighestNumbers.{top_of, answered_of, acked_of}
use Rattle.law_end.proofs.Accord.PassedIsDone.{block_sent, ack_went, ack_came_in, sent_block, usable_passed, used_ack}
use Rattle.law_end.proofs.Accord.AnsweredBefore.{zero_used}
use Rattle.law_end.proofs.Accord.KnownTerms.{numbers, state, sends, takes, begun_out, begun_in, plain_yet}
use Rattle.law_end.proofs.Completeness.NextDeed.{reply_now}
use Rattle.law_end.proofs.Accord.Moments.{who_sent_ack, who_took_ack, sent_below, sent_in_window, acknowledged_was_sent}
use Rattle.law_end.proofs.Accord.WhoSends.{data_out_who, data_in_who, two_parts}
use Rattle.law_end.proofs.Soundness.Searches.{has_ack_zero, zero_from}
use Rattle.law_end.proofs.Soundness.NextDatagram.{Next, all, used_all, more, keeps_end, right, req_taken, begins_now, oack_taken, req_used, oack_past, none_before, pick}

module _ {h : Header} {m : Meaning} {wire : List ℕ} {division : Division} {d : Datagram} (next : Next h m wire division d) where
  abbrev ds : List Datagram
  ds = datagrams_of division

  abbrev through : List Datagram
  through = transfer_of h ds

  abbrev view : History
  view = view_in division

  -- what the other end can have used
  abbrev used : List Datagram
  used = usable through

  abbrev past : History
  past = heard view

  module _ (k : ℕ) (bytes : List ℕ) (s : Spells d.payload (Message.Data k bytes)) where
    here : HasPassed (Message.Data k bytes) (transfer_of h (d ∷ ds))
    here = subst (HasPassed (Message.Data k bytes)) (sym (more next)) (by d.dir refl) where
      by : (dir : Dir) → d.dir ≡ dir → HasPassed (Message.Data k bytes) (d ∷ through)
      by In way = inl (inl (way, s))
      by Out way = inr (inl (way, s))

    pub of_wire : (k ≤ block_count (blksize_of m) wire) × (bytes ≡ block (blksize_of m) wire k)
    of_wire = next.acc.blocks k bytes here

    low_end : 1 ≤ k
    low_end = let (t, known) = pick next in elim (cases_eq k 0) [
      | inl none ↦ absurd (keeps_end next t known (Message.Data k bytes) s EndRule.BlockZero none)
      | inr some ↦ omega (arith, some)
    ]

    waits : (t : Terms) → AreTermsAfter h (request_of m) through t → BlocksWait t.side t.reply used → ⊥
    waits t known wait = keeps_end next t known (Message.Data k bytes) s EndRule.NotStarted wait

    data_begins : (side : Side) → m.side ≡ side → side ≡ Get → IsAnswer m.side (Message.Data k bytes) Begins
    data_begins side is get = subst (λ x. IsAnswer x (Message.Data k bytes) Begins) (sym (is ∙ get)) tt

    -- a block that goes out

    start_none : (side : Side) → h.named ≡ sender_of side → (side ≡ Get → NothingAgreed m) → (BlocksWait side NoReply used → ⊥) → IsStartedOn side m view
    start_none Get who begins wait = inl (begins refl, req_taken next who)
    start_none Put who begins wait = absurd (wait tt)

    start_oacked : (side : Side) → m.side ≡ side → h.named ≡ sender_of side → SomethingAgreed m → FirstAnswer m.side through (Agrees m.agreed) → (BlocksWait side Oacked used → ⊥) → IsStartedOn side m view
    start_oacked Get get who something answer wait = elim (has_ack_zero In used (used_all next)) [
      | inl p ↦ inr (something, ack_came_in h m wire division next.routed 0 (usable_passed In (Message.Ack 0) through p))
      | inr none ↦ absurd (wait (λ p. elim p [
        | inl came ↦ none came
        | inr went ↦ two_parts m.side h.named (who ∙ ap sender_of (sym get)) (who_sent_ack m wire h.named view next.own 0 (ack_went h m wire division next.routed 0 (usable_passed Out (Message.Ack 0) through went)))
      ]))
    ]
    start_oacked Put put who something answer wait = inr (something, oack_taken next who answer)

    start_plain : (side : Side) → m.side ≡ side → h.named ≡ sender_of side → NothingAgreed m → FirstAnswer side through Begins → IsStartedOn side m view
    start_plain Get get who nothing answer = inl (nothing, req_taken next who)
    start_plain Put put who nothing answer = elim (zero_from through answer) [
      | inl came ↦ inl (nothing, ack_came_in h m wire division next.routed 0 came)
      | inr went ↦ absurd (two_parts m.side h.named (who ∙ ap sender_of (sym put)) (who_sent_ack m wire h.named view next.own 0 (ack_went h m wire division next.routed 0 went)))
    ]

    started_out : h.named ≡ sender_of m.side → IsStartedOn m.side m view
    started_out who = elim (reply_now h m wire next.acc.fits division next.routed next.own) [
      | inl none ↦ start_none m.side who (λ get. (begins_now next) (Message.Data k bytes) s (data_begins m.side refl get) none) (waits (plain_terms h m.side NoReply) (inl (none, refl)))
      | inr some ↦ elim some [
        | inl x ↦ start_oacked m.side refl who x.0 x.1 (waits (terms_after h (request_of m) (Agrees m.agreed)) (inr (Agrees m.agreed, x.1, refl)))
        | inr x ↦ start_plain m.side refl who x.0 x.1
      ]
    ]

    top_sent : (top : ℕ) → (top ≡ 0) ⊎ ((b : List ℕ) × Passed Out (Message.Data top b) through) → (j : ℕ) → 1 ≤ j → j ≤ top → HasSent view (Data j)
    top_sent top member j low up = elim member [
      | inl none ↦ absurd (omega (arith, none, low, up))
      | inr p ↦ sent_below m wire h.named view next.own top j (block_sent h m wire division next.routed top p.0 p.1) low up
    ]

    pub may_send_data : d.dir ≡ Out → MaySendData m wire h.named view k
    may_send_data way =
        let who = data_out_who h.named m.side k bytes (right next (Message.Data k bytes) s Out way) in
        let started = started_out who in
        let (t, known) = pick next in
        let st = state h m wire next.acc.fits division next.routed next.own t known in
        let n = numbers h m wire next.acc.fits division next.routed next.own (plain_yet h m wire next.acc.fits division next.routed next.own m.side (begun_out h m wire next.acc.fits division next.routed next.own m.side refl started)) t st in
        let sender = sends h m wire next.acc.fits division next.routed next.own t st who in
        let (top, is) = top_of through (all next) in
        let near : k ≤ top + 1 = elim (cases_lt (top + 1) k) [
          | inl skipped ↦ absurd (keeps_end next t known (Message.Data k bytes) s EndRule.BlockSkipped (sender, (top, is, skipped)))
          | inr fine ↦ fine
        ] in
        let low = low_end in
        let size = n.windowsize in
        record {
          no_error = none_before next (Data k) refl way (subst (λ q. Spells d.payload (Message.Data k q)) of_wire.1 s);
          sender = who;
          from_one = low;
          in_wire = of_wire.0;
          started = started;
          in_order = elim (cases_eq k 1) [
            | inl one ↦ inl one
            | inr other ↦ inr (top_sent top is.member (k - 1) (omega (arith, low, other)) (omega (arith, near)))
          ];
          in_window = elim (cases_lt top k) [
            | inr old ↦ sent_in_window m wire h.named view next.own k (top_sent top is.member k low old)
            | inl above ↦
                let (a, most) = answered_of used (used_all next) in
                let taken : (a ≡ 0) ⊎ HasTaken view (Ack a) = elim most.member [ inl none ↦ inl none | inr p ↦ inr (ack_came_in h m wire division next.routed a (usable_passed In (Message.Ack a) through p)) ] in
                let below : a ≤ top = elim (cases_lt top a) [
                  | inr fine ↦ fine
                  | inl past ↦ elim taken [
                    | inl none ↦ absurd (omega (arith, none, past))
                    | inr at ↦ is.most a (sent_block h m wire division next.routed a (acknowledged_was_sent m wire h.named view next.own a a at (omega (arith, past)) (omega arith)))
                  ]
                ] in
                let near_enough : k ≤ a + windowsize_of m = elim (cases_lt (a + t.windowsize) k) [
                  | inl over ↦ absurd (keeps_end next t known (Message.Data k bytes) s EndRule.WindowOverrun (a, inl (sender, most), over))
                  | inr fine ↦ omega (arith, fine, size)
                ] in
                (a, taken, omega (arith, below, above), near_enough)
          ];
          in_step = λ one higher at. elim (cases_lt k higher) [
            | inr fine ↦ fine
            | inl back ↦
                let high = is.most higher (sent_block h m wire division next.routed higher at) in
                absurd (keeps_end next t known (Message.Data k bytes) s EndRule.GoneBack (sender, size ∙ one, (top, is, omega (arith, high, back))))
          ];
        }

    -- a block that comes in

    lets_none : (side : Side) → h.named ≡ receiver_of side → (side ≡ Get → NothingAgreed m) → (BlocksWait side NoReply used → ⊥) → LetsStartOn side m past
    lets_none Get who begins wait = inl (begins refl, req_used next who)
    lets_none Put who begins wait = absurd (wait tt)

    lets_oacked : (side : Side) → m.side ≡ side → h.named ≡ receiver_of side → SomethingAgreed m → FirstAnswer m.side through (Agrees m.agreed) → (BlocksWait side Oacked used → ⊥) → LetsStartOn side m past
    lets_oacked Get get who something answer wait = elim (has_ack_zero Out used (used_all next)) [
      | inl p ↦ inr (something, used_ack h m wire division next.routed 0 p)
      | inr none ↦ absurd (wait (λ p. elim p [
        | inr went ↦ none went
        | inl came ↦ two_parts m.side h.named (who_took_ack m wire h.named view next.own 0 (ack_came_in h m wire division next.routed 0 (usable_passed In (Message.Ack 0) through came))) (who ∙ ap receiver_of (sym get))
      ]))
    ]
    lets_oacked Put put who something answer wait = inr (something, oack_past next something who answer)

    lets_plain : (side : Side) → m.side ≡ side → h.named ≡ receiver_of side → NothingAgreed m → FirstAnswer side through Begins → LetsStartOn side m past
    lets_plain Get get who nothing answer = inl (nothing, req_used next who)
    lets_plain Put put who nothing answer = elim (zero_from through answer) [
      | inr went ↦ inl (nothing, zero_used h m wire division next.routed next.own next.starts who nothing put (ack_went h m wire division next.routed 0 went))
      | inl came ↦ absurd (two_parts m.side h.named (who_took_ack m wire h.named view next.own 0 (ack_came_in h m wire division next.routed 0 came)) (who ∙ ap receiver_of (sym put)))
    ]

    started_in : h.named ≡ receiver_of m.side → LetsStartOn m.side m past
    started_in who = elim (reply_now h m wire next.acc.fits division next.routed next.own) [
      | inl none ↦ lets_none m.side who (λ get. (begins_now next) (Message.Data k bytes) s (data_begins m.side refl get) none) (waits (plain_terms h m.side NoReply) (inl (none, refl)))
      | inr some ↦ elim some [
        | inl x ↦ lets_oacked m.side refl who x.0 x.1 (waits (terms_after h (request_of m) (Agrees m.agreed)) (inr (Agrees m.agreed, x.1, refl)))
        | inr x ↦ lets_plain m.side refl who x.0 x.1
      ]
    ]

    pub may_come_data : d.dir ≡ In → MayComeData m wire h.named past k
    may_come_data way =
        let who = data_in_who h.named m.side k bytes (right next (Message.Data k bytes) s In way) in
        let started = started_in who in
        let (t, known) = pick next in
        let st = state h m wire next.acc.fits division next.routed next.own t known in
        let n = numbers h m wire next.acc.fits division next.routed next.own (plain_yet h m wire next.acc.fits division next.routed next.own m.side (begun_in h m wire next.acc.fits division next.routed next.own m.side refl started)) t st in
        let size = n.windowsize in
        let (a, most) = acked_of used (used_all next) in
        record {
          receiver = who;
          from_one = low_end;
          in_wire = of_wire.0;
          started = started;
          in_window = (
            a,
            elim most.member [ inl none ↦ inl none | inr p ↦ inr (used_ack h m wire division next.routed a p) ],
            elim (cases_lt (a + t.windowsize) k) [
              | inl over ↦ absurd (keeps_end next t known (Message.Data k bytes) s EndRule.WindowOverrun (a, inr (takes h m wire next.acc.fits division next.routed next.own t st who, most), over))
              | inr fine ↦ omega (arith, fine, size)
            ],
          );
        }
