-- A run in which both ends do at once all that they may: the request, what answers it, each block and its ACK.
use Rattle.std.proofs.Common.{◌≡◌, ◌⊎◌, ℕ, zero, suc, ◌-◌, ◌≤◌, List, [], ◌∷◌, Contains, inl, inr, refl, sym, subst, ap, ◌∙◌, arith}
use Rattle.std.proofs.lemmas.Bool.{cases_lt}
use Rattle.tftp_packet.specs.{no_options, Message, Spells, Side, Get, Put, End, Client, Server}
use Rattle.tftp_packet.specs.Rounds.{greatest_of}
use Rattle.law_model.specs.Model.{Meaning, NothingAgreed, SomethingAgreed, blksize_of, windowsize_of, block_count, MachinePacket, Req, Oack, Data, Ack, Error, message_of, Deed, Took, HasSent, IsAcknowledged, IsStartedOn, MayAckZeroOn, MaySendOack, MaySendData, MaySendAck}
use Rattle.law_model.specs.Model.Machines.{sender_of, receiver_of}
use Rattle.law_model.proofs.ModelLemmas.Members.{contains_first, contains_later, contains_cases, contains_none}
use Rattle.law_model.proofs.ModelLemmas.OtherEnd.{other_sends, other_receives}
use Rattle.law_end.proofs.Soundness.SameOrNot.{same_options}
use Rattle.law_end.proofs.Written.EachOf.{Bytes}
use Rattle.law_tap.specs.{Pass, deed_at, as_at, TapSides, GoesThere}
use Rattle.law_tap.proofs.LossyTold.{data_spelled, ack_spelled, block_bytes, Quiet, quiet_none, quiet_more, none_sent, UpTo, upto_none, upto_more, carrier, Telling, nothing_told, answered, tell}
use Rattle.law_tap.proofs.OneTap.{Has}
use Rattle.law_tap.proofs.Passed.{at_sent, at_took, sent_passed}

-- a packet that an end sends sometime in a run of this meaning, if it is no ERROR
abbrev pub Sometime : Meaning → List ℕ → End → MachinePacket → Type 0
Sometime m wire e Req = e ≡ Client
Sometime m wire e Oack = (e ≡ Server) × SomethingAgreed m
Sometime m wire e (Data k) = (e ≡ sender_of m.side) × (1 ≤ k) × (k ≤ block_count (blksize_of m) wire)
Sometime m wire e (Ack k) = (e ≡ receiver_of m.side) × (k ≤ block_count (blksize_of m) wire) × (k ≡ 0 → m.side ≡ Get → SomethingAgreed m)
Sometime m wire e (Error code text) = ⊥

module _ (s : TapSides) (m : Meaning) (wire : List ℕ) (request : (payload : List ℕ) × Spells payload (message_of m wire Req)) (oack : SomethingAgreed m → (payload : List ℕ) × Spells payload (message_of m wire Oack))
    (bytes : Bytes wire) (numbered : block_count (blksize_of m) wire ≤ greatest_of s.rollover) (window : 1 ≤ windowsize_of m) (side : Side) (is : m.side ≡ side) where
  abbrev count : ℕ
  count = block_count (blksize_of m) wire

  -- the first n blocks have been told, and their ACKs
  record Eager (n : ℕ) : Type 0 where
    told : List Pass
    t : Telling s m wire told
    asked : Has told Client Req
    quiet : Quiet told
    upto : UpTo n told
    started : IsStartedOn side m (as_at (sender_of side) told)
    known : side ≡ Put → (q : MachinePacket) × Has told Server q
    agreed : SomethingAgreed m → Has told Server Oack
    blocks : (k : ℕ) → 1 ≤ k → k ≤ n → Has told (sender_of side) (Data k)
    acks : (k : ℕ) → 1 ≤ k → k ≤ n → Has told (receiver_of side) (Ack k)
    zero_got : side ≡ Get → SomethingAgreed m → Has told Client (Ack 0)
    zero_put : side ≡ Put → NothingAgreed m → Has told Server (Ack 0)

  -- ---- one block more

  module _ (n : ℕ) (up : suc n ≤ count) (g : Eager n) where
    abbrev told : List Pass
    told = g.told

    is_acknowledged : IsAcknowledged (as_at (sender_of side) told) n
    is_acknowledged = by n refl where
      by : (i : ℕ) → n ≡ i → IsAcknowledged (as_at (sender_of side) told) i
      by zero at = inl refl
      by (suc j) at = inr (at_took (sender_of side) (Ack (suc j)) told (subst (λ e. Has told e (Ack (suc j))) (sym (other_receives side)) (g.acks (suc j) (omega arith) (omega (arith, at)))))

    in_order : (suc n ≡ 1) ⊎ HasSent (as_at (sender_of side) told) (Data (suc n - 1))
    in_order = by n refl where
      by : (i : ℕ) → n ≡ i → (suc n ≡ 1) ⊎ HasSent (as_at (sender_of side) told) (Data (suc n - 1))
      by zero at = inl (omega (arith, at))
      by (suc j) at =
          let now : n ≡ suc n - 1 = omega arith in
          inr (subst (λ i. HasSent (as_at (sender_of side) told) (Data i)) now (at_sent (sender_of side) (Data n) told (g.blocks n (omega (arith, at)) (omega arith))))

    may_block : MaySendData m wire (sender_of side) (as_at (sender_of side) told) (suc n)
    may_block = record {
      sender = ap sender_of (sym is);
      no_error = none_sent (sender_of side) told g.quiet;
      from_one = omega arith;
      in_wire = up;
      started = subst (λ x. IsStartedOn x m (as_at (sender_of side) told)) (sym is) g.started;
      in_order = in_order;
      in_window = (n, is_acknowledged, omega arith, omega (arith, window));
      in_step = λ lock higher at. let low = g.upto (sender_of side) higher (sent_passed (sender_of side) (Data higher) told at) in omega (arith, low);
    }

    abbrev block_told : List Pass
    block_told = record { from = sender_of side; packet = Data (suc n) } ∷ told

    spelled_block : (payload : List ℕ) × Spells payload (message_of m wire (Data (suc n)))
    spelled_block = data_spelled (suc n) _ (block_bytes (blksize_of m) wire (suc n) bytes)

    block_goes : GoesThere s g.t.division (carrier s (sender_of side) (Data (suc n)) spelled_block.0) (sender_of side) (Data (suc n))
    block_goes = by side refl where
      by : (x : Side) → side ≡ x → GoesThere s g.t.division (carrier s (sender_of x) (Data (suc n)) spelled_block.0) (sender_of x) (Data (suc n))
      by Get at = refl
      by Put at = let q = g.known at in (refl, answered s m wire told g.t q.0 q.1)

    tell_block : Telling s m wire block_told
    tell_block = tell s m wire (sender_of side) (Data (suc n)) told g.t may_block spelled_block.0 spelled_block.1 block_goes

    all_data : (k : ℕ) → 1 ≤ k → k ≤ suc n → Has block_told (sender_of side) (Data k)
    all_data k low high = elim (cases_lt k (suc n)) [
      | inl below ↦ contains_later _ told _ (g.blocks k low (omega (arith, below)))
      | inr top ↦ let same : suc n ≡ k = omega (arith, top, high) in subst (λ i. Has block_told (sender_of side) (Data i)) same (contains_first _ told)
    ]

    may_ack : MaySendAck m (receiver_of side) (as_at (receiver_of side) block_told) (suc n)
    may_ack = record {
      receiver = ap receiver_of (sym is);
      no_error = none_sent (receiver_of side) block_told (quiet_more _ told refl g.quiet);
      zero = λ none. absurd (omega (arith, none));
      taken = λ k low high. at_took (receiver_of side) (Data k) block_told (subst (λ e. Has block_told e (Data k)) (sym (other_sends side)) (all_data k low high));
    }

    abbrev ack_told : List Pass
    ack_told = record { from = receiver_of side; packet = Ack (suc n) } ∷ block_told

    spelled_ack : (payload : List ℕ) × Spells payload (Message.Ack (suc n))
    spelled_ack = ack_spelled (suc n)

    ack_goes : GoesThere s tell_block.division (carrier s (receiver_of side) (Ack (suc n)) spelled_ack.0) (receiver_of side) (Ack (suc n))
    ack_goes = by side refl where
      by : (x : Side) → side ≡ x → GoesThere s tell_block.division (carrier s (receiver_of x) (Ack (suc n)) spelled_ack.0) (receiver_of x) (Ack (suc n))
      by Get at = (refl, answered s m wire block_told tell_block (Data (suc n)) (subst (λ x. Has block_told (sender_of x) (Data (suc n))) at (contains_first _ told)))
      by Put at = refl

    more : (x : Pass) → Contains told x → Contains ack_told x
    more x at = contains_later _ block_told x (contains_later _ told x at)

    sooner : (d : Deed) → Contains (as_at (sender_of side) told) d → Contains (as_at (sender_of side) ack_told) d
    sooner d at = contains_later (deed_at (sender_of side) (receiver_of side) (Ack (suc n))) (as_at (sender_of side) block_told) d
        (contains_later (deed_at (sender_of side) (sender_of side) (Data (suc n))) (as_at (sender_of side) told) d at)

    next : Eager (suc n)
    next = record {
      told = ack_told;
      t = tell s m wire (receiver_of side) (Ack (suc n)) block_told tell_block may_ack spelled_ack.0 spelled_ack.1 ack_goes;
      asked = more _ g.asked;
      quiet = quiet_more _ block_told refl (quiet_more _ told refl g.quiet);
      upto = upto_more (suc n) _ block_told (λ k at. absurd (cc)) (upto_more (suc n) _ told (λ k at. let same : suc n ≡ k = cc in omega (arith, same)) (λ e k at. let low = g.upto e k at in omega (arith, low)));
      started = still_started side g.started;
      known = λ put. let q = g.known put in (q.0, more _ q.1);
      agreed = λ some. more _ (g.agreed some);
      blocks = λ k low high. contains_later _ block_told _ (all_data k low high);
      acks = λ k low high. elim (cases_lt k (suc n)) [
        | inl below ↦ more _ (g.acks k low (omega (arith, below)))
        | inr top ↦ let same : suc n ≡ k = omega (arith, top, high) in subst (λ i. Has ack_told (receiver_of side) (Ack i)) same (contains_first _ block_told)
      ];
      zero_got = λ get some. more _ (g.zero_got get some);
      zero_put = λ put none. more _ (g.zero_put put none);
    }
      where
        still_started : (x : Side) → IsStartedOn x m (as_at (sender_of side) told) → IsStartedOn x m (as_at (sender_of side) ack_told)
        still_started Get (inl a) = inl (a.0, sooner (Took Req) a.1)
        still_started Get (inr a) = inr (a.0, sooner (Took (Ack 0)) a.1)
        still_started Put (inl a) = inl (a.0, sooner (Took (Ack 0)) a.1)
        still_started Put (inr a) = inr (a.0, sooner (Took Oack) a.1)

  each_block : (n : ℕ) → n ≤ count → Eager 0 → Eager n
  each_block zero up g = g
  each_block (suc n) up g = next n up (each_block n (omega (arith, up)) g)

  -- ---- the beginning

  abbrev request_told : List Pass
  request_told = record { from = Client; packet = Req } ∷ []

  tell_request : Telling s m wire request_told
  tell_request = tell s m wire Client Req [] (nothing_told s m wire)
      (record { client = refl; no_error = λ c x at. contains_none _ at; no_data = λ k at. contains_none _ at; no_ack = λ k at. contains_none _ at }) request.0 request.1 refl

  asked_quiet : Quiet request_told
  asked_quiet = quiet_more _ [] refl quiet_none

  asked_upto : UpTo 0 request_told
  asked_upto = upto_more 0 _ [] (λ k at. absurd (cc)) (upto_none 0)

  abbrev oack_told : List Pass
  oack_told = record { from = Server; packet = Oack } ∷ request_told

  oack_quiet : Quiet oack_told
  oack_quiet = quiet_more _ request_told refl asked_quiet

  oack_upto : UpTo 0 oack_told
  oack_upto = upto_more 0 _ request_told (λ k at. absurd (cc)) asked_upto

  tell_oack : SomethingAgreed m → Telling s m wire oack_told
  tell_oack some = tell s m wire Server Oack request_told tell_request may (oack some).0 (oack some).1 refl
    where
      no_block : (k : ℕ) → Has request_told Server (Data k) → ⊥
      no_block k at = elim (contains_cases (record { from = Client; packet = Req }) [] _ at) [
        | inl now ↦ let is_block : Req ≡ Data k = ap (λ (y : Pass). y.packet) now in absurd (cc)
        | inr before ↦ contains_none _ before
      ]

      may : MaySendOack m Server (as_at Server request_told)
      may = record {
        server = refl;
        no_error = none_sent Server request_told asked_quiet;
        agreed = some;
        asked = at_took Server Req request_told (contains_first _ []);
        no_data = λ get k at. absurd (no_block k (sent_passed Server (Data k) request_told at));
      }

  zero_spelled : (payload : List ℕ) × Spells payload (Message.Ack 0)
  zero_spelled = ack_spelled 0

  -- no block and no ACK is below the first
  nothing_low : (k : ℕ) → 1 ≤ k → k ≤ 0 → ⊥
  nothing_low k low high = omega (arith, low, high)

  other_side : side ≡ Get → side ≡ Put → ⊥
  other_side get put = let e : Get ≡ Put = sym get ∙ put in absurd (cc)

  read_plain : side ≡ Get → NothingAgreed m → Eager 0
  read_plain get none = record {
    told = request_told;
    t = tell_request;
    asked = contains_first _ [];
    quiet = asked_quiet;
    upto = asked_upto;
    started = subst (λ x. IsStartedOn x m (as_at (sender_of x) request_told)) (sym get) (inl (none, at_took Server Req request_told (contains_first _ [])));
    known = λ put. absurd (other_side get put);
    agreed = λ some. absurd (some none);
    blocks = λ k low high. absurd (nothing_low k low high);
    acks = λ k low high. absurd (nothing_low k low high);
    zero_got = λ also some. absurd (some none);
    zero_put = λ put also. absurd (other_side get put);
  }

  module _ (get : side ≡ Get) (some : SomethingAgreed m) where
    abbrev zero_told : List Pass
    zero_told = record { from = Client; packet = Ack 0 } ∷ oack_told

    may_zero : MaySendAck m Client (as_at Client oack_told) 0
    may_zero = record {
      receiver = sym (ap receiver_of (is ∙ get));
      no_error = none_sent Client oack_told oack_quiet;
      zero = λ none. subst (λ x. MayAckZeroOn x m (as_at Client oack_told)) (sym (is ∙ get)) (some, at_took Client Oack oack_told (contains_first _ request_told));
      taken = λ k low high. absurd (nothing_low k low high);
    }

    read_agreed : Eager 0
    read_agreed = record {
      told = zero_told;
      t = tell s m wire Client (Ack 0) oack_told (tell_oack some) may_zero zero_spelled.0 zero_spelled.1 (refl, answered s m wire oack_told (tell_oack some) Oack (contains_first _ request_told));
      asked = contains_later _ oack_told _ (contains_later _ request_told _ (contains_first _ []));
      quiet = quiet_more _ oack_told refl oack_quiet;
      upto = upto_more 0 _ oack_told (λ k at. absurd (cc)) oack_upto;
      started = subst (λ x. IsStartedOn x m (as_at (sender_of x) zero_told)) (sym get) (inr (some, at_took Server (Ack 0) zero_told (contains_first _ oack_told)));
      known = λ put. absurd (other_side get put);
      agreed = λ also. contains_later _ oack_told _ (contains_first _ request_told);
      blocks = λ k low high. absurd (nothing_low k low high);
      acks = λ k low high. absurd (nothing_low k low high);
      zero_got = λ also more. contains_first _ oack_told;
      zero_put = λ put also. absurd (other_side get put);
    }

  module _ (put : side ≡ Put) (none : NothingAgreed m) where
    abbrev first_told : List Pass
    first_told = record { from = Server; packet = Ack 0 } ∷ request_told

    may_answer : MaySendAck m Server (as_at Server request_told) 0
    may_answer = record {
      receiver = sym (ap receiver_of (is ∙ put));
      no_error = none_sent Server request_told asked_quiet;
      zero = λ also. subst (λ x. MayAckZeroOn x m (as_at Server request_told)) (sym (is ∙ put)) (inl (none, at_took Server Req request_told (contains_first _ [])));
      taken = λ k low high. absurd (nothing_low k low high);
    }

    write_plain : Eager 0
    write_plain = record {
      told = first_told;
      t = tell s m wire Server (Ack 0) request_told tell_request may_answer zero_spelled.0 zero_spelled.1 refl;
      asked = contains_later _ request_told _ (contains_first _ []);
      quiet = quiet_more _ request_told refl asked_quiet;
      upto = upto_more 0 _ request_told (λ k at. absurd (cc)) asked_upto;
      started = subst (λ x. IsStartedOn x m (as_at (sender_of x) first_told)) (sym put) (inl (none, at_took Client (Ack 0) first_told (contains_first _ request_told)));
      known = λ also. (Ack 0, contains_first _ request_told);
      agreed = λ some. absurd (some none);
      blocks = λ k low high. absurd (nothing_low k low high);
      acks = λ k low high. absurd (nothing_low k low high);
      zero_got = λ get some. absurd (other_side get put);
      zero_put = λ also more. contains_first _ request_told;
    }

  write_agreed : side ≡ Put → SomethingAgreed m → Eager 0
  write_agreed put some = record {
    told = oack_told;
    t = tell_oack some;
    asked = contains_later _ request_told _ (contains_first _ []);
    quiet = oack_quiet;
    upto = oack_upto;
    started = subst (λ x. IsStartedOn x m (as_at (sender_of x) oack_told)) (sym put) (inr (some, at_took Client Oack oack_told (contains_first _ request_told)));
    known = λ also. (Oack, contains_first _ request_told);
    agreed = λ also. contains_first _ request_told;
    blocks = λ k low high. absurd (nothing_low k low high);
    acks = λ k low high. absurd (nothing_low k low high);
    zero_got = λ get also. absurd (other_side get put);
    zero_put = λ also none. absurd (some none);
  }

  begin : (x : Side) → side ≡ x → Eager 0
  begin Get get = elim (same_options m.agreed no_options) [ inl none ↦ read_plain get none | inr some ↦ read_agreed get some ]
  begin Put put = elim (same_options m.agreed no_options) [ inl none ↦ write_plain put none | inr some ↦ write_agreed put some ]

  whole : Eager count
  whole = each_block count (omega arith) (begin side refl)

  -- ---- all of it

  -- a run in which each packet was told that its end sends sometime
  pub record Everything : Type 0 where
    pub told : List Pass
    pub t : Telling s m wire told
    pub quiet : Quiet told
    pub all : (e : End) (p : MachinePacket) → Sometime m wire e p → Has told e p

  own : (told : List Pass) (e f : End) (p : MachinePacket) → e ≡ f → Has told f p → Has told e p
  own told e f p same at = subst (λ x. Has told x p) (sym same) at

  -- all but ACK 0 has been told; and that one, in these runs
  told_each : (told : List Pass) → ((x : Pass) → Contains whole.told x → Contains told x) → ((e : End) → Sometime m wire e (Ack 0) → Has told e (Ack 0)) → (e : End) (p : MachinePacket) → Sometime m wire e p → Has told e p
  told_each told more zeros e Req c = own told e Client Req c (more _ whole.asked)
  told_each told more zeros e Oack c = own told e Server Oack c.0 (more _ (whole.agreed c.1))
  told_each told more zeros e (Data k) c = own told e (sender_of side) (Data k) (c.0 ∙ ap sender_of is) (more _ (whole.blocks k c.1 c.2))
  told_each told more zeros e (Ack zero) c = zeros e c
  told_each told more zeros e (Ack (suc j)) c = own told e (receiver_of side) (Ack (suc j)) (c.0 ∙ ap receiver_of is) (more _ (whole.acks (suc j) (omega arith) c.1))
  told_each told more zeros e (Error code text) c = absurd c

  -- where ACK 0 was told
  with_zero : ((e : End) → Sometime m wire e (Ack 0) → Has whole.told e (Ack 0)) → Everything
  with_zero zeros = record { told = whole.told; t = whole.t; quiet = whole.quiet; all = told_each whole.told (λ x at. at) zeros }

  -- on a write with options the server says so after a block
  module _ (put : side ≡ Put) (some : SomethingAgreed m) where
    may_repeat : MaySendAck m Server (as_at Server whole.told) 0
    may_repeat = record {
      receiver = sym (ap receiver_of (is ∙ put));
      no_error = none_sent Server whole.told whole.quiet;
      zero = λ none. subst (λ x. MayAckZeroOn x m (as_at Server whole.told)) (sym (is ∙ put))
          (inr (some, 1, at_took Server (Data 1) whole.told (subst (λ x. Has whole.told (sender_of x) (Data 1)) put (whole.blocks 1 (omega arith) (omega arith)))));
      taken = λ k low high. absurd (nothing_low k low high);
    }

    abbrev repeat_told : List Pass
    repeat_told = record { from = Server; packet = Ack 0 } ∷ whole.told

    with_repeat : Everything
    with_repeat = record {
      told = repeat_told;
      t = tell s m wire Server (Ack 0) whole.told whole.t may_repeat zero_spelled.0 zero_spelled.1 refl;
      quiet = quiet_more _ whole.told refl whole.quiet;
      all = told_each repeat_told (λ x at. contains_later (record { from = Server; packet = Ack 0 }) whole.told x at)
          (λ e c. own repeat_told e Server (Ack 0) (c.0 ∙ ap receiver_of (is ∙ put)) (contains_first (record { from = Server; packet = Ack 0 }) whole.told));
    }

  pub everything : (x : Side) → side ≡ x → Everything
  everything Get get = with_zero (λ e c. own whole.told e Client (Ack 0) (c.0 ∙ ap receiver_of (is ∙ get)) (whole.zero_got get (c.2 refl (is ∙ get))))
  everything Put put = elim (same_options m.agreed no_options) [
    | inl none ↦ with_zero (λ e c. own whole.told e Server (Ack 0) (c.0 ∙ ap receiver_of (is ∙ put)) (whole.zero_put put none))
    | inr some ↦ with_repeat put some
  ]
