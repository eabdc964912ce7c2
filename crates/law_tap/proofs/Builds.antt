-- From what passed to one end and the tap: the end takes each packet when it passes, and sends one just before it passes. Here x,
-- which is `other_end e`, is the end, and the tap stands for e.
use Rattle.std.proofs.Common.{◌≡◌, Contains, ℕ, zero, suc, ◌+◌, ◌-◌, ◌≤◌, ◌⊎◌, Bool, true, false, List, [], ◌∷◌, inl, inr, refl, sym, subst, ap, ◌∙◌, arith}
use Rattle.std.proofs.lemmas.Bool.{cases_lt, true≢false}
use Rattle.tftp_packet.specs.{Side, Get, Put, End, Client, Server}
use Rattle.law_model.specs.Model.{Meaning, SomethingAgreed, blksize_of, windowsize_of, block_count, Deed, Sent, Took, MachinePacket, Req, Oack, Data, Ack, Error, History, HasSent, HasTaken, IsStartedOn, MayAckZeroOn, MaySend, NoErrorSent, Step, view_of, is_error, heard, LetsStartOn, LetsAckZeroOn, MayComeOack, MayComeData, MayComeAck, MayCome}
use Rattle.law_model.specs.Model.Machines.{other_end, sender_of, receiver_of}
use Rattle.law_model.proofs.ModelLemmas.Members.{contains_first, contains_cases, contains_none}
use Rattle.law_model.proofs.ModelLemmas.Views.{view_first, view_later, view_cases}
use Rattle.law_model.proofs.ModelLemmas.Stops.{stopped, either, heard_all, heard_stopped, heard_done, still_stopped}
use Rattle.law_model.proofs.ModelLemmas.OtherEnd.{other_other, other_sends, other_receives, by_own, by_other, own_view, other_view, hidden_view}
use Rattle.law_tap.proofs.Halves.{IsOpen, HalfFollow, IsHalf, not_other, half_own}
use Rattle.law_tap.proofs.Comes.{Comes, ack_backed, asked_heard, blocks_sent, SentUpTo}

abbrev Eager : End → List Step → Type 0
Eager e steps = (p : MachinePacket) → HasSent (view_of e steps) p → HasTaken (view_of (other_end e) steps) p

-- The end is eager and has sent no ERROR; the tap has what passed before the end's first ERROR passed. All that passed from it, but
-- ERRORs, was sent.
pub record Built (m : Meaning) (wire : List ℕ) (e : End) (h : History) : Type 0 where
  pub steps : List Step
  pub run : IsHalf m wire (other_end e) steps
  pub view : view_of e steps ≡ heard h
  pub eager : Eager e steps
  pub silent : NoErrorSent (view_of (other_end e) steps)
  pub given : (p : MachinePacket) → is_error p ≡ false → HasTaken h p → HasSent (view_of (other_end e) steps) p
  pub asked : e ≡ Server → HasSent (view_of (other_end e) steps) Req
  pub answered : m.side ≡ Get → SomethingAgreed m → (k : ℕ) → HasSent (view_of (other_end e) steps) (Data k) → HasSent (view_of (other_end e) steps) Oack

pub record Offered (m : Meaning) (wire : List ℕ) (e : End) (h : History) (p : MachinePacket) : Type 0 where
  pub built : Built m wire e h
  pub sent : HasSent (view_of (other_end e) built.steps) p

differs : (p : MachinePacket) (code : ℕ) (text : List ℕ) → is_error p ≡ false → Sent p ≡ Sent (Error code text) → ⊥
differs p code text plain same = let is : p ≡ Error code text = cc in true≢false (sym (ap is_error is) ∙ plain)

-- a block is not sent before the OACK that a read with options has
abbrev Answers : Meaning → History → MachinePacket → Type 0
Answers m h p = m.side ≡ Get → SomethingAgreed m → (k : ℕ) → p ≡ Data k → HasSent h Oack

block_is : (p : MachinePacket) (k : ℕ) → Sent p ≡ Sent (Data k) → p ≡ Data k
block_is p k same = cc

-- one more step of the end
abbrev other_step : (m : Meaning) (wire : List ℕ) (e : End) (h : History) (b : Built m wire e h) (p : MachinePacket) → is_error p ≡ false → MaySend m wire (other_end e) (view_of (other_end e) b.steps) p
    → Answers m (view_of (other_end e) b.steps) p → Offered m wire e h p
other_step m wire e h b p plain may answers = record {
  built = record {
    steps = by_other e (Sent p) b.steps;
    run = (half_own m wire (other_end e) b.steps (Sent p) may, b.run);
    view = other_view e (Sent p) b.steps ∙ b.view;
    eager = λ q at. view_later (other_end e) (other_end e) (Sent p) b.steps (Took q) (b.eager q (subst (λ v. HasSent v q) (other_view e (Sent p) b.steps) at));
    silent = λ code text at. elim (view_cases (other_end e) (other_end e) (Sent p) b.steps (Sent (Error code text)) at) [
      | inl now ↦ differs p code text plain now.1
      | inr before ↦ b.silent code text before
    ];
    given = λ q other at. view_later (other_end e) (other_end e) (Sent p) b.steps (Sent q) (b.given q other at);
    asked = λ is. view_later (other_end e) (other_end e) (Sent p) b.steps (Sent Req) (b.asked is);
    answered = λ get some k at. view_later (other_end e) (other_end e) (Sent p) b.steps (Sent Oack) (elim (view_cases (other_end e) (other_end e) (Sent p) b.steps (Sent (Data k)) at) [
      | inl now ↦ answers get some k (block_is p k now.1)
      | inr before ↦ b.answered get some k before
    ]);
  };
  sent = view_first (other_end e) (Sent p) b.steps;
}

module _ (m : Meaning) (wire : List ℕ) (e : End) (h : History) (all : Comes m wire e h) where
  -- what passed before the end's ERROR, the end has taken
  pub known : (b : Built m wire e h) (p : MachinePacket) → HasSent (heard h) p → HasTaken (view_of (other_end e) b.steps) p
  known b p at = b.eager p (subst (λ v. HasSent v p) (sym b.view) at)

  already : (b : Built m wire e h) (p : MachinePacket) → HasSent (view_of (other_end e) b.steps) p → Offered m wire e h p
  already b p at = record { built = b; sent = at }

  -- a server has answered, or may do so
  offer_oack : Built m wire e h → MayComeOack m e h → HasSent (heard h) Req → Offered m wire e h Oack
  offer_oack b may asked = elim (cases_lt 0 blocks.0) [
    | inl some ↦ by m.side refl some
    | inr none ↦ answer (λ get k at. let range = (blocks.1 k).0 at in omega arith)
  ]
    where
      blocks : (top : ℕ) × SentUpTo m wire (view_of (other_end e) b.steps) top
      blocks = blocks_sent m wire (other_end e) b.steps b.run

      answer : (m.side ≡ Get → (k : ℕ) → HasSent (view_of (other_end e) b.steps) (Data k) → ⊥) → Offered m wire e h Oack
      answer none = other_step m wire e h b Oack refl (record { server = ap other_end may.client; no_error = b.silent; agreed = may.agreed; asked = known b Req asked; no_data = none }) (λ get some k is. absurd (cc))

      by : (side : Side) → m.side ≡ side → 1 ≤ blocks.0 → Offered m wire e h Oack
      by Get get some = already b Oack (b.answered get may.agreed 1 ((blocks.1 1).1 (omega arith, some)))
      by Put put some = answer (λ get. let both : Get ≡ Put = sym get ∙ put in absurd (cc))

  -- a receiver
  offer_ack : (j : ℕ) → Built m wire e h → MayComeAck m e (heard h) j → Offered m wire e h (Ack j)
  offer_ack j b may = other_step m wire e h b (Ack j) refl (record {
    no_error = b.silent;
    receiver = ap other_end may.sender ∙ other_receives m.side;
    zero = λ none. zero m.side (may.zero none);
    taken = λ k low high. known b (Data k) (may.sent k low high);
  }) (λ get some k is. absurd (cc))
    where
      zero : (side : Side) → LetsAckZeroOn side m (heard h) → MayAckZeroOn side m (view_of (other_end e) b.steps)
      zero Get z = (z.0, known b Oack z.1)
      zero Put z = elim z [ inl plain ↦ inl (plain.0, known b Req plain.1) | inr oacked ↦ inr (oacked.0, oacked.1, known b (Data oacked.1) oacked.2) ]

  -- a sender, which sends all blocks up to this one that it has not sent
  record Prefix (k : ℕ) : Type 0 where
    built : Built m wire e h
    sent : (i : ℕ) → 1 ≤ i → i ≤ k → HasSent (view_of (other_end e) built.steps) (Data i)

  module _ (receiver : e ≡ receiver_of m.side) (lets : LetsStartOn m.side m (heard h)) (a : ℕ) (given : (a ≡ 0) ⊎ HasSent (heard h) (Ack a)) where
    sends : other_end e ≡ sender_of m.side
    sends = ap other_end receiver ∙ other_sends m.side

    started : (b : Built m wire e h) (side : Side) → LetsStartOn side m (heard h) → IsStartedOn side m (view_of (other_end e) b.steps)
    started b Get s = elim s [ inl plain ↦ inl (plain.0, known b Req plain.1) | inr oacked ↦ inr (oacked.0, known b (Ack 0) oacked.1) ]
    started b Put s = elim s [ inl plain ↦ inl (plain.0, known b (Ack 0) plain.1) | inr oacked ↦ inr (oacked.0, known b Oack oacked.1) ]

    -- on a read with options ACK 0 passed, and so the OACK before it
    oack_sent : (b : Built m wire e h) → m.side ≡ Get → SomethingAgreed m → HasSent (view_of (other_end e) b.steps) Oack
    oack_sent b get some = elim (subst (λ side. LetsStartOn side m (heard h)) get lets) [
      | inl plain ↦ absurd (some plain.0)
      | inr oacked ↦ b.given Oack refl ((ack_backed m wire e 0 h all (heard_done h (Sent (Ack 0)) oacked.1)).zero refl get)
    ]

    -- the acknowledged block was sent
    acked_below : (b : Built m wire e h) (top : ℕ) → ((k : ℕ) → HasSent (view_of (other_end e) b.steps) (Data k) → k ≤ top) → a ≤ top
    acked_below b top under = elim given [ inl none ↦ omega arith | inr acked ↦ by a refl acked ] where
      by : (n : ℕ) → n ≡ a → HasSent (heard h) (Ack a) → a ≤ top
      by zero is acked = omega arith
      by (suc n) is acked = under a (b.given (Data a) refl ((ack_backed m wire e a h all (heard_done h (Sent (Ack a)) acked)).blocks a (omega arith) (omega arith)))

    one_more : (k : ℕ) → suc k ≤ block_count (blksize_of m) wire → suc k ≤ a + windowsize_of m → Prefix k → Prefix (suc k)
    one_more k low near p = elim (cases_lt top (suc k)) [
      | inl above ↦ send (omega arith)
      | inr within ↦ record { built = b; sent = λ i from to. (blocks i).1 (from, omega arith) }
    ]
      where
        b : Built m wire e h
        b = p.built

        top : ℕ
        top = (blocks_sent m wire (other_end e) b.steps b.run).0

        blocks : SentUpTo m wire (view_of (other_end e) b.steps) top
        blocks = (blocks_sent m wire (other_end e) b.steps b.run).1

        below : (i : ℕ) → HasSent (view_of (other_end e) b.steps) (Data i) → i ≤ top
        below i at = ((blocks i).0 at).1

        order : (i : ℕ) → i ≡ k → (suc k ≡ 1) ⊎ HasSent (view_of (other_end e) b.steps) (Data (suc k - 1))
        order zero is = inl (omega arith)
        order (suc i) is = let at : k ≡ suc k - 1 = omega arith in inr (subst (λ n. HasSent (view_of (other_end e) b.steps) (Data n)) at (p.sent k (omega arith) (omega arith)))

        send : top ≤ k → Prefix (suc k)
        send upto =
            let acked : a ≤ top = acked_below b top below in
            let o = other_step m wire e h b (Data (suc k)) refl (record {
              no_error = b.silent;
              sender = sends;
              from_one = omega arith;
              in_wire = low;
              started = started b m.side lets;
              in_order = order k refl;
              in_window = (a, elim given [ inl none ↦ inl none | inr at ↦ inr (known b (Ack a) at) ], omega arith, near);
              in_step = λ one higher at. let under = below higher at in omega arith;
            }) (λ get some i is. oack_sent b get some) in
            record {
              built = o.built;
              sent = λ i from to. elim (cases_lt i (suc k)) [
                | inl before ↦ view_later (other_end e) (other_end e) (Sent (Data (suc k))) b.steps (Sent (Data i)) (p.sent i from (omega arith))
                | inr at ↦ let is : suc k ≡ i = omega arith in subst (λ n. HasSent (view_of (other_end e) o.built.steps) (Data n)) is o.sent
              ];
            }

    offer_up_to : (k : ℕ) → k ≤ block_count (blksize_of m) wire → k ≤ a + windowsize_of m → Built m wire e h → Prefix k
    offer_up_to zero low near b = record { built = b; sent = λ i from to. absurd (omega arith) }
    offer_up_to (suc k) low near b = one_more k low near (offer_up_to k (omega arith) (omega arith) b)

  offer_data : (k : ℕ) → Built m wire e h → MayComeData m wire e (heard h) k → Offered m wire e h (Data k)
  offer_data k b may =
      let w = may.in_window in
      let up = offer_up_to may.receiver may.started w.0 w.1 k may.in_wire w.2 b in
      record { built = up.built; sent = up.sent k may.from_one (omega arith) }

  offer : (p : MachinePacket) → is_error p ≡ false → Built m wire e h → MayCome m wire e h p → Offered m wire e h p
  offer Req plain b may = already b Req (b.asked may)
  offer Oack plain b may = offer_oack b may (asked_heard m wire e h all may.client may.asked)
  offer (Data k) plain b may = offer_data k b may
  offer (Ack j) plain b may = offer_ack j b may
  offer (Error code text) plain b may = absurd (true≢false plain)

-- no more is heard, and what passed is there
built_still : (m : Meaning) (wire : List ℕ) (e : End) (d : Deed) (h : History) → heard (d ∷ h) ≡ heard h → (b : Built m wire e h) → ((p : MachinePacket) → is_error p ≡ false → d ≡ Took p → HasSent (view_of (other_end e) b.steps) p) → Built m wire e (d ∷ h)
built_still m wire e d h same b came = record {
  steps = b.steps;
  run = b.run;
  view = b.view ∙ sym same;
  eager = b.eager;
  silent = b.silent;
  given = λ p plain at. elim (contains_cases d h (Took p) at) [ inl now ↦ came p plain now | inr before ↦ b.given p plain before ];
  asked = b.asked;
  answered = b.answered;
}

-- a step of the tap
pub tap_follow : (m : Meaning) (wire : List ℕ) (e : End) (earlier : List Step) (d : Deed) → IsOpen (view_of (other_end e) earlier) d → HalfFollow m wire (other_end e) earlier e d
tap_follow m wire e earlier d may = record { own = λ is. absurd (not_other e is); tap = λ is. may }

-- a packet passes towards the end, which takes it
built_sent : (m : Meaning) (wire : List ℕ) (e : End) (h : History) (p : MachinePacket) → stopped h ≡ false → Built m wire e h → Built m wire e (Sent p ∷ h)
built_sent m wire e h p going b = record {
  steps = after;
  run = (half_own m wire (other_end e) (by_own e (Sent p) b.steps) (Took p) (subst (λ x. HasSent (view_of x (by_own e (Sent p) b.steps)) p) (sym (other_other e)) (view_first e (Sent p) b.steps)), (tap_follow m wire e b.steps (Sent p) tt, b.run));
  view = other_view e (Took p) (by_own e (Sent p) b.steps) ∙ own_view e (Sent p) b.steps ∙ ap (λ v. Sent p ∷ v) (b.view ∙ heard_all h going) ∙ sym (heard_all (Sent p ∷ h) going);
  eager = λ q at. elim (view_cases e e (Sent p) b.steps (Sent q) (subst (λ v. HasSent v q) (other_view e (Took p) (by_own e (Sent p) b.steps)) at)) [
    | inl same ↦ let is : p ≡ q = cc in subst (HasTaken (view_of (other_end e) after)) is (view_first (other_end e) (Took p) (by_own e (Sent p) b.steps))
    | inr before ↦ kept (Took q) (b.eager q before)
  ];
  silent = λ code text at. b.silent code text (others (Error code text) at);
  given = λ q plain at. kept (Sent q) (b.given q plain (elim (contains_cases (Sent p) h (Took q) at) [ inl now ↦ absurd (cc) | inr before ↦ before ]));
  asked = λ is. kept (Sent Req) (b.asked is);
  answered = λ get some k at. kept (Sent Oack) (b.answered get some k (others (Data k) at));
}
  where
    after : List Step
    after = by_other e (Took p) (by_own e (Sent p) b.steps)

    kept : (d : Deed) → Contains (view_of (other_end e) b.steps) d → Contains (view_of (other_end e) after) d
    kept d at = view_later (other_end e) (other_end e) (Took p) (by_own e (Sent p) b.steps) d (view_later (other_end e) e (Sent p) b.steps d at)

    others : (q : MachinePacket) → HasSent (view_of (other_end e) after) q → HasSent (view_of (other_end e) b.steps) q
    others q at = elim (view_cases (other_end e) (other_end e) (Took p) (by_own e (Sent p) b.steps) (Sent q) at) [
      | inl now ↦ absurd (cc)
      | inr before ↦ subst (λ v. HasSent v q) (hidden_view e (Sent p) b.steps) before
    ]

-- what the end has sent passes
built_took : (m : Meaning) (wire : List ℕ) (e : End) (h : History) (p : MachinePacket) → stopped h ≡ false → is_error p ≡ false → Offered m wire e h p → Built m wire e (Took p ∷ h)
built_took m wire e h p going plain o = record {
  steps = by_own e (Took p) o.built.steps;
  run = (tap_follow m wire e o.built.steps (Took p) o.sent, o.built.run);
  view = own_view e (Took p) o.built.steps ∙ ap (λ v. Took p ∷ v) (o.built.view ∙ heard_all h going) ∙ sym (heard_all (Took p ∷ h) (rw (plain) going));
  eager = λ q at. elim (view_cases e e (Took p) o.built.steps (Sent q) at) [
    | inl same ↦ absurd (cc)
    | inr before ↦ kept (Took q) (o.built.eager q before)
  ];
  silent = λ code text at. o.built.silent code text (before_it (Error code text) at);
  given = λ q other at. kept (Sent q) (elim (contains_cases (Took p) h (Took q) at) [
    | inl now ↦ let is : p ≡ q = cc in subst (HasSent (view_of (other_end e) o.built.steps)) is o.sent
    | inr before ↦ o.built.given q other before
  ]);
  asked = λ is. kept (Sent Req) (o.built.asked is);
  answered = λ get some k at. kept (Sent Oack) (o.built.answered get some k (before_it (Data k) at));
}
  where
    kept : (d : Deed) → Contains (view_of (other_end e) o.built.steps) d → Contains (view_of (other_end e) (by_own e (Took p) o.built.steps)) d
    kept d at = view_later (other_end e) e (Took p) o.built.steps d at

    before_it : (q : MachinePacket) → HasSent (view_of (other_end e) (by_own e (Took p) o.built.steps)) q → HasSent (view_of (other_end e) o.built.steps) q
    before_it q at = elim (view_cases (other_end e) e (Took p) o.built.steps (Sent q) at) [ inl now ↦ absurd (cc) | inr before ↦ before ]

-- a client begins with its request
begin : (m : Meaning) (wire : List ℕ) (e : End) → Built m wire e []
begin m wire Client = record {
  steps = [];
  run = tt;
  view = refl;
  eager = λ p at. absurd (contains_none (Sent p) at);
  silent = λ code text at. absurd (contains_none (Sent (Error code text)) at);
  given = λ p plain at. absurd (contains_none (Took p) at);
  asked = λ is. absurd (cc);
  answered = λ get some k at. absurd (contains_none (Sent (Data k)) at);
}
begin m wire Server = record {
  steps = by_own Client (Sent Req) [];
  run = (
    half_own m wire Client [] (Sent Req) (record {
      client = refl;
      no_error = λ code text at. contains_none (Sent (Error code text)) at;
      no_data = λ k at. contains_none (Sent (Data k)) at;
      no_ack = λ j at. contains_none (Sent (Ack j)) at;
    }),
    tt,
  );
  view = refl;
  eager = λ p at. absurd (contains_none (Sent p) at);
  silent = λ code text at. none (Error code text) at (λ is. cc);
  given = λ p plain at. absurd (contains_none (Took p) at);
  asked = λ is. contains_first (Sent Req) [];
  answered = λ get some k at. absurd (none (Data k) at (λ is. cc));
}
  where
    none : (p : MachinePacket) → HasSent (Sent Req ∷ []) p → (Req ≡ p → ⊥) → ⊥
    none p at other = elim (contains_cases (Sent Req) [] (Sent p) at) [ inl now ↦ other (cc) | inr before ↦ contains_none (Sent p) before ]

pub build : (m : Meaning) (wire : List ℕ) (e : End) (h : History) → Comes m wire e h → Built m wire e h
build m wire e [] all = begin m wire e
build m wire e (Sent p ∷ h) all = elim (either h) [
  | inl over ↦ built_still m wire e (Sent p) h (heard_stopped (Sent p) h over) (build m wire e h all.1) (λ q plain now. absurd (cc))
  | inr going ↦ built_sent m wire e h p going (build m wire e h all.1)
]
build m wire e (Took p ∷ h) all = by (is_error p) refl (build m wire e h all.1) where
  by : (x : Bool) → is_error p ≡ x → Built m wire e h → Built m wire e (Took p ∷ h)
  by true is b = built_still m wire e (Took p) h (rw (is) refl) b (λ q plain now. let same : p ≡ q = cc in absurd (true≢false (sym is ∙ ap is_error same ∙ plain)))
  by false plain b = let o = offer m wire e h all.1 p plain b all.0 in elim (either h) [
    | inl over ↦ built_still m wire e (Took p) h (heard_stopped (Took p) h (still_stopped (Took p) h over)) o.built (λ q other now. let is : p ≡ q = cc in subst (HasSent (view_of (other_end e) o.built.steps)) is o.sent)
    | inr going ↦ built_took m wire e h p going plain o
  ]
