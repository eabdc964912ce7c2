-- From a history that one end might have to a run: the other end takes each packet when it is sent, and sends one just
-- before it comes.
use Rattle.std.proofs.Common.{◌≡◌, ℕ, zero, suc, ◌+◌, ◌-◌, ◌≤◌, ◌⊎◌, Bool, true, false, List, [], ◌∷◌, inl, inr, refl, sym, subst, ap, ◌∙◌, arith}
use Rattle.std.proofs.lemmas.Bool.{cases_lt, true≢false}
use Rattle.tftp_packet.specs.{Side, Get, Put, End, Client, Server}
use Rattle.law_model.specs.Model.{Meaning, blksize_of, windowsize_of, block_count, Deed, Sent, Took, MachinePacket, Req, Oack, Data, Ack, Error, History, HasSent, HasTaken, IsStartedOn, MayAckZeroOn, MaySend, NoErrorSent, Step, view_of, IsRun, is_error, heard, LetsStartOn, LetsAckZeroOn, MayComeOack, MayComeData, MayComeAck, MayCome, IsOneSided}
use Rattle.law_model.specs.Model.Machines.{other_end, sender_of, receiver_of}
use Rattle.law_model.proofs.ModelLemmas.Members.{contains_first, contains_later, contains_cases, contains_none}
use Rattle.law_model.proofs.ModelLemmas.Views.{view_first, view_later, view_cases}
use Rattle.law_model.proofs.ModelLemmas.Moments.{taken_was_sent}
use Rattle.law_model.proofs.ModelLemmas.Blocks.{SentUpTo, blocks_sent, acknowledged_was_taken}
use Rattle.law_model.proofs.ModelLemmas.Starts.{read_agreed, client_asked_first}
use Rattle.law_model.proofs.ModelLemmas.Stops.{stopped, either, heard_all, heard_stopped, still_stopped, asked_heard}
use Rattle.law_model.proofs.ModelLemmas.OtherEnd.{other_other, other_sends, other_receives, by_own, by_other, own_view, other_view, hidden_view}

abbrev Eager : End → List Step → Type 0
Eager e steps = (p : MachinePacket) → HasSent (view_of e steps) p → HasTaken (view_of (other_end e) steps) p

-- a run in which the other end is eager and has sent no ERROR, and this end did what the other one can have used.
-- What came to this end since then, but an ERROR, was sent too.
pub record Built (m : Meaning) (wire : List ℕ) (e : End) (h : History) : Type 0 where
  pub steps : List Step
  pub run : IsRun m wire steps
  pub view : view_of e steps ≡ heard h
  pub eager : Eager e steps
  pub silent : NoErrorSent (view_of (other_end e) steps)
  pub given : (p : MachinePacket) → is_error p ≡ false → HasTaken h p → HasSent (view_of (other_end e) steps) p

-- the other end did more, and so has sent the packet
pub record Offered (m : Meaning) (wire : List ℕ) (e : End) (h : History) (p : MachinePacket) : Type 0 where
  pub built : Built m wire e h
  pub sent : HasSent (view_of (other_end e) built.steps) p

differs : (p : MachinePacket) (code : ℕ) (text : List ℕ) → is_error p ≡ false → Sent p ≡ Sent (Error code text) → ⊥
differs p code text plain same = let is : p ≡ Error code text = cc in true≢false (sym (ap is_error is) ∙ plain)

-- one more step of the other end
abbrev other_step : (m : Meaning) (wire : List ℕ) (e : End) (h : History) (b : Built m wire e h) (p : MachinePacket) → is_error p ≡ false → MaySend m wire (other_end e) (view_of (other_end e) b.steps) p → Offered m wire e h p
other_step m wire e h b p plain may = record {
  built = record {
    steps = by_other e (Sent p) b.steps;
    run = (may, b.run);
    view = other_view e (Sent p) b.steps ∙ b.view;
    eager = λ q at. view_later (other_end e) (other_end e) (Sent p) b.steps (Took q) (b.eager q (subst (λ v. HasSent v q) (other_view e (Sent p) b.steps) at));
    silent = λ code text at. elim (view_cases (other_end e) (other_end e) (Sent p) b.steps (Sent (Error code text)) at) [
      | inl now ↦ differs p code text plain now.1
      | inr before ↦ b.silent code text before
    ];
    given = λ q other at. view_later (other_end e) (other_end e) (Sent p) b.steps (Sent q) (b.given q other at);
  };
  sent = view_first (other_end e) (Sent p) b.steps;
}

-- ---- what the other end has sent

some_sent : (test : MachinePacket → Bool) (h : History) → ((p : MachinePacket) × HasSent h p × (test p ≡ true)) ⊎ ((p : MachinePacket) → HasSent h p → test p ≡ false)
some_sent test [] = inr (λ p at. absurd (contains_none (Sent p) at))
some_sent test (d ∷ h) = elim (some_sent test h) [
  | inl found ↦ inl (found.0, contains_later d h (Sent found.0) found.1, found.2)
  | inr none ↦ now d (λ p at. none p at)
]
  where
    by : (q : MachinePacket) (b : Bool) → test q ≡ b → ((p : MachinePacket) → HasSent h p → test p ≡ false)
        → ((p : MachinePacket) × HasSent (Sent q ∷ h) p × (test p ≡ true)) ⊎ ((p : MachinePacket) → HasSent (Sent q ∷ h) p → test p ≡ false)
    by q true is none = inl (q, contains_first (Sent q) h, is)
    by q false is none = inr (λ p at. elim (contains_cases (Sent q) h (Sent p) at) [ inl same ↦ let e : q ≡ p = cc in subst (λ x. test x ≡ false) e is | inr before ↦ none p before ])

    now : (d : Deed) → ((p : MachinePacket) → HasSent h p → test p ≡ false) → ((p : MachinePacket) × HasSent (d ∷ h) p × (test p ≡ true)) ⊎ ((p : MachinePacket) → HasSent (d ∷ h) p → test p ≡ false)
    now (Sent q) none = by q (test q) refl none
    now (Took q) none = inr (λ p at. elim (contains_cases (Took q) h (Sent p) at) [ inl same ↦ absurd (cc) | inr before ↦ none p before ])

abbrev any_packet : MachinePacket → Bool
any_packet p = true

abbrev is_block : MachinePacket → Bool
is_block (Data k) = true
is_block _ = false

block_is : (p : MachinePacket) → is_block p ≡ true → (k : ℕ) × (p ≡ Data k)
block_is (Data k) e = (k, refl)
block_is _ e = absurd (true≢false (sym e))

module _ (m : Meaning) (wire : List ℕ) (e : End) (h : History) where
  -- what can have been used, the other end has taken
  pub known : (b : Built m wire e h) (p : MachinePacket) → HasSent (heard h) p → HasTaken (view_of (other_end e) b.steps) p
  known b p at = b.eager p (subst (λ v. HasSent v p) (sym b.view) at)

  already : (b : Built m wire e h) (p : MachinePacket) → HasSent (view_of (other_end e) b.steps) p → Offered m wire e h p
  already b p at = record { built = b; sent = at }

  -- a hidden client has asked, or has sent nothing
  pub offer_req : Built m wire e h → e ≡ Server → Offered m wire e h Req
  offer_req b is = elim (some_sent any_packet (view_of (other_end e) b.steps)) [
    | inl found ↦ already b Req (subst (λ x. HasSent (view_of x b.steps) Req) (sym client) (client_asked_first m wire b.steps b.run found.0 (subst (λ x. HasSent (view_of x b.steps) found.0) client found.1)))
    | inr none ↦ other_step m wire e h b Req refl (record {
      client = client;
      no_error = b.silent;
      no_data = λ k at. true≢false (none (Data k) at);
      no_ack = λ j at. true≢false (none (Ack j) at);
    })
  ]
    where
      client : other_end e ≡ Client
      client = ap other_end is

  -- a hidden server has answered, or may do so
  offer_oack : Built m wire e h → MayComeOack m e h → HasSent (heard h) Req → Offered m wire e h Oack
  offer_oack b may asked = elim (some_sent is_block (view_of (other_end e) b.steps)) [
    | inl found ↦ let block = block_is found.0 found.2 in by m.side refl block.0 (subst (λ x. HasSent (view_of x b.steps) (Data block.0)) server (subst (HasSent (view_of (other_end e) b.steps)) block.1 found.1))
    | inr none ↦ answer (λ get k at. true≢false (none (Data k) at))
  ]
    where
      server : other_end e ≡ Server
      server = ap other_end may.client

      answer : (m.side ≡ Get → (k : ℕ) → HasSent (view_of (other_end e) b.steps) (Data k) → ⊥) → Offered m wire e h Oack
      answer none = other_step m wire e h b Oack refl (record { server = server; no_error = b.silent; agreed = may.agreed; asked = known b Req asked; no_data = none })

      by : (side : Side) → m.side ≡ side → (k : ℕ) → HasSent (view_of Server b.steps) (Data k) → Offered m wire e h Oack
      by Get get k at = already b Oack (subst (λ x. HasSent (view_of x b.steps) Oack) (sym server)
          (taken_was_sent m wire b.steps b.run Client Oack (read_agreed m wire b.steps b.run get may.agreed k at).1))
      by Put put k at = answer (λ get. let both : Get ≡ Put = sym get ∙ put in absurd (cc))

  -- a hidden receiver
  offer_ack : (j : ℕ) → Built m wire e h → MayComeAck m e (heard h) j → Offered m wire e h (Ack j)
  offer_ack j b may = other_step m wire e h b (Ack j) refl (record {
    no_error = b.silent;
    receiver = ap other_end may.sender ∙ other_receives m.side;
    zero = λ none. zero m.side (may.zero none);
    taken = λ k low high. known b (Data k) (may.sent k low high);
  })
    where
      zero : (side : Side) → LetsAckZeroOn side m (heard h) → MayAckZeroOn side m (view_of (other_end e) b.steps)
      zero Get z = (z.0, known b Oack z.1)
      zero Put z = elim z [ inl plain ↦ inl (plain.0, known b Req plain.1) | inr oacked ↦ inr (oacked.0, oacked.1, known b (Data oacked.1) oacked.2) ]

  -- a hidden sender, which sends all blocks up to this one that it has not sent
  record Prefix (k : ℕ) : Type 0 where
    built : Built m wire e h
    sent : (i : ℕ) → 1 ≤ i → i ≤ k → HasSent (view_of (other_end e) built.steps) (Data i)

  module _ (receiver : e ≡ receiver_of m.side) (lets : LetsStartOn m.side m (heard h)) (a : ℕ) (given : (a ≡ 0) ⊎ HasSent (heard h) (Ack a)) where
    sends : other_end e ≡ sender_of m.side
    sends = ap other_end receiver ∙ other_sends m.side

    started : (b : Built m wire e h) (side : Side) → LetsStartOn side m (heard h) → IsStartedOn side m (view_of (other_end e) b.steps)
    started b Get s = elim s [ inl plain ↦ inl (plain.0, known b Req plain.1) | inr oacked ↦ inr (oacked.0, known b (Ack 0) oacked.1) ]
    started b Put s = elim s [ inl plain ↦ inl (plain.0, known b (Ack 0) plain.1) | inr oacked ↦ inr (oacked.0, known b Oack oacked.1) ]

    -- the acknowledged block was sent
    acked_below : (b : Built m wire e h) (top : ℕ) → ((k : ℕ) → HasSent (view_of (other_end e) b.steps) (Data k) → k ≤ top) → a ≤ top
    acked_below b top all = elim given [ inl none ↦ omega arith | inr acked ↦ by a refl acked ] where
      by : (n : ℕ) → n ≡ a → HasSent (heard h) (Ack a) → a ≤ top
      by zero is acked = omega arith
      by (suc n) is acked =
          let sent : HasSent (view_of e b.steps) (Ack a) = subst (λ v. HasSent v (Ack a)) (sym b.view) acked in
          all a (taken_was_sent m wire b.steps b.run e (Data a) (acknowledged_was_taken m wire b.steps b.run e a a sent (omega arith) (omega arith)))

    one_more : (k : ℕ) → suc k ≤ block_count (blksize_of m) wire → suc k ≤ a + windowsize_of m → Prefix k → Prefix (suc k)
    one_more k low near p = elim (cases_lt top (suc k)) [
      | inl above ↦ send (omega arith)
      | inr within ↦ record { built = b; sent = λ i from to. subst (λ x. HasSent (view_of x b.steps) (Data i)) (sym sends) ((all i).1 (from, omega arith)) }
    ]
      where
        b : Built m wire e h
        b = p.built

        top : ℕ
        top = (blocks_sent m wire b.steps b.run).0

        all : SentUpTo m b.steps top
        all = (blocks_sent m wire b.steps b.run).1

        below : (i : ℕ) → HasSent (view_of (other_end e) b.steps) (Data i) → i ≤ top
        below i at = ((all i).0 (subst (λ x. HasSent (view_of x b.steps) (Data i)) sends at)).1

        order : (i : ℕ) → i ≡ k → (suc k ≡ 1) ⊎ HasSent (view_of (other_end e) b.steps) (Data (suc k - 1))
        order zero is = inl (omega arith)
        order (suc i) is = let at : k ≡ suc k - 1 = omega arith in inr (subst (λ n. HasSent (view_of (other_end e) b.steps) (Data n)) at (p.sent k (omega arith) (omega arith)))

        send : top ≤ k → Prefix (suc k)
        send upto =
            let acked : a ≤ top = acked_below b top below in
            let o = other_step m wire e h b (Data (suc k)) refl (record {
              no_error = b.silent;
              sender = sends;
              from_one = omega arith;
              in_wire = low;
              started = started b m.side lets;
              in_order = order k refl;
              in_window = (a, elim given [ inl none ↦ inl none | inr at ↦ inr (known b (Ack a) at) ], omega arith, near);
              in_step = λ one higher at. let under = below higher at in omega arith;
            }) in
            record {
              built = o.built;
              sent = λ i from to. elim (cases_lt i (suc k)) [
                | inl before ↦ view_later (other_end e) (other_end e) (Sent (Data (suc k))) b.steps (Sent (Data i)) (p.sent i from (omega arith))
                | inr at ↦ let is : suc k ≡ i = omega arith in subst (λ n. HasSent (view_of (other_end e) o.built.steps) (Data n)) is o.sent
              ];
            }

    offer_up_to : (k : ℕ) → k ≤ block_count (blksize_of m) wire → k ≤ a + windowsize_of m → Built m wire e h → Prefix k
    offer_up_to zero low near b = record { built = b; sent = λ i from to. absurd (omega arith) }
    offer_up_to (suc k) low near b = one_more k low near (offer_up_to k (omega arith) (omega arith) b)

  offer_data : (k : ℕ) → Built m wire e h → MayComeData m wire e (heard h) k → Offered m wire e h (Data k)
  offer_data k b may =
      let w = may.in_window in
      let all = offer_up_to may.receiver may.started w.0 w.1 k may.in_wire w.2 b in
      record { built = all.built; sent = all.sent k may.from_one (omega arith) }

  offer : (p : MachinePacket) → is_error p ≡ false → IsOneSided m wire e h → Built m wire e h → MayCome m wire e h p → Offered m wire e h p
  offer Req plain lawful b may = offer_req b may
  offer Oack plain lawful b may = offer_oack b may (asked_heard m wire e h lawful may.client may.asked)
  offer (Data k) plain lawful b may = offer_data k b may
  offer (Ack j) plain lawful b may = offer_ack j b may
  offer (Error code text) plain lawful b may = absurd (true≢false plain)

-- no more is heard, and what came is there
built_still : (m : Meaning) (wire : List ℕ) (e : End) (d : Deed) (h : History) → heard (d ∷ h) ≡ heard h → (b : Built m wire e h) → ((p : MachinePacket) → is_error p ≡ false → d ≡ Took p → HasSent (view_of (other_end e) b.steps) p) → Built m wire e (d ∷ h)
built_still m wire e d h same b came = record {
  steps = b.steps;
  run = b.run;
  view = b.view ∙ sym same;
  eager = b.eager;
  silent = b.silent;
  given = λ p plain at. elim (contains_cases d h (Took p) at) [ inl now ↦ came p plain now | inr before ↦ b.given p plain before ];
}

-- this end sends a packet, and the other one takes it
built_sent : (m : Meaning) (wire : List ℕ) (e : End) (h : History) (p : MachinePacket) → stopped h ≡ false → MaySend m wire e h p → Built m wire e h → Built m wire e (Sent p ∷ h)
built_sent m wire e h p going may b = record {
  steps = by_other e (Took p) (by_own e (Sent p) b.steps);
  run = (subst (λ x. HasSent (view_of x (by_own e (Sent p) b.steps)) p) (sym (other_other e)) (view_first e (Sent p) b.steps), (subst (λ v. MaySend m wire e v p) (sym (b.view ∙ heard_all h going)) may, b.run));
  view = other_view e (Took p) (by_own e (Sent p) b.steps) ∙ own_view e (Sent p) b.steps ∙ ap (λ v. Sent p ∷ v) (b.view ∙ heard_all h going) ∙ sym (heard_all (Sent p ∷ h) going);
  eager = λ q at. elim (view_cases e e (Sent p) b.steps (Sent q) (subst (λ v. HasSent v q) (other_view e (Took p) (by_own e (Sent p) b.steps)) at)) [
    | inl same ↦ let is : p ≡ q = cc in subst (HasTaken (view_of (other_end e) (by_other e (Took p) (by_own e (Sent p) b.steps)))) is (view_first (other_end e) (Took p) (by_own e (Sent p) b.steps))
    | inr before ↦ view_later (other_end e) (other_end e) (Took p) (by_own e (Sent p) b.steps) (Took q) (view_later (other_end e) e (Sent p) b.steps (Took q) (b.eager q before))
  ];
  silent = λ code text at. b.silent code text (others (Error code text) at);
  given = λ q plain at. view_later (other_end e) (other_end e) (Took p) (by_own e (Sent p) b.steps) (Sent q) (view_later (other_end e) e (Sent p) b.steps (Sent q) (b.given q plain (elim (contains_cases (Sent p) h (Took q) at) [ inl now ↦ absurd (cc) | inr before ↦ before ])));
}
  where
    others : (q : MachinePacket) → HasSent (view_of (other_end e) (by_other e (Took p) (by_own e (Sent p) b.steps))) q → HasSent (view_of (other_end e) b.steps) q
    others q at = elim (view_cases (other_end e) (other_end e) (Took p) (by_own e (Sent p) b.steps) (Sent q) at) [
      | inl now ↦ absurd (cc)
      | inr before ↦ subst (λ v. HasSent v q) (hidden_view e (Sent p) b.steps) before
    ]

-- this end takes what the other one has sent
built_took : (m : Meaning) (wire : List ℕ) (e : End) (h : History) (p : MachinePacket) → stopped h ≡ false → is_error p ≡ false → Offered m wire e h p → Built m wire e (Took p ∷ h)
built_took m wire e h p going plain o = record {
  steps = by_own e (Took p) o.built.steps;
  run = (o.sent, o.built.run);
  view = own_view e (Took p) o.built.steps ∙ ap (λ v. Took p ∷ v) (o.built.view ∙ heard_all h going) ∙ sym (heard_all (Took p ∷ h) (rw (plain) going));
  eager = λ q at. elim (view_cases e e (Took p) o.built.steps (Sent q) at) [
    | inl same ↦ absurd (cc)
    | inr before ↦ view_later (other_end e) e (Took p) o.built.steps (Took q) (o.built.eager q before)
  ];
  silent = λ code text at. o.built.silent code text (elim (view_cases (other_end e) e (Took p) o.built.steps (Sent (Error code text)) at) [ inl now ↦ absurd (cc) | inr before ↦ before ]);
  given = λ q other at. view_later (other_end e) e (Took p) o.built.steps (Sent q) (elim (contains_cases (Took p) h (Took q) at) [
    | inl now ↦ let is : p ≡ q = cc in subst (HasSent (view_of (other_end e) o.built.steps)) is o.sent
    | inr before ↦ o.built.given q other before
  ]);
}

pub build : (m : Meaning) (wire : List ℕ) (e : End) (h : History) → IsOneSided m wire e h → Built m wire e h
build m wire e [] lawful = record { steps = []; run = tt; view = refl; eager = λ p at. absurd (contains_none (Sent p) at); silent = λ code text at. absurd (contains_none (Sent (Error code text)) at); given = λ p plain at. absurd (contains_none (Took p) at) }
build m wire e (Sent p ∷ h) lawful = elim (either h) [
  | inl over ↦ built_still m wire e (Sent p) h (heard_stopped (Sent p) h over) (build m wire e h lawful.1) (λ q plain now. absurd (cc))
  | inr going ↦ built_sent m wire e h p going lawful.0 (build m wire e h lawful.1)
]
build m wire e (Took p ∷ h) lawful = by (is_error p) refl (build m wire e h lawful.1) where
  by : (x : Bool) → is_error p ≡ x → Built m wire e h → Built m wire e (Took p ∷ h)
  by true is b = built_still m wire e (Took p) h (rw (is) refl) b (λ q plain now. let same : p ≡ q = cc in absurd (true≢false (sym is ∙ ap is_error same ∙ plain)))
  by false plain b = let o = offer m wire e h p plain lawful.1 b lawful.0 in elim (either h) [
    | inl over ↦ built_still m wire e (Took p) h (heard_stopped (Took p) h (still_stopped (Took p) h over)) o.built (λ q other now. let is : p ≡ q = cc in subst (HasSent (view_of (other_end e) o.built.steps)) is o.sent)
    | inr going ↦ built_took m wire e h p going plain o
  ]
