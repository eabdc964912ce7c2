-- What passed as one end's history: all that came might come, and what it acknowledged had come.
use Rattle.std.proofs.Common.{◌≡◌, ℕ, ◌+◌, ◌-◌, ◌≤◌, ◌⊎◌, ◌↔◌, true, false, List, [], ◌∷◌, Contains, inl, inr, refl, sym, subst, ◌∙◌, arith}
use Rattle.std.proofs.lemmas.Bool.{cases_lt, true≢false}
use Rattle.tftp_packet.specs.{Get, End, Client, Server}
use Rattle.law_model.specs.Model.{Meaning, Deed, Sent, Took, MachinePacket, Req, Oack, Data, Ack, Error, History, HasSent, HasTaken, MaySend, MaySendData, Step, view_of, MayFollow, heard, LetsAckZeroOn, MayComeError, MayCome}
use Rattle.law_model.specs.Model.Machines.{other_end}
use Rattle.law_model.proofs.ModelLemmas.Members.{contains_first, contains_later, contains_cases, contains_none}
use Rattle.law_model.proofs.ModelLemmas.Stops.{stopped, either, heard_all, heard_stopped, heard_done, taken_stops, first_error, Stop}
use Rattle.law_tap.specs.{Pass, deed_at, as_at, MayPass, MayPassEach}
use Rattle.law_tap.proofs.Halves.{IsHalf, HalfFollow}
use Rattle.law_tap.proofs.Passed.{sent_passed, at_took}

-- ---- what passed, at one end

pub record AckBacked (m : Meaning) (h : History) (j : ℕ) : Type 0 where
  pub blocks : (k : ℕ) → 1 ≤ k → k ≤ j → HasTaken h (Data k)
  pub zero : j ≡ 0 → m.side ≡ Get → HasTaken h Oack

abbrev pub IsBacked : Meaning → History → MachinePacket → Type 0
IsBacked m h (Ack j) = AckBacked m h j
IsBacked m h Req = Unit {0}
IsBacked m h Oack = Unit {0}
IsBacked m h (Data k) = Unit {0}
IsBacked m h (Error code text) = Unit {0}

abbrev pub Comes : Meaning → List ℕ → End → History → Type 0
Comes m wire e [] = Unit {0}
Comes m wire e (Took p ∷ h) = MayCome m wire e h p × Comes m wire e h
Comes m wire e (Sent p ∷ h) = IsBacked m h p × Comes m wire e h

module _ (m : Meaning) (wire : List ℕ) where
  -- what passed from the other end came to this one
  came : (e : End) (p : MachinePacket) (passed : List Pass) → HasSent (heard (as_at (other_end e) passed)) p → HasTaken (as_at e passed) p
  came e p passed at = at_took e p passed (sent_passed (other_end e) p passed (heard_done (as_at (other_end e) passed) (Sent p) at))

  backed : (e : End) (p : MachinePacket) (passed : List Pass) → MayPass m wire passed e p → IsBacked m (as_at e passed) p
  backed e (Ack j) passed may = record {
    blocks = λ k low high. came e (Data k) passed (may.sent k low high);
    zero = λ none get. came e Oack passed (subst (λ side. LetsAckZeroOn side m (heard (as_at (other_end e) passed))) get (may.zero none)).1;
  }
  backed e _ passed may = tt

  pass_comes : (e f : End) (p : MachinePacket) (passed : List Pass) → MayPass m wire passed f p → Comes m wire e (as_at e passed) → Comes m wire e (deed_at e f p ∷ as_at e passed)
  pass_comes Client Client p passed may before = (backed Client p passed may, before)
  pass_comes Client Server p passed may before = (may, before)
  pass_comes Server Client p passed may before = (may, before)
  pass_comes Server Server p passed may before = (backed Server p passed may, before)

  pub comes : (e : End) (passed : List Pass) → MayPassEach m wire passed → Comes m wire e (as_at e passed)
  comes e [] may = tt
  comes e (x ∷ passed) may = pass_comes e x.from x.packet passed may.0 (comes e passed may.1)

  pub comes_tail : (e : End) (d : Deed) (h : History) → Comes m wire e (d ∷ h) → Comes m wire e h
  comes_tail e (Sent p) h all = all.1
  comes_tail e (Took p) h all = all.1

  backed_more : (d : Deed) (h : History) (j : ℕ) → AckBacked m h j → AckBacked m (d ∷ h) j
  backed_more d h j b = record { blocks = λ k low high. contains_later d h (Took (Data k)) (b.blocks k low high); zero = λ none get. contains_later d h (Took Oack) (b.zero none get) }

  -- an ACK that passed is backed
  pub ack_backed : (e : End) (j : ℕ) (h : History) → Comes m wire e h → HasSent h (Ack j) → AckBacked m h j
  ack_backed e j [] all at = absurd (contains_none (Sent (Ack j)) at)
  ack_backed e j (d ∷ h) all at = backed_more d h j (elim (contains_cases d h (Sent (Ack j)) at) [
    | inl now ↦ (subst (λ x. Comes m wire e (x ∷ h)) now all).0
    | inr before ↦ ack_backed e j h (comes_tail e d h all) before
  ])

  -- ---- the ERROR that came: after a request, and no other came

  comes_error : (e : End) (d : Deed) (h : History) (code : ℕ) (text : List ℕ) → Comes m wire e (d ∷ h) → d ≡ Took (Error code text) → MayComeError e h code text
  comes_error e d h code text all is = (subst (λ x. Comes m wire e (x ∷ h)) is all).0

  pub stop : (e : End) (h : History) → Comes m wire e h → stopped h ≡ true → Stop e h
  stop e [] all over = absurd (true≢false (sym over))
  stop e (d ∷ h) all over = elim (either h) [ inl before ↦ more (stop e h (comes_tail e d h all) before) | inr going ↦ first going (first_error d h over going) ]
    where
      more : Stop e h → Stop e (d ∷ h)
      more s = record {
        code = s.code;
        text = s.text;
        came = contains_later d h (Took (Error s.code s.text)) s.came;
        asked = λ is. subst (λ v. HasSent v Req) (sym (heard_stopped d h over)) (s.asked is);
        only = λ c words at. elim (contains_cases d h (Took (Error c words)) at) [
          | inl now ↦ let same = (comes_error e d h c words all now).same s.code s.text s.came in (sym same.0, sym same.1)
          | inr before ↦ s.only c words before
        ];
      }

      first : stopped h ≡ false → ((code : ℕ) × (text : List ℕ) × (d ≡ Took (Error code text))) → Stop e (d ∷ h)
      first going (code, text, now) = record {
        code = code;
        text = text;
        came = subst (λ x. Contains (x ∷ h) (Took (Error code text))) (sym now) (contains_first (Took (Error code text)) h);
        asked = λ is. subst (λ v. HasSent v Req) (sym (heard_stopped d h over ∙ heard_all h going)) ((comes_error e d h code text all now).asked is);
        only = λ c words at. elim (contains_cases d h (Took (Error c words)) at) [
          | inl too ↦ let is : Error c words ≡ Error code text = cc in (cc, cc)
          | inr before ↦ absurd (true≢false (sym (taken_stops c words h before) ∙ going))
        ];
      }

  pub asked_heard : (e : End) (h : History) → Comes m wire e h → e ≡ Client → HasSent h Req → HasSent (heard h) Req
  asked_heard e h all client at = elim (either h) [ inl over ↦ (stop e h all over).asked client | inr going ↦ subst (λ v. HasSent v Req) (sym (heard_all h going)) at ]

  -- ---- the blocks that an end has sent

  abbrev SendsEach : End → History → Type 0
  SendsEach x [] = Unit {0}
  SendsEach x (Sent p ∷ h) = MaySend m wire x h p × SendsEach x h
  SendsEach x (Took p ∷ h) = SendsEach x h

  own_sends : (x : End) (d : Deed) (steps : List Step) → MayFollow m wire steps x d → SendsEach x (view_of x steps) → SendsEach x (d ∷ view_of x steps)
  own_sends x (Sent p) steps may before = (may, before)
  own_sends x (Took p) steps may before = before

  step_sends : (x a : End) (d : Deed) (steps : List Step) → HalfFollow m wire x steps a d → SendsEach x (view_of x steps) → SendsEach x (view_of x (record { actor = a; deed = d } ∷ steps))
  step_sends Client Client d steps may before = own_sends Client d steps (may.own refl) before
  step_sends Client Server d steps may before = before
  step_sends Server Client d steps may before = before
  step_sends Server Server d steps may before = own_sends Server d steps (may.own refl) before

  half_sends : (x : End) (steps : List Step) → IsHalf m wire x steps → SendsEach x (view_of x steps)
  half_sends x [] run = tt
  half_sends x (s ∷ steps) run = step_sends x s.actor s.deed steps run.0 (half_sends x steps run.1)

  -- exactly the blocks 1 to top were sent
  abbrev pub SentUpTo : History → ℕ → Type 0
  SentUpTo h top = (k : ℕ) → HasSent h (Data k) ↔ ((1 ≤ k) × (k ≤ top))

  keep : (d : Deed) (h : History) (top : ℕ) → ((k : ℕ) → d ≡ Sent (Data k) → ⊥) → SentUpTo h top → SentUpTo (d ∷ h) top
  keep d h top differs all k = (
    λ at. elim (contains_cases d h (Sent (Data k)) at) [ inl same ↦ absurd (differs k same) | inr before ↦ (all k).0 before ],
    λ range. contains_later d h (Sent (Data k)) ((all k).1 range),
  )

  one_more : (j : ℕ) (h : History) (top next : ℕ) → 1 ≤ j → j ≤ top + 1 → (top ≤ next) × (j ≤ next) × ((next ≡ top) ⊎ (next ≡ j)) → SentUpTo h top → SentUpTo (Sent (Data j) ∷ h) next
  one_more j h top next one near is all k = (
    λ at. elim (contains_cases (Sent (Data j)) h (Sent (Data k)) at) [
      | inl same ↦ let e : j ≡ k = cc in (omega arith, omega arith)
      | inr before ↦ let r = (all k).0 before in (r.0, omega arith)
    ],
    λ range. elim (cases_lt top k) [
      | inl above ↦
          let e : j ≡ k = elim is.2 [ inl same ↦ absurd (omega arith) | inr same ↦ omega arith ] in
          subst (λ x. HasSent (Sent (Data j) ∷ h) (Data x)) e (contains_first (Sent (Data j)) h)
      | inr low ↦ contains_later (Sent (Data j)) h (Sent (Data k)) ((all k).1 (range.0, low))
    ],
  )

  near_top : (x : End) (h : History) (top j : ℕ) → MaySendData m wire x h j → SentUpTo h top → j ≤ top + 1
  near_top x h top j may all = elim may.in_order [
    | inl first ↦ omega arith
    | inr sent ↦ let before = (all (j - 1)).0 sent in omega arith
  ]

  sends_blocks : (x : End) (h : History) → SendsEach x h → (top : ℕ) × SentUpTo h top
  sends_blocks x [] each = (0, λ k. (λ at. absurd (contains_none _ at), λ range. absurd (omega arith)))
  sends_blocks x (Took p ∷ h) each = let b = sends_blocks x h each in (b.0, keep (Took p) h b.0 (λ k e. cc) b.1)
  sends_blocks x (Sent Req ∷ h) each = let b = sends_blocks x h each.1 in (b.0, keep (Sent Req) h b.0 (λ k e. cc) b.1)
  sends_blocks x (Sent Oack ∷ h) each = let b = sends_blocks x h each.1 in (b.0, keep (Sent Oack) h b.0 (λ k e. cc) b.1)
  sends_blocks x (Sent (Ack j) ∷ h) each = let b = sends_blocks x h each.1 in (b.0, keep (Sent (Ack j)) h b.0 (λ k e. cc) b.1)
  sends_blocks x (Sent (Error code text) ∷ h) each = let b = sends_blocks x h each.1 in (b.0, keep (Sent (Error code text)) h b.0 (λ k e. cc) b.1)
  sends_blocks x (Sent (Data j) ∷ h) each =
      let b = sends_blocks x h each.1 in
      let near = near_top x h b.0 j each.0 b.1 in
      let one = each.0.from_one in
      elim (cases_lt b.0 j) [
        | inl above ↦ (j, one_more j h b.0 j one near (omega arith, omega arith, inr refl) b.1)
        | inr low ↦ (b.0, one_more j h b.0 b.0 one near (omega arith, low, inl refl) b.1)
      ]

  pub blocks_sent : (x : End) (steps : List Step) → IsHalf m wire x steps → (top : ℕ) × SentUpTo (view_of x steps) top
  blocks_sent x steps run = sends_blocks x (view_of x steps) (half_sends x steps run)
