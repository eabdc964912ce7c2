-- Which blocks were sent in a run, and what allowed them.
use Rattle.std.proofs.Common.{◌≡◌, ℕ, ◌+◌, ◌-◌, ◌<◌, ◌≤◌, ◌⊎◌, ◌↔◌, List, [], ◌∷◌, inl, inr, refl, sym, subst, arith}
use Rattle.std.proofs.lemmas.Bool.{cases_lt}
use Rattle.tftp_packet.specs.{Side, Get, Put, End}
use Rattle.law_model.specs.Model.{Meaning, windowsize_of, blksize_of, block_count, Deed, Sent, Took, Req, Oack, Data, Ack, Error, HasSent, HasTaken, IsAcknowledged, MaySendData, Step, view_of, MayFollow, IsRun}
use Rattle.law_model.specs.Model.Machines.{other_end, sender_of, receiver_of}
use Rattle.law_model.proofs.ModelLemmas.Members.{contains_none}
use Rattle.law_model.proofs.ModelLemmas.Views.{view_first, view_later, view_cases}
use Rattle.law_model.proofs.ModelLemmas.Moments.{moment, taken_was_sent}

-- exactly the blocks 1 to top were sent
abbrev pub SentUpTo : Meaning → List Step → ℕ → Type 0
SentUpTo m steps top = (k : ℕ) → HasSent (view_of (sender_of m.side) steps) (Data k) ↔ ((1 ≤ k) × (k ≤ top))

-- a step that sends no block
other_step : (m : Meaning) (a : End) (d : Deed) (steps : List Step) (top : ℕ) → ((k : ℕ) → d ≡ Sent (Data k) → ⊥) → SentUpTo m steps top → SentUpTo m (record { actor = a; deed = d } ∷ steps) top
other_step m a d steps top differs all k = (
  λ at. elim (view_cases (sender_of m.side) a d steps (Sent (Data k)) at) [ inl same ↦ absurd (differs k same.1) | inr before ↦ (all k).0 before ],
  λ range. view_later (sender_of m.side) a d steps (Sent (Data k)) ((all k).1 range),
)

-- one more block, at most one above the others
block_step : (m : Meaning) (j : ℕ) (steps : List Step) (top next : ℕ) → 1 ≤ j → j ≤ top + 1 → (top ≤ next) × (j ≤ next) × ((next ≡ top) ⊎ (next ≡ j)) → SentUpTo m steps top → SentUpTo m (record { actor = sender_of m.side; deed = Sent (Data j) } ∷ steps) next
block_step m j steps top next one near is all k = (
  λ at. elim (view_cases (sender_of m.side) (sender_of m.side) (Sent (Data j)) steps (Sent (Data k)) at) [
    | inl same ↦ let e : j ≡ k = cc in (omega arith, omega arith)
    | inr before ↦ let r = (all k).0 before in (r.0, omega arith)
  ],
  λ range. elim (cases_lt top k) [
    | inl above ↦
        let e : j ≡ k = elim is.2 [ inl same ↦ absurd (omega arith) | inr same ↦ omega arith ] in
        subst (λ x. HasSent (view_of (sender_of m.side) (record { actor = sender_of m.side; deed = Sent (Data j) } ∷ steps)) (Data x)) e (view_first (sender_of m.side) (Sent (Data j)) steps)
    | inr low ↦ view_later (sender_of m.side) (sender_of m.side) (Sent (Data j)) steps (Sent (Data k)) ((all k).1 (range.0, low))
  ],
)

-- the block that may be sent is at most one above the top
near_top : (m : Meaning) (wire : List ℕ) (a : End) (steps : List Step) (top j : ℕ) → MaySendData m wire a (view_of a steps) j → SentUpTo m steps top → j ≤ top + 1
near_top m wire a steps top j may all = elim may.in_order [
  | inl first ↦ omega arith
  | inr sent ↦
      let before = (all (j - 1)).0 (subst (λ x. HasSent (view_of x steps) (Data (j - 1))) may.sender sent) in
      omega arith
]

top_after : (m : Meaning) (j : ℕ) (steps : List Step) (top : ℕ) → 1 ≤ j → j ≤ top + 1 → SentUpTo m steps top → (next : ℕ) × SentUpTo m (record { actor = sender_of m.side; deed = Sent (Data j) } ∷ steps) next
top_after m j steps top one near all = elim (cases_lt top j) [
  | inl above ↦ (j, block_step m j steps top j one near (omega arith, omega arith, inr refl) all)
  | inr low ↦ (top, block_step m j steps top top one near (omega arith, low, inl refl) all)
]

next_top : (m : Meaning) (wire : List ℕ) (a : End) (d : Deed) (steps : List Step) → MayFollow m wire steps a d → (top : ℕ) → SentUpTo m steps top → (next : ℕ) × SentUpTo m (record { actor = a; deed = d } ∷ steps) next
next_top m wire a (Took p) steps may top all = (top, other_step m a (Took p) steps top (λ k e. cc) all)
next_top m wire a (Sent Req) steps may top all = (top, other_step m a (Sent Req) steps top (λ k e. cc) all)
next_top m wire a (Sent Oack) steps may top all = (top, other_step m a (Sent Oack) steps top (λ k e. cc) all)
next_top m wire a (Sent (Ack j)) steps may top all = (top, other_step m a (Sent (Ack j)) steps top (λ k e. cc) all)
next_top m wire a (Sent (Error code text)) steps may top all = (top, other_step m a (Sent (Error code text)) steps top (λ k e. cc) all)
next_top m wire a (Sent (Data j)) steps may top all =
    subst (λ x. (next : ℕ) × SentUpTo m (record { actor = x; deed = Sent (Data j) } ∷ steps) next) (sym may.sender) (top_after m j steps top may.from_one (near_top m wire a steps top j may all) all)

pub blocks_sent : (m : Meaning) (wire : List ℕ) (steps : List Step) → IsRun m wire steps → (top : ℕ) × SentUpTo m steps top
blocks_sent m wire [] run = (0, λ k. (λ at. absurd (contains_none _ at), λ range. absurd (omega arith)))
blocks_sent m wire (s ∷ steps) run =
    let before = blocks_sent m wire steps run.1 in
    next_top m wire s.actor s.deed steps run.0 before.0 before.1

-- a block that was sent had an acknowledged one below it, at most a window away
pub block_in_window : (m : Meaning) (wire : List ℕ) (steps : List Step) → IsRun m wire steps → (k : ℕ) → HasSent (view_of (sender_of m.side) steps) (Data k) → (a : ℕ) × IsAcknowledged (view_of (sender_of m.side) steps) a × (a < k) × (k ≤ a + windowsize_of m)
block_in_window m wire steps run k at =
    let past = moment m wire steps (sender_of m.side) (Sent (Data k)) run at in
    let w = past.allowed.in_window in
    (w.0, elim w.1 [ inl zero_is ↦ inl zero_is | inr taken ↦ inr (past.kept (sender_of m.side) (Took (Ack w.0)) taken) ], w.2, w.3)

-- only the sender sends blocks, and only those of the wire
pub block_of_sender : (m : Meaning) (wire : List ℕ) (steps : List Step) → IsRun m wire steps → (e : End) (k : ℕ) → HasSent (view_of e steps) (Data k) → (e ≡ sender_of m.side) × (k ≤ block_count (blksize_of m) wire)
block_of_sender m wire steps run e k at =
    let past = moment m wire steps e (Sent (Data k)) run at in
    (past.allowed.sender, past.allowed.in_wire)

-- what was acknowledged had been taken
pub acknowledged_was_taken : (m : Meaning) (wire : List ℕ) (steps : List Step) → IsRun m wire steps → (e : End) (j k : ℕ) → HasSent (view_of e steps) (Ack j) → 1 ≤ k → k ≤ j → HasTaken (view_of e steps) (Data k)
acknowledged_was_taken m wire steps run e j k at low high =
    let past = moment m wire steps e (Sent (Ack j)) run at in
    past.kept e (Took (Data k)) (past.allowed.taken k low high)

-- only the receiver acknowledges
pub ack_of_receiver : (m : Meaning) (wire : List ℕ) (steps : List Step) → IsRun m wire steps → (e : End) (j : ℕ) → HasSent (view_of e steps) (Ack j) → e ≡ receiver_of m.side
ack_of_receiver m wire steps run e j at = (moment m wire steps e (Sent (Ack j)) run at).allowed.receiver

other_of_receiver : (side : Side) → other_end (receiver_of side) ≡ sender_of side
other_of_receiver Get = refl
other_of_receiver Put = refl

other_of_sender : (side : Side) → other_end (sender_of side) ≡ receiver_of side
other_of_sender Get = refl
other_of_sender Put = refl

pub acknowledged_was_sent : (m : Meaning) (wire : List ℕ) (steps : List Step) → IsRun m wire steps → (j k : ℕ) → HasSent (view_of (receiver_of m.side) steps) (Ack j) → 1 ≤ k → k ≤ j → HasSent (view_of (sender_of m.side) steps) (Data k)
acknowledged_was_sent m wire steps run j k at low high =
    subst (λ x. HasSent (view_of x steps) (Data k)) (other_of_receiver m.side)
    (taken_was_sent m wire steps run (receiver_of m.side) (Data k) (acknowledged_was_taken m wire steps run (receiver_of m.side) j k at low high))

pub taken_ack_was_sent : (m : Meaning) (wire : List ℕ) (steps : List Step) → IsRun m wire steps → (a : ℕ) → HasTaken (view_of (sender_of m.side) steps) (Ack a) → HasSent (view_of (receiver_of m.side) steps) (Ack a)
taken_ack_was_sent m wire steps run a at = subst (λ x. HasSent (view_of x steps) (Ack a)) (other_of_sender m.side) (taken_was_sent m wire steps run (sender_of m.side) (Ack a) at)

pub block_in_given_window : (m : Meaning) (wire : List ℕ) (steps : List Step) → IsRun m wire steps → (k : ℕ) → HasSent (view_of (sender_of m.side) steps) (Data k) → (a : ℕ) × ((a ≡ 0) ⊎ HasSent (view_of (receiver_of m.side) steps) (Ack a)) × (a < k) × (k ≤ a + windowsize_of m)
block_in_given_window m wire steps run k at =
    let w = block_in_window m wire steps run k at in
    (w.0, elim w.1 [ inl zero_is ↦ inl zero_is | inr taken ↦ inr (taken_ack_was_sent m wire steps run w.0 taken) ], w.2, w.3)
