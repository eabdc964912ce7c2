-- The packets of the normal capture, one after another, as labels of a dressed one-sided history.
use Rattle.std.proofs.Common.{◌≡◌, ℕ, zero, suc, ◌+◌, ◌-◌, ◌*◌, ◌<◌, ◌≤◌, ◌⊎◌, true, false, min, List, [], ◌∷◌, ◌++◌, drop, Contains, inl, inr, refl, sym, subst, ap, ◌∙◌, arith, suc-mul, zero-mul, Any, Option}
use Rattle.std.proofs.lemmas.Bool.{cases_lt}
use Rattle.tftp_packet.specs.{Rollover, Spells, canonical, Side, Get, Put, End, Client, Server}
use Rattle.tftp_packet.specs.Rounds.{IsNear, first_of, greatest_of}
use Rattle.tftp_packet.specs.Hosts.{Header}
use Rattle.tftp_packet.proofs.RoundsLemmas.Positions.{around_is_near}
use Rattle.tftp_packet.specs.Hosts.{no_host}
use Rattle.tftp_packet.specs.{In}
use Rattle.law_model.specs.Model.{Meaning, blksize_of, block, windowsize_of, MachinePacket, Req, Oack, Data, Ack, Deed, Sent, Took, History, HasSent, IsStartedOn, message_of, heard, LetsStartOn, IsOneSided}
use Rattle.law_model.specs.Model.Roles.{sender_of, receiver_of}
use Rattle.law_model.proofs.ModelLemmas.HistoryTests.{all_sent, is_no_error, none_sent}
use Rattle.law_model.proofs.ModelLemmas.Stops.{stopped, heard_all}
use Rattle.law_model.proofs.ModelLemmas.Members.{contains_first, contains_later, contains_cases}
use Rattle.law_end.specs.{Labelled, Main, TransferIds, Division, view_in, dir_of, packet_of, HaveLabelsBy, Saying, wire_of, blocks_of, CanBeWritten}
use Rattle.law_end.proofs.Written.EachOf.{Bytes, all_take, all_drop}
use Rattle.tftp_normal.specs.{blocks_after, windows_after, author, deed_of_client, client_deed, message_by, normal_remote}
use Rattle.law_rollover.specs.{AreNear, IsNearPacket, high_of, higher_of}
use Rattle.tftp_normal.proofs.ByNumber.{data_spelled, ack_spelled}

-- the header, with what comes after block 65535
abbrev pub head : Option Rollover → Header
head rollover = record { named = Client; service = 69; rollover = rollover }

-- what says a packet, by numbers where they begin again
abbrev pub says_by : Option Rollover → Meaning → List ℕ → Saying
says_by rollover m wire p payload = Spells payload (message_by rollover (message_of m wire p))

abbrev pub ids : TransferIds
ids = record { own = 50000; peer = record { host = no_host; port = 50001 }; asked = no_host }

abbrev pub Ready : Side → Meaning → History → Type 0
Ready Get m h = LetsStartOn Get m h
Ready Put m h = IsStartedOn Put m h

ready_later : (side : Side) (m : Meaning) (d : Deed) (h : History) → Ready side m h → Ready side m (d ∷ h)
ready_later Get m d h r = elim r [ inl x ↦ inl (x.0, contains_later d h (Sent Req) x.1) | inr x ↦ inr (x.0, contains_later d h (Sent (Ack 0)) x.1) ]
ready_later Put m d h r = elim r [ inl x ↦ inl (x.0, contains_later d h (Took (Ack 0)) x.1) | inr x ↦ inr (x.0, contains_later d h (Took Oack) x.1) ]

abbrev pub HasAnswer : Division → Type 0
HasAnswer division = Any (λ p. p.datagram.dir ≡ In) division

pub answer_first : (p : Labelled) (division : Division) → p.datagram.dir ≡ In → HasAnswer (p ∷ division)
answer_first p division is = (0, p, omega arith, refl, is)

pub answer_later : (p : Labelled) (division : Division) → HasAnswer division → HasAnswer (p ∷ division)
answer_later p division (k, x, low, at, is) = (suc k, x, omega (arith, low), at, is)

-- no ERROR was sent or taken
abbrev IsPlain : History → Type 0
IsPlain v = (all_sent is_no_error v ≡ true) × (stopped v ≡ false)

-- a place for a packet at the client, when the side is known
abbrev pub place : Option Rollover → Meaning → Side → MachinePacket → Labelled
place rollover m side p = record {
  datagram = record { dir = dir_of (client_deed side p); local = 50000; host = no_host; remote = normal_remote p; payload = canonical (message_by rollover (message_of m (wire_of m) p)) };
  label = Main (client_deed side p);
}

-- the packets of a list, one after another
abbrev pub after : Option Rollover → Meaning → Side → Division → List MachinePacket → Division
after rollover m side earlier [] = earlier
after rollover m side earlier (p ∷ ps) = after rollover m side (place rollover m side p ∷ earlier) ps

pub after_both : (rollover : Option Rollover) (m : Meaning) (side : Side) (earlier : Division) (ps qs : List MachinePacket)
    → after rollover m side earlier (ps ++ qs) ≡ after rollover m side (after rollover m side earlier ps) qs
after_both rollover m side earlier [] qs = refl
after_both rollover m side earlier (p ∷ ps) qs = after_both rollover m side (place rollover m side p ∷ earlier) ps qs

-- blocks 1 to k have passed, and block a was acknowledged last
pub record Going (rollover : Option Rollover) (m : Meaning) (side : Side) (a k : ℕ) (division : Division) : Type 0 where
  pub own : IsOneSided m (wire_of m) Client (view_in division)
  pub labels : HaveLabelsBy (head rollover) (says_by rollover m (wire_of m)) ids division
  pub started : Ready side m (view_in division)
  pub no_error : all_sent is_no_error (view_in division) ≡ true
  pub going : stopped (view_in division) ≡ false
  pub acked : (a ≡ 0) ⊎ Contains (view_in division) (client_deed side (Ack a))
  pub passed : (i : ℕ) → 1 ≤ i → i ≤ k → Contains (view_in division) (client_deed side (Data i))
  pub below : (i : ℕ) → Contains (view_in division) (client_deed side (Data i)) → i ≤ k
  pub answered : ((side ≡ Get) × (k ≡ 0)) ⊎ HasAnswer division
  pub highest : high_of (view_in division) ≡ k
  pub near : (r : Rollover) → AreNear r (view_in division)

deed_packet : (e : End) (p : MachinePacket) → packet_of (deed_of_client e p) ≡ p
deed_packet Client p = refl
deed_packet Server p = refl

-- what a client did with two packets is the same for the same packet alone
client_packet : (side : Side) (p q : MachinePacket) → client_deed side p ≡ client_deed side q → p ≡ q
client_packet side p q same = sym (deed_packet (author side p) p) ∙ ap packet_of same ∙ deed_packet (author side q) q

done_packet : (side : Side) (p : MachinePacket) → packet_of (client_deed side p) ≡ p
done_packet side p = deed_packet (author side p) p

-- where it is near, so is what the client did with it
near_deed : (side : Side) (r : Rollover) (p : MachinePacket) (v : History) → IsNearPacket r (high_of v) p → IsNearPacket r (high_of v) (packet_of (client_deed side p))
near_deed side r p v near = subst (IsNearPacket r (high_of v)) (sym (done_packet side p)) near

-- the next block is near, and the last one
near_now : (r : Rollover) (k i : ℕ) (v : History) → high_of v ≡ k → k ≤ i → i ≤ k + 1 → IsNear (first_of r) (high_of v) i
near_now r k i v top low high = around_is_near r (high_of v) i (omega (arith, top, low)) (omega (arith, top, high))

data_number : (k i : ℕ) → Data k ≡ Data i → k ≡ i
data_number k i same = cc

not_ack : (k i : ℕ) → Ack k ≡ Data i → ⊥
not_ack k i same = cc

module _ (rollover : Option Rollover) (m : Meaning) (can : CanBeWritten rollover m) where
  abbrev wire : List ℕ
  wire = wire_of m

  abbrev n : ℕ
  n = blocks_of m

  abbrev w : ℕ
  w = windowsize_of m

  numbered : n ≤ greatest_of rollover
  numbered = can.fits.numbered

  pub block_bytes : (k : ℕ) → Bytes (block (blksize_of m) wire k)
  block_bytes k = all_take (λ b. b < 256) (blksize_of m) (drop ((k - 1) * blksize_of m) wire) (all_drop (λ b. b < 256) ((k - 1) * blksize_of m) wire can.bytes)

  pub data_spells : (k : ℕ) → k ≤ n → says_by rollover m wire (Data k) (canonical (message_by rollover (message_of m wire (Data k))))
  data_spells k low = data_spelled rollover k (block (blksize_of m) wire k) (omega (arith, low, numbered)) (block_bytes k)

  pub ack_spells : (j : ℕ) → j ≤ n → says_by rollover m wire (Ack j) (canonical (message_by rollover (message_of m wire (Ack j))))
  ack_spells j low = ack_spelled rollover j (omega (arith, low, numbered))

  -- all that the client did can have been heard of
  all_heard : (side : Side) (a k : ℕ) (division : Division) → Going rollover m side a k division → heard (view_in division) ≡ view_in division
  all_heard side a k division g = heard_all (view_in division) g.going

  -- ---- one block more

  block_plain : (side : Side) (a k : ℕ) (division : Division) → Going rollover m side a k division → IsPlain (client_deed side (Data (k + 1)) ∷ view_in division)
  block_plain Get a k division g = (g.no_error, g.going)
  block_plain Put a k division g = (g.no_error, g.going)

  block_own : (side : Side) → m.side ≡ side → (a k : ℕ) (division : Division) → Going rollover m side a k division → a ≤ k → k + 1 ≤ n → k + 1 ≤ a + w
      → IsOneSided m wire Client (client_deed side (Data (k + 1)) ∷ view_in division)
  block_own Get is a k division g low high near = (
    record {
      receiver = sym (ap receiver_of is);
      from_one = omega arith;
      in_wire = high;
      started = subst (λ s. LetsStartOn s m (heard (view_in division))) (sym is) (subst (LetsStartOn Get m) (sym (all_heard Get a k division g)) g.started);
      in_window = (a, subst (λ v. (a ≡ 0) ⊎ HasSent v (Ack a)) (sym (all_heard Get a k division g)) g.acked, near);
    },
    g.own,
  )
  block_own Put is a k division g low high near = (
    record {
      sender = sym (ap sender_of is);
      no_error = none_sent (view_in division) g.no_error;
      from_one = omega arith;
      in_wire = high;
      started = subst (λ s. IsStartedOn s m (view_in division)) (sym is) g.started;
      in_order = order k g.passed;
      in_window = (a, g.acked, omega (arith, low), near);
      in_step = λ one higher at. (let under = g.below higher at in omega (arith, under));
    },
    g.own,
  )
    where
      order : (k : ℕ) → ((i : ℕ) → 1 ≤ i → i ≤ k → HasSent (view_in division) (Data i)) → (k + 1 ≡ 1) ⊎ HasSent (view_in division) (Data (k + 1 - 1))
      order zero passed = inl refl
      order (suc j) passed = let at : suc j ≡ suc j + 1 - 1 = omega arith in inr (subst (λ i. HasSent (view_in division) (Data i)) at (passed (suc j) (omega arith) (omega arith)))

  block_labels : (side : Side) (a k : ℕ) (division : Division) → Going rollover m side a k division → k + 1 ≤ n
      → HaveLabelsBy (head rollover) (says_by rollover m wire) ids (place rollover m side (Data (k + 1)) ∷ division)
  block_labels Get a k division g high = (record { dir = refl; client = refl; server = (refl, inl refl); spells = data_spells (k + 1) high }, g.labels)
  block_labels Put a k division g high = (
    record {
      dir = refl;
      client = refl;
      server = (refl, inr (elim g.answered [ inl none ↦ (let other : Put ≡ Get = none.0 in absurd (cc)) | inr some ↦ some ]));
      spells = data_spells (k + 1) high;
    },
    g.labels,
  )

  -- once a block has passed, or on a write, the server has answered
  has_answer : (side : Side) (a k : ℕ) (division : Division) → Going rollover m side a k division → (side ≡ Put) ⊎ (1 ≤ k) → HasAnswer division
  has_answer side a k division g late = elim g.answered [
    | inl none ↦ elim late [ inl put ↦ (let both : Put ≡ Get = sym put ∙ none.0 in absurd (cc)) | inr some ↦ absurd (omega (arith, none.1, some)) ]
    | inr some ↦ some
  ]

  block_answered : (side : Side) (a k : ℕ) (division : Division) → Going rollover m side a k division → HasAnswer (place rollover m side (Data (k + 1)) ∷ division)
  block_answered Get a k division g = answer_first (place rollover m Get (Data (k + 1))) division refl
  block_answered Put a k division g = answer_later (place rollover m Put (Data (k + 1))) division (has_answer Put a k division g (inl refl))

  block_step : (side : Side) → m.side ≡ side → (a k : ℕ) (division : Division) → Going rollover m side a k division → a ≤ k → k + 1 ≤ n → k + 1 ≤ a + w
      → Going rollover m side a (k + 1) (place rollover m side (Data (k + 1)) ∷ division)
  block_step side is a k division g low high near = record {
    own = block_own side is a k division g low high near;
    labels = block_labels side a k division g high;
    started = ready_later side m (client_deed side (Data (k + 1))) (view_in division) g.started;
    no_error = (block_plain side a k division g).0;
    going = (block_plain side a k division g).1;
    acked = elim g.acked [ inl none ↦ inl none | inr some ↦ inr (contains_later (client_deed side (Data (k + 1))) (view_in division) (client_deed side (Ack a)) some) ];
    passed = λ i from to. elim (cases_lt i (k + 1)) [
      | inl less ↦ contains_later (client_deed side (Data (k + 1))) (view_in division) (client_deed side (Data i)) (g.passed i from (omega (arith, less)))
      | inr more ↦ let at : k + 1 ≡ i = omega (arith, more, to) in
          subst (λ j. Contains (client_deed side (Data (k + 1)) ∷ view_in division) (client_deed side (Data j))) at (contains_first (client_deed side (Data (k + 1))) (view_in division))
    ];
    below = λ i at. elim (contains_cases (client_deed side (Data (k + 1))) (view_in division) (client_deed side (Data i)) at) [
      | inl same ↦ let e : k + 1 ≡ i = data_number (k + 1) i (client_packet side (Data (k + 1)) (Data i) same) in omega (arith, e)
      | inr before ↦ let under = g.below i before in omega (arith, under)
    ];
    answered = inr (block_answered side a k division g);
    highest = let top = g.highest in ap (λ p. higher_of p (high_of (view_in division))) (done_packet side (Data (k + 1))) ∙ omega (arith, top);
    near = λ r. (near_deed side r (Data (k + 1)) (view_in division) (near_now r k (k + 1) (view_in division) g.highest (omega arith) (omega arith)), g.near r);
  }

  -- ---- the ACK of all blocks so far

  ack_plain : (side : Side) (a k : ℕ) (division : Division) → Going rollover m side a k division → IsPlain (client_deed side (Ack k) ∷ view_in division)
  ack_plain Get a k division g = (g.no_error, g.going)
  ack_plain Put a k division g = (g.no_error, g.going)

  ack_own : (side : Side) → m.side ≡ side → (a k : ℕ) (division : Division) → Going rollover m side a k division → 1 ≤ k
      → IsOneSided m wire Client (client_deed side (Ack k) ∷ view_in division)
  ack_own Get is a k division g some = (
    record {
      receiver = sym (ap receiver_of is);
      no_error = none_sent (view_in division) g.no_error;
      zero = λ none. absurd (omega (arith, none, some));
      taken = g.passed;
    },
    g.own,
  )
  ack_own Put is a k division g some = (
    record {
      sender = sym (ap sender_of is);
      zero = λ none. absurd (omega (arith, none, some));
      sent = λ i from to. subst (λ v. HasSent v (Data i)) (sym (all_heard Put a k division g)) (g.passed i from to);
    },
    g.own,
  )

  ack_labels : (side : Side) (a k : ℕ) (division : Division) → Going rollover m side a k division → 1 ≤ k → k ≤ n
      → HaveLabelsBy (head rollover) (says_by rollover m wire) ids (place rollover m side (Ack k) ∷ division)
  ack_labels Get a k division g some low = (record { dir = refl; client = refl; server = (refl, inr (has_answer Get a k division g (inr some))); spells = ack_spells k low }, g.labels)
  ack_labels Put a k division g some low = (record { dir = refl; client = refl; server = (refl, inl refl); spells = ack_spells k low }, g.labels)

  ack_step : (side : Side) → m.side ≡ side → (a k : ℕ) (division : Division) → Going rollover m side a k division → 1 ≤ k → k ≤ n
      → Going rollover m side k k (place rollover m side (Ack k) ∷ division)
  ack_step side is a k division g some low = record {
    own = ack_own side is a k division g some;
    labels = ack_labels side a k division g some low;
    started = ready_later side m (client_deed side (Ack k)) (view_in division) g.started;
    no_error = (ack_plain side a k division g).0;
    going = (ack_plain side a k division g).1;
    acked = inr (contains_first (client_deed side (Ack k)) (view_in division));
    passed = λ i from to. contains_later (client_deed side (Ack k)) (view_in division) (client_deed side (Data i)) (g.passed i from to);
    below = λ i at. elim (contains_cases (client_deed side (Ack k)) (view_in division) (client_deed side (Data i)) at) [
      | inl same ↦ absurd (not_ack k i (client_packet side (Ack k) (Data i) same))
      | inr before ↦ g.below i before
    ];
    answered = inr (answer_later (place rollover m side (Ack k)) division (has_answer side a k division g (inr some)));
    highest = ap (λ p. higher_of p (high_of (view_in division))) (done_packet side (Ack k)) ∙ g.highest;
    near = λ r. (near_deed side r (Ack k) (view_in division) (near_now r k k (view_in division) g.highest (omega arith) (omega arith)), g.near r);
  }

  -- ---- windows

  blocks : (side : Side) → m.side ≡ side → (more a k : ℕ) (division : Division) → Going rollover m side a k division → a ≤ k → k + more ≤ n → k + more ≤ a + w
      → Going rollover m side a (k + more) (after rollover m side division (blocks_after k more))
  blocks side is zero a k division g low high near = let at : k ≡ k + 0 = omega arith in subst (λ j. Going rollover m side a j division) at g
  blocks side is (suc more) a k division g low high near =
      let at : k + 1 + more ≡ k + suc more = omega arith in
      subst (λ j. Going rollover m side a j (after rollover m side (place rollover m side (Data (k + 1)) ∷ division) (blocks_after (k + 1) more))) at
      (blocks side is more a (k + 1) (place rollover m side (Data (k + 1)) ∷ division) (block_step side is a k division g low (omega (arith, high)) (omega (arith, near))) (omega (arith, low)) (omega (arith, high)) (omega (arith, near)))

  pub windows : (side : Side) → m.side ≡ side → (count k : ℕ) (division : Division) → Going rollover m side k k division → k ≤ n → n ≤ k + count * w → k + count * w < n + w
      → Going rollover m side n n (after rollover m side division (windows_after w n k count))
  windows side is zero k division g low enough few =
      let none = zero-mul w in
      let at : k ≡ n = omega (arith, low, enough, none) in
      subst (λ j. Going rollover m side j j division) at g
  windows side is (suc more) k division g low enough few =
      let size : suc more * w ≡ more * w + w = suc-mul more w in
      let under : k < n = omega (arith, few, size) in
      let last : ℕ = min (k + w) n in
      let at : k + (last - k) ≡ last = omega (arith, low) in
      let some : 1 ≤ w = omega (arith, few, enough, size, under) in
      let g1 = subst (λ j. Going rollover m side k j (after rollover m side division (blocks_after k (last - k)))) at (blocks side is (last - k) k k division g (omega arith) (omega (arith, low)) (omega (arith, low))) in
      let g2 = ack_step side is k last (after rollover m side division (blocks_after k (last - k))) g1 (omega (arith, under, some)) (omega arith) in
      let g3 = windows side is more last (place rollover m side (Ack last) ∷ after rollover m side division (blocks_after k (last - k))) g2 (omega arith) (omega (arith, enough, size)) (omega (arith, few, size)) in
      subst (Going rollover m side n n) (sym (after_both rollover m side division (blocks_after k (last - k)) (Ack last ∷ windows_after w n last more))) g3
