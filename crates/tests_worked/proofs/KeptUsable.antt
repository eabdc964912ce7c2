-- What the tests of rules 18, 22, 26 and 27 tell, of all datagrams of a list.
use Rattle.std.proofs.Common.{◌≡◌, ℕ, ◌+◌, ◌<◌, ◌≤◌, ◌==◌, ◌&&◌, ◌||◌, not, nat_le, zero, suc, Bool, true, false, List, inl, inr, refl, sym, subst, ap, ◌∙◌, arith}
use Rattle.std.proofs.lemmas.Bool.{and_parts, or_cases, eqb-true, leb-true, cases_lt, false≢true}
use Rattle.tftp_packet.specs.{Message, Side, Get, Put, End, Client, Server}
use Rattle.tftp_packet.specs.Hosts.{Datagram}
use Rattle.tftp_packet.specs.{Dir, In, Out}
use Rattle.law_model.specs.Model.Roles.{sender_of, receiver_of}
use Rattle.law_model.specs.Rules.{Passed, HasPassed, BlockPassed, BlocksWait, AckZeroWaits, IsAckedAt, IsReachedAt}
use Rattle.law_model.specs.{Reply, NoReply, Plain, Oacked, Terms}
use Rattle.tests_worked.proofs.Payloads.{Spelled, datagrams, AllSpelled}
use Rattle.tests_worked.proofs.Passing.{same_dir, as_block, as_ack, holds, block_is, ack_is, passed_as, some, some_in}
use Rattle.tests_worked.proofs.RuleTests.{is_ack_zero, is_block, same_end, is_sender, is_receiver, may_start, may_be_zero, allows, in_window, reaches, is_taken, taken_up_to}

pub unless : (b c : Bool) → b ≡ true → (not b || c) ≡ true → c ≡ true
unless true c is t = t
unless false c is t = absurd (false≢true is)

pub is_end : (a b : End) → a ≡ b → same_end a b ≡ true
is_end Client Server e = absurd (cc)
is_end Server Client e = absurd (cc)
is_end _ _ e = refl

module _ (ts : List Spelled) (s : AllSpelled ts) where
  abbrev passed : List Datagram
  passed = datagrams ts

  some_here : (test : Dir → Message → Bool) → some test ts ≡ true → (dir : Dir) × (m : Message) × (test dir m ≡ true) × Passed dir m passed
  some_here test t = some_in test ts s t

  passed_way : (dir : Dir) (m : Message) → Passed dir m passed → HasPassed m passed
  passed_way In m p = inl p
  passed_way Out m p = inr p

  zero_acked : (dir : Dir) (m : Message) → is_ack_zero dir m ≡ true → Passed dir m passed → HasPassed (Message.Ack 0) passed
  zero_acked dir m t p = let (j, is, none) = ack_is (λ j. j == 0) m t in subst (λ x. HasPassed x passed) (is ∙ ap Message.Ack (eqb-true j 0 none)) (passed_way dir m p)

  pub started : (side : Side) (reply : Reply) → may_start side reply ts ≡ true → BlocksWait side reply passed → ⊥
  started Get Oacked t wait = let p = some_here is_ack_zero t in wait (zero_acked p.0 p.1 p.2 p.3)
  started Put NoReply t wait = false≢true t
  started _ _ t wait = wait

  acked_as : (way : Dir) (w k : ℕ) (dir : Dir) (m : Message) → allows way w k dir m ≡ true → Passed dir m passed → (a : ℕ) × Passed way (Message.Ack a) passed × (k ≤ a + w)
  acked_as way w k dir m t p =
      let parts = and_parts (same_dir way dir) (holds (λ a. nat_le k (a + w)) (as_ack m)) t in
      let (a, is, low) = ack_is (λ a. nat_le k (a + w)) m parts.1 in
      (a, passed_as passed dir way m (Message.Ack a) parts.0 is p, leb-true k (a + w) low)

  pub within : (u : Terms) (k : ℕ) → in_window u ts k ≡ true → (acked : ℕ) → IsAckedAt u passed acked → acked + u.windowsize < k → ⊥
  within u k t acked is past = elim (or_cases (nat_le k u.windowsize) ((not (is_sender u) || some (allows In u.windowsize k) ts) && (not (is_receiver u) || some (allows Out u.windowsize k) ts)) t) [
    | inl low ↦ let most = leb-true k u.windowsize low in omega arith
    | inr both ↦
        let parts = and_parts (not (is_sender u) || some (allows In u.windowsize k) ts) (not (is_receiver u) || some (allows Out u.windowsize k) ts) both in
        elim is [
          | inl sends ↦
              let p = some_here (allows In u.windowsize k) (unless (is_sender u) (some (allows In u.windowsize k) ts) (is_end u.named (sender_of u.side) sends.0) parts.0) in
              let a = acked_as In u.windowsize k p.0 p.1 p.2 p.3 in
              let low = sends.1.most a.0 a.1 in
              let high = a.2 in
              omega arith
          | inr takes ↦
              let p = some_here (allows Out u.windowsize k) (unless (is_receiver u) (some (allows Out u.windowsize k) ts) (is_end u.named (receiver_of u.side) takes.0) parts.1) in
              let a = acked_as Out u.windowsize k p.0 p.1 p.2 p.3 in
              let low = takes.1.most a.0 a.1 in
              let high = a.2 in
              omega arith
        ]
  ]

  reached_block : (k : ℕ) (dir : Dir) (m : Message) → reaches k dir m ≡ true → Passed dir m passed → (j : ℕ) × BlockPassed Out j passed × (k ≤ j)
  reached_block k dir m t p =
      let parts = and_parts (same_dir Out dir) (holds (λ (x : ℕ × List ℕ). nat_le k x.0) (as_block m)) t in
      let (j, bytes, is, low) = block_is (λ x. nat_le k x.0) m parts.1 in
      (j, (bytes, passed_as passed dir Out m (Message.Data j bytes) parts.0 is p), leb-true k j low)

  taken_block : (k : ℕ) (dir : Dir) (m : Message) → is_taken k dir m ≡ true → Passed dir m passed → BlockPassed In k passed
  taken_block k dir m t p =
      let parts = and_parts (same_dir In dir) (holds (λ (x : ℕ × List ℕ). k == x.0) (as_block m)) t in
      let (j, bytes, is, same) = block_is (λ x. k == x.0) m parts.1 in
      subst (λ n. BlockPassed In n passed) (sym (eqb-true k j same)) (bytes, passed_as passed dir In m (Message.Data j bytes) parts.0 is p)

  taken_below : (j : ℕ) → taken_up_to ts j ≡ true → (k : ℕ) → 1 ≤ k → k ≤ j → BlockPassed In k passed
  taken_below zero t k low high = absurd (omega arith)
  taken_below (suc j) t k low high =
      let parts = and_parts (some (is_taken (suc j)) ts) (taken_up_to ts j) t in
      elim (cases_lt k (suc j)) [
        | inl below ↦ taken_below j parts.1 k low (omega arith)
        | inr at ↦
            let p = some_here (is_taken (suc j)) parts.0 in
            let is : suc j ≡ k = omega arith in
            subst (λ n. BlockPassed In n passed) is (taken_block (suc j) p.0 p.1 p.2 p.3)
      ]

  pub not_ahead : (u : Terms) (j : ℕ) → (j == 0 || ((not (is_sender u) || some (reaches j) ts) && (not (is_receiver u) || taken_up_to ts j))) ≡ true
      → (reached : ℕ) → IsReachedAt u passed reached → reached < j → ⊥
  not_ahead u j t reached is past = elim (or_cases (j == 0) ((not (is_sender u) || some (reaches j) ts) && (not (is_receiver u) || taken_up_to ts j)) t) [
    | inl none ↦ let low = eqb-true j 0 none in omega arith
    | inr both ↦
        let parts = and_parts (not (is_sender u) || some (reaches j) ts) (not (is_receiver u) || taken_up_to ts j) both in
        elim is [
          | inl sends ↦
              let p = some_here (reaches j) (unless (is_sender u) (some (reaches j) ts) (is_end u.named (sender_of u.side) sends.0) parts.0) in
              let k = reached_block j p.0 p.1 p.2 p.3 in
              let most = sends.1.most k.0 k.1 in
              let high = k.2 in
              omega arith
          | inr takes ↦ takes.1.next (taken_below j (unless (is_receiver u) (taken_up_to ts j) (is_end u.named (receiver_of u.side) takes.0) parts.1) (reached + 1) (omega arith) (omega arith))
        ]
  ]

  block_there : (dir : Dir) (m : Message) → is_block dir m ≡ true → Passed dir m passed → (k : ℕ) × (bytes : List ℕ) × HasPassed (Message.Data k bytes) passed
  block_there dir m t p = let (k, bytes, is, there) = block_is (λ _. true) m t in (k, bytes, subst (λ x. HasPassed x passed) is (passed_way dir m p))

  pub zero_may : (side : Side) (reply : Reply) → may_be_zero side reply ts ≡ true → AckZeroWaits side reply passed → ⊥
  zero_may Get NoReply t wait = false≢true t
  zero_may Get Plain t wait = false≢true t
  zero_may Put Oacked t wait = let p = some_here is_block t in let k = block_there p.0 p.1 p.2 p.3 in wait k.0 k.1 k.2
  zero_may _ _ t wait = wait
