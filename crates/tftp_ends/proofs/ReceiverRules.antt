-- The rules of blocks and acknowledgements at a receiver, by the numbers that it keeps.
use Rattle.std.proofs.Common.{◌≡◌, ◌≢◌, ◌↔◌, ℕ, ◌+◌, ◌<◌, ◌≤◌, List, Some, None, Err, inl, inr, sym, subst, ◌∙◌, arith}
use Rattle.std.proofs.lemmas.Bool.{cases_lt}
use Rattle.std.specs.FinMap as map
use Rattle.tftp_packet.specs.{NoneBelow, Data, Ack}
use Rattle.tftp_packet.specs.Hosts.{Datagram}
use Rattle.tftp_packet.specs.{In, Out}
use Rattle.law_model.specs.Rules.{Passed, HasPassed, IsFront, IsAckedAt, IsReachedAt, IsSender, end_number, EndBroken, FirstEndBroken, AckZeroWaits, usable}
use Rattle.law_model.specs.{EndRule, BlockChanged, AckAhead, AckZero}
use Rattle.tftp_ends.specs.Blocks.{IsHighest, IsHeldFront}
use Rattle.tftp_ends.specs.{Receiver, IsReceiverAfter, IsHeld, IsSoundReceiver, IsKnown, CannotHold, IsFound, NoneBroken, Rejection}
use Rattle.law_model.proofs.RulesLemmas.EndRules.{none_more}
use Rattle.tftp_ends.proofs.FirstRules.{before_26, no_block_rule, no_ack_rule}
use Rattle.tftp_ends.proofs.Passing.{came_usable, usable_passed, greatest_one}
use Rattle.tftp_ends.proofs.SenderRules.{one_part}
use Rattle.tftp_ends.proofs.SoundStates.{held_from_one}

front_under : (passed : List Datagram) (x y : ℕ) → IsFront passed x → IsFront passed y → x ≤ y
front_under passed x y a b = elim (cases_lt y x) [ inl less ↦ absurd (b.next (a.below (y + 1) (omega arith) (omega arith))) | inr most ↦ most ]

pub front_one : (passed : List Datagram) (x y : ℕ) → IsFront passed x → IsFront passed y → x ≡ y
front_one passed x y a b =
    let under = front_under passed x y a b in
    let over = front_under passed y x b a in
    omega arith

module _ (r : Receiver) (sound : IsSoundReceiver r) where
  pub no_sender : IsSender r.terms → ⊥
  no_sender sends = one_part r.terms.named r.terms.side sends sound.receives

  held_one : (k : ℕ) → IsHeld r.held k → 1 ≤ k
  held_one = held_from_one r.terms r.held sound.sound

  module _ (passed : List Datagram) (after : IsReceiverAfter r passed) where
    held_in : (k : ℕ) (bytes : List ℕ) → map.get r.held k ≡ Some bytes → Passed In (Data k bytes) passed
    held_in k bytes is = elim ((after.blocks k bytes).1 is) [ inl came ↦ came | inr went ↦ absurd (after.takes_blocks k bytes went) ]

    pub front_is : (front : ℕ) → IsHeldFront r.held front → IsFront passed front
    front_is front is = record {
      below = λ k one most. let there = is.below k one most in (there.0, held_in k there.0 there.1);
      next = λ p. let no : None ≡ Some p.0 = sym is.next ∙ (after.blocks (front + 1) p.0).0 (inl p.1) in absurd (cc);
    }

    usable_front : (front : ℕ) → IsFront passed front → IsFront (usable passed) front
    usable_front front is = record {
      below = λ k one most. let there = is.below k one most in (there.0, came_usable (Data k there.0) passed there.1);
      next = λ p. is.next (p.0, usable_passed In (Data (front + 1) p.0) passed p.1);
    }

    pub reached_is : (front : ℕ) → IsHeldFront r.held front → IsReachedAt r.terms (usable passed) front
    reached_is front is = inr (sound.receives, usable_front front (front_is front is))

    pub reached_one : (front x : ℕ) → IsHeldFront r.held front → IsReachedAt r.terms (usable passed) x → x ≡ front
    reached_one front x is at = elim at [
      | inl other ↦ absurd (no_sender other.0)
      | inr here ↦ front_one (usable passed) x front here.1 (usable_front front (front_is front is))
    ]

    pub acked_is : IsAckedAt r.terms (usable passed) r.usable_acked
    acked_is = inr (sound.receives, after.usable_acked)

    pub acked_one : (x : ℕ) → IsAckedAt r.terms (usable passed) x → x ≡ r.usable_acked
    acked_one x at = elim at [
      | inl other ↦ absurd (no_sender other.0)
      | inr here ↦ greatest_one (λ j. Passed Out (Ack j) (usable passed)) x r.usable_acked here.1 after.usable_acked
    ]

    -- a block has come
    pub any_block : (high : ℕ) → IsHighest r.held high → (1 ≤ high) ↔ ((k : ℕ) × (bytes : List ℕ) × HasPassed (Data k bytes) (usable passed))
    any_block high highest = (
      (λ some. let there = highest.held_there some in (high, there.0, inl (came_usable (Data high there.0) passed (held_in high there.0 there.1)))),
      (λ p. elim p.2 [
        | inl came ↦
            let held = (after.blocks p.0 p.1).0 (inl (usable_passed In (Data p.0 p.1) passed came)) in
            let most = highest.most p.0 p.1 held in
            let one = held_one p.0 (p.1, held) in
            omega arith
        | inr went ↦ absurd (after.takes_blocks p.0 p.1 (usable_passed Out (Data p.0 p.1) passed went))
      ]),
    )

    module _ (j front : ℕ) (is : IsHeldFront r.held front) where
      no_ahead : j ≤ front → EndBroken r.terms passed (Ack j) AckAhead → ⊥
      no_ahead most b = let same = reached_one front b.0 is b.1 in let less = b.2 in omega arith

      pub ahead : front < j → FirstEndBroken r.terms passed (Ack j) AckAhead
      ahead less = ((front, reached_is front is, less), before_26 r.terms passed j)

      pub zero_waits : j ≤ front → j ≡ 0 → AckZeroWaits r.terms.side r.terms.reply (usable passed) → FirstEndBroken r.terms passed (Ack j) AckZero
      zero_waits most none waits = ((none, waits), none_more r.terms passed (Ack j) 26 (before_26 r.terms passed j) (no_ahead most))

      pub ack_lawful : j ≤ front → ((j ≡ 0) × AckZeroWaits r.terms.side r.terms.reply (usable passed) → ⊥) → (rule : EndRule) → EndBroken r.terms passed (Ack j) rule → ⊥
      ack_lawful most = no_ack_rule r.terms passed j (no_ahead most)

    pub known : IsKnown r.terms passed r.held r.zero r.usable_acked
    known = record { blocks = after.blocks; zero = after.zero; acked = acked_is; only = acked_one }

    module _ (k : ℕ) (bytes : List ℕ) (before : NoneBelow end_number (EndBroken r.terms passed (Data k bytes)) 23) where
      -- a receiver skips no block and does not go back
      not_back : NoneBelow end_number (EndBroken r.terms passed (Data k bytes)) 25
      not_back = none_more r.terms passed (Data k bytes) 24 (none_more r.terms passed (Data k bytes) 23 before (λ b. no_sender b.0)) (λ b. no_sender b.0)

      pub changed : ((other : List ℕ) × (map.get r.held k ≡ Some other) × (other ≢ bytes)) → FirstEndBroken r.terms passed (Data k bytes) BlockChanged
      changed other = ((other.0, (after.blocks k other.0).1 other.1, other.2), not_back)

      pub nothing_broken : ((other : List ℕ) → map.get r.held k ≡ Some other → other ≡ bytes) → NoneBroken r.terms passed (Data k bytes)
      nothing_broken same = no_block_rule r.terms passed k bytes not_back (λ b. b.2 (same b.0 ((after.blocks k b.0).0 b.1)))

      pub refused : (rejection : Rejection) → CannotHold r.held k bytes rejection → IsFound r.terms passed (Data k bytes) (Err rejection)
      refused (Rejection.Broken rule) why = subst (FirstEndBroken r.terms passed (Data k bytes)) (sym why.0) (changed why.1)
      refused Rejection.Memory why = nothing_broken (λ other is. let no : None ≡ Some other = sym why ∙ is in absurd (cc))
