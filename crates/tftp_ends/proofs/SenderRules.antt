-- The rules of blocks and acknowledgements at a sender, by the numbers that it keeps.
use Rattle.std.proofs.Common.{◌≡◌, ◌≢◌, ◌↔◌, ◌⊎◌, ℕ, ◌+◌, ◌<◌, ◌≤◌, List, Some, None, Err, inl, inr, refl, sym, subst, ◌∙◌, arith}
use Rattle.std.proofs.lemmas.Bool.{cases_eq}
use Rattle.std.specs.FinMap as map
use Rattle.tftp_packet.specs.{NoneBelow, Data, Ack, Side, Get, Put, End, Client, Server}
use Rattle.tftp_packet.specs.Hosts.{Datagram}
use Rattle.tftp_packet.specs.{Dir, In, Out}
use Rattle.law_model.specs.Model.Roles.{sender_of, receiver_of}
use Rattle.law_model.specs.Rules.{author_of, Passed, HasPassed, BlockPassed, IsTop, IsAckedAt, IsReachedAt, end_number, EndBroken, FirstEndBroken, AckZeroWaits, usable}
use Rattle.law_model.specs.{EndRule, BlockSkipped, GoneBack, BlockChanged, AckAhead, AckZero}
use Rattle.tftp_ends.specs.Blocks.{IsHighest}
use Rattle.tftp_ends.specs.{Sender, IsSenderAfter, IsHeld, IsSoundSender, IsKnown, CannotHold, IsFound, NoneBroken, Rejection}
use Rattle.law_model.proofs.RulesLemmas.EndRules.{none_more}
use Rattle.tftp_ends.proofs.FirstRules.{before_26, no_block_rule, no_ack_rule}
use Rattle.tftp_ends.proofs.SoundStates.{held_from_one}
use Rattle.tftp_ends.proofs.Passing.{came_usable, usable_passed, greatest_kept, greatest_one}

pub one_part : (named : End) (side : Side) → named ≡ sender_of side → named ≡ receiver_of side → ⊥
one_part named Get sends receives = absurd (cc)
one_part named Put sends receives = absurd (cc)

-- what an end sends goes out at it, and what the other end sends comes in
pub own_way : (named author : End) (dir : Dir) → author_of named dir ≡ author → named ≡ author → dir ≡ Out
own_way named author Out of own = refl
own_way Client author In of own = absurd (cc)
own_way Server author In of own = absurd (cc)

pub other_way : (named author : End) (dir : Dir) → author_of named dir ≡ author → (named ≡ author → ⊥) → dir ≡ In
other_way named author In of other = refl
other_way named author Out of other = absurd (other of)

pub out_of : (dir : Dir) → (dir ≢ In) → dir ≡ Out
out_of In other = absurd (other refl)
out_of Out other = refl

module _ (s : Sender) (sound : IsSoundSender s) where
  held_one : (k : ℕ) → IsHeld s.held k → 1 ≤ k
  held_one = held_from_one s.terms s.held sound.sound

  pub held_to : (n : ℕ) → (n ≡ 0) ⊎ IsHeld s.held n → (k : ℕ) → 1 ≤ k → k ≤ n → IsHeld s.held k
  held_to n either k one most = elim either [ inl none ↦ absurd (omega arith) | inr held ↦ sound.in_order k n held one most ]

  pub acked_held : (k : ℕ) → 1 ≤ k → k ≤ s.answered → IsHeld s.held k
  acked_held k one most = let low = sound.answered in held_to s.usable_top sound.sent k one (omega arith)

  module _ (passed : List Datagram) (after : IsSenderAfter s passed) where
    held_out : (k : ℕ) (bytes : List ℕ) → map.get s.held k ≡ Some bytes → Passed Out (Data k bytes) passed
    held_out k bytes is = elim ((after.blocks k bytes).1 is) [ inl came ↦ absurd (after.sends_blocks k bytes came) | inr went ↦ went ]

    pub top_is : (top : ℕ) → IsHighest s.held top → IsTop passed top
    top_is top highest = record {
      member = elim (cases_eq top 0) [
        | inl none ↦ inl none
        | inr some ↦ let there = highest.held_there (omega (arith, some)) in inr (there.0, held_out top there.0 there.1)
      ];
      most = λ k p. highest.most k p.0 ((after.blocks k p.0).0 (inr p.1));
    }

    pub top_one : (top other : ℕ) → IsHighest s.held top → IsTop passed other → other ≡ top
    top_one top other highest is = greatest_one (λ k. BlockPassed Out k passed) other top is (top_is top highest)

    pub acked_is : IsAckedAt s.terms (usable passed) s.answered
    acked_is = inl (sound.sends, greatest_kept (λ j. Passed In (Ack j) passed) (λ j. Passed In (Ack j) (usable passed)) (λ j p. came_usable (Ack j) passed p) (λ j p. usable_passed In (Ack j) passed p) s.answered after.answered)

    pub acked_one : (x : ℕ) → IsAckedAt s.terms (usable passed) x → x ≡ s.answered
    acked_one x at = elim at [
      | inl here ↦ elim acked_is [
        | inl own ↦ greatest_one (λ j. Passed In (Ack j) (usable passed)) x s.answered here.1 own.1
        | inr other ↦ absurd (one_part s.terms.named s.terms.side sound.sends other.0)
      ]
      | inr other ↦ absurd (one_part s.terms.named s.terms.side sound.sends other.0)
    ]

    pub reached_one : (x : ℕ) → IsReachedAt s.terms (usable passed) x → x ≡ s.usable_top
    reached_one x at = elim at [
      | inl here ↦ greatest_one (λ k. BlockPassed Out k (usable passed)) x s.usable_top here.1 after.usable_top
      | inr other ↦ absurd (one_part s.terms.named s.terms.side sound.sends other.0)
    ]

    -- a block that the other end can have used has passed
    pub any_block : (1 ≤ s.usable_top) ↔ ((k : ℕ) × (bytes : List ℕ) × HasPassed (Data k bytes) (usable passed))
    any_block = (
      (λ some. elim after.usable_top.member [
        | inl none ↦ absurd (omega arith)
        | inr there ↦ (s.usable_top, there.0, inr there.1)
      ]),
      (λ p. elim p.2 [
        | inl came ↦ absurd (after.sends_blocks p.0 p.1 (usable_passed In (Data p.0 p.1) passed came))
        | inr went ↦
            let most = after.usable_top.most p.0 (p.1, went) in
            let one = held_one p.0 (p.1, (after.blocks p.0 p.1).0 (inr (usable_passed Out (Data p.0 p.1) passed went))) in
            omega arith
      ]),
    )

    no_ahead : (j : ℕ) → j ≤ s.usable_top → EndBroken s.terms passed (Ack j) AckAhead → ⊥
    no_ahead j most b = let same = reached_one b.0 b.1 in let less = b.2 in omega arith

    pub ahead : (j : ℕ) → s.usable_top < j → FirstEndBroken s.terms passed (Ack j) AckAhead
    ahead j less = ((s.usable_top, inl (sound.sends, after.usable_top), less), before_26 s.terms passed j)

    pub zero_waits : (j : ℕ) → j ≤ s.usable_top → j ≡ 0 → AckZeroWaits s.terms.side s.terms.reply (usable passed) → FirstEndBroken s.terms passed (Ack j) AckZero
    zero_waits j most none waits = ((none, waits), none_more s.terms passed (Ack j) 26 (before_26 s.terms passed j) (no_ahead j most))

    pub ack_lawful : (j : ℕ) → j ≤ s.usable_top → ((j ≡ 0) × AckZeroWaits s.terms.side s.terms.reply (usable passed) → ⊥) → (rule : EndRule) → EndBroken s.terms passed (Ack j) rule → ⊥
    ack_lawful j most = no_ack_rule s.terms passed j (no_ahead j most)

    pub known : IsKnown s.terms passed s.held s.zero s.answered
    known = record { blocks = after.blocks; zero = after.zero; acked = acked_is; only = acked_one }

    module _ (k : ℕ) (bytes : List ℕ) (top : ℕ) (highest : IsHighest s.held top) (before : NoneBelow end_number (EndBroken s.terms passed (Data k bytes)) 23) where
      pub skipped : top + 1 < k → FirstEndBroken s.terms passed (Data k bytes) BlockSkipped
      skipped far = ((sound.sends, (top, top_is top highest, far)), before)

      before_back : k ≤ top + 1 → NoneBelow end_number (EndBroken s.terms passed (Data k bytes)) 24
      before_back near = none_more s.terms passed (Data k bytes) 23 before (λ b. let same = top_one top b.1.0 highest b.1.1 in let far = b.1.2 in omega arith)

      pub gone_back : k ≤ top + 1 → s.terms.windowsize ≡ 1 → k < top → FirstEndBroken s.terms passed (Data k bytes) GoneBack
      gone_back near one less = ((sound.sends, one, (top, top_is top highest, less)), before_back near)

      not_back : k ≤ top + 1 → (s.terms.windowsize ≢ 1) ⊎ (top ≤ k) → NoneBelow end_number (EndBroken s.terms passed (Data k bytes)) 25
      not_back near either = none_more s.terms passed (Data k bytes) 24 (before_back near) (λ b. elim either [
        | inl more ↦ more b.1
        | inr most ↦ let same = top_one top b.2.0 highest b.2.1 in let less = b.2.2 in omega arith
      ])

      pub changed : k ≤ top + 1 → (s.terms.windowsize ≢ 1) ⊎ (top ≤ k) → ((other : List ℕ) × (map.get s.held k ≡ Some other) × (other ≢ bytes)) → FirstEndBroken s.terms passed (Data k bytes) BlockChanged
      changed near either other = ((other.0, (after.blocks k other.0).1 other.1, other.2), not_back near either)

      pub nothing_broken : k ≤ top + 1 → (s.terms.windowsize ≢ 1) ⊎ (top ≤ k) → ((other : List ℕ) → map.get s.held k ≡ Some other → other ≡ bytes) → NoneBroken s.terms passed (Data k bytes)
      nothing_broken near either same = no_block_rule s.terms passed k bytes (not_back near either) (λ b. b.2 (same b.0 ((after.blocks k b.0).0 b.1)))

      pub refused : k ≤ top + 1 → (s.terms.windowsize ≢ 1) ⊎ (top ≤ k) → (rejection : Rejection) → CannotHold s.held k bytes rejection → IsFound s.terms passed (Data k bytes) (Err rejection)
      refused near either (Rejection.Broken rule) why = subst (FirstEndBroken s.terms passed (Data k bytes)) (sym why.0) (changed near either why.1)
      refused near either Rejection.Memory why = nothing_broken near either (λ other is. let no : None ≡ Some other = sym why ∙ is in absurd (cc))

  -- each block below one that is not skipped is held
  pub below_it : (k top : ℕ) → IsHighest s.held top → k ≤ top + 1 → (n : ℕ) → 1 ≤ n → n < k → IsHeld s.held n
  below_it k top highest near n one less = held_to top (elim (cases_eq top 0) [ inl none ↦ inl none | inr some ↦ inr (highest.held_there (omega (arith, some))) ]) n one (omega arith)
