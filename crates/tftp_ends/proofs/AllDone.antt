-- When all has come and is acknowledged, by the numbers that a state keeps.
use Rattle.std.proofs.Common.{◌≡◌, ◌↔◌, ℕ, ◌≤◌, IsTrue, nat_eq, eq-eqb, List, inl, inr, sym, subst, ◌∙◌, arith}
use Rattle.std.proofs.lemmas.Bool.{eqb-true}
use Rattle.tftp_packet.specs.{Ack}
use Rattle.tftp_packet.specs.Hosts.{Datagram}
use Rattle.tftp_packet.specs.{In, Out}
use Rattle.law_model.specs.Rules.{Passed, IsLast, IsJoined}
use Rattle.law_model.specs.{Terms}
use Rattle.tftp_ends.specs.Blocks.{Held, IsHeldFront, IsJoin}
use Rattle.tftp_ends.specs.{AreBlocks, IsHeld, Sender, Receiver, IsSenderAfter, IsReceiverAfter, IsAllAnswered, IsAllTaken, IsSound, IsSoundSender, IsSoundReceiver, IsEnd, Sends, Receives, HoldsWire}
use Rattle.tftp_ends.proofs.HeldWire.{joined_held, last_is_front}
use Rattle.tftp_ends.proofs.BlocksLemmas.Orderly.{front_unique}
use Rattle.tftp_ends.proofs.SoundStates.{held_from_one, front_reaches}
use Rattle.tftp_ends.proofs.ReceiverRules.{front_is, front_one}

-- ---- the last block

module _ (t : Terms) (held : Held) (passed : List Datagram) (blocks : AreBlocks passed held) (sound : IsSound t held) (last : ℕ) (end_there : IsEnd t held last) where
  end_is : IsLast t passed last
  end_is = elim end_there.known [
    | inl short ↦ inl (short.0, (blocks last short.0).1 short.1, short.2)
    | inr agreed ↦ inr agreed
  ]

  end_one : (other : ℕ) → IsLast t passed other → other ≡ last
  end_one other is = elim is [
    | inl short ↦ end_there.by_block other (short.0, (blocks other short.0).0 short.1, short.2)
    | inr agreed ↦ agreed.2 ∙ sym (end_there.by_size agreed.0 agreed.1)
  ]

  end_from_one : 1 ≤ last
  end_from_one = elim end_there.known [
    | inl short ↦ held_from_one t held sound last (short.0, short.1)
    | inr agreed ↦ let at = agreed.2 in omega arith
  ]

  -- where all blocks up to it are held, they are the whole wire
  holds : ((k : ℕ) → 1 ≤ k → k ≤ last → IsHeld held k) → (front : ℕ) (wire : List ℕ) → IsHeldFront held front → IsJoin held front wire
      → IsLast t passed front × IsJoined t.blksize passed front wire
  holds all front wire is join =
      let same : last ≡ front = front_unique held last front (last_is_front t held passed blocks last end_there end_from_one all) is in (
        subst (IsLast t passed) same end_is,
        subst (λ n. IsJoined t.blksize passed n wire) same (joined_held t held passed blocks last end_there end_from_one wire (subst (λ n. IsJoin held n wire) (sym same) join)),
      )

-- ---- the sender

module _ (s : Sender) (sound : IsSoundSender s) (passed : List Datagram) (after : IsSenderAfter s passed) (last : ℕ) (end_there : IsEnd s.terms s.held last) where
  all_answered : last ≡ s.answered → IsAllAnswered s.terms passed
  all_answered is = (
    last,
    end_is s.terms s.held passed after.blocks sound.sound last end_there,
    elim after.answered.member [
      | inl none ↦ let one = end_from_one s.terms s.held passed after.blocks sound.sound last end_there in absurd (omega (arith, none))
      | inr came ↦ subst (λ j. Passed In (Ack j) passed) (sym is) came
    ],
  )

  none_above : s.usable_top ≤ last
  none_above = elim sound.sent [ inl none ↦ omega arith | inr held ↦ end_there.most s.usable_top held ]

  answered_all : IsAllAnswered s.terms passed → last ≡ s.answered
  answered_all all =
      let same = end_one s.terms s.held passed after.blocks sound.sound last end_there all.0 all.1 in
      let least = after.answered.most all.0 all.2 in
      let most = none_above in
      let low = sound.answered in
      omega arith

  sent_up_to : last ≡ s.answered → (k : ℕ) → 1 ≤ k → k ≤ last → IsHeld s.held k
  sent_up_to is k one most =
      let low = sound.answered in
      elim sound.sent [
        | inl none ↦ absurd (omega (arith, none))
        | inr held ↦ sound.in_order k s.usable_top held one (omega arith)
      ]

  pub sender_holds : last ≡ s.answered → HoldsWire (Sends s) passed
  sender_holds is = holds s.terms s.held passed after.blocks sound.sound last end_there (sent_up_to is)

  pub sender_done : (n : ℕ) → n ≡ s.answered → IsTrue (nat_eq last n) ↔ IsAllAnswered s.terms passed
  sender_done n is = ((λ e. all_answered (eqb-true last n e ∙ is)), (λ all. eq-eqb last n (answered_all all ∙ sym is)))

-- ---- the receiver

module _ (r : Receiver) (sound : IsSoundReceiver r) (passed : List Datagram) (after : IsReceiverAfter r passed) (last front : ℕ) (end_there : IsEnd r.terms r.held last)
    (at : IsHeldFront r.held front) where
  all_taken : last ≡ front → last ≡ r.acked → IsAllTaken r.terms passed
  all_taken whole is = (
    last,
    end_is r.terms r.held passed after.blocks sound.sound last end_there,
    front_is r sound passed after last (subst (IsHeldFront r.held) (sym whole) at),
    elim after.acked.member [
      | inl none ↦ let one = end_from_one r.terms r.held passed after.blocks sound.sound last end_there in absurd (omega (arith, none))
      | inr went ↦ subst (λ j. Passed Out (Ack j) passed) (sym is) went
    ],
  )

  pub taken_whole : IsAllTaken r.terms passed → last ≡ front
  taken_whole all =
      let same = end_one r.terms r.held passed after.blocks sound.sound last end_there all.0 all.1 in
      let whole = front_one passed all.0 front all.2 (front_is r sound passed after front at) in
      omega arith

  taken_all : IsAllTaken r.terms passed → last ≡ r.acked
  taken_all all =
      let same = end_one r.terms r.held passed after.blocks sound.sound last end_there all.0 all.1 in
      let whole = taken_whole all in
      let least = after.acked.most all.0 all.3 in
      let most = front_reaches r.held front r.acked at sound.taken in
      omega arith

  pub receiver_done : (n m : ℕ) → n ≡ front → m ≡ r.acked → last ≡ n → IsTrue (nat_eq last m) ↔ IsAllTaken r.terms passed
  receiver_done n m is_front is whole = ((λ e. all_taken (whole ∙ is_front) (eqb-true last m e ∙ is)), (λ all. eq-eqb last m (taken_all all ∙ sym is)))

  pub receiver_holds : last ≡ front → HoldsWire (Receives r) passed
  receiver_holds whole = holds r.terms r.held passed after.blocks sound.sound last end_there (λ k one most. at.below k one (omega arith))

  pub receiver_not_done : (n : ℕ) → n ≡ front → (last ≡ n → ⊥) → IsTrue (nat_eq last n) ↔ IsAllTaken r.terms passed
  receiver_not_done n is apart = ((λ e. absurd (apart (eqb-true last n e))), (λ all. absurd (apart (taken_whole all ∙ sym is))))
