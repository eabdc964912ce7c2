-- What a sender stands for after each datagram.
use Rattle.std.proofs.Common.{◌≡◌, ◌≢◌, ◌↔◌, ◌⊎◌, ℕ, max, Bool, true, false, List, ◌∷◌, Some, None, inl, inr, refl, sym, subst, ap, ◌∙◌}
use Rattle.std.proofs.lemmas.Bool.{true≢false}
use Rattle.std.specs.FinMap as map
use Rattle.tftp_packet.specs.{Message, Data, Ack, Error, Spells}
use Rattle.tftp_packet.specs.Hosts.{Datagram}
use Rattle.tftp_packet.specs.{In, Out}
use Rattle.law_model.specs.Rules.{Passed, HasPassed, BlockPassed, IsGreatest, usable}
use Rattle.tftp_ends.specs.Blocks.{Held, Placing, Places}
use Rattle.tftp_ends.specs.{has_stopped, Sender, IsSenderAfter, Says, IsAside, IsBeforeBlocks}
use Rattle.tftp_ends.proofs.Passing.{now_or_before, another, another_way, stopped_out, stopped_with, unusable, usable_out, usable_in, usable_has, usable_passed, greatest_kept, greatest_more, none_greatest, with_block, without_block, aside_ack, aside_zero, aside_block, aside_stopped, aside_no_block, aside_no_ack}
use Rattle.tftp_packet.proofs.HostsLemmas.Ways.{in_not_out, out_not_in}

-- ---- a block goes out

module _ (s : Sender) (passed : List Datagram) (after : IsSenderAfter s passed) (d : Datagram) (k : ℕ) (bytes : List ℕ) (says : Says d Out (Data k bytes)) where
  no_ack : (j : ℕ) → Data k bytes ≡ Ack j → ⊥
  no_ack j e = absurd (cc)

  -- what stays as it is, whatever is usable
  sent_block : (held : Held) (placing : Placing) (top : ℕ) → Places s.held held k bytes placing → ((other : List ℕ) → map.get s.held k ≡ Some other → other ≡ bytes)
      → ((s.zero ≡ true) ↔ HasPassed (Ack 0) (usable (d ∷ passed))) → IsGreatest (λ n. BlockPassed Out n (usable (d ∷ passed))) top
      → IsSenderAfter (record { terms = s.terms; held = held; answered = s.answered; zero = s.zero; usable_top = top; stopped = s.stopped }) (d ∷ passed)
  sent_block held placing top places same zero is_top = record {
    blocks = with_block d Out k bytes passed s.held held placing after.blocks says places same;
    sends_blocks = λ n other p. after.sends_blocks n other (another_way d Out In (Data k bytes) (Data n other) passed says out_not_in p);
    takes_acks = λ j p. after.takes_acks j (another d Out Out (Data k bytes) (Ack j) passed says (no_ack j) p);
    answered = greatest_kept (λ j. Passed In (Ack j) passed) (λ j. Passed In (Ack j) (d ∷ passed)) (λ j p. inr p) (λ j p. another d Out In (Data k bytes) (Ack j) passed says (no_ack j) p) s.answered after.answered;
    zero = zero;
    usable_top = is_top;
    stopped = stopped_out d passed says.0 ∙ after.stopped;
  }

  pub sent_usable : (held : Held) (placing : Placing) (top : ℕ) → Places s.held held k bytes placing → ((other : List ℕ) → map.get s.held k ≡ Some other → other ≡ bytes)
      → s.stopped ≡ false → top ≡ max s.usable_top k
      → IsSenderAfter (record { terms = s.terms; held = held; answered = s.answered; zero = s.zero; usable_top = top; stopped = s.stopped }) (d ∷ passed)
  sent_usable held placing top places same going is =
      let all : usable (d ∷ passed) ≡ d ∷ usable passed = usable_out d passed says.0 (after.stopped ∙ going) in
      sent_block held placing top places same
      (subst (λ ds. (s.zero ≡ true) ↔ HasPassed (Ack 0) ds) (sym all) (
        (λ yes. elim (after.zero.0 yes) [ inl came ↦ inl (inr came) | inr went ↦ inr (inr went) ]),
        (λ p. after.zero.1 (elim p [
          | inl came ↦ inl (another d Out In (Data k bytes) (Ack 0) (usable passed) says (no_ack 0) came)
          | inr went ↦ inr (another d Out Out (Data k bytes) (Ack 0) (usable passed) says (no_ack 0) went)
        ])),
      ))
      (subst (λ ds. IsGreatest (λ n. BlockPassed Out n ds) top) (sym all)
      (greatest_more (λ n. BlockPassed Out n (usable passed)) (λ n. BlockPassed Out n (d ∷ usable passed)) k (λ n p. (p.0, inr p.1)) (bytes, inl says)
      (λ n p. elim (now_or_before d Out Out (Data k bytes) (Data n p.0) (usable passed) says p.1) [ inl here ↦ inl (cc) | inr before ↦ inr (p.0, before) ])
      s.usable_top top is after.usable_top))

  pub sent_unusable : (held : Held) (placing : Placing) → Places s.held held k bytes placing → ((other : List ℕ) → map.get s.held k ≡ Some other → other ≡ bytes)
      → s.stopped ≡ true
      → IsSenderAfter (record { terms = s.terms; held = held; answered = s.answered; zero = s.zero; usable_top = s.usable_top; stopped = s.stopped }) (d ∷ passed)
  sent_unusable held placing places same stopped =
      let all : usable (d ∷ passed) ≡ usable passed = unusable d passed says.0 (after.stopped ∙ stopped) in
      sent_block held placing s.usable_top places same
      (subst (λ ds. (s.zero ≡ true) ↔ HasPassed (Ack 0) ds) (sym all) after.zero)
      (subst (λ ds. IsGreatest (λ n. BlockPassed Out n ds) s.usable_top) (sym all) after.usable_top)

-- ---- something comes in that is no block

module _ (s : Sender) (passed : List Datagram) (after : IsSenderAfter s passed) (d : Datagram) (m : Message) (says : Says d In m) (no_block : (k : ℕ) (bytes : List ℕ) → m ≡ Data k bytes → ⊥) where
  came : (answered : ℕ) (zero stopped : Bool) → IsGreatest (λ j. Passed In (Ack j) (d ∷ passed)) answered → ((zero ≡ true) ↔ HasPassed (Ack 0) (d ∷ usable passed)) → has_stopped (d ∷ passed) ≡ stopped
      → IsSenderAfter (record { terms = s.terms; held = s.held; answered = answered; zero = zero; usable_top = s.usable_top; stopped = stopped }) (d ∷ passed)
  came answered zero stopped is_answered is_zero is_stopped =
      let all : usable (d ∷ passed) ≡ d ∷ usable passed = usable_in d passed says.0 in
      record {
        blocks = without_block d In m passed s.held after.blocks says no_block;
        sends_blocks = λ n other p. after.sends_blocks n other (another d In In m (Data n other) passed says (no_block n other) p);
        takes_acks = λ j p. after.takes_acks j (another_way d In Out m (Ack j) passed says in_not_out p);
        answered = is_answered;
        zero = subst (λ ds. (zero ≡ true) ↔ HasPassed (Ack 0) ds) (sym all) is_zero;
        usable_top = subst (λ ds. IsGreatest (λ n. BlockPassed Out n ds) s.usable_top) (sym all)
            (greatest_kept (λ n. BlockPassed Out n (usable passed)) (λ n. BlockPassed Out n (d ∷ usable passed)) (λ n p. (p.0, inr p.1))
            (λ n p. (p.0, another_way d In Out m (Data n p.0) (usable passed) says in_not_out p.1)) s.usable_top after.usable_top);
        stopped = is_stopped;
      }

  same_zero : (m ≡ Ack 0 → ⊥) → (s.zero ≡ true) ↔ HasPassed (Ack 0) (d ∷ usable passed)
  same_zero other = (
    (λ yes. elim (after.zero.0 yes) [ inl before ↦ inl (inr before) | inr went ↦ inr (inr went) ]),
    (λ p. after.zero.1 (elim p [
      | inl now ↦ inl (another d In In m (Ack 0) (usable passed) says other now)
      | inr went ↦ inr (another d In Out m (Ack 0) (usable passed) says other went)
    ])),
  )

  same_answered : ((j : ℕ) → m ≡ Ack j → ⊥) → IsGreatest (λ j. Passed In (Ack j) (d ∷ passed)) s.answered
  same_answered other = greatest_kept (λ j. Passed In (Ack j) passed) (λ j. Passed In (Ack j) (d ∷ passed)) (λ j p. inr p) (λ j p. another d In In m (Ack j) passed says (other j) p) s.answered after.answered

-- an ACK
pub got : (s : Sender) (passed : List Datagram) (d : Datagram) (j answered : ℕ) (zero : Bool) → IsSenderAfter s passed → Says d In (Ack j) → answered ≡ max s.answered j
    → ((j ≡ 0) × (zero ≡ true)) ⊎ ((j ≢ 0) × (zero ≡ s.zero))
    → IsSenderAfter (record { terms = s.terms; held = s.held; answered = answered; zero = zero; usable_top = s.usable_top; stopped = s.stopped }) (d ∷ passed)
got s passed d j answered zero after says is either =
    came s passed after d (Ack j) says (λ k bytes e. absurd (cc)) answered zero s.stopped
    (greatest_more (λ n. Passed In (Ack n) passed) (λ n. Passed In (Ack n) (d ∷ passed)) j (λ n p. inr p) (inl says)
    (λ n p. elim (now_or_before d In In (Ack j) (Ack n) passed says p) [ inl here ↦ inl (cc) | inr before ↦ inr before ]) s.answered answered is after.answered)
    (elim either [
      | inl first ↦ ((λ yes. inl (inl (says.0, subst (λ n. Spells d.payload (Ack n)) first.0 says.1))), (λ p. first.1))
      | inr other ↦ subst (λ (z : Bool). (z ≡ true) ↔ HasPassed (Ack 0) (d ∷ usable passed)) (sym other.1) (same_zero s passed after d (Ack j) says (λ k bytes e. absurd (cc)) (λ e. other.0 (cc)))
    ])
    (stopped_with d (Ack j) passed says ∙ after.stopped)

-- an ERROR
pub came_error : (s : Sender) (passed : List Datagram) (d : Datagram) (code : ℕ) (text : List ℕ) → IsSenderAfter s passed → Says d In (Error code text)
    → IsSenderAfter (record { terms = s.terms; held = s.held; answered = s.answered; zero = s.zero; usable_top = s.usable_top; stopped = true }) (d ∷ passed)
came_error s passed d code text after says =
    let no_block : (k : ℕ) (bytes : List ℕ) → Error code text ≡ Data k bytes → ⊥ = λ k bytes e. absurd (cc) in
    came s passed after d (Error code text) says no_block s.answered s.zero true
    (same_answered s passed after d (Error code text) says no_block (λ j e. absurd (cc)))
    (same_zero s passed after d (Error code text) says no_block (λ e. absurd (cc)))
    (stopped_with d (Error code text) passed says)

-- ---- at the start

pub fresh : (s : Sender) (passed : List Datagram) → IsBeforeBlocks passed → has_stopped passed ≡ s.stopped → s.held ≡ map.empty → s.answered ≡ 0 → s.zero ≡ false → s.usable_top ≡ 0 → IsSenderAfter s passed
fresh s passed before stopped empty answered zero top = record {
  blocks = λ k bytes. (
    (λ p. absurd (before.no_block k bytes p)),
    (λ is. let no : None ≡ Some bytes = sym (ap (λ h. map.get h k) empty ∙ map.get-empty _ k) ∙ is in absurd (cc)),
  );
  sends_blocks = λ k bytes p. before.no_block k bytes (inl p);
  takes_acks = λ j p. before.no_ack j (inr p);
  answered = subst (IsGreatest (λ j. Passed In (Ack j) passed)) (sym answered) (none_greatest (λ j. Passed In (Ack j) passed) (λ j p. before.no_ack j (inl p)));
  zero = ((λ yes. absurd (true≢false (sym yes ∙ zero))), (λ p. absurd (before.no_ack 0 (usable_has (Ack 0) passed p))));
  usable_top = subst (IsGreatest (λ n. BlockPassed Out n (usable passed))) (sym top) (none_greatest (λ n. BlockPassed Out n (usable passed)) (λ n p. before.no_block n p.0 (inr (usable_passed Out (Data n p.0) passed p.1))));
  stopped = stopped;
}

-- ---- what changes nothing

pub sender_aside : (s : Sender) (passed : List Datagram) (d : Datagram) (m : Message) → IsSenderAfter s passed → Spells d.payload m → IsAside d.dir m → IsSenderAfter s (d ∷ passed)
sender_aside s passed d m after spells is =
    let says : Says d d.dir m = (refl, spells) in
    let no_block = aside_no_block d.dir m is in
    let no_ack = aside_no_ack d.dir m is in
    record {
      blocks = without_block d d.dir m passed s.held after.blocks says no_block;
      sends_blocks = λ k bytes p. after.sends_blocks k bytes (another d d.dir In m (Data k bytes) passed says (no_block k bytes) p);
      takes_acks = λ j p. after.takes_acks j (another d d.dir Out m (Ack j) passed says (no_ack j) p);
      answered = aside_ack d d.dir In m passed s.answered says no_ack after.answered;
      zero = aside_zero d d.dir m passed s.zero says (no_ack 0) after.zero;
      usable_top = aside_block d d.dir Out m passed s.usable_top says no_block after.usable_top;
      stopped = aside_stopped d m passed spells is ∙ after.stopped;
    }
