-- What a receiver stands for after each datagram.
use Rattle.std.proofs.Common.{◌≡◌, ◌≢◌, ◌↔◌, ◌⊎◌, ℕ, max, Bool, true, false, List, ◌∷◌, Some, None, inl, inr, refl, sym, subst, ap, ◌∙◌}
use Rattle.std.proofs.lemmas.Bool.{true≢false}
use Rattle.std.specs.FinMap as map
use Rattle.tftp_packet.specs.{Message, Data, Ack, Error, Spells}
use Rattle.tftp_packet.specs.Hosts.{Datagram}
use Rattle.tftp_packet.specs.{In, Out}
use Rattle.law_model.specs.Rules.{Passed, HasPassed, IsGreatest, usable}
use Rattle.tftp_ends.specs.Blocks.{Held, Placing, Places}
use Rattle.tftp_ends.specs.{has_stopped, Receiver, IsReceiverAfter, Says, IsAside, IsBeforeBlocks}
use Rattle.tftp_ends.proofs.Passing.{now_or_before, another, another_way, stopped_out, stopped_with, unusable, usable_out, usable_has, usable_passed, greatest_more, none_greatest, with_block, without_block, aside_ack, aside_usable_ack, aside_zero, aside_stopped, aside_no_block, aside_no_ack}
use Rattle.tftp_packet.proofs.HostsLemmas.Ways.{in_not_out, out_not_in}

-- a block comes in
pub taken : (r : Receiver) (passed : List Datagram) (d : Datagram) (k : ℕ) (bytes : List ℕ) (held : Held) (placing : Placing) → IsReceiverAfter r passed → Says d In (Data k bytes)
    → Places r.held held k bytes placing → ((other : List ℕ) → map.get r.held k ≡ Some other → other ≡ bytes)
    → IsReceiverAfter (record { terms = r.terms; held = held; acked = r.acked; usable_acked = r.usable_acked; zero = r.zero; stopped = r.stopped }) (d ∷ passed)
taken r passed d k bytes held placing after says places same =
    let no_ack : (j : ℕ) → Data k bytes ≡ Ack j → ⊥ = λ j e. absurd (cc) in
    record {
      blocks = with_block d In k bytes passed r.held held placing after.blocks says places same;
      takes_blocks = λ n other p. after.takes_blocks n other (another_way d In Out (Data k bytes) (Data n other) passed says in_not_out p);
      sends_acks = λ j p. after.sends_acks j (another d In In (Data k bytes) (Ack j) passed says (no_ack j) p);
      acked = aside_ack d In Out (Data k bytes) passed r.acked says no_ack after.acked;
      usable_acked = aside_usable_ack d In Out (Data k bytes) passed r.usable_acked says no_ack after.usable_acked;
      zero = aside_zero d In (Data k bytes) passed r.zero says (no_ack 0) after.zero;
      stopped = stopped_with d (Data k bytes) passed says ∙ after.stopped;
    }

-- ---- an ACK goes out

module _ (r : Receiver) (passed : List Datagram) (after : IsReceiverAfter r passed) (d : Datagram) (j : ℕ) (says : Says d Out (Ack j)) where
  no_block : (k : ℕ) (bytes : List ℕ) → Ack j ≡ Data k bytes → ⊥
  no_block k bytes e = absurd (cc)

  sent_ack : (acked usable_acked : ℕ) (zero : Bool) → acked ≡ max r.acked j → IsGreatest (λ n. Passed Out (Ack n) (usable (d ∷ passed))) usable_acked
      → ((zero ≡ true) ↔ HasPassed (Ack 0) (usable (d ∷ passed)))
      → IsReceiverAfter (record { terms = r.terms; held = r.held; acked = acked; usable_acked = usable_acked; zero = zero; stopped = r.stopped }) (d ∷ passed)
  sent_ack acked usable_acked zero is is_usable is_zero = record {
    blocks = without_block d Out (Ack j) passed r.held after.blocks says no_block;
    takes_blocks = λ n other p. after.takes_blocks n other (another d Out Out (Ack j) (Data n other) passed says (no_block n other) p);
    sends_acks = λ n p. after.sends_acks n (another_way d Out In (Ack j) (Ack n) passed says out_not_in p);
    acked = greatest_more (λ n. Passed Out (Ack n) passed) (λ n. Passed Out (Ack n) (d ∷ passed)) j (λ n p. inr p) (inl says)
        (λ n p. elim (now_or_before d Out Out (Ack j) (Ack n) passed says p) [ inl here ↦ inl (cc) | inr before ↦ inr before ]) r.acked acked is after.acked;
    usable_acked = is_usable;
    zero = is_zero;
    stopped = stopped_out d passed says.0 ∙ after.stopped;
  }

  pub sent_unusable : (acked : ℕ) → acked ≡ max r.acked j → r.stopped ≡ true
      → IsReceiverAfter (record { terms = r.terms; held = r.held; acked = acked; usable_acked = r.usable_acked; zero = r.zero; stopped = r.stopped }) (d ∷ passed)
  sent_unusable acked is stopped =
      let all : usable (d ∷ passed) ≡ usable passed = unusable d passed says.0 (after.stopped ∙ stopped) in
      sent_ack acked r.usable_acked r.zero is (subst (λ ds. IsGreatest (λ n. Passed Out (Ack n) ds) r.usable_acked) (sym all) after.usable_acked)
      (subst (λ ds. (r.zero ≡ true) ↔ HasPassed (Ack 0) ds) (sym all) after.zero)

  pub sent_usable : (acked usable_acked : ℕ) (zero : Bool) → acked ≡ max r.acked j → usable_acked ≡ max r.usable_acked j → r.stopped ≡ false
      → ((j ≡ 0) × (zero ≡ true)) ⊎ ((j ≢ 0) × (zero ≡ r.zero))
      → IsReceiverAfter (record { terms = r.terms; held = r.held; acked = acked; usable_acked = usable_acked; zero = zero; stopped = r.stopped }) (d ∷ passed)
  sent_usable acked usable_acked zero is is_usable going either =
      let all : usable (d ∷ passed) ≡ d ∷ usable passed = usable_out d passed says.0 (after.stopped ∙ going) in
      sent_ack acked usable_acked zero is
      (subst (λ ds. IsGreatest (λ n. Passed Out (Ack n) ds) usable_acked) (sym all)
      (greatest_more (λ n. Passed Out (Ack n) (usable passed)) (λ n. Passed Out (Ack n) (d ∷ usable passed)) j (λ n p. inr p) (inl says)
      (λ n p. elim (now_or_before d Out Out (Ack j) (Ack n) (usable passed) says p) [ inl here ↦ inl (cc) | inr before ↦ inr before ]) r.usable_acked usable_acked is_usable after.usable_acked))
      (elim either [
        | inl first ↦ ((λ yes. subst (HasPassed (Ack 0)) (sym all) (inr (inl (says.0, subst (λ n. Spells d.payload (Ack n)) first.0 says.1)))), (λ p. first.1))
        | inr other ↦ subst (λ (z : Bool). (z ≡ true) ↔ HasPassed (Ack 0) (usable (d ∷ passed))) (sym other.1) (aside_zero d Out (Ack j) passed r.zero says (λ e. other.0 (cc)) after.zero)
      ])

-- ---- an ERROR comes in

pub came_error : (r : Receiver) (passed : List Datagram) (d : Datagram) (code : ℕ) (text : List ℕ) → IsReceiverAfter r passed → Says d In (Error code text)
    → IsReceiverAfter (record { terms = r.terms; held = r.held; acked = r.acked; usable_acked = r.usable_acked; zero = r.zero; stopped = true }) (d ∷ passed)
came_error r passed d code text after says =
    let no_block : (k : ℕ) (bytes : List ℕ) → Error code text ≡ Data k bytes → ⊥ = λ k bytes e. absurd (cc) in
    let no_ack : (j : ℕ) → Error code text ≡ Ack j → ⊥ = λ j e. absurd (cc) in
    record {
      blocks = without_block d In (Error code text) passed r.held after.blocks says no_block;
      takes_blocks = λ n other p. after.takes_blocks n other (another d In Out (Error code text) (Data n other) passed says (no_block n other) p);
      sends_acks = λ j p. after.sends_acks j (another d In In (Error code text) (Ack j) passed says (no_ack j) p);
      acked = aside_ack d In Out (Error code text) passed r.acked says no_ack after.acked;
      usable_acked = aside_usable_ack d In Out (Error code text) passed r.usable_acked says no_ack after.usable_acked;
      zero = aside_zero d In (Error code text) passed r.zero says (no_ack 0) after.zero;
      stopped = stopped_with d (Error code text) passed says;
    }

-- ---- at the start

pub fresh : (r : Receiver) (passed : List Datagram) → IsBeforeBlocks passed → has_stopped passed ≡ r.stopped → r.held ≡ map.empty → r.acked ≡ 0 → r.usable_acked ≡ 0 → r.zero ≡ false → IsReceiverAfter r passed
fresh r passed before stopped empty acked usable_acked zero = record {
  blocks = λ k bytes. (
    (λ p. absurd (before.no_block k bytes p)),
    (λ is. let no : None ≡ Some bytes = sym (ap (λ h. map.get h k) empty ∙ map.get-empty _ k) ∙ is in absurd (cc)),
  );
  takes_blocks = λ k bytes p. before.no_block k bytes (inr p);
  sends_acks = λ j p. before.no_ack j (inl p);
  acked = subst (IsGreatest (λ j. Passed Out (Ack j) passed)) (sym acked) (none_greatest (λ j. Passed Out (Ack j) passed) (λ j p. before.no_ack j (inr p)));
  usable_acked = subst (IsGreatest (λ j. Passed Out (Ack j) (usable passed))) (sym usable_acked) (none_greatest (λ j. Passed Out (Ack j) (usable passed)) (λ j p. before.no_ack j (inr (usable_passed Out (Ack j) passed p))));
  zero = ((λ yes. absurd (true≢false (sym yes ∙ zero))), (λ p. absurd (before.no_ack 0 (usable_has (Ack 0) passed p))));
  stopped = stopped;
}

-- ---- what changes nothing

pub receiver_aside : (r : Receiver) (passed : List Datagram) (d : Datagram) (m : Message) → IsReceiverAfter r passed → Spells d.payload m → IsAside d.dir m → IsReceiverAfter r (d ∷ passed)
receiver_aside r passed d m after spells is =
    let says : Says d d.dir m = (refl, spells) in
    let no_block = aside_no_block d.dir m is in
    let no_ack = aside_no_ack d.dir m is in
    record {
      blocks = without_block d d.dir m passed r.held after.blocks says no_block;
      takes_blocks = λ k bytes p. after.takes_blocks k bytes (another d d.dir Out m (Data k bytes) passed says (no_block k bytes) p);
      sends_acks = λ j p. after.sends_acks j (another d d.dir In m (Ack j) passed says (no_ack j) p);
      acked = aside_ack d d.dir Out m passed r.acked says no_ack after.acked;
      usable_acked = aside_usable_ack d d.dir Out m passed r.usable_acked says no_ack after.usable_acked;
      zero = aside_zero d d.dir m passed r.zero says (no_ack 0) after.zero;
      stopped = aside_stopped d m passed spells is ∙ after.stopped;
    }
