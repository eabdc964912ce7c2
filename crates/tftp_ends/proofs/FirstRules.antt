-- Which rules of blocks and acknowledgements a block or an ACK can break.
use Rattle.std.proofs.Common.{◌≡◌, ◌↔◌, ℕ, ◌≤◌, Bool, true, false, IsTrue, Result, Err, List, nat_lt, sym, subst, ap, ◌∙◌, arith}
use Rattle.std.proofs.lemmas.Bool.{ltb-true, lt-ltb, false≢true}
use Rattle.tftp_packet.specs.{Message, Data, Ack, NoneBelow}
use Rattle.tftp_packet.specs.Hosts.{Datagram}
use Rattle.law_model.specs.Rules.{end_number, EndBroken, FirstEndBroken}
use Rattle.law_model.specs.{EndRule, BlockChanged, AckAhead, AckZero, Terms}
use Rattle.tftp_ends.specs.{IsFound, Rejection}

module _ (t : Terms) (passed : List Datagram) where
  -- a block breaks none of the rules of acknowledgements
  pub no_block_rule : (k : ℕ) (bytes : List ℕ) → NoneBelow end_number (EndBroken t passed (Data k bytes)) 25 → (EndBroken t passed (Data k bytes) BlockChanged → ⊥)
      → (rule : EndRule) → EndBroken t passed (Data k bytes) rule → ⊥
  no_block_rule k bytes before last AckAhead b = b
  no_block_rule k bytes before last AckZero b = b
  no_block_rule k bytes before last BlockChanged b = last b
  no_block_rule k bytes before last rule b = before rule (omega arith) b

  -- an ACK breaks none of the rules of blocks
  pub no_ack_rule : (j : ℕ) → (EndBroken t passed (Ack j) AckAhead → ⊥) → (EndBroken t passed (Ack j) AckZero → ⊥) → (rule : EndRule) → EndBroken t passed (Ack j) rule → ⊥
  no_ack_rule j ahead zero_waits AckAhead b = ahead b
  no_ack_rule j ahead zero_waits AckZero b = zero_waits b
  no_ack_rule j ahead zero_waits rule b = b

  pub before_26 : (j : ℕ) → NoneBelow end_number (EndBroken t passed (Ack j)) 26
  before_26 j AckAhead low b = absurd (omega arith)
  before_26 j AckZero low b = absurd (omega arith)
  before_26 j rule low b = b

-- a test that fails
pub refute : {W : Type 0} (b : Bool) → b ≡ false → (IsTrue b ↔ W) → W → ⊥
refute b fails tells w = false≢true (sym fails ∙ tells.1 w)

-- the rule that stands for what was found first
pub found_broken : (t : Terms) (passed : List Datagram) (m : Message) (rule : EndRule) (r : Result (Unit {0}) Rejection) → (rejection : Rejection) × (r ≡ Err rejection) × (rejection ≡ Rejection.Broken rule) → FirstEndBroken t passed m rule
    → IsFound t passed m r
found_broken t passed m rule r is first = subst (IsFound t passed m) (sym (is.1 ∙ ap (λ (rejection : Rejection). Err rejection) is.2)) first

-- a test for a number above 0
pub above_zero : (n : ℕ) → (nat_lt 0 n ≡ true) ↔ (1 ≤ n)
above_zero n = ((λ e. let above = ltb-true 0 n e in omega arith), (λ above. lt-ltb 0 n (omega arith)))

pub both : {A B C : Type 0} → (A ↔ B) → (B ↔ C) → A ↔ C
both ab bc = ((λ a. bc.0 (ab.0 a)), (λ c. ab.1 (bc.1 c)))
