-- A capture has one verdict, by the runs of two ends.
use Rattle.std.proofs.Common.{◌≡◌, ◌⊎◌, ℕ, ◌+◌, ◌-◌, List, [], ◌∷◌, ◌++◌, length, get_or, Result, Ok, Err, inl, inr, refl, sym, subst, ap, ◌∙◌, append_assoc, map, reverse}
use Rattle.tftp_packet.specs.{PacketFault, Short}
use Rattle.tftp_packet.proofs.FaultOrder.{first_fault_unique}
use Rattle.tftp_packet.specs.Hosts.{Datagram, Header}
use Rattle.law_end.specs.{number_of, Broken, FirstBroken, AbortedBy, Rule, IsLawful}
use Rattle.law_model.specs.Model.{Meaning}
use Rattle.tftp_judge.specs.{IsSaid, IsUnlawfulAt, IsVerdict, Refusal, Unlawful, Aborted, Incomplete, NormalTooLong}
use Rattle.tftp_judge.specs.declared.refusal.Refusal.TheVariants.{Memory}
use Rattle.law_model.specs.Rules.{end_rules, transfer_of}
use Rattle.law_model.specs.{EndRule, PortRule}
use Rattle.tftp_nego.specs.{AgreementRule}
use Rattle.law_end.proofs.FirstBroken.FirstError.{one_first, none_first}
use Rattle.law_end.proofs.Whole.Beginnings.{beginning_is_lawful}
use Rattle.law_end.proofs.Whole.TwoEnds.{one_shown}
use Rattle.law_end.proofs.FirstBroken.FirstBroken.{one_first_broken}

-- ---- the rule

-- the rules in their order, each at its number less one
abbrev in_order : List Rule
in_order =
    Rule.Port PortRule.Foreign
    ∷ Rule.Port PortRule.Wrong
    ∷ Rule.Port PortRule.BadAnswer
    ∷ Rule.NoRequest
    ∷ Rule.Malformed Short
    ∷ Rule.WrongKind
    ∷ Rule.AfterError
    ∷ Rule.RequestChanged
    ∷ Rule.RequestAfterStart
    ∷ Rule.ReplyChanged
    ∷ Rule.Agreement AgreementRule.OackEmpty
    ∷ Rule.Agreement AgreementRule.MulticastAgreed
    ∷ Rule.Agreement AgreementRule.OptionNotRequested
    ∷ Rule.Agreement AgreementRule.OptionOutsideProfile
    ∷ Rule.Agreement AgreementRule.OptionValue
    ∷ Rule.OackChanged
    ∷ Rule.OackAfterStart
    ∷ map Rule.Block end_rules

abbrev rule_at : ℕ → Rule
rule_at n = get_or in_order (n - 1) (Rule.Port PortRule.Foreign)

of_port : (port : PortRule) → rule_at (number_of (Rule.Port port)) ≡ Rule.Port port
of_port PortRule.Foreign = refl
of_port _ = refl

of_agreement : (broken : AgreementRule) → rule_at (number_of (Rule.Agreement broken)) ≡ Rule.Agreement broken
of_agreement AgreementRule.OackEmpty = refl
of_agreement _ = refl

of_end : (e : EndRule) → rule_at (number_of (Rule.Block e)) ≡ Rule.Block e
of_end EndRule.NotStarted = refl
of_end _ = refl

-- a rule is the one with its number, or that a packet is malformed
named : (r : Rule) → (rule_at (number_of r) ≡ r) ⊎ ((fault : PacketFault) × (r ≡ Rule.Malformed fault))
named (Rule.Malformed fault) = inr (fault, refl)
named (Rule.Port rule) = inl (of_port rule)
named (Rule.Agreement rule) = inl (of_agreement rule)
named (Rule.Block rule) = inl (of_end rule)
named _ = inl refl

malformed_at : (r : Rule) → rule_at (number_of r) ≡ r → number_of r ≡ 5 → r ≡ Rule.Malformed Short
malformed_at r is five = sym is ∙ ap rule_at five

module _ (h : Header) (earlier : List Datagram) (d : Datagram) where
  both_malformed : (r q : Rule) (f g : PacketFault) → r ≡ Rule.Malformed f → q ≡ Rule.Malformed g → Broken h earlier d r → Broken h earlier d q → r ≡ q
  both_malformed r q f g is also one other =
      let x = (subst (Broken h earlier d) is one).1 in
      let y = (subst (Broken h earlier d) also other).1 in
      is ∙ ap Rule.Malformed (first_fault_unique d.payload f g x y) ∙ sym also

  pub one_rule : (r q : Rule) → FirstBroken h earlier d r → FirstBroken h earlier d q → r ≡ q
  one_rule r q one other =
      let same = one_first_broken h earlier d r q one other in
      elim (named r) [
        | inl plain ↦ elim (named q) [
          | inl also ↦ sym plain ∙ ap rule_at same ∙ also
          | inr bad ↦ both_malformed r q Short bad.0 (malformed_at r plain (same ∙ ap number_of bad.1)) bad.1 one.0 other.0
        ]
        | inr bad ↦ elim (named q) [
          | inl also ↦ both_malformed r q bad.0 Short bad.1 (malformed_at q also (sym same ∙ ap number_of bad.1)) one.0 other.0
          | inr worse ↦ both_malformed r q bad.0 worse.0 bad.1 worse.1 one.0 other.0
        ]
      ]

-- ---- the datagram

tail_same : (x y : Datagram) (xs ys : List Datagram) → x ∷ xs ≡ y ∷ ys → xs ≡ ys
tail_same x y xs ys e = cc

head_same : (x y : Datagram) (xs ys : List Datagram) → x ∷ xs ≡ y ∷ ys → x ≡ y
head_same x y xs ys e = cc

-- two places in one list
data Order (a : List Datagram) (x : Datagram) (b : List Datagram) (y : Datagram) : Type 0 where
  at : a ≡ b → x ≡ y → Order a x b y
  before : (mid : List Datagram) → b ≡ (a ++ x ∷ []) ++ mid → Order a x b y
  after : (mid : List Datagram) → a ≡ (b ++ y ∷ []) ++ mid → Order a x b y

ordered : (a b : List Datagram) (x y : Datagram) (r s : List Datagram) → a ++ x ∷ r ≡ b ++ y ∷ s → Order a x b y
ordered [] [] x y r s e = at refl (head_same x y r s e)
ordered [] (q ∷ b) x y r s e = before b (ap (λ z. z ∷ b) (sym (head_same x q r (b ++ y ∷ s) e)))
ordered (p ∷ a) [] x y r s e = after a (ap (λ z. z ∷ a) (head_same p y (a ++ x ∷ r) s e))
ordered (p ∷ a) (q ∷ b) x y r s e = by (ordered a b x y r s (tail_same p q (a ++ x ∷ r) (b ++ y ∷ s) e)) where
  same : p ≡ q
  same = head_same p q (a ++ x ∷ r) (b ++ y ∷ s) e

  by : Order a x b y → Order (p ∷ a) x (q ∷ b) y
  by (at is also) = at (ap (λ z. z ∷ a) same ∙ ap (λ ds. q ∷ ds) is) also
  by (before mid is) = before mid (ap (λ z. z ∷ b) (sym same) ∙ ap (λ ds. p ∷ ds) is)
  by (after mid is) = after mid (ap (λ z. z ∷ a) same ∙ ap (λ ds. q ∷ ds) is)

abbrev IsAt : Header → List Datagram → ℕ → Rule → Type 0
IsAt h ds = IsUnlawfulAt (IsLawful h) h ds

pub not_lawful : (h : Header) (ds : List Datagram) (i : ℕ) (r : Rule) → IsAt h ds i r → IsLawful h ds → ⊥
not_lawful h ds i r u is = u.unlawful (beginning_is_lawful h (u.before ++ u.datagram ∷ []) u.rest
    (subst (IsLawful h) (u.split ∙ sym (append_assoc u.before (u.datagram ∷ []) u.rest)) is))

not_inside : (h : Header) (ds : List Datagram) (i : ℕ) (r : Rule) (u : IsAt h ds i r) (b mid : List Datagram) → IsLawful h b → b ≡ (u.before ++ u.datagram ∷ []) ++ mid → ⊥
not_inside h ds i r u b mid front is = u.unlawful (beginning_is_lawful h (u.before ++ u.datagram ∷ []) mid (subst (IsLawful h) is front))

one_place : (h : Header) (ds : List Datagram) (i j : ℕ) (r q : Rule) → IsAt h ds i r → IsAt h ds j q → Unlawful i r ≡ Unlawful j q
one_place h ds i j r q u v = by (ordered u.before v.before u.datagram v.datagram u.rest v.rest (sym u.split ∙ v.split)) where
  by : Order u.before u.datagram v.before v.datagram → Unlawful i r ≡ Unlawful j q
  by (at is also) =
      let broken = subst (λ b. FirstBroken h (reverse b) u.datagram q) (sym is) (subst (λ d. FirstBroken h (reverse v.before) d q) (sym also) v.broken) in
      ap (λ n. Unlawful n r) (u.index_is ∙ ap (λ b. length b + 1) is ∙ sym v.index_is) ∙ ap (Unlawful j) (one_rule h (reverse u.before) u.datagram r q u.broken broken)
  by (before mid is) = absurd (not_inside h ds i r u v.before mid v.lawful is)
  by (after mid is) = absurd (not_inside h ds j q v u.before mid u.lawful is)

-- ---- the verdict

-- of lawful datagrams
module _ (h : Header) (ds : List Datagram) where
  aborted_or : (by : AbortedBy) (code : ℕ) (w : Refusal) → IsSaid (Err w) → IsVerdict h ds (Err (Aborted by code)) → IsVerdict h ds (Err w) → Aborted by code ≡ w
  aborted_or by code (Unlawful j q) said one other = absurd (not_lawful h ds j q other one.0)
  aborted_or by code (Aborted also other_code) said one other =
      let same = one_first (transfer_of h (reverse ds)) by also code other_code one.2 other.2 in
      ap (λ b. Aborted b code) same.0 ∙ ap (Aborted also) same.1
  aborted_or by code (Incomplete c) said one other = absurd (none_first (transfer_of h (reverse ds)) other.2 by code one.2)
  aborted_or by code NormalTooLong said one other = absurd (one.1 other.1.0 other.1.1)
  aborted_or by code (Memory n) said one other = absurd said

  incomplete_or : (c : ℕ) (w : Refusal) → IsSaid (Err w) → IsVerdict h ds (Err (Incomplete c)) → IsVerdict h ds (Err w) → Incomplete c ≡ w
  incomplete_or c (Unlawful j q) said one other = absurd (not_lawful h ds j q other one.0)
  incomplete_or c (Aborted by code) said one other = absurd (none_first (transfer_of h (reverse ds)) one.2 by code other.2)
  incomplete_or c (Incomplete e) said one other = ap Incomplete (one.3 ∙ sym other.3)
  incomplete_or c NormalTooLong said one other = absurd (one.1 other.1.0 other.1.1)
  incomplete_or c (Memory n) said one other = absurd said

  too_long_or : (w : Refusal) → IsSaid (Err w) → IsVerdict h ds (Err NormalTooLong) → IsVerdict h ds (Err w) → NormalTooLong ≡ w
  too_long_or (Unlawful j q) said one other = absurd (not_lawful h ds j q other one.0)
  too_long_or (Aborted by code) said one other = absurd (other.1 one.1.0 one.1.1)
  too_long_or (Incomplete c) said one other = absurd (other.1 one.1.0 one.1.1)
  too_long_or NormalTooLong said one other = refl
  too_long_or (Memory n) said one other = absurd said

  unlawful_or : (i : ℕ) (r : Rule) (w : Refusal) → IsSaid (Err w) → IsVerdict h ds (Err (Unlawful i r)) → IsVerdict h ds (Err w) → Unlawful i r ≡ w
  unlawful_or i r (Unlawful j q) said one other = one_place h ds i j r q one other
  unlawful_or i r (Memory n) said one other = absurd said
  unlawful_or i r _ said one other = absurd (not_lawful h ds i r one other.0)

  one_refusal : (v w : Refusal) → IsSaid (Err v) → IsSaid (Err w) → IsVerdict h ds (Err v) → IsVerdict h ds (Err w) → v ≡ w
  one_refusal (Unlawful i r) w said also one other = unlawful_or i r w also one other
  one_refusal (Aborted by code) w said also one other = aborted_or by code w also one other
  one_refusal (Incomplete c) w said also one other = incomplete_or c w also one other
  one_refusal NormalTooLong w said also one other = too_long_or w also one other
  one_refusal (Memory n) w said also one other = absurd said

  not_refused : (m : Meaning) (w : Refusal) → IsSaid (Err w) → IsVerdict h ds (Ok m) → IsVerdict h ds (Err w) → ⊥
  not_refused m (Unlawful j q) said one other = not_lawful h ds j q other one.0
  not_refused m (Aborted by code) said one other = other.1 m one.1
  not_refused m (Incomplete c) said one other = other.1 m one.1
  not_refused m NormalTooLong said one other = other.2 m one.1 one.2
  not_refused m (Memory n) said one other = said

  pub one_verdict : (v w : Result Meaning Refusal) → IsSaid v → IsSaid w → IsVerdict h ds v → IsVerdict h ds w → v ≡ w
  one_verdict (Ok m) (Ok n) said also one other = ap Ok (one_shown h ds m n one.1 other.1)
  one_verdict (Ok m) (Err w) said also one other = absurd (not_refused m w also one other)
  one_verdict (Err v) (Ok n) said also one other = absurd (not_refused n v said other one)
  one_verdict (Err v) (Err w) said also one other = ap Err (one_refusal v w said also one other)
