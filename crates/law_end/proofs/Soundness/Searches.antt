-- Whether an ACK 0 or any block has passed one way; and that the first answer has passed.
use Rattle.std.proofs.Common.{◌≡◌, ◌⊎◌, ℕ, List, [], ◌∷◌, inl, inr, refl, subst, ap}
use Rattle.std.proofs.lemmas.Bool.{cases_eq}
use Rattle.tftp_packet.specs.{OptionMap, Message, Spells, Side, Put}
use Rattle.tftp_packet.specs.Hosts.{Datagram}
use Rattle.tftp_packet.specs.{Dir, In, Out}
use Rattle.law_model.specs.Rules.{Passed, HasPassed}
use Rattle.law_end.specs.{Agrees, Begins, IsAnswer, FirstAnswer}
use Rattle.law_end.proofs.Accord.HighestNumbers.{AllSpelled, scan}
use Rattle.law_end.proofs.Soundness.MadeMeaning.{oack_spelled}

-- ---- what is searched for

abbrev IsAckZero : Dir → Dir → Message → Type 0
IsAckZero In In (Message.Ack j) = j ≡ 0
IsAckZero Out Out (Message.Ack j) = j ≡ 0
IsAckZero _ _ _ = ⊥

ack_zero : (way dir : Dir) (m : Message) → IsAckZero way dir m ⊎ (IsAckZero way dir m → ⊥)
ack_zero In In (Message.Ack j) = cases_eq j 0
ack_zero Out Out (Message.Ack j) = cases_eq j 0
ack_zero In Out m = inr (λ is. is)
ack_zero Out In m = inr (λ is. is)
ack_zero In In (Message.Data k bytes) = inr (λ is. is)
ack_zero In In (Message.Request r) = inr (λ is. is)
ack_zero In In (Message.Oack o) = inr (λ is. is)
ack_zero In In (Message.Error code text) = inr (λ is. is)
ack_zero Out Out (Message.Data k bytes) = inr (λ is. is)
ack_zero Out Out (Message.Request r) = inr (λ is. is)
ack_zero Out Out (Message.Oack o) = inr (λ is. is)
ack_zero Out Out (Message.Error code text) = inr (λ is. is)

ack_zero_is : (way dir : Dir) (m : Message) → IsAckZero way dir m → (dir ≡ way) × (m ≡ Message.Ack 0)
ack_zero_is In In (Message.Ack j) is = (refl, ap Message.Ack is)
ack_zero_is Out Out (Message.Ack j) is = (refl, ap Message.Ack is)
ack_zero_is In Out m is = absurd is
ack_zero_is Out In m is = absurd is
ack_zero_is In In (Message.Data k bytes) is = absurd is
ack_zero_is In In (Message.Request r) is = absurd is
ack_zero_is In In (Message.Oack o) is = absurd is
ack_zero_is In In (Message.Error code text) is = absurd is
ack_zero_is Out Out (Message.Data k bytes) is = absurd is
ack_zero_is Out Out (Message.Request r) is = absurd is
ack_zero_is Out Out (Message.Oack o) is = absurd is
ack_zero_is Out Out (Message.Error code text) is = absurd is

is_ack_zero : (way : Dir) → IsAckZero way way (Message.Ack 0)
is_ack_zero In = refl
is_ack_zero Out = refl

pub has_ack_zero : (way : Dir) (ds : List Datagram) → AllSpelled ds → Passed way (Message.Ack 0) ds ⊎ (Passed way (Message.Ack 0) ds → ⊥)
has_ack_zero way ds all = elim (scan (IsAckZero way) (ack_zero way) ds all) [
  | inl f ↦ let (same, is) = ack_zero_is way f.0 f.1 f.2 in inl (subst (λ x. Passed way x ds) is (subst (λ w. Passed w f.1 ds) same f.3))
  | inr none ↦ inr (λ p. none (way, Message.Ack 0, is_ack_zero way, p))
]

-- some block that went this way
abbrev IsData : Dir → Dir → Message → Type 0
IsData In In (Message.Data k bytes) = Unit {0}
IsData Out Out (Message.Data k bytes) = Unit {0}
IsData _ _ _ = ⊥

any_data : (way dir : Dir) (m : Message) → IsData way dir m ⊎ (IsData way dir m → ⊥)
any_data In In (Message.Data k bytes) = inl tt
any_data In In (Message.Request r) = inr (λ is. is)
any_data In In (Message.Ack j) = inr (λ is. is)
any_data In In (Message.Oack o) = inr (λ is. is)
any_data In In (Message.Error code text) = inr (λ is. is)
any_data Out Out (Message.Data k bytes) = inl tt
any_data Out Out (Message.Request r) = inr (λ is. is)
any_data Out Out (Message.Ack j) = inr (λ is. is)
any_data Out Out (Message.Oack o) = inr (λ is. is)
any_data Out Out (Message.Error code text) = inr (λ is. is)
any_data In Out m = inr (λ is. is)
any_data Out In m = inr (λ is. is)

data_is : (way dir : Dir) (m : Message) (ds : List Datagram) → IsData way dir m → Passed dir m ds → (k : ℕ) × (bytes : List ℕ) × Passed way (Message.Data k bytes) ds
data_is In In (Message.Data k bytes) ds is p = (k, bytes, p)
data_is In In (Message.Request r) ds is p = absurd is
data_is In In (Message.Ack j) ds is p = absurd is
data_is In In (Message.Oack o) ds is p = absurd is
data_is In In (Message.Error code text) ds is p = absurd is
data_is Out Out (Message.Data k bytes) ds is p = (k, bytes, p)
data_is Out Out (Message.Request r) ds is p = absurd is
data_is Out Out (Message.Ack j) ds is p = absurd is
data_is Out Out (Message.Oack o) ds is p = absurd is
data_is Out Out (Message.Error code text) ds is p = absurd is
data_is In Out m ds is p = absurd is
data_is Out In m ds is p = absurd is

is_data : (way : Dir) (k : ℕ) (bytes : List ℕ) → IsData way way (Message.Data k bytes)
is_data In k bytes = tt
is_data Out k bytes = tt

pub has_data : (way : Dir) (ds : List Datagram) → AllSpelled ds → ((k : ℕ) × (bytes : List ℕ) × Passed way (Message.Data k bytes) ds) ⊎ ((k : ℕ) (bytes : List ℕ) → Passed way (Message.Data k bytes) ds → ⊥)
has_data way ds all = elim (scan (IsData way) (any_data way) ds all) [
  | inl f ↦ inl (data_is way f.0 f.1 ds f.2 f.3)
  | inr none ↦ inr (λ k bytes p. none (way, Message.Data k bytes, is_data way k bytes, p))
]

-- ---- the first answer has passed

pub oack_from : (side : Side) (ds : List Datagram) (o : OptionMap) → FirstAnswer side ds (Agrees o) → HasPassed (Message.Oack o) ds
oack_from side [] o first = absurd first
oack_from side (d ∷ ds) o first = elim first [
  | inl before ↦ elim (oack_from side ds o before) [ inl p ↦ inl (inr p) | inr p ↦ inr (inr p) ]
  | inr now ↦ by d.dir refl (oack_spelled side d o now.1)
]
  where
    by : (dir : Dir) → d.dir ≡ dir → Spells d.payload (Message.Oack o) → HasPassed (Message.Oack o) (d ∷ ds)
    by In way s = inl (inl (way, s))
    by Out way s = inr (inl (way, s))

zero_said : (d : Datagram) (x : Message) → Spells d.payload x → IsAnswer Put x Begins → Spells d.payload (Message.Ack 0)
zero_said d (Message.Ack j) s is = subst (λ i. Spells d.payload (Message.Ack i)) is s
zero_said d _ s is = absurd is

pub zero_from : (ds : List Datagram) → FirstAnswer Put ds Begins → HasPassed (Message.Ack 0) ds
zero_from [] first = absurd first
zero_from (d ∷ ds) first = elim first [
  | inl before ↦ elim (zero_from ds before) [ inl p ↦ inl (inr p) | inr p ↦ inr (inr p) ]
  | inr now ↦ by d.dir refl (zero_said d now.1.0 now.1.1 now.1.2)
]
  where
    by : (dir : Dir) → d.dir ≡ dir → Spells d.payload (Message.Ack 0) → HasPassed (Message.Ack 0) (d ∷ ds)
    by In way s = inl (inl (way, s))
    by Out way s = inr (inl (way, s))
