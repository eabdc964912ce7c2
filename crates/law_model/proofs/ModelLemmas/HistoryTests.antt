-- Tests of what an end has sent and taken.
use Rattle.std.proofs.Common.{◌≡◌, ℕ, zero, suc, ◌==◌, ◌&&◌, ◌||◌, nat_le, not, bytes_eq, Bool, true, false, [], ◌∷◌, inl, inr, refl, subst, ◌≤◌, arith}
use Rattle.std.proofs.lemmas.Bool.{and_parts, or_cases, eqb-true, false≢true, cases_lt}
use Rattle.std.proofs.lemmas.Slice.Eq.{bytes_eq-Decides}
use Rattle.tftp_packet.specs.{End, Client, Server}
use Rattle.law_model.specs.Model.{Sent, Took, MachinePacket, Req, Oack, Data, Ack, Error, History, HasSent, HasTaken, NoErrorSent, is_error}
use Rattle.law_model.proofs.ModelLemmas.Members.{contains_first, contains_later, contains_cases, contains_none}

abbrev pub same_end : End → End → Bool
same_end Client Client = true
same_end Server Server = true
same_end _ _ = false

abbrev pub same_packet : MachinePacket → MachinePacket → Bool
same_packet Req Req = true
same_packet Oack Oack = true
same_packet (Data k) (Data j) = k == j
same_packet (Ack k) (Ack j) = k == j
same_packet (Error c t) (Error d u) = c == d && bytes_eq t u
same_packet _ _ = false

abbrev pub has_sent : History → MachinePacket → Bool
has_sent [] p = false
has_sent (Sent q ∷ h) p = same_packet q p || has_sent h p
has_sent (Took q ∷ h) p = has_sent h p

abbrev pub has_taken : History → MachinePacket → Bool
has_taken [] p = false
has_taken (Sent q ∷ h) p = has_taken h p
has_taken (Took q ∷ h) p = same_packet q p || has_taken h p

abbrev pub all_sent : (MachinePacket → Bool) → History → Bool
all_sent test [] = true
all_sent test (Sent q ∷ h) = test q && all_sent test h
all_sent test (Took q ∷ h) = all_sent test h

abbrev pub is_no_data : MachinePacket → Bool
is_no_data (Data k) = false
is_no_data _ = true

abbrev pub is_no_ack : MachinePacket → Bool
is_no_ack (Ack j) = false
is_no_ack _ = true

abbrev pub is_no_error : MachinePacket → Bool
is_no_error p = not (is_error p)

abbrev pub is_data_up_to : ℕ → MachinePacket → Bool
is_data_up_to k (Data higher) = nat_le higher k
is_data_up_to k _ = true

-- some block was taken
abbrev pub took_data : History → Bool
took_data [] = false
took_data (Took (Data k) ∷ h) = true
took_data (_ ∷ h) = took_data h

-- blocks 1 to j were taken
abbrev pub took_up_to : History → ℕ → Bool
took_up_to h zero = true
took_up_to h (suc j) = has_taken h (Data (suc j)) && took_up_to h j

-- ---- what they tell

pub end_is : (a b : End) → same_end a b ≡ true → a ≡ b
end_is Client Server e = absurd (false≢true e)
end_is Server Client e = absurd (false≢true e)
end_is _ _ e = refl

pub packet_is : (p q : MachinePacket) → same_packet p q ≡ true → p ≡ q
packet_is Req Req e = refl
packet_is Oack Oack e = refl
packet_is (Data k) (Data j) e = let is : k ≡ j = eqb-true k j e in cc
packet_is (Ack k) (Ack j) e = let is : k ≡ j = eqb-true k j e in cc
packet_is (Error c t) (Error d u) e =
    let parts = and_parts (c == d) (bytes_eq t u) e in
    let code : c ≡ d = eqb-true c d parts.0 in
    let text : t ≡ u = (bytes_eq-Decides t u).0 parts.1 in
    cc
packet_is _ _ e = absurd (false≢true e)

pub sent_is : (h : History) (p : MachinePacket) → has_sent h p ≡ true → HasSent h p
sent_is [] p e = absurd (false≢true e)
sent_is (Took q ∷ h) p e = contains_later (Took q) h (Sent p) (sent_is h p e)
sent_is (Sent q ∷ h) p e = elim (or_cases (same_packet q p) (has_sent h p) e) [
  | inl same ↦ subst (λ x. HasSent (Sent q ∷ h) x) (packet_is q p same) (contains_first (Sent q) h)
  | inr more ↦ contains_later (Sent q) h (Sent p) (sent_is h p more)
]

pub taken_is : (h : History) (p : MachinePacket) → has_taken h p ≡ true → HasTaken h p
taken_is [] p e = absurd (false≢true e)
taken_is (Sent q ∷ h) p e = contains_later (Sent q) h (Took p) (taken_is h p e)
taken_is (Took q ∷ h) p e = elim (or_cases (same_packet q p) (has_taken h p) e) [
  | inl same ↦ subst (λ x. HasTaken (Took q ∷ h) x) (packet_is q p same) (contains_first (Took q) h)
  | inr more ↦ contains_later (Took q) h (Took p) (taken_is h p more)
]

pub all_is : (test : MachinePacket → Bool) (h : History) (p : MachinePacket) → all_sent test h ≡ true → HasSent h p → test p ≡ true
all_is test [] p e at = absurd (contains_none (Sent p) at)
all_is test (Took q ∷ h) p e at = elim (contains_cases (Took q) h (Sent p) at) [ inl is ↦ absurd (cc) | inr more ↦ all_is test h p e more ]
all_is test (Sent q ∷ h) p e at =
    let parts = and_parts (test q) (all_sent test h) e in
    elim (contains_cases (Sent q) h (Sent p) at) [
      | inl is ↦ let same : q ≡ p = cc in subst (λ x. test x ≡ true) same parts.0
      | inr more ↦ all_is test h p parts.1 more
    ]

-- no ERROR was sent
pub none_sent : (h : History) → all_sent is_no_error h ≡ true → NoErrorSent h
none_sent h e code text at = false≢true (all_is is_no_error h (Error code text) e at)

pub took_data_is : (h : History) → took_data h ≡ true → (k : ℕ) × HasTaken h (Data k)
took_data_is [] e = absurd (false≢true e)
took_data_is (Took (Data k) ∷ h) e = (k, contains_first (Took (Data k)) h)
took_data_is (Took Req ∷ h) e = let t = took_data_is h e in (t.0, contains_later (Took Req) h (Took (Data t.0)) t.1)
took_data_is (Took Oack ∷ h) e = let t = took_data_is h e in (t.0, contains_later (Took Oack) h (Took (Data t.0)) t.1)
took_data_is (Took (Ack j) ∷ h) e = let t = took_data_is h e in (t.0, contains_later (Took (Ack j)) h (Took (Data t.0)) t.1)
took_data_is (Took (Error code text) ∷ h) e = let t = took_data_is h e in (t.0, contains_later (Took (Error code text)) h (Took (Data t.0)) t.1)
took_data_is (Sent q ∷ h) e = let t = took_data_is h e in (t.0, contains_later (Sent q) h (Took (Data t.0)) t.1)

pub took_up_to_is : (h : History) (j : ℕ) → took_up_to h j ≡ true → (k : ℕ) → 1 ≤ k → k ≤ j → HasTaken h (Data k)
took_up_to_is h zero e k low high = absurd (omega arith)
took_up_to_is h (suc j) e k low high =
    let parts = and_parts (has_taken h (Data (suc j))) (took_up_to h j) e in
    elim (cases_lt k (suc j)) [
      | inl below ↦ took_up_to_is h j parts.1 k low (omega arith)
      | inr at ↦ let is : suc j ≡ k = omega arith in subst (λ x. HasTaken h (Data x)) is (taken_is h (Data (suc j)) parts.0)
    ]
