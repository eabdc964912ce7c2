-- What a judge takes a payload for says the block near, and all else as the payload does.
use Rattle.std.proofs.Common.{◌≡◌, ◌≢◌, ℕ, ◌+◌, ◌<◌, ◌≤◌, List, [], ◌∷◌, Option, Some, None, length, inl, inr, refl, sym, subst, ap, ◌∙◌, arith}
use Rattle.std.specs.List.{AllByRecursion}
use Rattle.tftp_packet.specs.{Message, OptionMap, RequestParts, Spells, opcode_of}
use Rattle.tftp_packet.specs.{Rollover}
use Rattle.tftp_packet.specs.Rounds.{position_of}
use Rattle.tftp_packet.specs.Hosts.{Datagram, Header}
use Rattle.law_model.specs.Rules.{IsHigh, transfer_of}
use Rattle.law_end.specs.{OneEnded, Passes}
use Rattle.law_end.proofs.Accord.HighestNumbers.{high_of, transfer_spelled}
use Rattle.law_rollover.specs.{IsTaken, IsTakenFor, IsUnrolled, unrolled_payload, with_payload}
use Rattle.law_rollover.proofs.Payloads.{error_back, error_on, first_stays, neither_stays, oack_stays, request_stays}
use Rattle.law_rollover.proofs.Shown.{one_greatest}
use Rattle.std.proofs.lemmas.List.Elements.{All-cons}
use Rattle.tftp_judge.specs.{HasKept, IsJudgeAfter, Judge}
use Rattle.law_rollover.proofs.Unrolling.{ack_unrolled, data_unrolled, length_stays, opcode_stays}

module _ (passed : List Datagram) (payload now : List ℕ) where
  pub data_taken : (rollover : Option Rollover) → IsTakenFor rollover passed payload now → (n : ℕ) (bytes : List ℕ) → Spells payload (Message.Data n bytes)
      → (k : ℕ) → (rollover ≡ None → k ≡ n) → ((r : Rollover) (high : ℕ) → rollover ≡ Some r → IsHigh passed high → k ≡ position_of r high n)
      → Spells now (Message.Data k bytes)
  data_taken None is n bytes spells k itself near =
      subst (λ p. Spells p (Message.Data k bytes)) (sym is) (subst (λ j. Spells payload (Message.Data j bytes)) (sym (itself refl)) spells)
  data_taken (Some r) (high, top, is) n bytes spells k itself near =
      subst (λ p. Spells p (Message.Data k bytes)) (sym is)
      (subst (λ j. Spells (unrolled_payload r high payload) (Message.Data j bytes)) (sym (near r high refl top)) (data_unrolled r high n bytes payload spells))

  pub ack_taken : (rollover : Option Rollover) → IsTakenFor rollover passed payload now → (n : ℕ) → Spells payload (Message.Ack n)
      → (k : ℕ) → (rollover ≡ None → k ≡ n) → ((r : Rollover) (high : ℕ) → rollover ≡ Some r → IsHigh passed high → k ≡ position_of r high n)
      → Spells now (Message.Ack k)
  ack_taken None is n spells k itself near =
      subst (λ p. Spells p (Message.Ack k)) (sym is) (subst (λ j. Spells payload (Message.Ack j)) (sym (itself refl)) spells)
  ack_taken (Some r) (high, top, is) n spells k itself near =
      subst (λ p. Spells p (Message.Ack k)) (sym is)
      (subst (λ j. Spells (unrolled_payload r high payload) (Message.Ack j)) (sym (near r high refl top)) (ack_unrolled r high n payload spells))

  pub request_taken : (rollover : Option Rollover) → IsTakenFor rollover passed payload now → (asked : RequestParts) → Spells payload (Message.Request asked) → now ≡ payload
  request_taken None is asked spells = is
  request_taken (Some r) (high, top, is) asked spells = is ∙ request_stays r high payload asked spells

  pub oack_taken : (rollover : Option Rollover) → IsTakenFor rollover passed payload now → (options : OptionMap) → Spells payload (Message.Oack options) → now ≡ payload
  oack_taken None is options spells = is
  oack_taken (Some r) (high, top, is) options spells = is ∙ oack_stays r high payload options spells

  pub neither_taken : (rollover : Option Rollover) → IsTakenFor rollover passed payload now → (opcode_of payload ≡ 3 → length payload < 4)
      → (opcode_of payload ≡ 4 → length payload ≢ 4) → now ≡ payload
  neither_taken None is block ack = is
  neither_taken (Some r) (high, top, is) block ack = is ∙ neither_stays r high payload block ack

  pub first_taken : (rollover : Option Rollover) → IsTakenFor rollover passed payload now → passed ≡ [] → AllByRecursion (λ b. b < 256) payload → now ≡ payload
  first_taken None is none all = is
  first_taken (Some r) (high, top, is) none all =
      let low : high ≡ 0 = one_greatest _ high 0 (subst (λ (ds : List Datagram). IsHigh ds high) none top) (record { member = inl refl; most = λ n some. absurd (elim some.1 [ inl in_none ↦ in_none | inr out_none ↦ out_none ]) }) in
      is ∙ ap (λ k. unrolled_payload r k payload) low ∙ first_stays r payload all

  pub opcode_taken : (rollover : Option Rollover) → IsTakenFor rollover passed payload now → opcode_of now ≡ opcode_of payload
  opcode_taken None is = ap opcode_of is
  opcode_taken (Some r) (high, top, is) = ap opcode_of is ∙ opcode_stays r high payload

  pub length_taken : (rollover : Option Rollover) → IsTakenFor rollover passed payload now → length now ≡ length payload
  length_taken None is = ap length is
  length_taken (Some r) (high, top, is) = ap length is ∙ length_stays r high payload

  pub error_taken : (rollover : Option Rollover) → IsTakenFor rollover passed payload now → (code : ℕ) (text : List ℕ) → Spells payload (Message.Error code text) → Spells now (Message.Error code text)
  error_taken None is code text spells = subst (λ p. Spells p (Message.Error code text)) (sym is) spells
  error_taken (Some r) (high, top, is) code text spells = subst (λ p. Spells p (Message.Error code text)) (sym is) (error_on r high payload code text spells)

  pub error_given : (rollover : Option Rollover) → IsTakenFor rollover passed payload now → (code : ℕ) (text : List ℕ) → Spells now (Message.Error code text) → Spells payload (Message.Error code text)
  error_given None is code text spells = subst (λ p. Spells p (Message.Error code text)) is spells
  error_given (Some r) (high, top, is) code text spells = error_back r high payload code text (subst (λ p. Spells p (Message.Error code text)) is spells)

-- ---- datagrams

-- after lawful ones there is what a datagram is taken for
pub taken_there : (rollover : Option Rollover) (h : Header) (earlier : List Datagram) (d : Datagram) → OneEnded h earlier
    → (now : Datagram) × IsTaken rollover (transfer_of h earlier) d now
taken_there None h earlier d lawful = (d, (refl, refl))
taken_there (Some r) h earlier d lawful =
    let (high, top) = high_of (transfer_of h earlier) (transfer_spelled h earlier lawful) in
    (with_payload d (unrolled_payload r high d.payload), (refl, (high, top, refl)))

pub as_unrolled : (r : Rollover) (passed : List Datagram) (d now : Datagram) → IsTaken (Some r) passed d now → IsUnrolled r passed d now
as_unrolled r passed d now (same, (high, top, is)) = (high, top, same ∙ ap (with_payload d) is)

pub as_taken : (r : Rollover) (passed : List Datagram) (d now : Datagram) → IsUnrolled r passed d now → IsTaken (Some r) passed d now
as_taken r passed d now (high, top, is) = (is ∙ ap (with_payload d) (sym (ap (λ (x : Datagram). x.payload) is)), (high, top, ap (λ (x : Datagram). x.payload) is))

-- the judge stands for what it has accepted, and for one more that passes
pub one_more : (j k : Judge) (h : Header) (earlier : List Datagram) (rollover : Option Rollover) (d now : Datagram) → IsJudgeAfter j h earlier
    → IsTaken rollover (transfer_of h earlier) d now → length d.payload ≤ 65527 → Passes h earlier now × HasKept k.state h (now ∷ earlier)
    → k.fed ≡ j.fed + 1 → k.refused ≡ None → Passes h earlier now × IsJudgeAfter k h (now ∷ earlier)
one_more j k h earlier rollover d now after taken short found fed goes_on = (
  found.0,
  record {
    lawful = (found.0, after.lawful);
    short = All-cons (λ (x : Datagram). length x.payload ≤ 65527) now earlier (let same = length_taken (transfer_of h earlier) d.payload now.payload rollover taken.1 in omega (arith, same, short)) after.short;
    has_kept = found.1;
    fed = (let old = after.fed in omega (arith, fed, old));
    goes_on = goes_on;
  },
)
