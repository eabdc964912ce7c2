-- What the runs of the worked read have in common.
use Rattle.std.proofs.Common.{◌≡◌, ◌≢◌, ℕ, ◌≤◌, ◌⊎◌, List, [], ◌∷◌, Contains, length, take, codes, inl, inr, sym, subst, ap, ◌∙◌, arith, length-take, take_all, None}
use Rattle.tftp_packet.specs.{Get, Client, Server}
use Rattle.law_model.specs.Model.{Meaning, request_of, NothingAgreed, blksize_of, block, block_count, Deed, Sent, Took, Req, Data, Ack, History, HasSent, HasTaken, IsStartedOn, Step, view_of, IsRun, IsView, two_bytes}
use Rattle.law_model.proofs.ModelLemmas.Members.{contains_first, contains_later, contains_cases, contains_none}
use Rattle.law_model.proofs.ModelLemmas.Moments.{moment, taken_was_sent}
use Rattle.law_model.proofs.ModelLemmas.Blocks.{block_of_sender}
use Rattle.law_model.proofs.ModelLemmas.Defaults.{default_blksize}
use Rattle.law_end.specs.{Fits, ReadsAs}

-- a read whose client took a block and sent no ACK 0 has agreed to nothing
nothing_agreed_in : (m : Meaning) (wire : List ℕ) (steps : List Step) (k : ℕ) → IsRun m wire steps → m.side ≡ Get → HasTaken (view_of Client steps) (Data k) → (HasSent (view_of Client steps) (Ack 0) → ⊥) → NothingAgreed m
nothing_agreed_in m wire steps k run get took no_ack =
    let past = moment m wire steps Server (Sent (Data k)) run (taken_was_sent m wire steps run Client (Data k) took) in
    let started : IsStartedOn Get m (view_of Server past.earlier) = subst (λ side. IsStartedOn side m (view_of Server past.earlier)) get past.allowed.started in
    elim started [
      | inl asked ↦ asked.0
      | inr answered ↦ absurd (no_ack (taken_was_sent m wire steps run Server (Ack 0) (past.kept Server (Took (Ack 0)) answered.1)))
    ]

pub nothing_agreed : (m : Meaning) (wire : List ℕ) (view : History) (k : ℕ) → IsView m wire Client view → m.side ≡ Get → HasTaken view (Data k) → (HasSent view (Ack 0) → ⊥) → NothingAgreed m
nothing_agreed m wire view k (steps, run, is) get took no_ack =
    nothing_agreed_in m wire steps k run get (subst (λ v. HasTaken v (Data k)) (sym is) took) (λ at. no_ack (subst (λ v. HasSent v (Ack 0)) is at))

-- a block that was taken is one of the wire
pub taken_in_wire : (m : Meaning) (wire : List ℕ) (view : History) (k : ℕ) → IsView m wire Client view → HasTaken view (Data k) → k ≤ block_count (blksize_of m) wire
taken_in_wire m wire view k (steps, run, is) took =
    (block_of_sender m wire steps run Server k (taken_was_sent m wire steps run Client (Data k) (subst (λ v. HasTaken v (Data k)) (sym is) took))).1

short_wire : (wire : List ℕ) → take 512 wire ≡ codes "hi" → wire ≡ codes "hi"
short_wire wire e =
    let n : length (take 512 wire) ≡ 2 = ap length e in
    let short : length wire ≤ 512 = omega (arith, length-take 512 wire) in
    sym (take_all 512 wire short) ∙ e

-- a first block of two bytes, where a block has 512, is the whole wire
pub wire_is_hi : (m : Meaning) (wire : List ℕ) → NothingAgreed m → block (blksize_of m) wire 1 ≡ codes "hi" → wire ≡ codes "hi"
wire_is_hi m wire none e = short_wire wire (subst (λ b. block b wire 1 ≡ codes "hi") (default_blksize m none) e)

pub side_is_get : (m : Meaning) → request_of m ≡ request_of two_bytes → m.side ≡ Get
side_is_get m e = ap (λ r. r.side) e

pub file_is_wire : (m : Meaning) (wire : List ℕ) → request_of m ≡ request_of two_bytes → Fits None m wire → wire ≡ m.file
file_is_wire m wire e fits = subst (λ mode. ReadsAs mode wire m.file) (ap (λ r. r.mode) e) fits.reads

pub meaning_is : (m : Meaning) → request_of m ≡ request_of two_bytes → NothingAgreed m → m.file ≡ codes "hi" → m ≡ two_bytes
meaning_is m e none file = λ i. record { side = (e i).side; name = (e i).name; mode = (e i).mode; requested = (e i).options; agreed = none i; file = file i }

-- what stands in a view of three deeds
pub deeds_of : (a b c d : Deed) → Contains (a ∷ b ∷ c ∷ []) d → (a ≡ d) ⊎ ((b ≡ d) ⊎ (c ≡ d))
deeds_of a b c d at = elim (contains_cases a (b ∷ c ∷ []) d at) [
  | inl is ↦ inl is
  | inr later ↦ elim (contains_cases b (c ∷ []) d later) [
    | inl is ↦ inr (inl is)
    | inr last ↦ elim (contains_cases c [] d last) [ inl is ↦ inr (inr is) | inr none ↦ absurd (contains_none d none) ]
  ]
]

pub hi_taken : (a : Deed) → HasTaken (a ∷ Took (Data 1) ∷ Sent Req ∷ []) (Data 1)
hi_taken a = contains_later a (Took (Data 1) ∷ Sent Req ∷ []) (Took (Data 1)) (contains_first (Took (Data 1)) (Sent Req ∷ []))

pub no_ack_zero : (a : Deed) → a ≢ Sent (Ack 0) → HasSent (a ∷ Took (Data 1) ∷ Sent Req ∷ []) (Ack 0) → ⊥
no_ack_zero a differs at = elim (deeds_of a (Took (Data 1)) (Sent Req) (Sent (Ack 0)) at) [
  | inl is ↦ differs is
  | inr (inl is) ↦ absurd (cc)
  | inr (inr is) ↦ absurd (cc)
]
