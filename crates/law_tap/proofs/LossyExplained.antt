-- What a run and its wire say of all that was said.
use Rattle.std.proofs.Common.{◌≡◌, ℕ, zero, suc, ◌+◌, ◌-◌, ◌*◌, ◌/◌, ◌%◌, ◌<◌, ◌≤◌, min, List, [], ◌∷◌, length, Contains, codes, inl, inr, refl, sym, subst, ap, ◌∙◌, arith}
use Rattle.std.specs.FinMap as map
use Rattle.std.proofs.lemmas.Bool.{cases_lt}
use Rattle.std.proofs.lemmas.Nat.{mod_below, div-add-mod'}
use Rattle.tftp_packet.specs.{OptionMap, no_options, RequestParts, Message, Side, Get, Put, End, Client, Server}
use Rattle.tftp_nego.specs.{AreInRange, MayAgree}
use Rattle.tftp_nego.proofs.Numbers.{map_in_range}
use Rattle.law_model.specs.Model.{Meaning, request_of, SomethingAgreed, blksize_of, block, block_count, MachinePacket, Req, Oack, Data, Ack, Error, message_of, HasSent, heard, LetsAckZeroOn, Step, view_of}
use Rattle.law_model.specs.Model.Machines.{other_end, sender_of, receiver_of}
use Rattle.law_model.proofs.ModelLemmas.Cut.{one_error}
use Rattle.law_model.proofs.ModelLemmas.Defaults.{default_blksize}
use Rattle.law_model.proofs.ModelLemmas.Members.{contains_cases, contains_none}
use Rattle.law_model.proofs.ModelLemmas.OtherEnd.{sender_other, receiver_other, client_other, server_other}
use Rattle.law_model.proofs.RulesLemmas.Joined.{length_block, whole_block}
use Rattle.law_end.proofs.Soundness.MadeMeaning.{from_eight}
use Rattle.law_end.proofs.Soundness.SameOrNot.{same_options}
use Rattle.law_tap.specs.{Pass, as_at, TapDatagram, TapSides, AreApart}
use Rattle.law_tap.specs.LossesBetween.{AllSent}
use Rattle.law_tap.specs.LossyRules.{IsSaid, IsNumber, IsBlockLength, Explains}
use Rattle.law_tap.proofs.LossySaid.{Known}
use Rattle.law_tap.proofs.OneTap.{Has, pass_moment, heard_passed, zero_get, begun}

-- ---- lengths

left_over : (b : ℕ) (wire : List ℕ) → 0 < b → length (block b wire (block_count b wire)) ≡ length wire % b
left_over b wire some =
    let back : length wire / b + 1 - 1 ≡ length wire / b = omega arith in
    let is : length (block b wire (block_count b wire)) ≡ min b (length wire - length wire / b * b) = length_block b (block_count b wire) wire ∙ ap (λ i. min b (length wire - i * b)) back in
    let split = div-add-mod' (length wire) b in
    let low = mod_below (length wire) b some in
    omega (arith, is, split, low)

block_fits : (b : ℕ) (wire : List ℕ) (k : ℕ) → 0 < b → 1 ≤ k → k ≤ block_count b wire → IsBlockLength b (length wire) k (length (block b wire k))
block_fits b wire k some low up = elim (cases_lt k (block_count b wire)) [
  | inl below ↦ inl (omega (arith, below), whole_block b (block_count b wire) k wire refl low below)
  | inr at ↦ let is : k ≡ block_count b wire = omega (arith, at, up) in inr (is, ap (λ i. length (block b wire i)) is ∙ left_over b wire some)
]

-- ---- what the packet of a message is

module _ (m : Meaning) (wire : List ℕ) (passed : List Pass) (e : End) where
  of_request : (now : RequestParts) (p : MachinePacket) → Has passed e p → Message.Request now ≡ message_of m wire p → (now ≡ request_of m) × Has passed e Req
  of_request now Req at is = (cc, at)
  of_request now _ at is = absurd (cc)

  of_oack : (options : OptionMap) (p : MachinePacket) → Has passed e p → Message.Oack options ≡ message_of m wire p → (options ≡ m.agreed) × Has passed e Oack
  of_oack options Oack at is = (cc, at)
  of_oack options _ at is = absurd (cc)

  of_data : (k : ℕ) (bytes : List ℕ) (p : MachinePacket) → Has passed e p → Message.Data k bytes ≡ message_of m wire p → (bytes ≡ block (blksize_of m) wire k) × Has passed e (Data k)
  of_data k bytes (Data j) at is =
      let number : k ≡ j = cc in
      let these : bytes ≡ block (blksize_of m) wire j = cc in
      (these ∙ ap (block (blksize_of m) wire) (sym number), subst (λ i. Has passed e (Data i)) (sym number) at)
  of_data k bytes _ at is = absurd (cc)

  of_ack : (k : ℕ) (p : MachinePacket) → Has passed e p → Message.Ack k ≡ message_of m wire p → Has passed e (Ack k)
  of_ack k (Ack j) at is = let number : k ≡ j = cc in subst (λ i. Has passed e (Ack i)) (sym number) at
  of_ack k _ at is = absurd (cc)

  of_error : (code : ℕ) (text : List ℕ) (p : MachinePacket) → Has passed e p → Message.Error code text ≡ message_of m wire p → Has passed e (Error code text)
  of_error code text (Error c t) at is =
      let number : code ≡ c = cc in
      let words : text ≡ t = cc in
      subst (λ i. Has passed e (Error i text)) (sym number) (subst (λ x. Has passed e (Error c x)) (sym words) at)
  of_error code text _ at is = absurd (cc)

pub all_sent_at : (steps : List Step) (passed : List Pass) (x : Pass) → AllSent steps passed → Contains passed x → HasSent (view_of x.from steps) x.packet
all_sent_at steps [] x sent at = absurd (contains_none x at)
all_sent_at steps (y ∷ passed) x sent at = elim (contains_cases y passed x at) [
  | inl now ↦ subst (λ (z : Pass). HasSent (view_of z.from steps) z.packet) now sent.0
  | inr before ↦ all_sent_at steps passed x sent.1 before
]

module _ (s : TapSides) (apart : AreApart s) (tapped : List TapDatagram) (k : Known s apart tapped) where
  pub told_request : (e : End) (now : RequestParts) → IsSaid s tapped e (Message.Request now) → (now ≡ request_of k.m) × Has k.passed e Req
  told_request e now said = let (p, at, is) = k.says e (Message.Request now) said in of_request k.m k.wire k.passed e now p at is

  pub told_oack : (e : End) (options : OptionMap) → IsSaid s tapped e (Message.Oack options) → (options ≡ k.m.agreed) × Has k.passed e Oack
  told_oack e options said = let (p, at, is) = k.says e (Message.Oack options) said in of_oack k.m k.wire k.passed e options p at is

  pub told_data : (e : End) (n : ℕ) (bytes : List ℕ) → IsSaid s tapped e (Message.Data n bytes) → (bytes ≡ block (blksize_of k.m) k.wire n) × Has k.passed e (Data n)
  told_data e n bytes said = let (p, at, is) = k.says e (Message.Data n bytes) said in of_data k.m k.wire k.passed e n bytes p at is

  pub told_ack : (e : End) (n : ℕ) → IsSaid s tapped e (Message.Ack n) → Has k.passed e (Ack n)
  told_ack e n said = let (p, at, is) = k.says e (Message.Ack n) said in of_ack k.m k.wire k.passed e n p at is

  pub told_error : (e : End) (code : ℕ) (text : List ℕ) → IsSaid s tapped e (Message.Error code text) → Has k.passed e (Error code text)
  told_error e code text said = let (p, at, is) = k.says e (Message.Error code text) said in of_error k.m k.wire k.passed e code text p at is

  -- ---- who sends it, and when

  pub asks : (e : End) → Has k.passed e Req → e ≡ Client
  asks e at = server_other e (pass_moment k.m k.wire k.passed e Req k.may at).allowed

  pub agrees : (e : End) → Has k.passed e Oack → (e ≡ Server) × SomethingAgreed k.m
  agrees e at = let past = pass_moment k.m k.wire k.passed e Oack k.may at in (client_other e past.allowed.client, past.allowed.agreed)

  pub sends : (e : End) (n : ℕ) → Has k.passed e (Data n) → (e ≡ sender_of k.m.side) × (1 ≤ n) × (n ≤ block_count (blksize_of k.m) k.wire)
  sends e n at =
      let past = pass_moment k.m k.wire k.passed e (Data n) k.may at in
      (receiver_other e k.m.side past.allowed.receiver, past.allowed.from_one, past.allowed.in_wire)

  pub gets : (e : End) (n : ℕ) → Has k.passed e (Ack n) → e ≡ receiver_of k.m.side
  gets e n at = sender_other e k.m.side (pass_moment k.m k.wire k.passed e (Ack n) k.may at).allowed.sender

  has_block : (e : End) (n i : ℕ) → Has k.passed e (Ack n) → 1 ≤ i → i ≤ n → Has k.passed (other_end e) (Data i)
  has_block e n i at low up =
      let past = pass_moment k.m k.wire k.passed e (Ack n) k.may at in
      heard_passed k.m k.wire k.passed k.may (other_end e) (Data i) e (Ack n) past (past.allowed.sent i low up)

  pub one_told : (e : End) (c d : ℕ) (t u : List ℕ) → Has k.passed e (Error c t) → Has k.passed e (Error d u) → (c ≡ d) × (t ≡ u)
  one_told e c d t u one other =
      let (steps, run, sent) = k.sent in
      one_error k.m k.wire steps run e c d t u (all_sent_at steps k.passed (record { from = e; packet = Error c t }) sent one) (all_sent_at steps k.passed (record { from = e; packet = Error d u }) sent other)

  -- ---- the OACK has passed where something is agreed

  abbrev pub Oacked : Type 0
  Oacked = SomethingAgreed k.m → Has k.passed Server Oack

  pub oacked_data : (e : End) (n : ℕ) → Has k.passed e (Data n) → Oacked
  oacked_data e n at = (begun k.m k.wire k.passed k.may n (subst (λ f. Has k.passed f (Data n)) (sends e n at).0 at)).1

  zero_oacked : (side : Side) (e : End) → k.m.side ≡ side → Has k.passed e (Ack 0) → Oacked
  zero_oacked Get e get at = λ some. zero_get k.m k.wire k.passed k.may get (subst (λ f. Has k.passed f (Ack 0)) (gets e 0 at ∙ ap receiver_of get) at)
  zero_oacked Put e put at =
      let past = pass_moment k.m k.wire k.passed e (Ack 0) k.may at in
      elim (subst (λ side. LetsAckZeroOn side k.m (heard (as_at (other_end e) past.earlier))) put (past.allowed.zero refl)) [
        | inl plain ↦ λ some. absurd (some plain.0)
        | inr (some, n, there) ↦ oacked_data (other_end e) n (heard_passed k.m k.wire k.passed k.may (other_end e) (Data n) e (Ack 0) past there)
      ]

  pub oacked_ack : (e : End) (n : ℕ) → Has k.passed e (Ack n) → Oacked
  oacked_ack e zero at = zero_oacked k.m.side e refl at
  oacked_ack e (suc n) at = oacked_data (other_end e) 1 (has_block e (suc n) 1 at (omega arith) (omega arith))

  -- ---- all of it

  counted : (n : ℕ) → IsNumber s tapped n → n ≤ block_count (blksize_of k.m) k.wire
  counted n (e, inr (bytes, said)) = (sends e n (told_data e n bytes said).1).2
  counted n (e, inl said) = by n (told_ack e n said) where
    by : (i : ℕ) → Has k.passed e (Ack i) → i ≤ block_count (blksize_of k.m) k.wire
    by zero at = omega arith
    by (suc i) at = (sends (other_end e) (suc i) (has_block e (suc i) (suc i) at (omega arith) (omega arith))).2

  pub some_size : Oacked → 0 < blksize_of k.m
  some_size oacked = elim (same_options k.m.agreed no_options) [
    | inl none ↦ let is = default_blksize k.m none in omega (arith, is)
    | inr some ↦
        let t = k.spelled (record { from = Server; packet = Oack }) (oacked some) in
        let eight = from_eight (map.get k.m.agreed (codes "blksize")) (subst AreInRange (sym t.1.1.map) (map_in_range t.1.1.pairs) (codes "blksize")) in
        omega (arith, eight)
  ]

  zero_agreed : k.m.side ≡ Get → (e : End) → Has k.passed e (Ack 0) → SomethingAgreed k.m
  zero_agreed get e at =
      let past = pass_moment k.m k.wire k.passed e (Ack 0) k.may at in
      (subst (λ side. LetsAckZeroOn side k.m (heard (as_at (other_end e) past.earlier))) get (past.allowed.zero refl)).0

  pub explained : (asked : RequestParts) → IsSaid s tapped Client (Message.Request asked) → Oacked → Explains s asked tapped k.m.agreed (length k.wire)
  explained asked request oacked =
      let is : asked ≡ request_of k.m = (told_request Client asked request).0 in
      let side : asked.side ≡ k.m.side = ap (λ (r : RequestParts). r.side) is in
      let mode : asked.mode ≡ k.m.mode = ap (λ (r : RequestParts). r.mode) is in
      let some = some_size oacked in
      record {
        may = subst (λ r. MayAgree s.rollover r k.m.agreed) (sym is) k.fits.may_agree;
        spelled = λ agreed. k.spelled (record { from = Server; packet = Oack }) (oacked agreed);
        given = λ e options said. let t = told_oack e options said in (t.0, (agrees e t.1).1);
        zero = λ get e said. zero_agreed (sym side ∙ get) e (told_ack e 0 said);
        size = λ octet size has. k.fits.size (sym mode ∙ octet) size has;
        numbered = k.fits.numbered;
        numbers = counted;
        blocks = λ e n bytes said.
            let t = told_data e n bytes said in
            let at = sends e n t.1 in
            subst (λ x. IsBlockLength (blksize_of k.m) (length k.wire) n (length x)) (sym t.0) (block_fits (blksize_of k.m) k.wire n some at.1 at.2);
      }
