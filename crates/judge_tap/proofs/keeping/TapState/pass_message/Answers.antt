use Rattle.std.proofs.Common.{◌≡◌, ◌∷◌, [], ℕ, ◌<◌, true, List, Option, Some, OnOk, inr, sym, subst, ap, ◌∙◌}
use Rattle.std.specs.List.{AllByRecursion}
use Rattle.tftp_packet.specs.{End}
use Rattle.law_tap.specs.{BreaksNoTapRule, IsTakenBetween, is_passing, tap_route, transfer_between}
use Rattle.law_tap.proofs.StandingRules.{passing_stays}
use Rattle.judge_tap.specs.{AreTold, FindsAtTap, IsKeptAtTap, IsReadOf, IsRecorded, IsRecordedFor, IsTapTransfer, IsToldIfBroken, TapState, TapTransfer, passing_as, passing_of}
use Rattle.judge_tap.specs.TapStops.{TakesMemoryAtTap}
use Rattle.judge_tap.proofs.StateFound.{message_found}
use Rattle.judge_tap.proofs.TakenBetween.{first_taken, high_within, recorded_for}
use Rattle.judge_tap.proofs.ToldFound.{passed_told, stopped_told}
use Rattle.judge_tap.proofs.keeping.TapState.pass_message.Goals as goal

pub returns-in-Some-clause-finds : goal.returns-in-Some-clause-finds
returns-in-Some-clause-finds g c = λ s earlier now apart lawful kept follows taken source passing.
    let d = passing_as c.args.datagram now in
    let passed = transfer_between s earlier in
    let there : c.args.self.now.transfer ≡ Some c.in-Some.transfer = sym (ap (λ (k : TapState). k.transfer) c.self.view_is) ∙ c.in-Some.is in
    let was : IsTapTransfer c.in-Some.transfer s passed = subst (IsKeptAtTap s passed) there kept in
    let recorded : IsRecordedFor c.args.rollover s c.in-Some.transfer.asked.side passed d c.recorded-recorded.result =
    recorded_for s apart c.args.rollover earlier lawful c.in-Some.transfer.asked was.asked (passing_of c.args.datagram) now _
    (subst (λ (e : End). IsRecorded s e (passing_of c.args.datagram) c.recorded-recorded.result) (c.receiver.ensures s passed was) (c.recorded-recorded.ensures.recorded s apart source)) taken in
    let high = c.highest-highest.ensures s passed kept in
    let payload = c.as_slice.ensures ∙ c.recorded-recorded.ensures.payload in
    let read : IsReadOf now c.read_taken-read.result =
    c.read_taken-read.ensures passed now high (high_within s apart earlier lawful c.highest-highest.result high) (subst (λ l. IsTakenBetween c.args.rollover passed l now) (sym payload) taken) in
    subst (λ (o : Option TapTransfer). FindsAtTap s earlier d (IsKeptAtTap s (d ∷ passed) o) c.pass-found.result) (sym c.tell.ensures.transfer)
    (message_found s earlier d passing (IsTapTransfer c.pass-found.new.self s (d ∷ passed)) c.pass-found.result (c.pass-found.ensures.finds s earlier d apart lawful was source passing recorded read) (c.pass-found.ensures.read s passed d apart was source read))

pub returns-in-Some-clause-memory : goal.returns-in-Some-clause-memory
returns-in-Some-clause-memory g c = λ s earlier now apart lawful kept taken source memory.
    let d = passing_as c.args.datagram now in
    let passed = transfer_between s earlier in
    let there : c.args.self.now.transfer ≡ Some c.in-Some.transfer = sym (ap (λ (k : TapState). k.transfer) c.self.view_is) ∙ c.in-Some.is in
    let was : IsTapTransfer c.in-Some.transfer s passed = subst (IsKeptAtTap s passed) there kept in
    let recorded : IsRecordedFor c.args.rollover s c.in-Some.transfer.asked.side passed d c.recorded-recorded.result =
    recorded_for s apart c.args.rollover earlier lawful c.in-Some.transfer.asked was.asked (passing_of c.args.datagram) now _
    (subst (λ (e : End). IsRecorded s e (passing_of c.args.datagram) c.recorded-recorded.result) (c.receiver.ensures s passed was) (c.recorded-recorded.ensures.recorded s apart source)) taken in
    let high = c.highest-highest.ensures s passed kept in
    let payload = c.as_slice.ensures ∙ c.recorded-recorded.ensures.payload in
    let read : IsReadOf now c.read_taken-read.result =
    c.read_taken-read.ensures passed now high (high_within s apart earlier lawful c.highest-highest.result high) (subst (λ l. IsTakenBetween c.args.rollover passed l now) (sym payload) taken) in
    inr (inr (c.pass-found.ensures.memory s passed d was source recorded read memory))

pub returns-in-Some-clause-told : goal.returns-in-Some-clause-told
returns-in-Some-clause-told g c = λ s earlier now apart passes kept follows taken source passing told.
    let d = passing_as c.args.datagram now in
    let passed = transfer_between s earlier in
    let there : c.args.self.now.transfer ≡ Some c.in-Some.transfer = sym (ap (λ (k : TapState). k.transfer) c.self.view_is) ∙ c.in-Some.is in
    let was : IsTapTransfer c.in-Some.transfer s passed = subst (IsKeptAtTap s passed) there kept in
    let recorded : IsRecordedFor c.args.rollover s c.in-Some.transfer.asked.side passed d c.recorded-recorded.result =
    recorded_for s apart c.args.rollover earlier passes.1 c.in-Some.transfer.asked was.asked (passing_of c.args.datagram) now _
    (subst (λ (e : End). IsRecorded s e (passing_of c.args.datagram) c.recorded-recorded.result) (c.receiver.ensures s passed was) (c.recorded-recorded.ensures.recorded s apart source)) taken in
    let high = c.highest-highest.ensures s passed kept in
    let payload = c.as_slice.ensures ∙ c.recorded-recorded.ensures.payload in
    let read : IsReadOf now c.read_taken-read.result =
    c.read_taken-read.ensures passed now high (high_within s apart earlier passes.1 c.highest-highest.result high) (subst (λ l. IsTakenBetween c.args.rollover passed l now) (sym payload) taken) in
    let finds = message_found s earlier d passing (IsTapTransfer c.pass-found.new.self s (d ∷ passed)) c.pass-found.result (c.pass-found.ensures.finds s earlier d apart passes.1 was source passing recorded read) (c.pass-found.ensures.read s passed d apart was source read) in
    passed_told s earlier d passing c.pass-found.new.self (AreTold c.tell.new.self.told s (d ∷ earlier)) c.pass-found.result finds (λ heard.
    c.tell.ensures.told s earlier d apart passes heard read source passing (subst (λ (k : TapState). AreTold k.told s earlier) (sym c.self.view_is) told))

pub returns-in-Some-clause-stands : goal.returns-in-Some-clause-stands
returns-in-Some-clause-stands g c = λ s earlier now apart lawful kept taken source passing told.
    let d = passing_as c.args.datagram now in
    let passed = transfer_between s earlier in
    let there : c.args.self.now.transfer ≡ Some c.in-Some.transfer = sym (ap (λ (k : TapState). k.transfer) c.self.view_is) ∙ c.in-Some.is in
    let was : IsTapTransfer c.in-Some.transfer s passed = subst (IsKeptAtTap s passed) there kept in
    let recorded : IsRecordedFor c.args.rollover s c.in-Some.transfer.asked.side passed d c.recorded-recorded.result =
    recorded_for s apart c.args.rollover earlier lawful c.in-Some.transfer.asked was.asked (passing_of c.args.datagram) now _
    (subst (λ (e : End). IsRecorded s e (passing_of c.args.datagram) c.recorded-recorded.result) (c.receiver.ensures s passed was) (c.recorded-recorded.ensures.recorded s apart source)) taken in
    let high = c.highest-highest.ensures s passed kept in
    let payload = c.as_slice.ensures ∙ c.recorded-recorded.ensures.payload in
    let read : IsReadOf now c.read_taken-read.result =
    c.read_taken-read.ensures passed now high (high_within s apart earlier lawful c.highest-highest.result high) (subst (λ l. IsTakenBetween c.args.rollover passed l now) (sym payload) taken) in
    let kept_told : AreTold c.self.inside.told s earlier = subst (λ (k : TapState). AreTold k.told s earlier) (sym c.self.view_is) told in
    stopped_told s earlier d c.in-Some.transfer c.pass-found.new.self was c.pass-found.ensures.asked c.pass-found.result c.pass-found.ensures.stays c.tell.new.self.stands
    (λ heard. c.tell.ensures.stands s earlier d apart lawful heard read source (passing_stays s apart earlier d passing) kept_told)

-- ---- the first datagram of the transfer

pub returns-in-None-clause-finds : goal.returns-in-None-clause-finds
returns-in-None-clause-finds g c = λ s earlier now apart lawful kept follows taken source passing.
    let d = c.args.datagram in
    let passed = transfer_between s earlier in
    let none : passed ≡ [] = subst (IsKeptAtTap s passed) (sym (ap (λ (k : TapState). k.transfer) c.self.view_is) ∙ c.in-None.is) kept in
    let kept_in : IsKeptAtTap s passed c.self.inside.transfer = subst (λ (k : TapState). IsKeptAtTap s passed k.transfer) (sym c.self.view_is) kept in
    let same : now ≡ d.payload = first_taken passed d.payload now c.args.rollover taken none (subst (λ l. AllByRecursion (λ b. b < 256) l) c.as_slice-in-None.ensures c.holds_bytes.ensures) in
    subst (λ (p : List ℕ). FindsAtTap s earlier (passing_as d p) (IsKeptAtTap s (passing_as d p ∷ passed) c.pass_first.new.self.transfer) c.pass_first.result) (sym same)
    (c.pass_first.ensures.finds s earlier apart lawful kept_in (ap (λ (k : TapState). k.ports.sides.rollover) c.self.view_is ∙ follows) source (subst (λ (p : List ℕ). is_passing (tap_route s earlier (passing_as d p)) ≡ true) same passing))

pub returns-in-None-clause-memory : goal.returns-in-None-clause-memory
returns-in-None-clause-memory g c = λ s earlier now apart lawful kept taken source memory.
    let d = c.args.datagram in
    let passed = transfer_between s earlier in
    let none : passed ≡ [] = subst (IsKeptAtTap s passed) (sym (ap (λ (k : TapState). k.transfer) c.self.view_is) ∙ c.in-None.is) kept in
    let kept_in : IsKeptAtTap s passed c.self.inside.transfer = subst (λ (k : TapState). IsKeptAtTap s passed k.transfer) (sym c.self.view_is) kept in
    let same : now ≡ d.payload = first_taken passed d.payload now c.args.rollover taken none (subst (λ l. AllByRecursion (λ b. b < 256) l) c.as_slice-in-None.ensures c.holds_bytes.ensures) in
    subst (λ (p : List ℕ). TakesMemoryAtTap s earlier (passing_as d p)) (sym same) (c.pass_first.ensures.memory s earlier apart kept_in source memory)

pub returns-in-None-clause-told : goal.returns-in-None-clause-told
returns-in-None-clause-told g c = λ s earlier now apart passes kept follows taken source passing told.
    let d = c.args.datagram in
    let passed = transfer_between s earlier in
    let none : passed ≡ [] = subst (IsKeptAtTap s passed) (sym (ap (λ (k : TapState). k.transfer) c.self.view_is) ∙ c.in-None.is) kept in
    let kept_in : IsKeptAtTap s passed c.self.inside.transfer = subst (λ (k : TapState). IsKeptAtTap s passed k.transfer) (sym c.self.view_is) kept in
    let same : now ≡ d.payload = first_taken passed d.payload now c.args.rollover taken none (subst (λ l. AllByRecursion (λ b. b < 256) l) c.as_slice-in-None.ensures c.holds_bytes.ensures) in
    subst (λ (p : List ℕ). OnOk c.pass_first.result (AreTold c.pass_first.new.self.told s (passing_as d p ∷ earlier))) (sym same)
    (c.pass_first.ensures.told s earlier apart (subst (λ (p : List ℕ). BreaksNoTapRule s (passing_as d p ∷ earlier)) same passes) kept_in (ap (λ (k : TapState). k.ports.sides.rollover) c.self.view_is ∙ follows) source
    (subst (λ (p : List ℕ). is_passing (tap_route s earlier (passing_as d p)) ≡ true) same passing) (subst (λ (k : TapState). AreTold k.told s earlier) (sym c.self.view_is) told))

pub returns-in-None-clause-stands : goal.returns-in-None-clause-stands
returns-in-None-clause-stands g c = λ s earlier now apart lawful kept taken source passing told.
    let d = c.args.datagram in
    let passed = transfer_between s earlier in
    let none : passed ≡ [] = subst (IsKeptAtTap s passed) (sym (ap (λ (k : TapState). k.transfer) c.self.view_is) ∙ c.in-None.is) kept in
    let kept_in : IsKeptAtTap s passed c.self.inside.transfer = subst (λ (k : TapState). IsKeptAtTap s passed k.transfer) (sym c.self.view_is) kept in
    let same : now ≡ d.payload = first_taken passed d.payload now c.args.rollover taken none (subst (λ l. AllByRecursion (λ b. b < 256) l) c.as_slice-in-None.ensures c.holds_bytes.ensures) in
    subst (λ (p : List ℕ). IsToldIfBroken s earlier (passing_as d p) c.pass_first.result c.pass_first.new.self.stands) (sym same)
    (c.pass_first.ensures.stands s earlier apart lawful kept_in source (subst (λ (p : List ℕ). is_passing (tap_route s earlier (passing_as d p)) ≡ true) same passing) (subst (λ (k : TapState). AreTold k.told s earlier) (sym c.self.view_is) told))
