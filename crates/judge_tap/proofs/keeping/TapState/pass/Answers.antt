use Rattle.std.proofs.Common.{◌≡◌, ◌∷◌, Result, Err, rules, inl, sym, subst, ap, ◌∙◌}
use Rattle.tftp_packet.specs.{opcode_of}
use Rattle.law_tap.specs.{KnownWays, TapSides, StandsForTap, transfer_between}
use Rattle.tftp_judge.specs.{PassError}
use Rattle.tftp_judge.specs.declared.pass_error.PassError.TheVariants.{Memory}
use Rattle.judge_tap.specs.TapKept.{HasKeptAtTap}
use Rattle.judge_tap.proofs.StateFound.{found_stop}
use Rattle.judge_tap.specs.{AreTold, FindsAtTap, IsToldIfBroken, IsKeptAtTap, TapState, passing_as}
use Rattle.judge_tap.proofs.TakenBetween.{opcode_taken}
use Rattle.judge_tap.proofs.ToldFound.{wanting_found}
use Rattle.judge_tap.proofs.keeping.TapState.pass.Goals as goal

pub returns-in_err-pass_by-clause-memory : goal.returns-in_err-pass_by-clause-memory
returns-in_err-pass_by-clause-memory g c = λ s earlier now apart lawful has taken memory.
    let d = passing_as c.args.datagram now in
    let before = subst (λ (k : KnownWays). StandsForTap k s earlier) (sym (ap (λ (k : TapState). k.ports) c.self.view_is)) has.ports in
    let route = c.route-route.ensures s earlier d.payload before (opcode_taken (transfer_between s earlier) c.args.datagram.payload now c.args.rollover taken ∙ sym (c.opcode-number.ensures ∙ ap opcode_of c.as_slice.ensures)) in
    let same : Err c.in_err-pass_by.field-0.0 ≡ c.from_residual.result = search rules in
    c.in_err-pass_by.ensures.memory s earlier now apart lawful has.kept taken route (same ∙ memory)

pub returns-in_err-note-clause-finds : goal.returns-in_err-note-clause-finds
returns-in_err-note-clause-finds g c = λ s earlier now apart lawful has taken.
    let d = passing_as c.args.datagram now in
    let before = subst (λ (k : KnownWays). StandsForTap k s earlier) (sym (ap (λ (k : TapState). k.ports) c.self.view_is)) has.ports in
    let route = c.route-route.ensures s earlier d.payload before (opcode_taken (transfer_between s earlier) c.args.datagram.payload now c.args.rollover taken ∙ sym (c.opcode-number.ensures ∙ ap opcode_of c.as_slice.ensures)) in
    let same : Err Memory ≡ c.from_residual-in_err-note.result = search rules in
    wanting_found s earlier d _ c.from_residual-in_err-note.result same (c.in_ok-pass_by.ensures.finds s earlier now apart lawful has.kept (ap (λ (x : TapSides). x.rollover) has.ports.sides) taken route).0

pub returns-in_err-note-clause-memory : goal.returns-in_err-note-clause-memory
returns-in_err-note-clause-memory g c = λ s earlier now apart lawful has taken memory.
    inl (c.in_err-note.ensures.absent s earlier (subst (λ (k : KnownWays). StandsForTap k s earlier) (sym (ap (λ (k : TapState). k.ports) c.self-2.view_is ∙ c.pass_by.ensures.ports)) has.ports))

pub returns-clause-finds : goal.returns-clause-finds
returns-clause-finds g c = λ s earlier now apart lawful has taken.
    let d = passing_as c.args.datagram now in
    let stands = subst (λ (k : KnownWays). StandsForTap k s earlier) (sym (ap (λ (k : TapState). k.ports) c.self-2.view_is ∙ c.pass_by.ensures.ports)) has.ports in
    let before = subst (λ (k : KnownWays). StandsForTap k s earlier) (sym (ap (λ (k : TapState). k.ports) c.self.view_is)) has.ports in
    let route = c.route-route.ensures s earlier d.payload before (opcode_taken (transfer_between s earlier) c.args.datagram.payload now c.args.rollover taken ∙ sym (c.opcode-number.ensures ∙ ap opcode_of c.as_slice.ensures)) in
    let told = c.in_ok-pass_by.ensures.finds s earlier now apart lawful has.kept (ap (λ (x : TapSides). x.rollover) has.ports.sides) taken route in (
      told.0,
      record {
        sides = ap (λ (k : TapState). k.sides) c.self-2.view_is ∙ c.pass_by.ensures.sides ∙ has.sides;
        ports = c.in_ok-note.ensures.ok s earlier d.payload stands;
        kept = subst (IsKeptAtTap s (transfer_between s (d ∷ earlier))) (sym (ap (λ (k : TapState). k.transfer) c.self-2.view_is)) told.1;
        told = subst (λ (k : TapState). AreTold k.told s (d ∷ earlier)) (sym c.self-2.view_is) (c.in_ok-pass_by.ensures.told s earlier now apart (told.0, lawful) has.sides has.kept (ap (λ (x : TapSides). x.rollover) has.ports.sides) taken route has.told);
      },
    )

pub returns-in_err-pass_by-clause-stands : goal.returns-in_err-pass_by-clause-stands
returns-in_err-pass_by-clause-stands g c = λ s earlier now apart lawful has taken.
    let d = passing_as c.args.datagram now in
    let before = subst (λ (k : KnownWays). StandsForTap k s earlier) (sym (ap (λ (k : TapState). k.ports) c.self.view_is)) has.ports in
    let route = c.route-route.ensures s earlier d.payload before (opcode_taken (transfer_between s earlier) c.args.datagram.payload now c.args.rollover taken ∙ sym (c.opcode-number.ensures ∙ ap opcode_of c.as_slice.ensures)) in
    let same : Err c.in_err-pass_by.field-0.0 ≡ c.from_residual.result = search rules in
    subst (λ (r : Result (Unit {0}) PassError). IsToldIfBroken s earlier d r c.pass_by.new.self.stands) same (c.in_err-pass_by.ensures.stands s earlier now apart lawful has.sides has.kept taken route has.told)

pub returns-in_err-pass_by-clause-finds : goal.returns-in_err-pass_by-clause-finds
returns-in_err-pass_by-clause-finds g c = λ s earlier now apart lawful has taken.
    let d = passing_as c.args.datagram now in
    let before = subst (λ (k : KnownWays). StandsForTap k s earlier) (sym (ap (λ (k : TapState). k.ports) c.self.view_is)) has.ports in
    let route = c.route-route.ensures s earlier d.payload before (opcode_taken (transfer_between s earlier) c.args.datagram.payload now c.args.rollover taken ∙ sym (c.opcode-number.ensures ∙ ap opcode_of c.as_slice.ensures)) in
    let same : Err c.in_err-pass_by.field-0.0 ≡ c.from_residual.result = search rules in
    subst (FindsAtTap s earlier d (HasKeptAtTap c.pass_by.new.self s (d ∷ earlier))) same
    (found_stop s earlier d (IsKeptAtTap s (transfer_between s (d ∷ earlier)) c.pass_by.new.self.transfer) (HasKeptAtTap c.pass_by.new.self s (d ∷ earlier)) c.in_err-pass_by.field-0.0 (c.in_err-pass_by.ensures.finds s earlier now apart lawful has.kept (ap (λ (x : TapSides). x.rollover) has.ports.sides) taken route))
