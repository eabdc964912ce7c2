use Rattle.std.proofs.Common.{◌≡◌, Some, None, true, false, refl, sym, subst, ap, ◌∙◌}
use Rattle.tftp_packet.specs.{Message, RequestParts, meaning, End, Client, Server}
use Rattle.law_tap.specs.{IsSaidBy, TapSides}
use Rattle.judge_tap.specs.{IsKeptWithLosses, LossyState}
use Rattle.judge_tap.proofs.LossyFound.{no_request, other_found, request_found}
use Rattle.judge_tap.proofs.lossy_state.LossyState.pass_first.Goals as goal
use Rattle.judge_tap.proofs.lossy_state.LossyState.pass_first.Goals.{in_default-via-in-Client+in_default, in_default-via-in_default}

pub returns-in_ok-asked-in-Client-Request : goal.returns-in_ok-asked-in-Client-Request
returns-in_ok-asked-in-Client-Request c = λ s earlier d apart kept none early says.
    let first : IsKeptWithLosses s earlier false None = subst (λ b. IsKeptWithLosses s earlier b None) early (subst (IsKeptWithLosses s earlier c.args.self.now.late) none kept.kept) in
    let asked : RequestParts = c.in_ok-asked-in-Client-Request.asked in
    let own = c.self-inside.inside in
    let sides : TapSides = record { client = own.0.0.client; asked = own.0.0.asked; server = own.0.0.server; rollover = own.0.0.rollover } in
    let state : LossyState = record { sides = sides; notes = Some c.begin.result; late = own.0.1.1.0 } in
    let are : sides ≡ s = ap (λ k. k.sides) c.self-inside.view_is ∙ ap (λ (k : LossyState). k.sides) c.self.view_is ∙ kept.sides in
    let request : IsSaidBy s Client (Message.Request asked) d = subst (λ m. IsSaidBy s Client m d) (ap meaning c.in-Client-Request.is-1 ∙ ap Message.Request (sym c.in_ok-asked-in-Client-Request.ensures))
    (subst (λ (e : End). IsSaidBy s e (meaning c.args.packet.now) d) c.in-Client-Request.is-0 says) in
    request_found s earlier d asked request first.0 first.1 c.begin.result state are (ap (λ k. k.late) c.self-inside.view_is ∙ ap (λ (k : LossyState). k.late) c.self.view_is ∙ early) refl
    (c.begin.ensures s earlier d (ap (λ (x : TapSides). x.rollover) are) first.1 request)

pub returns-in_default : goal.returns-in_default
returns-in_default c = λ s earlier d apart kept none early says.
    let first : IsKeptWithLosses s earlier false None = subst (λ b. IsKeptWithLosses s earlier b None) early (subst (IsKeptWithLosses s earlier c.args.self.now.late) none kept.kept) in
    let state : LossyState = record { sides = c.self.inside.sides; notes = c.self.inside.notes; late = true } in
    other_found s earlier d c.args.from (meaning c.args.packet.now) says apart first.1
    (λ asked client request. elim c.in_default.branch [
      | in_default-via-in-Client+in_default w ↦ no_request c.args.packet.now asked w.in_default.not-Request-1 request
      | in_default-via-in_default w ↦ let no : Client ≡ Server = sym client ∙ w.in_default.is-0 in absurd (cc)
    ]) state (ap (λ (k : LossyState). k.sides) c.self.view_is ∙ kept.sides) refl
