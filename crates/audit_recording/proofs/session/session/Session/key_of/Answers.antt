use Rattle.std.proofs.Common.{arith, ◌≡◌, ◌-◌, ℕ, List, Some, ap, length, subst, sym, ◌∙◌}
use Rattle.std.specs.List.{slice_get}
use Rattle.audit_recording.specs.Blame.Frames.{whole_of}
use Rattle.audit_recording.proofs.SessionLemmas.Finding.{is_one, key_there, no_memory, none_by, numbered_by}
use Rattle.audit_recording.proofs.session.session.Session.key_of.Goals as goal

pub returns-in-Some-clause-key : goal.returns-in-Some-clause-key
returns-in-Some-clause-key c named history carried s is =
    numbered_by c.args.number c.in-Some.key c.as_slice.result.now named carried (sym c.in-Some.ensures) (c.as_slice.ensures.value ∙ c.in_ok-keys.ensures.in_order named history carried s is)

pub returns-in-Some-clause-there : goal.returns-in-Some-clause-there
returns-in-Some-clause-there c = key_there c.args.self.now.trails.entries (c.args.number - 1) c.in-Some.key
    (subst (λ (l : List ℕ). slice_get l (c.args.number - 1) ≡ Some c.in-Some.key) (c.as_slice.ensures.value ∙ c.in_ok-keys.ensures.keys)
    (is_one c.args.number c.as_slice.result.now c.in-Some.key (sym c.in-Some.ensures)).0)

pub returns-clause-none : goal.returns-clause-none
returns-clause-none c named history carried s is =
    let are : length c.as_slice.result.now ≡ length c.in_ok-keys.keys.items = ap (λ (l : List ℕ). length l) c.as_slice.ensures.value in
    let many : c.len.result ≡ length c.as_slice.result.now = omega (arith, c.len.ensures, are, c.in_ok-keys.keys.ok.0) in
    none_by c.args.number c.len.result c.as_slice.result.now named carried (sym c.in-None.ensures) (c.as_slice.ensures.value ∙ c.in_ok-keys.ensures.in_order named history carried s is) many

pub returns-in_err-keys-clause-none : goal.returns-in_err-keys-clause-none
returns-in_err-keys-clause-none c named history carried s is = no_memory c.from_residual.result _ c.args.number (whole_of named carried) c.from_residual.ensures.1
