use Rattle.std.proofs.Common.{◌≡◌, Some, get_or, ap, sym, subst}
use Rattle.std.specs.List.{position}
use Rattle.std.specs.Vec.{with_item}
use Rattle.std.specs.Prelude.{OnOk}
use Rattle.audit_recording.specs.Session.Told.{AreFramesOf}
use Rattle.audit_recording.specs.Session.Hidden.{AreBehindOf, Hidden, frames_behind, hiding, same_header}
use Rattle.audit_recording.specs.declared.session.behind.Kind.{Kind}
use Rattle.audit_recording.proofs.LossesLemmas.Changing.{on_ok}
use Rattle.audit_recording.proofs.SessionLemmas.Places.{all_at, place_below}
use Rattle.audit_recording.proofs.SessionLemmas.Hidden.{frames_known, headers_known}
use Rattle.audit_recording.proofs.session.behind.Behind.note.Goals as goal

pub returns-in-Some-place_of : goal.returns-in-Some-place_of
returns-in-Some-place_of c = λ hidden are.
    let h : Hidden = record { header = c.in-Some.header; frame = c.args.frame } in
    let kinds = c.args.self.now.kinds in
    let place = c.in-Some-place_of.place in
    let d = c.index_mut.result.now in
    let k : Kind = record { header = d.header; frames = c.add.new.self } in
    let at : position (λ k. same_header h.header k.header) kinds.items ≡ Some place = sym c.in-Some-place_of.ensures in
    let was : d.header ≡ (get_or kinds.items place d).header = ap (λ (x : Kind). x.header) c.index_mut.ensures.value in
    let stands : AreFramesOf d.frames (frames_behind d.header hidden) =
    subst (λ (x : Kind). AreFramesOf x.frames (frames_behind x.header hidden)) (sym c.index_mut.ensures.value)
    (all_at (λ (x : Kind). AreFramesOf x.frames (frames_behind x.header hidden)) kinds.items place d (place_below (λ (k : Kind). same_header h.header k.header) kinds.items place d at) are.frames) in
    subst (λ o. OnOk c.add.result (AreBehindOf (record { kinds = with_item kinds place k }) (hiding o c.args.frame hidden))) (sym c.in-Some.is)
    (on_ok c.add.result
    (λ more. record { headers = headers_known kinds.items h hidden are.headers are.frames place k d at was; frames = frames_known kinds.items h hidden are.headers are.frames place k d at was more })
    (c.add.ensures (frames_behind d.header hidden) stands))
