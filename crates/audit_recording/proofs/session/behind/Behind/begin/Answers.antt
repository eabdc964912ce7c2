use Rattle.std.proofs.Common.{◌∷◌, [], map, subst, sym, ◌∙◌, ap}
use Rattle.std.specs.List.{AllByRecursion}
use Rattle.audit_recording.specs.Session.Told.{AreFramesOf}
use Rattle.audit_recording.specs.Session.Hidden.{Hidden, frames_behind}
use Rattle.audit_recording.specs.declared.session.behind.Kind.{Kind}
use Rattle.audit_recording.proofs.SessionLemmas.Hidden.{frames_new, headers_new}
use Rattle.audit_recording.proofs.session.behind.Behind.begin.Goals as goal

pub returns : goal.returns
returns c = λ hidden are none.
    let h : Hidden = record { header = c.args.header; frame = c.args.frame } in
    let kinds = c.args.self.now.kinds.items in
    let f = c.add.new.self in
    record {
      headers = ap (map (λ (k : Kind). k.header)) c.in_ok-push.ensures.items ∙ headers_new kinds h hidden are.headers are.frames none f;
      frames = subst (AllByRecursion (λ (k : Kind). AreFramesOf k.frames (frames_behind k.header (h ∷ hidden)))) (sym c.in_ok-push.ensures.items)
          (frames_new kinds h hidden are.headers are.frames none f (c.in_ok-add.ensures [] c.new-frames.ensures));
    }
