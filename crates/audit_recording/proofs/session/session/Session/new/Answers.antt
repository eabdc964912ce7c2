use Rattle.std.proofs.Common.{ℕ, List, [], IfSome, IsSome, true≢false, inl, refl, subst, sym}
use Rattle.std.specs.BTreeMap.{is_at}
use Rattle.std.specs.Map.{lookup}
use Rattle.std.specs.Ordering.{nat_cmp}
use Rattle.audit_recording.specs.Blame.Frames.{whole_of}
use Rattle.audit_recording.specs.Session.Beside.{IsMarkedBy}
use Rattle.audit_recording.specs.Session.Trails.{IsTrailKept}
use Rattle.audit_recording.specs.declared.blame.trail.Trail.{Trail}
use Rattle.audit_recording.proofs.session.session.Session.new.Goals as goal

pub returns-clause-stands : goal.returns-clause-stands
returns-clause-stands c =
    let named = c.args.services.now in
    record {
      noticed = (refl, refl);
      kept = record {
        audit = c.in-Ok.ensures.stands;
        notes = c.new-5.ensures.stands;
        trails = λ n. subst (λ (es : List (ℕ × Trail)). IsTrailKept c.in-Ok.audit.judge.judging named [] (whole_of named []) [] n (lookup (is_at (nat_cmp n)) es))
            (sym c.new-2.ensures.empty) (inl refl);
        texts = c.anew.ensures.texts named;
        beside = record {
          history = [];
          stands = c.new-3.ensures;
          noted = refl;
          ended = tt;
          still = λ n some. let none = subst (λ (es : List (ℕ × Trail)). IsSome (lookup (is_at (nat_cmp n)) es)) c.new-2.ensures.empty some in absurd (true≢false (sym none));
          marked = λ n. subst (λ (es : List (ℕ × Trail)). IfSome (lookup (is_at (nat_cmp n)) es) (IsMarkedBy n [])) (sym c.new-2.ensures.empty) tt;
        };
        unreached = ([], refl, λ n here. c.new-4.ensures n);
      };
    }
