use Rattle.std.proofs.Common.{◌≡◌, ◌≤◌, ◌∷◌, Option, ap, Some, None, false, true, true≢false, IfSome, IsSome, inl, inr, refl, sym, subst, ◌∙◌}
use Rattle.audit_views.specs.Parties.{host_name}
use Rattle.audit_recording.specs.Audit.{AuditsAfter}
use Rattle.audit_recording.specs.Blame.Frames.{datagrams_of, whole_of}
use Rattle.audit_recording.specs.Judges.{IsWatching, Watched, is_among, opened}
use Rattle.audit_recording.specs.Session.Beside.{AreMarksKept, IsMarkedBy}
use Rattle.audit_recording.specs.Session.Heard.{IsUndeliveredOf}
use Rattle.audit_recording.specs.Session.Kept.{IsSessionOf}
use Rattle.audit_recording.specs.Session.Trails.{AreTrailsKept, IsTrailAfter}
use Rattle.audit_recording.specs.declared.blame.trail.Trail.{Trail}
use Rattle.audit_recording.specs.declared.judges.judging.Judging.{Judging}
use Rattle.audit_recording.specs.declared.session.session.Ended.{Ended}
use Rattle.audit_recording.specs.declared.session.session.Session.{Session}
use Rattle.audit_recording.proofs.SessionLemmas.Beside.{marks_unchanged, one_less}
use Rattle.audit_recording.proofs.SessionLemmas.Heard.{marked_telling, stays_telling, unreached_less, unreached_of}
use Rattle.audit_recording.proofs.SessionLemmas.Recording.{if_watched}
use Rattle.audit_recording.proofs.SessionLemmas.Trails.{first_number, first_trail, if_both, if_some_so, no_entries, no_trails, none_mapped, others_kept, trail_here, trails_unchanged}
use Rattle.audit_recording.proofs.session.session.Session.pop.Goals as goal

pub returns-clause-stands : goal.returns-clause-stands
returns-clause-stands c named out history carried s is =
    let left : Session = record c.args.self.now { audit = c.pop_first-2.new.self; trails = c.pop_first.new.self; unplaced = c.end.new.self; unreached = c.take.new.self } in
    let judging = c.args.self.now.audit.judge.judging in
    let k = c.in_ok-number.number in
    let held = trail_here c.args.self.now.trails judging named out carried k c.in_ok-number.trail c.in_ok-number.ensures.value is.trails in
    let passed = datagrams_of carried in
    let Out = λ (w : Watched). AuditsAfter c.pop_first-2.new.self named (w.transfer.number ∷ out) history passed in
    let Is = λ (w : Watched). (opened w.transfer.number (whole_of named carried) ≡ Some w.transfer) × IsWatching w judging w.transfer host_name (whole_of named carried) in
    let Once = λ (w : Watched). is_among w.transfer.number out ≡ false in
    let First = λ (w : Watched). w.transfer.number ≤ k in
    if_watched (λ (e : Ended). e.watched) (λ (w : Watched). IsSessionOf left named (w.transfer.number ∷ out) history carried s) c.joined.result c.pop_first-2.result c.joined.ensures.watched
    (if_some_so (λ w. Out w × (Is w × (Once w × First w))) (λ (w : Watched). IsSessionOf left named (w.transfer.number ∷ out) history carried s) c.pop_first-2.result
    (λ w is_so. record {
      audit = is_so.0;
      notes = is.notes;
      trails = subst (λ (j : Judging). AreTrailsKept c.pop_first.new.self j named (w.transfer.number ∷ out) carried) (sym c.pop_first-2.ensures.judging)
          (others_kept c.args.self.now.trails judging named out carried k c.in_ok-number.trail c.in_ok-number.ensures.value c.in_ok-number.ensures.least is.trails w.transfer is_so.1.0.0 is_so.1.1.0 is_so.1.1.1 c.pop_first.new.self c.in_ok-number.ensures.updates.0);
      texts = is.texts;
      beside = subst (λ n. AreMarksKept c.end.new.self c.pop_first.new.self (n ∷ out) s.beside)
          (first_number c.args.self.now.trails judging named out carried k c.in_ok-number.trail c.in_ok-number.ensures.value c.in_ok-number.ensures.least is.trails w.transfer is_so.1.0.0 is_so.1.1.0 is_so.1.1.1)
          (one_less c.args.self.now.unplaced c.end.new.self c.args.self.now.trails c.pop_first.new.self out s.beside c.in_ok-number.trail.transfer.client k is.beside
          (c.end.ensures is.beside.history is.beside.stands) c.in_ok-number.ensures.updates.0);
      unreached = unreached_less c.args.self.now.unreached c.take.new.self named out history carried k w.transfer.number
          (first_number c.args.self.now.trails judging named out carried k c.in_ok-number.trail c.in_ok-number.ensures.value c.in_ok-number.ensures.least is.trails w.transfer is_so.1.0.0 is_so.1.1.0 is_so.1.1.1)
          c.take.ensures.others is.unreached;
    })
    (if_both Out (λ w. Is w × (Once w × First w)) c.pop_first-2.result (c.pop_first-2.ensures.stands named out history passed is.audit)
    (if_both Is (λ w. Once w × First w) c.pop_first-2.result (c.pop_first-2.ensures.watched named out history passed is.audit)
    (if_both Once First c.pop_first-2.result (c.pop_first-2.ensures.once named out history passed is.audit) (c.pop_first-2.ensures.first named out history passed k is.audit (subst IsSome (sym held.0) refl) held.1)))))

pub returns-clause-watched : goal.returns-clause-watched
returns-clause-watched c named out history carried s is =
    if_watched (λ (e : Ended). e.watched)
    (λ (w : Watched). (opened w.transfer.number (whole_of named carried) ≡ Some w.transfer) × IsWatching w c.args.self.now.audit.judge.judging w.transfer host_name (whole_of named carried))
    c.joined.result c.pop_first-2.result c.joined.ensures.watched (c.pop_first-2.ensures.watched named out history (datagrams_of carried) is.audit)

pub returns-clause-first : goal.returns-clause-first
returns-clause-first c named out history carried s n is some here =
    if_watched (λ (e : Ended). e.watched) (λ (w : Watched). w.transfer.number ≤ n) c.joined.result c.pop_first-2.result c.joined.ensures.watched
    (c.pop_first-2.ensures.first named out history (datagrams_of carried) n is.audit some here)

pub returns-clause-once : goal.returns-clause-once
returns-clause-once c named out history carried s is =
    if_watched (λ (e : Ended). e.watched) (λ (w : Watched). is_among w.transfer.number out ≡ false) c.joined.result c.pop_first-2.result c.joined.ensures.watched
    (c.pop_first-2.ensures.once named out history (datagrams_of carried) is.audit)

pub returns-clause-trail : goal.returns-clause-trail
returns-clause-trail c named out history carried s is =
    let judging = c.args.self.now.audit.judge.judging in
    let k = c.in_ok-number.number in
    let t = c.in_ok-number.trail in
    let u = c.tell_undelivered.new.self in
    let held = trail_here c.args.self.now.trails judging named out carried k t c.in_ok-number.ensures.value is.trails in
    let passed = datagrams_of carried in
    let Is = λ (w : Watched). (opened w.transfer.number (whole_of named carried) ≡ Some w.transfer) × IsWatching w judging w.transfer host_name (whole_of named carried) in
    let Once = λ (w : Watched). is_among w.transfer.number out ≡ false in
    let First = λ (w : Watched). w.transfer.number ≤ k in
    let Are = λ (w : Watched). IsTrailAfter t judging w.transfer named carried in
    if_some_so (λ (e : Ended). Are e.watched × (e.trail ≡ u)) (λ (e : Ended). IsTrailAfter e.trail judging e.watched.transfer named carried) c.joined.result
    (λ e is_so. stays_telling t e.trail c.take.result (is_so.1 ∙ c.tell_undelivered.ensures) judging e.watched.transfer named carried is_so.0)
    (if_both (λ (e : Ended). Are e.watched) (λ (e : Ended). e.trail ≡ u) c.joined.result
    (if_watched (λ (e : Ended). e.watched) Are c.joined.result c.pop_first-2.result c.joined.ensures.watched
    (if_some_so (λ w. Is w × (Once w × First w)) Are c.pop_first-2.result
    (λ w is_so. first_trail c.args.self.now.trails judging named out carried k t c.in_ok-number.ensures.value c.in_ok-number.ensures.least is.trails w.transfer is_so.0.0 is_so.1.0 is_so.1.1)
    (if_both Is (λ w. Once w × First w) c.pop_first-2.result (c.pop_first-2.ensures.watched named out history passed is.audit)
    (if_both Once First c.pop_first-2.result (c.pop_first-2.ensures.once named out history passed is.audit) (c.pop_first-2.ensures.first named out history passed k is.audit (subst IsSome (sym held.0) refl) held.1)))))
    c.joined.ensures.trail)

pub returns-clause-beside : goal.returns-clause-beside
returns-clause-beside c named out history carried s is =
    let judging = c.args.self.now.audit.judge.judging in
    let k = c.in_ok-number.number in
    let t = c.in_ok-number.trail in
    let u = c.tell_undelivered.new.self in
    let was = c.in_ok-number.ensures.value in
    let held = trail_here c.args.self.now.trails judging named out carried k t was is.trails in
    let passed = datagrams_of carried in
    let marked : IsMarkedBy k s.beside t = subst (λ (o : Option Trail). IfSome o (IsMarkedBy k s.beside)) was (is.beside.marked k) in
    let Is = λ (w : Watched). (opened w.transfer.number (whole_of named carried) ≡ Some w.transfer) × IsWatching w judging w.transfer host_name (whole_of named carried) in
    let Once = λ (w : Watched). is_among w.transfer.number out ≡ false in
    let First = λ (w : Watched). w.transfer.number ≤ k in
    let Here = λ (w : Watched). k ≡ w.transfer.number in
    if_some_so (λ (e : Ended). Here e.watched × (e.trail ≡ u)) (λ (e : Ended). IsMarkedBy e.watched.transfer.number s.beside e.trail) c.joined.result
    (λ e is_so. subst (λ n. IsMarkedBy n s.beside e.trail) is_so.0 (marked_telling t e.trail c.take.result (is_so.1 ∙ c.tell_undelivered.ensures) k s.beside marked))
    (if_both (λ (e : Ended). Here e.watched) (λ (e : Ended). e.trail ≡ u) c.joined.result
    (if_watched (λ (e : Ended). e.watched) Here c.joined.result c.pop_first-2.result c.joined.ensures.watched
    (if_some_so (λ w. Is w × (Once w × First w)) Here c.pop_first-2.result
    (λ w is_so. first_number c.args.self.now.trails judging named out carried k t was c.in_ok-number.ensures.least is.trails w.transfer is_so.0.0 is_so.1.0 is_so.1.1)
    (if_both Is (λ w. Once w × First w) c.pop_first-2.result (c.pop_first-2.ensures.watched named out history passed is.audit)
    (if_both Once First c.pop_first-2.result (c.pop_first-2.ensures.once named out history passed is.audit) (c.pop_first-2.ensures.first named out history passed k is.audit (subst IsSome (sym held.0) refl) held.1)))))
    c.joined.ensures.trail)

pub returns-clause-undelivered : goal.returns-clause-undelivered
returns-clause-undelivered c named out history carried s is =
    let judging = c.args.self.now.audit.judge.judging in
    let k = c.in_ok-number.number in
    let t = c.in_ok-number.trail in
    let u = c.tell_undelivered.new.self in
    let was = c.in_ok-number.ensures.value in
    let held = trail_here c.args.self.now.trails judging named out carried k t was is.trails in
    let passed = datagrams_of carried in
    let Is = λ (w : Watched). (opened w.transfer.number (whole_of named carried) ≡ Some w.transfer) × IsWatching w judging w.transfer host_name (whole_of named carried) in
    let Once = λ (w : Watched). is_among w.transfer.number out ≡ false in
    let First = λ (w : Watched). w.transfer.number ≤ k in
    let Here = λ (w : Watched). (k ≡ w.transfer.number) × (opened w.transfer.number (whole_of named carried) ≡ Some w.transfer) in
    if_some_so (λ (e : Ended). Here e.watched × (e.trail ≡ u)) (λ (e : Ended). IsUndeliveredOf e.trail.undelivered e.watched.transfer named history carried) c.joined.result
    (λ e is_so. unreached_of c.args.self.now.unreached named out history carried k e.watched.transfer e.trail.undelivered is_so.0.0 is_so.0.1 held.1
    (ap (λ (v : Trail). v.undelivered) (is_so.1 ∙ c.tell_undelivered.ensures) ∙ c.take.ensures.is) is.unreached)
    (if_both (λ (e : Ended). Here e.watched) (λ (e : Ended). e.trail ≡ u) c.joined.result
    (if_watched (λ (e : Ended). e.watched) Here c.joined.result c.pop_first-2.result c.joined.ensures.watched
    (if_some_so (λ w. Is w × (Once w × First w)) Here c.pop_first-2.result
    (λ w is_so. (first_number c.args.self.now.trails judging named out carried k t was c.in_ok-number.ensures.least is.trails w.transfer is_so.0.0 is_so.1.0 is_so.1.1, is_so.0.0))
    (if_both Is (λ w. Once w × First w) c.pop_first-2.result (c.pop_first-2.ensures.watched named out history passed is.audit)
    (if_both Once First c.pop_first-2.result (c.pop_first-2.ensures.once named out history passed is.audit) (c.pop_first-2.ensures.first named out history passed k is.audit (subst IsSome (sym held.0) refl) held.1)))))
    c.joined.ensures.trail)

pub returns-in_err-number-clause-all : goal.returns-in_err-number-clause-all
returns-in_err-number-clause-all c named out history carried s is none n =
    no_trails c.args.self.now.audit.judge.judging named out carried n _ (no_entries c.args.self.now.trails n (λ some. let no : false ≡ true = c.in_err-number.ensures.variant.1 some in absurd (cc))) (is.trails n)

pub returns-clause-all : goal.returns-clause-all
returns-clause-all c named out history carried s is none =
    c.pop_first-2.ensures.all named out history (datagrams_of carried) is.audit (none_mapped (λ (e : Ended). e.watched) c.joined.result c.pop_first-2.result c.joined.ensures.watched none)

pub returns-in_err-number-clause-none : goal.returns-in_err-number-clause-none
returns-in_err-number-clause-none c named out history carried s is none = record {
  audit = is.audit;
  notes = is.notes;
  trails = trails_unchanged c.args.self.now.trails c.pop_first.new.self c.args.self.now.audit.judge.judging named out carried c.in_err-number.ensures.unchanged is.trails;
  texts = is.texts;
  beside = marks_unchanged c.args.self.now.unplaced c.args.self.now.trails c.pop_first.new.self out s.beside c.in_err-number.ensures.unchanged is.beside;
  unreached = is.unreached;
}

pub returns-clause-none : goal.returns-clause-none
returns-clause-none c named out history carried s is none =
    let held = trail_here c.args.self.now.trails c.args.self.now.audit.judge.judging named out carried c.in_ok-number.number c.in_ok-number.trail c.in_ok-number.ensures.value is.trails in
    elim (c.pop_first-2.ensures.all named out history (datagrams_of carried) is.audit (none_mapped (λ (e : Ended). e.watched) c.joined.result c.pop_first-2.result c.joined.ensures.watched none) c.in_ok-number.number) [
      | inl closed ↦ (let both : Some c.in_ok-number.trail.transfer ≡ None = sym held.0 ∙ closed in absurd (cc))
      | inr gone ↦ absurd (true≢false (sym gone ∙ held.1))
    ]
