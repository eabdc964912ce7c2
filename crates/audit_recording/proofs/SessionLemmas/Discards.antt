-- What is kept of datagrams that their hosts discarded, with one more, and what it tells of a transfer.
use Rattle.std.proofs.Common.{◌≡◌, ◌||◌, ◌∷◌, ℕ, Bool, true, false, cond, List, Option, Some, None, option_map, refl, sym, ap, ◌∙◌}
use Rattle.std.specs.BTreeMap.{BTreeMap, get}
use Rattle.std.specs.Ordering.{is_eq}
use Rattle.audit_flows.specs.{Endpoint}
use Rattle.audit_flows.specs.Lines.{endpoint_cmp, same_endpoint}
use Rattle.audit_recording.specs.declared.blame.trail.Trail.{Trail}
use Rattle.audit_recording.specs.declared.session.discards.Discarded.{Discarded}
use Rattle.audit_recording.specs.Losses.Kept.{lesser}
use Rattle.audit_recording.specs.Session.Discards.{Gone, discarding, is_at_end, kept_of, newest_at}
use Rattle.audit_recording.proofs.ReasonsLemmas.Unplaced.{by_endpoint}

-- ---- what was left out

either_end : {A : Type 0} (source target : Bool) (x y : A) → cond target x (cond source x y) ≡ cond (source || target) x y
either_end true true x y = refl
either_end true false x y = refl
either_end false target x y = refl

kept_newest : (b : Bool) (g : Gone) (w : Option Gone) → cond b (Some (kept_of g)) (option_map kept_of w) ≡ option_map kept_of (cond b (Some g) w)
kept_newest true g w = refl
kept_newest false g w = refl

pub gone_more : (old middle new : BTreeMap Endpoint Discarded) (g : Gone) (gone : List Gone)
    → ((e : Endpoint) → get endpoint_cmp middle e ≡ cond (is_eq (endpoint_cmp g.source e)) (Some (kept_of g)) (get endpoint_cmp old e))
    → ((e : Endpoint) → get endpoint_cmp new e ≡ cond (is_eq (endpoint_cmp g.target e)) (Some (kept_of g)) (get endpoint_cmp middle e))
    → ((e : Endpoint) → get endpoint_cmp old e ≡ option_map kept_of (newest_at e gone))
    → (e : Endpoint) → get endpoint_cmp new e ≡ option_map kept_of (newest_at e (g ∷ gone))
gone_more old middle new g gone first second stands e =
    by_endpoint middle new g.target (Some (kept_of g)) second e
    ∙ ap (cond (same_endpoint g.target e) (Some (kept_of g))) (by_endpoint old middle g.source (Some (kept_of g)) first e)
    ∙ either_end (same_endpoint g.source e) (same_endpoint g.target e) (Some (kept_of g)) (get endpoint_cmp old e)
    ∙ ap (cond (is_at_end e g) (Some (kept_of g))) (stands e)
    ∙ kept_newest (is_at_end e g) g (newest_at e gone)

-- ---- at a transfer

lesser_none : (o : Option ℕ) → o ≡ lesser o None
lesser_none None = refl
lesser_none (Some n) = refl

-- nothing more was discarded
pub discarding_none : (t : Trail) (frame : Option ℕ) → frame ≡ None → t ≡ discarding frame t
discarding_none t frame none = ap (λ d. record t { discarded = d }) (lesser_none t.discarded ∙ sym (ap (lesser t.discarded) none))

-- this one was
pub discarding_it : (t new : Trail) (frame : Option ℕ) (n : ℕ) → Some n ≡ frame → new ≡ discarding (Some n) t → new ≡ discarding frame t
discarding_it t new frame n is told = told ∙ ap (λ f. discarding f t) is
