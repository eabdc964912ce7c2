-- What the whole recording lacks of a transfer that was over was lacking when it was told.
use Rattle.std.proofs.Common.{◌≡◌, ◌≤◌, ◌∷◌, ◌++◌, ℕ, Bool, true, false, cond, List, [], length, filter, Option, Some, None, IfSome, option_map, inl, inr, refl, sym, subst}
use Rattle.net_udp.specs.Recording.{Step}
use Rattle.law_model.specs.Rules.{first_of, or_this}
use Rattle.audit_flows.specs.{Transfer}
use Rattle.audit_flows.specs.Transfers.{opened_it}
use Rattle.audit_flows.proofs.LinesLemmas.Lines.{by_test}
use Rattle.audit_recording.specs.Blame.Frames.{Carried, Framed, framed, framed_after, is_seen, whole_of}
use Rattle.audit_recording.specs.Blame.Kept.{IsTrailOf, first_frame, last_frame}
use Rattle.audit_recording.specs.Judges.{opened}
use Rattle.audit_recording.specs.Losses.Noted.{Event, IsFirst, IsMissingOf, is_soon}
use Rattle.audit_recording.specs.Session.Noted.{Noticed, giving_up, stretch_of}
use Rattle.audit_recording.specs.Session.Over.{IsOver}
use Rattle.audit_recording.specs.Session.Recording.{IsNoticedOf, reached_by}
use Rattle.audit_recording.specs.declared.blame.trail.Trail.{Trail}
use Rattle.audit_recording.specs.declared.judges.judging.Judging.{Judging}
use Rattle.audit_recording.specs.declared.rows.row.Point.TheVariants.{Client}
use Rattle.audit_recording.proofs.SessionLemmas.Over.{missing_before}
use Rattle.audit_recording.proofs.SessionLemmas.Within.{AreWithin, all_within}
use Rattle.tftp_rows.specs.Whole.{AreLacking, AreTold, IsPartOf, IsToldNext, Part, Telling}
use Rattle.tftp_rows.proofs.DueLemmas.{asked_first}
use Rattle.tftp_rows.proofs.LaterLemmas.{grew_giving_up, grown}
use Rattle.tftp_rows.proofs.OrderLemmas.{part_of}

-- ---- the last frame of a transfer has been read

last_within : (test : Framed → Bool) (named : List ℕ) (carried : List Carried) (otherwise n : ℕ) → otherwise ≤ n → AreWithin n carried → last_frame otherwise (filter test (framed named carried)) ≤ n
last_within test named [] otherwise n low all = low
last_within test named (c ∷ older) otherwise n low all =
    let f : Framed = framed_after named older c in
    let rest = filter test (framed named older) in
    by_test (test f)
    (λ is. subst (λ b. last_frame otherwise (cond b (f ∷ rest) rest) ≤ n) (sym is) all.0)
    (λ off. subst (λ b. last_frame otherwise (cond b (f ∷ rest) rest) ≤ n) (sym off) (last_within test named older otherwise n low all.1))

or_within : (o : Option Framed) (b : Bool) (f : Framed) (frame n : ℕ) → option_map (λ (g : Framed). g.carried.frame) (or_this o b f) ≡ Some frame
    → (option_map (λ (g : Framed). g.carried.frame) o ≡ Some frame → frame ≤ n) → f.carried.frame ≤ n → frame ≤ n
or_within (Some h) b f frame n is rest here = rest is
or_within None true f frame n is rest here = let same : f.carried.frame ≡ frame = cc in subst (λ k. k ≤ n) same here
or_within None false f frame n is rest here = let no : None ≡ Some frame = is in absurd (cc)

first_within : (test : Framed → Bool) (named : List ℕ) (carried : List Carried) (frame n : ℕ) → first_frame test (framed named carried) ≡ Some frame → AreWithin n carried → frame ≤ n
first_within test named [] frame n is all = let no : None ≡ Some frame = is in absurd (cc)
first_within test named (c ∷ older) frame n is all =
    let f : Framed = framed_after named older c in
    or_within (first_of test (framed named older)) (test f) f frame n is (λ before. first_within test named older frame n before all.1) all.0

pub trail_within : (named : List ℕ) (history : List Step) (carried : List Carried) (s : Noticed) (x : Transfer) (t : Trail) (judging : Judging) → IsNoticedOf named history carried s
    → opened x.number (whole_of named carried) ≡ Some x → IsTrailOf t judging x named carried → t.last ≤ length history
trail_within named history carried s x t judging came opens own =
    let all = all_within named history carried s came in
    let first = asked_first named history carried s x came opens in
    let at : first.0 ≡ t.first = subst (λ (o : Option ℕ). IfSome o (λ frame. frame ≡ t.first)) first.1 own.first in
    let low : t.first ≤ length history = subst (λ k. k ≤ length history) at (first_within (λ f. opened_it x.number f.placed) named carried first.0 (length history) first.1 all) in
    subst (λ k. k ≤ length history) (sym own.last)
    (last_within (λ f. is_seen Client x.number (whole_of named carried) f.placed) named carried t.first (length history) low all)

-- ---- what is told of it

first_told : (Such : ℕ → ℕ → Type 0) (o : Option ℕ) (n time : ℕ) → IsFirst Such o → Such n time → (first : ℕ) × (o ≡ Some first) × (first ≤ n)
first_told Such None n time none such = absurd (none n time such)
first_told Such (Some first) n time is such = (first, refl, is.1 n time such)

-- what a part had noticed, of what the whole noticed
lacked_then : (named : List ℕ) (p all : Part) (waiting : List ℕ) (x : Transfer) (t : Trail) (judging : Judging) → IsPartOf p all → IsNoticedOf named p.history p.carried p.noticed
    → IsNoticedOf named all.history all.carried all.noticed → opened x.number (whole_of named p.carried) ≡ Some x → IsTrailOf t judging x named p.carried → IsOver t named p.carried p.noticed
    → (n time : ℕ) → IsMissingOf t.transfer.client.address (giving_up waiting all.noticed).events n time → is_soon (stretch_of t) n time ≡ true → IsMissingOf t.transfer.client.address p.noticed.events n time
lacked_then named p all waiting x t judging part came whole opens own over n time missing soon =
    let newest = length p.history in
    let moment = reached_by p.noticed.times in
    let here : IsNoticedOf named (part.next_frames ++ p.history) (part.next_carried ++ p.carried) all.noticed =
    subst (λ (l : List Carried). IsNoticedOf named (part.next_frames ++ p.history) l all.noticed) part.datagrams
    (subst (λ (h : List Step). IsNoticedOf named h all.carried all.noticed) part.frames whole) in
    let grew = grew_giving_up newest moment waiting p.noticed.events all.noticed
    (grown named part.next_frames p.history part.next_carried p.carried p.noticed all.noticed came here) in
    let again : IsMissingOf t.transfer.client.address (grew.0 ++ p.noticed.events) n time = subst (λ (l : List Event). IsMissingOf t.transfer.client.address l n time) grew.1 missing in
    missing_before (stretch_of t) newest moment p.noticed.events (trail_within named p.history p.carried p.noticed x t judging came opens own) over.past.silent grew.0 grew.2 n time again soon

lacks_one : (name : List ℕ) (judging : Judging) (named : List ℕ) (waiting : List ℕ) (p all : Part) (t : Telling) (older : List Telling) → IsPartOf p all → IsNoticedOf named all.history all.carried all.noticed
    → IsToldNext name judging named (Some (record all { noticed = giving_up waiting all.noticed })) p t older
    → (n time : ℕ) → IsMissingOf t.judged.trail.transfer.client.address (giving_up waiting all.noticed).events n time → is_soon (stretch_of t.judged.trail) n time ≡ true
    → (first : ℕ) × (t.judged.doubted.missing.first ≡ Some first) × (first ≤ n)
lacks_one name judging named waiting p all t older part whole told n time missing soon =
    let host = t.judged.trail.transfer.client.address in
    first_told (IsMissingOf host p.noticed.events) t.judged.doubted.missing.first n time told.missing.first
    (elim told.due [
      | inl over ↦ lacked_then named p all waiting t.transfer t.judged.trail judging part over.0 whole told.next.opens told.of.trail over.1 n time missing soon
      | inr end ↦ (let this : record all { noticed = giving_up waiting all.noticed } ≡ p = cc in subst (λ (q : Part). IsMissingOf host q.noticed.events n time) this missing)
    ])

pub are_lacking : (name : List ℕ) (judging : Judging) (named : List ℕ) (waiting : List ℕ) (all p : Part) (ts : List Telling) → IsPartOf p all → IsNoticedOf named all.history all.carried all.noticed
    → AreTold name judging named (Some (record all { noticed = giving_up waiting all.noticed })) p ts → AreLacking (giving_up waiting all.noticed).events ts
are_lacking name judging named waiting all p [] part whole told = tt
are_lacking name judging named waiting all p (t ∷ older) part whole told =
    let here = part_of told.0 p all told.1 part in (
      λ n time missing soon. lacks_one name judging named waiting told.0 all t older here whole told.2 n time
          (subst (λ (x : Transfer). IsMissingOf x.client.address (giving_up waiting all.noticed).events n time) (sym told.2.of.trail.transfer) missing) soon,
      are_lacking name judging named waiting all told.0 older here whole told.3,
    )
