-- What was known of a transfer when it was told: that it was over, and that its client had asked in its first frame.
use Rattle.std.proofs.Common.{◌≡◌, ◌≤◌, ◌<◌, ◌+◌, ◌∷◌, ℕ, Bool, true, false, true≢false, cond, List, [], length, Option, Some, None, IfSome, IsSome, option_map, inl, inr, refl, sym, ap, subst, ◌∙◌, arith}
use Rattle.std.specs.BTreeMap.{get}
use Rattle.std.specs.Ordering.{nat_cmp}
use Rattle.law_model.specs.Rules.{first_of, or_this}
use Rattle.net_udp.specs.{Fate}
use Rattle.net_udp.specs.Recording.{EventState, Step}
use Rattle.net_udp.specs.declared.recording.fate.Fate.TheVariants.{Datagram, Discarded, Left, Waits}
use Rattle.net_udp.specs.declared.recording.fate.LeftOut.{LeftOut}
use Rattle.audit_flows.specs.{Address, Place, Transfer}
use Rattle.audit_flows.specs.Lines.{Placed, clock, line, live, same_address, silence, transfer_of}
use Rattle.audit_flows.specs.Transfers.{opened_it}
use Rattle.audit_flows.specs.declared.lines.place.Place.TheVariants.{Opens, Repeats, Talks, Apart, Beside, Nowhere}
use Rattle.audit_flows.proofs.LinesLemmas.Endpoints.{address_itself}
use Rattle.audit_flows.proofs.LinesLemmas.Lines.{by_test}
use Rattle.audit_recording.specs.Blame.Frames.{Carried, Framed, datagrams_of, framed, framed_after, view_of, whole_of}
use Rattle.audit_recording.specs.Blame.Kept.{IsTrailOf, first_frame, last_time_in}
use Rattle.audit_recording.specs.Judges.{is_among, opened}
use Rattle.audit_recording.specs.Losses.Noted.{Event, IsAsked, longest_wait}
use Rattle.audit_recording.specs.Losses.Noted.Event.{Asks, Finds, GivesUp, Loses, Waits as Awaits}
use Rattle.audit_recording.specs.Session.Kept.{IsSessionOf}
use Rattle.audit_recording.specs.Session.Noted.{Noticed, finding, frames_in, giving_up, is_none, may_be_datagram, one_by_one, others, sharers_of}
use Rattle.audit_recording.specs.Session.Over.{IsOldestOver, IsOver, IsWaitingAt}
use Rattle.audit_recording.specs.Session.Recording.{AddsOne, IsNoticedOf, Leaves, letting_go, placing, reached_by}
use Rattle.audit_recording.specs.Session.Trails.{IsTrailKept}
use Rattle.audit_recording.specs.declared.blame.trail.Trail.{Trail}
use Rattle.audit_recording.specs.declared.judges.judging.Judging.{Judging}
use Rattle.audit_recording.specs.declared.rows.row.Point.TheVariants.{Client}
use Rattle.audit_recording.specs.declared.session.session.Session.{Session}
use Rattle.audit_recording.proofs.BlameLemmas.Trailing.{or_none}
use Rattle.audit_recording.proofs.JudgesLemmas.Keeping.{opened_elsewhere, opened_here}
use Rattle.tftp_rows.specs.Telling.{IsNext}
use Rattle.tftp_rows.proofs.OrderLemmas.{length_datagrams, newest_number, opens_so}

-- ---- it was over

-- what was opened and not handed out has a trail
has_trail : (judging : Judging) (named out : List ℕ) (all : List Placed) (fed : List Carried) (n : ℕ) (x : Transfer) (o : Option Trail) → IsTrailKept judging named out all fed n o
    → opened n all ≡ Some x → is_among n out ≡ false → IsSome o
has_trail judging named out all fed n x None (inl none) opens left = let both : None ≡ Some x = sym none ∙ opens in absurd (cc)
has_trail judging named out all fed n x None (inr gone) opens left = absurd (true≢false (sym gone ∙ left))
has_trail judging named out all fed n x (Some t) kept opens left = refl

over_by : (t u : Trail) (named : List ℕ) (carried : List Carried) (s : Noticed) → u.transfer ≡ t.transfer → u.last_time ≡ t.last_time → IsOver t named carried s → IsOver u named carried s
over_by t u named carried s transfer time over =
    let whole = whole_of named carried in
    let moment = reached_by s.times in
    record {
      past = record {
        silent = subst (λ m. m + silence < moment) (sym time) over.past.silent;
        waited = λ waits. subst (λ m. m + silence + longest_wait < moment) (sym time)
            (over.past.waited (subst (λ (x : Transfer). IsWaitingAt x.client.address s.events) transfer waits));
      };
      silent = subst (λ (x : Transfer). live (clock whole) (line x.client whole) ≡ []) (sym transfer) over.silent;
    }

-- Where the oldest transfer that was not handed out is over, and this is the next one, it is that.
pub over_then : (b : Session) (named out : List ℕ) (history : List Step) (carried : List Carried) (s : Noticed) (x : Transfer) (u : Trail) (judging : Judging)
    → IsSessionOf b named out history carried s → IsOldestOver b named carried s → IsNext x named out carried → IsTrailOf u judging x named carried → IsOver u named carried s
over_then b named out history carried s x u judging is (n, t, at, least, over) next own =
    let whole = whole_of named carried in
    let here = b.audit.judge.judging in
    let kept : IsTrailKept here named out whole carried n (Some t) = subst (IsTrailKept here named out whole carried n) at (is.trails n) in
    let down : x.number ≤ n = next.oldest n (subst IsSome (sym kept.0) refl) kept.1 in
    let up : n ≤ x.number = least x.number (has_trail here named out whole carried x.number x (get nat_cmp b.trails x.number) (is.trails x.number) next.opens next.first_time) in
    let number : n ≡ x.number = omega arith in
    let opens : opened x.number whole ≡ Some t.transfer = subst (λ m. opened m whole ≡ Some t.transfer) number kept.0 in
    let both : Some t.transfer ≡ Some x = sym opens ∙ next.opens in
    let same : t.transfer ≡ x = cc in
    let time : t.last_time ≡ last_time_in (view_of Client x.number named carried) = subst (λ (y : Transfer). t.last_time ≡ last_time_in (view_of Client y.number named carried)) same kept.2.own.last_time in
    over_by t u named carried s (own.transfer ∙ sym same) (own.last_time ∙ sym time) over

-- ---- its client had asked

asked_on : (at : Address → Bool) (n : ℕ) (e : Event) (older : List Event) → IsAsked at n older → IsAsked at n (e ∷ older)
asked_on at n (Asks host frame) older is = inr is
asked_on at n (Loses f) older is = is
asked_on at n (Awaits f) older is = is
asked_on at n (Finds frame moment) older is = is
asked_on at n (GivesUp frame) older is = is

asked_all : (at : Address → Bool) (n : ℕ) (how : ℕ → Event) (frames : List ℕ) (older : List Event) → IsAsked at n older → IsAsked at n (one_by_one how frames older)
asked_all at n how [] older is = is
asked_all at n how (frame ∷ frames) older is = asked_all at n how frames (how frame ∷ older) (asked_on at n (how frame) older is)

-- frames that have waited in vain leave what was asked
pub asked_then : (at : Address → Bool) (n : ℕ) (frames : List ℕ) (s : Noticed) → IsAsked at n s.events → IsAsked at n (giving_up frames s).events
asked_then at n frames s is = asked_all at n GivesUp frames s.events is

asked_found : (at : Address → Bool) (n moment : ℕ) (frames : List ℕ) (s : Noticed) → IsAsked at n s.events → IsAsked at n (finding moment frames s).events
asked_found at n moment frames s is = asked_all at n (λ m. Finds m moment) frames s.events is

asked_let : (at : Address → Bool) (n : ℕ) (event : EventState) (s : Noticed) → IsAsked at n s.events → IsAsked at n (letting_go event.brought s).events
asked_let at n event s is = asked_then at n (frames_in event.brought.ousted) (giving_up event.brought.old s) (asked_then at n event.brought.old s is)

asked_placing : (at : Address → Bool) (n : ℕ) (place : Place) (event : EventState) (c : Carried) (s : Noticed) → IsAsked at n s.events → IsAsked at n (placing place event c s).events
asked_placing at n (Opens x) event c s is = inr (asked_found at n (reached_by s.times) (sharers_of event) s is)
asked_placing at n (Repeats x) event c s is = asked_found at n (reached_by s.times) (sharers_of event) s is
asked_placing at n (Talks x) event c s is = asked_found at n (reached_by s.times) (sharers_of event) s is
asked_placing at n (Apart e) event c s is = asked_found at n (reached_by s.times) (sharers_of event) s is
asked_placing at n (Beside x) event c s is = asked_found at n (reached_by s.times) (sharers_of event) s is
asked_placing at n Nowhere event c s is = asked_found at n (reached_by s.times) (sharers_of event) s is

asked_leaving : (at : Address → Bool) (n : ℕ) (b : Bool) (one other : Noticed) → IsAsked at n one.events → IsAsked at n other.events → IsAsked at n (cond b one other).events
asked_leaving at n true one other p q = p
asked_leaving at n false one other p q = q

asked_left : (at : Address → Bool) (n : ℕ) (b : Bool) (why : LeftOut) (event : EventState) (s t : Noticed) → Leaves b why event s t → IsAsked at n s.events → IsAsked at n t.events
asked_left at n true why event s t (hosts, header, are, known, same) is =
    subst (λ (r : Noticed). IsAsked at n r.events) (sym same) (asked_then at n (others event.frame.number (sharers_of event)) s is)
asked_left at n false why event s t same is =
    subst (λ (r : Noticed). IsAsked at n r.events) (sym same)
    (asked_leaving at n (is_none why) (finding (reached_by s.times) (sharers_of event) s) s (asked_found at n (reached_by s.times) (sharers_of event) s is) is)

-- the first frame of this transfer, in which its client asked
abbrev pub AskedFirst : Transfer → List ℕ → List Carried → List Event → Type 0
AskedFirst x named carried events =
    (frame : ℕ) × (first_frame (λ f. opened_it x.number f.placed) (framed named carried) ≡ Some frame) × IsAsked (λ host. same_address host x.client.address) frame events

-- none before it opened the transfer
none_first : (n : ℕ) (named : List ℕ) (carried : List Carried) → length carried ≤ n → first_of (λ (f : Framed). opened_it n f.placed) (framed named carried) ≡ None
none_first n named [] low = refl
none_first n named (c ∷ carried) low =
    let f : Framed = framed_after named carried c in
    by_test (opened_it n f.placed)
    (λ is. let here : n ≡ length (datagrams_of carried) = newest_number named (datagrams_of carried) c.datagram n is in let long = length_datagrams carried in absurd (omega arith))
    (λ off. or_none (first_of (λ (g : Framed). opened_it n g.placed) (framed named carried)) f (opened_it n f.placed) off ∙ none_first n named carried (omega arith))

asks_here : (x : Transfer) (event : EventState) (c : Carried) (s : Noticed) (place : Place) → place ≡ Opens x → IsAsked (λ host. same_address host x.client.address) c.frame (placing place event c s).events
asks_here x event c s place is =
    subst (λ (q : Place). IsAsked (λ host. same_address host x.client.address) c.frame (placing q event c s).events) (sym is) (inl (address_itself x.client.address, refl))

this_one : {X : Type 0} (o : Option X) (x : X) (b : Bool) → o ≡ None → b ≡ true → or_this o b x ≡ Some x
this_one None x true none is = refl
this_one None x false none is = absurd (true≢false (sym is))
this_one (Some y) x b none is = absurd (cc)

-- one datagram more
asked_more : (named : List ℕ) (event : EventState) (c : Carried) (older : List Carried) (s : Noticed) (x : Transfer) → opened x.number (whole_of named (c ∷ older)) ≡ Some x
    → (opened x.number (whole_of named older) ≡ Some x → AskedFirst x named older s.events)
    → AskedFirst x named (c ∷ older) (placing (framed_after named older c).placed.place event c s).events
asked_more named event c older s x opens before =
    let f : Framed = framed_after named older c in
    let test : Framed → Bool = λ g. opened_it x.number g.placed in
    let whole = whole_of named older in
    by_test (opened_it x.number f.placed)
    (λ is.
    let so = opens_so x.number c.datagram f.placed.moment f.placed.place is in
    let from : Some x ≡ transfer_of f.placed.place = sym opens ∙ opened_here x.number f.placed whole is in
    let both : Some x ≡ Some so.0 = from ∙ ap transfer_of so.1 in
    let same : so.0 ≡ x = cc in
    let place : f.placed.place ≡ Opens x = so.1 ∙ ap Opens same in
    let here : x.number ≡ length (datagrams_of older) = newest_number named (datagrams_of older) c.datagram x.number is in
    let long = length_datagrams older in
    let none : first_of test (framed named older) ≡ None = none_first x.number named older (omega arith) in
    (c.frame, ap (option_map (λ (g : Framed). g.carried.frame)) (this_one (first_of test (framed named older)) f (test f) none is), asks_here x event c s f.placed.place place))
    (λ off.
    let was = before (sym (opened_elsewhere x.number f.placed whole off) ∙ opens) in
    (was.0, ap (option_map (λ (g : Framed). g.carried.frame)) (or_none (first_of test (framed named older)) f (test f) off) ∙ was.1, asked_placing _ was.0 f.placed.place event c s was.2))

abbrev Moved : Transfer → List ℕ → List Event → List Event → List Carried → Type 0
Moved x named before after carried = AskedFirst x named carried before → AskedFirst x named carried after

let_go : (x : Transfer) (named : List ℕ) (event : EventState) (s : Noticed) (carried : List Carried) → Moved x named s.events (letting_go event.brought s).events carried
let_go x named event s carried was = (was.0, was.1, asked_let _ was.0 event s was.2)

-- what becomes of one frame
asked_one : (named : List ℕ) (event : EventState) (fate : Fate) (older : List Carried) (s : Noticed) (all : List Carried) (t : Noticed) (x : Transfer) → AddsOne named event fate older s all t
    → opened x.number (whole_of named all) ≡ Some x → (opened x.number (whole_of named older) ≡ Some x → AskedFirst x named older s.events) → AskedFirst x named all t.events
asked_one named event (Datagram given) older s all t x (c, by, more, same) opens before =
    subst (λ (l : List Carried). AskedFirst x named l t.events) (sym more)
    (subst (λ (r : Noticed). AskedFirst x named (c ∷ older) r.events) (sym same)
    (asked_more named event c older s x (subst (λ (l : List Carried). opened x.number (whole_of named l) ≡ Some x) more opens) before))
asked_one named event (Left why) older s all t x (more, leaves) opens before =
    let was = before (subst (λ (l : List Carried). opened x.number (whole_of named l) ≡ Some x) more opens) in
    subst (λ (l : List Carried). AskedFirst x named l t.events) (sym more) (was.0, was.1, asked_left _ was.0 (may_be_datagram why) why event s t leaves was.2)
asked_one named event Waits older s all t x (more, (hosts, are, same)) opens before =
    let was = before (subst (λ (l : List Carried). opened x.number (whole_of named l) ≡ Some x) more opens) in
    subst (λ (l : List Carried). AskedFirst x named l t.events) (sym more) (subst (λ (r : Noticed). AskedFirst x named older r.events) (sym same) was)
asked_one named event (Discarded given) older s all t x (more, same) opens before =
    let was = before (subst (λ (l : List Carried). opened x.number (whole_of named l) ≡ Some x) more opens) in
    subst (λ (l : List Carried). AskedFirst x named l t.events) (sym more)
    (subst (λ (r : Noticed). AskedFirst x named older r.events) (sym same) (was.0, was.1, asked_found _ was.0 (reached_by s.times) (sharers_of event) s was.2))

pub asked_first : (named : List ℕ) (history : List Step) (carried : List Carried) (s : Noticed) (x : Transfer) → IsNoticedOf named history carried s
    → opened x.number (whole_of named carried) ≡ Some x → AskedFirst x named carried s.events
asked_first named [] carried s x (none, new) opens =
    let both : None ≡ Some x = subst (λ (l : List Carried). opened x.number (whole_of named l) ≡ Some x) none opens in absurd (cc)
asked_first named (step ∷ before) carried s x (older, t, event, fate, was, of, is, adds) opens =
    asked_one named event fate older (letting_go event.brought t) carried s x adds opens (λ opened. let_go x named event t older (asked_first named before older t x was opened))

-- in the first frame of a transfer that was opened its client asked
pub asked_in : (named : List ℕ) (history : List Step) (carried : List Carried) (s : Noticed) (x : Transfer) (t : Trail) (judging : Judging) → IsNoticedOf named history carried s
    → opened x.number (whole_of named carried) ≡ Some x → IsTrailOf t judging x named carried → IsAsked (λ host. same_address host t.transfer.client.address) t.first s.events
asked_in named history carried s x t judging came opens own =
    let first = asked_first named history carried s x came opens in
    let at : first.0 ≡ t.first = subst (λ (o : Option ℕ). IfSome o (λ frame. frame ≡ t.first)) first.1 own.first in
    subst (λ (y : Transfer). IsAsked (λ host. same_address host y.client.address) t.first s.events) (sym own.transfer)
    (subst (λ n. IsAsked (λ host. same_address host x.client.address) n s.events) at first.2)
