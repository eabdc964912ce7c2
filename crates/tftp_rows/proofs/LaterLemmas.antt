-- What is noticed of a recording is so once, and what is noticed later comes behind it.
use Rattle.std.proofs.Common.{◌≡◌, ◌≤◌, ◌<◌, ◌∷◌, ◌++◌, ℕ, suc, Bool, true, false, cond, List, [], length, Option, Some, None, refl, sym, ap, subst, ◌∙◌, append_assoc, length-append, arith}
use Rattle.std.specs.declared.net.ip_addr.IpAddr.{IpAddr}
use Rattle.net_udp.specs.{Fate}
use Rattle.net_udp.specs.Frames.{Linked, source_of, target_of}
use Rattle.net_udp.specs.Recording.{EventState, IsFateOf, IsSameDatagram, IsSameFate, Step}
use Rattle.net_udp.specs.declared.frames.link.Network.{Network}
use Rattle.net_udp.specs.declared.recording.fate.Datagram.{Datagram as Given}
use Rattle.net_udp.specs.declared.recording.fate.Fate.TheVariants.{Datagram, Discarded, Left, Waits}
use Rattle.net_udp.specs.declared.recording.fate.LeftOut.{LeftOut}
use Rattle.net_udp.specs.declared.frames.unread.UnreadHeader.{UnreadHeader}
use Rattle.net_udp.proofs.FramesLemmas.Tunnels.{linked_one}
use Rattle.net_udp.proofs.FramesLemmas.UnreadOnce.{header_once}
use Rattle.audit_flows.specs.{Place}
use Rattle.audit_flows.specs.declared.lines.place.Place.TheVariants.{Opens, Repeats, Talks, Apart, Beside, Nowhere}
use Rattle.audit_recording.specs.Audit.{IsOfEvent}
use Rattle.audit_recording.specs.Blame.Frames.{Carried, framed_after}
use Rattle.audit_recording.specs.Losses.Noted.{Event}
use Rattle.audit_recording.specs.Losses.Noted.Event.{Asks, Finds, GivesUp, Loses, Waits as Awaits}
use Rattle.audit_recording.specs.Session.Discards.{Gone}
use Rattle.audit_recording.specs.Session.Noted.{AreHostsOf, IsHeaderOf, Noticed, finding, frames_in, giving_up, going, is_none, losing, may_be_datagram, moment_in, noting, one_by_one, others, sharers_of, unread_in, with_time}
use Rattle.audit_recording.specs.Session.Over.{AreLater, IsLater}
use Rattle.audit_recording.specs.Session.Recording.{AddsOne, IsNoticedOf, Leaves, gone_by, letting_go, placing, reached_by}
use Rattle.audit_recording.proofs.SessionLemmas.Recording.{fate_once}

-- ---- it is noticed once

hosts_once : (event : EventState) (one other : Option (IpAddr × IpAddr)) → AreHostsOf event one → AreHostsOf event other → one ≡ other
hosts_once event None None p q = refl
hosts_once event None (Some h) p q = absurd (p h.0 h.1 q)
hosts_once event (Some h) None p q = absurd (q h.0 h.1 p)
hosts_once event (Some h) (Some g) p q =
    let same : p.linked ≡ q.linked = linked_one event.frame.parts.link event.frame.parts.bytes p.linked q.linked p.carries q.carries in
    let both : Some p.network ≡ Some q.network = sym p.of_ip ∙ (ap {A = Linked} (λ l. l.network) same ∙ q.of_ip) in
    let network : p.network ≡ q.network = cc in
    let from : h.0 ≡ g.0 = p.from ∙ (subst (λ (l : Linked). source_of p.network p.linked.content ≡ source_of q.network l.content) same (ap {A = Network} (λ n. source_of n p.linked.content) network) ∙ sym q.from) in
    let to : h.1 ≡ g.1 = p.to ∙ (subst (λ (l : Linked). target_of p.network p.linked.content ≡ target_of q.network l.content) same (ap {A = Network} (λ n. target_of n p.linked.content) network) ∙ sym q.to) in
    subst (λ (i : IpAddr). Some h ≡ Some (i, g.1)) from (subst (λ (i : IpAddr). Some h ≡ Some (h.0, i)) to refl)

headers_once : (event : EventState) (one other : Option UnreadHeader) → IsHeaderOf event one → IsHeaderOf event other → one ≡ other
headers_once event None None p q = refl
headers_once event None (Some u) p q = absurd (p u q)
headers_once event (Some u) None p q = absurd (q u p)
headers_once event (Some u) (Some v) p q = ap Some (header_once event.frame.parts.link event.frame.parts.bytes u v p q)

-- the event in a frame for which so much room is
abbrev at_room : ℕ → EventState → EventState
at_room room event = record event { frame = record event.frame { room = room } }

-- but for that room, a frame has one event
events_alike : (step : Step) (before : List Step) (event other : EventState) → IsOfEvent step before event → IsOfEvent step before other → other ≡ at_room other.frame.room event
events_alike step before event other one as_well =
    by (as_well.number ∙ sym one.number) (sym as_well.frame ∙ one.frame) (sym as_well.likeness ∙ one.likeness) (sym as_well.brought ∙ one.brought) (sym as_well.sent ∙ one.sent)
    (sym as_well.is_discarded ∙ one.is_discarded) where
      by : other.frame.number ≡ event.frame.number → other.frame.parts ≡ event.frame.parts → other.likeness ≡ event.likeness → other.brought ≡ event.brought → other.sent ≡ event.sent
          → other.is_discarded ≡ event.is_discarded → other ≡ at_room other.frame.room event
      by number parts likeness brought sent discarded =
          ap (λ n. record other { frame = record other.frame { number = n } }) number
          ∙ (ap (λ p. record other { frame = record { number = event.frame.number; parts = p; room = other.frame.room } }) parts
          ∙ (ap (λ l. record (at_room other.frame.room event) { likeness = l; brought = other.brought; sent = other.sent; is_discarded = other.is_discarded }) likeness
          ∙ (ap (λ b. record (at_room other.frame.room event) { brought = b; sent = other.sent; is_discarded = other.is_discarded }) brought
          ∙ (ap (λ o. record (at_room other.frame.room event) { sent = o; is_discarded = other.is_discarded }) sent
          ∙ ap (λ d. record (at_room other.frame.room event) { is_discarded = d }) discarded))))

leaves_room : (b : Bool) (why : LeftOut) (room : ℕ) (event : EventState) (s t : Noticed) → Leaves b why (at_room room event) s t → Leaves b why event s t
leaves_room true why room event s t is = is
leaves_room false why room event s t is = is

adds_room : (named : List ℕ) (room : ℕ) (event : EventState) (fate : Fate) (older : List Carried) (s : Noticed) (all : List Carried) (t : Noticed) → AddsOne named (at_room room event) fate older s all t
    → AddsOne named event fate older s all t
adds_room named room event (Datagram given) older s all t (c, is, more, same) =
    (c, record { frame = is.frame; time = is.time; is_doubtful = is.is_doubtful; has_error = is.has_error; checksum = is.checksum; taken = is.taken }, more, same_placing (framed_after named older c).placed.place c s same) where
      same_placing : (place : Place) (c : Carried) (s : Noticed) → t ≡ placing place (at_room room event) c s → t ≡ placing place event c s
      same_placing (Opens x) c s is = is
      same_placing (Repeats x) c s is = is
      same_placing (Talks x) c s is = is
      same_placing (Apart e) c s is = is
      same_placing (Beside x) c s is = is
      same_placing Nowhere c s is = is
adds_room named room event (Left why) older s all t (more, leaves) = (more, leaves_room (may_be_datagram why) why room event s t leaves)
adds_room named room event Waits older s all t is = is
adds_room named room event (Discarded given) older s all t is = is

leaves_once : (b : Bool) (why : LeftOut) (event : EventState) (before s t : Noticed) → Leaves b why event before s → Leaves b why event before t → s ≡ t
leaves_once true why event before s t (hosts, header, are, is, same) (others, another, also, one, as_well) =
    same
    ∙ (ap {A = Option (IpAddr × IpAddr)} (λ h. losing (reached_by before.times) event h header before) (hosts_once event hosts others are also)
    ∙ (ap {A = Option UnreadHeader} (λ u. losing (reached_by before.times) event others u before) (headers_once event header another is one) ∙ sym as_well))
leaves_once false why event before s t same as_well = same ∙ sym as_well

gone_once : (event : EventState) (d e : Given) (times : List ℕ) → IsSameDatagram d e → gone_by event d times ≡ gone_by event e times
gone_once event d e times same = by same.source same.source_port same.target same.target_port where
  by : d.source ≡ e.source → d.source_port ≡ e.source_port → d.target ≡ e.target → d.target_port ≡ e.target_port → gone_by event d times ≡ gone_by event e times
  by source source_port target target_port = cc

-- the same became of the frame, and as many datagrams had come before it
count_one : (named : List ℕ) (event : EventState) (fate same : Fate) (older before : List Carried) (r q : Noticed) (all also : List Carried) (s t : Noticed) → IsSameFate fate same → length older ≡ length before
    → AddsOne named event fate older r all s → AddsOne named event same before q also t → length all ≡ length also
count_one named event (Datagram d) same older before r q all also s t (e, is, alike) long one other =
    let as_well : AddsOne named event (Datagram e) before q also t = subst (λ (f : Fate). AddsOne named event f before q also t) is other in
    ap length one.2 ∙ (ap suc long ∙ sym (ap length as_well.2))
count_one named event (Left why) same older before r q all also s t is long one other =
    let as_well : AddsOne named event (Left why) before q also t = subst (λ (f : Fate). AddsOne named event f before q also t) is other in
    ap length one.0 ∙ (long ∙ sym (ap length as_well.0))
count_one named event Waits same older before r q all also s t is long one other =
    let as_well : AddsOne named event Waits before q also t = subst (λ (f : Fate). AddsOne named event f before q also t) is other in
    ap length one.0 ∙ (long ∙ sym (ap length as_well.0))
count_one named event (Discarded d) same older before r q all also s t (e, is, alike) long one other =
    let as_well : AddsOne named event (Discarded e) before q also t = subst (λ (f : Fate). AddsOne named event f before q also t) is other in
    ap length one.0 ∙ (long ∙ sym (ap length as_well.0))

adds_once : (named : List ℕ) (event : EventState) (fate same : Fate) (older before : List Carried) (r : Noticed) (all : List Carried) (s t : Noticed) → IsSameFate fate same
    → AddsOne named event fate older r all s → AddsOne named event same before r all t → s ≡ t
adds_once named event (Datagram d) same older before r all s t (e, is, alike) one other =
    let as_well : AddsOne named event (Datagram e) before r all t = subst (λ (f : Fate). AddsOne named event f before r all t) is other in
    let both : one.0 ∷ older ≡ as_well.0 ∷ before = sym one.2 ∙ as_well.2 in
    let carried : one.0 ≡ as_well.0 = cc in
    let rest : older ≡ before = cc in
    one.3 ∙ (subst (λ (l : List Carried). placing (framed_after named older one.0).placed.place event one.0 r ≡ placing (framed_after named l as_well.0).placed.place event as_well.0 r) rest
    (ap {A = Carried} (λ c. placing (framed_after named older c).placed.place event c r) carried) ∙ sym as_well.3)
adds_once named event (Left why) same older before r all s t is one other =
    let as_well : AddsOne named event (Left why) before r all t = subst (λ (f : Fate). AddsOne named event f before r all t) is other in
    leaves_once (may_be_datagram why) why event r s t one.1 as_well.1
adds_once named event Waits same older before r all s t is one other =
    let as_well : AddsOne named event Waits before r all t = subst (λ (f : Fate). AddsOne named event f before r all t) is other in
    one.1.2 ∙ (ap {A = Option (IpAddr × IpAddr)} (λ h. noting (Awaits (unread_in (reached_by r.times) event h r.times)) event.frame.number r)
    (hosts_once event one.1.0 as_well.1.0 one.1.1 as_well.1.1) ∙ sym as_well.1.2)
adds_once named event (Discarded d) same older before r all s t (e, is, alike) one other =
    let as_well : AddsOne named event (Discarded e) before r all t = subst (λ (f : Fate). AddsOne named event f before r all t) is other in
    one.1 ∙ (ap {A = Gone} (λ g. going g (finding (reached_by r.times) (sharers_of event) r)) (gone_once event d e r.times alike) ∙ sym as_well.1)

-- before the last frame the same datagrams had come
same_before : (named : List ℕ) (event : EventState) (fate same : Fate) (older before : List Carried) (r q : Noticed) (all : List Carried) (s t : Noticed) → IsSameFate fate same
    → AddsOne named event fate older r all s → AddsOne named event same before q all t → older ≡ before
same_before named event (Datagram d) same older before r q all s t (e, is, alike) one other =
    let as_well : AddsOne named event (Datagram e) before q all t = subst (λ (f : Fate). AddsOne named event f before q all t) is other in
    let both : one.0 ∷ older ≡ as_well.0 ∷ before = sym one.2 ∙ as_well.2 in cc
same_before named event (Left why) same older before r q all s t is one other =
    let as_well : AddsOne named event (Left why) before q all t = subst (λ (f : Fate). AddsOne named event f before q all t) is other in
    sym one.0 ∙ as_well.0
same_before named event Waits same older before r q all s t is one other =
    let as_well : AddsOne named event Waits before q all t = subst (λ (f : Fate). AddsOne named event f before q all t) is other in
    sym one.0 ∙ as_well.0
same_before named event (Discarded d) same older before r q all s t (e, is, alike) one other =
    let as_well : AddsOne named event (Discarded e) before q all t = subst (λ (f : Fate). AddsOne named event f before q all t) is other in
    sym one.0 ∙ as_well.0

-- the fates of the same frame are the same
fates_once : (room : ℕ) (event other : EventState) (fate same : Fate) → other ≡ at_room room event → IsFateOf event.frame.parts event.likeness event.brought.outcome event.is_discarded fate
    → IsFateOf other.frame.parts other.likeness other.brought.outcome other.is_discarded same → IsSameFate fate same
fates_once room event other fate same is one also =
    fate_once event fate same one (subst (λ (e : EventState). IsFateOf e.frame.parts e.likeness e.brought.outcome e.is_discarded same) is also)

-- what another event of the frame adds, this one does
adds_alike : (named : List ℕ) (room : ℕ) (event other : EventState) (fate : Fate) (older : List Carried) (r : Noticed) (all : List Carried) (t : Noticed) → other ≡ at_room room event
    → AddsOne named other fate older (letting_go other.brought r) all t → AddsOne named event fate older (letting_go event.brought r) all t
adds_alike named room event other fate older r all t is adds =
    adds_room named room event fate older (letting_go event.brought r) all t (subst (λ (e : EventState). AddsOne named e fate older (letting_go e.brought r) all t) is adds)

pub as_many : (named : List ℕ) (history : List Step) (one other : List Carried) (s t : Noticed) → IsNoticedOf named history one s → IsNoticedOf named history other t → length one ≡ length other
as_many named [] one other s t p q = ap length p.0 ∙ sym (ap length q.0)
as_many named (step ∷ before) one other s t p q =
    let same = events_alike step before p.2 q.2 p.5 q.5 in
    count_one named p.2 p.3 q.3 p.0 q.0 (letting_go p.2.brought p.1) (letting_go p.2.brought q.1) one other s t
    (fates_once q.2.frame.room p.2 q.2 p.3 q.3 same p.6 q.6)
    (as_many named before p.0 q.0 p.1 q.1 p.4 q.4) p.7
    (adds_alike named q.2.frame.room p.2 q.2 q.3 q.0 q.1 other t same q.7)

pub noticed_once : (named : List ℕ) (history : List Step) (all : List Carried) (s t : Noticed) → IsNoticedOf named history all s → IsNoticedOf named history all t → s ≡ t
noticed_once named [] all s t p q = p.1 ∙ sym q.1
noticed_once named (step ∷ before) all s t p q =
    let same = events_alike step before p.2 q.2 p.5 q.5 in
    let fates = fates_once q.2.frame.room p.2 q.2 p.3 q.3 same p.6 q.6 in
    let other = adds_alike named q.2.frame.room p.2 q.2 q.3 q.0 q.1 all t same q.7 in
    let older = same_before named p.2 p.3 q.3 p.0 q.0 (letting_go p.2.brought p.1) (letting_go p.2.brought q.1) all s t fates p.7 other in
    let was : p.1 ≡ q.1 = noticed_once named before p.0 p.1 q.1 p.4 (subst (λ (l : List Carried). IsNoticedOf named before l q.1) (sym older) q.4) in
    adds_once named p.2 p.3 q.3 p.0 q.0 (letting_go p.2.brought p.1) all s t fates p.7
    (subst (λ (r : Noticed). AddsOne named p.2 q.3 q.0 (letting_go p.2.brought r) all t) (sym was) other)

-- ---- what is noticed later

-- behind these events others have come, all of them later
abbrev pub Grew : ℕ → ℕ → List Event → List Event → Type 0
Grew newest moment was now = (later : List Event) × (now ≡ later ++ was) × AreLater newest moment later

grew_one : (newest moment : ℕ) (was now : List Event) (e : Event) → IsLater newest moment e → Grew newest moment was now → Grew newest moment was (e ∷ now)
grew_one newest moment was now e is grew = (e ∷ grew.0, ap (λ l. e ∷ l) grew.1, (is, grew.2))

grew_all : (newest moment : ℕ) (how : ℕ → Event) → ((n : ℕ) → IsLater newest moment (how n)) → (frames : List ℕ) (was now : List Event) → Grew newest moment was now → Grew newest moment was (one_by_one how frames now)
grew_all newest moment how is [] was now grew = grew
grew_all newest moment how is (n ∷ frames) was now grew = grew_all newest moment how is frames was (how n ∷ now) (grew_one newest moment was now (how n) (is n) grew)

pub grew_giving_up : (newest moment : ℕ) (frames : List ℕ) (was : List Event) (s : Noticed) → Grew newest moment was s.events → Grew newest moment was (giving_up frames s).events
grew_giving_up newest moment frames was s grew = grew_all newest moment GivesUp (λ n. tt) frames was s.events grew

grew_finding : (newest moment clock : ℕ) → moment ≤ clock → (frames : List ℕ) (was : List Event) (s : Noticed) → Grew newest moment was s.events → Grew newest moment was (finding clock frames s).events
grew_finding newest moment clock up frames was s grew = grew_all newest moment (λ n. Finds n clock) (λ n. up) frames was s.events grew

reached_more : (time : ℕ) (times : List ℕ) → reached_by times ≤ reached_by (time ∷ times)
reached_more time [] = omega arith
reached_more time (before ∷ older) = omega arith

pub reached_with : (time : Option ℕ) (times : List ℕ) → reached_by times ≤ reached_by (with_time time times)
reached_with None times = omega arith
reached_with (Some time) times = reached_more time times

moment_up : (reached moment : ℕ) (event : EventState) (times : List ℕ) → moment ≤ reached → moment ≤ moment_in reached event times
moment_up reached moment event times up = omega arith

-- what one frame adds is later, and the clock does not go back
abbrev GoesUp : ℕ → ℕ → List Event → Noticed → Type 0
GoesUp newest moment was s = Grew newest moment was s.events × (moment ≤ reached_by s.times)

module _ (newest moment : ℕ) (was : List Event) (event : EventState) (after : newest < event.frame.number) where
  placed_later : (place : Place) (c : Carried) (s : Noticed) → GoesUp newest moment was s → GoesUp newest moment was (placing place event c s)
  placed_later (Opens x) c s up = (
    grew_one newest moment was (finding (reached_by s.times) (sharers_of event) s).events (Asks x.client.address c.frame) tt (grew_finding newest moment (reached_by s.times) up.1 (sharers_of event) was s up.0),
    (let more = reached_with c.time s.times in omega (arith, up.1, more)),
  )
  placed_later (Repeats x) c s up = (grew_finding newest moment (reached_by s.times) up.1 (sharers_of event) was s up.0, (let more = reached_with c.time s.times in omega (arith, up.1, more)))
  placed_later (Talks x) c s up = (grew_finding newest moment (reached_by s.times) up.1 (sharers_of event) was s up.0, (let more = reached_with c.time s.times in omega (arith, up.1, more)))
  placed_later (Apart e) c s up = (grew_finding newest moment (reached_by s.times) up.1 (sharers_of event) was s up.0, (let more = reached_with c.time s.times in omega (arith, up.1, more)))
  placed_later (Beside x) c s up = (grew_finding newest moment (reached_by s.times) up.1 (sharers_of event) was s up.0, (let more = reached_with c.time s.times in omega (arith, up.1, more)))
  placed_later Nowhere c s up = (grew_finding newest moment (reached_by s.times) up.1 (sharers_of event) was s up.0, (let more = reached_with c.time s.times in omega (arith, up.1, more)))

  leaving_later : (b : Bool) (one other : Noticed) → GoesUp newest moment was one → GoesUp newest moment was other → GoesUp newest moment was (cond b one other)
  leaving_later true one other p q = p
  leaving_later false one other p q = q

  left_later : (b : Bool) (why : LeftOut) (s t : Noticed) → Leaves b why event s t → GoesUp newest moment was s → GoesUp newest moment was t
  left_later true why s t (hosts, header, are, is, same) up =
      subst (GoesUp newest moment was) (sym same) (
        grew_one newest moment was (giving_up (others event.frame.number (sharers_of event)) s).events (Loses (unread_in (reached_by s.times) event hosts s.times))
            (after, moment_up (reached_by s.times) moment event s.times up.1) (grew_giving_up newest moment (others event.frame.number (sharers_of event)) was s up.0),
        up.1,
      )
  left_later false why s t same up =
      subst (GoesUp newest moment was) (sym same)
      (leaving_later (is_none why) (finding (reached_by s.times) (sharers_of event) s) s (grew_finding newest moment (reached_by s.times) up.1 (sharers_of event) was s up.0, up.1) up)

  one_later : (named : List ℕ) (fate : Fate) (older : List Carried) (s : Noticed) (all : List Carried) (t : Noticed) → AddsOne named event fate older s all t → GoesUp newest moment was s → GoesUp newest moment was t
  one_later named (Datagram given) older s all t (c, by, more, same) up =
      subst (GoesUp newest moment was) (sym same) (placed_later (framed_after named older c).placed.place c s up)
  one_later named (Left why) older s all t (more, leaves) up = left_later (may_be_datagram why) why s t leaves up
  one_later named Waits older s all t (more, (hosts, are, same)) up =
      subst (GoesUp newest moment was) (sym same) (
        grew_one newest moment was s.events (Awaits (unread_in (reached_by s.times) event hosts s.times)) (after, moment_up (reached_by s.times) moment event s.times up.1) up.0,
        up.1,
      )
  one_later named (Discarded given) older s all t (more, same) up =
      subst (GoesUp newest moment was) (sym same) (grew_finding newest moment (reached_by s.times) up.1 (sharers_of event) was s up.0, up.1)

  let_later : (s : Noticed) → GoesUp newest moment was s → GoesUp newest moment was (letting_go event.brought s)
  let_later s up = (grew_giving_up newest moment (frames_in event.brought.ousted) was (giving_up event.brought.old s) (grew_giving_up newest moment event.brought.old was s up.0), up.1)

-- one frame adds one datagram, or none
pub one_carried : (named : List ℕ) (event : EventState) (fate : Fate) (older : List Carried) (s : Noticed) (all : List Carried) (t : Noticed) → AddsOne named event fate older s all t → (new : List Carried) × (all ≡ new ++ older)
one_carried named event (Datagram given) older s all t (c, by, more, same) = (c ∷ [], more)
one_carried named event (Left why) older s all t (more, leaves) = ([], more)
one_carried named event Waits older s all t (more, wait) = ([], more)
one_carried named event (Discarded given) older s all t (more, same) = ([], more)

-- By its first frames it was so, and all that was noticed after them is later.
pub record IsBehind (named : List ℕ) (history : List Step) (all : List Carried) (t : Noticed) : Type 0 where
  pub carried : List Carried
  pub noticed : Noticed
  pub came : IsNoticedOf named history carried noticed
  pub later : List Carried
  pub datagrams : all ≡ later ++ carried
  pub up : GoesUp (length history) (reached_by noticed.times) noticed.events t

pub behind : (named : List ℕ) (next history : List Step) (all : List Carried) (t : Noticed) → IsNoticedOf named (next ++ history) all t → IsBehind named history all t
behind named [] history all t is = record {
  carried = all;
  noticed = t;
  came = is;
  later = [];
  datagrams = refl;
  up = (([], refl, tt), omega arith);
}
behind named (step ∷ next) history all t is =
    let was = behind named next history is.0 is.1 is.4 in
    let long = length-append next history in
    let number = is.5.number in
    let after : length history < is.2.frame.number = omega (arith, long, number) in
    let one = one_carried named is.2 is.3 is.0 (letting_go is.2.brought is.1) all t is.7 in
    record {
      carried = was.carried;
      noticed = was.noticed;
      came = was.came;
      later = one.0 ++ was.later;
      datagrams = one.1 ∙ (ap (λ l. one.0 ++ l) was.datagrams ∙ sym (append_assoc one.0 was.later was.carried));
      up = one_later (length history) (reached_by was.noticed.times) was.noticed.events is.2 after named is.3 is.0 (letting_go is.2.brought is.1) all t is.7
          (let_later (length history) (reached_by was.noticed.times) was.noticed.events is.2 after is.1 was.up);
    }

pub rest_same : {X : Type 0} (xs ys us vs : List X) → xs ++ us ≡ ys ++ vs → length us ≡ length vs → us ≡ vs
rest_same [] [] us vs same long = same
rest_same [] (y ∷ ys) us vs same long = let more = ap length same in let sum = length-append ys vs in absurd (omega (arith, more, sum, long))
rest_same (x ∷ xs) [] us vs same long = let more = ap length same in let sum = length-append xs us in absurd (omega (arith, more, sum, long))
rest_same (x ∷ xs) (y ∷ ys) us vs same long = let tails : xs ++ us ≡ ys ++ vs = cc in rest_same xs ys us vs tails long

-- Of a part of a recording: what is noticed of the whole is what was noticed of the part, and what is later.
pub grown : (named : List ℕ) (next history : List Step) (later carried : List Carried) (s t : Noticed) → IsNoticedOf named history carried s → IsNoticedOf named (next ++ history) (later ++ carried) t
    → Grew (length history) (reached_by s.times) s.events t.events
grown named next history later carried s t came all =
    let at = behind named next history (later ++ carried) t all in
    let same : at.carried ≡ carried = sym (rest_same later at.later carried at.carried at.datagrams (as_many named history carried at.carried s at.noticed came at.came)) in
    let noticed : at.noticed ≡ s = noticed_once named history carried at.noticed s (subst (λ (l : List Carried). IsNoticedOf named history l at.noticed) same at.came) came in
    subst (λ (r : Noticed). Grew (length history) (reached_by r.times) r.events t.events) noticed at.up.0
