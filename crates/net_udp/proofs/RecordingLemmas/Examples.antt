-- The worked examples.
use Rattle.std.proofs.Common.{◌≡◌, ℕ, zero, suc, ◌+◌, Bool, true, false, inl, inr, List, [], ◌∷◌, ◌++◌, length, length-append, map, Option, Some, None, Vec, Global, cond, take, refl, sym, ap, ◌∙◌, subst, arith, rules}
use Rattle.std.proofs.lemmas.List.{get_or-append-add, get_or-map, get_or_append_left, get_or_past, length-map}
use Rattle.std.proofs.lemmas.Bool.{cases_Bool}
use Rattle.net_udp.specs.Copies.{Packet as Recorded, IsCopy}
use Rattle.net_udp.specs.Fragments.{Agrees, AreLaid, Held, IsHeld, content_of as put_together, nothing_held, same_key, Arrival, IsSetOf, SetState, parts_of, IsKeptOf, PutEnds, Sets, is_long, room_under, set_at, Give, PutTogether}
use Rattle.net_udp.specs.declared.fragments.outcome.Outcome.{Outcome}
use Rattle.net_udp.specs.declared.fragments.outcome.Outcome.TheVariants.{Waits}
use Rattle.net_udp.specs.Fragments.Whole.{Content, Part}
use Rattle.net_udp.specs.declared.fragments.content.Content.{Content as Made}
use Rattle.net_udp.specs.declared.fragments.key.Key.{Key}
use Rattle.net_udp.specs.declared.fragments.outcome.Outcome.TheVariants.{Whole}
use Rattle.net_udp.proofs.FragmentsLemmas.Holding.{Added, stands_more, whole_given, not_both}
use Rattle.net_udp.proofs.FragmentsLemmas.Puts.{empty_set, nothing_agrees}
use Rattle.net_udp.proofs.FragmentsLemmas.Keeping.{no_byte}
use Rattle.net_udp.proofs.FragmentsLemmas.Rooms.{same_set, no_set}
use Rattle.net_udp.specs.Frames.{SpellsFrame, Packet, HasUdp, HoldsUdp, SpellsUdp, Udp, Reached, acknowledgement, checksum_of, cooked_head, ipv4_bytes, ipv4_packet, pair, two_tags, udp_bytes, udp_left}
use Rattle.net_udp.specs.declared.frames.checksum.Checksum.TheVariants.{Partial, Right, Wrong}
use Rattle.net_udp.specs.declared.frames.link.LinkType.TheVariants.{Cooked, Ethernet, RawIpv4, RawIpv6}
use Rattle.net_udp.specs.declared.frames.link.Network.TheVariants.{Ipv6}
use Rattle.net_udp.specs.declared.frames.packet.Direction.TheVariants.{Out, Unknown}
use Rattle.net_udp.specs.declared.frames.checksum.Checksum.{Checksum}
use Rattle.net_udp.specs.declared.frames.fault.FrameFault.TheVariants.{Protocol}
use Rattle.net_udp.specs.declared.frames.fault.UdpFault.TheVariants.{Protocol as NotUdp}
use Rattle.net_udp.proofs.FramesLemmas.Datagrams.{has_one}
use Rattle.net_udp.proofs.FramesLemmas.FaultOrder.{packet_one}
use Rattle.net_pcap.specs.{FrameParts}
use Rattle.net_udp.proofs.FramesLemmas.Datagrams.{not_hidden as not_hidden_udp}
use Rattle.net_udp.proofs.FramesLemmas.Tunnels.{spells, spells_ipv4}
use Rattle.net_udp.specs.Recording.{LetsGoOld, TakesPart, arrival_of, content_of, IsDatagram, IsDiscarded, IsFateOf, IsHistory, IsSentBy, checksum_told, cooked_step, ethernet_step, first_bytes, first_of, first_part, first_set, first_step, icmp_content, icmp_frame, last_bytes, last_named, last_of_icmp, last_part, last_step, left_bytes, left_packet, part_of_icmp, raw_frame, raw_step, recorded_at, recorded_first, recorded_raw, sent_with, spoilt_acknowledgement, spoilt_bytes, spoilt_packet, worked_content, worked_key, worked_time}
use Rattle.net_udp.specs.declared.recording.fate.Fate.TheVariants.{Discarded, Left}
use Rattle.net_udp.specs.declared.recording.fate.LeftOut.TheVariants.{Frame}
use Rattle.net_udp.specs.declared.recording.likeness.Likeness.TheVariants.{New}
use Rattle.net_udp.specs.declared.recording.sent.Sent.{Sent}
use Rattle.net_udp.specs.declared.recording.fate.Datagram.{Datagram as Given}
use Rattle.net_udp.specs.declared.recording.fate.Fate.TheVariants.{Datagram}
use Rattle.net_udp.specs.declared.recording.likeness.Likeness.TheVariants.{Copy}
use Rattle.net_udp.proofs.RecordingLemmas.Keys.{same_back, same_itself}

-- ---- the frames

pub first_spells : SpellsFrame 228 first_bytes first_part
first_spells = spells_ipv4 228 RawIpv4 first_bytes Unknown first_bytes refl (omega arith, refl, (refl, refl)) (omega arith, refl, omega arith, omega arith) (omega arith, omega arith) refl refl

pub last_spells : SpellsFrame 228 last_bytes last_part
last_spells = spells_ipv4 228 RawIpv4 last_bytes Unknown last_bytes refl (omega arith, refl, (refl, refl)) (omega arith, refl, omega arith, omega arith) (omega arith, omega arith) refl refl

ethernet_spells : SpellsFrame 1 (two_tags ++ ipv4_bytes) (ipv4_packet Unknown ipv4_bytes)
ethernet_spells = spells_ipv4 1 Ethernet (two_tags ++ ipv4_bytes) Unknown ipv4_bytes refl (omega arith, refl, (2048, (2, (33024, (refl, omega arith, refl), (2048, (refl, omega arith, refl), (refl, refl, refl)))), refl)) (omega arith, refl, omega arith, omega arith) (omega arith, omega arith) refl refl

cooked_spells : SpellsFrame 113 (cooked_head ++ ipv4_bytes) (ipv4_packet Out ipv4_bytes)
cooked_spells = spells_ipv4 113 Cooked (cooked_head ++ ipv4_bytes) Out ipv4_bytes refl (omega arith, refl, (2048, (0, (refl, refl, refl)), refl)) (omega arith, refl, omega arith, omega arith) (omega arith, omega arith) refl refl

says_acknowledgement : SpellsUdp 17 udp_bytes acknowledgement
says_acknowledgement = (udp_bytes, ((0, inl (refl, (λ e. omega arith), refl)), refl), omega arith, (omega arith, omega arith), (λ e. omega arith), (λ e. omega arith), refl)

-- ---- what frames tell of who sent their datagrams

tells_by : (frame : FrameParts) (whole : Option Content) (p : Packet) (udp : Udp) (bytes : List ℕ) (checksum : Checksum) → SpellsFrame frame.link frame.bytes p
    → HasUdp (content_of p whole).protocol (content_of p whole).bytes bytes → SpellsUdp (content_of p whole).protocol (content_of p whole).bytes udp → checksum ≡ checksum_of p (take (pair bytes 4) bytes)
    → IsSentBy frame whole (Some (record { host = p.source; checksum = checksum }))
tells_by frame whole p udp bytes checksum spells has spelled is = (
  p,
  udp,
  (spells, spelled),
  refl,
  λ q others spelled_so has_so sized.
      let e : q ≡ p = packet_one frame.link frame.bytes q p spelled_so spells in
      let f : others ≡ bytes = has_one (content_of p whole).protocol (content_of p whole).bytes others bytes (subst (λ (x : Packet). HasUdp (content_of x whole).protocol (content_of x whole).bytes others) e has_so) has in
      is ∙ ap (λ (x : Packet). checksum_of x (take (pair bytes 4) bytes)) (sym e) ∙ ap (λ (l : List ℕ). checksum_of q (take (pair l 4) l)) (sym f),
)

ethernet_tells : (time : ℕ) → IsSentBy (ethernet_step time).frame None (sent_with Right)
ethernet_tells time = tells_by (ethernet_step time).frame None (ipv4_packet Unknown ipv4_bytes) acknowledgement udp_bytes Right ethernet_spells ((0, inl (refl, (λ e. omega arith), refl)), refl) says_acknowledgement refl

cooked_tells : (number before time : ℕ) → IsSentBy (cooked_step New number before time).frame None (sent_with Right)
cooked_tells number before time = tells_by (cooked_step New number before time).frame None (ipv4_packet Out ipv4_bytes) acknowledgement udp_bytes Right cooked_spells ((0, inl (refl, (λ e. omega arith), refl)), refl) says_acknowledgement refl

last_tells : IsSentBy (raw_frame last_bytes) (Some worked_content) (sent_with Right)
last_tells = tells_by (raw_frame last_bytes) (Some worked_content) last_part acknowledgement udp_bytes Right last_spells ((0, inl (refl, (λ e. omega arith), refl)), refl) says_acknowledgement refl

right_stays : (before : List (Option Sent)) → IsDiscarded before (sent_with Right) → ⊥
right_stays before h = let x : Right ≡ Wrong = h.0 in cc

-- ---- copies

pub none_before : (p : Recorded) → IsCopy [] p → ⊥
none_before p copy = search rules

is_whole : (link : ℕ) (bytes : List ℕ) (p : Packet) → SpellsFrame link bytes p → p.fragment ≡ None → (q : Packet) → SpellsFrame link bytes q → q.fragment ≡ None
is_whole link bytes p s e q t = ap (λ (x : Packet). x.fragment) (packet_one link bytes q p t s) ∙ e

ethernet_history : IsHistory (ethernet_step 1000000000 ∷ [])
ethernet_history = (
  inl (is_whole 1 (two_tags ++ ipv4_bytes) (ipv4_packet Unknown ipv4_bytes) ethernet_spells refl, refl, refl),
  tt,
  inr (ipv4_packet Unknown ipv4_bytes, ethernet_spells, none_before (recorded_at 0 1000000000), refl),
  ethernet_tells 1000000000,
  right_stays [],
)

near_copy : IsCopy (recorded_at 0 1000000000 ∷ []) (recorded_at 1 1001000000)
near_copy = search rules

far_from : IsCopy (recorded_at 0 1000000000 ∷ []) (recorded_at 1 1001000001) → ⊥
far_from copy = search rules

no_copy_here : IsCopy (recorded_at 0 1000000000 ∷ []) (recorded_at 0 1001000000) → ⊥
no_copy_here copy = search rules

pub copy_history : IsHistory (cooked_step Copy 1 1000000000 1001000000 ∷ ethernet_step 1000000000 ∷ [])
copy_history = (inl (tt, refl, refl), ethernet_history, inr (ipv4_packet Out ipv4_bytes, cooked_spells, (near_copy, refl), refl), refl, (λ h. h))

pub later_history : IsHistory (cooked_step New 1 1000000000 1001000001 ∷ ethernet_step 1000000000 ∷ [])
later_history = (
  inl (is_whole 113 (cooked_head ++ ipv4_bytes) (ipv4_packet Out ipv4_bytes) cooked_spells refl, refl, refl),
  ethernet_history,
  inr (ipv4_packet Out ipv4_bytes, cooked_spells, far_from, refl),
  cooked_tells 1 1000000000 1001000001,
  right_stays (sent_with Right ∷ []),
)

pub here_history : IsHistory (cooked_step New 0 1000000000 1001000000 ∷ ethernet_step 1000000000 ∷ [])
here_history = (
  inl (is_whole 113 (cooked_head ++ ipv4_bytes) (ipv4_packet Out ipv4_bytes) cooked_spells refl, refl, refl),
  ethernet_history,
  inr (ipv4_packet Out ipv4_bytes, cooked_spells, no_copy_here, refl),
  cooked_tells 0 1000000000 1001000000,
  right_stays (sent_with Right ∷ []),
)

-- ---- what is held of the fragments

pub laid : (old : List (Option ℕ)) (bytes : List ℕ) → AreLaid old (length old) bytes (old ++ map (λ (b : ℕ). Some b) bytes)
laid old bytes =
    let size : length (old ++ map (λ (b : ℕ). Some b) bytes) ≡ length old + length bytes = length-append old (map (λ (b : ℕ). Some b) bytes) ∙ ap (λ n. length old + n) (length-map bytes (λ (b : ℕ). Some b)) in
    record {
      longer = omega (arith, size);
      reached = omega (arith, size);
      exact = inr size;
      there = λ i within. get_or-append-add old (map (λ (b : ℕ). Some b) bytes) i None ∙ get_or-map (λ (b : ℕ). Some b) bytes i 0 None within;
      before = λ k low. get_or_append_left old (map (λ (b : ℕ). Some b) bytes) None k low;
      behind = λ k high. get_or_past (old ++ map (λ (b : ℕ). Some b) bytes) k None (omega (arith, size, high)) ∙ sym (get_or_past old k None (omega (arith, high)));
    }

abbrev part_in : Packet → ℕ → Bool → Part
part_in p place more = record { protocol = p.protocol; place = place; more = more; content = p.content; may_overlap = true }

abbrev all_held : Held
all_held = record { cells = first_set.held.cells ++ map (λ b. Some b) last_part.content; ended = true; protocol = Some 17 }

first_added : Added nothing_held (part_in first_part 0 true) first_set.held
first_added = record { laid = laid [] first_part.content; kept = λ e. absurd (not_both false e refl); set = λ e. absurd (not_both true refl e); only = λ e. absurd (not_both false e refl); first = λ at. refl; other = λ away. absurd (away refl) }

last_added : Added first_set.held (part_in last_part 8 false) all_held
last_added = record { laid = laid first_set.held.cells last_part.content; kept = λ e. refl; set = λ e. refl; only = λ e. inr refl; first = λ at. absurd (omega (arith, at)); other = λ away. refl }

last_agrees : Agrees first_set.held (part_in last_part 8 false)
last_agrees = record {
  bytes = λ i b within e. absurd (no_byte _ b (get_or_past first_set.held.cells (8 + i) None (omega arith)) e);
  ends = (λ e. absurd (not_both false e refl), λ e last. omega arith);
  names = λ n at e. absurd (omega (arith, at));
}

abbrev first_arrival : Arrival
first_arrival = arrival_of (raw_frame first_bytes) 1 first_part (record { id = 7; place = 0; more = true })

abbrev last_arrival : Arrival
last_arrival = arrival_of (raw_frame last_bytes) 2 last_part (record { id = 7; place = 8; more = false })

-- ---- what waits under the key

pub at_key : (key : Key) (s : SetState) → set_at key ((key, s) ∷ []) ≡ Some s
at_key key s = ap (λ b. cond b (Some s) None) (same_itself key)

other_way : (key other : Key) → same_key key other ≡ false → same_key other key ≡ false
other_way key other e = elim (cases_Bool (same_key other key)) [
  | inl same ↦ absurd (not_both (same_key key other) (same_back other key same) e)
  | inr differs ↦ differs
]

pub at_other : (key other : Key) (s : SetState) → same_key key other ≡ false → set_at other ((key, s) ∷ []) ≡ None
at_other key other s e = ap (λ b. cond b (Some s) None) (other_way key other e)

nothing_goes : LetsGoOld worked_key worked_time [] [] []
nothing_goes = record {
  others = λ other e. refl;
  counted = refl;
  none = λ e. (refl, refl);
  long = λ s e. absurd (no_set s e);
  young = λ s e. absurd (no_set s e);
}

abbrev waits_first : Sets
waits_first = (worked_key, first_set) ∷ []

is_young : is_long worked_time worked_time ≡ false
is_young = refl

none_goes : LetsGoOld worked_key worked_time waits_first waits_first []
none_goes = record {
  others = λ other e. refl;
  counted = refl;
  none = λ e. absurd (no_set first_set (sym e ∙ at_key worked_key first_set));
  long = λ s e long. absurd (not_both (is_long worked_time worked_time) (ap (λ (x : SetState). is_long x.began worked_time) (same_set first_set s (sym (at_key worked_key first_set) ∙ e)) ∙ long) is_young);
  young = λ s e young. (e, refl);
}

-- ---- the first waits

some_arrival : (l : List Arrival) → (first_arrival ∷ l) ≡ [] → ⊥
some_arrival l e = cc

first_set_is : IsSetOf first_set (first_arrival ∷ [])
first_set_is = record {
  held = λ e. stands_more nothing_held (part_in first_part 0 true) first_set.held (nothing_agrees (part_in first_part 0 true) (omega arith)) first_added [] ((empty_set worked_time).held refl);
  frames = λ e. refl;
  extents = λ e x. (λ one. one, λ one. one);
  distinct = λ e two. elim two [ inl one ↦ one.1 | inr none ↦ none ];
  apart = λ e. absurd (not_both false e refl);
  nothing = λ e. absurd (not_both false e refl);
}

first_kept : IsKeptOf (Some first_set) (first_arrival ∷ [])
first_kept = (some_arrival [], refl, first_set_is)

not_all : (whole : Content) → Give (parts_of (first_arrival ∷ [])) whole → ⊥
not_all whole give = elim give.last [ inl e ↦ not_both true refl e | inr none ↦ none ]

first_ends : PutEnds None (Some first_set) 0 first_arrival Waits
first_ends = (
  λ arrivals e. subst (λ (l : List Arrival). IsKeptOf (Some first_set) (first_arrival ∷ l)) (sym e) first_kept,
  λ arrivals whole e give. not_all whole (subst (λ (l : List Arrival). Give (parts_of (first_arrival ∷ l)) whole) e give),
  refl,
)

pub not_full_waits : Waits ≡ Outcome.Full → ⊥
not_full_waits e = cc

first_takes : TakesPart worked_key first_arrival [] waits_first first_step.brought
first_takes = record {
  young = [];
  roomy = [];
  outcome = Waits;
  lets_go = nothing_goes;
  makes_room = inl (refl, refl, λ may. omega arith);
  others = λ other e. at_other worked_key other first_set e;
  counted = sym (ap room_under (at_key worked_key first_set));
  ends = subst (λ (o : Option SetState). PutEnds None o 0 first_arrival Waits) (sym (at_key worked_key first_set)) first_ends;
  tried = ((omega arith, omega arith), omega arith);
  not_full = not_full_waits;
  is = refl;
}

first_history : IsHistory (first_step ∷ [])
first_history = (
  inr (first_part, record { id = 7; place = 0; more = true }, (first_spells, refl), first_takes, refl),
  tt,
  inr (first_part, first_spells, none_before recorded_first, refl),
  refl,
  (λ h. h),
)

-- ---- the last gives the content

last_gives : (content : Content) → content ≡ worked_content → (arrivals : List Arrival) → IsKeptOf (Some first_set) arrivals → PutTogether (parts_of (last_arrival ∷ arrivals)) content
last_gives content e arrivals kept = (
  whole_given all_held (parts_of (last_arrival ∷ arrivals)) content (stands_more first_set.held (part_in last_part 8 false) all_held last_agrees last_added (parts_of arrivals) (kept.2.held refl)) refl (subst (IsHeld all_held) (sym e) (refl, refl)),
  λ two. elim two [ inl one ↦ not_both true refl one.0 | inr before ↦ kept.2.distinct refl before ],
)

not_full_whole : (content : Made) (frames : Vec ℕ Global) → Whole content frames ≡ Outcome.Full → ⊥
not_full_whole content frames e = cc

not_one : IsCopy (recorded_first ∷ []) (record { interface = first_of 0; time = worked_time; bytes = last_bytes }) → ⊥
not_one copy = search rules

module _ (content : Made) (frames : Vec ℕ Global) (e : put_together content ≡ worked_content) (f : frames.items ≡ 1 ∷ 2 ∷ []) where
  last_ends : PutEnds (Some first_set) None 0 last_arrival (Whole content frames)
  last_ends = (refl, last_gives (put_together content) e, f)

  last_takes : TakesPart worked_key last_arrival waits_first [] (last_step content frames).brought
  last_takes = record {
    young = waits_first;
    roomy = waits_first;
    outcome = Whole content frames;
    lets_go = none_goes;
    makes_room = inl (refl, refl, λ may. omega arith);
    counted = ap room_under (at_key worked_key first_set);
    others = λ other differs. sym (at_other worked_key other first_set differs);
    ends = subst (λ (o : Option SetState). PutEnds o None 0 last_arrival (Whole content frames)) (sym (at_key worked_key first_set)) last_ends;
    tried = ((omega arith, omega arith), omega arith);
    not_full = not_full_whole content frames;
    is = refl;
  }

  last_is : IsHistory (last_step content frames ∷ first_step ∷ [])
  last_is = (
    inr (last_part, record { id = 7; place = 8; more = false }, (last_spells, refl), last_takes, refl),
    first_history,
    inr (last_part, last_spells, not_one, refl),
    subst (λ (whole : Content). IsSentBy (raw_frame last_bytes) (Some whole) (sent_with Right)) (sym e) last_tells,
    right_stays (None ∷ []),
  )

pub last_history : (content : Made) (frames : Vec ℕ Global) → put_together content ≡ worked_content → frames.items ≡ 1 ∷ 2 ∷ [] → IsHistory (last_step content frames ∷ first_step ∷ [])
last_history = last_is

pub datagram_fate : (content : Made) (frames : Vec ℕ Global) (d : Given) → put_together content ≡ worked_content → IsDatagram (last_step content frames).frame last_part acknowledgement d
    → IsFateOf (last_step content frames).frame New (last_step content frames).brought.outcome false (Datagram d)
datagram_fate content frames d e is = (last_part, acknowledgement, last_spells, subst (λ (c : Content). SpellsUdp c.protocol c.bytes acknowledgement) (sym e) says_acknowledgement, is)

-- ---- of a packet of IPv6 the first fragment names the protocol

icmp_spells : SpellsFrame 229 last_of_icmp part_of_icmp
icmp_spells =
    spells 229 RawIpv6 last_of_icmp Unknown Ipv6 last_of_icmp (record { protocol = 58; fragment = Some last_named; content = part_of_icmp.content }) refl (omega arith, refl, (refl, refl)) (omega arith, refl) (omega arith, omega arith)
    (0, inr (refl, omega arith, refl, refl, refl)) refl refl

pub udp_fate : (content : Made) (frames : Vec ℕ Global) (d : Given) → put_together content ≡ worked_content → IsDatagram icmp_frame part_of_icmp acknowledgement d → IsFateOf icmp_frame New (Some (Whole content frames)) false (Datagram d)
udp_fate content frames d e is = (part_of_icmp, acknowledgement, icmp_spells, subst (λ (c : Content). SpellsUdp c.protocol c.bytes acknowledgement) (sym e) says_acknowledgement, is)

no_udp : (bytes : List ℕ) → HasUdp 58 udp_bytes bytes → ⊥
no_udp bytes ((zero, inl h), _) = let e = ap (λ (r : Reached). r.protocol) h.2 in absurd (omega (arith, e))
no_udp bytes ((zero, inr h), _) = absurd (omega (arith, h.0))
no_udp bytes ((suc n, h), _) = elim h.0.2 [ inl e ↦ not_both false e refl | inr e ↦ absurd (omega (arith, e.0)) ]

pub icmp_fate : (content : Made) (frames : Vec ℕ Global) → put_together content ≡ icmp_content → IsFateOf icmp_frame New (Some (Whole content frames)) false (Left (Frame Protocol))
icmp_fate content frames e = inr (refl, (part_of_icmp, icmp_spells, subst (λ (c : Content). HoldsUdp NotUdp c.protocol c.bytes) (sym e) (no_udp, not_hidden_udp 58 udp_bytes (record { protocol = 58; fragment = None; content = udp_bytes }) (0, inl (refl, (λ e. omega arith), refl)) refl)))

-- ---- discarded

raw_spells : SpellsFrame 228 ipv4_bytes (ipv4_packet Unknown ipv4_bytes)
raw_spells = spells_ipv4 228 RawIpv4 ipv4_bytes Unknown ipv4_bytes refl (omega arith, refl, (refl, refl)) (omega arith, refl, omega arith, omega arith) (omega arith, omega arith) refl refl

spoilt_spells : SpellsFrame 228 spoilt_bytes spoilt_packet
spoilt_spells = spells_ipv4 228 RawIpv4 spoilt_bytes Unknown spoilt_bytes refl (omega arith, refl, (refl, refl)) (omega arith, refl, omega arith, omega arith) (omega arith, omega arith) refl refl

left_spells : SpellsFrame 228 left_bytes left_packet
left_spells = spells_ipv4 228 RawIpv4 left_bytes Unknown left_bytes refl (omega arith, refl, (refl, refl)) (omega arith, refl, omega arith, omega arith) (omega arith, omega arith) refl refl

says_spoilt : SpellsUdp 17 spoilt_packet.content spoilt_acknowledgement
says_spoilt = (spoilt_packet.content, ((0, inl (refl, (λ e. omega arith), refl)), refl), omega arith, (omega arith, omega arith), (λ e. omega arith), (λ e. omega arith), refl)

says_left : SpellsUdp 17 udp_left acknowledgement
says_left = (udp_left, ((0, inl (refl, (λ e. omega arith), refl)), refl), omega arith, (omega arith, omega arith), (λ e. omega arith), (λ e. omega arith), refl)

raw_tells : IsSentBy (raw_frame ipv4_bytes) None (sent_with Right)
raw_tells = tells_by (raw_frame ipv4_bytes) None (ipv4_packet Unknown ipv4_bytes) acknowledgement udp_bytes Right raw_spells ((0, inl (refl, (λ e. omega arith), refl)), refl) says_acknowledgement refl

spoilt_tells : IsSentBy (raw_frame spoilt_bytes) None (sent_with Wrong)
spoilt_tells = tells_by (raw_frame spoilt_bytes) None spoilt_packet spoilt_acknowledgement spoilt_packet.content Wrong spoilt_spells ((0, inl (refl, (λ e. omega arith), refl)), refl) says_spoilt refl

left_tells : IsSentBy (raw_frame left_bytes) None (sent_with Partial)
left_tells = tells_by (raw_frame left_bytes) None left_packet acknowledgement udp_left Partial left_spells ((0, inl (refl, (λ e. omega arith), refl)), refl) says_left refl

left_stays : (before : List (Option Sent)) → IsDiscarded before (sent_with Partial) → ⊥
left_stays before h = let x : Partial ≡ Wrong = h.0 in cc

no_copy_of_right : IsCopy (recorded_raw ipv4_bytes ∷ []) (recorded_raw spoilt_bytes) → ⊥
no_copy_of_right copy = search rules

no_copy_of_left : IsCopy (recorded_raw left_bytes ∷ []) (recorded_raw ipv4_bytes) → ⊥
no_copy_of_left copy = search rules

no_copy_of_both : IsCopy (recorded_raw ipv4_bytes ∷ recorded_raw left_bytes ∷ []) (recorded_raw spoilt_bytes) → ⊥
no_copy_of_both copy = search rules

right_history : IsHistory (raw_step ipv4_bytes Right false [] ∷ [])
right_history = (
  inl (is_whole 228 ipv4_bytes (ipv4_packet Unknown ipv4_bytes) raw_spells refl, refl, refl),
  tt,
  inr (ipv4_packet Unknown ipv4_bytes, raw_spells, none_before (recorded_raw ipv4_bytes), refl),
  raw_tells,
  right_stays [],
)

pub discarded_history : IsHistory (raw_step spoilt_bytes Wrong true (recorded_raw ipv4_bytes ∷ []) ∷ raw_step ipv4_bytes Right false [] ∷ [])
discarded_history = (
  inl (is_whole 228 spoilt_bytes spoilt_packet spoilt_spells refl, refl, refl),
  right_history,
  inr (spoilt_packet, spoilt_spells, no_copy_of_right, refl),
  spoilt_tells,
  (refl, inl refl, (λ h. elim h [ inl e ↦ (let x : Right ≡ Partial = ap checksum_told e in cc) | inr b ↦ b ])),
)

pub discarded_fate : (d : Given) → IsDatagram (raw_frame spoilt_bytes) spoilt_packet spoilt_acknowledgement d → IsFateOf (raw_frame spoilt_bytes) New None true (Discarded d)
discarded_fate d is = (spoilt_packet, spoilt_acknowledgement, spoilt_spells, says_spoilt, is)

pub alone_history : IsHistory (raw_step spoilt_bytes Wrong false [] ∷ [])
alone_history = (
  inl (is_whole 228 spoilt_bytes spoilt_packet spoilt_spells refl, refl, refl),
  tt,
  inr (spoilt_packet, spoilt_spells, none_before (recorded_raw spoilt_bytes), refl),
  spoilt_tells,
  (λ h. h.1),
)

left_history : IsHistory (raw_step left_bytes Partial false [] ∷ [])
left_history = (
  inl (is_whole 228 left_bytes left_packet left_spells refl, refl, refl),
  tt,
  inr (left_packet, left_spells, none_before (recorded_raw left_bytes), refl),
  left_tells,
  left_stays [],
)

pub card_history : IsHistory (raw_step spoilt_bytes Wrong false (recorded_raw ipv4_bytes ∷ recorded_raw left_bytes ∷ []) ∷ raw_step ipv4_bytes Right false (recorded_raw left_bytes ∷ []) ∷ raw_step left_bytes Partial false [] ∷ [])
card_history = (
  inl (is_whole 228 spoilt_bytes spoilt_packet spoilt_spells refl, refl, refl),
  (
    inl (is_whole 228 ipv4_bytes (ipv4_packet Unknown ipv4_bytes) raw_spells refl, refl, refl),
    left_history,
    inr (ipv4_packet Unknown ipv4_bytes, raw_spells, no_copy_of_left, refl),
    raw_tells,
    right_stays (sent_with Partial ∷ []),
  ),
  inr (spoilt_packet, spoilt_spells, no_copy_of_both, refl),
  spoilt_tells,
  (λ h. h.2 (inr (inl refl))),
)
