-- What is noticed of the worked recording.
use Rattle.std.proofs.Common.{◌≡◌, ◌+◌, ◌↔◌, ◌∷◌, ℕ, true, false, List, [], length, get_or, codes, ◌<◌, inl, Some, None, Vec, Global, refl, sym, ap, subst, arith, rules}
use Rattle.std.proofs.lemmas.Bool.{false≢true}
use Rattle.net_udp.specs.Fragments.{content_of as put_together}
use Rattle.net_udp.specs.Frames.{HasHeader, IsBetween, Reached, SpellsFrame, SpellsLink, SpellsUdp, acknowledgement, at, held_of, host, is_opened, is_wrapping, place, source_of, target_of, udp_bytes}
use Rattle.net_udp.specs.Frames.Extension.{leads_on}
use Rattle.net_udp.specs.Frames.Ip.{part_of}
use Rattle.net_udp.specs.declared.frames.link.Network.TheVariants.{Ipv4}
use Rattle.net_udp.specs.Fragments.Whole.{Content}
use Rattle.net_udp.specs.Recording.{EventState, IsDatagram, Step, first_bytes, last_bytes, last_part, sent_with, worked_content}
use Rattle.net_udp.specs.declared.fragments.content.Content.{Content as Made}
use Rattle.net_udp.specs.declared.fragments.outcome.Outcome.TheVariants.{Empty as Bare, Waits as Held, Whole}
use Rattle.net_udp.specs.declared.frames.checksum.Checksum.TheVariants.{Right}
use Rattle.net_udp.specs.declared.frames.link.LinkType.TheVariants.{RawIpv4}
use Rattle.net_udp.specs.declared.frames.packet.Direction.TheVariants.{Unknown}
use Rattle.net_udp.specs.declared.recording.fate.Datagram.{Datagram as Given}
use Rattle.net_udp.specs.declared.recording.fate.Fate.TheVariants.{Datagram, Left, Waits}
use Rattle.net_udp.specs.declared.frames.fault.FrameFault.{FrameFault}
use Rattle.net_udp.specs.declared.frames.fault.FrameFault.TheVariants as frame
use Rattle.net_udp.specs.declared.recording.fate.LeftOut.TheVariants.{Copy, Empty, Frame}
use Rattle.net_udp.specs.declared.recording.likeness.Likeness.TheVariants as likeness
use Rattle.net_udp.proofs.FramesLemmas.Tunnels.{plainly, spells_ipv4}
use Rattle.net_udp.proofs.FramesLemmas.UnreadOnce.{read_has_none}
use Rattle.net_udp.proofs.RecordingLemmas.Examples.{last_spells}
use Rattle.tftp_packet.specs.{Message, Spells}
use Rattle.tftp_packet.specs.Spelling.{octet_read, side_opcode}
use Rattle.tftp_packet.specs.declared.kinds.Side.{Side}
use Rattle.tftp_packet.specs.declared.kinds.Side.TheVariants.{Get, Put}
use Rattle.audit_flows.specs.Transfers.{ack_of, client, read_of}
use Rattle.audit_flows.specs.{Place}
use Rattle.audit_recording.specs.Audit.{IsOfEvent}
use Rattle.audit_recording.specs.Audit.Passed.{IsRequest, end_of}
use Rattle.audit_recording.specs.Blame.Frames.{framed_after}
use Rattle.audit_recording.specs.Losses.Noted.Event.{Asks, Finds, Loses, Waits as Awaits}
use Rattle.audit_recording.specs.Endings.Worked.{asked_first}
use Rattle.audit_recording.specs.Session.Beside.Mark.{Begins, Joins}
use Rattle.audit_recording.specs.Session.Noted.{Noticed, finding, nothing_noticed}
use Rattle.audit_recording.specs.Session.Recording.{IsNoticedOf, asking, marking, passing_at, setting_aside, stray_in}
use Rattle.audit_recording.specs.Session.Worked.{ack_carried, at_second, frame_at, request, request_bytes, request_carried, request_packet, request_udp, step_of, told_noticed, told_steps, unread_at, worked_noticed, worked_steps}

-- ---- what the frames are

-- what a packet of UDP over IPv4 carries
abbrev upper_of : List ℕ → Reached
upper_of bytes = record { protocol = at bytes 9; fragment = part_of bytes; content = held_of Ipv4 bytes }

between : (bytes : List ℕ) → SpellsLink RawIpv4 bytes (record { direction = Unknown; network = Some Ipv4; content = bytes }) → HasHeader Ipv4 bytes → at bytes 9 ≡ 17
    → leads_on (upper_of bytes) ≡ false → is_opened (upper_of bytes) ≡ false → IsBetween 228 bytes (source_of Ipv4 bytes) (target_of Ipv4 bytes)
between bytes linked header is plain closed = record {
  linked = record { direction = Unknown; network = Some Ipv4; content = bytes };
  network = Ipv4;
  carries = (RawIpv4, refl, plainly RawIpv4 bytes (record { direction = Unknown; network = Some Ipv4; content = bytes }) Ipv4 (upper_of bytes) linked refl (inl (ap is_wrapping is, refl)) closed);
  of_ip = refl;
  tells = (header, (upper_of bytes, inl (ap is_wrapping is, refl), plain));
  from = refl;
  to = refl;
}

request_spells : SpellsFrame 228 request_bytes request_packet
request_spells = spells_ipv4 228 RawIpv4 request_bytes Unknown request_bytes refl (omega arith, refl, (refl, refl)) (omega arith, refl, omega arith, omega arith) (omega arith, omega arith) refl refl

says_request : SpellsUdp 17 request_udp request
says_request = (request_udp, ((0, inl (refl, (λ e. omega arith), refl)), refl), omega arith, (omega arith, omega arith), (λ e. omega arith), (λ e. omega arith), refl)

says_acknowledgement : SpellsUdp 17 udp_bytes acknowledgement
says_acknowledgement = (udp_bytes, ((0, inl (refl, (λ e. omega arith), refl)), refl), omega arith, (omega arith, omega arith), (λ e. omega arith), (λ e. omega arith), refl)

-- ---- what is a request

spelled : Spells (read_of (97 ∷ [])) (Message.Request (octet_read (97 ∷ [])))
spelled = (
  search rules,
  record {
    mode_text = codes "octet";
    pairs = [];
    bytes = refl;
    strung = search rules;
    named = tt;
    apart = tt;
    mode = refl;
    options = refl;
    short = λ some. absurd (some refl);
  },
)

not_4 : (side : Side) → 4 ≡ side_opcode side → ⊥
not_4 Get is = omega (arith, is)
not_4 Put is = omega (arith, is)

no_request : IsRequest (ack_of 1) → ⊥
no_request (r, (bytes, spells)) = not_4 r.side (ap (λ (l : List ℕ). get_or l 1 0) spells.bytes)

-- ---- frame by frame

abbrev event_of : ℕ → Step → EventState
event_of n step = record { frame = record { number = n; parts = step.frame; room = 0 }; likeness = step.likeness; brought = step.brought; sent = step.sent; is_discarded = step.is_discarded }

is_event : (n : ℕ) (step : Step) (before : List Step) → n ≡ length before + 1 → IsOfEvent step before (event_of n step)
is_event n step before is = record { number = is; frame = refl; likeness = refl; brought = refl; sent = refl; is_discarded = refl }

module _ (content : Made) (frames : Vec ℕ Global) (asked acked : Given) (is : put_together content ≡ worked_content) (of : frames.items ≡ 1 ∷ 3 ∷ [])
    (asks : IsDatagram (frame_at (at_second 2) request_bytes) request_packet request asked) (acks : IsDatagram (frame_at (at_second 3) last_bytes) last_part acknowledgement acked) where
  abbrev first : Step
  first = step_of (frame_at (at_second 1) first_bytes) (Some Held) None

  abbrev second : Step
  second = step_of (frame_at (at_second 2) request_bytes) None (sent_with Right)

  abbrev third : Step
  third = step_of (frame_at (at_second 3) last_bytes) (Some (Whole content frames)) (sent_with Right)

  abbrev fourth : Step
  fourth = step_of (frame_at None last_bytes) (Some Bare) None

  abbrev waited : Noticed
  waited = record nothing_noticed { last = 1; events = Awaits (unread_at 1 1000000000) ∷ [] }

  first_noticed : IsNoticedOf [] (first ∷ []) [] waited
  first_noticed = (
    [],
    nothing_noticed,
    event_of 1 first,
    Waits,
    (refl, refl),
    is_event 1 first [] refl,
    refl,
    (refl, (Some (host 7, host 1), between first_bytes (omega arith, refl, (refl, refl)) (omega arith, refl, omega arith, omega arith) refl refl refl, refl)),
  )

  abbrev has_asked : Noticed
  has_asked = record {
    last = 2;
    events = Asks client.address 2 ∷ Awaits (unread_at 1 1000000000) ∷ [];
    gone = [];
    times = 2000000000 ∷ [];
    copies = [];
    other_links = [];
    backwards = [];
    strays = [];
    hidden = [];
    beside = Joins 0 2000000000 ∷ Begins asked_first 2000000000 ∷ [];
  }

  asked_noticed : IsNoticedOf [] (second ∷ first ∷ []) (request_carried ∷ []) has_asked
  asked_noticed = (
    [],
    waited,
    event_of 2 second,
    Datagram asked,
    first_noticed,
    is_event 2 second (first ∷ []) refl,
    (request_packet, request, request_spells, says_request, asks),
    (
      request_carried,
      record {
        frame = refl;
        time = refl;
        is_doubtful = refl;
        has_error = refl;
        checksum = refl;
        taken = record {
          time = refl;
          source = sym (λ i. end_of (asks.source i) (asks.source_port i));
          target = sym (λ i. end_of (asks.target i) (asks.target_port i));
          payload = sym asks.payload;
          is_spelled = subst (λ (l : List ℕ). (true ≡ true) ↔ IsRequest l) (sym asks.payload) (λ e. (octet_read (97 ∷ []), spelled), λ r. refl);
        };
      },
      refl,
      refl,
    ),
  )

  abbrev has_acked : Noticed
  has_acked = record {
    last = 2;
    events = Finds 3 0 ∷ Finds 1 0 ∷ Asks client.address 2 ∷ Awaits (unread_at 1 1000000000) ∷ [];
    gone = [];
    times = 3000000000 ∷ 2000000000 ∷ [];
    copies = [];
    other_links = [];
    backwards = [];
    strays = [];
    hidden = [];
    beside = Joins 0 3000000000 ∷ Joins 0 2000000000 ∷ Begins asked_first 2000000000 ∷ [];
  }

  acked_noticed : IsNoticedOf [] (third ∷ second ∷ first ∷ []) (ack_carried ∷ request_carried ∷ []) has_acked
  acked_noticed = (
    request_carried ∷ [],
    has_asked,
    event_of 3 third,
    Datagram acked,
    asked_noticed,
    is_event 3 third (second ∷ first ∷ []) refl,
    (last_part, acknowledgement, last_spells, subst (λ (c : Content). SpellsUdp c.protocol c.bytes acknowledgement) (sym is) says_acknowledgement, acks),
    (
      ack_carried,
      record {
        frame = refl;
        time = refl;
        is_doubtful = refl;
        has_error = refl;
        checksum = refl;
        taken = record {
          time = refl;
          source = sym (λ i. end_of (acks.source i) (acks.source_port i));
          target = sym (λ i. end_of (acks.target i) (acks.target_port i));
          payload = sym acks.payload;
          is_spelled = subst (λ (l : List ℕ). (false ≡ true) ↔ IsRequest l) (sym acks.payload) (λ no. absurd (false≢true no), λ r. absurd (no_request r));
        };
      },
      refl,
      sym (ap (λ (l : List ℕ). setting_aside at (stray_in ack_carried) (asking at 3 (marking at ack_carried (passing_at ack_carried (finding 0 l has_asked))))) of),
    ),
  ) where
    at : Place
    at = (framed_after [] (request_carried ∷ []) ack_carried).placed.place

  pub worked_is : IsNoticedOf [] (worked_steps content frames) (ack_carried ∷ request_carried ∷ []) worked_noticed
  worked_is = (
    ack_carried ∷ request_carried ∷ [],
    has_acked,
    event_of 4 fourth,
    Left Empty,
    acked_noticed,
    is_event 4 fourth (third ∷ second ∷ first ∷ []) refl,
    refl,
    (refl, (Some (host 7, host 1), None, between last_bytes (omega arith, refl, (refl, refl)) (omega arith, refl, omega arith, omega arith) refl refl refl, λ u has. read_has_none 228 last_bytes u last_part has last_spells, refl)),
  )

-- ---- three frames of which something is told

none_before_link : (f : FrameFault) → place f < 1 → ⊥
none_before_link frame.Link low = omega arith
none_before_link frame.Frame low = omega arith
none_before_link frame.Network low = omega arith
none_before_link frame.Header low = omega arith
none_before_link frame.Protocol low = omega arith
none_before_link frame.Length low = omega arith
none_before_link frame.Cut low = omega arith
none_before_link frame.Extension low = omega arith

abbrev lost_step : Step
lost_step = step_of (frame_at (at_second 1) last_bytes) (Some Bare) None

abbrev copy_step : Step
copy_step = record (step_of (frame_at None last_bytes) None None) { likeness = likeness.Copy }

abbrev other_step : Step
other_step = step_of (record (frame_at None []) { link = 9999 }) None None

abbrev lost_one : Noticed
lost_one = record nothing_noticed { last = 1; events = Loses (unread_at 1 1000000000) ∷ [] }

one_lost : IsNoticedOf [] (lost_step ∷ []) [] lost_one
one_lost = (
  [],
  nothing_noticed,
  event_of 1 lost_step,
  Left Empty,
  (refl, refl),
  is_event 1 lost_step [] refl,
  refl,
  (refl, (Some (host 7, host 1), None, between last_bytes (omega arith, refl, (refl, refl)) (omega arith, refl, omega arith, omega arith) refl refl refl, λ u has. read_has_none 228 last_bytes u last_part has last_spells, refl)),
)

one_copied : IsNoticedOf [] (copy_step ∷ lost_step ∷ []) [] (record lost_one { copies = 2 ∷ [] })
one_copied = ([], lost_one, event_of 2 copy_step, Left Copy, one_lost, is_event 2 copy_step (lost_step ∷ []) refl, refl, (refl, refl))

pub told_is : IsNoticedOf [] told_steps [] told_noticed
told_is = (
  [],
  record lost_one { copies = 2 ∷ [] },
  event_of 3 other_step,
  Left (Frame frame.Link),
  one_copied,
  is_event 3 other_step (copy_step ∷ lost_step ∷ []) refl,
  inl (refl, λ earlier low holds. none_before_link earlier low),
  (refl, refl),
)
