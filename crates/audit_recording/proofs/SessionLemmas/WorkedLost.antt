-- What is noticed of a packet in two fragments that overlap.
use Rattle.std.proofs.Common.{◌≡◌, ◌+◌, ◌∷◌, ℕ, List, [], length, inr, None, Some, Vec, Global, refl, sym, ap, arith}
use Rattle.net_udp.specs.Frames.{IsBetween, Reached, SpellsFrame}
use Rattle.net_udp.specs.declared.frames.link.LinkType.TheVariants.{RawIpv6}
use Rattle.net_udp.specs.declared.frames.link.Network.TheVariants.{Ipv6}
use Rattle.net_udp.specs.declared.frames.packet.Direction.TheVariants.{Unknown}
use Rattle.net_udp.specs.Recording.{EventState, Step, across_bytes, across_part, across_step, begun_bytes, begun_named, begun_part, begun_step, data_key, last_named}
use Rattle.net_udp.specs.declared.recording.fate.Fate.TheVariants.{Left, Waits}
use Rattle.net_udp.specs.declared.recording.fate.LeftOut.TheVariants.{Apart}
use Rattle.net_udp.proofs.FramesLemmas.Tunnels.{plainly, spells}
use Rattle.net_udp.proofs.FramesLemmas.UnreadOnce.{read_has_none}
use Rattle.audit_recording.specs.Audit.{IsOfEvent}
use Rattle.audit_recording.specs.Losses.Noted.Event.{Loses}
use Rattle.audit_recording.specs.Session.Noted.{giving_up, nothing_noticed, noting, others}
use Rattle.audit_recording.specs.Session.Recording.{IsNoticedOf}
use Rattle.audit_recording.specs.Session.Worked.{begun_noticed, torn_at, torn_noticed, torn_steps}

abbrev event_of : ℕ → Step → EventState
event_of n step = record { frame = record { number = n; parts = step.frame; room = 0 }; likeness = step.likeness; brought = step.brought; sent = step.sent; is_discarded = step.is_discarded }

is_event : (n : ℕ) (step : Step) (before : List Step) → n ≡ length before + 1 → IsOfEvent step before (event_of n step)
is_event n step before is = record { number = is; frame = refl; likeness = refl; brought = refl; sent = refl; is_discarded = refl }

-- ---- between which hosts

abbrev begun_reached : Reached
begun_reached = record { protocol = 17; fragment = Some begun_named; content = begun_part.content }

abbrev across_reached : Reached
across_reached = record { protocol = 17; fragment = Some last_named; content = across_part.content }

begun_between : IsBetween 229 begun_bytes data_key.source data_key.target
begun_between = record {
  linked = record { direction = Unknown; network = Some Ipv6; content = begun_bytes };
  network = Ipv6;
  carries = (RawIpv6, refl, plainly RawIpv6 begun_bytes (record { direction = Unknown; network = Some Ipv6; content = begun_bytes }) Ipv6 begun_reached (omega arith, refl, (refl, refl)) refl (0, inr (refl, omega arith, refl, refl, refl)) refl);
  of_ip = refl;
  tells = ((omega arith, refl), (begun_reached, (0, inr (refl, omega arith, refl, refl, refl)), refl));
  from = refl;
  to = refl;
}

across_between : IsBetween 229 across_bytes data_key.source data_key.target
across_between = record {
  linked = record { direction = Unknown; network = Some Ipv6; content = across_bytes };
  network = Ipv6;
  carries = (RawIpv6, refl, plainly RawIpv6 across_bytes (record { direction = Unknown; network = Some Ipv6; content = across_bytes }) Ipv6 across_reached (omega arith, refl, (refl, refl)) refl (0, inr (refl, omega arith, refl, refl, refl)) refl);
  of_ip = refl;
  tells = ((omega arith, refl), (across_reached, (0, inr (refl, omega arith, refl, refl, refl)), refl));
  from = refl;
  to = refl;
}

-- ---- no header that is not read

across_spells : SpellsFrame 229 across_bytes across_part
across_spells = spells 229 RawIpv6 across_bytes Unknown Ipv6 across_bytes across_reached refl (omega arith, refl, (refl, refl)) (omega arith, refl) (omega arith, omega arith) (0, inr (refl, omega arith, refl, refl, refl)) refl refl

-- ---- frame by frame

pub begun_is : IsNoticedOf [] (begun_step ∷ []) [] begun_noticed
begun_is = (
  [],
  nothing_noticed,
  event_of 1 begun_step,
  Waits,
  (refl, refl),
  is_event 1 begun_step [] refl,
  refl,
  (refl, (Some (data_key.source, data_key.target), begun_between, refl)),
)

pub torn_is : (frames : Vec ℕ Global) → frames.items ≡ 1 ∷ [] → IsNoticedOf [] (torn_steps frames) [] torn_noticed
torn_is frames of = (
  [],
  begun_noticed,
  event_of 2 (across_step frames),
  Left Apart,
  begun_is,
  is_event 2 (across_step frames) (begun_step ∷ []) refl,
  refl,
  (
    refl,
    (
      Some (data_key.source, data_key.target),
      None,
      across_between,
      λ u has. read_has_none 229 across_bytes u across_part has across_spells,
      sym (ap (λ (l : List ℕ). noting (Loses (torn_at 2)) 2 (giving_up (others 2 l) begun_noticed)) of),
    ),
  ),
)
