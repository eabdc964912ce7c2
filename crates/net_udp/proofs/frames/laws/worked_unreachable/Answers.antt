use Rattle.std.proofs.Common.{inl, refl, arith, ℕ, List, drop, Some, None}
use Rattle.net_udp.specs.Frames.{Linked, held_of, ipv4_bytes}
use Rattle.net_udp.specs.Frames.Told.{echo_bytes, unreachable_bytes, unreachable_cut, unreachable_ipv6_bytes}
use Rattle.net_udp.specs.Frames.Unreachable.{CarriesWhole}
use Rattle.net_udp.specs.declared.frames.link.LinkType.TheVariants.{RawIpv6}
use Rattle.net_udp.specs.declared.frames.link.Network.TheVariants.{Ipv4, Ipv6}
use Rattle.net_udp.specs.declared.frames.packet.Direction.TheVariants.{Unknown}
use Rattle.net_udp.proofs.FramesLemmas.Tunnels.{plainly}
use Rattle.net_udp.proofs.FramesLemmas.Unreached.{another_protocol, another_type, carries_ipv4, no_quote, raw_ipv4, told_within, too_short}
use Rattle.net_udp.proofs.frames.laws.worked_unreachable.Goals as goal

abbrev raw : List ℕ → Linked
raw bytes = record { direction = Unknown; network = Some Ipv4; content = bytes }

abbrev message : List ℕ
message = held_of Ipv4 unreachable_bytes

abbrev cut_message : List ℕ
cut_message = held_of Ipv4 unreachable_cut

pub returns-clause-port : goal.returns-clause-port
returns-clause-port c = record {
  linked = raw unreachable_bytes;
  network = Ipv4;
  carries = raw_ipv4 unreachable_bytes refl refl (omega arith, refl, (refl, refl));
  of_ip = refl;
  tells = record {
    message = message;
    carries = carries_ipv4 unreachable_bytes (omega arith, refl, omega arith, omega arith) refl refl;
    header = omega arith;
    kind = refl;
    code = refl;
    from = refl;
    quotes = record {
      udp = held_of Ipv4 (drop 8 message);
      carries = carries_ipv4 (drop 8 message) (omega arith, refl, omega arith, omega arith) refl refl;
      ports = omega arith;
      source = refl;
      source_port = refl;
      target = refl;
      target_port = refl;
    };
  };
}

abbrev message_of_ipv6 : List ℕ
message_of_ipv6 = held_of Ipv6 unreachable_ipv6_bytes

abbrev carries_ipv6 : CarriesWhole Ipv6 unreachable_ipv6_bytes 58 message_of_ipv6
carries_ipv6 = record {
  header = (omega arith, refl);
  upper = record { protocol = 58; fragment = None; content = message_of_ipv6 };
  reaches = (0, inl (refl, (λ e. omega arith), refl));
  whole = refl;
  is = refl;
  carried = refl;
}

abbrev quotes_ipv6 : CarriesWhole Ipv6 (drop 8 message_of_ipv6) 17 (held_of Ipv6 (drop 8 message_of_ipv6))
quotes_ipv6 = record {
  header = (omega arith, refl);
  upper = record { protocol = 17; fragment = None; content = held_of Ipv6 (drop 8 message_of_ipv6) };
  reaches = (0, inl (refl, (λ e. omega arith), refl));
  whole = refl;
  is = refl;
  carried = refl;
}

pub returns-clause-port_ipv6 : goal.returns-clause-port_ipv6
returns-clause-port_ipv6 c = record {
  linked = record { direction = Unknown; network = Some Ipv6; content = unreachable_ipv6_bytes };
  network = Ipv6;
  carries = (RawIpv6, refl, plainly RawIpv6 unreachable_ipv6_bytes (record { direction = Unknown; network = Some Ipv6; content = unreachable_ipv6_bytes }) Ipv6 carries_ipv6.upper (omega arith, refl, (refl, refl)) refl carries_ipv6.reaches refl);
  of_ip = refl;
  tells = record {
    message = message_of_ipv6;
    carries = carries_ipv6;
    header = omega arith;
    kind = refl;
    code = refl;
    from = refl;
    quotes = record {
      udp = held_of Ipv6 (drop 8 message_of_ipv6);
      carries = quotes_ipv6;
      ports = omega arith;
      source = refl;
      source_port = refl;
      target = refl;
      target_port = refl;
    };
  };
}

pub returns-clause-echo : goal.returns-clause-echo
returns-clause-echo c u t =
    another_type Ipv4 echo_bytes (held_of Ipv4 echo_bytes) (carries_ipv4 echo_bytes (omega arith, refl, omega arith, omega arith) refl refl) u
    (told_within 228 echo_bytes (raw echo_bytes) Ipv4 (raw_ipv4 echo_bytes refl refl (omega arith, refl, (refl, refl))) refl u t) (λ e. omega (arith, e))

pub returns-clause-cut : goal.returns-clause-cut
returns-clause-cut c u t =
    no_quote Ipv4 unreachable_cut cut_message (carries_ipv4 unreachable_cut (omega arith, refl, omega arith, omega arith) refl refl) u
    (told_within 228 unreachable_cut (raw unreachable_cut) Ipv4 (raw_ipv4 unreachable_cut refl refl (omega arith, refl, (refl, refl))) refl u t)
    (too_short Ipv4 (drop 8 cut_message) (held_of Ipv4 (drop 8 cut_message)) (carries_ipv4 (drop 8 cut_message) (omega arith, refl, omega arith, omega arith) refl refl) (omega arith))

pub returns-clause-datagram : goal.returns-clause-datagram
returns-clause-datagram c u t =
    let tells = told_within 228 ipv4_bytes (raw ipv4_bytes) Ipv4 (raw_ipv4 ipv4_bytes refl refl (omega arith, refl, (refl, refl))) refl u t in
    another_protocol Ipv4 ipv4_bytes 1 (record { protocol = 17; fragment = None; content = held_of Ipv4 ipv4_bytes }) (inl (refl, refl)) (λ e. omega (arith, e)) tells.message tells.carries
