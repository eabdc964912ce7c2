-- Which of the options that tell how blocks are sent the datagrams of a transfer name. Lists have the newest first.
use Rattle.std.specs.Prelude.{ℕ, ◌==◌, ◌&&◌, ◌||◌, not, Bool, List, codes}
use Rattle.std.specs.List.{list_any, slice_split}
use Rattle.std.specs.Str.{str_eq_ignore_ascii_case}
use Rattle.tftp_packet.specs.{opcode_of}
use Rattle.audit_flows.specs.Lines.{Placed}
use Rattle.audit_flows.specs.{Transfer}
use Rattle.audit_flows.specs.Transfers.{is_about}
use Rattle.audit_recording.specs.declared.blame.named.Named.{Named}

-- It is no block, and one of its strings is this name, in letters of any case (RFC 2347).
abbrev pub names_option : List ℕ → List ℕ → Bool
names_option name payload = not (opcode_of payload == 3) && list_any (λ word. str_eq_ignore_ascii_case word name) (slice_split (λ b. b == 0) payload)

abbrev pub with_named : List ℕ → Named → Named
with_named payload named = record {
  windows = names_option (codes "windowsize") payload || named.windows;
  sizes = names_option (codes "blksize") payload || named.sizes;
}

-- some datagram about the transfer names the option
abbrev pub is_named : List ℕ → Transfer → List Placed → Bool
is_named name x placed = list_any (λ p. is_about x.number p && names_option name p.datagram.payload) placed

-- those that are named
abbrev pub named_in : Transfer → List Placed → Named
named_in x placed = record { windows = is_named (codes "windowsize") x placed; sizes = is_named (codes "blksize") x placed }
