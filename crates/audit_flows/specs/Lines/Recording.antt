-- A recording: whole UDP datagrams, the newest first, and what is asked of one.
use Rattle.std.specs.Prelude.{ℕ, ◌+◌, ◌==◌, ◌&&◌, ◌||◌, not, Bool, List, [], ◌∷◌, codes, length, nat_eq, nat_le, take, drop, position, Option, Some, None, if◌then◌else◌}
use Rattle.std.specs.List.{list_any, slice_split, starts_with}
use Rattle.std.specs.Str.{bytes_eq, str_eq_ignore_ascii_case}
use Rattle.std.specs.declared.cmp.Ordering.{Ordering}
use Rattle.std.specs.Ordering.{nat_cmp, on, then_cmp}
use Rattle.std.specs.Cmp.Lexicographic.{slice_cmp}
use Rattle.tftp_packet.specs.{opcode_of}
use Rattle.audit_flows.specs.declared.lines.endpoint.Address.{Address}
use Rattle.audit_flows.specs.declared.lines.endpoint.Address.TheVariants.{V4, V6}
use Rattle.audit_flows.specs.declared.lines.endpoint.Endpoint.{Endpoint}

-- A datagram: its time in nanoseconds, the endpoints it went from and to, its payload, and whether this spells a request
-- from its first byte to its last (RFC 1350, section 5).
pub record Recorded : Type 0 where
  pub time : ℕ
  pub source : Endpoint
  pub target : Endpoint
  pub payload : List ℕ
  pub is_spelled : Bool

-- ---- endpoints

abbrev pub version_of : Address → ℕ
version_of (V4 bytes) = 4
version_of (V6 bytes) = 6

abbrev pub bytes_of : Address → List ℕ
bytes_of (V4 bytes) = bytes
bytes_of (V6 bytes) = bytes

abbrev pub same_address : Address → Address → Bool
same_address one other = bytes_eq (bytes_of one) (bytes_of other) && (version_of one == version_of other)

abbrev pub same_endpoint : Endpoint → Endpoint → Bool
same_endpoint one other = (one.port == other.port) && same_address one.address other.address

-- an order of addresses: by the IP version, and then by the bytes
abbrev pub address_cmp : Address → Address → Ordering
address_cmp = then_cmp (on version_of nat_cmp) (on bytes_of (slice_cmp nat_cmp))

-- an order of endpoints: by the port, and then by the address
abbrev pub endpoint_cmp : Endpoint → Endpoint → Ordering
endpoint_cmp = then_cmp (on (λ e. e.port) nat_cmp) (on (λ e. e.address) address_cmp)

-- ---- payloads (RFC 1350, section 5; RFC 2347)

abbrev pub begins_request : List ℕ → Bool
begins_request payload = (opcode_of payload == 1) || (opcode_of payload == 2)

abbrev pub begins_write : List ℕ → Bool
begins_write payload = opcode_of payload == 2

-- one of its strings is the name of the option of windows, in letters of any case (RFC 7440, section 3; RFC 2347)
abbrev pub has_window : List ℕ → Bool
has_window payload = list_any (λ word. str_eq_ignore_ascii_case word (codes "windowsize")) (slice_split (λ b. b == 0) payload)

abbrev pub begins_error : List ℕ → Bool
begins_error payload = opcode_of payload == 5

abbrev pub is_ack_0 : List ℕ → Bool
is_ack_0 payload = bytes_eq payload (0 ∷ 4 ∷ 0 ∷ 0 ∷ [])

abbrev pub is_data_1 : List ℕ → Bool
is_data_1 payload = starts_with nat_eq payload (0 ∷ 3 ∷ 0 ∷ 1 ∷ [])

abbrev pub begins_oack : List ℕ → Bool
begins_oack payload = opcode_of payload == 6

-- blocks are numbered from 1
abbrev pub is_block : List ℕ → Bool
is_block payload = (opcode_of payload == 3) && nat_le 1 (opcode_of (drop 2 payload))

abbrev pub is_ack : List ℕ → Bool
is_ack payload = (opcode_of payload == 4) && (length payload == 4)

-- the number of a block or of an ACK, which follows the opcode; 0 for anything else
abbrev pub number_of : List ℕ → ℕ
number_of payload = if is_block payload || is_ack payload then opcode_of (drop 2 payload) else 0

-- who sends the blocks: the client of a write, the server of a read (RFC 1350, section 2)
abbrev pub sends_blocks : Bool → Bool → Bool
sends_blocks writes is_client = if writes then is_client else not is_client

-- what this end sends in such a transfer, its requests aside
abbrev pub passes_in : Bool → Bool → List ℕ → Bool
passes_in writes is_client payload =
    (is_block payload && sends_blocks writes is_client) || (is_ack payload && not (sends_blocks writes is_client))
    || (begins_oack payload && not is_client) || begins_error payload

-- it begins as a packet of TFTP does
abbrev pub begins_packet : List ℕ → Bool
begins_packet payload = nat_le 1 (opcode_of payload) && nat_le (opcode_of payload) 6

-- ERROR 5, "Unknown transfer ID": the answer to what came from another transfer (RFC 1350, section 4)
abbrev pub begins_unknown_id : List ℕ → Bool
begins_unknown_id payload = starts_with nat_eq payload (0 ∷ 5 ∷ 0 ∷ 5 ∷ [])

-- An ERROR that may refuse a request: ERROR 0 may answer anything, and ERROR 5 answers what comes late.
abbrev pub refuses : List ℕ → Bool
refuses payload = begins_error payload && not (opcode_of (drop 2 payload) == 0) && not (opcode_of (drop 2 payload) == 5)

-- of a request its side and the name of its file: what stands before the zero that ends the name
abbrev pub asked_part : List ℕ → List ℕ
asked_part payload = by (position (λ b. b == 0) (drop 2 payload)) where
  by : Option ℕ → List ℕ
  by None = payload
  by (Some k) = take (k + 2) payload

-- what a server may send first: OACK, ERROR, ACK 0 or DATA 1
abbrev pub is_answer : List ℕ → Bool
is_answer payload = (opcode_of payload == 6) || begins_error payload || is_ack_0 payload || is_data_1 payload

-- ---- ways

abbrev pub goes : Endpoint → Endpoint → Recorded → Bool
goes from to d = same_endpoint d.source from && same_endpoint d.target to

abbrev pub is_between : Endpoint → Endpoint → Recorded → Bool
is_between one other d = goes one other d || goes other one d

-- the end of the datagram that is not this client's
abbrev pub other_of : Endpoint → Recorded → Endpoint
other_of c d = if same_endpoint d.source c then d.target else d.source

-- the same payload, from and to the same endpoints
abbrev pub is_again : Recorded → Recorded → Bool
is_again before d = bytes_eq before.payload d.payload && goes d.source d.target before

-- a request for the same file on the same side, from and to the same endpoints: its mode and options may be spelled otherwise
abbrev pub asks_alike : Recorded → Recorded → Bool
asks_alike before d = bytes_eq (asked_part before.payload) (asked_part d.payload) && goes d.source d.target before
