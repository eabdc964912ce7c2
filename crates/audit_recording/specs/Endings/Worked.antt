-- A transfer that the first datagram of a recording opens.
use Rattle.std.specs.Prelude.{false}
use Rattle.audit_flows.specs.{Transfer}
use Rattle.audit_flows.specs.Transfers.{client, service}

-- a read, without the option of windows
abbrev pub asked_first : Transfer
asked_first = record { number = 0; client = client; asked = service; writes = false; has_window = false }
