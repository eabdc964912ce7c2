-- What is kept of a transfer to tell how it ended. Lists have the newest first.
use Rattle.std.specs.Prelude.{◌≡◌, List, option_map}
use Rattle.std.specs.BTreeMap.{get}
use Rattle.audit_flows.specs.Lines.{endpoint_cmp}
use Rattle.audit_flows.specs.{Endpoint, Transfer}
use Rattle.audit_recording.specs.Blame.Frames.{Framed}
use Rattle.audit_recording.specs.declared.blame.closing.Closing.{Closing}
use Rattle.audit_recording.specs.Endings.Pace.{IsPaceOf}
use Rattle.audit_recording.specs.Endings.Told.{first_stop, last_word, sent_of}

-- It stands for what passed at the transfer's client.
pub record IsClosingOf (k : Closing) (x : Transfer) (view : List Framed) : Type 0 where
  pub stops : (s : Endpoint) → option_map sent_of (get endpoint_cmp k.stops s) ≡ first_stop x s view
  pub last : k.last ≡ last_word x view
  pub pace : IsPaceOf k.pace x view
