-- What the transfers of a recording were asked for. Lists of what a recording has have the newest first.
use Rattle.std.specs.Prelude.{◌≡◌, ◌+◌, ℕ, List, Some, length}
use Rattle.std.specs.List.{slice_get}
use Rattle.audit_recording.specs.Blame.Frames.{Carried, Framed, whole_of}
use Rattle.audit_recording.specs.Session.Texts.{opened_count, ordinal}
use Rattle.audit_recording.specs.Session.Trails.{opening_of}
use Rattle.audit_recording.specs.declared.session.requests.Asked.{Asked}

-- It has this number, from the oldest transfer on, and its request is the payload of the datagram that opened it.
pub record IsAskedAs (named : List ℕ) (carried : List Carried) (number : ℕ) (a : Asked) : Type 0 where
  pub numbered : a.number ≡ number
  pub key : ℕ
  pub which : ordinal key (whole_of named carried) ≡ number
  pub opening : Framed
  pub opens : opening_of key named carried ≡ Some opening
  pub request : a.payload.now ≡ opening.carried.datagram.payload

-- They are the requests of all transfers, that of the oldest first.
pub record AreAsked (named : List ℕ) (carried : List Carried) (asked : List Asked) : Type 0 where
  pub each : (k : ℕ) (a : Asked) → slice_get asked k ≡ Some a → IsAskedAs named carried (k + 1) a
  pub all : length asked ≡ opened_count (whole_of named carried)
