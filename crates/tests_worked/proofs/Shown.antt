-- What a dressed view shows.
use Rattle.std.proofs.Common.{ℕ, List}
use Rattle.tftp_packet.specs.Hosts.{Datagram, Header}
use Rattle.law_model.specs.Model.{Meaning, History, IsView, IsComplete}
use Rattle.law_end.specs.{IsDressed, Fits, IsWritable, Shows}

pub shown_by : (h : Header) (m : Meaning) (wire : List ℕ) (view : History) (ds : List Datagram) → Fits h.rollover m wire → IsWritable h.rollover m → IsView m wire h.named view → IsComplete m wire h.named view
    → IsDressed h m wire view ds → Shows h m ds
shown_by h m wire view ds fits writable run complete dressed = record {
  writable = writable;
  wire = wire;
  shown = record { seen = record { fits = fits; view = view; run = run; dressed = dressed }; complete = complete };
}
