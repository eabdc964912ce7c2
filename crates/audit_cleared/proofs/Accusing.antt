-- The worked accusation: a client asks for a file, gets its block, and asks again at the port that answered.
use Rattle.std.proofs.Common.{List, [], ◌∷◌, ◌++◌, codes, None, reverse, inl, refl}
use Rattle.std.specs.Fmt.{digits}
use Rattle.tftp_packet.specs.{Client, Server}
use Rattle.tftp_packet.specs.Hosts.{Datagram}
use Rattle.tftp_packet.specs.{In, Out}
use Rattle.law_model.specs.Model.{Data, History, IsView, Req, Sent, Step, Took}
use Rattle.law_model.specs.{PortRule}
use Rattle.law_model.proofs.ModelLemmas.Computed.{run_is}
use Rattle.law_model.proofs.ModelLemmas.Worked.{one_block_plan}
use Rattle.law_end.specs.{Division, IsDressed, IsLawful, IsRefused, Main, Rule, TransferIds}
use Rattle.law_end.proofs.Whole.TwoEnds.{lawful}
use Rattle.audit_views.specs.Parties.{host_name}
use Rattle.audit_views.specs.Views.{captured, client_capture, client_header}
use Rattle.audit_views.specs.Views.Worked.{first_transfer}
use Rattle.audit_flows.specs.Transfers.{client, data_of, placed, service}
use Rattle.audit_flows.specs.Transfers.Worked.{passes, requests, server}
use Rattle.audit_spared.specs.Spared.Worked.{asks_elsewhere, block_came}
use Rattle.audit_spared.proofs.SparedLemmas.WorkedPremises.{wrong_port}
use Rattle.audit_recording.specs.Blame.Facts.{IsRefusedAt}
use Rattle.audit_recording.specs.declared.rows.row.Point.TheVariants as point
use Rattle.audit_cleared.proofs.Learned.{asks, brings, fits, is_plan, read_five}

abbrev steps : List Step
steps =
    record { actor = Client; deed = Took (Data 1) }
    ∷ record { actor = Server; deed = Sent (Data 1) }
    ∷ record { actor = Server; deed = Took Req }
    ∷ record { actor = Client; deed = Sent Req }
    ∷ []

abbrev view : History
view = Took (Data 1) ∷ Sent Req ∷ []

is_view : IsView read_five read_five.file Client view
is_view = (steps, run_is read_five read_five.file one_block_plan steps is_plan refl, refl)

abbrev ids : TransferIds
ids = record { own = 40000; peer = record { host = host_name server.address; port = 41000 }; asked = host_name service.address }

abbrev division : Division
division =
    record { datagram = captured host_name In (passes 1 server client (data_of 1)); label = Main (Took (Data 1)) }
    ∷ record { datagram = captured host_name Out (requests 0 client service (codes "f")); label = Main (Sent Req) }
    ∷ []

-- what the client saw before, and what it sends then
abbrev seen : List Datagram
seen = client_capture host_name first_transfer (placed [] block_came)

abbrev sent : Datagram
sent = captured host_name Out asks_elsewhere

dressed : IsDressed (client_header first_transfer) read_five read_five.file view (reverse seen)
unfolding digits
dressed = record {
  ids = ids;
  division = division;
  whole = refl;
  main = refl;
  labels = (
    record { dir = refl; client = refl; server = (refl, inl refl); spells = brings },
    (record { dir = refl; client = refl; server = (refl, λ _. refl); spells = asks }, tt),
  );
}

shown : IsLawful (client_header first_transfer) (reverse seen)
shown = (read_five, read_five.file, record { fits = fits; view = view; run = is_view; dressed = dressed })

refused : IsRefused (client_header first_transfer) seen sent (Rule.Port PortRule.Wrong)
unfolding digits
refused = wrong_port (client_header first_transfer) seen sent ((lawful (client_header first_transfer) (reverse seen)).0 shown) refl

unlawful : IsLawful (client_header first_transfer) (reverse seen ++ sent ∷ []) → ⊥
unlawful is = ((lawful (client_header first_transfer) (reverse seen ++ sent ∷ [])).0 is).0.lawful (Rule.Port PortRule.Wrong) refused.broken.0

pub accuses : IsRefusedAt None point.Client first_transfer (placed [] (asks_elsewhere ∷ block_came)) 3 (Rule.Port PortRule.Wrong)
accuses = record {
  before = reverse seen;
  datagram = sent;
  rest = [];
  split = refl;
  index_is = refl;
  lawful = shown;
  unlawful = unlawful;
  broken = refused.broken;
}
