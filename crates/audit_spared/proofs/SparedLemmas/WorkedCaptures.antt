-- The captures of the worked recordings are lawful, at the client and at the server.
use Rattle.std.proofs.Common.{◌≡◌, ℕ, [], ◌∷◌, codes, refl, ap, ◌==◌, bytes_eq, map, reverse}
use Rattle.std.proofs.lemmas.Bool.{false≢true}
use Rattle.tftp_packet.specs.{Client, Server}
use Rattle.tftp_packet.specs.Hosts.{Datagram, PeerId, peer_of}
use Rattle.law_model.specs.Model.{Req, Data, Ack, Error, Sent, Took, Step}
use Rattle.law_model.specs.Model.Worked.{client as client_does, server as server_does}
use Rattle.law_end.specs.{IsLawful, Label, Main, Stray, Labelled, Division, TransferIds}
use Rattle.law_end.specs.Dress.{StrayAnswer}
use Rattle.law_end.proofs.Division.Divided.{any_first, any_later}
use Rattle.audit_flows.specs.Transfers.{ack_of, client, data_of, service}
use Rattle.audit_flows.specs.Transfers.Worked.{at, error_of, next_server, other_client, passes, requests, server, stranger}
use Rattle.audit_spared.specs.Spared.{as_seen_by, as_served, at_client_of, at_server_of}
use Rattle.audit_spared.specs.Spared.Worked.{first_capture, first_served, one_name, own_name, second_capture, second_served, service_client}
use Rattle.audit_spared.proofs.SparedLemmas.WorkedReads.{shown, f_spelled, g_spelled, asked, came, acked, was_asked, went, was_acked, told_error, was_told, stop_spelled, full_spelled, error_5}

abbrev pub label : Datagram → Label → Labelled
label d l = record { datagram = d; label = l }

client_only : Client ≡ Server → ⊥
client_only is = absurd (cc)

-- each did this: it asked, was asked, sent the block, took it, sent the ACK and took it
abbrev pub asks_it : Step
asks_it = client_does (Sent Req)

abbrev pub is_asked : Step
is_asked = server_does (Took Req)

abbrev pub sends_block : Step
sends_block = server_does (Sent (Data 1))

abbrev pub takes_block : Step
takes_block = client_does (Took (Data 1))

abbrev sends_ack : Step
sends_ack = client_does (Sent (Ack 1))

abbrev takes_ack : Step
takes_ack = server_does (Took (Ack 1))

abbrev sends_error : Step
sends_error = server_does (Sent (Error 1 []))

-- the client stops by this ERROR
abbrev pub stops_by : ℕ → Step
stops_by code = client_does (Sent (Error code []))

abbrev is_stopped_by : ℕ → Step
is_stopped_by code = server_does (Took (Error code []))

-- two requests, a block, a stray that is told so, and the ACK

abbrev first_ids : TransferIds
first_ids = record { own = 40000; peer = record { host = own_name server.address; port = 41000 }; asked = own_name service.address }

abbrev first_0 : Division
first_0 = label (as_seen_by own_name client (requests 0 client service (codes "f"))) (Main (Sent Req)) ∷ []

abbrev first_1 : Division
first_1 = label (as_seen_by own_name client (requests 1 client service (codes "f"))) (Main (Sent Req)) ∷ first_0

abbrev first_2 : Division
first_2 = label (as_seen_by own_name client (passes 2 server client (data_of 1))) (Main (Took (Data 1))) ∷ first_1

abbrev first_3 : Division
first_3 = label (as_seen_by own_name client (passes 3 stranger client (data_of 7))) (Stray) ∷ first_2

abbrev first_4 : Division
first_4 = label (as_seen_by own_name client (passes 4 client stranger (error_of 5))) (StrayAnswer) ∷ first_3

abbrev first_5 : Division
first_5 = label (as_seen_by own_name client (passes 5 client server (ack_of 1))) (Main (Sent (Ack 1))) ∷ first_4

first_apart_3 : peer_of (as_seen_by own_name client (passes 3 stranger client (data_of 7))) ≡ first_ids.peer → ⊥
first_apart_3 is = false≢true (ap (λ (p : PeerId). bytes_eq p.host first_ids.peer.host) is)

pub first_lawful : IsLawful (at_client_of 69) (map (as_seen_by own_name client) (reverse first_capture))
first_lawful = shown (codes "f") (at_client_of 69) first_ids (sends_ack ∷ takes_block ∷ sends_block ∷ is_asked ∷ asks_it ∷ asks_it ∷ []) first_5 (map (as_seen_by own_name client) (reverse first_capture)) refl refl refl
    (acked (codes "f") f_spelled first_ids first_4 (as_seen_by own_name client (passes 5 client server (ack_of 1))) refl refl refl refl (any_later _ _ first_3 (any_first _ _ first_2 refl)), (record { dir = refl; here = refl; there = any_first _ _ first_2 (refl, refl); spells = error_5 }, (record { dir = refl; here = refl; elsewhere = first_apart_3; after = any_first _ _ first_1 ((Took (Data 1), refl), refl); no_request = λ is. absurd (client_only is) }, (came (codes "f") f_spelled first_ids first_1 (as_seen_by own_name client (passes 2 server client (data_of 1))) refl refl refl refl, (asked (codes "f") f_spelled first_ids first_0 (as_seen_by own_name client (requests 1 client service (codes "f"))) refl refl refl refl refl, (asked (codes "f") f_spelled first_ids [] (as_seen_by own_name client (requests 0 client service (codes "f"))) refl refl refl refl refl, tt))))))

-- a request, a block and the ACK

abbrev second_ids : TransferIds
second_ids = record { own = 40000; peer = record { host = own_name server.address; port = 41001 }; asked = own_name service.address }

abbrev second_0 : Division
second_0 = label (as_seen_by own_name client (requests 7 client service (codes "g"))) (Main (Sent Req)) ∷ []

abbrev second_1 : Division
second_1 = label (as_seen_by own_name client (passes 8 next_server client (data_of 1))) (Main (Took (Data 1))) ∷ second_0

abbrev second_2 : Division
second_2 = label (as_seen_by own_name client (passes 9 client next_server (ack_of 1))) (Main (Sent (Ack 1))) ∷ second_1

pub second_lawful : IsLawful (at_client_of 69) (map (as_seen_by own_name client) (reverse second_capture))
second_lawful = shown (codes "g") (at_client_of 69) second_ids (sends_ack ∷ takes_block ∷ sends_block ∷ is_asked ∷ asks_it ∷ []) second_2 (map (as_seen_by own_name client) (reverse second_capture)) refl refl refl
    (acked (codes "g") g_spelled second_ids second_1 (as_seen_by own_name client (passes 9 client next_server (ack_of 1))) refl refl refl refl (any_first _ _ second_0 refl), (came (codes "g") g_spelled second_ids second_0 (as_seen_by own_name client (passes 8 next_server client (data_of 1))) refl refl refl refl, (asked (codes "g") g_spelled second_ids [] (as_seen_by own_name client (requests 7 client service (codes "g"))) refl refl refl refl refl, tt)))

-- a request behind the block

abbrev silent_ids : TransferIds
silent_ids = record { own = 40000; peer = record { host = own_name server.address; port = 41000 }; asked = own_name service.address }

abbrev silent_0 : Division
silent_0 = label (as_seen_by own_name client (requests 0 client service (codes "f"))) (Main (Sent Req)) ∷ []

abbrev silent_1 : Division
silent_1 = label (as_seen_by own_name client (passes 1 server client (data_of 1))) (Main (Took (Data 1))) ∷ silent_0

abbrev silent_2 : Division
silent_2 = label (as_seen_by own_name client (requests 401 client service (codes "f"))) (Main (Sent Req)) ∷ silent_1

abbrev silent_3 : Division
silent_3 = label (as_seen_by own_name client (passes 402 client server (ack_of 1))) (Main (Sent (Ack 1))) ∷ silent_2

pub silent_lawful : IsLawful (at_client_of 69) (map (as_seen_by own_name client) (reverse (passes 402 client server (ack_of 1) ∷ requests 401 client service (codes "f") ∷ passes 1 server client (data_of 1) ∷ requests 0 client service (codes "f") ∷ [])))
silent_lawful = shown (codes "f") (at_client_of 69) silent_ids (sends_ack ∷ asks_it ∷ takes_block ∷ sends_block ∷ is_asked ∷ asks_it ∷ []) silent_3 (map (as_seen_by own_name client) (reverse (passes 402 client server (ack_of 1) ∷ requests 401 client service (codes "f") ∷ passes 1 server client (data_of 1) ∷ requests 0 client service (codes "f") ∷ []))) refl refl refl
    (acked (codes "f") f_spelled silent_ids silent_2 (as_seen_by own_name client (passes 402 client server (ack_of 1))) refl refl refl refl (any_later _ _ silent_1 (any_first _ _ silent_0 refl)), (asked (codes "f") f_spelled silent_ids silent_1 (as_seen_by own_name client (requests 401 client service (codes "f"))) refl refl refl refl refl, (came (codes "f") f_spelled silent_ids silent_0 (as_seen_by own_name client (passes 1 server client (data_of 1))) refl refl refl refl, (asked (codes "f") f_spelled silent_ids [] (as_seen_by own_name client (requests 0 client service (codes "f"))) refl refl refl refl refl, tt))))

-- the same, and a stray between

abbrev back_ids : TransferIds
back_ids = record { own = 40000; peer = record { host = own_name server.address; port = 41000 }; asked = own_name service.address }

abbrev back_0 : Division
back_0 = label (as_seen_by own_name client (requests 0 client service (codes "f"))) (Main (Sent Req)) ∷ []

abbrev back_1 : Division
back_1 = label (as_seen_by own_name client (passes 1 server client (data_of 1))) (Main (Took (Data 1))) ∷ back_0

abbrev back_2 : Division
back_2 = label (as_seen_by own_name client (passes 301 stranger client (63 ∷ []))) (Stray) ∷ back_1

abbrev back_3 : Division
back_3 = label (as_seen_by own_name client (requests 601 client service (codes "f"))) (Main (Sent Req)) ∷ back_2

abbrev back_4 : Division
back_4 = label (as_seen_by own_name client (passes 602 client server (ack_of 1))) (Main (Sent (Ack 1))) ∷ back_3

back_apart_2 : peer_of (as_seen_by own_name client (passes 301 stranger client (63 ∷ []))) ≡ back_ids.peer → ⊥
back_apart_2 is = false≢true (ap (λ (p : PeerId). bytes_eq p.host back_ids.peer.host) is)

pub back_lawful : IsLawful (at_client_of 69) (map (as_seen_by own_name client) (reverse (passes 602 client server (ack_of 1) ∷ requests 601 client service (codes "f") ∷ passes 301 stranger client (63 ∷ []) ∷ passes 1 server client (data_of 1) ∷ requests 0 client service (codes "f") ∷ [])))
back_lawful = shown (codes "f") (at_client_of 69) back_ids (sends_ack ∷ asks_it ∷ takes_block ∷ sends_block ∷ is_asked ∷ asks_it ∷ []) back_4 (map (as_seen_by own_name client) (reverse (passes 602 client server (ack_of 1) ∷ requests 601 client service (codes "f") ∷ passes 301 stranger client (63 ∷ []) ∷ passes 1 server client (data_of 1) ∷ requests 0 client service (codes "f") ∷ []))) refl refl refl
    (acked (codes "f") f_spelled back_ids back_3 (as_seen_by own_name client (passes 602 client server (ack_of 1))) refl refl refl refl (any_later _ _ back_2 (any_first _ _ back_1 refl)), (asked (codes "f") f_spelled back_ids back_2 (as_seen_by own_name client (requests 601 client service (codes "f"))) refl refl refl refl refl, (record { dir = refl; here = refl; elsewhere = back_apart_2; after = any_first _ _ back_0 ((Took (Data 1), refl), refl); no_request = λ is. absurd (client_only is) }, (came (codes "f") f_spelled back_ids back_0 (as_seen_by own_name client (passes 1 server client (data_of 1))) refl refl refl refl, (asked (codes "f") f_spelled back_ids [] (as_seen_by own_name client (requests 0 client service (codes "f"))) refl refl refl refl refl, tt)))))

-- a request alone

abbrev other_ids : TransferIds
other_ids = record { own = 40000; peer = record { host = own_name server.address; port = 41000 }; asked = own_name service.address }

abbrev other_0 : Division
other_0 = label (as_seen_by own_name other_client (requests 302 other_client service (codes "f"))) (Main (Sent Req)) ∷ []

pub other_lawful : IsLawful (at_client_of 69) (map (as_seen_by own_name other_client) (reverse (requests 302 other_client service (codes "f") ∷ [])))
other_lawful = shown (codes "f") (at_client_of 69) other_ids (asks_it ∷ []) other_0 (map (as_seen_by own_name other_client) (reverse (requests 302 other_client service (codes "f") ∷ []))) refl refl refl
    (asked (codes "f") f_spelled other_ids [] (as_seen_by own_name other_client (requests 302 other_client service (codes "f"))) refl refl refl refl refl, tt)

-- a request, a block and the ACK

abbrev plain_ids : TransferIds
plain_ids = record { own = 40000; peer = record { host = own_name server.address; port = 41000 }; asked = own_name service.address }

abbrev plain_0 : Division
plain_0 = label (as_seen_by own_name client (requests 1 client service (codes "f"))) (Main (Sent Req)) ∷ []

abbrev plain_1 : Division
plain_1 = label (as_seen_by own_name client (passes 2 server client (data_of 1))) (Main (Took (Data 1))) ∷ plain_0

abbrev plain_2 : Division
plain_2 = label (as_seen_by own_name client (passes 3 client server (ack_of 1))) (Main (Sent (Ack 1))) ∷ plain_1

pub plain_lawful : IsLawful (at_client_of 69) (map (as_seen_by own_name client) (reverse (passes 3 client server (ack_of 1) ∷ passes 2 server client (data_of 1) ∷ requests 1 client service (codes "f") ∷ [])))
plain_lawful = shown (codes "f") (at_client_of 69) plain_ids (sends_ack ∷ takes_block ∷ sends_block ∷ is_asked ∷ asks_it ∷ []) plain_2 (map (as_seen_by own_name client) (reverse (passes 3 client server (ack_of 1) ∷ passes 2 server client (data_of 1) ∷ requests 1 client service (codes "f") ∷ []))) refl refl refl
    (acked (codes "f") f_spelled plain_ids plain_1 (as_seen_by own_name client (passes 3 client server (ack_of 1))) refl refl refl refl (any_first _ _ plain_0 refl), (came (codes "f") f_spelled plain_ids plain_0 (as_seen_by own_name client (passes 2 server client (data_of 1))) refl refl refl refl, (asked (codes "f") f_spelled plain_ids [] (as_seen_by own_name client (requests 1 client service (codes "f"))) refl refl refl refl refl, tt)))

-- a client at the service port, which a stray asks

abbrev service_port_ids : TransferIds
service_port_ids = record { own = 69; peer = record { host = own_name server.address; port = 41000 }; asked = own_name service.address }

abbrev service_port_0 : Division
service_port_0 = label (as_seen_by own_name service_client (requests 0 service_client service (codes "f"))) (Main (Sent Req)) ∷ []

abbrev service_port_1 : Division
service_port_1 = label (as_seen_by own_name service_client (passes 1 server service_client (data_of 1))) (Main (Took (Data 1))) ∷ service_port_0

abbrev service_port_2 : Division
service_port_2 = label (as_seen_by own_name service_client (requests 2 (at 1 5000) service_client (codes "f"))) (Stray) ∷ service_port_1

abbrev service_port_3 : Division
service_port_3 = label (as_seen_by own_name service_client (passes 3 service_client (at 1 5000) (error_of 5))) (StrayAnswer) ∷ service_port_2

service_port_apart_2 : peer_of (as_seen_by own_name service_client (requests 2 (at 1 5000) service_client (codes "f"))) ≡ service_port_ids.peer → ⊥
service_port_apart_2 is = false≢true (ap (λ (p : PeerId). p.port == 41000) is)

pub service_port_lawful : IsLawful (at_client_of 69) (map (as_seen_by own_name service_client) (reverse (passes 3 service_client (at 1 5000) (error_of 5) ∷ requests 2 (at 1 5000) service_client (codes "f") ∷ passes 1 server service_client (data_of 1) ∷ requests 0 service_client service (codes "f") ∷ [])))
service_port_lawful = shown (codes "f") (at_client_of 69) service_port_ids (takes_block ∷ sends_block ∷ is_asked ∷ asks_it ∷ []) service_port_3 (map (as_seen_by own_name service_client) (reverse (passes 3 service_client (at 1 5000) (error_of 5) ∷ requests 2 (at 1 5000) service_client (codes "f") ∷ passes 1 server service_client (data_of 1) ∷ requests 0 service_client service (codes "f") ∷ []))) refl refl refl
    (record { dir = refl; here = refl; there = any_first _ _ service_port_1 (refl, refl); spells = error_5 }, (record { dir = refl; here = refl; elsewhere = service_port_apart_2; after = any_first _ _ service_port_0 ((Took (Data 1), refl), refl); no_request = λ is. absurd (client_only is) }, (came (codes "f") f_spelled service_port_ids service_port_0 (as_seen_by own_name service_client (passes 1 server service_client (data_of 1))) refl refl refl refl, (asked (codes "f") f_spelled service_port_ids [] (as_seen_by own_name service_client (requests 0 service_client service (codes "f"))) refl refl refl refl refl, tt))))

-- two hosts of one name, and an ERROR from another port

abbrev two_hosts_ids : TransferIds
two_hosts_ids = record { own = 40000; peer = record { host = one_name server.address; port = 41000 }; asked = one_name service.address }

abbrev two_hosts_0 : Division
two_hosts_0 = label (as_seen_by one_name client (requests 0 client service (codes "f"))) (Main (Sent Req)) ∷ []

abbrev two_hosts_1 : Division
two_hosts_1 = label (as_seen_by one_name client (passes 1 server client (data_of 1))) (Main (Took (Data 1))) ∷ two_hosts_0

abbrev two_hosts_2 : Division
two_hosts_2 = label (as_seen_by one_name client (passes 2 next_server client (error_of 1))) (Stray) ∷ two_hosts_1

abbrev two_hosts_3 : Division
two_hosts_3 = label (as_seen_by one_name client (requests 2 client (at 2 69) (codes "f"))) (Main (Sent Req)) ∷ two_hosts_2

abbrev two_hosts_4 : Division
two_hosts_4 = label (as_seen_by one_name client (passes 3 client (at 2 41000) (ack_of 1))) (Main (Sent (Ack 1))) ∷ two_hosts_3

two_hosts_apart_2 : peer_of (as_seen_by one_name client (passes 2 next_server client (error_of 1))) ≡ two_hosts_ids.peer → ⊥
two_hosts_apart_2 is = false≢true (ap (λ (p : PeerId). p.port == 41000) is)

pub two_hosts_lawful : IsLawful (at_client_of 69) (map (as_seen_by one_name client) (reverse (passes 3 client (at 2 41000) (ack_of 1) ∷ requests 2 client (at 2 69) (codes "f") ∷ passes 2 next_server client (error_of 1) ∷ passes 1 server client (data_of 1) ∷ requests 0 client service (codes "f") ∷ [])))
two_hosts_lawful = shown (codes "f") (at_client_of 69) two_hosts_ids (sends_ack ∷ asks_it ∷ takes_block ∷ sends_block ∷ is_asked ∷ asks_it ∷ []) two_hosts_4 (map (as_seen_by one_name client) (reverse (passes 3 client (at 2 41000) (ack_of 1) ∷ requests 2 client (at 2 69) (codes "f") ∷ passes 2 next_server client (error_of 1) ∷ passes 1 server client (data_of 1) ∷ requests 0 client service (codes "f") ∷ []))) refl refl refl
    (acked (codes "f") f_spelled two_hosts_ids two_hosts_3 (as_seen_by one_name client (passes 3 client (at 2 41000) (ack_of 1))) refl refl refl refl (any_later _ _ two_hosts_2 (any_first _ _ two_hosts_1 refl)), (asked (codes "f") f_spelled two_hosts_ids two_hosts_2 (as_seen_by one_name client (requests 2 client (at 2 69) (codes "f"))) refl refl refl refl refl, (record { dir = refl; here = refl; elsewhere = two_hosts_apart_2; after = any_first _ _ two_hosts_0 ((Took (Data 1), refl), refl); no_request = λ is. absurd (client_only is) }, (came (codes "f") f_spelled two_hosts_ids two_hosts_0 (as_seen_by one_name client (passes 1 server client (data_of 1))) refl refl refl refl, (asked (codes "f") f_spelled two_hosts_ids [] (as_seen_by one_name client (requests 0 client service (codes "f"))) refl refl refl refl refl, tt)))))

-- at the server: two requests, a block and the ACK

abbrev first_there_ids : TransferIds
first_there_ids = record { own = 41000; peer = record { host = own_name client.address; port = 40000 }; asked = [] }

abbrev first_there_0 : Division
first_there_0 = label (as_served own_name client (requests 0 client service (codes "f"))) (Main (Took Req)) ∷ []

abbrev first_there_1 : Division
first_there_1 = label (as_served own_name client (requests 1 client service (codes "f"))) (Main (Took Req)) ∷ first_there_0

abbrev first_there_2 : Division
first_there_2 = label (as_served own_name client (passes 2 server client (data_of 1))) (Main (Sent (Data 1))) ∷ first_there_1

abbrev first_there_3 : Division
first_there_3 = label (as_served own_name client (passes 5 client server (ack_of 1))) (Main (Took (Ack 1))) ∷ first_there_2

pub first_there_lawful : IsLawful (at_server_of 69) (map (as_served own_name client) (reverse first_served))
first_there_lawful = shown (codes "f") (at_server_of 69) first_there_ids (takes_ack ∷ sends_ack ∷ takes_block ∷ sends_block ∷ is_asked ∷ is_asked ∷ asks_it ∷ []) first_there_3 (map (as_served own_name client) (reverse first_served)) refl refl refl
    (was_acked (codes "f") f_spelled first_there_ids first_there_2 (as_served own_name client (passes 5 client server (ack_of 1))) refl refl refl refl (any_first _ _ first_there_1 refl), (went (codes "f") f_spelled first_there_ids first_there_1 (as_served own_name client (passes 2 server client (data_of 1))) refl refl refl refl, (was_asked (codes "f") f_spelled first_there_ids first_there_0 (as_served own_name client (requests 1 client service (codes "f"))) refl refl refl refl, (was_asked (codes "f") f_spelled first_there_ids [] (as_served own_name client (requests 0 client service (codes "f"))) refl refl refl refl, tt))))

-- and one request

abbrev second_there_ids : TransferIds
second_there_ids = record { own = 41000; peer = record { host = own_name client.address; port = 40000 }; asked = [] }

abbrev second_there_0 : Division
second_there_0 = label (as_served own_name client (requests 7 client service (codes "g"))) (Main (Took Req)) ∷ []

abbrev second_there_1 : Division
second_there_1 = label (as_served own_name client (passes 8 server client (data_of 1))) (Main (Sent (Data 1))) ∷ second_there_0

abbrev second_there_2 : Division
second_there_2 = label (as_served own_name client (passes 9 client server (ack_of 1))) (Main (Took (Ack 1))) ∷ second_there_1

pub second_there_lawful : IsLawful (at_server_of 69) (map (as_served own_name client) (reverse second_served))
second_there_lawful = shown (codes "g") (at_server_of 69) second_there_ids (takes_ack ∷ sends_ack ∷ takes_block ∷ sends_block ∷ is_asked ∷ asks_it ∷ []) second_there_2 (map (as_served own_name client) (reverse second_served)) refl refl refl
    (was_acked (codes "g") g_spelled second_there_ids second_there_1 (as_served own_name client (passes 9 client server (ack_of 1))) refl refl refl refl (any_first _ _ second_there_0 refl), (went (codes "g") g_spelled second_there_ids second_there_0 (as_served own_name client (passes 8 server client (data_of 1))) refl refl refl refl, (was_asked (codes "g") g_spelled second_there_ids [] (as_served own_name client (requests 7 client service (codes "g"))) refl refl refl refl, tt)))

-- a request behind the block

abbrev silent_there_ids : TransferIds
silent_there_ids = record { own = 41000; peer = record { host = own_name client.address; port = 40000 }; asked = [] }

abbrev silent_there_0 : Division
silent_there_0 = label (as_served own_name client (requests 0 client service (codes "f"))) (Main (Took Req)) ∷ []

abbrev silent_there_1 : Division
silent_there_1 = label (as_served own_name client (passes 1 server client (data_of 1))) (Main (Sent (Data 1))) ∷ silent_there_0

abbrev silent_there_2 : Division
silent_there_2 = label (as_served own_name client (requests 401 client service (codes "f"))) (Main (Took Req)) ∷ silent_there_1

abbrev silent_there_3 : Division
silent_there_3 = label (as_served own_name client (passes 402 client server (ack_of 1))) (Main (Took (Ack 1))) ∷ silent_there_2

pub silent_there_lawful : IsLawful (at_server_of 69) (map (as_served own_name client) (reverse (passes 402 client server (ack_of 1) ∷ requests 401 client service (codes "f") ∷ passes 1 server client (data_of 1) ∷ requests 0 client service (codes "f") ∷ [])))
silent_there_lawful = shown (codes "f") (at_server_of 69) silent_there_ids (takes_ack ∷ is_asked ∷ sends_ack ∷ takes_block ∷ sends_block ∷ is_asked ∷ asks_it ∷ []) silent_there_3 (map (as_served own_name client) (reverse (passes 402 client server (ack_of 1) ∷ requests 401 client service (codes "f") ∷ passes 1 server client (data_of 1) ∷ requests 0 client service (codes "f") ∷ []))) refl refl refl
    (was_acked (codes "f") f_spelled silent_there_ids silent_there_2 (as_served own_name client (passes 402 client server (ack_of 1))) refl refl refl refl (any_later _ _ silent_there_1 (any_first _ _ silent_there_0 refl)), (was_asked (codes "f") f_spelled silent_there_ids silent_there_1 (as_served own_name client (requests 401 client service (codes "f"))) refl refl refl refl, (went (codes "f") f_spelled silent_there_ids silent_there_0 (as_served own_name client (passes 1 server client (data_of 1))) refl refl refl refl, (was_asked (codes "f") f_spelled silent_there_ids [] (as_served own_name client (requests 0 client service (codes "f"))) refl refl refl refl, tt))))

-- the same, and the block again

abbrev back_there_ids : TransferIds
back_there_ids = record { own = 41000; peer = record { host = own_name client.address; port = 40000 }; asked = [] }

abbrev back_there_0 : Division
back_there_0 = label (as_served own_name client (requests 0 client service (codes "f"))) (Main (Took Req)) ∷ []

abbrev back_there_1 : Division
back_there_1 = label (as_served own_name client (passes 1 server client (data_of 1))) (Main (Sent (Data 1))) ∷ back_there_0

abbrev back_there_2 : Division
back_there_2 = label (as_served own_name client (passes 301 server client (data_of 1))) (Main (Sent (Data 1))) ∷ back_there_1

abbrev back_there_3 : Division
back_there_3 = label (as_served own_name client (requests 601 client service (codes "f"))) (Main (Took Req)) ∷ back_there_2

abbrev back_there_4 : Division
back_there_4 = label (as_served own_name client (passes 602 client server (ack_of 1))) (Main (Took (Ack 1))) ∷ back_there_3

pub back_there_lawful : IsLawful (at_server_of 69) (map (as_served own_name client) (reverse (passes 602 client server (ack_of 1) ∷ requests 601 client service (codes "f") ∷ passes 301 server client (data_of 1) ∷ passes 1 server client (data_of 1) ∷ requests 0 client service (codes "f") ∷ [])))
back_there_lawful = shown (codes "f") (at_server_of 69) back_there_ids (takes_ack ∷ is_asked ∷ sends_ack ∷ takes_block ∷ sends_block ∷ sends_block ∷ is_asked ∷ asks_it ∷ []) back_there_4 (map (as_served own_name client) (reverse (passes 602 client server (ack_of 1) ∷ requests 601 client service (codes "f") ∷ passes 301 server client (data_of 1) ∷ passes 1 server client (data_of 1) ∷ requests 0 client service (codes "f") ∷ []))) refl refl refl
    (was_acked (codes "f") f_spelled back_there_ids back_there_3 (as_served own_name client (passes 602 client server (ack_of 1))) refl refl refl refl (any_later _ _ back_there_2 (any_first _ _ back_there_1 refl)), (was_asked (codes "f") f_spelled back_there_ids back_there_2 (as_served own_name client (requests 601 client service (codes "f"))) refl refl refl refl, (went (codes "f") f_spelled back_there_ids back_there_1 (as_served own_name client (passes 301 server client (data_of 1))) refl refl refl refl, (went (codes "f") f_spelled back_there_ids back_there_0 (as_served own_name client (passes 1 server client (data_of 1))) refl refl refl refl, (was_asked (codes "f") f_spelled back_there_ids [] (as_served own_name client (requests 0 client service (codes "f"))) refl refl refl refl, tt)))))

-- a request alone

abbrev other_there_ids : TransferIds
other_there_ids = record { own = 41000; peer = record { host = own_name other_client.address; port = 40000 }; asked = [] }

abbrev other_there_0 : Division
other_there_0 = label (as_served own_name other_client (requests 302 other_client service (codes "f"))) (Main (Took Req)) ∷ []

pub other_there_lawful : IsLawful (at_server_of 69) (map (as_served own_name other_client) (reverse (requests 302 other_client service (codes "f") ∷ [])))
other_there_lawful = shown (codes "f") (at_server_of 69) other_there_ids (is_asked ∷ asks_it ∷ []) other_there_0 (map (as_served own_name other_client) (reverse (requests 302 other_client service (codes "f") ∷ []))) refl refl refl
    (was_asked (codes "f") f_spelled other_there_ids [] (as_served own_name other_client (requests 302 other_client service (codes "f"))) refl refl refl refl, tt)

-- a request, a block and the ACK

abbrev plain_there_ids : TransferIds
plain_there_ids = record { own = 41000; peer = record { host = own_name client.address; port = 40000 }; asked = [] }

abbrev plain_there_0 : Division
plain_there_0 = label (as_served own_name client (requests 1 client service (codes "f"))) (Main (Took Req)) ∷ []

abbrev plain_there_1 : Division
plain_there_1 = label (as_served own_name client (passes 2 server client (data_of 1))) (Main (Sent (Data 1))) ∷ plain_there_0

abbrev plain_there_2 : Division
plain_there_2 = label (as_served own_name client (passes 3 client server (ack_of 1))) (Main (Took (Ack 1))) ∷ plain_there_1

pub plain_there_lawful : IsLawful (at_server_of 69) (map (as_served own_name client) (reverse (passes 3 client server (ack_of 1) ∷ passes 2 server client (data_of 1) ∷ requests 1 client service (codes "f") ∷ [])))
plain_there_lawful = shown (codes "f") (at_server_of 69) plain_there_ids (takes_ack ∷ sends_ack ∷ takes_block ∷ sends_block ∷ is_asked ∷ asks_it ∷ []) plain_there_2 (map (as_served own_name client) (reverse (passes 3 client server (ack_of 1) ∷ passes 2 server client (data_of 1) ∷ requests 1 client service (codes "f") ∷ []))) refl refl refl
    (was_acked (codes "f") f_spelled plain_there_ids plain_there_1 (as_served own_name client (passes 3 client server (ack_of 1))) refl refl refl refl (any_first _ _ plain_there_0 refl), (went (codes "f") f_spelled plain_there_ids plain_there_0 (as_served own_name client (passes 2 server client (data_of 1))) refl refl refl refl, (was_asked (codes "f") f_spelled plain_there_ids [] (as_served own_name client (requests 1 client service (codes "f"))) refl refl refl refl, tt)))

-- to two hosts

abbrev two_hosts_there_ids : TransferIds
two_hosts_there_ids = record { own = 41000; peer = record { host = own_name client.address; port = 40000 }; asked = [] }

abbrev two_hosts_there_0 : Division
two_hosts_there_0 = label (as_served own_name client (requests 0 client service (codes "f"))) (Main (Took Req)) ∷ []

abbrev two_hosts_there_1 : Division
two_hosts_there_1 = label (as_served own_name client (passes 1 server client (data_of 1))) (Main (Sent (Data 1))) ∷ two_hosts_there_0

abbrev two_hosts_there_2 : Division
two_hosts_there_2 = label (as_served own_name client (requests 2 client (at 2 69) (codes "f"))) (Main (Took Req)) ∷ two_hosts_there_1

abbrev two_hosts_there_3 : Division
two_hosts_there_3 = label (as_served own_name client (passes 3 client (at 2 41000) (ack_of 1))) (Main (Took (Ack 1))) ∷ two_hosts_there_2

pub two_hosts_there_lawful : IsLawful (at_server_of 69) (map (as_served own_name client) (reverse (passes 3 client (at 2 41000) (ack_of 1) ∷ requests 2 client (at 2 69) (codes "f") ∷ passes 1 server client (data_of 1) ∷ requests 0 client service (codes "f") ∷ [])))
two_hosts_there_lawful = shown (codes "f") (at_server_of 69) two_hosts_there_ids (takes_ack ∷ is_asked ∷ sends_ack ∷ takes_block ∷ sends_block ∷ is_asked ∷ asks_it ∷ []) two_hosts_there_3 (map (as_served own_name client) (reverse (passes 3 client (at 2 41000) (ack_of 1) ∷ requests 2 client (at 2 69) (codes "f") ∷ passes 1 server client (data_of 1) ∷ requests 0 client service (codes "f") ∷ []))) refl refl refl
    (was_acked (codes "f") f_spelled two_hosts_there_ids two_hosts_there_2 (as_served own_name client (passes 3 client (at 2 41000) (ack_of 1))) refl refl refl refl (any_later _ _ two_hosts_there_1 (any_first _ _ two_hosts_there_0 refl)), (was_asked (codes "f") f_spelled two_hosts_there_ids two_hosts_there_1 (as_served own_name client (requests 2 client (at 2 69) (codes "f"))) refl refl refl refl, (went (codes "f") f_spelled two_hosts_there_ids two_hosts_there_0 (as_served own_name client (passes 1 server client (data_of 1))) refl refl refl refl, (was_asked (codes "f") f_spelled two_hosts_there_ids [] (as_served own_name client (requests 0 client service (codes "f"))) refl refl refl refl, tt))))

-- a request behind the ACK, which is answered by an ERROR

abbrev late_there_ids : TransferIds
late_there_ids = record { own = 41000; peer = record { host = own_name client.address; port = 40000 }; asked = [] }

abbrev late_there_0 : Division
late_there_0 = label (as_served own_name client (requests 0 client service (codes "f"))) (Main (Took Req)) ∷ []

abbrev late_there_1 : Division
late_there_1 = label (as_served own_name client (passes 1 server client (data_of 1))) (Main (Sent (Data 1))) ∷ late_there_0

abbrev late_there_2 : Division
late_there_2 = label (as_served own_name client (passes 2 client server (ack_of 1))) (Main (Took (Ack 1))) ∷ late_there_1

abbrev late_there_3 : Division
late_there_3 = label (as_served own_name client (requests 3 client service (codes "f"))) (Main (Took Req)) ∷ late_there_2

abbrev late_there_4 : Division
late_there_4 = label (as_served own_name client (passes 4 server client (error_of 1))) (Main (Sent (Error 1 []))) ∷ late_there_3

abbrev late_there_5 : Division
late_there_5 = label (as_served own_name client (passes 5 client server (ack_of 1))) (Main (Took (Ack 1))) ∷ late_there_4

pub late_there_lawful : IsLawful (at_server_of 69) (map (as_served own_name client) (reverse (passes 5 client server (ack_of 1) ∷ passes 4 server client (error_of 1) ∷ requests 3 client service (codes "f") ∷ passes 2 client server (ack_of 1) ∷ passes 1 server client (data_of 1) ∷ requests 0 client service (codes "f") ∷ [])))
late_there_lawful = shown (codes "f") (at_server_of 69) late_there_ids (takes_ack ∷ sends_error ∷ is_asked ∷ takes_ack ∷ sends_ack ∷ takes_block ∷ sends_block ∷ is_asked ∷ asks_it ∷ []) late_there_5 (map (as_served own_name client) (reverse (passes 5 client server (ack_of 1) ∷ passes 4 server client (error_of 1) ∷ requests 3 client service (codes "f") ∷ passes 2 client server (ack_of 1) ∷ passes 1 server client (data_of 1) ∷ requests 0 client service (codes "f") ∷ []))) refl refl refl
    (was_acked (codes "f") f_spelled late_there_ids late_there_4 (as_served own_name client (passes 5 client server (ack_of 1))) refl refl refl refl (any_later _ _ late_there_3 (any_later _ _ late_there_2 (any_later _ _ late_there_1 (any_first _ _ late_there_0 refl)))), (told_error (codes "f") f_spelled late_there_ids late_there_3 (as_served own_name client (passes 4 server client (error_of 1))) refl refl refl refl, (was_asked (codes "f") f_spelled late_there_ids late_there_2 (as_served own_name client (requests 3 client service (codes "f"))) refl refl refl refl, (was_acked (codes "f") f_spelled late_there_ids late_there_1 (as_served own_name client (passes 2 client server (ack_of 1))) refl refl refl refl (any_first _ _ late_there_0 refl), (went (codes "f") f_spelled late_there_ids late_there_0 (as_served own_name client (passes 1 server client (data_of 1))) refl refl refl refl, (was_asked (codes "f") f_spelled late_there_ids [] (as_served own_name client (requests 0 client service (codes "f"))) refl refl refl refl, tt))))))

-- a request that is answered so

abbrev told_there_ids : TransferIds
told_there_ids = record { own = 41000; peer = record { host = own_name client.address; port = 40000 }; asked = [] }

abbrev told_there_0 : Division
told_there_0 = label (as_served own_name client (requests 3 client service (codes "f"))) (Main (Took Req)) ∷ []

abbrev told_there_1 : Division
told_there_1 = label (as_served own_name client (passes 4 server client (error_of 1))) (Main (Sent (Error 1 []))) ∷ told_there_0

pub told_there_lawful : IsLawful (at_server_of 69) (map (as_served own_name client) (reverse (passes 4 server client (error_of 1) ∷ requests 3 client service (codes "f") ∷ [])))
told_there_lawful = shown (codes "f") (at_server_of 69) told_there_ids (sends_error ∷ is_asked ∷ asks_it ∷ []) told_there_1 (map (as_served own_name client) (reverse (passes 4 server client (error_of 1) ∷ requests 3 client service (codes "f") ∷ []))) refl refl refl
    (told_error (codes "f") f_spelled told_there_ids told_there_0 (as_served own_name client (passes 4 server client (error_of 1))) refl refl refl refl, (was_asked (codes "f") f_spelled told_there_ids [] (as_served own_name client (requests 3 client service (codes "f"))) refl refl refl refl, tt))

-- a block, and an ERROR of the client

abbrev stopped_there_ids : TransferIds
stopped_there_ids = record { own = 41000; peer = record { host = one_name client.address; port = 40000 }; asked = [] }

abbrev stopped_there_0 : Division
stopped_there_0 = label (as_served one_name client (requests 0 client service (codes "f"))) (Main (Took Req)) ∷ []

abbrev stopped_there_1 : Division
stopped_there_1 = label (as_served one_name client (passes 1 server client (data_of 1))) (Main (Sent (Data 1))) ∷ stopped_there_0

abbrev stopped_there_2 : Division
stopped_there_2 = label (as_served one_name client (passes 3 client server (error_of 2))) (Main (Took (Error 2 []))) ∷ stopped_there_1

pub stopped_there_lawful : IsLawful (at_server_of 69) (map (as_served one_name client) (reverse (passes 3 client server (error_of 2) ∷ passes 1 server client (data_of 1) ∷ requests 0 client service (codes "f") ∷ [])))
stopped_there_lawful = shown (codes "f") (at_server_of 69) stopped_there_ids (is_stopped_by 2 ∷ stops_by 2 ∷ takes_block ∷ sends_block ∷ is_asked ∷ asks_it ∷ []) stopped_there_2 (map (as_served one_name client) (reverse (passes 3 client server (error_of 2) ∷ passes 1 server client (data_of 1) ∷ requests 0 client service (codes "f") ∷ []))) refl refl refl
    (was_told (codes "f") f_spelled stopped_there_ids stopped_there_1 (as_served one_name client (passes 3 client server (error_of 2))) 2 full_spelled refl refl refl refl (any_first _ _ stopped_there_0 refl), (went (codes "f") f_spelled stopped_there_ids stopped_there_0 (as_served one_name client (passes 1 server client (data_of 1))) refl refl refl refl, (was_asked (codes "f") f_spelled stopped_there_ids [] (as_served one_name client (requests 0 client service (codes "f"))) refl refl refl refl, tt)))

-- and another ERROR

abbrev namesake_there_ids : TransferIds
namesake_there_ids = record { own = 41000; peer = record { host = one_name client.address; port = 40000 }; asked = [] }

abbrev namesake_there_0 : Division
namesake_there_0 = label (as_served one_name client (requests 0 client service (codes "f"))) (Main (Took Req)) ∷ []

abbrev namesake_there_1 : Division
namesake_there_1 = label (as_served one_name client (passes 1 server client (data_of 1))) (Main (Sent (Data 1))) ∷ namesake_there_0

abbrev namesake_there_2 : Division
namesake_there_2 = label (as_served one_name client (passes 2 client server (error_of 1))) (Main (Took (Error 1 []))) ∷ namesake_there_1

pub namesake_there_lawful : IsLawful (at_server_of 69) (map (as_served one_name client) (reverse (passes 2 client server (error_of 1) ∷ passes 1 server client (data_of 1) ∷ requests 0 client service (codes "f") ∷ [])))
namesake_there_lawful = shown (codes "f") (at_server_of 69) namesake_there_ids (is_stopped_by 1 ∷ stops_by 1 ∷ takes_block ∷ sends_block ∷ is_asked ∷ asks_it ∷ []) namesake_there_2 (map (as_served one_name client) (reverse (passes 2 client server (error_of 1) ∷ passes 1 server client (data_of 1) ∷ requests 0 client service (codes "f") ∷ []))) refl refl refl
    (was_told (codes "f") f_spelled namesake_there_ids namesake_there_1 (as_served one_name client (passes 2 client server (error_of 1))) 1 stop_spelled refl refl refl refl (any_first _ _ namesake_there_0 refl), (went (codes "f") f_spelled namesake_there_ids namesake_there_0 (as_served one_name client (passes 1 server client (data_of 1))) refl refl refl refl, (was_asked (codes "f") f_spelled namesake_there_ids [] (as_served one_name client (requests 0 client service (codes "f"))) refl refl refl refl, tt)))
