-- What the client of the worked transfer at a learned port did is shown by a run, and so breaks no rule at the client.
use Rattle.std.proofs.Common.{◌≡◌, ◌<◌, nat_lt, ℕ, true, List, [], ◌∷◌, codes, reverse, inl, inr, refl, sym, ap, subst, arith, None}
use Rattle.std.proofs.lemmas.Bool.{and_parts, ltb-true, true≢false}
use Rattle.std.specs.Fmt.{digits}
use Rattle.std.specs.List.{AllByRecursion, list_all}
use Rattle.tftp_packet.specs.{Client, Get, IsString, Message, Num, Octet, Server, Spells, no_options}
use Rattle.tftp_packet.specs.Hosts.{Datagram}
use Rattle.tftp_packet.specs.{In, Out}
use Rattle.law_model.specs.Model.{Ack, Data, History, IsView, Meaning, Req, Sent, Step, Took, blksize_of, block, block_count, request_of}
use Rattle.law_model.proofs.ModelLemmas.Computed.{IsPlan, run_is}
use Rattle.law_model.proofs.ModelLemmas.Defaults.{default_blksize, default_windowsize}
use Rattle.law_model.proofs.ModelLemmas.Worked.{one_block_plan}
use Rattle.law_end.specs.{Division, Fits, IsDressed, Main, OneEnded, TransferIds}
use Rattle.law_end.proofs.Whole.NothingAgreed.{none_there, nothing_may_be_agreed_by}
use Rattle.law_end.proofs.Whole.TwoEnds.{lawful}
use Rattle.audit_views.specs.Parties.{host_name}
use Rattle.audit_flows.specs.Transfers.{ack_of, client, data_of, placed, read_of}
use Rattle.audit_flows.specs.Transfers.Worked.{passes, requests, server}
use Rattle.audit_views.specs.Views.{captured, client_capture, client_header}
use Rattle.audit_cleared.specs.Worked.{asked_at_learned, before_going_on, learned, to_who_answered}

-- ---- the run

abbrev pub read_five : Meaning
read_five = record { side = Get; name = codes "f"; mode = Octet; requested = no_options; agreed = no_options; file = 5 ∷ [] }

abbrev steps : List Step
steps =
    record { actor = Client; deed = Sent (Ack 1) }
    ∷ record { actor = Client; deed = Took (Data 1) }
    ∷ record { actor = Server; deed = Sent (Data 1) }
    ∷ record { actor = Server; deed = Took Req }
    ∷ record { actor = Client; deed = Sent Req }
    ∷ record { actor = Client; deed = Sent Req }
    ∷ []

abbrev view : History
view = Sent (Ack 1) ∷ Took (Data 1) ∷ Sent Req ∷ Sent Req ∷ []

one_block : block_count (blksize_of read_five) read_five.file ≡ 1
one_block = ap (λ b. block_count b read_five.file) (default_blksize read_five refl)

pub is_plan : IsPlan read_five read_five.file one_block_plan
is_plan = record { something = λ e. absurd (true≢false (sym e)); nothing = λ _. refl; windowsize = default_windowsize read_five refl; blocks = one_block }

is_view : IsView read_five read_five.file Client view
is_view = (steps, run_is read_five read_five.file one_block_plan steps is_plan refl, refl)

pub fits : Fits None read_five read_five.file
fits = record {
  may_agree = nothing_may_be_agreed_by None (request_of read_five);
  reads = refl;
  size = λ mode size e. absurd (none_there (codes "tsize") (Num size) e);
  numbered = omega (arith, one_block);
}

-- ---- what is spelled

bytes_are : (xs : List ℕ) → list_all (λ b. nat_lt b 256) xs ≡ true → AllByRecursion (λ b. b < 256) xs
bytes_are [] e = tt
bytes_are (x ∷ xs) e = let parts = and_parts (nat_lt x 256) (list_all (λ b. nat_lt b 256) xs) e in (ltb-true x 256 parts.0, bytes_are xs parts.1)

string_is : (s : List ℕ) → list_all (λ b. nat_lt 0 b) s ≡ true → IsString s
string_is [] e = tt
string_is (x ∷ s) e =
    let parts = and_parts (nat_lt 0 x) (list_all (λ b. nat_lt 0 b) s) e in
    let low = ltb-true 0 x parts.0 in
    (λ is. omega arith, string_is s parts.1)

pub asks : Spells (read_of (codes "f")) (Message.Request (request_of read_five))
asks = (
  bytes_are (read_of (codes "f")) refl,
  record {
    mode_text = codes "octet";
    pairs = [];
    bytes = refl;
    strung = (string_is (codes "f") refl, (string_is (codes "octet") refl, tt));
    named = tt;
    apart = tt;
    mode = refl;
    options = refl;
    short = λ some. absurd (some refl);
  },
)

pub brings : Spells (data_of 1) (Message.Data 1 (block (blksize_of read_five) read_five.file 1))
brings = subst (λ size. Spells (data_of 1) (Message.Data 1 (block size read_five.file 1))) (sym (default_blksize read_five refl))
    (bytes_are (0 ∷ 3 ∷ 1 ∷ 5 ∷ []) refl, (0, 1, (omega arith, omega arith), refl))

acknowledges : Spells (ack_of 1) (Message.Ack 1)
acknowledges = (bytes_are (0 ∷ 4 ∷ 1 ∷ []) refl, (0, 1, (omega arith, omega arith), refl))

-- ---- how it is carried

abbrev ids : TransferIds
ids = record { own = 40000; peer = record { host = host_name server.address; port = 41000 }; asked = host_name learned.address }

abbrev asking : Division
asking =
    record { datagram = captured host_name Out (requests 2 client learned (codes "f")); label = Main (Sent Req) }
    ∷ record { datagram = captured host_name Out (requests 0 client learned (codes "f")); label = Main (Sent Req) }
    ∷ []

abbrev answered : Division
answered = record { datagram = captured host_name In (passes 3 server client (data_of 1)); label = Main (Took (Data 1)) } ∷ asking

abbrev division : Division
division = record { datagram = captured host_name Out to_who_answered; label = Main (Sent (Ack 1)) } ∷ answered

abbrev capture_at_client : List Datagram
capture_at_client = client_capture host_name asked_at_learned (placed [] (to_who_answered ∷ before_going_on))

dressed : IsDressed (client_header asked_at_learned) read_five read_five.file view (reverse capture_at_client)
unfolding digits
dressed = record {
  ids = ids;
  division = division;
  whole = refl;
  main = refl;
  labels = (
    record { dir = refl; client = refl; server = (refl, inr (0, _, omega arith, refl, refl)); spells = acknowledges },
    (
      record { dir = refl; client = refl; server = (refl, inl refl); spells = brings },
      (
        record { dir = refl; client = refl; server = (refl, λ _. refl); spells = asks },
        (record { dir = refl; client = refl; server = (refl, λ _. refl); spells = asks }, tt),
      ),
    ),
  );
}

pub breaks_no_rule : OneEnded (client_header asked_at_learned) capture_at_client
unfolding digits
breaks_no_rule = (lawful (client_header asked_at_learned) (reverse capture_at_client)).0 (read_five, read_five.file, record { fits = fits; view = view; run = is_view; dressed = dressed })
