-- The worked recordings at an end that miss datagrams.
use Rattle.std.proofs.Common.{◌≡◌, ℕ, ◌<◌, List, [], ◌∷◌, Contains, codes, inl, inr, refl, sym, subst, arith, None, Option}
use Rattle.tftp_packet.specs.{Message, Spells, IsPlace, End, Client, Server, Out}
use Rattle.tftp_packet.specs.{Rollover}
use Rattle.law_model.specs.Model.{Meaning, request_of, blksize_of, block, Deed, Sent, Took, Req, Oack, Data, Ack, History, IsView, two_bytes, two_bytes_view, two_bytes_written, two_bytes_written_view, ten_bytes, ten_bytes_view, six_blocks, six_blocks_server_view}
use Rattle.law_model.proofs.ModelLemmas.Members.{contains_cases, contains_none}
use Rattle.law_model.proofs.ModelLemmas.Moments.{earlier_view}
use Rattle.law_model.proofs.ModelLemmas.OneSided.{view_one_sided}
use Rattle.law_model.proofs.ModelLemmas.Defaults.{default_blksize}
use Rattle.law_model.proofs.ModelLemmas.Worked.{two_bytes_is_view, two_bytes_is_server_view, written_is_view, ten_bytes_is_view, one_at_a_time, six_server_view}
use Rattle.law_end.specs.{Main, Labelled, Division, TransferIds, HaveLabels, IsLawful, from_server}
use Rattle.law_end.proofs.Whole.NothingAgreed.{two_bytes_fit}
use Rattle.law_end.proofs.Division.Divided.{any_first}
use Rattle.law_tap.specs.Losses.{nothing, kept, lost, IsSeenOf, IsNotedOf, IsLawfulWithLosses, IsCertain, IsFirstCertain}
use Rattle.law_tap.specs.WorkedTap.{request_passes, hi_passes, ack_passes}
use Rattle.law_tap.specs.WorkedLosses.{at_client, request_out, hi_in, ack_out, whole_read, read_without_block, at_server, request_in, hi_out, ho_out, changed_block, changed_notes, ack_of_unseen, block_of_unseen_start, block_of_unseen_ack, block_of_unseen_other, zero_of_unseen_oack}
use Rattle.law_tap.proofs.Certain.{lawful_lossy, none_certain}
use Rattle.law_tap.proofs.ChangedBlock.{block_stays, sent_block_stays}

-- ---- what was seen of what an end did

not_there : (d x : Deed) (h : History) → (d ≡ x → ⊥) → (Contains h x → ⊥) → Contains (d ∷ h) x → ⊥
not_there d x h other none at = elim (contains_cases d h x at) [ inl now ↦ other now | inr before ↦ none before ]

pub ack_alone : IsView two_bytes two_bytes.file Client ack_of_unseen → ⊥
ack_alone view =
    let own = view_one_sided two_bytes two_bytes.file Client ack_of_unseen view in
    not_there (Sent Req) (Took (Data 1)) [] (λ e. absurd (cc)) (contains_none (Took (Data 1))) (own.0.taken 1 (omega arith) (omega arith))

pub ack_unseen : IsSeenOf two_bytes two_bytes.file Client ack_of_unseen
ack_unseen = record {
  all = two_bytes_view;
  view = two_bytes_is_view;
  left = kept (Sent (Ack 1)) _ _ (lost (Took (Data 1)) _ _ (kept (Sent Req) _ _ nothing));
}

pub start_alone : IsView two_bytes_written two_bytes_written.file Client block_of_unseen_start → ⊥
start_alone view =
    let own = view_one_sided two_bytes_written two_bytes_written.file Client block_of_unseen_start view in
    elim own.0.started [
      | inl plain ↦ not_there (Sent Req) (Took (Ack 0)) [] (λ e. absurd (cc)) (contains_none (Took (Ack 0))) plain.1
      | inr offer ↦ offer.0 refl
    ]

pub start_unseen : IsSeenOf two_bytes_written two_bytes_written.file Client block_of_unseen_start
start_unseen = record {
  all = two_bytes_written_view;
  view = written_is_view;
  left = lost (Took (Ack 1)) _ _ (kept (Sent (Data 1)) _ _ (lost (Took (Ack 0)) _ _ (kept (Sent Req) _ _ nothing)));
}

only_zero : (a : ℕ) → Contains (Sent (Ack 0) ∷ Took Oack ∷ Sent Req ∷ []) (Sent (Ack a)) → a ≡ 0
only_zero a at = elim (contains_cases (Sent (Ack 0)) (Took Oack ∷ Sent Req ∷ []) (Sent (Ack a)) at) [
  | inl now ↦ let same : 0 ≡ a = cc in sym same
  | inr before ↦ absurd (not_there (Took Oack) (Sent (Ack a)) (Sent Req ∷ []) (λ e. absurd (cc)) (not_there (Sent Req) (Sent (Ack a)) [] (λ e. absurd (cc)) (contains_none (Sent (Ack a)))) before)
]

pub window_alone : IsView ten_bytes ten_bytes.file Client block_of_unseen_ack → ⊥
window_alone view =
    let own = view_one_sided ten_bytes ten_bytes.file Client block_of_unseen_ack view in
    let (a, allowed, low) = own.0.in_window in
    let zero : a ≡ 0 = elim allowed [ inl first ↦ first | inr sent ↦ only_zero a sent ] in
    absurd (omega (arith, zero, low, one_at_a_time))

pub window_unseen : IsSeenOf ten_bytes ten_bytes.file Client block_of_unseen_ack
window_unseen = record {
  all = ten_bytes_view;
  view = ten_bytes_is_view;
  left = lost (Sent (Ack 2)) _ _
      (kept (Took (Data 2)) _ _ (lost (Sent (Ack 1)) _ _ (lost (Took (Data 1)) _ _ (kept (Sent (Ack 0)) _ _ (kept (Took Oack) _ _ (kept (Sent Req) _ _ nothing))))));
}

pub other_alone : IsView six_blocks six_blocks.file Server block_of_unseen_other → ⊥
other_alone view =
    let own = view_one_sided six_blocks six_blocks.file Server block_of_unseen_other view in
    elim own.0.in_order [
      | inl first ↦ absurd (omega (arith, first))
      | inr sent ↦ not_there (Took (Ack 0)) (Sent (Data 1)) (Sent Oack ∷ Took Req ∷ []) (λ e. absurd (cc))
          (not_there (Sent Oack) (Sent (Data 1)) (Took Req ∷ []) (λ e. absurd (cc)) (not_there (Took Req) (Sent (Data 1)) [] (λ e. absurd (cc)) (contains_none (Sent (Data 1)))))
          sent
    ]

pub other_unseen : IsSeenOf six_blocks six_blocks.file Server block_of_unseen_other
other_unseen = record {
  all = six_blocks_server_view;
  view = six_server_view;
  left = lost (Took (Ack 6)) _ _ (lost (Sent (Data 6)) _ _ (lost (Sent (Data 5)) _ _ (lost (Took (Ack 2)) _ _ (lost (Sent (Data 4)) _ _ (lost (Sent (Data 3)) _ _
      (kept (Sent (Data 2)) _ _ (lost (Sent (Data 1)) _ _ (kept (Took (Ack 0)) _ _ (kept (Sent Oack) _ _ (kept (Took Req) _ _ nothing))))))))));
}

pub zero_alone : IsView ten_bytes ten_bytes.file Client zero_of_unseen_oack → ⊥
zero_alone view =
    let own = view_one_sided ten_bytes ten_bytes.file Client zero_of_unseen_oack view in
    not_there (Sent Req) (Took Oack) [] (λ e. absurd (cc)) (contains_none (Took Oack)) (own.0.zero refl).1

pub zero_unseen : IsSeenOf ten_bytes ten_bytes.file Client zero_of_unseen_oack
zero_unseen = record {
  all = ten_bytes_view;
  view = ten_bytes_is_view;
  left = lost (Sent (Ack 2)) _ _
      (lost (Took (Data 2)) _ _ (lost (Sent (Ack 1)) _ _ (lost (Took (Data 1)) _ _ (kept (Sent (Ack 0)) _ _ (lost (Took Oack) _ _ (kept (Sent Req) _ _ nothing))))));
}

-- ---- payloads

pub one_place : IsPlace 0 1 1
one_place = (omega arith, omega arith)

pub request_says : Spells request_passes.payload (Message.Request (request_of two_bytes))
request_says = (
  (omega arith, (omega arith, (omega arith, (omega arith, (omega arith, (omega arith, (omega arith, (omega arith, (omega arith, (omega arith, tt)))))))))),
  record {
    mode_text = codes "octet";
    pairs = [];
    bytes = refl;
    strung = (((λ e. omega arith), tt), (((λ e. omega arith), ((λ e. omega arith), ((λ e. omega arith), ((λ e. omega arith), ((λ e. omega arith), tt))))), tt));
    named = tt;
    apart = tt;
    mode = refl;
    options = refl;
    short = λ some. absurd (some refl);
  },
)

pub first_block_says : (one other : ℕ) → one < 256 → other < 256 → Spells (0 ∷ 3 ∷ 0 ∷ 1 ∷ one ∷ other ∷ []) (Message.Data 1 (one ∷ other ∷ []))
first_block_says one other byte also = ((omega arith, (omega arith, (omega arith, (byte, (also, tt))))), (0, 1, one_place, refl))

pub hi_says : Spells hi_passes.payload (Message.Data 1 (block 512 two_bytes.file 1))
hi_says = first_block_says 104 105 (omega arith) (omega arith)

hi_is_block : Spells hi_passes.payload (Message.Data 1 (block (blksize_of two_bytes) two_bytes.file 1))
hi_is_block = subst (λ b. Spells hi_passes.payload (Message.Data 1 (block b two_bytes.file 1))) (sym (default_blksize two_bytes refl)) hi_says

pub ack_says : Spells ack_passes.payload (Message.Ack 1)
ack_says = ((omega arith, (omega arith, (omega arith, tt))), (0, 1, one_place, refl))

-- ---- at the client

client_ids : TransferIds
client_ids = record { own = 40000; peer = record { host = codes "10.0.0.1"; port = 41000 }; asked = codes "10.0.0.1" }

abbrev asked : Division
asked = record { datagram = request_out; label = Main (Sent Req) } ∷ []

abbrev answered : Division
answered = record { datagram = hi_in; label = Main (Took (Data 1)) } ∷ asked

abbrev acknowledged : Division
acknowledged = record { datagram = ack_out; label = Main (Sent (Ack 1)) } ∷ answered

client_labels : HaveLabels at_client two_bytes two_bytes.file client_ids acknowledged
unfolding client_ids
client_labels = (
  record {
    dir = refl;
    client = refl;
    server = (refl, inr (any_first (λ (p : Labelled). p.datagram.dir ≡ from_server Client) (record { datagram = hi_in; label = Main (Took (Data 1)) }) asked refl));
    spells = ack_says;
  },
  (
    record { dir = refl; client = refl; server = (refl, inl refl); spells = hi_is_block },
    (record { dir = refl; client = refl; server = (refl, λ named. refl); spells = request_says }, tt),
  ),
)

read_lawful : IsLawful at_client whole_read
read_lawful = (
  two_bytes,
  two_bytes.file,
  record {
    fits = two_bytes_fit None;
    view = two_bytes_view;
    run = two_bytes_is_view;
    dressed = record { ids = client_ids; division = acknowledged; whole = refl; main = refl; labels = client_labels };
  },
)

pub read_lossy : IsLawfulWithLosses at_client read_without_block
read_lossy = record { all = whole_read; lawful = read_lawful; left = kept request_out _ _ (lost hi_in _ _ (kept ack_out _ _ nothing)) }

pub read_not_certain : (i : ℕ) → IsCertain at_client read_without_block i → ⊥
read_not_certain i certain = none_certain at_client read_without_block i read_lossy certain

-- ---- at the server

server_ids : TransferIds
server_ids = record { own = 41000; peer = record { host = codes "10.0.0.2"; port = 40000 }; asked = [] }

abbrev sent_once : Division
sent_once = record { datagram = hi_out; label = Main (Sent (Data 1)) } ∷ record { datagram = request_in; label = Main (Took Req) } ∷ []

server_labels : HaveLabels at_server two_bytes two_bytes.file server_ids sent_once
unfolding server_ids
server_labels = (
  record { dir = refl; client = refl; server = (refl, inl refl); spells = hi_is_block },
  (record { dir = refl; client = refl; server = (refl, λ named. absurd (cc)); spells = request_says }, tt),
)

pub begun_lawful : IsLawful at_server (request_in ∷ hi_out ∷ [])
begun_lawful = (
  two_bytes,
  two_bytes.file,
  record {
    fits = two_bytes_fit None;
    view = Sent (Data 1) ∷ Took Req ∷ [];
    run = earlier_view two_bytes two_bytes.file Server (Took (Ack 1)) (Sent (Data 1) ∷ Took Req ∷ []) two_bytes_is_server_view;
    dressed = record { ids = server_ids; division = sent_once; whole = refl; main = refl; labels = server_labels };
  },
)

apart : ◌≡◌ {A = List ℕ} (104 ∷ 105 ∷ []) (104 ∷ 111 ∷ []) → ⊥
apart same = let i : ◌≡◌ {A = ℕ} 105 111 = cc in absurd (omega (arith, i))

change_unlawful : IsLawfulWithLosses at_server changed_block → ⊥
change_unlawful lossy =
    apart (sent_block_stays at_server changed_block hi_out ho_out 1 (104 ∷ 105 ∷ []) (104 ∷ 111 ∷ []) lossy (1, omega arith, refl) (2, omega arith, refl) refl refl
    (first_block_says 104 105 (omega arith) (omega arith)) (first_block_says 104 111 (omega arith) (omega arith)))

pub change_certain : IsFirstCertain at_server changed_block 2
change_certain = record {
  certain = record { within = omega arith; unlawful = change_unlawful };
  lawful = lawful_lossy at_server (request_in ∷ hi_out ∷ []) begun_lawful;
}

pub change_unnoted : (rollover : Option Rollover) (m : Meaning) (wire : List ℕ) (e : End) → IsNotedOf rollover m wire e changed_notes → ⊥
change_unnoted rollover m wire e noted =
    apart (block_stays rollover m wire e changed_notes (record { dir = Out; payload = hi_out.payload }) (record { dir = Out; payload = ho_out.payload }) 1 (104 ∷ 105 ∷ []) (104 ∷ 111 ∷ []) noted (1, omega arith, refl) (0, omega arith, refl)
    (first_block_says 104 105 (omega arith) (omega arith)) (first_block_says 104 111 (omega arith) (omega arith)))
