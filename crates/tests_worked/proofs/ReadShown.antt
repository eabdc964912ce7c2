-- The worked captures: what they show, and what they cannot.
use Rattle.std.proofs.Common.{◌≡◌, ◌≢◌, ℕ, ◌≤◌, ◌&&◌, true, List, [], ◌∷◌, ◌++◌, codes, reverse, inl, inr, refl, sym, subst, ap, ◌∙◌, arith, None}
use Rattle.tftp_packet.specs.{Message, Client, Server}
use Rattle.tftp_packet.specs.Hosts.{Datagram, Header}
use Rattle.tftp_packet.proofs.RoundsLemmas.Greatest.{two_bytes_within}
use Rattle.law_model.specs.Model.{Meaning, NothingAgreed, blksize_of, block_count, Deed, Sent, Took, Req, Data, Ack, History, HasSent, HasTaken, Step, IsView, IsComplete, two_bytes, two_bytes_view}
use Rattle.law_model.specs.Model.Machines.{receiver_of}
use Rattle.law_model.proofs.ModelLemmas.Members.{contains_first, contains_cases, contains_none}
use Rattle.law_model.proofs.ModelLemmas.Defaults.{default_blksize}
use Rattle.law_model.proofs.ModelLemmas.Worked.{one_block, two_bytes_run, two_bytes_is_view, two_bytes_complete}
use Rattle.law_end.specs.{TransferIds, datagrams_of, view_in, IsDressed, IsSeen, IsLawful, ShowsBy, Shows}
use Rattle.tests_worked.specs.{at_client, server_host, acknowledges_hi, brings_more, one_block_read, read_without_its_ack, read_past_its_end}
use Rattle.law_end.proofs.Whole.NothingAgreed.{two_bytes_fit}
use Rattle.tests_worked.proofs.Spelled.{request_spelled}
use Rattle.tests_worked.proofs.Payloads.{Spelled}
use Rattle.tests_worked.proofs.Dressed.{are_labels, all_say, as_main, dressed_by}
use Rattle.tests_worked.proofs.Shown.{shown_by}
use Rattle.tests_worked.proofs.Bases.{plain_asks, plain_hi}
use Rattle.tests_worked.proofs.Read.{Followed, begun, followed}
use Rattle.tests_worked.proofs.ReadRuns.{nothing_agreed, taken_in_wire, wire_is_hi, side_is_get, file_is_wire, meaning_is, hi_taken, no_ack_zero}

abbrev pub ids : TransferIds
ids = record { own = 40000; peer = record { host = server_host; port = 41000 }; asked = server_host }

-- a read of the two bytes whose request is answered from there
pub read_dressed : (news : List Spelled) (view : History) (ds : List Datagram) → (are_labels at_client ids (as_main (news ++ plain_asks ∷ [])) && all_say 512 two_bytes two_bytes.file news) ≡ true
    → datagrams_of (as_main (news ++ plain_asks ∷ [])) ≡ reverse ds → view_in (as_main (news ++ plain_asks ∷ [])) ≡ view → IsDressed at_client two_bytes two_bytes.file view ds
read_dressed news view ds test = dressed_by at_client two_bytes two_bytes.file 512 ids news (plain_asks ∷ []) view ds (default_blksize two_bytes refl) test (request_spelled, tt)

pub dressed_read : IsDressed at_client two_bytes two_bytes.file two_bytes_view one_block_read
dressed_read = read_dressed ((acknowledges_hi, Message.Ack 1) ∷ plain_hi ∷ []) two_bytes_view one_block_read refl refl refl

abbrev without_ack : History
without_ack = Took (Data 1) ∷ Sent Req ∷ []

dressed_begin : IsDressed at_client two_bytes two_bytes.file without_ack read_without_its_ack
dressed_begin = read_dressed (plain_hi ∷ []) without_ack read_without_its_ack refl refl refl

-- what a view of the two bytes shows that is dressed so
pub two_shown : (h : Header) (view : History) (ds : List Datagram) → IsView two_bytes two_bytes.file h.named view → IsComplete two_bytes two_bytes.file h.named view → IsDressed h two_bytes two_bytes.file view ds → Shows h two_bytes ds
two_shown h view ds run complete = shown_by h two_bytes two_bytes.file view ds (two_bytes_fit h.rollover) (let least = two_bytes_within h.rollover in omega (arith, one_block, least)) run complete

pub read_is_shown : Shows at_client two_bytes one_block_read
read_is_shown = two_shown at_client two_bytes_view one_block_read two_bytes_is_view two_bytes_complete dressed_read

begin_steps : List Step
begin_steps =
    record { actor = Client; deed = Took (Data 1) }
    ∷ record { actor = Server; deed = Sent (Data 1) }
    ∷ record { actor = Server; deed = Took Req }
    ∷ record { actor = Client; deed = Sent Req }
    ∷ []

begin_is_view : IsView two_bytes two_bytes.file Client without_ack
unfolding begin_steps
begin_is_view = (begin_steps, two_bytes_run.1.1, refl)

pub begin_is_lawful : IsLawful at_client read_without_its_ack
begin_is_lawful = (two_bytes, two_bytes.file, record { fits = two_bytes_fit None; view = without_ack; run = begin_is_view; dressed = dressed_begin })

none_agreed_after : (m : Meaning) (wire : List ℕ) (view : History) (deed : Deed) → deed ≢ Sent (Ack 0) → IsView m wire Client view → Followed m wire (deed ∷ Took (Data 1) ∷ Sent Req ∷ []) view → NothingAgreed m
none_agreed_after m wire view deed differs run f =
    nothing_agreed m wire view 1 run (side_is_get m f.request)
    (subst (λ v. HasTaken v (Data 1)) (sym f.is) (hi_taken deed))
    (λ at. no_ack_zero deed differs (subst (λ v. HasSent v (Ack 0)) f.is at))

pub only_two_bytes : (m : Meaning) (wire : List ℕ) → IsSeen at_client m wire one_block_read → m ≡ two_bytes
only_two_bytes m wire seen =
    let dress = seen.dressed in
    let f = followed m wire dress.ids (acknowledges_hi, Message.Ack 1) seen.view dress.division dress.whole dress.main dress.labels refl in
    let none = none_agreed_after m wire seen.view (Sent (Ack 1)) (λ e. omega (arith, ack_of e)) seen.run f in
    meaning_is m f.request none (sym (file_is_wire m wire f.request seen.fits) ∙ wire_is_hi m wire none f.hi)
  where
    ack_of : Sent (Ack 1) ≡ Sent (Ack 0) → ◌≡◌ {A = ℕ} 1 0
    ack_of e = cc

pub same_two_bytes : (m other : Meaning) → Shows at_client m one_block_read → Shows at_client other one_block_read → m ≡ other
same_two_bytes m other s t = only_two_bytes m s.wire s.shown.seen ∙ sym (only_two_bytes other t.wire t.shown.seen)

no_ack_in : (n : ℕ) → HasSent without_ack (Ack n) → ⊥
no_ack_in n at = elim (contains_cases (Took (Data 1)) (Sent Req ∷ []) (Sent (Ack n)) at) [
  | inl is ↦ absurd (cc)
  | inr later ↦ elim (contains_cases (Sent Req) [] (Sent (Ack n)) later) [ inl is ↦ absurd (cc) | inr none ↦ contains_none (Sent (Ack n)) none ]
]

pub begin_shows_nothing : (m : Meaning) (wire : List ℕ) → ShowsBy at_client m wire read_without_its_ack → ⊥
begin_shows_nothing m wire shown =
    let seen = shown.seen in
    let dress = seen.dressed in
    let b = begun m wire dress.ids seen.view dress.division dress.whole dress.main dress.labels in
    let receiver : Client ≡ receiver_of m.side = ap receiver_of (sym (side_is_get m b.request)) in
    let n = block_count (blksize_of m) wire in
    no_ack_in n (subst (λ v. HasSent v (Ack n)) b.is (shown.complete.acknowledged receiver))

one_block_of : (m : Meaning) (wire : List ℕ) → NothingAgreed m → wire ≡ codes "hi" → block_count (blksize_of m) wire ≡ 1
one_block_of m wire none is = ap (λ b. block_count b wire) (default_blksize m none) ∙ ap (λ x. block_count 512 x) is

pub past_is_unlawful : IsLawful at_client read_past_its_end → ⊥
past_is_unlawful (m, wire, seen) =
    let dress = seen.dressed in
    let f = followed m wire dress.ids (brings_more, Message.Data 2 (codes "ii")) seen.view dress.division dress.whole dress.main dress.labels refl in
    let none = none_agreed_after m wire seen.view (Took (Data 2)) (λ e. cc) seen.run f in
    let taken = subst (λ v. HasTaken v (Data 2)) (sym f.is) (contains_first (Took (Data 2)) (Took (Data 1) ∷ Sent Req ∷ [])) in
    let two : 2 ≤ block_count (blksize_of m) wire = taken_in_wire m wire seen.view 2 seen.run taken in
    let one = one_block_of m wire none (wire_is_hi m wire none f.hi) in
    omega arith
