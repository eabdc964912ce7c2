-- What the worked read says of its meaning, where one more datagram may follow.
use Rattle.std.proofs.Common.{◌≡◌, ◌&&◌, ℕ, true, List, [], ◌∷◌, ◌++◌, codes, refl, sym, ◌∙◌}
use Rattle.tftp_packet.specs.{Message}
use Rattle.tftp_packet.specs.Hosts.{peer_of}
use Rattle.tftp_packet.specs.{In, Out}
use Rattle.law_model.specs.Model.{Meaning, request_of, blksize_of, block, Sent, Took, Req, Data, History, two_bytes}
use Rattle.law_end.specs.{Division, datagrams_of, view_in, TransferIds, HaveLabels}
use Rattle.law_end.proofs.FirstBroken.FirstRequests.{request_same}
use Rattle.tests_worked.specs.{at_client, brings_hi, asks_for_a}
use Rattle.tests_worked.proofs.Spelled.{request_spelled, hi_spelled}
use Rattle.tests_worked.proofs.Payloads.{Spelled, all_spell}
use Rattle.tests_worked.proofs.Passing.{same_dir}
use Rattle.tests_worked.proofs.RuleTests.{not_request}
use Rattle.tests_worked.proofs.Meant.{deed_for, deeds_for, AllMeant, all_near, client_meant}
use Rattle.tests_worked.proofs.Bases.{plain_asks, plain_hi}

same_bytes : (k j : ℕ) (x y : List ℕ) → Message.Data k x ≡ Message.Data j y → x ≡ y
same_bytes k j x y e = cc

-- the request and block 1 were seen, and this is the view
pub record Followed (m : Meaning) (wire : List ℕ) (seen view : History) : Type 0 where
  pub request : request_of m ≡ request_of two_bytes
  pub hi : block (blksize_of m) wire 1 ≡ codes "hi"
  pub is : view ≡ seen

followed_by : (m : Meaning) (wire : List ℕ) (view : History) (division : Division) (newer : List Spelled) → view_in division ≡ view → view_in division ≡ deeds_for (newer ++ plain_hi ∷ plain_asks ∷ []) → AllMeant m wire (plain_hi ∷ plain_asks ∷ [])
    → Followed m wire (deeds_for (newer ++ plain_hi ∷ plain_asks ∷ [])) view
followed_by m wire view division newer main is meant = record {
  request = request_same (request_of m) (request_of two_bytes) meant.1.0;
  hi = same_bytes 1 1 (block (blksize_of m) wire 1) (codes "hi") meant.0;
  is = sym main ∙ is;
}

pub begun : (m : Meaning) (wire : List ℕ) (ids : TransferIds) (view : History) (division : Division) → datagrams_of division ≡ brings_hi ∷ asks_for_a ∷ [] → view_in division ≡ view → HaveLabels at_client m wire ids division
    → Followed m wire (Took (Data 1) ∷ Sent Req ∷ []) view
begun m wire ids view division whole main labels =
    let meant = client_meant m wire ids [] plain_hi plain_asks division whole labels (hi_spelled, (request_spelled, tt)) refl in
    followed_by m wire view division [] main meant.0 meant.1

-- with one datagram more
pub followed : (m : Meaning) (wire : List ℕ) (ids : TransferIds) (last : Spelled) (view : History) (division : Division) → datagrams_of division ≡ last.0 ∷ brings_hi ∷ asks_for_a ∷ [] → view_in division ≡ view → HaveLabels at_client m wire ids division
    → (all_spell (last ∷ []) && (same_dir Out Out && (same_dir In In && (not_request plain_hi.1 && all_near (peer_of brings_hi) (last ∷ plain_hi ∷ plain_asks ∷ []))))) ≡ true
    → Followed m wire (deed_for last.0.dir last.1 ∷ Took (Data 1) ∷ Sent Req ∷ []) view
followed m wire ids last view division whole main labels test =
    let meant = client_meant m wire ids (last ∷ []) plain_hi plain_asks division whole labels (hi_spelled, (request_spelled, tt)) test in
    followed_by m wire view division (last ∷ []) main meant.0 meant.1.1
