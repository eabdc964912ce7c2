-- What a datagram between the ends is taken for where numbers begin again, and what the end that gets the file takes it for.
use Rattle.std.proofs.Common.{◌≡◌, ℕ, ◌<◌, ◌≤◌, ◌&&◌, Bool, true, false, List, [], ◌∷◌, Any, Contains, map, Option, Some, None, inl, inr, refl, sym, subst, ap, ◌∙◌, arith}
use Rattle.std.specs.List.{AllByRecursion}
use Rattle.std.proofs.lemmas.Bool.{cases_Bool, true≢false}
use Rattle.tftp_packet.specs.{Message, RequestParts, Spells, End, Client, Server, Rollover, opcode_of}
use Rattle.tftp_packet.specs.Hosts.{Datagram, same_peer}
use Rattle.tftp_packet.proofs.RoundsLemmas.Greatest.{most_blocks}
use Rattle.law_model.specs.Model.{MachinePacket, Req}
use Rattle.law_model.specs.Model.Roles.{receiver_of}
use Rattle.law_model.specs.Rules.{HasPassed, IsHigh, is_of_transfer, route_of, transfer_of}
use Rattle.law_model.proofs.ModelLemmas.Members.{contains_cases, contains_none}
use Rattle.law_end.specs.{AreRoutedBy, datagrams_of, packet_of, packet_route, says_some}
use Rattle.law_end.proofs.Accord.HighestNumbers.{either_way, renamed, some_way}
use Rattle.law_end.proofs.Division.Divided.{any_cases, any_first, any_later, any_none}
use Rattle.law_rollover.specs.{IsTaken, IsTakenFor, unrolled_payload, with_payload}
use Rattle.law_rollover.proofs.Payloads.{error_back, error_on, first_stays}
use Rattle.law_rollover.proofs.Shown.{one_greatest}
use Rattle.law_rollover.proofs.Unrolling.{opcode_stays}
use Rattle.law_tap.specs.{TapDatagram, TapSides, AreApart, BreaksNoTapRule, FirstTapAsked, HasKind, IsBlock, IsHighBetween, IsSaid, IsTakenBetween, Says, TapRoute, deed_at, header_at, is_passing, kept_between, kept_of, lossy_route, recorded_at, side_of, tap_tests, transfer_between, with_tap_payload}
use Rattle.law_tap.proofs.KeptOf.{kept_plain, kept_there}
use Rattle.law_tap.proofs.LossySaid.{any_there}
use Rattle.law_tap.proofs.LossyExplained.{sends, told_data}
use Rattle.law_tap.proofs.TapHighest.{nothing_high}
use Rattle.law_tap.proofs.TapLawful.{mains_lawful, parted, rights}
use Rattle.law_tap.proofs.TapMade.{known_kept, recorded_payload, told_some}
use Rattle.law_tap.proofs.TapRecorded.{datagram_in, datagrams_each, header_of_end, kept_each, kept_map, mains_carried, pair_tests, placed, placed_datagrams, placed_routes, IsCarried}
use Rattle.law_tap.proofs.TapRouted.{Carried, mains, transfer_is}
use Rattle.law_tap.proofs.TapTests.{asks_message, asks_says, ends_message, ends_says}
use Rattle.judge_tap.specs.{IsKeptAtTap, TapTransfer}
use Rattle.judge_tap.proofs.LossyFound.{is_from_client, is_from_server, lossy_client, lossy_server}
use Rattle.judge_tap.proofs.ToldFound.{known_of, said_there, transfer_there}

-- ---- payloads

module _ (passed : List TapDatagram) (payload now : List ℕ) where
  pub opcode_taken : (rollover : Option Rollover) → IsTakenBetween rollover passed payload now → opcode_of now ≡ opcode_of payload
  opcode_taken None is = ap opcode_of is
  opcode_taken (Some r) (high, top, is) = ap opcode_of is ∙ opcode_stays r high payload

  pub error_taken : (rollover : Option Rollover) → IsTakenBetween rollover passed payload now → (code : ℕ) (text : List ℕ) → Spells payload (Message.Error code text) → Spells now (Message.Error code text)
  error_taken None is code text spells = subst (λ p. Spells p (Message.Error code text)) (sym is) spells
  error_taken (Some r) (high, top, is) code text spells = subst (λ p. Spells p (Message.Error code text)) (sym is) (error_on r high payload code text spells)

  pub error_given : (rollover : Option Rollover) → IsTakenBetween rollover passed payload now → (code : ℕ) (text : List ℕ) → Spells now (Message.Error code text) → Spells payload (Message.Error code text)
  error_given None is code text spells = subst (λ p. Spells p (Message.Error code text)) is spells
  error_given (Some r) (high, top, is) code text spells = error_back r high payload code text (subst (λ p. Spells p (Message.Error code text)) is spells)

  -- the first datagram is taken as it is
  pub first_taken : (rollover : Option Rollover) → IsTakenBetween rollover passed payload now → passed ≡ [] → AllByRecursion (λ b. b < 256) payload → now ≡ payload
  first_taken None is none all = is
  first_taken (Some r) (high, top, is) none all =
      let low : high ≡ 0 = one_greatest _ high 0 (subst (λ (ds : List TapDatagram). IsHighBetween ds high) none top) nothing_high in
      is ∙ ap (λ k. unrolled_payload r k payload) low ∙ first_stays r payload all

  -- which block is the highest is told by each that is
  pub near_taken : (r : Rollover) (highest : ℕ) → IsHighBetween passed highest → IsTakenBetween (Some r) passed payload now → now ≡ unrolled_payload r highest payload
  near_taken r highest is (high, top, same) = same ∙ ap (λ k. unrolled_payload r k payload) (one_greatest _ high highest top is)

-- ---- the highest block

pub kept_high : (s : TapSides) (passed : List TapDatagram) (kept : Option TapTransfer) → IsKeptAtTap s passed kept → (high : ℕ) × IsHighBetween passed high
kept_high s passed None none = (0, subst (λ (ds : List TapDatagram). IsHighBetween ds 0) (sym none) nothing_high)
kept_high s passed (Some transfer) are = (transfer.highest, are.highest)

module _ (s : TapSides) (apart : AreApart s) where
  -- an end says what is of the transfer
  source_in : (earlier : List TapDatagram) (x : TapDatagram) → Contains (transfer_between s earlier) x → (e : End) × (x.source ≡ side_of s e)
  source_in earlier x at = by (lossy_route s x) refl (transfer_there s apart earlier x at).1 where
    by : (r : TapRoute) → lossy_route s x ≡ r → is_passing (lossy_route s x) ≡ true → (e : End) × (x.source ≡ side_of s e)
    by TapRoute.Request is on = (Client, lossy_client s x (ap is_from_client is))
    by TapRoute.FromClient is on = (Client, lossy_client s x (ap is_from_client is))
    by TapRoute.FromServer is on = (Server, lossy_server s x (ap is_from_server is))
    by _ is on = absurd (true≢false (sym on ∙ ap is_passing is))

  -- no block of what breaks no rule is above the greatest
  pub high_within : (earlier : List TapDatagram) → BreaksNoTapRule s earlier → (high : ℕ) → IsHighBetween (transfer_between s earlier) high → high ≤ 8388607
  high_within earlier lawful high is = elim is.member [
    | inl none ↦ omega (arith, none)
    | inr some ↦ let (x, at, says) = any_there (Says (IsBlock high)) (transfer_between s earlier) some in of_block x at says.0 says.1 says.2
  ]
    where
      of_block : (x : TapDatagram) → Contains (transfer_between s earlier) x → (m : Message) → Spells x.payload m → IsBlock high m → high ≤ 8388607
      of_block x at (Message.Data i bytes) spells kind =
          let k = known_of s apart earlier lawful in
          let (e, source) = source_in earlier x at in
          let said : IsSaid s earlier e (Message.Data i bytes) = said_there s apart earlier e (Message.Data i bytes) x at source spells in
          let low = (sends s apart earlier k e i (told_data s apart earlier k e i bytes said).1).2 in
          let few = k.fits.numbered in
          let most = most_blocks s.rollover in
          omega (arith, kind, low, few, most)
      of_block x at _ spells kind = absurd kind

-- ---- at the end that gets the file

there_any : {X : Type 0} (P : X → Type 0) (xs : List X) (x : X) → Contains xs x → P x → Any P xs
there_any P [] x at p = absurd (contains_none x at)
there_any P (y ∷ xs) x at p = elim (contains_cases y xs x at) [
  | inl now ↦ any_first P y xs (subst P (sym now) p)
  | inr before ↦ any_later P y xs (there_any P xs x before p)
]

and_false : (b : Bool) → (b && false) ≡ false
and_false true = refl
and_false false = refl

plain_block : (k : ℕ) (m : Message) → IsBlock k m → (asks_message m ≡ false) × (ends_message m ≡ false)
plain_block k (Message.Data i bytes) kind = (refl, refl)
plain_block k _ kind = absurd kind

-- it keeps each DATA
high_kept : (s : TapSides) (r : End) (passed : List TapDatagram) (high : ℕ) → IsHighBetween passed high → IsHighBetween (kept_of (tap_tests s) r passed) high
high_kept s r passed high is = renamed (λ k. HasKind (IsBlock k) passed) (λ k. HasKind (IsBlock k) (kept_of (tap_tests s) r passed)) (λ k some any. stays k any) was high is where
  stays : (k : ℕ) → HasKind (IsBlock k) passed → HasKind (IsBlock k) (kept_of (tap_tests s) r passed)
  stays k any =
      let (x, at, says) = any_there (Says (IsBlock k)) passed any in
      let plain = plain_block k says.0 says.2 in
      there_any (Says (IsBlock k)) (kept_of (tap_tests s) r passed) x
      (kept_plain (tap_tests s) r passed x at
      (ap (λ b. same_peer x.source s.client && b) (asks_says x.payload says.0 says.1 ∙ plain.0) ∙ and_false (same_peer x.source s.client))
      (λ e. ap (λ b. same_peer x.source (side_of s e) && b) (ends_says x.payload says.0 says.1 ∙ plain.1) ∙ and_false (same_peer x.source (side_of s e))))
      says

  was : (k : ℕ) → HasKind (IsBlock k) (kept_of (tap_tests s) r passed) → HasKind (IsBlock k) passed
  was k any = let (x, at, says) = any_there (Says (IsBlock k)) (kept_of (tap_tests s) r passed) any in there_any (Says (IsBlock k)) passed x (kept_there (tap_tests s) r passed x at) says

-- and records it
high_recorded : (s : TapSides) (r : End) (ks : List TapDatagram) (high : ℕ) → IsHighBetween ks high → IsHigh (map (recorded_at s r) ks) high
high_recorded s r ks high is = renamed (λ k. HasKind (IsBlock k) ks) (λ k. (bytes : List ℕ) × HasPassed (Message.Data k bytes) (map (recorded_at s r) ks)) (λ k some any. on ks k any) (λ k has. back ks k has.0 has.1) high is where
  on : (xs : List TapDatagram) (k : ℕ) → HasKind (IsBlock k) xs → (bytes : List ℕ) × HasPassed (Message.Data k bytes) (map (recorded_at s r) xs)
  on [] k any = absurd (any_none (Says (IsBlock k)) any)
  on (x ∷ xs) k any = elim (any_cases (Says (IsBlock k)) x xs any) [
    | inl says ↦ of_block says.0 says.1 says.2
    | inr before ↦
        let (bytes, has) = on xs k before in
        let (dir, p) = some_way (Message.Data k bytes) (map (recorded_at s r) xs) has in
        (bytes, either_way dir (Message.Data k bytes) (map (recorded_at s r) (x ∷ xs)) (inr p))
  ]
    where
      of_block : (m : Message) → Spells x.payload m → IsBlock k m → (bytes : List ℕ) × HasPassed (Message.Data k bytes) (map (recorded_at s r) (x ∷ xs))
      of_block (Message.Data i bytes) spells kind = (
        bytes,
        either_way (recorded_at s r x).dir (Message.Data k bytes) (map (recorded_at s r) (x ∷ xs))
            (inl (refl, subst (λ (l : List ℕ). Spells l (Message.Data k bytes)) (sym (recorded_payload s r x)) (subst (λ j. Spells x.payload (Message.Data j bytes)) kind spells))),
      )
      of_block _ spells kind = absurd kind

  back : (xs : List TapDatagram) (k : ℕ) (bytes : List ℕ) → HasPassed (Message.Data k bytes) (map (recorded_at s r) xs) → HasKind (IsBlock k) xs
  back [] k bytes has = absurd (elim has [ inl none ↦ none | inr none ↦ none ])
  back (x ∷ xs) k bytes has =
      let (dir, p) = some_way (Message.Data k bytes) (map (recorded_at s r) (x ∷ xs)) has in
      elim p [
        | inl now ↦ any_first (Says (IsBlock k)) x xs (Message.Data k bytes, subst (λ (l : List ℕ). Spells l (Message.Data k bytes)) (recorded_payload s r x) now.1, refl)
        | inr before ↦ any_later (Says (IsBlock k)) x xs (back xs k bytes (either_way dir (Message.Data k bytes) (map (recorded_at s r) xs) before))
      ]

-- all that it keeps is of the transfer there
module _ (s : TapSides) (apart : AreApart s) where
  of_packet : (p : MachinePacket) → is_of_transfer (packet_route p) ≡ true
  of_packet Req = refl
  of_packet _ = refl

  placed_transfer : (r : End) (ks : List Carried) → AreRoutedBy (header_of_end s r) says_some (placed s r ks) → transfer_of (header_of_end s r) (datagrams_of (placed s r ks)) ≡ datagrams_of (placed s r ks)
  placed_transfer r [] routed = refl
  placed_transfer r (k ∷ ks) routed =
      let on : is_of_transfer (route_of (header_of_end s r) (datagrams_of (placed s r ks)) (recorded_at s r k.datagram)) ≡ true
      = ap is_of_transfer routed.0 ∙ of_packet (packet_of (deed_at r k.pass.from k.pass.packet)) in
      rw (on, placed_transfer r ks routed.2) refl

  kept_transfer : (earlier : List TapDatagram) → BreaksNoTapRule s earlier → (asked : RequestParts) → FirstTapAsked s (transfer_between s earlier) asked
      → transfer_of (header_at s asked.side) (kept_between s asked.side (transfer_between s earlier)) ≡ kept_between s asked.side (transfer_between s earlier)
  kept_transfer earlier passes asked first =
      let x = parted s apart earlier passes in
      let cs : List Carried = mains x.division in
      let each = mains_carried s says_some x.division x.labels in
      let lawful = mains_lawful s apart x.division x.labels (subst (BreaksNoTapRule s) (sym x.whole) passes) in
      let same : transfer_between s earlier ≡ map datagram_in cs = ap (transfer_between s) (sym x.whole) ∙ transfer_is s apart x.division x.labels in
      let first_in : FirstTapAsked s (map datagram_in cs) asked = subst (λ (l : List TapDatagram). FirstTapAsked s l asked) same first in
      let r = receiver_of asked.side in
      let h = header_at s asked.side in
      let ks = kept_of pair_tests r cs in
      let kept : kept_of (tap_tests s) r (map datagram_in cs) ≡ map datagram_in ks = kept_map datagram_in pair_tests (tap_tests s) r cs (datagrams_each s apart cs each) in
      let known = known_kept s apart asked cs each lawful (rights s apart asked cs lawful each (inr first_in)) (inr first_in) in
      let routed = placed_routes s apart says_some told_some r ks (kept_each (IsCarried s says_some) pair_tests r cs each) known in
      subst (λ (l : List TapDatagram). transfer_of h (kept_between s asked.side l) ≡ kept_between s asked.side l) (sym same)
      (subst (λ (l : List TapDatagram). transfer_of h (map (recorded_at s r) l) ≡ map (recorded_at s r) l) (sym kept)
      (subst (λ (l : List Datagram). transfer_of h l ≡ l) (placed_datagrams s r ks) (placed_transfer r ks routed)))

  -- so the highest block there is that between the ends
  high_there : (earlier : List TapDatagram) → BreaksNoTapRule s earlier → (asked : RequestParts) → FirstTapAsked s (transfer_between s earlier) asked → (high : ℕ) → IsHighBetween (transfer_between s earlier) high
      → IsHigh (transfer_of (header_at s asked.side) (kept_between s asked.side (transfer_between s earlier))) high
  high_there earlier passes asked first high is =
      subst (λ (l : List Datagram). IsHigh l high) (sym (kept_transfer earlier passes asked first))
      (high_recorded s (receiver_of asked.side) (kept_of (tap_tests s) (receiver_of asked.side) (transfer_between s earlier)) high
      (high_kept s (receiver_of asked.side) (transfer_between s earlier) high is))

  payload_moves : (r : End) (d : TapDatagram) (now : List ℕ) → recorded_at s r (with_tap_payload d now) ≡ with_payload (recorded_at s r d) (recorded_at s r (with_tap_payload d now)).payload
  payload_moves r d now = elim (cases_Bool (same_peer d.source (side_of s r))) [ inl own ↦ rw (own) refl | inr other ↦ rw (other) refl ]

  -- what that end takes the datagram for
  pub recorded_for : (rollover : Option Rollover) (earlier : List TapDatagram) → BreaksNoTapRule s earlier → (asked : RequestParts) → FirstTapAsked s (transfer_between s earlier) asked
      → (d : TapDatagram) (now : List ℕ) (there : Datagram) → there ≡ recorded_at s (receiver_of asked.side) d → IsTakenBetween rollover (transfer_between s earlier) d.payload now
      → IsTaken rollover (transfer_of (header_at s asked.side) (kept_between s asked.side (transfer_between s earlier))) there (recorded_at s (receiver_of asked.side) (with_tap_payload d now))
  recorded_for rollover earlier passes asked first d now there is taken =
      let r = receiver_of asked.side in
      let new : (recorded_at s r (with_tap_payload d now)).payload ≡ now = recorded_payload s r (with_tap_payload d now) in
      let old : there.payload ≡ d.payload = ap (λ (x : Datagram). x.payload) is ∙ recorded_payload s r d in (
        payload_moves r d now ∙ ap (λ (x : Datagram). with_payload x (recorded_at s r (with_tap_payload d now)).payload) (sym is),
        by rollover taken (recorded_at s r (with_tap_payload d now)).payload new old,
      )
    where
      by : (o : Option Rollover) → IsTakenBetween o (transfer_between s earlier) d.payload now → (new_payload : List ℕ) → new_payload ≡ now → there.payload ≡ d.payload
          → IsTakenFor o (transfer_of (header_at s asked.side) (kept_between s asked.side (transfer_between s earlier))) there.payload new_payload
      by None same new_payload new old = new ∙ same ∙ sym old
      by (Some roll) (high, top, same) new_payload new old = (high, high_there earlier passes asked first high top, new ∙ same ∙ ap (unrolled_payload roll high) (sym old))
