-- What is found of a datagram between the ends by where it belongs, and what is kept of it.
use Rattle.std.proofs.Common.{◌≡◌, ◌⊎◌, ◌<◌, ℕ, Bool, true, false, List, [], ◌∷◌, Option, Some, None, Result, Ok, Err, inl, inr, refl, sym, subst, ap, ◌∙◌, arith, ◌&&◌, ◌==◌, map, IfErr, IfOk, IsErrAnd}
use Rattle.std.specs.List.{list_any}
use Rattle.std.proofs.lemmas.Bool.{true≢false, cases_Bool, and_parts}
use Rattle.tftp_packet.specs.{Message, RequestParts, Spells, FirstFault, PacketFault, Client, Server}
use Rattle.tftp_packet.proofs.NoFault.{no_fault}
use Rattle.tftp_packet.specs.Hosts.{same_peer}
use Rattle.law_model.specs.Rules.{first_of}
use Rattle.law_model.specs.{PortRule}
use Rattle.tftp_judge.specs.{NoneBreaks, Finds, PassError}
use Rattle.law_end.specs.{OneEnded, Passes, number_of, Rule}
use Rattle.law_end.specs.declared.rule.Rule.TheVariants as rule
use Rattle.law_end.proofs.Division.RouteTests.{is_same, same_is}
use Rattle.law_end.proofs.Division.Divided.{any_none}
use Rattle.law_model.specs.Model.Roles.{receiver_of}
use Rattle.law_tap.specs.{TapDatagram, TapSides, AreApart, kept_of, asks_in, ends_in, has_gone, is_passing, tap_route, tap_tests, transfer_between, BreaksNoTapRule, FirstTapAsked, FirstTapBroken, IsTapRead, KeptBreaks, LateBroken, PassingBreaks, SidesBreak, TapBroken, TapPasses, header_at, kept_between, recorded_at, TapRoute}
use Rattle.law_tap.specs.declared.route.TapRoute.TheVariants as route
use Rattle.law_tap.proofs.KeptOf.{any_skip, kept_in}
use Rattle.law_tap.proofs.TapTests.{source_is}
use Rattle.judge_tap.specs.{IsKeptAtTap, IsTapTransfer, TapTransfer, BeginsAtTap, FindsAtTap, IsNoRequest, IsReadUnless, ReceiverBreaks, TransferBreaks}
use Rattle.tftp_judge.specs.declared.pass_error.PassError.TheVariants.{Broken as Breaks, Memory}
use Rattle.judge_tap.proofs.KeptLawful.{kept_lawful}
use Rattle.judge_tap.proofs.Receivings.{kept_alone}
use Rattle.judge_tap.proofs.TransferFound.{asked_first, asked_stays}

-- ---- a datagram of the transfer

-- its route breaks no rule
pub sides_none : (d : TapDatagram) (r : TapRoute) → is_passing r ≡ true → (broken : Rule) → SidesBreak r d broken → ⊥
sides_none d r passing (rule.Port PortRule.Foreign) b = true≢false (sym passing ∙ ap is_passing b)
sides_none d r passing (rule.Port PortRule.Wrong) b = true≢false (sym passing ∙ ap is_passing b)
sides_none d r passing (rule.Port PortRule.BadAnswer) b = elim b [ inl bad ↦ true≢false (sym passing ∙ ap is_passing bad) | inr other ↦ true≢false (sym passing ∙ ap is_passing other.0) ]
sides_none d r passing broken b = absurd b

read_passing : (d : TapDatagram) (r : TapRoute) → is_passing r ≡ true → (m : Message) → Spells d.payload m → IsTapRead r d
read_passing d route.Request passing m says = (m, says)
read_passing d route.FromClient passing m says = (m, says)
read_passing d route.FromServer passing m says = (m, says)
read_passing d route.Stray passing m says = tt
read_passing d _ passing m says = absurd (true≢false (sym passing))

module _ (s : TapSides) (earlier : List TapDatagram) (d : TapDatagram) (passing : is_passing (tap_route s earlier d) ≡ true) where
  abbrev passed : List TapDatagram
  passed = transfer_between s earlier

  to_tap : (r : Rule) → TransferBreaks s passed (tap_route s earlier d) d r → TapBroken s earlier d r
  to_tap r (inl (inl b)) = inr (passing, inl b)
  to_tap r (inl (inr b)) = inr (passing, inr (inl b))
  to_tap r (inr b) = inr (passing, inr (inr b))

  of_tap : (r : Rule) → TapBroken s earlier d r → TransferBreaks s passed (tap_route s earlier d) d r
  of_tap r (inl b) = absurd (sides_none d (tap_route s earlier d) passing r b)
  of_tap r (inr (p, inl b)) = inl (inl b)
  of_tap r (inr (p, inr (inl b))) = inl (inr b)
  of_tap r (inr (p, inr (inr b))) = inr b

  pub message_found : (After : Type 0) (result : Result (Unit {0}) PassError) → Finds (TransferBreaks s passed (tap_route s earlier d) d) After result → IsReadUnless result d.payload → FindsAtTap s earlier d After result
  message_found After (Ok u) f read = (record { read = read_passing d (tap_route s earlier d) passing read.0 read.1; lawful = λ r b. f.0 r (of_tap r b) }, f.1)
  message_found After (Err (Breaks broken)) f read = record { breaks = to_tap broken f.0; first = λ r low b. f.1 r low (of_tap r b) }
  message_found After (Err Memory) f read = record { read = read_passing d (tap_route s earlier d) passing read.0 read.1; lawful = λ r b. f r (of_tap r b) }

  -- ---- where it begins the transfer

  module _ (apart : AreApart s) (none : transfer_between s earlier ≡ []) where
    none_asked : (asked : RequestParts) → FirstTapAsked s passed asked → ⊥
    none_asked asked first = let bad : None ≡ Some first.0 = sym (ap (λ (l : List TapDatagram). first_of (tap_tests s).asks l) none) ∙ first.1 in cc

    nothing_late : (r : Rule) → LateBroken s passed d r ⊎ KeptBreaks s passed d r → ⊥
    nothing_late r (inl b) = none_asked b.asked b.first
    nothing_late r (inr b) = none_asked b.asked b.first

    -- before the first request only these two rules can be broken
    only_two : (r : Rule) → TapBroken s earlier d r → PassingBreaks s [] (tap_route s earlier d) d r
    only_two r (inl b) = absurd (sides_none d (tap_route s earlier d) passing r b)
    only_two r (inr (p, inl b)) = subst (λ (l : List TapDatagram). PassingBreaks s l (tap_route s earlier d) d r) none b
    only_two r (inr (p, inr b)) = absurd (nothing_late r b)

    passing_first : (r : Rule) → PassingBreaks s [] (tap_route s earlier d) d r → ((r ≡ rule.NoRequest) × (tap_route s earlier d ≡ route.FromServer)) ⊎ ((fault : PacketFault) × (r ≡ rule.Malformed fault) × FirstFault d.payload fault)
    passing_first rule.NoRequest b = inl (refl, b.1)
    passing_first (rule.Malformed fault) b = inr (fault, refl, b)
    passing_first rule.WrongKind (asked, first, e, at, rest) = let bad : None ≡ Some first.0 = first.1 in cc
    passing_first rule.AfterError b = absurd (any_none _ b.before)
    passing_first rule.RequestChanged (first, now, at, source, says, differs) = let bad : None ≡ Some at.0 = at.1 in cc
    passing_first r b = absurd b

    -- one of the server's
    pub server_found : d.source ≡ s.server → FirstTapBroken s earlier d rule.NoRequest
    server_found source = record {
      breaks = inr (passing, inl (ap (list_any (tap_tests s).asks) none, at));
      first = λ r low b. elim (passing_first r (only_two r b)) [
        | inl is ↦ absurd (low_no r low is.0)
        | inr is ↦ absurd (low_bad r is.0 low is.1)
      ];
    }
      where
        low_no : (r : Rule) → number_of r < 4 → r ≡ rule.NoRequest → ⊥
        low_no r low is = let four : number_of r ≡ 4 = ap number_of is in omega (arith, low, four)

        low_bad : (r : Rule) (fault : PacketFault) → number_of r < 4 → r ≡ rule.Malformed fault → ⊥
        low_bad r fault low is = let five : number_of r ≡ 5 = ap number_of is in omega (arith, low, five)

        at : tap_route s earlier d ≡ route.FromServer
        at = by (cases_Bool (same_peer d.destination s.client)) where
          by : (same_peer d.destination s.client ≡ true) ⊎ (same_peer d.destination s.client ≡ false) → tap_route s earlier d ≡ route.FromServer
          by (inl is) = rw (source_is s apart d Server Client source, source_is s apart d Server Server source, is) refl
          by (inr other) = absurd (astray (cases_Bool (has_gone d.destination d.source earlier)) (cases_Bool (ends_in d.payload))) where
            astray : (has_gone d.destination d.source earlier ≡ true) ⊎ (has_gone d.destination d.source earlier ≡ false) → (ends_in d.payload ≡ true) ⊎ (ends_in d.payload ≡ false) → ⊥
            astray (inl gone) (inl ends) = true≢false (sym passing ∙ rw (source_is s apart d Server Client source, source_is s apart d Server Server source, other, gone, ends) refl)
            astray (inl gone) (inr ends) = true≢false (sym passing ∙ rw (source_is s apart d Server Client source, source_is s apart d Server Server source, other, gone, ends) refl)
            astray (inr gone) ends = true≢false (sym passing ∙ rw (source_is s apart d Server Client source, source_is s apart d Server Server source, other, gone) refl)

-- ---- the transfer after one more datagram

pub transfer_on : (s : TapSides) (earlier : List TapDatagram) (d : TapDatagram) → is_passing (tap_route s earlier d) ≡ true → transfer_between s (d ∷ earlier) ≡ d ∷ transfer_between s earlier
transfer_on s earlier d on = rw (on) refl

pub transfer_off : (s : TapSides) (earlier : List TapDatagram) (d : TapDatagram) → is_passing (tap_route s earlier d) ≡ false → transfer_between s (d ∷ earlier) ≡ transfer_between s earlier
transfer_off s earlier d off = rw (off) refl

-- where it breaks no rule here, it breaks none at the end that gets the file
pub none_there : (s : TapSides) (earlier : List TapDatagram) (d : TapDatagram) → is_passing (tap_route s earlier d) ≡ true → AreApart s → BreaksNoTapRule s earlier → (asked : RequestParts) → FirstTapAsked s (transfer_between s earlier) asked
    → (m : Message) × Spells d.payload m → NoneBreaks (TransferBreaks s (transfer_between s earlier) (tap_route s earlier d) d) → (r : Rule) → ReceiverBreaks s asked.side (transfer_between s earlier) d r → ⊥
none_there s earlier d passing apart lawful asked first read none r b =
    let passes : TapPasses s earlier d = record { read = read_passing d (tap_route s earlier d) passing read.0 read.1; lawful = λ x t. none x (of_tap s earlier d passing x t) } in
    let transfer = transfer_on s earlier d passing in
    let stays : FirstTapAsked s (d ∷ transfer_between s earlier) asked = asked_stays s (transfer_between s earlier) asked first (tap_route s earlier d) d in
    let ended = kept_lawful s apart (d ∷ earlier) (passes, lawful) asked (subst (λ (l : List TapDatagram). FirstTapAsked s l asked) (sym transfer) stays) in
    let kept = ap (kept_of (tap_tests s) (receiver_of asked.side)) transfer ∙ kept_in (tap_tests s) (receiver_of asked.side) d (transfer_between s earlier) b.0 in
    (subst (λ (l : List TapDatagram). OneEnded (header_at s asked.side) (map (recorded_at s (receiver_of asked.side)) l)) kept ended).0.lawful r b.1

-- where nothing of the transfer has passed, nothing has gone from the server to the client
nothing_gone : (s : TapSides) → AreApart s → (earlier : List TapDatagram) → transfer_between s earlier ≡ [] → has_gone s.server s.client earlier ≡ false
nothing_gone s apart [] none = refl
nothing_gone s apart (x ∷ rest) none = by (nothing_gone s apart rest) (cases_Bool (is_passing (tap_route s rest x))) (cases_Bool (same_peer x.source s.server && same_peer x.destination s.client)) where
  by : (transfer_between s rest ≡ [] → has_gone s.server s.client rest ≡ false) → (is_passing (tap_route s rest x) ≡ true) ⊎ (is_passing (tap_route s rest x) ≡ false) → ((same_peer x.source s.server && same_peer x.destination s.client) ≡ true) ⊎ ((same_peer x.source s.server && same_peer x.destination s.client) ≡ false)
      → has_gone s.server s.client (x ∷ rest) ≡ false
  by before (inl on) there = let bad : x ∷ transfer_between s rest ≡ [] = sym (transfer_on s rest x on) ∙ none in absurd (cc)
  by before (inr off) (inr other) = any_skip (λ d. same_peer d.source s.server && same_peer d.destination s.client) x rest other ∙ before (sym (transfer_off s rest x off) ∙ none)
  by before (inr off) (inl there) =
      let both = and_parts (same_peer x.source s.server) (same_peer x.destination s.client) there in
      let source = is_same x.source s.server both.0 in
      let on : is_passing (tap_route s rest x) ≡ true = rw (source_is s apart x Server Client source, source_is s apart x Server Server source, both.1) refl in
      absurd (true≢false (sym on ∙ off))

-- ---- the client's first request

module _ (s : TapSides) (apart : AreApart s) (earlier : List TapDatagram) (d : TapDatagram) (passing : is_passing (tap_route s earlier d) ≡ true) (none : transfer_between s earlier ≡ []) (source : d.source ≡ s.client) where
  client : same_peer d.source s.client ≡ true
  client = same_is d.source s.client source

  gone : has_gone s.server s.client earlier ≡ false
  gone = nothing_gone s apart earlier none

  pub client_asks : asks_in d.payload ≡ true
  client_asks = by (cases_Bool (asks_in d.payload)) (cases_Bool (same_peer d.destination s.server)) (cases_Bool (has_gone d.destination d.source earlier)) (cases_Bool (ends_in d.payload)) where
    by : (asks_in d.payload ≡ true) ⊎ (asks_in d.payload ≡ false) → (same_peer d.destination s.server ≡ true) ⊎ (same_peer d.destination s.server ≡ false)
        → (has_gone d.destination d.source earlier ≡ true) ⊎ (has_gone d.destination d.source earlier ≡ false) → (ends_in d.payload ≡ true) ⊎ (ends_in d.payload ≡ false) → asks_in d.payload ≡ true
    by (inl asks) there back ends = asks
    by (inr plain) (inl there) back ends = absurd (true≢false (sym passing ∙ rw (client, plain, there, gone) refl))
    by (inr plain) (inr other) (inl back) (inl ends) = absurd (true≢false (sym passing ∙ rw (client, plain, other, back, ends) refl))
    by (inr plain) (inr other) (inl back) (inr goes) = absurd (true≢false (sym passing ∙ rw (client, plain, other, back, goes) refl))
    by (inr plain) (inr other) (inr new) ends = absurd (true≢false (sym passing ∙ rw (client, plain, other, new) refl))

  asked_there : same_peer d.destination s.asked ≡ true
  asked_there = by (cases_Bool (same_peer d.destination s.asked)) where
    by : (same_peer d.destination s.asked ≡ true) ⊎ (same_peer d.destination s.asked ≡ false) → same_peer d.destination s.asked ≡ true
    by (inl there) = there
    by (inr other) = absurd (true≢false (sym passing ∙ rw (client, client_asks, other) refl))

  pub client_to : d.destination ≡ s.asked
  client_to = is_same d.destination s.asked asked_there

  client_at : tap_route s earlier d ≡ route.Request
  client_at = rw (client, client_asks, asked_there) refl

  not_server : tap_route s earlier d ≡ route.FromServer → ⊥
  not_server at = let bad : route.Request ≡ route.FromServer = sym client_at ∙ at in cc

  pub client_bad : (fault : PacketFault) → FirstFault d.payload fault → FirstTapBroken s earlier d (rule.Malformed fault)
  client_bad fault is = record {
    breaks = inr (passing, inl is);
    first = λ r low b. elim (passing_first s earlier d passing apart none r (only_two s earlier d passing apart none r b)) [
      | inl asks ↦ not_server asks.1
      | inr bad ↦ low_bad r bad.0 low bad.1
    ];
  }
    where
      low_bad : (r : Rule) (other : PacketFault) → number_of r < 5 → r ≡ rule.Malformed other → ⊥
      low_bad r other low is = let five : number_of r ≡ 5 = ap number_of is in omega (arith, low, five)

  pub client_passes : (asked : RequestParts) → Spells d.payload (Message.Request asked) → TapPasses s earlier d
  client_passes asked says = record {
    read = subst (λ (r : TapRoute). IsTapRead r d) (sym client_at) (Message.Request asked, says);
    lawful = λ r b. elim (passing_first s earlier d passing apart none r (only_two s earlier d passing apart none r b)) [
      | inl asks ↦ not_server asks.1
      | inr bad ↦ no_fault d.payload (Message.Request asked) bad.0 says.1 bad.2.0
    ];
  }

  pub first_passes : (asked : RequestParts) → Spells d.payload (Message.Request asked) → BreaksNoTapRule s earlier → Passes (header_at s asked.side) [] (recorded_at s (receiver_of asked.side) d)
  first_passes asked says lawful =
      let transfer : transfer_between s (d ∷ earlier) ≡ d ∷ [] = transfer_on s earlier d passing ∙ ap (λ (l : List TapDatagram). d ∷ l) none in
      let first : FirstTapAsked s (transfer_between s (d ∷ earlier)) asked = subst (λ (l : List TapDatagram). FirstTapAsked s l asked) (sym transfer) (asked_first s d asked source says) in
      let ended = subst (λ (l : List TapDatagram). OneEnded (header_at s asked.side) (kept_between s asked.side l)) transfer (kept_lawful s apart (d ∷ earlier) (client_passes asked says, lawful) asked first) in
      let alone = subst (λ (l : List TapDatagram). OneEnded (header_at s asked.side) (map (recorded_at s (receiver_of asked.side)) l)) (kept_alone s asked.side d apart source client_asks) ended in
      alone.0

  pub begun_found : BreaksNoTapRule s earlier → (stop : PassError) → IsNoRequest d.payload stop → BeginsAtTap s earlier d (Err stop)
  begun_found lawful (Breaks (rule.Malformed fault)) is = client_bad fault is
  begun_found lawful (Breaks rule.NoRequest) is = absurd (true≢false (sym client_asks ∙ is))
  begun_found lawful Memory is = client_passes is.0 is.1
  begun_found lawful (Breaks other) is = absurd is

-- ---- any datagram

module _ (s : TapSides) (earlier : List TapDatagram) (d : TapDatagram) where
  -- one of the transfer
  pub main_found : is_passing (tap_route s earlier d) ≡ true → (t : Option TapTransfer) (result : Result (Unit {0}) PassError) → FindsAtTap s earlier d (IsKeptAtTap s (d ∷ transfer_between s earlier) t) result
      → FindsAtTap s earlier d (IsKeptAtTap s (transfer_between s (d ∷ earlier)) t) result
  main_found passing t result f = subst (λ (l : List TapDatagram). FindsAtTap s earlier d (IsKeptAtTap s l t) result) (sym (transfer_on s earlier d passing)) f

  of_route : is_passing (tap_route s earlier d) ≡ false → (r : Rule) → TapBroken s earlier d r → SidesBreak (tap_route s earlier d) d r
  of_route off r (inl b) = b
  of_route off r (inr b) = absurd (true≢false (sym b.0 ∙ off))

  aside : is_passing (tap_route s earlier d) ≡ false → (t : Option TapTransfer) → IsKeptAtTap s (transfer_between s earlier) t → IsKeptAtTap s (transfer_between s (d ∷ earlier)) t
  aside off t kept = subst (λ (l : List TapDatagram). IsKeptAtTap s l t) (sym (transfer_off s earlier d off)) kept

  pub answer_found : tap_route s earlier d ≡ route.StrayAnswer → (text : List ℕ) → Spells d.payload (Message.Error 5 text) → (t : Option TapTransfer) → IsKeptAtTap s (transfer_between s earlier) t
      → TapPasses s earlier d × IsKeptAtTap s (transfer_between s (d ∷ earlier)) t
  answer_found at text says t kept = (
    record {
      read = subst (λ (r : TapRoute). IsTapRead r d) (sym at) (text, says);
      lawful = λ r b. breaks r (subst (λ (x : TapRoute). SidesBreak x d r) at (of_route (ap is_passing at) r b));
    },
    aside (ap is_passing at) t kept,
  )
    where
      breaks : (r : Rule) → SidesBreak route.StrayAnswer d r → ⊥
      breaks (rule.Port PortRule.Foreign) b = cc
      breaks (rule.Port PortRule.Wrong) b = cc
      breaks (rule.Port PortRule.BadAnswer) b = elim b [ inl bad ↦ absurd (cc) | inr other ↦ other.1 text says ]
      breaks r b = absurd b

  -- one that answers no stray as it may
  pub answer_bad : tap_route s earlier d ≡ route.StrayAnswer → ((text : List ℕ) → Spells d.payload (Message.Error 5 text) → ⊥) → FirstTapBroken s earlier d (rule.Port PortRule.BadAnswer)
  answer_bad at none = record { breaks = inl (inr (at, none)); first = λ r low b. lower r low (subst (λ (x : TapRoute). SidesBreak x d r) at (of_route (ap is_passing at) r b)) } where
    lower : (r : Rule) → number_of r < 3 → SidesBreak route.StrayAnswer d r → ⊥
    lower (rule.Port PortRule.Foreign) low b = cc
    lower (rule.Port PortRule.Wrong) low b = cc
    lower (rule.Port PortRule.BadAnswer) low b = omega (arith, low)
    lower r low b = absurd b

  -- what is refused leaves nothing
  pub found_stop : (One Other : Type 0) (e : PassError) → FindsAtTap s earlier d One (Err e) → FindsAtTap s earlier d Other (Err e)
  found_stop One Other (Breaks r) f = f
  found_stop One Other Memory f = f

-- ---- which end it comes from

abbrev pub is_from_client : TapRoute → Bool
is_from_client route.Request = true
is_from_client route.FromClient = true
is_from_client _ = false

abbrev pub is_from_server : TapRoute → Bool
is_from_server route.FromServer = true
is_from_server _ = false

abbrev Test : Bool → Type 0
Test b = (b ≡ true) ⊎ (b ≡ false)

module _ (s : TapSides) (earlier : List TapDatagram) (d : TapDatagram) where
  pub source_client : is_from_client (tap_route s earlier d) ≡ true → d.source ≡ s.client
  source_client on = by (cases_Bool (same_peer d.source s.client)) (cases_Bool (same_peer d.source s.server)) (cases_Bool (same_peer d.destination s.client)) where
    astray : is_from_client (tap_route s earlier d) ≡ true → same_peer d.source s.client ≡ false → same_peer d.source s.server ≡ true → same_peer d.destination s.client ≡ false
        → Test (has_gone d.destination d.source earlier) → Test (ends_in d.payload) → ⊥
    astray on client server to (inl gone) (inl ends) = true≢false (sym on ∙ rw (client, server, to, gone, ends) refl)
    astray on client server to (inl gone) (inr ends) = true≢false (sym on ∙ rw (client, server, to, gone, ends) refl)
    astray on client server to (inr gone) ends = true≢false (sym on ∙ rw (client, server, to, gone) refl)

    elsewhere : same_peer d.source s.client ≡ false → same_peer d.source s.server ≡ false → same_peer d.destination s.client ≡ false → Test (same_peer d.destination s.server) → Test ((s.server.port == s.asked.port) && asks_in d.payload) → ⊥
    elsewhere client server to (inl there) (inl asks) = true≢false (sym on ∙ rw (client, server, to, there, asks) refl)
    elsewhere client server to (inl there) (inr plain) = true≢false (sym on ∙ rw (client, server, to, there, plain) refl)
    elsewhere client server to (inr other) asks = true≢false (sym on ∙ rw (client, server, to, other) refl)

    by : Test (same_peer d.source s.client) → Test (same_peer d.source s.server) → Test (same_peer d.destination s.client) → d.source ≡ s.client
    by (inl client) server to = is_same d.source s.client client
    by (inr client) (inl server) (inl to) = absurd (true≢false (sym on ∙ rw (client, server, to) refl))
    by (inr client) (inl server) (inr to) = absurd (astray on client server to (cases_Bool (has_gone d.destination d.source earlier)) (cases_Bool (ends_in d.payload)))
    by (inr client) (inr server) (inl to) = absurd (true≢false (sym on ∙ rw (client, server, to) refl))
    by (inr client) (inr server) (inr to) = absurd (elsewhere client server to (cases_Bool (same_peer d.destination s.server)) (cases_Bool ((s.server.port == s.asked.port) && asks_in d.payload)))

  pub source_server : is_from_server (tap_route s earlier d) ≡ true → d.source ≡ s.server
  source_server on = by (cases_Bool (same_peer d.source s.server)) (cases_Bool (same_peer d.source s.client)) where
    asking : same_peer d.source s.client ≡ true → asks_in d.payload ≡ true → Test (same_peer d.destination s.asked) → ⊥
    asking client asks (inl there) = true≢false (sym on ∙ rw (client, asks, there) refl)
    asking client asks (inr other) = true≢false (sym on ∙ rw (client, asks, other) refl)

    saying : same_peer d.source s.client ≡ true → asks_in d.payload ≡ false → Test (same_peer d.destination s.server) → Test (has_gone s.server s.client earlier) → Test (has_gone d.destination d.source earlier) → Test (ends_in d.payload) → ⊥
    saying client plain (inl there) (inl answered) gone ends = true≢false (sym on ∙ rw (client, plain, there, answered) refl)
    saying client plain (inl there) (inr silent) gone ends = true≢false (sym on ∙ rw (client, plain, there, silent) refl)
    saying client plain (inr other) answered (inl gone) (inl ends) = true≢false (sym on ∙ rw (client, plain, other, gone, ends) refl)
    saying client plain (inr other) answered (inl gone) (inr goes) = true≢false (sym on ∙ rw (client, plain, other, gone, goes) refl)
    saying client plain (inr other) answered (inr new) ends = true≢false (sym on ∙ rw (client, plain, other, new) refl)

    elsewhere : same_peer d.source s.client ≡ false → same_peer d.source s.server ≡ false → Test (same_peer d.destination s.client) → Test (same_peer d.destination s.server) → Test ((s.server.port == s.asked.port) && asks_in d.payload) → ⊥
    elsewhere client server (inl to) there asks = true≢false (sym on ∙ rw (client, server, to) refl)
    elsewhere client server (inr to) (inl there) (inl asks) = true≢false (sym on ∙ rw (client, server, to, there, asks) refl)
    elsewhere client server (inr to) (inl there) (inr plain) = true≢false (sym on ∙ rw (client, server, to, there, plain) refl)
    elsewhere client server (inr to) (inr other) asks = true≢false (sym on ∙ rw (client, server, to, other) refl)

    of_client : same_peer d.source s.client ≡ true → Test (asks_in d.payload) → ⊥
    of_client client (inl asks) = asking client asks (cases_Bool (same_peer d.destination s.asked))
    of_client client (inr plain) = saying client plain (cases_Bool (same_peer d.destination s.server)) (cases_Bool (has_gone s.server s.client earlier)) (cases_Bool (has_gone d.destination d.source earlier)) (cases_Bool (ends_in d.payload))

    by : Test (same_peer d.source s.server) → Test (same_peer d.source s.client) → d.source ≡ s.server
    by (inl server) client = is_same d.source s.server server
    by (inr server) (inl client) = absurd (of_client client (cases_Bool (asks_in d.payload)))
    by (inr server) (inr client) = absurd (elsewhere client server (cases_Bool (same_peer d.destination s.client)) (cases_Bool (same_peer d.destination s.server)) (cases_Bool ((s.server.port == s.asked.port) && asks_in d.payload)))

-- ---- where memory runs out for the first request

pub wants_memory : {X : Type 0} (payload : List ℕ) (asked : RequestParts) → Spells payload (Message.Request asked) → (r : Result X PassError) → IsErrAnd r (λ stop. stop ≡ Memory) → IfErr r (λ stop. IsNoRequest payload stop)
wants_memory payload asked says (Ok x) is = tt
wants_memory payload asked says (Err e) is = subst (IsNoRequest payload) (sym is) (asked, says)

pub begun_with : (s : TapSides) (earlier : List TapDatagram) (d : TapDatagram) (result : Result TapTransfer PassError) → TapPasses s earlier d → IfOk result (λ t. IsTapTransfer t s (d ∷ [])) → IfErr result (λ stop. stop ≡ Memory)
    → BeginsAtTap s earlier d result
begun_with s earlier d (Ok t) passes ok err = (passes, ok)
begun_with s earlier d (Err (Breaks r)) passes ok err = cc
begun_with s earlier d (Err Memory) passes ok err = passes
