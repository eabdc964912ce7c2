-- What is found of one datagram with losses, and for which datagrams what is kept then stands.
use Rattle.std.proofs.Common.{◌≡◌, ◌⊎◌, ℕ, ◌==◌, ◌&&◌, Bool, true, false, List, [], ◌∷◌, Option, Some, None, Result, Ok, Err, inl, inr, refl, sym, subst, ap, ◌∙◌, ◌+◌, length}
use Rattle.std.proofs.lemmas.Bool.{true≢false, cases_Bool}
use Rattle.std.specs.FinMap as map
use Rattle.std.specs.Ordering.{nat_cmp}
use Rattle.tftp_packet.specs.{Message, RequestParts, Spells, meaning, Packet, End, Client, Server}
use Rattle.tftp_packet.specs.{Rollover}
use Rattle.tftp_packet.specs.declared.packet.Packet.TheVariants as packet
use Rattle.tftp_packet.specs.declared.request.RequestView.{RequestView}
use Rattle.tftp_packet.specs.Hosts.{same_peer}
use Rattle.tftp_ends.specs.Blocks.{Held, nothing_held}
use Rattle.law_model.specs.Model.{request_of, two_bytes}
use Rattle.law_model.specs.{PortRule}
use Rattle.law_end.specs.{Rule}
use Rattle.law_end.specs.declared.rule.Rule.TheVariants as rule
use Rattle.law_end.proofs.Division.Divided.{any_cases, any_first, any_later, any_none}
use Rattle.law_end.proofs.Division.RouteTests.{is_same, same_is}
use Rattle.law_end.proofs.Spelled.{spelled_once}
use Rattle.law_tap.specs.{TapDatagram, TapSides, AreApart, AreFigures, BeginsWithRequest, BreaksNoLossyRule, Figures, IsSaid, IsSaidBy, LossyPasses, SidesBreak, IsTapRead, TapRoute, asks_in, ends_in, is_passing, lossy_astray, lossy_route}
use Rattle.law_tap.specs.Losses.{lost}
use Rattle.law_tap.specs.WorkedTap.{request_passes}
use Rattle.law_tap.proofs.CertainBetween.{less_between_lossy}
use Rattle.law_tap.proofs.FiguresAfter.{said_cases}
use Rattle.law_tap.proofs.Left.{loses_none}
use Rattle.law_tap.proofs.LossyCertain.{broken_is_certain}
use Rattle.law_tap.proofs.LossyDecided.{first_passes, message_passes, outside_passes, outside_figures, silent_figures}
use Rattle.law_tap.proofs.LossyNone.{unbroken_is_not_certain}
use Rattle.law_tap.proofs.OneTapDivision.{one_end}
use Rattle.law_tap.proofs.WorkedLosses.{request_says}
use Rattle.tftp_judge.specs.declared.pass_error.PassError.{PassError}
use Rattle.tftp_judge.specs.declared.pass_error.PassError.TheVariants.{Broken, Memory}
use Rattle.judge_tap.specs.declared.lossy_refusal.LossyRefusal.{LossyRefusal}
use Rattle.judge_tap.specs.declared.lossy_refusal.LossyRefusal.TheVariants.{Certain}
use Rattle.judge_tap.specs.{AreSaidNotes, FindsSaid, FindsWithLosses, HasBegun, HasKeptWithLosses, IsErrorSaid, IsKeptWithLosses, IsNotCertain, IsOfferSaid, LossyState, NoneIsSaid, RefusesWithLosses, SaidError, SaidErrors, SaidNotes, error_of}

-- ---- where nothing was said

none_said : (s : TapSides) (earlier : List TapDatagram) → NoneIsSaid s earlier → (e : End) (m : Message) → IsSaid s earlier e m → ⊥
none_said s [] none e m said = any_none (IsSaidBy s e m) said
none_said s (d ∷ earlier) none e m said = elim (any_cases (IsSaidBy s e m) d earlier said) [ inl now ↦ true≢false (sym now.goes ∙ none.0) | inr before ↦ none_said s earlier none.1 e m before ]

none_figures : (s : TapSides) (earlier : List TapDatagram) → NoneIsSaid s earlier → (f : Figures) → AreFigures f s [] → AreFigures f s earlier
none_figures s [] none f are = are
none_figures s (d ∷ earlier) none f are = outside_figures s earlier d none.0 f (none_figures s earlier none.1 f are)

begins_said : (s : TapSides) (earlier : List TapDatagram) → BeginsWithRequest s earlier → (asked : RequestParts) × IsSaid s earlier Client (Message.Request asked)
begins_said s [] begins = absurd begins
begins_said s (d ∷ earlier) (inl begins) = let (asked, said) = begins_said s earlier begins in (asked, any_later (IsSaidBy s Client (Message.Request asked)) d earlier said)
begins_said s (d ∷ earlier) (inr ((asked, says), none)) = (asked, any_first (IsSaidBy s Client (Message.Request asked)) d earlier says)

-- what has begun with its request had so before
begun_before : (s : TapSides) (earlier : List TapDatagram) (d : TapDatagram) → HasBegun s (d ∷ earlier) → HasBegun s earlier
begun_before s earlier d (inl none) = inl none.1
begun_before s earlier d (inr (inl begins)) = inr begins
begun_before s earlier d (inr (inr first)) = inl first.1

-- ---- the first request

pub first_notes : (s : TapSides) (earlier : List TapDatagram) (d : TapDatagram) (rollover : Option Rollover) → rollover ≡ s.rollover → (asked : RequestParts) (f : Figures) (errors : SaidErrors) → AreFigures f s [] → ((e : End) → error_of errors e ≡ None) → (blocks : Held) → blocks ≡ nothing_held
    → NoneIsSaid s earlier → IsSaidBy s Client (Message.Request asked) d → AreSaidNotes (record { rollover = rollover; asked = asked; figures = f; offered = None; blocks = blocks; errors = errors }) s (d ∷ earlier)
first_notes s earlier d rollover follows asked f errors are none_kept blocks empty none says = record {
  rollover = follows;
  request = any_first (IsSaidBy s Client (Message.Request asked)) d earlier says;
  one_request = λ now said. elim (told Client (Message.Request now) said) [ inl is ↦ let one : asked ≡ now = cc in sym one | inr none ↦ absurd none ];
  figures = silent_figures s earlier d Client (Message.Request asked) says (λ k is. absurd (cc)) (λ k bytes is. absurd (cc)) f (none_figures s earlier none f are);
  from_one = λ e k bytes said. elim (told e (Message.Data k bytes) said) [ inl is ↦ absurd (cc) | inr none ↦ absurd none ];
  offered = λ e options said. elim (told e (Message.Oack options) said) [ inl is ↦ absurd (cc) | inr none ↦ none ];
  kept = λ e k bytes said. elim (told e (Message.Data k bytes) said) [ inl is ↦ absurd (cc) | inr none ↦ absurd none ];
  said = λ k bytes at. let both : None ≡ Some bytes = sym (ap (λ b. map.get b k) empty ∙ map.get-empty nat_cmp k) ∙ at in absurd (cc);
  errors = λ e. subst (IsErrorSaid s (d ∷ earlier) e) (sym (none_kept e)) (λ code text said. elim (told e (Message.Error code text) said) [ inl is ↦ absurd (cc) | inr none ↦ none ]);
}
  where
    told : (e : End) (m : Message) → IsSaid s (d ∷ earlier) e m → (Message.Request asked ≡ m) ⊎ ⊥
    told e m said = elim (said_cases s earlier d Client (Message.Request asked) says e m said) [ inl is ↦ inl is | inr before ↦ inr (none_said s earlier none e m before) ]

-- ---- what is none of the transfer

module _ (s : TapSides) (earlier : List TapDatagram) (d : TapDatagram) (out : is_passing (lossy_route s d) ≡ false) where
  said_before : (e : End) (m : Message) → IsSaid s (d ∷ earlier) e m → IsSaid s earlier e m
  said_before e m said = elim (any_cases (IsSaidBy s e m) d earlier said) [ inl now ↦ absurd (true≢false (sym now.goes ∙ out)) | inr before ↦ before ]

  said_still : (e : End) (m : Message) → IsSaid s earlier e m → IsSaid s (d ∷ earlier) e m
  said_still e m said = any_later (IsSaidBy s e m) d earlier said

  offer_outside : (asked : RequestParts) (offered : Option _) → IsOfferSaid s earlier asked offered → IsOfferSaid s (d ∷ earlier) asked offered
  offer_outside asked None none = λ e options said. none e options (said_before e _ said)
  offer_outside asked (Some agreed) was = (was.0, said_still Server _ was.1, λ e options said. was.2 e options (said_before e _ said))

  error_outside : (e : End) (noted : Option SaidError) → IsErrorSaid s earlier e noted → IsErrorSaid s (d ∷ earlier) e noted
  error_outside e None none = λ code text said. none code text (said_before e _ said)
  error_outside e (Some first) was = (said_still e _ was.0, λ code text said. was.1 code text (said_before e _ said))

  notes_outside : (n : SaidNotes) → AreSaidNotes n s earlier → AreSaidNotes n s (d ∷ earlier)
  notes_outside n are = record {
    rollover = are.rollover;
    request = said_still Client _ are.request;
    one_request = λ now said. are.one_request now (said_before Client _ said);
    figures = outside_figures s earlier d out n.figures are.figures;
    from_one = λ e k bytes said. are.from_one e k bytes (said_before e _ said);
    offered = offer_outside n.asked n.offered are.offered;
    kept = λ e k bytes said. are.kept e k bytes (said_before e _ said);
    said = λ k bytes at. said_still _ _ (are.said k bytes at);
    errors = λ e. error_outside e (error_of n.errors e) (are.errors e);
  }

  kept_outside : LossyPasses s earlier d → (late : Bool) (notes : Option SaidNotes) → IsKeptWithLosses s earlier late notes → IsKeptWithLosses s (d ∷ earlier) late notes
  kept_outside passes false None kept = ((passes, kept.0), (out, kept.1))
  kept_outside passes false (Some n) kept = ((passes, kept.0), inl kept.1, notes_outside n kept.2)
  kept_outside passes true notes kept = λ begun. kept (begun_before s earlier d begun)

  -- a stray, or the answer to one
  pub outside_found : IsTapRead (lossy_route s d) d → ((broken : Rule) → SidesBreak (lossy_route s d) d broken → ⊥) → (k : LossyState) → HasKeptWithLosses k s earlier → HasKeptWithLosses k s (d ∷ earlier)
  outside_found read sides k kept = record { sides = kept.sides; kept = kept_outside (outside_passes s earlier d out read sides) k.late k.notes kept.kept }

-- ---- what an end says

module _ (s : TapSides) (earlier : List TapDatagram) (d : TapDatagram) (e : End) (m : Message) (says : IsSaidBy s e m d) where
  -- after the request
  pub notes_found : AreApart s → (n after : SaidNotes) (k : LossyState) → k.sides ≡ s → k.late ≡ false → k.notes ≡ Some after → IsKeptWithLosses s earlier false (Some n) → (found : Result (Unit {0}) PassError)
      → FindsSaid s earlier d n.asked e m (AreSaidNotes after s (d ∷ earlier)) found → FindsWithLosses s earlier d (HasKeptWithLosses k s (d ∷ earlier)) found
  notes_found apart n after k sides early has kept (Ok tt) found = record {
    sides = sides;
    kept = subst (λ b. IsKeptWithLosses s (d ∷ earlier) b k.notes) (sym early) (subst (IsKeptWithLosses s (d ∷ earlier) false) (sym has)
        ((message_passes s earlier d apart e m says n.asked kept.2.one_request found.0, kept.0), inl kept.1, found.1));
  }
  notes_found apart n after k sides early has kept (Err (Broken broken)) found = inr (inr (record { end = e; message = m; says = says; asked = n.asked; request = kept.2.request; breaks = found }))
  notes_found apart n after k sides early has kept (Err Memory) found = (e, m, says, found)

  -- where something else came before the request
  pub late_found : (k : LossyState) → k.late ≡ true → HasKeptWithLosses k s earlier → HasKeptWithLosses k s (d ∷ earlier)
  late_found k late kept = record {
    sides = kept.sides;
    kept = subst (λ b. IsKeptWithLosses s (d ∷ earlier) b k.notes) (sym late) (λ begun. (subst (λ b. IsKeptWithLosses s earlier b k.notes) late kept.kept) (begun_before s earlier d begun));
  }

  -- it is the first of the transfer, and no request
  pub other_found : AreApart s → NoneIsSaid s earlier → ((asked : RequestParts) → e ≡ Client → m ≡ Message.Request asked → ⊥) → (k : LossyState) → k.sides ≡ s → k.late ≡ true → HasKeptWithLosses k s (d ∷ earlier)
  other_found apart none other k sides late = record { sides = sides; kept = subst (λ b. IsKeptWithLosses s (d ∷ earlier) b k.notes) (sym late) by } where
    by : HasBegun s (d ∷ earlier) → ⊥
    by (inl out) = true≢false (sym says.goes ∙ out.0)
    by (inr (inl begins)) = let (asked, said) = begins_said s earlier begins in none_said s earlier none Client (Message.Request asked) said
    by (inr (inr ((asked, now), _))) = other asked (one_end s apart e Client (sym says.source ∙ now.source)) (spelled_once d.payload m (Message.Request asked) says.spells now.spells)

pub request_found : (s : TapSides) (earlier : List TapDatagram) (d : TapDatagram) (asked : RequestParts) (says : IsSaidBy s Client (Message.Request asked) d) → BreaksNoLossyRule s earlier → NoneIsSaid s earlier → (n : SaidNotes) (k : LossyState)
    → k.sides ≡ s → k.late ≡ false → k.notes ≡ Some n → AreSaidNotes n s (d ∷ earlier) → HasKeptWithLosses k s (d ∷ earlier)
request_found s earlier d asked says passes none n k sides early has are = record {
  sides = sides;
  kept = subst (λ b. IsKeptWithLosses s (d ∷ earlier) b k.notes) (sym early) (subst (IsKeptWithLosses s (d ∷ earlier) false) (sym has)
      ((first_passes s earlier d Client (Message.Request asked) says (λ now said. none_said s earlier none Client (Message.Request now) said), passes), inr ((asked, says), none), are));
}

-- ---- by the two sides

abbrev pub is_from_client : TapRoute → Bool
is_from_client TapRoute.Request = true
is_from_client TapRoute.FromClient = true
is_from_client _ = false

abbrev pub is_from_server : TapRoute → Bool
is_from_server TapRoute.FromServer = true
is_from_server _ = false

abbrev Test : Bool → Type 0
Test b = (b ≡ true) ⊎ (b ≡ false)

module _ (s : TapSides) (d : TapDatagram) where
  astray_is_no_end : (t : Bool) → Test (same_peer d.destination s.client) → Test (same_peer d.destination s.server) → Test (ends_in d.payload) → (is_from_client (lossy_astray s d) ≡ false) × (is_from_server (lossy_astray s d) ≡ false)
  astray_is_no_end t (inl to) server ends = (rw (to) refl, rw (to) refl)
  astray_is_no_end t (inr to) (inl there) ends = (rw (to, there) refl, rw (to, there) refl)
  astray_is_no_end t (inr to) (inr there) (inl ends) = (rw (to, there, ends) refl, rw (to, there, ends) refl)
  astray_is_no_end t (inr to) (inr there) (inr ends) = (rw (to, there, ends) refl, rw (to, there, ends) refl)

  astray : (is_from_client (lossy_astray s d) ≡ false) × (is_from_server (lossy_astray s d) ≡ false)
  astray = astray_is_no_end true (cases_Bool (same_peer d.destination s.client)) (cases_Bool (same_peer d.destination s.server)) (cases_Bool (ends_in d.payload))

  pub lossy_client : is_from_client (lossy_route s d) ≡ true → d.source ≡ s.client
  lossy_client on = by (cases_Bool (same_peer d.source s.client)) (cases_Bool (same_peer d.source s.server)) (cases_Bool (same_peer d.destination s.client)) where
    elsewhere : same_peer d.source s.client ≡ false → same_peer d.source s.server ≡ false → same_peer d.destination s.client ≡ false → Test (same_peer d.destination s.server) → Test ((s.server.port == s.asked.port) && asks_in d.payload) → ⊥
    elsewhere client server to (inl there) (inl asks) = true≢false (sym on ∙ rw (client, server, to, there, asks) refl)
    elsewhere client server to (inl there) (inr plain) = true≢false (sym on ∙ rw (client, server, to, there, plain) refl)
    elsewhere client server to (inr other) asks = true≢false (sym on ∙ rw (client, server, to, other) refl)

    by : Test (same_peer d.source s.client) → Test (same_peer d.source s.server) → Test (same_peer d.destination s.client) → d.source ≡ s.client
    by (inl client) server to = is_same d.source s.client client
    by (inr client) (inl server) (inl to) = absurd (true≢false (sym on ∙ rw (client, server, to) refl))
    by (inr client) (inl server) (inr to) =
        let route : lossy_route s d ≡ lossy_astray s d = rw (client, server, to) refl in
        absurd (true≢false (sym on ∙ ap is_from_client route ∙ astray.0))
    by (inr client) (inr server) (inl to) = absurd (true≢false (sym on ∙ rw (client, server, to) refl))
    by (inr client) (inr server) (inr to) = absurd (elsewhere client server to (cases_Bool (same_peer d.destination s.server)) (cases_Bool ((s.server.port == s.asked.port) && asks_in d.payload)))

  pub lossy_server : is_from_server (lossy_route s d) ≡ true → d.source ≡ s.server
  lossy_server on = by (cases_Bool (same_peer d.source s.client)) (cases_Bool (same_peer d.source s.server)) where
    asking : same_peer d.source s.client ≡ true → Test (asks_in d.payload) → Test (same_peer d.destination s.asked) → Test (same_peer d.destination s.server) → ⊥
    asking client (inl asks) (inl there) to = true≢false (sym on ∙ rw (client, asks, there) refl)
    asking client (inl asks) (inr other) to = true≢false (sym on ∙ rw (client, asks, other) refl)
    asking client (inr plain) there (inl to) = true≢false (sym on ∙ rw (client, plain, to) refl)
    asking client (inr plain) there (inr to) =
        let route : lossy_route s d ≡ lossy_astray s d = rw (client, plain, to) refl in
        true≢false (sym on ∙ ap is_from_server route ∙ astray.1)

    elsewhere : same_peer d.source s.client ≡ false → same_peer d.source s.server ≡ false → Test (same_peer d.destination s.client) → Test (same_peer d.destination s.server) → Test ((s.server.port == s.asked.port) && asks_in d.payload) → ⊥
    elsewhere client server (inl to) there asks = true≢false (sym on ∙ rw (client, server, to) refl)
    elsewhere client server (inr to) (inl there) (inl asks) = true≢false (sym on ∙ rw (client, server, to, there, asks) refl)
    elsewhere client server (inr to) (inl there) (inr plain) = true≢false (sym on ∙ rw (client, server, to, there, plain) refl)
    elsewhere client server (inr to) (inr other) asks = true≢false (sym on ∙ rw (client, server, to, other) refl)

    by : Test (same_peer d.source s.client) → Test (same_peer d.source s.server) → d.source ≡ s.server
    by (inl client) server = absurd (asking client (cases_Bool (asks_in d.payload)) (cases_Bool (same_peer d.destination s.asked)) (cases_Bool (same_peer d.destination s.server)))
    by (inr client) (inl server) = is_same d.source s.server server
    by (inr client) (inr server) = absurd (elsewhere client server (cases_Bool (same_peer d.destination s.client)) (cases_Bool (same_peer d.destination s.server)) (cases_Bool ((s.server.port == s.asked.port) && asks_in d.payload)))

-- a packet that is no request says none
pub no_request : (p : Packet) (asked : RequestParts) → ((now : RequestView) → p ≡ packet.Request now → ⊥) → meaning p ≡ Message.Request asked → ⊥
no_request (packet.Request now) asked other is = other now refl
no_request (packet.Data block bytes) asked other is = absurd (cc)
no_request (packet.Ack block) asked other is = absurd (cc)
no_request (packet.Error code message) asked other is = absurd (cc)
no_request (packet.Oack options) asked other is = absurd (cc)

-- ---- strays

pub stray_breaks : (d : TapDatagram) (broken : Rule) → SidesBreak TapRoute.Stray d broken → ⊥
stray_breaks d (rule.Port PortRule.Foreign) b = absurd (cc)
stray_breaks d (rule.Port PortRule.Wrong) b = absurd (cc)
stray_breaks d (rule.Port PortRule.BadAnswer) (inl b) = absurd (cc)
stray_breaks d (rule.Port PortRule.BadAnswer) (inr b) = let no = b.0 in absurd (cc)
stray_breaks d _ b = absurd b

pub answer_breaks : (d : TapDatagram) (text : List ℕ) → Spells d.payload (Message.Error 5 text) → (broken : Rule) → SidesBreak TapRoute.StrayAnswer d broken → ⊥
answer_breaks d text says (rule.Port PortRule.Foreign) b = absurd (cc)
answer_breaks d text says (rule.Port PortRule.Wrong) b = absurd (cc)
answer_breaks d text says (rule.Port PortRule.BadAnswer) (inl b) = absurd (cc)
answer_breaks d text says (rule.Port PortRule.BadAnswer) (inr b) = b.1 text says
answer_breaks d text says _ b = absurd b

pub stray_found : (s : TapSides) (earlier : List TapDatagram) (d : TapDatagram) → lossy_route s d ≡ TapRoute.Stray → (k : LossyState) → HasKeptWithLosses k s earlier → HasKeptWithLosses k s (d ∷ earlier)
stray_found s earlier d is k kept = outside_found s earlier d (ap is_passing is) (subst (λ r. IsTapRead r d) (sym is) tt) (λ broken b. stray_breaks d broken (subst (λ r. SidesBreak r d broken) is b)) k kept

pub answer_found : (s : TapSides) (earlier : List TapDatagram) (d : TapDatagram) → lossy_route s d ≡ TapRoute.StrayAnswer → (text : List ℕ) → Spells d.payload (Message.Error 5 text) → (k : LossyState) → HasKeptWithLosses k s earlier → HasKeptWithLosses k s (d ∷ earlier)
answer_found s earlier d is text says k kept = outside_found s earlier d (ap is_passing is) (subst (λ r. IsTapRead r d) (sym is) (text, says)) (λ broken b. answer_breaks d text says broken (subst (λ r. SidesBreak r d broken) is b)) k kept

-- ---- whether it is certain

-- a request that may come next where nothing was said
abbrev pub next : TapSides → TapDatagram
next s = record { source = s.client; destination = s.asked; payload = request_passes.payload }

pub request_next : (s : TapSides) → IsSaidBy s Client (Message.Request (request_of two_bytes)) (next s)
request_next s = record { goes = rw (same_is s.client s.client refl, same_is s.asked s.asked refl) refl; source = refl; spells = request_says }

pub not_certain : (s : TapSides) (earlier : List TapDatagram) (d : TapDatagram) → AreApart s → BreaksNoLossyRule s (d ∷ earlier) → HasBegun s (d ∷ earlier) → IsNotCertain s earlier d
not_certain s earlier d apart passes (inr begins) = λ certain. unbroken_is_not_certain s (d ∷ earlier) apart begins passes certain
not_certain s earlier d apart passes (inl none) = λ certain. unbroken_is_not_certain s (next s ∷ d ∷ earlier) apart (inr ((request_of two_bytes, request_next s), none))
    (first_passes s (d ∷ earlier) (next s) Client _ (request_next s) (λ now said. none_said s (d ∷ earlier) none Client _ said), passes)
    (λ lossy. certain (less_between_lossy s (next s ∷ d ∷ earlier) (d ∷ earlier) (lost (next s) (d ∷ earlier) (d ∷ earlier) (loses_none (d ∷ earlier))) lossy))

-- what is kept of datagrams that begin with their request breaks no rule
pub kept_breaks_none : (s : TapSides) (earlier : List TapDatagram) (late : Bool) (notes : Option SaidNotes) → IsKeptWithLosses s earlier late notes → HasBegun s earlier → BreaksNoLossyRule s earlier
kept_breaks_none s earlier false None kept begun = kept.0
kept_breaks_none s earlier false (Some n) kept begun = kept.0
kept_breaks_none s earlier true notes kept begun = absurd (kept begun)

-- a datagram that breaks a rule with losses is refused as certain, and one for which memory is wanting by that
pub refused_found : (s : TapSides) (earlier : List TapDatagram) (d : TapDatagram) (After : Type 0) (broken : Rule) (index : ℕ) (refusal : LossyRefusal) → AreApart s → index ≡ length earlier + 1
    → FindsWithLosses s earlier d After (Err (Broken broken)) → refusal ≡ Certain index broken → RefusesWithLosses s earlier d refusal
refused_found s earlier d After broken index refusal apart counted found is =
    subst (RefusesWithLosses s earlier d) (sym is) (counted, found, broken_is_certain s earlier d broken apart found)
