-- The worked cases of the law at a tap.
use Rattle.std.proofs.Common.{◌≡◌, ℕ, ◌≤◌, ◌<◌, true, [], ◌∷◌, Any, Contains, codes, inl, inr, refl, sym, subst, ap, arith, None}
use Rattle.std.proofs.lemmas.Bool.{true≢false}
use Rattle.std.specs.FinMap as map
use Rattle.tftp_packet.specs.{Message, Spells, IsPair, IsPlace, Client, Server, End}
use Rattle.law_model.specs.Model.{number_or, request_of, block, block_count, Sent, Took, Req, Oack, Data, Ack, HasSent, IsRun, IsView, two_bytes, two_bytes_view, ten_bytes, ten_bytes_view, eight_by_four, window_repeated, window_repeated_steps}
use Rattle.law_model.proofs.ModelLemmas.Members.{contains_first, contains_cases, contains_none}
use Rattle.law_model.proofs.ModelLemmas.OneSided.{view_one_sided}
use Rattle.law_model.proofs.ModelLemmas.Worked.{two_bytes_is_view, ten_bytes_is_view, eight_of_both, four_of_both, has_some, one_block, one_at_a_time}
use Rattle.law_model.proofs.ModelLemmas.Computed.{IsPlan, run_is}
use Rattle.law_end.specs.{says_of, BeginsAsRequest}
use Rattle.law_end.proofs.Whole.NothingAgreed.{two_bytes_fit}
use Rattle.law_end.proofs.Division.Divided.{any_first, any_later}
use Rattle.law_tap.specs.{as_at, tapped_at, IsTapView, PeerId, side_of, AreApart, Main, TapLabelled, TapDivision, IsMainFrom, HaveTapLabels, IsSeenBetween, ShowsBetween, client_side, other_side, worked_sides, hi_passes, stray_passes, answer_passes, ack_passes, read_between, block_passes_late, both_pass_late, block_passes_early, ack_of_nothing, BreaksNoTapRule}
use Rattle.law_tap.specs.TapDress.{Stray, StrayAnswer}
use Rattle.law_tap.specs.WorkedTap.{request_passes}
use Rattle.law_tap.proofs.Beside.{view_is_tapped}
use Rattle.law_tap.proofs.TapRunsBreak.{runs_break_none}
use Rattle.law_model.proofs.ModelLemmas.Defaults.{default_blksize}
use Rattle.law_tap.proofs.Apart.{earlier_passed}
use Rattle.law_tap.proofs.Wholes.{passes_again}
use Rattle.law_tap.proofs.Projects.{view_may_pass}

-- ---- what passed

pub late_tap : IsTapView ten_bytes ten_bytes.file block_passes_late
late_tap =
    let all = view_is_tapped ten_bytes ten_bytes.file Client ten_bytes_view ten_bytes_is_view in
    passes_again ten_bytes ten_bytes.file (record { from = Server; packet = Data 1 })
    (record { from = Server; packet = Data 2 }
    ∷ record { from = Client; packet = Ack 1 }
    ∷ record { from = Server; packet = Data 1 }
    ∷ record { from = Client; packet = Ack 0 }
    ∷ record { from = Server; packet = Oack }
    ∷ record { from = Client; packet = Req }
    ∷ [])
    (2, omega arith, refl)
    (earlier_passed ten_bytes ten_bytes.file (record { from = Client; packet = Ack 2 }) _ all)

pub late_server : IsView ten_bytes ten_bytes.file Server (as_at Server block_passes_late) → ⊥
late_server view =
    let own = view_one_sided ten_bytes ten_bytes.file Server (as_at Server block_passes_late) view in
    let high : 2 ≤ 1 = own.0.in_step one_at_a_time 2 (contains_first (Sent (Data 2)) (Took (Ack 1) ∷ Sent (Data 1) ∷ Took (Ack 0) ∷ Sent Oack ∷ Took Req ∷ [])) in
    absurd (omega (arith, high))

pub both_tap : IsTapView ten_bytes ten_bytes.file both_pass_late
both_tap = passes_again ten_bytes ten_bytes.file (record { from = Client; packet = Req }) block_passes_late (6, omega arith, refl) late_tap

pub both_client : IsView ten_bytes ten_bytes.file Client (as_at Client both_pass_late) → ⊥
both_client view =
    let own = view_one_sided ten_bytes ten_bytes.file Client (as_at Client both_pass_late) view in
    own.0.no_ack 1 (2, omega arith, refl)

pub both_server : IsView ten_bytes ten_bytes.file Server (as_at Server both_pass_late) → ⊥
both_server view =
    let own = view_one_sided ten_bytes ten_bytes.file Server (as_at Server both_pass_late) view in
    let high : 2 ≤ 1 = own.1.0.in_step one_at_a_time 2 (contains_first (Sent (Data 2)) (Took (Ack 1) ∷ Sent (Data 1) ∷ Took (Ack 0) ∷ Sent Oack ∷ Took Req ∷ [])) in
    absurd (omega (arith, high))

window_is_plan : IsPlan window_repeated window_repeated.file (record { agreed = true; windowsize = 4; blocks = 2 })
window_is_plan = record {
  something = λ _. has_some eight_by_four eight_of_both;
  nothing = λ e. absurd (true≢false e);
  windowsize = ap (number_or 1) four_of_both;
  blocks = ap (λ b. block_count b window_repeated.file) (ap (number_or 512) eight_of_both);
}

early_run : IsRun window_repeated window_repeated.file window_repeated_steps
early_run = run_is window_repeated window_repeated.file (record { agreed = true; windowsize = 4; blocks = 2 }) window_repeated_steps window_is_plan refl

pub early_tap : IsTapView window_repeated window_repeated.file block_passes_early
early_tap =
    earlier_passed window_repeated window_repeated.file (record { from = Server; packet = Ack 2 }) block_passes_early
    (view_is_tapped window_repeated window_repeated.file Server (Sent (Ack 2) ∷ Took (Data 1) ∷ Sent (Ack 0) ∷ Took (Data 2) ∷ Sent Oack ∷ Took Req ∷ []) (window_repeated_steps, early_run, refl))

pub early_client : IsView window_repeated window_repeated.file Client (as_at Client block_passes_early) → ⊥
early_client view =
    let own = view_one_sided window_repeated window_repeated.file Client (as_at Client block_passes_early) view in
    elim own.1.1.0.in_order [
      | inl first ↦ absurd (omega (arith, first))
      | inr sent ↦ elim (contains_cases (Took Oack) (Sent Req ∷ []) (Sent (Data 1)) sent) [
        | inl now ↦ absurd (cc)
        | inr before ↦ elim (contains_cases (Sent Req) [] (Sent (Data 1)) before) [ inl now ↦ absurd (cc) | inr none ↦ contains_none (Sent (Data 1)) none ]
      ]
    ]

no_data : HasSent (Took Req ∷ []) (Data 1) → ⊥
no_data at = elim (contains_cases (Took Req) [] (Sent (Data 1)) at) [ inl now ↦ absurd (cc) | inr none ↦ contains_none (Sent (Data 1)) none ]

pub nothing_tap : IsTapView two_bytes two_bytes.file ack_of_nothing → ⊥
nothing_tap view =
    let may = view_may_pass two_bytes two_bytes.file ack_of_nothing view in
    no_data (may.0.sent 1 (omega arith) (omega arith))

pub nothing_client : IsView two_bytes two_bytes.file Client (as_at Client ack_of_nothing) → ⊥
nothing_client view =
    let own = view_one_sided two_bytes two_bytes.file Client (as_at Client ack_of_nothing) view in
    elim (contains_cases (Sent Req) [] (Took (Data 1)) (own.0.taken 1 (omega arith) (omega arith))) [ inl now ↦ absurd (cc) | inr none ↦ contains_none (Took (Data 1)) none ]

pub nothing_server : IsView two_bytes two_bytes.file Server (as_at Server ack_of_nothing) → ⊥
nothing_server view =
    let own = view_one_sided two_bytes two_bytes.file Server (as_at Server ack_of_nothing) view in
    no_data (own.0.sent 1 (omega arith) (omega arith))

-- ---- a capture

small : (low : ℕ) → low < 256 → IsPair 0 low low
small low byte = (omega arith, byte, omega arith)

one_place : IsPlace 0 1 1
one_place = (omega arith, omega arith)

pub request_spelled : Spells request_passes.payload (Message.Request (request_of two_bytes))
request_spelled = (
  (omega arith, (omega arith, (omega arith, (omega arith, (omega arith, (omega arith, (omega arith, (omega arith, (omega arith, (omega arith, tt)))))))))),
  record {
    mode_text = codes "octet";
    pairs = [];
    bytes = refl;
    strung = (((λ e. omega arith), tt), (((λ e. omega arith), ((λ e. omega arith), ((λ e. omega arith), ((λ e. omega arith), ((λ e. omega arith), tt))))), tt));
    named = tt;
    apart = tt;
    mode = refl;
    options = refl;
    short = λ some. absurd (some refl);
  },
)

pub hi_spelled : Spells hi_passes.payload (Message.Data 1 (codes "hi"))
hi_spelled = ((omega arith, (omega arith, (omega arith, (omega arith, (omega arith, tt))))), (0, 1, one_place, refl))

pub ack_spelled : Spells ack_passes.payload (Message.Ack 1)
ack_spelled = ((omega arith, (omega arith, (omega arith, tt))), (0, 1, one_place, refl))

unknown_id_spelled : Spells answer_passes.payload (Message.Error 5 [])
unknown_id_spelled = ((omega arith, (omega arith, (omega arith, (omega arith, (omega arith, tt))))), (0, 5, small 5 (omega arith), tt, refl))

abbrev begun : TapDivision
begun =
    record { datagram = hi_passes; label = Main (record { from = Server; packet = Data 1 }) }
    ∷ record { datagram = request_passes; label = Main (record { from = Client; packet = Req }) }
    ∷ []

abbrev strayed : TapDivision
strayed = record { datagram = answer_passes; label = StrayAnswer } ∷ record { datagram = stray_passes; label = Stray } ∷ begun

abbrev divided : TapDivision
divided = record { datagram = ack_passes; label = Main (record { from = Client; packet = Ack 1 }) } ∷ strayed

pub sides_apart : AreApart worked_sides
sides_apart = record {
  server = λ is. let port : 40000 ≡ 41000 = ap (λ (x : PeerId). x.port) is in omega (arith, port);
  asked = λ is. let port : 40000 ≡ 69 = ap (λ (x : PeerId). x.port) is in omega (arith, port);
}

-- the stray is from neither end
elsewhere : (e : End) → other_side ≡ side_of worked_sides e → ⊥
elsewhere Client is = let port : 42000 ≡ 40000 = ap (λ (x : PeerId). x.port) is in omega (arith, port)
elsewhere Server is = let port : 42000 ≡ 41000 = ap (λ (x : PeerId). x.port) is in omega (arith, port)

begins_none : BeginsAsRequest (255 ∷ []) → ⊥
begins_none (rest, inl is) = absurd (cc)
begins_none (rest, inr is) = absurd (cc)

has_answered : Any (λ (p : TapLabelled). IsMainFrom Server p.label) strayed
has_answered = any_later (λ (p : TapLabelled). IsMainFrom Server p.label) (record { datagram = answer_passes; label = StrayAnswer }) (record { datagram = stray_passes; label = Stray } ∷ begun)
    (any_later (λ (p : TapLabelled). IsMainFrom Server p.label) (record { datagram = stray_passes; label = Stray }) begun
    (any_first (λ (p : TapLabelled). IsMainFrom Server p.label) (record { datagram = hi_passes; label = Main (record { from = Server; packet = Data 1 }) })
    (record { datagram = request_passes; label = Main (record { from = Client; packet = Req }) } ∷ []) (Data 1, refl)))

has_strayed : Any (λ (p : TapLabelled). (p.label ≡ Stray) × (p.datagram.source ≡ other_side) × (p.datagram.destination ≡ client_side)) (record { datagram = stray_passes; label = Stray } ∷ begun)
has_strayed = any_first (λ (p : TapLabelled). (p.label ≡ Stray) × (p.datagram.source ≡ other_side) × (p.datagram.destination ≡ client_side)) (record { datagram = stray_passes; label = Stray }) begun (refl, refl, refl)

labels : HaveTapLabels worked_sides (says_of two_bytes two_bytes.file) divided
labels = (
  record { source = refl; goes = (refl, has_answered); spells = ack_spelled },
  (
    record { own = (Client, refl); there = has_strayed; spells = ([], unknown_id_spelled) },
    (
      record { elsewhere = elsewhere; here = (Client, refl); no_request = λ to port begins. begins_none begins },
      (
        record { source = refl; goes = refl; spells = subst (λ b. Spells hi_passes.payload (Message.Data 1 (block b two_bytes.file 1))) (sym (default_blksize two_bytes refl)) hi_spelled },
        (record { source = refl; goes = refl; spells = request_spelled }, tt),
      ),
    ),
  ),
)

seen : IsSeenBetween worked_sides two_bytes two_bytes.file read_between
seen = record {
  fits = two_bytes_fit None;
  passed = tapped_at Client two_bytes_view;
  view = view_is_tapped two_bytes two_bytes.file Client two_bytes_view two_bytes_is_view;
  dressed = record { division = divided; whole = refl; main = refl; labels = labels };
}

pub read_shown : ShowsBetween worked_sides two_bytes two_bytes.file read_between
unfolding seen
read_shown = record { seen = seen; whole = subst (λ n. Contains (tapped_at Client two_bytes_view) (record { from = Client; packet = Ack n })) (sym one_block) (contains_first (record { from = Client; packet = Ack 1 }) (record { from = Server; packet = Data 1 } ∷ record { from = Client; packet = Req } ∷ [])) }

pub read_passes : BreaksNoTapRule worked_sides read_between
read_passes = runs_break_none worked_sides two_bytes two_bytes.file read_between sides_apart seen
