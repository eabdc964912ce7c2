-- What is kept of the numbers of a capture stands for one datagram more.
use Rattle.std.proofs.Common.{◌≡◌, inl, inr, ℕ, ◌<◌, max, Bool, true, false, true≢false, List, [], ◌∷◌, length, Option, Some, None, is_some, option_map, if◌then◌else◌, ◌==◌, ◌&&◌, ◌||◌, not, refl, sym, ap, ◌∙◌, subst, arith}
use Rattle.std.specs.List.{list_any}
use Rattle.std.proofs.lemmas.Bool.{cases_eq}
use Rattle.tftp_packet.specs.{Dir, In, Out, End, Client, Server, Message, Rollover, Spells, opcode_of}
use Rattle.tftp_packet.specs.Rounds.{position_of}
use Rattle.tftp_packet.specs.Hosts.{Datagram, Header}
use Rattle.law_model.specs.Rules.{IsHigh, asks, begins_request, first_of, is_of_transfer, or_this, route_of, transfer_of}
use Rattle.law_rollover.specs.{AreUnrolled}
use Rattle.law_rollover.proofs.Unrolling.{data_unrolled, length_stays, opcode_stays}
use Rattle.tftp_judge.specs.{header_by}
use Rattle.tftp_commands.specs.{IsKept, IsKeptBy, answers, begun_by, first_answer, header_in, is_between, read_as, sides_of, since_request}
use Rattle.tftp_commands.specs.declared.numbers.Numbers.{Numbers}
use Rattle.tftp_commands.specs.declared.numbers.Sides.{Sides}
use Rattle.tftp_commands.proofs.Between.{between_is}
use Rattle.tftp_commands.proofs.HighestRead.{high_apart, high_more, high_same, none_high, opcode_is, other_opcode, too_short}

-- ---- by the opcode

pub asks_same : (h : Header) (r : Rollover) (high : ℕ) (d : Datagram) → asks h (read_as r high d) ≡ asks h d
asks_same h r high d = by h.named where
  by : (named : End) → asks (record { named = named; service = h.service; rollover = h.rollover }) (read_as r high d) ≡ asks (record { named = named; service = h.service; rollover = h.rollover }) d
  by Client = rw (opcode_stays r high d.payload) refl
  by Server = rw (opcode_stays r high d.payload) refl

between_same : (named : End) (asked answered : Option Sides) (r : Rollover) (high : ℕ) (d : Datagram) → is_between named asked answered (read_as r high d) ≡ is_between named asked answered d
between_same named None answered r high d = refl
between_same Client (Some first) None r high d = refl
between_same Client (Some first) (Some answer) r high d = refl
between_same Server (Some first) None r high d = refl
between_same Server (Some first) (Some answer) r high d = refl

no_request : (payload : List ℕ) → opcode_of payload ≡ 3 → ((opcode_of payload == 1) || (opcode_of payload == 2)) ≡ false
no_request payload is = rw is refl

-- ---- the highest block

module _ (r : Rollover) (kept : Numbers) (h : Header) (earlier : List Datagram) (is : IsKeptBy r kept h earlier) (d : Datagram) where
  abbrev now : Datagram
  now = read_as r kept.highest d

  told : opcode_of d.payload ≡ 3 → is_of_transfer (route_of h is.unrolled now) ≡ is_between kept.named kept.asked kept.answered d
  told block =
      between_is h is.unrolled now kept.asked kept.answered is.asked is.answered (no_request now.payload (opcode_stays r kept.highest d.payload ∙ block))
      ∙ between_same h.named kept.asked kept.answered r kept.highest d ∙ ap (λ named. is_between named kept.asked kept.answered d) (sym is.named)

  pub none_read : (opcode_of d.payload ≡ 3 → length d.payload < 4) → IsHigh (transfer_of h (now ∷ is.unrolled)) kept.highest
  none_read short =
      let stays = length_stays r kept.highest d.payload in
      high_same h is.unrolled now kept.highest is.high (too_short now.payload (λ block. (let few = short (sym (opcode_stays r kept.highest d.payload) ∙ block) in omega (arith, few, stays))))

  pub apart_read : is_between kept.named kept.asked kept.answered d ≡ false → IsHigh (transfer_of h (now ∷ is.unrolled)) kept.highest
  apart_read apart = elim (cases_eq (opcode_of d.payload) 3) [
    | inl block ↦ high_apart h is.unrolled now kept.highest is.high (told block ∙ apart)
    | inr other ↦ high_same h is.unrolled now kept.highest is.high (other_opcode now.payload (λ block. other (sym (opcode_stays r kept.highest d.payload) ∙ block)))
  ]

  pub block_read : (n : ℕ) (bytes : List ℕ) → Spells d.payload (Message.Data n bytes) → is_between kept.named kept.asked kept.answered d ≡ true
      → IsHigh (transfer_of h (now ∷ is.unrolled)) (max kept.highest (position_of r kept.highest n))
  block_read n bytes spells one =
      high_more h is.unrolled now kept.highest (position_of r kept.highest n) bytes is.high
      (told (opcode_is n bytes d.payload spells) ∙ one) (data_unrolled r kept.highest n bytes d.payload spells)

-- ---- what is kept

begun_more : (h : Header) (earlier : List Datagram) (d : Datagram) (asked : Option Sides) → is_some asked ≡ list_any (asks h) earlier → (asked ≡ None → asks h d ≡ false)
    → (asks h d && not (list_any (asks h) earlier)) ≡ false
begun_more h earlier d None is none = ap (λ b. b && not (list_any (asks h) earlier)) (none refl)
begun_more h earlier d (Some sides) is none = rw (sym is) (by (asks h d)) where
  by : (b : Bool) → (b && false) ≡ false
  by true = refl
  by false = refl

still_begun : (h : Header) (earlier : List Datagram) (d : Datagram) (asked : Option Sides) → is_some asked ≡ list_any (asks h) earlier → (asked ≡ None → asks h d ≡ false)
    → is_some asked ≡ list_any (asks h) (d ∷ earlier)
still_begun h earlier d None is none = is ∙ ap (λ b. b || list_any (asks h) earlier) (sym (none refl))
still_begun h earlier d (Some sides) is none = by (asks h d) where
  by : (b : Bool) → true ≡ (b || list_any (asks h) earlier)
  by true = refl
  by false = is

still_asked : (h : Header) (unrolled : List Datagram) (now : Datagram) (asked : Option Sides) → asked ≡ option_map sides_of (first_of (asks h) unrolled) → (asked ≡ None → asks h now ≡ false)
    → asked ≡ option_map sides_of (first_of (asks h) (now ∷ unrolled))
still_asked h unrolled now asked is none = by (first_of (asks h) unrolled) is where
  by : (first : Option Datagram) → asked ≡ option_map sides_of first → asked ≡ option_map sides_of (or_this first (asks h now) now)
  by (Some first) e = e
  by None e = e ∙ ap (λ b. option_map sides_of (or_this None b now)) (sym (none e))

-- where the datagram is not the first request
pub kept_on : (r : Rollover) (kept new : Numbers) (h : Header) (earlier : List Datagram) (d : Datagram) (is : IsKeptBy r kept h earlier) → (kept.asked ≡ None → asks h d ≡ false)
    → new.named ≡ kept.named → new.service ≡ kept.service → new.asked ≡ kept.asked
    → new.answered ≡ option_map sides_of (first_answer h.named (read_as r kept.highest d ∷ is.unrolled) kept.asked)
    → IsHigh (transfer_of h (read_as r kept.highest d ∷ is.unrolled)) new.highest → IsKeptBy r new h (d ∷ earlier)
kept_on r kept new h earlier d is none named service asked answered high = record {
  unrolled = read_as r kept.highest d ∷ is.unrolled;
  are = subst (λ (ds : List Datagram). AreUnrolled r h ds (read_as r kept.highest d ∷ is.unrolled))
      (sym (ap (λ b. if b then d ∷ [] else d ∷ since_request h earlier) (begun_more h earlier d kept.asked is.begun none)))
      ((kept.highest, is.high, refl), is.are);
  named = named ∙ is.named;
  service = service ∙ is.service;
  asked = asked ∙ still_asked h is.unrolled (read_as r kept.highest d) kept.asked is.asked (λ e. asks_same h r kept.highest d ∙ none e);
  answered = answered ∙ ap (λ o. option_map sides_of (first_answer h.named (read_as r kept.highest d ∷ is.unrolled) o)) (sym asked);
  begun = ap is_some asked ∙ still_begun h earlier d kept.asked is.begun none;
  high = high;
}

-- ---- the first request

request_only : (payload : List ℕ) → ((opcode_of payload == 1) || (opcode_of payload == 2)) ≡ true → opcode_of payload ≡ 3 → ⊥
request_only payload is block = true≢false (sym is ∙ no_request payload block)

-- it begins as a request, and goes to the service port of the server's side
asks_begins : (named : End) (service : ℕ) (rollover : Option Rollover) (d : Datagram) → asks (record { named = named; service = service; rollover = rollover }) d ≡ true
    → (begins_request d ≡ true) × (answers named (sides_of d) d ≡ false)
asks_begins Client service rollover d = by d.dir (begins_request d) refl refl where
  by : (dir : Dir) (b : Bool) → d.dir ≡ dir → begins_request d ≡ b → asks (record { named = Client; service = service; rollover = rollover }) d ≡ true
      → (begins_request d ≡ true) × (answers Client (sides_of d) d ≡ false)
  by Out true e f is = (f, rw e refl)
  by Out false e f is = absurd (true≢false (sym is ∙ rw (e, f) refl))
  by In b e f is = absurd (true≢false (sym is ∙ rw e refl))
asks_begins Server service rollover d = by d.dir (begins_request d) refl refl where
  by : (dir : Dir) (b : Bool) → d.dir ≡ dir → begins_request d ≡ b → asks (record { named = Server; service = service; rollover = rollover }) d ≡ true
      → (begins_request d ≡ true) × (answers Server (sides_of d) d ≡ false)
  by In true e f is = (f, rw e refl)
  by In false e f is = absurd (true≢false (sym is ∙ rw (e, f) refl))
  by Out b e f is = absurd (true≢false (sym is ∙ rw e refl))

asks_kept : (named other : End) (service port : ℕ) (rollover : Option Rollover) (d : Datagram) → named ≡ other → service ≡ port
    → asks (record { named = named; service = service; rollover = None }) d ≡ asks (record { named = other; service = port; rollover = rollover }) d
asks_kept named other service port rollover d e f = ap (λ n. asks (record { named = n; service = service; rollover = None }) d) e ∙ ap (λ s. asks (record { named = other; service = s; rollover = None }) d) f ∙ by other where
  by : (n : End) → asks (record { named = n; service = port; rollover = None }) d ≡ asks (record { named = n; service = port; rollover = rollover }) d
  by Client = refl
  by Server = refl

pub asks_of : (r : Rollover) (kept : Numbers) (h : Header) (earlier : List Datagram) (d : Datagram) → IsKeptBy r kept h earlier → asks (header_in kept) d ≡ asks h d
asks_of r kept h earlier d is = asks_kept kept.named h.named kept.service h.service h.rollover d is.named is.service

kept_begun : (r : Rollover) (kept : Numbers) (h : Header) (earlier : List Datagram) (d : Datagram) → IsKeptBy r kept h earlier → kept.asked ≡ None → asks (header_in kept) d ≡ true
    → IsKeptBy r (begun_by kept d) h (d ∷ earlier)
kept_begun r kept h earlier d is none asking =
    let now = read_as r 0 d in
    let asks_now : asks h d ≡ true = sym (asks_of r kept h earlier d is) ∙ asking in
    let same : asks h now ≡ true = asks_same h r 0 d ∙ asks_now in
    let begins = asks_begins h.named h.service h.rollover now same in
    let unbegun : list_any (asks h) earlier ≡ false = sym is.begun ∙ ap is_some none in
    record {
      unrolled = now ∷ [];
      are = subst (λ (ds : List Datagram). AreUnrolled r h ds (now ∷ []))
          (sym (ap (λ b. if b && not (list_any (asks h) earlier) then d ∷ [] else d ∷ since_request h earlier) asks_now ∙ ap (λ b. if not b then d ∷ [] else d ∷ since_request h earlier) unbegun))
          ((0, none_high, refl), tt);
      named = is.named;
      service = is.service;
      asked = ap (λ b. option_map sides_of (or_this None b now)) (sym same);
      answered = is.answered ∙ ap (λ o. option_map sides_of (first_answer h.named is.unrolled o)) none ∙ ap (λ b. option_map sides_of (or_this None b now)) (sym begins.1);
      begun = ap (λ b. b || list_any (asks h) earlier) (sym asks_now);
      high = high_same h [] now 0 none_high (other_opcode now.payload (request_only now.payload begins.0));
    }

none_is : {X : Type 0} (o : Option X) → is_some o ≡ false → o ≡ None
none_is None e = refl
none_is (Some x) e = absurd (true≢false e)

pub kept_started : (rollover : Option Rollover) (kept new : Numbers) (h : Header) (earlier : List Datagram) (d : Datagram) → is_some kept.asked ≡ false → asks (header_in kept) d ≡ true → new ≡ begun_by kept d
    → IsKept rollover kept h earlier → IsKept rollover new h (d ∷ earlier)
kept_started None kept new h earlier d none asking begun is = ap (λ (n : Numbers). n.highest) begun
kept_started (Some r) kept new h earlier d none asking begun is =
    let header = header_by (Some r) h in
    subst (λ n. IsKeptBy r n header (d ∷ earlier)) (sym begun) (kept_begun r kept header earlier d is (none_is kept.asked none) asking)
