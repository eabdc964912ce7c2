-- Where a client has gone on with its server, what it captured tells so. Lists have the newest first.
use Rattle.std.proofs.Common.{◌≡◌, ◌⊎◌, ◌&&◌, ◌||◌, not, ℕ, Bool, true, false, true≢false, List, [], ◌∷◌, Any, Contains, inl, inr, refl, sym, ap, subst, ◌∙◌, arith, map}
use Rattle.std.proofs.lemmas.Bool.{and_parts}
use Rattle.tftp_packet.specs.{Message, RequestParts, Spells, IsPair, Side, Get, Put, Out, In, pair_strings, side_opcode, strings, terminated}
use Rattle.tftp_packet.specs.Hosts.{Datagram, Header}
use Rattle.law_model.specs.Model.{Meaning, message_of}
use Rattle.law_model.proofs.ModelLemmas.Members.{contains_cases, contains_first, contains_later, contains_none}
use Rattle.law_end.specs.{Broken, Division, HasLabel, HaveLabels, IsRefused, Label, Main, MessageBroken, Rule, Stray, TransferIds, datagrams_of, packet_of}
use Rattle.law_end.specs.Dress.{StrayAnswer}
use Rattle.law_end.specs.declared.rule.Rule.TheVariants as rule
use Rattle.law_end.proofs.Division.Divided.{any_first, any_later}
use Rattle.law_tap.specs.{GoesOnWith, IsForOtherEnd, KnowsOtherEnd, StandsAtEnd, StandsOfItsOwn}
use Rattle.law_tap.proofs.EndStood.{was_in}
use Rattle.audit_flows.specs.Lines.{Placed, begins_request, begins_unknown_id, is_of, same_endpoint}
use Rattle.audit_flows.specs.{Transfer}
use Rattle.audit_flows.proofs.LinesLemmas.Lines.{by_test}
use Rattle.audit_views.specs.Parties.{host_name}
use Rattle.audit_views.specs.Views.{captured_at_client, client_capture}
use Rattle.audit_recording.specs.Blame.{goes_on, has_gone_on, is_for_server}
use Rattle.audit_recording.proofs.BlameLemmas.Holding.{filter_none, filter_one}

-- ---- what a client says to nobody but its server

request_begins : (payload : List ℕ) (asked : RequestParts) → Spells payload (Message.Request asked) → begins_request payload ≡ true
request_begins payload asked (bytes, s) = subst (λ p. begins_request p ≡ true) (sym s.bytes) (by asked.side) where
  by : (side : Side) → begins_request (0 ∷ side_opcode side ∷ strings (asked.name ∷ s.mode_text ∷ pair_strings s.pairs)) ≡ true
  by Get = refl
  by Put = refl

pair_5 : (x y : ℕ) → IsPair x y 5 → (x ≡ 0) × (y ≡ 5)
pair_5 x y (low, high, is) = (omega arith, omega arith)

unknown_begins : (payload text : List ℕ) → Spells payload (Message.Error 5 text) → begins_unknown_id payload ≡ true
unknown_begins payload text (bytes, (x, y, pair, string, is)) =
    let (left, right) = pair_5 x y pair in
    subst (λ p. begins_unknown_id p ≡ true) (sym (is ∙ (λ i. 0 ∷ 5 ∷ left i ∷ right i ∷ terminated text))) refl

not_off : (b : Bool) → not b ≡ true → b ≡ true → ⊥
not_off true off on = true≢false (sym off)
not_off false off on = true≢false (sym on)

pub alone : (payload : List ℕ) → is_for_server payload ≡ true → (n : Message) → Spells payload n → IsForOtherEnd n
alone payload own n s = by n s where
  parts : (not (begins_request payload) ≡ true) × (not (begins_unknown_id payload) ≡ true)
  parts = and_parts (not (begins_request payload)) (not (begins_unknown_id payload)) own

  by : (m : Message) → Spells payload m → IsForOtherEnd m
  by (Message.Request asked) t = absurd (not_off (begins_request payload) parts.0 (request_begins payload asked t))
  by (Message.Error code text) t = λ is. not_off (begins_unknown_id payload) parts.1 (unknown_begins payload text (subst (λ k. Spells payload (Message.Error k text)) is t))
  by (Message.Oack options) t = tt
  by (Message.Data k bytes) t = tt
  by (Message.Ack k) t = tt

-- ---- in what is lawful

-- a run divides what was captured
pub record IsDivided (h : Header) (seen : List Datagram) : Type 0 where
  pub meaning : Meaning
  pub wire : List ℕ
  pub ids : TransferIds
  pub division : Division
  pub whole : datagrams_of division ≡ seen
  pub labels : HaveLabels h meaning wire ids division

goes_so : (h : Header) (seen : List Datagram) → IsDivided h seen → (d : Datagram) → Contains seen d → d.dir ≡ Out → is_for_server d.payload ≡ true → GoesOnWith d
goes_so h seen s d at out own =
    let w = was_in h s.meaning s.wire s.ids s.division s.labels d (subst (λ l. Contains l d) (sym s.whole) at) in
    by w.before w.label w.has
  where
    by : (before : Division) (label : Label) → HasLabel h s.meaning s.wire s.ids before d label → GoesOnWith d
    by before (Main deed) has = record {
      out = out;
      message = message_of s.meaning s.wire (packet_of deed);
      says = has.spells;
      alone = alone d.payload own (message_of s.meaning s.wire (packet_of deed)) has.spells;
    }
    by before Stray has = let both : In ≡ Out = sym has.dir ∙ out in absurd (cc)
    by before StrayAnswer has = absurd (alone d.payload own (Message.Error 5 has.spells.0) has.spells.1 refl)

any_at : (seen : List Datagram) (d : Datagram) → Contains seen d → GoesOnWith d → Any GoesOnWith seen
any_at [] d at on = absurd (contains_none d at)
any_at (e ∷ seen) d at on = elim (contains_cases e seen d at) [
  | inl now ↦ any_first GoesOnWith e seen (subst GoesOnWith (sym now) on)
  | inr past ↦ any_later GoesOnWith e seen (any_at seen d past on)
]

-- ---- what a client sent

pub went_out : (x : Transfer) (p : Placed) → same_endpoint p.datagram.source x.client ≡ true → (captured_at_client host_name x p).dir ≡ Out
went_out x p own = rw (own) refl

carries : (x : Transfer) (p : Placed) → same_endpoint p.datagram.source x.client ≡ true → (captured_at_client host_name x p).payload ≡ p.datagram.payload
carries x p own = rw (own) refl

-- the one by which it has gone on
record IsGoneBy (x : Transfer) (placed : List Placed) : Type 0 where
  datagram : Placed
  at : Contains (client_capture host_name x placed) (captured_at_client host_name x datagram)
  own : same_endpoint datagram.datagram.source x.client ≡ true
  says : is_for_server datagram.datagram.payload ≡ true

pub either : (a b : Bool) → (a || b) ≡ true → (a ≡ true) ⊎ (b ≡ true)
either true b is = inl refl
either false b is = inr is

gone_by : (x : Transfer) (placed : List Placed) → has_gone_on x placed ≡ true → IsGoneBy x placed
gone_by x [] is = absurd (true≢false (sym is))
gone_by x (p ∷ placed) is = elim (either (goes_on x p) (has_gone_on x placed) is) [
  | inl now ↦
      let (of, more) = and_parts (is_of x.number p) (same_endpoint p.datagram.source x.client && is_for_server p.datagram.payload) now in
      let (own, says) = and_parts (same_endpoint p.datagram.source x.client) (is_for_server p.datagram.payload) more in
      record {
        datagram = p;
        at = subst (λ l. Contains (map cap l) (cap p)) (sym (filter_one (is_of x.number) p placed of)) (contains_first (cap p) (client_capture host_name x placed));
        own = own;
        says = says;
      }
  | inr before ↦
      let g = gone_by x placed before in
      record {
        datagram = g.datagram;
        at = by_test (is_of x.number p)
            (λ of. subst (λ l. Contains (map cap l) (cap g.datagram)) (sym (filter_one (is_of x.number) p placed of)) (contains_later (cap p) (client_capture host_name x placed) (cap g.datagram) g.at))
            (λ off. subst (λ l. Contains (map cap l) (cap g.datagram)) (sym (filter_none (is_of x.number) p placed off)) g.at);
        own = g.own;
        says = g.says;
      }
]
  where
    cap : Placed → Datagram
    cap = captured_at_client host_name x

-- ---- the other end is known

pub known_by_earlier : (h : Header) (x : Transfer) (placed : List Placed) (d : Datagram) (earlier : List Datagram) → IsDivided h earlier → earlier ≡ client_capture host_name x placed
    → has_gone_on x placed ≡ true → KnowsOtherEnd h (d ∷ earlier)
known_by_earlier h x placed d earlier s are gone =
    let g = gone_by x placed gone in
    let one = captured_at_client host_name x g.datagram in
    let at : Contains earlier one = subst (λ l. Contains l one) (sym are) g.at in
    let says : is_for_server one.payload ≡ true = ap is_for_server (carries x g.datagram g.own) ∙ g.says in
    inr (any_later GoesOnWith d earlier (any_at earlier one at (goes_so h earlier s one at (went_out x g.datagram g.own) says)))

-- what it sends itself is certain of its own, or comes after an ERROR
own_or_after : (broken : Rule) → StandsAtEnd broken → StandsOfItsOwn broken ⊎ (broken ≡ rule.AfterError)
own_or_after rule.AfterError stands = inr refl
own_or_after (rule.Malformed fault) stands = inl tt
own_or_after rule.WrongKind stands = inl tt
own_or_after rule.RequestChanged stands = inl tt
own_or_after rule.RequestAfterStart stands = inl tt
own_or_after (rule.Agreement broken) stands = inl tt
own_or_after rule.OackChanged stands = inl tt
own_or_after rule.OackAfterStart stands = inl tt
own_or_after (rule.Block broken) stands = inl stands
own_or_after (rule.Port broken) stands = absurd stands
own_or_after rule.NoRequest stands = absurd stands
own_or_after rule.ReplyChanged stands = absurd stands

known_after : (h : Header) (earlier : List Datagram) (d : Datagram) → MessageBroken h earlier d rule.AfterError → d.dir ≡ Out → is_for_server d.payload ≡ true → KnowsOtherEnd h (d ∷ earlier)
known_after h earlier d b out own =
    inr (any_first GoesOnWith d earlier (record { out = out; message = b.message; says = b.says.spells; alone = alone d.payload own b.message b.says.spells }))

pub own_or_known : (h : Header) (x : Transfer) (p : Placed) (d : Datagram) (earlier : List Datagram) (broken : Rule) → IsRefused h earlier d broken → StandsAtEnd broken
    → d ≡ captured_at_client host_name x p → goes_on x p ≡ true → ((d.dir ≡ Out) × StandsOfItsOwn broken) ⊎ KnowsOtherEnd h (d ∷ earlier)
own_or_known h x p d earlier broken refused stands is goes =
    let (of, more) = and_parts (is_of x.number p) (same_endpoint p.datagram.source x.client && is_for_server p.datagram.payload) goes in
    let (own, says) = and_parts (same_endpoint p.datagram.source x.client) (is_for_server p.datagram.payload) more in
    let out : d.dir ≡ Out = ap (λ (e : Datagram). e.dir) is ∙ went_out x p own in
    let alone_so : is_for_server d.payload ≡ true = ap (λ (e : Datagram). is_for_server e.payload) is ∙ ap is_for_server (carries x p own) ∙ says in
    elim (own_or_after broken stands) [
      | inl its_own ↦ inl (out, its_own)
      | inr after ↦ inr (known_after h earlier d (subst (Broken h earlier d) after refused.broken.0) out alone_so)
    ]
