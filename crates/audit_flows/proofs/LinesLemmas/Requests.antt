-- A line with one request more.
use Rattle.std.proofs.Common.{◌≡◌, ℕ, Bool, true, false, List, ◌∷◌, Option, Some, None, refl, sym, ap, subst, ◌∙◌, ◌==◌, ◌&&◌, ◌||◌, nat_lt, if◌then◌else◌}
use Rattle.std.specs.Str.{bytes_eq}
use Rattle.std.specs.BTreeMap.{get, BTreeMap}
use Rattle.std.proofs.lemmas.Bool.{and_parts}
use Rattle.std.proofs.lemmas.Slice.Eq.{bytes_eq-Decides}
use Rattle.law_model.specs.Rules.{or_this}
use Rattle.audit_flows.specs.Lines.{Recorded, asked_part, asks_alike, same_endpoint, is_again, Placed, answered_in, endpoint_cmp, has_window, begins_write, history_of, opened_by, place_asked, IsLineOf, IsRequestOf, IsTimed}
use Rattle.audit_flows.specs.declared.lines.endpoint.Endpoint.{Endpoint}
use Rattle.audit_flows.specs.declared.lines.place.Place.{Place}
use Rattle.audit_flows.specs.declared.lines.place.Place.TheVariants.{Opens, Repeats}
use Rattle.audit_flows.specs.declared.lines.place.Transfer.{Transfer}
use Rattle.audit_flows.specs.declared.lines.line.Line.{Line}
use Rattle.audit_flows.proofs.LinesLemmas.Endpoints.{is_same, same_itself}
use Rattle.audit_flows.proofs.LinesLemmas.Lines.{answered_more}
use Rattle.audit_flows.proofs.LinesLemmas.Histories.{history_same}

-- the same client asks the same again
again_is : (c t : Endpoint) (payload : List ℕ) (d e : Recorded) → d.source ≡ c → d.target ≡ t → d.payload ≡ payload → e.source ≡ c
    → is_again d e ≡ (bytes_eq payload e.payload && same_endpoint t e.target)
again_is c t payload d e source target same from =
    let one : same_endpoint d.source e.source ≡ true = subst (λ s. same_endpoint d.source s ≡ true) (source ∙ sym from) (same_itself d.source) in
    (rw one refl) ∙ (λ i. bytes_eq (same i) e.payload && same_endpoint (target i) e.target)

-- or asks for the same file
alike_is : (c t : Endpoint) (payload : List ℕ) (d e : Recorded) → d.source ≡ c → d.target ≡ t → d.payload ≡ payload → e.source ≡ c
    → asks_alike d e ≡ (bytes_eq (asked_part payload) (asked_part e.payload) && same_endpoint t e.target)
alike_is c t payload d e source target same from =
    let one : same_endpoint d.source e.source ≡ true = subst (λ s. same_endpoint d.source s ≡ true) (source ∙ sym from) (same_itself d.source) in
    (rw one refl) ∙ (λ i. bytes_eq (asked_part (same i)) (asked_part e.payload) && same_endpoint (target i) e.target)

abbrev chosen : Bool → Transfer → ℕ → Recorded → Place
chosen again x number e = if again then Repeats x else opened_by number e

-- ---- a request that repeats

or_off : {X : Type 0} (o : Option X) (x : X) → or_this o false x ≡ o
or_off None x = refl
or_off (Some y) x = refl

-- a request that repeats is the last one again
repeated : (b : Bool) (x y : Transfer) (number : ℕ) (d : Recorded) → chosen b x number d ≡ Repeats y → (b ≡ true) × (x ≡ y)
repeated true x y number d is = (refl, ap (λ p. of p) is) where
  of : Place → Transfer
  of (Repeats z) = z
  of other = x
repeated false x y number d is = absurd (cc)

pub repeated_stands : (old new : Line) (times : BTreeMap ℕ ℕ) (line : List Placed) (d : Recorded) (number : ℕ) (x : Transfer) (time now : ℕ) → IsLineOf old line → d.source ≡ old.latest.client → place_asked number d line ≡ Repeats x
    → new ≡ record old { moment = now; newest = times } → IsTimed old.newest times old.latest.number time → d.time ≡ time → IsLineOf new (record { datagram = d; moment = now; place = Repeats x } ∷ line)
repeated_stands old new times line d number x time now stands from is after timed passed =
    let known = repeated (old.ends_in_request && bytes_eq old.request.items d.payload && same_endpoint old.latest.asked d.target) old.latest x number d (sym (stands.asked number d from) ∙ is) in
    let both = and_parts (old.ends_in_request && bytes_eq old.request.items d.payload) (same_endpoint old.latest.asked d.target) known.0 in
    let ended = and_parts old.ends_in_request (bytes_eq old.request.items d.payload) both.0 in
    let p : Placed = record { datagram = d; moment = now; place = Repeats x } in
    subst (λ l. IsLineOf l (p ∷ line)) (sym after) (record {
      latest = stands.latest;
      answered = answered_more old.latest p line refl ∙ or_off (answered_in old.latest line) d.source ∙ stands.answered;
      moment = refl;
      asked = λ n e that. ap (λ again. chosen again x n e)
          (again_is old.latest.client old.latest.asked old.request.items d e from (sym (is_same old.latest.asked d.target both.1)) (sym ((bytes_eq-Decides old.request.items d.payload).0 ended.1)) that)
          ∙ (λ i. chosen (sym ended.0 i && bytes_eq old.request.items e.payload && same_endpoint old.latest.asked e.target) (sym known.1 i) n e);
      talks = stands.talks;
      histories = λ o. history_same old.latest.client o p line (history_of (get endpoint_cmp old.talks o)) refl (stands.histories o);
      unknown = stands.unknown;
      again = λ e that. alike_is old.latest.client old.latest.asked old.request.items d e from (sym (is_same old.latest.asked d.target both.1)) (sym ((bytes_eq-Decides old.request.items d.payload).0 ended.1)) that;
      spoken = stands.spoken;
      went_on = stands.went_on;
      surely = stands.surely;
      left = stands.left;
      newest = λ n at. (λ i. (((sym known.1 i).number == n) && nat_lt at (passed i)) || stands.newest n at i) ∙ sym (timed n at);
    })

-- what is kept says where a request goes
pub asked_is : (l : Line) (line : List Placed) (number : ℕ) (d : Recorded) (payload : List ℕ) (target : Endpoint) (again : Bool) → IsLineOf l line → d.source ≡ l.latest.client → d.target ≡ target → d.payload ≡ payload
    → (l.ends_in_request && bytes_eq l.request.items payload && same_endpoint l.latest.asked target) ≡ again
    → place_asked number d line ≡ (if again then Repeats l.latest else Opens (record { number = number; client = l.latest.client; asked = target; writes = begins_write payload; has_window = has_window payload }))
asked_is l line number d payload target again stands from to same is = stands.asked number d from
    ∙ (λ i. if l.ends_in_request && bytes_eq l.request.items (same i) && same_endpoint l.latest.asked (to i) then Repeats l.latest
    else Opens (record { number = number; client = from i; asked = to i; writes = begins_write (same i); has_window = has_window (same i) }))
    ∙ ap (λ b. if b then Repeats l.latest else Opens (record { number = number; client = l.latest.client; asked = target; writes = begins_write payload; has_window = has_window payload })) is

-- ---- a request that opens a transfer

pub opened_again : (x : Transfer) (payload : List ℕ) (time : ℕ) (d e : Recorded) → IsRequestOf x payload time d → e.source ≡ x.client
    → is_again d e ≡ (bytes_eq payload e.payload && same_endpoint x.asked e.target)
opened_again x payload time d e is that = again_is x.client x.asked payload d e is.source is.target is.same that

pub opened_alike : (x : Transfer) (payload : List ℕ) (time : ℕ) (d e : Recorded) → IsRequestOf x payload time d → e.source ≡ x.client
    → asks_alike d e ≡ (bytes_eq (asked_part payload) (asked_part e.payload) && same_endpoint x.asked e.target)
opened_alike x payload time d e is that = alike_is x.client x.asked payload d e is.source is.target is.same that
