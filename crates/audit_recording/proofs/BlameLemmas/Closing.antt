-- What is kept of how a transfer ended, with one datagram more. Lists have the newest first.
use Rattle.std.proofs.Common.{◌≡◌, ◌∷◌, ◌&&◌, not, ℕ, Bool, true, false, true≢false, cond, List, Option, Some, None, is_some, option_map, refl, sym, ap, subst, ◌∙◌}
use Rattle.std.specs.BTreeMap.{BTreeMap, get}
use Rattle.std.specs.Ordering.{is_eq}
use Rattle.audit_flows.specs.{Endpoint, Transfer}
use Rattle.audit_flows.specs.Lines.{endpoint_cmp, is_of, other_of, same_endpoint}
use Rattle.audit_flows.specs.Transfers.{is_settled}
use Rattle.audit_flows.proofs.LinesLemmas.Endpoints.{is_same}
use Rattle.audit_recording.specs.Blame.Frames.{Carried, Framed, framed, framed_after, view_of}
use Rattle.audit_recording.specs.declared.blame.closing.Closing.{Closing}
use Rattle.audit_recording.specs.declared.blame.stop.Stop.{Stop}
use Rattle.audit_recording.specs.declared.rows.row.Point.TheVariants.{Client}
use Rattle.audit_recording.specs.Endings.Told.{Sent, earlier_or, first_stop, is_to_stranger, sender_at, sent_in, sent_of, stop_by, stop_in}
use Rattle.audit_recording.specs.Endings.Kept.{IsClosingOf}
use Rattle.audit_recording.proofs.BlameLemmas.Holding.{filter_none, filter_one}
use Rattle.audit_recording.proofs.ReasonsLemmas.Unplaced.{by_endpoint}

-- ---- ERRORs

none_more : (o : Option Sent) → o ≡ earlier_or o None
none_more None = refl
none_more (Some s) = refl

some_first : (o later : Option Sent) → is_some o ≡ true → o ≡ earlier_or o later
some_first None later is = absurd (true≢false (sym is))
some_first (Some s) later is = refl

none_first : (o later : Option Sent) → is_some o ≡ false → earlier_or o later ≡ later
none_first None later is = refl
none_first (Some s) later is = absurd (true≢false is)

some_map : (o : Option Stop) → is_some (option_map sent_of o) ≡ is_some o
some_map None = refl
some_map (Some s) = refl

either : (b : Bool) (o : Option Sent) → cond b o o ≡ o
either true o = refl
either false o = refl

-- the ERRORs that are kept are the first of these
abbrev pub AreStops : BTreeMap Endpoint Stop → Transfer → List Framed → Type 0
AreStops stops x view = (s : Endpoint) → option_map sent_of (get endpoint_cmp stops s) ≡ first_stop x s view

pub stops_same : (old new : BTreeMap Endpoint Stop) (x : Transfer) (view : List Framed) → new ≡ old → AreStops old x view → AreStops new x view
stops_same old new x view same = subst (λ stops. AreStops stops x view) (sym same)

-- it is no ERROR
pub no_stop : (stops : BTreeMap Endpoint Stop) (x : Transfer) (f : Framed) (view : List Framed) → stop_in x f ≡ None → AreStops stops x view → AreStops stops x (f ∷ view)
no_stop stops x f view none stands s =
    let same : Bool = same_endpoint (other_of x.client f.placed.datagram) s in
    stands s ∙ none_more (first_stop x s view)
    ∙ sym (ap (earlier_or (first_stop x s view)) (ap (λ o. cond same (option_map (sent_in x f) o) None) none ∙ either same None))

module _ (stops : BTreeMap Endpoint Stop) (x : Transfer) (f : Framed) (view : List Framed) (peer s : Endpoint) (at : peer ≡ other_of x.client f.placed.datagram) (stands : AreStops stops x view) where
  -- it passed with another
  passed_with_another : same_endpoint peer s ≡ false → first_stop x s view ≡ first_stop x s (f ∷ view)
  passed_with_another other =
      none_more (first_stop x s view)
      ∙ sym (ap (earlier_or (first_stop x s view)) (ap (λ b. cond b (option_map (sent_in x f) (stop_in x f)) None) (ap (λ e. same_endpoint e s) (sym at) ∙ other)))

  known_at : same_endpoint peer s ≡ true → is_some (first_stop x s view) ≡ is_some (get endpoint_cmp stops peer)
  known_at same = sym (ap is_some (stands s)) ∙ some_map (get endpoint_cmp stops s) ∙ ap (λ e. is_some (get endpoint_cmp stops e)) (sym (is_same peer s same))

  -- an earlier one is known
  pub known_one : is_some (get endpoint_cmp stops peer) ≡ true → option_map sent_of (get endpoint_cmp stops s) ≡ first_stop x s (f ∷ view)
  known_one known = stands s ∙ by (same_endpoint peer s) refl where
    by : (b : Bool) → same_endpoint peer s ≡ b → first_stop x s view ≡ first_stop x s (f ∷ view)
    by true same = some_first (first_stop x s view) (stop_by x s f) (known_at same ∙ known)
    by false other = passed_with_another other

  -- it is the first
  pub new_one : (new : BTreeMap Endpoint Stop) (stop : Stop) (e : ℕ × List ℕ) → is_some (get endpoint_cmp stops peer) ≡ false
      → ((q : Endpoint) → get endpoint_cmp new q ≡ cond (is_eq (endpoint_cmp peer q)) (Some stop) (get endpoint_cmp stops q))
      → stop_in x f ≡ Some e → sent_of stop ≡ sent_in x f e → option_map sent_of (get endpoint_cmp new s) ≡ first_stop x s (f ∷ view)
  new_one new stop e unknown updates is sent = ap (option_map sent_of) (by_endpoint stops new peer (Some stop) updates s) ∙ by (same_endpoint peer s) refl where
    by : (b : Bool) → same_endpoint peer s ≡ b → option_map sent_of (cond b (Some stop) (get endpoint_cmp stops s)) ≡ first_stop x s (f ∷ view)
    by true same =
        ap Some sent
        ∙ sym (none_first (first_stop x s view) (stop_by x s f) (known_at same ∙ unknown)
        ∙ ap (λ b. cond b (option_map (sent_in x f) (stop_in x f)) None) (ap (λ e. same_endpoint e s) (sym at) ∙ same)
        ∙ ap (option_map (sent_in x f)) is)
    by false other = stands s ∙ passed_with_another other

-- ---- one that is not at the client

module _ (k : Closing) (x : Transfer) (named : List ℕ) (c : Carried) (carried : List Carried) where
  pub passed_by : is_of x.number (framed_after named carried c).placed ≡ false → IsClosingOf k x (view_of Client x.number named carried)
      → IsClosingOf k x (view_of Client x.number named (c ∷ carried))
  passed_by off = subst (IsClosingOf k x) (sym (filter_none (λ (g : Framed). is_of x.number g.placed) (framed_after named carried c) (framed named carried) off))

  pub passed_there : is_of x.number (framed_after named carried c).placed ≡ true → IsClosingOf k x (framed_after named carried c ∷ view_of Client x.number named carried)
      → IsClosingOf k x (view_of Client x.number named (c ∷ carried))
  passed_there on = subst (IsClosingOf k x) (sym (filter_one (λ (g : Framed). is_of x.number g.placed) (framed_after named carried c) (framed named carried) on))

-- ---- what is sent

pub sent_same : (x : Transfer) (f : Framed) (stop : Stop) (e : ℕ × List ℕ) → stop.role ≡ sender_at x f.placed.datagram.source → stop.frame ≡ f.carried.frame → stop.code ≡ e.0
    → stop.message.items ≡ e.1 → sent_of stop ≡ sent_in x f e
sent_same x f stop e role frame code message = λ i. record { role = role i; frame = frame i; code = code i; message = message i }

pub to_stranger : (x : Transfer) (f : Framed) (source : Endpoint) (settled : Bool) → f.placed.datagram.source ≡ source → same_endpoint source x.client ≡ true
    → settled ≡ is_settled x.number (f.placed ∷ f.before) → not settled ≡ is_to_stranger x f
to_stranger x f source settled at same is =
    ap not is ∙ sym (ap (λ own. own && not (is_settled x.number (f.placed ∷ f.before))) (ap (λ e. same_endpoint e x.client) at ∙ same))
