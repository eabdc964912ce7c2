-- A run in which each packet is told at once: it is sent, passes the tap and is taken.
use Rattle.std.proofs.Common.{◌≡◌, ℕ, false, ◌/◌, ◌%◌, ◌<◌, ◌≤◌, List, [], ◌∷◌, Any, Contains, inl, inr, refl, sym, subst, ap, ◌∙◌, arith}
use Rattle.std.proofs.lemmas.Bool.{true≢false}
use Rattle.std.proofs.lemmas.Nat.{mod_below, div-add-mod'}
use Rattle.tftp_packet.specs.{Message, IsPlace, Spells, End, Client, Server}
use Rattle.law_model.specs.Model.{Meaning, block, MachinePacket, Req, Data, Error, message_of, Sent, Took, NoErrorSent, MaySend, is_error}
use Rattle.law_model.proofs.ModelLemmas.Members.{contains_first, contains_cases, contains_none}
use Rattle.law_end.specs.{says_of}
use Rattle.law_end.proofs.Division.Divided.{any_first, any_later}
use Rattle.law_end.proofs.Written.EachOf.{Bytes, all_take, all_drop}
use Rattle.law_tap.specs.{Pass, TapStep, Does, Passes, did, passed_in, IsTappedRun, as_at, PeerId, TapDatagram, TapSides, side_of, TapLabel, Main, TapLabelled, TapDivision, passed_of, IsMainFrom, GoesThere, HaveTapLabels}
use Rattle.law_tap.specs.TapDress.{Stray, StrayAnswer}
use Rattle.law_tap.proofs.LossySaid.{passed_main}
use Rattle.law_tap.proofs.OneTap.{Has}
use Rattle.law_tap.proofs.Passed.{sent_passed}

-- ---- how it is spelled

place_is : (k : ℕ) → IsPlace (k / 256) (k % 256) k
place_is k =
    let split = div-add-mod' k 256 in
    let low = mod_below k 256 (omega arith) in
    (low, omega (arith, split))

pub data_spelled : (k : ℕ) (bytes : List ℕ) → Bytes bytes → (payload : List ℕ) × Spells payload (Message.Data k bytes)
data_spelled k bytes all =
    let place = place_is k in
    (0 ∷ 3 ∷ (k / 256) ∷ (k % 256) ∷ bytes, ((omega arith, (omega arith, (place.0, all))), (k / 256, k % 256, place, refl)))

pub ack_spelled : (k : ℕ) → (payload : List ℕ) × Spells payload (Message.Ack k)
ack_spelled k =
    let place = place_is k in
    (0 ∷ 4 ∷ (k / 256) ∷ (k % 256) ∷ [], ((omega arith, (omega arith, (place.0, tt))), (k / 256, k % 256, place, refl)))

pub block_bytes : (b : ℕ) (wire : List ℕ) (k : ℕ) → Bytes wire → Bytes (block b wire k)
block_bytes b wire k all = all_take (λ x. x < 256) b _ (all_drop (λ x. x < 256) _ wire all)

-- ---- what has not been told

abbrev pub Quiet : List Pass → Type 0
Quiet told = (e : End) (code : ℕ) (text : List ℕ) → Has told e (Error code text) → ⊥

pub quiet_none : Quiet []
quiet_none e code text at = contains_none _ at

pub quiet_more : (x : Pass) (told : List Pass) → is_error x.packet ≡ false → Quiet told → Quiet (x ∷ told)
quiet_more x told plain quiet e code text at = elim (contains_cases x told _ at) [
  | inl now ↦ true≢false (sym (ap (λ (y : Pass). is_error y.packet) now) ∙ plain)
  | inr before ↦ quiet e code text before
]

pub none_sent : (e : End) (told : List Pass) → Quiet told → NoErrorSent (as_at e told)
none_sent e told quiet code text at = quiet e code text (sent_passed e (Error code text) told at)

-- no block above this one
abbrev pub UpTo : ℕ → List Pass → Type 0
UpTo n told = (e : End) (k : ℕ) → Has told e (Data k) → k ≤ n

pub upto_none : (n : ℕ) → UpTo n []
upto_none n e k at = absurd (contains_none _ at)

pub upto_more : (n : ℕ) (x : Pass) (told : List Pass) → ((k : ℕ) → x.packet ≡ Data k → k ≤ n) → UpTo n told → UpTo n (x ∷ told)
upto_more n x told small upto e k at = elim (contains_cases x told _ at) [
  | inl now ↦ small k (ap (λ (y : Pass). y.packet) now)
  | inr before ↦ upto e k before
]

-- ---- telling

-- a packet of the server has passed
pub main_any : (division : TapDivision) (q : MachinePacket) → Contains (passed_of division) (record { from = Server; packet = q }) → Any (λ p. IsMainFrom Server p.label) division
main_any [] q at = absurd (contains_none _ at)
main_any (l ∷ rest) q at = by l.label refl (λ before. any_later (λ (p : TapLabelled). IsMainFrom Server p.label) l rest (main_any rest q before)) where
  by : (label : TapLabel) → l.label ≡ label → (Contains (passed_of rest) (record { from = Server; packet = q }) → Any (λ p. IsMainFrom Server p.label) (l ∷ rest)) → Any (λ p. IsMainFrom Server p.label) (l ∷ rest)
  by (Main x) is later = elim (contains_cases x (passed_of rest) _ (subst (λ v. Contains v (record { from = Server; packet = q })) (passed_main l x rest is) at)) [
    | inl now ↦ any_first (λ (p : TapLabelled). IsMainFrom Server p.label) l rest (q, is ∙ ap Main now)
    | inr before ↦ later before
  ]
  by Stray is later = later (subst (λ v. Contains (passed_of (record { datagram = l.datagram; label = v } ∷ rest)) (record { from = Server; packet = q })) is at)
  by StrayAnswer is later = later (subst (λ v. Contains (passed_of (record { datagram = l.datagram; label = v } ∷ rest)) (record { from = Server; packet = q })) is at)

-- where an end's packet goes
abbrev pub way_of : TapSides → End → MachinePacket → PeerId
way_of s Client Req = s.asked
way_of s Client _ = s.server
way_of s Server _ = s.client

abbrev pub carrier : TapSides → End → MachinePacket → List ℕ → TapDatagram
carrier s e p payload = record { source = side_of s e; destination = way_of s e p; payload = payload }

module _ (s : TapSides) (m : Meaning) (wire : List ℕ) where
  -- a run in which just these were told, the newest first, and a capture of it
  pub record Telling (told : List Pass) : Type 0 where
    pub steps : List TapStep
    pub run : IsTappedRun m wire steps
    pub passed : passed_in steps ≡ told
    pub client : did Client steps ≡ as_at Client told
    pub server : did Server steps ≡ as_at Server told
    pub division : TapDivision
    pub same : passed_of division ≡ told
    pub labels : HaveTapLabels s (says_of m wire) division

  pub nothing_told : Telling []
  nothing_told = record { steps = []; run = tt; passed = refl; client = refl; server = refl; division = []; same = refl; labels = tt }

  pub answered : (told : List Pass) (t : Telling told) (q : MachinePacket) → Has told Server q → Any (λ p. IsMainFrom Server p.label) t.division
  answered told t q at = main_any t.division q (subst (λ l. Contains l (record { from = Server; packet = q })) (sym t.same) at)

  pub tell : (e : End) (p : MachinePacket) (told : List Pass) (t : Telling told) → MaySend m wire e (as_at e told) p → (payload : List ℕ) → Spells payload (message_of m wire p)
      → GoesThere s t.division (carrier s e p payload) e p → Telling (record { from = e; packet = p } ∷ told)
  tell Client p told t may payload spells goes = record {
    steps = Does Server (Took p) ∷ Passes Client p ∷ Does Client (Sent p) ∷ t.steps;
    run = (contains_first (record { from = Client; packet = p }) (passed_in t.steps), (contains_first (Sent p) (did Client t.steps), (subst (λ h. MaySend m wire Client h p) (sym t.client) may, t.run)));
    passed = ap (λ l. record { from = Client; packet = p } ∷ l) t.passed;
    client = ap (λ h. Sent p ∷ h) t.client;
    server = ap (λ h. Took p ∷ h) t.server;
    division = record { datagram = carrier s Client p payload; label = Main (record { from = Client; packet = p }) } ∷ t.division;
    same = ap (λ l. record { from = Client; packet = p } ∷ l) t.same;
    labels = (record { source = refl; goes = goes; spells = spells }, t.labels);
  }
  tell Server p told t may payload spells goes = record {
    steps = Does Client (Took p) ∷ Passes Server p ∷ Does Server (Sent p) ∷ t.steps;
    run = (contains_first (record { from = Server; packet = p }) (passed_in t.steps), (contains_first (Sent p) (did Server t.steps), (subst (λ h. MaySend m wire Server h p) (sym t.server) may, t.run)));
    passed = ap (λ l. record { from = Server; packet = p } ∷ l) t.passed;
    client = ap (λ h. Took p ∷ h) t.client;
    server = ap (λ h. Sent p ∷ h) t.server;
    division = record { datagram = carrier s Server p payload; label = Main (record { from = Server; packet = p }) } ∷ t.division;
    same = ap (λ l. record { from = Server; packet = p } ∷ l) t.same;
    labels = (record { source = refl; goes = goes; spells = spells }, t.labels);
  }
