-- What begins with its request and breaks no rule with losses is not certain to be unlawful.
use Rattle.std.proofs.Common.{◌≡◌, ◌⊎◌, ℕ, ◌+◌, ◌/◌, ◌<◌, ◌≤◌, true, List, [], ◌∷◌, length, Option, Some, codes, inl, inr, refl, sym, subst, ap, ◌∙◌, arith}
use Rattle.std.specs.FinMap as map
use Rattle.std.specs.List.{AllByRecursion}
use Rattle.tftp_packet.specs.{OptionMap, OptionValue, Num, no_options, is_within, range_of, RequestParts, Message, Spells, but_third, Side, Get, Put, End, Client, Server}
use Rattle.tftp_packet.specs.Rounds.{greatest_of}
use Rattle.tftp_nego.specs.{AreInRange, number_or}
use Rattle.tftp_nego.proofs.Numbers.{map_in_range, windowsize_range}
use Rattle.law_model.specs.Model.{Meaning, blksize_of, windowsize_of, block, block_count, MachinePacket, Req, Oack, Data, Ack, Error, message_of}
use Rattle.law_model.specs.Model.Machines.{sender_of, receiver_of}
use Rattle.law_model.proofs.ModelLemmas.Defaults.{default_blksize, default_windowsize}
use Rattle.law_end.specs.{Fits, carried_file, IsWrongKind}
use Rattle.law_end.proofs.Soundness.MadeMeaning.{from_eight}
use Rattle.law_end.proofs.Soundness.SameOrNot.{same_options}
use Rattle.law_end.proofs.Whole.CarriedFile.{carried_file-reads}
use Rattle.law_end.proofs.Written.EachOf.{Bytes}
use Rattle.law_tap.specs.{TapDatagram, TapSides, AreApart, IsTapRead, BreaksNoTapRule}
use Rattle.law_tap.specs.LossesBetween.{IsLawfulBetweenWithLosses}
use Rattle.law_tap.specs.LossyRules.{lossy_route, IsSaidBy, IsSaid, IsNumber, Explains, BreaksNoLossyRule, BeginsWithRequest}
use Rattle.law_tap.proofs.CertainBetween.{between_lossy}
use Rattle.law_tap.proofs.LossyCertain.{lawful_breaks_none}
use Rattle.law_tap.proofs.LossyEager.{Sometime, Everything, everything}
use Rattle.law_tap.proofs.LossyFacts.{Facts, facts_of}
use Rattle.law_tap.proofs.LossyMade.{lawful_of}
use Rattle.law_tap.proofs.LossySaid.{any_there}
use Rattle.law_tap.proofs.LossyWire.{some_wire}
use Rattle.law_tap.proofs.TapLaw.{rules_are_runs}

-- ---- who may send it

request_from : (e : End) (side : Side) (now : RequestParts) → (IsWrongKind e side (Message.Request now) → ⊥) → e ≡ Client
request_from Client side now right = refl
request_from Server Get now right = absurd (right tt)
request_from Server Put now right = absurd (right tt)

oack_from : (e : End) (side : Side) (options : OptionMap) → (IsWrongKind e side (Message.Oack options) → ⊥) → e ≡ Server
oack_from Server side options right = refl
oack_from Client Get options right = absurd (right tt)
oack_from Client Put options right = absurd (right tt)

data_from : (e : End) (side : Side) (k : ℕ) (x : List ℕ) → (IsWrongKind e side (Message.Data k x) → ⊥) → e ≡ sender_of side
data_from Client Get k x right = absurd (right tt)
data_from Client Put k x right = refl
data_from Server Get k x right = refl
data_from Server Put k x right = absurd (right tt)

ack_from : (e : End) (side : Side) (k : ℕ) → (IsWrongKind e side (Message.Ack k) → ⊥) → e ≡ receiver_of side
ack_from Client Get k right = refl
ack_from Client Put k right = absurd (right tt)
ack_from Server Get k right = absurd (right tt)
ack_from Server Put k right = refl

-- ---- numbers

window_of : (o : Option OptionValue) → ((n : ℕ) → o ≡ Some (Num n) → is_within (range_of (codes "windowsize")) n ≡ true) → 1 ≤ number_or 1 o
window_of (Some (Num n)) range = (windowsize_range n (range n refl)).0
window_of _ range = omega arith

abbrev pick : {X : Type 0} → X → X → End → X
pick client server Client = client
pick client server Server = server

module _ (s : TapSides) (apart : AreApart s) (tapped : List TapDatagram) (asked : RequestParts) (f : Facts s apart tapped asked) (reads : AllByRecursion (λ d. IsTapRead (lossy_route s d) d) tapped) where
  -- ---- the ERROR of an end, or any

  error_of : (e : End) → ((stop : ℕ × List ℕ) → ((c : ℕ) (t : List ℕ) → IsSaid s tapped e (Message.Error c t) → Error c t ≡ Error stop.0 stop.1) → ⊥) → ⊥
  error_of e go = go (0, []) (λ c t said. absurd (go (c, t) (λ d u other. same d c u t (f.errors e d c u t other said)))) where
    same : (d c : ℕ) (u t : List ℕ) → Message.Error d u ≡ Message.Error c t → Error d u ≡ Error c t
    same d c u t is =
        let number : d ≡ c = cc in
        let words : u ≡ t = cc in
        λ i. Error (number i) (words i)

  errors_of : ((stop : End → ℕ × List ℕ) → ((e : End) (c : ℕ) (t : List ℕ) → IsSaid s tapped e (Message.Error c t) → Error c t ≡ Error (stop e).0 (stop e).1) → ⊥) → ⊥
  errors_of go = error_of Client (λ one is. error_of Server (λ other at. go (pick one other) (by one is other at))) where
    by : (one : ℕ × List ℕ) → ((c : ℕ) (t : List ℕ) → IsSaid s tapped Client (Message.Error c t) → Error c t ≡ Error one.0 one.1)
        → (other : ℕ × List ℕ) → ((c : ℕ) (t : List ℕ) → IsSaid s tapped Server (Message.Error c t) → Error c t ≡ Error other.0 other.1)
        → (e : End) (c : ℕ) (t : List ℕ) → IsSaid s tapped e (Message.Error c t) → Error c t ≡ Error (pick one other e).0 (pick one other e).1
    by one is other at Client c t said = is c t said
    by one is other at Server c t said = at c t said

  -- ---- a meaning and a wire

  module _ (agreed : OptionMap) (total : ℕ) (x : Explains s asked tapped agreed total) (unlawful : IsLawfulBetweenWithLosses s tapped → ⊥) where
    abbrev meant : List ℕ → Meaning
    meant file = record { side = asked.side; name = asked.name; mode = asked.mode; requested = asked.options; agreed = agreed; file = file }

    in_range : (agreed ≡ no_options → ⊥) → AreInRange agreed
    in_range some = let t = x.spelled some in subst AreInRange (sym t.1.1.map) (map_in_range t.1.1.pairs)

    some_size : (file : List ℕ) → 0 < blksize_of (meant file)
    some_size file = elim (same_options agreed no_options) [
      | inl none ↦ let is = default_blksize (meant file) none in omega (arith, is)
      | inr some ↦ let eight = from_eight (map.get agreed (codes "blksize")) (in_range some (codes "blksize")) in omega (arith, eight)
    ]

    some_window : (file : List ℕ) → 1 ≤ windowsize_of (meant file)
    some_window file = elim (same_options agreed no_options) [
      | inl none ↦ let is = default_windowsize (meant file) none in omega (arith, is)
      | inr some ↦ window_of (map.get agreed (codes "windowsize")) (in_range some (codes "windowsize"))
    ]

    abbrev Block : ℕ → List ℕ → Type 0
    Block k y = IsSaid s tapped (sender_of asked.side) (Message.Data k y)

    from_sender : (e : End) (k : ℕ) (y : List ℕ) → IsSaid s tapped e (Message.Data k y) → e ≡ sender_of asked.side
    from_sender e k y said = data_from e asked.side k y (f.kinds e (Message.Data k y) said)

    block_bytes : (k : ℕ) (y : List ℕ) → Block k y → Bytes y
    block_bytes k y said =
        let (d, at, is) = any_there (IsSaidBy s (sender_of asked.side) (Message.Data k y)) tapped said in
        let (u, v, pair, layout) = is.spells.1 in
        (subst (λ (p : List ℕ). Bytes (but_third p)) layout is.spells.0).1.1.1

    module _ (wire : List ℕ) (long : length wire ≡ total) (bytes : Bytes wire) (has : (k : ℕ) (y : List ℕ) → Block k y → y ≡ block (blksize_of (meant [])) wire k)
        (stop : End → ℕ × List ℕ) (stops : (e : End) (c : ℕ) (t : List ℕ) → IsSaid s tapped e (Message.Error c t) → Error c t ≡ Error (stop e).0 (stop e).1) where
      abbrev file : List ℕ
      file = carried_file asked.mode wire

      abbrev m : Meaning
      m = meant file

      counted : total / blksize_of m + 1 ≡ block_count (blksize_of m) wire
      counted = ap (λ n. n / blksize_of m + 1) (sym long)

      few : block_count (blksize_of m) wire ≤ greatest_of s.rollover
      few = subst (λ n. n ≤ greatest_of s.rollover) counted x.numbered

      fits : Fits s.rollover m wire
      fits = record { may_agree = x.may; reads = carried_file-reads asked.mode wire; size = λ octet size at. long ∙ x.size octet size at; numbered = few }

      request : (payload : List ℕ) × Spells payload (message_of m wire Req)
      request = let (d, at, is) = any_there (IsSaidBy s Client (Message.Request asked)) tapped f.request in (d.payload, is.spells)

      all : Everything s m wire request x.spelled bytes few (some_window file) asked.side refl
      all = everything s m wire request x.spelled bytes few (some_window file) asked.side refl asked.side refl

      within : (k : ℕ) → IsNumber s tapped k → k ≤ block_count (blksize_of m) wire
      within k is = subst (λ n. k ≤ n) counted (x.numbers k is)

      says : (e : End) (n : Message) → IsSaid s tapped e n → (p : MachinePacket) × (Sometime m wire e p ⊎ (p ≡ Error (stop e).0 (stop e).1)) × (n ≡ message_of m wire p)
      says e (Message.Request now) said = (Req, inl (request_from e asked.side now (f.kinds e (Message.Request now) said)), ap Message.Request (f.requests e now said))
      says e (Message.Oack options) said = let given = x.given e options said in (Oack, inl (oack_from e asked.side options (f.kinds e (Message.Oack options) said), given.1), ap Message.Oack given.0)
      says e (Message.Data k y) said =
          let from = from_sender e k y said in
          (Data k, inl (from, f.low e k y said, within k (e, inr (y, said))), ap (Message.Data k) (has k y (subst (λ v. IsSaid s tapped v (Message.Data k y)) from said)))
      says e (Message.Ack k) said = (
        Ack k,
        inl (ack_from e asked.side k (f.kinds e (Message.Ack k) said), within k (e, inl said), λ none get. x.zero get e (subst (λ i. IsSaid s tapped e (Message.Ack i)) none said)),
        refl,
      )
      says e (Message.Error c t) said = (Error c t, inr (stops e c t said), refl)

      lawful : IsLawfulBetweenWithLosses s tapped
      lawful = lawful_of s apart m wire fits all.told all.t all.quiet all.all stop tapped reads says

    never : ⊥
    never = some_wire Block (blksize_of (meant [])) total (some_size []) (λ k y z one other. f.blocks (sender_of asked.side) k y z one other) (λ k y said. f.low (sender_of asked.side) k y said)
        block_bytes (λ k y said. x.blocks (sender_of asked.side) k y said)
        (λ wire long bytes has. errors_of (λ stop stops. unlawful (lawful wire long bytes has stop stops)))

  pub not_certain : (IsLawfulBetweenWithLosses s tapped → ⊥) → ⊥
  not_certain unlawful = f.explained (λ agreed total x. never agreed total x unlawful)

reads_of : (s : TapSides) (tapped : List TapDatagram) → BreaksNoLossyRule s tapped → AllByRecursion (λ d. IsTapRead (lossy_route s d) d) tapped
reads_of s [] passes = tt
reads_of s (d ∷ tapped) passes = (passes.0.read, reads_of s tapped passes.1)

pub unbroken_is_not_certain : (s : TapSides) (tapped : List TapDatagram) → AreApart s → BeginsWithRequest s tapped → BreaksNoLossyRule s tapped → (IsLawfulBetweenWithLosses s tapped → ⊥) → ⊥
unbroken_is_not_certain s tapped apart begins passes = let (asked, f) = facts_of s apart tapped passes begins in not_certain s apart tapped asked f (reads_of s tapped passes)

-- ---- what is accused today

pub accepted_breaks_none : (s : TapSides) (tapped : List TapDatagram) → AreApart s → BreaksNoTapRule s tapped → BreaksNoLossyRule s tapped
accepted_breaks_none s tapped apart passes = lawful_breaks_none s tapped apart (between_lossy s tapped ((rules_are_runs s apart tapped).1 passes))
