-- The rules at one end are the runs of two.
use Rattle.std.proofs.Common.{◌≡◌, ℕ, List, sym, subst, refl, reverse, ◌↔◌}
use Rattle.tftp_packet.specs.Hosts.{Datagram, Header}
use Rattle.law_model.specs.Model.{Meaning, IsOneSided}
use Rattle.law_model.proofs.ModelLemmas.MadeRuns.{one_sided_view}
use Rattle.law_end.specs.{IsSeen, IsLawful, ShowsBy, Shows, Division, datagrams_of, view_in, Starts, Accords, AreRouted, OneEnded, IsEnded, Meant, Divides}
use Rattle.law_end.proofs.Whole.OneMeaning.{one_meaning}
use Rattle.law_end.proofs.Soundness.MadeMeaning.{some_accord}
use Rattle.law_end.proofs.Soundness.RulesDivide.{divides}
use Rattle.law_end.proofs.Division.Parted.{parts_of}
use Rattle.law_end.proofs.Division.OneDivision.{run_divides}
use Rattle.law_end.proofs.Whole.EndedIsComplete.{completed}
use Rattle.law_end.proofs.Completeness.RunsBreakNoRule.{run_keeps, shown_meant}

-- from a run to the rules
pub rules : (h : Header) (m : Meaning) (wire : List ℕ) (datagrams : List Datagram) → IsSeen h m wire datagrams → OneEnded h (reverse datagrams) × Accords h m wire (reverse datagrams)
rules = run_keeps

-- a division, with what it shows
record Divided (h : Header) (m : Meaning) (wire : List ℕ) (earlier : List Datagram) : Type 0 where
  division : Division
  same : datagrams_of division ≡ earlier
  routed : AreRouted h m wire division
  own : IsOneSided m wire h.named (view_in division)
  starts : Starts h.named (view_in division)

divided : (h : Header) (m : Meaning) (wire : List ℕ) (earlier : List Datagram) → OneEnded h earlier → Accords h m wire earlier → Divided h m wire earlier
divided h m wire earlier lawful acc =
    let (division, same, routed, own, starts) = divides h m wire earlier lawful acc in
    record { division = division; same = same; routed = routed; own = own; starts = starts }

seen_by : (h : Header) (m : Meaning) (wire : List ℕ) (datagrams : List Datagram) → Accords h m wire (reverse datagrams) → Divided h m wire (reverse datagrams) → IsSeen h m wire datagrams
seen_by h m wire datagrams acc x =
    let p = parts_of h m wire x.division x.routed x.starts in
    record {
      fits = acc.fits;
      view = view_in x.division;
      run = one_sided_view m wire h.named (view_in x.division) x.own;
      dressed = record { ids = p.0; division = x.division; whole = x.same; main = refl; labels = p.1 };
    }

-- from the rules to a run: a division is made, and the other end is made up
pub seen : (h : Header) (m : Meaning) (wire : List ℕ) (datagrams : List Datagram) → OneEnded h (reverse datagrams) → Accords h m wire (reverse datagrams) → IsSeen h m wire datagrams
seen h m wire datagrams lawful acc = seen_by h m wire datagrams acc (divided h m wire (reverse datagrams) lawful acc)

-- a meaning and a wire are made up
pub some : (h : Header) (earlier : List Datagram) → OneEnded h earlier → (m : Meaning) × (wire : List ℕ) × Accords h m wire earlier
some h earlier lawful = some_accord h earlier lawful

-- so a capture is lawful exactly if it breaks no rule
pub lawful : (h : Header) (ds : List Datagram) → IsLawful h ds ↔ OneEnded h (reverse ds)
lawful h ds = (
  λ is. (rules h is.0 is.1 ds is.2).0,
  λ is. let (m, wire, acc) = some h (reverse ds) is in (m, wire, seen h m wire ds is acc),
)

-- so what breaks no rule divides, in the one way
pub divides_by_rules : (h : Header) (earlier : List Datagram) → OneEnded h earlier → Divides h earlier
divides_by_rules h earlier lawful =
    let (m, wire, acc) = some h earlier lawful in
    let x = divided h m wire earlier lawful acc in
    let p = parts_of h m wire x.division x.routed x.starts in
    let run = run_divides h m wire p.0 x.division p.1 x.own in
    record { division = x.division; whole = x.same; starts = run.1; ids = p.0; labels = run.0 }

-- from a whole run to what the rules mean
pub meant_by : (h : Header) (m : Meaning) (wire : List ℕ) (ds : List Datagram) → ShowsBy h m wire ds → Meant h (reverse ds) m
meant_by = shown_meant

shows_some : (h : Header) (ds : List Datagram) → IsEnded h (reverse ds) → (m : Meaning) × (wire : List ℕ) × ShowsBy h m wire ds
unfolding seen_by
shows_some h ds ended =
    let (m, wire, acc) = some h (reverse ds) ended.lawful in
    let x = divided h m wire (reverse ds) ended.lawful acc in (
      m,
      wire,
      record {
        seen = seen_by h m wire ds acc x;
        complete = completed h m wire x.division x.routed x.own (subst (Accords h m wire) (sym x.same) acc) (subst (IsEnded h) (sym x.same) ended);
      },
    )

-- what is meant is shown: by the wire that was made up, and the meaning is one
pub whole : (h : Header) (m : Meaning) (ds : List Datagram) → Meant h (reverse ds) m ↔ ((wire : List ℕ) × ShowsBy h m wire ds)
whole h m ds = (
  λ meant. let (n, wire, shows) = shows_some h ds meant.ended in
      subst (λ (x : Meaning). (wire : List ℕ) × ShowsBy h x wire ds) (one_meaning h (reverse ds) n m (meant_by h n wire ds shows) meant) (wire, shows),
  λ shows. meant_by h m shows.0 ds shows.1,
)

-- what is shown by any wire is one meaning
pub one_shown : (h : Header) (ds : List Datagram) (m n : Meaning) → (wire : List ℕ) × ShowsBy h m wire ds → (wire : List ℕ) × ShowsBy h n wire ds → m ≡ n
one_shown h ds m n x y = one_meaning h (reverse ds) m n (meant_by h m x.0 ds x.1) (meant_by h n y.0 ds y.1)

-- a capture shows one meaning at most
pub one : (h : Header) (ds : List Datagram) (m n : Meaning) → Shows h m ds → Shows h n ds → m ≡ n
one h ds m n x y = one_shown h ds m n (x.wire, x.shown) (y.wire, y.shown)
