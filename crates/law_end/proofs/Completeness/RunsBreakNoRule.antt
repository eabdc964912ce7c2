-- What a run shows breaks no rule, and where it is whole it means by the rules what the run means.
use Rattle.std.proofs.Common.{ℕ, List, sym, subst, reverse}
use Rattle.tftp_packet.specs.Hosts.{Datagram, Header}
use Rattle.law_model.specs.Model.{Meaning, IsOneSided, IsComplete}
use Rattle.law_model.proofs.ModelLemmas.OneSided.{view_one_sided}
use Rattle.law_end.specs.{IsSeen, ShowsBy, view_in, Accords, OneEnded, Meant}
use Rattle.law_end.proofs.Division.Routed.{routed, starts_of}
use Rattle.law_end.proofs.Completeness.RunsPass.{ruled, accords}
use Rattle.law_end.proofs.Whole.WholeIsMeant.{meant}

-- the division of a run has the routes, and so it passes and is in accord
pub run_keeps : (h : Header) (m : Meaning) (wire : List ℕ) (datagrams : List Datagram) → IsSeen h m wire datagrams
    → OneEnded h (reverse datagrams) × Accords h m wire (reverse datagrams)
run_keeps h m wire datagrams seen =
    let division = seen.dressed.division in
    let own : IsOneSided m wire h.named (view_in division) = subst (IsOneSided m wire h.named) (sym seen.dressed.main) (view_one_sided m wire h.named seen.view seen.run) in
    let starts = starts_of h m wire seen.dressed.ids division seen.dressed.labels own in
    let routes = routed h m wire seen.dressed.ids division seen.dressed.labels own in
    subst (λ ds. OneEnded h ds × Accords h m wire ds) seen.dressed.whole (ruled h m wire seen.fits division routes own starts, accords h m wire seen.fits division routes own)

-- and where the run is complete the rules tell its meaning
pub shown_meant : (h : Header) (m : Meaning) (wire : List ℕ) (datagrams : List Datagram) → ShowsBy h m wire datagrams
    → Meant h (reverse datagrams) m
shown_meant h m wire datagrams shows =
    let seen = shows.seen in
    let division = seen.dressed.division in
    let own : IsOneSided m wire h.named (view_in division) = subst (IsOneSided m wire h.named) (sym seen.dressed.main) (view_one_sided m wire h.named seen.view seen.run) in
    let starts = starts_of h m wire seen.dressed.ids division seen.dressed.labels own in
    let routes = routed h m wire seen.dressed.ids division seen.dressed.labels own in
    let complete = subst (IsComplete m wire h.named) (sym seen.dressed.main) shows.complete in
    subst (λ ds. Meant h ds m) seen.dressed.whole (meant h m wire seen.fits division routes own starts complete)
