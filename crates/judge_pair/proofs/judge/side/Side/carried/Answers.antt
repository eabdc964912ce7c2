use Rattle.std.proofs.Common.{◌≡◌, ◌∙◌, Option, Some, List, sym, ap, subst}
use Rattle.tftp_packet.specs.Hosts.{Datagram, Header}
use Rattle.law_model.specs.Rules.{transfer_of}
use Rattle.judge_pair.specs.Counts.{AreCounted, Counted, IsCountOf}
use Rattle.judge_pair.specs.Judge.{IsSideAfter, Side}
use Rattle.judge_pair.proofs.JudgeLemmas.Sides.{none_map, not_too_many, some_map}
use Rattle.judge_pair.proofs.judge.side.Side.carried.Goals as goal

-- what a side that is counted stands for
is_count : (s : Side) (c : Counted) → s.counts ≡ Some c → (h : Header) (read : List Datagram) → IsSideAfter s h read → IsCountOf c (transfer_of h read)
is_count s c is h read after = subst (λ (o : Option Counted). AreCounted o (transfer_of h read)) is after.counted

pub returns-in-Some-counts-clause-none : goal.returns-in-Some-counts-clause-none
returns-in-Some-counts-clause-none g c =
    let mine : c.args.self.now.counts ≡ Some c.in-Some.counts = sym (ap (λ (s : Side). s.counts) c.self.view_is) ∙ c.in-Some.is in
    let theirs : c.args.other.now.counts ≡ Some c.in-Some-counts.others = sym (ap (λ (s : Side). s.counts) c.other.view_is) ∙ c.in-Some-counts.is in
    λ h k read other_read after other_after. none_map c.between.result (λ are. absurd (not_too_many _ _ h k read other_read after other_after
    (are (transfer_of h read) (transfer_of k other_read) (is_count _ _ mine h read after) (is_count _ _ theirs k other_read other_after)))) c.between.ensures.none

pub returns-in-Some-counts-clause-lost : goal.returns-in-Some-counts-clause-lost
returns-in-Some-counts-clause-lost g c =
    let mine : c.args.self.now.counts ≡ Some c.in-Some.counts = sym (ap (λ (s : Side). s.counts) c.self.view_is) ∙ c.in-Some.is in
    let theirs : c.args.other.now.counts ≡ Some c.in-Some-counts.others = sym (ap (λ (s : Side). s.counts) c.other.view_is) ∙ c.in-Some-counts.is in
    some_map c.between.result (λ carried are h k read other_read after other_after.
    are (transfer_of h read) (transfer_of k other_read) (is_count _ _ mine h read after) (is_count _ _ theirs k other_read other_after)) c.between.ensures.lost

pub returns-in-Some-counts-clause-repeated : goal.returns-in-Some-counts-clause-repeated
returns-in-Some-counts-clause-repeated g c =
    let mine : c.args.self.now.counts ≡ Some c.in-Some.counts = sym (ap (λ (s : Side). s.counts) c.self.view_is) ∙ c.in-Some.is in
    let theirs : c.args.other.now.counts ≡ Some c.in-Some-counts.others = sym (ap (λ (s : Side). s.counts) c.other.view_is) ∙ c.in-Some-counts.is in
    some_map c.between.result (λ carried are h k read other_read after other_after.
    are (transfer_of h read) (transfer_of k other_read) (is_count _ _ mine h read after) (is_count _ _ theirs k other_read other_after)) c.between.ensures.repeated
