use Rattle.std.proofs.Common.{◌≡◌, ◌≢◌, ◌≤◌, length, take, Result, Ok, Err, OnErr, ap, subst, arith, rules, refl, length-take}
use Rattle.std.proofs.KnownBytes.{Keeps-refl, Keeps-trans}
use Rattle.std.proofs.lemmas.List.Elements.{All-nil}
use Rattle.net_streams.proofs.DigitsLemmas.InPieces.{none_decoded}
use native.Mathlib.Numerals.{unary_clauses}
use Rattle.tftp_capture.specs.{HasNoEnd, HoldsPart}
use Rattle.tftp_capture.proofs.HeadLines.{decoded_stays, line_held, line_spells, part_held, part_stays}
use Rattle.tftp_capture.proofs.heads.Head.read_digits.Goals as goal

on_err : {T E : Type 0} (result : Result T E) (P : Type 0) → P → OnErr result P
on_err (Ok _) P p = tt
on_err (Err _) P p = p

pub reads-init : goal.reads-init
reads-init g c =
    let line : c.self.inside.line ≡ c.args.self.now.line = ap (λ v. v.line) c.self.view_is in
    let within : length c.args.self.now.bytes ≤ length c.args.ahead.now.bytes = omega (arith, ap length c.requires.begins, length-take (length c.args.self.now.bytes) c.args.ahead.now.bytes) in
    record {
      line = line;
      pairs = omega (arith, line, c.requires.pairs);
      part = record { within = omega arith; near = c.requires.near; part = record { no_end = All-nil (λ b. b ≢ 10); narrow = omega arith; short = omega arith } };
      decoded = record { begins = c.requires.begins; decoded = none_decoded; upto = omega arith; within = simp unary_clauses within };
      kept = Keeps-refl _;
      tally = refl;
    }

pub returns-then-all-line-clause-part : goal.returns-then-all-line-clause-part
returns-then-all-line-clause-part g c =
    let no_end : HasNoEnd (take c.self.inside.line c.reads.ahead.bytes) = rw (c.as_slice-held.ensures, ← c.reads.invariant.line) at c.in-Some.ensures.no_end in
    subst (λ n. HoldsPart c.reads.ahead.bytes c.self.inside.line n n) c.reads.invariant.line
    (line_held c.reads.ahead.bytes c.self.inside.line c.reads.seen (omega (arith, ap length c.as_slice-held.ensures, c.if-all-line.true)) no_end c.reads.invariant.part)

pub returns-then-all-line-clause-whole : goal.returns-then-all-line-clause-whole
returns-then-all-line-clause-whole g c = λ _.
    line_spells c.args.self.now c.reads.ahead.bytes c.decode_held.new.payload c.in-Some.count c.self.inside.line (rw c.as_slice-held.ensures at c.in-Some.ensures.decoded)
    (c.in-Some.ensures.whole (omega (arith, c.if-all-line.true, c.reads.invariant.line))) (omega (arith, c.reads.invariant.pairs, c.in-Some.ensures.len))

pub returns-in_err-read_to-clause-cut : goal.returns-in_err-read_to-clause-cut
returns-in_err-read_to-clause-cut g c =
    let held = c.reads.ahead.bytes in
    let part = part_held held c.args.self.now.line (omega (arith, ap length c.as_slice-held.ensures, c.if-all-line.false, c.reads.invariant.line)) (rw c.as_slice-held.ensures at c.in-Some.ensures.no_end) in
    on_err c.from_residual.result _ (rw c.in_err-read_to.ensures.none part)

pub returns-then-as_slice-all-clause-part : goal.returns-then-as_slice-all-clause-part
returns-then-as_slice-all-clause-part g c =
    let held = c.reads.ahead.bytes in
    let part = part_held held c.args.self.now.line (omega (arith, ap length c.as_slice-held.ensures, c.if-all-line.false, c.reads.invariant.line)) (rw c.as_slice-held.ensures at c.in-Some.ensures.no_end) in
    let more = c.in_ok-read_to.ensures.more in
    rw (c.upto-then-as_slice-all.ensures, c.as_slice-held.ensures) (part_stays held c.read_to.new.self.bytes more.0 c.args.self.now.line more.1 more.2 part)

pub reads-preserved : goal.reads-preserved
reads-preserved g c =
    let held = c.reads.ahead.bytes in
    let part = part_held held c.args.self.now.line (omega (arith, ap length c.as_slice-held.ensures, c.if-all-line.false, c.reads.invariant.line)) (rw c.as_slice-held.ensures at c.in-Some.ensures.no_end) in
    let more = c.in_ok-read_to.ensures.more in
    record {
      line = c.reads.invariant.line;
      pairs = omega (arith, c.reads.invariant.pairs, c.in-Some.ensures.len);
      part = rw (c.as_slice-held.ensures, c.reads.invariant.line) (part_stays held c.read_to.new.self.bytes more.0 c.args.self.now.line more.1 more.2 part);
      decoded = decoded_stays c.args.self.now held c.read_to.new.self.bytes more.0 c.decode_held.new.payload c.in-Some.count more.1 (rw c.as_slice-held.ensures at c.in-Some.ensures.decoded);
      kept = Keeps-trans _ _ _ c.reads.invariant.kept c.in_ok-read_to.ensures.kept;
      tally = search rules;
    }
