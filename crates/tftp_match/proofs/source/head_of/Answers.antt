use Rattle.std.proofs.Common.{rules, arith, ◌≡◌, ◌++◌, ◌∷◌, ◌∙◌, [], ap, append-nil, inl, length, subst, sym, take}
use Rattle.std.specs.Io.KnownBytes.{Consumes}
use Rattle.std.proofs.KnownBytes.{Consumes-nil, Consumes-trans}
use Rattle.tftp_match.proofs.CapturesLemmas.{longer, one_taken}
use Rattle.tftp_match.proofs.source.head_of.Goals as goal

pub loop-init : goal.loop-init
loop-init g c = record {
  consumed = subst (Consumes (g.R.Read.remaining c.args.reader.now) (g.R.Read.remaining c.args.reader.now)) (sym c.new-head.ensures.items) (Consumes-nil (g.R.Read.remaining c.args.reader.now));
  many = ap length c.new-head.ensures.items;
  within = omega (arith);
}

pub returns-then-branch-eq0-clause-head : goal.returns-then-branch-eq0-clause-head
returns-then-branch-eq0-clause-head g c =
    let before = g.R.Read.remaining c.args.reader.now in
    let after = g.R.Read.remaining c.read.new.self in
    subst (Consumes before after) (ap (λ n. c.loop.head.items ++ take n c.read.new.buf) c.if-branch-eq0.true ∙ append-nil c.loop.head.items)
    (Consumes-trans before (g.R.Read.remaining c.loop.reader) after c.loop.head.items (take c.in_ok-read.field-0 c.read.new.buf) c.loop.invariant.consumed c.in_ok-read.ensures.bytes.0)

pub loop-preserved : goal.loop-preserved
loop-preserved g c =
    let before = g.R.Read.remaining c.args.reader.now in
    let after = g.R.Read.remaining c.read.new.self in
    let one : take c.in_ok-read.field-0 c.read.new.buf ≡ _ ∷ [] = one_taken c.in_ok-read.field-0 c.read.new.buf c.if-branch-eq0.false c.in_ok-read.ensures.bound.0 (search rules) in
    let all : c.push.new.self.items ≡ c.loop.head.items ++ take c.in_ok-read.field-0 c.read.new.buf = c.in_ok-push.ensures.items ∙ ap (λ l. c.loop.head.items ++ l) (sym one) in
    record {
      consumed = subst (Consumes before after) (sym all)
          (Consumes-trans before (g.R.Read.remaining c.loop.reader) after c.loop.head.items (take c.in_ok-read.field-0 c.read.new.buf) c.loop.invariant.consumed c.in_ok-read.ensures.bytes.0);
      many = longer c.loop.head.items _ c.push.new.self.items c.loop.counter c.in_ok-push.ensures.items c.loop.invariant.many;
      within = omega (arith, c.loop-test.true);
    }

pub returns-clause-head : goal.returns-clause-head
returns-clause-head g c = c.loop.invariant.consumed

pub returns-clause-all : goal.returns-clause-all
returns-clause-all g c = inl (omega (arith, c.loop.invariant.many, c.loop.invariant.within, c.loop-test.false))
