use Rattle.std.proofs.Common.{◌≡◌, [], ◌∷◌, ◌++◌, length, length-append, true, false, inl, inr, refl, sym, ap, subst, ◌∙◌, arith, rules}
use Rattle.net_udp.specs.Fragments.{Held, StandsFor, extent_of, part_of, parts_of, SetState, Spoils}
use Rattle.net_udp.proofs.FragmentsLemmas.Sets.{Noted, joined_with, now_none, small_room, still_none}
use Rattle.net_udp.proofs.fragments.set.Set.take.Goals as goal

pub returns-then-self-clause-ends : goal.returns-then-self-clause-ends
returns-then-self-clause-ends c =
    let spoiled : c.args.self.now.spoiled ≡ true = sym (ap (λ (s : SetState). s.spoiled) c.self.view_is) ∙ c.if-self.true in
    let frames : c.args.self.now.frames ≡ [] = sym (ap (λ (s : SetState). s.frames) c.self.view_is) ∙ c.self.invariant.none c.if-self.true in
    (spoiled, omega arith, c.new.ensures.items ∙ sym frames, λ arrivals a e is. still_none c.args.self.now arrivals a spoiled is, frames)

pub returns-then-not-may_join-clause-ends : goal.returns-then-not-may_join-clause-ends
returns-then-not-may_join-clause-ends c =
    let whole : c.args.self.now.spoiled ≡ false = sym (ap (λ (s : SetState). s.spoiled) c.self.view_is) ∙ c.if-self.false in
    let spoils : Spoils c.args.self.now (part_of c.args.part.now) = c.may_join.ensures.spoils c.if-not-may_join.true in (
      refl,
      small_room (record { held = c.new-then-not-may_join.result; frames = c.replace.new.dest.items; extents = c.new-then-not-may_join-2.result.items; began = c.self.inside.began; spoiled = true }) c.args.self.now c.new-then-not-may_join.ensures (search rules),
      search rules,
      λ arrivals a e is. now_none c.args.self.now _ arrivals a (part_of c.args.part.now) e c.requires.some whole spoils refl (search rules) c.new-then-not-may_join.ensures is,
      search rules,
    )

pub returns-then-is_noted-clause-ends : goal.returns-then-is_noted-clause-ends
returns-then-is_noted-clause-ends c =
    let sound : c.args.self.now.spoiled ≡ false = sym (ap (λ (s : SetState). s.spoiled) c.self.view_is) ∙ c.if-self.false in
    let join = c.may_join.ensures.joins c.if-not-may_join.false in
    let held : c.self.inside.parts ≡ c.args.self.now.held = ap (λ (s : SetState). s.held) c.self.view_is in
    let frames : c.push.new.self.items ≡ c.args.self.now.frames ++ c.args.frame ∷ [] = search rules in
    let extents : Noted c.args.self.now.extents (extent_of (part_of c.args.part.now)) c.reserve-2.new.self.items = inr (search rules, search rules) in
    let new : SetState = record { held = c.add.new.self; frames = c.push.new.self.items; extents = c.reserve-2.new.self.items; began = c.self.inside.began; spoiled = c.self.inside.spoiled } in (
      c.if-self.false,
      omega (arith, c.in_ok-add.ensures.reach, ap (λ (h : Held). length h.cells) held, ap length frames, length-append c.args.self.now.frames (c.args.frame ∷ [])),
      λ arrivals a e f is.
          joined_with c.args.self.now new arrivals (part_of c.args.part.now) is sound c.args.frame join c.if-self.false (λ s. c.in_ok-add.ensures.ok (parts_of arrivals) (subst (λ (h : Held). StandsFor h (parts_of arrivals)) (sym held) s))
          frames extents a (sym e) (sym f),
      sound,
      join,
      frames,
    )

pub returns-clause-ends : goal.returns-clause-ends
returns-clause-ends c =
    let sound : c.args.self.now.spoiled ≡ false = sym (ap (λ (s : SetState). s.spoiled) c.self.view_is) ∙ c.if-self.false in
    let join = c.may_join.ensures.joins c.if-not-may_join.false in
    let held : c.self.inside.parts ≡ c.args.self.now.held = ap (λ (s : SetState). s.held) c.self.view_is in
    let frames : c.push.new.self.items ≡ c.args.self.now.frames ++ c.args.frame ∷ [] = search rules in
    let extents : Noted c.args.self.now.extents (extent_of (part_of c.args.part.now)) c.push-2.new.self.items = inl (search rules) in
    let new : SetState = record { held = c.add.new.self; frames = c.push.new.self.items; extents = c.push-2.new.self.items; began = c.self.inside.began; spoiled = c.self.inside.spoiled } in (
      c.if-self.false,
      omega (arith, c.in_ok-add.ensures.reach, ap (λ (h : Held). length h.cells) held, ap length frames, length-append c.args.self.now.frames (c.args.frame ∷ [])),
      λ arrivals a e f is.
          joined_with c.args.self.now new arrivals (part_of c.args.part.now) is sound c.args.frame join c.if-self.false (λ s. c.in_ok-add.ensures.ok (parts_of arrivals) (subst (λ (h : Held). StandsFor h (parts_of arrivals)) (sym held) s))
          frames extents a (sym e) (sym f),
      sound,
      join,
      frames,
    )
