-- The datagram of a number in a view, and in its capture: what is before it. Lists have the newest first.
use Rattle.std.proofs.Common.{◌≡◌, ℕ, ◌+◌, ◌-◌, Bool, true, List, [], ◌∷◌, ◌++◌, Some, refl, sym, ap, subst, ◌∙◌, arith, append_assoc, filter, length, map, reverse}
use Rattle.std.specs.List.{slice_get}
use Rattle.std.proofs.lemmas.List.{length-map, length-reverse, reverse-append}
use Rattle.std.proofs.lemmas.Simd.{map-map}
use Rattle.tftp_packet.specs.Hosts.{Datagram}
use Rattle.audit_flows.specs.Lines.{Placed, is_of}
use Rattle.audit_flows.specs.{Transfer}
use Rattle.audit_flows.proofs.LinesLemmas.Lines.{by_test}
use Rattle.audit_views.specs.Parties.{host_name}
use Rattle.audit_views.specs.Views.{captured_at_client, client_capture}
use Rattle.audit_recording.specs.Blame.Frames.{Carried, Framed, framed, framed_after, numbered, seen_as, whole_of}
use Rattle.audit_recording.specs.declared.rows.row.Point.TheVariants as point
use Rattle.audit_recording.proofs.BlameLemmas.Holding.{filter_map, filter_none, filter_one}
use Rattle.audit_recording.proofs.BlameLemmas.Trailing.{all_placed}

-- ---- lists

get_there : {X : Type 0} (later earlier : List X) (x : X) → slice_get (reverse (later ++ x ∷ earlier)) (length earlier) ≡ Some x
get_there later earlier x =
    ap (λ l. slice_get l (length earlier)) (reverse-append later (x ∷ earlier) ∙ ap (λ l. l ++ reverse later) (reverse-append (x ∷ []) earlier) ∙ append_assoc (reverse earlier) (x ∷ []) (reverse later))
    ∙ ap (slice_get (reverse earlier ++ x ∷ reverse later)) (sym (length-reverse earlier))
    ∙ at (reverse earlier)
  where
    at : (early : _) → slice_get (early ++ x ∷ reverse later) (length early) ≡ Some x
    at [] = refl
    at (y ∷ early) = at early

record IsMapped {X Y : Type 0} (f : X → Y) (xs : List X) (y : Y) (earlier : List Y) : Type 0 where
  pub later : List X
  pub this : X
  pub before : List X
  pub are : xs ≡ later ++ this ∷ before
  pub is : f this ≡ y
  pub rest : map f before ≡ earlier

module _ {X Y : Type 0} (f : X → Y) where
  one_more : (x : X) (xs : List X) (y : Y) (earlier : List Y) → IsMapped f xs y earlier → IsMapped f (x ∷ xs) y earlier
  one_more x xs y earlier m = record { later = x ∷ m.later; this = m.this; before = m.before; are = ap (λ l. x ∷ l) m.are; is = m.is; rest = m.rest }

  mapped : (xs : List X) (later : List Y) (y : Y) (earlier : List Y) → map f xs ≡ later ++ y ∷ earlier → IsMapped f xs y earlier
  mapped [] [] y earlier is = absurd (cc)
  mapped [] (z ∷ later) y earlier is = absurd (cc)
  mapped (x ∷ xs) [] y earlier is = record { later = []; this = x; before = xs; are = refl; is = let e : f x ≡ y = cc in e; rest = let e : map f xs ≡ earlier = cc in e }
  mapped (x ∷ xs) (z ∷ later) y earlier is = one_more x xs y earlier (mapped xs later y earlier (let e : map f xs ≡ later ++ y ∷ earlier = cc in e))

-- ---- those of a recording that pass a test

module _ (test : Placed → Bool) (named : List ℕ) where
  abbrev pub seen : List Carried → List Framed
  seen carried = filter (λ (f : Framed). test f.placed) (framed named carried)

  -- it was framed after these, of which the view has what is before it
  pub record IsBehind (f : Framed) (earlier : List Framed) (carried : List Carried) : Type 0 where
    pub older : List Carried
    pub one : Carried
    pub newer : List Placed
    pub is : f ≡ framed_after named older one
    pub are : earlier ≡ seen older
    pub whole : whole_of named carried ≡ newer ++ f.placed ∷ f.before
    pub passes : test f.placed ≡ true

  one_later : (c : Carried) (carried : List Carried) (f : Framed) (earlier : List Framed) → IsBehind f earlier carried → IsBehind f earlier (c ∷ carried)
  one_later c carried f earlier b = record {
    older = b.older;
    one = b.one;
    newer = (framed_after named carried c).placed ∷ b.newer;
    is = b.is;
    are = b.are;
    whole = ap (λ l. (framed_after named carried c).placed ∷ l) b.whole;
    passes = b.passes;
  }

  behind : (carried : List Carried) (later : List Framed) (f : Framed) (earlier : List Framed) → seen carried ≡ later ++ f ∷ earlier → IsBehind f earlier carried
  behind [] [] f earlier is = absurd (cc)
  behind [] (g ∷ later) f earlier is = absurd (cc)
  behind (c ∷ carried) later f earlier is = by_test (test g.placed)
      (λ own. kept own (behind carried) later (sym (filter_one (λ (h : Framed). test h.placed) g (framed named carried) own) ∙ is))
      (λ off. one_later c carried f earlier (behind carried later f earlier (sym (filter_none (λ (h : Framed). test h.placed) g (framed named carried) off) ∙ is)))
    where
      g : Framed
      g = framed_after named carried c

      kept : test g.placed ≡ true → ((others : List Framed) (h : Framed) (ears : List Framed) → seen carried ≡ others ++ h ∷ ears → IsBehind h ears carried)
          → (others : List Framed) → g ∷ seen carried ≡ others ++ f ∷ earlier → IsBehind f earlier (c ∷ carried)
      kept own again [] same =
          let this : g ≡ f = cc in
          let rest : seen carried ≡ earlier = cc in
          record {
            older = carried;
            one = c;
            newer = [];
            is = sym this;
            are = sym rest;
            whole = ap (λ (h : Framed). h.placed ∷ h.before) this;
            passes = subst (λ (h : Framed). test h.placed ≡ true) this own;
          }
      kept own again (l ∷ others) same = one_later c carried f earlier (again others f earlier (let rest : seen carried ≡ others ++ f ∷ earlier = cc in rest))

  -- ---- their capture

  module _ {Y : Type 0} (capture : Placed → Y) where
    -- what was captured is what was seen
    captured : (carried : List Carried) → map capture (filter test (whole_of named carried)) ≡ map (λ (f : Framed). capture f.placed) (seen carried)
    captured carried =
        ap (λ w. map capture (filter test w)) (sym (all_placed named carried))
        ∙ ap (map capture) (filter_map (λ (f : Framed). f.placed) test (framed named carried))
        ∙ map-map capture (λ (f : Framed). f.placed) (seen carried)

    -- the datagram of that number is this one, and what was captured before it is what was placed before it
    pub record IsThere (carried : List Carried) (f : Framed) (d : Y) (earlier : List Y) : Type 0 where
      pub this : d ≡ capture f.placed
      pub before : earlier ≡ map capture (filter test f.before)
      pub newer : List Placed
      pub whole : whole_of named carried ≡ newer ++ f.placed ∷ f.before
      pub passes : test f.placed ≡ true

    pub there : (carried : List Carried) (number : ℕ) (later : List Y) (d : Y) (earlier : List Y)
        → map capture (filter test (whole_of named carried)) ≡ later ++ d ∷ earlier → number ≡ length earlier + 1
        → (f : Framed) → numbered (seen carried) number ≡ Some f → IsThere carried f d earlier
    there carried number later d earlier are at f is =
        let cap : Framed → Y = λ g. capture g.placed in
        let m = mapped cap (seen carried) later d earlier (sym (captured carried) ∙ are) in
        let b = behind carried m.later m.this m.before m.are in
        let long : length earlier ≡ length m.before = ap length (sym m.rest) ∙ length-map m.before cap in
        let place : length m.before ≡ number - 1 = omega (arith, long, at) in
        let both : Some m.this ≡ Some f =
        sym (get_there m.later m.before m.this) ∙ ap (λ l. slice_get (reverse l) (length m.before)) (sym m.are)
        ∙ ap (slice_get (reverse (seen carried))) place ∙ is
        in
        let same : m.this ≡ f = cc in
        record {
          this = sym m.is ∙ ap cap same;
          before =
              sym m.rest ∙ ap (map cap) b.are ∙ sym (captured b.older)
              ∙ ap (λ w. map capture (filter test w)) (ap (λ (g : Framed). g.before) (sym b.is ∙ same));
          newer = b.newer;
          whole = subst (λ (g : Framed). whole_of named carried ≡ b.newer ++ g.placed ∷ g.before) same b.whole;
          passes = subst (λ (g : Framed). test g.placed ≡ true) same b.passes;
        }

-- ---- at a client

-- the datagram of that number is this one, and what was captured before it is what was placed before it
pub record IsCaptured (x : Transfer) (f : Framed) (d : Datagram) (earlier : List Datagram) : Type 0 where
  pub this : d ≡ captured_at_client host_name x f.placed
  pub before : earlier ≡ client_capture host_name x f.before

pub captured_there : (x : Transfer) (named : List ℕ) (carried : List Carried) (number : ℕ) (later : List Datagram) (d : Datagram) (earlier : List Datagram)
    → client_capture host_name x (whole_of named carried) ≡ later ++ d ∷ earlier → number ≡ length earlier + 1
    → (f : Framed) → seen_as point.Client x.number named carried number ≡ Some f → IsCaptured x f d earlier
captured_there x named carried number later d earlier are at f is =
    let it = there (is_of x.number) named (captured_at_client host_name x) carried number later d earlier are at f is in
    record { this = it.this; before = it.before }
