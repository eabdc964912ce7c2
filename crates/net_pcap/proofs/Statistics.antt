-- Statistics blocks, from the bytes at their places, and what is lost by them.
use Rattle.std.proofs.Common.{◌≡◌, ℕ, zero, suc, ◌+◌, ◌-◌, ◌<◌, ◌≤◌, List, [], ◌∷◌, ◌++◌, length, length-append, append-nil, take, drop, get_or, refl, sym, ap, ◌∙◌, subst, arith, slice_set, slice_index_or}
use Rattle.std.proofs.lemmas.List.{take_all}
use Rattle.std.proofs.lemmas.Grind.{common_steps}
use Rattle.net_pcap.specs.{four, number_at, Spells, OptionParts, SpellsOptions, first_value, SpellsStatistics, capped, counter_by, changed, lost_at, lost_in, Dropped, NamedInterface, Order}
use Rattle.net_pcap.proofs.Cuts.{after, after_is_drop}
use Rattle.net_pcap.proofs.Fours.{spells_one, spells_length}
use Rattle.net_pcap.proofs.OptionCuts.{options_one}

pub statistics_spelled : (order : Order) (interfaces : List NamedInterface) (s : List ℕ) (d : Dropped) (os ps : List OptionParts) → 12 ≤ length s → d.interface ≡ number_at order s 0 → d.interface < length interfaces
    → SpellsOptions order (after 12 s) os → SpellsOptions order (after 12 s) ps → d.count ≡ capped (counter_by order (first_value 5 8 os) + counter_by order (first_value 7 8 ps)) → SpellsStatistics order interfaces s d
statistics_spelled order interfaces (b0 ∷ b1 ∷ b2 ∷ b3 ∷ b4 ∷ b5 ∷ b6 ∷ b7 ∷ b8 ∷ b9 ∷ b10 ∷ b11 ∷ u) d os ps enough is named first second count =
    let rest : after 12 (b0 ∷ b1 ∷ b2 ∷ b3 ∷ b4 ∷ b5 ∷ b6 ∷ b7 ∷ b8 ∷ b9 ∷ b10 ∷ b11 ∷ u) ≡ u = after_is_drop 12 (b0 ∷ b1 ∷ b2 ∷ b3 ∷ b4 ∷ b5 ∷ b6 ∷ b7 ∷ b8 ∷ b9 ∷ b10 ∷ b11 ∷ u) in
    let same = options_one order _ ps os second first in
    record {
      high = four order b4 b5 b6 b7;
      low = four order b8 b9 b10 b11;
      front = b0 ∷ b1 ∷ b2 ∷ b3 ∷ b4 ∷ b5 ∷ b6 ∷ b7 ∷ b8 ∷ b9 ∷ b10 ∷ b11 ∷ [];
      options = u;
      said = os;
      are = refl;
      numbers = (b0, b1, b2, b3, _, refl, is, (b4, b5, b6, b7, _, refl, refl, (b8, b9, b10, b11, [], refl, refl, refl)));
      named = named;
      options_are = subst (λ (l : List ℕ). SpellsOptions order l os) rest first;
      count = count ∙ ap (λ (l : List OptionParts). capped (counter_by order (first_value 5 8 os) + counter_by order (first_value 7 8 l))) same;
    }
statistics_spelled order interfaces _ d os ps enough is named first second count = absurd (omega arith)

pub statistics_long : (order : Order) (interfaces : List NamedInterface) (s : List ℕ) (d : Dropped) → SpellsStatistics order interfaces s d → 12 ≤ length s
statistics_long order interfaces s d x = omega (arith, ap length x.are, length-append x.front x.options, spells_length order x.front (d.interface ∷ x.high ∷ x.low ∷ []) x.numbers)

-- what a block that is spelled says of the bytes: the interface, and where the options are
pub statistics_known : (order : Order) (interfaces : List NamedInterface) (s : List ℕ) (d : Dropped) → 12 ≤ length s → (x : SpellsStatistics order interfaces s d) → (d.interface ≡ number_at order s 0) × (x.options ≡ after 12 s)
statistics_known order interfaces (b0 ∷ b1 ∷ b2 ∷ b3 ∷ b4 ∷ b5 ∷ b6 ∷ b7 ∷ b8 ∷ b9 ∷ b10 ∷ b11 ∷ u) d enough x =
    let numbers = four order b0 b1 b2 b3 ∷ four order b4 b5 b6 b7 ∷ four order b8 b9 b10 b11 ∷ [] in
    let head : Spells order (b0 ∷ b1 ∷ b2 ∷ b3 ∷ b4 ∷ b5 ∷ b6 ∷ b7 ∷ b8 ∷ b9 ∷ b10 ∷ b11 ∷ []) numbers = (b0, b1, b2, b3, _, refl, refl, (b4, b5, b6, b7, _, refl, refl, (b8, b9, b10, b11, [], refl, refl, refl))) in
    let same = spells_one order x.front (b0 ∷ b1 ∷ b2 ∷ b3 ∷ b4 ∷ b5 ∷ b6 ∷ b7 ∷ b8 ∷ b9 ∷ b10 ∷ b11 ∷ []) x.options u (d.interface ∷ x.high ∷ x.low ∷ []) numbers x.numbers head refl (sym x.are) in
    (ap (λ (l : List ℕ). get_or l 0 0) same.0, same.2 ∙ sym (after_is_drop 12 (b0 ∷ b1 ∷ b2 ∷ b3 ∷ b4 ∷ b5 ∷ b6 ∷ b7 ∷ b8 ∷ b9 ∷ b10 ∷ b11 ∷ u)))
statistics_known order interfaces _ d enough x = absurd (omega arith)

pub statistics_unnamed : (order : Order) (interfaces : List NamedInterface) (s : List ℕ) (number : ℕ) → 12 ≤ length s → number ≡ number_at order s 0 → length interfaces ≤ number → (d : Dropped) → SpellsStatistics order interfaces s d → ⊥
statistics_unnamed order interfaces s number enough is none d x = omega (arith, x.named, none, is, (statistics_known order interfaces s d enough x).0)

pub statistics_wrong : (order : Order) (interfaces : List NamedInterface) (s : List ℕ) → 12 ≤ length s → ((os : List OptionParts) → SpellsOptions order (after 12 s) os → ⊥) → (d : Dropped) → SpellsStatistics order interfaces s d → ⊥
statistics_wrong order interfaces s enough never d x = never x.said (subst (λ (l : List ℕ). SpellsOptions order l x.said) (statistics_known order interfaces s d enough x).1 x.options_are)

pub statistics_short : (order : Order) (interfaces : List NamedInterface) (s : List ℕ) → length s < 12 → (d : Dropped) → SpellsStatistics order interfaces s d → ⊥
statistics_short order interfaces s short d x = omega (arith, short, statistics_long order interfaces s d x)

-- bytes say one count at most
pub statistics_one : (order : Order) (interfaces : List NamedInterface) (s : List ℕ) (d e : Dropped) → SpellsStatistics order interfaces s d → SpellsStatistics order interfaces s e → d ≡ e
statistics_one order interfaces s d e x y =
    let enough = statistics_long order interfaces s d x in
    let one = statistics_known order interfaces s d enough x in
    let other = statistics_known order interfaces s e enough y in
    let options = one.1 ∙ sym other.1 in
    let said = options_one order y.options x.said y.said (subst (λ (l : List ℕ). SpellsOptions order l x.said) options x.options_are) y.options_are in
    let interface = one.0 ∙ sym other.0 in
    let count = x.count ∙ ap (λ (l : List OptionParts). capped (counter_by order (first_value 5 8 l) + counter_by order (first_value 7 8 l))) said ∙ sym y.count in
    λ i. record { interface = interface i; count = count i }

-- ---- the interface of a number, changed

pub none_changed : (f : NamedInterface → NamedInterface) (number : ℕ) (is : List NamedInterface) → length is ≤ number → is ≡ changed f number is
none_changed f number [] beyond = refl
none_changed f zero (i ∷ is) beyond = absurd (omega (arith, beyond))
none_changed f (suc number) (i ∷ is) beyond = ap (λ l. i ∷ l) (none_changed f number is (omega (arith, beyond)))

pub one_changed : (f : NamedInterface → NamedInterface) (number : ℕ) (is : List NamedInterface) (d : NamedInterface) → number < length is → slice_set is number (f (slice_index_or is number d)) ≡ changed f number is
one_changed f number [] d within = absurd (omega (arith, within))
one_changed f zero (i ∷ is) d within = refl
one_changed f (suc number) (i ∷ is) d within = ap (λ l. i ∷ l) (one_changed f number is d (omega (arith, within)))

-- by as much as one loses more, all do
pub more_lost : (f : NamedInterface → NamedInterface) (number : ℕ) (is : List NamedInterface) (d : NamedInterface) (more : ℕ) → number < length is → lost_at (f (slice_index_or is number d)) ≡ lost_at (slice_index_or is number d) + more
    → lost_in (changed f number is) ≡ lost_in is + more
more_lost f number [] d more within grows = absurd (omega (arith, within))
more_lost f zero (i ∷ is) d more within grows =
    let moved : lost_at i + more + lost_in is ≡ lost_at i + lost_in is + more = omega arith in
    ap (λ n. n + lost_in is) grows ∙ moved
more_lost f (suc number) (i ∷ is) d more within grows =
    let moved : lost_at i + (lost_in is + more) ≡ lost_at i + lost_in is + more = omega arith in
    ap (λ n. lost_at i + n) (more_lost f number is d more (omega (arith, within)) grows) ∙ moved

-- nothing is lost yet at a further interface
pub named_lost : (is : List NamedInterface) (i : NamedInterface) → lost_at i ≡ 0 → lost_in (is ++ i ∷ []) ≡ lost_in is
named_lost [] i none = let e : lost_at i + 0 ≡ 0 = omega (arith, none) in e
named_lost (j ∷ is) i none = ap (λ n. lost_at j + n) (named_lost is i none)

-- what is set in the place of an interface is that interface, changed
pub changed_is : (f : NamedInterface → NamedInterface) (is : List NamedInterface) (number : ℕ) (d new : NamedInterface) → number < length is → new ≡ f (slice_index_or is number d) → slice_set is number new ≡ changed f number is
changed_is f is number d new within same = ap (λ (x : NamedInterface). slice_set is number x) same ∙ one_changed f number is d within

pub lost_more : (f : NamedInterface → NamedInterface) (is : List NamedInterface) (number : ℕ) (d new : NamedInterface) (now before : ℕ) → number < length is → new ≡ f (slice_index_or is number d)
    → now ≡ lost_at new → before ≡ lost_at (slice_index_or is number d) → before ≤ now → lost_in (slice_set is number new) ≡ lost_in is + (now - before)
lost_more f is number d new now before within same later earlier grown =
    let sum : now ≡ before + (now - before) = omega (arith, grown) in
    let grows = ap lost_at (sym same) ∙ sym later ∙ sum ∙ ap (λ n. n + (now - before)) earlier in
    ap lost_in (changed_is f is number d new within same) ∙ more_lost f number is d (now - before) within grows

-- what a list of interfaces is read to have beyond its end
abbrev pub no_interface_there : NamedInterface
no_interface_there = record { described = record { link = 0; longest = 0; units = 0; offset = 0 }; section = 0; number = 0; reported = 0; missed = 0 }

-- ---- what was lost at all interfaces, once 64 bits can't count it any more

pub lost_before : (lost before all : ℕ) → lost ≡ capped (before + all) → lost ≡ capped (lost + 0)
lost_before lost before all is = grind (arith, common_steps, is)

pub lost_named : (lost before : ℕ) (is : List NamedInterface) (i : NamedInterface) → lost_at i ≡ 0 → lost ≡ capped (before + lost_in is) → lost ≡ capped (before + lost_in (is ++ i ∷ []))
lost_named lost before is i none same = same ∙ ap (λ n. capped (before + n)) (sym (named_lost is i none))

pub lost_added : (lost before all more now : ℕ) → lost ≡ capped (before + all) → now ≡ capped (lost + more) → now ≡ capped (before + (all + more))
lost_added lost before all more now is added = grind (arith, common_steps, is, added)

-- what is written back into a list of as many
pub written_back : (n : ℕ) (new old : List NamedInterface) → length old ≡ n → length new ≡ n → take n (new ++ drop (length new) old) ≡ new
written_back n new old whole as_many =
    let none : drop (length new) old ≡ [] = drop_beyond (length new) old (omega (arith, whole, as_many)) in
    ap (λ l. take n (new ++ l)) none ∙ ap (take n) (append-nil new) ∙ take_all n new (omega (arith, as_many))
  where
    drop_beyond : (k : ℕ) (xs : List NamedInterface) → length xs ≤ k → drop k xs ≡ []
    drop_beyond zero [] few = refl
    drop_beyond (suc k) [] few = refl
    drop_beyond zero (x ∷ xs) few = absurd (omega (arith, few))
    drop_beyond (suc k) (x ∷ xs) few = drop_beyond k xs (omega (arith, few))

length-changed : (f : NamedInterface → NamedInterface) (number : ℕ) (is : List NamedInterface) → length (changed f number is) ≡ length is
length-changed f number [] = refl
length-changed f zero (i ∷ is) = refl
length-changed f (suc number) (i ∷ is) = ap suc (length-changed f number is)

pub added_back : (f : NamedInterface → NamedInterface) (n number lost before more now : ℕ) (new cut old : List NamedInterface) → cut ≡ old → length old ≡ n → new ≡ changed f number cut → lost_in new ≡ lost_in cut + more
    → lost ≡ capped (before + lost_in old) → now ≡ capped (lost + more) → now ≡ capped (before + lost_in (take n (new ++ drop (length new) old)))
added_back f n number lost before more now new cut old all whole is grows known added =
    let as_many : length new ≡ n = ap length is ∙ length-changed f number cut ∙ ap length all ∙ whole in
    let back = ap lost_in (written_back n new old whole as_many) ∙ grows ∙ ap (λ l. lost_in l + more) all in
    lost_added lost before (lost_in old) more now known added ∙ ap (λ m. capped (before + m)) (sym back)
