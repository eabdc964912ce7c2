-- What the words ask for, by the command.
use Rattle.std.proofs.Common.{◌≡◌, ◌≢◌, inl, inr, ℕ, List, [], ◌∷◌, drop, Option, Some, None, codes, slice_get, get_or, refl, sym, ap, ◌∙◌, subst, arith, ◌≤◌, length, map, Bool, true, false, if◌then◌else◌, option_to_list, Bor, ◌==◌}
use Rattle.std.proofs.lemmas.Option.{slice_get_within}
use Rattle.tftp_packet.specs.{Rollover}
use Rattle.tftp_words.specs.{Point, Command, Word, Part, Say, Have, Choose, IsOnce, IsTransfer, end_word, plains, Asked, Listed, Written, AllWritten, Judged, Fits, Argues, IsRequest, IsNoName, Names, Calls, MatchAsked, Matched, Compares, IsMatchRequest}
use Rattle.tftp_words.specs.declared.request.Command.TheVariants as command

-- the arguments of what is asked
abbrev pub Arguments : Asked → List Word → Type 0
Arguments a words = (ps : List Part) × Say words ps × Argues a ps

abbrev pub command_in : Asked → Command
command_in (Listed services json file) = command.List
command_in (Written number end services file) = command.Text
command_in (AllWritten end services file) = command.Texts
command_in (Judged at over services json files) = command.Check

pub calls_itself : (a : Asked) → Calls (command_in a) a
calls_itself (Listed services json file) = tt
calls_itself _ = tt

-- ---- from the words to the command

second_word : (p w x : Word) (ws rest : List Word) → ws ≡ p ∷ x ∷ rest → slice_get ws 1 ≡ Some w → w ≡ x
second_word p w x ws rest are at = (let e : Some x ≡ Some w = sym (ap (λ l. slice_get l 1) are) ∙ at in cc)

-- the command that the words tell, and its arguments
abbrev Told : Asked → Word → List Word → Type 0
Told a w ws = (count : ℕ) × Names w (command_in a) count × Arguments a (drop count ws)

pub told : (a : Asked) (w : Word) (ws : List Word) → IsRequest a ws → slice_get ws 1 ≡ Some w → Told a w ws
told (Listed services json file) w ws (arguments, (p, inl are), ps, say, argues) at =
    (2, inl (refl, second_word p w (codes "list") ws arguments are at), subst (Arguments (Listed services json file)) (sym (ap (drop 2) are)) (ps, say, argues))
told (Listed services json file) w ws (arguments, (p, inr (x, rest, name, begins, are)), ps, say, argues) at =
    (1, inr (refl, subst IsNoName (sym (second_word p w x ws rest (are ∙ ap (λ l. p ∷ l) begins) at)) name), subst (Arguments (Listed services json file)) (sym (ap (drop 1) are)) (ps, say, argues))
told (Written number end services file) w ws (arguments, (p, are), ps, say, argues) at =
    (2, (refl, second_word p w (codes "text") ws arguments are at), subst (Arguments (Written number end services file)) (sym (ap (drop 2) are)) (ps, say, argues))
told (AllWritten end services file) w ws (arguments, (p, are), ps, say, argues) at =
    (2, (refl, second_word p w (codes "texts") ws arguments are at), subst (Arguments (AllWritten end services file)) (sym (ap (drop 2) are)) (ps, say, argues))
told (Judged end over services json files) w ws (arguments, (p, inl are), ps, say, argues) at =
    (2, (refl, inl (second_word p w (codes "check") ws arguments are at)), subst (Arguments (Judged end over services json files)) (sym (ap (drop 2) are)) (ps, say, argues))
told (Judged end over services json files) w ws (arguments, (p, inr are), ps, say, argues) at =
    (2, (refl, inr (second_word p w (codes "--check") ws arguments are at)), subst (Arguments (Judged end over services json files)) (sym (ap (drop 2) are)) (ps, say, argues))

-- ---- and back

two_words : (w : Word) (ws : List Word) → slice_get ws 1 ≡ Some w → (p : Word) × (ws ≡ p ∷ w ∷ drop 2 ws)
two_words w (p ∷ x ∷ ws) at = (p, ap (λ y. p ∷ y ∷ ws) (let e : x ≡ w = cc in e))
two_words w _ at = cc

pub asks : (a : Asked) (w : Word) (ws : List Word) (c : Command) (count : ℕ) → slice_get ws 1 ≡ Some w → Names w c count → Calls c a → Arguments a (drop count ws) → IsRequest a ws
asks (Listed services json file) w ws command.List count at (inl (two, is)) calls said =
    let found = two_words w ws at in
    let it = subst (λ n. Arguments (Listed services json file) (drop n ws)) two said in
    (drop 2 ws, (found.0, inl (found.1 ∙ ap (λ x. found.0 ∷ x ∷ drop 2 ws) is)), it.0, it.1, it.2)
asks (Listed services json file) w ws command.List count at (inr (one, name)) calls said =
    let found = two_words w ws at in
    let rest : drop 1 ws ≡ w ∷ drop 2 ws = ap (drop 1) found.1 in
    let it = subst (λ n. Arguments (Listed services json file) (drop n ws)) one said in
    (drop 1 ws, (found.0, inr (w, drop 2 ws, name, rest, found.1 ∙ ap (λ l. found.0 ∷ l) (sym rest))), it.0, it.1, it.2)
asks (Written number end services file) w ws command.Text count at (two, is) calls said =
    let found = two_words w ws at in
    let it = subst (λ n. Arguments (Written number end services file) (drop n ws)) two said in
    (drop 2 ws, (found.0, found.1 ∙ ap (λ x. found.0 ∷ x ∷ drop 2 ws) is), it.0, it.1, it.2)
asks (AllWritten end services file) w ws command.Texts count at (two, is) calls said =
    let found = two_words w ws at in
    let it = subst (λ n. Arguments (AllWritten end services file) (drop n ws)) two said in
    (drop 2 ws, (found.0, found.1 ∙ ap (λ x. found.0 ∷ x ∷ drop 2 ws) is), it.0, it.1, it.2)
asks (Judged end over services json files) w ws command.Check count at (two, inl is) calls said =
    let found = two_words w ws at in
    let it = subst (λ n. Arguments (Judged end over services json files) (drop n ws)) two said in
    (drop 2 ws, (found.0, inl (found.1 ∙ ap (λ x. found.0 ∷ x ∷ drop 2 ws) is)), it.0, it.1, it.2)
asks (Judged end over services json files) w ws command.Check count at (two, inr is) calls said =
    let found = two_words w ws at in
    let it = subst (λ n. Arguments (Judged end over services json files) (drop n ws)) two said in
    (drop 2 ws, (found.0, inr (found.1 ∙ ap (λ x. found.0 ∷ x ∷ drop 2 ws) is)), it.0, it.1, it.2)
asks (Listed services json file) w ws command.Text count at names calls said = absurd calls
asks _ w ws _ count at names calls said = absurd calls

-- ---- a word tells one command

-- two words differ where one has another letter at some place
letters : (w a b : Word) (at x y : ℕ) → w ≡ a → w ≡ b → get_or a at 0 ≡ x → get_or b at 0 ≡ y → x ≢ y → ⊥
letters w a b at x y one other ax by not = not (sym ax ∙ ap (λ v. get_or v at 0) (sym one ∙ other) ∙ by)

pub one_command : (w : Word) (c d : Command) (k l : ℕ) → Names w c k → Names w d l → (c ≡ d) × (k ≡ l)
one_command w command.List command.List k l (inl one) (inl other) = (refl, one.0 ∙ sym other.0)
one_command w command.List command.List k l (inl one) (inr other) = absurd (other.1.0 one.1)
one_command w command.List command.List k l (inr one) (inl other) = absurd (one.1.0 other.1)
one_command w command.List command.List k l (inr one) (inr other) = (refl, one.0 ∙ sym other.0)
one_command w command.List command.Text k l (inl one) other = absurd (letters w (codes "list") (codes "text") 0 108 116 one.1 other.1 refl refl (λ e. omega (arith, e)))
one_command w command.List command.Text k l (inr one) other = absurd (one.1.1 other.1)
one_command w command.List command.Texts k l (inl one) other = absurd (letters w (codes "list") (codes "texts") 0 108 116 one.1 other.1 refl refl (λ e. omega (arith, e)))
one_command w command.List command.Texts k l (inr one) other = absurd (one.1.2 other.1)
one_command w command.List command.Check k l (inl one) (other, inl other_is) = absurd (letters w (codes "list") (codes "check") 0 108 99 one.1 other_is refl refl (λ e. omega (arith, e)))
one_command w command.List command.Check k l (inl one) (other, inr other_is) = absurd (letters w (codes "list") (codes "--check") 0 108 45 one.1 other_is refl refl (λ e. omega (arith, e)))
one_command w command.List command.Check k l (inr one) (other, inl other_is) = absurd (one.1.3 other_is)
one_command w command.List command.Check k l (inr one) (other, inr other_is) = absurd (one.1.4 other_is)
one_command w command.Text command.List k l one (inl other) = absurd (letters w (codes "text") (codes "list") 0 116 108 one.1 other.1 refl refl (λ e. omega (arith, e)))
one_command w command.Text command.List k l one (inr other) = absurd (other.1.1 one.1)
one_command w command.Text command.Text k l one other = (refl, one.0 ∙ sym other.0)
one_command w command.Text command.Texts k l one other = absurd (letters w (codes "text") (codes "texts") 4 0 115 one.1 other.1 refl refl (λ e. omega (arith, e)))
one_command w command.Text command.Check k l one (other, inl other_is) = absurd (letters w (codes "text") (codes "check") 0 116 99 one.1 other_is refl refl (λ e. omega (arith, e)))
one_command w command.Text command.Check k l one (other, inr other_is) = absurd (letters w (codes "text") (codes "--check") 0 116 45 one.1 other_is refl refl (λ e. omega (arith, e)))
one_command w command.Texts command.List k l one (inl other) = absurd (letters w (codes "texts") (codes "list") 0 116 108 one.1 other.1 refl refl (λ e. omega (arith, e)))
one_command w command.Texts command.List k l one (inr other) = absurd (other.1.2 one.1)
one_command w command.Texts command.Text k l one other = absurd (letters w (codes "texts") (codes "text") 4 115 0 one.1 other.1 refl refl (λ e. omega (arith, e)))
one_command w command.Texts command.Texts k l one other = (refl, one.0 ∙ sym other.0)
one_command w command.Texts command.Check k l one (other, inl other_is) = absurd (letters w (codes "texts") (codes "check") 0 116 99 one.1 other_is refl refl (λ e. omega (arith, e)))
one_command w command.Texts command.Check k l one (other, inr other_is) = absurd (letters w (codes "texts") (codes "--check") 0 116 45 one.1 other_is refl refl (λ e. omega (arith, e)))
one_command w command.Check command.List k l (one, inl one_is) (inl other) = absurd (letters w (codes "check") (codes "list") 0 99 108 one_is other.1 refl refl (λ e. omega (arith, e)))
one_command w command.Check command.List k l (one, inl one_is) (inr other) = absurd (other.1.3 one_is)
one_command w command.Check command.List k l (one, inr one_is) (inl other) = absurd (letters w (codes "--check") (codes "list") 0 45 108 one_is other.1 refl refl (λ e. omega (arith, e)))
one_command w command.Check command.List k l (one, inr one_is) (inr other) = absurd (other.1.4 one_is)
one_command w command.Check command.Text k l (one, inl one_is) other = absurd (letters w (codes "check") (codes "text") 0 99 116 one_is other.1 refl refl (λ e. omega (arith, e)))
one_command w command.Check command.Text k l (one, inr one_is) other = absurd (letters w (codes "--check") (codes "text") 0 45 116 one_is other.1 refl refl (λ e. omega (arith, e)))
one_command w command.Check command.Texts k l (one, inl one_is) other = absurd (letters w (codes "check") (codes "texts") 0 99 116 one_is other.1 refl refl (λ e. omega (arith, e)))
one_command w command.Check command.Texts k l (one, inr one_is) other = absurd (letters w (codes "--check") (codes "texts") 0 45 116 one_is other.1 refl refl (λ e. omega (arith, e)))
one_command w command.Check command.Check k l one other = (refl, one.0 ∙ sym other.0)

-- ---- the arguments

at_most_one : (json : Bool) → (if json then 1 else 0) ≤ 1
at_most_one true = omega arith
at_most_one false = omega arith

one_said : {A : Type 0} (said : Option A) → length (option_to_list said) ≤ 1
one_said None = omega arith
one_said (Some x) = omega arith

pub once : (ps : List Part) (ports : List ℕ) (json : Bool) (at : Option Point) (over : Option Rollover) (words : List Word) (counts : Bool) (transfer server : Option ℕ)
    → Have ps ports json at over words → Choose ps counts transfer server → IsOnce ps
once ps ports json at over words counts transfer server h chosen = (
  subst (λ n. n ≤ 1) (sym h.1) (at_most_one json),
  subst (λ l. length l ≤ 1) (sym h.2) (one_said at),
  subst (λ l. length l ≤ 1) (sym h.3) (one_said over),
  subst (λ n. n ≤ 1) (sym chosen.0) (at_most_one counts),
  subst (λ l. length l ≤ 1) (sym chosen.1) (one_said transfer),
  subst (λ l. length l ≤ 1) (sym chosen.2) (one_said server),
)

argues_once : (a : Asked) (ps : List Part) → Argues a ps → IsOnce ps
argues_once (Listed services json file) ps argues = once ps services json None None (file ∷ []) false None None argues.1 argues.0
argues_once (Written number end services file) ps argues = once ps services false None None (argues.1.0 ∷ end_word end ∷ file ∷ []) false None None argues.1.2 argues.0
argues_once (AllWritten end services file) ps argues = once ps services false None None (end_word end ∷ file ∷ []) false None None argues.1 argues.0
argues_once (Judged at over services json files) ps argues = once ps services json at over files false None None argues.1.2 argues.0

pub the_arguments : (a : Asked) (w : Word) (ws : List Word) (c : Command) (k : ℕ) → IsRequest a ws → slice_get ws 1 ≡ Some w → Names w c k → Calls c a × (ps : List Part) × Say (drop k ws) ps × IsOnce ps × Argues a ps
the_arguments a w ws c k request at names =
    let found = told a w ws request at in
    let same = one_command w c (command_in a) k found.0 names found.1 in
    (subst (λ d. Calls d a) (sym same.0) (calls_itself a), found.2.0, subst (λ n. Say (drop n ws) found.2.0) (sym same.1) found.2.1, argues_once a found.2.0 found.2.2, found.2.2)

pub count_fits : (w : Word) (ws : List Word) (c : Command) (k : ℕ) → slice_get ws 1 ≡ Some w → Names w c k → k ≤ length ws
count_fits w ws command.List k at (inl (two, is)) = omega (arith, two, slice_get_within ws 1 w at)
count_fits w ws command.List k at (inr (one, name)) = omega (arith, one, slice_get_within ws 1 w at)
count_fits w ws command.Text k at (two, is) = omega (arith, two, slice_get_within ws 1 w at)
count_fits w ws command.Texts k at (two, is) = omega (arith, two, slice_get_within ws 1 w at)
count_fits w ws command.Check k at (two, is) = omega (arith, two, slice_get_within ws 1 w at)

-- no transfer has this number
pub no_number : (items : List (Bor Word)) (d : Bor Word) (ps : List Part) (a : Asked) → plains ps ≡ map (λ (w : Bor Word). w.now) items → Calls command.Text a → Fits a ps → ((n : ℕ) → IsTransfer (get_or items 0 d).now n → ⊥) → ⊥
no_number [] d ps (Written number end services file) are calls argues none = (let bad : [] ≡ argues.0 ∷ end_word end ∷ file ∷ [] = sym are ∙ argues.2.4 in cc)
no_number (x ∷ items) d ps (Written number end services file) are calls argues none =
    let same : argues.0 ≡ x.now = ap (λ l. get_or l 0 []) (sym argues.2.4 ∙ are) in
    none number (subst (λ t. IsTransfer t number) same argues.1)
no_number items d ps _ are calls argues none = calls

-- ---- a match

pub first_word : (ws : List Word) → (length ws == 0) ≡ false → (program : Word) × (ws ≡ program ∷ drop 1 ws)
first_word [] some = cc
first_word (program ∷ ws) some = (program, refl)

pub compares_once : (a : MatchAsked) (ps : List Part) → Compares a ps → IsOnce ps
compares_once (Matched client server transfer server_transfer services over counts json) ps compares =
    once ps services json None over (client ∷ server ∷ []) counts transfer server_transfer compares.1 compares.2

pub match_arguments : (a : MatchAsked) (ws : List Word) → IsMatchRequest a ws → (ps : List Part) × Say (drop 1 ws) ps × IsOnce ps × Compares a ps
match_arguments a ws (program, arguments, are, ps, say, compares) =
    (ps, subst (λ l. Say l ps) (sym (ap (drop 1) are)) say, compares_once a ps compares, compares)

-- how often a flag is said
abbrev times : Bool → ℕ
times flag = if flag then 1 else 0

same_flag : (a b : Bool) → times a ≡ times b → a ≡ b
same_flag true true e = refl
same_flag true false e = absurd (omega (arith, e))
same_flag false true e = absurd (omega (arith, e))
same_flag false false e = refl

same_said : {A : Type 0} (a b : Option A) → option_to_list a ≡ option_to_list b → a ≡ b
same_said None None e = refl
same_said None (Some y) e = cc
same_said (Some x) None e = cc
same_said (Some x) (Some y) e = cc

-- what the parts have is one match
pub same_match : (a : MatchAsked) (ps : List Part) (client server : Word) (transfer server_transfer : Option ℕ) (ports : List ℕ) (over : Option Rollover) (counts json : Bool) (at : Option Point) (words : List Word)
    → Have ps ports json at over words → Choose ps counts transfer server_transfer → words ≡ client ∷ server ∷ [] → Compares a ps → Matched client server transfer server_transfer ports over counts json ≡ a
same_match (Matched client' server' transfer' server_transfer' ports' over' counts' json') ps client server transfer server_transfer ports over counts json at words h chosen are compares =
    let its = compares.1 in
    let chosen_too = compares.2 in
    let files : client ∷ server ∷ [] ≡ client' ∷ server' ∷ [] = sym are ∙ sym h.4 ∙ its.4 in
    let a : client ≡ client' = cc in
    let b : server ≡ server' = cc in
    let c : transfer ≡ transfer' = same_said transfer transfer' (sym chosen.1 ∙ chosen_too.1) in
    let d : server_transfer ≡ server_transfer' = same_said server_transfer server_transfer' (sym chosen.2 ∙ chosen_too.2) in
    let e : ports ≡ ports' = sym h.0 ∙ its.0 in
    let f : over ≡ over' = same_said over over' (sym h.3 ∙ its.3) in
    let g : counts ≡ counts' = same_flag counts counts' (sym chosen.0 ∙ chosen_too.0) in
    let i : json ≡ json' = same_flag json json' (sym h.1 ∙ its.1) in
    cc

pub two_items : (items : List (Bor Word)) (d : Bor Word) → length items ≡ 2 → map (λ w. w.now) items ≡ (get_or items 0 d).now ∷ (get_or items 1 d).now ∷ []
two_items [] d two = absurd (omega (arith, two))
two_items (x ∷ []) d two = absurd (omega (arith, two))
two_items (x ∷ y ∷ []) d two = refl
two_items (x ∷ y ∷ z ∷ items) d two = absurd (omega (arith, two))
