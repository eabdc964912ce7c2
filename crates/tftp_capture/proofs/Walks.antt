-- Lines one after another: what may come next, and that lines say one thing only.
use Rattle.std.proofs.Common.{◌≡◌, ℕ, ◌+◌, ◌≤◌, ◌⊎◌, inl, inr, Bool, true, false, cond, true≢false, List, [], ◌∷◌, ◌++◌, length, get_or, codes, decimal, Ok, Err, refl, sym, ap, ◌∙◌, subst, arith, lit≤, append_assoc, append-nil, length-append, None}
use Rattle.std.specs.List.{AllZip}
use Rattle.std.proofs.lemmas.Fmt.{decimal_injective}
use Rattle.hex.specs.Hex.{decode_of}
use Rattle.hex.specs.declared.error.FromHexError.TheVariants.{OddLength}
use Rattle.hex.proofs.HexLemmas.{decode_of-odd, decode_of-same}
use Rattle.tftp_packet.specs.{Dir, In, Out}
use Rattle.tftp_packet.specs.{End, Client, Server}
use Rattle.tftp_capture.specs.{Version, One, Two, Due, IsPort, Numbered, SaysDatagram, SaysDatagrams, Says, SpellsPayload, SpellsPort, dir_word, end_line, head_line, longest, pieces, said, says_nothing, service_line, total_line}
use Rattle.tftp_capture.specs.CaptureText.{Datagram, Header}
use Rattle.tftp_capture.specs.CaptureText.Due.{Head, EndLine, ServiceLine, Body, Nothing}
use Rattle.tftp_capture.proofs.Pieces.{dir_not_total, fields_same, fields_word}
use Rattle.tftp_capture.proofs.Texts.{IsSkippable}

-- ---- one line says one thing

dir_same : (a b : Dir) → dir_word a ≡ dir_word b → a ≡ b
dir_same In In e = refl
dir_same In Out e = absurd (omega (arith, ap length e))
dir_same Out In e = absurd (omega (arith, ap length e))
dir_same Out Out e = refl

end_same : (a b : End) → end_line a ≡ end_line b → a ≡ b
end_same Client Client e = refl
end_same Client Server e = absurd (omega (arith, ap (λ l. get_or l 4 0) e))
end_same Server Client e = absurd (omega (arith, ap (λ l. get_or l 4 0) e))
end_same Server Server e = refl

port_same : (bytes : List ℕ) (m n : ℕ) → SpellsPort bytes m → SpellsPort bytes n → m ≡ n
port_same bytes m n p q = decimal_injective m n (omega (arith, p.0.1)) (omega (arith, q.0.1)) (sym p.1 ∙ q.1)

service_same : (m n : ℕ) → IsPort m → IsPort n → service_line m ≡ service_line n → m ≡ n
service_same m n p q e = let same : decimal m ≡ decimal n = cc in decimal_injective m n (omega (arith, p.1)) (omega (arith, q.1)) same

dash_is_odd : (payload : List ℕ) → decode_of (codes "-") ≡ Ok payload → ⊥
dash_is_odd payload e = let odd : decode_of (codes "-") ≡ Err OddLength = decode_of-odd (codes "-") refl in let both : Ok payload ≡ Err OddLength = sym e ∙ odd in cc

pub payload_same : (bytes p q : List ℕ) → SpellsPayload bytes p → SpellsPayload bytes q → p ≡ q
payload_same bytes p q (inl a) (inl b) = a.1 ∙ sym b.1
payload_same bytes p q (inl a) (inr b) = absurd (dash_is_odd q (ap decode_of (sym a.0) ∙ b.1))
payload_same bytes p q (inr a) (inl b) = absurd (dash_is_odd p (ap decode_of (sym b.0) ∙ a.1))
payload_same bytes p q (inr a) (inr b) = decode_of-same bytes p q a.1 b.1

datagram_is : (a b : Datagram) → a.dir ≡ b.dir → a.local ≡ b.local → a.host ≡ b.host → a.remote ≡ b.remote → a.payload ≡ b.payload → a ≡ b
datagram_is a b p q h r s =
    let one : a ≡ record { dir = b.dir; local = a.local; host = a.host; remote = a.remote; payload = a.payload } = ap (λ x. record { dir = x; local = a.local; host = a.host; remote = a.remote; payload = a.payload }) p in
    let two : a ≡ record { dir = b.dir; local = b.local; host = a.host; remote = a.remote; payload = a.payload } = one ∙ ap (λ x. record { dir = b.dir; local = x; host = a.host; remote = a.remote; payload = a.payload }) q in
    let three : a ≡ record { dir = b.dir; local = b.local; host = b.host; remote = a.remote; payload = a.payload } = two ∙ ap (λ x. record { dir = b.dir; local = b.local; host = x; remote = a.remote; payload = a.payload }) h in
    let four : a ≡ record { dir = b.dir; local = b.local; host = b.host; remote = b.remote; payload = a.payload } = three ∙ ap (λ x. record { dir = b.dir; local = b.local; host = b.host; remote = x; payload = a.payload }) r in
    four ∙ ap (λ x. record { dir = b.dir; local = b.local; host = b.host; remote = b.remote; payload = x }) s

pub datagram_same : (version : Version) (line : List ℕ) (a b : Datagram) → SaysDatagram version line a → SaysDatagram version line b → a ≡ b
datagram_same version line a b p q =
    let (dir, local, host, remote, digits) = fields_same version (pieces line) (dir_word a.dir) p.local a.host p.remote p.digits (dir_word b.dir) q.local b.host q.remote q.digits p.cut q.cut in
    datagram_is a b (dir_same a.dir b.dir dir)
    (port_same q.local a.local b.local (subst (λ l. SpellsPort l a.local) local p.local_port) q.local_port)
    host
    (port_same q.remote a.remote b.remote (subst (λ l. SpellsPort l a.remote) remote p.remote_port) q.remote_port)
    (payload_same q.digits a.payload b.payload (subst (λ l. SpellsPayload l a.payload) digits p.payload) q.payload)

pub total_is_no_datagram : (version : Version) (count : ℕ) (d : Datagram) → SaysDatagram version (total_line count) d → ⊥
total_is_no_datagram version count d p =
    dir_not_total d.dir (sym (fields_word version (codes "total") (pieces (decimal count)) (dir_word d.dir) p.local d.host p.remote p.digits p.cut))

head_same : (a b : Version) → head_line a ≡ head_line b → a ≡ b
head_same One One e = refl
head_same One Two e = absurd (omega (arith, ap (λ l. get_or l 13 0) e))
head_same Two One e = absurd (omega (arith, ap (λ l. get_or l 13 0) e))
head_same Two Two e = refl

-- ---- steps

abbrev pub Step : Due → ℕ → List Numbered → List ℕ → Due → List Numbered → Type 0
Step Head n ds line due after = (version : Version) × (line ≡ head_line version) × (due ≡ EndLine version) × (after ≡ ds)
Step (EndLine version) n ds line due after =
    ((says_nothing line ≡ true) × (due ≡ EndLine version) × (after ≡ ds)) ⊎ ((named : End) × (line ≡ end_line named) × (due ≡ ServiceLine version named) × (after ≡ ds))
Step (ServiceLine version named) n ds line due after =
    ((says_nothing line ≡ true) × (due ≡ ServiceLine version named) × (after ≡ ds)) ⊎ ((port : ℕ) × IsPort port × (line ≡ service_line port) × (due ≡ Body version (record { named = named; service = port; rollover = None })) × (after ≡ ds))
Step (Body version header) n ds line due after =
    ((says_nothing line ≡ true) × (due ≡ Body version header) × (after ≡ ds))
    ⊎ (((d : Datagram) × (says_nothing line ≡ false) × SaysDatagram version line d × (due ≡ Body version header) × (after ≡ ds ++ (n, d) ∷ []))
    ⊎ ((line ≡ total_line (length ds)) × (due ≡ Nothing version header) × (after ≡ ds)))
Step (Nothing version header) n ds line due after = ⊥

abbrev pub Walk : Due → ℕ → List Numbered → List (List ℕ) → Due → List Numbered → Type 0
Walk due n ds [] due' after = (due' ≡ due) × (after ≡ ds)
Walk due n ds (line ∷ lines) due' after = (mid : Due) × (ds' : List Numbered) × Step due n ds line mid ds' × Walk mid (n + 1) ds' lines due' after

clash : {A : Type 0} → (line other : List ℕ) → says_nothing line ≡ true → line ≡ other → says_nothing other ≡ false → A
clash line other p e q = absurd (true≢false (sym p ∙ ap says_nothing e ∙ q))

step_same : (due : Due) (n : ℕ) (ds : List Numbered) (line : List ℕ) (m1 m2 : Due) (a1 a2 : List Numbered) → Step due n ds line m1 a1 → Step due n ds line m2 a2 → (m1 ≡ m2) × (a1 ≡ a2)
step_same Head n ds line m1 m2 a1 a2 p q = (p.2 ∙ ap EndLine (head_same p.0 q.0 (sym p.1 ∙ q.1)) ∙ sym q.2, p.3 ∙ sym q.3)
step_same (EndLine version) n ds line m1 m2 a1 a2 (inl p) (inl q) = (p.1 ∙ sym q.1, p.2 ∙ sym q.2)
step_same (EndLine version) n ds line m1 m2 a1 a2 (inl p) (inr q) = clash line (end_line q.0) p.0 q.1 refl
step_same (EndLine version) n ds line m1 m2 a1 a2 (inr p) (inl q) = clash line (end_line p.0) q.0 p.1 refl
step_same (EndLine version) n ds line m1 m2 a1 a2 (inr p) (inr q) = (p.2 ∙ ap (ServiceLine version) (end_same p.0 q.0 (sym p.1 ∙ q.1)) ∙ sym q.2, p.3 ∙ sym q.3)
step_same (ServiceLine version named) n ds line m1 m2 a1 a2 (inl p) (inl q) = (p.1 ∙ sym q.1, p.2 ∙ sym q.2)
step_same (ServiceLine version named) n ds line m1 m2 a1 a2 (inl p) (inr q) = clash line (service_line q.0) p.0 q.2 refl
step_same (ServiceLine version named) n ds line m1 m2 a1 a2 (inr p) (inl q) = clash line (service_line p.0) q.0 p.2 refl
step_same (ServiceLine version named) n ds line m1 m2 a1 a2 (inr p) (inr q) =
    (p.3 ∙ ap (λ s. Body version (record { named = named; service = s; rollover = None })) (service_same p.0 q.0 p.1 q.1 (sym p.2 ∙ q.2)) ∙ sym q.3, p.4 ∙ sym q.4)
step_same (Body version header) n ds line m1 m2 a1 a2 (inl p) (inl q) = (p.1 ∙ sym q.1, p.2 ∙ sym q.2)
step_same (Body version header) n ds line m1 m2 a1 a2 (inl p) (inr (inl q)) = absurd (true≢false (sym p.0 ∙ q.1))
step_same (Body version header) n ds line m1 m2 a1 a2 (inl p) (inr (inr q)) = clash line (total_line (length ds)) p.0 q.0 refl
step_same (Body version header) n ds line m1 m2 a1 a2 (inr (inl p)) (inl q) = absurd (true≢false (sym q.0 ∙ p.1))
step_same (Body version header) n ds line m1 m2 a1 a2 (inr (inl p)) (inr (inl q)) = (p.3 ∙ sym q.3, p.4 ∙ ap (λ d. ds ++ (n, d) ∷ []) (datagram_same version line p.0 q.0 p.2 q.2) ∙ sym q.4)
step_same (Body version header) n ds line m1 m2 a1 a2 (inr (inl p)) (inr (inr q)) = absurd (total_is_no_datagram version (length ds) p.0 (subst (λ l. SaysDatagram version l p.0) q.0 p.2))
step_same (Body version header) n ds line m1 m2 a1 a2 (inr (inr p)) (inl q) = clash line (total_line (length ds)) q.0 p.0 refl
step_same (Body version header) n ds line m1 m2 a1 a2 (inr (inr p)) (inr (inl q)) = absurd (total_is_no_datagram version (length ds) q.0 (subst (λ l. SaysDatagram version l q.0) p.0 q.2))
step_same (Body version header) n ds line m1 m2 a1 a2 (inr (inr p)) (inr (inr q)) = (p.1 ∙ sym q.1, p.2 ∙ sym q.2)
step_same (Nothing version header) n ds line m1 m2 a1 a2 p q = absurd p

pub walk_same : (due : Due) (n : ℕ) (ds : List Numbered) (lines : List (List ℕ)) (d1 d2 : Due) (a1 a2 : List Numbered) → Walk due n ds lines d1 a1 → Walk due n ds lines d2 a2 → (d1 ≡ d2) × (a1 ≡ a2)
walk_same due n ds [] d1 d2 a1 a2 p q = (p.0 ∙ sym q.0, p.1 ∙ sym q.1)
walk_same due n ds (l ∷ ls) d1 d2 a1 a2 p q =
    let same = step_same due n ds l p.0 q.0 p.1 q.1 p.2 q.2 in
    walk_same q.0 (n + 1) q.1 ls d1 d2 a1 a2 (subst (λ x. Walk q.0 (n + 1) x ls d1 a1) same.1 (subst (λ x. Walk x (n + 1) p.1 ls d1 a1) same.0 p.3)) q.3

pub walk_split : (due : Due) (n : ℕ) (ds : List Numbered) (xs ys : List (List ℕ)) (due' : Due) (after : List Numbered) → Walk due n ds (xs ++ ys) due' after
    → (mid : Due) × (k : ℕ) × (ds' : List Numbered) × Walk due n ds xs mid ds' × Walk mid k ds' ys due' after
walk_split due n ds [] ys due' after p = (due, n, ds, (refl, refl), p)
walk_split due n ds (x ∷ xs) ys due' after p =
    let rest = walk_split p.0 (n + 1) p.1 xs ys due' after p.3 in
    (rest.0, rest.1, rest.2, (p.0, p.1, p.2, rest.3), rest.4)

pub walk_join : (due : Due) (n : ℕ) (ds : List Numbered) (xs ys : List (List ℕ)) (mid : Due) (ds' : List Numbered) (due' : Due) (after : List Numbered) → Walk due n ds xs mid ds'
    → ((k : ℕ) → Walk mid k ds' ys due' after) → Walk due n ds (xs ++ ys) due' after
walk_join due n ds [] ys mid ds' due' after p q = subst (λ x. Walk x n ds ys due' after) p.0 (subst (λ x. Walk mid n x ys due' after) p.1 (q n))
walk_join due n ds (x ∷ xs) ys mid ds' due' after p q = (p.0, p.1, p.2, walk_join p.0 (n + 1) p.1 xs ys mid ds' due' after p.3 q)

-- ---- from what lines say

step_skip : (due : Due) (n : ℕ) (ds : List Numbered) (line : List ℕ) → IsSkippable due → says_nothing line ≡ true → Step due n ds line due ds
step_skip Head n ds line s h = absurd s
step_skip (EndLine version) n ds line s h = inl (h, refl, refl)
step_skip (ServiceLine version named) n ds line s h = inl (h, refl, refl)
step_skip (Body version header) n ds line s h = inl (h, refl, refl)
step_skip (Nothing version header) n ds line s h = absurd s

walk_skip : (due : Due) (n k : ℕ) (ds : List Numbered) (lines : List (List ℕ)) → IsSkippable due → said k lines ≡ [] → Walk due n ds lines due ds
walk_skip due n k ds [] s e = (refl, refl)
walk_skip due n k ds (l ∷ ls) s e =
    let go : (b : Bool) → b ≡ says_nothing l → cond b (said (k + 1) ls) ((k, l) ∷ said (k + 1) ls) ≡ [] → Walk due n ds (l ∷ ls) due ds =
    λ b is. elim b as (λ v. v ≡ says_nothing l → cond v (said (k + 1) ls) ((k, l) ∷ said (k + 1) ls) ≡ [] → Walk due n ds (l ∷ ls) due ds) [
      | true ↦ λ t f. (due, ds, step_skip due n ds l s (sym t), walk_skip due (n + 1) (k + 1) ds ls s f)
      | false ↦ λ t f. absurd (omega (arith, ap length f))
    ] is in
    go (says_nothing l) refl e

abbrev pub head_or : {A : Type 0} → A → List A → A
head_or d [] = d
head_or d (x ∷ xs) = x

abbrev pub tail_of : {A : Type 0} → List A → List A
tail_of [] = []
tail_of (x ∷ xs) = xs

-- the first line that says something, and the lines after it
pub record FirstSaid (n : ℕ) (lines : List (List ℕ)) (k : ℕ) (line : List ℕ) (others : List (ℕ × List ℕ)) : Type 0 where
  pub rest : List (List ℕ)
  pub said_rest : said (k + 1) rest ≡ others
  pub says : says_nothing line ≡ false
  pub walk : (due : Due) (ds : List Numbered) (mid : Due) (ds' : List Numbered) (due' : Due) (after : List Numbered) → IsSkippable due → Step due k ds line mid ds' → Walk mid (k + 1) ds' rest due' after → Walk due n ds lines due' after

first_said : (n : ℕ) (lines : List (List ℕ)) (k : ℕ) (line : List ℕ) (others : List (ℕ × List ℕ)) → said n lines ≡ (k, line) ∷ others → FirstSaid n lines k line others
first_said n [] k line others e = absurd (omega (arith, ap length e))
first_said n (l ∷ ls) k line others e =
    let go : (b : Bool) → b ≡ says_nothing l → cond b (said (n + 1) ls) ((n, l) ∷ said (n + 1) ls) ≡ (k, line) ∷ others → FirstSaid n (l ∷ ls) k line others =
    λ b is. elim b as (λ v. v ≡ says_nothing l → cond v (said (n + 1) ls) ((n, l) ∷ said (n + 1) ls) ≡ (k, line) ∷ others → FirstSaid n (l ∷ ls) k line others) [
      | true ↦ λ t f. let more = first_said (n + 1) ls k line others f in record {
        rest = more.rest;
        said_rest = more.said_rest;
        says = more.says;
        walk = λ due ds mid ds' due' after s step w. (due, ds, step_skip due n ds l s (sym t), more.walk due ds mid ds' due' after s step w);
      }
      | false ↦ λ t f.
          let number : n ≡ k = ap (λ (x : ℕ × List ℕ). x.0) (ap (head_or (n, l)) f) in
          let same : l ≡ line = ap (λ (x : ℕ × List ℕ). x.1) (ap (head_or (n, l)) f) in
          let tail : said (n + 1) ls ≡ others = ap (tail_of {A = ℕ × List ℕ}) f in
          record {
            rest = ls;
            said_rest = ap (λ m. said (m + 1) ls) (sym number) ∙ tail;
            says = ap says_nothing (sym same) ∙ sym t;
            walk = λ due ds mid ds' due' after s step w. (mid, ds', subst (λ x. Step due x ds l mid ds') (sym number) (subst (λ x. Step due k ds x mid ds') (sym same) step), subst (λ x. Walk mid (x + 1) ds' ls due' after) (sym number) w);
          }
    ] is in
    go (says_nothing l) refl e

walk_bodies : (version : Version) (header : Header) (n : ℕ) (lines : List (List ℕ)) (bodies : List (ℕ × List ℕ)) (ds more : List Numbered) → said n lines ≡ bodies → AllZip (λ line d. (line.0 ≡ d.0) × SaysDatagram version line.1 d.1) bodies more
    → Walk (Body version header) n ds lines (Body version header) (ds ++ more)
walk_bodies version header n lines [] ds [] e z = rw append-nil (walk_skip (Body version header) n n ds lines tt e)
walk_bodies version header n lines [] ds (d ∷ more) e z = absurd z
walk_bodies version header n lines (b ∷ bs) ds [] e z = absurd z
walk_bodies version header n lines (b ∷ bs) ds (d ∷ more) e z =
    let first = first_said n lines b.0 b.1 bs e in
    let rest = walk_bodies version header (b.0 + 1) first.rest bs (ds ++ d ∷ []) more first.said_rest z.1 in
    let number : (b.0, d.1) ≡ d = ap (λ x. (x, d.1)) z.0.0 in
    first.walk (Body version header) ds (Body version header) (ds ++ d ∷ []) (Body version header) (ds ++ d ∷ more) tt
    (inr (inl (d.1, first.says, z.0.1, refl, ap (λ x. ds ++ x ∷ []) (sym number))))
    (rw (append_assoc ds (d ∷ []) more) at rest)

body_walk : (version : Version) (lines : List (List ℕ)) (header : Header) (ds : List Numbered) → SaysDatagrams version lines header ds → Walk Head 1 [] lines (Body version header) ds
body_walk version lines header ds p =
    let first = first_said 2 p.after_head p.at_end (end_line header.named) ((p.at_service, service_line header.service) ∷ p.bodies) p.are in
    let second = first_said (p.at_end + 1) first.rest p.at_service (service_line header.service) p.bodies first.said_rest in
    let bodies = walk_bodies version header (p.at_service + 1) second.rest p.bodies [] ds second.said_rest p.each in
    let after_service = second.walk (ServiceLine version header.named) [] (Body version header) [] (Body version header) ds tt
    (inr (header.service, p.port, refl, ap (λ r. Body version (record { named = header.named; service = header.service; rollover = r })) p.plain, refl)) bodies in
    let after_end = first.walk (EndLine version) [] (ServiceLine version header.named) [] (Body version header) ds tt (inr (header.named, refl, refl, refl)) after_service in
    subst (λ l. Walk Head 1 [] l (Body version header) ds) (sym p.begins) (EndLine version, [], (version, refl, refl, refl), after_end)

pub says_walk : (lines : List (List ℕ)) (due : Due) (ds : List Numbered) → Says lines due ds → Walk Head 1 [] lines due ds
says_walk lines Head ds p = subst (λ l. Walk Head 1 [] l Head ds) (sym p.0) (refl, p.1)
says_walk lines (EndLine version) ds p =
    subst (λ l. Walk Head 1 [] l (EndLine version) ds) (sym p.1) (EndLine version, [], (version, refl, refl, refl), subst (λ x. Walk (EndLine version) 2 [] p.0 (EndLine version) x) (sym p.3) (walk_skip (EndLine version) 2 2 [] p.0 tt p.2))
says_walk lines (ServiceLine version named) ds p =
    let first = first_said 2 p.0 p.1 (end_line named) [] p.3 in
    let after = first.walk (EndLine version) [] (ServiceLine version named) [] (ServiceLine version named) [] tt (inr (named, refl, refl, refl)) (walk_skip (ServiceLine version named) (p.1 + 1) (p.1 + 1) [] first.rest tt first.said_rest) in
    subst (λ l. Walk Head 1 [] l (ServiceLine version named) ds) (sym p.2) (EndLine version, [], (version, refl, refl, refl), subst (λ x. Walk (EndLine version) 2 [] p.0 (ServiceLine version named) x) (sym p.4) after)
says_walk lines (Body version header) ds p = body_walk version lines header ds p
says_walk lines (Nothing version header) ds p =
    subst (λ l. Walk Head 1 [] l (Nothing version header) ds) (sym p.1)
    (walk_join Head 1 [] p.0 (total_line (length ds) ∷ []) (Body version header) ds (Nothing version header) ds (body_walk version p.0 header ds p.2) (λ k. (Nothing version header, ds, inr (inr (refl, refl, refl)), (refl, refl))))

-- lines say one thing
pub says_same : (lines : List (List ℕ)) (d1 d2 : Due) (a1 a2 : List Numbered) → Says lines d1 a1 → Says lines d2 a2 → (d1 ≡ d2) × (a1 ≡ a2)
says_same lines d1 d2 a1 a2 p q = walk_same Head 1 [] lines d1 d2 a1 a2 (says_walk lines d1 a1 p) (says_walk lines d2 a2 q)

-- what may follow some lines, and what follows that
goes_on : (lines more : List (List ℕ)) (line : List ℕ) (d1 d2 : Due) (a1 a2 : List Numbered) → Says lines d1 a1 → Says (lines ++ line ∷ more) d2 a2
    → (k : ℕ) × (mid : Due) × (after : List Numbered) × Step d1 k a1 line mid after × Walk mid (k + 1) after more d2 a2
goes_on lines more line d1 d2 a1 a2 p q =
    let parts = walk_split Head 1 [] lines (line ∷ more) d2 a2 (says_walk (lines ++ line ∷ more) d2 a2 q) in
    let same = walk_same Head 1 [] lines parts.0 d1 parts.2 a1 parts.3 (says_walk lines d1 a1 p) in
    (parts.1, parts.4.0, parts.4.1, subst (λ x. Step d1 parts.1 x line parts.4.0 parts.4.1) same.1 (subst (λ x. Step x parts.1 parts.2 line parts.4.0 parts.4.1) same.0 parts.4.2), parts.4.3)

pub may_follow : (lines more : List (List ℕ)) (line : List ℕ) (d1 d2 : Due) (a1 a2 : List Numbered) → Says lines d1 a1 → Says (lines ++ line ∷ more) d2 a2
    → (k : ℕ) × (mid : Due) × (after : List Numbered) × Step d1 k a1 line mid after
may_follow lines more line d1 d2 a1 a2 p q = let on = goes_on lines more line d1 d2 a1 a2 p q in (on.0, on.1, on.2, on.3)

-- ---- how long a line may be

abbrev IsAfterHead : Due → Type 0
IsAfterHead Head = ⊥
IsAfterHead (EndLine version) = Unit {0}
IsAfterHead (ServiceLine version named) = Unit {0}
IsAfterHead (Body version header) = Unit {0}
IsAfterHead (Nothing version header) = Unit {0}

alike : (due mid : Due) → mid ≡ due → IsAfterHead due → (longest mid ≡ longest due) × IsAfterHead mid
alike due mid e after = (ap longest e, subst IsAfterHead (sym e) after)

-- the version stays
step_longest : (due : Due) (k : ℕ) (ds : List Numbered) (line : List ℕ) (mid : Due) (after : List Numbered) → IsAfterHead due → Step due k ds line mid after → (longest mid ≡ longest due) × IsAfterHead mid
step_longest Head k ds line mid after h p = absurd h
step_longest (EndLine version) k ds line mid after h (inl p) = alike (EndLine version) mid p.1 tt
step_longest (EndLine version) k ds line mid after h (inr p) = alike (ServiceLine version p.0) mid p.2 tt
step_longest (ServiceLine version named) k ds line mid after h (inl p) = alike (ServiceLine version named) mid p.1 tt
step_longest (ServiceLine version named) k ds line mid after h (inr p) = alike (Body version (record { named = named; service = p.0; rollover = None })) mid p.3 tt
step_longest (Body version header) k ds line mid after h (inl p) = alike (Body version header) mid p.1 tt
step_longest (Body version header) k ds line mid after h (inr (inl p)) = alike (Body version header) mid p.3 tt
step_longest (Body version header) k ds line mid after h (inr (inr p)) = alike (Nothing version header) mid p.1 tt
step_longest (Nothing version header) k ds line mid after h p = absurd p

walk_longest : (due : Due) (n : ℕ) (ds : List Numbered) (lines : List (List ℕ)) (due' : Due) (after : List Numbered) → IsAfterHead due → Walk due n ds lines due' after → longest due' ≡ longest due
walk_longest due n ds [] due' after h p = ap longest p.0
walk_longest due n ds (l ∷ ls) due' after h p =
    let step = step_longest due n ds l p.0 p.1 h p.2 in
    walk_longest p.0 (n + 1) p.1 ls due' after step.1 p.3 ∙ step.0

short_head : (version : Version) → length (head_line version) ≤ 131070
short_head One = lit≤ tt
short_head Two = lit≤ tt

-- a line that may follow is no longer than what was due
fits_after : (due : Due) (k : ℕ) (ds : List Numbered) (line : List ℕ) (mid : Due) (after : List Numbered) (more : List (List ℕ)) (due' : Due) (after' : List Numbered) → Step due k ds line mid after → Walk mid (k + 1) after more due' after'
    → length line ≤ longest due' → length line ≤ longest due
fits_after Head k ds line mid after more due' after' step walk h = omega (arith, ap length step.1, short_head step.0)
fits_after (EndLine version) k ds line mid after more due' after' step walk h = let kept = step_longest (EndLine version) k ds line mid after tt step in omega (arith, h, kept.0, walk_longest mid (k + 1) after more due' after' kept.1 walk)
fits_after (ServiceLine version named) k ds line mid after more due' after' step walk h =
    let kept = step_longest (ServiceLine version named) k ds line mid after tt step in omega (arith, h, kept.0, walk_longest mid (k + 1) after more due' after' kept.1 walk)
fits_after (Body version header) k ds line mid after more due' after' step walk h = let kept = step_longest (Body version header) k ds line mid after tt step in omega (arith, h, kept.0, walk_longest mid (k + 1) after more due' after' kept.1 walk)
fits_after (Nothing version header) k ds line mid after more due' after' step walk h = absurd step

pub line_fits : (lines more : List (List ℕ)) (line : List ℕ) (d1 d2 : Due) (a1 a2 : List Numbered) → Says lines d1 a1 → Says (lines ++ line ∷ more) d2 a2 → length line ≤ longest d2 → length line ≤ longest d1
line_fits lines more line d1 d2 a1 a2 p q h =
    let on = goes_on lines more line d1 d2 a1 a2 p q in
    fits_after d1 on.0 a1 line on.1 on.2 more d2 a2 on.3 on.4 h

step_count : (due : Due) (k : ℕ) (ds : List Numbered) (line : List ℕ) (mid : Due) (after : List Numbered) → Step due k ds line mid after → length after ≤ length ds + 1
step_count Head k ds line mid after p = omega (arith, ap length p.3)
step_count (EndLine version) k ds line mid after (inl p) = omega (arith, ap length p.2)
step_count (EndLine version) k ds line mid after (inr p) = omega (arith, ap length p.3)
step_count (ServiceLine version named) k ds line mid after (inl p) = omega (arith, ap length p.2)
step_count (ServiceLine version named) k ds line mid after (inr p) = omega (arith, ap length p.4)
step_count (Body version header) k ds line mid after (inl p) = omega (arith, ap length p.2)
step_count (Body version header) k ds line mid after (inr (inl p)) = omega (arith, ap length p.4, length-append ds ((k, p.0) ∷ []))
step_count (Body version header) k ds line mid after (inr (inr p)) = omega (arith, ap length p.2)
step_count (Nothing version header) k ds line mid after p = absurd p

walk_count : (due : Due) (n : ℕ) (ds : List Numbered) (lines : List (List ℕ)) (due' : Due) (after : List Numbered) → Walk due n ds lines due' after → length after ≤ length ds + length lines
walk_count due n ds [] due' after p = omega (arith, ap length p.1)
walk_count due n ds (l ∷ ls) due' after p = omega (arith, step_count due n ds l p.0 p.1 p.2, walk_count p.0 (n + 1) p.1 ls due' after p.3)

pub says_count : (lines : List (List ℕ)) (due : Due) (ds : List Numbered) → Says lines due ds → length ds ≤ length lines
says_count lines due ds p = omega (arith, walk_count Head 1 [] lines due ds (says_walk lines due ds p))
