-- What is told in several lines.
use Rattle.std.proofs.Common.{◌≡◌, ◌++◌, [], ℕ, Bool, true, false, if◌then◌else◌, List, Option, Result, Ok, Err, OnOk, ap, ◌∙◌, subst, sym}
use Rattle.std.specs.Io.KnownBytes.{Appends}
use Rattle.std.proofs.KnownBytes.{Appends-nil, Appends-trans}
use Rattle.tftp_rows.specs.declared.remarks.Remarks.{Remarks}
use Rattle.tftp_match.specs.Untaken.{Shown, goes_on, pairs_text, side_text, untaken_text}
use Rattle.tftp_match.specs.declared.choice.Untaken.{Untaken}

-- the same program tells on
pub same_program : {E : Type 0} (a b c : Remarks E) → b ≡ record a { errors = b.errors } → c ≡ record b { errors = c.errors } → c ≡ record a { errors = c.errors }
same_program {E} a b c p q = q ∙ ap (λ (r : Remarks E). record r { errors = c.errors }) p

-- two lines, and no third one
pub two_told : (a b c : Option (List ℕ)) (x y : List ℕ) → Appends a b x → Appends b c y → Appends a c (x ++ y ++ [])
two_told a b c x y p q = Appends-trans a c c (x ++ y) [] (Appends-trans a b c x y p q) (Appends-nil c)

-- three lines
pub three_told : {E : Type 0} (r : Result (Unit {0}) E) (a b c d : Option (List ℕ)) (x y z : List ℕ) → Appends a b x → Appends b c y → OnOk r (Appends c d z) → OnOk r (Appends a d (x ++ y ++ z))
three_told (Ok u) a b c d x y z p q s = Appends-trans a c d (x ++ y) z (Appends-trans a b c x y p q) s
three_told (Err e) a b c d x y z p q s = tt

-- the pairs were told of, and each side
pub both_told : {E : Type 0} (r : Result (Unit {0}) E) (a b c d : Option (List ℕ)) (program p q : List ℕ) (client server : Shown) (own others : List ℕ) (why : Untaken) (on : Bool) → p ≡ program → q ≡ program → on ≡ true → on ≡ goes_on client.option own
    → Appends a b (pairs_text program client server why) → Appends b c (side_text p client server.file own) → OnOk r (Appends c d (side_text q server client.file others)) → OnOk r (Appends a d (untaken_text program client server own others why))
both_told r a b c d program p q client server own others why on same again goes is pairs one other =
    let both : List ℕ = pairs_text program client server why ++ side_text program client server.file own in
    let further : List ℕ = side_text program server client.file others in
    subst (λ (goes : Bool). OnOk r (Appends a d (both ++ (if goes then further else [])))) (sym (sym is ∙ goes))
    (three_told r a b c d (pairs_text program client server why) (side_text program client server.file own) further pairs (subst (λ name. Appends b c (side_text name client server.file own)) same one) (subst (λ name. OnOk r (Appends c d (side_text name server client.file others))) again other))

-- the pairs were told of, and the client's side alone
pub one_told : (a b c : Option (List ℕ)) (program p : List ℕ) (client server : Shown) (own others : List ℕ) (why : Untaken) (on : Bool) → p ≡ program → on ≡ false → on ≡ goes_on client.option own
    → Appends a b (pairs_text program client server why) → Appends b c (side_text p client server.file own) → Appends a c (untaken_text program client server own others why)
one_told a b c program p client server own others why on same stops is pairs one =
    let both : List ℕ = pairs_text program client server why ++ side_text program client server.file own in
    let further : List ℕ = side_text program server client.file others in
    subst (λ (goes : Bool). Appends a c (both ++ (if goes then further else []))) (sym (sym is ∙ stops))
    (two_told a b c (pairs_text program client server why) (side_text program client server.file own) pairs (subst (λ name. Appends b c (side_text name client server.file own)) same one))
