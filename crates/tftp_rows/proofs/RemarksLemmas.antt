-- What is said on standard error.
use Rattle.std.proofs.Common.{◌≡◌, ◌++◌, [], ℕ, List, Option, Some, None, IfSome, IsErr, IsSome, Result, Ok, Err, true≢false, refl, sym, ap, subst, ◌∙◌}
use Rattle.std.specs.Io.KnownBytes.{Appends}
use Rattle.std.proofs.KnownBytes.{Appends-nil, Appends-trans}
use Rattle.net_streams.specs.Streams.{AppendsPrefix}
use Rattle.tftp_rows.specs.Faults.{Why}
use Rattle.tftp_rows.specs.Files.{IsSaidOf, Outcome, SaysOf}
use Rattle.tftp_rows.specs.Files.Outcome.{Faulty}
use Rattle.tftp_rows.specs.declared.remarks.Remarks.{Remarks}
use Rattle.tftp_rows.specs.Remarks.{Says, SaysPart, remark_text, remarks_text}

-- what a call that fails says
pub says_err : {A E : Type 0} (before after : Option (List ℕ)) (r : Result A E) (text : List ℕ) → IsErr r → SaysPart before after text → Says before after r text
says_err before after (Ok x) text is p = absurd (true≢false (sym is))
says_err before after (Err e) text is p = p

pub says_nothing : (stands : Option (List ℕ)) (text : List ℕ) → SaysPart stands stands text
says_nothing stands text = ([], text, refl, Appends-nil stands)

pub says_short : (before after : Option (List ℕ)) (bytes text : List ℕ) → bytes ≡ text → AppendsPrefix before after bytes → SaysPart before after text
says_short before after bytes text e w = (w.written, w.rest, sym e ∙ w.are, w.appended)

-- one text came, and then another
pub says_both : (a b c : Option (List ℕ)) (P Q R : List ℕ → Type 0) → ((x y : List ℕ) → P x → Q y → R (x ++ y)) → SaysOf a b P → SaysOf b c Q → SaysOf a c R
says_both a b c P Q R join p q = (p.0 ++ q.0, join p.0 q.0 p.1 q.1, Appends-trans a b c p.0 q.0 p.2 q.2)

-- some of what there was to tell came, and then the fault
pub fault_said : (a b c : Option (List ℕ)) (AreWords : Why → List ℕ → Type 0) (program name : List ℕ) (why : Why) (rest : List (List ℕ)) (o : Option (List ℕ)) → IsSome o
    → ((words : List ℕ) → o ≡ Some words → AreWords why words) → SaysPart a b (remarks_text program name rest)
    → IfSome o (λ words. Appends b c (remark_text program name words)) → SaysOf a c (IsSaidOf AreWords program name (Faulty why rest))
fault_said a b c AreWords program name why rest None is so p q = absurd (true≢false (sym is))
fault_said a b c AreWords program name why rest (Some words) is so p q =
    (p.0 ++ remark_text program name words, (p.0, p.1, words, so words refl, p.2, refl), Appends-trans a b c p.0 (remark_text program name words) p.3 q)

-- the same program tells on
pub same_program : {E : Type 0} (a b c : Remarks E) → b ≡ record a { errors = b.errors } → c ≡ record b { errors = c.errors } → c ≡ record a { errors = c.errors }
same_program {E} a b c p q = q ∙ ap (λ (r : Remarks E). record r { errors = c.errors }) p

pub says_by : (a b : Option (List ℕ)) (AreWords : Why → List ℕ → Type 0) (p q name : List ℕ) (o : Outcome) → p ≡ q → SaysOf a b (IsSaidOf AreWords p name o) → SaysOf a b (IsSaidOf AreWords q name o)
says_by a b AreWords p q name o e said = subst (λ p. SaysOf a b (IsSaidOf AreWords p name o)) e said

pub line_by : (a b : Option (List ℕ)) (p q name : List ℕ) (o : Option (List ℕ)) → p ≡ q → IfSome o (λ words. Appends a b (remark_text p name words)) → IfSome o (λ words. Appends a b (remark_text q name words))
line_by a b p q name o e line = subst (λ p. IfSome o (λ words. Appends a b (remark_text p name words))) e line
