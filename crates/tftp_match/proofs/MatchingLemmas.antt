-- What is found of two captures, handed on.
use Rattle.std.proofs.Common.{◌≡◌, ◌==◌, inl, ◌∙◌, ℕ, Bool, true, false, not, List, Option, Some, None, IfErr, IfNone, IfOk, IfSome, Result, Ok, Err, ap, option_map, refl, subst, sym}
use Rattle.audit_recording.specs.declared.session.session.Session.{Session}
use Rattle.tftp_match.specs.Captures.Capture.{Recording, Text}
use Rattle.net_streams.specs.Streams.{Sink}
use Rattle.tftp_rows.specs.declared.remarks.Remarks.{Remarks}
use Rattle.tftp_match.specs.Matches.{MatchesFiles, SaysMatching}
use Rattle.tftp_match.specs.Matching.{IsSaidOfBoth, IsSaidOfFiles, IsTakenAs, IsToldOfFiles}
use Rattle.tftp_match.specs.declared.choice.Judged.{Judged}
use Rattle.tftp_match.specs.declared.faults.MatchFault.{MatchFault}
use Rattle.tftp_match.specs.declared.judging.Matching.{Matching}
use Rattle.tftp_match.specs.declared.unread.UnreadFault.{UnreadFault}
use Rattle.tftp_words.specs.declared.match_request.MatchRequest.{MatchRequest}

pub on_some : {A E : Type 0} (r : Result (Option A) E) (P Q : A → Type 0) → ((a : A) → P a → Q a) → IfOk r (λ f. IfSome f P) → IfOk r (λ f. IfSome f Q)
on_some (Ok (Some a)) P Q to p = to a p
on_some (Ok None) P Q to p = tt
on_some (Err e) P Q to p = p

pub on_none : {A E : Type 0} (r : Result (Option A) E) (P Q : Type 0) → (P → Q) → IfOk r (λ f. IfNone f P) → IfOk r (λ f. IfNone f Q)
on_none (Ok (Some a)) P Q to p = p
on_none (Ok None) P Q to p = to p
on_none (Err e) P Q to p = p

module _ (S : Type 0) (r : MatchRequest) where
  pub of_server : (held : Option (List ℕ)) (session : Session) (found : Option Judged) → IfSome found (λ j. IsTakenAs r (Text held) (Recording session) j × S)
      → IfSome (option_map (λ j. record { said = j.said; client = None; server = Some j.server }) found) (λ m. IsSaidOfBoth r (Text held) (Recording session) m × S)
  of_server held session None p = tt
  of_server held session (Some j) p = ((j, p.0, refl, refl, refl), p.1)

  pub of_client : (session : Session) (held : Option (List ℕ)) (found : Option Judged) → IfSome found (λ j. IsTakenAs r (Recording session) (Text held) j × S)
      → IfSome (option_map (λ j. record { said = j.said; client = Some j.client; server = None }) found) (λ m. IsSaidOfBoth r (Recording session) (Text held) m × S)
  of_client session held None p = tt
  of_client session held (Some j) p = ((j, p.0, refl, refl, refl), p.1)

  pub of_both : (client server : Session) (found : Option Judged) → IfSome found (λ j. IsTakenAs r (Recording client) (Recording server) j × S)
      → IfSome (option_map (λ j. record { said = j.said; client = Some j.client; server = Some j.server }) found) (λ m. IsSaidOfBoth r (Recording client) (Recording server) m × S)
  of_both client server None p = tt
  of_both client server (Some j) p = ((j, p.0, refl, refl, refl), p.1)

pub none_of : {A B : Type 0} (to : A → B) (found : Option A) (P : Type 0) → IfNone found P → IfNone (option_map to found) P
none_of to None P p = p
none_of to (Some a) P p = p

-- ---- what is there

pub some_at : {A : Type 0} (found : Option A) (a : A) (P : A → Type 0) → found ≡ Some a → IfSome found P → P a
some_at found a P is p = subst (λ f. IfSome f P) is p

pub none_at : {A : Type 0} (found : Option A) (P : Type 0) → found ≡ None → IfNone found P → P
none_at found P is p = subst (λ f. IfNone f P) is p

abbrev found_or : {A E : Type 0} → A → Result (Option A) E → A
found_or d (Ok (Some a)) = a
found_or d (Ok None) = d
found_or d (Err e) = d

-- what was kept is what was there, and nothing was told
pub kept_is : {A F E : Type 0} (outcome : Result A F) (result : Result (Option A) E) (a : A) (P : A → Type 0) (Same : Type 0) (T : F → Type 0) → ((value : A) → outcome ≡ Ok value → (result ≡ Ok (Some value)) × Same) → IfErr outcome (λ f. IfOk result (λ found. (found ≡ None) × T f))
    → result ≡ Ok (Some a) → IfOk outcome P → P a × Same
kept_is (Ok v) result a P Same T some none is p =
    let kept = some v refl in
    (subst P (ap (found_or a) (sym kept.0 ∙ is)) p, kept.1)
kept_is (Err f) result a P Same T some none is p =
    let told = subst (λ r. IfOk r (λ found. (found ≡ None) × T f)) is none in
    let off : Some a ≡ None = told.0 in
    absurd (cc)

pub wanted : (n m : ℕ) → n ≡ m → (m == 1) ≡ false → not (n == 1) ≡ true
wanted n m is several = ap not (ap (λ k. k == 1) is ∙ several)

-- ---- of files that are named

module _ {E : Type 0} (errors : E → Option (List ℕ)) (r : MatchRequest) (a b : Remarks E) (client client_named server server_named after : Option (List ℕ)) where
  pub named_said : (m : Matching) → b ≡ a → client ≡ client_named → server ≡ server_named → IsSaidOfFiles r b.program.now client server (errors b.errors.0) after m → IsSaidOfFiles r a.program.now client_named server_named (errors a.errors.0) after m
  named_said m same one other said =
      subst (λ f. IsSaidOfFiles r a.program.now client_named f (errors a.errors.0) after m) other
      (subst (λ f. IsSaidOfFiles r a.program.now f server (errors a.errors.0) after m) one (subst (λ (k : Remarks E). IsSaidOfFiles r k.program.now client server (errors k.errors.0) after m) same said))

  pub named_told : (AreWords : UnreadFault → List ℕ → Type 0) → b ≡ a → client ≡ client_named → server ≡ server_named → IsToldOfFiles AreWords r b.program.now client server (errors b.errors.0) after → IsToldOfFiles AreWords r a.program.now client_named server_named (errors a.errors.0) after
  named_told AreWords same one other told =
      subst (λ f. IsToldOfFiles AreWords r a.program.now client_named f (errors a.errors.0) after) other
      (subst (λ f. IsToldOfFiles AreWords r a.program.now f server (errors a.errors.0) after) one (subst (λ (k : Remarks E). IsToldOfFiles AreWords r k.program.now client server (errors k.errors.0) after) same told))

pub says_named : {W E : Type 0} (contents : W → Option (List ℕ)) (errors : E → Option (List ℕ)) (AreWords : UnreadFault → List ℕ → Type 0) (opens : List ℕ → Bool) (holds : List ℕ → Option (List ℕ)) (r : MatchRequest) (old new : Sink W) (remarks told : Remarks E) (m : Matching) (res : Result ℕ MatchFault)
    → IsSaidOfFiles r remarks.program.now (holds r.client.now) (holds r.server.now) (errors remarks.errors.0) (errors told.errors.0) m → SaysMatching contents r m old new res → MatchesFiles contents errors AreWords opens holds r old new remarks told res
says_named contents errors AreWords opens holds r old new remarks told m (Ok status) said says = inl (m, said, says)
says_named contents errors AreWords opens holds r old new remarks told m (Err fault) said says = inl (m, said, says)
